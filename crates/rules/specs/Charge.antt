-- A charge (source 004, 5.4.18 to 5.4.20; document 02, Q-4): the currency, three letters or three dashes; the flags;
-- ten octets of cost, or five of units and five of their price. The three are linked: flags say which of them are
-- there, and what is not there is dashes.
-- Assumes nothing.
use Rattle.std.specs.Prelude.{ℕ, zero, suc, ◌/◌, ◌%◌, Bool, true, false, List, [], ◌∷◌}
use Rattle.rules.specs.Tests.{◌≤?◌, ◌=?◌, ◌and◌, ◌or◌, pick}
use Rattle.rules.specs.Contents.{digit, letter}

unfoldable pub dash : ℕ → Bool
dash x = x =? 0x2D

unfoldable pub comma : ℕ → Bool
comma x = x =? 0x2C

-- bit 4 of the flags: charging information is not available
unfoldable pub missing : ℕ → Bool
missing f = f / 8 % 2 =? 1

-- bit 5: units, with a price or without, and no cost
unfoldable pub units : ℕ → Bool
units f = f / 16 % 2 =? 1

-- ---- whole contents
-- k octets that pass a test
unfoldable pub run : (ℕ → Bool) → ℕ → List ℕ → Bool
run p zero [] = true
run p zero (x ∷ v) = false
run p (suc k) [] = false
run p (suc k) (x ∷ v) = p x and run p k v

-- k digits, one of which may be a comma instead
unfoldable pub amount : ℕ → List ℕ → Bool
amount zero [] = true
amount zero (x ∷ v) = false
amount (suc k) [] = false
amount (suc k) (x ∷ v) = pick (comma x) (run digit k v) (digit x and amount k v)

-- k digits, and then the rest
unfoldable pub after : ℕ → (List ℕ → Bool) → List ℕ → Bool
after zero p v = p v
after (suc k) p [] = false
after (suc k) p (x ∷ v) = digit x and after k p v

-- behind a currency and flags f. With letters: a cost, or units with their price. With dashes: nothing, or units
-- without a price
unfoldable pub costs : Bool → ℕ → List ℕ → Bool
costs lettered f v =
    pick lettered
    (pick (missing f) false (pick (units f) (after 5 (amount 5) v) (amount 10 v)))
    (pick (missing f) (run dash 10 v) (pick (units f) (after 5 (run dash 5) v) false))

unfoldable pub charge_fits : List ℕ → Bool
charge_fits [] = false
charge_fits (a ∷ []) = false
charge_fits (a ∷ b ∷ []) = false
charge_fits (a ∷ b ∷ c ∷ []) = false
charge_fits (a ∷ b ∷ c ∷ f ∷ v) =
    f ≤? 255
    and pick (dash a) (dash b and (dash c and costs false f v))
    (letter a and (letter b and (letter c and costs true f v)))

-- ---- octet by octet, where d says whether x is a digit, and l whether it is a letter
-- What is remembered: of the currency 0 letters, 1 dashes; from the flags on 0 a cost, 1 a cost behind its comma, 2
-- units and a price, 3 a price behind its comma, 4 units alone, 5 nothing.
-- octet k, from 0, of the ten
unfoldable pub amount_by : Bool → ℕ → ℕ → ℕ → Bool
amount_by d zero k x = comma x or d
amount_by d (suc zero) k x = d
amount_by d (suc (suc zero)) k x = pick (k ≤? 4) d (comma x or d)
amount_by d (suc (suc (suc zero))) k x = d
amount_by d (suc (suc (suc (suc zero)))) k x = pick (k ≤? 4) d (dash x)
amount_by d (suc (suc (suc (suc (suc zero))))) k x = dash x
amount_by d (suc (suc (suc (suc (suc (suc m)))))) k x = false

unfoldable pub amount_keep : ℕ → ℕ → ℕ
amount_keep zero x = pick (comma x) 1 0
amount_keep (suc zero) x = 1
amount_keep (suc (suc zero)) x = pick (comma x) 3 2
amount_keep (suc (suc (suc m))) x = suc (suc (suc m))

unfoldable pub currency_by : Bool → ℕ → ℕ → Bool
currency_by l zero x = l
currency_by l (suc zero) x = dash x
currency_by l (suc (suc m)) x = false

unfoldable pub flags_at : ℕ → ℕ → Bool
flags_at zero x = pick (missing x) false true
flags_at (suc zero) x = missing x or units x
flags_at (suc (suc m)) x = false

unfoldable pub flags_keep : ℕ → ℕ → ℕ
flags_keep m x = pick (missing x) 5 (pick (units x) (pick (m =? 0) 2 4) 0)

unfoldable pub charge_by : Bool → Bool → ℕ → ℕ → ℕ → Bool
charge_by d l zero m x = dash x or l
charge_by d l (suc zero) m x = currency_by l m x
charge_by d l (suc (suc zero)) m x = currency_by l m x
charge_by d l (suc (suc (suc zero))) m x = x ≤? 255 and flags_at m x
charge_by d l (suc (suc (suc (suc k)))) m x = pick (k ≤? 9) (amount_by d m k x) (x ≤? 255)

unfoldable pub charge_keep : ℕ → ℕ → ℕ → ℕ
charge_keep zero m x = pick (dash x) 1 0
charge_keep (suc zero) m x = m
charge_keep (suc (suc zero)) m x = m
charge_keep (suc (suc (suc zero))) m x = flags_keep m x
charge_keep (suc (suc (suc (suc k)))) m x = pick (k ≤? 9) (amount_keep m x) 0
