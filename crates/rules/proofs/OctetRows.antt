-- The table of octets (document 02, Q-7): the table that the rule makes has the row of each octet, and a row says of
-- each kind what the rules say. Where the code lays its own table down (`by_rows`; `reached` in turns, `along` in
-- listener) the two are compared, all 256 rows at once.
-- Assumes nothing.
use mathlib.Core.Path.{◌≡◌, refl, sym, ◌∙◌, ap}
use mathlib.Core.Bool.{Bool, true, false}
use mathlib.Core.List.{List}
use Prim.Native.Nat.{ℕ, zero, suc, ◌+◌, ◌*◌, ◌-◌, ◌≤◌}
use native.Mathlib.Omega.{arith}
use lib.Dec.{T, leb, leb→le, le→leb}
use lib.ListN.{length}
use Rattle.rules.specs.Tests.{◌≤?◌, ◌=?◌, ◌and◌, ◌or◌, pick}
use Rattle.rules.specs.Contents.{Range, within, in_set, digit, letter}
use Rattle.rules.specs.ContentJudge.{opens, tens_by, tens_fit, ones_fit}
use Rattle.rules.specs.Table.{old_number_set}
use Rattle.rules.specs.OctetRows.{bit, kinds_of, Rowed, ContentKind, digits, numbers, names, admitted, kind_set}
use Rattle.rules.proofs.Tests.{le_of, of_le, both, join}
use Rattle.rules.proofs.Returns.{T_of, same_truth}
use Rattle.rules.proofs.Table.{tabled, at}

-- the table that the rule makes
unfoldable pub kind_rows : List ℕ
kind_rows = tabled kinds_of 0 256

tabled_long : (f : ℕ → ℕ) (i n : ℕ) → length (tabled f i n) ≡ n
unfolding tabled
tabled_long f i zero = refl
tabled_long f i (suc n) = ap suc (tabled_long f (suc i) n)

pub rowed : Rowed kind_rows
unfolding kind_rows
rowed = record { long = tabled_long kinds_of 0 256; row = λ x h. at kinds_of 256 x h }

-- ---- each bit of a row
-- two tests of four agree where they do in all sixteen cases
abbrev Cases : (Bool → Bool → Type 0) → Type 0
Cases P = P true true × P true false × P false true × P false false

each : (P : Bool → Bool → Type 0) → Cases P → (a b : Bool) → P a b
each P h true true = h.0
each P h true false = h.1
each P h false true = h.2
each P h false false = h.3

four_alike : (f g : Bool → Bool → Bool → Bool → Bool) →
    Cases (λ (a b : Bool). Cases (λ (c d : Bool). f a b c d ≡ g a b c d)) → (a b c d : Bool) → f a b c d ≡ g a b c d
four_alike f g h a b c d =
    each (λ (c d : Bool). f a b c d ≡ g a b c d)
    (each (λ (a b : Bool). Cases (λ (c d : Bool). f a b c d ≡ g a b c d)) h a b) c d

abbrev bits : Bool → Bool → Bool → Bool → ℕ
bits a b c d = bit a + 2 * bit b + 4 * bit c + 8 * bit d

first_bit : (a b c d : Bool) → admitted (bits a b c d) 1 ≡ a
unfolding admitted bit ◌=?◌
first_bit =
    four_alike (λ (a b c d : Bool). admitted (bits a b c d) 1) (λ (a b c d : Bool). a)
    ((refl, refl, refl, refl), (refl, refl, refl, refl), (refl, refl, refl, refl), (refl, refl, refl, refl))

second_bit : (a b c d : Bool) → admitted (bits a b c d) 2 ≡ b
unfolding admitted bit ◌=?◌
second_bit =
    four_alike (λ (a b c d : Bool). admitted (bits a b c d) 2) (λ (a b c d : Bool). b)
    ((refl, refl, refl, refl), (refl, refl, refl, refl), (refl, refl, refl, refl), (refl, refl, refl, refl))

third_bit : (a b c d : Bool) → admitted (bits a b c d) 4 ≡ c
unfolding admitted bit ◌=?◌
third_bit =
    four_alike (λ (a b c d : Bool). admitted (bits a b c d) 4) (λ (a b c d : Bool). c)
    ((refl, refl, refl, refl), (refl, refl, refl, refl), (refl, refl, refl, refl), (refl, refl, refl, refl))

fourth_bit : (a b c d : Bool) → admitted (bits a b c d) 8 ≡ d
unfolding admitted bit ◌=?◌
fourth_bit =
    four_alike (λ (a b c d : Bool). admitted (bits a b c d) 8) (λ (a b c d : Bool). d)
    ((refl, refl, refl, refl), (refl, refl, refl, refl), (refl, refl, refl, refl), (refl, refl, refl, refl))

last_of : (b : Bool) → b ≡ (b or false)
unfolding ◌or◌
last_of true = refl
last_of false = refl

one_digit : (x : ℕ) → digit x ≡ in_set old_number_set x
unfolding digit in_set
one_digit x = last_of _

-- what a row says of a kind is what the rules say of its octet
pub admits_kind : (kind : ℕ) → ContentKind kind → (x row : ℕ) → row ≡ kinds_of x →
    admitted row kind ≡ in_set (kind_set kind) x
unfolding kinds_of kind_set pick ◌=?◌
admits_kind kind digits x row e = ap (λ (r : ℕ). admitted r 1) e ∙ first_bit _ _ _ _ ∙ one_digit x
admits_kind kind numbers x row e = ap (λ (r : ℕ). admitted r 2) e ∙ second_bit _ _ _ _
admits_kind kind names x row e = ap (λ (r : ℕ). admitted r 4) e ∙ third_bit _ _ _ _

-- and of letters
pub row-letter : (x row : ℕ) → row ≡ kinds_of x → admitted row 8 ≡ letter x
unfolding kinds_of
row-letter x row e = ap (λ (r : ℕ). admitted r 8) e ∙ fourth_bit _ _ _ _

-- ---- digits
-- a row says whether its octet is a digit
pub row-digit : (x row : ℕ) → row ≡ kinds_of x → admitted row 1 ≡ digit x
unfolding kinds_of
row-digit x row e = ap (λ (k : ℕ). admitted k 1) e ∙ first_bit _ _ _ _

pub tens_row : (x row : ℕ) (r : Range) → row ≡ kinds_of x → tens_by (admitted row 1) r x ≡ tens_fit r x
unfolding tens_fit
tens_row x row r e = ap (λ (d : Bool). tens_by d r x) (row-digit x row e)

-- a test of a digit by its row
pub digit_told : (x row : ℕ) (r b : Bool) → row ≡ kinds_of x → r ≡ admitted row 1 → r ≡ b → digit x ≡ b
digit_told x row r b e t q = sym (row-digit x row e) ∙ sym t ∙ q

pub digit_least : (x : ℕ) → digit x ≡ true → 48 ≤ x
unfolding digit within
digit_least x d = le_of _ _ (both _ _ (T_of _ d)).0

pub digit_most : (x : ℕ) → digit x ≡ true → x ≤ 57
unfolding digit within
digit_most x d = le_of _ _ (both _ _ (T_of _ d)).1

-- the ones of a digit are not 0
pub some_ones : (x : ℕ) → leb 1 (x - 48) ≡ (49 ≤? x)
unfolding ◌≤?◌
some_ones x =
    same_truth (leb 1 (x - 48)) (leb 49 x) (λ t. le→leb 49 x (omega (arith, leb→le 1 (x - 48) t)))
    (λ t. le→leb 1 (x - 48) (omega (arith, leb→le 49 x t)))

-- ---- two digits, the tens first
both_or_last : (o w : Bool) → (T w → T o) → w ≡ (o and w)
unfolding ◌and◌
both_or_last true w f = refl
both_or_last false true f = absurd (f tt)
both_or_last false false f = refl

module _ (lo hi a b : ℕ) where
  -- a number of the range has tens with which one begins
  pub two_told : (r : Bool) → digit a ≡ true → digit b ≡ true → r ≡ within (lo, hi) (10 * (a - 48) + (b - 48)) →
      r ≡ (tens_fit (lo, hi) a and ones_fit (lo, hi) (a - 48) b)
  unfolding tens_fit ones_fit opens within ◌and◌
  two_told r da db e =
      e ∙ rw (da, db) (both_or_last (lo ≤? 10 * (a - 48) + 9 and 10 * (a - 48) ≤? hi) _ begins)
    where
      begins : T (within (lo, hi) (10 * (a - 48) + (b - 48))) → T (lo ≤? 10 * (a - 48) + 9 and 10 * (a - 48) ≤? hi)
      begins t =
          let n = 10 * (a - 48) + (b - 48) in
          let h = both (lo ≤? n) (n ≤? hi) t in
          join (lo ≤? 10 * (a - 48) + 9) (10 * (a - 48) ≤? hi)
          (of_le lo (10 * (a - 48) + 9) (omega (arith, le_of lo n h.0, digit_most b db)))
          (of_le (10 * (a - 48)) hi (omega (arith, le_of n hi h.1)))

  pub no_ones : digit b ≡ false → false ≡ (tens_fit (lo, hi) a and ones_fit (lo, hi) (a - 48) b)
  unfolding ones_fit ◌and◌
  no_ones e = rw e (never (tens_fit (lo, hi) a))
    where
      never : (t : Bool) → false ≡ (t and false)
      never true = refl
      never false = refl

  pub no_tens : digit a ≡ false → false ≡ (tens_fit (lo, hi) a and ones_fit (lo, hi) (a - 48) b)
  unfolding tens_fit ◌and◌
  no_tens e = rw e
