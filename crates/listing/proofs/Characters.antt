-- Texts without an octet below 20H: what a listing spells itself, and what contents of each class are as they stand.
-- A set of octets that begins at 20H or above has characters only; so have digits, letters, commas and dashes.
-- Assumes nothing.
use Prim.Native.Nat.{ℕ, zero, suc, ◌+◌, ◌/◌, ◌%◌, ◌≤◌, ◌<◌}
use mathlib.Core.Path.{sym, subst}
use mathlib.Core.Logic.{⊎_elim}
use mathlib.Core.Bool.{Bool, false}
use mathlib.Core.List.{List, [], ◌∷◌, ◌++◌}
use native.Mathlib.Omega.{arith}
use lib.ListN.{length, get_or}
use lib.Dec.{T}
use Rattle.rules.specs.Tests.{◌≤?◌, ◌=?◌, ◌and◌, ◌or◌, pick, every}
use Rattle.rules.proofs.Tests.{pick_case, every_head, every_tail, both, join, either, le_of, of_le, eq_of}
use Rattle.rules.specs.Contents.{Range, within, in_set, digit, letter, pair_fits, pairs_fit, columns_fit, all_in}
use Rattle.rules.specs.Charge.{dash, comma, missing, units, run, amount, after, costs}
use Rattle.rules.specs.Extension.{blank, country_fits, extension_fits}
use Rattle.rules.specs.Table.{ascii}
use Rattle.listing.specs.Numerals.{decimal, hex_digit, hex}
use Rattle.listing.proofs.Numerals.{decimal_small, decimal_big, by_digits}
use Rattle.listing.specs.Listing.{half, seconds, lamp_word, state_word, selector_word}

-- every octet is 20H or above
unfoldable pub plain : List ℕ → Bool
plain v = every (λ (x : ℕ). 0x20 ≤? x) v

-- no range of a set begins below a number
unfoldable pub from : ℕ → List Range → Bool
from a s = every (λ (r : Range). a ≤? r.0) s

pub set_from : (a : ℕ) (s : List Range) (x : ℕ) → T (from a s) → T (in_set s x) → a ≤ x
unfolding from in_set within
set_from a [] x p t = absurd t
set_from a (r ∷ s) x p t =
    ⊎_elim
    (λ d. omega (arith, le_of _ _ (every_head (λ (r : Range). a ≤? r.0) r s p), le_of _ _ (both _ _ d).0))
    (λ d. set_from a s x (every_tail (λ (r : Range). a ≤? r.0) r s p) d) (either _ _ t)

-- ---- octet by octet
pub cons-plain : (x : ℕ) (v : List ℕ) → 0x20 ≤ x → T (plain v) → T (plain (x ∷ v))
unfolding plain every
cons-plain x v h p = join _ _ (of_le 0x20 x h) p

pub plain-append : (a b : List ℕ) → T (plain a) → T (plain b) → T (plain (a ++ b))
unfolding plain every
plain-append [] b p q = q
plain-append (x ∷ a) b p q = let d = both _ _ p in join _ _ d.0 (plain-append a b d.1 q)

plain_one : (x : ℕ) → 0x20 ≤ x → T (plain (x ∷ []))
unfolding plain every
plain_one x h = join _ _ (of_le 0x20 x h) tt

plain_at : (v : List ℕ) (i : ℕ) → T (plain v) → i < length v → 0x20 ≤ get_or v i 0
unfolding plain every
plain_at [] i p h = absurd (omega arith)
plain_at (x ∷ v) zero p h = le_of 0x20 x (both _ _ p).0
plain_at (x ∷ v) (suc i) p h = plain_at v i (both _ _ p).1 (omega arith)

-- ---- words and numbers
pub plain_blank : T (plain (ascii " "))
unfolding plain every ascii ◌≤?◌ ◌and◌
plain_blank = tt

pub plain-decimal : (n : ℕ) → T (plain (decimal n))
plain-decimal = by_digits (λ (n : ℕ). T (plain (decimal n)))
    (λ n h. subst (λ (v : List ℕ). T (plain v)) (sym (decimal_small n h)) (plain_one (48 + n) (omega arith)))
    (λ n h p. subst (λ (v : List ℕ). T (plain v)) (sym (decimal_big n h))
    (plain-append (decimal (n / 10)) ((48 + n % 10) ∷ []) p (plain_one (48 + n % 10) (omega arith))))

above : (k : ℕ) → 0x20 ≤ hex_digit k
unfolding hex_digit
above k = pick_case (λ (x : ℕ). 0x20 ≤ x) (k ≤? 9) (48 + k) (55 + k) (λ _. omega arith) (λ _. omega arith)

pub plain-hex : (n : ℕ) → T (plain (hex n))
unfolding hex
plain-hex n =
    plain-append (hex_digit (n / 16) ∷ []) (hex_digit (n % 16) ∷ []) (plain_one _ (above (n / 16)))
    (plain_one _ (above (n % 16)))

pub plain_lamp : (x : ℕ) → T (plain (lamp_word x))
unfolding lamp_word plain every ascii ◌≤?◌ ◌and◌
plain_lamp x = pick_case (λ (v : List ℕ). T (plain v)) (x =? 0) (ascii "off") (ascii "on") (λ _. tt) (λ _. tt)

pub plain_state : (x : ℕ) → T (plain (state_word x))
unfolding state_word plain every ascii ◌≤?◌ ◌and◌
plain_state x =
    pick_case (λ (v : List ℕ). T (plain v)) (x =? 0x55) (ascii "unset") (lamp_word x) (λ _. tt) (λ _. plain_lamp x)

pub plain_selector : (x : ℕ) → T (plain (selector_word x))
unfolding selector_word plain every ascii ◌≤?◌ ◌and◌
plain_selector x =
    pick_case (λ (v : List ℕ). T (plain v)) (x =? 1) (ascii "connection ") _ (λ _. tt)
    (λ _. pick_case (λ (v : List ℕ). T (plain v)) (x =? 2) (ascii "number ") (ascii "subaddress ") (λ _. tt) (λ _. tt))

-- ---- parts of plain contents
module _ (v : List ℕ) (p : T (plain v)) where
  pub plain-half : (i mark : ℕ) → i + 3 < length v → 0x20 ≤ mark → T (plain (half v i mark))
  unfolding half
  plain-half i mark h m =
      cons-plain _ _ (plain_at v i p (omega arith))
      (cons-plain _ _ (plain_at v (i + 1) p (omega arith))
      (cons-plain _ _ m (cons-plain _ _ (plain_at v (i + 2) p (omega arith))
      (plain_one _ (plain_at v (i + 3) p (omega arith))))))

  pub plain-seconds : (i : ℕ) → i + 1 < length v → T (plain (seconds v i))
  unfolding seconds
  plain-seconds i h =
      cons-plain _ _ (omega arith)
      (cons-plain _ _ (plain_at v i p (omega arith)) (plain_one _ (plain_at v (i + 1) p (omega arith))))

-- ---- contents by their builders
pub digit_plain : (x : ℕ) → T (digit x) → 0x20 ≤ x
unfolding digit within
digit_plain x t = omega (arith, le_of _ _ (both _ _ t).0)

pub letter_plain : (x : ℕ) → T (letter x) → 0x20 ≤ x
unfolding within
letter_plain x t = omega (arith, le_of _ _ (both _ _ t).0)

pub pairs_plain : (rs : List Range) (v : List ℕ) → T (pairs_fit rs v) → T (plain v)
unfolding pairs_fit pair_fits plain every
pairs_plain [] [] t = tt
pairs_plain [] (x ∷ v) t = absurd t
pairs_plain (r ∷ rs) [] t = absurd t
pairs_plain (r ∷ rs) (a ∷ []) t = absurd t
pairs_plain (r ∷ rs) (a ∷ b ∷ v) t =
    let d = both _ _ t in
    let e = both _ _ d.0 in
    let f = both _ _ e.1 in
    cons-plain a (b ∷ v) (digit_plain a e.0) (cons-plain b v (digit_plain b f.0) (pairs_plain rs v d.1))

pub columns_plain : (ss : List (List Range)) → T (every (from 0x20) ss) → (v : List ℕ) → T (columns_fit ss v) →
    T (plain v)
unfolding columns_fit plain every
columns_plain [] p [] t = tt
columns_plain [] p (x ∷ v) t = absurd t
columns_plain (s ∷ ss) p [] t = absurd t
columns_plain (s ∷ ss) p (x ∷ v) t =
    let d = both _ _ t in
    let q = both _ _ p in
    cons-plain x v (set_from 0x20 s x q.0 d.0) (columns_plain ss q.1 v d.1)

pub all_plain : (s : List Range) (v : List ℕ) → T (from 0x20 s) → T (all_in s v) → T (plain v)
unfolding all_in plain every
all_plain s [] p t = tt
all_plain s (x ∷ v) p t = let d = both _ _ t in cons-plain x v (set_from 0x20 s x p d.0) (all_plain s v p d.1)

-- ---- what stands behind a charge's flags
pub dash_plain : (x : ℕ) → T (dash x) → 0x20 ≤ x
unfolding dash
dash_plain x t = omega (arith, eq_of x 0x2D t)

comma_plain : (x : ℕ) → T (comma x) → 0x20 ≤ x
unfolding comma
comma_plain x t = omega (arith, eq_of x 0x2C t)

run-plain : (f : ℕ → Bool) → ((x : ℕ) → T (f x) → 0x20 ≤ x) → (k : ℕ) (v : List ℕ) → T (run f k v) → T (plain v)
unfolding run plain every
run-plain f q zero [] t = tt
run-plain f q zero (x ∷ v) t = absurd t
run-plain f q (suc k) [] t = absurd t
run-plain f q (suc k) (x ∷ v) t = let d = both _ _ t in cons-plain x v (q x d.0) (run-plain f q k v d.1)

amount-plain : (k : ℕ) (v : List ℕ) → T (amount k v) → T (plain v)
unfolding amount plain every
amount-plain zero [] t = tt
amount-plain zero (x ∷ v) t = absurd t
amount-plain (suc k) [] t = absurd t
amount-plain (suc k) (x ∷ v) t =
    pick_case (λ (b : Bool). T b → T (plain (x ∷ v))) (comma x) (run digit k v) (digit x and amount k v)
    (λ c r. cons-plain x v (comma_plain x c) (run-plain digit digit_plain k v r))
    (λ _ r. let d = both _ _ r in cons-plain x v (digit_plain x d.0) (amount-plain k v d.1)) t

after_plain : (k : ℕ) (f : List ℕ → Bool) → ((v : List ℕ) → T (f v) → T (plain v)) → (v : List ℕ) →
    T (after k f v) → T (plain v)
unfolding after plain every
after_plain zero f q v t = q v t
after_plain (suc k) f q [] t = absurd t
after_plain (suc k) f q (x ∷ v) t =
    let d = both _ _ t in cons-plain x v (digit_plain x d.0) (after_plain k f q v d.1)

pub costs-plain : (lettered : Bool) (f : ℕ) (v : List ℕ) → T (costs lettered f v) → T (plain v)
unfolding costs
costs-plain lettered f v =
    choice lettered _ _
    (λ _. choice (missing f) false _ (λ _ t. absurd t)
    (λ _. choice (units f) (after 5 (amount 5) v) (amount 10 v) (λ _. after_plain 5 (amount 5) (amount-plain 5) v)
    (λ _. amount-plain 10 v)))
    (λ _. choice (missing f) (run dash 10 v) _ (λ _. run-plain dash dash_plain 10 v)
    (λ _. choice (units f) (after 5 (run dash 5) v) false
    (λ _. after_plain 5 (run dash 5) (run-plain dash dash_plain 5) v) (λ _ t. absurd t)))
  where
    choice : (b x y : Bool) → (T b → T x → T (plain v)) → ((T b → ⊥) → T y → T (plain v)) → T (pick b x y) →
        T (plain v)
    choice b x y = pick_case (λ (z : Bool). T z → T (plain v)) b x y

-- ---- an extension
blank_plain : (x : ℕ) → T (blank x) → 0x20 ≤ x
unfolding blank
blank_plain x t = omega (arith, eq_of x 0x20 t)

country_plain : (a b c : ℕ) → T (country_fits a b c) → (0x20 ≤ a) × (0x20 ≤ b) × (0x20 ≤ c)
unfolding country_fits
country_plain a b c t =
    let d = both _ _ t in
    let e = pick_case (λ (z : Bool). T z → (0x20 ≤ b) × (0x20 ≤ c)) (blank b) (blank c)
    (digit b and (blank c or digit c)) (λ q r. (blank_plain b q, blank_plain c r))
    (λ _ r. let f = both _ _ r in
    (digit_plain b f.0, ⊎_elim (blank_plain c) (digit_plain c) (either _ _ f.1))) d.1 in
    (digit_plain a d.0, e.0, e.1)

pub extension_plain : (s : List Range) → T (from 0x20 s) → (v : List ℕ) → T (extension_fits s v) → T (plain v)
unfolding extension_fits
extension_plain s p [] t = absurd t
extension_plain s p (a ∷ []) t = absurd t
extension_plain s p (a ∷ b ∷ []) t = absurd t
extension_plain s p (a ∷ b ∷ c ∷ v) t =
    let d = both _ _ t in
    let e = country_plain a b c d.0 in
    cons-plain a _ e.0
    (cons-plain b _ e.1 (cons-plain c v e.2 (all_plain s v p (both _ _ d.1).1)))
