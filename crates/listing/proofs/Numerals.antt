-- Printed numbers read back, and decimal has no leading zero.
-- Assumes nothing.
use Prim.Native.Nat.{ℕ, zero, suc, ◌+◌, ◌*◌, ◌-◌, ◌/◌, ◌%◌, ◌≤◌, ◌<◌}
use mathlib.Core.Path.{◌≡◌, refl, sym, ◌∙◌, ap}
use mathlib.Core.Logic.{◌⊎◌, inl, inr}
use mathlib.Core.List.{List, [], ◌∷◌, ◌++◌}
use native.Mathlib.Omega.{arith}
use lib.ListN.{length, length-append, get_or}
use lib.Dec.{T}
use Rattle.rules.specs.Tests.{◌≤?◌, pick}
use Rattle.rules.proofs.Tests.{pick_yes, pick_not, le_of, of_le, not_le, decide}
use Rattle.listing.specs.Numerals.{digits_by, decimal, hex_digit, hex, number_from, hex_value}

-- ---- the laws of decimal, free of the depth
digits_enough : (f g n : ℕ) → n < f → n < g → digits_by f n ≡ digits_by g n
unfolding digits_by
digits_enough zero g n k l = absurd (omega arith)
digits_enough (suc f) zero n k l = absurd (omega arith)
digits_enough (suc f) (suc g) n k l = go (digits_enough f g (n / 10)) (decide (n ≤? 9))
  where
    go : (n / 10 < f → n / 10 < g → digits_by f (n / 10) ≡ digits_by g (n / 10)) → T (n ≤? 9) ⊎ (T (n ≤? 9) → ⊥) →
        pick (n ≤? 9) ((48 + n) ∷ []) (digits_by f (n / 10) ++ (48 + n % 10) ∷ []) ≡
        pick (n ≤? 9) ((48 + n) ∷ []) (digits_by g (n / 10) ++ (48 + n % 10) ∷ [])
    go r (inl t) = pick_yes (n ≤? 9) ((48 + n) ∷ []) _ t ∙ sym (pick_yes (n ≤? 9) ((48 + n) ∷ []) _ t)
    go r (inr t) =
        let z = not_le n 9 t in
        ap (λ (l : List ℕ). pick (n ≤? 9) ((48 + n) ∷ []) (l ++ (48 + n % 10) ∷ [])) (r (omega arith) (omega arith))

-- one digit
pub decimal_small : (n : ℕ) → n < 10 → decimal n ≡ (48 + n) ∷ []
unfolding decimal digits_by
decimal_small n h = pick_yes (n ≤? 9) ((48 + n) ∷ []) _ (of_le n 9 (omega arith))

-- more: those of the quotient, and the last
pub decimal_big : (n : ℕ) → 10 ≤ n → decimal n ≡ decimal (n / 10) ++ (48 + n % 10) ∷ []
unfolding decimal digits_by
decimal_big n h =
    pick_not (n ≤? 9) ((48 + n) ∷ []) (digits_by n (n / 10) ++ (48 + n % 10) ∷ []) (λ t. omega (arith, le_of _ _ t))
    ∙ ap (λ (d : List ℕ). d ++ (48 + n % 10) ∷ []) (digits_enough n (suc (n / 10)) (n / 10) (omega arith) (omega arith))

pub decimal_long : (n : ℕ) → 10 ≤ n → length (decimal n) ≡ length (decimal (n / 10)) + 1
decimal_long n h = ap length (decimal_big n h) ∙ length-append (decimal (n / 10)) ((48 + n % 10) ∷ [])

-- what holds of one digit, and of more where it holds of the quotient's, holds of every decimal
pub by_digits : (P : ℕ → Type 0) → ((n : ℕ) → n < 10 → P n) → ((n : ℕ) → 10 ≤ n → P (n / 10) → P n) → (n : ℕ) → P n
by_digits P one more n = go (suc n) n (omega arith)
  where
    go : (f k : ℕ) → k < f → P k
    go zero k h = absurd (omega arith)
    go (suc f) k h = at (decide (k ≤? 9)) (go f (k / 10))
      where
        at : T (k ≤? 9) ⊎ (T (k ≤? 9) → ⊥) → (k / 10 < f → P (k / 10)) → P k
        at (inl t) r = one k (let z = le_of k 9 t in omega arith)
        at (inr t) r = let z = not_le k 9 t in more k (omega arith) (r (omega arith))

-- ---- the number that digits say
number_snoc : (a : ℕ) (l : List ℕ) (x : ℕ) → number_from a (l ++ x ∷ []) ≡ 10 * number_from a l + (x - 48)
unfolding number_from
number_snoc a [] x = refl
number_snoc a (y ∷ l) x = number_snoc (10 * a + (y - 48)) l x

-- a decimal reads back to its number
pub decimal_says : (n : ℕ) → number_from 0 (decimal n) ≡ n
unfolding number_from
decimal_says = by_digits (λ (n : ℕ). number_from 0 (decimal n) ≡ n) one more
  where
    one : (n : ℕ) → n < 10 → number_from 0 (decimal n) ≡ n
    one n h = ap (number_from 0) (decimal_small n h) ∙ omega arith

    more : (n : ℕ) → 10 ≤ n → number_from 0 (decimal (n / 10)) ≡ n / 10 → number_from 0 (decimal n) ≡ n
    more n h e =
        ap (number_from 0) (decimal_big n h) ∙ number_snoc 0 (decimal (n / 10)) (48 + n % 10) ∙ omega (arith, e)

-- so no two numbers print alike
pub decimal_apart : (m n : ℕ) → decimal m ≡ decimal n → m ≡ n
decimal_apart m n e = sym (decimal_says m) ∙ ap (number_from 0) e ∙ decimal_says n

-- the first digit is 0 for 0 alone: no leading zeros
pub no_leading_zero : (n : ℕ) → get_or (decimal n) 0 0 ≡ 48 → n ≡ 0
no_leading_zero = by_digits (λ (n : ℕ). get_or (decimal n) 0 0 ≡ 48 → n ≡ 0) one more
  where
    one : (n : ℕ) → n < 10 → get_or (decimal n) 0 0 ≡ 48 → n ≡ 0
    one n h e = let z : 48 + n ≡ 48 = sym (ap (λ (l : List ℕ). get_or l 0 0) (decimal_small n h)) ∙ e in omega arith

    first : (l : List ℕ) (x : ℕ) → 0 < length l → get_or (l ++ x ∷ []) 0 0 ≡ get_or l 0 0
    first [] x h = absurd (omega arith)
    first (y ∷ l) x h = refl

    more : (n : ℕ) → 10 ≤ n → (get_or (decimal (n / 10)) 0 0 ≡ 48 → n / 10 ≡ 0) → get_or (decimal n) 0 0 ≡ 48 → n ≡ 0
    more n h r e =
        let z = r (sym (first (decimal (n / 10)) (48 + n % 10) (some (n / 10)))
        ∙ sym (ap (λ (l : List ℕ). get_or l 0 0) (decimal_big n h)) ∙ e) in
        absurd (omega arith)
      where
        some : (k : ℕ) → 0 < length (decimal k)
        some =
            by_digits (λ (k : ℕ). 0 < length (decimal k)) (λ k l. omega (arith, ap length (decimal_small k l)))
            (λ k l q. omega (arith, decimal_long k l))

-- ---- how many digits
pub one_digit : (n : ℕ) → n < 10 → length (decimal n) ≡ 1
one_digit n h = ap length (decimal_small n h)

-- at most d digits, where the quotient has fewer
pub few_digits : (d n : ℕ) → 1 ≤ d → (10 ≤ n → length (decimal (n / 10)) + 1 ≤ d) → length (decimal n) ≤ d
few_digits d n l r = go (decide (n ≤? 9))
  where
    go : T (n ≤? 9) ⊎ (T (n ≤? 9) → ⊥) → length (decimal n) ≤ d
    go (inl t) = let z = le_of n 9 t in omega (arith, one_digit n (omega arith))
    go (inr t) = let z = not_le n 9 t in omega (arith, decimal_long n (omega arith), r (omega arith))

pub two_digits : (n : ℕ) → n < 100 → length (decimal n) ≤ 2
two_digits n h = few_digits 2 n (omega arith) (λ l. omega (arith, one_digit (n / 10) (omega arith)))

pub three_digits : (n : ℕ) → n < 1000 → length (decimal n) ≤ 3
three_digits n h = few_digits 3 n (omega arith) (λ l. omega (arith, two_digits (n / 10) (omega arith)))

pub five_digits : (n : ℕ) → n < 100000 → length (decimal n) ≤ 5
five_digits n h = few_digits 5 n (omega arith) (λ l. omega (arith, four (n / 10) (omega arith)))
  where
    four : (n : ℕ) → n < 10000 → length (decimal n) ≤ 4
    four n h = few_digits 4 n (omega arith) (λ l. omega (arith, three_digits (n / 10) (omega arith)))

-- ---- hex
pub hex_digit_says : (k : ℕ) → k < 16 → hex_value (hex_digit k) ≡ k
unfolding hex_digit hex_value
hex_digit_says k l = go (decide (k ≤? 9))
  where
    go : T (k ≤? 9) ⊎ (T (k ≤? 9) → ⊥) →
        pick (pick (k ≤? 9) (48 + k) (55 + k) ≤? 57) (pick (k ≤? 9) (48 + k) (55 + k) - 48)
        (pick (k ≤? 9) (48 + k) (55 + k) - 55) ≡ k
    go (inl t) =
        let e = le_of _ _ t in
        rw (pick_yes (k ≤? 9) (48 + k) (55 + k) t) (pick_yes _ _ _ (of_le _ _ (omega arith)) ∙ omega arith)
    go (inr f) =
        let e = not_le k 9 f in
        rw (pick_not (k ≤? 9) (48 + k) (55 + k) f) (pick_not _ _ _ (λ t. omega (arith, le_of _ _ t)) ∙ omega arith)

-- two digits that say the octet
pub hex_says : (n : ℕ) → n < 256 →
    (16 * hex_value (get_or (hex n) 0 0) + hex_value (get_or (hex n) 1 0) ≡ n) × (length (hex n) ≡ 2)
unfolding hex
hex_says n l = (omega (arith, hex_digit_says (n / 16) (omega arith), hex_digit_says (n % 16) (omega arith)), refl)
