-- What a return by tests wants: each test of the rules from the fact of the branch. `search tests` puts them together.
-- Assumes nothing.
use mathlib.Core.Path.{◌≡◌, refl, sym, ◌∙◌}
use mathlib.Core.Bool.{Bool, true, false}
use Prim.Native.Nat.{ℕ, ◌≤◌, ◌<◌}
use lib.Dec.{T, leb, eqb}
use borrow.Author.Rules.{rules}
use borrow.Author.Tests.{le-leb, lt-leb, eq-eqb, ne_eqb}
use Rattle.rules.specs.Tests.{◌≤?◌, ◌=?◌, ◌and◌, ◌or◌, pick}
use Rattle.rules.proofs.Tests.{le_of}

pub pick_t : {A : Type 0} (b : Bool) (w x y : A) → b ≡ true → w ≡ x → w ≡ pick b x y
unfolding pick
pick_t b w x y e q = rw e q

pub pick_f : {A : Type 0} (b : Bool) (w x y : A) → b ≡ false → w ≡ y → w ≡ pick b x y
unfolding pick
pick_f b w x y e q = rw e q

pub and_t : (w a b : Bool) → a ≡ true → w ≡ b → w ≡ (a and b)
unfolding ◌and◌
and_t w a b e q = rw e q

pub and_f : (w a b : Bool) → a ≡ false → w ≡ false → w ≡ (a and b)
unfolding ◌and◌
and_f w a b e q = rw e q

pub or_t : (w a b : Bool) → a ≡ true → w ≡ true → w ≡ (a or b)
unfolding ◌or◌
or_t w a b e q = rw e q

pub or_f : (w a b : Bool) → a ≡ false → w ≡ b → w ≡ (a or b)
unfolding ◌or◌
or_f w a b e q = rw e q

-- the last of some tests
pub or_last : (w a : Bool) → w ≡ a → w ≡ (a or false)
unfolding ◌or◌
or_last w true q = q
or_last w false q = q

pub yes_le : (a b : ℕ) → a ≤ b → (a ≤? b) ≡ true
unfolding ◌≤?◌
yes_le a b h = le-leb a b h

pub no_le : (a b : ℕ) → b < a → (a ≤? b) ≡ false
unfolding ◌≤?◌
no_le a b h = lt-leb a b h

pub yes_eq : (a b : ℕ) → a ≡ b → (a =? b) ≡ true
unfolding ◌=?◌
yes_eq a b h = eq-eqb a b h

pub no_eq : (a b : ℕ) → (a ≡ b → ⊥) → (a =? b) ≡ false
unfolding ◌=?◌
no_eq a b h = ne_eqb a b h

pub is_le : (a b : ℕ) → leb a b ≡ (a ≤? b)
unfolding ◌≤?◌
is_le a b = refl

pub is_eq : (a b : ℕ) → eqb a b ≡ (a =? b)
unfolding ◌=?◌
is_eq a b = refl

-- the first of two tests, where it fails
pub first_fails : (a b : ℕ) (q : Bool) → b < a → leb a b ≡ (a ≤? b and q)
first_fails a b q h = is_le a b ∙ no_le a b h ∙ and_f _ _ _ (no_le a b h) refl

-- a test that a call made
pub via : (r b z : Bool) → r ≡ b → r ≡ z → b ≡ z
via r b z p q = sym p ∙ q

pub T_of : (b : Bool) → b ≡ true → T b
T_of b e = rw e tt

pub holds : (b : Bool) → T b → b ≡ true
holds true t = refl
holds false t = absurd t

-- and that held
pub told_le : (b : Bool) (x y : ℕ) → b ≡ (x ≤? y) → b ≡ true → x ≤ y
told_le b x y e t = le_of _ _ (T_of _ (via _ _ _ e t))

-- tests that hold together are equal
pub same_truth : (a b : Bool) → (T a → T b) → (T b → T a) → a ≡ b
same_truth true true f g = refl
same_truth true false f g = absurd (f tt)
same_truth false true f g = absurd (g tt)
same_truth false false f g = refl

pub ruleset tests = (
  pick_t,
  pick_f,
  and_t,
  and_f,
  or_last,
  or_t,
  or_f,
  via,
  yes_le,
  no_le,
  yes_eq,
  no_eq,
  is_le,
  is_eq,
  lt-leb,
  ne_eqb,
  rules,
)
