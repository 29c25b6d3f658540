-- What each shut test and choice tells, for `grind`: where a function's contract is made of them, its branches prove
-- with no answer by `using(crate::proofs::Telling::telling)`.
-- Assumes nothing.
use mathlib.Core.Path.{◌≡◌, refl}
use mathlib.Core.Bool.{Bool, true, false, cond, ◌&&◌, ◌||◌}
use mathlib.Core.List.{List, [], ◌∷◌}
use mathlib.Core.Logic.{◌⊎◌, ◌≢◌, inl, inr}
use Prim.Native.Nat.{ℕ, ◌≤◌, ◌<◌}
use lib.Dec.{eqb}
use native.Mathlib.Omega.{arith}
use Rattle.std.specs.Prelude.{bytes_eq}
use Rattle.std.proofs.lemmas.Bool.Decides.{leb_tells, eqb_tells}
use Rattle.rules.specs.Tests.{◌≤?◌, ◌=?◌, ◌and◌, ◌or◌, pick}
use Rattle.rules.specs.Pairwise.{pairwise, same_octets}

pub le_tells : (a b : ℕ) → (((a ≤? b) ≡ true) × (a ≤ b)) ⊎ (((a ≤? b) ≡ false) × (b < a))
unfolding ◌≤?◌
le_tells a b = leb_tells a b

pub eq_tells : (a b : ℕ) → (((a =? b) ≡ true) × (a ≡ b)) ⊎ (((a =? b) ≡ false) × (a ≢ b))
unfolding ◌=?◌
eq_tells a b = eqb_tells a b

pub and_tells : (a b : Bool) → ((a ≡ true) × ((a and b) ≡ b)) ⊎ ((a ≡ false) × ((a and b) ≡ false))
unfolding ◌and◌
and_tells true b = inl (refl, refl)
and_tells false b = inr (refl, refl)

pub or_tells : (a b : Bool) → ((a ≡ true) × ((a or b) ≡ true)) ⊎ ((a ≡ false) × ((a or b) ≡ b))
unfolding ◌or◌
or_tells true b = inl (refl, refl)
or_tells false b = inr (refl, refl)

pub pick_tells : {A : Type 0} (b : Bool) (x y : A) → ((b ≡ true) × (pick b x y ≡ x)) ⊎ ((b ≡ false) × (pick b x y ≡ y))
unfolding pick
pick_tells true x y = inl (refl, refl)
pick_tells false x y = inr (refl, refl)

-- ---- the same as the language's own
pub and_is : (a b : Bool) → (a and b) ≡ (a && b)
unfolding ◌and◌
and_is true b = refl
and_is false b = refl

pub eq_is : (a b : ℕ) → (a =? b) ≡ eqb a b
unfolding ◌=?◌
eq_is a b = refl

pub or_is : (a b : Bool) → (a or b) ≡ (a || b)
unfolding ◌or◌
or_is true b = refl
or_is false b = refl

pub pick_is : {A : Type 0} (b : Bool) (x y : A) → pick b x y ≡ cond b x y
unfolding pick
pick_is true x y = refl
pick_is false x y = refl

-- slices are compared octet by octet
pub same_is : (v w : List ℕ) → same_octets v w ≡ bytes_eq v w
unfolding pairwise ◌and◌ ◌=?◌
same_is [] [] = refl
same_is [] (y ∷ w) = refl
same_is (x ∷ v) [] = refl
same_is (x ∷ v) (y ∷ w) = grind (arith, and_is, eq_is, same_is v w)

pub ruleset telling = (
  le_tells,
  eq_tells,
  and_tells,
  or_tells,
  pick_tells,
)
