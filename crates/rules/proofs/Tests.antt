-- What each of the tests and choices tells, and what each follows from.
-- Assumes nothing.
use Prim.Native.Nat.{ℕ, ◌≤◌, ◌<◌}
use mathlib.Core.Path.{◌≡◌, subst, refl}
use mathlib.Core.Bool.{Bool, true, false}
use mathlib.Core.Logic.{◌⊎◌, inl, inr}
use mathlib.Core.List.{List, ◌∷◌}
use native.Mathlib.Omega.{arith}
use lib.Dec.{T, leb, eqb, leb→le, le→leb, eqb→eq, eqb_refl, not_T, nleb→lt}
use Rattle.rules.specs.Tests.{◌≤?◌, ◌=?◌, ◌and◌, ◌or◌, pick, every}

-- what was said equal has two constructors: anything follows
pub clash : {A : Type 0} → ◌≡◌ {A = ℕ} 0 1 → A
clash e = absurd (omega arith)

pub both : (a b : Bool) → T (a and b) → T a × T b
unfolding ◌and◌
both true b t = (tt, t)
both false b t = absurd t

pub join : (a b : Bool) → T a → T b → T (a and b)
unfolding ◌and◌
join true b s t = t
join false b s t = s

pub either : (a b : Bool) → T (a or b) → T a ⊎ T b
unfolding ◌or◌
either true b t = inl tt
either false b t = inr t

pub left : (a b : Bool) → T a → T (a or b)
unfolding ◌or◌
left true b t = tt
left false b t = absurd t

pub right : (a b : Bool) → T b → T (a or b)
unfolding ◌or◌
right true b t = tt
right false b t = t

pub le_of : (a b : ℕ) → T (a ≤? b) → a ≤ b
unfolding ◌≤?◌
le_of a b t = leb→le a b t

pub of_le : (a b : ℕ) → a ≤ b → T (a ≤? b)
unfolding ◌≤?◌
of_le a b h = le→leb a b h

pub not_le : (a b : ℕ) → (T (a ≤? b) → ⊥) → b < a
unfolding ◌≤?◌
not_le a b n = nleb→lt a b (not_T (leb a b) n)

pub eq_of : (a b : ℕ) → T (a =? b) → a ≡ b
unfolding ◌=?◌
eq_of a b t = eqb→eq a b t

pub of_eq : (a b : ℕ) → a ≡ b → T (a =? b)
unfolding ◌=?◌
of_eq a b e = subst (λ (k : ℕ). T (eqb a k)) e (eqb_refl a)

pub not_zero : (n : ℕ) → (T (n =? 0) → ⊥) → 1 ≤ n
not_zero n f = let g : n ≡ 0 → ⊥ = λ q. f (of_eq _ _ q) in omega arith

pub decide : (b : Bool) → T b ⊎ (T b → ⊥)
decide true = inl tt
decide false = inr (λ t. t)

module _ {A : Type 0} where
  pub pick_yes : (b : Bool) (x y : A) → T b → pick b x y ≡ x
  unfolding pick
  pick_yes true x y t = refl
  pick_yes false x y t = absurd t

  pub pick_not : (b : Bool) (x y : A) → (T b → ⊥) → pick b x y ≡ y
  unfolding pick
  pick_not true x y n = absurd (n tt)
  pick_not false x y n = refl

  -- what holds of each of the two, as the test goes, holds of the choice
  pub pick_case : (P : A → Type 0) (b : Bool) (x y : A) → (T b → P x) → ((T b → ⊥) → P y) → P (pick b x y)
  unfolding pick
  pick_case P true x y f g = f tt
  pick_case P false x y f g = g (λ t. t)

  -- which of the two a choice was
  pub picked : (b : Bool) (x y z : A) → pick b x y ≡ z → (T b × (x ≡ z)) ⊎ ((T b → ⊥) × (y ≡ z))
  unfolding pick
  picked true x y z e = inl (tt, e)
  picked false x y z e = inr ((λ t. t), e)

  -- what follows from either of the two follows from the choice
  pub picked_by : (P : Type 0) (b : Bool) (x y z : A) → pick b x y ≡ z → (T b → x ≡ z → P) → ((T b → ⊥) → y ≡ z → P) → P
  unfolding pick
  picked_by P true x y z e f g = f tt e
  picked_by P false x y z e f g = g (λ t. t) e

  pub every_head : (f : A → Bool) (x : A) (l : List A) → T (every f (x ∷ l)) → T (f x)
  unfolding every
  every_head f x l t = (both _ _ t).0

  pub every_tail : (f : A → Bool) (x : A) (l : List A) → T (every f (x ∷ l)) → T (every f l)
  unfolding every
  every_tail f x l t = (both _ _ t).1
