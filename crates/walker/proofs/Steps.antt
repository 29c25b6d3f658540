-- How a walk goes on; it refuses nothing, and what it gives lies inside the octets.
-- Assumes nothing.
use Rattle.std.proofs.Common.{ℕ, Result, Ok, Err, Option, Some, None}
use Prim.Native.Nat.{ℕ, zero, suc, ◌+◌, ◌-◌, ◌≤◌, ◌<◌}
use mathlib.Core.Path.{◌≡◌, refl, ◌∙◌, ap}
use mathlib.Core.List.{List, [], ◌∷◌}
use native.Mathlib.Omega.{arith}
use lib.ListN.{length}
use Rattle.rules.specs.Message.{most}
use Rattle.rules.specs.Tests.{◌=?◌, pick}
use Rattle.rules.proofs.Tests.{pick_yes, pick_not, pick_case, of_eq, eq_of, clash}
use Rattle.rules.specs.declared.Fault.{Fault}
use Rattle.message.specs.declared.Found.{Found}
use Rattle.message.specs.Parts.{found_at, parameter_at}
use Rattle.message.specs.Walk.{found_then, founds_from}
use Rattle.message.proofs.Searching.{found_inside}
use Rattle.walker.specs.Told.{told}
use Rattle.walker.specs.Steps.{met, walk_from, step_under, Step, given}

module _ (turns : ℕ) (o : List ℕ) (at place : ℕ) where
  pub no_turns : turns ≤ 0 → walk_from turns o at place ≡ Ok None
  unfolding walk_from
  no_turns h = let z : turns ≡ 0 = omega arith in rw z

  turned : 0 < turns → walk_from turns o at place ≡ met at place (parameter_at o place) (walk_from (turns - 1) o at)
  unfolding walk_from
  turned h = let z : turns ≡ suc (turns - 1) = omega arith in ap (λ (n : ℕ). walk_from n o at place) z

  pub none_here : 0 < turns → parameter_at o place ≡ None → walk_from turns o at place ≡ Ok None
  unfolding met
  none_here h e = turned h ∙ ap (λ (x : Option Found). met at place x (walk_from (turns - 1) o at)) e

  module _ (h : 0 < turns) (k start n : ℕ) (e : parameter_at o place ≡ found_at k start n) where
    pub stands : walk_from turns o at place ≡
        pick (place =? at) (given k start n (start + n)) (walk_from (turns - 1) o at (start + n))
    unfolding met
    stands = turned h ∙ ap (λ (x : Option Found). met at place x (walk_from (turns - 1) o at)) e

    pub here : place ≡ at → walk_from turns o at place ≡ given k start n (start + n)
    here d = stands ∙ pick_yes _ _ _ (of_eq _ _ d)

    pub onward : (place ≡ at → ⊥) → walk_from turns o at place ≡ walk_from (turns - 1) o at (start + n)
    onward d = stands ∙ pick_not _ _ _ (λ t. d (eq_of _ _ t))

-- ---- the same over the parameters found
-- the one that begins at a place, where the first begins at `place`
unfoldable pub walked : ℕ → ℕ → List Found → Step
walked at place [] = Ok None
walked at place (one ∷ onward) =
    pick (place =? at) (given one.kind one.start one.length (one.start + one.length))
    (walked at (one.start + one.length) onward)

pub walked_is : (turns : ℕ) (o : List ℕ) (at place : ℕ) →
    walk_from turns o at place ≡ walked at place (founds_from turns o place)
unfolding walk_from met founds_from found_then walked
walked_is zero o at place = refl
walked_is (suc turns) o at place = go (walked_is turns o at) (parameter_at o place)
  where
    go : ((p : ℕ) → walk_from turns o at p ≡ walked at p (founds_from turns o p)) → (x : Option Found) →
        met at place x (walk_from turns o at) ≡ walked at place (found_then x (founds_from turns o))
    go on (Some one) =
        ap (pick (place =? at) (given one.kind one.start one.length (one.start + one.length)))
        (on (one.start + one.length))
    go on None = refl

module _ (at place : ℕ) (one : Found) (onward : List Found) where
  pub found_here : place ≡ at →
      walked at place (one ∷ onward) ≡ given one.kind one.start one.length (one.start + one.length)
  unfolding walked
  found_here e = pick_yes _ _ _ (of_eq _ _ e)

  pub found_on : (place ≡ at → ⊥) →
      walked at place (one ∷ onward) ≡ walked at (one.start + one.length) onward
  unfolding walked
  found_on d = pick_not _ _ _ (λ t. d (eq_of _ _ t))

pub found_none : (at place : ℕ) (onward : List Found) → onward ≡ [] → walked at place onward ≡ Ok None
unfolding walked
found_none at place onward e = ap (walked at place) e

-- each ends inside n octets
abbrev pub Within : ℕ → List Found → Type 0
Within n [] = Unit {0}
Within n (one ∷ onward) = (one.start + one.length < n) × Within n onward

pub founds_inside : (turns : ℕ) (o : List ℕ) (place : ℕ) → Within (length o) (founds_from turns o place)
unfolding founds_from found_then
founds_inside zero o place = tt
founds_inside (suc turns) o place = go (founds_inside turns o) (parameter_at o place) refl
  where
    go : ((p : ℕ) → Within (length o) (founds_from turns o p)) → (x : Option Found) → x ≡ parameter_at o place →
        Within (length o) (found_then x (founds_from turns o))
    go on (Some one) e =
        (found_inside o place _ one.kind one.start one.length e refl, on (one.start + one.length))
    go on None e = tt

-- ---- a walk refuses nothing
module _ (o : List ℕ) where
  abbrev Unrefused : Step → Type 0
  Unrefused r = ((told r).number ≡ 0) × ((f : Fault) → r ≡ Err f → ⊥)

  plain_given : (k start n next : ℕ) → Unrefused (given k start n next)
  unfolding told
  plain_given k start n next = (refl, λ f e. clash cc)

  plain_none : Unrefused (Ok None)
  unfolding told
  plain_none = (refl, λ f e. clash cc)

  met_plain : (at place : ℕ) (f : Option Found) (go : ℕ → Step) → ((b : ℕ) → Unrefused (go b)) → Unrefused (met at place f go)
  unfolding met
  met_plain at place (Some one) go i =
      pick_case Unrefused _ _ _ (λ _. plain_given one.kind one.start one.length (one.start + one.length)) (λ _. i (one.start + one.length))
  met_plain at place None go i = plain_none

  pub walk_plain : (turns at place : ℕ) → Unrefused (walk_from turns o at place)
  unfolding walk_from
  walk_plain zero at place = plain_none
  walk_plain (suc turns) at place = met_plain at place (parameter_at o place) (walk_from turns o at) (walk_plain turns at)

-- ---- the part that a step gives lies inside the octets
module _ (o : List ℕ) where
  abbrev Inside : Step → Type 0
  Inside r = (told r).start + (told r).size ≤ length o

  met_inside : (at place : ℕ) (f : Option Found) → f ≡ parameter_at o place → (go : ℕ → Step) → ((b : ℕ) → Inside (go b)) →
      Inside (met at place f go)
  unfolding met told
  met_inside at place (Some one) e go i =
      pick_case Inside _ _ _ (λ _. omega (arith, found_inside o place _ one.kind one.start one.length e refl)) (λ _. i (one.start + one.length))
  met_inside at place None e go i = omega arith

  walk_inside : (turns at place : ℕ) → Inside (walk_from turns o at place)
  unfolding walk_from told
  walk_inside zero at place = omega arith
  walk_inside (suc turns) at place =
      met_inside at place (parameter_at o place) refl (walk_from turns o at) (walk_inside turns at)

  pub under_inside : (v : Result ℕ Fault) (at : ℕ) → Inside (step_under v o at)
  unfolding step_under told
  under_inside (Ok n) at = walk_inside most at 2
  under_inside (Err f) at = omega arith
