-- What a walk over octets finds next, and that the search is the first find of the type or its rival.
-- Assumes nothing.
use Rattle.std.proofs.Common.{◌≡◌, ℕ, zero, suc, ◌+◌, ◌-◌, ◌<◌, ◌≤◌, Bool, true, false, ◌||◌, cond, eqb, List, [], ◌∷◌, find, sym, refl, ap, ◌∙◌, arith, Option, Some, None, option_map, length, rules, tests}
use Rattle.rules.specs.Tests.{◌=?◌, pick}
use Rattle.message.specs.declared.Found.{Found}
use Rattle.message.specs.declared.Part.{Part}
use Rattle.message.specs.Parts.{part_at, parameter_at, matched, search_from}
use Rattle.message.specs.Walk.{found_then, founds_from}

module _ (turns : ℕ) (o : List ℕ) (at : ℕ) where
  pub none_left : turns ≡ 0 → [] ≡ founds_from turns o at
  unfolding founds_from
  none_left z = rw z refl

  one_on : 0 < turns → founds_from turns o at ≡ found_then (parameter_at o at) (founds_from (turns - 1) o)
  unfolding founds_from
  one_on h = let z : turns ≡ suc (turns - 1) = omega arith in ap (λ (n : ℕ). founds_from n o at) z

  pub one_left : 0 < turns → (f : Found) → parameter_at o at ≡ Some f →
      founds_from turns o at ≡ f ∷ founds_from (turns - 1) o (f.start + f.length)
  unfolding found_then
  one_left h f e = one_on h ∙ ap (λ (x : Option Found). found_then x (founds_from (turns - 1) o)) e

pub ended : (turns : ℕ) (o : List ℕ) (at : ℕ) → parameter_at o at ≡ None → founds_from turns o at ≡ []
unfolding founds_from found_then
ended zero o at e = refl
ended (suc turns) o at e = ap (λ (x : Option Found). found_then x (founds_from turns o)) e

-- no more than there are turns
pub founds_few : (turns : ℕ) (o : List ℕ) (at : ℕ) → length (founds_from turns o at) ≤ turns
unfolding founds_from found_then
founds_few zero o at = omega arith
founds_few (suc turns) o at = go (founds_few turns o) (parameter_at o at)
  where
    go : ((p : ℕ) → length (founds_from turns o p) ≤ turns) → (x : Option Found) →
        length (found_then x (founds_from turns o)) ≤ suc turns
    go ih (Some f) = omega (arith, ih (f.start + f.length))
    go ih None = omega arith

-- ---- the search
abbrev pub is_either : ℕ → ℕ → Found → Bool
is_either t u f = eqb f.kind t || eqb f.kind u

abbrev pub chosen : ℕ → Option Found → Option Part
chosen t None = None
chosen t (Some f) = cond (eqb f.kind t) (part_at f.start f.length) None

step : (t : ℕ) (f : Found) (a b : Bool) (z : Option Part) (r : Option Found) → eqb f.kind t ≡ a → z ≡ chosen t r →
    pick a (part_at f.start f.length) (pick b None z) ≡ chosen t (cond (a || b) (Some f) r)
unfolding pick
step t f true b z r e i = sym (ap (λ (x : Bool). cond x (part_at f.start f.length) None) e)
step t f false true z r e i = sym (ap (λ (x : Bool). cond x (part_at f.start f.length) None) e)
step t f false false z r e i = i

pub searched : (turns t u : ℕ) (o : List ℕ) (at : ℕ) →
    search_from turns t u o at ≡ chosen t (find (is_either t u) (founds_from turns o at))
unfolding search_from founds_from matched found_then ◌=?◌
searched zero t u o at = refl
searched (suc turns) t u o at = go (searched turns t u o) (parameter_at o at)
  where
    go : ((p : ℕ) → search_from turns t u o p ≡ chosen t (find (is_either t u) (founds_from turns o p))) →
        (x : Option Found) →
        matched t u x (search_from turns t u o) ≡
        chosen t (find (is_either t u) (found_then x (founds_from turns o)))
    go ih None = refl
    go ih (Some f) = step t f (eqb f.kind t) (eqb f.kind u) _ _ refl (ih _)

pub chosen_all : (t u : ℕ) (o : List ℕ) (r : Option Found) →
    option_map (λ x. x) r ≡ find (is_either t u) (founds_from (length o) o 2) →
    chosen t r ≡ search_from (length o) t u o 2
chosen_all t u o None e = ap (chosen t) e ∙ sym (searched (length o) t u o 2)
chosen_all t u o (Some f) e = ap (chosen t) e ∙ sym (searched (length o) t u o 2)

pub chosen_here : (t : ℕ) (f : Found) → f.kind ≡ t → part_at f.start f.length ≡ chosen t (Some f)
chosen_here t f e = search (rules, tests)

pub chosen_none : (t : ℕ) (f : Found) → (f.kind ≡ t → ⊥) → None ≡ chosen t (Some f)
chosen_none t f n = search (rules, tests)
