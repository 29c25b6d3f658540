-- Where an octet first stands: the place that `position` finds, or the length where it finds none.
-- Assumes nothing.
use Prim.Native.Nat.{ℕ, suc, ◌≤◌}
use mathlib.Core.Path.{◌≡◌, refl}
use mathlib.Core.Bool.{Bool, not}
use mathlib.Core.List.{List, [], ◌∷◌}
use native.Mathlib.Omega.{arith}
use lib.ListN.{length}
use lib.Dec.{eqb}
use Rattle.std.specs.List.{position, position_or_len}
use Rattle.std.specs.Option.{unwrap_or}
use Rattle.std.proofs.lemmas.List.Sums.{prefix_len-le-length}
use Rattle.std.proofs.lemmas.List.Recursion.{is_position_or_len}
use Rattle.rules.specs.First.{index_of}
use Rattle.rules.proofs.Tests.{pick_case}
use Rattle.rules.proofs.Telling.{pick_is, eq_is}

pub index_is : (x : ℕ) (l : List ℕ) → index_of x l ≡ position_or_len (λ (y : ℕ). eqb y x) l
unfolding index_of
index_is x l =
    is_position_or_len (index_of x) (λ (y : ℕ). eqb y x) refl
    (λ (y : ℕ) (l : List ℕ). grind (arith, pick_is, eq_is y x)) l

pub placed : {X : Type 0} (p : X → Bool) (l : List X) → unwrap_or (position p l) (length l) ≡ position_or_len p l
placed p l = grind (arith, prefix_len-le-length (λ x. not (p x)) l)

pub ruleset found = (index_is, placed)

-- it is the length at most
pub index_most : (x : ℕ) (l : List ℕ) → index_of x l ≤ length l
unfolding index_of
index_most x [] = omega arith
index_most x (y ∷ l) =
    pick_case (λ (k : ℕ). k ≤ suc (length l)) _ _ _ (λ _. omega arith) (λ _. omega (arith, index_most x l))
