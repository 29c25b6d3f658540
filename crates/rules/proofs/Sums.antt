-- A sum kept octet by octet.
-- Assumes nothing.
use Rattle.std.proofs.Common.{◌≡◌, ℕ, List, refl}
use Rattle.std.specs.Prelude.{sum}
use Rattle.std.proofs.lemmas.List.Recursion.{is_sum_by}
use Rattle.std.proofs.lemmas.Grind.{common_steps}
use Rattle.rules.specs.Octets.{total}

pub total_is : (l : List ℕ) → total l ≡ sum l
unfolding total
total_is l = is_sum_by total (λ (x : ℕ). x) refl (λ (x : ℕ) (l : List ℕ). refl) l

pub ruleset summing = (total_is, common_steps)
