-- The parameters that a walk over octets finds, one behind another, as many as it has turns.
-- Assumes nothing.
use Rattle.std.specs.Prelude.{ℕ, zero, suc, ◌+◌, List, [], ◌∷◌, Option, Some, None}
use Rattle.message.specs.declared.Found.{Found}
use Rattle.message.specs.declared.Parameters.{Parameters}
use Rattle.message.specs.Parts.{parameter_at}

-- the parameter found, and those behind it
unfoldable pub found_then : Option Found → (ℕ → List Found) → List Found
found_then (Some one) behind = one ∷ behind (one.start + one.length)
found_then None behind = []

unfoldable pub founds_from : ℕ → List ℕ → ℕ → List Found
founds_from zero o at = []
founds_from (suc turns) o at = found_then (parameter_at o at) (founds_from turns o)

-- those that are still to come
abbrev pub founds_left : Parameters → List Found
founds_left p = founds_from p.turns p.octets.now p.place
