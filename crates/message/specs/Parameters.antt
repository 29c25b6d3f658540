-- The parameters that octets hold, from the first on, and the message that they make.
-- Assumes nothing.
use Rattle.std.specs.Prelude.{ℕ, zero, suc, ◌+◌, List, [], ◌∷◌, take, drop, slice_index, Option, Some, None}
use Rattle.rules.specs.Message as message
use Rattle.rules.specs.Message.{most}
use Rattle.message.specs.declared.Found.{Found}
use Rattle.message.specs.Parts.{parameter_at}

-- the parameter found, and those behind it
unfoldable pub found : List ℕ → Option Found → (ℕ → List message.Parameter) → List message.Parameter
found o (Some one) behind = (record { kind = one.kind; contents = take one.length (drop one.start o) }) ∷ behind (one.start + one.length)
found o None behind = []

-- the parameters from a place on, as many as there are turns
unfoldable pub parameters_from : ℕ → List ℕ → ℕ → List message.Parameter
parameters_from zero o at = []
parameters_from (suc turns) o at = found o (parameter_at o at) (parameters_from turns o)

-- a message has 85 parameters at most, the first at octet 2
unfoldable pub parameters_in : List ℕ → List message.Parameter
parameters_in o = parameters_from most o 2

-- the message that accepted octets are
unfoldable pub message_in : List ℕ → message.Message
message_in o = record { kind = slice_index o 0; parameters = parameters_in o }
