-- Octets as a stream has them, and as they are printed.
-- Assumes nothing.
use Rattle.std.specs.Io.KnownBytes.{Consumes, IsAtEnd}
use Rattle.std.specs.declared.option.Option.{Option}
use Rattle.std.specs.Prelude.{◌<◌, length, ℕ, ◌+◌, ◌/◌, ◌%◌, List, [], ◌∷◌, if◌then◌else◌, nat_lt}

-- fewer octets than so many were left, and now none is
abbrev pub EndsWithin : ℕ → Option (List ℕ) → Option (List ℕ) → Type 0
EndsWithin n old new = (octets : List ℕ) × (length octets < n) × Consumes old new octets × IsAtEnd new

-- a number in two octets, the high one first
abbrev pub two_octets : ℕ → List ℕ
two_octets n = n / 256 ∷ n % 256 ∷ []

-- 0 to 9, then a to f
abbrev pub small_digit : ℕ → ℕ
small_digit k = if nat_lt k 10 then 48 + k else 87 + k

-- an octet in two small hex digits
abbrev pub small_hex : ℕ → List ℕ
small_hex x = small_digit (x / 16) ∷ small_digit (x % 16) ∷ []
