-- Octets: numbers below 256, in lists; their sum, and what two of them say.
-- Assumes nothing.
use Rattle.std.specs.Prelude.{ℕ, ◌+◌, ◌*◌, ◌-◌, ◌%◌, ◌<◌, List, [], ◌∷◌}

-- each is below 256
abbrev pub Octets : List ℕ → Type 0
Octets [] = Unit {0}
Octets (x ∷ h) = (x < 256) × Octets h

unfoldable pub total : List ℕ → ℕ
total [] = 0
total (x ∷ l) = x + total l

-- what makes a sum 0 modulo 256 (000, section 2)
unfoldable pub checksum : ℕ → ℕ
checksum n = (256 - n % 256) % 256

-- the reference that two octets of 0DH say, the high one first
abbrev pub reference_of : ℕ → ℕ → ℕ
reference_of high low = 256 * high + low
