-- Printed numbers (document 01, What showmsg prints): decimal without leading zeros, and two capital hex digits; and
-- what digits say.
-- Assumes nothing.
use Rattle.std.specs.Prelude.{ℕ, zero, suc, ◌+◌, ◌*◌, ◌-◌, ◌/◌, ◌%◌, List, [], ◌∷◌, ◌++◌}
use Rattle.rules.specs.Tests.{◌≤?◌, pick}

-- the digits of n, the last one behind those of the quotient by ten; the first argument only bounds the depth
unfoldable pub digits_by : ℕ → ℕ → List ℕ
digits_by zero n = []
digits_by (suc f) n = pick (n ≤? 9) ((48 + n) ∷ []) (digits_by f (n / 10) ++ (48 + n % 10) ∷ [])

-- a number in decimal
unfoldable pub decimal : ℕ → List ℕ
decimal n = digits_by (suc n) n

-- 0 to 9, then A to F
unfoldable pub hex_digit : ℕ → ℕ
hex_digit k = pick (k ≤? 9) (48 + k) (55 + k)

-- an octet in two hex digits
unfoldable pub hex : ℕ → List ℕ
hex n = hex_digit (n / 16) ∷ hex_digit (n % 16) ∷ []

-- the number that digits say, after others that say a
unfoldable pub number_from : ℕ → List ℕ → ℕ
number_from a [] = a
number_from a (x ∷ l) = number_from (10 * a + (x - 48)) l

-- what a hex digit says
unfoldable pub hex_value : ℕ → ℕ
hex_value c = pick (c ≤? 57) (c - 48) (c - 55)
