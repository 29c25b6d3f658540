-- Refusals that no parameter causes (document 01, Numbers given when the work is declined): the number and the place;
-- the parameter's number is 0 (document 02, Q-3).
-- Assumes nothing.
use Rattle.std.specs.Prelude.{ℕ}
use Rattle.rules.specs.declared.Fault.{Fault}

-- a refusal at an octet of parameter b
abbrev pub noted_in : ℕ → ℕ → ℕ → Fault
noted_in k p b = record { number = k; place = p; parameter = b }

abbrev pub noted : ℕ → ℕ → Fault
noted k p = noted_in k p 0
