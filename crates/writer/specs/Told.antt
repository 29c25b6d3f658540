-- What the answer of the writer tells (document 01, The forms we expect: a definition provides number and values for
-- each case).
-- Assumes nothing.
use Rattle.std.specs.Prelude.{ℕ, Result, Ok, Err}
use Rattle.rules.specs.declared.Fault.{Fault}

-- number, place and parameter of a refusal, the size of a message; 0 where there is none
pub record Told : Type 0 where
  pub number : ℕ
  pub place : ℕ
  pub parameter : ℕ
  pub size : ℕ

unfoldable pub told : Result ℕ Fault → Told
told (Ok n) = record { number = 0; place = 0; parameter = 0; size = n }
told (Err f) = record { number = f.number; place = f.place; parameter = f.parameter; size = 0 }

-- a message of n octets
abbrev pub success : ℕ → Told
success n = record { number = 0; place = 0; parameter = 0; size = n }

-- a refusal with number k at p, which names no parameter
abbrev pub refusal : ℕ → ℕ → Told
refusal k p = record { number = k; place = p; parameter = 0; size = 0 }
