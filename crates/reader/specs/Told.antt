-- What the answer of a read tells (document 01, The forms we expect: a definition provides number and values for each
-- case).
-- Assumes nothing.
use Rattle.std.specs.Prelude.{ℕ, ◌≤◌, Result, Ok, Err}
use Rattle.rules.specs.declared.Fault.{Fault}

-- number, place and parameter of a refusal, the size of the text octets laid down; 0 where there is none
pub record Told : Type 0 where
  pub number : ℕ
  pub place : ℕ
  pub parameter : ℕ
  pub size : ℕ

unfoldable pub told : Result ℕ Fault → Told
told (Ok n) = record { number = 0; place = 0; parameter = 0; size = n }
told (Err f) = record { number = f.number; place = f.place; parameter = f.parameter; size = 0 }

-- whether a read goes through tells number, place and parameter of the refusal alike; no texts are laid down
unfoldable pub told_fitting : Result (Unit {0}) Fault → Told
told_fitting (Ok tt) = record { number = 0; place = 0; parameter = 0; size = 0 }
told_fitting (Err f) = told (Err f)

-- a message with n text octets
abbrev pub success : ℕ → Told
success n = record { number = 0; place = 0; parameter = 0; size = n }

-- a refusal with number k at p, in parameter b
abbrev pub refusal : ℕ → ℕ → ℕ → Told
refusal k p b = record { number = k; place = p; parameter = b; size = 0 }

-- a refusal has a number: so what is told tells the answer
abbrev pub Clear : Result ℕ Fault → Type 0
Clear (Ok n) = Unit {0}
Clear (Err f) = 1 ≤ f.number
