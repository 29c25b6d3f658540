-- What the answer of settling tells (document 01, The forms we expect: a definition provides number and values for
-- each case).
-- Assumes nothing.
use Rattle.desk.specs.declared.Outcome.{Outcome}
use Rattle.rules.specs.declared.Named.{Named}
use Rattle.rules.specs.declared.Fault.{Fault}
use Rattle.std.specs.Prelude.{ℕ, ◌≤◌, Result, Ok, Err}

-- an outcome, beside the edition that its answer names
abbrev pub Settling : Type 0
Settling = Named Outcome

-- number, place and parameter of a refusal; 0 where there is none
pub record Told : Type 0 where
  pub number : ℕ
  pub place : ℕ
  pub parameter : ℕ

unfoldable pub told : Result (Unit {0}) Fault → Told
told (Ok u) = record { number = 0; place = 0; parameter = 0 }
told (Err f) = record { number = f.number; place = f.place; parameter = f.parameter }

-- the work is done
abbrev pub success : Told
success = record { number = 0; place = 0; parameter = 0 }

-- a refusal with number k at p, in parameter b
abbrev pub refusal : ℕ → ℕ → ℕ → Told
refusal k p b = record { number = k; place = p; parameter = b }

-- a refusal has a number: so what is told tells the answer
abbrev pub Clear : Result (Unit {0}) Fault → Type 0
Clear (Ok u) = Unit {0}
Clear (Err f) = 1 ≤ f.number
