-- What the answer of the caption finder tells (document 01, The forms we expect: a definition provides number and
-- values for each case).
-- Assumes nothing.
use Rattle.rules.specs.declared.Named.{Named}
use Rattle.rules.specs.declared.Fault.{Fault}
use Rattle.std.specs.Prelude.{ℕ, ◌≤◌, Result, Err, Ok}
use Rattle.caption.specs.declared.Shown.{Shown}
use Rattle.caption.specs.declared.Shown.TheVariants.{InMessage, InDirectory}

-- an answer, beside the edition that it names
abbrev pub Finding : Type 0
Finding = Named (Result Shown Fault)

-- number, place and parameter of a refusal, 0 where there is none; the part found, with a refusal the empty part at
-- the message's start
pub record Told : Type 0 where
  pub number : ℕ
  pub place : ℕ
  pub parameter : ℕ
  -- which of the two the part lies in: 0 the message, 1 the directory
  pub side : ℕ
  -- where the part starts there, and how long it is
  pub start : ℕ
  pub size : ℕ

unfoldable pub told : Result Shown Fault → Told
told (Ok (InMessage start n)) = record { number = 0; place = 0; parameter = 0; side = 0; start = start; size = n }
told (Ok (InDirectory start n)) = record { number = 0; place = 0; parameter = 0; side = 1; start = start; size = n }
told (Err f) =
    record { number = f.number; place = f.place; parameter = f.parameter; side = 0; start = 0; size = 0 }

-- a refusal with number k at p, in parameter b
abbrev pub refusal : ℕ → ℕ → ℕ → Told
refusal k p b = record { number = k; place = p; parameter = b; side = 0; start = 0; size = 0 }

-- a refusal has a number: so what is told tells the answer
abbrev pub Clear : Result Shown Fault → Type 0
Clear (Ok part) = Unit {0}
Clear (Err f) = 1 ≤ f.number
