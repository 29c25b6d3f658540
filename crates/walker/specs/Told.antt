-- What a step of the walker tells (document 01, The forms we expect: a definition provides number and values for each
-- case).
-- Assumes nothing.
use Rattle.walker.specs.Steps.{Step}
use Rattle.std.specs.Prelude.{ℕ, ◌≤◌, Ok, Err, Some, None}

-- number, place and parameter of a refusal; the type of a parameter and the part of its contents; 0 where there is
-- none
pub record Told : Type 0 where
  pub number : ℕ
  pub place : ℕ
  pub parameter : ℕ
  -- 1 for a parameter, 0 for none
  pub more : ℕ
  pub kind : ℕ
  pub start : ℕ
  pub size : ℕ

unfoldable pub told : Step → Told
told (Ok (Some one)) =
    record {
      number = 0;
      place = 0;
      parameter = 0;
      more = 1;
      kind = one.kind;
      start = one.start;
      size = one.length;
    }
told (Ok None) = record { number = 0; place = 0; parameter = 0; more = 0; kind = 0; start = 0; size = 0 }
told (Err f) =
    record { number = f.number; place = f.place; parameter = f.parameter; more = 0; kind = 0; start = 0; size = 0 }

-- no parameter begins there
abbrev pub nothing : Told
nothing = record { number = 0; place = 0; parameter = 0; more = 0; kind = 0; start = 0; size = 0 }

-- a refusal with number k at p, in parameter b
abbrev pub refusal : ℕ → ℕ → ℕ → Told
refusal k p b = record { number = k; place = p; parameter = b; more = 0; kind = 0; start = 0; size = 0 }

-- a refusal has a number: so what is told, and the place of the next call, tell the step
abbrev pub Clear : Step → Type 0
Clear (Ok one) = Unit {0}
Clear (Err f) = 1 ≤ f.number
