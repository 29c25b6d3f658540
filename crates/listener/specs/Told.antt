-- What an answer of the listener tells (document 01, The forms we expect: a definition provides number and values for
-- each case).
-- Assumes nothing.
use Rattle.std.specs.Prelude.{ℕ, ◌≤◌}
use Rattle.listener.specs.declared.Answer.{Answer}
use Rattle.listener.specs.declared.Answer.TheVariants.{Waits, Message, Refused}

-- number, place and parameter of a refusal, the size of a message; 0 where there is none
pub record Told : Type 0 where
  pub number : ℕ
  pub place : ℕ
  pub parameter : ℕ
  pub size : ℕ

unfoldable pub told : Answer → Told
told Waits = record { number = 0; place = 0; parameter = 0; size = 0 }
told (Message n) = record { number = 0; place = 0; parameter = 0; size = n }
told (Refused f) = record { number = f.number; place = f.place; parameter = f.parameter; size = 0 }

-- it waits
abbrev pub waiting : Told
waiting = record { number = 0; place = 0; parameter = 0; size = 0 }

-- a message of n octets
abbrev pub success : ℕ → Told
success n = record { number = 0; place = 0; parameter = 0; size = n }

-- a refusal with number k at p, in parameter b
abbrev pub refusal : ℕ → ℕ → ℕ → Told
refusal k p b = record { number = k; place = p; parameter = b; size = 0 }

-- a message has a size, and a refusal a number: so what is told tells the answer
abbrev pub Clear : Answer → Type 0
Clear Waits = Unit {0}
Clear (Message n) = 1 ≤ n
Clear (Refused f) = 1 ≤ f.number
