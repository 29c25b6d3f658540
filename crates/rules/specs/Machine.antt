-- A machine that judges octets one by one as they come, keeps their sum modulo 256, the place and the number of the
-- parameter, and keeps no octet.
-- Assumes nothing.
use Rattle.std.specs.Prelude.{ℕ, suc, ◌+◌, ◌%◌, Bool, List, [], ◌∷◌}
use Rattle.rules.specs.Tests.{◌=?◌, pick}
use Rattle.rules.specs.Octets.{checksum}
use Rattle.rules.specs.Refusals.{noted}
use Rattle.rules.specs.declared.Stage.{Stage}
use Rattle.rules.specs.declared.Spot.{Spot}
use Rattle.rules.specs.declared.State.{State}
use Rattle.rules.specs.declared.State.TheVariants.{Waiting, Message, Refused}

-- where it begins; whether the checksum comes; whether an octet may come; the stage after it; the number of its
-- refusal; the parameter that it stands in, where it is not the checksum and so many began before it: from 1, and 0 in
-- none
pub record Machine : Type 0 where
  pub first : Stage
  pub final : Stage → Bool
  pub fits : Stage → ℕ → Bool
  pub after : Stage → ℕ → Stage
  pub fault : Stage → ℕ → ℕ
  pub stands_in : Stage → ℕ → ℕ

-- the spot after an octet that a stage took
abbrev pub moved : Machine → Stage → Spot → ℕ → Spot
moved M s q x = record {
  sum = (q.sum + x) % 256;
  place = suc q.place;
  parameter = M.stands_in s q.parameter;
}

-- a stage's octet at a spot is refused with a number, and with the parameter that it stands in
abbrev pub declined : Machine → Stage → ℕ → Spot → State
declined M s k q = Refused (record { number = k; place = q.place; parameter = M.stands_in s q.parameter })

unfoldable pub step : Machine → State → ℕ → State
step M (Waiting s q) x =
    pick (M.final s)
    (pick (x =? checksum q.sum) (Message (suc q.place)) (Refused (noted 6 q.place)))
    (pick (M.fits s x) (Waiting (M.after s x) (moved M s q x)) (declined M s (M.fault s x) q))
step M (Message n) x = Message n
step M (Refused f) x = Refused f

unfoldable pub run : Machine → State → List ℕ → State
run M w [] = w
run M w (x ∷ h) = run M (step M w x) h

abbrev pub fresh : Spot
fresh = record { sum = 0; place = 0; parameter = 0 }

abbrev pub start : Machine → State
start M = Waiting M.first fresh

-- what it says of the octets heard since the start
abbrev pub answer : Machine → List ℕ → State
answer M h = run M (start M) h

abbrev pub Waits : State → Type 0
Waits (Waiting s q) = Unit {0}
Waits (Message n) = ⊥
Waits (Refused f) = ⊥

-- how many octets led to a state
abbrev pub place : State → ℕ
place (Waiting s q) = q.place
place (Message n) = n
place (Refused f) = suc f.place
