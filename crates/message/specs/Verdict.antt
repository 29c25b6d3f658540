-- The verdict on any octets (document 01, Numbers): what the machine says of them, and 8 or 7 where they end early or
-- go on behind the message.
-- Assumes nothing.
use Rattle.std.specs.Prelude.{ℕ, List, length, Result, Ok, Err}
use Rattle.rules.specs.Tests.{◌=?◌, pick}
use Rattle.rules.specs.Table.{Rules}
use Rattle.rules.specs.Refusals.{noted, noted_in}
use Rattle.rules.specs.Machine.{answer}
use Rattle.rules.specs.Judge.{machine}
use Rattle.rules.specs.declared.State.{State}
use Rattle.rules.specs.declared.State.TheVariants.{Waiting, Message, Refused}
use Rattle.rules.specs.declared.Fault.{Fault}

-- ---- the verdict
-- 8 at the number of octets while a message can still be completed; a message, or 7 at its size where octets follow;
-- 1 to 6 and 10 as the machine gives them
unfoldable pub judged : List ℕ → State → Result ℕ Fault
judged o (Waiting s q) = Err (noted 8 (length o))
judged o (Message n) = pick (length o =? n) (Ok n) (Err (noted 7 n))
judged o (Refused f) = Err f

unfoldable pub verdict_of : Rules → List ℕ → Result ℕ Fault
verdict_of R o = judged o (answer (machine R) o)

-- ---- the verdict where the parameters came to a stop: with a number, at a place, in a parameter
unfoldable pub verdict_at : List ℕ → ℕ → ℕ → ℕ → Result ℕ Fault
verdict_at o k p b =
    pick (k =? 0)
    (pick (length o =? p) (Ok p) (Err (noted 7 p)))
    (pick (k =? 8) (Err (noted 8 (length o))) (Err (noted_in k p b)))
