-- Parameters one after another (document 01, The message: headers and contents take turns until the room is used up):
-- how far octets go along whole parameters, and what the octets behind them come to.
-- Assumes nothing.
use Rattle.std.specs.Prelude.{◌≡◌, ℕ, suc, ◌+◌, ◌-◌, ◌/◌, ◌%◌, ◌<◌, ◌≤◌, Bool, true, false, List, [], ◌∷◌, length, take, drop, ◌≢◌, slice_index}
use Rattle.rules.specs.Tests.{◌≤?◌, ◌=?◌, ◌and◌}
use Rattle.rules.specs.Octets.{total}
use Rattle.rules.specs.Table.{Rules, class_of, length_fits}
use Rattle.rules.specs.ContentJudge.{good_front}
use Rattle.rules.specs.Refusals.{noted}
use Rattle.rules.specs.Machine.{run, Waits}
use Rattle.rules.specs.Judge.{machine, room_fits}
use Rattle.rules.specs.declared.Class.{Class}
use Rattle.rules.specs.declared.Stage.TheVariants.{Header}
use Rattle.rules.specs.declared.State.{State}
use Rattle.rules.specs.declared.State.TheVariants.{Waiting, Message, Refused}
use Rattle.turns.specs.declared.Stop.{Stop}

abbrev pub stop : ℕ → ℕ → ℕ → ℕ → ℕ → Stop
stop k n r v b = record { number = k; place = n; room = r; sum = v; parameter = b }

-- a parameter stands whole at the front of the octets, and may stand there in the room
unfoldable pub stands : Rules → ℕ → List ℕ → Bool
stands R room [] = false
stands R room (t ∷ []) = false
stands R room (t ∷ n ∷ v) =
    (length_fits (class_of R t) n and room_fits n room)
    and (n ≤? length v and good_front (class_of R t) (take n v) =? n)

-- at a place, a type and a length that may stand in the room
abbrev pub fits_at : Rules → List ℕ → ℕ → ℕ → Bool
fits_at R o at room = length_fits (class_of R (slice_index o at)) (slice_index o (at + 1)) and room_fits (slice_index o (at + 1)) room

-- at a place, a header whose type has the class and whose length is n; contents follow it, and `left` is the room
-- after them
pub record Headed (R : Rules) (o : List ℕ) (at : ℕ) (class : Class) (n left : ℕ) : Type 0 where
  pub near : at + 2 + n + left ≤ 255
  pub begun : at + 2 < length o
  pub type : class ≡ class_of R (slice_index o at)
  pub length_is : n ≡ slice_index o (at + 1)
  pub fits : fits_at R o at (left + 2 + n) ≡ true

-- the octets of the parameter at the front: type, length and contents
unfoldable pub span_of : List ℕ → ℕ
span_of o = suc (suc (slice_index o 1))

-- the sum after some octets
abbrev pub summed : ℕ → List ℕ → ℕ
summed sum v = (sum + total v) % 256

-- From octet `at` on whole parameters follow one another to octet `to`, where none stands: the room and the sum there,
-- and the number of parameters so far.
pub data Along (R : Rules) (o : List ℕ) : ℕ → ℕ → ℕ → ℕ → ℕ → ℕ → ℕ → ℕ → Type 0 where
  stays : {at room sum count : ℕ} → stands R room (drop at o) ≡ false →
      Along R o at room sum count at room sum count
  goes : {at room sum count to left after begun : ℕ} → stands R room (drop at o) ≡ true →
      Along R o (at + span_of (drop at o)) (room - span_of (drop at o))
      (summed sum (take (span_of (drop at o)) (drop at o))) (count + 1) to left after begun →
      Along R o at room sum count to left after begun

-- what the machine says of the octets from `at` on, where a header comes in a room behind `count` parameters of these
-- octets; p octets and b parameters came before them all
abbrev pub from : Rules → List ℕ → ℕ → ℕ → ℕ → ℕ → ℕ → ℕ → State
from R o at room sum count p b =
    run (machine R) (Waiting (Header room) (record { sum = sum; place = p + at; parameter = b + count })) (drop at o)

-- where the octets from `at` on come to
pub data Turned (R : Rules) (o : List ℕ) (at room sum count : ℕ) : Stop → Type 0 where
  -- 0: to the end of a message, n octets on
  whole : (n : ℕ) → ((p b : ℕ) → from R o at room sum count p b ≡ Message (p + n)) →
      Turned R o at room sum count (stop 0 n 0 0 0)
  -- 8: to their own end; the last header on the way is at n, behind c parameters
  early : (n r v c : ℕ) → Along R o at room sum count n r v c →
      ((p b : ℕ) → Waits (from R o at room sum count p b)) → Turned R o at room sum count (stop 8 n r v c)
  -- 6: to octet n, which is no checksum
  unsealed : (n : ℕ) → ((p b : ℕ) → from R o at room sum count p b ≡ Refused (noted 6 (p + n))) →
      Turned R o at room sum count (stop 6 n 0 0 0)
  -- else to octet n, which spoils the message in parameter c
  spoilt : (k n c : ℕ) → (k ≢ 0) → (k ≢ 6) → (k ≢ 8) →
      ((p b : ℕ) → from R o at room sum count p b ≡
      Refused (record { number = k; place = p + n; parameter = b + c })) →
      Turned R o at room sum count (stop k n 0 0 c)

-- the stop that a number holds
unfoldable pub stop_in : ℕ → Stop
stop_in w =
    stop (w % 256) (w / 256 % 65536) (w / 16777216 % 256) (w / 4294967296 % 256) (w / 1099511627776 % 256)
