-- The record of a listener: 16 octets, and what they stand for.
-- octet 0 the stage's code; 1 the sum; 2 and 3 the place, low octet first; 4 the class's code; 5 the length; 6 the
-- index; 7 the memory; 8 the room;
-- 9 the number of a refusal; 10 the parameter; 11 the edition; 12 the way; 13 to 15 are 0, kept for what may come.
-- Assumes nothing.
use Rattle.std.specs.Prelude.{ℕ, ◌+◌, ◌*◌, ◌/◌, ◌%◌, Bool, List, [], ◌∷◌, length, get_or, Option, Some, None}
use Rattle.rules.specs.Tests.{◌≤?◌, ◌=?◌, pick}
use Rattle.rules.specs.Refusals.{noted_in}
use Rattle.rules.specs.Codes.{class_code, class_coded, code_in}
use Rattle.rules.specs.declared.Spot.{Spot}
use Rattle.rules.specs.declared.Stage.{Stage}
use Rattle.rules.specs.declared.Stage.TheVariants.{Kind, Size, Header, Length, Content}
use Rattle.rules.specs.declared.State.{State}
use Rattle.rules.specs.declared.State.TheVariants.{Waiting, Message, Refused}
use Rattle.listener.specs.declared.Listener.{Listener}
use Rattle.firmware.specs.declared.Fields.{Fields}
use Rattle.firmware.specs.Sizes.{listener_size}

unfoldable pub fields_of : List ℕ → Fields
fields_of c = record {
  stage = get_or c 0 0;
  sum = get_or c 1 0;
  place = get_or c 2 0 + 256 * get_or c 3 0;
  class = get_or c 4 0;
  length = get_or c 5 0;
  index = get_or c 6 0;
  memory = get_or c 7 0;
  room = get_or c 8 0;
  number = get_or c 9 0;
  parameter = get_or c 10 0;
  spare = get_or c 13 0 + 256 * get_or c 14 0 + 65536 * get_or c 15 0;
}

-- the fields of each state; what it does not use is 0
unfoldable pub fields_waiting : ℕ → Spot → ℕ → ℕ → ℕ → ℕ → ℕ → Fields
fields_waiting s q c n i m r =
    record {
      stage = s;
      sum = q.sum;
      place = q.place;
      class = c;
      length = n;
      index = i;
      memory = m;
      room = r;
      number = 0;
      parameter = q.parameter;
      spare = 0;
    }

unfoldable pub fields_at : Stage → Spot → Fields
fields_at Kind q = fields_waiting 0 q 0 0 0 0 0
fields_at Size q = fields_waiting 1 q 0 0 0 0 0
fields_at (Header r) q = fields_waiting 2 q 0 0 0 0 r
fields_at (Length c r) q = fields_waiting 3 q (class_code c) 0 0 0 r
fields_at (Content c n i m r) q = fields_waiting 4 q (class_code c) n i m r

unfoldable pub fields_ended : ℕ → ℕ → ℕ → ℕ → Fields
fields_ended s p k b =
    record {
      stage = s;
      sum = 0;
      place = p;
      class = 0;
      length = 0;
      index = 0;
      memory = 0;
      room = 0;
      number = k;
      parameter = b;
      spare = 0;
    }

unfoldable pub fields_for : State → Fields
fields_for (Waiting s q) = fields_at s q
fields_for (Message n) = fields_ended 5 n 0 0
fields_for (Refused f) = fields_ended 6 f.place f.number f.parameter

-- an edition, a way and fields as 16 octets
unfoldable pub laid_fields : ℕ → ℕ → Fields → List ℕ
laid_fields e y f =
    f.stage ∷ f.sum ∷ f.place % 256 ∷ f.place /
    256 ∷ f.class ∷ f.length ∷ f.index ∷ f.memory ∷ f.room ∷ f.number ∷ f.parameter ∷ e ∷ y ∷ 0 ∷ 0 ∷ 0 ∷ []

unfoldable pub record_of : Listener → List ℕ
record_of l = laid_fields l.edition l.way (fields_for l.state)

-- ---- back
-- a listener of an edition and a way
unfoldable pub known : ℕ → ℕ → Bool → State → Option Listener
known e y ok s = pick ok (Some (record { edition = e; way = y; state = s })) None

abbrev pub spot_of : Fields → Spot
spot_of f = record { sum = f.sum; place = f.place; parameter = f.parameter }

-- Where something is unused it must be 0; idle is the sum of what is.
-- before a parameter: the message type, L, a parameter type or the checksum is to come
unfoldable pub opening_of : ℕ → ℕ → ℕ → Spot → ℕ → ℕ → Option Listener
opening_of e y s q r idle =
    pick (s =? 0) (known e y (idle + r =? 0) (Waiting Kind q))
    (pick (s =? 1) (known e y (idle + r =? 0) (Waiting Size q))
    (known e y (idle =? 0) (Waiting (Header r) q)))

-- in a parameter, of a class that the edition has by the way: its length or an octet of its contents is to come
unfoldable pub parameter_state : ℕ → ℕ → ℕ → Spot → ℕ → ℕ → ℕ → ℕ → ℕ → ℕ → Option Listener
parameter_state e y s q c n i m r idle =
    pick (code_in e y c)
    (pick (s =? 3) (known e y (n + i + m + idle =? 0) (Waiting (Length (class_coded c) r) q))
    (known e y (idle =? 0) (Waiting (Content (class_coded c) n i m r) q)))
    None

-- a message or a refusal
unfoldable pub ended_of : ℕ → ℕ → ℕ → ℕ → ℕ → ℕ → ℕ → Option Listener
ended_of e y s p k b idle =
    pick (s =? 5) (known e y (idle + k + b =? 0) (Message p))
    (pick (s =? 6) (known e y (idle =? 0) (Refused (noted_in k p b)))
    None)

unfoldable pub state_of : ℕ → ℕ → Fields → Option Listener
state_of e y f =
    pick (f.stage ≤? 2) (opening_of e y f.stage (spot_of f) f.room
    (f.class + f.length + f.index + f.memory + f.number + f.spare))
    (pick (f.stage ≤? 4) (parameter_state e y f.stage (spot_of f) f.class f.length f.index f.memory
    f.room (f.number + f.spare))
    (ended_of e y f.stage f.place f.number f.parameter
    (f.class + f.length + f.index + f.memory + f.sum + f.room + f.spare)))

-- a record of another size stands for nothing
unfoldable pub decode_of : List ℕ → Option Listener
decode_of c = pick (length c =? listener_size) (state_of (get_or c 11 0) (get_or c 12 0) (fields_of c)) None
