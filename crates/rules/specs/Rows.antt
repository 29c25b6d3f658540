-- Document 01's rows (Octets on each side of the line): what the written rules and the machine say of them, computed,
-- as one claim.
-- Assumes nothing.
use Rattle.std.specs.Prelude.{ℕ, ◌≡◌, refl, List, [], ◌∷◌}
use Rattle.std.proofs.Math.Option.{none, some}
use Rattle.rules.specs.Tests.{◌≤?◌, ◌=?◌, ◌and◌, ◌or◌, pick}
use Rattle.rules.specs.Octets.{total, checksum}
use Rattle.rules.specs.Contents.{within, in_set, digit, some_length, short_month, days}
use Rattle.rules.specs.Table.{Rules, row_in, row_of, listed_in, listed, class_of, rival_of, type_fault, class_fault, rules_of, whole}
use Rattle.rules.specs.declared.Book.TheVariants.{PresentStrict, PresentLenient, OldStrict, OldLenient}
use Rattle.rules.specs.Message as message
use Rattle.rules.specs.Message.{Parameter, body, octets, message_kind}
use Rattle.rules.specs.Counting.{first_of, counted, carried_in}
use Rattle.rules.specs.ContentJudge.{opens, tens_fit, ones_fit, pair_at, day_fits, calendar_at, calendar_keep, column_at, judge_of}
use Rattle.rules.specs.Machine.{step, run, answer}
use Rattle.rules.specs.Judge.{room_fits, range_possible, some_possible, possible, final, fits, contents, after, fault, stands_in, machine}
use Rattle.rules.specs.declared.State.{State}
use Rattle.rules.specs.declared.State.TheVariants.{Waiting, Message, Refused}

infix 20 refused◌at◌of◌
-- an answer in the words of the table
pub data RowAnswer : Type 0 where
  waits : RowAnswer
  size : ℕ → RowAnswer
  refused◌at◌of◌ : ℕ → ℕ → ℕ → RowAnswer

unfoldable pub row_answer : State → RowAnswer
row_answer (Waiting s q) = waits
row_answer (Message n) = size n
row_answer (Refused f) = refused f.number at f.place of f.parameter

abbrev pub Example : Type 0
Example = List ℕ × RowAnswer

-- every row is answered as it says
unfoldable pub answers : Rules → List Example → List RowAnswer
answers R [] = []
answers R (r ∷ rs) = row_answer (answer (machine R) r.0) ∷ answers R rs

unfoldable pub expected : List Example → List RowAnswer
expected [] = []
expected (r ∷ rs) = r.1 ∷ expected rs

-- the listener's column, all rows; those of document 02, Q-2: a 3 in February, a 31st of April, a 29th of February, a
-- day 00; and those of Q-3: behind a carried and behind an equal parameter the second one, and none at the checksum
abbrev pub listener_rows : List Example
listener_rows =
    ([], waits) ∷
    (0x81 ∷ [], refused 1 at 0 of 0) ∷
    (0x80 ∷ 0x02 ∷ [], refused 2 at 1 of 0) ∷
    (0x80 ∷ 0x03 ∷ [], waits) ∷
    (0x80 ∷ 0x0B ∷ 0x01 ∷ [], refused 3 at 2 of 1) ∷
    (0x80 ∷ 0x0A ∷ 0x01 ∷ [], waits) ∷
    (0x80 ∷ 0x0C ∷ 0x01 ∷ [], refused 3 at 2 of 1) ∷
    (0x80 ∷ 0x0D ∷ 0x01 ∷ [], waits) ∷
    (0x80 ∷ 0x16 ∷ 0x02 ∷ 0x14 ∷ [], waits) ∷
    (0x80 ∷ 0x17 ∷ 0x02 ∷ 0x14 ∷ [], refused 4 at 3 of 1) ∷
    (0x80 ∷ 0x17 ∷ 0x02 ∷ 0x15 ∷ [], refused 4 at 3 of 1) ∷
    (0x80 ∷ 0xFF ∷ 0x05 ∷ 0xFD ∷ [], waits) ∷
    (0x80 ∷ 0xFF ∷ 0x05 ∷ 0xFC ∷ [], refused 4 at 3 of 1) ∷
    (0x80 ∷ 0x0A ∷ 0x01 ∷ 0x08 ∷ 0x31 ∷ 0x33 ∷ [], refused 5 at 5 of 1) ∷
    (0x80 ∷ 0x0A ∷ 0x01 ∷ 0x08 ∷ 0x30 ∷ 0x32 ∷ 0x33 ∷ [], refused 5 at 6 of 1) ∷
    (0x80 ∷ 0x0A ∷ 0x01 ∷ 0x08 ∷ 0x30 ∷ 0x34 ∷ 0x33 ∷ 0x31 ∷ [], refused 5 at 7 of 1) ∷
    (0x80 ∷ 0x0A ∷ 0x01 ∷ 0x08 ∷ 0x30 ∷ 0x32 ∷ 0x32 ∷ 0x39 ∷ [], waits) ∷
    (0x80 ∷ 0x0A ∷ 0x01 ∷ 0x08 ∷ 0x30 ∷ 0x31 ∷ 0x30 ∷ 0x30 ∷ [], refused 5 at 7 of 1) ∷
    (0x82 ∷ 0x03 ∷ 0x0B ∷ 0x01 ∷ 0x80 ∷ [], refused 5 at 4 of 1) ∷
    (0x82 ∷ 0x03 ∷ 0x0B ∷ 0x01 ∷ 0xFF ∷ 0x70 ∷ [], size 6) ∷
    (0x82 ∷ 0x03 ∷ 0x0B ∷ 0x01 ∷ 0xFF ∷ 0x71 ∷ [], refused 6 at 5 of 0) ∷
    (0x82 ∷ 0x03 ∷ 0x0B ∷ 0x01 ∷ 0xFF ∷ 0x70 ∷ 0x00 ∷ [], size 6) ∷
    (0x82 ∷ 0x03 ∷ 0x13 ∷ 0x01 ∷ 0x02 ∷ 0x65 ∷ [], size 6) ∷
    (0x82 ∷ 0x06 ∷ 0x13 ∷ 0x01 ∷ 0x02 ∷ 0x13 ∷ 0x01 ∷ 0x05 ∷ 0x49 ∷ [], size 9) ∷
    (0x80 ∷ 0x06 ∷ 0x04 ∷ 0x01 ∷ 0x50 ∷ 0x02 ∷ 0x01 ∷ 0x37 ∷ 0xEB ∷ [], size 9) ∷
    (0x80 ∷ 0x11 ∷ 0x01 ∷ 0x08 ∷ 0x30 ∷ 0x36 ∷ 0x31 ∷ 0x35 ∷ 0x31 ∷ 0x34 ∷ 0x33 ∷ 0x30 ∷ 0x02 ∷ 0x05 ∷ 0x34 ∷ 0x30 ∷ 0x39 ∷ 0x31 ∷ 0x32 ∷ 0xCB ∷ [], size 20) ∷
    (0x80 ∷ 0x06 ∷ 0x05 ∷ 0x01 ∷ 0x00 ∷ 0x01 ∷ [], refused 3 at 5 of 2) ∷
    (0x80 ∷ 0x06 ∷ 0x05 ∷ 0x01 ∷ 0x00 ∷ 0x02 ∷ 0x02 ∷ [], refused 4 at 6 of 2) ∷
    (0x82 ∷ 0x06 ∷ 0x13 ∷ 0x01 ∷ 0x02 ∷ 0x13 ∷ 0x02 ∷ [], refused 4 at 6 of 2) ∷
    (0x80 ∷ 0x06 ∷ 0x05 ∷ 0x01 ∷ 0x00 ∷ 0x02 ∷ 0x01 ∷ 0x41 ∷ [], refused 5 at 7 of 2) ∷
    (0x82 ∷ 0x06 ∷ 0x13 ∷ 0x01 ∷ 0x02 ∷ 0x13 ∷ 0x01 ∷ 0x05 ∷ 0x48 ∷ [], refused 6 at 8 of 0) ∷
    []

-- where the other books say something else. In the strict way: a type without a row, whatever its room.
abbrev pub strict_rows : List Example
strict_rows =
    (0x80 ∷ 0x03 ∷ 0x05 ∷ [], refused 10 at 2 of 1) ∷
    (0x80 ∷ 0x04 ∷ 0x05 ∷ [], refused 10 at 2 of 1) ∷
    (0x80 ∷ 0x04 ∷ 0x04 ∷ [], refused 3 at 2 of 1) ∷
    (0x82 ∷ 0x06 ∷ 0x13 ∷ 0x01 ∷ 0x02 ∷ 0x05 ∷ [], refused 10 at 5 of 2) ∷
    (0x82 ∷ 0x03 ∷ 0x13 ∷ 0x01 ∷ 0x02 ∷ 0x65 ∷ [], size 6) ∷
    []

-- In the old edition: 19 digits, a sign that is no digit, a name of 21, a forwarding, a calling user; 08H of five
-- octets is carried.
abbrev pub old_rows : List Example
old_rows =
    (0x80 ∷ 0x14 ∷ 0x02 ∷ 0x12 ∷ [], waits) ∷
    (0x80 ∷ 0x15 ∷ 0x02 ∷ 0x13 ∷ [], refused 4 at 3 of 1) ∷
    (0x80 ∷ 0x03 ∷ 0x02 ∷ 0x01 ∷ 0x23 ∷ [], refused 5 at 4 of 1) ∷
    (0x80 ∷ 0x16 ∷ 0x07 ∷ 0x14 ∷ [], waits) ∷
    (0x80 ∷ 0x17 ∷ 0x07 ∷ 0x15 ∷ [], refused 4 at 3 of 1) ∷
    (0x80 ∷ 0x03 ∷ 0x15 ∷ 0x01 ∷ 0x80 ∷ [], refused 5 at 4 of 1) ∷
    (0x80 ∷ 0x03 ∷ 0x16 ∷ 0x01 ∷ 0x01 ∷ [], refused 5 at 4 of 1) ∷
    (0x80 ∷ 0x03 ∷ 0x16 ∷ 0x01 ∷ 0x0F ∷ [], waits) ∷
    (0x80 ∷ 0x07 ∷ 0x08 ∷ 0x05 ∷ [], waits) ∷
    []

-- And both: 03H has no row.
abbrev pub old_strict_rows : List Example
old_strict_rows =
    (0x80 ∷ 0x03 ∷ 0x02 ∷ [], waits) ∷
    (0x80 ∷ 0x03 ∷ 0x03 ∷ [], refused 10 at 2 of 1) ∷
    (0x80 ∷ 0x15 ∷ 0x02 ∷ 0x13 ∷ [], refused 4 at 3 of 1) ∷
    []

abbrev call : List Parameter → message.Message
call ps = record { kind = 0x80; parameters = ps }

abbrev notice : List Parameter → message.Message
notice ps = record { kind = 0x82; parameters = ps }

abbrev parameter : ℕ → List ℕ → Parameter
parameter t v = record { kind = t; contents = v }

-- what counts: the first waiting number; the caller's absence and no caller; of 02H 04H 02H the first 02H; carried
-- ones are numbered and never count; in the old edition 08H shuts out no name, and 13H does not count
pub record Claim : Type 0 where
  pub heard : answers (rules_of PresentLenient) listener_rows ≡ expected listener_rows
  pub strict : answers (rules_of PresentStrict) strict_rows ≡ expected strict_rows
  pub old : answers (rules_of OldLenient) old_rows ≡ expected old_rows
  pub old_strict : answers (rules_of OldStrict) old_strict_rows ≡ expected old_strict_rows
  pub lamp_octets : octets (notice (parameter 0x0B (0xFF ∷ []) ∷ [])) ≡ 0x82 ∷ 0x03 ∷ 0x0B ∷ 0x01 ∷ 0xFF ∷ 0x70 ∷ []
  pub lamp_on : counted (rules_of PresentLenient) (notice (parameter 0x0B (0xFF ∷ []) ∷ [])) 0x0B ≡ some (0xFF ∷ [])
  pub waiting_octets : octets (notice (parameter 0x13 (2 ∷ []) ∷ parameter 0x13 (5 ∷ []) ∷ [])) ≡
      0x82 ∷ 0x06 ∷ 0x13 ∷ 0x01 ∷ 0x02 ∷ 0x13 ∷ 0x01 ∷ 0x05 ∷ 0x49 ∷ []
  pub waiting_two : counted (rules_of PresentLenient)
      (notice (parameter 0x13 (2 ∷ []) ∷ parameter 0x13 (5 ∷ []) ∷ [])) 0x13 ≡ some (2 ∷ [])
  pub absent_octets : octets (call (parameter 0x04 (0x50 ∷ []) ∷ parameter 0x02 (0x37 ∷ []) ∷ [])) ≡
      0x80 ∷ 0x06 ∷ 0x04 ∷ 0x01 ∷ 0x50 ∷ 0x02 ∷ 0x01 ∷ 0x37 ∷ 0xEB ∷ []
  pub absent_counts : counted (rules_of PresentLenient)
      (call (parameter 0x04 (0x50 ∷ []) ∷ parameter 0x02 (0x37 ∷ []) ∷ [])) 0x04 ≡ some (0x50 ∷ [])
  pub no_caller : counted (rules_of PresentLenient)
      (call (parameter 0x04 (0x50 ∷ []) ∷ parameter 0x02 (0x37 ∷ []) ∷ [])) 0x02 ≡ none
  pub first_caller : counted (rules_of PresentLenient)
      (call (parameter 0x02 (0x31 ∷ []) ∷ parameter 0x04 (0x50 ∷ []) ∷ parameter 0x02 (0x37 ∷ []) ∷ [])) 0x02 ≡
      some (0x31 ∷ [])
  pub no_absence : counted (rules_of PresentLenient)
      (call (parameter 0x02 (0x31 ∷ []) ∷ parameter 0x04 (0x50 ∷ []) ∷ parameter 0x02 (0x37 ∷ []) ∷ [])) 0x04 ≡ none
  pub name_shut_out : counted (rules_of PresentLenient)
      (call (parameter 0x08 (0x4F ∷ []) ∷ parameter 0x07 (0x41 ∷ []) ∷ [])) 0x07 ≡ none
  pub carried_twice : carried_in (rules_of PresentLenient)
      (parameter 0x05 (1 ∷ []) ∷ parameter 0x13 (5 ∷ []) ∷ parameter 0x05 (2 ∷ []) ∷ []) ≡ 2
  pub old_name : counted (rules_of OldLenient) (call (parameter 0x08 (0x4F ∷ []) ∷ parameter 0x07 (0x41 ∷ []) ∷ []))
      0x07 ≡ some (0x41 ∷ [])
  pub old_waiting : counted (rules_of OldLenient) (notice (parameter 0x13 (2 ∷ []) ∷ [])) 0x13 ≡ none
  pub carried_never : counted (rules_of PresentLenient) (call (parameter 0x05 (1 ∷ []) ∷ [])) 0x05 ≡ none

pub rows : Claim
unfolding ◌≤?◌ ◌=?◌ ◌and◌ ◌or◌ pick total checksum within in_set whole digit row_in row_of listed_in listed class_of rival_of type_fault class_fault some_length rules_of body octets message_kind first_of counted carried_in opens tens_fit ones_fit pair_at day_fits calendar_at calendar_keep short_month days column_at judge_of step run room_fits range_possible some_possible possible final fits contents after fault stands_in machine row_answer answers expected
rows = record {
  heard = refl;
  strict = refl;
  old = refl;
  old_strict = refl;
  lamp_octets = refl;
  lamp_on = refl;
  waiting_octets = refl;
  waiting_two = refl;
  absent_octets = refl;
  absent_counts = refl;
  no_caller = refl;
  first_caller = refl;
  no_absence = refl;
  name_shut_out = refl;
  carried_twice = refl;
  old_name = refl;
  old_waiting = refl;
  carried_never = refl;
}
