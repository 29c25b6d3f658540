-- Document 01's rows marked P (Octets on each side of the line) and those of document 02, Q-2, Q-3, Q-4, Q-5 and
-- Q-11, one list under one claim over the promises of `reset_way` and `reset`, `listen`, `read_way` and `read`,
-- `write`, `settle` and `counted`, whatever outcomes they allow.
-- Assumes nothing.
use Rattle.desk.specs.Told.{Settling}
use Rattle.std.proofs.Common.{Err, Option, Ok, Some, None}
use Prim.Native.Nat.{ℕ}
use mathlib.Core.Path.{◌≡◌, refl, ◌∙◌, ap}
use mathlib.Core.List.{List, [], ◌∷◌, ◌++◌}
use mathlib.Core.Option.{Option as Maybe, none, some}
use lib.ListN.{length, replicate}
use lib.Dec.{T}
use Rattle.rules.specs.Tests.{◌≤?◌, ◌=?◌, ◌and◌, ◌or◌, pick}
use Rattle.rules.specs.Octets.{total, checksum}
use Rattle.rules.specs.Contents.{within, in_set, digit, pair_fits, pairs_fit, all_in, head_fits, some_length, short_month, days, month_of}
use Rattle.rules.specs.Table.{rules_of, class_fault, row_in, row_of, listed_in, listed, class_of, rival_of, type_fault, form_of, whole, form_number}
use Rattle.rules.specs.Editions.{strict, lenient, edition, known, book_of, named_by}
use Rattle.rules.specs.Message.{body, octets, message_kind}
use Rattle.rules.specs.Charge.{dash, comma, missing, amount_by, amount_keep, currency_by, flags_at, flags_keep, charge_by, charge_keep}
use Rattle.rules.specs.Charge.{units as in_units}
use Rattle.rules.specs.Terminal.{terminal_by, terminal_keep}
use Rattle.rules.specs.Extension.{blank, extension_by, extension_keep}
use Rattle.rules.specs.ContentJudge.{opens, tens_fit, ones_fit, pair_at, day_fits, calendar_at, calendar_keep, column_at, head_by, judge_of}
use Rattle.rules.specs.Refusals.{noted_in}
use Rattle.rules.specs.Machine.{step, run}
use Rattle.rules.specs.Judge.{room_fits, range_possible, some_possible, possible, final, fits, contents, after, fault, stands_in, machine, place_fits, count_fits, in_range}
use Rattle.listener.specs.declared.Answer.{Answer}
use Rattle.listener.specs.declared.Answer.TheVariants as answer
use Rattle.listener.specs.declared.Listener.{Listener}
use Rattle.listener.specs.declared.Heard.{Heard}
use Rattle.listener.proofs.Promised as listener
use Rattle.listener.specs.Heard.{new_listener, heard_in, heard_of, answer_of, taken, stopped}
use Rattle.message.specs.declared.Part.{Part}
use Rattle.message.specs.Verdict.{judged, verdict_of}
use Rattle.message.proofs.Promised as message
use Rattle.message.specs.Parts.{parameter_at, matched, search_from, counted_at, part_of}
use Rattle.reader.specs.declared.Reading.{Reading}
use Rattle.reader.proofs.Promised as reader
use Rattle.reader.specs.Read.{pack_from, pack_of, read_of}
use Rattle.draft.specs.Meaning.{kind_of, form_is, tens, ones, seconds_said, spelled}
use Rattle.draft.specs.Draft.{meaning_of, inside, parameter_of, parameters_of, message_of}
use Rattle.draft.specs.declared.Value.TheVariants.{Date, Moment, Marked}
use Rattle.draft.specs.declared.Draft.{Draft}
use Rattle.writer.specs.Writing.{Writing}
use Rattle.writer.specs.Told.{Told, told, success, refusal}
use Rattle.writer.specs.Writing.{legal_entry, legal_before, sized, measured_of, write_of, write_in}
use Rattle.writer.specs.Rows.{one}
use Rattle.writer.proofs.Promised as writer
use Rattle.desk.specs.declared.Desk.{Desk}
use Rattle.desk.specs.Told as desk_told
use Rattle.desk.proofs.Promised as desk
use Rattle.desk.specs.declared.Lamp.TheVariants as lamp
use Rattle.rules.specs.First.{index_of}
use Rattle.desk.specs.References.{absent, may_stand, places_fit, change_by, is_full, places_after}
use Rattle.desk.specs.Settle.{new_desk, waiting_after, lamp_after, change_in, change_of, noticed, counted_in, settled_notice, settled_message, settled_under, refused_with, settle_of, settle_in}

-- what a row says of its octets
pub data Outcomes : Type 0 where
  -- a new listener that hears them in one run answers this
  heard : Answer → Outcomes
  -- a whole read of them, whatever the area, is refused with a number at a place, in a parameter or, with 0, in none
  unread : ℕ → ℕ → ℕ → Outcomes
  -- both refuse so
  refused : ℕ → ℕ → ℕ → Outcomes
  -- the contents of a type that count in them
  counts : ℕ → Maybe (List ℕ) → Outcomes
  -- settled on a new desk, they are done and leave this desk
  settles : Desk → Outcomes
  -- a draft without texts says them, and written into an output as long as they are it is answered so
  writes : Draft → Told → Outcomes

-- by one way, or by the strict and the lenient one
pub data Ways : Type 0 where
  by : ℕ → Ways
  both : Ways

pub record Example : Type 0 where
  pub edition : ℕ
  pub ways : Ways
  pub octets : List ℕ
  pub outcome : Outcomes

-- ---- when it is true: of every outcome that a promise allows, by the row's edition and way; by the strict one also of
-- those of the functions that name none (`ResetGives`, `ReadGives`)
abbrev HeardAs : ℕ → ℕ → List ℕ → Answer → Type 0
HeardAs v y o w =
    (l : Listener) → listener.ResetGives v y l → (r : Heard) → listener.ListenGives l o r → r.answer ≡ w

abbrev ReadAs : ℕ → ℕ → List ℕ → ℕ → ℕ → ℕ → Type 0
ReadAs v y o k p b =
    (old : List ℕ) (r : Reading) (area : List ℕ) → reader.ReadGives v y o old r area →
    r.answer ≡ Err (noted_in k p b)

abbrev pub Holds : ℕ → ℕ → List ℕ → Outcomes → Type 0
Holds v y o (heard w) = HeardAs v y o w
Holds v y o (unread k p b) = ReadAs v y o k p b
Holds v y o (refused k p b) = HeardAs v y o (answer.Refused (noted_in k p b)) × ReadAs v y o k p b
Holds v y o (counts t c) = (p : Option Part) → message.CountedGives (book_of v y) o t p → part_of o p ≡ c
Holds v y o (settles d) =
    (r : Settling) → desk.SettleGives v y new_desk o r →
    r ≡ record { edition = v; answer = record { desk = d; answer = Ok tt } }
Holds v y o (writes d a) =
    (octets (message_of d []) ≡ o) × (d.edition ≡ v)
    × ((old : List ℕ) (w : Writing) (out : List ℕ) → length old ≡ length o →
    writer.WriteGives y d [] old w out → told w.answer ≡ a)

abbrev pub HoldsBy : ℕ → Ways → List ℕ → Outcomes → Type 0
HoldsBy v (by y) o x = Holds v y o x
HoldsBy v both o x = Holds v strict o x × Holds v lenient o x

abbrev pub All : List Example → Type 0
All [] = Unit {0}
All (r ∷ rs) = HoldsBy r.edition r.ways r.octets r.outcome × All rs

-- ---- the rows
-- document 01's, by both ways
abbrev says : List ℕ → Outcomes → Example
says o x = record { edition = 0; ways = both; octets = o; outcome = x }

-- those with 05H read lenient (document 02, Q-11)
abbrev carries : List ℕ → Outcomes → Example
carries o x = record { edition = 0; ways = by lenient; octets = o; outcome = x }

-- by the old edition, and by one that is none (document 02, Q-5)
abbrev old : List ℕ → Outcomes → Example
old o x = record { edition = 1; ways = by lenient; octets = o; outcome = x }

abbrev unknown : List ℕ → Outcomes → Example
unknown o x = record { edition = 2; ways = both; octets = o; outcome = x }

-- by the strict way of both editions, and by a way that is none (document 02, Q-11)
abbrev strictly : List ℕ → Outcomes → Example
strictly o x = record { edition = 0; ways = by strict; octets = o; outcome = x }

abbrev old_strictly : List ℕ → Outcomes → Example
old_strictly o x = record { edition = 1; ways = by strict; octets = o; outcome = x }

abbrev no_way : List ℕ → Outcomes → Example
no_way o x = record { edition = 0; ways = by 2; octets = o; outcome = x }

abbrev lamp_on : List ℕ
lamp_on = 0x82 ∷ 0x03 ∷ 0x0B ∷ 0x01 ∷ 0xFF ∷ 0x70 ∷ []

abbrev twice_waiting : List ℕ
twice_waiting = 0x82 ∷ 0x06 ∷ 0x13 ∷ 0x01 ∷ 0x02 ∷ 0x13 ∷ 0x01 ∷ 0x05 ∷ 0x49 ∷ []

abbrev no_caller : List ℕ
no_caller = 0x80 ∷ 0x06 ∷ 0x04 ∷ 0x01 ∷ 0x50 ∷ 0x02 ∷ 0x01 ∷ 0x37 ∷ 0xEB ∷ []

-- document 02, Q-2: a call message with a date alone, 0:00 on a day
abbrev midnight : ℕ → ℕ → Draft
midnight month day = one 0x01 (Date month day 0 0)

abbrev old_midnight : ℕ → ℕ → Draft
old_midnight month day =
    record { kind = 0x80; edition = 1; count = 1; entries = (midnight month day).entries }

abbrev april_31 : List ℕ
april_31 = 0x80 ∷ 0x0A ∷ 0x01 ∷ 0x08 ∷ 0x30 ∷ 0x34 ∷ 0x33 ∷ 0x31 ∷ 0x30 ∷ 0x30 ∷ 0x30 ∷ 0x30 ∷ 0xE5 ∷ []

abbrev february_30 : List ℕ
february_30 = 0x80 ∷ 0x0A ∷ 0x01 ∷ 0x08 ∷ 0x30 ∷ 0x32 ∷ 0x33 ∷ 0x30 ∷ 0x30 ∷ 0x30 ∷ 0x30 ∷ 0x30 ∷ 0xE8 ∷ []

abbrev february_29 : List ℕ
february_29 = 0x80 ∷ 0x0A ∷ 0x01 ∷ 0x08 ∷ 0x30 ∷ 0x32 ∷ 0x32 ∷ 0x39 ∷ 0x30 ∷ 0x30 ∷ 0x30 ∷ 0x30 ∷ 0xE0 ∷ []

-- document 02, Q-4: source 004, annex D, a cost, units alone (by its title), units and their price; table 33, a display
-- without characters; moments without seconds and at second 0
abbrev cost : List ℕ
cost = 0x46 ∷ 0x52 ∷ 0x46 ∷ 0x00 ∷ 0x30 ∷ 0x30 ∷ 0x30 ∷ 0x30 ∷ 0x30 ∷ 0x32 ∷ 0x33 ∷ 0x2C ∷ 0x34 ∷ 0x35 ∷ []

abbrev units : List ℕ
units = 0x2D ∷ 0x2D ∷ 0x2D ∷ 0x10 ∷ 0x30 ∷ 0x30 ∷ 0x30 ∷ 0x32 ∷ 0x33 ∷ 0x2D ∷ 0x2D ∷ 0x2D ∷ 0x2D ∷ 0x2D ∷ []

abbrev priced : List ℕ
priced = 0x44 ∷ 0x45 ∷ 0x4D ∷ 0x10 ∷ 0x30 ∷ 0x30 ∷ 0x30 ∷ 0x37 ∷ 0x38 ∷ 0x30 ∷ 0x30 ∷ 0x2C ∷ 0x31 ∷ 0x32 ∷ []

abbrev charged : List ℕ → ℕ → List ℕ
charged v sum = 0x80 ∷ 0x10 ∷ 0x20 ∷ 0x0E ∷ v ++ sum ∷ []

abbrev no_characters : List ℕ
no_characters = 0x80 ∷ 0x03 ∷ 0x50 ∷ 0x01 ∷ 0xF0 ∷ 0x3C ∷ []

abbrev no_seconds : List ℕ
no_seconds = 0x80 ∷ 0x0A ∷ 0x0F ∷ 0x08 ∷ 0x30 ∷ 0x36 ∷ 0x31 ∷ 0x35 ∷ 0x31 ∷ 0x34 ∷ 0x33 ∷ 0x30 ∷ 0xCB ∷ []

abbrev second_0 : List ℕ
second_0 =
    0x80 ∷ 0x0C ∷ 0x0F ∷ 0x0A ∷ 0x30 ∷ 0x36 ∷ 0x31 ∷ 0x35 ∷ 0x31 ∷ 0x34 ∷ 0x33 ∷ 0x30 ∷ 0x30 ∷ 0x30 ∷ 0x67 ∷ []

abbrev two_wait : Desk
two_wait = record { waiting = Some 2; lamp = lamp.Unknown; places = replicate 16 0 }

abbrev lit : Desk
lit = record { waiting = None; lamp = lamp.On; places = replicate 16 0 }

abbrev pub documents : List Example
documents =
    says [] (heard answer.Waits) ∷
    says [] (unread 8 0 0) ∷
    says (0x81 ∷ []) (refused 1 0 0) ∷
    says (0x80 ∷ 0x02 ∷ []) (refused 2 1 0) ∷
    says (0x80 ∷ 0x0B ∷ 0x01 ∷ []) (refused 3 2 1) ∷
    says (0x80 ∷ 0x0A ∷ 0x01 ∷ []) (heard answer.Waits) ∷
    says (0x80 ∷ 0x17 ∷ 0x02 ∷ 0x14 ∷ []) (refused 4 3 1) ∷
    says (0x80 ∷ 0x0A ∷ 0x01 ∷ 0x08 ∷ 0x31 ∷ 0x33 ∷ []) (refused 5 5 1) ∷
    says (0x82 ∷ 0x03 ∷ 0x0B ∷ 0x01 ∷ 0x80 ∷ []) (refused 5 4 1) ∷
    says lamp_on (heard (answer.Message 6)) ∷
    says lamp_on (settles lit) ∷
    says (0x82 ∷ 0x03 ∷ 0x0B ∷ 0x01 ∷ 0xFF ∷ 0x71 ∷ []) (refused 6 5 0) ∷
    says (0x82 ∷ 0x03 ∷ 0x0B ∷ 0x01 ∷ 0xFF ∷ 0x70 ∷ 0x00 ∷ []) (heard (answer.Message 6)) ∷
    says (0x82 ∷ 0x03 ∷ 0x0B ∷ 0x01 ∷ 0xFF ∷ 0x70 ∷ 0x00 ∷ []) (unread 7 6 0) ∷
    says twice_waiting (heard (answer.Message 9)) ∷
    says twice_waiting (counts 0x13 (some (0x02 ∷ []))) ∷
    says twice_waiting (settles two_wait) ∷
    says no_caller (heard (answer.Message 9)) ∷
    says no_caller (counts 0x04 (some (0x50 ∷ []))) ∷
    says no_caller (counts 0x02 none) ∷
    says no_caller (settles new_desk) ∷
    says (0x80 ∷ 0x0A ∷ 0x01 ∷ 0x08 ∷ 0x30 ∷ 0x32 ∷ 0x33 ∷ []) (refused 5 6 1) ∷
    says (0x80 ∷ 0x0A ∷ 0x01 ∷ 0x08 ∷ 0x30 ∷ 0x34 ∷ 0x33 ∷ 0x31 ∷ []) (refused 5 7 1) ∷
    says (0x80 ∷ 0x0A ∷ 0x01 ∷ 0x08 ∷ 0x30 ∷ 0x32 ∷ 0x32 ∷ 0x39 ∷ []) (heard answer.Waits) ∷
    says april_31 (writes (midnight 4 31) (refusal 12 0)) ∷
    says february_30 (writes (midnight 2 30) (refusal 12 0)) ∷
    says february_29 (writes (midnight 2 29) (success 13)) ∷
    carries (0x80 ∷ 0x06 ∷ 0x05 ∷ 0x01 ∷ 0x00 ∷ 0x01 ∷ []) (refused 3 5 2) ∷
    carries (0x80 ∷ 0x06 ∷ 0x05 ∷ 0x01 ∷ 0x00 ∷ 0x02 ∷ 0x02 ∷ []) (refused 4 6 2) ∷
    says (0x82 ∷ 0x06 ∷ 0x13 ∷ 0x01 ∷ 0x02 ∷ 0x13 ∷ 0x02 ∷ []) (refused 4 6 2) ∷
    carries (0x80 ∷ 0x06 ∷ 0x05 ∷ 0x01 ∷ 0x00 ∷ 0x02 ∷ 0x01 ∷ 0x41 ∷ []) (refused 5 7 2) ∷
    says (0x82 ∷ 0x06 ∷ 0x13 ∷ 0x01 ∷ 0x02 ∷ 0x13 ∷ 0x01 ∷ 0x05 ∷ 0x48 ∷ []) (refused 6 8 0) ∷
    old (0x80 ∷ 0x14 ∷ 0x02 ∷ 0x12 ∷ []) (heard answer.Waits) ∷
    old (0x80 ∷ 0x15 ∷ 0x02 ∷ 0x13 ∷ []) (refused 4 3 1) ∷
    says (0x80 ∷ 0x15 ∷ 0x02 ∷ 0x13 ∷ []) (heard answer.Waits) ∷
    old (0x80 ∷ 0x03 ∷ 0x02 ∷ 0x01 ∷ 0x2A ∷ []) (refused 5 4 1) ∷
    old (0x80 ∷ 0x03 ∷ 0x16 ∷ 0x01 ∷ 0x01 ∷ []) (refused 5 4 1) ∷
    old (0x80 ∷ 0x03 ∷ 0x16 ∷ 0x01 ∷ 0x03 ∷ []) (heard answer.Waits) ∷
    old (0x80 ∷ 0x07 ∷ 0x08 ∷ 0x05 ∷ 0x41 ∷ []) (heard answer.Waits) ∷
    old lamp_on (settles lit) ∷
    old twice_waiting (counts 0x13 none) ∷
    old twice_waiting (settles new_desk) ∷
    old february_30 (writes (old_midnight 2 30) (refusal 12 0)) ∷
    old (0x80 ∷ 0x06 ∷ 0x08 ∷ 0x01 ∷ 0x4F ∷ 0x07 ∷ 0x01 ∷ 0x41 ∷ 0xD9 ∷ []) (counts 0x07 (some (0x41 ∷ []))) ∷
    says (0x80 ∷ 0x06 ∷ 0x08 ∷ 0x01 ∷ 0x4F ∷ 0x07 ∷ 0x01 ∷ 0x41 ∷ 0xD9 ∷ []) (counts 0x07 none) ∷
    unknown [] (refused 16 0 0) ∷
    unknown (0x81 ∷ []) (refused 16 0 0) ∷
    says (0x80 ∷ 0x03 ∷ []) (heard answer.Waits) ∷
    strictly (0x80 ∷ 0x03 ∷ 0x05 ∷ []) (refused 10 2 1) ∷
    carries (0x80 ∷ 0x03 ∷ 0x05 ∷ []) (heard answer.Waits) ∷
    strictly (0x80 ∷ 0xFF ∷ 0x05 ∷ []) (refused 10 2 1) ∷
    strictly (0x82 ∷ 0x06 ∷ 0x13 ∷ 0x01 ∷ 0x02 ∷ 0x05 ∷ []) (refused 10 5 2) ∷
    strictly (0x82 ∷ 0x03 ∷ 0x13 ∷ []) (heard answer.Waits) ∷
    old_strictly (0x82 ∷ 0x03 ∷ 0x13 ∷ []) (refused 10 2 1) ∷
    old_strictly (0x82 ∷ 0x03 ∷ 0x0B ∷ []) (heard answer.Waits) ∷
    says (0x80 ∷ 0x0A ∷ 0x0F ∷ []) (heard answer.Waits) ∷
    says (0x80 ∷ 0x0B ∷ 0x0F ∷ []) (refused 3 2 1) ∷
    says (0x80 ∷ 0x0C ∷ 0x0F ∷ []) (heard answer.Waits) ∷
    says (0x80 ∷ 0x0D ∷ 0x0F ∷ []) (heard answer.Waits) ∷
    says (0x80 ∷ 0x0D ∷ 0x0F ∷ 0x09 ∷ []) (refused 4 3 1) ∷
    says (0x80 ∷ 0x03 ∷ 0x40 ∷ []) (refused 3 2 1) ∷
    says (0x80 ∷ 0x04 ∷ 0x40 ∷ []) (heard answer.Waits) ∷
    says (0x80 ∷ 0x10 ∷ 0x20 ∷ 0x0E ∷ 0x46 ∷ 0x52 ∷ 0x46 ∷ 0x08 ∷ []) (refused 5 7 1) ∷
    says (0x80 ∷ 0x10 ∷ 0x20 ∷ 0x0E ∷ 0x2D ∷ 0x2D ∷ 0x2D ∷ 0x00 ∷ []) (refused 5 7 1) ∷
    says (0x80 ∷ 0x10 ∷ 0x20 ∷ 0x0E ∷ 0x46 ∷ 0x52 ∷ 0x46 ∷ 0x00 ∷ 0x2C ∷ 0x2C ∷ []) (refused 5 9 1) ∷
    says (0x80 ∷ 0x10 ∷ 0x20 ∷ 0x0E ∷ 0x46 ∷ 0x52 ∷ 0x46 ∷ 0x10 ∷ 0x2C ∷ []) (refused 5 8 1) ∷
    says (0x80 ∷ 0x04 ∷ 0x40 ∷ 0x02 ∷ 0x01 ∷ []) (heard answer.Waits) ∷
    says (0x80 ∷ 0x05 ∷ 0x40 ∷ 0x03 ∷ 0x01 ∷ []) (refused 5 4 1) ∷
    says (0x80 ∷ 0x0C ∷ 0xE0 ∷ 0x0A ∷ 0x33 ∷ 0x20 ∷ 0x33 ∷ []) (refused 5 6 1) ∷
    says (0x80 ∷ 0x04 ∷ 0x50 ∷ 0x02 ∷ 0x02 ∷ []) (refused 5 4 1) ∷
    says (charged cost 0x7A) (heard (answer.Message 19)) ∷
    says (charged cost 0x7A) (counts 0x20 (some cost)) ∷
    says (charged units 0xD5) (heard (answer.Message 19)) ∷
    says (charged units 0xD5) (counts 0x20 (some units)) ∷
    says (charged priced 0x6E) (heard (answer.Message 19)) ∷
    says (charged priced 0x6E) (counts 0x20 (some priced)) ∷
    says no_characters (heard (answer.Message 6)) ∷
    says no_characters (writes (one 0x50 (Marked 0xF0 0 0)) (success 6)) ∷
    says no_seconds (writes (one 0x0F (Moment 6 15 14 30 0)) (success 13)) ∷
    says second_0 (writes (one 0x0F (Moment 6 15 14 30 1)) (success 15)) ∷
    old (0x80 ∷ 0x0B ∷ 0x0F ∷ 0x09 ∷ []) (heard answer.Waits) ∷
    old_strictly (0x80 ∷ 0x0B ∷ 0x0F ∷ []) (refused 10 2 1) ∷
    no_way [] (refused 16 0 0) ∷
    []

-- ---- a row is true where its outcome is computed
hears : (v y : ℕ) (o : List ℕ) (w : Answer) → (heard_of (new_listener v y) o).answer ≡ w → HeardAs v y o w
hears v y o w e l n r h =
    ap (λ (x : Heard). x.answer) (listener.listen_is l o r h)
    ∙ ap (λ (x : Listener). (heard_of x o).answer) (listener.reset_is_new v y l n) ∙ e

reads : (v y : ℕ) (o : List ℕ) (k p b : ℕ) → T (known v y) →
    verdict_of (rules_of (book_of v y)) o ≡ Err (noted_in k p b) → ReadAs v y o k p b
unfolding read_of pack_of pack_from
reads v y o k p b t e old r area h =
    ap (λ (x : Reading). x.answer) (reader.read_is v y o old r area h t).0
    ∙ ap (pack_from (rules_of (book_of v y)) o (length old)) e

unreadable_by : (v y : ℕ) (o : List ℕ) → (T (known v y) → ⊥) → ReadAs v y o 16 0 0
unreadable_by v y o n old r area h = ap (λ (x : Reading). x.answer) (reader.read_none v y o old r area h n).0

finds : (v y : ℕ) (o : List ℕ) (t : ℕ) (c : Maybe (List ℕ)) →
    part_of o (counted_at (rules_of (book_of v y)) o t) ≡ c → Holds v y o (counts t c)
finds v y o t c e p h = ap (part_of o) (message.counted_is (book_of v y) o t p h) ∙ e

leaves : (v y : ℕ) (o : List ℕ) (d : Desk) →
    settle_in v y new_desk o ≡ (record { edition = v; answer = record { desk = d; answer = Ok tt } }) →
    Holds v y o (settles d)
leaves v y o d e r h = desk.settle_is v y new_desk o r h ∙ e

written : (v y : ℕ) (o : List ℕ) (d : Draft) (a : Told) → octets (message_of d []) ≡ o → d.edition ≡ v →
    told (write_in y d [] (length o)).answer ≡ a → Holds v y o (writes d a)
written v y o d a p q e = (
  p,
  q,
  λ old w out l h. ap (λ (x : Writing). told x.answer) (writer.write_in_lem y d [] old w out h)
      ∙ ap (λ (n : ℕ). told (write_in y d [] n).answer) l
      ∙ e,
)

-- one row after another
infixr 4 ◌also◌
abbrev ◌also◌ : {A B : Type 0} → A → B → A × B
a also b = (a, b)

pub rows : All documents
unfolding edition known book_of named_by write_in settle_in desk_told.told ◌≤?◌ ◌=?◌ ◌and◌ ◌or◌ pick total checksum body octets within in_set whole digit pair_fits pairs_fit all_in head_fits month_of form_of row_in row_of listed_in listed class_of rival_of type_fault class_fault some_length rules_of message_kind opens tens_fit ones_fit pair_at short_month days day_fits calendar_at calendar_keep column_at head_by dash comma missing in_units amount_by amount_keep currency_by flags_at flags_keep charge_by charge_keep terminal_by terminal_keep blank extension_by extension_keep judge_of step run room_fits range_possible some_possible possible final fits contents after fault stands_in machine place_fits count_fits in_range new_listener heard_in answer_of taken stopped judged verdict_of parameter_at matched search_from counted_at part_of waiting_after lamp_after change_in change_of noticed counted_in settled_notice settled_message settled_under refused_with settle_of index_of absent may_stand places_fit change_by is_full places_after told write_of measured_of sized legal_before legal_entry message_of parameters_of parameter_of seconds_said spelled meaning_of inside form_is form_number kind_of tens ones
rows =
    (hears 0 0 _ _ refl also hears 0 1 _ _ refl) also
    (reads 0 0 _ _ _ _ tt refl also reads 0 1 _ _ _ _ tt refl) also
    ((hears 0 0 _ _ refl, reads 0 0 _ _ _ _ tt refl) also (hears 0 1 _ _ refl, reads 0 1 _ _ _ _ tt refl)) also
    ((hears 0 0 _ _ refl, reads 0 0 _ _ _ _ tt refl) also (hears 0 1 _ _ refl, reads 0 1 _ _ _ _ tt refl)) also
    ((hears 0 0 _ _ refl, reads 0 0 _ _ _ _ tt refl) also (hears 0 1 _ _ refl, reads 0 1 _ _ _ _ tt refl)) also
    (hears 0 0 _ _ refl also hears 0 1 _ _ refl) also
    ((hears 0 0 _ _ refl, reads 0 0 _ _ _ _ tt refl) also (hears 0 1 _ _ refl, reads 0 1 _ _ _ _ tt refl)) also
    ((hears 0 0 _ _ refl, reads 0 0 _ _ _ _ tt refl) also (hears 0 1 _ _ refl, reads 0 1 _ _ _ _ tt refl)) also
    ((hears 0 0 _ _ refl, reads 0 0 _ _ _ _ tt refl) also (hears 0 1 _ _ refl, reads 0 1 _ _ _ _ tt refl)) also
    (hears 0 0 _ _ refl also hears 0 1 _ _ refl) also
    (leaves 0 0 lamp_on lit refl also
    leaves 0 1 lamp_on lit refl) also
    ((hears 0 0 _ _ refl, reads 0 0 _ _ _ _ tt refl) also (hears 0 1 _ _ refl, reads 0 1 _ _ _ _ tt refl)) also
    (hears 0 0 _ _ refl also hears 0 1 _ _ refl) also
    (reads 0 0 _ _ _ _ tt refl also reads 0 1 _ _ _ _ tt refl) also
    (hears 0 0 _ _ refl also hears 0 1 _ _ refl) also
    (finds 0 0 _ _ _ refl also finds 0 1 _ _ _ refl) also
    (leaves 0 0 twice_waiting two_wait refl also
    leaves 0 1 twice_waiting two_wait refl) also
    (hears 0 0 _ _ refl also hears 0 1 _ _ refl) also
    (finds 0 0 _ _ _ refl also finds 0 1 _ _ _ refl) also
    (finds 0 0 _ _ _ refl also finds 0 1 _ _ _ refl) also
    (leaves 0 0 no_caller new_desk refl also leaves 0 1 no_caller new_desk refl) also
    ((hears 0 0 _ _ refl, reads 0 0 _ _ _ _ tt refl) also (hears 0 1 _ _ refl, reads 0 1 _ _ _ _ tt refl)) also
    ((hears 0 0 _ _ refl, reads 0 0 _ _ _ _ tt refl) also (hears 0 1 _ _ refl, reads 0 1 _ _ _ _ tt refl)) also
    (hears 0 0 _ _ refl also hears 0 1 _ _ refl) also
    (written 0 0 _ _ _ refl refl refl also written 0 1 _ _ _ refl refl refl) also
    (written 0 0 _ _ _ refl refl refl also written 0 1 _ _ _ refl refl refl) also
    (written 0 0 _ _ _ refl refl refl also written 0 1 _ _ _ refl refl refl) also
    (hears 0 1 _ _ refl, reads 0 1 _ _ _ _ tt refl) also
    (hears 0 1 _ _ refl, reads 0 1 _ _ _ _ tt refl) also
    ((hears 0 0 _ _ refl, reads 0 0 _ _ _ _ tt refl) also (hears 0 1 _ _ refl, reads 0 1 _ _ _ _ tt refl)) also
    (hears 0 1 _ _ refl, reads 0 1 _ _ _ _ tt refl) also
    ((hears 0 0 _ _ refl, reads 0 0 _ _ _ _ tt refl) also (hears 0 1 _ _ refl, reads 0 1 _ _ _ _ tt refl)) also
    hears 1 1 _ _ refl also
    (hears 1 1 _ _ refl, reads 1 1 _ _ _ _ tt refl) also
    (hears 0 0 _ _ refl also hears 0 1 _ _ refl) also
    (hears 1 1 _ _ refl, reads 1 1 _ _ _ _ tt refl) also
    (hears 1 1 _ _ refl, reads 1 1 _ _ _ _ tt refl) also
    hears 1 1 _ _ refl also
    hears 1 1 _ _ refl also
    leaves 1 1 lamp_on lit refl also
    finds 1 1 _ _ _ refl also
    leaves 1 1 twice_waiting new_desk refl also
    written 1 1 _ _ _ refl refl refl also
    finds 1 1 _ _ _ refl also
    (finds 0 0 _ _ _ refl also finds 0 1 _ _ _ refl) also
    ((hears 2 0 _ _ refl, unreadable_by 2 0 _ (λ t. t)) also (hears 2 1 _ _ refl, unreadable_by 2 1 _ (λ t. t))) also
    ((hears 2 0 _ _ refl, unreadable_by 2 0 _ (λ t. t)) also (hears 2 1 _ _ refl, unreadable_by 2 1 _ (λ t. t))) also
    (hears 0 0 _ _ refl also hears 0 1 _ _ refl) also
    (hears 0 0 _ _ refl, reads 0 0 _ _ _ _ tt refl) also
    hears 0 1 _ _ refl also
    (hears 0 0 _ _ refl, reads 0 0 _ _ _ _ tt refl) also
    (hears 0 0 _ _ refl, reads 0 0 _ _ _ _ tt refl) also
    hears 0 0 _ _ refl also
    (hears 1 0 _ _ refl, reads 1 0 _ _ _ _ tt refl) also
    hears 1 0 _ _ refl also
    (hears 0 0 _ _ refl also hears 0 1 _ _ refl) also
    ((hears 0 0 _ _ refl, reads 0 0 _ _ _ _ tt refl) also (hears 0 1 _ _ refl, reads 0 1 _ _ _ _ tt refl)) also
    (hears 0 0 _ _ refl also hears 0 1 _ _ refl) also
    (hears 0 0 _ _ refl also hears 0 1 _ _ refl) also
    ((hears 0 0 _ _ refl, reads 0 0 _ _ _ _ tt refl) also (hears 0 1 _ _ refl, reads 0 1 _ _ _ _ tt refl)) also
    ((hears 0 0 _ _ refl, reads 0 0 _ _ _ _ tt refl) also (hears 0 1 _ _ refl, reads 0 1 _ _ _ _ tt refl)) also
    (hears 0 0 _ _ refl also hears 0 1 _ _ refl) also
    ((hears 0 0 _ _ refl, reads 0 0 _ _ _ _ tt refl) also (hears 0 1 _ _ refl, reads 0 1 _ _ _ _ tt refl)) also
    ((hears 0 0 _ _ refl, reads 0 0 _ _ _ _ tt refl) also (hears 0 1 _ _ refl, reads 0 1 _ _ _ _ tt refl)) also
    ((hears 0 0 _ _ refl, reads 0 0 _ _ _ _ tt refl) also (hears 0 1 _ _ refl, reads 0 1 _ _ _ _ tt refl)) also
    ((hears 0 0 _ _ refl, reads 0 0 _ _ _ _ tt refl) also (hears 0 1 _ _ refl, reads 0 1 _ _ _ _ tt refl)) also
    (hears 0 0 _ _ refl also hears 0 1 _ _ refl) also
    ((hears 0 0 _ _ refl, reads 0 0 _ _ _ _ tt refl) also (hears 0 1 _ _ refl, reads 0 1 _ _ _ _ tt refl)) also
    ((hears 0 0 _ _ refl, reads 0 0 _ _ _ _ tt refl) also (hears 0 1 _ _ refl, reads 0 1 _ _ _ _ tt refl)) also
    ((hears 0 0 _ _ refl, reads 0 0 _ _ _ _ tt refl) also (hears 0 1 _ _ refl, reads 0 1 _ _ _ _ tt refl)) also
    (hears 0 0 _ _ refl also hears 0 1 _ _ refl) also
    (finds 0 0 _ _ _ refl also finds 0 1 _ _ _ refl) also
    (hears 0 0 _ _ refl also hears 0 1 _ _ refl) also
    (finds 0 0 _ _ _ refl also finds 0 1 _ _ _ refl) also
    (hears 0 0 _ _ refl also hears 0 1 _ _ refl) also
    (finds 0 0 _ _ _ refl also finds 0 1 _ _ _ refl) also
    (hears 0 0 _ _ refl also hears 0 1 _ _ refl) also
    (written 0 0 _ _ _ refl refl refl also written 0 1 _ _ _ refl refl refl) also
    (written 0 0 _ _ _ refl refl refl also written 0 1 _ _ _ refl refl refl) also
    (written 0 0 _ _ _ refl refl refl also written 0 1 _ _ _ refl refl refl) also
    hears 1 1 _ _ refl also
    (hears 1 0 _ _ refl, reads 1 0 _ _ _ _ tt refl) also
    (hears 0 2 _ _ refl, unreadable_by 0 2 _ (λ t. t)) also
    tt
