-- What a read answers, and what the text area then holds (document 01, Drafts; Numbers: 1 to 6, then 8, then 7, then
-- 9; document 02, Q-11: 10).
-- Assumes nothing.
use Rattle.std.specs.Prelude.{ℕ, ◌+◌, ◌-◌, List, length, take, drop, Result, Ok, Err, Option, Some, None}
use Rattle.rules.specs.Tests.{◌≤?◌, pick}
use Rattle.rules.specs.Table.{Rules, rules_of}
use Rattle.rules.specs.Editions.{known, book_of}
use Rattle.rules.specs.Message.{Parameter}
use Rattle.rules.specs.declared.Fault.{Fault}
use Rattle.rules.specs.declared.Form.{Form}
use Rattle.rules.specs.declared.Form.TheVariants.{DateValue, CodeValue, StateValue, TextValue, CarriedValue, MomentValue, DurationValue, MarkedValue}
use Rattle.message.specs.Verdict.{verdict_of}
use Rattle.message.specs.Parts.{parameter_at}
use Rattle.message.specs.Parameters.{parameters_in, message_in}
use Rattle.message.specs.declared.Found.{Found}
use Rattle.draft.specs.declared.Draft.{Draft}
use Rattle.draft.specs.declared.Entry.{Entry}
use Rattle.draft.specs.Draft.{empty_of}
use Rattle.rules.specs.Laying.{laid}
use Rattle.rules.specs.Refusals.{noted}
use Rattle.draft.specs.Packing.{entry_of, text_of, texts_of, draft_of}
use Rattle.reader.specs.declared.Reading.{Reading}
use Rattle.reader.specs.declared.Taken.{Taken}

-- ---- the whole read
-- the octets that the texts of all parameters take
unfoldable pub text_size : Rules → List ℕ → ℕ
text_size R o = length (texts_of R (parameters_in o))

-- an accepted message's texts, if the area has room for them; else 9 with the text octets needed. Other octets are
-- declined as the verdict says
unfoldable pub pack_from : Rules → List ℕ → ℕ → Result ℕ Fault → Result ℕ Fault
pack_from R o room (Ok n) =
    pick (text_size R o ≤? room) (Ok (text_size R o)) (Err (noted 9 (text_size R o)))
pack_from R o room (Err f) = Err f

unfoldable pub pack_of : Rules → List ℕ → ℕ → Result ℕ Fault
pack_of R o room = pack_from R o room (verdict_of R o)

-- whether it goes through: the same without the octets that the texts take
unfoldable pub fitting_of : Result ℕ Fault → Result (Unit {0}) Fault
fitting_of (Ok n) = (Ok tt)
fitting_of (Err f) = Err f

-- of an accepted message: 9 where its texts need more than the area has
unfoldable pub room_for : Rules → List ℕ → ℕ → Result (Unit {0}) Fault
room_for R o room = pick (text_size R o ≤? room) (Ok tt) (Err (noted 9 (text_size R o)))

-- the area afterwards: the texts from octet 0 on, later octets as they were; with a refusal all of them
unfoldable pub area_from : Rules → List ℕ → List ℕ → Result ℕ Fault → List ℕ
area_from R o old (Ok n) = laid (texts_of R (parameters_in o)) old
area_from R o old (Err f) = old

unfoldable pub area_after : Rules → List ℕ → List ℕ → List ℕ
area_after R o old = area_from R o old (pack_of R o (length old))

-- the draft of the message; with a refusal the empty one
unfoldable pub draft_from : Rules → List ℕ → Result ℕ Fault → Draft
draft_from R o (Ok n) = draft_of R (message_in o)
draft_from R o (Err f) = empty_of R.edition 0

unfoldable pub read_of : Rules → List ℕ → ℕ → Reading
read_of R o room =
    record { edition = R.edition; answer = pack_of R o room; draft = draft_from R o (pack_of R o room) }

-- ---- by edition and way (document 02, Q-5 and Q-11)
-- 16 at 0: the empty draft, and no edition is named
abbrev pub unreadable : Reading
unreadable = record { edition = 0; answer = Err (noted 16 0); draft = empty_of 0 0 }

unfoldable pub read_in : ℕ → ℕ → List ℕ → ℕ → Reading
read_in e w o room = pick (known e w) (read_of (rules_of (book_of e w)) o room) unreadable

unfoldable pub area_in : ℕ → ℕ → List ℕ → List ℕ → List ℕ
area_in e w o old = pick (known e w) (area_after (rules_of (book_of e w)) o old) old

-- ---- parameter by parameter
-- a parameter of a type with its contents; the one whose contents stand at a place; and one found
abbrev pub parameter_with : ℕ → List ℕ → Parameter
parameter_with k v = record { kind = k; contents = v }

abbrev pub standing : List ℕ → ℕ → ℕ → ℕ → Parameter
standing o k start n = parameter_with k (take n (drop start o))

abbrev pub stands : List ℕ → Found → Parameter
stands o f = standing o f.kind f.start f.length

-- the entry of the parameter at a place, its text to be packed at another; how long its text is; the place behind the
-- parameter
abbrev pub taken_with : Entry → ℕ → ℕ → Option Taken
taken_with e n place = Some (record { entry = e; text = n; place = place })

unfoldable pub taken_from : Rules → List ℕ → ℕ → Option Found → Option Taken
taken_from R o used (Some one) =
    Some (record {
      entry = entry_of R used (stands o one);
      text = length (text_of R (stands o one));
      place = one.start + one.length;
    })
taken_from R o used None = None

unfoldable pub taken_at : Rules → List ℕ → ℕ → ℕ → Option Taken
taken_at R o at used = taken_from R o used (parameter_at o at)

-- where the text of a parameter stands, how long it is, and the place behind the parameter, where it ends
pub record Text : Type 0 where
  pub start : ℕ
  pub size : ℕ
  pub place : ℕ

abbrev pub text_with : ℕ → ℕ → ℕ → Option Text
text_with start n place = Some (record { start = start; size = n; place = place })

unfoldable pub text_from : Rules → List ℕ → Option Found → Option Text
text_from R o (Some one) =
    let l = length (text_of R (stands o one)) in
    text_with (one.start + one.length - l) l (one.start + one.length)
text_from R o None = None

unfoldable pub text_at : Rules → List ℕ → ℕ → Option Text
text_at R o at = text_from R o (parameter_at o at)

-- how long the text of a value of this kind is that n octets of contents say: it is all of them, those behind the first
-- where that octet stands apart (docs/RULES.md), or there is none
unfoldable pub text_part : Form → ℕ → ℕ
text_part DateValue n = 0
text_part CodeValue n = 0
text_part StateValue n = 0
text_part TextValue n = n
text_part CarriedValue n = n
text_part MomentValue n = 0
text_part DurationValue n = 0
text_part MarkedValue n = n - 1
