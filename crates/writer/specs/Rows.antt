-- Rows of the writer, computed, as one claim: document 01's own messages written from their drafts, and both sides of
-- the limits at which it refuses; the same for the parameters of document 02, Q-4.
-- Assumes nothing.
use Rattle.std.specs.Prelude.{◌≡◌, ℕ, ◌-◌, List, [], ◌∷◌, ◌++◌, length, replicate, refl}
use Prim.Native.String.{String}
use Rattle.rules.specs.Tests.{◌≤?◌, ◌=?◌, ◌and◌, ◌or◌, pick}
use Rattle.rules.specs.Octets.{total, checksum}
use Rattle.rules.specs.Contents.{within, in_set, digit, pair_fits, pairs_fit, short_month, days, month_of, columns_fit, all_in, head_fits}
use Rattle.rules.specs.Charge.{dash, comma, missing, units, run, amount, after, costs, charge_fits}
use Rattle.rules.specs.Terminal.{terminal_fits}
use Rattle.rules.specs.Extension.{blank, country_fits, extension_fits}
use Rattle.rules.specs.Table.{ascii, rules_of, row_in, row_of, class_of, form_of, whole, form_number}
use Rattle.rules.specs.Editions.{lenient, edition, known, book_of}
use Rattle.rules.specs.Message.{body, octets, message_kind, most}
use Rattle.draft.specs.Meaning.{kind_of, form_is, tens, ones, seconds_said, spelled}
use Rattle.draft.specs.Draft.{no_entry, meaning_of, inside, parameter_of, parameters_of, message_of}
use Rattle.draft.specs.declared.Value.{Value}
use Rattle.draft.specs.declared.Value.TheVariants.{Date, Code, State, Text, Carried, Moment, Duration, Marked}
use Rattle.draft.specs.declared.Entry.{Entry}
use Rattle.draft.specs.declared.Draft.{Draft}
use Rattle.writer.specs.Told.{Told, told, success, refusal}
use Rattle.writer.specs.Writing.{legal_entry, legal_before, sized, measured_of, write_of, write_in}

-- an entry
abbrev pub says : ℕ → Value → Entry
says t v = record { kind = t; value = v }

-- a draft of some entries, by an edition
abbrev pub drafted_by : ℕ → ℕ → List Entry → Draft
drafted_by e kind es =
    record {
      kind = kind;
      edition = e;
      count = length es;
      entries = es ++ replicate (most - length es) no_entry;
    }

-- by the present one
abbrev pub drafted : ℕ → List Entry → Draft
drafted kind es = drafted_by 0 kind es

-- a draft with its text area, an output with so many octets, and the answer
pub record Example : Type 0 where
  pub draft : Draft
  pub texts : List ℕ
  pub room : ℕ
  pub answer : Told

-- the same, written in a line
abbrev pub row : Draft → List ℕ → ℕ → Told → Example
row d t n a = record { draft = d; texts = t; room = n; answer = a }

-- what the writer answers in each row
unfoldable pub rows_told : List Example → List Told
rows_told [] = []
rows_told (r ∷ rs) = told (write_in lenient r.draft r.texts r.room).answer ∷ rows_told rs

-- what each row says
unfoldable pub expected : List Example → List Told
expected [] = []
expected (r ∷ rs) = r.answer ∷ expected rs

-- "40912", and an octet that no number has
abbrev pub area : List ℕ
area = 0x34 ∷ 0x30 ∷ 0x39 ∷ 0x31 ∷ 0x32 ∷ 0x41 ∷ []

-- document 01's notice with the lamp on
abbrev pub lamp : Draft
lamp = drafted 0x82 (says 0x0B (Code 0xFF) ∷ [])

-- document 01's example, with the caller's number from a place of the area
abbrev pub caller : ℕ → ℕ → Draft
caller start n = drafted 0x80 (says 0x01 (Date 6 15 14 30) ∷ says 0x02 (Text start n) ∷ [])

-- a call message with one entry
abbrev pub one : ℕ → Value → Draft
one t v = drafted 0x80 (says t v ∷ [])

-- a call message of the old edition with one entry (document 02, Q-5), and digits
abbrev pub old : ℕ → Value → Draft
old t v = drafted_by 1 0x80 (says t v ∷ [])

abbrev pub digits : List ℕ
digits = replicate 20 0x34

-- so many parameters of 8 octets
abbrev pub carried : ℕ → Draft
carried k = drafted 0x80 (replicate k (says 0x05 (Carried 0 6)))

-- both sides of each limit
abbrev pub writer_rows : List Example
writer_rows =
    row lamp [] 6 (success 6) ∷
    row lamp [] 5 (refusal 15 6) ∷
    row (drafted 0x81 []) [] 6 (refusal 11 0) ∷
    row (drafted 0x80 []) [] 6 (refusal 14 0) ∷
    row (record { kind = 0x80; edition = 0; count = 86; entries = [] }) [] 6 (refusal 13 0) ∷
    row (caller 0 5) area 20 (success 20) ∷
    row (caller 1 5) area 20 (refusal 12 1) ∷
    row (caller 2 5) area 20 (refusal 12 1) ∷
    row (caller 0 0) area 20 (refusal 12 1) ∷
    row (one 0x01 (Date 12 31 23 59)) [] 13 (success 13) ∷
    row (one 0x01 (Date 13 31 23 59)) [] 13 (refusal 12 0) ∷
    row (one 0x01 (Date 12 0 23 59)) [] 13 (refusal 12 0) ∷
    row (one 0x01 (Date 4 30 0 0)) [] 13 (success 13) ∷
    row (one 0x01 (Date 4 31 0 0)) [] 13 (refusal 12 0) ∷
    row (one 0x01 (Date 2 29 0 0)) [] 13 (success 13) ∷
    row (one 0x01 (Date 2 30 0 0)) [] 13 (refusal 12 0) ∷
    row (one 0x0D (State 0x55 0x0102)) [] 8 (success 8) ∷
    row (one 0x0D (State 0x54 0x0102)) [] 8 (refusal 12 0) ∷
    row (one 0x05 (Text 0 5)) area 20 (refusal 12 0) ∷
    row (one 0x02 (Carried 0 5)) area 20 (refusal 12 0) ∷
    row (carried 31) area 251 (success 251) ∷
    row (carried 31) area 250 (refusal 15 251) ∷
    row (carried 32) area 300 (refusal 13 0) ∷
    row (old 0x02 (Text 0 18)) digits 300 (success 23) ∷
    row (old 0x02 (Text 0 19)) digits 300 (refusal 12 0) ∷
    row (one 0x02 (Text 0 19)) digits 300 (success 24) ∷
    row (old 0x16 (Code 0x03)) [] 6 (success 6) ∷
    row (old 0x16 (Code 0x01)) [] 6 (refusal 12 0) ∷
    row (old 0x13 (Code 0x02)) [] 6 (refusal 12 0) ∷
    row (old 0x13 (Carried 0 5)) digits 10 (success 10) ∷
    row (drafted_by 2 0x80 []) [] 6 (refusal 16 0) ∷
    row (drafted_by 255 0x81 []) [] 6 (refusal 16 0) ∷
    []

-- ---- document 02, Q-4 (source 004, subclauses 5.4.10 to 5.4.27)
-- more characters than any text has
abbrev pub line : List ℕ
line = replicate 253 0x34

-- a charge: currency, flags, and what it costs; the whole of the area
abbrev pub charge : String → ℕ → String → Told → Example
charge currency flags cost a = row (one 0x20 (Text 0 14)) (ascii currency ++ flags ∷ ascii cost) 19 a

-- an operator's extension, which is the area
abbrev pub extension : String → Told → Example
extension t a = row (one 0xE0 (Text 0 10)) (ascii t) 15 a

-- a display text and a selection of a terminal, with a text from the area's beginning on
abbrev pub marked : ℕ → ℕ → ℕ → List ℕ → Told → Example
marked t mark n texts a = row (one t (Marked mark 0 n)) texts 300 a

-- both sides of the main limits (all are run by the program `parts`); the charges that are written are those of source
-- 004, annex D, where D.2's words say 23
abbrev pub parameter_rows : List Example
parameter_rows =
    row (one 0x0F (Moment 2 29 23 59 0)) [] 13 (success 13) ∷
    row (one 0x0F (Moment 2 30 23 59 0)) [] 13 (refusal 12 0) ∷
    row (one 0x0F (Moment 2 29 23 59 60)) [] 15 (success 15) ∷
    row (one 0x0F (Moment 2 29 23 59 61)) [] 15 (refusal 12 0) ∷
    row (one 0x0F (Date 2 29 23 59)) [] 15 (refusal 12 0) ∷
    row (one 0x01 (Moment 2 29 23 59 0)) [] 15 (refusal 12 0) ∷
    row (one 0x23 (Duration 99 59 59)) [] 11 (success 11) ∷
    row (one 0x23 (Duration 99 60 0)) [] 11 (refusal 12 0) ∷
    row (one 0x23 (Duration 100 0 0)) [] 11 (refusal 12 0) ∷
    row (one 0x10 (Text 0 20)) line 25 (success 25) ∷
    row (one 0x1A (Text 0 21)) line 26 (refusal 12 0) ∷
    row (one 0x30 (Text 0 20)) line 25 (success 25) ∷
    row (one 0x30 (Text 0 21)) line 26 (refusal 12 0) ∷
    row (one 0x55 (Code 0x01)) [] 6 (success 6) ∷
    row (one 0x55 (Code 0x02)) [] 6 (refusal 12 0) ∷
    marked 0x40 0x01 1 (0x07 ∷ []) (success 7) ∷
    marked 0x40 0x01 1 (0x08 ∷ []) (refusal 12 0) ∷
    marked 0x40 0x01 2 (0x07 ∷ 0x07 ∷ []) (refusal 12 0) ∷
    marked 0x40 0x02 20 line (success 26) ∷
    marked 0x40 0x02 21 line (refusal 12 0) ∷
    marked 0x40 0x02 0 line (refusal 12 0) ∷
    marked 0x50 0x01 0 [] (success 6) ∷
    row (one 0x50 (Marked 0x01 1 0)) [] 300 (refusal 12 0) ∷
    marked 0x50 0x01 252 line (success 258) ∷
    marked 0x50 0x01 253 line (refusal 12 0) ∷
    marked 0x50 0x02 5 line (refusal 12 0) ∷
    extension "1  ACME1.0" (success 15) ∷
    extension "33 ACME1.0" (success 15) ∷
    extension "351ACME1.0" (success 15) ∷
    extension "3 3ACME1.0" (refusal 12 0) ∷
    charge "FRF" 0x00 "0000023,45" (success 19) ∷
    charge "---" 0x10 "00023-----" (success 19) ∷
    charge "DEM" 0x10 "0007800,12" (success 19) ∷
    charge "---" 0x08 "----------" (success 19) ∷
    charge "FRF" 0x08 "----------" (refusal 12 0) ∷
    charge "FRF" 0x00 "0000,23,45" (refusal 12 0) ∷
    charge "DEM" 0x10 "00,7800,12" (refusal 12 0) ∷
    []

-- the octets that document 01 shows for the lamp and for its example, and the answer of every row
abbrev pub Claim : Type 0
Claim =
    (octets (message_of lamp []) ≡ 0x82 ∷ 0x03 ∷ 0x0B ∷ 0x01 ∷ 0xFF ∷ 0x70 ∷ [])
    × ((octets (message_of (caller 0 5)
    area) ≡ 0x80 ∷ 0x11 ∷ 0x01 ∷ 0x08 ∷ 0x30 ∷ 0x36 ∷ 0x31 ∷ 0x35 ∷ 0x31 ∷ 0x34 ∷ 0x33 ∷ 0x30 ∷ 0x02 ∷ 0x05 ∷ 0x34 ∷ 0x30 ∷ 0x39 ∷ 0x31 ∷ 0x32 ∷ 0xCB ∷ [])
    × ((rows_told writer_rows ≡ expected writer_rows) × (rows_told parameter_rows ≡ expected parameter_rows)))

pub writer_claim : Claim
unfolding rows_told expected told edition known book_of write_in write_of measured_of sized legal_before legal_entry body octets message_of parameters_of parameter_of seconds_said spelled meaning_of inside form_is form_number kind_of form_of class_of row_of row_in rules_of whole pairs_fit short_month days month_of columns_fit all_in head_fits charge_fits costs after amount run dash comma missing units terminal_fits extension_fits country_fits blank ascii pair_fits digit in_set within message_kind tens ones total checksum pick ◌and◌ ◌or◌ ◌≤?◌ ◌=?◌
writer_claim = (refl, (refl, (refl, refl)))
