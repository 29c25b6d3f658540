-- The draft's record, 688 octets: the message type, the number of entries, the edition, five octets of 0; then 85
-- entries of eight octets: the type, the kind of value, and six octets of value. What is not used is 0 (document 01: a
-- record that is only written is judged by its size alone).
-- Assumes nothing.
use Rattle.rules.specs.Table.{form_number}
use Rattle.std.specs.Prelude.{ℕ, ◌+◌, ◌*◌, ◌/◌, ◌%◌, List, [], ◌∷◌, ◌++◌, get_or, replicate}
use Rattle.rules.specs.Tests.{◌=?◌, pick}
use Rattle.draft.specs.declared.Value.{Value}
use Rattle.draft.specs.declared.Value.TheVariants.{Date, Code, State, Text, Carried, Moment, Duration, Marked}
use Rattle.draft.specs.declared.Entry.{Entry}
use Rattle.draft.specs.declared.Draft.{Draft}
use Rattle.rules.specs.declared.Form.TheVariants.{CodeValue, DateValue, StateValue, TextValue, CarriedValue, MomentValue, DurationValue, MarkedValue}

-- the kind of a value and six octets of it
pub record Numbers : Type 0 where
  pub form : ℕ
  pub a : ℕ
  pub b : ℕ
  pub c : ℕ
  pub d : ℕ
  pub e : ℕ
  pub f : ℕ

-- numbers of one octet each
abbrev pub plain_numbers : ℕ → ℕ → ℕ → ℕ → ℕ → ℕ → Numbers
plain_numbers form a b c d e = record { form = form; a = a; b = b; c = c; d = d; e = e; f = 0 }

-- start and length of a text, low octets first
unfoldable pub text_numbers : ℕ → ℕ → ℕ → Numbers
text_numbers form s n =
    record { form = form; a = s % 256; b = s / 256 % 256; c = n % 256; d = n / 256 % 256; e = 0; f = 0 }

-- the kind of value, and its numbers: 0 a code; 1 month, day, hour and minute; 2 a state and, low octet first, its
-- reference; 3 a text; 4 a carried text; 5 a date, and its seconds + 1 or 0; 6 hours, minutes and seconds; 7 a first
-- octet, and start and length of the text behind it (document 02, Q-4)
unfoldable pub numbers_of : Value → Numbers
numbers_of (Code x) = plain_numbers (form_number CodeValue) x 0 0 0 0
numbers_of (Date m y h n) = plain_numbers (form_number DateValue) m y h n 0
numbers_of (State s r) = plain_numbers (form_number StateValue) s 0 (r % 256) (r / 256) 0
numbers_of (Text s n) = text_numbers (form_number TextValue) s n
numbers_of (Carried s n) = text_numbers (form_number CarriedValue) s n
numbers_of (Moment m y h n s) = plain_numbers (form_number MomentValue) m y h n s
numbers_of (Duration h m s) = plain_numbers (form_number DurationValue) h m s 0 0
numbers_of (Marked x s n) =
    record {
      form = form_number MarkedValue;
      a = x;
      b = 0;
      c = s % 256;
      d = s / 256 % 256;
      e = n % 256;
      f = n / 256 % 256;
    }

-- the octets of an entry
abbrev pub cells_of : ℕ → Numbers → List ℕ
cells_of kind n = kind ∷ n.form ∷ n.a ∷ n.b ∷ n.c ∷ n.d ∷ n.e ∷ n.f ∷ []

unfoldable pub entry_cells : Entry → List ℕ
entry_cells e = cells_of e.kind (numbers_of e.value)

unfoldable pub entries_cells : List Entry → List ℕ
entries_cells [] = []
entries_cells (e ∷ es) = entry_cells e ++ entries_cells es

-- the record of a draft
unfoldable pub draft_record : Draft → List ℕ
draft_record d = d.kind ∷ d.count ∷ d.edition ∷ replicate 5 0 ++ entries_cells d.entries

-- ---- what the header's readers read back
unfoldable pub value_of : Numbers → Value
value_of f =
    pick (f.form =? form_number CodeValue) (Code f.a)
    (pick (f.form =? form_number DateValue) (Date f.a f.b f.c f.d)
    (pick (f.form =? form_number StateValue) (State f.a (f.c + 256 * f.d))
    (pick (f.form =? form_number TextValue) (Text (f.a + 256 * f.b) (f.c + 256 * f.d))
    (pick (f.form =? form_number CarriedValue) (Carried (f.a + 256 * f.b) (f.c + 256 * f.d))
    (pick (f.form =? form_number MomentValue) (Moment f.a f.b f.c f.d f.e)
    (pick (f.form =? form_number DurationValue) (Duration f.a f.b f.c)
    (Marked f.a (f.c + 256 * f.d) (f.e + 256 * f.f))))))))

-- octet k of the entry i of a record
abbrev pub cell_in : List ℕ → ℕ → ℕ → ℕ
cell_in c i k = get_or c (8 + 8 * i + k) 0

-- the entry i of a record: its type, and its value by the kind and the numbers that stand behind it
unfoldable pub entry_in : List ℕ → ℕ → Entry
entry_in c i = record {
  kind = cell_in c i 0;
  value =
      value_of
      (record {
        form = cell_in c i 1;
        a = cell_in c i 2;
        b = cell_in c i 3;
        c = cell_in c i 4;
        d = cell_in c i 5;
        e = cell_in c i 6;
        f = cell_in c i 7;
      });
}
