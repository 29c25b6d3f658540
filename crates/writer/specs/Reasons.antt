-- Why the writer answers what it answers (document 01, Numbers): for each number exactly when it is given, over the
-- rules' own legal parameters; and what the output then holds.
-- Assumes nothing.
use Rattle.std.specs.Prelude.{◌≡◌, ℕ, suc, ◌+◌, ◌<◌, ◌≤◌, T, ◌⊎◌, ◌↔◌, List, length, take, drop, slice_index_or, Result, Ok}
use Rattle.rules.specs.Table.{Rules, rules_of}
use Rattle.rules.specs.Editions.{known, book_of}
use Rattle.rules.specs.Message.{body, octets, message_kind, LegalParameter, Accepts, most}
use Rattle.draft.specs.Meaning.{form_is, kind_of}
use Rattle.draft.specs.Draft.{no_entry, meaning_of, inside, parameter_of, parameters_of, used, message_of}
use Rattle.draft.specs.declared.Entry.{Entry}
use Rattle.draft.specs.declared.Draft.{Draft}
use Rattle.writer.specs.Told.{told, success, refusal}
use Rattle.writer.specs.Writing.{unwritten}
use Rattle.writer.specs.Writing.{Writing}
use Rattle.rules.specs.declared.Fault.{Fault}

-- an entry makes a legal parameter: its kind of value is its type's, its text lies inside the area, and the parameter
-- it stands for is legal
pub record Makes (R : Rules) (texts : List ℕ) (e : Entry) : Type 0 where
  pub kind : form_is (meaning_of texts e.value) ≡ kind_of R e.kind
  pub lies : T (inside texts e.value)
  pub legal : LegalParameter R (parameter_of texts e)

-- L of a draft
abbrev pub length_of : Draft → List ℕ → ℕ
length_of d texts = length (body (parameters_of texts (used d)))

-- ---- entries by their numbers
abbrev pub entry_at : Draft → ℕ → Entry
entry_at d i = slice_index_or d.entries i no_entry

-- every entry makes a legal parameter
abbrev pub AllMake : Rules → Draft → List ℕ → Type 0
AllMake R d texts = (i : ℕ) → i < d.count → Makes R texts (entry_at d i)

-- entry i makes none, and each before it makes one
pub record FirstBad (R : Rules) (d : Draft) (texts : List ℕ) (i : ℕ) : Type 0 where
  pub place : i < d.count
  pub bad : Makes R texts (entry_at d i) → ⊥
  pub before : (j : ℕ) → j < i → Makes R texts (entry_at d j)

-- what is asked before any entry is looked at
pub record Asked (d : Draft) : Type 0 where
  pub kind : T (message_kind d.kind)
  pub some : 1 ≤ d.count
  pub few : d.count ≤ most

-- ---- the seven ways: each answer with its reason
pub data Went (R : Rules) (d : Draft) (texts : List ℕ) (room : ℕ) : Result ℕ Fault → Type 0 where
  kind_is_none : (T (message_kind d.kind) → ⊥) → Went R d texts room (unwritten 11 0)
  no_entries : T (message_kind d.kind) → d.count ≡ 0 → Went R d texts room (unwritten 14 0)
  many_entries : T (message_kind d.kind) → suc most ≤ d.count → Went R d texts room (unwritten 13 0)
  bad_entry : (i : ℕ) → Asked d → FirstBad R d texts i → Went R d texts room (unwritten 12 i)
  too_long : Asked d → AllMake R d texts → 256 ≤ length_of d texts → Went R d texts room (unwritten 13 0)
  too_tight : Asked d → AllMake R d texts → length_of d texts ≤ 255 → room < length_of d texts + 3 →
      Went R d texts room (unwritten 15 (length_of d texts + 3))
  fits : Asked d → AllMake R d texts → length_of d texts ≤ 255 → length_of d texts + 3 ≤ room →
      Went R d texts room (Ok (length_of d texts + 3))

-- ---- number by number
-- w is what the writer answers to a draft with its text area, where the output has so many octets
pub record Answers (R : Rules) (d : Draft) (texts : List ℕ) (room : ℕ) (w : Result ℕ Fault) : Type 0 where
  -- 11 exactly where the message type is neither 80H nor 82H
  pub eleven : (p : ℕ) → (told w ≡ refusal 11 p) ↔ ((p ≡ 0) × (T (message_kind d.kind) → ⊥))
  -- then 14 exactly where there are no entries
  pub fourteen : (p : ℕ) → (told w ≡ refusal 14 p) ↔ ((p ≡ 0) × (T (message_kind d.kind) × (d.count ≡ 0)))
  -- with 1 to 85 entries, 12 exactly at the first that makes no legal parameter
  pub twelve : (i : ℕ) → Asked d → (told w ≡ refusal 12 i) ↔ FirstBad R d texts i
  -- 13 for more than 85 entries, before any is looked at, and for more than 255 octets, when all make legal parameters
  pub thirteen : (p : ℕ) →
      (told w ≡ refusal 13 p) ↔
      ((p ≡ 0) × ((T (message_kind d.kind) × (suc most ≤ d.count))
      ⊎ (Asked d × (AllMake R d texts × (256 ≤ length_of d texts)))))
  -- 15 at L + 3 exactly where only the output is too short
  pub fifteen : (p : ℕ) →
      (told w ≡ refusal 15 p) ↔
      ((p ≡ length_of d texts + 3)
      × (Asked d × (AllMake R d texts × ((length_of d texts ≤ 255) × (room < length_of d texts + 3)))))
  -- a legal draft with room is always written, and no other
  pub message : (n : ℕ) →
      (told w ≡ success n) ↔
      ((n ≡ length_of d texts + 3)
      × (Asked d × (AllMake R d texts × ((length_of d texts ≤ 255) × (length_of d texts + 3 ≤ room)))))
  -- and no other number
  pub numbers : 1 ≤ (told w).number → (11 ≤ (told w).number) × ((told w).number ≤ 15)

-- ---- and what is written
-- what a message of n octets in the output is
pub record LaidMessage (R : Rules) (d : Draft) (texts old new : List ℕ) (n : ℕ) : Type 0 where
  -- the first n octets are those of the message that the draft stands for
  pub begins : take n new ≡ octets (message_of d texts)
  -- they are accepted
  pub accepted : Accepts R (take n new)
  -- the octets after them stay
  pub stays : drop n new ≡ drop n old

-- a draft with its text area and an output that held `old` went in, w came back, and the output then holds `new`
pub record Writes (R : Rules) (d : Draft) (texts old : List ℕ) (w : Result ℕ Fault) (new : List ℕ) : Type 0 where
  pub answers : Answers R d texts (length old) w
  -- a message lies at the output's beginning, and a refusal leaves the output
  pub lays : (n : ℕ) → told w ≡ success n → LaidMessage R d texts old new n
  pub keeps : 1 ≤ (told w).number → new ≡ old

-- the same, by the draft's edition and the way w (document 02, Q-5 and Q-11)
pub record WritesBy (w : ℕ) (d : Draft) (texts old : List ℕ) (r : Writing) (new : List ℕ) : Type 0 where
  -- by known numbers all that is said of writing by their book
  pub by_book : T (known d.edition w) → Writes (rules_of (book_of d.edition w)) d texts old r.answer new
  -- 16 at 0 exactly where the draft's edition or the way is unknown: it comes before all others
  pub sixteen : (p : ℕ) → (told r.answer ≡ refusal 16 p) ↔ ((p ≡ 0) × (T (known d.edition w) → ⊥))
  -- with it the output stays, and no edition is named
  pub leaves : (T (known d.edition w) → ⊥) → (new ≡ old) × (r.edition ≡ 0)
  -- every other answer names the draft's edition
  pub names : T (known d.edition w) → r.edition ≡ d.edition
