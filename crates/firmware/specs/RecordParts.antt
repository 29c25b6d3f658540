-- What counts, and the caption, through the exports, read off the answer's word and the part's record, over the
-- written rules alone (document 01, What counts and The caption).
-- Assumes nothing.
use Rattle.std.specs.Prelude.{ℕ, ◌≤◌, ◌<◌, ◌^◌, ◌≡◌, List, length, Result}
use Rattle.std.proofs.Math.Option.{none}
use Rattle.rules.specs.Table.{rules_of}
use Rattle.rules.specs.Editions.{book_of}
use Rattle.rules.specs.Message.{Message, octets, LegalMessage}
use Rattle.rules.specs.Counting.{counted, Counts}
use Rattle.rules.specs.Language.{language_of}
use Rattle.rules.specs.declared.Fault.{Fault}
use Rattle.message.specs.Told as message
use Rattle.message.specs.Judges.{Judges}
use Rattle.message.specs.Places.{contents_at}
use Rattle.caption.specs.Told.{told, Finding}
use Rattle.caption.specs.Finds.{FindsBy}
use Rattle.firmware.specs.Word.{Unpacked}
use Rattle.firmware.specs.PartRecord.{part_record, part_side, part_start, part_length}

-- by known numbers, the octets o and a type t went in, and the word w came back
pub record RecordCounts (e y : ℕ) (o : List ℕ) (t w : ℕ) : Type 0 where
  -- octets that are no message: number, place and parameter are the whole read's, and the other fields 0
  pub verdict : Result ℕ Fault
  pub judged : Judges (language_of (book_of e y)) o verdict
  pub refused : 1 ≤ (message.told verdict).number →
      Unpacked e (message.told verdict).number (message.told verdict).place (message.told verdict).parameter 0 0 w
  -- of a message: the length of the contents that count, and where they start
  pub counts : (m : Message) → LegalMessage (rules_of (book_of e y)) m → octets m ≡ o →
      (v : List ℕ) (c : Counts (rules_of (book_of e y)) m t v) →
      Unpacked e 0 0 0 (length v) (contents_at c.first) w
  -- 0 in every field where none count
  pub none_counts : (m : Message) → LegalMessage (rules_of (book_of e y)) m → octets m ≡ o →
      counted (rules_of (book_of e y)) m t ≡ none → Unpacked e 0 0 0 0 0 w

-- by any numbers, the octets o, the directory d and a record c of 24 octets went in; the word w came back, and c' is
-- what the record then held
pub record RecordFinds (e y : ℕ) (o d c : List ℕ) (w : ℕ) (c' : List ℕ) : Type 0 where
  pub finding : Finding
  pub finds : FindsBy e y o d finding
  pub word :
      let a = told finding.answer in
      Unpacked finding.edition a.number a.place a.parameter 0 0 w
  -- side, start and length of the part; as it was with a refusal
  pub part :
      let t = told finding.answer in
      t.number ≡ 0 → c' ≡ part_record t.side t.start t.size
  pub refused : 1 ≤ (told finding.answer).number → c' ≡ c
  -- and the header's readers read them back; every slice has fewer than 2^64 octets
  pub read_back :
      let t = told finding.answer in
      length d < 256 ^ 8 → t.number ≡ 0 →
      (part_side c' ≡ t.side) × (part_start c' ≡ t.start) × (part_length c' ≡ t.size)
