-- What a whole read says and leaves through the exports, read off the answer's word and the records, over the written
-- rules alone.
-- Assumes nothing.
use Rattle.std.specs.Prelude.{ℕ, ◌≤◌, ◌≡◌, List, get_or}
use Rattle.rules.specs.Table.{rules_of}
use Rattle.rules.specs.Editions.{book_of}
use Rattle.reader.specs.declared.Reading.{Reading}
use Rattle.reader.specs.Told.{told}
use Rattle.reader.specs.Reads.{Reads}
use Rattle.firmware.specs.Word.{Unpacked}
use Rattle.draft.specs.Draft.{no_entry}
use Rattle.firmware.specs.DraftRecord.{draft_record, entry_in}

-- by known numbers, a record of 688 octets: the word has what the read tells, the record is that of its draft, or
-- with a refusal as it was
pub record RecordReads (e y : ℕ) (o c t : List ℕ) (w : ℕ) (c' t' : List ℕ) : Type 0 where
  pub reading : Reading
  pub reads : Reads (rules_of (book_of e y)) o t reading t'
  pub word :
      Unpacked e (told reading.answer).number (told reading.answer).place (told reading.answer).parameter
      (told reading.answer).size 0 w
  pub drafted : (told reading.answer).number ≡ 0 → c' ≡ draft_record reading.draft
  pub refused : 1 ≤ (told reading.answer).number → c' ≡ c
  -- and the header's readers read the draft back, whatever the area: message type, number of entries, edition, and
  -- each entry
  pub read_back : (told reading.answer).number ≡ 0 →
      (get_or c' 0 0 ≡ reading.draft.kind) × (get_or c' 1 0 ≡ reading.draft.count) × (get_or c' 2 0 ≡ e)
      × ((i : ℕ) → entry_in c' i ≡ get_or reading.draft.entries i no_entry)
