-- What the exports answer, and what they leave in a record (document 01: 17 comes first; a record that is only
-- written is judged by its size alone; document 02, Q-5 and Q-11: then 16, where the edition or the way is unknown).
-- Assumes nothing.
use Rattle.caption.specs.Told.{Finding}
use Rattle.std.specs.Prelude.{ℕ, List, length, Result, Ok, Err, Option, Some, None}
use Rattle.rules.specs.Tests.{◌=?◌, pick}
use Rattle.rules.specs.Table.{Rules, rules_of}
use Rattle.rules.specs.Editions.{known, book_of}
use Rattle.listener.specs.declared.Listener.{Listener}
use Rattle.listener.specs.declared.Heard.{Heard}
use Rattle.listener.specs.Told.{told}
use Rattle.listener.specs.Heard.{heard_of, new_listener}
use Rattle.draft.specs.Packing.{draft_of}
use Rattle.rules.specs.declared.Fault.{Fault}
use Rattle.message.specs.Parameters.{message_in}
use Rattle.message.specs.declared.Part.{Part}
use Rattle.message.specs.Verdict.{verdict_of}
use Rattle.message.specs.Parts.{counted_at}
use Rattle.caption.specs.declared.Shown.{Shown}
use Rattle.caption.specs.declared.Shown.TheVariants as found
use Rattle.caption.specs.Told as caption
use Rattle.caption.specs.Caption.{find_in}
use Rattle.reader.specs.Read.{pack_of, area_after}
use Rattle.reader.specs.Told as reader
use Rattle.desk.specs.Told as settled
use Rattle.desk.specs.Settle.{new_desk, settle_in}
use Rattle.firmware.specs.DeskRecord.{is_record, desk_in, desk_record}
use Rattle.firmware.specs.DraftRecord.{draft_record}
use Rattle.firmware.specs.PartRecord.{part_record}
use Rattle.firmware.specs.Record.{decode_of, record_of}
use Rattle.firmware.specs.Word.{packed}
use Rattle.firmware.specs.Sizes.{listener_size, draft_size, desk_size, part_size}

-- 16 and 17 stand at place 0, with 0 in every other field
abbrev pub bad_record : ℕ
bad_record = packed 0 17 0 0 0 0

abbrev pub no_book : ℕ
no_book = packed 0 16 0 0 0 0

-- the rules of an edition and a way
abbrev pub rules_by : ℕ → ℕ → Rules
rules_by e y = rules_of (book_of e y)

unfoldable pub reset_answer : ℕ → ℕ → List ℕ → ℕ
reset_answer e y c = pick (length c =? listener_size) (pick (known e y) (packed e 0 0 0 0 0) no_book) bad_record

unfoldable pub reset_record : ℕ → ℕ → List ℕ → List ℕ
reset_record e y c = pick (length c =? listener_size) (pick (known e y) (record_of (new_listener e y)) c) c

-- what a call of the listener answers, as a word
unfoldable pub word_of : Heard → ℕ
word_of h =
    packed h.edition (told h.answer).number (told h.answer).place (told h.answer).parameter
    (told h.answer).size h.taken

unfoldable pub answered : Option Listener → List ℕ → ℕ
answered (Some l) o = word_of (heard_of l o)
answered None o = bad_record

unfoldable pub recorded : Option Listener → List ℕ → List ℕ → List ℕ
recorded (Some l) c o = record_of (heard_of l o).listener
recorded None c o = c

unfoldable pub listen_answer : List ℕ → List ℕ → ℕ
listen_answer c o = answered (decode_of c) o

unfoldable pub listen_record : List ℕ → List ℕ → List ℕ
listen_record c o = recorded (decode_of c) c o

-- ---- the whole read: the record is only written, so its size alone is judged; the answer's size is the text octets
-- laid down
unfoldable pub packed_word : ℕ → Result ℕ Fault → ℕ
packed_word e p =
    packed e (reader.told p).number (reader.told p).place (reader.told p).parameter (reader.told p).size 0

unfoldable pub read_answer : ℕ → ℕ → List ℕ → List ℕ → List ℕ → ℕ
read_answer e y o c t =
    pick (length c =? draft_size) (pick (known e y) (packed_word e (pack_of (rules_by e y) o (length t))) no_book)
    bad_record

-- the record of the message's draft; as it was with a refusal
unfoldable pub record_from : Rules → List ℕ → List ℕ → Result ℕ Fault → List ℕ
record_from R o c (Ok n) = draft_record (draft_of R (message_in o))
record_from R o c (Err f) = c

unfoldable pub read_record : ℕ → ℕ → List ℕ → List ℕ → List ℕ → List ℕ
read_record e y o c t =
    pick (length c =? draft_size)
    (pick (known e y) (record_from (rules_by e y) o c (pack_of (rules_by e y) o (length t))) c) c

unfoldable pub read_texts : ℕ → ℕ → List ℕ → List ℕ → List ℕ → List ℕ
read_texts e y o c t = pick (length c =? draft_size) (pick (known e y) (area_after (rules_by e y) o t) t) t

-- ---- the desk
unfoldable pub new_desk_answer : List ℕ → ℕ
new_desk_answer c = pick (length c =? desk_size) (packed 0 0 0 0 0 0) bad_record

unfoldable pub new_desk_record : List ℕ → List ℕ
new_desk_record c = pick (length c =? desk_size) (desk_record new_desk) c

-- the edition named, number, place and parameter of an answer as a word
unfoldable pub desk_word : ℕ → Result (Unit {0}) Fault → ℕ
desk_word e a = packed e (settled.told a).number (settled.told a).place (settled.told a).parameter 0 0

-- a record that is a desk's: word and record of that desk's settling; any other is 17 and stays
unfoldable pub settle_answer : ℕ → ℕ → List ℕ → List ℕ → ℕ
settle_answer e y c o =
    pick (is_record c)
    (desk_word (settle_in e y (desk_in c) o).edition (settle_in e y (desk_in c) o).answer.answer) bad_record

unfoldable pub settle_record : ℕ → ℕ → List ℕ → List ℕ → List ℕ
settle_record e y c o = pick (is_record c) (desk_record (settle_in e y (desk_in c) o).answer.desk) c

-- ---- what counts: the size is the length of the contents that count, and their start stands in octets 5 and 6; 0
-- and 0 where none count
unfoldable pub part_word : ℕ → Option Part → ℕ
part_word e (Some part) = packed e 0 0 0 part.length part.start
part_word e None = packed e 0 0 0 0 0

-- octets that the whole read declines get its number, place and parameter
unfoldable pub counted_under : ℕ → ℕ → Result ℕ Fault → List ℕ → ℕ → ℕ
counted_under e y (Ok n) o t = part_word e (counted_at (rules_by e y) o t)
counted_under e y (Err f) o t = packed e f.number f.place f.parameter 0 0

unfoldable pub counted_answer : ℕ → ℕ → List ℕ → ℕ → ℕ
counted_answer e y o t = pick (known e y) (counted_under e y (verdict_of (rules_by e y) o) o t) no_book

-- ---- the caption: the record is only written, so its size alone is judged
unfoldable pub found_word : Finding → ℕ
found_word r =
    packed r.edition (caption.told r.answer).number (caption.told r.answer).place
    (caption.told r.answer).parameter 0 0

-- the record of the part that is found; as it was with a refusal
unfoldable pub part_from : List ℕ → Result Shown Fault → List ℕ
part_from c (Ok (found.InMessage start n)) = part_record 0 start n
part_from c (Ok (found.InDirectory start n)) = part_record 1 start n
part_from c (Err f) = c

unfoldable pub caption_answer : ℕ → ℕ → List ℕ → List ℕ → List ℕ → ℕ
caption_answer e y o d c = pick (length c =? part_size) (found_word (find_in e y o d)) bad_record

unfoldable pub caption_record : ℕ → ℕ → List ℕ → List ℕ → List ℕ → List ℕ
caption_record e y o d c = pick (length c =? part_size) (part_from c (find_in e y o d).answer) c
