-- The caption of a message: a part of the message or of the directory (document 01, The caption), by an edition and a
-- way (document 02, Q-5 and Q-11).
-- Assumes nothing.
use Rattle.rules.specs.First.{index_of}
use Rattle.std.specs.Prelude.{ℕ, suc, ◌+◌, List, [], ◌∷◌, length, take, drop, Result, Ok, Err, Option, Some, None}
use Rattle.rules.specs.Tests.{pick}
use Rattle.rules.specs.Table.{Rules, rules_of}
use Rattle.rules.specs.Editions.{known, book_of}
use Rattle.rules.specs.Refusals.{noted}
use Rattle.rules.specs.declared.Fault.{Fault}
use Rattle.message.specs.declared.Part.{Part}
use Rattle.message.specs.Verdict.{verdict_of}
use Rattle.message.specs.Parts.{counted_at}
use Rattle.caption.specs.Told.{told, Finding}
use Rattle.caption.specs.Lines.{behind, names, lines_of}
use Rattle.caption.specs.declared.CallerText.{CallerText}
use Rattle.caption.specs.declared.Shown.{Shown}
use Rattle.caption.specs.declared.Shown.TheVariants.{InMessage, InDirectory}

-- the text that stands at a place of the directory
abbrev pub entry_at : ℕ → ℕ → Option CallerText
entry_at at k = Some (record { start = at; length = k })

-- where the text after the first = stands on the first line for the caller; the first of the lines begins at a place
-- of the directory
unfoldable pub lookup_from : List ℕ → ℕ → List (List ℕ) → Option CallerText
lookup_from caller at [] = None
lookup_from caller at (l ∷ ls) =
    pick (names caller l) (entry_at (at + suc (index_of 0x3D l)) (length (behind l)))
    (lookup_from caller (at + suc (length l)) ls)

-- where the text for a caller stands in the directory
abbrev pub lookup : List ℕ → List ℕ → Option CallerText
lookup caller d = lookup_from caller 0 (lines_of d)

-- the directory's text for a caller that stands in the message, else the caller
unfoldable pub by_entry : Option CallerText → ℕ → ℕ → Shown
by_entry (Some text) start n = InDirectory text.start text.length
by_entry None start n = InMessage start n

-- by the caller that counts, else the empty part at the message's start
unfoldable pub by_caller : Option Part → List ℕ → List ℕ → Shown
by_caller (Some part) o d = by_entry (lookup (take part.length (drop part.start o)) d) part.start part.length
by_caller None o d = InMessage 0 0

-- the name that counts, else by the caller
unfoldable pub by_name : Rules → Option Part → List ℕ → List ℕ → Shown
by_name R (Some part) o d = InMessage part.start part.length
by_name R None o d = by_caller (counted_at R o 0x02) o d

-- octets that the whole read declines get its number, place and parameter
unfoldable pub find_under : Rules → Result ℕ Fault → List ℕ → List ℕ → Result Shown Fault
find_under R (Ok n) o d = Ok (by_name R (counted_at R o 0x07) o d)
find_under R (Err f) o d = Err f

-- what is found for the octets o of a message and the directory d, by the whole read's verdict on o
unfoldable pub find_of : Rules → List ℕ → List ℕ → Result Shown Fault
find_of R o d = find_under R (verdict_of R o) o d

-- what is found by an edition and a way, and the edition that the answer names: by the book of known numbers, and 16
-- where the edition or the way is unknown
unfoldable pub find_in : ℕ → ℕ → List ℕ → List ℕ → Finding
find_in e w o d =
    pick (known e w) (record { edition = e; answer = find_of (rules_of (book_of e w)) o d })
    (record { edition = 0; answer = Err (noted 16 0) })

-- the slice that the part lies in, of the message o and the directory d
unfoldable pub slice_of : Result Shown Fault → List ℕ → List ℕ → List ℕ
slice_of (Ok (InMessage start n)) o d = o
slice_of (Ok (InDirectory start n)) o d = d
slice_of (Err f) o d = o

-- the octets of the part
unfoldable pub part_text : Result Shown Fault → List ℕ → List ℕ → List ℕ
part_text r o d = take (told r).size (drop (told r).start (slice_of r o d))

-- the octets of the part that is found
unfoldable pub caption_in : ℕ → ℕ → List ℕ → List ℕ → List ℕ
caption_in e w o d = part_text (find_in e w o d).answer o d

-- the lent code, which held x, afterwards: which slice the part lies in; x with a refusal
unfoldable pub code_of : Result Shown Fault → ℕ → ℕ
code_of (Ok (InMessage start n)) x = 0
code_of (Ok (InDirectory start n)) x = 1
code_of (Err f) x = x
