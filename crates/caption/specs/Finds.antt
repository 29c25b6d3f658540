-- What the caption finder gives, over the written rules (document 01, The caption): the part of each case, and
-- refusals exactly as the whole read's; by a book, and by an edition and a way (document 02, Q-5 and Q-11).
-- Assumes nothing.
use Rattle.std.specs.Prelude.{ℕ, ◌+◌, ◌≤◌, ◌≡◌, ◌⊎◌, ◌↔◌, List, [], length, T, Result}
use Rattle.std.proofs.Math.Option.{none}
use Rattle.rules.specs.Table.{Rules, rules_of}
use Rattle.rules.specs.Editions.{known, book_of}
use Rattle.rules.specs.Message.{Message, octets, LegalMessage, Accepts}
use Rattle.rules.specs.Counting.{counted, Counts}
use Rattle.rules.specs.Language.{calls}
use Rattle.rules.specs.declared.Fault.{Fault}
use Rattle.message.specs.Told as message
use Rattle.message.specs.Judges.{Judges, verdict_number}
use Rattle.caption.specs.declared.Shown.{Shown}
use Rattle.caption.specs.Lines.{lines_of}
use Rattle.caption.specs.Told.{told, refusal, Clear, Finding}
use Rattle.caption.specs.Caption.{slice_of, part_text}
use Rattle.caption.specs.Directory.{NoneFor, FirstFor, text_place}
use Rattle.message.specs.Places.{contents_at}

-- nothing is declined, and the part holds the text v; it starts at a place of the message (side 0) or of the
-- directory (side 1)
pub record Shows (o d : List ℕ) (r : Result Shown Fault) (which at : ℕ) (v : List ℕ) : Type 0 where
  pub number : (told r).number ≡ 0
  pub place : (told r).place ≡ 0
  pub parameter : (told r).parameter ≡ 0
  pub side : (told r).side ≡ which
  pub start : (told r).start ≡ at
  pub size : (told r).size ≡ length v
  pub text : part_text r o d ≡ v

-- of the legal message m and the directory d, the caption is r
pub record Captions (R : Rules) (m : Message) (d : List ℕ) (r : Result Shown Fault) : Type 0 where
  -- the name that counts
  pub name : (v : List ℕ) (c : Counts R m 0x07 v) → Shows (octets m) d r 0 (contents_at c.first) v
  -- else, if a caller counts, the text after the = of the first line for it
  pub entry : counted R m 0x07 ≡ none → (v : List ℕ) (c : Counts R m 0x02 v) (e : FirstFor v d) →
      Shows (octets m) d r 1 (text_place e) e.text
  -- else the caller
  pub caller : counted R m 0x07 ≡ none → (v : List ℕ) (c : Counts R m 0x02 v) → NoneFor v (lines_of d) →
      Shows (octets m) d r 0 (contents_at c.first) v
  -- else the empty part at the message's start
  pub nothing : counted R m 0x07 ≡ none → counted R m 0x02 ≡ none → Shows (octets m) d r 0 0 []

-- the message's octets o and the directory d went in, and r came back
pub record Finds (R : Rules) (o d : List ℕ) (r : Result Shown Fault) : Type 0 where
  -- number, place, parameter and part tell it
  pub clear : Clear r
  -- number 0 exactly when the octets are a message
  pub done : ((told r).number ≡ 0) ↔ Accepts R o
  -- refused exactly as the whole read declines the octets, with its number, place and parameter, and with the empty
  -- part at the message's start
  pub verdict : Result ℕ Fault
  pub judged : Judges (calls R) o verdict
  pub refused : (k p b : ℕ) → 1 ≤ k → (told r ≡ refusal k p b) ↔ (message.told verdict ≡ message.refusal k p b)
  -- no number but 1 to 8, and 10
  pub numbers : ((told r).number ≡ 0) ⊎ T (verdict_number (calls R) (told r).number)
  -- the part lies inside the slice that it names
  pub inside : (told r).start + (told r).size ≤ length (slice_of r o d)
  pub caption : (m : Message) → LegalMessage R m → octets m ≡ o → Captions R m d r

-- by the edition e and the way w, the message's octets o and the directory d went in, and r came back
pub record FindsBy (e w : ℕ) (o d : List ℕ) (r : Finding) : Type 0 where
  -- by known numbers all that is said of their book
  pub by_book : T (known e w) → Finds (rules_of (book_of e w)) o d r.answer
  -- number, place, parameter and part tell it, by unknown numbers too
  pub clear : Clear r.answer
  -- 16, with the empty part at the message's start, exactly where the edition or the way is unknown
  pub sixteen : (p b : ℕ) → (told r.answer ≡ refusal 16 p b) ↔ ((p ≡ 0) × (b ≡ 0) × (T (known e w) → ⊥))
  -- by unknown numbers nothing else
  pub unknown : (T (known e w) → ⊥) → (told r.answer).number ≡ 16
  -- the part lies inside the slice that it names, by unknown numbers too
  pub inside : (told r.answer).start + (told r.answer).size ≤ length (slice_of r.answer o d)
  -- every answer names its edition, but with 16 none
  pub names : ((told r.answer).number ≡ 16 → ⊥) → r.edition ≡ e
  pub names_none : (told r.answer).number ≡ 16 → r.edition ≡ 0
