-- What settling says and leaves on a desk's record, read off the answer's word and over the written rules alone.
-- Assumes nothing.
use Rattle.std.specs.Prelude.{ℕ, ◌≡◌, Bool, true, false, ◌↔◌, List, [], ◌∷◌, T, Ok}
use Rattle.std.proofs.Math.Option.{Option, none, some}
use Rattle.rules.specs.Tests.{◌=?◌, pick}
use Rattle.rules.specs.Table.{rules_of}
use Rattle.rules.specs.Editions.{known, book_of}
use Rattle.rules.specs.Message as message
use Rattle.rules.specs.Message.{octets, LegalMessage}
use Rattle.rules.specs.Counting.{counted}
use Rattle.desk.specs.declared.Desk.{Desk}
use Rattle.desk.specs.History.{said_under, later}
use Rattle.desk.specs.Holding.{Fit}
use Rattle.desk.specs.Told.{told, Settling}
use Rattle.desk.specs.Settles.{SettlesBy}
use Rattle.firmware.specs.DeskRecord.{is_record, desk_in, desk_record}
use Rattle.firmware.specs.Word.{word_number, Unpacked}
use Rattle.rules.specs.Octets.{reference_of}

-- by any numbers, a record that is the desk d's: the word has what that desk's settling tells, 16 too, the record is
-- that of the desk it leaves
pub record RecordSettles (e y : ℕ) (d : Desk) (o : List ℕ) (w : ℕ) (c' : List ℕ) : Type 0 where
  pub settling : Settling
  pub settles : SettlesBy e y d o settling
  pub word :
      let a = told settling.answer.answer in
      Unpacked settling.edition a.number a.place a.parameter 0 0 w
  pub cells : c' ≡ desk_record settling.answer.desk

-- size and codes are right, every place is in range, and no reference stands twice
pub record IsDesk (c : List ℕ) : Type 0 where
  pub codes : T (is_record c)
  pub places : Fit (desk_in c).places

-- one call on a desk's record: the edition and the way told, the octets settled, the word that came back, and the
-- record as it then was
pub record RecordCall : Type 0 where
  pub edition : ℕ
  pub way : ℕ
  pub octets : List ℕ
  pub word : ℕ
  pub cells : List ℕ

-- what a call says of the reference r: with number 0, what a notice that is done says; else nothing
unfoldable pub said_in : ℕ → RecordCall → Option Bool
said_in r x =
    pick (word_number x.word =? 0) (said_under (rules_of (book_of x.edition x.way)) r x.octets (Ok tt)) none

-- the last word of some calls on r, after the word b
unfoldable pub last_said_in : ℕ → List RecordCall → Option Bool → Option Bool
last_said_in r [] b = b
last_said_in r (x ∷ xs) b = last_said_in r xs (later (said_in r x) b)

-- ---- over the written rules
-- the call got number 0, by known numbers, with a notice m whose 0DH counts with the state s and the reference r
pub record NamesIn (x : RecordCall) (s r : ℕ) : Type 0 where
  pub by_known : T (known x.edition x.way)
  pub m : message.Message
  pub legal : LegalMessage (rules_of (book_of x.edition x.way)) m
  pub is : octets m ≡ x.octets
  pub notice : m.kind ≡ 0x82
  pub done : word_number x.word ≡ 0
  pub high : ℕ
  pub low : ℕ
  pub counts : counted (rules_of (book_of x.edition x.way)) m 0x0D ≡ some (s ∷ high ∷ low ∷ [])
  pub reference : reference_of high low ≡ r

-- what a call says of r: open exactly with FFH, not open exactly with 00H
pub record SaysIn (r : ℕ) (x : RecordCall) : Type 0 where
  pub opens : (said_in r x ≡ some true) ↔ NamesIn x 0xFF r
  pub closes : (said_in r x ≡ some false) ↔ NamesIn x 0x00 r
