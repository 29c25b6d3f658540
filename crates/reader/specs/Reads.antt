-- What a read says of the octets and leaves in the area, over the written rules alone (document 01, Drafts and
-- Numbers).
-- Assumes nothing.
use Rattle.std.specs.Prelude.{ℕ, ◌≤◌, ◌<◌, ◌≡◌, Bool, ◌↔◌, List, length, take, T, Result}
use Rattle.rules.specs.Tests.{◌=?◌, ◌or◌}
use Rattle.rules.specs.Contents.{within}
use Rattle.rules.specs.Table.{Rules, rules_of}
use Rattle.rules.specs.Editions.{known, book_of}
use Rattle.rules.specs.Message.{Message, octets, LegalMessage, Accepts, most}
use Rattle.rules.specs.Endings.{Ending, Spoilt, Numbered}
use Rattle.rules.specs.Language.{calls}
use Rattle.message.specs.Judges.{verdict_number}
use Rattle.draft.specs.Draft.{empty_of, message_of}
use Rattle.rules.specs.Laying.{laid}
use Rattle.draft.specs.Packing.{texts_of, draft_of}
use Rattle.reader.specs.declared.Reading.{Reading}
use Rattle.reader.specs.Told.{told, success, refusal, Clear}
use Rattle.rules.specs.declared.Fault.{Fault}

-- number, place, parameter and size are small: a word has room for them
pub record Near (p : Result ℕ Fault) : Type 0 where
  pub number : (told p).number ≤ 10
  pub place : (told p).place ≤ 258
  pub parameter : (told p).parameter ≤ most
  pub size : (told p).size ≤ 258

-- the text octets of all parameters of a message
abbrev pub texts : Rules → Message → List ℕ
texts R m = texts_of R m.parameters

-- the numbers of a read: those of the verdict, and 9
unfoldable pub read_number : Rules → ℕ → Bool
read_number R k = verdict_number (calls R) k or k =? 9

-- r is the answer to the octets o with an area that held `old` and then holds `area`
pub record Reads (R : Rules) (o old : List ℕ) (r : Reading) (area : List ℕ) : Type 0 where
  -- number, place, parameter and size tell the answer
  pub clear : Clear r.answer
  -- it names the edition
  pub names : r.edition ≡ R.edition
  -- 1 to 6 and 10 exactly at the octet that spoils the message, with the number and the parameter of its role
  pub spoilt : (k p b : ℕ) → T ((calls R).given k) →
      (told r.answer ≡ refusal k p b) ↔ (Spoilt (Accepts R) o p × Numbered (Accepts R) (calls R).roles o p k b)
  -- 8 at the number of octets exactly when they can still be completed
  pub early : (p : ℕ) → (told r.answer ≡ refusal 8 p 0) ↔ ((p ≡ length o) × Ending (Accepts R) o)
  -- 7 at the first octet behind an accepted message
  pub followed : (p : ℕ) → (told r.answer ≡ refusal 7 p 0) ↔ ((p < length o) × Accepts R (take p o))
  -- 9 exactly when a message's text octets exceed the area, with their number
  pub short : (p : ℕ) →
      (told r.answer ≡ refusal 9 p 0) ↔
      ((m : Message) × LegalMessage R m × (octets m ≡ o) × (p ≡ length (texts R m)) × (length old < p))
  -- 7, 8 and 9 name no parameter
  pub no_parameter : T (within (7, 9) (told r.answer).number) → (told r.answer).parameter ≡ 0
  -- an accepted message with room gives its draft, always; the texts lie from octet 0 on and later octets stay; the
  -- draft stands for exactly that message
  pub drafted : (m : Message) → LegalMessage R m → octets m ≡ o → length (texts R m) ≤ length old →
      (told r.answer ≡ success (length (texts R m))) × (r.draft ≡ draft_of R m) × (area ≡ laid (texts R m) old)
      × (message_of r.draft area ≡ m)
  -- and nothing else gives one
  pub only : (told r.answer).number ≡ 0 → Accepts R o
  -- a refusal leaves the area, and the draft is empty; its number is one of 1 to 9, or 10
  pub refused : 1 ≤ (told r.answer).number →
      (area ≡ old) × (r.draft ≡ empty_of R.edition 0) × T (read_number R (told r.answer).number)

-- the same, by the edition e and the way w (document 02, Q-5 and Q-11)
pub record ReadsBy (e w : ℕ) (o old : List ℕ) (r : Reading) (area : List ℕ) : Type 0 where
  -- by known numbers all that is said of a read by their book
  pub by_book : T (known e w) → Reads (rules_of (book_of e w)) o old r area
  -- number, place, parameter and size tell the answer, by unknown numbers too
  pub clear : Clear r.answer
  -- 16 at 0 exactly where one is unknown: it comes before all others
  pub sixteen : (p b : ℕ) → (told r.answer ≡ refusal 16 p b) ↔ ((p ≡ 0) × (b ≡ 0) × (T (known e w) → ⊥))
  pub unknown : (T (known e w) → ⊥) → told r.answer ≡ refusal 16 0 0
  -- with it the area stays, the draft is empty, and the edition of answer and draft is 0
  pub leaves : (T (known e w) → ⊥) → (area ≡ old) × (r.draft ≡ empty_of 0 0) × (r.edition ≡ 0)
  -- every other answer names the edition, and so does its draft, the empty one too
  pub names : T (known e w) → (r.edition ≡ e) × (r.draft.edition ≡ e)
