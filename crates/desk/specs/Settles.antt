-- What settling means over the written rules (document 01, The desk; document 02, Q-6): which answer, and what a
-- notice, a call message and a refusal do to the desk; by a book, and by an edition and a way (Q-5).
-- Assumes nothing.
use Rattle.std.specs.Prelude.{ℕ, ◌≤◌, ◌≡◌, ◌⊎◌, ◌↔◌, List, [], ◌∷◌, length, T, Result, Some}
use Rattle.std.proofs.Math.Option.{none, some}
use Rattle.rules.specs.Table.{Rules, rules_of}
use Rattle.rules.specs.Editions.{known, book_of}
use Rattle.rules.specs.Message.{Message, octets, LegalMessage, Accepts}
use Rattle.rules.specs.Counting.{counted}
use Rattle.desk.specs.declared.Lamp.TheVariants.{Off, On}
use Rattle.desk.specs.declared.Desk.{Desk}
use Rattle.desk.specs.Holding.{Fit, Full, Added, Removed}
use Rattle.rules.specs.Language.{calls}
use Rattle.rules.specs.declared.Fault.{Fault}
use Rattle.message.specs.Told as message
use Rattle.message.specs.Judges.{Judges, verdict_number}
use Rattle.desk.specs.declared.Outcome.{Outcome}
use Rattle.desk.specs.Told.{told, success, refusal, Clear, Settling}
use Rattle.rules.specs.Octets.{reference_of}

-- the notice m makes the desk e of the desk d
pub record Notices (R : Rules) (m : Message) (d e : Desk) : Type 0 where
  -- the number is set where 13H counts, whatever stood there, and stays where it does not
  pub number : (k : ℕ) → counted R m 0x13 ≡ some (k ∷ []) → e.waiting ≡ Some k
  pub number_stays : counted R m 0x13 ≡ none → e.waiting ≡ d.waiting
  -- the lamp is set where 0BH counts, and stays where it does not
  pub lamp_off : counted R m 0x0B ≡ some (0x00 ∷ []) → e.lamp ≡ Off
  pub lamp_on : counted R m 0x0B ≡ some (0xFF ∷ []) → e.lamp ≡ On
  pub lamp_stays : counted R m 0x0B ≡ none → e.lamp ≡ d.lamp
  -- where 0DH counts, FFH adds its reference and 00H takes it out; 55H does nothing, and the places stay where it
  -- does not count
  pub adds : (h l : ℕ) → counted R m 0x0D ≡ some (0xFF ∷ h ∷ l ∷ []) → Added (reference_of h l) d.places e.places
  pub removes : (h l : ℕ) → counted R m 0x0D ≡ some (0x00 ∷ h ∷ l ∷ []) →
      Removed (reference_of h l) d.places e.places
  pub unset : (h l : ℕ) → counted R m 0x0D ≡ some (0x55 ∷ h ∷ l ∷ []) → e.places ≡ d.places
  pub places_stay : counted R m 0x0D ≡ none → e.places ≡ d.places

-- the octets are those of a notice that adds a reference where all places hold others
pub record Fills (R : Rules) (ps o : List ℕ) : Type 0 where
  pub m : Message
  pub legal : LegalMessage R m
  pub is : octets m ≡ o
  pub notice : m.kind ≡ 0x82
  pub high : ℕ
  pub low : ℕ
  pub adds : counted R m 0x0D ≡ some (0xFF ∷ high ∷ low ∷ [])
  pub others : Full (reference_of high low) ps

-- the desk d and the octets o went in, and r came back
pub record Settles (R : Rules) (d : Desk) (o : List ℕ) (r : Outcome) : Type 0 where
  -- number, place and parameter tell the answer
  pub clear : Clear r.answer
  -- 17 exactly for a desk with a place out of range or a reference twice
  pub seventeen : (p : ℕ) → (told r.answer ≡ refusal 17 p 0) ↔ ((p ≡ 0) × (Fit d.places → ⊥))
  -- else 1 to 8 and 10 exactly as the whole read declines the octets, with its number, place and parameter
  pub verdict : Result ℕ Fault
  pub judged : Judges (calls R) o verdict
  pub refused : (k p b : ℕ) → T (verdict_number (calls R) k) →
      (told r.answer ≡ refusal k p b) ↔ (Fit d.places × (message.told verdict ≡ message.refusal k p b))
  -- else 21 exactly where a reference to be added has no place
  pub full : (p : ℕ) → (told r.answer ≡ refusal 21 p 0) ↔ ((p ≡ 0) × Fit d.places × Fills R d.places o)
  -- 17 and 21 name no parameter
  pub no_parameter :
      let k = (told r.answer).number in
      (k ≡ 17) ⊎ (k ≡ 21) → (told r.answer).parameter ≡ 0
  -- else done
  pub done : (told r.answer ≡ success) ↔ (Fit d.places × Accepts R o × (Fills R d.places o → ⊥))
  -- no other number
  pub numbers :
      let k = (told r.answer).number in
      1 ≤ k → T (verdict_number (calls R) k) ⊎ ((k ≡ 17) ⊎ (k ≡ 21))
  -- a refusal and a call message leave the desk as it was
  pub refusal_stays : 1 ≤ (told r.answer).number → r.desk ≡ d
  pub call_stays : (m : Message) → LegalMessage R m → octets m ≡ o → m.kind ≡ 0x80 → r.desk ≡ d
  -- a notice that is done settles what counts
  pub notice : (m : Message) → LegalMessage R m → octets m ≡ o → m.kind ≡ 0x82 → told r.answer ≡ success →
      Notices R m d r.desk
  -- a desk that fits is left as one that fits, with as many places
  pub fits : Fit d.places → Fit r.desk.places
  pub as_many : length r.desk.places ≡ length d.places

-- by the edition e and the way w, the desk d and the octets o went in, and r came back
pub record SettlesBy (e w : ℕ) (d : Desk) (o : List ℕ) (r : Settling) : Type 0 where
  -- by known numbers all that is said of their book
  pub by_book : T (known e w) → Settles (rules_of (book_of e w)) d o r.answer
  -- number, place and parameter tell the answer, by unknown numbers too
  pub clear : Clear r.answer.answer
  -- 17 exactly for a desk with a place out of range or a reference twice, whatever the numbers
  pub seventeen : (p b : ℕ) →
      (told r.answer.answer ≡ refusal 17 p b) ↔ ((p ≡ 0) × (b ≡ 0) × (Fit d.places → ⊥))
  -- else 16 exactly where the edition or the way is unknown
  pub sixteen : (p b : ℕ) →
      (told r.answer.answer ≡ refusal 16 p b) ↔ ((p ≡ 0) × (b ≡ 0) × Fit d.places × (T (known e w) → ⊥))
  -- by unknown numbers nothing else
  pub unknown :
      let k = (told r.answer.answer).number in
      (T (known e w) → ⊥) → (k ≡ 16) ⊎ (k ≡ 17)
  -- a refusal leaves the desk as it was, by unknown numbers too
  pub refusal_stays : 1 ≤ (told r.answer.answer).number → r.answer.desk ≡ d
  -- every answer names its edition, but with 16 and 17 none
  pub names :
      let k = (told r.answer.answer).number in
      (k ≡ 16 → ⊥) → (k ≡ 17 → ⊥) → r.edition ≡ e
  pub names_none :
      let k = (told r.answer.answer).number in
      (k ≡ 16) ⊎ (k ≡ 17) → r.edition ≡ 0
