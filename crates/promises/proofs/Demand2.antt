-- Demand 2: reading, writing and settling follow the rules, and invert each other. Over the promises of `read_way` and
-- `read`, `write` and `settle` and of the exports, by every edition and way, whatever outcomes they allow. So do
-- listings and listings that come back, over the promises of `listing` and `message_of` (document 02, Q-1).
-- Assumes nothing.
use Rattle.desk.specs.Told.{Settling}
use Rattle.std.proofs.Common.{Option, Ok}
use Prim.Native.Nat.{ℕ, ◌≤◌, ◌<◌}
use mathlib.Core.Path.{◌≡◌, refl, sym, ◌∙◌, ap, subst}
use mathlib.Core.List.{List, ◌++◌}
use mathlib.Core.Option.{none, some}
use native.Mathlib.Omega.{arith}
use lib.ListN.{length, take, drop}
use lib.Dec.{T}
use Rattle.rules.specs.Tests.{◌=?◌, ◌or◌, pick}
use Rattle.rules.proofs.Tests.{pick_not, clash}
use Rattle.rules.proofs.Rivals.{rivals as rivals_by, rival_is}
use Rattle.rules.proofs.Telling.{telling}
use Rattle.rules.specs.Octets.{Octets}
use Rattle.rules.specs.Editions.{known, book_of}
use Rattle.rules.specs.Table.{rules_of, old_book, row_in, row_of, listed_in, listed, rival_of}
use Rattle.rules.specs.declared.Book.{Book}
use Rattle.rules.specs.declared.Book.TheVariants.{PresentStrict, PresentLenient, OldStrict, OldLenient}
use Rattle.rules.specs.Message.{Parameter, Message, octets, LegalMessage}
use Rattle.rules.specs.Counting.{counted}
use Rattle.rules.proofs.Counting.{one_of_pair}
use Rattle.rules.proofs.Unique.{unique_in}
use Rattle.message.specs.declared.Part.{Part}
use Rattle.message.specs.Places.{CountsAt}
use Rattle.message.proofs.Promised as messages
use Rattle.draft.specs.declared.Draft.{Draft}
use Rattle.draft.specs.Draft.{message_of, Equal}
use Rattle.rules.specs.Laying.{laid}
use Rattle.draft.specs.Packing.{draft_of}
use Rattle.reader.specs.declared.Reading.{Reading}
use Rattle.reader.specs.Reads.{texts, ReadsBy}
use Rattle.reader.proofs.Promised as reader
use Rattle.reader.proofs.Told.{drafted_as}
use Rattle.writer.specs.Writing.{Writing}
use Rattle.writer.specs.Told as tells
use Rattle.writer.specs.Reasons.{WritesBy}
use Rattle.writer.proofs.Promised as writer
use Rattle.listing.specs.declared.ListingText.{ListingText}
use Rattle.listing.specs.Lists.{Has}
use Rattle.listing.proofs.Promised as listing
use Rattle.relist.specs.Relist.{limit}
use Rattle.relist.specs.Sentences.{RisingKinds, Returned, Relists}
use Rattle.relist.proofs.Promised as relist
use Rattle.desk.specs.declared.Desk.{Desk}
use Rattle.desk.specs.Settles.{SettlesBy}
use Rattle.desk.specs.History.{Call, last_said, OpenBy, Says}
use Rattle.desk.proofs.Promised as desk
use Rattle.firmware.specs.DeskRecord.{is_record, desk_in}
use Rattle.firmware.specs.RecordReads.{RecordReads}
use Rattle.firmware.specs.RecordSettles.{RecordSettles, RecordCall, last_said_in, SaysIn}
use Rattle.firmware.proofs.Promised as firmware
use Rattle.firmware.specs.Sizes.{draft_size}

-- ---- each follows the rules
-- reading: which answer, with its place and its edition, and which draft and texts; by known numbers by their book
pub reading_follows : (e w : ℕ) (o old : List ℕ) (r : Reading) (area : List ℕ) →
    reader.ReadGives e w o old r area → Octets o → ReadsBy e w o old r area
reading_follows e w o old r area h q = reader.reading e w o old r area h q

-- writing: each number exactly where document 01 gives it, and what the output then holds, by the draft's edition
pub writing_follows : (w : ℕ) (d : Draft) (t old : List ℕ) (r : Writing) (out : List ℕ) →
    writer.WriteGives w d t old r out → WritesBy w d t old r out
writing_follows w d t old r out h = writer.writing_by w d t old r out h

-- what counts: of a message's octets, the part of the contents of a type that count, and none exactly where none count
pub counting_follows : (b : Book) (o : List ℕ) (t : ℕ) (p : Option Part) → messages.CountedGives b o t p →
    (m : Message) → octets m ≡ o → CountsAt (rules_of b) m t p
counting_follows b o t p h m e = messages.counts b o t p h m e

-- settling: which answer, and what a notice, a call message and a refusal do to the desk
pub settling_follows : (e w : ℕ) (d : Desk) (o : List ℕ) (r : Settling) → desk.SettleGives e w d o r → Octets o →
    SettlesBy e w d o r
settling_follows e w d o r h q = desk.settling e w d o r h q

-- a reference is open after any calls, each by its own edition and way, as the last word on it says
pub open_by_last : (r : ℕ) (d : Desk) (cs : List Call) (e : Desk) → desk.Calls d cs e →
    OpenBy r d.places (last_said r cs none) e.places
open_by_last r d cs e h = desk.open_by_last r d cs e h

-- and the word of each call is the state and the reference of the 0DH that counts in its message
pub says : (r : ℕ) (c : Call) (d : Desk) → desk.CallGives d c → Octets c.octets → Says r c
says r c d h q = desk.says r c d h q

-- the exports do the same on their records
pub anthercup_reading_follows : (e y : ℕ) (o c t : List ℕ) (w : ℕ) (c' t' : List ℕ) →
    firmware.ReadGives e y o c t w c' t' → Octets o → length c ≡ draft_size → T (known e y) →
    RecordReads e y o c t w c' t'
anthercup_reading_follows e y o c t w c' t' h q n k = firmware.record_read e y o c t w c' t' h q n k

pub anthercup_settling_follows : (e y : ℕ) (c o : List ℕ) (w : ℕ) (c' : List ℕ) →
    firmware.SettleGives e y c o w c' → Octets o → T (is_record c) → RecordSettles e y (desk_in c) o w c'
anthercup_settling_follows e y c o w c' h q t = firmware.settled_record e y c o w c' h q t

pub anthercup_open_by_last : (r : ℕ) (c : List ℕ) → Octets c → T (is_record c) →
    (xs : List RecordCall) (c' : List ℕ) → firmware.RecordCalls c xs c' →
    OpenBy r (desk_in c).places (last_said_in r xs none) (desk_in c').places
anthercup_open_by_last r c q t xs c' h = firmware.open_by_last r c q t xs c' h

pub anthercup_says : (r : ℕ) (c : List ℕ) → Octets c → T (is_record c) → (x : RecordCall) →
    firmware.SettleGives x.edition x.way c x.octets x.word x.cells → Octets x.octets → SaysIn r x
anthercup_says r c k t x h q = firmware.says r c k t x h q

-- listings that come back: each answer exactly where the rules have it, and what the output then holds
pub relisting_follows : (t old : List ℕ) (w : Writing) (out : List ℕ) → relist.MessageOfGives t old w out →
    Relists (rules_of PresentLenient) t old w out
relisting_follows t old w out h = relist.follows t old w out h

-- ---- of each pair one counts at most, by every book; in the old edition 08H has no row, and 07H no rival (`one_pair`)
pub record Pairs (b : Book) (m : Message) : Type 0 where
  pub caller : (v : List ℕ) → counted (rules_of b) m 0x02 ≡ some v → counted (rules_of b) m 0x04 ≡ none
  pub no_caller : (v : List ℕ) → counted (rules_of b) m 0x04 ≡ some v → counted (rules_of b) m 0x02 ≡ none
  pub name : (v : List ℕ) → counted (rules_of b) m 0x07 ≡ some v → counted (rules_of b) m 0x08 ≡ none
  pub no_name : (v : List ℕ) → counted (rules_of b) m 0x08 ≡ some v → counted (rules_of b) m 0x07 ≡ none

rivals : (b : Book) (m : Message) (t u : ℕ) → (t ≡ u → ⊥) → rival_of (rules_of b) t ≡ u → rival_of (rules_of b) u ≡ t →
    (v : List ℕ) → counted (rules_of b) m t ≡ some v → counted (rules_of b) m u ≡ none
rivals b m t u n e f v k =
    subst (λ (x : ℕ). counted (rules_of b) m x ≡ none) e
    (one_of_pair (rules_of b) m t v (λ z. n (z ∙ e)) (ap (rival_of (rules_of b)) e ∙ f) k)

-- a type without a row never counts
pub unlisted : (b : Book) (m : Message) (t : ℕ) → (T (listed (rules_of b) t) → ⊥) → counted (rules_of b) m t ≡ none
unfolding counted
unlisted b m t n = pick_not _ _ _ n

pub pairs : (b : Book) (m : Message) → Pairs b m
unfolding rules_of rival_of row_of row_in listed listed_in pick ◌=?◌ ◌or◌
pairs PresentStrict m = record {
  caller = rivals PresentStrict m 0x02 0x04 (λ z. omega arith) refl refl;
  no_caller = rivals PresentStrict m 0x04 0x02 (λ z. omega arith) refl refl;
  name = rivals PresentStrict m 0x07 0x08 (λ z. omega arith) refl refl;
  no_name = rivals PresentStrict m 0x08 0x07 (λ z. omega arith) refl refl;
}
pairs PresentLenient m = record {
  caller = rivals PresentLenient m 0x02 0x04 (λ z. omega arith) refl refl;
  no_caller = rivals PresentLenient m 0x04 0x02 (λ z. omega arith) refl refl;
  name = rivals PresentLenient m 0x07 0x08 (λ z. omega arith) refl refl;
  no_name = rivals PresentLenient m 0x08 0x07 (λ z. omega arith) refl refl;
}
pairs OldStrict m = record {
  caller = rivals OldStrict m 0x02 0x04 (λ z. omega arith) refl refl;
  no_caller = rivals OldStrict m 0x04 0x02 (λ z. omega arith) refl refl;
  name = λ v k. unlisted OldStrict m 0x08 (λ t. t);
  no_name = λ v k. clash (cc (sym (unlisted OldStrict m 0x08 (λ t. t)) ∙ k));
}
pairs OldLenient m = record {
  caller = rivals OldLenient m 0x02 0x04 (λ z. omega arith) refl refl;
  no_caller = rivals OldLenient m 0x04 0x02 (λ z. omega arith) refl refl;
  name = λ v k. unlisted OldLenient m 0x08 (λ t. t);
  no_name = λ v k. clash (cc (sym (unlisted OldLenient m 0x08 (λ t. t)) ∙ k));
}

old_alone : (t : ℕ) → (t ≡ 0x02 → ⊥) → (t ≡ 0x04 → ⊥) → rivals_by 1 t ≡ t
unfolding rivals_by
old_alone t n m = grind (arith, telling)

-- of the old edition's types 02H and 04H alone have a rival: of every other the first counts, whatever stands before it
pub one_pair : (b : Book) → T (old_book b) → (t : ℕ) → t < 256 → (t ≡ 0x02 → ⊥) → (t ≡ 0x04 → ⊥) →
    rival_of (rules_of b) t ≡ t
unfolding old_book rules_of
one_pair PresentStrict k t h n m = absurd k
one_pair PresentLenient k t h n m = absurd k
one_pair OldStrict k t h n m = rival_is OldStrict t h ∙ old_alone t n m
one_pair OldLenient k t h n m = rival_is OldLenient t h ∙ old_alone t n m

-- ---- and they invert each other
-- an area that holds texts from octet 0 on
laid_area : (v old : List ℕ) → laid v old ≡ v ++ drop (length v) old
unfolding laid
laid_area v old = refl

-- by the edition that a draft holds, which is the one told
module _ (w : ℕ) (d : Draft) (area to : List ℕ) (x : Writing) (out : List ℕ) (k : writer.WriteGives w d area to x out)
    (m : Message) (p : length (octets m) ≤ length to) where
  abbrev Back : ℕ → Type 0
  Back v =
      T (known v w) → LegalMessage (rules_of (book_of v w)) m → d ≡ draft_of (rules_of (book_of v w)) m →
      (rest : List ℕ) → area ≡ texts (rules_of (book_of v w)) m ++ rest →
      (x.answer ≡ Ok (length (octets m))) × (out ≡ laid (octets m) to)

  back : (e : ℕ) → d.edition ≡ e → Back e
  back e z = subst Back z (λ t l q rest y. writer.writes_back w d area to x out k t m l rest q y p)

-- a message read and written again by one edition and way is the same octets, with room for its texts and for the
-- output; the octets behind them stay
pub read_written : (e w : ℕ) → T (known e w) → (o old : List ℕ) (r : Reading) (area : List ℕ) →
    reader.ReadGives e w o old r area →
    (to : List ℕ) (x : Writing) (out : List ℕ) → writer.WriteGives w r.draft area to x out →
    (m : Message) → LegalMessage (rules_of (book_of e w)) m → octets m ≡ o →
    length (texts (rules_of (book_of e w)) m) ≤ length old → length o ≤ length to →
    (x.answer ≡ Ok (length o)) × (out ≡ laid o to)
read_written e w t o old r area h to x out k m l q n p =
    let i = (unique_in (book_of e w)).octets o (m, l, q) in
    let g = drafted_as (reader.reads e w o old r area h t i) m l q n in
    let z =
    back w r.draft area to x out k m (subst (λ (v : List ℕ). length v ≤ length to) (sym q) p) e
    ((reader.reading e w o old r area h i).names t).1 t l (ap (λ (y : Reading). y.draft) g.0)
    (drop (length (texts (rules_of (book_of e w)) m)) old)
    (g.1 ∙ laid_area (texts (rules_of (book_of e w)) m) old) in
    (z.0 ∙ ap (λ (v : List ℕ). Ok (length v)) q, z.1 ∙ ap (λ (v : List ℕ). laid v to) q)

-- a draft that the writer takes, written and read again by its edition and one way with room for its texts, is the
-- same draft
pub written_read : (w : ℕ) (d : Draft) (t old : List ℕ) (x : Writing) (n : ℕ) (out : List ℕ) →
    T (known d.edition w) → writer.WriteGives w d t old x out → x.answer ≡ Ok n →
    (before : List ℕ) (r : Reading) (area : List ℕ) →
    reader.ReadGives d.edition w (take n out) before r area →
    length (texts (rules_of (book_of d.edition w)) (message_of d t)) ≤ length before →
    (r.answer ≡ Ok (length (texts (rules_of (book_of d.edition w)) (message_of d t))))
    × Equal d t r.draft area
unfolding tells.told
written_read w d t old x n out i h z before r area k p =
    let b = book_of d.edition w in
    let R = rules_of b in
    let m = message_of d t in
    let g = (writer.writing w d t old x out h i).lays n (ap tells.told z) in
    let c = g.accepted in
    let same : c.0 ≡ m = (unique_in b).message c.0 m (c.2 ∙ g.begins) in
    let l : LegalMessage R m = subst (LegalMessage R) same c.1 in
    let y = reader.reads d.edition w (take n out) before r area k i ((unique_in b).octets _ c) in
    let z' = drafted_as y m l (sym g.begins) p in
    let rest = drop (length (texts R m)) before in
    let v = writer.reads_back w d t old x out h i n z rest in
    let a : texts R m ++ rest ≡ area = sym (z'.1 ∙ laid_area (texts R m) before) in
    let u : draft_of R m ≡ r.draft = sym (ap (λ (y : Reading). y.draft) z'.0) in (
      ap (λ (y : Reading). y.answer) z'.0,
      subst (λ (y : Draft). Equal d t y area) u
          (subst (Equal d t (draft_of R m)) a v),
    )

-- equal drafts, each with its text area, written by one way over one output, get the same answer and leave the same
-- output
pub equals_written : (w : ℕ) (d : Draft) (t : List ℕ) (e : Draft) (u old : List ℕ) (x x' : Writing)
    (out out' : List ℕ) → writer.WriteGives w d t old x out → writer.WriteGives w e u old x' out' → Equal d t e u →
    (x ≡ x') × (out ≡ out')
equals_written w d t e u old x x' out out' h k q = writer.equals_written w d t e u old x x' out out' h k q

-- settled twice running by one edition and way, known or not, leaves what once left, and says the same; on the record
-- too
pub settled_twice : (e w : ℕ) (d : Desk) (o : List ℕ) (r r' : Settling) → desk.SettleGives e w d o r →
    desk.SettleGives e w r.answer.desk o r' → Octets o → r' ≡ r
settled_twice e w d o r r' h k q = desk.settled_twice e w d o r h r' k q

pub anthercup_settled_twice : (e y : ℕ) (c o : List ℕ) (w : ℕ) (c' : List ℕ) (w' : ℕ) (c'' : List ℕ) →
    firmware.SettleGives e y c o w c' → firmware.SettleGives e y c' o w' c'' → Octets c → Octets o →
    (w' ≡ w) × (c'' ≡ c')
anthercup_settled_twice e y c o w c' w' c'' h k p q = firmware.settled_twice e y c o w c' h w' c'' k p q

-- ---- listings, there and back
-- what showmsg prints of the message that a text becomes is the text
pub relisted_shown : (t old : List ℕ) (w : Writing) (out : List ℕ) → relist.MessageOfGives t old w out → (n : ℕ) →
    tells.told w.answer ≡ tells.success n → (r : ListingText) → listing.ListingGives (take n out) r →
    listing.shown r ≡ t
relisted_shown t old w out h n e r g = relist.shown_again t old w out h n e r g

-- what showmsg prints of a message with each type once, in order, of which each counts, becomes exactly its octets
pub shown_relisted : (m : Message) → LegalMessage (rules_of PresentLenient) m → RisingKinds 0 m.parameters →
    ((p : Parameter) → Has m.parameters p → counted (rules_of PresentLenient) m p.kind ≡ some p.contents) →
    (r : ListingText) → listing.ListingGives (octets m) r → (old : List ℕ) (w : Writing) (out : List ℕ) →
    relist.MessageOfGives (listing.shown r) old w out → length (octets m) ≤ length old →
    (tells.told w.answer ≡ tells.success (length (octets m)))
    × Returned (rules_of PresentLenient) old out m (length (octets m))
shown_relisted m l u c r g old w out h k = relist.made_again m l u c r g old w out h k

-- what the first 8,192 octets of a text get, the whole text gets
pub relisting_enough : (t old : List ℕ) (w w' : Writing) (out out' : List ℕ) →
    relist.MessageOfGives (take limit t) old w out → relist.MessageOfGives t old w' out' → (w ≡ w') × (out ≡ out')
relisting_enough t old w w' out out' h h' = relist.reads_enough t old w w' out out' h h'
