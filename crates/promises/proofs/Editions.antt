-- Edition and way (document 02, Q-5 and Q-11): for each entry point exactly when 16 is given, that every other answer
-- but 17 names the edition, that edition and way are kept, and that drafts of two editions are never equal. Over the
-- promises, whatever outcomes they allow, for any numbers at all.
-- Assumes nothing.
use Rattle.walker.specs.Steps.{Stepped}
use Rattle.caption.specs.Told.{Finding}
use Rattle.desk.specs.Told.{Settling}
use Rattle.std.proofs.Common.{ℕ, Result, Ok, Err}
use Prim.Native.Nat.{ℕ, zero, suc, ◌≤◌, ◌<◌}
use mathlib.Core.Path.{◌≡◌, refl, sym, ◌∙◌, ap, subst}
use mathlib.Core.Bool.{Bool}
use mathlib.Core.Logic.{◌⊎◌, inl, inr, ◌↔◌}
use mathlib.Core.List.{List, ◌∷◌}
use mathlib.Core.Option.{Option, none, some}
use native.Mathlib.Omega.{arith}
use denote.Ref.{Bor}
use lib.ListN.{length, take, drop, get_or}
use lib.Dec.{T}
use Rattle.rules.specs.Tests.{◌=?◌, ◌or◌, pick}
use Rattle.rules.proofs.Tests.{decide, either, eq_of, of_eq}
use Rattle.rules.specs.Octets.{Octets}
use Rattle.rules.proofs.Octets.{octets-append, octets-take, octets-drop}
use Rattle.rules.specs.Editions.{edition, way, known, book_of}
use Rattle.rules.proofs.Editions.{no_way}
use Rattle.rules.specs.Table.{rules_of, old_book, listed_in, listed}
use Rattle.rules.specs.Message.{Message, message_kind, octets, LegalMessage, Accepts}
use Rattle.rules.specs.declared.Book.{Book}
use Rattle.rules.specs.declared.Book.TheVariants.{PresentStrict, PresentLenient, OldStrict, OldLenient}
use Rattle.rules.specs.Counting.{counted}
use Rattle.rules.proofs.Counting.{counted_iff}
use Rattle.rules.specs.Language.{language_of}
use Rattle.rules.specs.declared.Fault.{Fault}
use Rattle.message.specs.Judges.{verdict_number}
use Rattle.message.specs.Told as verdict
use Rattle.message.proofs.Told.{accepted_iff, some_number}
use Rattle.listener.specs.declared.Listener.{Listener}
use Rattle.listener.specs.declared.Heard.{Heard}
use Rattle.listener.specs.Answers.{Answers, Known, InRange}
use Rattle.listener.specs.Told as heard
use Rattle.listener.proofs.Promised as listener
use Rattle.draft.specs.declared.Draft.{Draft}
use Rattle.draft.specs.Draft.{empty_of}
use Rattle.draft.proofs.Promised as draft
use Rattle.reader.specs.declared.Reading.{Reading}
use Rattle.reader.specs.Told as read
use Rattle.reader.proofs.Promised as reader
use Rattle.writer.specs.Writing.{Writing}
use Rattle.writer.specs.Told as written
use Rattle.writer.proofs.Promised as writer
use Rattle.desk.specs.declared.Desk.{Desk}
use Rattle.desk.specs.Told as settled
use Rattle.desk.specs.Settles.{SettlesBy}
use Rattle.desk.proofs.Told.{told-done, refusal_leaves}
use Rattle.desk.specs.Holding.{Fit}
use Rattle.desk.proofs.Promised as desk
use Rattle.caption.specs.Told as shown
use Rattle.caption.proofs.Promised as caption
use Rattle.walker.specs.declared.Walker.{Walker}
use Rattle.walker.specs.Told as stepped
use Rattle.walker.specs.Moves.{Seen, Reached}
use Rattle.walker.proofs.Promised as walker
use Rattle.firmware.specs.Word.{word_edition, word_number, Unpacked, Sixteen, Seventeen}
use Rattle.firmware.specs.DeskRecord.{is_record}
use Rattle.firmware.specs.Sizes.{listener_size, draft_size, part_size}
use Rattle.firmware.specs.RecordHears.{Stands, Numbers, Sound, with_numbers, OwnOrNone}
use Rattle.firmware.specs.RecordParts.{RecordCounts, RecordFinds}
use Rattle.firmware.specs.RecordSettles.{IsDesk}
use Rattle.firmware.proofs.Promised as firmware
use Rattle.firmware.proofs.OtherNumbers.{stands_still, of_numbers}
use Rattle.promises.proofs.Demand2.{unlisted}
use Rattle.promises.proofs.Demand1.{ZeroOr, verdict_small, read_small, anthercup_read_refuses, anthercup_counted_refuses, anthercup_caption_refuses}

-- at place 0 and in no parameter, where a number is unknown
abbrev pub NoneKnown : ℕ → ℕ → ℕ → ℕ → Type 0
NoneKnown p b e w = (p ≡ 0) × (b ≡ 0) × (T (known e w) → ⊥)

-- ---- by value: 16 exactly when, and which edition an answer names
-- a listener's numbers are those of its reset; 17 comes first
pub listen_sixteen : (l : Listener) (o : List ℕ) (r : Heard) → listener.ListenGives l o r → Octets o → (p b : ℕ) →
    (heard.told r.answer ≡ heard.refusal 16 p b) ↔ ((p ≡ 0) × (b ≡ 0) × InRange l × (Known l → ⊥))
listen_sixteen l o r h q = (listener.answering l o r h q).sixteen

-- (`Answers`: 17 first, then this; what both leave; which edition every answer names)
pub listen_names : (l : Listener) (o : List ℕ) (r : Heard) → listener.ListenGives l o r → Octets o → Answers l o r
listen_names l o r h q = listener.answering l o r h q

-- the numbers of its reset, known or not, are its numbers after any calls
pub edition_kept : (e w : ℕ) (l : Listener) (h : List ℕ) → listener.HasHeard e w l h → (l.edition ≡ e) × (l.way ≡ w)
edition_kept e w l h d = listener.edition_kept e w l h d

-- reset to unknown numbers it stays as it is, and every call gets 16
pub unknown_listener : (e w : ℕ) → (T (known e w) → ⊥) → (l : Listener) (h : List ℕ) → listener.HasHeard e w l h →
    (o : List ℕ) (r : Heard) → listener.ListenGives l o r →
    (heard.told r.answer ≡ heard.refusal 16 0 0) × (r.listener ≡ l) × (r.taken ≡ 0) × (r.edition ≡ 0)
unfolding heard.told
unknown_listener e w n l h d o r p =
    let z = listener.gets_16 e w n l h d o r p in (
      ap (λ (x : Heard). heard.told x.answer) z,
      ap (λ (x : Heard). x.listener) z,
      ap (λ (x : Heard). x.taken) z,
      ap (λ (x : Heard). x.edition) z,
    )

-- a read: before all others; its draft names the edition too
pub read_sixteen : (e w : ℕ) (o old : List ℕ) (r : Reading) (area : List ℕ) → reader.ReadGives e w o old r area →
    Octets o → (p b : ℕ) → (read.told r.answer ≡ read.refusal 16 p b) ↔ NoneKnown p b e w
read_sixteen e w o old r area h q = (reader.reading e w o old r area h q).sixteen

pub read_names : (e w : ℕ) (o old : List ℕ) (r : Reading) (area : List ℕ) → reader.ReadGives e w o old r area →
    Octets o →
    (T (known e w) → (r.edition ≡ e) × (r.draft.edition ≡ e))
    × ((T (known e w) → ⊥) → (r.edition ≡ 0) × (r.draft.edition ≡ 0))
unfolding empty_of
read_names e w o old r area h q =
    let x = reader.reading e w o old r area h q in
    (x.names, λ n. let y = x.leaves n in (y.2, ap (λ (d : Draft). d.edition) y.1))

-- the writer: by the draft's own edition, before all others
pub write_sixteen : (w : ℕ) (d : Draft) (t old : List ℕ) (r : Writing) (out : List ℕ) →
    writer.WriteGives w d t old r out → (p : ℕ) →
    (written.told r.answer ≡ written.refusal 16 p) ↔ ((p ≡ 0) × (T (known d.edition w) → ⊥))
write_sixteen w d t old r out h = (writer.writing_by w d t old r out h).sixteen

pub write_names : (w : ℕ) (d : Draft) (t old : List ℕ) (r : Writing) (out : List ℕ) →
    writer.WriteGives w d t old r out →
    (T (known d.edition w) → r.edition ≡ d.edition) × ((T (known d.edition w) → ⊥) → r.edition ≡ 0)
write_names w d t old r out h = let x = writer.writing_by w d t old r out h in (x.names, λ n. (x.leaves n).1)

-- the desk: behind 17
pub settle_sixteen : (e w : ℕ) (d : Desk) (o : List ℕ) (r : Settling) → desk.SettleGives e w d o r → Octets o →
    (p b : ℕ) →
    (settled.told r.answer.answer ≡ settled.refusal 16 p b) ↔
    ((p ≡ 0) × (b ≡ 0) × Fit d.places × (T (known e w) → ⊥))
settle_sixteen e w d o r h q = (desk.settling e w d o r h q).sixteen

-- a number that is neither 16 nor 17, or one of the two
abbrev pub Naming : ℕ → ℕ → ℕ → Type 0
Naming k v e = ((k ≡ 16 → ⊥) → (k ≡ 17 → ⊥) → v ≡ e) × ((k ≡ 16) ⊎ (k ≡ 17) → v ≡ 0)

pub settle_names : (e w : ℕ) (d : Desk) (o : List ℕ) (r : Settling) → desk.SettleGives e w d o r → Octets o →
    Naming (settled.told r.answer.answer).number r.edition e
settle_names e w d o r h q = let x = desk.settling e w d o r h q in (x.names, x.names_none)

is_old : (w : ℕ) → T (known 1 w) → T (old_book (book_of 1 w))
unfolding book_of old_book pick ◌=?◌
is_old zero k = tt
is_old (suc zero) k = tt
is_old (suc (suc w)) k = absurd (no_way 1 w k)

-- of 13H and 0DH nothing counts in the old edition
none_counts : (b : Book) → T (old_book b) → (m : Message) →
    (counted (rules_of b) m 0x13 ≡ none) × (counted (rules_of b) m 0x0D ≡ none)
unfolding old_book rules_of listed listed_in pick ◌=?◌ ◌or◌
none_counts PresentStrict k m = absurd k
none_counts PresentLenient k m = absurd k
none_counts OldStrict k m = (unlisted OldStrict m 0x13 (λ z. z), unlisted OldStrict m 0x0D (λ z. z))
none_counts OldLenient k m = (unlisted OldLenient m 0x13 (λ z. z), unlisted OldLenient m 0x0D (λ z. z))

-- a notice of the old edition changes the lamp alone: neither number nor references, for 13H and 0DH have no row there
pub lamp_alone : (w : ℕ) (d : Desk) (o : List ℕ) (r : Settling) → desk.SettleGives 1 w d o r → Octets o →
    (r.answer.desk.waiting ≡ d.waiting) × (r.answer.desk.places ≡ d.places)
unfolding message_kind
lamp_alone w d o r h q = go (decide (known 1 w))
  where
    x : SettlesBy 1 w d o r
    x = desk.settling 1 w d o r h q

    same : r.answer.desk ≡ d → (r.answer.desk.waiting ≡ d.waiting) × (r.answer.desk.places ≡ d.places)
    same e = (ap (λ (y : Desk). y.waiting) e, ap (λ (y : Desk). y.places) e)

    some : (k : ℕ) → (k ≡ 16) ⊎ (k ≡ 17) → 1 ≤ k
    some k (inl e) = omega arith
    some k (inr e) = omega arith

    by_kind : (t : T (known 1 w)) (m : Message) → LegalMessage (rules_of (book_of 1 w)) m → octets m ≡ o →
        settled.told r.answer.answer ≡ settled.success → T (m.kind =? 0x80) ⊎ T (m.kind =? 0x82) →
        (r.answer.desk.waiting ≡ d.waiting) × (r.answer.desk.places ≡ d.places)
    by_kind t m g e s (inl k) = same ((x.by_book t).call_stays m g e (eq_of _ _ k))
    by_kind t m g e s (inr k) =
        let y = (x.by_book t).notice m g e (eq_of _ _ k) s in
        let n = none_counts (book_of 1 w) (is_old w t) m in
        (y.number_stays n.0, y.places_stay n.1)

    by_answer : (t : T (known 1 w)) (a : Result (Unit {0}) Fault) → r.answer.answer ≡ a →
        (r.answer.desk.waiting ≡ d.waiting) × (r.answer.desk.places ≡ d.places)
    by_answer t (Ok u) e =
        let s = (told-done _ (x.by_book t).clear).1 e in
        let y = ((x.by_book t).done.0 s).1 in
        by_kind t y.0 y.1 y.2 s (either _ _ y.1.kind)
    by_answer t (Err f) e = same (refusal_leaves (x.by_book t) f e)

    go : T (known 1 w) ⊎ (T (known 1 w) → ⊥) →
        (r.answer.desk.waiting ≡ d.waiting) × (r.answer.desk.places ≡ d.places)
    go (inl t) = by_answer t r.answer.answer refl
    go (inr n) = same (x.refusal_stays (some _ (x.unknown n)))

-- the caption
pub find_sixteen : (e w : ℕ) (o d : List ℕ) (r : Finding) → caption.FindGives e w o d r → Octets o → (p b : ℕ) →
    (shown.told r.answer ≡ shown.refusal 16 p b) ↔ NoneKnown p b e w
find_sixteen e w o d r h q = (caption.finding e w o d r h q).sixteen

pub find_names : (e w : ℕ) (o d : List ℕ) (r : Finding) → caption.FindGives e w o d r → Octets o →
    (((shown.told r.answer).number ≡ 16 → ⊥) → r.edition ≡ e) × ((shown.told r.answer).number ≡ 16 → r.edition ≡ 0)
find_names e w o d r h q = let x = caption.finding e w o d r h q in (x.names, x.names_none)

-- the walker: told once, kept, and asked at each call
pub step_sixteen : (e w : ℕ) (o : List ℕ) (at : ℕ) (r : Stepped) → walker.StepGives e w o at r → Octets o →
    (p b : ℕ) → (stepped.told r.answer ≡ stepped.refusal 16 p b) ↔ NoneKnown p b e w
step_sixteen e w o at r h q = (walker.stepping e w o at r h q).sixteen

pub look_sixteen : (v : Walker) (r : Stepped) → Seen v r → Octets v.message.now → (p b : ℕ) →
    (stepped.told r.answer ≡ stepped.refusal 16 p b) ↔ NoneKnown p b v.edition v.way
look_sixteen v r h q = (walker.looking v r h q).sixteen

pub look_names : (v : Walker) (r : Stepped) → Seen v r → Octets v.message.now →
    (((stepped.told r.answer).number ≡ 16 → ⊥) → r.edition ≡ v.edition)
    × ((stepped.told r.answer).number ≡ 16 → r.edition ≡ 0)
look_names v r h q = let x = walker.looking v r h q in (x.names, x.names_none)

pub walker_keeps : (e w : ℕ) (s : Bor (List ℕ)) (calls : ℕ) (v : Walker) → Reached e w s calls v → (r : Stepped) →
    Seen v r → (v.message ≡ s) × (v.edition ≡ e) × (v.way ≡ w)
walker_keeps e w s calls v h r k = walker.kept_at_each e w s calls v h r k

-- ---- drafts of two editions are never equal, and one of an unknown edition equals none
pub editions_apart : (d : Draft) (s : List ℕ) (e : Draft) (t : List ℕ) (x : Bool) → draft.SameGives d s e t x →
    (d.edition ≡ e.edition → ⊥) → T x → ⊥
editions_apart d s e t x h n = draft.editions_apart d s e t x h n

pub unknown_apart : (d : Draft) (s : List ℕ) (e : Draft) (t : List ℕ) (x : Bool) → draft.SameGives d s e t x →
    (T (edition d.edition) → ⊥) ⊎ (T (edition e.edition) → ⊥) → T x → ⊥
unknown_apart d s e t x h n = draft.unknown_apart d s e t x h n

-- ---- the exports: 16 exactly when, read off the word
-- two tests decide a number: a record's size, and then edition and way
by_size : (w n m e y : ℕ) → (n ≡ m → T (known e y) → word_number w ≤ 10) →
    (n ≡ m → (T (known e y) → ⊥) → word_number w ≡ 16) → ((n ≡ m → ⊥) → word_number w ≡ 17) →
    (word_number w ≡ 16) ↔ ((n ≡ m) × (T (known e y) → ⊥))
by_size w n m e y a b c = (λ x. go x (decide (n =? m)) (decide (known e y)), λ x. b x.0 x.1)
  where
    go : word_number w ≡ 16 → T (n =? m) ⊎ (T (n =? m) → ⊥) → T (known e y) ⊎ (T (known e y) → ⊥) →
        (n ≡ m) × (T (known e y) → ⊥)
    go x (inl s) (inl t) = absurd (omega (arith, x, a (eq_of _ _ s) t))
    go x (inl s) (inr t) = (eq_of _ _ s, t)
    go x (inr s) t = absurd (omega (arith, x, c (λ z. s (of_eq _ _ z))))

pub anthercup_reset_sixteen : (e y : ℕ) (c : List ℕ) (w : ℕ) (c' : List ℕ) → firmware.ResetGives e y c w c' →
    (word_number w ≡ 16) ↔ ((length c ≡ listener_size) × (T (known e y) → ⊥))
anthercup_reset_sixteen e y c w c' h =
    by_size w (length c) listener_size e y
    (λ n t. omega (arith, (firmware.reset_is_new e y c w c' h n t).0.number))
    (λ n t. (firmware.reset_sixteen e y c w c' h n t).word.number)
    (λ n. (firmware.reset_seventeen e y c w c' h n).word.number)

pub anthercup_listen_sixteen : (c o : List ℕ) (w : ℕ) (c' : List ℕ) → firmware.ListenGives c o w c' → Octets c →
    Octets o → (word_number w ≡ 16) ↔ (Stands c × (Numbers c → ⊥))
anthercup_listen_sixteen c o w c' h q p = firmware.listen_sixteen c o w c' h q p

-- so a record that is sound but for an unknown number in its octet 11 or 12, or in both, gets 16 and stays, whatever
-- state it is in
module _ (c : List ℕ) (e y : ℕ) (o : List ℕ) (w : ℕ) (c' : List ℕ) (q : Octets c) (s : Sound c)
    (n : T (known e y) → ⊥) where
  abbrev d : List ℕ
  d = with_numbers e y c

  unknown : Numbers d → ⊥
  unknown t =
      let z = of_numbers e y n c q s in
      n (subst (λ (v : ℕ). T (known e v)) z.1 (subst (λ (v : ℕ). T (known v (get_or d 12 0))) z.0 t))

  pub anthercup_lent_sixteen : OwnOrNone edition (get_or c 11 0) e → OwnOrNone way (get_or c 12 0) y → e < 256 → y < 256 →
      firmware.ListenGives (with_numbers e y c) o w c' → Octets o → Sixteen (with_numbers e y c) w c'
  anthercup_lent_sixteen i j u v h p = go (firmware.sound_or_refused d o w c' h r)
    where
      r : Octets d
      r = octets-append (take 11 c) (e ∷ y ∷ drop 13 c) (octets-take 11 c q) (u, (v, octets-drop 13 c q))

      sixteen : word_number w ≡ 16
      sixteen = (firmware.listen_sixteen d o w c' h r p).1 (stands_still e y n c q s i j, unknown)

      go : Sound d ⊎ (Sixteen d w c' ⊎ Seventeen d w c') → Sixteen d w c'
      go (inl x) = absurd (unknown x.numbers)
      go (inr (inl x)) = x
      go (inr (inr x)) = absurd (omega (arith, sixteen, x.word.number))

pub anthercup_read_sixteen : (e y : ℕ) (o c t : List ℕ) (w : ℕ) (c' t' : List ℕ) →
    firmware.ReadGives e y o c t w c' t' → Octets o →
    (word_number w ≡ 16) ↔ ((length c ≡ draft_size) × (T (known e y) → ⊥))
anthercup_read_sixteen e y o c t w c' t' h q =
    by_size w (length c) draft_size e y
    (λ n k. read_small (book_of e y) (word_number w) ((anthercup_read_refuses e y o c t w c' t' h q).0 n k).0)
    (λ n k. (firmware.read_sixteen e y o c t w c' t' h n k).0.word.number)
    (λ n. (firmware.read_seventeen e y o c t w c' t' h n).0.word.number)

pub anthercup_settle_sixteen : (e y : ℕ) (c o : List ℕ) (w : ℕ) (c' : List ℕ) → firmware.SettleGives e y c o w c' →
    Octets o → (word_number w ≡ 16) ↔ (IsDesk c × (T (known e y) → ⊥))
anthercup_settle_sixteen e y c o w c' h q = firmware.sixteen_iff e y c o w c' h q

pub anthercup_counted_sixteen : (e y : ℕ) (o : List ℕ) (t w : ℕ) → firmware.CountedGives e y o t w → Octets o →
    (word_number w ≡ 16) ↔ (T (known e y) → ⊥)
anthercup_counted_sixteen e y o t w h q =
    let x = anthercup_counted_refuses e y o t w h q in
    (λ z k. omega (arith, z, verdict_small (book_of e y) (word_number w) (x.0 k)), λ n. (x.1 n).number)

-- the caption's three cases: by known numbers, by unknown ones, and for a record of another size
abbrev Captioned : ℕ → ℕ → ℕ → Type 0
Captioned e y k =
    (T (known e y) × ZeroOr (verdict_number (language_of (book_of e y))) k) ⊎ ((T (known e y) → ⊥) × (k ≡ 16))

pub anthercup_caption_sixteen : (e y : ℕ) (o d c : List ℕ) (w : ℕ) (c' : List ℕ) →
    firmware.CaptionGives e y o d c w c' → Octets o →
    (word_number w ≡ 16) ↔ ((length c ≡ part_size) × (T (known e y) → ⊥))
anthercup_caption_sixteen e y o d c w c' h q =
    let x = anthercup_caption_refuses e y o d c w c' h q in
    by_size w (length c) part_size e y (λ n k. few k (x.0 n).0) (λ n k. none k (x.0 n).0) (λ n. (x.1 n).word.number)
  where
    few : T (known e y) → Captioned e y (word_number w) → word_number w ≤ 10
    few k (inl z) = verdict_small (book_of e y) (word_number w) z.1
    few k (inr z) = absurd (z.0 k)

    none : (T (known e y) → ⊥) → Captioned e y (word_number w) → word_number w ≡ 16
    none k (inl z) = absurd (k z.0)
    none k (inr z) = z.1

-- ---- and which edition a word names: the one told, 0 with 16 and 17
named_as : (k v e : ℕ) → v ≡ e → k ≤ 10 → Naming k v e
named_as k v e z h = (λ a b. z, λ x. absurd (other x))
  where
    other : (k ≡ 16) ⊎ (k ≡ 17) → ⊥
    other (inl y) = omega arith
    other (inr y) = omega arith

named_none : (k v e : ℕ) → (k ≡ 16) ⊎ (k ≡ 17) → v ≡ 0 → Naming k v e
named_none k v e (inl y) z = (λ a b. absurd (a y), λ x. z)
named_none k v e (inr y) z = (λ a b. absurd (b y), λ x. z)

-- by a record's size, and then edition and way
named_by_size : (w n m e y : ℕ) → (n ≡ m → T (known e y) → Naming (word_number w) (word_edition w) e) →
    (n ≡ m → (T (known e y) → ⊥) → Unpacked 0 16 0 0 0 0 w) → ((n ≡ m → ⊥) → Unpacked 0 17 0 0 0 0 w) →
    Naming (word_number w) (word_edition w) e
named_by_size w n m e y a b c = go (decide (n =? m)) (decide (known e y))
  where
    go : T (n =? m) ⊎ (T (n =? m) → ⊥) → T (known e y) ⊎ (T (known e y) → ⊥) → Naming (word_number w) (word_edition w) e
    go (inl s) (inl t) = a (eq_of _ _ s) t
    go (inl s) (inr t) = let u = b (eq_of _ _ s) t in named_none _ _ e (inl u.number) u.edition
    go (inr s) t = let u = c (λ z. s (of_eq _ _ z)) in named_none _ _ e (inr u.number) u.edition

pub anthercup_reset_names : (e y : ℕ) (c : List ℕ) (w : ℕ) (c' : List ℕ) → firmware.ResetGives e y c w c' →
    Naming (word_number w) (word_edition w) e
anthercup_reset_names e y c w c' h =
    named_by_size w (length c) listener_size e y
    (λ n t. let u = (firmware.reset_is_new e y c w c' h n t).0 in
    named_as _ _ e u.edition (omega (arith, u.number)))
    (λ n t. (firmware.reset_sixteen e y c w c' h n t).word) (λ n. (firmware.reset_seventeen e y c w c' h n).word)

-- a record names the edition in its octet 11, which is that of its reset after any calls, as its octet 12 is its way
pub anthercup_listen_names : (c o : List ℕ) (w : ℕ) (c' : List ℕ) → firmware.ListenGives c o w c' → Octets c →
    Octets o → Naming (word_number w) (word_edition w) (get_or c 11 0)
anthercup_listen_names c o w c' h q p =
    (λ a b. firmware.listen_names c o w c' h q p a b, λ x. go x (firmware.sound_or_refused c o w c' h q))
  where
    go : (word_number w ≡ 16) ⊎ (word_number w ≡ 17) → Sound c ⊎ (Sixteen c w c' ⊎ Seventeen c w c') → word_edition w ≡ 0
    go (inl x) (inl s) = absurd (omega (arith, x, firmware.numbers_small c o w c' h s p))
    go (inr x) (inl s) = absurd (omega (arith, x, firmware.numbers_small c o w c' h s p))
    go x (inr (inl z)) = z.word.edition
    go x (inr (inr z)) = z.word.edition

pub anthercup_numbers_kept : (e y : ℕ) (c h : List ℕ) → firmware.RecordHasHeard e y c h →
    (get_or c 11 0 ≡ e) × (get_or c 12 0 ≡ y)
anthercup_numbers_kept e y c h d = firmware.numbers_kept e y c h d

pub anthercup_read_names : (e y : ℕ) (o c t : List ℕ) (w : ℕ) (c' t' : List ℕ) →
    firmware.ReadGives e y o c t w c' t' → Octets o → Naming (word_number w) (word_edition w) e
anthercup_read_names e y o c t w c' t' h q =
    named_by_size w (length c) draft_size e y
    (λ n k. named_as _ _ e (firmware.record_read e y o c t w c' t' h q n k).word.edition
    (read_small (book_of e y) (word_number w) ((anthercup_read_refuses e y o c t w c' t' h q).0 n k).0))
    (λ n k. (firmware.read_sixteen e y o c t w c' t' h n k).0.word)
    (λ n. (firmware.read_seventeen e y o c t w c' t' h n).0.word)

pub anthercup_settle_names : (e y : ℕ) (c o : List ℕ) (w : ℕ) (c' : List ℕ) → firmware.SettleGives e y c o w c' →
    Octets o → Naming (word_number w) (word_edition w) e
anthercup_settle_names e y c o w c' h q = go (decide (is_record c))
  where
    go : T (is_record c) ⊎ (T (is_record c) → ⊥) → Naming (word_number w) (word_edition w) e
    go (inl t) =
        let x = firmware.settled_record e y c o w c' h q t in
        rw (x.word.number, x.word.edition) (x.settles.names, x.settles.names_none)
    go (inr n) = let u = (firmware.no_desk e y c o w c' h n).word in named_none _ _ e (inr u.number) u.edition

pub anthercup_counted_names : (e y : ℕ) (o : List ℕ) (t w : ℕ) → firmware.CountedGives e y o t w → Octets o →
    Naming (word_number w) (word_edition w) e
unfolding verdict.told
anthercup_counted_names e y o t w h q = go (decide (known e y))
  where
    of_message : (x : RecordCounts e y o t w) (d : Accepts (rules_of (book_of e y)) o) (v : Option (List ℕ)) →
        counted (rules_of (book_of e y)) d.0 t ≡ v → word_edition w ≡ e
    of_message x d none z = (x.none_counts d.0 d.1 d.2 z).edition
    of_message x d (some v) z =
        (x.counts d.0 d.1 d.2 v ((counted_iff (rules_of (book_of e y)) d.0 t v).0 z)).edition

    named : (x : RecordCounts e y o t w) (v : Result ℕ Fault) → x.verdict ≡ v → word_edition w ≡ e
    named x (Ok n) z = of_message x ((accepted_iff x.judged n).0 z).1 _ refl
    named x (Err f) u =
        let z = ap (λ (v : Result ℕ Fault). (verdict.told v).number) u in
        (x.refused (omega (arith, z, some_number x.judged f u))).edition

    go : T (known e y) ⊎ (T (known e y) → ⊥) → Naming (word_number w) (word_edition w) e
    go (inl k) =
        named_as _ _ e (named (firmware.counted_word e y o t w h q k) _ refl)
        (verdict_small (book_of e y) (word_number w) ((anthercup_counted_refuses e y o t w h q).0 k))
    go (inr n) =
        let u = firmware.counted_sixteen e y o t w h n in named_none _ _ e (inl u.number) u.edition

pub anthercup_caption_names : (e y : ℕ) (o d c : List ℕ) (w : ℕ) (c' : List ℕ) →
    firmware.CaptionGives e y o d c w c' → Octets o → Naming (word_number w) (word_edition w) e
anthercup_caption_names e y o d c w c' h q = go (decide (length c =? part_size))
  where
    not_17 : Captioned e y (word_number w) → word_number w ≡ 17 → ⊥
    not_17 (inl x) z = omega (arith, z, verdict_small (book_of e y) (word_number w) x.1)
    not_17 (inr x) z = omega (arith, z, x.1)

    none : (x : RecordFinds e y o d c w c') → Captioned e y (word_number w) →
        (word_number w ≡ 16) ⊎ (word_number w ≡ 17) → word_edition w ≡ 0
    none x k (inl z) = x.word.edition ∙ x.finds.names_none (sym x.word.number ∙ z)
    none x k (inr z) = absurd (not_17 k z)

    go : T (length c =? part_size) ⊎ (T (length c =? part_size) → ⊥) → Naming (word_number w) (word_edition w) e
    go (inl t) =
        let n = eq_of _ _ t in
        let x = firmware.record_caption e y o d c w c' h q n in
        let k = ((anthercup_caption_refuses e y o d c w c' h q).0 n).0 in (
          λ a b. x.word.edition ∙ x.finds.names (λ z. a (x.word.number ∙ z)),
          λ z. none x k z,
        )
    go (inr t) =
        let u = (firmware.caption_seventeen e y o d c w c' h (λ z. t (of_eq _ _ z))).word in
        named_none _ _ e (inr u.number) u.edition
