-- The way (document 02, Q-11): exactly when 10 is given, which is never by the lenient way; where no way is named it is
-- the strict one; what the strict way waits for is made of listed types; and all that it accepts the lenient way of the
-- same edition accepts, with the same draft, the same settled values and the same desk. Over the promises, whatever
-- outcomes they allow.
-- Assumes nothing.
use Rattle.walker.specs.Steps.{Stepped}
use Rattle.caption.specs.Told.{Finding}
use Rattle.desk.specs.Told.{Settling}
use Rattle.std.proofs.Common.{ℕ, Result, Ok, Err}
use Prim.Native.Nat.{ℕ, ◌≤◌, ◌<◌}
use mathlib.Core.Path.{◌≡◌, refl, sym, ◌∙◌, ap, subst}
use mathlib.Core.Logic.Iff
use mathlib.Core.Logic.{◌⊎◌, inl, inr, ◌↔◌, ◌≢◌}
use mathlib.Core.List.{List, [], ◌++◌}
use mathlib.Core.Option.{Option, none, some}
use native.Mathlib.Omega.{arith}
use lib.ListN.{length, take}
use lib.Dec.{T}
use Rattle.rules.specs.Tests.{◌=?◌}
use Rattle.rules.proofs.Tests.{decide, either, left, eq_of, of_eq, pick_not}
use Rattle.rules.specs.Octets.{Octets}
use Rattle.rules.specs.Table.{Rules, rules_of, listed, class_of, class_fault, type_fault}
use Rattle.rules.specs.Editions.{strict, lenient, edition, known, book_of}
use Rattle.rules.proofs.Editions.{by_strict, by_lenient}
use Rattle.rules.specs.Message as message_of
use Rattle.rules.specs.Message.{octets, LegalMessage, Accepts}
use Rattle.rules.specs.Endings.{Ending, Spoilt, Numbered}
use Rattle.rules.specs.Language.{language_of, calls}
use Rattle.rules.specs.Judge.{given}
use Rattle.rules.specs.Counting.{counted}
use Rattle.rules.proofs.Counting.{counted_iff}
use Rattle.rules.specs.Unlisted.{UnlistedAt, AllListed}
use Rattle.rules.proofs.ContentLaw.{sound_rules, type_fault_lem}
use Rattle.rules.proofs.InRange.{given_strict}
use Rattle.rules.proofs.Unlisted.{no_contents, ten_iff}
use Rattle.rules.proofs.Ways.{strict_of, lenient_of, strict_accepts, ways_count, refuses_iff}
use Rattle.listener.specs.declared.Listener.{Listener}
use Rattle.listener.specs.declared.Heard.{Heard}
use Rattle.listener.specs.Heard.{new_listener}
use Rattle.listener.specs.Told as heard
use Rattle.listener.proofs.Promised as listener
use Rattle.rules.specs.declared.Fault.{Fault}
use Rattle.message.specs.Judges.{verdict_number, Judges}
use Rattle.message.specs.Told as judged
use Rattle.message.proofs.Judges.{verdict_number_lem}
use Rattle.message.proofs.Promised as message
use Rattle.message.proofs.Ways.{lenient_accepts}
use Rattle.draft.specs.declared.Draft.{Draft}
use Rattle.draft.specs.Draft.{parameter_of}
use Rattle.reader.specs.declared.Reading.{Reading}
use Rattle.reader.specs.Told as read
use Rattle.reader.specs.Reads.{read_number, Reads, ReadsBy}
use Rattle.reader.proofs.Promised as reader
use Rattle.reader.proofs.Ways.{same_read, same_area_in}
use Rattle.writer.specs.Writing.{Writing}
use Rattle.writer.specs.Told as written
use Rattle.writer.specs.Reasons.{Makes, entry_at, Asked, Writes}
use Rattle.writer.proofs.Promised as writer
use Rattle.desk.specs.declared.Desk.{Desk}
use Rattle.desk.specs.Holding.{Fit}
use Rattle.desk.specs.Told as settled
use Rattle.desk.specs.Settles.{Settles}
use Rattle.desk.proofs.Promised as desk
use Rattle.desk.proofs.Ways.{same_settling}
use Rattle.caption.specs.declared.Shown.{Shown}
use Rattle.caption.specs.declared.Shown.TheVariants as found
use Rattle.caption.specs.Told as shown
use Rattle.caption.proofs.Promised as caption
use Rattle.caption.proofs.Ways.{same_finding}
use Rattle.walker.specs.declared.Walker.{Walker}
use Rattle.walker.specs.Told as stepped
use Rattle.walker.specs.Moves.{Seen}
use Rattle.walker.proofs.Promised as walker
use Rattle.firmware.specs.Word.{word_number, word_place, word_parameter, word_size, Unpacked}
use Rattle.firmware.specs.Record.{record_of}
use Rattle.firmware.specs.RecordReads.{RecordReads}
use Rattle.firmware.specs.RecordParts.{RecordCounts}
use Rattle.firmware.specs.DeskRecord.{is_record, desk_in}
use Rattle.firmware.specs.Sizes.{listener_size, draft_size, part_size}
use Rattle.firmware.proofs.Promised as firmware
use Rattle.firmware.proofs.Ways as exports
use Rattle.promises.proofs.Demand1.{ZeroOr, six_lenient, eight_lenient, nine_lenient, anthercup_read_refuses, anthercup_counted_refuses, anthercup_caption_refuses}

-- by the strict way, octet p is the type of parameter b and the edition does not list it; the octets before it begin a
-- message
abbrev pub AtUnlisted : ℕ → ℕ → List ℕ → ℕ → ℕ → Type 0
AtUnlisted e w o p b = (w ≡ strict) × UnlistedAt (rules_of (book_of e w)) o p b

-- ---- 10 exactly when, by known numbers
module _ (e w : ℕ) (k : T (known e w)) where
  abbrev R : Rules
  R = rules_of (book_of e w)

  ten : (o : List ℕ) (p b : ℕ) →
      (Spoilt (Accepts R) o p × Numbered (Accepts R) (calls R).roles o p 10 b) ↔ AtUnlisted e w o p b
  ten o p b =
      let x = ten_iff R (sound_rules (book_of e w)) o p b in
      let z = refuses_iff e w k in (
        λ y. let u = x.0 y in (z.0 u.0, u.1),
        λ y. x.1 (z.1 y.0, y.1),
      )

  given_ten : w ≡ strict → T (given R 10)
  given_ten z = (given_strict R 10 ((refuses_iff e w k).1 z)).1 (inr refl)

  verdict_ten : w ≡ strict → T (verdict_number (language_of (book_of e w)) 10)
  unfolding verdict_number
  verdict_ten z = left _ _ (given_ten z)

  of_verdict : (n : ℕ) → n ≡ 10 → T (verdict_number (language_of (book_of e w)) n) → T (given R 10)
  of_verdict n z t = go (verdict_number_lem (language_of (book_of e w)) n t)
    where
      go : T (given R n) ⊎ ((n ≡ 7) ⊎ (n ≡ 8)) → T (given R 10)
      go (inl u) = subst (λ (m : ℕ). T (given R m)) z u
      go (inr (inl u)) = absurd (omega arith)
      go (inr (inr u)) = absurd (omega arith)

  -- the verdict on a whole message
  judges_ten : (o : List ℕ) (v : Result ℕ Fault) → Judges (language_of (book_of e w)) o v → (p b : ℕ) →
      (judged.told v ≡ judged.refusal 10 p b) ↔ AtUnlisted e w o p b
  judges_ten o v j p b = (
    λ x.
        let n : (judged.told v).number ≡ 10 = ap (λ (t : judged.Told). t.number) x in
        let g = of_verdict _ n (j.numbers (omega (arith, n))) in
        (ten o p b).0 ((j.spoilt 10 p b g).0 x),
    λ y. (j.spoilt 10 p b (given_ten y.0)).1 ((ten o p b).1 y),
  )

  pub judge_ten : (o : List ℕ) (v : Result ℕ Fault) → message.JudgeGives (book_of e w) o v → Octets o → (p b : ℕ) →
      (judged.told v ≡ judged.refusal 10 p b) ↔ AtUnlisted e w o p b
  judge_ten o v h q p b = judges_ten o v (message.verdicts (book_of e w) o v h q) p b

  -- a listener that heard h since its reset, and then the run o
  pub listen_ten : (l : Listener) (h : List ℕ) → listener.HasHeard e w l h → (o : List ℕ) → Octets o → (r : Heard) →
      listener.ListenGives l o r → (p b : ℕ) →
      (heard.told r.answer ≡ heard.refusal 10 p b) ↔ AtUnlisted e w (h ++ o) p b
  listen_ten l h d o q r x p b =
      Iff.trans ((listener.demand3 e w k l h d o q r x).refuses 10 p b (omega arith)) (ten (h ++ o) p b)

  reads_ten : (o old : List ℕ) (r : Reading) (area : List ℕ) → Reads R o old r area → (p b : ℕ) →
      (read.told r.answer ≡ read.refusal 10 p b) ↔ AtUnlisted e w o p b
  unfolding read_number
  reads_ten o old r area x p b = (
    λ y.
        let n : (read.told r.answer).number ≡ 10 = ap (λ (t : read.Told). t.number) y in
        let g = number n (x.refused (omega (arith, n))).2 in
        (ten o p b).0 ((x.spoilt 10 p b g).0 y),
    λ y. (x.spoilt 10 p b (given_ten y.0)).1 ((ten o p b).1 y),
  )
    where
      number : (read.told r.answer).number ≡ 10 → T (read_number R (read.told r.answer).number) → T (given R 10)
      number n t = go (either _ _ t)
        where
          go : T (verdict_number (calls R) (read.told r.answer).number) ⊎ T ((read.told r.answer).number =? 9) →
              T (given R 10)
          go (inl u) = of_verdict _ n u
          go (inr u) = let z = eq_of _ _ u in absurd (omega (arith, n, z))

  -- a whole read
  pub read_ten : (o old : List ℕ) (r : Reading) (area : List ℕ) → reader.ReadGives e w o old r area → Octets o →
      (p b : ℕ) → (read.told r.answer ≡ read.refusal 10 p b) ↔ AtUnlisted e w o p b
  read_ten o old r area h q p b = reads_ten o old r area (reader.reads e w o old r area h k q) p b

  settles_ten : (d : Desk) (o : List ℕ) (r : Settling) → Settles R d o r.answer → (p b : ℕ) →
      (settled.told r.answer.answer ≡ settled.refusal 10 p b) ↔ (Fit d.places × AtUnlisted e w o p b)
  settles_ten d o r s p b = (
    λ x.
        let n : (settled.told r.answer.answer).number ≡ 10 = ap (λ (t : settled.Told). t.number) x in
        let t = number n (s.numbers (omega (arith, n))) in
        let y = (s.refused 10 p b t).0 x in
        (y.0, (judges_ten o s.verdict s.judged p b).0 y.1),
    λ y. (s.refused 10 p b (verdict_ten y.1.0)).1 (y.0, (judges_ten o s.verdict s.judged p b).1 y.1),
  )
    where
      number : (settled.told r.answer.answer).number ≡ 10 →
          T (verdict_number (calls R) (settled.told r.answer.answer).number)
          ⊎ (((settled.told r.answer.answer).number ≡ 17) ⊎ ((settled.told r.answer.answer).number ≡ 21)) →
          T (verdict_number (calls R) 10)
      number n (inl t) = subst (λ (m : ℕ). T (verdict_number (calls R) m)) n t
      number n (inr (inl z)) = absurd (omega (arith, n, z))
      number n (inr (inr z)) = absurd (omega (arith, n, z))

  -- settling, on a desk that fits; caption and walker
  pub settle_ten : (d : Desk) (o : List ℕ) (r : Settling) → desk.SettleGives e w d o r → Octets o → (p b : ℕ) →
      (settled.told r.answer.answer ≡ settled.refusal 10 p b) ↔ (Fit d.places × AtUnlisted e w o p b)
  settle_ten d o r h q p b = settles_ten d o r ((desk.settling e w d o r h q).by_book k) p b

  pub find_ten : (o d : List ℕ) (r : Finding) → caption.FindGives e w o d r → Octets o → (p b : ℕ) →
      (shown.told r.answer ≡ shown.refusal 10 p b) ↔ AtUnlisted e w o p b
  find_ten o d r h q p b =
      let s = (caption.finding e w o d r h q).by_book k in
      Iff.trans (s.refused 10 p b (omega arith)) (judges_ten o s.verdict s.judged p b)

  pub step_ten : (o : List ℕ) (at : ℕ) (r : Stepped) → walker.StepGives e w o at r → Octets o → (p b : ℕ) →
      (stepped.told r.answer ≡ stepped.refusal 10 p b) ↔ AtUnlisted e w o p b
  step_ten o at r h q p b =
      let s = (walker.stepping e w o at r h q).by_book k in
      Iff.trans (s.refused 10 p b (omega arith)) (judges_ten o s.verdict s.judged p b)

pub look_ten : (v : Walker) (r : Stepped) → Seen v r → Octets v.message.now → T (known v.edition v.way) →
    (p b : ℕ) →
    (stepped.told r.answer ≡ stepped.refusal 10 p b) ↔ AtUnlisted v.edition v.way v.message.now p b
look_ten v r h q k p b =
    let s = (walker.looking v r h q).by_book k in
    Iff.trans (s.refused 10 p b (omega arith))
    (judges_ten v.edition v.way k v.message.now s.verdict s.judged p b)

-- ---- the same of the exports, read off the word
abbrev pub WordTen : ℕ → ℕ → ℕ → Type 0
WordTen w p b = (word_number w ≡ 10) × (word_place w ≡ p) × (word_parameter w ≡ b)

read_fields : (a : Result ℕ Fault) (p b : ℕ) →
    (((read.told a).number ≡ 10) × ((read.told a).place ≡ p) × ((read.told a).parameter ≡ b)) ↔
    (read.told a ≡ read.refusal 10 p b)
unfolding read.told
read_fields (Ok n) p b =
    (λ e. absurd (omega (arith, e.0)), λ e. absurd (omega (arith, ap (λ (t : read.Told). t.number) e)))
read_fields (Err f) p b = (
  λ e i. read.refusal (e.0 i) (e.1 i) (e.2 i),
  λ e. (
    ap (λ (t : read.Told). t.number) e,
    ap (λ (t : read.Told). t.place) e,
    ap (λ (t : read.Told). t.parameter) e,
  ),
)

judged_fields : (v : Result ℕ Fault) (p b : ℕ) →
    (((judged.told v).number ≡ 10) × ((judged.told v).place ≡ p) × ((judged.told v).parameter ≡ b)) ↔
    (judged.told v ≡ judged.refusal 10 p b)
unfolding judged.told
judged_fields (Ok n) p b =
    (λ e. absurd (omega (arith, e.0)), λ e. absurd (omega (arith, ap (λ (t : judged.Told). t.number) e)))
judged_fields (Err f) p b = (
  λ e i. judged.refusal (e.0 i) (e.1 i) (e.2 i),
  λ e. (
    ap (λ (t : judged.Told). t.number) e,
    ap (λ (t : judged.Told). t.place) e,
    ap (λ (t : judged.Told). t.parameter) e,
  ),
)

shown_fields : (a : Result Shown Fault) (p b : ℕ) →
    (((shown.told a).number ≡ 10) × ((shown.told a).place ≡ p) × ((shown.told a).parameter ≡ b)) ↔
    (shown.told a ≡ shown.refusal 10 p b)
unfolding shown.told
shown_fields (Ok (found.InMessage start n)) p b =
    (λ e. absurd (omega (arith, e.0)), λ e. absurd (omega (arith, ap (λ (t : shown.Told). t.number) e)))
shown_fields (Ok (found.InDirectory start n)) p b =
    (λ e. absurd (omega (arith, e.0)), λ e. absurd (omega (arith, ap (λ (t : shown.Told). t.number) e)))
shown_fields (Err f) p b = (
  λ e i. shown.refusal (e.0 i) (e.1 i) (e.2 i),
  λ e. (
    ap (λ (t : shown.Told). t.number) e,
    ap (λ (t : shown.Told). t.place) e,
    ap (λ (t : shown.Told). t.parameter) e,
  ),
)

-- a word that has some fields
fields_of_lem : (v k q c n t w p b : ℕ) → Unpacked v k q c n t w → WordTen w p b ↔ ((k ≡ 10) × (q ≡ p) × (c ≡ b))
fields_of_lem v k q c n t w p b u = (
  λ x. (sym u.number ∙ x.0, sym u.place ∙ x.1, sym u.parameter ∙ x.2),
  λ x. (u.number ∙ x.0, u.place ∙ x.1, u.parameter ∙ x.2),
)

module _ (e y : ℕ) (k : T (known e y)) where
  pub anthercup_listen_ten : (c h : List ℕ) → firmware.RecordHasHeard e y c h → (o : List ℕ) → Octets o →
      (w : ℕ) (c' : List ℕ) → firmware.ListenGives c o w c' → (p b : ℕ) →
      WordTen w p b ↔ AtUnlisted e y (h ++ o) p b
  anthercup_listen_ten c h d o q w c' x p b =
      Iff.trans ((firmware.demand3 e y c h d o q w c' x).refuses 10 p b (omega arith)) (ten e y k (h ++ o) p b)

  pub anthercup_read_ten : (o c t : List ℕ) (w : ℕ) (c' t' : List ℕ) → firmware.ReadGives e y o c t w c' t' →
      Octets o → length c ≡ draft_size → (p b : ℕ) → WordTen w p b ↔ AtUnlisted e y o p b
  anthercup_read_ten o c t w c' t' h q n p b =
      let x = firmware.record_read e y o c t w c' t' h q n k in
      Iff.trans (fields_of_lem _ _ _ _ _ _ w p b x.word)
      (Iff.trans (read_fields x.reading.answer p b) (reads_ten e y k o t x.reading t' x.reads p b))

  pub anthercup_settle_ten : (c o : List ℕ) (w : ℕ) (c' : List ℕ) → firmware.SettleGives e y c o w c' → Octets o →
      T (is_record c) → (p b : ℕ) → WordTen w p b ↔ (Fit (desk_in c).places × AtUnlisted e y o p b)
  anthercup_settle_ten c o w c' h q t p b =
      let x = firmware.settled_record e y c o w c' h q t in
      Iff.trans (fields_of_lem _ _ _ _ _ _ w p b x.word) (Iff.trans (
        λ z i. settled.refusal (z.0 i) (z.1 i) (z.2 i),
        λ z. (
          ap (λ (a : settled.Told). a.number) z,
          ap (λ (a : settled.Told). a.place) z,
          ap (λ (a : settled.Told). a.parameter) z,
        ),
      ) (settles_ten e y k (desk_in c) o x.settling (x.settles.by_book k) p b))

  pub anthercup_counted_ten : (o : List ℕ) (t w : ℕ) → firmware.CountedGives e y o t w → Octets o → (p b : ℕ) →
      WordTen w p b ↔ AtUnlisted e y o p b
  anthercup_counted_ten o t w h q p b = go (decide ((judged.told x.verdict).number =? 0))
    where
      x : RecordCounts e y o t w
      x = firmware.counted_word e y o t w h q k

      of_message : (d : Accepts (rules_of (book_of e y)) o) (v : Option (List ℕ)) →
          counted (rules_of (book_of e y)) d.0 t ≡ v → word_number w ≡ 0
      of_message d none z = (x.none_counts d.0 d.1 d.2 z).number
      of_message d (some v) z =
          (x.counts d.0 d.1 d.2 v ((counted_iff (rules_of (book_of e y)) d.0 t v).0 z)).number

      go : T ((judged.told x.verdict).number =? 0) ⊎ (T ((judged.told x.verdict).number =? 0) → ⊥) →
          WordTen w p b ↔ AtUnlisted e y o p b
      go (inl z) =
          let a = x.judged.done.0 (eq_of _ _ z) in (
            λ u. absurd (omega (arith, u.0, of_message a _ refl)),
            λ u. absurd (let v = (judges_ten e y k o x.verdict x.judged p b).1 u in
                omega (arith, ap (λ (s : judged.Told). s.number) v, eq_of _ _ z)),
          )
      go (inr n) =
          let l : (judged.told x.verdict).number ≡ 0 → ⊥ = λ z. n (of_eq _ _ z) in
          Iff.trans (fields_of_lem _ _ _ _ _ _ w p b (x.refused (omega (arith, l))))
          (Iff.trans (judged_fields x.verdict p b) (judges_ten e y k o x.verdict x.judged p b))

  pub anthercup_caption_ten : (o d c : List ℕ) (w : ℕ) (c' : List ℕ) → firmware.CaptionGives e y o d c w c' →
      Octets o → length c ≡ part_size → (p b : ℕ) → WordTen w p b ↔ AtUnlisted e y o p b
  anthercup_caption_ten o d c w c' h q n p b =
      let x = firmware.record_caption e y o d c w c' h q n in
      let s = x.finds.by_book k in
      Iff.trans (fields_of_lem _ _ _ _ _ _ w p b x.word) (Iff.trans (shown_fields x.finding.answer p b)
      (Iff.trans (s.refused 10 p b (omega arith)) (judges_ten e y k o s.verdict s.judged p b)))

-- ---- by the lenient way 10 is never given
module _ (e : ℕ) (k : T (edition e)) where
  abbrev i : T (known e lenient)
  i = by_lenient e k

  no_six : (n : ℕ) → ZeroOr (language_of (book_of e lenient)).given n → n ≡ 10 → ⊥
  no_six n (inl u) z = omega arith
  no_six n (inr t) z = omega (arith, ((six_lenient e k n).0 t).1)

  no_eight : (n : ℕ) → ZeroOr (verdict_number (language_of (book_of e lenient))) n → n ≡ 10 → ⊥
  no_eight n (inl u) z = omega arith
  no_eight n (inr t) z = omega (arith, ((eight_lenient e k n).0 t).1)

  no_nine : (n : ℕ) → ZeroOr (read_number (lenient_of e)) n → n ≡ 10 → ⊥
  no_nine n (inl u) z = omega arith
  no_nine n (inr t) z = omega (arith, ((nine_lenient e k n).0 t).1)

  pub judge_lenient : (o : List ℕ) (v : Result ℕ Fault) → message.JudgeGives (book_of e lenient) o v → Octets o →
      (judged.told v).number ≡ 10 → ⊥
  judge_lenient o v h q z =
      no_eight _ (inr ((message.verdicts (book_of e lenient) o v h q).numbers (omega (arith, z)))) z

  pub listen_lenient : (l : Listener) (h : List ℕ) → listener.HasHeard e lenient l h → (o : List ℕ) → Octets o →
      (r : Heard) → listener.ListenGives l o r → (heard.told r.answer).number ≡ 10 → ⊥
  listen_lenient l h d o q r x z =
      no_six _ (inr (listener.never_17 e lenient i l h d o q r x (omega (arith, z)))) z

  pub read-lenient : (o old : List ℕ) (r : Reading) (area : List ℕ) → reader.ReadGives e lenient o old r area →
      Octets o → (read.told r.answer).number ≡ 10 → ⊥
  read-lenient o old r area h q z =
      no_nine _ (inr ((reader.reads e lenient o old r area h i q).refused (omega (arith, z))).2) z

  pub settle_lenient : (d : Desk) (o : List ℕ) (r : Settling) → desk.SettleGives e lenient d o r → Octets o →
      (settled.told r.answer.answer).number ≡ 10 → ⊥
  settle_lenient d o r h q z =
      go (((desk.settling e lenient d o r h q).by_book i).numbers (omega (arith, z)))
    where
      go : T (verdict_number (calls (lenient_of e)) (settled.told r.answer.answer).number)
          ⊎ (((settled.told r.answer.answer).number ≡ 17) ⊎ ((settled.told r.answer.answer).number ≡ 21)) → ⊥
      go (inl t) = no_eight (settled.told r.answer.answer).number (inr t) z
      go (inr (inl u)) = omega (arith, z, u)
      go (inr (inr u)) = omega (arith, z, u)

  pub find_lenient : (o d : List ℕ) (r : Finding) → caption.FindGives e lenient o d r → Octets o →
      (shown.told r.answer).number ≡ 10 → ⊥
  find_lenient o d r h q = no_eight _ ((caption.finding e lenient o d r h q).by_book i).numbers

  pub step-lenient : (o : List ℕ) (at : ℕ) (r : Stepped) → walker.StepGives e lenient o at r → Octets o →
      (stepped.told r.answer).number ≡ 10 → ⊥
  step-lenient o at r h q = no_eight _ ((walker.stepping e lenient o at r h q).by_book i).numbers

  pub anthercup_listen_lenient : (c h : List ℕ) → firmware.RecordHasHeard e lenient c h → (o : List ℕ) → Octets o →
      (w : ℕ) (c' : List ℕ) → firmware.ListenGives c o w c' → word_number w ≡ 10 → ⊥
  anthercup_listen_lenient c h d o q w c' x = no_six _ (firmware.never_17 e lenient c h d o q w c' x)

  pub anthercup_read_lenient : (o c t : List ℕ) (w : ℕ) (c' t' : List ℕ) →
      firmware.ReadGives e lenient o c t w c' t' → Octets o → length c ≡ draft_size → word_number w ≡ 10 → ⊥
  anthercup_read_lenient o c t w c' t' h q n =
      no_nine _ ((anthercup_read_refuses e lenient o c t w c' t' h q).0 n i).0

  pub anthercup_settle_lenient : (c o : List ℕ) (w : ℕ) (c' : List ℕ) → firmware.SettleGives e lenient c o w c' →
      Octets o → word_number w ≡ 10 → ⊥
  anthercup_settle_lenient c o w c' h q z = go (firmware.settle_numbers e lenient c o w c' h q)
    where
      go : (word_number w ≡ 0)
          ⊎ ((T (known e lenient) × T (verdict_number (language_of (book_of e lenient)) (word_number w)))
          ⊎ ((word_number w ≡ 16) ⊎ ((word_number w ≡ 17) ⊎ (word_number w ≡ 21)))) → ⊥
      go (inl u) = omega (arith, z, u)
      go (inr (inl u)) = no_eight (word_number w) (inr u.1) z
      go (inr (inr (inl u))) = omega (arith, z, u)
      go (inr (inr (inr (inl u)))) = omega (arith, z, u)
      go (inr (inr (inr (inr u)))) = omega (arith, z, u)

  pub anthercup_counted_lenient : (o : List ℕ) (t w : ℕ) → firmware.CountedGives e lenient o t w → Octets o →
      word_number w ≡ 10 → ⊥
  anthercup_counted_lenient o t w h q =
      no_eight _ ((anthercup_counted_refuses e lenient o t w h q).0 i)

  pub anthercup_caption_lenient : (o d c : List ℕ) (w : ℕ) (c' : List ℕ) →
      firmware.CaptionGives e lenient o d c w c' → Octets o → length c ≡ part_size → word_number w ≡ 10 → ⊥
  anthercup_caption_lenient o d c w c' h q n z = go ((anthercup_caption_refuses e lenient o d c w c' h q).0 n).0
    where
      go : (T (known e lenient) × ZeroOr (verdict_number (language_of (book_of e lenient))) (word_number w))
          ⊎ ((T (known e lenient) → ⊥) × (word_number w ≡ 16)) → ⊥
      go (inl u) = no_eight (word_number w) u.1 z
      go (inr u) = omega (arith, z, u.1)

-- ---- where no way is named it is the strict one
pub reset_strict : (e : ℕ) (l : Listener) → listener.ResetUnnamedGives e l → l ≡ new_listener e strict
reset_strict e l h = listener.reset_is_new e strict l (inr (refl, h))

pub read_strict : (e : ℕ) (o old : List ℕ) (r : Reading) (area : List ℕ) →
    reader.ReadUnnamedGives e o old r area → Octets o → ReadsBy e strict o old r area
read_strict e o old r area h q = reader.reading e strict o old r area (inr (refl, h)) q

pub anthercup_reset_strict : (e : ℕ) (c : List ℕ) (w : ℕ) (c' : List ℕ) → firmware.ResetUnnamedGives e c w c' →
    length c ≡ listener_size → T (edition e) → c' ≡ record_of (new_listener e strict)
anthercup_reset_strict e c w c' h n t = (firmware.reset_is_new e strict c w c' (inr (refl, h)) n (by_strict e t)).1

pub anthercup_read_strict : (e : ℕ) (o c t : List ℕ) (w : ℕ) (c' t' : List ℕ) →
    firmware.ReadUnnamedGives e o c t w c' t' → Octets o → length c ≡ draft_size → T (edition e) →
    RecordReads e strict o c t w c' t'
anthercup_read_strict e o c t w c' t' h q n k =
    firmware.record_read e strict o c t w c' t' (inr (refl, h)) q n (by_strict e k)

-- so a type that the edition does not list is refused there, and not carried
pub unnamed_refuses : (e : ℕ) → T (edition e) → (o old : List ℕ) (r : Reading) (area : List ℕ) →
    reader.ReadUnnamedGives e o old r area → Octets o → (p b : ℕ) → UnlistedAt (strict_of e) o p b →
    read.told r.answer ≡ read.refusal 10 p b
unnamed_refuses e t o old r area h q p b x =
    (read_ten e strict (by_strict e t) o old r area (inr (refl, h)) q p b).1 (refl, x)

-- and by a listener that was reset so
pub unnamed_listens : (e : ℕ) → T (edition e) → (l : Listener) → listener.ResetUnnamedGives e l →
    (o : List ℕ) → Octets o → (r : Heard) → listener.ListenGives l o r → (p b : ℕ) → UnlistedAt (strict_of e) o p b →
    heard.told r.answer ≡ heard.refusal 10 p b
unnamed_listens e t l h o q r x p b u =
    (listen_ten e strict (by_strict e t) l [] (listener.new e strict l (inr (refl, h))) o q r x p b).1 (refl, u)

pub anthercup_unnamed_reads : (e : ℕ) → T (edition e) → (o c t : List ℕ) (w : ℕ) (c' t' : List ℕ) →
    firmware.ReadUnnamedGives e o c t w c' t' → Octets o → length c ≡ draft_size → (p b : ℕ) →
    UnlistedAt (strict_of e) o p b → WordTen w p b
anthercup_unnamed_reads e k o c t w c' t' h q n p b u =
    (anthercup_read_ten e strict (by_strict e k) o c t w c' t' (inr (refl, h)) q n p b).1 (refl, u)

pub anthercup_unnamed_listens : (e : ℕ) → T (edition e) → (c : List ℕ) (v : ℕ) (c₁ : List ℕ) →
    length c ≡ listener_size → firmware.ResetUnnamedGives e c v c₁ → (o : List ℕ) → Octets o →
    (w : ℕ) (c₂ : List ℕ) → firmware.ListenGives c₁ o w c₂ → (p b : ℕ) → UnlistedAt (strict_of e) o p b →
    WordTen w p b
anthercup_unnamed_listens e k c v c₁ n h o q w c₂ x p b u =
    (anthercup_listen_ten e strict (by_strict e k) c₁ []
    (firmware.new e strict c v c₁ (by_strict e k) n (inr (refl, h))) o q w c₂ x p b).1 (refl, u)

-- ---- the writer: by the strict way an entry of a type that the draft's edition does not list makes no legal parameter
module _ (d : Draft) (t old : List ℕ) (r : Writing) (out : List ℕ) (h : writer.WriteGives strict d t old r out)
    (k : T (edition d.edition)) (i : ℕ) (l : i < d.count)
    (n : T (listed (strict_of d.edition) (entry_at d i).kind) → ⊥) where
  abbrev S : Rules
  S = strict_of d.edition

  makes_none : Makes S t (entry_at d i) → ⊥
  unfolding parameter_of type_fault
  makes_none m =
      let x = (entry_at d i).kind in
      let z : class_fault (class_of S x) ≡ 10 =
      type_fault_lem S (sound_rules (book_of d.edition strict)) x ∙ pick_not (listed S x) 3 (class_fault S.others) n
      ∙ (refuses_iff d.edition strict (by_strict _ k)).1 refl in
      no_contents (class_of S x) z _ m.legal.fits

  writes : Writes S d t old r.answer out
  writes = writer.writing strict d t old r out h (by_strict _ k)

  -- so it is never written, and is 12 at its number where all that is asked before is right
  pub write_unlisted : ((m : ℕ) → written.told r.answer ≡ written.success m → ⊥)
      × (Asked d → ((j : ℕ) → j < i → Makes S t (entry_at d j)) → written.told r.answer ≡ written.refusal 12 i)
  write_unlisted = (
    λ m z. makes_none (((writes.answers.message m).0 z).1.1.0 i l),
    λ a b. (writes.answers.twelve i a).1 (record { place = l; bad = makes_none; before = b }),
  )

-- ---- what the strict way waits for is made of listed types
-- at least one octet more, with which octets are those of a message that the lenient way accepts, all its types listed
pub record ListedEnding (R : Rules) (h : List ℕ) : Type 0 where
  pub e : List ℕ
  pub some : e ≢ []
  pub octets : Octets e
  pub m : message_of.Message
  pub legal : LegalMessage R m
  pub listed : AllListed R m.parameters
  pub is : message_of.octets m ≡ h ++ e

pub listed_ending : (e : ℕ) → T (edition e) → (h : List ℕ) →
    Ending (Accepts (strict_of e)) h ↔ ListedEnding (lenient_of e) h
listed_ending e k h = (
  λ x.
      let a = (strict_accepts e k (h ++ x.e)).0 x.accepted in
      record { e = x.e; some = x.some; octets = x.octets; m = a.0; legal = a.1; listed = a.2; is = a.3 },
  λ x.
      record {
        e = x.e;
        some = x.some;
        octets = x.octets;
        accepted = (strict_accepts e k (h ++ x.e)).1 (x.m, x.legal, x.listed, x.is);
      },
)

pub strict_waits : (e : ℕ) → T (edition e) → (l : Listener) (h : List ℕ) → listener.HasHeard e strict l h →
    (o : List ℕ) → Octets o → (r : Heard) → listener.ListenGives l o r →
    (heard.told r.answer ≡ heard.waiting) ↔ ListedEnding (lenient_of e) (h ++ o)
strict_waits e k l h d o q r x =
    Iff.trans (listener.demand3 e strict (by_strict e k) l h d o q r x).waits (listed_ending e k (h ++ o))

pub anthercup_strict_waits : (e : ℕ) → T (edition e) → (c h : List ℕ) → firmware.RecordHasHeard e strict c h →
    (o : List ℕ) → Octets o → (w : ℕ) (c' : List ℕ) → firmware.ListenGives c o w c' →
    ((word_number w ≡ 0) × (word_size w ≡ 0)) ↔ ListedEnding (lenient_of e) (h ++ o)
anthercup_strict_waits e k c h d o q w c' x =
    Iff.trans (firmware.demand3 e strict c h d o q w c' x).waits (listed_ending e k (h ++ o))

-- it accepts exactly what the lenient way accepts and has listed types only
pub strict_accepted : (e : ℕ) → T (edition e) → (o : List ℕ) →
    Accepts (strict_of e) o ↔
    ((m : message_of.Message) × LegalMessage (lenient_of e) m × AllListed (lenient_of e) m.parameters × (octets m ≡ o))
strict_accepted e k o = strict_accepts e k o

-- ---- all that strict accepts lenient accepts, and gives the same
-- the settled values of every message
pub settled_values : (e : ℕ) → T (edition e) → (m : message_of.Message) (t : ℕ) →
    counted (strict_of e) m t ≡ counted (lenient_of e) m t
settled_values e k m t = ways_count e k m t

module _ (e : ℕ) (k : T (edition e)) (o : List ℕ) (a : Accepts (strict_of e) o) where
  -- a read into any area: answer, edition, draft and texts
  pub strict_in_lenient : (old : List ℕ) (r r' : Reading) (area area' : List ℕ) →
      reader.ReadGives e strict o old r area → reader.ReadGives e lenient o old r' area' →
      (r' ≡ r) × (area' ≡ area)
  strict_in_lenient old r r' area area' h h' =
      let x = reader.read_told e strict o old r area h in
      let y = reader.read_told e lenient o old r' area' h' in (
        y.0 ∙ sym (same_read e k o a (length old)) ∙ sym x.0,
        y.1 ∙ sym (same_area_in e k o a old) ∙ sym x.1,
      )

  -- settling on any desk
  pub strict_settles : (d : Desk) (r r' : Settling) → desk.SettleGives e strict d o r →
      desk.SettleGives e lenient d o r' → r' ≡ r
  strict_settles d r r' h h' =
      desk.settle_is e lenient d o r' h' ∙ sym (same_settling e k o a d) ∙ sym (desk.settle_is e strict d o r h)

  -- the caption by any directory
  pub strict_finds : (d : List ℕ) (r r' : Finding) → caption.FindGives e strict o d r →
      caption.FindGives e lenient o d r' → r' ≡ r
  strict_finds d r r' h h' =
      caption.find_is e lenient o d r' h' ∙ sym (same_finding e k o a d) ∙ sym (caption.find_is e strict o d r h)

  -- and the exports, word by word and record by record
  pub anthercup_strict_in_lenient : (c t : List ℕ) (w w' : ℕ) (d d' u u' : List ℕ) →
      firmware.ReadGives e strict o c t w d u → firmware.ReadGives e lenient o c t w' d' u' →
      (w' ≡ w) × (d' ≡ d) × (u' ≡ u)
  anthercup_strict_in_lenient c t w w' d d' u u' h h' =
      let x = firmware.read_told e strict o c t w d u h in
      let y = firmware.read_told e lenient o c t w' d' u' h' in (
        y.0 ∙ sym (exports.same_word e k o a c t) ∙ sym x.0,
        y.1 ∙ sym (exports.same_record e k o a c t) ∙ sym x.1,
        y.2 ∙ sym (exports.same_texts e k o a c t) ∙ sym x.2,
      )

  pub anthercup_strict_settles : (c : List ℕ) (w w' : ℕ) (d d' : List ℕ) → firmware.SettleGives e strict c o w d →
      firmware.SettleGives e lenient c o w' d' → (w' ≡ w) × (d' ≡ d)
  anthercup_strict_settles c w w' d d' h h' = (
    firmware.settle_word e lenient c o w' d' h' ∙ sym (exports.same_desk_word e k o a c)
        ∙ sym (firmware.settle_word e strict c o w d h),
    firmware.settle_cells e lenient c o w' d' h' ∙ sym (exports.same_desk_record e k o a c)
        ∙ sym (firmware.settle_cells e strict c o w d h),
  )

  pub anthercup_strict_counts : (t w w' : ℕ) → firmware.CountedGives e strict o t w →
      firmware.CountedGives e lenient o t w' → w' ≡ w
  anthercup_strict_counts t w w' h h' =
      firmware.counted_is e lenient o t w' h' ∙ sym (exports.same_counted e k o a t)
      ∙ sym (firmware.counted_is e strict o t w h)

  pub anthercup_strict_finds : (d c : List ℕ) (w w' : ℕ) (x x' : List ℕ) → firmware.CaptionGives e strict o d c w x →
      firmware.CaptionGives e lenient o d c w' x' → (w' ≡ w) × (x' ≡ x)
  anthercup_strict_finds d c w w' x x' h h' = (
    firmware.caption_word e lenient o d c w' x' h' ∙ sym (exports.same_caption_word e k o a d c)
        ∙ sym (firmware.caption_word e strict o d c w x h),
    firmware.caption_cells e lenient o d c w' x' h' ∙ sym (exports.same_caption_record e k o a d c)
        ∙ sym (firmware.caption_cells e strict o d c w x h),
  )

-- and what a strict read or a strict listener has as a message is accepted so
pub strict-read_accepts : (e : ℕ) → T (edition e) → (o old : List ℕ) (r : Reading) (area : List ℕ) →
    reader.ReadGives e strict o old r area → Octets o → (read.told r.answer).number ≡ 0 → Accepts (strict_of e) o
strict-read_accepts e k o old r area h q z = (reader.reads e strict o old r area h (by_strict e k) q).only z

pub strict_listens : (e : ℕ) → T (edition e) → (l l' : Listener) (h : List ℕ) → listener.HasHeard e strict l h →
    listener.HasHeard e lenient l' h → (o : List ℕ) → Octets o → (r r' : Heard) → listener.ListenGives l o r →
    listener.ListenGives l' o r' → (n : ℕ) → 1 ≤ n → heard.told r.answer ≡ heard.success n →
    heard.told r'.answer ≡ heard.success n
strict_listens e k l l' h d d' o q r r' x x' n i z =
    let a = ((listener.demand3 e strict (by_strict e k) l h d o q r x).has_message n i).0 z in
    ((listener.demand3 e lenient (by_lenient e k) l' h d' o q r' x').has_message n i).1
    (a.0, lenient_accepts e k (take n (h ++ o)) a.1)

pub anthercup_strict_listens : (e : ℕ) → T (edition e) → (c d h : List ℕ) → firmware.RecordHasHeard e strict c h →
    firmware.RecordHasHeard e lenient d h → (o : List ℕ) → Octets o → (w : ℕ) (c' : List ℕ) (v : ℕ) (d' : List ℕ) →
    firmware.ListenGives c o w c' → firmware.ListenGives d o v d' → (n : ℕ) → 1 ≤ n → word_size w ≡ n →
    word_size v ≡ n
anthercup_strict_listens e k c d h x y o q w c' v d' a b n i z =
    let u = ((firmware.demand3 e strict c h x o q w c' a).has_message n i).0 z in
    ((firmware.demand3 e lenient d h y o q v d' b).has_message n i).1
    (u.0, lenient_accepts e k (take n (h ++ o)) u.1)
