-- Demand 1: every input gets its answer. For each function that can refuse, and any input at all, an answer is the
-- work or one refusal with a number of its list, a place and a parameter; and a refusal leaves everything that was
-- lent or handed in as it was, the listener's own record excepted. Over the promises, whatever outcomes they allow;
-- the only hypothesis is that octets are below 256, which every slice of octets meets. Which number at which place in
-- which parameter, exactly, and that there is only one, say the sentences of demands 2 and 3.
-- Assumes nothing.
use Rattle.walker.specs.Steps.{Step, Stepped}
use Rattle.caption.specs.Told.{Finding}
use Rattle.desk.specs.Told.{Settling}
use Prim.Native.Nat.{ℕ, zero, suc, ◌≤◌, ◌<◌}
use mathlib.Core.Path.{◌≡◌, refl, sym, ◌∙◌, ap, subst}
use mathlib.Core.Bool.{Bool}
use mathlib.Core.Logic.{◌⊎◌, inl, inr, ◌↔◌}
use mathlib.Core.List.{List}
use mathlib.Core.Option.{Option, none, some}
use Rattle.std.proofs.Common.{Result, Ok, Err, ℕ}
use native.Mathlib.Omega.{arith}
use lib.ListN.{length, get_or}
use lib.Dec.{T}
use Rattle.rules.specs.Tests.{◌=?◌, ◌≤?◌, ◌or◌, pick}
use Rattle.rules.proofs.Tests.{either, clash, decide, eq_of, of_eq, not_le, le_of, left, right}
use Rattle.rules.specs.Octets.{Octets}
use Rattle.rules.specs.Contents.{within, some_length}
use Rattle.rules.specs.Table.{Rules, rules_of, class_fault, whole}
use Rattle.rules.specs.Editions.{strict, lenient, edition, known, book_of}
use Rattle.rules.proofs.Editions.{beyond, book_edition, by_strict}
use Rattle.rules.proofs.Ways.{refuses_iff}
use Rattle.rules.specs.declared.Book.{Book}
use Rattle.rules.specs.declared.Book.TheVariants.{PresentStrict, PresentLenient, OldStrict, OldLenient}
use Rattle.rules.specs.declared.Fault.{Fault}
use Rattle.rules.specs.Refusals.{noted}
use Rattle.rules.specs.Judge.{given, named}
use Rattle.rules.specs.Language.{language_of}
use Rattle.rules.proofs.Language.{in_range-run}
use Rattle.rules.specs.Message.{Accepts}
use Rattle.rules.specs.Counting.{counted}
use Rattle.rules.proofs.Counting.{counted_iff}
use Rattle.rules.proofs.Grammar.{spoken_of, spoilt_named}
use Rattle.rules.proofs.InRange.{inside, given_lenient, given_strict, no_parameter}
use Rattle.listener.specs.declared.Listener.{Listener}
use Rattle.listener.specs.declared.Heard.{Heard}
use Rattle.listener.specs.declared.Answer.TheVariants as listened
use Rattle.listener.specs.Heard.{out_of_range, unknown_numbers}
use Rattle.listener.specs.Answers.{InRange}
use Rattle.listener.specs.Answers as answers
use Rattle.listener.proofs.Hears.{B, Ranged, ranged, ways, in_range_number}
use Rattle.listener.proofs.Promised as listener
use Rattle.message.specs.Judges.{verdict_number}
use Rattle.message.proofs.Judges.{verdict_number_lem, verdict_lenient, told_small}
use Rattle.message.proofs.One.{placed, names}
use Rattle.message.proofs.Promised as message
use Rattle.draft.specs.declared.Draft.{Draft}
use Rattle.draft.specs.Draft.{empty_of}
use Rattle.reader.specs.declared.Reading.{Reading}
use Rattle.reader.specs.Told.{told}
use Rattle.reader.specs.Reads.{read_number, Reads}
use Rattle.reader.proofs.Area.{refused_fitting}
use Rattle.reader.proofs.Promised as reader
use Rattle.writer.specs.Writing.{Writing}
use Rattle.writer.specs.Reasons.{Went, kind_is_none, no_entries, many_entries, bad_entry, too_long, too_tight, fits}
use Rattle.writer.proofs.Reasons.{answer_iff}
use Rattle.writer.proofs.Promised as writer
use Rattle.relist.proofs.Promised as relist
use Rattle.desk.specs.declared.Desk.{Desk}
use Rattle.desk.specs.Told as settling_told
use Rattle.desk.specs.Settles.{Settles, SettlesBy}
use Rattle.desk.proofs.Promised as desk
use Rattle.caption.specs.declared.Shown.{Shown}
use Rattle.caption.specs.Finds.{FindsBy}
use Rattle.caption.specs.declared.Shown.TheVariants as found
use Rattle.caption.specs.Caption as caption_of
use Rattle.caption.specs.Told as shown
use Rattle.caption.proofs.Told as finding
use Rattle.walker.proofs.Told as walking
use Rattle.message.specs.Told as verdict
use Rattle.message.proofs.Told as judging
use Rattle.desk.proofs.Told as settling
use Rattle.reader.proofs.Told.{spoilt_iff, early_iff, followed_iff, short_iff, noted_at, some_number, refused_so}
use Rattle.caption.proofs.Promised as caption
use Rattle.walker.specs.declared.Walker.{Walker}
use Rattle.walker.specs.Moves.{Seen}
use Rattle.walker.specs.Walks.{WalksBy}
use Rattle.walker.proofs.Promised as walker
use Rattle.firmware.specs.Word.{word_number, Unpacked, Sixteen, Seventeen}
use Rattle.firmware.specs.RecordHears.{Sound}
use Rattle.firmware.specs.RecordReads.{RecordReads}
use Rattle.firmware.specs.RecordParts.{RecordCounts, RecordFinds}
use Rattle.firmware.specs.RecordSettles.{IsDesk}
use Rattle.firmware.proofs.Promised as firmware
use Rattle.firmware.specs.Sizes.{listener_size, draft_size, desk_size, part_size}

-- a number from the first to the second
abbrev pub From : ℕ → ℕ → ℕ → Type 0
From a b k = (a ≤ k) × (k ≤ b)

-- a refusal names a parameter as its number has it: one of 1 to 85 with 3, 4, 5 and 10, none with all others (`named`)
abbrev pub Names : Fault → Type 0
Names f = T (named f.number f.parameter)

-- by a book, a refusal of the octets o as the verdict gives it: a number of 1 to 8, or in a strict book 10, at one of
-- the octets or at their end, in a parameter that it has
abbrev pub VerdictLike : Book → List ℕ → Fault → Type 0
VerdictLike b o f = T (verdict_number (language_of b) f.number) × (f.place ≤ length o) × Names f

-- 16 at 0, where the edition or the way is unknown (document 02, Q-5 and Q-11)
abbrev pub Unknown : ℕ → ℕ → Fault → Type 0
Unknown e w f = (T (known e w) → ⊥) × (f ≡ noted 16 0)

-- the listener: 1 to 6, and 10 where its book is strict, at a place up to 257, in a parameter that it has; or, for one
-- of unknown numbers, 16 at 0; or, for one out of range, 17 at 0; with these two it comes back as it was
pub listen_refuses : (l : Listener) (o : List ℕ) (r : Heard) → listener.ListenGives l o r → Octets o →
    (f : Fault) → r.answer ≡ listened.Refused f →
    (T ((language_of (B l)).given f.number) × (f.place ≤ 257) × Names f)
    ⊎ ((Unknown l.edition l.way f × (r ≡ unknown_numbers l)) ⊎ ((f ≡ noted 17 0) × (r ≡ out_of_range l)))
listen_refuses l o r h q f e = go (ways l)
  where
    near : InRange l → answers.Known l → Ranged r.answer
    near t k =
        subst Ranged (sym (ap (λ (x : Heard). x.answer) (listener.by_the_rule l o r h t k)))
        (ranged (spoken_of (B l)) _ (in_range-run (spoken_of (B l)) l.state o q t))

    fault_of : (x y : Fault) → listened.Refused x ≡ listened.Refused y → x ≡ y
    fault_of x y z = cc

    go : (InRange l × answers.Known l) ⊎ ((InRange l × (answers.Known l → ⊥)) ⊎ (InRange l → ⊥)) →
        (T ((language_of (B l)).given f.number) × (f.place ≤ 257) × Names f)
        ⊎ ((Unknown l.edition l.way f × (r ≡ unknown_numbers l)) ⊎ ((f ≡ noted 17 0) × (r ≡ out_of_range l)))
    go (inl t) =
        inl (
          in_range_number l o q t.0 t.1 r (listener.listen_is l o r h) f e,
          (subst Ranged e (near t.0 t.1)).2,
          listener.names l o r h q t.0 t.1 f e,
        )
    go (inr (inl t)) =
        let y = listener.of_unknown_numbers l o r h t.0 t.1 in
        inr (inl ((t.1, fault_of f (noted 16 0) (sym e ∙ ap (λ (z : Heard). z.answer) y)), y))
    go (inr (inr n)) =
        let y = listener.out_of_range_lem l o r h n in
        inr (inr (fault_of f (noted 17 0) (sym e ∙ ap (λ (z : Heard). z.answer) y), y))

-- the whole read, and the texts alone: 1 to 8, and 10 where the book is strict, at one of the octets or at their end,
-- in a parameter that it has; or 9 at the text octets that are needed; the area stays, and the draft is empty
pub record Unread (b : Book) (o old : List ℕ) (f : Fault) (area : List ℕ) : Type 0 where
  pub number : T (read_number (rules_of b) f.number)
  pub place : (f.number ≡ 9 → ⊥) → f.place ≤ length o
  pub parameter : Names f
  pub needed : f.number ≡ 9 → length old < f.place
  pub stays : area ≡ old

read_so : (b : Book) (o old : List ℕ) (r : Reading) (area : List ℕ) → Reads (rules_of b) o old r area → Octets o →
    (f : Fault) → r.answer ≡ Err f → Unread b o old f area
unfolding read_number
read_so b o old r area x q f e =
    let y = refused_so x f e in
    record {
      number = y.2;
      place = λ n. in_octets n (either _ _ y.2);
      parameter = names (either _ _ y.2);
      needed = λ k. ((short_iff x f.place).0 (e ∙ at 9 k (omega arith) (omega arith))).4;
      stays = y.0;
    }
  where
    at : (k : ℕ) → f.number ≡ k → 7 ≤ k → k ≤ 9 → ◌≡◌ {A = Result ℕ Fault} (Err f) (Err (noted k f.place))
    at k z a b = ap Err (noted_at x f e k z a b)

    by_number : T ((language_of b).given f.number) ⊎ ((f.number ≡ 7) ⊎ (f.number ≡ 8)) → f.place ≤ length o
    by_number (inl t) = omega (arith, ((spoilt_iff x f (some_number x f e) t).0 e).0.place)
    by_number (inr (inl k)) = omega (arith, ((followed_iff x f.place).0 (e ∙ at 7 k (omega arith) (omega arith))).0)
    by_number (inr (inr k)) = omega (arith, ((early_iff x f.place).0 (e ∙ at 8 k (omega arith) (omega arith))).0)

    none_at : (k : ℕ) → f.number ≡ k → 7 ≤ k → k ≤ 9 → Names f
    none_at k z a c =
        subst Names (sym (noted_at x f e k z a c)) (no_parameter k (λ x y. omega arith) (λ w. omega arith))

    by_role : T ((language_of b).given f.number) ⊎ ((f.number ≡ 7) ⊎ (f.number ≡ 8)) → Names f
    by_role (inl t) = spoilt_named b o q f ((spoilt_iff x f (some_number x f e) t).0 e)
    by_role (inr (inl k)) = none_at 7 k (omega arith) (omega arith)
    by_role (inr (inr k)) = none_at 8 k (omega arith) (omega arith)

    names : T (verdict_number (language_of b) f.number) ⊎ T (f.number =? 9) → Names f
    names (inl t) = by_role (verdict_number_lem (language_of b) _ t)
    names (inr t) = none_at 9 (eq_of _ _ t) (omega arith) (omega arith)

    in_octets : (f.number ≡ 9 → ⊥) → T (verdict_number (language_of b) f.number) ⊎ T (f.number =? 9) →
        f.place ≤ length o
    in_octets n (inl t) = by_number (verdict_number_lem (language_of b) _ t)
    in_octets n (inr t) = absurd (n (eq_of _ _ t))

-- by known numbers by their book, the draft empty and of the edition told; by unknown ones 16, and no edition
pub read_refuses : (e w : ℕ) (o old : List ℕ) (r : Reading) (area : List ℕ) → reader.ReadGives e w o old r area →
    Octets o → (f : Fault) → r.answer ≡ Err f →
    (T (known e w) × Unread (book_of e w) o old f area × (r.draft ≡ empty_of e 0))
    ⊎ (Unknown e w f × (area ≡ old) × (r.draft ≡ empty_of 0 0))
read_refuses e w o old r area h q f z = go (decide (known e w))
  where
    fault_of : (x y : Fault) → ◌≡◌ {A = Result ℕ Fault} (Err x) (Err y) → x ≡ y
    fault_of x y k = cc

    go : T (known e w) ⊎ (T (known e w) → ⊥) →
        (T (known e w) × Unread (book_of e w) o old f area × (r.draft ≡ empty_of e 0))
        ⊎ (Unknown e w f × (area ≡ old) × (r.draft ≡ empty_of 0 0))
    go (inl t) =
        let x = reader.reads e w o old r area h t q in
        inl (
          t,
          read_so (book_of e w) o old r area x q f z,
          (refused_so x f z).1 ∙ ap (λ (v : ℕ). empty_of v 0) (book_edition e w t),
        )
    go (inr n) =
        let x = reader.read_none e w o old r area h n in
        inr (
          (n, fault_of f (noted 16 0) (sym z ∙ ap (λ (y : Reading). y.answer) x.0)),
          x.1,
          ap (λ (y : Reading). y.draft) x.0,
        )

pub pack_refuses : (b : Book) (o old : List ℕ) (w : Result ℕ Fault) (area : List ℕ) → reader.PackGives b o old w area →
    Octets o → (f : Fault) → w ≡ Err f → Unread b o old f area
pack_refuses b o old w area h q f e =
    let x = reader.packs b o old w area h q in
    read_so b o old x.0 area x.2 q f (x.1 ∙ e)

-- whether a read goes through: the same refusals, and no area is lent
pub fits_refuses : (b : Book) (o old : List ℕ) (w : Result (Unit {0}) Fault) → reader.FitsGives b o (length old) w → Octets o →
    (f : Fault) → w ≡ Err f → Unread b o old f old
fits_refuses b o old w h q f e =
    let x = reader.fits_so b o old w h q in
    let y = read_so b o old x.0 x.2.0 x.2.1 q f (sym (refused_fitting x.0.answer f (sym (x.1 ∙ e)))) in
    subst (Unread b o old f) y.stays y

-- a listing that comes back: 61, 62 or 15, in no parameter, and the output stays
pub message_of_refuses : (t old : List ℕ) (w : Writing) (out : List ℕ) → relist.MessageOfGives t old w out →
    (f : Fault) → w.answer ≡ Err f →
    (((f.number ≡ 61) ⊎ (f.number ≡ 62) ⊎ (f.number ≡ 15)) × (f.parameter ≡ 0)) × (out ≡ old)
message_of_refuses t old w out h f e = relist.refuses t old w out h f e

-- the writer: 11 to 15, in no parameter; or 16 at 0, where the draft's edition or the way is unknown; the output stays
pub write_refuses : (w : ℕ) (d : Draft) (t old : List ℕ) (r : Writing) (out : List ℕ) →
    writer.WriteGives w d t old r out → (f : Fault) → r.answer ≡ Err f →
    ((T (known d.edition w) × From 11 15 f.number × (f.parameter ≡ 0)) ⊎ Unknown d.edition w f)
    × (out ≡ old)
write_refuses w d t old r out h f e = go (decide (known d.edition w))
  where
    fault_of : (x y : Fault) → ◌≡◌ {A = Result ℕ Fault} (Err x) (Err y) → x ≡ y
    fault_of x y z = cc

    of_noted : (k p : ℕ) → ◌≡◌ {A = Result ℕ Fault} (Err (noted k p)) (Err f) → 11 ≤ k → k ≤ 15 →
        From 11 15 f.number × (f.parameter ≡ 0)
    of_noted k p z a c =
        let y = fault_of _ _ z in
        let n = ap (λ (v : Fault). v.number) y in
        ((omega arith, omega arith), sym (ap (λ (v : Fault). v.parameter) y))

    went : (x : Result ℕ Fault) → Went (rules_of (writer.book_for d w)) d t (length old) x → x ≡ Err f →
        From 11 15 f.number × (f.parameter ≡ 0)
    went x (kind_is_none n) z = of_noted _ _ z (omega arith) (omega arith)
    went x (no_entries k n) z = of_noted _ _ z (omega arith) (omega arith)
    went x (many_entries k m) z = of_noted _ _ z (omega arith) (omega arith)
    went x (bad_entry i m g) z = of_noted _ _ z (omega arith) (omega arith)
    went x (too_long k m l) z = of_noted _ _ z (omega arith) (omega arith)
    went x (too_tight k m l g) z = of_noted _ _ z (omega arith) (omega arith)
    went x (fits k m l g) z = clash cc

    go : T (known d.edition w) ⊎ (T (known d.edition w) → ⊥) →
        ((T (known d.edition w) × From 11 15 f.number × (f.parameter ≡ 0)) ⊎ Unknown d.edition w f)
        × (out ≡ old)
    go (inl k) =
        let way = (answer_iff (writer.book_for d w) d t (length old) r.answer).0
        (writer.write_is w d t old r out h k) in
        let x = went r.answer way e in
        (inl (k, x.0, x.1), writer.refusal_keeps w d t old r out h k f e)
    go (inr n) =
        let x = writer.write_none w d t old r out h n in
        (inr (n, fault_of f (noted 16 0) (sym e ∙ ap (λ (y : Writing). y.answer) x.0)), x.1)

-- the desk: 17 at 0, or 16 at 0, or as the verdict, or 21 at 0; it comes back as it was
pub settle_refuses : (e w : ℕ) (d : Desk) (o : List ℕ) (r : Settling) → desk.SettleGives e w d o r → Octets o →
    (f : Fault) → r.answer.answer ≡ Err f →
    ((T (known e w) × VerdictLike (book_of e w) o f)
    ⊎ (Unknown e w f ⊎ ((f ≡ noted 17 0) ⊎ (f ≡ noted 21 0)))) × (r.answer.desk ≡ d)
unfolding settling_told.told
settle_refuses e w d o r h q f z = (go (decide (known e w)), x.refusal_stays (omega (arith, number)))
  where
    x : SettlesBy e w d o r
    x = desk.settling e w d o r h q

    number : 1 ≤ (settling_told.told r.answer.answer).number
    number = subst (λ (a : Result (Unit {0}) Fault). 1 ≤ (settling_told.told a).number) (sym z)
        (subst settling_told.Clear z x.clear)

    told_is : (k : ℕ) → f.number ≡ k →
        settling_told.told r.answer.answer ≡ settling_told.refusal k f.place f.parameter
    told_is k n = ap settling_told.told z ∙ (λ i. settling_told.refusal (n i) f.place f.parameter)

    at_zero : (k : ℕ) → f.number ≡ k → (f.place ≡ 0) × (f.parameter ≡ 0) → f ≡ noted k 0
    at_zero k n y = let a = y.0 in let b = y.1 in λ i. record { place = a i; number = n i; parameter = b i }

    by_book : T (known e w) → Settles (rules_of (book_of e w)) d o r.answer →
        T (verdict_number (language_of (book_of e w)) f.number) ⊎ ((f.number ≡ 17) ⊎ (f.number ≡ 21)) →
        (T (known e w) × VerdictLike (book_of e w) o f) ⊎ (Unknown e w f ⊎ ((f ≡ noted 17 0) ⊎ (f ≡ noted 21 0)))
    by_book k s (inl t) =
        let l = settling.some_number s f z in
        let y = ((settling.refused_iff s f l t).0 z).1 in
        inl (
          k,
          (t, placed (language_of (book_of e w)) o _ s.judged f y, names (book_of e w) o q _ s.judged f y),
        )
    by_book k s (inr (inl n)) =
        let y = settling.noted_at s f z 17 n (inl refl) in
        inr (inr (inl (y ∙ ap (noted 17) ((settling.unfit_iff s f.place).0 (z ∙ ap Err y)).0)))
    by_book k s (inr (inr n)) =
        let y = settling.noted_at s f z 21 n (inr refl) in
        inr (inr (inr (y ∙ ap (noted 21) ((settling.full_iff s f.place).0 (z ∙ ap Err y)).0)))

    by_none : (T (known e w) → ⊥) → (f.number ≡ 16) ⊎ (f.number ≡ 17) →
        (T (known e w) × VerdictLike (book_of e w) o f) ⊎ (Unknown e w f ⊎ ((f ≡ noted 17 0) ⊎ (f ≡ noted 21 0)))
    by_none n (inl k) =
        let y = (x.sixteen _ _).0 (told_is 16 k) in inr (inl (n, at_zero 16 k (y.0, y.1)))
    by_none n (inr k) =
        let y = (x.seventeen _ _).0 (told_is 17 k) in inr (inr (inl (at_zero 17 k (y.0, y.1))))

    of_fault : (k : ℕ) → (settling_told.told r.answer.answer).number ≡ k → f.number ≡ k
    of_fault k n = sym (ap (λ (a : Result (Unit {0}) Fault). (settling_told.told a).number) z) ∙ n

    numbers : ((settling_told.told r.answer.answer).number ≡ 16)
        ⊎ ((settling_told.told r.answer.answer).number ≡ 17) → (f.number ≡ 16) ⊎ (f.number ≡ 17)
    numbers (inl k) = inl (of_fault 16 k)
    numbers (inr k) = inr (of_fault 17 k)

    go : T (known e w) ⊎ (T (known e w) → ⊥) →
        (T (known e w) × VerdictLike (book_of e w) o f) ⊎ (Unknown e w f ⊎ ((f ≡ noted 17 0) ⊎ (f ≡ noted 21 0)))
    go (inl k) = by_book k (x.by_book k) (settling.number_of_lem (x.by_book k) f z)
    go (inr n) = by_none n (numbers (x.unknown n))

-- the verdict, the caption and the walker; nothing is lent for writing but the caption's code, which stays
pub judge_refuses : (b : Book) (o : List ℕ) (v : Result ℕ Fault) → message.JudgeGives b o v → Octets o → (f : Fault) →
    v ≡ Err f → VerdictLike b o f
judge_refuses b o v h q f e =
    let x = message.verdicts b o v h q in
    (judging.number_of_lem x f e, placed (language_of b) o v x f e, names b o q v x f e)

pub find_refuses : (e w : ℕ) (o d : List ℕ) (r : Finding) → caption.FindGives e w o d r → Octets o → (f : Fault) →
    r.answer ≡ Err f → (T (known e w) × VerdictLike (book_of e w) o f) ⊎ Unknown e w f
find_refuses e w o d r h q f z = go (decide (known e w))
  where
    x : FindsBy e w o d r
    x = caption.finding e w o d r h q

    go : T (known e w) ⊎ (T (known e w) → ⊥) → (T (known e w) × VerdictLike (book_of e w) o f) ⊎ Unknown e w f
    go (inl k) =
        let s = x.by_book k in
        let y = finding.declined_so s f z in
        inl (
          k,
          (
            judging.number_of_lem s.judged f y,
            placed (language_of (book_of e w)) o _ s.judged f y,
            names (book_of e w) o q _ s.judged f y,
          ),
        )
    go (inr n) =
        inr (n, same (sym z ∙ (finding.told-refused _ 16 0 0 (omega arith)).0 ((x.sixteen 0 0).1 (refl, refl, n))))
      where
        same : ◌≡◌ {A = Result Shown Fault} (Err f) (Err (noted 16 0)) → f ≡ noted 16 0
        same k = cc

pub caption_refuses : (e w : ℕ) (o d : List ℕ) (r : Finding) → caption.FindGives e w o d r →
    (x : ℕ) (p : List ℕ) (y : ℕ) → caption.CaptionGives e w o d x p y → (f : Fault) → r.answer ≡ Err f →
    y ≡ x
unfolding caption_of.code_of
caption_refuses e w o d r h x p y k f z =
    (caption.same_part e w o d r h x p y k).1 ∙ ap (λ (v : Result Shown Fault). caption_of.code_of v x) z

step_so : (e w : ℕ) (o : List ℕ) (at : ℕ) (r : Stepped) → WalksBy e w o at r → Octets o → (f : Fault) →
    r.answer ≡ Err f → (T (known e w) × VerdictLike (book_of e w) o f) ⊎ Unknown e w f
step_so e w o at r x q f z = go (decide (known e w))
  where
    go : T (known e w) ⊎ (T (known e w) → ⊥) → (T (known e w) × VerdictLike (book_of e w) o f) ⊎ Unknown e w f
    go (inl k) =
        let s = x.by_book k in
        let y = walking.declined_so s f z in
        inl (
          k,
          (
            judging.number_of_lem s.judged f y,
            placed (language_of (book_of e w)) o _ s.judged f y,
            names (book_of e w) o q _ s.judged f y,
          ),
        )
    go (inr n) =
        inr (n, same (sym z ∙ (walking.told-refused _ 16 0 0 (omega arith)).0 ((x.sixteen 0 0).1 (refl, refl, n))))
      where
        same : ◌≡◌ {A = Step} (Err f) (Err (noted 16 0)) → f ≡ noted 16 0
        same k = cc

pub step_refuses : (e w : ℕ) (o : List ℕ) (at : ℕ) (r : Stepped) → walker.StepGives e w o at r → Octets o →
    (f : Fault) → r.answer ≡ Err f → (T (known e w) × VerdictLike (book_of e w) o f) ⊎ Unknown e w f
step_refuses e w o at r h q f z = step_so e w o at r (walker.stepping e w o at r h q) q f z

pub look_refuses : (v : Walker) (r : Stepped) → Seen v r → Octets v.message.now → (f : Fault) →
    r.answer ≡ Err f →
    (T (known v.edition v.way) × VerdictLike (book_of v.edition v.way) v.message.now f)
    ⊎ Unknown v.edition v.way f
look_refuses v r h q f z =
    step_so v.edition v.way v.message.now v.place r (walker.looking v r h q) q f z

-- the numbers that a listener gives by each book: 1 to 6, and 10 where types without a row are refused
abbrev pub Given : Book → ℕ → Type 0
Given PresentLenient k = From 1 6 k
Given OldLenient k = From 1 6 k
Given PresentStrict k = From 1 6 k ⊎ (k ≡ 10)
Given OldStrict k = From 1 6 k ⊎ (k ≡ 10)

pub numbers_given : (b : Book) (k : ℕ) → T ((language_of b).given k) ↔ Given b k
unfolding rules_of class_fault some_length whole pick ◌≤?◌ ◌or◌
numbers_given PresentLenient k = given_lenient (rules_of PresentLenient) k refl
numbers_given OldLenient k = given_lenient (rules_of OldLenient) k refl
numbers_given PresentStrict k = given_strict (rules_of PresentStrict) k refl
numbers_given OldStrict k = given_strict (rules_of OldStrict) k refl

-- by the lenient way the numbers are document 01's, 1 to 6, 1 to 8, 1 to 9, and 10 is none of them; by the strict one
-- 10 joins each of these lists
carries : (e : ℕ) → T (edition e) → class_fault (rules_of (book_of e lenient)).others ≡ 3
unfolding rules_of book_of class_fault some_length whole pick ◌=?◌ ◌≤?◌ ◌or◌
carries zero k = refl
carries (suc zero) k = refl
carries (suc (suc e)) k = absurd (beyond e k)

module _ (e : ℕ) (k' : T (edition e)) where
  abbrev R : Rules
  R = rules_of (book_of e lenient)

  abbrev Q : Rules
  Q = rules_of (book_of e strict)

  refuses : class_fault Q.others ≡ 10
  refuses = (refuses_iff e strict (by_strict e k')).1 refl

  pub six_lenient : (k : ℕ) → T ((language_of (book_of e lenient)).given k) ↔ From 1 6 k
  six_lenient k = given_lenient R k (carries e k')

  pub six_strict : (k : ℕ) → T ((language_of (book_of e strict)).given k) ↔ (From 1 6 k ⊎ (k ≡ 10))
  six_strict k = given_strict Q k refuses

  pub eight_lenient : (k : ℕ) → T (verdict_number (language_of (book_of e lenient)) k) ↔ From 1 8 k
  eight_lenient k = verdict_lenient R k (carries e k')

  pub eight_strict : (k : ℕ) → T (verdict_number (language_of (book_of e strict)) k) ↔ (From 1 8 k ⊎ (k ≡ 10))
  unfolding verdict_number
  eight_strict k = (λ t. to (verdict_number_lem (language_of (book_of e strict)) k t), of)
    where
      given_so : From 1 6 k ⊎ (k ≡ 10) → From 1 8 k ⊎ (k ≡ 10)
      given_so (inl d) = inl (d.0, omega (arith, d.1))
      given_so (inr z) = inr z

      to : T (given Q k) ⊎ ((k ≡ 7) ⊎ (k ≡ 8)) → From 1 8 k ⊎ (k ≡ 10)
      to (inl t) = given_so ((six_strict k).0 t)
      to (inr (inl z)) = inl (omega arith, omega arith)
      to (inr (inr z)) = inl (omega arith, omega arith)

      below : 1 ≤ k → k ≤ 8 → T (k ≤? 6) ⊎ (T (k ≤? 6) → ⊥) → T (given Q k or within (7, 8) k)
      below a b (inl t) = left _ _ ((six_strict k).1 (inl (a, le_of _ _ t)))
      below a b (inr n) = let h = not_le _ _ n in right _ _ (inside _ _ _ (omega arith) b)

      of : From 1 8 k ⊎ (k ≡ 10) → T (given Q k or within (7, 8) k)
      of (inl d) = below d.0 d.1 (decide (k ≤? 6))
      of (inr z) = left _ _ ((six_strict k).1 (inr z))

  pub nine_lenient : (k : ℕ) → T (read_number R k) ↔ From 1 9 k
  unfolding read_number
  nine_lenient k = (λ t. to (either _ _ t), λ d. of d.0 d.1 (decide (k ≤? 8)))
    where
      to : T (verdict_number (language_of (book_of e lenient)) k) ⊎ T (k =? 9) → From 1 9 k
      to (inl u) = let d = (eight_lenient k).0 u in (d.0, omega (arith, d.1))
      to (inr u) = let e = eq_of _ _ u in (omega arith, omega arith)

      of : 1 ≤ k → k ≤ 9 → T (k ≤? 8) ⊎ (T (k ≤? 8) → ⊥) →
          T (verdict_number (language_of (book_of e lenient)) k or k =? 9)
      of a b (inl t) = left _ _ ((eight_lenient k).1 (a, le_of _ _ t))
      of a b (inr n) = let h = not_le _ _ n in right _ _ (of_eq _ _ (omega arith))

  pub nine_strict : (k : ℕ) → T (read_number Q k) ↔ From 1 10 k
  unfolding read_number
  nine_strict k = (λ t. to (either _ _ t), λ d. of d.0 d.1 (decide (k ≤? 8)) (decide (k =? 9)))
    where
      verdict_so : From 1 8 k ⊎ (k ≡ 10) → From 1 10 k
      verdict_so (inl d) = (d.0, omega (arith, d.1))
      verdict_so (inr z) = (omega arith, omega arith)

      to : T (verdict_number (language_of (book_of e strict)) k) ⊎ T (k =? 9) → From 1 10 k
      to (inl u) = verdict_so ((eight_strict k).0 u)
      to (inr u) = let e = eq_of _ _ u in (omega arith, omega arith)

      of : 1 ≤ k → k ≤ 10 → T (k ≤? 8) ⊎ (T (k ≤? 8) → ⊥) → T (k =? 9) ⊎ (T (k =? 9) → ⊥) →
          T (verdict_number (language_of (book_of e strict)) k or k =? 9)
      of a b (inl t) u = left _ _ ((eight_strict k).1 (inl (a, le_of _ _ t)))
      of a b (inr n) (inl u) = right _ _ u
      of a b (inr n) (inr u) =
          let h = not_le _ _ n in
          let m : k ≡ 9 → ⊥ = λ z. u (of_eq _ _ z) in
          left _ _ ((eight_strict k).1 (inr (omega arith)))

-- ---- the exports, on any record at all: 17 comes first, then 16
-- none, or a number of a list
abbrev pub ZeroOr : (ℕ → Bool) → ℕ → Type 0
ZeroOr is k = (k ≡ 0) ⊎ T (is k)

pub verdict_small : (b : Book) (k : ℕ) → ZeroOr (verdict_number (language_of b)) k → k ≤ 10
verdict_small b k (inl z) = omega arith
verdict_small b k (inr t) = (told_small (spoken_of b) k t).1

pub read_small : (b : Book) (k : ℕ) → ZeroOr (read_number (rules_of b)) k → k ≤ 10
unfolding read_number
read_small b k (inl z) = omega arith
read_small b k (inr t) = go (either _ _ t)
  where
    go : T (verdict_number (language_of b) k) ⊎ T (k =? 9) → k ≤ 10
    go (inl u) = (told_small (spoken_of b) k u).1
    go (inr u) = let e = eq_of _ _ u in omega arith

-- listening: a sound record gets 0 or a number of its book, 1 to 6 and, by the strict way, 10; any other 16 or 17, and
-- stays
pub anthercup_listen_refuses : (c o : List ℕ) (w : ℕ) (c' : List ℕ) → firmware.ListenGives c o w c' → Octets c →
    Octets o →
    (Sound c × ZeroOr (language_of (book_of (get_or c 11 0) (get_or c 12 0))).given (word_number w))
    ⊎ ((Sound c → ⊥) × (Sixteen c w c' ⊎ Seventeen c w c'))
anthercup_listen_refuses c o w c' h k q = go (firmware.sound_or_refused c o w c' h k)
  where
    go : Sound c ⊎ (Sixteen c w c' ⊎ Seventeen c w c') →
        (Sound c × ZeroOr (language_of (book_of (get_or c 11 0) (get_or c 12 0))).given (word_number w))
        ⊎ ((Sound c → ⊥) × (Sixteen c w c' ⊎ Seventeen c w c'))
    go (inl s) = inl (s, firmware.numbers c o w c' h s q)
    go (inr (inl x)) = inr (λ s. omega (arith, x.word.number, firmware.numbers_small c o w c' h s q), inl x)
    go (inr (inr x)) = inr (λ s. omega (arith, x.word.number, firmware.numbers_small c o w c' h s q), inr x)

-- resetting: by the record's size, then by edition and way; clearing a desk: by the record's size alone
pub anthercup_reset_refuses : (e y : ℕ) (c : List ℕ) (w : ℕ) (c' : List ℕ) → firmware.ResetGives e y c w c' →
    (length c ≡ listener_size → T (known e y) → Unpacked e 0 0 0 0 0 w)
    × (length c ≡ listener_size → (T (known e y) → ⊥) → Sixteen c w c')
    × ((length c ≡ listener_size → ⊥) → Seventeen c w c')
anthercup_reset_refuses e y c w c' h = (
  λ n t. (firmware.reset_is_new e y c w c' h n t).0,
  λ n t. firmware.reset_sixteen e y c w c' h n t,
  λ n. firmware.reset_seventeen e y c w c' h n,
)

pub anthercup_new_desk_refuses : (c : List ℕ) (w : ℕ) (c' : List ℕ) → firmware.NewDeskGives c w c' →
    (length c ≡ desk_size → Unpacked 0 0 0 0 0 0 w) × ((length c ≡ desk_size → ⊥) → Seventeen c w c')
anthercup_new_desk_refuses c w c' h =
    (λ n. (firmware.new_desk_lem c w c' h n).0, λ n. firmware.new_desk_seventeen c w c' h n)

-- reading: 17 for a record of another size than 688, then 16 for an unknown edition or way, else 0 or a number of a
-- read by their book; with a number record and texts stay
pub anthercup_read_refuses : (e y : ℕ) (o c t : List ℕ) (w : ℕ) (c' t' : List ℕ) →
    firmware.ReadGives e y o c t w c' t' → Octets o →
    (length c ≡ draft_size → T (known e y) →
    ZeroOr (read_number (rules_of (book_of e y))) (word_number w) × (1 ≤ word_number w → (c' ≡ c) × (t' ≡ t)))
    × (length c ≡ draft_size → (T (known e y) → ⊥) → Sixteen c w c' × (t' ≡ t))
    × ((length c ≡ draft_size → ⊥) → Seventeen c w c' × (t' ≡ t))
unfolding told
anthercup_read_refuses v y o c t w c' t' h q = (
  λ n k. let x = firmware.record_read v y o c t w c' t' h q n k in so x x.reading.answer refl,
  λ n k. firmware.read_sixteen v y o c t w c' t' h n k,
  λ n. firmware.read_seventeen v y o c t w c' t' h n,
)
  where
    so : (x : RecordReads v y o c t w c' t') (a : Result ℕ Fault) → x.reading.answer ≡ a →
        ZeroOr (read_number (rules_of (book_of v y))) (word_number w) × (1 ≤ word_number w → (c' ≡ c) × (t' ≡ t))
    so x (Ok n) e =
        let z = x.word.number ∙ ap (λ (a : Result ℕ Fault). (told a).number) e in
        (inl z, λ k. absurd (omega (arith, z)))
    so x (Err f) e =
        let z = x.word.number ∙ ap (λ (a : Result ℕ Fault). (told a).number) e in
        let k = refused_so x.reads f e in
        let m = ap (λ (a : Result ℕ Fault). (told a).number) e in
        let l = some_number x.reads f e in (
          inr (subst (λ (n : ℕ). T (read_number (rules_of (book_of v y)) n)) (sym z) k.2),
          λ _. (x.refused (omega (arith, m, l)), k.0),
        )

-- settling: 17 exactly for a record that is no desk's, then 16 exactly for an unknown edition or way, else 0, a number
-- of the verdict by their book, or 21; with a number the record stays
pub anthercup_settle_refuses : (e y : ℕ) (c o : List ℕ) (w : ℕ) (c' : List ℕ) → firmware.SettleGives e y c o w c' →
    Octets c → Octets o →
    ((word_number w ≡ 0) ⊎ ((T (known e y) × T (verdict_number (language_of (book_of e y)) (word_number w)))
    ⊎ ((word_number w ≡ 16) ⊎ ((word_number w ≡ 17) ⊎ (word_number w ≡ 21)))))
    × ((word_number w ≡ 17) ↔ (IsDesk c → ⊥)) × ((word_number w ≡ 16) ↔ (IsDesk c × (T (known e y) → ⊥)))
    × (1 ≤ word_number w → c' ≡ c)
anthercup_settle_refuses e y c o w c' h k q = (
  firmware.settle_numbers e y c o w c' h q,
  firmware.seventeen_iff e y c o w c' h q,
  firmware.sixteen_iff e y c o w c' h q,
  firmware.refusal_stays e y c o w c' h k q,
)

-- what counts: 16 for an unknown edition or way, else 0 or a number of the verdict; nothing is lent for writing
pub anthercup_counted_refuses : (e y : ℕ) (o : List ℕ) (t w : ℕ) → firmware.CountedGives e y o t w → Octets o →
    (T (known e y) → ZeroOr (verdict_number (language_of (book_of e y))) (word_number w))
    × ((T (known e y) → ⊥) → Unpacked 0 16 0 0 0 0 w)
unfolding verdict.told
anthercup_counted_refuses e y o t w h q = (λ i. by_known i, λ n. firmware.counted_sixteen e y o t w h n)
  where
    by_known : T (known e y) → ZeroOr (verdict_number (language_of (book_of e y))) (word_number w)
    by_known i = go x.verdict refl
      where
        x : RecordCounts e y o t w
        x = firmware.counted_word e y o t w h q i

        of_message : (d : Accepts (rules_of (book_of e y)) o) (v : Option (List ℕ)) →
            counted (rules_of (book_of e y)) d.0 t ≡ v → word_number w ≡ 0
        of_message d none z = (x.none_counts d.0 d.1 d.2 z).number
        of_message d (some v) z =
            (x.counts d.0 d.1 d.2 v ((counted_iff (rules_of (book_of e y)) d.0 t v).0 z)).number

        go : (v : Result ℕ Fault) → x.verdict ≡ v → ZeroOr (verdict_number (language_of (book_of e y))) (word_number w)
        go (Ok n) z = inl (of_message ((judging.accepted_iff x.judged n).0 z).1 _ refl)
        go (Err f) u =
            let z = ap (λ (v : Result ℕ Fault). (verdict.told v).number) u in
            let l = judging.some_number x.judged f u in
            inr (subst (λ (n : ℕ). T (verdict_number (language_of (book_of e y)) n))
            (sym ((x.refused (omega (arith, z, l))).number ∙ z)) (judging.number_of_lem x.judged f u))

-- the caption: 17 for a record of another size than 24, else 0, a number of the verdict, or 16 exactly for an unknown
-- edition or way; with a number the record stays
pub anthercup_caption_refuses : (e y : ℕ) (o d c : List ℕ) (w : ℕ) (c' : List ℕ) →
    firmware.CaptionGives e y o d c w c' → Octets o →
    (length c ≡ part_size →
    ((T (known e y) × ZeroOr (verdict_number (language_of (book_of e y))) (word_number w))
    ⊎ ((T (known e y) → ⊥) × (word_number w ≡ 16)))
    × (1 ≤ word_number w → c' ≡ c))
    × ((length c ≡ part_size → ⊥) → Seventeen c w c')
unfolding shown.told
anthercup_caption_refuses e y o d c w c' h q = (
  λ n.
      let x = firmware.record_caption e y o d c w c' h q n in
      (so x (decide (known e y)), λ l. x.refused (omega (arith, x.word.number, l))),
  λ n. firmware.caption_seventeen e y o d c w c' h n,
)
  where
    given_so : (x : RecordFinds e y o d c w c') → T (known e y) → (s : Result Shown Fault) → x.finding.answer ≡ s →
        ZeroOr (verdict_number (language_of (book_of e y))) (word_number w)
    given_so x i (Ok (found.InMessage start n)) z = inl (x.word.number ∙ ap (λ (s : Result Shown Fault). (shown.told s).number) z)
    given_so x i (Ok (found.InDirectory start n)) z = inl (x.word.number ∙ ap (λ (s : Result Shown Fault). (shown.told s).number) z)
    given_so x i (Err f) z =
        let s = x.finds.by_book i in
        inr (subst (λ (n : ℕ). T (verdict_number (language_of (book_of e y)) n))
        (sym (x.word.number ∙ ap (λ (s : Result Shown Fault). (shown.told s).number) z))
        (judging.number_of_lem s.judged f (finding.declined_so s f z)))

    so : RecordFinds e y o d c w c' → T (known e y) ⊎ (T (known e y) → ⊥) →
        (T (known e y) × ZeroOr (verdict_number (language_of (book_of e y))) (word_number w))
        ⊎ ((T (known e y) → ⊥) × (word_number w ≡ 16))
    so x (inl i) = inl (i, given_so x i _ refl)
    so x (inr n) = inr (n, x.word.number ∙ x.finds.unknown n)
