-- The sentences on the exports leave one word, and one content of each record: what is told of the octets is one
-- (hears-one and its like), and the word and the records are told by it.
-- Assumes nothing.
use Rattle.caption.specs.Told.{Finding}
use Rattle.desk.specs.Told.{Settling}
use Rattle.std.proofs.Common.{ℕ, Result, Ok, Err}
use Prim.Native.Nat.{ℕ, ◌≤◌}
use mathlib.Core.Path.{◌≡◌, refl, sym, ◌∙◌, ap, subst}
use mathlib.Core.Logic.{◌⊎◌, inl, inr}
use mathlib.Core.List.{List}
use mathlib.Core.Option.{Option, none, some}
use native.Mathlib.Omega.{arith}
use lib.Dec.{T}
use Rattle.rules.specs.Tests.{◌=?◌}
use Rattle.rules.proofs.Tests.{decide, eq_of, of_eq}
use Rattle.rules.specs.Table.{rules_of}
use Rattle.rules.specs.Editions.{book_of}
use Rattle.rules.specs.Message.{Accepts}
use Rattle.rules.specs.Counting.{counted}
use Rattle.rules.proofs.Counting.{counted_iff}
use Rattle.rules.specs.Language.{Language, language_of}
use Rattle.rules.specs.declared.Fault.{Fault}
use Rattle.message.specs.Told as message
use Rattle.message.proofs.Told.{accepted_iff, some_number}
use Rattle.message.proofs.One.{judges_one}
use Rattle.reader.specs.declared.Reading.{Reading}
use Rattle.reader.specs.Told as reader
use Rattle.reader.proofs.One.{reads_one}
use Rattle.desk.specs.declared.Desk.{Desk}
use Rattle.desk.specs.Told as desk
use Rattle.desk.proofs.One.{settles_by_one}
use Rattle.caption.specs.Told as caption
use Rattle.caption.proofs.One.{finds_by_one}
use Rattle.firmware.specs.Word.{packed, word_number, word_place, word_parameter, word_size, word_taken, Unpacked, Plain}
use Rattle.firmware.specs.DraftRecord.{draft_record}
use Rattle.firmware.specs.DeskRecord.{desk_record}
use Rattle.firmware.specs.PartRecord.{part_record}
use Rattle.firmware.specs.RecordHears.{RecordHears}
use Rattle.firmware.specs.RecordReads.{RecordReads}
use Rattle.firmware.specs.RecordSettles.{RecordSettles}
use Rattle.firmware.specs.RecordParts.{RecordCounts, RecordFinds}

-- a number that is not 0
positive : (k : ℕ) → (T (k =? 0) → ⊥) → 1 ≤ k
positive k n = let z : k ≡ 0 → ⊥ = λ e. n (of_eq _ _ e) in omega arith

-- words of the same fields are one
words_one : (e k p q n t w v : ℕ) → Unpacked e k p q n t w → Unpacked e k p q n t v → w ≡ v
words_one e k p q n t w v a b = a.whole ∙ sym b.whole

-- 16 and 17 are one word each, and the record as it was
pub plain_one : (k : ℕ) (c : List ℕ) (w : ℕ) (d : List ℕ) (v : ℕ) (e : List ℕ) → Plain k c w d → Plain k c v e →
    (w ≡ v) × (d ≡ e)
plain_one k c w d v e a b = (words_one 0 k 0 0 0 0 w v a.word b.word, a.cells ∙ sym b.cells)

-- hearing
pub record_hears_one : (L : Language) (e : ℕ) (h o : List ℕ) (w v : ℕ) → RecordHears L e h o w →
    RecordHears L e h o v → w ≡ v
record_hears_one L e h o w v A B = go (decide (word_number w =? 0)) (decide (word_size w =? 0))
  where
    same : word_number w ≡ word_number v → word_place w ≡ word_place v → word_parameter w ≡ word_parameter v →
        word_size w ≡ word_size v → word_taken w ≡ word_taken v → w ≡ v
    same a b q c d =
        let r = A.names ∙ sym B.names in
        A.whole ∙ (λ i. packed (r i) (a i) (b i) (q i) (c i) (d i)) ∙ sym B.whole

    waiting : word_number w ≡ 0 → word_size w ≡ 0 → w ≡ v
    waiting a b =
        let x = B.waits.1 (A.waits.0 (a, b)) in
        same (a ∙ sym x.0) (A.no_place a ∙ sym (B.no_place x.0))
        (A.no_parameter a ∙ sym (B.no_parameter x.0)) (b ∙ sym x.1)
        (A.taken_waiting a b ∙ sym (B.taken_waiting x.0 x.1))

    heard : word_number w ≡ 0 → 1 ≤ word_size w → w ≡ v
    heard a b =
        let x : word_size v ≡ word_size w = (B.has_message (word_size w) b).1 ((A.has_message (word_size w) b).0 refl) in
        let y : word_number v ≡ 0 = no_number (decide (word_number v =? 0)) x in
        same (a ∙ sym y) (A.no_place a ∙ sym (B.no_place y)) (A.no_parameter a ∙ sym (B.no_parameter y)) (sym x)
        (omega (arith, A.taken_message (word_size w) b refl, B.taken_message (word_size w) b x))
      where
        no_number : T (word_number v =? 0) ⊎ (T (word_number v =? 0) → ⊥) → word_size v ≡ word_size w → word_number v ≡ 0
        no_number (inl t) x = eq_of _ _ t
        no_number (inr n) x = absurd (omega (arith, x, B.no_size (positive (word_number v) n)))

    refused : 1 ≤ word_number w → w ≡ v
    refused a =
        let k = word_number w in
        let p = word_place w in
        let q = word_parameter w in
        let x = (B.refuses k p q a).1 ((A.refuses k p q a).0 (refl, refl, refl)) in
        let b : 1 ≤ word_number v = omega (arith, x.0) in
        same (sym x.0) (sym x.1) (sym x.2) (A.no_size a ∙ sym (B.no_size b))
        (omega (arith, A.taken_refused a, B.taken_refused b, x.1))

    go : T (word_number w =? 0) ⊎ (T (word_number w =? 0) → ⊥) → T (word_size w =? 0) ⊎ (T (word_size w =? 0) → ⊥) → w ≡ v
    go (inl a) (inl b) = waiting (eq_of _ _ a) (eq_of _ _ b)
    go (inl a) (inr b) = heard (eq_of _ _ a) (positive (word_size w) b)
    go (inr a) b = refused (positive (word_number w) a)

-- reading
pub record_reads_one : (k y : ℕ) (o c t : List ℕ) (w : ℕ) (c' t' : List ℕ) (v : ℕ) (d u : List ℕ) →
    RecordReads k y o c t w c' t' → RecordReads k y o c t v d u → (w ≡ v) × (c' ≡ d) × (t' ≡ u)
record_reads_one k y o c t w c' t' v d u A B =
    let e = reads_one (rules_of (book_of k y)) o t A.reading t' B.reading u A.reads B.reads in
    let a = ap (λ (r : Reading). r.answer) e.0 in (
      A.word.whole ∙ (λ i. packed k (reader.told (a i)).number (reader.told (a i)).place (reader.told
          (a i)).parameter
          (reader.told (a i)).size 0)
          ∙ sym B.word.whole,
      cells e.0 (decide ((reader.told A.reading.answer).number =? 0)),
      e.1,
    )
  where
    cells : A.reading ≡ B.reading →
        T ((reader.told A.reading.answer).number =? 0) ⊎ (T ((reader.told A.reading.answer).number =? 0) → ⊥) →
        c' ≡ d
    cells e (inl t) =
        let z = eq_of _ _ t in
        A.drafted z ∙ ap (λ (r : Reading). draft_record r.draft) e
        ∙ sym (B.drafted (sym (ap (λ (r : Reading). (reader.told r.answer).number) e) ∙ z))
    cells e (inr n) =
        let l = positive _ n in
        A.refused l ∙ sym (B.refused (subst (λ (r : Reading). 1 ≤ (reader.told r.answer).number) e l))

-- settling
pub record_settles_one : (k y : ℕ) (d : Desk) (o : List ℕ) (w : ℕ) (c : List ℕ) (v : ℕ) (e : List ℕ) →
    RecordSettles k y d o w c → RecordSettles k y d o v e → (w ≡ v) × (c ≡ e)
record_settles_one k y d o w c v e A B =
    let x = settles_by_one k y d o A.settling B.settling A.settles B.settles in (
      A.word.whole ∙ (λ i. packed (x i).edition (desk.told (x i).answer.answer).number
          (desk.told (x i).answer.answer).place (desk.told (x i).answer.answer).parameter 0 0)
          ∙ sym B.word.whole,
      A.cells ∙ ap (λ (r : Settling). desk_record r.answer.desk) x ∙ sym B.cells,
    )

-- what counts
pub record_counts_one : (b y : ℕ) (o : List ℕ) (t w v : ℕ) → RecordCounts b y o t w → RecordCounts b y o t v → w ≡ v
unfolding message.told
record_counts_one b y o t w v A B = go A.verdict refl
  where
    of_message : (a : Accepts (rules_of (book_of b y)) o) (x : Option (List ℕ)) →
        counted (rules_of (book_of b y)) a.0 t ≡ x → w ≡ v
    of_message (m, l, e) none z = words_one b 0 0 0 0 0 w v (A.none_counts m l e z) (B.none_counts m l e z)
    of_message (m, l, e) (some x) z =
        let c = (counted_iff (rules_of (book_of b y)) m t x).0 z in
        words_one _ _ _ _ _ _ w v (A.counts m l e x c) (B.counts m l e x c)

    go : (x : Result ℕ Fault) → A.verdict ≡ x → w ≡ v
    go (Ok n) e = of_message ((accepted_iff A.judged n).0 e).1 _ refl
    go (Err f) e =
        let k = judges_one (language_of (book_of b y)) o _ _ A.judged B.judged in
        let l : 1 ≤ (message.told A.verdict).number =
        subst (λ (x : Result ℕ Fault). 1 ≤ (message.told x).number) (sym e) (some_number A.judged f e) in
        words_one _ _ _ _ _ _ w v (A.refused l)
        (subst (λ (x : Result ℕ Fault). Unpacked b (message.told x).number (message.told x).place
        (message.told x).parameter 0 0 v) (sym k)
        (B.refused (subst (λ (x : Result ℕ Fault). 1 ≤ (message.told x).number) k l)))

-- the caption
pub record_finds_one : (k y : ℕ) (o d c : List ℕ) (w : ℕ) (c' : List ℕ) (v : ℕ) (e : List ℕ) →
    RecordFinds k y o d c w c' → RecordFinds k y o d c v e → (w ≡ v) × (c' ≡ e)
record_finds_one k y o d c w c' v e A B = (
  A.word.whole ∙ (λ i. packed (x i).edition (caption.told (x i).answer).number (caption.told (x i).answer).place
      (caption.told (x i).answer).parameter 0 0)
      ∙ sym B.word.whole,
  cells (decide ((caption.told A.finding.answer).number =? 0)),
)
  where
    x : A.finding ≡ B.finding
    x = finds_by_one k y o d A.finding B.finding A.finds B.finds

    shown : (caption.told A.finding.answer).number ≡ 0 → c' ≡ e
    shown z =
        A.part z
        ∙ ap (λ (r : Finding). part_record (caption.told r.answer).side (caption.told r.answer).start
        (caption.told r.answer).size) x
        ∙ sym (B.part (sym (ap (λ (x : Finding). (caption.told x.answer).number) x) ∙ z))

    cells : T ((caption.told A.finding.answer).number =? 0) ⊎ (T ((caption.told A.finding.answer).number =? 0) → ⊥) →
        c' ≡ e
    cells (inl t) = shown (eq_of _ _ t)
    cells (inr n) =
        let l = positive _ n in
        A.refused l ∙ sym (B.refused (subst (λ (r : Finding). 1 ≤ (caption.told r.answer).number) x l))
