-- The sentences on writing leave one answer and one output: every draft goes one of the seven ways, and each way has
-- its answer; a message and the octets behind it make up the output.
-- Assumes nothing.
use Rattle.std.proofs.Common.{◌≡◌, ℕ, zero, suc, ◌+◌, ◌<◌, ◌≤◌, Bool, T, ◌⊎◌, List, ◌++◌, length, sym, refl, ap, ◌∙◌, subst, ap₂, inl, inr, arith, take-append-drop, Result}
use Rattle.rules.specs.Tests.{◌=?◌, ◌≤?◌}
use Rattle.rules.proofs.Tests.{decide, le_of, eq_of, of_eq, not_zero}
use Rattle.rules.specs.Table.{Rules, rules_of}
use Rattle.rules.specs.Editions.{known, book_of}
use Rattle.rules.specs.Message.{message_kind, most}
use Rattle.draft.specs.declared.Draft.{Draft}
use Rattle.writer.specs.Writing.{Writing}
use Rattle.writer.specs.Told.{told, success}
use Rattle.writer.proofs.Told.{unwritten_is, message_is}
use Rattle.writer.specs.Writing.{legal_entry}
use Rattle.writer.specs.Reasons.{Makes, entry_at, length_of, AllMake, FirstBad, Asked}
use Rattle.writer.specs.Reasons.{Answers, Writes, WritesBy, Went, kind_is_none, no_entries, many_entries, bad_entry}
use Rattle.writer.specs.Reasons.{too_long, too_tight, fits}
use Rattle.writer.proofs.Legal.{at_most, makes_iff}
use Rattle.rules.specs.declared.Fault.{Fault}

-- a test passes, or it fails
abbrev Decided : Bool → Type 0
Decided b = T b ⊎ (T b → ⊥)

module _ (R : Rules) (d : Draft) (texts : List ℕ) where
  -- the first n entries make parameters; some entry is the first that makes none
  abbrev Make : ℕ → Type 0
  Make n = (i : ℕ) → i < n → Makes R texts (entry_at d i)

  abbrev SomeBad : Type 0
  SomeBad = (i : ℕ) × FirstBad R d texts i

  looked : (n : ℕ) → n ≤ d.count → Make n ⊎ SomeBad
  looked zero h = inl (λ i l. absurd (omega arith))
  looked (suc n) h = go (looked n (omega arith)) (decide (legal_entry R texts (entry_at d n)))
    where
      go : Make n ⊎ SomeBad → Decided (legal_entry R texts (entry_at d n)) → Make (suc n) ⊎ SomeBad
      go (inr b) x = inr b
      go (inl f) (inr x) = inr (n, record { place = h; bad = λ m. x ((makes_iff R texts _).1 m); before = f })
      go (inl f) (inl t) = inl (λ i l. here i l (decide (i =? n)))
        where
          here : (i : ℕ) → i < suc n → Decided (i =? n) → Makes R texts (entry_at d i)
          here i l (inl e) = rw (eq_of i n e) ((makes_iff R texts _).0 t)
          here i l (inr x) = let y : i ≡ n → ⊥ = λ e. x (of_eq _ _ e) in f i (omega arith)

  module _ (room : ℕ) where
    abbrev Way : Type 0
    Way = (x : Result ℕ Fault) × Went R d texts room x

    -- every draft goes one of the seven ways
    way : Way
    way = go (decide (message_kind d.kind))
      where
        made : Asked d → AllMake R d texts → Decided (256 ≤? length_of d texts) →
            Decided (suc room ≤? length_of d texts + 3) → Way
        made a m (inl l) r = (_, too_long a m (le_of _ _ l))
        made a m (inr l) (inl r) = (_, too_tight a m (at_most _ _ l) (le_of _ _ r))
        made a m (inr l) (inr r) = (_, fits a m (at_most _ _ l) (at_most _ _ r))

        asked : Asked d → AllMake R d texts ⊎ SomeBad → Way
        asked a (inl m) = made a m (decide (256 ≤? length_of d texts)) (decide (suc room ≤? length_of d texts + 3))
        asked a (inr b) = (_, bad_entry b.0 a b.1)

        counted : T (message_kind d.kind) → Decided (d.count =? 0) → Decided (suc most ≤? d.count) → Way
        counted k (inl z) f = (_, no_entries k (eq_of _ _ z))
        counted k (inr z) (inl f) = (_, many_entries k (le_of _ _ f))
        counted k (inr z) (inr f) =
            asked (record { kind = k; some = not_zero _ z; few = at_most _ _ f }) (looked d.count (omega arith))

        go : Decided (message_kind d.kind) → Way
        go (inl k) = counted k (decide (d.count =? 0)) (decide (suc most ≤? d.count))
        go (inr n) = (_, kind_is_none n)

    -- and each has its answer
    went_is : (w : Result ℕ Fault) → Answers R d texts room w → (x : Result ℕ Fault) → Went R d texts room x → w ≡ x
    went_is w A x (kind_is_none n) = unwritten_is w _ _ (omega arith) ((A.eleven 0).1 (refl, n))
    went_is w A x (no_entries k z) = unwritten_is w _ _ (omega arith) ((A.fourteen 0).1 (refl, (k, z)))
    went_is w A x (many_entries k m) = unwritten_is w _ _ (omega arith) ((A.thirteen 0).1 (refl, inl (k, m)))
    went_is w A x (bad_entry i a f) = unwritten_is w _ _ (omega arith) ((A.twelve i a).1 f)
    went_is w A x (too_long a m l) = unwritten_is w _ _ (omega arith) ((A.thirteen 0).1 (refl, inr (a, (m, l))))
    went_is w A x (too_tight a m l r) = unwritten_is w _ _ (omega arith) ((A.fifteen _).1 (refl, (a, (m, (l, r)))))
    went_is w A x (fits a m l r) = message_is w _ (omega arith) ((A.message _).1 (refl, (a, (m, (l, r)))))

    -- a message, or a number
    abbrev Answered : Result ℕ Fault → Type 0
    Answered x = ((n : ℕ) × (told x ≡ success n)) ⊎ (1 ≤ (told x).number)

    answered : (x : Result ℕ Fault) → Went R d texts room x → Answered x
    unfolding told
    answered x (kind_is_none n) = inr (omega arith)
    answered x (no_entries k z) = inr (omega arith)
    answered x (many_entries k m) = inr (omega arith)
    answered x (bad_entry i a f) = inr (omega arith)
    answered x (too_long a m l) = inr (omega arith)
    answered x (too_tight a m l r) = inr (omega arith)
    answered x (fits a m l r) = inl (_, refl)

    -- a draft with its text area and the room in the output have one answer
    pub answers_one : (w v : Result ℕ Fault) → Answers R d texts room w → Answers R d texts room v → w ≡ v
    answers_one w v A B = went_is w A _ way.1 ∙ sym (went_is v B _ way.1)

  -- and with the output one output
  pub writes_one : (old : List ℕ) (w : Result ℕ Fault) (new : List ℕ) (v : Result ℕ Fault) (after : List ℕ) →
      Writes R d texts old w new → Writes R d texts old v after → (w ≡ v) × (new ≡ after)
  writes_one old w new v after A B =
      let e = answers_one (length old) w v A.answers B.answers in
      (e, go (answered (length old) _ (way (length old)).1) (sym e))
    where
      is : w ≡ (way (length old)).0
      is = went_is (length old) w A.answers _ (way (length old)).1

      go : Answered (length old) (way (length old)).0 → v ≡ w → new ≡ after
      go (inl (n, t)) d =
          let a = A.lays n (ap told is ∙ t) in
          let b = B.lays n (ap told (d ∙ is) ∙ t) in
          let x = a.begins ∙ sym b.begins in
          let y = a.stays ∙ sym b.stays in
          sym (take-append-drop n new) ∙ ap₂ ◌++◌ x y ∙ take-append-drop n after
      go (inr l) d =
          A.keeps (subst (λ (x : Result ℕ Fault). 1 ≤ (told x).number) (sym is) l)
          ∙ sym (B.keeps (subst (λ (x : Result ℕ Fault). 1 ≤ (told x).number) (sym (d ∙ is)) l))

-- by the draft's edition and any way, one answer, one edition named and one output
pub writes_by_one : (w : ℕ) (d : Draft) (texts old : List ℕ) (r : Writing) (new : List ℕ) (s : Writing)
    (after : List ℕ) → WritesBy w d texts old r new → WritesBy w d texts old s after → (r ≡ s) × (new ≡ after)
writes_by_one w d texts old r new s after A B = go (decide (known d.edition w))
  where
    go : Decided (known d.edition w) → (r ≡ s) × (new ≡ after)
    go (inl k) =
        let x =
        writes_one (rules_of (book_of d.edition w)) d texts old r.answer new s.answer after (A.by_book k)
        (B.by_book k) in
        let answer = x.0 in
        let edition = A.names k ∙ sym (B.names k) in
        ((λ i. record { edition = edition i; answer = answer i }), x.1)
    go (inr n) =
        let x = A.leaves n in
        let y = B.leaves n in
        let answer =
        unwritten_is _ 16 0 (omega arith) ((A.sixteen 0).1 (refl, n))
        ∙ sym (unwritten_is _ 16 0 (omega arith) ((B.sixteen 0).1 (refl, n))) in
        let edition = x.1 ∙ sym y.1 in
        ((λ i. record { edition = edition i; answer = answer i }), x.0 ∙ sym y.0)
