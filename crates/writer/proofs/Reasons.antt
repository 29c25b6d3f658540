-- The writer's answer has its reason, and what has a reason is the answer: by the order of its tests, and then number
-- by number.
-- Assumes nothing.
use Rattle.std.proofs.Common.{◌≡◌, ℕ, zero, suc, ◌+◌, ◌<◌, ◌≤◌, T, ◌⊎◌, ◌↔◌, List, [], ◌∷◌, get_or, take, sym, ap, ◌∙◌, subst, inl, inr, arith, Result}
use Rattle.rules.specs.Tests.{◌=?◌, pick}
use Rattle.rules.proofs.Tests.{decide, both, le_of, of_le, eq_of, of_eq, pick_yes, pick_not, pick_case, not_zero}
use Rattle.rules.specs.Table.{rules_of, row_in, row_of, class_of, form_of, form_number}
use Rattle.rules.specs.declared.Book.{Book}
use Rattle.rules.specs.declared.Book.TheVariants.{PresentStrict, PresentLenient, OldStrict, OldLenient}
use Rattle.rules.specs.Message.{message_kind, most}
use Rattle.draft.specs.Meaning.{form_is, kind_of}
use Rattle.draft.specs.Draft.{no_entry, meaning_of, used}
use Rattle.draft.specs.declared.Entry.{Entry}
use Rattle.draft.specs.declared.Draft.{Draft}
use Rattle.writer.specs.Told.{Told, told, success, refusal}
use Rattle.writer.specs.Writing.{unwritten, legal_entry, legal_before, sized, measured_of, write_of}
use Rattle.writer.proofs.Legal.{at_most, makes_iff}
use Rattle.writer.specs.Reasons.{length_of, AllMake, FirstBad, Asked, Went, Answers, kind_is_none, no_entries, many_entries, bad_entry, too_long, too_tight, fits}
use Rattle.rules.specs.declared.Fault.{Fault}

-- ---- an unused entry place makes none
none_bad : (b : Book) (texts : List ℕ) → T (legal_entry (rules_of b) texts no_entry) → ⊥
unfolding legal_entry form_number form_is meaning_of kind_of class_of row_of row_in rules_of pick ◌=?◌ form_of
none_bad PresentStrict texts t = (both _ _ (both _ _ t).1).0
none_bad PresentLenient texts t = (both _ _ (both _ _ t).1).0
none_bad OldStrict texts t = (both _ _ (both _ _ t).1).0
none_bad OldLenient texts t = (both _ _ (both _ _ t).1).0

module _ (book : Book) where
  module _ (texts : List ℕ) where
    good_before : (es : List Entry) (n j : ℕ) → j < legal_before (rules_of book) texts (take n es) →
        T (legal_entry (rules_of book) texts (get_or es j no_entry))
    unfolding legal_before
    good_before es zero j l = absurd (omega arith)
    good_before [] (suc n) j l = absurd (omega arith)
    good_before (e ∷ es) (suc n) j l = go (good_before es n) (decide (legal_entry (rules_of book) texts e)) j l
      where
        go : ((j : ℕ) → j < legal_before (rules_of book) texts (take n es) →
            T (legal_entry (rules_of book) texts (get_or es j no_entry))) →
            T (legal_entry (rules_of book) texts e) ⊎ (T (legal_entry (rules_of book) texts e) → ⊥) → (j : ℕ) →
            j < pick (legal_entry (rules_of book) texts e) (suc (legal_before (rules_of book) texts (take n es))) 0 →
            T (legal_entry (rules_of book) texts (get_or (e ∷ es) j no_entry))
        go f (inl t) zero l = t
        go f (inl t) (suc j) l =
            f j (omega (
              arith,
              pick_yes (legal_entry (rules_of book) texts e)
                  (suc (legal_before (rules_of book) texts (take n es))) 0 t,
            ))
        go f (inr x) j l =
            absurd (omega (
              arith,
              pick_not (legal_entry (rules_of book) texts e)
                  (suc (legal_before (rules_of book) texts (take n es))) 0 x,
            ))

    bad_at : (es : List Entry) (n : ℕ) → legal_before (rules_of book) texts (take n es) < n →
        T (legal_entry (rules_of book) texts (get_or es (legal_before (rules_of book) texts (take n es)) no_entry)) → ⊥
    unfolding legal_before
    bad_at es zero l = absurd (omega arith)
    bad_at [] (suc n) l = none_bad book texts
    bad_at (e ∷ es) (suc n) l = go (bad_at es n) (decide (legal_entry (rules_of book) texts e))
      where
        k : ℕ
        k = legal_before (rules_of book) texts (take n es)

        go : (k < n → T (legal_entry (rules_of book) texts (get_or es k no_entry)) → ⊥) →
            T (legal_entry (rules_of book) texts e) ⊎ (T (legal_entry (rules_of book) texts e) → ⊥) →
            T (legal_entry (rules_of book) texts
            (get_or (e ∷ es) (pick (legal_entry (rules_of book) texts e) (suc k) 0) no_entry)) → ⊥
        go f (inl t) u =
            let q = pick_yes (legal_entry (rules_of book) texts e) (suc k) 0 t in
            f (omega (arith, q)) (rw q at u)
        go f (inr x) u = x (rw (pick_not (legal_entry (rules_of book) texts e) (suc k) 0 x) at u)

  -- ---- by the number of legal entries from the front
  module _ (d : Draft) (texts : List ℕ) where
    abbrev legal : ℕ
    legal = legal_before (rules_of book) texts (used d)

    first_is : legal < d.count → FirstBad (rules_of book) d texts legal
    first_is l =
        record {
          place = l;
          bad = λ m. bad_at texts d.entries d.count l ((makes_iff (rules_of book) texts _).1 m);
          before = λ j h. (makes_iff (rules_of book) texts _).0 (good_before texts d.entries d.count j h);
        }

    is_first : (i : ℕ) → FirstBad (rules_of book) d texts i → legal ≡ i
    is_first i f =
        let a : legal < i → ⊥ = λ l. (first_is (omega (arith, f.place))).bad (f.before legal l) in
        let b : i < legal → ⊥ =
        λ l. f.bad ((makes_iff (rules_of book) texts _).0 (good_before texts d.entries d.count i l)) in
        omega arith

    all_make : d.count ≤ legal → AllMake (rules_of book) d texts
    all_make l i h = (makes_iff (rules_of book) texts _).0 (good_before texts d.entries d.count i (omega arith))

    make_all : AllMake (rules_of book) d texts → d.count ≤ legal
    make_all m = let a : legal < d.count → ⊥ = λ l. (first_is l).bad (m legal l) in omega arith

  -- ---- the answer has its reason, and what has a reason is the answer
  module _ (d : Draft) (texts : List ℕ) (room : ℕ) where
    reason : Went (rules_of book) d texts room (write_of (rules_of book) d texts room)
    unfolding write_of measured_of sized
    reason =
        pick_case (Went (rules_of book) d texts room) _ _ _
        (λ k.
        pick_case (Went (rules_of book) d texts room) _ _ _ (λ z. no_entries k (eq_of _ _ z))
        (λ s.
        pick_case (Went (rules_of book) d texts room) _ _ _ (λ m. many_entries k (le_of _ _ m))
        (λ f.
        let a : Asked d = record { kind = k; some = not_zero _ s; few = at_most _ _ f } in
        pick_case (Went (rules_of book) d texts room) _ _ _ (λ l. bad_entry _ a (first_is d texts (le_of _ _ l)))
        (λ l.
        let m = all_make d texts (at_most _ _ l) in
        pick_case (Went (rules_of book) d texts room) _ _ _ (λ g. too_long a m (le_of _ _ g))
        (λ h. pick_case (Went (rules_of book) d texts room) _ _ _ (λ r. too_tight a m (at_most _ _ h) (le_of _ _ r))
        (λ r. fits a m (at_most _ _ h) (at_most _ _ r)))))))
        (λ n. kind_is_none n)

    asked_is : (x : Result ℕ Fault) → Asked d → measured_of (rules_of book) d texts room ≡ x →
        x ≡ write_of (rules_of book) d texts room
    unfolding write_of
    asked_is x a e =
        sym
        (pick_yes _ _ _ a.kind
        ∙ pick_not _ _ _ (λ t. omega (arith, eq_of _ _ t, a.some))
        ∙ pick_not _ _ _ (λ t. omega (arith, le_of _ _ t, a.few))
        ∙ e)

    made_is : (x : Result ℕ Fault) → Asked d → AllMake (rules_of book) d texts → sized 13 (length_of d texts) room ≡ x →
        x ≡ write_of (rules_of book) d texts room
    unfolding measured_of
    made_is x a m e = asked_is x a (pick_not _ _ _ (λ t. omega (arith, le_of _ _ t, make_all d texts m)) ∙ e)

    answer : (x : Result ℕ Fault) → Went (rules_of book) d texts room x → x ≡ write_of (rules_of book) d texts room
    unfolding write_of measured_of sized
    answer x (kind_is_none n) = sym (pick_not _ _ _ n)
    answer x (no_entries k z) = sym (pick_yes _ _ _ k ∙ pick_yes _ _ _ (of_eq _ _ z))
    answer x (many_entries k m) =
        sym (pick_yes _ _ _ k ∙ pick_not _ _ _ (λ t. omega (arith, eq_of _ _ t)) ∙ pick_yes _ _ _ (of_le _ _ m))
    answer x (bad_entry i a f) =
        let q = is_first d texts i f in
        asked_is _ a (pick_yes _ _ _ (of_le _ _ (omega (arith, f.place))) ∙ ap (unwritten 12) q)
    answer x (too_long a m l) = made_is _ a m (pick_yes _ _ _ (of_le _ _ l))
    answer x (too_tight a m s r) =
        made_is _ a m (pick_not _ _ _ (λ t. omega (arith, le_of _ _ t)) ∙ pick_yes _ _ _ (of_le _ _ r))
    answer x (fits a m s r) =
        made_is _ a m (pick_not _ _ _ (λ t. omega (arith, le_of _ _ t))
        ∙ pick_not _ _ _ (λ t. omega (arith, le_of _ _ t)))

    pub answer_iff : (x : Result ℕ Fault) →
        (x ≡ write_of (rules_of book) d texts room) ↔ Went (rules_of book) d texts room x
    answer_iff x = (λ e. subst (Went (rules_of book) d texts room) (sym e) reason, answer x)

  apart : (a b : Told) → a ≡ b → (a.number ≡ b.number → ⊥) → ⊥
  apart a b e f = f (ap (λ (a : Told). a.number) e)

  place_of : (k p q : ℕ) → refusal k p ≡ refusal k q → q ≡ p
  place_of k p q e = sym (ap (λ (a : Told). a.place) e)

  module _ (d : Draft) (texts : List ℕ) (room : ℕ) where
    eleven_when : (x : Result ℕ Fault) → Went (rules_of book) d texts room x → (p : ℕ) → told x ≡ refusal 11 p →
        (p ≡ 0) × (T (message_kind d.kind) → ⊥)
    unfolding told
    eleven_when x (kind_is_none n) p e = (place_of _ _ _ e, n)
    eleven_when x (no_entries k z) p e = absurd (apart _ _ e (λ z. omega arith))
    eleven_when x (many_entries k m) p e = absurd (apart _ _ e (λ z. omega arith))
    eleven_when x (bad_entry i a f) p e = absurd (apart _ _ e (λ z. omega arith))
    eleven_when x (too_long a m l) p e = absurd (apart _ _ e (λ z. omega arith))
    eleven_when x (too_tight a m s r) p e = absurd (apart _ _ e (λ z. omega arith))
    eleven_when x (fits a m s r) p e = absurd (apart _ _ e (λ z. omega arith))

    fourteen_when : (x : Result ℕ Fault) → Went (rules_of book) d texts room x → (p : ℕ) → told x ≡ refusal 14 p →
        (p ≡ 0) × (T (message_kind d.kind) × (d.count ≡ 0))
    unfolding told
    fourteen_when x (kind_is_none n) p e = absurd (apart _ _ e (λ z. omega arith))
    fourteen_when x (no_entries k z) p e = (place_of _ _ _ e, (k, z))
    fourteen_when x (many_entries k m) p e = absurd (apart _ _ e (λ z. omega arith))
    fourteen_when x (bad_entry i a f) p e = absurd (apart _ _ e (λ z. omega arith))
    fourteen_when x (too_long a m l) p e = absurd (apart _ _ e (λ z. omega arith))
    fourteen_when x (too_tight a m s r) p e = absurd (apart _ _ e (λ z. omega arith))
    fourteen_when x (fits a m s r) p e = absurd (apart _ _ e (λ z. omega arith))

    twelve_when : (x : Result ℕ Fault) → Went (rules_of book) d texts room x → (i : ℕ) → told x ≡ refusal 12 i →
        FirstBad (rules_of book) d texts i
    unfolding told
    twelve_when x (kind_is_none n) p e = absurd (apart _ _ e (λ z. omega arith))
    twelve_when x (no_entries k z) p e = absurd (apart _ _ e (λ z. omega arith))
    twelve_when x (many_entries k m) p e = absurd (apart _ _ e (λ z. omega arith))
    twelve_when x (bad_entry i a f) p e = subst (FirstBad (rules_of book) d texts) (sym (place_of _ _ _ e)) f
    twelve_when x (too_long a m l) p e = absurd (apart _ _ e (λ z. omega arith))
    twelve_when x (too_tight a m s r) p e = absurd (apart _ _ e (λ z. omega arith))
    twelve_when x (fits a m s r) p e = absurd (apart _ _ e (λ z. omega arith))

    thirteen_when : (x : Result ℕ Fault) → Went (rules_of book) d texts room x → (p : ℕ) → told x ≡ refusal 13 p →
        (p ≡ 0) × ((T (message_kind d.kind) × (suc most ≤ d.count))
        ⊎ (Asked d × (AllMake (rules_of book) d texts × (256 ≤ length_of d texts))))
    unfolding told
    thirteen_when x (kind_is_none n) p e = absurd (apart _ _ e (λ z. omega arith))
    thirteen_when x (no_entries k z) p e = absurd (apart _ _ e (λ z. omega arith))
    thirteen_when x (many_entries k m) p e = (place_of _ _ _ e, inl (k, m))
    thirteen_when x (bad_entry i a f) p e = absurd (apart _ _ e (λ z. omega arith))
    thirteen_when x (too_long a m l) p e = (place_of _ _ _ e, inr (a, (m, l)))
    thirteen_when x (too_tight a m s r) p e = absurd (apart _ _ e (λ z. omega arith))
    thirteen_when x (fits a m s r) p e = absurd (apart _ _ e (λ z. omega arith))

    fifteen_when : (x : Result ℕ Fault) → Went (rules_of book) d texts room x → (p : ℕ) → told x ≡ refusal 15 p →
        (p ≡ length_of d texts + 3)
        × (Asked d × (AllMake (rules_of book) d texts × ((length_of d texts ≤ 255) × (room < length_of d texts + 3))))
    unfolding told
    fifteen_when x (kind_is_none n) p e = absurd (apart _ _ e (λ z. omega arith))
    fifteen_when x (no_entries k z) p e = absurd (apart _ _ e (λ z. omega arith))
    fifteen_when x (many_entries k m) p e = absurd (apart _ _ e (λ z. omega arith))
    fifteen_when x (bad_entry i a f) p e = absurd (apart _ _ e (λ z. omega arith))
    fifteen_when x (too_long a m l) p e = absurd (apart _ _ e (λ z. omega arith))
    fifteen_when x (too_tight a m s r) p e = (place_of _ _ _ e, (a, (m, (s, r))))
    fifteen_when x (fits a m s r) p e = absurd (apart _ _ e (λ z. omega arith))

    message_when : (x : Result ℕ Fault) → Went (rules_of book) d texts room x → (n : ℕ) → told x ≡ success n →
        (n ≡ length_of d texts + 3)
        × (Asked d × (AllMake (rules_of book) d texts × ((length_of d texts ≤ 255) × (length_of d texts + 3 ≤ room))))
    unfolding told
    message_when x (kind_is_none n) p e = absurd (apart _ _ e (λ z. omega arith))
    message_when x (no_entries k z) p e = absurd (apart _ _ e (λ z. omega arith))
    message_when x (many_entries k m) p e = absurd (apart _ _ e (λ z. omega arith))
    message_when x (bad_entry i a f) p e = absurd (apart _ _ e (λ z. omega arith))
    message_when x (too_long a m l) p e = absurd (apart _ _ e (λ z. omega arith))
    message_when x (too_tight a m s r) p e = absurd (apart _ _ e (λ z. omega arith))
    message_when x (fits a m s r) p e = (sym (ap (λ (a : Told). a.size) e), (a, (m, (s, r))))

    numbers_are : (x : Result ℕ Fault) → Went (rules_of book) d texts room x → 1 ≤ (told x).number →
        (11 ≤ (told x).number) × ((told x).number ≤ 15)
    unfolding told
    numbers_are x (kind_is_none n) h = (omega arith, omega arith)
    numbers_are x (no_entries k z) h = (omega arith, omega arith)
    numbers_are x (many_entries k m) h = (omega arith, omega arith)
    numbers_are x (bad_entry i a f) h = (omega arith, omega arith)
    numbers_are x (too_long a m l) h = (omega arith, omega arith)
    numbers_are x (too_tight a m s r) h = (omega arith, omega arith)
    numbers_are x (fits a m s r) h = absurd (omega arith)

    -- an answer with a reason is the writer's answer
    given : (w : Result ℕ Fault) → w ≡ write_of (rules_of book) d texts room → (x : Result ℕ Fault) →
        Went (rules_of book) d texts room x → told w ≡ told x
    given w e x r = ap told (e ∙ sym (answer d texts room x r))

    over : (w : Result ℕ Fault) → w ≡ write_of (rules_of book) d texts room →
        (T (message_kind d.kind) × (suc most ≤ d.count))
        ⊎ (Asked d × (AllMake (rules_of book) d texts × (256 ≤ length_of d texts))) → told w ≡ refusal 13 0
    unfolding told
    over w e (inl h) = given w e _ (many_entries h.0 h.1)
    over w e (inr h) = given w e _ (too_long h.0 h.1.0 h.1.1)

    pub answers : (w : Result ℕ Fault) → w ≡ write_of (rules_of book) d texts room →
        Answers (rules_of book) d texts room w
    unfolding told
    answers w e =
        let r = (answer_iff d texts room w).0 e in
        record {
          eleven = λ p. (eleven_when w r p, λ h. given w e _ (kind_is_none h.1) ∙ ap (refusal 11) (sym h.0));
          fourteen =
              λ p. (
                fourteen_when w r p,
                λ h. given w e _ (no_entries h.1.0 h.1.1)
                    ∙ ap (refusal 14) (sym h.0),
              );
          twelve = λ i a. (twelve_when w r i, λ f. given w e _ (bad_entry i a f));
          thirteen = λ p. (thirteen_when w r p, λ h. over w e h.1 ∙ ap (refusal 13) (sym h.0));
          fifteen =
              λ p. (
                fifteen_when w r p,
                λ h. given w e _
                    (too_tight h.1.0 h.1.1.0 h.1.1.1.0 h.1.1.1.1) ∙ ap (refusal 15) (sym h.0),
              );
          message =
              λ n. (
                message_when w r n,
                λ h. given w e _
                    (fits h.1.0 h.1.1.0 h.1.1.1.0 h.1.1.1.1) ∙ ap success (sym h.0),
              );
          numbers = numbers_are w r;
        }
