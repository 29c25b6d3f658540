-- A read says and leaves what is promised: by the verdict on the octets, the room for the texts, and the draft of the
-- message that accepted octets are.
-- Assumes nothing.
use Rattle.std.proofs.Common.{ℕ, Result, Ok, Err}
use Prim.Native.Nat.{ℕ, ◌≤◌, ◌<◌}
use mathlib.Core.Path.{◌≡◌, refl, sym, ◌∙◌, ap, subst}
use mathlib.Core.Logic.Iff
use mathlib.Core.Logic.{◌⊎◌, inl, inr, ◌↔◌}
use mathlib.Core.List.{List}
use native.Mathlib.Omega.{arith}
use lib.ListN.{length, drop}
use lib.Dec.{T}
use Rattle.rules.specs.Tests.{◌≤?◌, ◌=?◌}
use Rattle.rules.proofs.Tests.{left, right, either, of_eq, eq_of, pick_case, pick_yes, pick_not, picked_by, le_of, of_le, not_le, clash}
use Rattle.rules.specs.Octets.{Octets}
use Rattle.rules.specs.Contents.{within}
use Rattle.rules.specs.Table.{Rules}
use Rattle.rules.proofs.ContentLaw.{SoundRules}
use Rattle.rules.proofs.Sizes.{some_parameter}
use Rattle.rules.specs.Message.{Message, Parameter, octets, LegalMessage, Accepts}
use Rattle.rules.specs.Refusals.{noted, noted_in}
use Rattle.rules.specs.Language.{calls}
use Rattle.rules.proofs.Grammar.{spoken, accepted_size}
use Rattle.rules.proofs.InRange.{low, high}
use Rattle.rules.specs.declared.Fault.{Fault}
use Rattle.message.specs.Verdict.{verdict_of}
use Rattle.message.specs.Judges.{Judges, verdict_number}
use Rattle.message.proofs.Judges.{judges_calls, given_apart, told_small, near_declined, few_declined}
use Rattle.message.proofs.Told.{accepted_iff, spoilt_iff, early_iff, followed_iff, no_parameter_of, number_of_lem}
use Rattle.message.specs.Parameters.{parameters_in, message_in}
use Rattle.message.proofs.Standing.{message_in_lem}
use Rattle.draft.specs.Draft.{empty_of, message_of}
use Rattle.rules.specs.Laying.{laid}
use Rattle.draft.specs.Packing.{texts_of, draft_of}
use Rattle.draft.proofs.Packing.{draft_stands}
use Rattle.reader.specs.declared.Reading.{Reading}
use Rattle.reader.proofs.Turns.{texts_in_body, size_within}
use Rattle.reader.proofs.Area.{fits_whole}
use Rattle.reader.specs.Read.{text_size, pack_from, pack_of, fitting_of, area_from, area_after, draft_from, read_of}
use Rattle.reader.specs.Told.{told, Clear}
use Rattle.reader.proofs.Told.{told-texts, told-refused}
use Rattle.reader.specs.Reads.{Near, texts, read_number, Reads}

-- 253 octets are always enough for them
pub area_enough : (R : Rules) (m : Message) → LegalMessage R m → length (texts R m) ≤ 253
area_enough R m l = omega (arith, texts_in_body R m.parameters, some_parameter m.parameters l.long, l.short)

below : (k : ℕ) → (k ≡ 9 → ⊥) → k ≤ 9 → k ≤ 8
below k n h = omega (arith, n)

number_is : (f g : Fault) → ◌≡◌ {A = Result ℕ Fault} (Err f) (Err g) → f.number ≡ g.number
number_is f g e = let z : f ≡ g = cc in ap (λ (x : Fault). x.number) z

place_is : (f g : Fault) → ◌≡◌ {A = Result ℕ Fault} (Err f) (Err g) → f.place ≡ g.place
place_is f g e = let z : f ≡ g = cc in ap (λ (x : Fault). x.place) z

module _ (R : Rules) (S : SoundRules R) where
  module _ (o : List ℕ) (room : ℕ) where
    -- ---- which verdict is behind an answer
    declined_iff : (v : Result ℕ Fault) (f : Fault) → (f.number ≡ 9 → ⊥) →
        (pack_from R o room v ≡ Err f) ↔ (v ≡ Err f)
    unfolding pack_from
    declined_iff (Ok n) f l = (
      λ e. picked_by _ _ _ _ _ e (λ _ d. clash cc) (λ _ d. absurd (l (sym (number_is _ _ d)))),
      λ e. clash cc,
    )
    declined_iff (Err g) f l = (λ e. let z : g ≡ f = cc in ap Err z, λ e. let z : g ≡ f = cc in ap Err z)

    short_iff : (v : Result ℕ Fault) (p : ℕ) → ((f : Fault) → v ≡ Err f → f.number ≡ 9 → ⊥) →
        (pack_from R o room v ≡ Err (noted 9 p)) ↔ ((n : ℕ) × (v ≡ Ok n) × (p ≡ text_size R o) × (room < p))
    unfolding pack_from
    short_iff (Ok n) p l = (
      λ e. picked_by _ _ _ _ _ e (λ _ d. clash cc)
          (λ t d. let z = place_is _ _ d in (n, refl, sym z, omega (arith, not_le _ _ t))),
      λ e. pick_not _ _ _ (λ t. omega (arith, le_of _ _ t, e.2, e.3))
          ∙ ap (λ (k : ℕ). Err (noted 9 k)) (sym e.2),
    )
    short_iff (Err g) p l = (
      λ e. let z : g ≡ (noted 9 p) = cc in absurd (l g refl (ap (λ (x : Fault). x.number) z)),
      λ e. clash (cc e.1),
    )

    whole_is : (v : Result ℕ Fault) (n : ℕ) → v ≡ Ok n → text_size R o ≤ room →
        pack_from R o room v ≡ Ok (text_size R o)
    unfolding pack_from
    whole_is v n e h = ap (pack_from R o room) e ∙ pick_yes _ _ _ (of_le _ _ h)

  -- the message that accepted octets are
  in_octets : (m : Message) (o : List ℕ) → LegalMessage R m → octets m ≡ o → message_in o ≡ m
  in_octets m o l e = ap message_in (sym e) ∙ message_in_lem R S m l

  parameters_in_lem : (m : Message) (o : List ℕ) → LegalMessage R m → octets m ≡ o → parameters_in o ≡ m.parameters
  unfolding message_in
  parameters_in_lem m o l e = ap (λ (x : Message). x.parameters) (in_octets m o l e)

  size_of : (m : Message) (o : List ℕ) → LegalMessage R m → octets m ≡ o → text_size R o ≡ length (texts R m)
  unfolding text_size
  size_of m o l e = ap (λ (ps : List Parameter). length (texts_of R ps)) (parameters_in_lem m o l e)

  -- an accepted message has at most 258 octets, and 253 are enough for its texts
  pub accepted_small : (o : List ℕ) → Octets o → (n : ℕ) → verdict_of R o ≡ Ok n →
      (length o ≤ 258) × (text_size R o ≤ 253)
  accepted_small o q n e =
      let a = ((accepted_iff (judges_calls R S o q) n).0 e).1 in
      ((accepted_size R o a).1, omega (arith, size_of a.0 o a.1 a.2, area_enough R a.0 a.1))

  pub fits_small : (o : List ℕ) → Octets o → (room : ℕ) → (Ok tt) ≡ fitting_of (pack_of R o room) → text_size R o ≤ 253
  fits_small o q room e = let w = fits_whole R o room e in (accepted_small o q w.octets w.accepted).1

  module _ (o old : List ℕ) (q : Octets o) where
    abbrev v : Result ℕ Fault
    v = verdict_of R o

    abbrev room : ℕ
    room = length old

    j : Judges (calls R) o v
    j = judges_calls R S o q

    accepted : (m : Message) → LegalMessage R m → octets m ≡ o → v ≡ Ok (length o)
    accepted m l e = (accepted_iff j (length o)).1 (refl, (m, l, e))

    declined : (f : Fault) → (f.number ≡ 9 → ⊥) → (pack_of R o room ≡ Err f) ↔ (v ≡ Err f)
    unfolding pack_of
    declined f l = declined_iff o room v f l

    short_message : (p : ℕ) →
        (pack_of R o room ≡ Err (noted 9 p)) ↔
        ((m : Message) × LegalMessage R m × (octets m ≡ o) × (p ≡ length (texts R m)) × (room < p))
    unfolding pack_of
    short_message p =
        let d = short_iff o room v p (λ f e. (told_small (spoken R S) _ (number_of_lem j f e)).2) in (
          λ e. let x = d.0 e in
              let a = ((accepted_iff j x.0).0 x.1).1 in
              (a.0, a.1, a.2, x.2 ∙ size_of a.0 o a.1 a.2, x.3),
          λ e. d.1 (length o, accepted e.0 e.1 e.2, e.3 ∙ sym (size_of e.0 o e.1 e.2), e.4),
        )

    module _ (m : Message) (l : LegalMessage R m) (e : octets m ≡ o) (h : length (texts R m) ≤ room) where
      packs : pack_of R o room ≡ Ok (length (texts R m))
      unfolding pack_of
      packs =
          whole_is o room v (length o) (accepted m l e) (omega (arith, size_of m o l e)) ∙ ap Ok (size_of m o l e)

      reads : read_of R o room ≡ (record {
        edition = R.edition;
        answer = Ok (length (texts R m));
        draft = draft_of R m;
      })
      unfolding read_of draft_from
      reads =
          let z : draft_from R o (pack_of R o room) ≡ draft_of R m =
          ap (draft_from R o) packs ∙ ap (draft_of R) (in_octets m o l e) in
          λ i. record { edition = R.edition; answer = packs i; draft = z i }

      area_is : area_after R o old ≡ laid (texts R m) old
      unfolding area_after area_from
      area_is =
          ap (area_from R o old) packs ∙ ap (λ (ps : List Parameter). laid (texts_of R ps) old) (parameters_in_lem m o l e)

      stands : message_of (draft_of R m) (laid (texts R m) old) ≡ m
      unfolding laid
      stands = draft_stands R m (drop (length (texts R m)) old) l

    refused_all : (f : Fault) → pack_of R o room ≡ Err f →
        (area_after R o old ≡ old) × ((read_of R o room).draft ≡ empty_of R.edition 0)
    unfolding area_after area_from read_of draft_from
    refused_all f e = (ap (area_from R o old) e, ap (draft_from R o) e)

    numbers_of_lem : (w : Result ℕ Fault) (f : Fault) →
        ((g : Fault) → w ≡ Err g → T (verdict_number (calls R) g.number)) → pack_from R o room w ≡ Err f →
        T (read_number R f.number)
    unfolding pack_from read_number
    numbers_of_lem (Ok n) f b e =
        picked_by _ _ _ _ _ e (λ _ d. clash cc) (λ _ d. right _ _ (of_eq _ _ (sym (number_is _ _ d))))
    numbers_of_lem (Err g) f b e =
        left _ _ (subst (λ (k : ℕ). T (verdict_number (calls R) k)) (number_is _ _ e) (b g refl))

    refused-number : (f : Fault) → pack_of R o room ≡ Err f → T (read_number R f.number)
    unfolding pack_of
    refused-number f e = numbers_of_lem v f (number_of_lem j) e

    -- numbers, places, parameters and sizes are small: a word has room for them
    near_of : (w : Result ℕ Fault) → ((g : Fault) → w ≡ Err g →
        (g.number ≤ 10) × (g.place ≤ 258) × (g.parameter ≤ 85)) →
        ((n : ℕ) → w ≡ Ok n → length o ≤ 258) → Near (pack_from R o room w)
    unfolding pack_from told
    near_of (Ok n) b l =
        let z = size_within R o in
        let k = l n refl in
        pick_case Near (text_size R o ≤? room) _ _
        (λ _. record { number = omega arith; place = omega arith; parameter = omega arith; size = omega arith })
        (λ _. record { number = omega arith; place = omega arith; parameter = omega arith; size = omega arith })
    near_of (Err g) b l =
        let x = b g refl in
        record { number = omega (arith, x.0); place = x.1; parameter = x.2; size = omega arith }

    pub near : Near (pack_of R o room)
    unfolding pack_of
    near =
        near_of v (λ g e. ((told_small (spoken R S) _ (number_of_lem j g e)).1, near_declined j g e, few_declined j g e))
        (λ n e. (accepted_size R o ((accepted_iff j n).0 e).1).1)

    -- 7, 8 and 9 are in no parameter
    none_of : (w : Result ℕ Fault) → ((g : Fault) → w ≡ Err g → T (within (7, 9) g.number) → g.parameter ≡ 0) →
        T (within (7, 9) (told (pack_from R o room w)).number) → (told (pack_from R o room w)).parameter ≡ 0
    unfolding pack_from told
    none_of (Ok n) b t =
        pick_case (λ (p : Result ℕ Fault). (told p).parameter ≡ 0) (text_size R o ≤? room) _ _ (λ _. refl) (λ _. refl)
    none_of (Err g) b t = b g refl t

    none : T (within (7, 9) (told (pack_of R o room)).number) → (told (pack_of R o room)).parameter ≡ 0
    unfolding pack_of
    none = none_of v by
      where
        by : (g : Fault) → v ≡ Err g → T (within (7, 9) g.number) → g.parameter ≡ 0
        by g e t =
            let k = (told_small (spoken R S) _ (number_of_lem j g e)).2 in
            no_parameter_of j g e (low _ _ _ t) (below _ k (high _ _ _ t))

    only_message : (n : ℕ) → pack_of R o room ≡ Ok n → Accepts R o
    unfolding fitting_of
    only_message n e =
        let w = fits_whole R o room (ap fitting_of (sym e)) in
        ((accepted_iff j w.octets).0 w.accepted).1

    clear_of : (p : Result ℕ Fault) → ((f : Fault) → p ≡ Err f → 1 ≤ f.number) → Clear p
    clear_of (Ok n) b = tt
    clear_of (Err f) b = b f refl

    clear : Clear (pack_of R o room)
    unfolding read_number
    clear = clear_of (pack_of R o room) (λ f e. some f (either _ _ (refused-number f e)))
      where
        some : (f : Fault) → T (verdict_number (calls R) f.number) ⊎ T (f.number =? 9) → 1 ≤ f.number
        some f (inl t) = (told_small (spoken R S) _ t).0
        some f (inr t) = omega (arith, eq_of _ _ t)

    -- the same of what is told
    told_only : (p : Result ℕ Fault) → pack_of R o room ≡ p → (told p).number ≡ 0 → Accepts R o
    unfolding told
    told_only (Ok n) e z = only_message n e
    told_only (Err f) e z = absurd (omega (arith, z, subst Clear e clear))

    told_all : (p : Result ℕ Fault) → pack_of R o room ≡ p → 1 ≤ (told p).number →
        (area_after R o old ≡ old) × ((read_of R o room).draft ≡ empty_of R.edition 0) × T (read_number R (told p).number)
    unfolding told
    told_all (Ok n) e l = absurd (omega arith)
    told_all (Err f) e l = ((refused_all f e).0, (refused_all f e).1, refused-number f e)

    pub reads_of : Reads R o old (read_of R o room) (area_after R o old)
    unfolding read_of
    reads_of = record {
      clear = clear;
      names = refl;
      spoilt =
          λ k p b l. Iff.trans (told-refused _ k p b ((spoken R S).numbers k l).0)
          (Iff.trans (declined (noted_in k p b) (given_apart (spoken R S) _ l).2)
          (spoilt_iff j (noted_in k p b) ((spoken R S).numbers k l).0 l));
      early =
          λ p. Iff.trans (told-refused _ 8 p 0 (omega arith))
          (Iff.trans (declined (noted 8 p) (λ x. omega arith)) (early_iff j p));
      followed =
          λ p. Iff.trans (told-refused _ 7 p 0 (omega arith))
          (Iff.trans (declined (noted 7 p) (λ x. omega arith)) (followed_iff j p));
      short = λ p. Iff.trans (told-refused _ 9 p 0 (omega arith)) (short_message p);
      no_parameter = none;
      drafted =
          λ m l e h. (
            (told-texts _ _ clear).1 (packs m l e h),
            ap (λ (x : Reading). x.draft) (reads m l e h),
            area_is m l e h,
            (λ i. message_of (reads m l e h i).draft (area_is m l e h i))
                ∙ stands m l e h,
          );
      only = told_only _ refl;
      refused = told_all _ refl;
    }
