-- Entries judged by the octets that would be written for them are judged by the writer's rule.
-- Assumes nothing.
use Rattle.std.proofs.Common.{◌≡◌, ℕ, zero, suc, ◌+◌, ◌<◌, ◌≤◌, Bool, true, false, T, ◌⊎◌, List, [], ◌∷◌, ◌++◌, length, take, drop, sym, refl, ap, ◌∙◌, subst, inl, inr, arith, length-append, Result, Ok, Err, replicate}
use lib.Seq.{take-append_seam}
use Rattle.rules.specs.Tests.{◌≤?◌, ◌=?◌, ◌and◌, pick}
use Rattle.rules.proofs.Tests.{decide, both, le_of, of_le, pick_yes, pick_not}
use Rattle.rules.proofs.ContentLaw.{lawful}
use Rattle.rules.specs.Table.{Rules, class_of, form_of, form_number, contents_fit}
use Rattle.rules.specs.Laying.{laid}
use Rattle.rules.specs.Message.{body}
use Rattle.draft.specs.Meaning.{kind_of, form_is, seconds_said, spelled}
use Rattle.draft.specs.Draft.{meaning_of, parameter_of, parameters_of, used}
use Rattle.draft.specs.Same.{flat_of}
use Rattle.draft.proofs.Alike.{inside_flat}
use Rattle.draft.specs.declared.Value.{Value}
use Rattle.draft.specs.declared.Value.TheVariants.{Date, Code, State, Text, Carried, Moment, Duration, Marked}
use Rattle.draft.specs.declared.Entry.{Entry}
use Rattle.draft.specs.declared.Draft.{Draft}
use Rattle.writer.specs.Writing.{unwritten, contents_of, legal_entry, legal_before, sized, measured_of}
use Rattle.writer.proofs.Legal.{at_most}
use Rattle.writer.specs.declared.Spelling.{Spelling}
use Rattle.writer.specs.Judging.{digits_of, padded, head_of, measure_from}
use Rattle.rules.specs.declared.Fault.{Fault}

-- ---- a value's contents, by its flat form
pub form_flat : (texts : List ℕ) (v : Value) → form_number (form_is (meaning_of texts v)) ≡ form_number (flat_of v).form
unfolding form_number form_is meaning_of flat_of
form_flat texts (Date m d h n) = refl
form_flat texts (Code x) = refl
form_flat texts (State s r) = refl
form_flat texts (Text s n) = refl
form_flat texts (Carried s n) = refl
form_flat texts (Moment m d h n s) = refl
form_flat texts (Duration h m s) = refl
form_flat texts (Marked x s n) = refl

-- what a value has before its text is ten octets at most
pub head_few : (v : Value) → length (head_of v) ≤ 10
unfolding head_of digits_of
head_few (Date m d h n) = omega arith
head_few (Code x) = omega arith
head_few (State s r) = omega arith
head_few (Text s n) = omega arith
head_few (Carried s n) = omega arith
head_few (Moment m d h n zero) = omega arith
head_few (Moment m d h n (suc s)) = omega arith
head_few (Duration h m s) = omega arith
head_few (Marked x s n) = omega arith

-- octets at the beginning of ten are all there
module _ (s : Spelling) (v : List ℕ) (e : s ≡ padded v) where
  pub padded_take : take s.length s.octets ≡ v
  unfolding padded laid
  padded_take = ap (λ (s : Spelling). take s.length s.octets) e ∙ take-append_seam v (drop (length v) (replicate 10 0))

  pub padded_long : s.length ≡ length v
  unfolding padded
  padded_long = ap (λ (s : Spelling). s.length) e

  pub padded_room : s.length ≤ length s.octets
  unfolding padded laid
  padded_room = rw e (omega (arith, length-append v (drop (length v) (replicate 10 0))))

-- they are the octets spelled, and the text behind them
pub contents_are : (texts : List ℕ) (v : Value) →
    head_of v ++ take (flat_of v).length (drop (flat_of v).start texts) ≡ spelled (meaning_of texts v)
unfolding head_of digits_of spelled seconds_said meaning_of flat_of
contents_are texts (Date m d h n) = refl
contents_are texts (Code x) = refl
contents_are texts (State s r) = refl
contents_are texts (Text s n) = refl
contents_are texts (Carried s n) = refl
contents_are texts (Moment m d h n zero) = refl
contents_are texts (Moment m d h n (suc s)) = refl
contents_are texts (Duration h m s) = refl
contents_are texts (Marked x s n) = refl

-- a test that passes leaves the other
and_true : (a b : Bool) → T a → (a and b) ≡ b
unfolding ◌and◌
and_true true b t = refl
and_true false b t = absurd t

module _ (R : Rules) where
  -- ---- an entry
  module _ (texts : List ℕ) (e : Entry) (o : e.kind < 256) where
    -- it makes a legal parameter where its kind of value is its type's, its text lies inside, and the octets spelled
    -- with the text behind them fit
    pub legal_flat : legal_entry R texts e ≡
        (form_number (flat_of e.value).form =? form_number (form_of (class_of R e.kind))
        and ((flat_of e.value).start + (flat_of e.value).length ≤? length texts
        and contents_fit (class_of R e.kind)
        (head_of e.value ++ take (flat_of e.value).length (drop (flat_of e.value).start texts))))
    unfolding legal_entry kind_of
    legal_flat =
        and_true _ _ (of_le _ _ (omega arith))
        ∙ (λ i. form_flat texts e.value i =? form_number (form_of (class_of R e.kind))
        and (inside_flat texts e.value i and contents_fit (class_of R e.kind) (sym (contents_are texts e.value) i)))

  -- ---- legal entries have contents
  pub legal_some : (texts : List ℕ) (e : Entry) → T (legal_entry R texts e) → 1 ≤ length (contents_of texts e)
  unfolding legal_entry
  legal_some texts e t =
      (lawful (class_of R e.kind)).least _
      ((lawful (class_of R e.kind)).fit_length _ (both _ _ (both _ _ (both _ _ t).1).1).1)

  -- ---- all entries
  module _ (texts : List ℕ) where
    measure_bad : (es : List Entry) (i size : ℕ) → legal_before R texts es < length es →
        measure_from R texts i size es ≡ unwritten 12 (i + legal_before R texts es)
    unfolding measure_from legal_before
    measure_bad [] i size l = absurd (omega arith)
    measure_bad (e ∷ es) i size l =
        go (measure_bad es (i + 1) (size + (2 + length (contents_of texts e)))) (decide (legal_entry R texts e))
      where
        n : ℕ
        n = legal_before R texts es

        go : (n < length es →
            measure_from R texts (i + 1) (size + (2 + length (contents_of texts e))) es ≡ unwritten 12 (i + 1 + n)) →
            T (legal_entry R texts e) ⊎ (T (legal_entry R texts e) → ⊥) →
            pick (legal_entry R texts e) (measure_from R texts (i + 1) (size + (2 + length (contents_of texts e))) es)
            (unwritten 12 i) ≡ unwritten 12 (i + pick (legal_entry R texts e) (suc n) 0)
        go f (inl t) =
            let k = pick_yes (legal_entry R texts e) (suc n) 0 t in
            let j : i + 1 + n ≡ i + suc n = omega arith in
            pick_yes _ _ _ t ∙ f (omega (arith, k)) ∙ ap (unwritten 12) j ∙ ap (λ (x : ℕ). unwritten 12 (i + x)) (sym k)
        go f (inr x) =
            let j : i ≡ i + 0 = omega arith in
            pick_not _ _ _ x ∙ ap (unwritten 12) j ∙ ap (λ (x : ℕ). unwritten 12 (i + x))
            (sym (pick_not (legal_entry R texts e) (suc n) 0 x))

    measure_all : (es : List Entry) (i size : ℕ) → length es ≤ legal_before R texts es →
        measure_from R texts i size es ≡ Ok (size + length (body (parameters_of texts es)))
    unfolding measure_from legal_before parameters_of parameter_of body
    measure_all [] i size l = let j : size ≡ size + 0 = omega arith in ap Ok j
    measure_all (e ∷ es) i size l =
        go (measure_all es (i + 1) (size + (2 + length (contents_of texts e)))) (decide (legal_entry R texts e))
      where
        n : ℕ
        n = legal_before R texts es

        b : ℕ
        b = length (body (parameters_of texts es))

        go : (length es ≤ n →
            measure_from R texts (i + 1) (size + (2 + length (contents_of texts e))) es ≡
            Ok (size + (2 + length (contents_of texts e)) + b)) →
            T (legal_entry R texts e) ⊎ (T (legal_entry R texts e) → ⊥) →
            pick (legal_entry R texts e) (measure_from R texts (i + 1) (size + (2 + length (contents_of texts e))) es)
            (unwritten 12 i) ≡ Ok (size + length (body (parameters_of texts (e ∷ es))))
        go f (inl t) =
            let k = pick_yes (legal_entry R texts e) (suc n) 0 t in
            let j : size + (2 + length (contents_of texts e)) + b ≡ size + length
            (body (parameters_of texts (e ∷ es))) = omega (
              arith,
              length-append (contents_of texts e)
                  (body (parameters_of texts es)),
            ) in
            pick_yes _ _ _ t ∙ f (omega (arith, k)) ∙ ap Ok j
        go f (inr x) = let k = pick_not (legal_entry R texts e) (suc n) 0 x in absurd (omega (arith, k))

-- what the writer makes of how the entries went
unfoldable pub on_measure : Result ℕ Fault → ℕ → Result ℕ Fault
on_measure (Err f) room = Err f
on_measure (Ok l) room = sized 13 l room

module _ (R : Rules) (d : Draft) (texts : List ℕ) (room : ℕ) (e : length (used d) ≡ d.count) where
  went : T (suc (legal_before R texts (used d)) ≤? d.count)
      ⊎ (T (suc (legal_before R texts (used d)) ≤? d.count) → ⊥) →
      on_measure (measure_from R texts 0 0 (used d)) room ≡ measured_of R d texts room
  unfolding on_measure measured_of
  went (inl t) =
      let z : 0 + legal_before R texts (used d) ≡ legal_before R texts (used d) = omega arith in
      ap (λ (m : Result ℕ Fault). on_measure m room)
      (measure_bad R texts (used d) 0 0 (omega (arith, le_of _ _ t)) ∙ ap (unwritten 12) z) ∙ sym (pick_yes _ _ _ t)
  went (inr f) =
      let z : 0 + length (body (parameters_of texts (used d))) ≡ length (body (parameters_of texts (used d))) =
      omega arith in
      ap (λ (m : Result ℕ Fault). on_measure m room)
      (measure_all R texts (used d) 0 0
      (subst (λ (k : ℕ). k ≤ legal_before R texts (used d)) (sym e) (at_most _ _ f)) ∙ ap Ok z)
      ∙ sym (pick_not _ _ _ f)

  pub measured_is : on_measure (measure_from R texts 0 0 (used d)) room ≡ measured_of R d texts room
  measured_is = went (decide (suc (legal_before R texts (used d)) ≤? d.count))
