-- What the loop over the entries needs: those before i are legal and take the octets counted, so those from i on
-- decide.
-- Assumes nothing.
use Rattle.std.proofs.Common.{◌≡◌, ℕ, ◌+◌, ◌<◌, ◌≤◌, List, ◌∷◌, length, get_or, drop, sym, ap, ◌∙◌, add-one, arith, drop_of_length-le, drop-cons, Option, Some, None, Ok, Err, T, ◌⊎◌, inl, inr}
use Rattle.rules.specs.Tests.{pick}
use Rattle.rules.proofs.Tests.{decide, both, pick_yes, pick_not}
use Rattle.rules.proofs.Telling.{pick_tells}
use Rattle.rules.specs.Refusals.{noted}
use Rattle.rules.specs.declared.Fault.{Fault}
use Rattle.contents.proofs.Fitting.{fits_short}
use Rattle.std.specs.Option.{ok_or}
use Rattle.rules.specs.Table.{Rules, class_of}
use Rattle.draft.specs.declared.Entry.{Entry}
use Rattle.writer.specs.Writing.{contents_of, legal_entry, unwritten}
use Rattle.writer.specs.Judging.{takes_of, measure_from}

abbrev pub Measured : Rules → List ℕ → List Entry → ℕ → ℕ → Type 0
Measured R texts es size i = measure_from R texts i size (drop i es) ≡ measure_from R texts 0 0 es

took_few : (R : Rules) (texts : List ℕ) (e : Entry) (n : ℕ) → Some n ≡ takes_of R texts e → n ≤ 253
unfolding takes_of legal_entry
took_few R texts e n q = go (decide (legal_entry R texts e))
  where
    go : T (legal_entry R texts e) ⊎ (T (legal_entry R texts e) → ⊥) → n ≤ 253
    go (inl t) =
        let s : Some n ≡ Some (length (contents_of texts e)) = q ∙ pick_yes _ _ _ t in
        let l : n ≡ length (contents_of texts e) = cc in
        rw l (fits_short (class_of R e.kind) (contents_of texts e) (both _ _ (both _ _ (both _ _ t).1).1).1)
    go (inr f) = let s : Some n ≡ None = q ∙ pick_not _ _ _ f in cc

module _ (R : Rules) (texts : List ℕ) (es : List Entry) (size i : ℕ) (inv : Measured R texts es size i) where
  pub all_measured : length es ≤ i → Ok size ≡ measure_from R texts 0 0 es
  unfolding measure_from
  all_measured h = sym (ap (measure_from R texts i size) (drop_of_length-le es {i = i} h)) ∙ inv

  module _ (z : Entry) (h : i < length es) where
    here : measure_from R texts i size (drop i es) ≡
        pick (legal_entry R texts (get_or es i z))
        (measure_from R texts (i + 1) (size + (2 + length (contents_of texts (get_or es i z)))) (drop (i + 1) es))
        (unwritten 12 i)
    unfolding measure_from
    here =
        ap (measure_from R texts i size)
        (drop-cons es i z h ∙ ap (λ (k : ℕ). get_or es i z ∷ drop k es) (sym (add-one i)))

    pub entry_bad : None ≡ takes_of R texts (get_or es i z) → unwritten 12 i ≡ measure_from R texts 0 0 es
    unfolding takes_of
    entry_bad q = grind (arith, pick_tells, here, inv, q)

    pub entry_good : (r : ℕ) → Some r ≡ takes_of R texts (get_or es i z) → Measured R texts es (size + (2 + r)) (i + 1)
    unfolding takes_of
    entry_good r q = grind (arith, pick_tells, here, inv, q)

    -- of what an entry took, or 12
    pub went_bad : (x : Option ℕ) (f g : Fault) → x ≡ takes_of R texts (get_or es i z) → f ≡ noted 12 i →
        ok_or x f ≡ Err g → Err g ≡ measure_from R texts 0 0 es
    went_bad (Some n) f g q e o = cc
    went_bad None f g q e o = sym o ∙ ap Err e ∙ entry_bad q

    pub went_on : (x : Option ℕ) (f : Fault) (n : ℕ) → x ≡ takes_of R texts (get_or es i z) → ok_or x f ≡ Ok n →
        (n ≤ 253) × Measured R texts es (size + (2 + n)) (i + 1)
    went_on None f n q o = cc
    went_on (Some m) f n q o =
        let s : Some n ≡ takes_of R texts (get_or es i z) = cc in (took_few R texts (get_or es i z) n s, entry_good n s)
