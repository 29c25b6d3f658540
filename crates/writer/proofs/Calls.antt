-- What a caller makes of what a callee found: of a part of the text area, of how the entries went.
-- Assumes nothing.
use Rattle.std.proofs.Common.{◌≡◌, ℕ, ◌+◌, ◌-◌, ◌<◌, ◌≤◌, List, ◌++◌, length, take, drop, sym, ap, ◌∙◌, arith, length-take-le, length-append, length-drop, Result, Ok, Bool, T, ◌⊎◌, inl, inr, Some, None}
use Rattle.rules.specs.Message.{most}
use Rattle.rules.specs.Tests.{◌≤?◌, ◌=?◌, ◌and◌, pick}
use Rattle.rules.proofs.Tests.{decide, both, le_of, pick_not}
use Rattle.rules.specs.Table.{Rules, class_of, form_of, form_number, contents_fit}
use Rattle.rules.specs.declared.Class.{Class}
use Rattle.draft.specs.Draft.{used}
use Rattle.draft.specs.Same.{flat_of}
use Rattle.draft.specs.declared.Flat.{Flat}
use Rattle.draft.specs.declared.Entry.{Entry}
use Rattle.draft.specs.declared.Draft.{Draft}
use Rattle.writer.specs.Writing.{contents_of, legal_entry, measured_of, write_of}
use Rattle.writer.proofs.Legal.{all_inside_lem, written, all_made}
use Rattle.writer.specs.Laying.{Layable}
use Rattle.writer.specs.Judging.{head_of, takes_of, measure_from}
use Rattle.writer.proofs.Judging.{contents_are, legal_flat, on_measure, measured_is}
use Rattle.rules.specs.declared.Fault.{Fault}

pub used_count : (d : Draft) → length d.entries ≡ most → d.count ≤ most → length (used d) ≡ d.count
used_count d l h = length-take-le d.count d.entries (omega arith)

pub entries_went : (R : Rules) (d : Draft) (texts : List ℕ) (room : ℕ) → length d.entries ≡ most → d.count ≤ most →
    (m : Result ℕ Fault) → m ≡ measure_from R texts 0 0 (used d) → on_measure m room ≡ measured_of R d texts room
entries_went R d texts room l h m e =
    ap (λ (m : Result ℕ Fault). on_measure m room) e ∙ measured_is R d texts room (used_count d l h)

-- ---- an entry, by the class of its type and its value laid flat
module _ (R : Rules) (texts : List ℕ) (e : Entry) (o : e.kind < 256) (c : Class) (f : Flat) (j k : ℕ)
    (p : c ≡ class_of R e.kind) (q : f ≡ flat_of e.value) (r : j ≡ form_number f.form) (s : k ≡ form_number (form_of c))
    (v : List ℕ) (w : v ≡ head_of e.value) where
  pub entry_is : legal_entry R texts e ≡
      (j =? k and (f.start + f.length ≤? length texts
      and contents_fit c (v ++ take f.length (drop f.start texts))))
  entry_is = legal_flat R texts e o ∙ cc

  pub entry_takes : (text : List ℕ) → text ≡ take f.length (drop f.start texts) → takes_of R texts e ≡
      pick (j =? k and (f.start + f.length ≤? length texts and contents_fit c (v ++ text)))
      (Some (length v + f.length)) None
  unfolding takes_of
  entry_takes text g =
      ap (λ (b : Bool). pick b (Some (length (contents_of texts e))) None)
      (entry_is ∙ ap (λ (t : List ℕ). j =? k
      and (f.start + f.length ≤? length texts and contents_fit c (v ++ t))) (sym g))
      ∙ go (decide _)
    where
      tests : Bool
      tests = j =? k
          and (f.start + f.length ≤? length texts and contents_fit c (v ++ text))

      go : T tests ⊎ (T tests → ⊥) →
          pick tests (Some (length (contents_of texts e))) None ≡ pick tests (Some (length v + f.length)) None
      go (inl t) =
          let h : f.start + f.length ≤ length texts = le_of _ _ (both _ _ (both _ _ t).1).0 in
          let a : v ++ take f.length (drop f.start texts) ≡ contents_of texts e =
          (λ i. w i ++ take (q i).length (drop (q i).start texts)) ∙ contents_are texts e.value in
          let n : length (contents_of texts e) ≡ length v + f.length =
          omega (
            arith,
            ap length a,
            length-append v (take f.length (drop f.start texts)),
            length-take-le f.length (drop f.start texts) (omega (arith, length-drop f.start texts)),
          ) in
          ap (λ (n : ℕ). pick tests (Some n) None) n
      go (inr n) = pick_not _ _ _ n ∙ sym (pick_not _ _ _ n)

-- ---- an answer that is a message: what is asked before it is laid down
pub layable : (R : Rules) (d : Draft) (texts : List ℕ) (room n : ℕ) (w : Result ℕ Fault) → w ≡ write_of R d texts room →
    w ≡ Ok n → Layable d texts room (n - 3) × ((3 ≤ n) × (n ≤ 258))
layable R d texts room n w e q =
    let r = written R d texts room n (sym e ∙ q) in
    let f = r.0 in
    let g = r.1 in (
      record {
        few = f.few;
        lie = all_inside_lem R texts (used d) (all_made R d texts room f);
        size = omega arith;
        short = omega (arith, f.short);
        fits = omega (arith, f.fits);
      },
      (omega arith, omega (arith, f.short)),
    )
