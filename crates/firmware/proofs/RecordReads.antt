-- A read through the exports is the read, its answer packed into a word that is read back.
-- Assumes nothing.
use Rattle.std.proofs.Common.{Result, Ok, Err}
use Prim.Native.Nat.{ℕ, ◌≤◌}
use mathlib.Core.Path.{◌≡◌, refl, sym, ◌∙◌, ap, subst}
use mathlib.Core.Logic.{◌⊎◌, inl, inr}
use mathlib.Core.List.{List}
use native.Mathlib.Omega.{arith}
use lib.ListN.{length, get_or}
use lib.Dec.{T}
use Rattle.rules.specs.Tests.{◌≤?◌, ◌=?◌}
use Rattle.rules.proofs.Tests.{pick_yes, pick_not, of_eq, eq_of, le_of, not_le, decide, clash}
use Rattle.rules.specs.Octets.{Octets}
use Rattle.rules.specs.Table.{Rules}
use Rattle.rules.specs.Editions.{known, book_of}
use Rattle.rules.proofs.Editions.{book_edition}
use Rattle.rules.proofs.ContentLaw.{SoundRules, sound_rules}
use Rattle.rules.specs.Message.{Message, Accepts}
use Rattle.rules.specs.declared.Fault.{Fault}
use Rattle.draft.specs.declared.Draft.{Draft}
use Rattle.draft.specs.Draft.{no_entry}
use Rattle.draft.specs.Packing.{draft_of}
use Rattle.reader.specs.declared.Reading.{Reading}
use Rattle.reader.specs.Read.{pack_of, read_of, draft_from, area_after}
use Rattle.reader.specs.Told.{told}
use Rattle.reader.specs.Reads.{Reads, texts}
use Rattle.reader.proofs.Answered.{reads_of, near, area_enough}
use Rattle.reader.proofs.Told.{short_iff, drafted_as, texts_accepted, some_number}
use Rattle.firmware.specs.Word.{Unpacked, unpacked, Sixteen, sixteen, Seventeen, seventeen}
use Rattle.firmware.specs.DraftRecord.{draft_record, entry_in}
use Rattle.firmware.proofs.DraftRecord.{entry_back, draft_inside}
use Rattle.firmware.specs.Exports.{bad_record, no_book, rules_by, packed_word, record_from, read_answer, read_record, read_texts}
use Rattle.firmware.proofs.RecordHears.{known_small}
use Rattle.firmware.specs.RecordReads.{RecordReads}
use Rattle.firmware.specs.Sizes.{draft_size}

module _ (v y : ℕ) (o c t : List ℕ) (w : ℕ) (c' t' : List ℕ) (a : w ≡ read_answer v y o c t)
    (b : c' ≡ read_record v y o c t) (d : t' ≡ read_texts v y o c t) where
  pub unread : (length c ≡ draft_size → ⊥) → Seventeen c w c' × (t' ≡ t)
  unfolding read_answer read_record read_texts
  unread n =
      let f : T (length c =? draft_size) → ⊥ = λ x. n (eq_of _ _ x) in (
        seventeen c w c' (a ∙ pick_not (length c =? draft_size) _ bad_record f)
            (b ∙ pick_not (length c =? draft_size) _ c f),
        d ∙ pick_not (length c =? draft_size) _ t f,
      )

  pub no_book_lem : length c ≡ draft_size → (T (known v y) → ⊥) → Sixteen c w c' × (t' ≡ t)
  unfolding read_answer read_record read_texts
  no_book_lem n k =
      let f = of_eq (length c) draft_size n in (
        sixteen c w c' (a ∙ pick_yes (length c =? draft_size) _ bad_record f ∙ pick_not (known v y) _ no_book k)
            (b ∙ pick_yes (length c =? draft_size) _ c f ∙ pick_not (known v y) _ c k),
        d ∙ pick_yes (length c =? draft_size) _ t f ∙ pick_not (known v y) _ t k,
      )

  module _ (q : Octets o) (n : length c ≡ draft_size) (is : T (known v y)) where
    abbrev R : Rules
    R = rules_by v y

    S : SoundRules R
    S = sound_rules (book_of v y)

    abbrev p : Result ℕ Fault
    p = pack_of R o (length t)

    word_is : Unpacked v (told p).number (told p).place (told p).parameter (told p).size 0 w
    unfolding read_answer packed_word
    word_is =
        let k = near R S o t q in
        subst (Unpacked v (told p).number (told p).place (told p).parameter (told p).size 0)
        (sym (a ∙ pick_yes (length c =? draft_size) _ bad_record (of_eq _ _ n) ∙ pick_yes (known v y) _ no_book is))
        (unpacked v (told p).number (told p).place (told p).parameter (told p).size 0 (known_small v y is)
        (omega (arith, k.number))
        (omega (arith, k.place)) (omega (arith, k.parameter)) (omega (arith, k.size)) (omega arith))

    cells_are : c' ≡ record_from R o c p
    unfolding read_record
    cells_are = b ∙ pick_yes (length c =? draft_size) _ c (of_eq _ _ n) ∙ pick_yes (known v y) _ c is

    texts_are : t' ≡ area_after R o t
    unfolding read_texts
    texts_are = d ∙ pick_yes (length c =? draft_size) _ t (of_eq _ _ n) ∙ pick_yes (known v y) _ t is

    abbrev r : Reading
    r = read_of R o (length t)

    reads_is : Reads R o t r t'
    reads_is =
        subst (Reads R o t r) (sym texts_are)
        (reads_of R S o t q)

    texts-answer : (x : Result ℕ Fault) → r.answer ≡ x → (told x).number ≡ 0 → (k : ℕ) × (r.answer ≡ Ok k)
    unfolding told
    texts-answer (Ok k) e z = (k, e)
    texts-answer (Err f) e z = absurd (omega (arith, z, some_number reads_is f e))

    refused-answer : (x : Result ℕ Fault) → r.answer ≡ x → 1 ≤ (told x).number → (f : Fault) × (r.answer ≡ Err f)
    unfolding told
    refused-answer (Ok k) e l = absurd (omega arith)
    refused-answer (Err f) e l = (f, e)

    record_of_lem : (k : ℕ) → r.answer ≡ Ok k → c' ≡ draft_record r.draft
    unfolding read_of draft_from record_from
    record_of_lem k e = cells_are ∙ ap (record_from R o c) e
        ∙ sym (ap (λ (x : Result ℕ Fault). draft_record (draft_from R o x)) e)

    of_edition : (m : Message) → (draft_of R m).edition ≡ v
    unfolding draft_of
    of_edition m = book_edition v y is

    -- an accepted message that was read had room for its texts, which are 253 octets at most
    back : (k : ℕ) → r.answer ≡ Ok k →
        (get_or c' 0 0 ≡ r.draft.kind) × (get_or c' 1 0 ≡ r.draft.count) × (get_or c' 2 0 ≡ v)
        × ((i : ℕ) → entry_in c' i ≡ get_or r.draft.entries i no_entry)
    unfolding draft_record
    back k e =
        go (texts_accepted reads_is k e)
        (decide (length (texts R (texts_accepted reads_is k e).0) ≤? length t))
      where
        of_draft : (x : Draft) → r.draft ≡ x → x.edition ≡ v →
            ((i : ℕ) → entry_in (draft_record x) i ≡ get_or x.entries i no_entry) →
            (get_or c' 0 0 ≡ r.draft.kind) × (get_or c' 1 0 ≡ r.draft.count) × (get_or c' 2 0 ≡ v)
            × ((i : ℕ) → entry_in c' i ≡ get_or r.draft.entries i no_entry)
        of_draft x z u f =
            let g = record_of_lem k e ∙ ap draft_record z in (
              ap (λ (l : List ℕ). get_or l 0 0) g
                  ∙ sym (ap (λ (y : Draft). y.kind) z),
              ap (λ (l : List ℕ). get_or l 1 0) g
                  ∙ sym (ap (λ (y : Draft). y.count) z),
              ap (λ (l : List ℕ). get_or l 2 0) g ∙ u,
              λ i. ap (λ (l : List ℕ). entry_in l i) g ∙ f i
                  ∙ sym (ap (λ (y : Draft). get_or y.entries i no_entry) z),
            )

        go : (w : Accepts R o) →
            T (length (texts R w.0) ≤? length t)
            ⊎ (T (length (texts R w.0) ≤? length t) → ⊥) →
            (get_or c' 0 0 ≡ r.draft.kind) × (get_or c' 1 0 ≡ r.draft.count) × (get_or c' 2 0 ≡ v)
            × ((i : ℕ) → entry_in c' i ≡ get_or r.draft.entries i no_entry)
        go (m, l, z) (inl h) =
            let x = drafted_as reads_is m l z (le_of _ _ h) in
            of_draft (draft_of R m) (ap (λ (y : Reading). y.draft) x.0) (of_edition m)
            (λ i. entry_back (draft_of R m) i (texts R m)
            (omega (arith, area_enough R m l)) (draft_inside R m i))
        go (m, l, z) (inr h) =
            let x = (short_iff reads_is (length (texts R m))).1 (m, l, z, refl, not_le _ _ h) in
            clash (cc (e, x))

    pub record_reads : RecordReads v y o c t w c' t'
    unfolding read_of draft_from record_from
    record_reads = record {
      reading = r;
      reads = reads_is;
      word = word_is;
      drafted = λ z. let e = texts-answer _ refl z in record_of_lem e.0 e.1;
      refused = λ l. cells_are ∙ ap (record_from R o c) (refused-answer _ refl l).1;
      read_back = λ z. let e = texts-answer _ refl z in back e.0 e.1;
    }
