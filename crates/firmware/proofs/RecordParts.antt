-- What counts and the caption through the exports are the verdict, the part that counts and the part found, their
-- answers packed into a word that is read back.
-- Assumes nothing.
use Rattle.std.proofs.Common.{ℕ, Result, Ok, Err, Option, Some, None}
use Prim.Native.Nat.{ℕ, ◌≤◌, ◌<◌, ◌^◌}
use mathlib.Core.Path.{◌≡◌, refl, sym, ◌∙◌, ap, subst}
use mathlib.Core.Logic.{◌⊎◌, inl, inr}
use mathlib.Core.List.{List}
use mathlib.Core.Option.{none}
use native.Mathlib.Omega.{arith}
use lib.ListN.{length}
use lib.Dec.{T}
use Rattle.rules.specs.Tests.{◌=?◌}
use Rattle.rules.proofs.Tests.{pick_yes, pick_not, of_eq, eq_of, decide, clash}
use Rattle.rules.specs.Octets.{Octets}
use Rattle.rules.specs.Table.{rules_of}
use Rattle.rules.specs.Editions.{known, book_of}
use Rattle.rules.specs.declared.Book.{Book}
use Rattle.rules.specs.declared.Fault.{Fault}
use Rattle.rules.specs.Message.{Message, octets, LegalMessage, Accepts}
use Rattle.rules.specs.Counting.{counted, Counts}
use Rattle.rules.proofs.Grammar.{spoken_of, accepted_size}
use Rattle.message.specs.Told as message
use Rattle.message.specs.declared.Part.{Part}
use Rattle.message.specs.Verdict.{verdict_of}
use Rattle.message.proofs.Judges.{judges_of, told_small, near_declined, few_declined}
use Rattle.message.proofs.Told.{accepted_iff, number_of_lem}
use Rattle.message.specs.Parts.{counted_at, part_of}
use Rattle.message.proofs.Searching.{counted_part}
use Rattle.message.specs.Places.{contents_at}
use Rattle.message.proofs.Places.{counted_at_lem, counted_inside}
use Rattle.caption.specs.declared.Shown.{Shown}
use Rattle.caption.specs.declared.Shown.TheVariants as found
use Rattle.caption.specs.Told.{Told, told, Clear, Finding}
use Rattle.caption.specs.Caption.{find_in, slice_of}
use Rattle.caption.specs.Finds.{Finds, FindsBy}
use Rattle.caption.proofs.Editions.{finds_by}
use Rattle.caption.proofs.Told.{declined_so}
use Rattle.firmware.specs.Word.{packed, Unpacked, unpacked, plain_word, Seventeen, seventeen}
use Rattle.firmware.specs.PartRecord.{part_record, part_side, part_start, part_length}
use Rattle.firmware.proofs.PartRecord.{part_back}
use Rattle.firmware.specs.Exports.{bad_record, part_word, counted_under, counted_answer, found_word, part_from, caption_answer, caption_record}
use Rattle.firmware.proofs.RecordHears.{known_small}
use Rattle.firmware.specs.RecordParts.{RecordCounts, RecordFinds}
use Rattle.firmware.specs.Sizes.{part_size}

-- number, place and parameter of a verdict fit their octets
refusal_word : (b : Book) (v : ℕ) → v < 2 → (o : List ℕ) → Octets o → (f : Fault) →
    verdict_of (rules_of b) o ≡ Err f →
    Unpacked v f.number f.place f.parameter 0 0 (packed v f.number f.place f.parameter 0 0)
refusal_word b v h o q f e =
    let j = judges_of b o q in
    unpacked v f.number f.place f.parameter 0 0 h
    (omega (arith, (told_small (spoken_of b) _ (number_of_lem j f e)).1))
    (omega (arith, near_declined j f e)) (omega (arith, few_declined j f e)) (omega arith) (omega arith)

-- an unknown edition or way is 16
pub no_book_lem : (e y : ℕ) (o : List ℕ) (t w : ℕ) → w ≡ counted_answer e y o t → (T (known e y) → ⊥) →
    Unpacked 0 16 0 0 0 0 w
unfolding counted_answer
no_book_lem e y o t w a n = plain_word 16 w (omega arith) (a ∙ pick_not _ _ _ n)

module _ (e y : ℕ) (k : T (known e y)) (o : List ℕ) (t w : ℕ) (a' : w ≡ counted_answer e y o t) (q : Octets o) where
  abbrev b : Book
  b = book_of e y

  abbrev v : Result ℕ Fault
  v = verdict_of (rules_of b) o

  a : w ≡ counted_under e y v o t
  unfolding counted_answer
  a = a' ∙ pick_yes _ _ _ k

  refused_is : (f : Fault) → v ≡ Err f → w ≡ packed e f.number f.place f.parameter 0 0
  unfolding counted_under
  refused_is f z = a ∙ ap (λ (x : Result ℕ Fault). counted_under e y x o t) z

  refused_word : (x : Result ℕ Fault) → v ≡ x → 1 ≤ (message.told x).number →
      Unpacked e (message.told x).number (message.told x).place (message.told x).parameter 0 0 w
  unfolding message.told
  refused_word (Ok n) z l = absurd (omega arith)
  refused_word (Err f) z l =
      subst (Unpacked e f.number f.place f.parameter 0 0) (sym (refused_is f z))
      (refusal_word b e (known_small e y k) o q f z)

  part_is : (m : Message) → LegalMessage (rules_of b) m → octets m ≡ o →
      w ≡ part_word e (counted_at (rules_of b) o t)
  unfolding counted_under
  part_is m l z =
      a ∙ ap (λ (x : Result ℕ Fault). counted_under e y x o t)
      ((accepted_iff (judges_of b o q) (length o)).1 (refl, (m, l, z)))

  counts_word : (m : Message) → LegalMessage (rules_of b) m → octets m ≡ o →
      (x : List ℕ) (c : Counts (rules_of b) m t x) → Unpacked e 0 0 0 (length x) (contents_at c.first) w
  unfolding part_word
  counts_word m l is x c =
      let p = ap (λ (z : List ℕ). counted_at (rules_of b) z t) (sym is)
      ∙ counted_at_lem (rules_of b) m t x c in
      let i = counted_inside o (rules_of b) t _ _ p in
      let n = (accepted_size (rules_of b) o (m, l, is)).1 in
      subst (Unpacked e 0 0 0 (length x) (contents_at c.first)) (sym (part_is m l is ∙ ap (part_word e) p))
      (unpacked e 0 0 0 (length x) (contents_at c.first) (known_small e y k) (omega arith) (omega arith) (omega arith)
      (omega (arith, i, n)) (omega (arith, i, n)))

  nowhere : (p : Option Part) → part_of o p ≡ none → part_word e p ≡ packed e 0 0 0 0 0
  unfolding part_of part_word
  nowhere (Some part) z = clash cc
  nowhere None z = refl

  none_word : (m : Message) → LegalMessage (rules_of b) m → octets m ≡ o →
      counted (rules_of b) m t ≡ none → Unpacked e 0 0 0 0 0 w
  none_word m l i n =
      let p = ap (λ (z : List ℕ). part_of z (counted_at (rules_of b) z t)) (sym i)
      ∙ counted_part (rules_of b) m t ∙ n in
      subst (Unpacked e 0 0 0 0 0) (sym (part_is m l i ∙ nowhere _ p))
      (unpacked e 0 0 0 0 0 (known_small e y k) (omega arith) (omega arith) (omega arith) (omega arith) (omega arith))

  pub record_counts : RecordCounts e y o t w
  record_counts = record {
    verdict = v;
    judged = judges_of b o q;
    refused = refused_word v refl;
    counts = counts_word;
    none_counts = none_word;
  }

module _ (e y : ℕ) (o d c : List ℕ) (w : ℕ) (c' : List ℕ) (a : w ≡ caption_answer e y o d c)
    (b : c' ≡ caption_record e y o d c) where
  -- another size than 24 is 17, and the record stays
  pub no_part : (length c ≡ part_size → ⊥) → Seventeen c w c'
  unfolding caption_answer caption_record
  no_part n =
      let f : T (length c =? part_size) → ⊥ = λ x. n (eq_of _ _ x) in
      seventeen c w c' (a ∙ pick_not _ _ _ f) (b ∙ pick_not _ _ _ f)

  module _ (q : Octets o) (n : length c ≡ part_size) where
    abbrev found_by : Finding
    found_by = find_in e y o d

    abbrev r : Result Shown Fault
    r = found_by.answer

    said : FindsBy e y o d found_by
    said = finds_by e y o d q

    -- by a book, number, place and parameter fit their octets
    found_small : (v : Book) (x : Result Shown Fault) → Finds (rules_of v) o d x → (y : Result Shown Fault) → x ≡ y →
        ((told y).number < 256) × ((told y).place ≤ 258) × ((told y).parameter ≤ 85)
    unfolding told
    found_small v x F (Ok (found.InMessage start k)) z = (omega arith, omega arith, omega arith)
    found_small v x F (Ok (found.InDirectory start k)) z = (omega arith, omega arith, omega arith)
    found_small v x F (Err f) z =
        let y = declined_so F f z in (
          omega (arith, (told_small (spoken_of v) _ (number_of_lem F.judged f y)).1),
          near_declined F.judged f y,
          few_declined F.judged f y,
        )

    small : ((told r).number < 256) × ((told r).place ≤ 258) × ((told r).parameter ≤ 85)
    small = go (decide (known e y))
      where
        go : T (known e y) ⊎ (T (known e y) → ⊥) →
            ((told r).number < 256) × ((told r).place ≤ 258) × ((told r).parameter ≤ 85)
        go (inl t) = found_small (book_of e y) r (said.by_book t) r refl
        go (inr n) =
            let z = (said.sixteen 0 0).1 (refl, refl, n) in (
              omega (arith, ap (λ (x : Told). x.number) z),
              omega (arith, ap (λ (x : Told). x.place) z),
              omega (arith, ap (λ (x : Told). x.parameter) z),
            )

    named_small : found_by.edition < 2
    named_small = go (decide ((told r).number =? 16)) (decide (known e y))
      where
        go : T ((told r).number =? 16) ⊎ (T ((told r).number =? 16) → ⊥) →
            T (known e y) ⊎ (T (known e y) → ⊥) → found_by.edition < 2
        go (inl x) t = omega (arith, said.names_none (eq_of _ _ x))
        go (inr x) (inl t) =
            omega (arith, said.names (λ z. x (of_eq _ _ z)), known_small e y t)
        go (inr x) (inr t) = absurd (x (of_eq _ _ (said.unknown t)))

    word_is : Unpacked found_by.edition (told r).number (told r).place (told r).parameter 0 0 w
    unfolding caption_answer found_word
    word_is =
        let k = small in
        subst (Unpacked found_by.edition (told r).number (told r).place (told r).parameter 0 0)
        (sym (a ∙ pick_yes (length c =? part_size) _ bad_record (of_eq _ _ n)))
        (unpacked found_by.edition (told r).number (told r).place (told r).parameter 0 0 named_small k.0
        (omega (arith, k.1)) (omega (arith, k.2)) (omega arith) (omega arith))

    cells_are : c' ≡ part_from c r
    unfolding caption_record
    cells_are = b ∙ pick_yes (length c =? part_size) _ c (of_eq _ _ n)

    kept : (x : Result Shown Fault) → 1 ≤ (told x).number → part_from c x ≡ c
    unfolding part_from told
    kept (Ok (found.InMessage start k)) l = absurd (omega arith)
    kept (Ok (found.InDirectory start k)) l = absurd (omega arith)
    kept (Err f) l = refl

    part_from_lem : (x : Result Shown Fault) → ((f : Fault) → x ≡ Err f → 1 ≤ f.number) → (told x).number ≡ 0 →
        part_from c x ≡ part_record (told x).side (told x).start (told x).size
    unfolding part_from told
    part_from_lem (Ok (found.InMessage start k)) h e = refl
    part_from_lem (Ok (found.InDirectory start k)) h e = refl
    part_from_lem (Err f) h e = absurd (omega (arith, h f refl))

    -- the slices are shorter than what eight octets say
    slices_small : length d < 256 ^ 8 → length o ≤ 258 → (x : Result Shown Fault) → length (slice_of x o d) < 256 ^ 8
    unfolding slice_of
    slices_small a b (Ok (found.InMessage start k)) = omega (arith, b)
    slices_small a b (Ok (found.InDirectory start k)) = a
    slices_small a b (Err f) = omega (arith, b)

    part_is_found : (told r).number ≡ 0 → c' ≡ part_record (told r).side (told r).start (told r).size
    part_is_found e = cells_are ∙ part_from_lem r (λ f z. subst Clear z said.clear) e

    accepted : (told r).number ≡ 0 → Accepts (rules_of (book_of e y)) o
    accepted z = go (decide (known e y))
      where
        go : T (known e y) ⊎ (T (known e y) → ⊥) → Accepts (rules_of (book_of e y)) o
        go (inl t) = (said.by_book t).done.0 z
        go (inr n) = absurd (omega (arith, z, said.unknown n))

    back : length d < 256 ^ 8 → (told r).number ≡ 0 →
        (part_side c' ≡ (told r).side) × (part_start c' ≡ (told r).start) × (part_length c' ≡ (told r).size)
    back h z =
        let i = slices_small h (accepted_size (rules_of (book_of e y)) o (accepted z)).1 r in
        subst (λ (z : List ℕ). (part_side z ≡ (told r).side) × (part_start z ≡ (told r).start)
        × (part_length z ≡ (told r).size)) (sym (part_is_found z))
        (part_back (told r).side (told r).start (told r).size
        (omega (arith, i, said.inside)) (omega (arith, i, said.inside)))

    pub record_finds : RecordFinds e y o d c w c'
    unfolding part_from
    record_finds =
        record {
          finding = found_by;
          finds = said;
          word = word_is;
          part = part_is_found;
          read_back = back;
          refused = λ l. cells_are ∙ kept r l;
        }
