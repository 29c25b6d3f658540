-- The caption finder gives what is promised: its answer follows the verdict on the octets, then the name, the
-- directory's line and the caller that count.
-- Assumes nothing.
use Rattle.std.proofs.Common.{ℕ, Result, Ok, Err, Option, None}
use Prim.Native.Nat.{ℕ, ◌≤◌}
use mathlib.Core.Path.{◌≡◌, refl, sym, ◌∙◌, ap, subst}
use mathlib.Core.Logic.Iff
use mathlib.Core.Logic.{◌⊎◌, inl, inr, ◌↔◌}
use mathlib.Core.List.{List, []}
use mathlib.Core.Option.{none, some}
use native.Mathlib.Omega.{arith}
use lib.ListN.{length, take, drop}
use lib.Dec.{T}
use Rattle.rules.proofs.Tests.{clash}
use Rattle.rules.specs.Octets.{Octets}
use Rattle.rules.specs.Table.{rules_of}
use Rattle.rules.specs.declared.Book.{Book}
use Rattle.rules.specs.Message.{Message, octets, LegalMessage, Accepts}
use Rattle.rules.specs.Counting.{counted, Counts}
use Rattle.rules.proofs.Counting.{counted_iff}
use Rattle.rules.specs.declared.Fault.{Fault}
use Rattle.rules.specs.Refusals.{noted_in}
use Rattle.rules.specs.Language.{language_of}
use Rattle.rules.proofs.Grammar.{spoken_of}
use Rattle.message.specs.declared.Part.{Part}
use Rattle.message.specs.Verdict.{verdict_of}
use Rattle.message.specs.Judges.{Judges, verdict_number}
use Rattle.message.proofs.Judges.{judges_of, told_small}
use Rattle.message.proofs.Told.{told-declined, accepted_iff, some_number, number_of_lem}
use Rattle.message.specs.Parts.{counted_at, part_of}
use Rattle.message.proofs.Searching.{counted_part}
use Rattle.caption.specs.declared.CallerText.{CallerText}
use Rattle.caption.specs.declared.Shown.{Shown}
use Rattle.caption.specs.declared.Shown.TheVariants.{InMessage, InDirectory}
use Rattle.caption.specs.Told.{told}
use Rattle.caption.proofs.Told.{told-refused, clear_of}
use Rattle.caption.specs.Caption.{lookup, by_entry, by_caller, by_name, find_under, find_of, slice_of, part_text}
use Rattle.caption.proofs.Inside.{part_inside}
use Rattle.caption.specs.Directory.{text_place}
use Rattle.caption.proofs.Directory.{none_found, first_found, text_stands}
use Rattle.message.specs.Places.{contents_at}
use Rattle.message.proofs.Places.{counted_at_lem, part_none}
use Rattle.caption.proofs.Callers.{caller_plain}
use Rattle.caption.specs.Finds.{Shows, Captions, Finds}

-- ---- a part and its text
module _ (o d : List ℕ) (start : ℕ) (v : List ℕ) where
  message_shows : take (length v) (drop start o) ≡ v → Shows o d (Ok (InMessage start (length v))) 0 start v
  unfolding told slice_of part_text
  message_shows e =
      record { number = refl; place = refl; parameter = refl; side = refl; start = refl; size = refl; text = e }

  directory_shows : take (length v) (drop start d) ≡ v → Shows o d (Ok (InDirectory start (length v))) 1 start v
  unfolding told slice_of part_text
  directory_shows e =
      record { number = refl; place = refl; parameter = refl; side = refl; start = refl; size = refl; text = e }

module _ (book : Book) where
  -- ---- the caption of a message
  module _ (m : Message) (d : List ℕ) where
    abbrev o : List ℕ
    o = octets m

    nowhere : (t : ℕ) → counted (rules_of book) m t ≡ none → counted_at (rules_of book) o t ≡ None
    nowhere t e = part_none o (counted_at (rules_of book) o t) (counted_part (rules_of book) m t ∙ e)

    holds : (t : ℕ) (v : List ℕ) (c : Counts (rules_of book) m t v) →
        take (length v) (drop (contents_at c.first) o) ≡ v
    unfolding part_of
    holds t v c =
        let e : some (take (length v) (drop (contents_at c.first) o)) ≡ some v =
        sym (ap (part_of o) (counted_at_lem (rules_of book) m t v c)) ∙ counted_part (rules_of book) m t
        ∙ (counted_iff (rules_of book) m t v).1 c in
        cc

    found : Result Shown Fault
    found = Ok (by_name (rules_of book) (counted_at (rules_of book) o 0x07) o d)

    by_name_lem : (v : List ℕ) (c : Counts (rules_of book) m 0x07 v) → found ≡ Ok (InMessage (contents_at c.first) (length v))
    unfolding found by_name
    by_name_lem v c = ap (λ (p : Option Part). Ok (by_name (rules_of book) p o d)) (counted_at_lem (rules_of book) m 0x07 v c)

    by_caller_lem : counted (rules_of book) m 0x07 ≡ none →
        (v : List ℕ) (c : Counts (rules_of book) m 0x02 v) (e : Option CallerText) → lookup v d ≡ e →
        found ≡ Ok (by_entry e (contents_at c.first) (length v))
    unfolding found by_name by_caller
    by_caller_lem n v c e f =
        ap (λ (p : Option Part). Ok (by_name (rules_of book) p o d)) (nowhere 0x07 n)
        ∙ ap (λ (p : Option Part). Ok (by_caller p o d)) (counted_at_lem (rules_of book) m 0x02 v c)
        ∙ ap (λ (x : Option CallerText). Ok (by_entry x (contents_at c.first) (length v)))
        (ap (λ (w : List ℕ). lookup w d) (holds 0x02 v c) ∙ f)

    empty : counted (rules_of book) m 0x07 ≡ none → counted (rules_of book) m 0x02 ≡ none → found ≡ Ok (InMessage 0 0)
    unfolding found by_name by_caller
    empty n k =
        ap (λ (p : Option Part). Ok (by_name (rules_of book) p o d)) (nowhere 0x07 n)
        ∙ ap (λ (p : Option Part). Ok (by_caller p o d)) (nowhere 0x02 k)

    captions : LegalMessage (rules_of book) m → Captions (rules_of book) m d found
    unfolding found by_entry
    captions l = record {
      name =
          λ v c. subst (λ (r : Result Shown Fault). Shows o d r 0 (contents_at c.first) v) (sym (by_name_lem v c))
          (message_shows o d _ v (holds 0x07 v c));
      entry =
          λ n v c e. subst (λ (r : Result Shown Fault). Shows o d r 1 (text_place e) e.text)
          (sym (by_caller_lem n v c _ (first_found v d (caller_plain book m l v c) e)))
          (directory_shows o d _ e.text (text_stands v d e));
      caller =
          λ n v c k. subst (λ (r : Result Shown Fault). Shows o d r 0 (contents_at c.first) v)
          (sym (by_caller_lem n v c _ (none_found v d k))) (message_shows o d _ v (holds 0x02 v c));
      nothing = λ n k. subst (λ (r : Result Shown Fault). Shows o d r 0 0 []) (sym (empty n k)) (message_shows o d 0 [] refl);
    }

  -- ---- the answer and the verdict
  module _ (o d : List ℕ) where
    -- a part is no refusal
    part_number : (r : Shown) → (told (Ok r)).number ≡ 0
    unfolding told
    part_number (InMessage start n) = refl
    part_number (InDirectory start n) = refl

    abbrev Unrefused : Result Shown Fault → Type 0
    Unrefused r = ((told r).number ≡ 0) × ((f : Fault) → r ≡ Err f → ⊥)

    pub by_caller-part : (p : Option Part) → Unrefused (Ok (by_caller p o d))
    by_caller-part p = (part_number _, λ f e. clash cc)

    pub by_name-part : (p : Option Part) → Unrefused (Ok (by_name (rules_of book) p o d))
    by_name-part p = (part_number _, λ f e. clash cc)

    accepted_is : (v : Result ℕ Fault) (n : ℕ) → v ≡ Ok n →
        find_under (rules_of book) v o d ≡ Ok (by_name (rules_of book) (counted_at (rules_of book) o 0x07) o d)
    unfolding find_under
    accepted_is v n e = rw e

    accepted_of : (v : Result ℕ Fault) → ((f : Fault) → v ≡ Err f → 1 ≤ f.number) →
        (told (find_under (rules_of book) v o d)).number ≡ 0 → (n : ℕ) × (v ≡ Ok n)
    unfolding find_under told
    accepted_of (Ok n) h e = (n, refl)
    accepted_of (Err f) h e = absurd (omega (arith, h f refl))

    refused_of : (v : Result ℕ Fault) (f : Fault) → (find_under (rules_of book) v o d ≡ Err f) ↔ (v ≡ Err f)
    unfolding find_under
    refused_of (Ok n) f = (λ e. clash cc, λ e. clash cc)
    refused_of (Err g) f = (λ e. cc, λ e. cc)

    numbers_of_lem : (v : Result ℕ Fault) → ((f : Fault) → v ≡ Err f → T (verdict_number (language_of book) f.number)) →
        ((told (find_under (rules_of book) v o d)).number ≡ 0) ⊎ T
        (verdict_number (language_of book) (told (find_under (rules_of book) v o d)).number)
    unfolding find_under told
    numbers_of_lem (Ok n) h = inl (part_number _)
    numbers_of_lem (Err f) h = inr (h f refl)

  module _ (o d : List ℕ) (q : Octets o) where
    abbrev v : Result ℕ Fault
    v = verdict_of (rules_of book) o

    abbrev J : Judges (language_of book) o v
    J = judges_of book o q

    accepted : Accepts (rules_of book) o →
        find_of (rules_of book) o d ≡ Ok (by_name (rules_of book) (counted_at (rules_of book) o 0x07) o d)
    unfolding find_of
    accepted a = accepted_is o d v (length o) ((accepted_iff J (length o)).1 (refl, a))

    captions_of : (m : Message) → LegalMessage (rules_of book) m → octets m ≡ o →
        Captions (rules_of book) m d (find_of (rules_of book) o d)
    unfolding found
    captions_of m l e =
        subst (Captions (rules_of book) m d)
        (sym (accepted (m, l, e) ∙ ap (λ (x : List ℕ). Ok (by_name (rules_of book) (counted_at (rules_of book) x 0x07) x d))
        (sym e))) (captions m d l)

    pub finds : Finds (rules_of book) o d (find_of (rules_of book) o d)
    unfolding find_of
    finds = record {
      clear = clear_of _ (λ f e. some_number J f ((refused_of o d v f).0 e));
      done = (
        λ e. let a =
            accepted_of o d v (λ f k. (told_small (spoken_of book) _ (number_of_lem J f k)).0) e in
            ((accepted_iff J a.0).0 a.1).1,
        λ a. ap (λ (x : Result Shown Fault). (told x).number) (accepted a) ∙ part_number o d _,
      );
      verdict = v;
      judged = J;
      refused =
          λ k p b l. Iff.trans (told-refused _ k p b l)
          (Iff.trans (refused_of o d v (noted_in k p b)) (Iff.symm (told-declined v k p b l)));
      numbers = numbers_of_lem o d v (number_of_lem J);
      inside = part_inside o d (rules_of book);
      caption = captions_of;
    }
