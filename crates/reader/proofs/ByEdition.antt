-- What is said of a read by any edition and way: by known ones it has a number up to 10 and names their edition, as its
-- draft does; by unknown ones it is 16.
-- Assumes nothing.
use Rattle.std.proofs.Common.{Result, Ok, Err}
use Prim.Native.Nat.{ℕ}
use mathlib.Core.Path.{◌≡◌, refl, sym, ◌∙◌, ap, subst}
use mathlib.Core.Logic.{◌⊎◌, inl, inr}
use mathlib.Core.List.{List}
use native.Mathlib.Omega.{arith}
use lib.ListN.{length}
use lib.Dec.{T}
use Rattle.rules.specs.Tests.{◌=?◌}
use Rattle.rules.proofs.Tests.{either, eq_of}
use Rattle.rules.specs.Table.{Rules, rules_of}
use Rattle.rules.specs.Editions.{known, book_of}
use Rattle.rules.proofs.Editions.{book_edition}
use Rattle.rules.specs.Language.{language_of}
use Rattle.rules.proofs.Grammar.{spoken_of}
use Rattle.rules.specs.declared.Book.{Book}
use Rattle.message.specs.Judges.{verdict_number}
use Rattle.message.proofs.Judges.{told_small}
use Rattle.draft.specs.Draft.{empty_of}
use Rattle.draft.specs.Packing.{draft_of}
use Rattle.reader.specs.declared.Reading.{Reading}
use Rattle.reader.specs.Read.{draft_from, read_of, unreadable}
use Rattle.reader.specs.Told.{Told, told, refusal, Clear}
use Rattle.reader.specs.Reads.{read_number, Reads, ReadsBy}
use Rattle.rules.specs.declared.Fault.{Fault}

number_is : {x y : Told} → x ≡ y → x.number ≡ y.number
number_is d = ap (λ (x : Told). x.number) d

-- a read by a book never gives 16
never_16 : (b : Book) → T (read_number (rules_of b) 16) → ⊥
unfolding read_number
never_16 b t = go (either _ _ t)
  where
    go : T (verdict_number (language_of b) 16) ⊎ T (16 =? 9) → ⊥
    go (inl v) = let x = told_small (spoken_of b) 16 v in omega (arith, x.1)
    go (inr v) = let x = eq_of _ _ v in omega arith

-- the draft of a read is of its book's edition, the empty one too
draft_edition : (R : Rules) (o : List ℕ) (p : Result ℕ Fault) → (draft_from R o p).edition ≡ R.edition
unfolding draft_from draft_of empty_of
draft_edition R o (Ok n) = refl
draft_edition R o (Err f) = refl

module _ (e w : ℕ) (o old : List ℕ) (r : Reading) (area : List ℕ) where
  pub by_known : T (known e w) → r ≡ read_of (rules_of (book_of e w)) o (length old) →
      Reads (rules_of (book_of e w)) o old r area → ReadsBy e w o old r area
  unfolding read_of
  by_known t x A =
      record {
        by_book = λ _. A;
        clear = A.clear;
        sixteen = λ p b. (λ y. absurd (not_16 (number_is y)), λ y. absurd (y.2 t));
        unknown = λ n. absurd (n t);
        leaves = λ n. absurd (n t);
        names = λ _. (
          A.names ∙ book_edition e w t,
          ap (λ (z : Reading). z.draft.edition) x ∙ draft_edition _ o _ ∙ book_edition e w t,
        );
      }
    where
      not_16 : (told r.answer).number ≡ 16 → ⊥
      not_16 k =
          never_16 (book_of e w)
          (subst (λ (n : ℕ). T (read_number (rules_of (book_of e w)) n)) k (A.refused (omega arith)).2)

  pub by_unknown : (T (known e w) → ⊥) → r ≡ unreadable → area ≡ old → ReadsBy e w o old r area
  unfolding told
  by_unknown n x a =
      let tells : told r.answer ≡ refusal 16 0 0 = ap (λ (z : Reading). told z.answer) x in
      record {
        by_book = λ t. absurd (n t);
        clear = subst (λ (z : Reading). Clear z.answer) (sym x) (omega arith);
        sixteen = λ p b. (
          λ y.
              let z = sym y ∙ tells in
              (ap (λ (t : Told). t.place) z, ap (λ (t : Told). t.parameter) z, n),
          λ y.
              let u = sym y.0 in
              let v = sym y.1 in
              tells ∙ (λ i. refusal 16 (u i) (v i)),
        );
        unknown = λ _. tells;
        leaves = λ _. (a, ap (λ (z : Reading). z.draft) x, ap (λ (z : Reading). z.edition) x);
        names = λ t. absurd (n t);
      }
