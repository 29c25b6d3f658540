-- Walking by an edition and a way gives what is promised: by known numbers it is walking by their book, and by unknown
-- ones 16 at every place, so that the place never moves.
-- Assumes nothing.
use Rattle.std.proofs.Common.{Err}
use Prim.Native.Nat.{ℕ, zero, suc}
use mathlib.Core.Path.{◌≡◌, refl, sym, ◌∙◌, ap, subst}
use mathlib.Core.Logic.{◌⊎◌, inl, inr}
use mathlib.Core.List.{List}
use native.Mathlib.Omega.{arith}
use lib.Dec.{T}
use Rattle.rules.proofs.Tests.{pick_yes, pick_not, decide}
use Rattle.rules.specs.Octets.{Octets}
use Rattle.rules.specs.Table.{rules_of}
use Rattle.rules.specs.declared.Book.{Book}
use Rattle.rules.specs.Editions.{known, book_of}
use Rattle.rules.specs.Language.{calls}
use Rattle.rules.specs.Refusals.{noted}
use Rattle.rules.proofs.ContentLaw.{sound_rules}
use Rattle.rules.proofs.Grammar.{spoken}
use Rattle.message.specs.Judges.{verdict_number}
use Rattle.message.proofs.Judges.{told_small}
use Rattle.walker.specs.Told.{told, refusal}
use Rattle.walker.specs.Steps.{step_of, step_in, next_place, place_at, place_in, Step, Stepped}
use Rattle.walker.specs.Walks.{Walks, WalksBy}
use Rattle.walker.proofs.Told.{number_is, place_is, parameter_is}
use Rattle.walker.proofs.Walks as walks

-- a step by the edition e, and the one by none
abbrev pub named : ℕ → Step → Stepped
named e x = record { edition = e; answer = x }

abbrev pub by_none : Stepped
by_none = record { edition = 0; answer = Err (noted 16 0) }

module _ (e w : ℕ) (o : List ℕ) where
  pub known_is : (at : ℕ) → T (known e w) → step_in e w o at ≡ named e (step_of (rules_of (book_of e w)) o at)
  unfolding step_in
  known_is at t = pick_yes _ _ _ t

  pub unknown_is : (at : ℕ) → (T (known e w) → ⊥) → step_in e w o at ≡ by_none
  unfolding step_in
  unknown_is at n = pick_not _ _ _ n

  -- ---- one call after the other
  -- by known numbers the calls go the way of their book
  pub known_place : T (known e w) → (calls : ℕ) → place_in e w o calls ≡ place_at (rules_of (book_of e w)) o calls
  unfolding place_in place_at
  known_place t zero = refl
  known_place t (suc calls) =
      ap (λ (x : ℕ). next_place x (step_in e w o x).answer) (known_place t calls)
      ∙ ap (λ (r : Stepped). next_place (place_at (rules_of (book_of e w)) o calls) r.answer) (known_is _ t)

  -- by unknown ones a call leads nowhere
  pub unknown_next : (at : ℕ) → (T (known e w) → ⊥) → next_place at (step_in e w o at).answer ≡ at
  unfolding next_place
  unknown_next at n = ap (λ (r : Stepped). next_place at r.answer) (unknown_is at n)

  pub unknown_place : (T (known e w) → ⊥) → (calls : ℕ) → place_in e w o calls ≡ 2
  unfolding place_in
  unknown_place n zero = refl
  unknown_place n (suc calls) = unknown_next (place_in e w o calls) n ∙ unknown_place n calls

-- ---- the sentences
-- 16 is no number of a book
pub not_sixteen : (b : Book) (o : List ℕ) (at : ℕ) (r : Step) → Walks (rules_of b) o at r → (told r).number ≡ 16 → ⊥
not_sixteen b o at r x k = go x.numbers
  where
    go : ((told r).number ≡ 0) ⊎ T (verdict_number (calls (rules_of b)) (told r).number) → ⊥
    go (inl z) = omega (arith, k, z)
    go (inr v) = omega (arith, k, (told_small (spoken (rules_of b) (sound_rules b)) _ v).1)

module _ (e w : ℕ) (o : List ℕ) (at : ℕ) where
  by_known : T (known e w) → (x : Step) → Walks (rules_of (book_of e w)) o at x → WalksBy e w o at (named e x)
  by_known t x S =
      let no = not_sixteen (book_of e w) o at x S in
      record {
        by_book = λ _. S;
        clear = S.clear;
        sixteen = λ p b. (λ y. absurd (no (number_is y)), λ y. absurd (y.2 t));
        unknown = λ n. absurd (n t);
        stays = S.stays;
        inside = S.inside;
        names = λ _. refl;
        names_none = λ k. absurd (no k);
      }

  by_unknown : (T (known e w) → ⊥) → WalksBy e w o at by_none
  unfolding told next_place
  by_unknown n = record {
    by_book = λ t. absurd (n t);
    clear = omega arith;
    sixteen = λ p b. (
      λ y. (sym (place_is y), sym (parameter_is y), n),
      λ y i. refusal 16 (sym y.0 i) (sym y.1 i),
    );
    unknown = λ _. refl;
    stays = λ _. refl;
    inside = omega arith;
    names = λ a. absurd (a refl);
    names_none = λ _. refl;
  }

  -- any numbers, any octets and any place
  pub walks_by : Octets o → WalksBy e w o at (step_in e w o at)
  walks_by q = go (decide (known e w))
    where
      go : T (known e w) ⊎ (T (known e w) → ⊥) → WalksBy e w o at (step_in e w o at)
      go (inl t) =
          subst (WalksBy e w o at) (sym (known_is e w o at t))
          (by_known t _ (walks.walks (rules_of (book_of e w)) (sound_rules (book_of e w)) o q at))
      go (inr n) = subst (WalksBy e w o at) (sym (unknown_is e w o at n)) (by_unknown n)
