-- The caption finder by an edition and a way gives what is promised: by known numbers it is that by their book, and by
-- unknown ones 16 with the empty part at the message's start.
-- Assumes nothing.
use Rattle.rules.specs.declared.Fault.{Fault}
use Rattle.std.proofs.Common.{Result, Err}
use Prim.Native.Nat.{ℕ}
use mathlib.Core.Path.{◌≡◌, refl, sym, subst}
use mathlib.Core.Logic.{◌⊎◌, inl, inr}
use mathlib.Core.List.{List}
use native.Mathlib.Omega.{arith}
use lib.Dec.{T}
use Rattle.rules.proofs.Tests.{pick_yes, pick_not, decide}
use Rattle.rules.specs.Octets.{Octets}
use Rattle.rules.specs.Table.{rules_of}
use Rattle.rules.specs.Editions.{known, book_of}
use Rattle.rules.specs.Language.{language_of}
use Rattle.rules.specs.Refusals.{noted}
use Rattle.rules.proofs.Grammar.{spoken_of}
use Rattle.message.specs.Judges.{verdict_number}
use Rattle.message.proofs.Judges.{told_small}
use Rattle.caption.specs.declared.Shown.{Shown}
use Rattle.caption.specs.Told.{told, refusal, Finding}
use Rattle.caption.specs.Caption.{find_of, find_in, slice_of}
use Rattle.caption.specs.Finds.{Finds, FindsBy}
use Rattle.caption.proofs.Told.{number_is, place_is, parameter_is}
use Rattle.caption.proofs.Finds as finds

-- what is shown by the edition e, and what by unknown numbers
abbrev by : ℕ → Result Shown Fault → Finding
by e x = record { edition = e; answer = x }

abbrev by_none : Finding
by_none = by 0 (Err (noted 16 0))

module _ (e w : ℕ) (o d : List ℕ) where
  pub known_is : T (known e w) → find_in e w o d ≡ by e (find_of (rules_of (book_of e w)) o d)
  unfolding find_in
  known_is t = pick_yes _ _ _ t

  pub unknown_is : (T (known e w) → ⊥) → find_in e w o d ≡ by_none
  unfolding find_in
  unknown_is n = pick_not _ _ _ n

  -- by known numbers
  module _ (t : T (known e w)) (x : Result Shown Fault) (F : Finds (rules_of (book_of e w)) o d x) where
    pub not_sixteen : (told x).number ≡ 16 → ⊥
    not_sixteen k = go F.numbers
      where
        go : ((told x).number ≡ 0) ⊎ T (verdict_number (language_of (book_of e w)) (told x).number) → ⊥
        go (inl z) = omega (arith, k, z)
        go (inr v) = omega (arith, k, (told_small (spoken_of (book_of e w)) _ v).1)

    by_known : FindsBy e w o d (by e x)
    by_known = record {
      by_book = λ _. F;
      clear = F.clear;
      sixteen = λ p b. (λ y. absurd (not_sixteen (number_is y)), λ y. absurd (y.2 t));
      unknown = λ n. absurd (n t);
      inside = F.inside;
      names = λ _. refl;
      names_none = λ k. absurd (not_sixteen k);
    }

  -- by unknown ones
  by_unknown : (T (known e w) → ⊥) → FindsBy e w o d by_none
  unfolding told slice_of
  by_unknown n = record {
    by_book = λ t. absurd (n t);
    clear = omega arith;
    sixteen =
        λ p b. (
          λ y. (sym (place_is y), sym (parameter_is y), n),
          λ y i. refusal 16 (sym y.0 i) (sym y.1 i),
        );
    unknown = λ _. refl;
    inside = omega arith;
    names = λ m. absurd (m refl);
    names_none = λ _. refl;
  }

  pub finds_by : Octets o → FindsBy e w o d (find_in e w o d)
  finds_by q = go (decide (known e w))
    where
      go : T (known e w) ⊎ (T (known e w) → ⊥) → FindsBy e w o d (find_in e w o d)
      go (inl t) =
          subst (FindsBy e w o d) (sym (known_is t))
          (by_known t (find_of (rules_of (book_of e w)) o d) (finds.finds (book_of e w) o d q))
      go (inr n) = subst (FindsBy e w o d) (sym (unknown_is n)) (by_unknown n)
