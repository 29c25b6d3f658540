-- Laws of editions and ways: the book of known numbers has that edition's number and its way, every book has numbers,
-- and an answer names its edition but with 16 and 17.
-- Assumes nothing.
use Prim.Native.Nat.{ℕ, zero, suc}
use mathlib.Core.Path.{◌≡◌, refl, sym}
use mathlib.Core.Logic.{◌⊎◌, inl, inr}
use native.Mathlib.Omega.{arith}
use lib.Dec.{T}
use Rattle.rules.specs.Tests.{◌≤?◌, ◌=?◌, ◌and◌, ◌or◌, pick}
use Rattle.rules.proofs.Tests.{both, join, left, right, le_of, of_le, eq_of, of_eq, pick_case}
use Rattle.rules.proofs.Returns.{pick_t, pick_f, or_f, no_eq, holds}
use Rattle.rules.specs.Contents.{some_length}
use Rattle.rules.specs.Table.{rules_of, class_fault, whole}
use Rattle.rules.specs.Editions.{strict, lenient, edition, known, book_of, named_by}
use Rattle.rules.specs.declared.Book.{Book}
use Rattle.rules.specs.declared.Book.TheVariants.{PresentStrict, PresentLenient, OldStrict, OldLenient}

-- ---- the numbers
pub edition_of_lem : (e w : ℕ) → T (known e w) → T (edition e)
unfolding known
edition_of_lem e w t = (both _ _ t).0

pub by_lenient : (e : ℕ) → T (edition e) → T (known e lenient)
unfolding known
by_lenient e t = join _ _ t (of_le _ _ (omega arith))

pub by_strict : (e : ℕ) → T (edition e) → T (known e strict)
unfolding known
by_strict e t = join _ _ t (of_le _ _ (omega arith))

pub ways_known : (e : ℕ) → known e strict ≡ known e lenient
unfolding known ◌≤?◌
ways_known e = refl

-- an edition beyond the last is unknown, and so is a way
pub beyond : (e : ℕ) → T (edition (suc (suc e))) → ⊥
unfolding edition
beyond e t = let h = le_of _ _ t in omega arith

pub no_edition : (e w : ℕ) → T (known (suc (suc e)) w) → ⊥
no_edition e w t = beyond e (edition_of_lem (suc (suc e)) w t)

pub no_way : (e w : ℕ) → T (known e (suc (suc w))) → ⊥
unfolding known
no_way e w t = let h = le_of _ _ (both _ _ t).1 in omega arith

-- ---- the book
-- the book of known numbers has the edition's number
pub book_edition : (e w : ℕ) → T (known e w) → (rules_of (book_of e w)).edition ≡ e
unfolding book_of rules_of pick ◌=?◌
book_edition zero zero t = refl
book_edition zero (suc zero) t = refl
book_edition zero (suc (suc w)) t = absurd (no_way 0 w t)
book_edition (suc zero) zero t = refl
book_edition (suc zero) (suc zero) t = refl
book_edition (suc zero) (suc (suc w)) t = absurd (no_way 1 w t)
book_edition (suc (suc e)) w t = absurd (no_edition e w t)

-- it is strict exactly by way 0
pub book_way : (e w : ℕ) → T (known e w) → (class_fault (rules_of (book_of e w)).others =? 10) ≡ (w =? 0)
unfolding book_of rules_of pick ◌=?◌ class_fault some_length whole ◌≤?◌ ◌or◌
book_way zero zero t = refl
book_way zero (suc zero) t = refl
book_way zero (suc (suc w)) t = absurd (no_way 0 w t)
book_way (suc zero) zero t = refl
book_way (suc zero) (suc zero) t = refl
book_way (suc zero) (suc (suc w)) t = absurd (no_way 1 w t)
book_way (suc (suc e)) w t = absurd (no_edition e w t)

-- by unknown numbers a strict one is asked for the range of a record
abbrev Strict : Book → Type 0
Strict b = class_fault (rules_of b).others ≡ 10

strict_books : Strict PresentStrict × Strict OldStrict
unfolding rules_of pick class_fault some_length whole ◌≤?◌ ◌or◌
strict_books = (refl, refl)

pub unknown_strict : (e w : ℕ) → (T (known e w) → ⊥) → Strict (book_of e w)
unfolding book_of known edition
unknown_strict e w n =
    pick_case Strict (w =? 1) _ _
    (λ x. let y = eq_of _ _ x in
    pick_case Strict (e =? 0) _ _
    (λ z. let k = eq_of _ _ z in absurd (n (join _ _ (of_le _ _ (omega arith)) (of_le _ _ (omega arith)))))
    (λ _. pick_case Strict (e =? 1) _ _
    (λ z. let k = eq_of _ _ z in absurd (n (join _ _ (of_le _ _ (omega arith)) (of_le _ _ (omega arith)))))
    (λ _. strict_books.0)))
    (λ _. pick_case Strict (e =? 1) _ _ (λ _. strict_books.1) (λ _. strict_books.0))

-- and every book has an edition and a way
pub numbers_of_lem : (b : Book) → (e : ℕ) × (w : ℕ) × T (known e w) × (book_of e w ≡ b)
unfolding known edition book_of pick ◌=?◌ ◌≤?◌ ◌and◌
numbers_of_lem PresentStrict = (0, 0, tt, refl)
numbers_of_lem PresentLenient = (0, 1, tt, refl)
numbers_of_lem OldStrict = (1, 0, tt, refl)
numbers_of_lem OldLenient = (1, 1, tt, refl)

-- ---- the edition that an answer names
pub names : (k e : ℕ) → (k ≡ 16 → ⊥) → (k ≡ 17 → ⊥) → named_by k e ≡ e
unfolding named_by
names k e a b = sym (pick_f _ e _ _ (sym (or_f _ _ _ (no_eq _ _ a) (sym (no_eq _ _ b)))) refl)

pub names_none : (k e : ℕ) → (k ≡ 16) ⊎ (k ≡ 17) → named_by k e ≡ 0
unfolding named_by
names_none k e (inl a) = sym (pick_t _ 0 _ _ (holds _ (left _ _ (of_eq _ _ a))) refl)
names_none k e (inr b) = sym (pick_t _ 0 _ _ (holds _ (right _ _ (of_eq _ _ b))) refl)
