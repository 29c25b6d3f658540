-- The sentences on a verdict leave one: each way to be accepted or declined is told by the octets alone, and no
-- number is without its sentence.
-- Assumes nothing.
use Rattle.std.proofs.Common.{◌≡◌, ℕ, ◌≤◌, T, ◌⊎◌, List, length, sym, refl, ap, ◌∙◌, subst, inl, inr, arith, Result, Ok, Err, Option}
use mathlib.Core.Option.{Option as Maybe, none, some}
use Rattle.rules.specs.Table.{Rules}
use Rattle.rules.specs.Message.{Message}
use Rattle.rules.specs.Counting.{counted}
use Rattle.rules.proofs.Counting.{counted_iff}
use Rattle.rules.specs.Octets.{Octets}
use Rattle.rules.specs.Judge.{named}
use Rattle.rules.proofs.InRange.{no_parameter}
use Rattle.rules.proofs.Grammar.{spoilt_named}
use Rattle.rules.specs.Refusals.{noted}
use Rattle.rules.specs.declared.Book.{Book}
use Rattle.rules.specs.Language.{Language, language_of}
use Rattle.rules.specs.declared.Fault.{Fault}
use Rattle.message.specs.declared.Part.{Part}
use Rattle.message.specs.Places.{CountsAt}
use Rattle.message.specs.Judges.{Judges}
use Rattle.message.proofs.Judges.{verdict_number_lem}
use Rattle.message.proofs.Told.{accepted_iff, spoilt_iff, early_iff, followed_iff, at_seven, at_eight, some_number, number_of_lem}

module _ (L : Language) (o : List ℕ) where
  -- octets that the one declines, the other declines with the same number, place and parameter
  declined_too : (v w : Result ℕ Fault) → Judges L o v → Judges L o w → (f : Fault) → v ≡ Err f → w ≡ Err f
  declined_too v w A B f e = go (verdict_number_lem L _ (number_of_lem A f e))
    where
      l : 1 ≤ f.number
      l = some_number A f e

      go : T (L.given f.number) ⊎ ((f.number ≡ 7) ⊎ (f.number ≡ 8)) → w ≡ Err f
      go (inl t) = (spoilt_iff B f l t).1 ((spoilt_iff A f l t).0 e)
      go (inr (inl k)) =
          let z = ap Err (at_seven A f e k) in
          (followed_iff B f.place).1 ((followed_iff A f.place).0 (e ∙ z)) ∙ sym z
      go (inr (inr k)) =
          let z = ap Err (at_eight A f e k) in
          (early_iff B f.place).1 ((early_iff A f.place).0 (e ∙ z)) ∙ sym z

  -- any octets have one verdict
  pub judges_one : (v w : Result ℕ Fault) → Judges L o v → Judges L o w → v ≡ w
  judges_one (Ok n) w A B = sym ((accepted_iff B n).1 ((accepted_iff A n).0 refl))
  judges_one (Err f) w A B = sym (declined_too _ w A B f refl)

-- the place of a refusal is one of the octets, or, where they end early, their number
pub placed : (L : Language) (o : List ℕ) (v : Result ℕ Fault) → Judges L o v → (f : Fault) → v ≡ Err f →
    f.place ≤ length o
placed L o v A f e = go (verdict_number_lem L _ (number_of_lem A f e))
  where
    go : T (L.given f.number) ⊎ ((f.number ≡ 7) ⊎ (f.number ≡ 8)) → f.place ≤ length o
    go (inl t) = omega (arith, ((spoilt_iff A f (some_number A f e) t).0 e).0.place)
    go (inr (inl k)) = omega (arith, ((followed_iff A f.place).0 (e ∙ ap Err (at_seven A f e k))).0)
    go (inr (inr k)) = omega (arith, ((early_iff A f.place).0 (e ∙ ap Err (at_eight A f e k))).0)

-- and its parameter is one that the number has
pub names : (b : Book) (o : List ℕ) → Octets o → (v : Result ℕ Fault) → Judges (language_of b) o v → (f : Fault) →
    v ≡ Err f → T (named f.number f.parameter)
names b o q v A f e = go (verdict_number_lem (language_of b) _ (number_of_lem A f e))
  where
    none_at : (k : ℕ) → f ≡ noted k f.place → 6 ≤ k → k ≤ 9 → T (named f.number f.parameter)
    none_at k z a c =
        subst (λ (g : Fault). T (named g.number g.parameter)) (sym z)
        (no_parameter k (λ x y. omega arith) (λ e. omega arith))

    go : T ((language_of b).given f.number) ⊎ ((f.number ≡ 7) ⊎ (f.number ≡ 8)) →
        T (named f.number f.parameter)
    go (inl t) = spoilt_named b o q f ((spoilt_iff A f (some_number A f e) t).0 e)
    go (inr (inl k)) = none_at 7 (at_seven A f e k) (omega arith) (omega arith)
    go (inr (inr k)) = none_at 8 (at_eight A f e k) (omega arith) (omega arith)

-- of a message and a type there is one part that counts
pub counts_at_one : (R : Rules) (m : Message) (t : ℕ) (p q : Option Part) → CountsAt R m t p → CountsAt R m t q → p ≡ q
counts_at_one R m t p q A B = go (counted R m t) refl
  where
    go : (x : Maybe (List ℕ)) → counted R m t ≡ x → p ≡ q
    go none e = A.nowhere e ∙ sym (B.nowhere e)
    go (some v) e = let c = (counted_iff R m t v).0 e in A.at v c ∙ sym (B.at v c)
