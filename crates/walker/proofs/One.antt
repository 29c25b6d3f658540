-- The sentences on walking leave one step: a refusal is the verdict's, and in a message the parameter that begins at
-- the place, or that none does, tells it. By an edition and a way: by known numbers their book's, by unknown ones 16.
-- Assumes nothing.
use Rattle.std.proofs.Common.{Ok, Err, Some, None}
use Prim.Native.Nat.{ℕ, ◌+◌}
use mathlib.Core.Path.{◌≡◌, refl, sym, ◌∙◌}
use mathlib.Core.Logic.{◌⊎◌, inl, inr}
use mathlib.Core.List.{List}
use native.Mathlib.Omega.{arith}
use lib.ListN.{length}
use lib.Dec.{T}
use Rattle.rules.proofs.Tests.{decide}
use Rattle.rules.specs.Table.{Rules, rules_of}
use Rattle.rules.specs.Editions.{known, book_of}
use Rattle.rules.specs.Refusals.{noted}
use Rattle.rules.specs.Message as message
use Rattle.rules.specs.Language.{calls}
use Rattle.rules.specs.declared.Fault.{Fault}
use Rattle.message.proofs.One.{judges_one}
use Rattle.walker.specs.Told.{told}
use Rattle.walker.proofs.Told.{told-refused, some_number, refused_iff, declined_so}
use Rattle.walker.proofs.Editions.{not_sixteen}
use Rattle.walker.specs.Steps.{next_place, Step, Stepped, given}
use Rattle.walker.specs.Walks.{Gives, Walks, WalksBy}

-- a parameter and its place tell the step that gives it
gives_one : (o : List ℕ) (at : ℕ) (p : message.Parameter) (r : Step) → Gives o at p r →
    r ≡ given p.kind (at + 2) (length p.contents) (at + 2 + length p.contents)
unfolding told next_place
gives_one o at p (Ok (Some one)) g = λ i. given (g.kind i) (g.start i) (g.size i) (g.next i)
gives_one o at p (Ok None) g = absurd (omega (arith, g.more))
gives_one o at p (Err f) g = absurd (omega (arith, g.more))

module _ (R : Rules) (o : List ℕ) (at : ℕ) where
  -- what the one refuses, the other refuses with the same number, place and parameter
  refused_too : (r s : Step) → Walks R o at r → Walks R o at s → (f : Fault) → r ≡ Err f → s ≡ Err f
  refused_too r s A B f e =
      (refused_iff B f (some_number A f e)).1
      (sym (judges_one (calls R) o _ _ A.judged B.judged) ∙ declined_so A f e)

  -- where the one gives a parameter, that begins there, and the other gives it too
  given_too : (r s : Step) → Walks R o at r → Walks R o at s → (told r).number ≡ 0 → (told r).more ≡ 1 → r ≡ s
  given_too r s A B z h =
      let a = A.done.0 z in
      let x = A.stands a.0 a.1 a.2 in
      let y = B.stands a.0 a.1 a.2 in
      let b = x.begins h in
      gives_one _ at _ r (x.parameter b) ∙ sym (gives_one _ at _ s (y.parameter b))

  -- any octets and any place have one step
  pub walks_one : (r s : Step) → Walks R o at r → Walks R o at s → r ≡ s
  unfolding told
  walks_one (Err f) s A B = sym (refused_too _ s A B f refl)
  walks_one (Ok (Some one)) s A B = given_too _ s A B refl refl
  walks_one (Ok None) (Err f) A B = refused_too _ _ B A f refl
  walks_one (Ok None) (Ok (Some one)) A B = sym (given_too _ _ B A refl refl)
  walks_one (Ok None) (Ok None) A B = refl

-- ---- by an edition and a way
module _ (e w : ℕ) (o : List ℕ) (at : ℕ) where
  none_one : (r : Stepped) → WalksBy e w o at r → (T (known e w) → ⊥) → r.answer ≡ Err (noted 16 0)
  none_one r A n = (told-refused r.answer 16 0 0 (omega arith)).0 ((A.sixteen 0 0).1 (refl, refl, n))

  edition-known : (r : Stepped) → WalksBy e w o at r → T (known e w) → r.edition ≡ e
  edition-known r A t = A.names (not_sixteen (book_of e w) o at r.answer (A.by_book t))

  edition_none : (r : Stepped) → WalksBy e w o at r → (T (known e w) → ⊥) → r.edition ≡ 0
  edition_none r A n = A.names_none (A.unknown n)

  module _ (r s : Stepped) (A : WalksBy e w o at r) (B : WalksBy e w o at s) where
    -- by any numbers, any octets and any place have one step, and name one edition
    pub walks_by_one : r ≡ s
    walks_by_one = go (decide (known e w))
      where
        go : T (known e w) ⊎ (T (known e w) → ⊥) → r ≡ s
        go (inl t) =
            let x = edition-known r A t ∙ sym (edition-known s B t) in
            let y = walks_one (rules_of (book_of e w)) o at _ _ (A.by_book t) (B.by_book t) in
            λ i. record { edition = x i; answer = y i }
        go (inr n) =
            let x = edition_none r A n ∙ sym (edition_none s B n) in
            let y = none_one r A n ∙ sym (none_one s B n) in
            λ i. record { edition = x i; answer = y i }
