-- What the promise of `same` says of any two drafts, each with its text area.
-- Assumes nothing.
use Prim.Native.Nat.{ℕ}
use mathlib.Core.Path.{◌≡◌, sym, ◌∙◌, subst}
use mathlib.Core.Bool.{Bool}
use mathlib.Core.Logic.{◌⊎◌, inl, inr, ◌↔◌}
use mathlib.Core.List.{List}
use lib.Dec.{T}
use Rattle.rules.specs.Editions.{edition}
use Rattle.draft.specs.declared.Draft.{Draft}
use Rattle.draft.specs.Draft.{Equal, message_of}
use Rattle.draft.specs.Same.{same_draft}
use Rattle.draft.proofs.Packing.{equal_stand}
use Rattle.draft.proofs.Alike.{same_equal}
use Rattle.draft.proofs.same.Reads as same

-- of the draft d with the text area s and the draft e with t, `same` answers x
abbrev pub SameGives : Draft → List ℕ → Draft → List ℕ → Bool → Type 0
SameGives d s e t x =
    (κs : _) × (a : _) × (z : _) × same.Post κs a x z × (a.0 ≡ d) × (a.1.0.now ≡ s) × (a.1.1.0 ≡ e)
    × (a.1.1.1.0.now ≡ t)

module _ (d : Draft) (s : List ℕ) (e : Draft) (t : List ℕ) (x : Bool) (h : SameGives d s e t x) where
  -- it answers true exactly where they are equal
  pub same_tells : T x ↔ Equal d s e t
  same_tells =
      subst (λ (y : Bool). T y ↔ Equal d s e t) (sym (h.3 ∙ (λ i. same_draft (h.4 i) (h.5 i) (h.6 i) (h.7 i))))
      (same_equal d s e t)

  -- and then they stand for the same message
  pub same_stands : T x → message_of d s ≡ message_of e t
  same_stands y = equal_stand d s e t (same_tells.0 y)

  -- drafts of two editions are never equal, and one of an unknown edition, on either side, equals none (document 02,
  -- Q-5)
  pub editions_apart : (d.edition ≡ e.edition → ⊥) → T x → ⊥
  editions_apart n y = n (same_tells.0 y).edition

  pub unknown_apart : (T (edition d.edition) → ⊥) ⊎ (T (edition e.edition) → ⊥) → T x → ⊥
  unknown_apart (inl n) y = n (same_tells.0 y).known
  unknown_apart (inr n) y =
      let q = same_tells.0 y in n (subst (λ (k : ℕ). T (edition k)) q.edition q.known)
