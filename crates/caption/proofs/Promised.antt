-- What the promises of `find` and `caption` say over the written rules, for whatever outcomes they allow (document
-- 01, The caption; document 02, Q-5).
-- Assumes nothing.
use Rattle.std.proofs.Common.{Result, Err, Ok}
use Prim.Native.Nat.{ℕ, ◌≤◌}
use mathlib.Core.Path.{◌≡◌, refl, sym, ◌∙◌, ap, subst}
use mathlib.Core.Logic.{◌↔◌}
use mathlib.Core.List.{List, []}
use native.Mathlib.Omega.{arith}
use lib.Dec.{T}
use Rattle.rules.specs.Octets.{Octets}
use Rattle.rules.specs.Table.{rules_of}
use Rattle.rules.specs.Editions.{known, book_of}
use Rattle.rules.proofs.Unique.{unique_in}
use Rattle.rules.specs.Message.{Message, octets, LegalMessage}
use Rattle.rules.specs.declared.Fault.{Fault}
use Rattle.caption.specs.declared.Shown.{Shown}
use Rattle.caption.specs.declared.Shown.TheVariants.{InMessage, InDirectory}
use Rattle.caption.specs.Told.{told, Finding}
use Rattle.caption.specs.Caption.{slice_of, part_text, find_in, caption_in, code_of}
use Rattle.caption.specs.Finds.{Captions, FindsBy}
use Rattle.caption.proofs.Editions as editions
use Rattle.caption.proofs.find.Reads as find
use Rattle.caption.proofs.caption.Reads as caption

-- by the edition e and the way w, of the octets o and the directory d, `find` answers r
abbrev pub FindGives : ℕ → ℕ → List ℕ → List ℕ → Finding → Type 0
FindGives e w o d r =
    (κs : _) × (a : _) × (s : _) × find.Post κs a r s × (a.0 ≡ e) × (a.1.0 ≡ w) × (a.1.1.0.now ≡ o)
    × (a.1.1.1.0.now ≡ d)

-- likewise `caption`, lent a code that held x: the part's octets are p, and the code then holds y
abbrev pub CaptionGives : ℕ → ℕ → List ℕ → List ℕ → ℕ → List ℕ → ℕ → Type 0
CaptionGives e w o d x p y =
    (κs : _) × (a : _) × (r : _) × (s : _) × caption.Post κs a r s × (a.0 ≡ e) × (a.1.0 ≡ w)
    × (a.1.1.0.now ≡ o) × (a.1.1.1.0.now ≡ d) × (a.1.1.1.1.0.now ≡ x) × (r.now ≡ p)
    × (s.1.1.1.1.0.now ≡ y)

module _ (e w : ℕ) (o d : List ℕ) where
  pub find_is : (r : Finding) → FindGives e w o d r → r ≡ find_in e w o d
  find_is r h = h.3 ∙ (λ i. find_in (h.4 i) (h.5 i) (h.6 i) (h.7 i))

  caption_is : (x : ℕ) (p : List ℕ) (y : ℕ) → CaptionGives e w o d x p y →
      (p ≡ part_text (find_in e w o d).answer o d) × (y ≡ code_of (find_in e w o d).answer x)
  unfolding caption_in
  caption_is x p y h = (
    sym h.10 ∙ h.4.0 ∙ (λ i. caption_in (h.5 i) (h.6 i) (h.7 i) (h.8 i)),
    sym h.11 ∙ h.4.1 ∙ (λ i. code_of (find_in (h.5 i) (h.6 i) (h.7 i) (h.8 i)).answer (h.9 i)),
  )

  -- any numbers, any octets and any directory: by known numbers, by their book, refused exactly as the whole read, and
  -- else the part of the rule (`Finds`); by unknown ones 16; always inside the slice that it names (`FindsBy`)
  pub finding : (r : Finding) → FindGives e w o d r → Octets o → FindsBy e w o d r
  finding r h q = subst (FindsBy e w o d) (sym (find_is r h)) (editions.finds_by e w o d q)

  -- of a legal message, by known numbers: the name, else the directory's text for the caller, else the caller, else
  -- the empty part at the message's start
  pub caption_of : (r : Finding) → FindGives e w o d r → T (known e w) → (m : Message) →
      LegalMessage (rules_of (book_of e w)) m → octets m ≡ o → Captions (rules_of (book_of e w)) m d r.answer
  caption_of r h t m l q = ((finding r h ((unique_in (book_of e w)).octets _ (m, l, q))).by_book t).caption m l q

  module _ (r : Finding) (h : FindGives e w o d r) (x : ℕ) (p : List ℕ) (y : ℕ)
      (k : CaptionGives e w o d x p y) where
    -- `caption` returns the octets of the part that `find` finds, and its side in the code, which stays with a refusal
    pub same_part : (p ≡ part_text r.answer o d) × (y ≡ code_of r.answer x)
    same_part =
        let c = caption_is x p y k in
        let q = ap (λ (z : Finding). z.answer) (sym (find_is r h)) in
        (c.0 ∙ ap (λ (z : Result Shown Fault). part_text z o d) q, c.1 ∙ ap (λ (z : Result Shown Fault). code_of z x) q)

    -- a code that is no side is found again exactly where `find` refuses, and tells which refusal; the part
    -- is empty
    pub code_kept : 2 ≤ x → (y ≡ x) ↔ ((f : Fault) × (r.answer ≡ Err f) × (p ≡ []))
    unfolding code_of part_text told slice_of
    code_kept n = (
      λ q. kept r.answer (sym same_part.1 ∙ q) same_part.0,
      λ f. same_part.1 ∙ ap (λ (z : Result Shown Fault). code_of z x) f.1,
    )
      where
        kept : (s : Result Shown Fault) → code_of s x ≡ x → p ≡ part_text s o d → (f : Fault) × (s ≡ Err f) × (p ≡ [])
        kept (Ok (InMessage start m)) c t = absurd (omega (arith, c, n))
        kept (Ok (InDirectory start m)) c t = absurd (omega (arith, c, n))
        kept (Err f) c t = (f, refl, t)

  -- by unknown numbers, which are `find`'s 16, the part is the empty one at the message's start, and the code stays
  pub unknown_kept : (x : ℕ) (p : List ℕ) (y : ℕ) → CaptionGives e w o d x p y → (T (known e w) → ⊥) →
      (p ≡ []) × (y ≡ x)
  unfolding code_of part_text told slice_of
  unknown_kept x p y k n =
      let c = caption_is x p y k in
      let q = ap (λ (z : Finding). z.answer) (editions.unknown_is e w o d n) in
      (c.0 ∙ ap (λ (z : Result Shown Fault). part_text z o d) q, c.1 ∙ ap (λ (z : Result Shown Fault). code_of z x) q)
