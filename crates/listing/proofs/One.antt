-- The sentences on a listing leave one text: lines that are told by the message and rise in one order are the same
-- lines, and a refusal is the verdict's.
-- Assumes nothing.
use Rattle.std.proofs.Common.{ℕ, Result, Ok, Err}
use Prim.Native.Nat.{ℕ, suc, ◌-◌, ◌≤◌}
use mathlib.Core.Path.{◌≡◌, refl, sym, ◌∙◌, ap, ap₂}
use mathlib.Core.Logic.{◌⊎◌, inl, inr}
use mathlib.Core.List.{List, [], ◌∷◌, ◌++◌}
use native.Mathlib.Omega.{arith}
use lib.ListN.{length, replicate, take-append-drop}
use lib.Seq.{length-take-le}
use Rattle.rules.specs.Table.{Rules}
use Rattle.rules.specs.Message.{Message}
use Rattle.rules.specs.Language.{calls}
use Rattle.rules.specs.declared.Fault.{Fault}
use Rattle.message.proofs.Told.{told-declined, accepted_iff, some_number}
use Rattle.message.proofs.One.{judges_one}
use Rattle.listing.specs.declared.ListingText.{ListingText}
use Rattle.listing.specs.Listing.{Line, written, buffer_size}
use Rattle.listing.specs.Lists.{Has, line_place, Rising, Lines, Lists}

module _ (R : Rules) where
  -- lines that rise from n on have no place before it
  rising_from : (n : ℕ) (ls : List Line) (l : Line) → Rising R n ls → Has ls l → n ≤ line_place R l
  rising_from n [] l r h = absurd h
  rising_from n (k ∷ ls) l r (inl e) = omega (arith, r.0, ap (line_place R) e)
  rising_from n (k ∷ ls) l r (inr h) = omega (arith, r.0, rising_from (suc (line_place R k)) ls l r.1 h)

  -- two that rise and have the same lines are the same: the first of each has the lowest place of all
  rising_one : (n k : ℕ) (a b : List Line) → Rising R n a → Rising R k b →
      ((l : Line) → Has a l → Has b l) → ((l : Line) → Has b l → Has a l) → a ≡ b
  rising_one n k [] [] r s f g = refl
  rising_one n k [] (y ∷ b) r s f g = absurd (g y (inl refl))
  rising_one n k (x ∷ a) [] r s f g = absurd (f x (inl refl))
  rising_one n k (x ∷ a) (y ∷ b) r s f g =
      ap₂ ◌∷◌ first
      (rising_one (suc (line_place R x)) (suc (line_place R y)) a b r.1 s.1 (λ l h. behind_x l h (f l (inr h)))
      (λ l h. behind_y l h (g l (inr h))))
    where
      first : x ≡ y
      first = go (f x (inl refl)) (g y (inl refl))
        where
          go : (x ≡ y) ⊎ Has b x → (y ≡ x) ⊎ Has a y → x ≡ y
          go (inl e) i = e
          go (inr h) (inl e) = sym e
          go (inr h) (inr i) = absurd (omega (arith, rising_from _ b x s.1 h, rising_from _ a y r.1 i))

      behind_x : (l : Line) → Has a l → (l ≡ y) ⊎ Has b l → Has b l
      behind_x l h (inl e) = absurd (omega (arith, rising_from _ a l r.1 h, ap (line_place R) (e ∙ sym first)))
      behind_x l h (inr i) = i

      behind_y : (l : Line) → Has b l → (l ≡ x) ⊎ Has a l → Has a l
      behind_y l h (inl e) = absurd (omega (arith, rising_from _ b l s.1 h, ap (line_place R) (e ∙ first)))
      behind_y l h (inr i) = i

  -- a message has one list of lines
  pub lines_one : (m : Message) (a b : List Line) → Lines R m a → Lines R m b → a ≡ b
  lines_one m a b A B =
      rising_one 0 0 a b A.ordered B.ordered
      (λ l h. (B.said l).1 ((A.said l).0 h)) (λ l h. (A.said l).1 ((B.said l).0 h))

  module _ (o : List ℕ) (r s : ListingText) (A : Lists R o r) (B : Lists R o s) where
    same_lines : (v : Result ℕ Fault) → A.verdict ≡ v → A.lines ≡ B.lines
    same_lines (Ok n) e =
        let a = ((accepted_iff A.judged n).0 e).1 in
        lines_one a.0 _ _ (A.message a.0 a.1 a.2) (B.message a.0 a.1 a.2)
    same_lines (Err f) e =
        let k = f.number in
        let p = f.place in
        let b = f.parameter in
        let l = some_number A.judged f e in
        let t = (told-declined _ k p b l).1 e in
        let z = sym (judges_one (calls R) o _ _ A.judged B.judged) ∙ e in
        A.refused k p b l t ∙ sym (B.refused k p b l ((told-declined _ k p b l).1 z))

    -- any octets have one listing
    pub lists_one : r ≡ s
    lists_one =
        let t = A.text ∙ ap written (same_lines A.verdict refl) ∙ sym B.text in
        let n = sym (length-take-le _ _ A.inside) ∙ ap length t ∙ length-take-le _ _ B.inside in
        let z = A.zeros ∙ ap (λ (k : ℕ). replicate (buffer_size - k) 0) n ∙ sym B.zeros in
        let x = take-append-drop r.length r.octets in
        let y = take-append-drop s.length s.octets in
        let w = sym x ∙ ap₂ ◌++◌ t z ∙ y in
        λ i. record { octets = w i; length = n i }
