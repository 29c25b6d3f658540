-- The octets from a header on come to one stop.
-- Assumes nothing.
use Rattle.std.proofs.Common.{◌≡◌, ℕ, ◌+◌, List, sym, refl, ap, ◌∙◌, subst, arith}
use Rattle.rules.proofs.Tests.{clash}
use Rattle.rules.specs.Table.{Rules}
use Rattle.rules.specs.Machine.{Waits}
use Rattle.rules.specs.declared.Fault.{Fault}
use Rattle.rules.specs.declared.State.{State}
use Rattle.rules.specs.declared.State.TheVariants.{Message, Refused}
use Rattle.turns.specs.declared.Stop.{Stop}
use Rattle.turns.specs.Turns.{stop, Along, Turned, from}

same_size : (n m : ℕ) → Message (0 + n) ≡ Message (0 + m) → n ≡ m
same_size n m e = let k : 0 + n ≡ 0 + m = cc in omega arith

no_refusal : (n : ℕ) (f : Fault) → Message n ≡ Refused f → ⊥
no_refusal n f e = clash cc

same_fault : (f g : Fault) → Refused f ≡ Refused g → f ≡ g
same_fault f g e = cc

-- the same place, room, sum and number of parameters
module _ (R : Rules) (o : List ℕ) where
  along_one : {at room sum count n r v c n' r' v' c' : ℕ} → Along R o at room sum count n r v c →
      Along R o at room sum count n' r' v' c' → stop 8 n r v c ≡ stop 8 n' r' v' c'
  along_one (Along.stays e) (Along.stays f) = refl
  along_one (Along.stays e) (Along.goes f b) = absurd (clash cc)
  along_one (Along.goes e a) (Along.stays f) = absurd (clash cc)
  along_one (Along.goes e a) (Along.goes f b) = along_one a b

  module _ (at room sum count : ℕ) where
    abbrev To : Stop → Type 0
    To s = Turned R o at room sum count s

    -- what each way says of the octets themselves, with nothing before them
    abbrev Ends : Stop → State → Type 0
    Ends s w = (t : Stop) → To t → from R o at room sum count 0 0 ≡ w → s ≡ t

    at_whole : (n : ℕ) → Ends (stop 0 n 0 0 0) (Message (0 + n))
    at_whole n t (Turned.whole m g) e = ap (λ (k : ℕ). stop 0 k 0 0 0) (same_size n m (sym e ∙ g 0 0))
    at_whole n t (Turned.early m r v c a w) e = absurd (subst Waits e (w 0 0))
    at_whole n t (Turned.unsealed m g) e = absurd (no_refusal _ _ (sym e ∙ g 0 0))
    at_whole n t (Turned.spoilt k m c x y z g) e = absurd (no_refusal _ _ (sym e ∙ g 0 0))

    at_fault : (k n c : ℕ) (f : Fault) → (k ≡ 0 → ⊥) → (k ≡ 8 → ⊥) →
        (f.number ≡ k) → (f.place ≡ 0 + n) → ((k ≡ 6) → c ≡ 0) → ((k ≡ 6 → ⊥) → f.parameter ≡ 0 + c) →
        Ends (stop k n 0 0 c) (Refused f)
    at_fault k n c f x y p q u w t (Turned.whole m g) e = absurd (no_refusal _ _ (sym (g 0 0) ∙ e))
    at_fault k n c f x y p q u w t (Turned.early m r v d a z) e = absurd (subst Waits e (z 0 0))
    at_fault k n c f x y p q u w t (Turned.unsealed m g) e =
        let s = same_fault _ _ (sym e ∙ g 0 0) in
        let i : k ≡ 6 = sym p ∙ ap (λ (z : Fault). z.number) s in
        let j : n ≡ m = omega (arith, q, ap (λ (z : Fault). z.place) s) in
        let l : c ≡ 0 = u i in
        λ z. stop (i z) (j z) 0 0 (l z)
    at_fault k n c f x y p q u w t (Turned.spoilt k' m c' x' y' z' g) e =
        let s = same_fault _ _ (sym e ∙ g 0 0) in
        let i : k ≡ k' = sym p ∙ ap (λ (z : Fault). z.number) s in
        let j : n ≡ m = omega (arith, q, ap (λ (z : Fault). z.place) s) in
        let l : c ≡ c' = omega (arith, w (λ h. y' (sym i ∙ h)), ap (λ (z : Fault). z.parameter) s) in
        λ z. stop (i z) (j z) 0 0 (l z)

    pub turned_one : (s s' : Stop) → To s → To s' → s ≡ s'
    turned_one s s' (Turned.whole n f) t = at_whole n s' t (f 0 0)
    turned_one s s' (Turned.early m r v c a w) (Turned.whole n f) = absurd (subst Waits (f 0 0) (w 0 0))
    turned_one s s' (Turned.early m r v c a w) (Turned.early m' r' v' c' a' w') = along_one a a'
    turned_one s s' (Turned.early m r v c a w) (Turned.unsealed n f) = absurd (subst Waits (f 0 0) (w 0 0))
    turned_one s s' (Turned.early m r v c a w) (Turned.spoilt k n d x y z f) = absurd (subst Waits (f 0 0) (w 0 0))
    turned_one s s' (Turned.unsealed n f) t =
        at_fault 6 n 0 _ (λ q. absurd (omega arith)) (λ q. absurd (omega arith)) refl refl (λ _. refl)
        (λ h. absurd (h refl)) s' t (f 0 0)
    turned_one s s' (Turned.spoilt k n c x y z f) t =
        at_fault k n c _ x z refl refl (λ h. absurd (y h)) (λ _. refl) s' t (f 0 0)
