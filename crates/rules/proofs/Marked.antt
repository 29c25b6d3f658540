-- A first octet and a text behind it, as far as they go (document 02, Q-4): the selector of a terminal's function and
-- its digits, or its code; a display's first octet and its characters.
-- Assumes nothing.
use Prim.Native.Nat.{ℕ, zero, suc, ◌+◌, ◌-◌, ◌≤◌}
use mathlib.Core.Path.{◌≡◌, refl, sym, ◌∙◌, ap, ap₂}
use mathlib.Core.Bool.{Bool, true, false}
use mathlib.Core.Logic.{◌⊎◌, inl, inr}
use mathlib.Core.List.{List, [], ◌∷◌}
use native.Mathlib.Omega.{arith}
use lib.ListN.{length, take, drop, get_or, length-drop}
use lib.Seq.{take_all}
use lib.Dec.{T}
use Rattle.rules.specs.Tests.{◌≤?◌, ◌=?◌, ◌and◌, ◌or◌, pick}
use Rattle.rules.proofs.Tests.{both, either, le_of, eq_of, pick_yes, pick_not, of_eq}
use Rattle.rules.proofs.Returns.{T_of}
use Rattle.rules.specs.Contents.{Range, within, in_set}
use Rattle.rules.specs.Table.{number_set, name_set, display_set}
use Rattle.rules.specs.Terminal.{terminal_by, terminal_keep}
use Rattle.rules.specs.ContentJudge.{Judge, passing, text_judge, terminal_judge, headed_judge, head_by, judge_of, good_front}
use Rattle.rules.specs.OctetRows.{kind_set, kind_front}
use Rattle.rules.specs.declared.Class.TheVariants.{Terminal, Display}

-- octets that a judge takes from the second on exactly where they are of a set, and of which it remembers nothing
as_text : (j : Judge) (s : List Range) (n : ℕ) → ((i x : ℕ) → in_set s x ≡ j.ok n (suc i) 0 x) →
    ((i x : ℕ) → 0 ≡ j.keep n (suc i) 0 x) → (l k i : ℕ) (v : List ℕ) →
    passing (text_judge s) l k 0 v ≡ passing j n (suc i) 0 v
unfolding passing
as_text j s n f g l k i [] = refl
as_text j s n f g l k i (x ∷ v) =
    ap₂ (λ (b : Bool) (r : ℕ). pick b (suc r) 0) (f i x)
    (as_text j s n f g l (suc k) (suc i) v ∙ ap (λ (m : ℕ). passing j n (suc (suc i)) m v) (g i x))

-- a first octet that may not stand, and one that may
stops : (j : Judge) (n : ℕ) (v : List ℕ) → 1 ≤ length v → j.ok n 0 0 (get_or v 0 0) ≡ false → 0 ≡ passing j n 0 0 v
unfolding passing
stops j n [] h e = absurd (omega arith)
stops j n (x ∷ v) h e = sym (pick_not _ _ _ (λ t. rw e at t))

goes : (j : Judge) (n : ℕ) (v : List ℕ) → 1 ≤ length v → j.ok n 0 0 (get_or v 0 0) ≡ true →
    1 + passing j n 1 (j.keep n 0 0 (get_or v 0 0)) (drop 1 v) ≡ passing j n 0 0 v
unfolding passing
goes j n [] h e = absurd (omega arith)
goes j n (x ∷ v) h e = omega (arith, pick_yes (j.ok n 0 0 x) (suc (passing j n 1 (j.keep n 0 0 x) v)) 0 (T_of _ e))

-- the octets behind the first, as the code lends them
pub behind_first : (v : List ℕ) → 1 ≤ length v → take (length v - 1) (drop 1 v) ≡ drop 1 v
behind_first v h = take_all (length v - 1) (drop 1 v) (omega (arith, length-drop 1 v))

-- ---- a display
module _ (v : List ℕ) (h : 1 ≤ length v) where
  pub display_stops : in_set display_set (get_or v 0 0) ≡ false → 0 ≡ good_front Display v
  unfolding judge_of head_by
  display_stops e = stops (headed_judge display_set name_set) _ v h e

  pub display_goes : in_set display_set (get_or v 0 0) ≡ true → (k : ℕ) → k ≡ kind_front 4 (drop 1 v) →
      1 + k ≡ good_front Display v
  unfolding judge_of head_by kind_set pick ◌=?◌
  display_goes e k q =
      ap (λ (r : ℕ). 1 + r)
      (q ∙ as_text (headed_judge display_set name_set) name_set (length v) (λ i x. refl) (λ i x. refl) _ 0 0 (drop 1 v))
      ∙ goes (headed_judge display_set name_set) (length v) v h e

-- ---- a terminal
-- what may come first, of n octets
abbrev selected : ℕ → ℕ → Bool
selected n x = within (2, 3) x or (n =? 2 and x =? 1)

pub connection_two : (n x : ℕ) → selected n x ≡ true → x ≡ 1 → n ≡ 2
unfolding within
connection_two n x e q = go (either _ _ (T_of _ e))
  where
    go : T (2 ≤? x and x ≤? 3) ⊎ T (n =? 2 and x =? 1) → n ≡ 2
    go (inl t) = absurd (omega (arith, le_of _ _ (both _ _ t).0))
    go (inr t) = eq_of _ _ (both _ _ t).0

module _ (v : List ℕ) (h : 1 ≤ length v) where
  pub terminal_stops : selected (length v) (get_or v 0 0) ≡ false → 0 ≡ good_front Terminal v
  unfolding judge_of terminal_by
  terminal_stops e = stops (terminal_judge number_set) _ v h e

  pub terminal_digits : selected (length v) (get_or v 0 0) ≡ true → (get_or v 0 0 ≡ 1 → ⊥) → (k : ℕ) →
      k ≡ kind_front 2 (drop 1 v) → 1 + k ≡ good_front Terminal v
  unfolding judge_of terminal_by terminal_keep kind_set pick ◌=?◌
  terminal_digits e z k q =
      ap (λ (r : ℕ). 1 + r)
      (q
      ∙ as_text (terminal_judge number_set) number_set (length v) (λ i x. refl) (λ i x. refl) _ 0 0 (drop 1 v)
      ∙ ap (λ (m : ℕ). passing (terminal_judge number_set) (length v) 1 m (drop 1 v))
      (sym (pick_not (get_or v 0 0 =? 1) 1 0 (λ t. z (eq_of _ _ t)))))
      ∙ goes (terminal_judge number_set) (length v) v h e

-- a connection type's code
pub terminal_code : (v : List ℕ) → length v ≡ 2 → selected (length v) (get_or v 0 0) ≡ true → get_or v 0 0 ≡ 1 → (b : Bool) →
    (get_or v 1 0 ≤? 7) ≡ b → pick b 2 1 ≡ good_front Terminal v
unfolding judge_of passing terminal_by terminal_keep pick ◌=?◌
terminal_code [] l e q b c = absurd (omega arith)
terminal_code (x ∷ []) l e q b c = absurd (omega arith)
terminal_code (x ∷ y ∷ []) l e q b c =
    last b ∙ ap (λ (o : Bool). suc (pick o 1 0)) (sym c)
    ∙ ap (λ (m : ℕ). suc (pick (pick (m =? 1) (y ≤? 7) (in_set number_set y)) 1 0))
    (sym (pick_yes (x =? 1) 1 0 (of_eq _ _ q)))
    ∙ sym (pick_yes (selected 2 x) _ 0 (T_of _ e))
  where
    last : (b : Bool) → pick b 2 1 ≡ suc (pick {A = ℕ} b 1 0)
    last true = refl
    last false = refl
terminal_code (x ∷ y ∷ z ∷ v) l e q b c = absurd (omega arith)

-- an octet behind the first is judged by what d says
pub behind_mark : (d : Bool) (s : List Range) (i x : ℕ) → (i ≡ 0 → ⊥) → d ≡ head_by d s i x
unfolding head_by
behind_mark d s zero x z = absurd (z refl)
behind_mark d s (suc i) x z = refl
