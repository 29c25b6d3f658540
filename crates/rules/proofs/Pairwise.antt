-- Octets pass the test pair by pair exactly where they are the same; and what a loop that compares needs: the
-- pairs before i agree, so what is left decides.
-- Assumes nothing.
use Prim.Native.Nat.{ℕ, suc, ◌+◌, ◌≤◌, ◌<◌}
use mathlib.Core.Path.{◌≡◌, refl, sym, ◌∙◌, ap, ap₂}
use mathlib.Core.Bool.{Bool, true, false}
use mathlib.Core.List.{List, [], ◌∷◌}
use native.Mathlib.Numerals.{add-one}
use lib.ListN.{length, drop, get_or, drop_of_length-le}
use lib.Seq.{drop-cons}
use lib.Dec.{T}
use Rattle.rules.specs.Tests.{◌and◌}
use Rattle.rules.proofs.Tests.{both, join, eq_of, of_eq}
use Rattle.rules.specs.Pairwise.{pairwise, same_octets}

pub octets_are : (v w : List ℕ) → T (same_octets v w) → v ≡ w
unfolding pairwise
octets_are [] [] t = refl
octets_are [] (y ∷ w) t = absurd t
octets_are (x ∷ v) [] t = absurd t
octets_are (x ∷ v) (y ∷ w) t =
    let b = both _ _ t in
    ap₂ (λ (x : ℕ) (v : List ℕ). x ∷ v) (eq_of _ _ b.0) (octets_are v w b.1)

pub octets_self : (v : List ℕ) → T (same_octets v v)
unfolding pairwise
octets_self [] = tt
octets_self (x ∷ v) = join _ _ (of_eq x x refl) (octets_self v)

-- ---- the loop
and_false : (b : Bool) → (b and false) ≡ false
unfolding ◌and◌
and_false true = refl
and_false false = refl

module _ {A : Type 0} (f : A → A → Bool) where
  -- lists of two lengths
  pub uneven : (xs ys : List A) → (length xs ≡ length ys → ⊥) → false ≡ pairwise f xs ys
  unfolding pairwise
  uneven [] [] n = absurd (n refl)
  uneven [] (y ∷ ys) n = refl
  uneven (x ∷ xs) [] n = refl
  uneven (x ∷ xs) (y ∷ ys) n =
      sym (and_false (f x y)) ∙ ap (λ (b : Bool). f x y and b) (uneven xs ys (λ e. n (ap suc e)))

  module _ (xs ys : List A) (i : ℕ) (inv : pairwise f (drop i xs) (drop i ys) ≡ pairwise f xs ys) where
    pub compared : length xs ≤ i → length ys ≤ i → true ≡ pairwise f xs ys
    unfolding pairwise
    compared h k = sym (ap₂ (pairwise f) (drop_of_length-le xs h) (drop_of_length-le ys k)) ∙ inv

    module _ (z : A) (h : i < length xs) (k : i < length ys) where
      one : (l : List A) → i < length l → drop i l ≡ get_or l i z ∷ drop (i + 1) l
      one l q = drop-cons l i z q ∙ ap (λ (n : ℕ). get_or l i z ∷ drop n l) (sym (add-one i))

      step : pairwise f (drop i xs) (drop i ys) ≡
          (f (get_or xs i z) (get_or ys i z) and pairwise f (drop (i + 1) xs) (drop (i + 1) ys))
      unfolding pairwise
      step = ap₂ (pairwise f) (one xs h) (one ys k)

      -- the pair at i agrees
      pub agrees : f (get_or xs i z) (get_or ys i z) ≡ true →
          pairwise f (drop (i + 1) xs) (drop (i + 1) ys) ≡ pairwise f xs ys
      unfolding ◌and◌
      agrees e = sym (step ∙ ap (λ (b : Bool). b and pairwise f (drop (i + 1) xs) (drop (i + 1) ys)) e) ∙ inv

      pub differs : f (get_or xs i z) (get_or ys i z) ≡ false → false ≡ pairwise f xs ys
      unfolding ◌and◌
      differs e = sym (step ∙ ap (λ (b : Bool). b and pairwise f (drop (i + 1) xs) (drop (i + 1) ys)) e) ∙ inv
