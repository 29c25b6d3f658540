-- What the places of a desk say: the first that is one sought, whether they fit, and from place to place in a loop
-- over them.
-- Assumes nothing.
use Prim.Native.Nat.{ℕ, zero, suc, ◌+◌, ◌-◌, ◌≤◌, ◌<◌}
use mathlib.Core.Path.{◌≡◌, refl, sym, ◌∙◌, ap, subst}
use mathlib.Core.Bool.{Bool, true, false, not}
use mathlib.Core.Logic.{◌⊎◌, inl, inr}
use mathlib.Core.List.{List, [], ◌∷◌}
use native.Mathlib.Numerals.{add-one}
use native.Mathlib.Omega.{arith}
use lib.ListN.{length, take, drop, drop_of_length-le, get_or, replicate}
use lib.Seq.{drop-cons}
use lib.Dec.{T, eqb}
use Rattle.rules.specs.Tests.{◌≤?◌, ◌=?◌, ◌and◌, pick}
use Rattle.rules.proofs.Tests.{pick_yes, pick_case, both, join, decide, le_of, of_le, not_le, eq_of, of_eq}
use Rattle.std.specs.List.{list_any}
use Rattle.rules.proofs.Laying.{rest_whole}
use Rattle.rules.proofs.Telling.{telling}
use Rattle.rules.proofs.Returns.{and_t, and_f}
use Rattle.rules.specs.First.{index_of}
use Rattle.rules.proofs.First.{index_most}
use Rattle.desk.specs.References.{place_count, free, held, place_with, absent, may_stand, places_fit}
use Rattle.desk.specs.Holding.{Fit, Open}

-- ---- the first place that is p: it is p
pub first_is : (p : ℕ) (ps : List ℕ) → place_with p ps < length ps → get_or ps (place_with p ps) 0 ≡ p
unfolding index_of pick
first_is p [] h = absurd (omega arith)
first_is p (q ∷ ps) h = go (q =? p) (λ t. eq_of q p t) (first_is p ps) h
  where
    go : (b : Bool) → (T b → q ≡ p) → (place_with p ps < length ps → get_or ps (place_with p ps) 0 ≡ p) →
        pick b 0 (suc (place_with p ps)) < suc (length ps) → get_or (q ∷ ps) (pick b 0 (suc (place_with p ps))) 0 ≡ p
    go true f g h = f tt
    go false f g h = g (omega arith)

-- and none before it is
pub first_before : (p : ℕ) (ps : List ℕ) (j : ℕ) → j < place_with p ps → get_or ps j 0 ≡ p → ⊥
unfolding index_of pick
first_before p [] j h e = omega arith
first_before p (q ∷ ps) zero h e = let z = pick_yes (q =? p) 0 (suc (place_with p ps)) (of_eq q p e) in omega (arith, z)
first_before p (q ∷ ps) (suc j) h e = go (q =? p) (λ k. first_before p ps j k e) h
  where
    go : (b : Bool) → (j < place_with p ps → ⊥) → suc j < pick b 0 (suc (place_with p ps)) → ⊥
    go true g h = omega arith
    go false g h = g (omega arith)

-- none is p exactly where no test finds it
pub absent_is : (p : ℕ) (ps : List ℕ) → absent p ps ≡ not (list_any (λ (q : ℕ). eqb q p) ps)
unfolding absent index_of
absent_is p [] = grind (arith, telling)
absent_is p (q ∷ ps) = grind (arith, telling, absent_is p ps)

past : (ps : List ℕ) (i : ℕ) → length ps ≤ i → get_or ps i 0 ≡ 0
past [] i h = refl
past (p ∷ ps) zero h = absurd (omega arith)
past (p ∷ ps) (suc i) h = past ps i (omega arith)

-- a held reference stands at a place
pub open_inside : (ps : List ℕ) (i r : ℕ) → get_or ps i 0 ≡ held r → i < length ps
open_inside ps i r e = go (decide (suc i ≤? length ps))
  where
    go : T (suc i ≤? length ps) ⊎ (T (suc i ≤? length ps) → ⊥) → i < length ps
    go (inl t) = le_of _ _ t
    go (inr n) = absurd (omega (arith, past ps i (omega (arith, not_le _ _ n)), e))

-- nothing after the last place, and no place before the first, is p
pub absent_before : (p : ℕ) (ps : List ℕ) → T (absent p ps) → (i : ℕ) → i < length ps → get_or ps i 0 ≡ p → ⊥
unfolding absent
absent_before p ps t i h e = first_before p ps i (omega (arith, eq_of _ _ t)) e

-- where it is not absent, the first stands inside
pub present : (p : ℕ) (ps : List ℕ) → (T (absent p ps) → ⊥) → place_with p ps < length ps
unfolding absent
present p ps n = go (decide (suc (place_with p ps) ≤? length ps))
  where
    go : T (suc (place_with p ps) ≤? length ps) ⊎ (T (suc (place_with p ps) ≤? length ps) → ⊥) →
        place_with p ps < length ps
    go (inl t) = le_of _ _ t
    go (inr m) = absurd (n (of_eq _ _ (omega (arith, index_most p ps, not_le _ _ m))))

pub closed_of : (r : ℕ) (ps : List ℕ) → T (absent (held r) ps) → Open r ps → ⊥
closed_of r ps t o = absent_before (held r) ps t o.0 (open_inside ps o.0 r o.1) o.1

pub open_of : (r : ℕ) (ps : List ℕ) → (T (absent (held r) ps) → ⊥) → Open r ps
open_of r ps n = (place_with (held r) ps, first_is (held r) ps (present (held r) ps n))

pub absent_of : (r : ℕ) (ps : List ℕ) → (Open r ps → ⊥) → T (absent (held r) ps)
absent_of r ps n = go (decide (absent (held r) ps))
  where
    go : T (absent (held r) ps) ⊎ (T (absent (held r) ps) → ⊥) → T (absent (held r) ps)
    go (inl t) = t
    go (inr m) = absurd (n (open_of r ps m))

-- ---- in range and no reference twice
pub fit_of : (ps : List ℕ) → T (places_fit ps) → Fit ps
unfolding places_fit may_stand
fit_of [] t = record { range = λ i. omega arith; once = λ i j r l e f. omega (arith, e) }
fit_of (p ∷ ps) t =
    let k = both _ _ t in
    let w = fit_of ps k.1 in
    let z = pick_case {A = Bool} (λ (b : Bool). T b → (p ≤ 65536) × ((r : ℕ) → p ≡ held r → Open r ps → ⊥))
    (p =? free) true (p ≤? held 65535 and absent p ps)
    (λ q x. (omega (arith, eq_of _ _ q), λ r e o. omega (arith, eq_of _ _ q, e)))
    (λ q x. let y = both _ _ x in
    (le_of _ _ y.0, λ r e o. closed_of r ps (subst (λ (v : ℕ). T (absent v ps)) e y.1) o)) k.0 in
    record {
      range = is_in_range p ps z.0 w.range;
      once = only p ps z.1 w.once;
    }
  where
    is_in_range : (p : ℕ) (ps : List ℕ) → p ≤ 65536 → ((i : ℕ) → get_or ps i 0 ≤ 65536) → (i : ℕ) → get_or (p ∷ ps) i 0 ≤ 65536
    is_in_range p ps h f zero = h
    is_in_range p ps h f (suc i) = f i

    only : (p : ℕ) (ps : List ℕ) → ((r : ℕ) → p ≡ held r → Open r ps → ⊥) →
        ((i j r : ℕ) → i < j → get_or ps i 0 ≡ held r → get_or ps j 0 ≡ held r → ⊥) → (i j r : ℕ) → i < j →
        get_or (p ∷ ps) i 0 ≡ held r → get_or (p ∷ ps) j 0 ≡ held r → ⊥
    only p ps h f zero zero r l a b = omega arith
    only p ps h f zero (suc j) r l a b = h r a (j, b)
    only p ps h f (suc i) zero r l a b = omega arith
    only p ps h f (suc i) (suc j) r l a b = f i j r (omega arith) a b

pub of_fit : (ps : List ℕ) → Fit ps → T (places_fit ps)
unfolding places_fit may_stand
of_fit [] w = tt
of_fit (p ∷ ps) w =
    join _ _
    (pick_case {A = Bool} (λ (b : Bool). T b) (p =? free) true (p ≤? held 65535 and absent p ps) (λ _. tt)
    (λ q. join _ _ (of_le _ _ (w.range 0)) (alone p refl q)))
    (of_fit ps
    (record { range = λ i. w.range (suc i); once = λ i j r l a b. w.once (suc i) (suc j) r (omega arith) a b }))
  where
    alone : (v : ℕ) → p ≡ v → (T (p =? free) → ⊥) → T (absent p ps)
    alone zero e q = absurd (q (of_eq _ _ e))
    alone (suc r) e q =
        subst (λ (v : ℕ). T (absent v ps)) (sym e)
        (absent_of r ps (λ o. w.once 0 (suc o.0) r (omega arith) e o.1))

-- ---- from place to place
-- the places behind one, of all
pub behind : (ps : List ℕ) (i : ℕ) (b : Bool) → length ps ≡ place_count →
    may_stand (get_or ps i 0) (take (place_count - (i + 1)) (drop (i + 1) ps)) ≡ b →
    may_stand (get_or ps i 0) (drop (suc i) ps) ≡ b
behind ps i b e h =
    let z : take (place_count - (i + 1)) (drop (i + 1) ps) ≡ drop (suc i) ps =
    subst (λ (k : ℕ). take (k - (i + 1)) (drop (i + 1) ps) ≡ drop (suc i) ps) e
    (rest_whole (i + 1) ps ∙ ap (λ (k : ℕ). drop k ps) (add-one i)) in
    subst (λ (v : List ℕ). may_stand (get_or ps i 0) v ≡ b) z h

module _ (ps : List ℕ) (i : ℕ) where
  fit_at : i < length ps →
      places_fit (drop i ps) ≡ (may_stand (get_or ps i 0) (drop (suc i) ps) and places_fit (drop (suc i) ps))
  unfolding places_fit
  fit_at h = ap places_fit (drop-cons ps i 0 h)

  -- the places from i on decide
  module _ (e : places_fit ps ≡ places_fit (drop i ps)) where
    pub fit_more : i < length ps → may_stand (get_or ps i 0) (drop (suc i) ps) ≡ true →
        places_fit ps ≡ places_fit (drop (i + 1) ps)
    fit_more h t = e ∙ fit_at h ∙ sym (and_t _ _ _ t refl) ∙ ap (λ (k : ℕ). places_fit (drop k ps)) (sym (add-one i))

    pub fit_fails : i < length ps → may_stand (get_or ps i 0) (drop (suc i) ps) ≡ false → false ≡ places_fit ps
    fit_fails h t = and_f _ _ _ t refl ∙ sym (e ∙ fit_at h)

    pub fit_all : length ps ≤ i → true ≡ places_fit ps
    unfolding places_fit
    fit_all h = sym (e ∙ ap places_fit (drop_of_length-le ps h))

-- all places free
pub all_free : (n i : ℕ) → get_or (replicate {A = ℕ} n free) i 0 ≡ free
all_free zero i = refl
all_free (suc n) zero = refl
all_free (suc n) (suc i) = all_free n i

pub fit_free : (n : ℕ) → Fit (replicate n free)
fit_free n = record { range = λ i. omega (arith, all_free n i); once = λ i j r l a b. omega (arith, all_free n i, a) }
