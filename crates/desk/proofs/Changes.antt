-- What adding and taking out a reference leave in the places of a desk, and that the same change again leaves what it
-- left.
-- Assumes nothing.
use Prim.Native.Nat.{ℕ, zero, suc, ◌≤◌, ◌<◌}
use mathlib.Core.Path.{◌≡◌, refl, sym, ◌∙◌, ap}
use mathlib.Core.Logic.{◌⊎◌, inl, inr, ◌↔◌}
use mathlib.Core.List.{List, [], ◌∷◌}
use native.Mathlib.Omega.{arith}
use lib.ListN.{length, length-set, set, get_or}
use lib.Seq.{set_out, get_or-set_same, get_or-set_other}
use lib.Dec.{T}
use Rattle.rules.specs.Tests.{◌≤?◌, ◌=?◌}
use Rattle.rules.proofs.Tests.{pick_yes, pick_not, pick_case, both, join, decide, le_of, not_le, eq_of, of_eq}
use Rattle.desk.specs.declared.Change.{Change}
use Rattle.desk.specs.declared.Change.TheVariants.{Nothing, Adds, Removes}
use Rattle.desk.specs.References.{free, held, place_with, absent, is_full, places_after}
use Rattle.desk.specs.Holding.{Open, Fit, Full, Lowest, Removed, Added}
use Rattle.desk.proofs.Holding.{first_is, first_before, open_inside, absent_before, present, closed_of, open_of, absent_of}

-- ---- one place changed
-- a reference held after it was put there, or was held before
held_from : (ps : List ℕ) (k x i r : ℕ) → get_or (set ps k x) i 0 ≡ held r →
    ((i ≡ k) × (x ≡ held r)) ⊎ (get_or ps i 0 ≡ held r)
held_from ps k x i r e = go (decide (i =? k)) (decide (suc k ≤? length ps))
  where
    go : T (i =? k) ⊎ (T (i =? k) → ⊥) → T (suc k ≤? length ps) ⊎ (T (suc k ≤? length ps) → ⊥) →
        ((i ≡ k) × (x ≡ held r)) ⊎ (get_or ps i 0 ≡ held r)
    go (inl t) (inl l) =
        let z = eq_of i k t in
        inl (z, sym (get_or-set_same ps k x 0 (le_of _ _ l)) ∙ ap (λ (j : ℕ). get_or (set ps k x) j 0) (sym z) ∙ e)
    go (inl t) (inr n) = inr (ap (λ (l : List ℕ). get_or l i 0) (sym (set_out ps k x (omega (arith, not_le _ _ n)))) ∙ e)
    go (inr n) l = inr (sym (get_or-set_other ps k i x 0 (λ z. n (of_eq i k z))) ∙ e)

-- one that stood elsewhere is still held
held_still : (ps : List ℕ) (k x i r : ℕ) → (i ≡ k → ⊥) → get_or ps i 0 ≡ held r → get_or (set ps k x) i 0 ≡ held r
held_still ps k x i r n e = get_or-set_other ps k i x 0 n ∙ e

range_set : (ps : List ℕ) (k x : ℕ) → x ≤ 65536 → ((i : ℕ) → get_or ps i 0 ≤ 65536) → (i : ℕ) →
    get_or (set ps k x) i 0 ≤ 65536
range_set [] k x h f i = f i
range_set (p ∷ ps) zero x h f zero = h
range_set (p ∷ ps) zero x h f (suc i) = f (suc i)
range_set (p ∷ ps) (suc k) x h f zero = f 0
range_set (p ∷ ps) (suc k) x h f (suc i) = range_set ps k x h (λ j. f (suc j)) i

-- the first free place is the lowest
lowest_first : (ps : List ℕ) → place_with free ps < length ps → Lowest ps (place_with free ps)
lowest_first ps h = record {
  inside = h;
  is_free = first_is free ps h;
  below = λ j l. some_held (get_or ps j 0) refl (λ e. first_before free ps j l e);
}
  where
    some_held : {v : ℕ} (p : ℕ) → v ≡ p → (v ≡ free → ⊥) → (s : ℕ) × (v ≡ held s)
    some_held zero e n = absurd (n e)
    some_held (suc s) e n = (s, e)

module _ (r : ℕ) (ps : List ℕ) where
  -- 21 exactly where all places hold others
  pub full_of : T (is_full (Adds r) ps) → Full r ps
  unfolding is_full
  full_of t i h =
      let k = both _ _ t in
      other (get_or ps i 0) refl (absent_before free ps k.1 i h) (λ e. closed_of r ps k.0 (i, e))
    where
      other : (p : ℕ) → get_or ps i 0 ≡ p → (get_or ps i 0 ≡ free → ⊥) → (get_or ps i 0 ≡ held r → ⊥) →
          (s : ℕ) × (get_or ps i 0 ≡ held s) × (s ≡ r → ⊥)
      other zero e n m = absurd (n e)
      other (suc s) e n m = (s, e, λ x. m (e ∙ ap suc x))

  pub of_full : Full r ps → T (is_full (Adds r) ps)
  unfolding is_full
  of_full f = join _ _ (absent_of r ps none_open) (none_free (decide (absent free ps)))
    where
      none_open : Open r ps → ⊥
      none_open o = let k = f o.0 (open_inside ps o.0 r o.1) in k.2 (omega (arith, k.1, o.1))

      none_free : T (absent free ps) ⊎ (T (absent free ps) → ⊥) → T (absent free ps)
      none_free (inl t) = t
      none_free (inr n) =
          let h = present free ps n in
          let k = f (place_with free ps) h in
          absurd (omega (arith, k.1, first_is free ps h))

  free_there : (T (is_full (Adds r) ps) → ⊥) → T (absent (held r) ps) → place_with free ps < length ps
  unfolding is_full
  free_there n t = present free ps (λ u. n (join _ _ t u))

  pub added : (T (is_full (Adds r) ps) → ⊥) → Added r ps (places_after (Adds r) ps)
  unfolding places_after
  added n = record {
    there = λ o. pick_not _ _ _ (λ t. closed_of r ps t o);
    new = λ m. let t = absent_of r ps m in (place_with free ps, lowest_first ps (free_there n t), pick_yes _ _ _ t);
    holds =
        pick_case (Open r) (absent (held r) ps) _ _
        (λ t. (place_with free ps, get_or-set_same ps (place_with free ps) (held r) 0 (free_there n t)))
        (λ m. open_of r ps m);
  }

  -- other references stay, in their places
  pub others_added : (T (is_full (Adds r) ps) → ⊥) → (s i : ℕ) → (s ≡ r → ⊥) →
      (get_or ps i 0 ≡ held s) ↔ (get_or (places_after (Adds r) ps) i 0 ≡ held s)
  unfolding places_after
  others_added n s i m =
      pick_case (λ (qs : List ℕ). (get_or ps i 0 ≡ held s) ↔ (get_or qs i 0 ≡ held s)) (absent (held r) ps) _ _
      (λ t. let h = free_there n t in (
        λ e. held_still ps (place_with free ps) (held r) i s
            (λ z. omega (arith, e, first_is free ps h, ap (λ (k : ℕ). get_or ps k 0) z)) e,
        λ e. from (held_from ps (place_with free ps) (held r) i s e),
      ))
      (λ _. (λ e. e, λ e. e))
    where
      from : ((i ≡ place_with free ps) × (held r ≡ held s)) ⊎ (get_or ps i 0 ≡ held s) → get_or ps i 0 ≡ held s
      from (inl x) = absurd (m (omega (arith, x.1)))
      from (inr e) = e

  module _ (w : Fit ps) where
    same_place : (i j : ℕ) → get_or ps i 0 ≡ held r → get_or ps j 0 ≡ held r → i ≡ j
    same_place i j a b = go (decide (suc i ≤? j)) (decide (suc j ≤? i))
      where
        go : T (suc i ≤? j) ⊎ (T (suc i ≤? j) → ⊥) → T (suc j ≤? i) ⊎ (T (suc j ≤? i) → ⊥) → i ≡ j
        go (inl t) u = absurd (w.once i j r (le_of _ _ t) a b)
        go (inr n) (inl t) = absurd (w.once j i r (le_of _ _ t) b a)
        go (inr n) (inr m) = omega (arith, not_le _ _ n, not_le _ _ m)

    at_first : (i : ℕ) → get_or ps i 0 ≡ held r → i ≡ place_with (held r) ps
    at_first i e =
        let h = present (held r) ps (λ t. closed_of r ps t (i, e)) in
        same_place i (place_with (held r) ps) e (first_is (held r) ps h)

    pub removed : Removed r ps (places_after (Removes r) ps)
    unfolding places_after
    removed = record {
      freed =
          λ i e. let z = at_first i e in let h = open_inside ps i r e in
          ap (λ (k : ℕ). get_or (set ps k free) i 0) (sym z) ∙ get_or-set_same ps i free 0 h;
      others = λ i n. other i n (decide (i =? place_with (held r) ps));
      long = length-set ps (place_with (held r) ps) free;
    }
      where
        other : (i : ℕ) → (get_or ps i 0 ≡ held r → ⊥) →
            T (i =? place_with (held r) ps) ⊎ (T (i =? place_with (held r) ps) → ⊥) →
            get_or (set ps (place_with (held r) ps) free) i 0 ≡ get_or ps i 0
        other i n (inl t) =
            let z = eq_of _ _ t in
            ap (λ (qs : List ℕ). get_or qs i 0)
            (set_out ps (place_with (held r) ps) free (outside z (decide (suc (place_with (held r) ps) ≤? length ps))))
          where
            outside : i ≡ place_with (held r) ps →
                T (suc (place_with (held r) ps) ≤? length ps) ⊎ (T (suc (place_with (held r) ps) ≤? length ps) → ⊥) →
                length ps ≤ place_with (held r) ps
            outside z (inl h) = absurd (n (ap (λ (k : ℕ). get_or ps k 0) z ∙ first_is (held r) ps (le_of _ _ h)))
            outside z (inr m) = omega (arith, not_le _ _ m)
        other i n (inr m) = get_or-set_other ps (place_with (held r) ps) i free 0 (λ z. m (of_eq _ _ z))

    pub closed_after : Open r (places_after (Removes r) ps) → ⊥
    closed_after o = held_or o.0 o.1 (decide (get_or ps o.0 0 =? held r))
      where
        held_or : (i : ℕ) → get_or (places_after (Removes r) ps) i 0 ≡ held r →
            T (get_or ps i 0 =? held r) ⊎ (T (get_or ps i 0 =? held r) → ⊥) → ⊥
        held_or i e (inl t) = omega (arith, e, removed.freed i (eq_of _ _ t))
        held_or i e (inr n) = n (of_eq _ _ (sym (removed.others i (λ x. n (of_eq _ _ x))) ∙ e))

    pub others_removed : (s i : ℕ) → (s ≡ r → ⊥) →
        (get_or ps i 0 ≡ held s) ↔ (get_or (places_after (Removes r) ps) i 0 ≡ held s)
    others_removed s i m = (
      λ e. removed.others i (λ f. m (omega (arith, e, f))) ∙ e,
      λ e. back e (decide (get_or ps i 0 =? held r)),
    )
      where
        back : get_or (places_after (Removes r) ps) i 0 ≡ held s →
            T (get_or ps i 0 =? held r) ⊎ (T (get_or ps i 0 =? held r) → ⊥) → get_or ps i 0 ≡ held s
        back e (inl t) = absurd (omega (arith, e, removed.freed i (eq_of _ _ t)))
        back e (inr n) = sym (removed.others i (λ x. n (of_eq _ _ x))) ∙ e

-- a change that adds adds a reference
unfoldable pub AddsReference : Change → Type 0
AddsReference Nothing = Unit {0}
AddsReference (Adds r) = r < 65536
AddsReference (Removes r) = Unit {0}

-- places that fit still do
pub fit_after : (k : Change) (ps : List ℕ) → AddsReference k → (T (is_full k ps) → ⊥) → Fit ps → Fit (places_after k ps)
unfolding places_after AddsReference
fit_after Nothing ps g n w = w
fit_after (Adds r) ps g n w = pick_case Fit (absent (held r) ps) _ _ (λ t. one_more t) (λ _. w)
  where
    one_more : T (absent (held r) ps) → Fit (set ps (place_with free ps) (held r))
    one_more t = record {
      range = range_set ps (place_with free ps) (held r) (omega arith) w.range;
      once =
          λ i j s l a b. two s i j l (held_from ps (place_with free ps) (held r) i s a)
          (held_from ps (place_with free ps) (held r) j s b);
    }
      where
        two : (s i j : ℕ) → i < j → ((i ≡ place_with free ps) × (held r ≡ held s)) ⊎ (get_or ps i 0 ≡ held s) →
            ((j ≡ place_with free ps) × (held r ≡ held s)) ⊎ (get_or ps j 0 ≡ held s) → ⊥
        two s i j l (inl x) (inl y) = omega (arith, x.0, y.0)
        two s i j l (inl x) (inr b) = closed_of r ps t (j, b ∙ sym x.1)
        two s i j l (inr a) (inl y) = closed_of r ps t (i, a ∙ sym y.1)
        two s i j l (inr a) (inr b) = w.once i j s l a b
fit_after (Removes r) ps g n w = record {
  range = range_set ps (place_with (held r) ps) free (omega arith) w.range;
  once =
      λ i j s l a b. two s i j l (held_from ps (place_with (held r) ps) free i s a)
      (held_from ps (place_with (held r) ps) free j s b);
}
  where
    two : (s i j : ℕ) → i < j → ((i ≡ place_with (held r) ps) × (free ≡ held s)) ⊎ (get_or ps i 0 ≡ held s) →
        ((j ≡ place_with (held r) ps) × (free ≡ held s)) ⊎ (get_or ps j 0 ≡ held s) → ⊥
    two s i j l (inl x) y = omega (arith, x.1)
    two s i j l (inr a) (inl y) = omega (arith, y.1)
    two s i j l (inr a) (inr b) = w.once i j s l a b

-- and are as many
pub as_many_after : (k : Change) (ps : List ℕ) → length (places_after k ps) ≡ length ps
unfolding places_after
as_many_after Nothing ps = refl
as_many_after (Adds r) ps =
    pick_case (λ (qs : List ℕ). length qs ≡ length ps) (absent (held r) ps) _ _
    (λ _. length-set ps (place_with free ps) (held r)) (λ _. refl)
as_many_after (Removes r) ps = length-set ps (place_with (held r) ps) free

-- the same change again: it has its place, and changes nothing
pub room_again : (k : Change) (ps : List ℕ) → (T (is_full k ps) → ⊥) → T (is_full k (places_after k ps)) → ⊥
unfolding is_full
room_again Nothing ps n t = t
room_again (Adds r) ps n t =
    let o = (added r ps n).holds in
    let f = full_of r (places_after (Adds r) ps) t o.0 (open_inside (places_after (Adds r) ps) o.0 r o.1) in
    f.2 (omega (arith, f.1, o.1))
room_again (Removes r) ps n t = t

stays_added : (r : ℕ) (ps : List ℕ) → Open r ps → places_after (Adds r) ps ≡ ps
unfolding places_after
stays_added r ps o = pick_not _ _ _ (λ t. closed_of r ps t o)

stays_removed : (r : ℕ) (ps : List ℕ) → (Open r ps → ⊥) → places_after (Removes r) ps ≡ ps
unfolding places_after absent
stays_removed r ps n =
    let z = eq_of (place_with (held r) ps) (length ps) (absent_of r ps n) in
    set_out ps (place_with (held r) ps) free (omega (arith, z))

pub same_again : (k : Change) (ps : List ℕ) → (T (is_full k ps) → ⊥) → Fit ps →
    places_after k (places_after k ps) ≡ places_after k ps
unfolding places_after
same_again Nothing ps n w = refl
same_again (Adds r) ps n w = stays_added r (places_after (Adds r) ps) (added r ps n).holds
same_again (Removes r) ps n w = stays_removed r (places_after (Removes r) ps) (closed_after r ps w)
