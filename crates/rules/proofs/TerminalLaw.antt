-- The selection of a terminal's function (document 02, Q-4; source 004, 5.4.24) is a lawful class. Its judge looks at
-- the length: a connection type may come first only where there are two octets.
-- Assumes nothing.
use Prim.Native.Nat.{ℕ, zero, suc, ◌≤◌, ◌<◌}
use mathlib.Core.Path.{◌≡◌, refl, sym, ap, subst}
use mathlib.Core.Bool.{Bool, true}
use mathlib.Core.Logic.{◌⊎◌, inl, inr}
use mathlib.Core.List.{List, [], ◌∷◌}
use native.Mathlib.Omega.{arith}
use lib.ListN.{length}
use lib.Dec.{T}
use Rattle.rules.specs.Tests.{◌≤?◌, ◌=?◌, ◌and◌, ◌or◌, pick}
use Rattle.rules.proofs.Tests.{pick_yes, pick_not, pick_case, both, join, either, left, le_of, of_le, eq_of, decide}
use Rattle.rules.specs.Contents.{Range, within, in_set, all_in}
use Rattle.rules.specs.ContentJudge.{passes, terminal_judge}
use Rattle.rules.specs.Terminal.{terminal_fits, terminal_by, terminal_keep}
use Rattle.rules.proofs.ClassLaw.{Lawful}
use Rattle.rules.proofs.BuilderLaw.{sound_set, set_next, set_octet}

not_one : (h : ℕ) → T (within (2, 3) h) → T (h =? 1) → ⊥
unfolding within
not_one h t u = omega (arith, le_of _ _ (both _ _ t).0, eq_of _ _ u)

short : (k : ℕ) → T (in_set ((2, 21) ∷ []) k) → (2 ≤ k) × (k ≤ 21)
unfolding in_set within
short k t = go (either _ _ t)
  where
    go : T (2 ≤? k and k ≤? 21) ⊎ ⊥ → (2 ≤ k) × (k ≤ 21)
    go (inl e) = (le_of _ _ (both _ _ e).0, le_of _ _ (both _ _ e).1)
    go (inr e) = absurd e

module _ (s : List Range) where
  digits_on : (n i : ℕ) (v : List ℕ) → passes (terminal_judge s) n (suc i) 0 v ≡ all_in s v
  unfolding passes terminal_by terminal_keep all_in pick ◌=?◌
  digits_on n i [] = refl
  digits_on n i (x ∷ v) = ap (λ (b : Bool). in_set s x and b) (digits_on n (suc i) v)

  begins : (n h : ℕ) (v : List ℕ) → T (within (2, 3) h) → T (all_in s v) → T (passes (terminal_judge s) n 0 0 (h ∷ v))
  unfolding passes terminal_by terminal_keep
  begins n h v t u =
      join _ _ (left _ _ t)
      (subst (λ (m : ℕ). T (passes (terminal_judge s) n 1 m v)) (sym (pick_not (h =? 1) 1 0 (not_one h t)))
      (subst T (sym (digits_on n 0 v)) u))

  connected : (x : ℕ) → T (x ≤? 7) → T (passes (terminal_judge s) 2 0 0 (1 ∷ x ∷ []))
  unfolding passes terminal_by terminal_keep within pick ◌=?◌ ◌and◌ ◌or◌ ◌≤?◌
  connected x u = join (x ≤? 7) true u tt

  fit_from : (v : List ℕ) → T (terminal_fits s v) → T (passes (terminal_judge s) (length v) 0 0 v)
  unfolding terminal_fits all_in
  fit_from [] t = absurd t
  fit_from (h ∷ []) t = absurd t
  fit_from (h ∷ x ∷ []) t = go (decide (h =? 1))
    where
      go : T (h =? 1) ⊎ (T (h =? 1) → ⊥) → T (passes (terminal_judge s) 2 0 0 (h ∷ x ∷ []))
      go (inl e) =
          subst (λ (k : ℕ). T (passes (terminal_judge s) 2 0 0 (k ∷ x ∷ []))) (sym (eq_of _ _ e))
          (connected x (subst T (pick_yes (h =? 1) _ _ e) t))
      go (inr e) =
          let d = both _ _ (subst T (pick_not (h =? 1) _ _ e) t) in
          begins 2 h (x ∷ []) d.0 (join _ _ d.1 tt)
  fit_from (h ∷ x ∷ y ∷ v) t = let d = both _ _ t in begins _ h (x ∷ y ∷ v) d.0 (both _ _ d.1).1

  -- the first octet, and the digits after it
  digits_in : (n h : ℕ) (v : List ℕ) → (T (h =? 1) → ⊥) → T (passes (terminal_judge s) n 0 0 (h ∷ v)) →
      T (within (2, 3) h) × T (all_in s v)
  unfolding passes terminal_by terminal_keep
  digits_in n h v e t =
      let d = both _ _ t in (
        first (either _ _ d.0),
        subst T (digits_on n 0 v)
            (subst (λ (m : ℕ). T (passes (terminal_judge s) n 1 m v)) (pick_not (h =? 1) 1 0 e) d.1),
      )
    where
      first : T (within (2, 3) h) ⊎ T (n =? 2 and h =? 1) → T (within (2, 3) h)
      first (inl z) = z
      first (inr z) = absurd (e (both _ _ z).1)

  -- a connection type has two octets
  two : (n h : ℕ) (v : List ℕ) → T (h =? 1) → T (passes (terminal_judge s) n 0 0 (h ∷ v)) → n ≡ 2
  unfolding passes terminal_by
  two n h v e t = go (either _ _ (both _ _ t).0)
    where
      go : T (within (2, 3) h) ⊎ T (n =? 2 and h =? 1) → n ≡ 2
      go (inl z) = absurd (not_one h z e)
      go (inr z) = eq_of _ _ (both _ _ z).0

  code_of : (x : ℕ) → T (passes (terminal_judge s) 2 0 0 (1 ∷ x ∷ [])) → T (x ≤? 7)
  unfolding passes terminal_by terminal_keep within pick ◌=?◌ ◌and◌ ◌or◌ ◌≤?◌
  code_of x t = (both (x ≤? 7) true t).0

  from_fit : (v : List ℕ) → T (in_set ((2, 21) ∷ []) (length v)) → T (passes (terminal_judge s) (length v) 0 0 v) →
      T (terminal_fits s v)
  unfolding terminal_fits all_in
  from_fit [] l t = absurd (omega (arith, (short _ l).0))
  from_fit (h ∷ []) l t = absurd (omega (arith, (short _ l).0))
  from_fit (h ∷ x ∷ []) l t = go (decide (h =? 1))
    where
      go : T (h =? 1) ⊎ (T (h =? 1) → ⊥) → T (pick (h =? 1) (x ≤? 7) (within (2, 3) h and in_set s x))
      go (inl e) =
          subst T (sym (pick_yes (h =? 1) _ _ e))
          (code_of x (subst (λ (k : ℕ). T (passes (terminal_judge s) 2 0 0 (k ∷ x ∷ []))) (eq_of _ _ e) t))
      go (inr e) =
          let d = digits_in 2 h (x ∷ []) e t in
          subst T (sym (pick_not (h =? 1) _ _ e)) (join _ _ d.0 (both _ _ d.1).0)
  from_fit (h ∷ x ∷ y ∷ v) l t = go (decide (h =? 1))
    where
      go : T (h =? 1) ⊎ (T (h =? 1) → ⊥) →
          T (within (2, 3) h and (length v ≤? 18 and (in_set s x and all_in s (y ∷ v))))
      go (inl e) = absurd (omega (arith, two _ h (x ∷ y ∷ v) e t))
      go (inr e) =
          let d = digits_in _ h (x ∷ y ∷ v) e t in
          join _ _ d.0 (join _ _ (of_le _ _ (omega (arith, (short _ l).1))) d.1)

  fit_length : (v : List ℕ) → T (terminal_fits s v) → T (in_set ((2, 21) ∷ []) (length v))
  unfolding terminal_fits in_set within
  fit_length [] t = absurd t
  fit_length (h ∷ []) t = absurd t
  fit_length (h ∷ x ∷ []) t = left _ _ (join _ _ (of_le _ _ (omega arith)) (of_le _ _ (omega arith)))
  fit_length (h ∷ x ∷ y ∷ v) t =
      let l = le_of _ _ (both _ _ (both _ _ t).1).0 in
      left _ _ (join _ _ (of_le _ _ (omega arith)) (of_le _ _ (omega arith)))

  -- ---- an octet can always follow
  next : (n i m : ℕ) → T (sound_set s) → (x : ℕ) × T (terminal_by (in_set s x) n i m x)
  unfolding terminal_by within ◌≤?◌ ◌and◌ ◌or◌
  next n zero m k = (2, tt)
  next n (suc i) m k = go (decide (m =? 1)) (set_next s k)
    where
      go : T (m =? 1) ⊎ (T (m =? 1) → ⊥) → (x : ℕ) × T (in_set s x) →
          (x : ℕ) × T (pick (m =? 1) (x ≤? 7) (in_set s x))
      go (inl e) d = (0, subst T (sym (pick_yes (m =? 1) (0 ≤? 7) (in_set s 0) e)) tt)
      go (inr e) d = (d.0, subst T (sym (pick_not (m =? 1) (d.0 ≤? 7) (in_set s d.0) e)) d.1)

  octet : (n i m x : ℕ) → T (sound_set s) → T (terminal_by (in_set s x) n i m x) → x < 256
  unfolding terminal_by within
  octet n zero m x k t = go (either _ _ t)
    where
      go : T (2 ≤? x and x ≤? 3) ⊎ T (n =? 2 and x =? 1) → x < 256
      go (inl z) = omega (arith, le_of _ _ (both _ _ z).1)
      go (inr z) = omega (arith, eq_of _ _ (both _ _ z).1)
  octet n (suc i) m x k t =
      pick_case (λ (q : Bool). T q → x < 256) (m =? 1) _ _ (λ _ u. omega (arith, le_of _ _ u))
      (λ _ u. set_octet s x (both _ _ k).1 u) t

  pub terminal_lawful : T (sound_set s) →
      Lawful (record { lengths = (2, 21) ∷ []; fits = terminal_fits s }) (terminal_judge s)
  terminal_lawful k = record {
    Mem = λ n i m. Unit {0};
    start = λ n. tt;
    push = λ n i m x t. tt;
    next = λ n i m o. next n i m k;
    octet = λ n i m x t. octet n i m x k t;
    least = λ n t. omega (arith, (short n t).0);
    most = λ n t. omega (arith, (short n t).1);
    fit_length = fit_length;
    fit_from = fit_from;
    from_fit = from_fit;
  }
