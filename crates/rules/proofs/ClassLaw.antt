-- What a class of contents owes a message: laws between its rule over whole contents and its judge of single octets,
-- as one record; and what follows for any class that has them: contents of any of its lengths can be begun and gone on
-- with, they fit exactly where each octet passes, and they are octets.
-- Assumes nothing.
use Prim.Native.Nat.{ℕ, zero, suc, ◌≤◌, ◌<◌}
use mathlib.Core.Path.{◌≡◌, refl, sym, ap, subst}
use mathlib.Core.List.{List, [], ◌∷◌}
use lib.ListN.{length}
use lib.Dec.{T}
use Rattle.rules.proofs.Tests.{both, join}
use Rattle.rules.specs.Octets.{Octets}
use Rattle.rules.specs.Contents.{Whole, in_set}
use Rattle.rules.specs.ContentJudge.{Judge, passes}

pub record Lawful (w : Whole) (j : Judge) : Type 1 where
  -- what may be remembered at an index: some octet can always follow
  pub Mem : ℕ → ℕ → ℕ → Type 0
  pub start : (n : ℕ) → Mem n 0 0
  pub push : (n i m x : ℕ) → T (j.ok n i m x) → Mem n (suc i) (j.keep n i m x)
  pub next : (n i m : ℕ) → Mem n i m → (x : ℕ) × T (j.ok n i m x)
  -- contents are octets, 1 to 253 of them
  pub octet : (n i m x : ℕ) → T (j.ok n i m x) → x < 256
  pub least : (n : ℕ) → T (in_set w.lengths n) → 1 ≤ n
  pub most : (n : ℕ) → T (in_set w.lengths n) → n ≤ 253
  -- contents fit exactly where they have one of the lengths and each of their octets passes
  pub fit_length : (v : List ℕ) → T (w.fits v) → T (in_set w.lengths (length v))
  pub fit_from : (v : List ℕ) → T (w.fits v) → T (passes j (length v) 0 0 v)
  pub from_fit : (v : List ℕ) → T (in_set w.lengths (length v)) → T (passes j (length v) 0 0 v) → T (w.fits v)

-- k octets that pass from an index on
abbrev pub Filled : Judge → ℕ → ℕ → ℕ → ℕ → Type 0
Filled j n i m k = (v : List ℕ) × (length v ≡ k) × T (passes j n i m v)

module _ {w : Whole} {j : Judge} (L : Lawful w j) where
  extend : (n k i m : ℕ) → L.Mem n i m → Filled j n i m k
  unfolding passes
  extend n zero i m o = ([], refl, tt)
  extend n (suc k) i m o =
      let x = L.next n i m o in
      let r = extend n k (suc i) (j.keep n i m x.0) (L.push n i m x.0 x.1) in
      (x.0 ∷ r.0, ap suc r.1, join _ _ x.1 r.2)

  pub begin : (n k : ℕ) → Filled j n 0 0 k
  begin n k = extend n k 0 0 (L.start n)

  pub proceed : (n i m x k : ℕ) → T (j.ok n i m x) → Filled j n (suc i) (j.keep n i m x) k
  proceed n i m x k o = extend n k (suc i) _ (L.push n i m x o)

  -- the same, of contents of a length that is given
  pub fit_passes : (n : ℕ) (v : List ℕ) → length v ≡ n → T (w.fits v) → T (passes j n 0 0 v)
  fit_passes n v e t = subst (λ (k : ℕ). T (passes j k 0 0 v)) e (L.fit_from v t)

  pub passes_fit : (n : ℕ) (v : List ℕ) → length v ≡ n → T (in_set w.lengths n) → T (passes j n 0 0 v) → T (w.fits v)
  passes_fit n v e l t =
      L.from_fit v (subst (λ (k : ℕ). T (in_set w.lengths k)) (sym e) l)
      (subst (λ (k : ℕ). T (passes j k 0 0 v)) (sym e) t)

  octets_from : (n i m : ℕ) (v : List ℕ) → T (passes j n i m v) → Octets v
  unfolding passes
  octets_from n i m [] t = tt
  octets_from n i m (x ∷ v) t = let d = both _ _ t in (L.octet n i m x d.0, octets_from n (suc i) _ v d.1)

  pub fit_octets : (v : List ℕ) → T (w.fits v) → Octets v
  fit_octets v f = octets_from (length v) 0 0 v (L.fit_from v f)
