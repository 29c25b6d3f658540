-- What the arithmetic of a step wants: a state in range keeps its place and index small.
-- Assumes nothing.
use Rattle.std.proofs.Common.{ℕ, ◌<◌, T, arith}
use Rattle.rules.proofs.Tests.{both, le_of}
use Rattle.rules.specs.Table.{Rules}
use Rattle.rules.proofs.ContentLaw.{SoundRules}
use Rattle.rules.specs.Judge.{place_fits, in_range}
use Rattle.rules.proofs.InRange.{near, few}
use Rattle.rules.specs.declared.Class.{Class}
use Rattle.rules.specs.declared.Stage.{Stage}
use Rattle.rules.specs.declared.Stage.TheVariants.{Content}
use Rattle.rules.specs.declared.Spot.{Spot}
use Rattle.rules.specs.declared.State.TheVariants.{Waiting}

module _ (R : Rules) (S : SoundRules R) where
  pub place_small : (s : Stage) (q : Spot) → T (in_range R (Waiting s q)) → q.place < 65535
  place_small s q t = omega (arith, near R S s q t)

  pub count_small : (s : Stage) (q : Spot) → T (in_range R (Waiting s q)) → q.parameter < 255
  count_small s q t = omega (arith, few R S s q t)

  pub index_below : (c : Class) (n i m r : ℕ) (q : Spot) → T (in_range R (Waiting (Content c n i m r) q)) → i < n
  unfolding in_range place_fits
  index_below c n i m r q t = le_of _ _ (both _ _ (both _ _ t).0).0

  pub index_small : (c : Class) (n i m r : ℕ) (q : Spot) → T (in_range R (Waiting (Content c n i m r) q)) →
      n < 256 → i < 255
  index_small c n i m r q t h = omega (arith, index_below c n i m r q t)
