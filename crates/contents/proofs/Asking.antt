-- What is told of a kind's number tells the number.
-- Assumes nothing.
use Prim.Native.Nat.{ℕ}
use mathlib.Core.Path.{◌≡◌}
use mathlib.Core.Bool.{true}
use native.Mathlib.Omega.{arith}
use Rattle.rules.specs.OctetRows.{mixed, asked_kind, asks}
use Rattle.rules.specs.declared.Class.{Class}
use Rattle.rules.proofs.Telling.{telling}
use Rattle.contents.specs.Asked.{told, asked_of}
use Rattle.contents.specs.declared.Asked.TheVariants.{Code, Kind, Mixed}

pub code_is : (n : ℕ) → told n ≡ Code → n ≡ 0
unfolding told
code_is n e = grind (arith, telling, e)

pub mixed_is : (n : ℕ) → told n ≡ Mixed → n ≡ mixed
unfolding told
mixed_is n e = grind (arith, telling, e)

module _ (n k : ℕ) (e : told n ≡ Kind k) where
  pub kind_is : n ≡ k
  unfolding told
  kind_is = grind (arith, telling, e)

  pub kind_some : n ≡ 0 → ⊥
  unfolding told
  kind_some z = grind (arith, telling, e, z)

  pub kind_one : n ≡ mixed → ⊥
  unfolding told
  kind_one z = grind (arith, telling, e, z)

pub mixed_else : (c : Class) → asks c ≡ true → ((k : ℕ) → asked_of c ≡ Kind k → ⊥) → asked_kind c ≡ mixed
unfolding asks asked_kind told
mixed_else c a n = grind (arith, telling, a, n (asked_kind c))
