-- Octets stored in a record, one after the other from its beginning.
-- Assumes nothing.
use Prim.Native.Nat.{ℕ, ◌+◌, ◌≤◌}
use mathlib.Core.Path.{◌≡◌, ◌∙◌, ap}
use mathlib.Core.List.{List, ◌++◌, append-nil}
use native.Mathlib.Omega.{arith}
use lib.ListN.{length, drop, drop_of_length-le}
use lib.Seq.{sets, sets-eq}
use Rattle.rules.specs.Laying.{laid}

-- the first places stored, the others as they were
pub stored_front : (vs l : List ℕ) → length vs ≤ length l → sets l 0 vs ≡ laid vs l
unfolding laid
stored_front vs l h =
    let z : 0 + length vs ≡ length vs = omega arith in
    sets-eq vs l 0 (omega arith) ∙ ap (λ (k : ℕ). vs ++ drop k l) z

-- a list of which every place is stored
pub stored : (vs l : List ℕ) → length l ≡ length vs → sets l 0 vs ≡ vs
stored vs l e =
    let h : length l ≤ 0 + length vs = omega arith in
    sets-eq vs l 0 (omega arith) ∙ ap (λ (r : List ℕ). vs ++ r) (drop_of_length-le l h) ∙ append-nil vs
