-- The lengths of a class as the code has them: from the least to the most, and perhaps one other.
-- Assumes nothing.
use mathlib.Core.Path.{◌≡◌}
use mathlib.Core.Bool.{Bool, true, false, ◌||◌}
use mathlib.Core.List.{List}
use Prim.Native.Nat.{ℕ, ◌≤◌, ◌<◌}
use lib.Dec.{eqb}
use native.Mathlib.Omega.{arith}
use Rattle.std.specs.Prelude.{Option, Some, None}
use Rattle.rules.specs.Tests.{◌=?◌, ◌≤?◌, ◌and◌}
use Rattle.rules.proofs.Tests.{of_eq, eq_of, both, join, le_of, of_le}
use Rattle.rules.proofs.Returns.{same_truth}
use Rattle.rules.proofs.Telling.{or_is, telling}
use Rattle.rules.specs.Contents.{Range, within, in_set, some_length}
use Rattle.rules.specs.Codes.{ranges}
use Rattle.rules.specs.Judge.{range_possible, some_possible}

-- it is the other length, and that fits the room
unfoldable pub is_other : Option ℕ → ℕ → Bool
is_other None n = false
is_other (Some o) n = eqb n o

unfoldable pub other_possible : Option ℕ → ℕ → Bool
other_possible None n = false
other_possible (Some o) n = range_possible (o, o) n

-- a number that is the other one
is_within : (o n : ℕ) → eqb n o ≡ within (o, o) n
unfolding within ◌=?◌
is_within o n = same_truth (n =? o) (o ≤? n and n ≤? o)
    (λ t. let e = eq_of n o t in join _ _ (of_le _ _ (omega arith)) (of_le _ _ (omega arith)))
    (λ t. let d = both _ _ t in let a = le_of _ _ d.0 in let b = le_of _ _ d.1 in of_eq n o (omega arith))

pub lengths_are : (l m n : ℕ) (o : Option ℕ) → in_set (ranges l m o) n ≡ (within (l, m) n || is_other o n)
unfolding ranges in_set is_other
lengths_are l m n None = grind (arith, or_is)
lengths_are l m n (Some o) = grind (arith, or_is, is_within o n)

-- a number that is not among the first lengths is one of all where it is the other one
pub other_length_lem : (l m o n : ℕ) (rs : List Range) → rs ≡ ranges l m (Some o) → within (l, m) n ≡ false →
    eqb n o ≡ in_set rs n
unfolding is_other
other_length_lem l m o n rs e f = rw e grind (arith, f, lengths_are l m n (Some o))

pub possible_are : (l m n : ℕ) (o : Option ℕ) →
    some_possible (ranges l m o) n ≡ (range_possible (l, m) n || other_possible o n)
unfolding ranges some_possible other_possible
possible_are l m n None = grind (arith, or_is)
possible_are l m n (Some o) = grind (arith, or_is)

-- ---- whether they hold a length at all
module _ (l m o : ℕ) (rs : List Range) where
  pub first_some : (x : Option ℕ) → rs ≡ ranges l m x → l ≤ m → some_length rs ≡ true
  unfolding ranges some_length
  first_some None e h = rw e grind (arith, telling)
  first_some (Some n) e h = rw e grind (arith, telling)

  pub none_some : rs ≡ ranges l m None → m < l → some_length rs ≡ false
  unfolding ranges some_length
  none_some e h = rw e grind (arith, telling)

  pub other_some : rs ≡ ranges l m (Some o) → m < l → some_length rs ≡ true
  unfolding ranges some_length
  other_some e h = rw e grind (arith, telling)
