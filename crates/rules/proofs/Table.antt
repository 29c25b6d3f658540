-- The table that a rule makes, entry after entry; and what stands at each of its places. Two rules are tested over
-- the whole table at once, and what it says is carried to each entry.
-- Assumes nothing.
use mathlib.Core.Path.{◌≡◌, ◌∙◌, ap, sym}
use mathlib.Core.List.{List, [], ◌∷◌}
use Prim.Native.Nat.{ℕ, zero, suc, ◌+◌, ◌<◌}
use native.Mathlib.Nat.{add-zero, zero-add, add-suc, suc-add, le_of_suc-le-suc, not-suc-le-zero}
use lib.ListN.{get_or}

-- what f gives for the n numbers from i on
unfoldable pub tabled : (ℕ → ℕ) → ℕ → ℕ → List ℕ
tabled f i zero = []
tabled f i (suc n) = f i ∷ tabled f (suc i) n

from : (f : ℕ → ℕ) (i n k : ℕ) → k < n → get_or (tabled f i n) k 0 ≡ f (i + k)
unfolding tabled
from f i zero k h = absurd (not-suc-le-zero h)
from f i (suc n) zero h = ap f (sym (add-zero i))
from f i (suc n) (suc k) h = from f (suc i) n k (le_of_suc-le-suc h) ∙ ap f (suc-add i k ∙ sym (add-suc i k))

pub at : (f : ℕ → ℕ) (n k : ℕ) → k < n → get_or (tabled f 0 n) k 0 ≡ f k
at f n k h = from f 0 n k h ∙ ap f (zero-add k)
