-- How the place of an octet goes on from octet to octet.
-- Assumes nothing.
use Rattle.std.specs.Prelude.{ℕ, suc, Bool, true, false}

-- one place on, where the first is not the one that is sought
unfoldable pub index_after : Bool → ℕ → ℕ
index_after true k = 0
index_after false k = suc k
