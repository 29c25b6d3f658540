-- Octets laid over others.
-- Assumes nothing.
use Rattle.std.specs.Prelude.{ℕ, ◌+◌, List, ◌++◌, length, take, drop}

-- octets laid over the beginning of others, which stay behind them
unfoldable pub laid : List ℕ → List ℕ → List ℕ
laid v old = v ++ drop (length v) old

-- octets laid over others from a place on, which stay before and behind them
unfoldable pub laid_at : List ℕ → ℕ → List ℕ → List ℕ
laid_at v at old = take at old ++ (v ++ drop (at + length v) old)
