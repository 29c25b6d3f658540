-- Where an octet first stands among others.
-- Assumes nothing.
use Rattle.std.specs.Prelude.{ℕ, suc, List, [], ◌∷◌}
use Rattle.rules.specs.Tests.{◌=?◌, pick}

-- the place where the octet x first stands; how many they are, if nowhere
unfoldable pub index_of : ℕ → List ℕ → ℕ
index_of x [] = 0
index_of x (y ∷ l) = pick (y =? x) 0 (suc (index_of x l))
