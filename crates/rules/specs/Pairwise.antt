-- Lists compared pair by pair.
-- Assumes nothing.
use Rattle.std.specs.Prelude.{ℕ, Bool, true, false, List, [], ◌∷◌}
use Rattle.rules.specs.Tests.{◌=?◌, ◌and◌}

-- lists of one length, of which each pair passes
unfoldable pub pairwise : {A : Type 0} → (A → A → Bool) → List A → List A → Bool
pairwise f [] [] = true
pairwise f [] (y ∷ ys) = false
pairwise f (x ∷ xs) [] = false
pairwise f (x ∷ xs) (y ∷ ys) = f x y and pairwise f xs ys

-- octet by octet
abbrev pub same_octets : List ℕ → List ℕ → Bool
same_octets v w = pairwise ◌=?◌ v w
