-- The lines of a directory, and the two texts of a line (document 01, The caption).
-- Assumes nothing.
use Rattle.rules.specs.First.{index_of}
use Rattle.std.specs.Prelude.{ℕ, suc, Bool, List, [], ◌∷◌, length, take, drop}
use Rattle.rules.specs.Tests.{◌≤?◌, ◌=?◌, ◌and◌, pick}
use Rattle.rules.specs.Pairwise.{same_octets}

-- an octet put before the first of some lines
unfoldable pub on_first : ℕ → List (List ℕ) → List (List ℕ)
on_first x [] = (x ∷ []) ∷ []
on_first x (l ∷ ls) = (x ∷ l) ∷ ls

-- the lines: each ends at 0AH, the last perhaps without
unfoldable pub lines_of : List ℕ → List (List ℕ)
lines_of [] = []
lines_of (x ∷ d) = pick (x =? 0x0A) ([] ∷ lines_of d) (on_first x (lines_of d))

-- the text before the first = of a line
unfoldable pub before : List ℕ → List ℕ
before l = take (index_of 0x3D l) l

-- the text after it, further = included
unfoldable pub behind : List ℕ → List ℕ
behind l = drop (suc (index_of 0x3D l)) l

-- a line has an = and the text before the first one is the caller
unfoldable pub names : List ℕ → List ℕ → Bool
names caller l = suc (index_of 0x3D l) ≤? length l and same_octets (before l) caller
