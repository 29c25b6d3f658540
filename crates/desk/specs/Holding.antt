-- What the places of a desk hold, and what adding and taking out a reference leave in them (document 02, Q-6).
-- Assumes nothing.
use Rattle.std.specs.Prelude.{ℕ, ◌≤◌, ◌<◌, ◌≡◌, List, length, get_or, set}
use Rattle.desk.specs.References.{free, held}

-- some place holds the reference r
abbrev pub Open : ℕ → List ℕ → Type 0
Open r ps = (i : ℕ) × (get_or ps i 0 ≡ held r)

-- every place is in range, and no two hold the same reference
pub record Fit (ps : List ℕ) : Type 0 where
  pub range : (i : ℕ) → get_or ps i 0 ≤ 65536
  pub once : (i j r : ℕ) → i < j → get_or ps i 0 ≡ held r → get_or ps j 0 ≡ held r → ⊥

-- all places hold references other than r
abbrev pub Full : ℕ → List ℕ → Type 0
Full r ps = (i : ℕ) → i < length ps → (s : ℕ) × (get_or ps i 0 ≡ held s) × (s ≡ r → ⊥)

-- i is the lowest free place
pub record Lowest (ps : List ℕ) (i : ℕ) : Type 0 where
  pub inside : i < length ps
  pub is_free : get_or ps i 0 ≡ free
  pub below : (j : ℕ) → j < i → (s : ℕ) × (get_or ps j 0 ≡ held s)

-- the places qs after a reference r was added to ps
pub record Added (r : ℕ) (ps qs : List ℕ) : Type 0 where
  -- they stay where it is there
  pub there : Open r ps → qs ≡ ps
  -- else it takes the lowest free place, and the others stay
  pub new : (Open r ps → ⊥) → (i : ℕ) × Lowest ps i × (qs ≡ set ps i (held r))
  pub holds : Open r qs

-- the places qs after a reference r was taken out of ps: its place is free, the others stay
pub record Removed (r : ℕ) (ps qs : List ℕ) : Type 0 where
  pub freed : (i : ℕ) → get_or ps i 0 ≡ held r → get_or qs i 0 ≡ free
  pub others : (i : ℕ) → (get_or ps i 0 ≡ held r → ⊥) → get_or qs i 0 ≡ get_or ps i 0
  pub long : length qs ≡ length ps
