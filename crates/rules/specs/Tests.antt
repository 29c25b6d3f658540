-- Tests and choices that stay shut, so that antt can read their arguments off a goal.
-- Assumes nothing.
use Rattle.std.specs.Prelude.{ℕ, Bool, true, false, List, [], ◌∷◌, leb, eqb}

infix 40 ◌≤?◌ ◌=?◌
infixl 35 ◌and◌
infixl 30 ◌or◌
-- at most
unfoldable pub ◌≤?◌ : ℕ → ℕ → Bool
a ≤? b = leb a b

-- equal
unfoldable pub ◌=?◌ : ℕ → ℕ → Bool
a =? b = eqb a b

unfoldable pub ◌and◌ : Bool → Bool → Bool
true and b = b
false and b = false

unfoldable pub ◌or◌ : Bool → Bool → Bool
true or b = true
false or b = b

-- the first where the test holds, else the second
unfoldable pub pick : {A : Type 0} → Bool → A → A → A
pick true x y = x
pick false x y = y

-- each of a list passes
unfoldable pub every : {A : Type 0} → (A → Bool) → List A → Bool
every f [] = true
every f (x ∷ l) = f x and every f l
