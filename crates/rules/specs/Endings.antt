-- The words of demand 3 (document 01, Listening), over any rule that accepts whole messages and gives each of their
-- octets a role: what completes octets, which octet spoils them, and the number and the parameter that it gets.
-- Assumes nothing.
use Rattle.std.specs.Prelude.{ℕ, suc, ◌<◌, ◌≡◌, ◌≢◌, List, [], ◌++◌, length, take, get_or}
use Rattle.rules.specs.Octets.{Octets}
use Rattle.rules.specs.Roles.{Role, role_at}

module _ (Accepts : List ℕ → Type 0) where
  -- at least one octet more, with which the octets heard are accepted
  pub record Ending (h : List ℕ) : Type 0 where
    pub e : List ℕ
    pub some : e ≢ []
    pub octets : Octets e
    pub accepted : Accepts (h ++ e)

  -- octet p spoils the message: the first p octets have an ending, the first p + 1 neither are accepted nor have one
  pub record Spoilt (h : List ℕ) (p : ℕ) : Type 0 where
    pub place : p < length h
    pub before : Ending (take p h)
    pub none : Accepts (take (suc p) h) → ⊥
    pub hopeless : Ending (take (suc p) h) → ⊥

  -- k and b are the number and the parameter of octet p in the role that its place has, whichever accepted message the
  -- octets before it begin
  abbrev pub Numbered : ((o : List ℕ) → Accepts o → List Role) → List ℕ → ℕ → ℕ → ℕ → Type 0
  Numbered roles h p k b =
      (e : List ℕ) (a : Accepts (take p h ++ e)) →
      ((role_at (roles (take p h ++ e) a) p).number (get_or h p 0) ≡ k)
      × ((role_at (roles (take p h ++ e) a) p).parameter ≡ b)
