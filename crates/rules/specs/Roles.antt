-- The role of each octet of a message: the number that a wrong octet in its place gets (document 01, Numbers given
-- when the work is declined), and the parameter that it stands in (document 02, Q-3).
-- Assumes nothing.
use Rattle.std.specs.Prelude.{ℕ, zero, suc, List, [], ◌∷◌, ◌++◌, length}
use Rattle.rules.specs.Table.{Rules, type_fault}
use Rattle.rules.specs.Message.{Parameter, Message}

-- the number that each octet gets where it is refused; the parameter, from 1, and 0 where it stands in none
pub record Role : Type 0 where
  pub number : ℕ → ℕ
  pub parameter : ℕ

-- one number for every octet
abbrev pub always : ℕ → ℕ → Role
always k b = record { number = λ x. k; parameter = b }

-- the role at a place
unfoldable pub role_at : List Role → ℕ → Role
role_at [] p = always 0 0
role_at (r ∷ rs) zero = r
role_at (r ∷ rs) (suc p) = role_at rs p

unfoldable pub times : ℕ → Role → List Role
times zero r = []
times (suc n) r = r ∷ times n r

module _ (R : Rules) where
  -- type, length and contents of each parameter, of which the first has the number b
  unfoldable pub body_roles : ℕ → List Parameter → List Role
  body_roles b [] = []
  body_roles b (p ∷ ps) =
      record { number = type_fault R; parameter = b } ∷ always 4 b ∷ times (length p.contents) (always 5 b)
      ++ body_roles (suc b) ps

  -- message type, L, parameters, checksum
  unfoldable pub roles : Message → List Role
  roles m = always 1 0 ∷ always 2 0 ∷ body_roles 1 m.parameters ++ always 6 0 ∷ []
