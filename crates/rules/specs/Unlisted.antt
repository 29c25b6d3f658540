-- Types that the rules do not list (document 02, Q-11), over the written rules: where the type of a parameter stands in
-- octets, which octet is a type without a row, and messages all of whose types have one.
-- Assumes nothing.
use Rattle.std.specs.Prelude.{ℕ, suc, ◌<◌, ◌≡◌, List, [], ◌∷◌, length, take, get_or, T}
use Rattle.rules.specs.Table.{Rules, listed}
use Rattle.rules.specs.Message.{Parameter, body, Accepts}
use Rattle.rules.specs.Endings.{Ending}

-- octet p is the type of parameter b: before it stand the message type, L and whole parameters, one fewer than b, which
-- do not fill L
pub record TypeAt (h : List ℕ) (p b : ℕ) : Type 0 where
  pub kind : ℕ
  pub long : ℕ
  pub parameters : List Parameter
  pub before : take p h ≡ kind ∷ long ∷ body parameters
  pub room : length (body parameters) < long
  pub number : b ≡ suc (length parameters)

module _ (R : Rules) where
  -- octet p is the type of parameter b and has no row, and the octets before it begin a message
  pub record UnlistedAt (h : List ℕ) (p b : ℕ) : Type 0 where
    pub place : p < length h
    pub before : Ending (Accepts R) (take p h)
    pub stands : TypeAt h p b
    pub unlisted : T (listed R (get_or h p 0)) → ⊥

  -- every type has a row
  abbrev pub AllListed : List Parameter → Type 0
  AllListed [] = Unit {0}
  AllListed (p ∷ ps) = T (listed R p.kind) × AllListed ps
