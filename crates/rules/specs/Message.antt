-- Messages, their octets, and which octets are accepted: the written rule over whole messages (document 01, The
-- message).
-- Assumes nothing.
use Rattle.rules.specs.Tests.{◌=?◌, ◌or◌}
use Rattle.std.specs.Prelude.{ℕ, ◌≤◌, ◌<◌, ◌≡◌, Bool, List, [], ◌∷◌, ◌++◌, length, T}
use Rattle.rules.specs.Octets.{total, checksum}
use Rattle.rules.specs.Table.{Rules, class_of, contents_fit}

pub record Parameter : Type 0 where
  pub kind : ℕ
  pub contents : List ℕ

pub record Message : Type 0 where
  pub kind : ℕ
  pub parameters : List Parameter

-- parameters as octets: a type, a length and the contents, one after the other
unfoldable pub body : List Parameter → List ℕ
body [] = []
body (p ∷ ps) = p.kind ∷ length p.contents ∷ p.contents ++ body ps

-- the message type, the length L and the L octets of parameters: all but the checksum
abbrev pub front : Message → List ℕ
front m = m.kind ∷ length (body m.parameters) ∷ body m.parameters

-- the checksum makes the sum of all octets 0 modulo 256
unfoldable pub octets : Message → List ℕ
octets m = front m ++ checksum (total (front m)) ∷ []

-- at most so many parameters: each takes three of 255 octets (`few` in Sizes)
abbrev pub most : ℕ
most = 85

-- a call message or a notice
unfoldable pub message_kind : ℕ → Bool
message_kind x = x =? 0x80 or x =? 0x82

module _ (R : Rules) where
  pub record LegalParameter (p : Parameter) : Type 0 where
    pub octet : p.kind < 256
    pub fits : T (contents_fit (class_of R p.kind) p.contents)

  abbrev pub AllLegal : List Parameter → Type 0
  AllLegal [] = Unit {0}
  AllLegal (p ∷ ps) = LegalParameter p × AllLegal ps

  -- L is 3 to 255
  pub record LegalMessage (m : Message) : Type 0 where
    pub kind : T (message_kind m.kind)
    pub parameters : AllLegal m.parameters
    pub long : 3 ≤ length (body m.parameters)
    pub short : length (body m.parameters) < 256

  -- the octets of a legal message
  abbrev pub Accepts : List ℕ → Type 0
  Accepts o = (m : Message) × LegalMessage m × (octets m ≡ o)
