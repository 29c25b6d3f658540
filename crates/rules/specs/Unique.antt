-- What holds of all messages: their octets tell them apart, no accepted octets begin other accepted octets, and all
-- octets sum to 0 modulo 256.
-- Assumes nothing.
use Rattle.std.specs.Prelude.{ℕ, ◌%◌, ◌≤◌, ◌≡◌, List, [], ◌++◌, length}
use Rattle.rules.specs.Octets.{Octets, total}
use Rattle.rules.specs.Table.{Rules}
use Rattle.rules.specs.Message as message
use Rattle.rules.specs.Message.{octets, Accepts}

pub record Unique (R : Rules) : Type 0 where
  -- octets tell the message
  pub message : (m n : message.Message) → octets m ≡ octets n → m ≡ n
  -- no accepted message begins another
  pub whole : (o e : List ℕ) → Accepts R o → Accepts R (o ++ e) → e ≡ []
  -- document 01's sentence on the checksum
  pub sum : (o : List ℕ) → Accepts R o → total o % 256 ≡ 0
  -- octets that are accepted are octets, 6 to 258 of them
  pub octets : (o : List ℕ) → Accepts R o → Octets o
  pub size : (o : List ℕ) → Accepts R o → (6 ≤ length o) × (length o ≤ 258)
