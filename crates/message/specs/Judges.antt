-- What a verdict says of the octets, over the written rules alone (document 01, Numbers: 1 to 6, then 8, then 7;
-- document 02, Q-11: 10).
-- Assumes nothing.
use Rattle.std.specs.Prelude.{◌≡◌, ℕ, ◌<◌, ◌≤◌, Bool, T, ◌↔◌, List, length, take, Result}
use Rattle.rules.specs.Tests.{◌or◌}
use Rattle.rules.specs.Contents.{within}
use Rattle.rules.specs.Endings.{Ending, Spoilt, Numbered}
use Rattle.rules.specs.Message.{most}
use Rattle.rules.specs.Language.{Language}
use Rattle.rules.specs.declared.Fault.{Fault}
use Rattle.message.specs.Told.{told, success, refusal, Clear}

-- the numbers of a verdict: those of the language, and 7 and 8
unfoldable pub verdict_number : Language → ℕ → Bool
verdict_number L k = L.given k or within (7, 8) k

-- v is the verdict on the octets o
pub record Judges (L : Language) (o : List ℕ) (v : Result ℕ Fault) : Type 0 where
  -- number, place, parameter and size tell it
  pub clear : Clear v
  -- number 0 exactly when they are a message
  pub done : ((told v).number ≡ 0) ↔ L.Accepts o
  -- then accepted, with their number
  pub accepted : (n : ℕ) → (told v ≡ success n) ↔ ((length o ≡ n) × L.Accepts o)
  -- 1 to 6 and 10 exactly at the octet that spoils the message, with the number and the parameter of its role
  pub spoilt : (k p b : ℕ) → T (L.given k) →
      (told v ≡ refusal k p b) ↔ (Spoilt L.Accepts o p × Numbered L.Accepts L.roles o p k b)
  -- 8 at the number of octets exactly when they can still be completed
  pub early : (p : ℕ) → (told v ≡ refusal 8 p 0) ↔ ((p ≡ length o) × Ending L.Accepts o)
  -- 7 at the first octet behind an accepted message
  pub followed : (p : ℕ) → (told v ≡ refusal 7 p 0) ↔ ((p < length o) × L.Accepts (take p o))
  -- 7 and 8 name no parameter
  pub no_parameter : T (within (7, 8) (told v).number) → (told v).parameter ≡ 0
  -- and no other number
  pub numbers : 1 ≤ (told v).number → T (verdict_number L (told v).number)
  -- no place lies beyond 258
  pub near : (told v).place ≤ 258
  -- and no parameter beyond the last that a message has room for
  pub few : (told v).parameter ≤ most
