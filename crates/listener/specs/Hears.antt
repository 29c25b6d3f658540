-- What demand 3 says of a call of the listener, over the written rules alone (document 01, Listening).
-- Assumes nothing.
use Rattle.std.specs.Prelude.{◌≡◌, ℕ, suc, ◌+◌, ◌<◌, ◌≤◌, ◌↔◌, List, ◌++◌, length, take}
use Rattle.rules.specs.Endings.{Ending, Spoilt, Numbered}
use Rattle.rules.specs.Language.{Language}
use Rattle.listener.specs.declared.Heard.{Heard}
use Rattle.listener.specs.Told.{told, waiting, success, refusal, Clear}

-- The listener had taken the octets h since its reset, was given the run o, and answered r.
pub record Hears (L : Language) (h o : List ℕ) (r : Heard) : Type 0 where
  -- number, place, parameter and size tell the answer
  pub clear : Clear r.answer
  -- it waits exactly when some ending would still complete a message
  pub waits : (told r.answer ≡ waiting) ↔ Ending L.Accepts (h ++ o)
  -- it has a message of size n exactly when the first n octets are accepted
  pub has_message : (n : ℕ) → 1 ≤ n →
      (told r.answer ≡ success n) ↔ ((n ≤ length (h ++ o)) × L.Accepts (take n (h ++ o)))
  -- it refuses exactly at the octet that spoils the message, with the number and the parameter of that octet's role
  pub refuses : (k p b : ℕ) → 1 ≤ k →
      (told r.answer ≡ refusal k p b) ↔
      (Spoilt L.Accepts (h ++ o) p × Numbered L.Accepts L.roles (h ++ o) p k b)
  -- it takes the whole run while it waits, the message's octets and no more, and the spoiling octet but none after it
  pub taken_waiting : told r.answer ≡ waiting → r.taken ≡ length o
  pub taken_message : (n : ℕ) → 1 ≤ n → told r.answer ≡ success n → length h + r.taken ≡ n
  pub taken_refused : (k p b : ℕ) → 1 ≤ k → told r.answer ≡ refusal k p b → length h + r.taken ≡ suc p
  -- it has its answer after 258 octets at the latest
  pub answers_by_258 : told r.answer ≡ waiting → length (h ++ o) < 258
