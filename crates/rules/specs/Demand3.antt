-- Demand 3 over the written rules alone, for any language: what its machine's answer says of the octets heard.
-- `Demand3 L` is the page to read; `demand3` of proofs/ proves it with no hypothesis but octets below 256.
-- Assumes nothing.
use Rattle.std.specs.Prelude.{ℕ, ◌≤◌, ◌<◌, ◌≡◌, ◌↔◌, List, ◌++◌, length, take}
use Rattle.rules.specs.Octets.{Octets}
use Rattle.rules.specs.Endings.{Ending, Spoilt, Numbered}
use Rattle.rules.specs.Machine.{run, answer, Waits}
use Rattle.rules.specs.Language.{Language}
use Rattle.rules.specs.declared.State.{State}
use Rattle.rules.specs.declared.State.TheVariants.{Message, Refused}
use Rattle.rules.specs.declared.Fault.{Fault}

-- The octets heard are h, each below 256.
pub record Demand3 (L : Language) : Type 0 where
  -- it waits exactly when some ending would still complete a message
  pub waits : (h : List ℕ) → Octets h → Waits (answer L.machine h) ↔ Ending L.Accepts h
  -- it has a message of size n exactly when the first n octets are accepted
  pub has_message : (h : List ℕ) → Octets h → (n : ℕ) →
      (answer L.machine h ≡ Message n) ↔ ((n ≤ length h) × L.Accepts (take n h))
  -- it refuses exactly at the octet that spoils the message, with the number and the parameter of that octet's role
  pub refuses : (h : List ℕ) → Octets h → (f : Fault) →
      (answer L.machine h ≡ Refused f) ↔
      (Spoilt L.Accepts h f.place
      × Numbered L.Accepts L.roles h f.place f.number f.parameter)
  -- an answer stays, whatever follows
  pub message_stays : (n : ℕ) (h : List ℕ) → run L.machine (Message n) h ≡ Message n
  pub refusal_stays : (f : Fault) (h : List ℕ) → run L.machine (Refused f) h ≡ Refused f
  -- any cutting ends as one run does
  pub cut_anywhere : (w : State) (a b : List ℕ) →
      run L.machine w (a ++ b) ≡ run L.machine (run L.machine w a) b
  -- it has its answer after 258 octets at the latest
  pub answers_by_258 : (h : List ℕ) → Octets h → Waits (answer L.machine h) → length h < 258
