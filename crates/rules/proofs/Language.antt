-- What the machine of a language and its messages owe each other, as one record; and, by that record, that no
-- octets lead out of range.
-- Assumes nothing.
use Prim.Native.Nat.{ℕ, ◌≤◌, ◌<◌}
use mathlib.Core.Path.{◌≡◌}
use mathlib.Core.List.{List, [], ◌∷◌, ◌++◌}
use lib.ListN.{length}
use lib.Dec.{T}
use Rattle.rules.specs.Octets.{Octets}
use Rattle.rules.specs.Contents.{within}
use Rattle.rules.specs.Roles.{always}
use Rattle.rules.specs.Machine.{step, run, start, place}
use Rattle.rules.proofs.Listening.{Grammar, Accepted, trace}
use Rattle.rules.specs.Language.{Language}
use Rattle.rules.specs.declared.Fault.{Fault}
use Rattle.rules.specs.declared.State.{State}
use Rattle.rules.specs.declared.State.TheVariants.{Message, Refused}

-- what the machine owes to the messages
pub record Spoken (L : Language) : Type 1 where
  -- its words are the messages, its faults along them their roles, and they have 6 to 258 octets
  pub grammar : Grammar L.machine
  pub accepts : (o : List ℕ) → Accepted L.machine grammar o → L.Accepts o
  pub words : (o : List ℕ) → L.Accepts o → Accepted L.machine grammar o
  pub traced : (o : List ℕ) (a : L.Accepts o) →
      trace L.machine 0 L.machine.first (words o a).0 ++ always 6 0 ∷ [] ≡ L.roles o a
  pub size : (o : List ℕ) → L.Accepts o → (6 ≤ length o) × (length o ≤ 258)
  -- no octets lead out of range, and what is in range has the numbers of the paper
  pub in_range_start : T (L.in_range (start L.machine))
  pub in_range_closed : (w : State) (x : ℕ) → x < 256 → T (L.in_range w) → T (L.in_range (step L.machine w x))
  pub within_258 : (w : State) → T (L.in_range w) → place w ≤ 258
  pub sized : (n : ℕ) → T (L.in_range (Message n)) → (6 ≤ n) × (n ≤ 258)
  pub refused : (f : Fault) → T (L.in_range (Refused f)) →
      T (L.given f.number) × (f.place ≤ 257) × (f.parameter ≤ 85)
  -- 1 to 6, and 10
  pub numbers : (k : ℕ) → T (L.given k) → (1 ≤ k) × (k ≤ 10) × (T (within (7, 9) k) → ⊥)

pub in_range-run : {L : Language} → Spoken L → (w : State) (h : List ℕ) → Octets h → T (L.in_range w) →
    T (L.in_range (run L.machine w h))
unfolding run
in_range-run S w [] o t = t
in_range-run {L = L} S w (x ∷ h) o t = in_range-run S (step L.machine w x) h o.1 (S.in_range_closed w x o.0 t)
