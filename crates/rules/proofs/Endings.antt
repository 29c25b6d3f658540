-- Rules that accept the same octets leave the same endings, and are spoilt by the same octet.
-- Assumes nothing.
use Prim.Native.Nat.{ℕ}
use mathlib.Core.List.{List}
use Rattle.rules.specs.Endings.{Ending, Spoilt}

module _ {A B : List ℕ → Type 0} (to : (o : List ℕ) → A o → B o) where
  pub ending_to : (h : List ℕ) → Ending A h → Ending B h
  ending_to h d = record { e = d.e; some = d.some; octets = d.octets; accepted = to _ d.accepted }

  pub spoilt_to : (of : (o : List ℕ) → B o → A o) (h : List ℕ) (p : ℕ) → Spoilt A h p → Spoilt B h p
  spoilt_to of h p d = record {
    place = d.place;
    before = ending_to _ d.before;
    none = λ u. d.none (of _ u);
    hopeless =
        λ u. d.hopeless (record { e = u.e; some = u.some; octets = u.octets; accepted = of _ u.accepted });
  }
