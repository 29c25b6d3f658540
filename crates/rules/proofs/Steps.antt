-- The ways of the machine's step, each from what the tests of its octet gave: what code that judges an octet has to
-- show.
-- Assumes nothing.
use mathlib.Core.Path.{◌≡◌, refl, sym, ◌∙◌, ap, ap₂}
use mathlib.Core.Bool.{Bool, true, false}
use Prim.Native.Nat.{ℕ, ◌+◌, ◌%◌, ◌≤◌, ◌<◌}
use native.Mathlib.Omega.{arith}
use lib.Dec.{T}
use Rattle.rules.specs.Octets.{checksum}
use Rattle.rules.specs.Table.{Rules, class_of, type_fault, class_fault}
use Rattle.rules.specs.Refusals.{noted}
use Rattle.rules.specs.Machine.{moved, declined, step}
use Rattle.rules.specs.Judge.{final, fits, after, fault, machine, room_fits, possible}
use Rattle.rules.proofs.Remaining.{fits_room}
use Rattle.rules.proofs.Returns.{pick_t, pick_f, yes_eq, no_eq}
use Rattle.rules.specs.declared.Class.{Class}
use Rattle.rules.specs.declared.Stage.{Stage}
use Rattle.rules.specs.declared.Stage.TheVariants.{Header, Length}
use Rattle.rules.specs.declared.Spot.{Spot}
use Rattle.rules.specs.declared.State.{State}
use Rattle.rules.specs.declared.State.TheVariants.{Waiting, Message, Refused}

module _ (R : Rules) (s : Stage) (q : Spot) (x : ℕ) where
  pub takes : (n : Stage) (p : Spot) → final s ≡ false → fits R s x ≡ true → n ≡ after R s x →
      p ≡ moved (machine R) s q x → Waiting n p ≡ step (machine R) (Waiting s q) x
  unfolding step machine
  takes n p f k e u = pick_f _ _ _ _ f (pick_t _ _ _ _ k (ap₂ Waiting e u))

  pub declines : (w : State) → final s ≡ false → fits R s x ≡ false → w ≡ declined (machine R) s (fault R s x) q →
      w ≡ step (machine R) (Waiting s q) x
  unfolding step machine
  declines w f k e = pick_f _ _ _ _ f (pick_f _ _ _ _ k e)

-- the checksum wanted is a wrapping subtract from zero
module _ (R : Rules) (q : Spot) (x c : ℕ) (e : (c + q.sum) % 256 ≡ 0) (l : c < 256) (s : q.sum < 256) where
  sealed : c ≡ checksum q.sum
  unfolding checksum
  sealed = omega arith

  pub seals : x ≡ c → Message (q.place + 1) ≡ step (machine R) (Waiting (Header 0) q) x
  unfolding step machine final
  seals k = pick_t _ _ _ _ (yes_eq _ _ refl) (pick_t _ _ _ _ (yes_eq _ _ (k ∙ sealed)) (ap Message (omega arith)))

  pub spoils : (w : State) → (x ≡ c → ⊥) → w ≡ Refused (noted 6 q.place) →
      w ≡ step (machine R) (Waiting (Header 0) q) x
  unfolding step machine final
  spoils w k e = pick_t _ _ _ _ (yes_eq _ _ refl) (pick_f _ _ _ _ (no_eq _ _ (λ z. k (z ∙ sym sealed))) e)

pub room_left : (n r : ℕ) → T (room_fits n r) → n + 2 ≤ r
room_left n r t = omega (arith, (fits_room n r t).0)

-- a parameter type, whose class c the code has looked up
module _ (R : Rules) (r : ℕ) (q : Spot) (x : ℕ) (c : Class) (some : r ≡ 0 → ⊥) (e : c ≡ class_of R x) where
  stands : (b : Bool) → possible c r ≡ b → fits R (Header r) x ≡ b
  unfolding fits
  stands b k = ap (λ (d : Class). possible d r) (sym e) ∙ k

  pub type_taken : (p : Spot) → possible c r ≡ true → p ≡ moved (machine R) (Header r) q x →
      Waiting (Length c r) p ≡ step (machine R) (Waiting (Header r) q) x
  unfolding final after
  type_taken p k u = takes R (Header r) q x _ p (no_eq _ _ some) (stands true k) (ap (λ (d : Class). Length d r) e) u

  pub type_declined : (w : State) (k : ℕ) → k ≡ class_fault c → possible c r ≡ false →
      w ≡ declined (machine R) (Header r) k q → w ≡ step (machine R) (Waiting (Header r) q) x
  unfolding final fault type_fault
  type_declined w n f k u =
      declines R (Header r) q x w (no_eq _ _ some) (stands false k)
      (u ∙ ap (λ (j : ℕ). declined (machine R) (Header r) j q) (f ∙ ap class_fault e))
