-- Runs of octets: what is taken of them, from where a loop stands; and that what is taken is all that matters.
-- Assumes nothing.
use Rattle.std.proofs.Common.{◌≡◌, ℕ, suc, ◌+◌, ◌<◌, ◌≤◌, true, false, List, [], ◌∷◌, ◌++◌, length, get_or, take, drop, sym, refl, ap, ◌∙◌, add-zero, zero-add, add-one, arith, drop_of_length-le, drop-cons}
use Rattle.rules.specs.Tests.{pick}
use Rattle.rules.specs.Machine.{Machine, step, run, place}
use Rattle.rules.proofs.Listening.{stepped, placed, message_stays, refused_stays}
use Rattle.rules.specs.declared.State.{State}
use Rattle.rules.specs.declared.State.TheVariants.{Waiting, Message, Refused}
use Rattle.listener.specs.Heard.{stopped, taken, run_of, run_from}

module _ (M : Machine) where
  pub run-stopped : (w : State) (h : List ℕ) → stopped w ≡ true → run M w h ≡ w
  unfolding stopped
  run-stopped (Waiting s q) h e = cc
  run-stopped (Message n) h e = message_stays M n h
  run-stopped (Refused f) h e = refused_stays M f h

  pub taken-stopped : (w : State) (h : List ℕ) → stopped w ≡ true → taken M w h ≡ 0
  unfolding taken pick
  taken-stopped w [] e = refl
  taken-stopped w (x ∷ h) e = rw e

  -- ---- for the loop
  pub run_zero : (w : State) (h : List ℕ) → run_from 0 M w h ≡ run_of M w h
  unfolding run_from run_of
  run_zero w h = simp zero-add

  pub ran_stopped : (w : State) (h : List ℕ) (i : ℕ) → stopped w ≡ true →
      run_from i M w h ≡ record { state = w; taken = i }
  unfolding run_from
  ran_stopped w h i e = simp (run-stopped w h e, taken-stopped w h e, add-zero)

  pub ran_out : (w : State) (h : List ℕ) (i : ℕ) → length h ≤ i →
      run_from i M w (drop i h) ≡ record { state = w; taken = i }
  unfolding run_from run taken
  ran_out w h i l = rw (drop_of_length-le h l) (simp add-zero)

  run_cons : (w : State) (x : ℕ) (t : List ℕ) (i : ℕ) → stopped w ≡ false →
      run_from (i + 1) M (step M w x) t ≡ run_from i M w (x ∷ t)
  unfolding run_from run taken pick
  run_cons w x t i e = rw e (ap (λ (n : ℕ). record { state = run M (step M w x) t; taken = n }) (omega arith))

  drop_one : (h : List ℕ) (i : ℕ) → i < length h → drop i h ≡ get_or h i 0 ∷ drop (i + 1) h
  drop_one h i l = drop-cons h i 0 l ∙ ap (λ (n : ℕ). get_or h i 0 ∷ drop n h) (sym (add-one i))

  pub run_more : (w r : State) (h : List ℕ) (i : ℕ) → r ≡ step M w (get_or h i 0) → i < length h →
      stopped w ≡ false → run_from (i + 1) M r (drop (i + 1) h) ≡ run_from i M w (drop i h)
  run_more w r h i q l e =
      ap (λ (k : State). run_from (i + 1) M k (drop (i + 1) h)) q ∙ run_cons w _ _ i e
      ∙ ap (run_from i M w) (sym (drop_one h i l))

  -- ---- what is taken
  pub run-taken : (w : State) (h : List ℕ) → run M w (take (taken M w h) h) ≡ run M w h
  unfolding run taken pick stopped step
  run-taken w [] = refl
  run-taken (Waiting s q) (x ∷ h) = run-taken (step M (Waiting s q) x) h
  run-taken (Message n) (x ∷ h) = sym (message_stays M n h)
  run-taken (Refused f) (x ∷ h) = sym (refused_stays M f h)

  -- every octet taken is counted by the place
  pub place-taken : (w : State) (h : List ℕ) → place (run M w h) ≡ place w + taken M w h
  unfolding run taken pick stopped step
  place-taken w [] = omega arith
  place-taken (Waiting s q) (x ∷ h) = omega (arith, place-taken (step M (Waiting s q) x) h, placed M (stepped M s q x))
  place-taken (Message n) (x ∷ h) = omega (arith, ap place (message_stays M n h))
  place-taken (Refused f) (x ∷ h) = omega (arith, ap place (refused_stays M f h))

  pub taken_most : (w : State) (h : List ℕ) → taken M w h ≤ length h
  unfolding taken pick stopped step
  taken_most w [] = omega arith
  taken_most (Waiting s q) (x ∷ h) = omega (arith, taken_most (step M (Waiting s q) x) h)
  taken_most (Message n) (x ∷ h) = omega arith
  taken_most (Refused f) (x ∷ h) = omega arith

  -- all of a run while the answer is still to come
  pub taken_all : (w : State) (h : List ℕ) → stopped (run M w h) ≡ false → taken M w h ≡ length h
  unfolding run taken pick stopped step
  taken_all w [] e = refl
  taken_all (Waiting s q) (x ∷ h) e = ap suc (taken_all (step M (Waiting s q) x) h e)
  taken_all (Message n) (x ∷ h) e = cc (ap stopped (message_stays M n h))
  taken_all (Refused f) (x ∷ h) e = cc (ap stopped (refused_stays M f h))

  -- a run cut in two
  pub taken-append : (w : State) (a b : List ℕ) → taken M w (a ++ b) ≡ taken M w a + taken M (run M w a) b
  unfolding run taken pick stopped step
  taken-append w [] b = omega arith
  taken-append (Waiting s q) (x ∷ a) b = omega (arith, taken-append (step M (Waiting s q) x) a b)
  taken-append (Message n) (x ∷ a) b =
      omega (arith, taken-stopped (Message n) b refl, ap (λ (w : State). taken M w b) (message_stays M n a))
  taken-append (Refused f) (x ∷ a) b =
      omega (arith, taken-stopped (Refused f) b refl, ap (λ (w : State). taken M w b) (refused_stays M f a))
