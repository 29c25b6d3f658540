-- In range is closed under step, and a new state is in range: so no octets lead out of it (document 01, Listening,
-- its last sentences).
-- Assumes nothing.
use Prim.Native.Nat.{ℕ, suc, ◌+◌, ◌*◌, ◌-◌, ◌≤◌, ◌<◌}
use mathlib.Core.Path.{◌≡◌, refl, sym, subst}
use mathlib.Core.Bool.{Bool}
use mathlib.Core.Logic.{◌⊎◌, inl, inr, ◌↔◌}
use native.Mathlib.Omega.{arith}
use lib.Dec.{T}
use Rattle.rules.specs.Tests.{◌=?◌, ◌and◌, ◌or◌, pick}
use Rattle.rules.proofs.Tests.{both, join, either, left, right, le_of, of_le, eq_of, of_eq, pick_case, not_zero}
use Rattle.rules.specs.Contents.{within}
use Rattle.rules.specs.Table.{Rules, listed, class_of, type_fault, class_fault}
use Rattle.rules.proofs.ContentLaw.{lawful, class_fault_lem, SoundRules, type_fault_lem}
use Rattle.rules.specs.Message.{most}
use Rattle.rules.specs.Machine.{moved, step, start, place}
use Rattle.rules.specs.Judge.{final, fits, contents, after, fault, stands_in, machine, given, named, behind, amid, place_fits, count_fits, in_range}
use Rattle.rules.proofs.Remaining.{fits_room, at_contents}
use Rattle.rules.proofs.Listening.{StepWay, seals, spoils, takes, declines, stepped}
use Rattle.rules.specs.declared.Class.{Class}
use Rattle.rules.specs.declared.Stage.{Stage}
use Rattle.rules.specs.declared.Stage.TheVariants.{Kind, Size, Header, Length, Content}
use Rattle.rules.specs.declared.Spot.{Spot}
use Rattle.rules.specs.declared.Fault.{Fault}
use Rattle.rules.specs.declared.State.{State}
use Rattle.rules.specs.declared.State.TheVariants.{Waiting, Message, Refused}

pub low : (a b x : ℕ) → T (within (a, b) x) → a ≤ x
unfolding within
low a b x t = le_of _ _ (both _ _ t).0

pub high : (a b x : ℕ) → T (within (a, b) x) → x ≤ b
unfolding within
high a b x t = le_of _ _ (both _ _ t).1

pub inside : (a b x : ℕ) → a ≤ x → x ≤ b → T (within (a, b) x)
unfolding within
inside a b x l h = join _ _ (of_le _ _ l) (of_le _ _ h)

-- ---- which parameter
pub of_behind : (b p : ℕ) → T (behind b p) → 3 * b + 2 ≤ p
unfolding behind
of_behind b p t = le_of _ _ t

pub to_behind : (b p : ℕ) → 3 * b + 2 ≤ p → T (behind b p)
unfolding behind
to_behind b p h = of_le _ _ h

pub of_amid : (b i p : ℕ) → T (amid b i p) → (1 ≤ b) × (3 * b + i ≤ p)
unfolding amid
of_amid b i p t = let d = both _ _ t in (le_of _ _ d.0, le_of _ _ d.1)

pub to_amid : (b i p : ℕ) → 1 ≤ b → 3 * b + i ≤ p → T (amid b i p)
unfolding amid
to_amid b i p h l = join _ _ (of_le _ _ h) (of_le _ _ l)

-- a refusal in no parameter, and one in a parameter
pub no_parameter : (k : ℕ) → (3 ≤ k → k ≤ 5 → ⊥) → (k ≡ 10 → ⊥) → T (named k 0)
unfolding named
no_parameter k f g =
    pick_case (λ (b : Bool). T b) (within (3, 5) k or k =? 10) _ _ (λ t. absurd (go (either _ _ t)))
    (λ _. of_eq _ _ refl)
  where
    go : T (within (3, 5) k) ⊎ T (k =? 10) → ⊥
    go (inl t) = f (low _ _ _ t) (high _ _ _ t)
    go (inr t) = g (eq_of _ _ t)

in_parameter : (k b : ℕ) → T (within (3, 5) k or k =? 10) → 1 ≤ b → b ≤ most → T (named k b)
unfolding named
in_parameter k b t h l =
    pick_case (λ (b : Bool). T b) (within (3, 5) k or k =? 10) _ _ (λ _. inside _ _ _ h l) (λ f. absurd (f t))

three_to_five : (k b : ℕ) → 3 ≤ k → k ≤ 5 → 1 ≤ b → b ≤ most → T (named k b)
three_to_five k b h l = in_parameter k b (left _ _ (inside _ _ _ h l))

module _ (R : Rules) (S : SoundRules R) where
  -- no place of a message is beyond 257
  pub near : (s : Stage) (q : Spot) → T (in_range R (Waiting s q)) → q.place ≤ 257
  unfolding in_range place_fits count_fits
  near Kind q t = omega (arith, eq_of _ _ (both _ _ t).0)
  near Size q t = omega (arith, eq_of _ _ (both _ _ t).0)
  near (Header r) q t = omega (arith, high _ _ _ (both _ _ t).0)
  near (Length c r) q t = let d = both _ _ (both _ _ t).0 in omega (arith, le_of _ _ d.0, high _ _ _ d.1)
  near (Content c n i m r) q t =
      let d = both _ _ (both _ _ t).0 in
      omega (arith, le_of _ _ d.0, high _ _ _ d.1)

  -- and no parameter beyond the 85th
  pub few : (s : Stage) (q : Spot) → T (in_range R (Waiting s q)) → q.parameter ≤ 85
  unfolding in_range place_fits count_fits
  few Kind q t = omega (arith, eq_of _ _ (both _ _ t).1)
  few Size q t = omega (arith, eq_of _ _ (both _ _ t).1)
  few (Header r) q t = omega (arith, high _ _ _ (both _ _ t).0, of_behind _ _ (both _ _ t).1)
  few (Length c r) q t =
      let d = both _ _ (both _ _ t).0 in
      omega (arith, le_of _ _ d.0, high _ _ _ d.1, (of_amid _ _ _ (both _ _ t).1).1)
  few (Content c n i m r) q t =
      let d = both _ _ (both _ _ t).0 in
      omega (arith, le_of _ _ d.0, high _ _ _ d.1, (of_amid _ _ _ (both _ _ t).1).1)

  -- no more octets than 258 lead to a state
  pub within_258 : (w : State) → T (in_range R w) → place w ≤ 258
  unfolding in_range place_fits count_fits
  within_258 (Waiting s q) t = omega (arith, near s q t)
  within_258 (Message n) t = high _ _ _ t
  within_258 (Refused f) t = omega (arith, le_of _ _ (both _ _ (both _ _ t).0).1)

  -- the checksum stands at 5 at the earliest
  sealing : (s : Stage) (q : Spot) → T (in_range R (Waiting s q)) → T (final s) → 5 ≤ q.place
  unfolding in_range place_fits count_fits final
  sealing Kind q t f = absurd f
  sealing Size q t f = absurd f
  sealing (Header r) q t f = omega (arith, low _ _ _ (both _ _ t).0, eq_of _ _ f)
  sealing (Length c r) q t f = absurd f
  sealing (Content c n i m r) q t f = absurd f

  on_contents : (c : Class) (n i m r : ℕ) (q : Spot) → 5 + i ≤ q.place + n + r → q.place + n + r ≤ 257 + i →
      i ≤ n → 1 ≤ q.parameter → 3 * q.parameter + (1 + i) ≤ q.place → (i ≡ n → 1 ≤ i) →
      T (in_range R (Waiting (contents c n i m r) q))
  unfolding in_range place_fits count_fits
  on_contents c n i m r q a b l h u z =
      at_contents (λ (s : Stage). T (in_range R (Waiting s q))) c n i m r
      (λ e. join _ _ (inside _ _ _ (omega arith) (omega arith)) (to_behind _ _ (omega (arith, z e))))
      (λ e. join _ _ (join _ _ (of_le _ _ (omega (arith, e))) (inside _ _ _ (omega arith) (omega arith)))
      (to_amid _ _ _ h u))

  kept : (s : Stage) (q p : Spot) (x : ℕ) → x < 256 → p.place ≡ suc q.place →
      p.parameter ≡ stands_in s q.parameter → T (in_range R (Waiting s q)) →
      (T (final s) → ⊥) → T (fits R s x) → T (in_range R (Waiting (after R s x) p))
  unfolding in_range place_fits count_fits fits after final stands_in
  kept Kind q p x o e g t n f =
      join _ _ (of_eq _ _ (omega (arith, eq_of _ _ (both _ _ t).0))) (of_eq _ _ g)
  kept Size q p x o e g t n f =
      let a = eq_of _ _ (both _ _ t).0 in
      let b = le_of _ _ f in
      join _ _ (inside _ _ _ (omega arith) (omega arith)) (to_behind _ _ (omega arith))
  kept (Header r) q p x o e g t n f =
      let a = low _ _ _ (both _ _ t).0 in
      let b = high _ _ _ (both _ _ t).0 in
      let k = of_behind _ _ (both _ _ t).1 in
      join _ _ (join _ _ (of_le _ _ (not_zero r n)) (inside _ _ _ (omega arith) (omega arith)))
      (to_amid _ _ _ (omega arith) (omega arith))
  kept (Length c r) q p x o e g t n f =
      let a = low _ _ _ (both _ _ (both _ _ t).0).1 in
      let b = high _ _ _ (both _ _ (both _ _ t).0).1 in
      let d = (fits_room x r (both _ _ f).1).0 in
      let k = of_amid _ _ _ (both _ _ t).1 in
      let l = (lawful c).least x (both _ _ f).0 in
      on_contents c x 0 0 (r - (x + 2)) p (omega arith) (omega arith) (omega arith) (omega (arith, k.0))
      (omega (arith, k.1)) (λ z. omega arith)
  kept (Content c n i m r) q p x o e g t u f =
      let h = le_of _ _ (both _ _ (both _ _ t).0).0 in
      let a = low _ _ _ (both _ _ (both _ _ t).0).1 in
      let b = high _ _ _ (both _ _ (both _ _ t).0).1 in
      let k = of_amid _ _ _ (both _ _ t).1 in
      on_contents c n (suc i) _ r p (omega arith) (omega arith) (omega arith) (omega (arith, k.0))
      (omega (arith, k.1)) (λ z. omega arith)

  -- the numbers of the roles are given
  among_six : (k : ℕ) → 1 ≤ k → k ≤ 6 → T (given R k)
  unfolding given
  among_six k a b = left _ _ (inside _ _ _ a b)

  ten : class_fault R.others ≡ 10 → T (given R (class_fault R.others))
  unfolding given
  ten f = right _ _ (join _ _ (of_eq _ _ f) (of_eq _ _ f))

  -- of 10, only where the types without a row get it
  by_others : (b : Bool) → T (given R (pick b 3 (class_fault R.others)))
  by_others b =
      pick_case (λ (k : ℕ). T (given R k)) b 3 (class_fault R.others)
      (λ _. among_six 3 (omega arith) (omega arith)) (λ _. others (class_fault_lem R.others))
    where
      others : (class_fault R.others ≡ 3) ⊎ (class_fault R.others ≡ 10) → T (given R (class_fault R.others))
      others (inl f) = among_six _ (omega arith) (omega arith)
      others (inr f) = ten f

  given-fault : (s : Stage) (x : ℕ) → T (given R (fault R s x))
  unfolding fault
  given-fault Kind x = among_six _ (omega arith) (omega arith)
  given-fault Size x = among_six _ (omega arith) (omega arith)
  given-fault (Header r) x = subst (λ (k : ℕ). T (given R k)) (sym (type_fault_lem R S x)) (by_others (listed R x))
  given-fault (Length c r) x = among_six _ (omega arith) (omega arith)
  given-fault (Content c n i m r) x = among_six _ (omega arith) (omega arith)

  -- a type without a row or room stands in the next parameter
  by_type : (r x : ℕ) (q : Spot) → T (in_range R (Waiting (Header r) q)) → (T (final (Header r)) → ⊥) →
      T (named (type_fault R x) (suc q.parameter))
  unfolding in_range place_fits count_fits final type_fault
  by_type r x q t n =
      let b = high _ _ _ (both _ _ t).0 in
      let k = of_behind _ _ (both _ _ t).1 in
      let z = not_zero r n in
      go (type_fault R x) (type_number x) (omega arith)
    where
      type_number : (x : ℕ) → (type_fault R x ≡ 3) ⊎ (type_fault R x ≡ 10)
      type_number x = class_fault_lem (class_of R x)

      go : (k : ℕ) → (k ≡ 3) ⊎ (k ≡ 10) → suc q.parameter ≤ 85 → T (named k (suc q.parameter))
      go k (inl e) h = three_to_five k _ (omega arith) (omega arith) (omega arith) h
      go k (inr e) h = in_parameter k _ (right _ _ (of_eq _ _ e)) (omega arith) h

  named-fault : (s : Stage) (q : Spot) (x : ℕ) → T (in_range R (Waiting s q)) → (T (final s) → ⊥) →
      T (named (fault R s x) (stands_in s q.parameter))
  unfolding in_range place_fits count_fits fault stands_in
  named-fault Kind q x t n = no_parameter 1 (λ a b. omega arith) (λ e. omega arith)
  named-fault Size q x t n = no_parameter 2 (λ a b. omega arith) (λ e. omega arith)
  named-fault (Header r) q x t n = by_type r x q t n
  named-fault (Length c r) q x t n =
      three_to_five 4 _ (omega arith) (omega arith) (of_amid _ _ _ (both _ _ t).1).0 (few (Length c r) q t)
  named-fault (Content c n i m r) q x t u =
      three_to_five 5 _ (omega arith) (omega arith) (of_amid _ _ _ (both _ _ t).1).0 (few (Content c n i m r) q t)

  by : (s : Stage) (q : Spot) (x : ℕ) (r : State) → StepWay (machine R) s q x r → x < 256 →
      T (in_range R (Waiting s q)) → T (in_range R r)
  unfolding in_range place_fits count_fits machine
  by s q x _ (seals f k) o t = inside _ _ _ (omega (arith, sealing s q t f)) (omega (arith, near s q t))
  by s q x _ (spoils f k) o t =
      join _ _ (join _ _ (among_six 6 (omega arith) (omega arith)) (of_le _ _ (near s q t)))
      (no_parameter 6 (λ a b. omega arith) (λ e. omega arith))
  by s q x _ (takes f k) o t = kept s q (moved (machine R) s q x) x o refl refl t f k
  by s q x _ (declines f k) o t =
      join _ _ (join _ _ (given-fault s x) (of_le _ _ (near s q t))) (named-fault s q x t f)

  pub in_range_closed : (w : State) (x : ℕ) → x < 256 → T (in_range R w) → T (in_range R (step (machine R) w x))
  unfolding step
  in_range_closed (Waiting s q) x o t = by s q x _ (stepped (machine R) s q x) o t
  in_range_closed (Message n) x o t = t
  in_range_closed (Refused f) x o t = t

  pub in_range_start : T (in_range R (start (machine R)))
  unfolding in_range place_fits count_fits machine
  in_range_start = join _ _ (of_eq _ _ refl) (of_eq _ _ refl)

pub message_size : (R : Rules) (n : ℕ) → T (in_range R (Message n)) → (6 ≤ n) × (n ≤ 258)
unfolding in_range place_fits count_fits
message_size R n t = (low _ _ _ t, high _ _ _ t)

-- a parameter has a number of at most 85
named_few : (k b : ℕ) → T (named k b) → b ≤ 85
unfolding named
named_few k b =
    pick_case (λ (t : Bool). T t → b ≤ 85) (within (3, 5) k or k =? 10) _ _ (λ _ t. high _ _ _ t)
    (λ _ t. omega (arith, eq_of _ _ t))

-- and a refusal in range one that its number has
pub refused-named : (R : Rules) (f : Fault) → T (in_range R (Refused f)) → T (named f.number f.parameter)
unfolding in_range
refused-named R f t = (both _ _ t).1

-- a refusal in range has a number that is given
pub refused-number : (R : Rules) (f : Fault) → T (in_range R (Refused f)) →
    T (given R f.number) × (f.place ≤ 257) × (f.parameter ≤ 85)
unfolding in_range place_fits count_fits
refused-number R f t =
    let d = both _ _ (both _ _ t).0 in
    (d.0, le_of _ _ d.1, named_few _ _ (both _ _ t).1)

-- the numbers given are 1 to 6, and 10
pub numbers_of_lem : (R : Rules) (k : ℕ) → T (given R k) → (1 ≤ k) × (k ≤ 10) × (T (within (7, 9) k) → ⊥)
unfolding given
numbers_of_lem R k t = go (either _ _ t)
  where
    go : T (within (1, 6) k) ⊎ T (k =? 10 and class_fault R.others =? 10) →
        (1 ≤ k) × (k ≤ 10) × (T (within (7, 9) k) → ⊥)
    go (inl u) =
        let a = low _ _ _ u in
        let b = high _ _ _ u in
        (omega arith, omega arith, λ v. omega (arith, low _ _ _ v))
    go (inr u) = let e = eq_of _ _ (both _ _ u).0 in (omega arith, omega arith, λ v. omega (arith, high _ _ _ v))

-- where the types without a row are carried, 1 to 6
pub given_lenient : (R : Rules) (k : ℕ) → class_fault R.others ≡ 3 → T (given R k) ↔ ((1 ≤ k) × (k ≤ 6))
unfolding given
given_lenient R k e = (λ t. go (either _ _ t), λ d. left _ _ (inside 1 6 k d.0 d.1))
  where
    go : T (within (1, 6) k) ⊎ T (k =? 10 and class_fault R.others =? 10) → (1 ≤ k) × (k ≤ 6)
    go (inl u) = (low _ _ _ u, high _ _ _ u)
    go (inr u) = let h = eq_of _ _ (both _ _ u).1 in absurd (omega arith)

-- and where they are refused, 10 too
pub given_strict : (R : Rules) (k : ℕ) → class_fault R.others ≡ 10 → T (given R k) ↔ (((1 ≤ k) × (k ≤ 6)) ⊎ (k ≡ 10))
unfolding given
given_strict R k e = (λ t. to (either _ _ t), of)
  where
    to : T (within (1, 6) k) ⊎ T (k =? 10 and class_fault R.others =? 10) → ((1 ≤ k) × (k ≤ 6)) ⊎ (k ≡ 10)
    to (inl u) = inl (low _ _ _ u, high _ _ _ u)
    to (inr u) = inr (eq_of _ _ (both _ _ u).0)

    of : ((1 ≤ k) × (k ≤ 6)) ⊎ (k ≡ 10) → T (within (1, 6) k or (k =? 10 and class_fault R.others =? 10))
    of (inl d) = left _ _ (inside 1 6 k d.0 d.1)
    of (inr z) = right _ _ (join _ _ (of_eq _ _ z) (of_eq _ _ e))
