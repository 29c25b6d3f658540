-- The verdict on any octets is what `Judges` says, for any language.
-- The argument: a verdict is read off the machine's answer, way by way, and demand 3 says of each answer what it
-- means over the written rules; the numbers 7 and 8 are none that the machine gives, so each way is told apart.
-- Assumes nothing.
use Rattle.std.proofs.Common.{◌≡◌, ℕ, ◌<◌, ◌≤◌, T, ◌⊎◌, ◌↔◌, List, length, take, sym, refl, ap, ◌∙◌, subst, inl, inr, arith, Result, Ok, Err}
use mathlib.Core.Logic.Iff
use lib.Seq.{take-length}
use Rattle.rules.specs.Tests.{◌or◌, ◌≤?◌, ◌=?◌, pick}
use Rattle.rules.proofs.Tests.{pick_yes, pick_not, pick_case, picked_by, of_eq, eq_of, either, left, right, clash, decide, not_le, le_of}
use Rattle.rules.specs.Octets.{Octets}
use Rattle.rules.specs.Contents.{within}
use Rattle.rules.specs.Table.{Rules, rules_of, class_fault}
use Rattle.rules.proofs.ContentLaw.{SoundRules, sound_rules}
use Rattle.rules.specs.declared.Book.{Book}
use Rattle.rules.specs.Refusals.{noted, noted_in}
use Rattle.rules.specs.Machine.{answer, start, Waits}
use Rattle.rules.specs.Judge.{given}
use Rattle.rules.specs.Language.{Language, calls, language_of}
use Rattle.rules.proofs.Language.{Spoken, in_range-run}
use Rattle.rules.proofs.Demand3.{demand3}
use Rattle.rules.proofs.Grammar.{spoken}
use Rattle.rules.proofs.InRange.{low, high, inside, given_lenient}
use Rattle.rules.specs.declared.Fault.{Fault}
use Rattle.rules.specs.declared.State.{State}
use Rattle.rules.specs.declared.State.TheVariants.{Waiting, Message, Refused}
use Rattle.message.specs.Judges.{Judges, verdict_number}
use Rattle.message.proofs.Told.{told_accepted, told-declined}
use Rattle.message.specs.Told.{told, Clear}
use Rattle.message.specs.Verdict.{judged, verdict_of}

-- one by one
pub verdict_number_lem : (L : Language) (k : ℕ) → T (verdict_number L k) → T (L.given k) ⊎ ((k ≡ 7) ⊎ (k ≡ 8))
unfolding verdict_number
verdict_number_lem L k t = go (either _ _ t)
  where
    added : T (within (7, 8) k) → T (k ≤? 7) ⊎ (T (k ≤? 7) → ⊥) → (k ≡ 7) ⊎ (k ≡ 8)
    added u (inl h) = inl (omega (arith, low _ _ _ u, le_of _ _ h))
    added u (inr n) = inr (omega (arith, high _ _ _ u, not_le _ _ n))

    go : T (L.given k) ⊎ T (within (7, 8) k) → T (L.given k) ⊎ ((k ≡ 7) ⊎ (k ≡ 8))
    go (inl u) = inl u
    go (inr u) = inr (added u (decide (k ≤? 7)))

-- a number that the machine gives is none that verdict and read add
pub given_apart : {L : Language} → Spoken L → (k : ℕ) → T (L.given k) → (k ≡ 7 → ⊥) × (k ≡ 8 → ⊥) × (k ≡ 9 → ⊥)
given_apart S k t =
    let n = (S.numbers k t).2 in (
      λ e. n (inside _ _ _ (omega arith) (omega arith)),
      λ e. n (inside _ _ _ (omega arith) (omega arith)),
      λ e. n
          (inside _ _ _ (omega arith) (omega arith)),
    )

-- in any language a verdict's number is 1 to 10, and not 9
pub told_small : {L : Language} → Spoken L → (k : ℕ) → T (verdict_number L k) → (1 ≤ k) × (k ≤ 10) × (k ≡ 9 → ⊥)
unfolding verdict_number
told_small {L = L} S k t = go (either _ _ t)
  where
    go : T (L.given k) ⊎ T (within (7, 8) k) → (1 ≤ k) × (k ≤ 10) × (k ≡ 9 → ⊥)
    go (inl u) = let n = S.numbers k u in (n.0, n.1, (given_apart S k u).2)
    go (inr u) = let a = low _ _ _ u in let h = high _ _ _ u in (omega arith, omega arith, λ e. omega arith)

-- where the types without a row are carried, 1 to 8
pub verdict_lenient : (R : Rules) (k : ℕ) → class_fault R.others ≡ 3 →
    T (verdict_number (calls R) k) ↔ ((1 ≤ k) × (k ≤ 8))
unfolding verdict_number
verdict_lenient R k e = (λ t. to (either _ _ t), λ d. of d.0 d.1 (decide (k ≤? 6)))
  where
    to : T (given R k) ⊎ T (within (7, 8) k) → (1 ≤ k) × (k ≤ 8)
    to (inl u) = let d = (given_lenient R k e).0 u in (d.0, omega (arith, d.1))
    to (inr u) = let a = low _ _ _ u in (omega arith, high _ _ _ u)

    of : 1 ≤ k → k ≤ 8 → T (k ≤? 6) ⊎ (T (k ≤? 6) → ⊥) → T (given R k or within (7, 8) k)
    of a b (inl t) = left _ _ ((given_lenient R k e).1 (a, le_of _ _ t))
    of a b (inr n) = let h = not_le _ _ n in right _ _ (inside _ _ _ (omega arith) b)

fault_of : (f g : Fault) → ◌≡◌ {A = Result ℕ Fault} (Err f) (Err g) → f ≡ g
fault_of f g e = cc

module _ {L : Language} (S : Spoken L) (o : List ℕ) (q : Octets o) where
  abbrev w : State
  w = answer L.machine o

  ranged : T (L.in_range w)
  ranged = in_range-run S (start L.machine) o q S.in_range_start

  -- ---- the verdict and the machine's answer
  accepted_state : (s : State) (n : ℕ) → (judged o s ≡ Ok n) ↔ ((s ≡ Message n) × (length o ≡ n))
  unfolding judged
  accepted_state (Waiting s p) n = (λ e. clash cc, λ e. clash (cc e.0))
  accepted_state (Message m) n = (
    λ e. picked_by _ _ _ _ _ e (λ t d. let k : m ≡ n = cc in (ap Message k, eq_of _ _ t ∙ k)) (λ _ d. clash cc),
    λ e. let k : m ≡ n = cc e.0 in pick_yes _ _ _ (of_eq _ _ (e.1 ∙ sym k)) ∙ ap Ok k,
  )
  accepted_state (Refused f) n = (λ e. clash cc, λ e. clash (cc e.0))

  refused-state : (s : State) (f : Fault) → T (L.given f.number) → (judged o s ≡ Err f) ↔ (s ≡ Refused f)
  unfolding judged
  refused-state (Waiting s p) f l = (
    λ e. let k = ap (λ (x : Fault). x.number) (fault_of _ _ e) in
        absurd ((given_apart S _ l).1 (sym k)),
    λ e. clash cc,
  )
  refused-state (Message m) f l = (
    λ e. picked_by _ _ _ _ _ e (λ _ d. clash cc)
        (λ _ d. let k = ap (λ (x : Fault). x.number) (fault_of _ _ d) in absurd ((given_apart S _ l).0 (sym k))),
    λ e. clash cc,
  )
  refused-state (Refused g) f l = (λ e. ap Refused (fault_of _ _ e), λ e. let k : g ≡ f = cc in ap Err k)

  early_state : (s : State) (p : ℕ) → T (L.in_range s) →
      (judged o s ≡ Err (noted 8 p)) ↔ ((p ≡ length o) × Waits s)
  unfolding judged
  early_state (Waiting s r) p t = (
    λ e. (sym (ap (λ (x : Fault). x.place) (fault_of _ _ e)), tt),
    λ e. ap (λ (k : ℕ). Err (noted 8 k))
        (sym e.0),
  )
  early_state (Message m) p t = (
    λ e. picked_by _ _ _ _ _ e (λ _ d. clash cc)
        (λ _ d. let k = ap (λ (x : Fault). x.number) (fault_of _ _ d) in absurd (omega arith)),
    λ e. absurd e.1,
  )
  early_state (Refused g) p t = (
    λ e. let k = ap (λ (x : Fault). x.number) (fault_of _ _ e) in
        absurd ((given_apart S _ (S.refused g t).0).1 k),
    λ e. absurd e.1,
  )

  followed_state : (s : State) (p : ℕ) → T (L.in_range s) →
      (judged o s ≡ Err (noted 7 p)) ↔ ((s ≡ Message p) × (length o ≡ p → ⊥))
  unfolding judged
  followed_state (Waiting s r) p t =
      (λ e. let k = ap (λ (x : Fault). x.number) (fault_of _ _ e) in absurd (omega arith), λ e. clash (cc e.0))
  followed_state (Message m) p t = (
    λ e. picked_by _ _ _ _ _ e (λ _ d. clash cc)
        (λ n d. let k = ap (λ (x : Fault). x.place) (fault_of _ _ d) in
        (ap Message k, λ l. n (of_eq _ _ (l ∙ sym k)))),
    λ e. let k : m ≡ p = cc e.0 in
        pick_not _ _ _ (λ l. e.1 (eq_of _ _ l ∙ k)) ∙ ap (λ (x : ℕ). Err (noted 7 x)) k,
  )
  followed_state (Refused g) p t = (
    λ e. let k = ap (λ (x : Fault). x.number) (fault_of _ _ e) in
        absurd ((given_apart S _ (S.refused g t).0).0 k),
    λ e. clash (cc e.0),
  )

  given_told : (k : ℕ) → T (L.given k) → T (verdict_number L k)
  unfolding verdict_number
  given_told k t = left _ _ t

  -- one of the two that the verdict adds
  added : (k : ℕ) → 7 ≤ k → k ≤ 8 → T (verdict_number L k)
  unfolding verdict_number
  added k a b = right _ _ (inside _ _ _ a b)

  numbers_state : (s : State) (f : Fault) → T (L.in_range s) → judged o s ≡ Err f → T (verdict_number L f.number)
  unfolding judged
  numbers_state (Waiting s r) f t e =
      let k = ap (λ (x : Fault). x.number) (fault_of _ _ e) in
      added _ (omega arith) (omega arith)
  numbers_state (Message m) f t e =
      picked_by _ _ _ _ _ e (λ _ d. clash cc)
      (λ _ d. let k = ap (λ (x : Fault). x.number) (fault_of _ _ d) in added _ (omega arith) (omega arith))
  numbers_state (Refused g) f t e = rw (fault_of _ _ e) at (given_told _ (S.refused g t).0)

  near_state : (s : State) → T (L.in_range s) → (Waits s → length o < 258) → (told (judged o s)).place ≤ 258
  unfolding judged told
  near_state (Waiting s r) t l = omega (arith, l tt)
  near_state (Message m) t l = go (decide (length o =? m))
    where
      go : T (length o =? m) ⊎ (T (length o =? m) → ⊥) →
          (told (pick (length o =? m) (Ok m) (Err (noted 7 m)))).place ≤ 258
      go (inl e) = rw (pick_yes _ (Ok m) (Err (noted 7 m)) e) (omega arith)
      go (inr n) = rw (pick_not _ (Ok m) (Err (noted 7 m)) n) (omega (arith, (S.sized m t).1))
  near_state (Refused g) t l = omega (arith, (S.refused g t).1)

  -- the parameter is that of the machine's refusal, and 0 with the numbers that the verdict adds
  none_state : (s : State) → T (L.in_range s) → T (within (7, 8) (told (judged o s)).number) →
      (told (judged o s)).parameter ≡ 0
  unfolding judged told
  none_state (Waiting s r) t u = refl
  none_state (Message m) t u =
      pick_case (λ (v : Result ℕ Fault). (told v).parameter ≡ 0) (length o =? m) _ _ (λ _. refl) (λ _. refl)
  none_state (Refused g) t u =
      absurd ((S.numbers _ (S.refused g t).0).2 (inside 7 9 _ (low 7 8 _ u) (omega (arith, high 7 8 _ u))))

  few_state : (s : State) → T (L.in_range s) → (told (judged o s)).parameter ≤ 85
  unfolding judged told
  few_state (Waiting s r) t = omega arith
  few_state (Message m) t =
      pick_case (λ (v : Result ℕ Fault). (told v).parameter ≤ 85) (length o =? m) _ _ (λ _. omega arith) (λ _. omega arith)
  few_state (Refused g) t = (S.refused g t).2

  -- ---- and the rules
  message_of_lem : (n : ℕ) → (w ≡ Message n) ↔ ((n ≤ length o) × L.Accepts (take n o))
  message_of_lem n = (demand3 S).has_message o q n

  whole_of : (n : ℕ) → ((w ≡ Message n) × (length o ≡ n)) ↔ ((length o ≡ n) × L.Accepts o)
  whole_of n = (
    λ e. (e.1, rw take-length at (subst (λ (k : ℕ). L.Accepts (take k o)) (sym e.1) ((message_of_lem n).0 e.0).1)),
    λ e. (
      subst (λ (k : ℕ). w ≡ Message k) e.0 ((message_of_lem (length o)).1 (omega arith, rw take-length e.1)),
      e.0,
    ),
  )

  behind_of : (p : ℕ) → ((w ≡ Message p) × (length o ≡ p → ⊥)) ↔ ((p < length o) × L.Accepts (take p o))
  behind_of p = (
    λ e. let d = (message_of_lem p).0 e.0 in (more (length o) p d.0 e.1, d.1),
    λ e. ((message_of_lem p).1 (omega (arith, e.0), e.1), λ l. omega (arith, e.0)),
  )
    where
      more : (n p : ℕ) → p ≤ n → (n ≡ p → ⊥) → p < n
      more n p h d = omega arith

  done_of : (v : Result ℕ Fault) → ((n : ℕ) → (v ≡ Ok n) ↔ ((length o ≡ n) × L.Accepts o)) →
      ((f : Fault) → v ≡ Err f → T (verdict_number L f.number)) → ((told v).number ≡ 0) ↔ L.Accepts o
  unfolding told
  done_of (Ok n) a d = (λ _. ((a n).0 refl).1, λ _. refl)
  done_of (Err f) a d = (
    λ e. absurd (omega (arith, (told_small S _ (d f refl)).0)),
    λ x. clash (cc ((a (length o)).1 (refl, x))),
  )

  clear_of : (v : Result ℕ Fault) → ((f : Fault) → v ≡ Err f → T (verdict_number L f.number)) → Clear v
  clear_of (Ok n) d = tt
  clear_of (Err f) d = (told_small S _ (d f refl)).0

  number_of_lem : (v : Result ℕ Fault) → ((f : Fault) → v ≡ Err f → T (verdict_number L f.number)) →
      1 ≤ (told v).number → T (verdict_number L (told v).number)
  unfolding told
  number_of_lem (Ok n) d l = absurd (omega arith)
  number_of_lem (Err f) d l = d f refl

  pub judges : Judges L o (judged o (answer L.machine o))
  judges = record {
    clear = clear;
    done = done_of (judged o w) accepted_is (λ f e. numbers_state w f ranged e);
    accepted = λ n. Iff.trans (told_accepted _ n clear) (accepted_is n);
    spoilt =
        λ k p b l. Iff.trans (told-declined _ k p b (S.numbers k l).0) (Iff.trans (refused-state w (noted_in k p b) l)
        ((demand3 S).refuses o q (noted_in k p b)));
    early =
        λ p. let d = Iff.trans (told-declined _ 8 p 0 (omega arith)) (early_state w p ranged) in
        let u = (demand3 S).waits o q in
        (λ e. let a = d.0 e in (a.0, u.0 a.1), λ e. d.1 (e.0, u.1 e.1));
    followed =
        λ p. Iff.trans (told-declined _ 7 p 0 (omega arith)) (Iff.trans (followed_state w p ranged) (behind_of p));
    numbers = number_of_lem (judged o w) (λ f e. numbers_state w f ranged e);
    no_parameter = none_state w ranged;
    near = near_state w ranged ((demand3 S).answers_by_258 o q);
    few = few_state w ranged;
  }
    where
      clear : Clear (judged o w)
      clear = clear_of (judged o w) (λ f e. numbers_state w f ranged e)

      accepted_is : (n : ℕ) → (judged o w ≡ Ok n) ↔ ((length o ≡ n) × L.Accepts o)
      accepted_is n = Iff.trans (accepted_state w n) (whole_of n)

-- the place of a refusal, by the fault that it names
pub near_declined : {L : Language} {o : List ℕ} {v : Result ℕ Fault} → Judges L o v → (f : Fault) →
    v ≡ Err f → f.place ≤ 258
unfolding told
near_declined j f e = subst (λ (x : Result ℕ Fault). (told x).place ≤ 258) e j.near

pub few_declined : {L : Language} {o : List ℕ} {v : Result ℕ Fault} → Judges L o v → (f : Fault) →
    v ≡ Err f → f.parameter ≤ 85
unfolding told
few_declined j f e = subst (λ (x : Result ℕ Fault). (told x).parameter ≤ 85) e j.few

-- call messages and notices by any sound rules
pub judges_calls : (R : Rules) → SoundRules R → (o : List ℕ) → Octets o → Judges (calls R) o (verdict_of R o)
unfolding verdict_of
judges_calls R S o q = judges (spoken R S) o q

pub judges_of : (b : Book) (o : List ℕ) → Octets o → Judges (language_of b) o (verdict_of (rules_of b) o)
judges_of b o q = judges_calls (rules_of b) (sound_rules b) o q
