-- A call of the listener does what demand 3 says: in range it runs the written machine over the octets it takes, and
-- its answer tells the machine's state.
-- Assumes nothing.
use Rattle.std.proofs.Common.{◌≡◌, ℕ, ◌+◌, ◌≤◌, true, false, T, ◌⊎◌, ◌↔◌, List, [], ◌++◌, length, take, sym, refl, ap, ◌∙◌, subst, inl, inr, arith, length-append, length-take-le}
use mathlib.Core.Logic.Iff
use Rattle.rules.proofs.Tests.{pick_yes, pick_not, decide, clash}
use Rattle.rules.specs.Octets.{Octets}
use Rattle.rules.proofs.Octets.{octets-append, octets-take}
use Rattle.rules.specs.Table.{rules_of}
use Rattle.rules.specs.Judge.{named}
use Rattle.rules.proofs.InRange.{refused-named}
use Rattle.rules.specs.Editions.{known, book_of}
use Rattle.rules.specs.declared.Book.{Book}
use Rattle.rules.specs.Machine as machine
use Rattle.rules.specs.Refusals.{noted, noted_in}
use Rattle.rules.specs.Machine.{answer, run, start, place}
use Rattle.rules.proofs.Listening.{run-append}
use Rattle.rules.specs.Language.{Language, language_of}
use Rattle.rules.proofs.Language.{Spoken, in_range-run}
use Rattle.rules.proofs.Grammar.{spoken_of, demand3_of}
use Rattle.rules.specs.declared.Fault.{Fault}
use Rattle.rules.specs.declared.State.{State}
use Rattle.rules.specs.declared.State.TheVariants as state
use Rattle.listener.specs.declared.Listener.{Listener}
use Rattle.listener.specs.declared.Answer.{Answer}
use Rattle.listener.specs.declared.Answer.TheVariants.{Waits, Message, Refused}
use Rattle.listener.specs.declared.Heard.{Heard}
use Rattle.listener.specs.Told.{told, waiting, success, refusal, Clear}
use Rattle.listener.specs.Heard.{stopped, taken, answer_of, out_of_range, untaken, unknown_numbers, stepped, heard_of, heard_in, new_listener}
use Rattle.listener.proofs.Runs.{run-stopped, taken-stopped, run-taken, place-taken, taken_all, taken-append, taken_most}
use Rattle.listener.specs.Hears.{Hears}
use Rattle.listener.specs.Answers.{Known, InRange}
use Rattle.listener.proofs.Told.{told_waits, told_message, told-refused}

-- the book of its numbers, and what goes with it
abbrev pub B : Listener → Book
B l = book_of l.edition l.way

abbrev L : Listener → Language
L l = language_of (B l)

S : (l : Listener) → Spoken (L l)
S l = spoken_of (B l)

abbrev M : Listener → machine.Machine
M l = (language_of (B l)).machine

-- a listener of known numbers stands where the octets h lead, and has taken each of them
pub record LedBy (l : Listener) (h : List ℕ) : Type 0 where
  pub numbers : Known l
  pub state : l.state ≡ answer (language_of (B l)).machine h
  pub octets : Octets h
  pub counted : place l.state ≡ length h

-- ---- a state and its answer
is_waiting_lem : (w : State) → answer_of w ≡ Waits → machine.Waits w
unfolding answer_of
is_waiting_lem (state.Waiting s q) e = tt
is_waiting_lem (state.Message n) e = clash cc
is_waiting_lem (state.Refused f) e = clash cc

waiting_is : (w : State) → machine.Waits w → answer_of w ≡ Waits
unfolding answer_of
waiting_is (state.Waiting s q) e = refl
waiting_is (state.Message n) e = absurd e
waiting_is (state.Refused f) e = absurd e

is_message : (w : State) (n : ℕ) → answer_of w ≡ Message n → w ≡ state.Message n
unfolding answer_of
is_message (state.Waiting s q) n e = clash cc
is_message (state.Message m) n e = let d : m ≡ n = cc in ap state.Message d
is_message (state.Refused f) n e = clash cc

pub is_refused : (w : State) (f : Fault) → answer_of w ≡ Refused f → w ≡ state.Refused f
unfolding answer_of
is_refused (state.Waiting s q) f e = clash cc
is_refused (state.Message m) f e = clash cc
is_refused (state.Refused g) f e = let d : g ≡ f = cc in ap state.Refused d

said_message : (n : ℕ) → answer_of (state.Message n) ≡ Message n
unfolding answer_of
said_message n = refl

said_refused : (f : Fault) → answer_of (state.Refused f) ≡ Refused f
unfolding answer_of
said_refused f = refl

not_stopped : (w : State) → machine.Waits w → stopped w ≡ false
unfolding stopped
not_stopped (state.Waiting s q) e = refl
not_stopped (state.Message n) e = absurd e
not_stopped (state.Refused f) e = absurd e

-- a state that does not wait has its answer
answered : (w : State) → (answer_of w ≡ Waits → ⊥) → stopped w ≡ true
unfolding answer_of stopped
answered (state.Waiting s q) n = absurd (n refl)
answered (state.Message k) n = refl
answered (state.Refused f) n = refl

-- ---- the range of an answer
abbrev pub Ranged : Answer → Type 0
Ranged Waits = Unit {0}
Ranged (Message n) = (6 ≤ n) × (n ≤ 258)
Ranged (Refused f) = (1 ≤ f.number) × (f.number ≤ 10) × (f.place ≤ 257) × (f.parameter ≤ 85)

pub ranged : {K : Language} → Spoken K → (w : State) → T (K.in_range w) → Ranged (answer_of w)
unfolding answer_of
ranged H (state.Waiting s q) t = tt
ranged H (state.Message n) t = H.sized n t
ranged H (state.Refused f) t = let d = H.refused f t in let k = H.numbers _ d.0 in (k.0, k.1, d.1, d.2)

pub clear_of : {K : Language} → Spoken K → (w : State) → T (K.in_range w) → Clear (answer_of w)
clear_of H w t = go (answer_of w) (ranged H w t)
  where
    go : (a : Answer) → Ranged a → Clear a
    go Waits g = tt
    go (Message n) g = omega (arith, g.0)
    go (Refused f) g = g.0

-- ---- a call in range
module _ (l : Listener) (o : List ℕ) (t : T ((L l).in_range l.state)) where
  pub in_range_heard : Known l → heard_of l o ≡ stepped (L l) l o
  unfolding heard_in
  in_range_heard k = pick_yes _ _ _ t ∙ pick_yes _ _ _ k

  pub unknown_heard : (Known l → ⊥) → heard_of l o ≡ unknown_numbers l
  unfolding heard_in
  unknown_heard n = pick_yes _ _ _ t ∙ pick_not _ _ _ n

pub out_of_range_heard : (l : Listener) (o : List ℕ) → (T ((L l).in_range l.state) → ⊥) → heard_of l o ≡ out_of_range l
unfolding heard_in
out_of_range_heard l o n = pick_not _ _ _ n

pub new_led : (e w : ℕ) → T (known e w) → LedBy (new_listener e w) []
unfolding new_listener machine.run
new_led e w t = record { numbers = t; state = refl; octets = tt; counted = refl }

module _ (l : Listener) (h : List ℕ) (s : LedBy l h) where
  pub led_in_range : T ((L l).in_range l.state)
  led_in_range = rw s.state (in_range-run (S l) (start (M l)) h s.octets (S l).in_range_start)

  module _ (o : List ℕ) (q : Octets o) (r : Heard) (e : r ≡ heard_of l o) where
    heard_is : r ≡ stepped (L l) l o
    heard_is = e ∙ in_range_heard l o led_in_range s.numbers

    -- the outcome, in parts
    led : r.listener.state ≡ answer (M l) (h ++ o)
    led =
        ap (λ (x : Heard). x.listener.state) heard_is
        ∙ ap (λ (w : State). run (M l) w o) s.state ∙ run-append (M l) (start (M l)) h o

    said : r.answer ≡ answer_of (answer (M l) (h ++ o))
    said =
        ap (λ (x : Heard). x.answer) heard_is
        ∙ ap (λ (w : State). answer_of (run (M l) w o)) s.state ∙ ap answer_of (run-append (M l) (start (M l)) h o)

    took : r.taken ≡ taken (M l) l.state o
    took = ap (λ (x : Heard). x.taken) heard_is

    ran : run (M l) l.state o ≡ answer (M l) (h ++ o)
    ran = ap (λ (w : State). run (M l) w o) s.state ∙ run-append (M l) (start (M l)) h o

    counts : place (answer (M l) (h ++ o)) ≡ length h + r.taken
    counts = omega (arith, ap place ran, place-taken (M l) l.state o, s.counted, took)

    all : Octets (h ++ o)
    all = octets-append h o s.octets q

    pub led_on : LedBy r.listener (h ++ take r.taken o)
    led_on =
        let n : length (take r.taken o) ≡ r.taken =
        length-take-le _ _ (omega (arith, taken_most (M l) l.state o, took)) in
        record {
          numbers = subst (λ (x : Heard). Known x.listener) (sym heard_is) s.numbers;
          state =
              led ∙ sym ran ∙ sym (run-taken (M l) l.state o)
              ∙ ap (λ (k : ℕ). run (M l) l.state (take k o)) (sym took)
              ∙ ap (λ (w : State). run (M l) w (take r.taken o)) s.state
              ∙ run-append (M l) (start (M l)) h (take r.taken o)
              ∙ ap (λ (x : Heard). answer (language_of (B x.listener)).machine (h ++ take r.taken o))
              (sym heard_is);
          octets = octets-append h (take r.taken o) s.octets (octets-take r.taken o q);
          counted = omega (arith, ap place led, counts, n, length-append h (take r.taken o));
        }

    clear : Clear r.answer
    clear =
        subst Clear (sym said) (clear_of (S l) _ (in_range-run (S l) (start (M l)) (h ++ o) all (S l).in_range_start))

    -- the same, case by case
    waits : (told r.answer ≡ waiting) ↔ machine.Waits (answer (M l) (h ++ o))
    waits =
        Iff.trans (told_waits _ clear) (λ a. is_waiting_lem _ (sym said ∙ a), λ a. said ∙ waiting_is _ a)

    message : (n : ℕ) → 1 ≤ n → (told r.answer ≡ success n) ↔ (answer (M l) (h ++ o) ≡ state.Message n)
    message n k =
        Iff.trans (told_message _ n k) (λ a. is_message _ n (sym said ∙ a), λ a. said ∙ rw a (said_message n))

    refused : (k p b : ℕ) → 1 ≤ k →
        (told r.answer ≡ refusal k p b) ↔ (answer (M l) (h ++ o) ≡ state.Refused (noted_in k p b))
    refused k p b m =
        Iff.trans (told-refused _ k p b m) (
          λ a. is_refused _ (noted_in k p b) (sym said ∙ a),
          λ a. said ∙ rw a (said_refused (noted_in k p b)),
        )

    pub hears : Hears (L l) h o r
    hears = record {
      clear = clear;
      waits = Iff.trans waits ((demand3_of (B l)).waits (h ++ o) all);
      has_message = λ n k. Iff.trans (message n k) ((demand3_of (B l)).has_message (h ++ o) all n);
      refuses = λ k p b m. Iff.trans (refused k p b m) ((demand3_of (B l)).refuses (h ++ o) all (noted_in k p b));
      taken_waiting = λ a. took ∙ taken_all (M l) l.state o (rw ran (not_stopped _ (waits.0 a)));
      taken_message = λ n k a. sym counts ∙ ap place ((message n k).0 a);
      taken_refused = λ k p b m a. sym counts ∙ ap place ((refused k p b m).0 a);
      answers_by_258 = λ a. (demand3_of (B l)).answers_by_258 (h ++ o) all (waits.0 a);
    }

-- ---- any listener, also one that no octets lead to
-- a call goes one of three ways: in range and of known numbers, in range and of unknown ones, out of range
pub ways : (l : Listener) → (InRange l × Known l) ⊎ ((InRange l × (Known l → ⊥)) ⊎ (InRange l → ⊥))
ways l = go (decide ((L l).in_range l.state)) (decide (known l.edition l.way))
  where
    go : InRange l ⊎ (InRange l → ⊥) → Known l ⊎ (Known l → ⊥) →
        (InRange l × Known l) ⊎ ((InRange l × (Known l → ⊥)) ⊎ (InRange l → ⊥))
    go (inl t) (inl k) = inl (t, k)
    go (inl t) (inr n) = inr (inl (t, n))
    go (inr n) k = inr (inr n)

-- edition and way stay
pub numbers_kept : (l : Listener) (o : List ℕ) → ((heard_of l o).listener.edition ≡ l.edition)
    × ((heard_of l o).listener.way ≡ l.way)
numbers_kept l o = go (ways l)
  where
    go : (InRange l × Known l) ⊎ ((InRange l × (Known l → ⊥)) ⊎ (InRange l → ⊥)) →
        ((heard_of l o).listener.edition ≡ l.edition) × ((heard_of l o).listener.way ≡ l.way)
    go (inl t) =
        let e = in_range_heard l o t.0 t.1 in
        (ap (λ (x : Heard). x.listener.edition) e, ap (λ (x : Heard). x.listener.way) e)
    go (inr (inl t)) =
        let e = unknown_heard l o t.0 t.1 in
        (ap (λ (x : Heard). x.listener.edition) e, ap (λ (x : Heard). x.listener.way) e)
    go (inr (inr n)) =
        let e = out_of_range_heard l o n in
        (ap (λ (x : Heard). x.listener.edition) e, ap (λ (x : Heard). x.listener.way) e)

-- a refusal that no octet causes is the same for every run: cut in two it ends as one run does
module _ (l : Listener) (k : ℕ) (all : (o : List ℕ) → heard_of l o ≡ untaken k l) where
  cut_untaken : (a b : List ℕ) (r r₁ r₂ : Heard) → r ≡ heard_of l (a ++ b) → r₁ ≡ heard_of l a →
      r₂ ≡ heard_of r₁.listener b →
      (r.listener ≡ r₂.listener) × (r.answer ≡ r₂.answer) × (r.taken ≡ r₁.taken + r₂.taken)
      × (r.edition ≡ r₂.edition)
  cut_untaken a b r r₁ r₂ e e₁ e₂ =
      let d₁ = e₁ ∙ all a in
      let d₂ = e₂ ∙ ap (λ (x : Heard). heard_of x.listener b) d₁ ∙ all b in
      let d = e ∙ all (a ++ b) in (
        ap (λ (x : Heard). x.listener) d ∙ sym (ap (λ (x : Heard). x.listener) d₂),
        ap (λ (x : Heard). x.answer) d ∙ sym (ap (λ (x : Heard). x.answer) d₂),
        omega (
          arith,
          ap (λ (x : Heard). x.taken) d,
          ap (λ (x : Heard). x.taken) d₁,
          ap (λ (x : Heard). x.taken) d₂,
        ),
        ap (λ (x : Heard). x.edition) d ∙ sym (ap (λ (x : Heard). x.edition) d₂),
      )

-- two calls on a run cut in two end as one call on the whole
pub cut_anywhere : (l : Listener) (a b : List ℕ) → Octets a → (r r₁ r₂ : Heard) → r ≡ heard_of l (a ++ b) →
    r₁ ≡ heard_of l a → r₂ ≡ heard_of r₁.listener b →
    (r.listener ≡ r₂.listener) × (r.answer ≡ r₂.answer) × (r.taken ≡ r₁.taken + r₂.taken)
    × (r.edition ≡ r₂.edition)
cut_anywhere l a b q r r₁ r₂ e e₁ e₂ = go (ways l)
  where
    go : (InRange l × Known l) ⊎ ((InRange l × (Known l → ⊥)) ⊎ (InRange l → ⊥)) →
        (r.listener ≡ r₂.listener) × (r.answer ≡ r₂.answer) × (r.taken ≡ r₁.taken + r₂.taken)
        × (r.edition ≡ r₂.edition)
    go (inl t) =
        let m : Listener = record { edition = l.edition; way = l.way; state = run (M l) l.state a } in
        let d₁ = e₁ ∙ in_range_heard l a t.0 t.1 in
        let u : T ((L l).in_range m.state) = in_range-run (S l) l.state a q t.0 in
        let d₂ = e₂ ∙ ap (λ (x : Heard). heard_of x.listener b) d₁ ∙ in_range_heard m b u t.1 in
        let d = e ∙ in_range_heard l (a ++ b) t.0 t.1 in
        let k = run-append (M l) l.state a b in (
          ap (λ (x : Heard). x.listener) d
              ∙ ap (λ (w : State). record { edition = l.edition; way = l.way; state = w }) (sym k)
              ∙ sym (ap (λ (x : Heard). x.listener) d₂),
          ap (λ (x : Heard). x.answer) d ∙ ap answer_of (sym k) ∙ sym (ap (λ (x : Heard). x.answer) d₂),
          omega (
            arith,
            ap (λ (x : Heard). x.taken) d,
            taken-append (M l) l.state a b,
            ap (λ (x : Heard). x.taken) d₁,
            ap (λ (x : Heard). x.taken) d₂,
          ),
          ap (λ (x : Heard). x.edition) d ∙ sym (ap (λ (x : Heard). x.edition) d₂),
        )
    go (inr (inl t)) = cut_untaken l 16 (λ o. unknown_heard l o t.0 t.1) a b r r₁ r₂ e e₁ e₂
    go (inr (inr n)) = cut_untaken l 17 (λ o. out_of_range_heard l o n) a b r r₁ r₂ e e₁ e₂

-- after an answer it takes none, says the same again and stays as it was
abbrev pub again : Listener → Answer → Heard
again l a = record { listener = l; answer = a; taken = 0; edition = l.edition }

pub says_it_again : (l : Listener) (o : List ℕ) (r : Heard) → InRange l → Known l → stopped l.state ≡ true →
    r ≡ heard_of l o → r ≡ again l (answer_of l.state)
unfolding answer_of
says_it_again l o r t k s e =
    e ∙ in_range_heard l o t k ∙ ap₃ (run-stopped (M l) l.state o s) (taken-stopped (M l) l.state o s)
  where
    ap₃ : run (M l) l.state o ≡ l.state → taken (M l) l.state o ≡ 0 →
        stepped (L l) l o ≡ again l (answer_of l.state)
    ap₃ a b = rw (a, b)

-- an answer that a call gave, the next call gives again, takes none and leaves the listener as it was
pub answer_stays : (l : Listener) (h : List ℕ) → LedBy l h → (o : List ℕ) → Octets o → (r : Heard) →
    r ≡ heard_of l o → (r.answer ≡ Waits → ⊥) →
    (o' : List ℕ) (r' : Heard) → r' ≡ heard_of r.listener o' → r' ≡ again r.listener r.answer
answer_stays l h s o q r e n o' r' e' =
    let z = e ∙ in_range_heard l o (led_in_range l h s) s.numbers in
    let a : r.answer ≡ answer_of r.listener.state =
    ap (λ (x : Heard). x.answer) z ∙ sym (ap (λ (x : Heard). answer_of x.listener.state) z) in
    let d = led_on l h s o q r e in
    says_it_again r.listener o' r' (led_in_range r.listener _ d) d.numbers (answered _ (λ w. n (a ∙ w))) e'
    ∙ ap (λ (x : Answer). again r.listener x) (sym a)

module _ (l : Listener) (o : List ℕ) (q : Octets o) (t : InRange l) (k : Known l) (r : Heard) (e : r ≡ heard_of l o)
    (f : Fault) (a : r.answer ≡ Refused f) where
  still : T ((L l).in_range (state.Refused f))
  still =
      subst (λ (x : State). T ((L l).in_range x))
      (is_refused _ f (sym (ap (λ (x : Heard). x.answer) (e ∙ in_range_heard l o t k)) ∙ a))
      (in_range-run (S l) l.state o q t)

  pub in_range_number : T ((L l).given f.number)
  in_range_number = ((S l).refused f still).0

  -- in a parameter that the number has
  pub in_range_names : T (named f.number f.parameter)
  in_range_names = refused-named (rules_of (B l)) f still

-- it gives a number of its language; or 16 at 0 where its numbers are unknown, 17 at 0 where it is out of range
pub numbers : (l : Listener) (o : List ℕ) → Octets o → (r : Heard) → r ≡ heard_of l o → (f : Fault) →
    r.answer ≡ Refused f → T ((L l).given f.number) ⊎ ((f ≡ noted 16 0) ⊎ (f ≡ noted 17 0))
numbers l o q r e f a = go (ways l)
  where
    same : (g : Fault) → Refused f ≡ Refused g → f ≡ g
    same g d = cc

    go : (InRange l × Known l) ⊎ ((InRange l × (Known l → ⊥)) ⊎ (InRange l → ⊥)) →
        T ((L l).given f.number) ⊎ ((f ≡ noted 16 0) ⊎ (f ≡ noted 17 0))
    go (inl t) = inl (in_range_number l o q t.0 t.1 r e f a)
    go (inr (inl t)) =
        inr (inl (same _ (sym a ∙ ap (λ (x : Heard). x.answer) (e ∙ unknown_heard l o t.0 t.1))))
    go (inr (inr n)) = inr (inr (same _ (sym a ∙ ap (λ (x : Heard). x.answer) (e ∙ out_of_range_heard l o n))))

-- no call takes more than 258 octets
pub taken_small : (l : Listener) (o : List ℕ) → Octets o → (heard_of l o).taken ≤ 258
taken_small l o q = go (ways l)
  where
    go : (InRange l × Known l) ⊎ ((InRange l × (Known l → ⊥)) ⊎ (InRange l → ⊥)) → (heard_of l o).taken ≤ 258
    go (inl t) =
        omega (
          arith,
          ap (λ (x : Heard). x.taken) (in_range_heard l o t.0 t.1),
          place-taken (M l) l.state o,
          (S l).within_258 _ (in_range-run (S l) l.state o q t.0),
        )
    go (inr (inl t)) = omega (arith, ap (λ (x : Heard). x.taken) (unknown_heard l o t.0 t.1))
    go (inr (inr n)) = omega (arith, ap (λ (x : Heard). x.taken) (out_of_range_heard l o n))
