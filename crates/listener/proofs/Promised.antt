-- Demand 3 over the promises of `reset_way`, `reset` and `listen`: whatever outcomes they allow, call after call
-- (document 01, Listening), by every edition and way (document 02, Q-5 and Q-11).
-- Assumes nothing.
use Rattle.std.proofs.Common.{◌≡◌, ℕ, ◌+◌, ◌≤◌, T, ◌⊎◌, List, [], ◌++◌, take, sym, refl, ap, ◌∙◌, subst, inl, inr, arith}
use Rattle.rules.specs.Octets.{Octets}
use Rattle.rules.specs.Refusals.{noted}
use Rattle.rules.specs.Judge.{named}
use Rattle.rules.specs.Language.{language_of}
use Rattle.rules.proofs.Grammar.{spoken_of}
use Rattle.rules.specs.declared.Book.{Book}
use Rattle.rules.specs.Editions.{strict, known, book_of}
use Rattle.rules.specs.declared.Fault.{Fault}
use Rattle.listener.specs.declared.Listener.{Listener}
use Rattle.listener.specs.declared.Heard as declared
use Rattle.listener.specs.declared.Answer.{Answer}
use Rattle.listener.specs.declared.Answer.TheVariants.{Waits, Message, Refused}
use Rattle.listener.specs.Told.{told, waiting}
use Rattle.listener.proofs.Told.{told_waits}
use Rattle.listener.specs.Heard.{out_of_range, unknown_numbers, stepped, heard_of, new_listener}
use Rattle.listener.proofs.Hears as hears
use Rattle.listener.specs.Hears.{Hears}
use Rattle.listener.specs.Answers.{Known, InRange, Answers}
use Rattle.listener.proofs.Answers as answers
use Rattle.listener.proofs.Hears.{LedBy, new_led, led_in_range, led_on, again, in_range_heard, unknown_heard, out_of_range_heard}
use Rattle.listener.proofs.reset_way.Reads as reset_way
use Rattle.listener.proofs.reset.Reads as reset
use Rattle.listener.proofs.listen.Reads as listen

-- `reset_way` to the edition e and the way w answers l
abbrev pub ResetWayGives : ℕ → ℕ → Listener → Type 0
ResetWayGives e w l = (κs : _) × (a : _) × (s : _) × reset_way.Post κs a l s × (a.0 ≡ e) × (a.1.0 ≡ w)

-- `reset` to the edition e, no way named, answers l
abbrev pub ResetUnnamedGives : ℕ → Listener → Type 0
ResetUnnamedGives e l = (κs : _) × (a : _) × (s : _) × reset.Post κs a l s × (a.0 ≡ e)

-- a reset to the edition e and the way w answers l: `reset_way`, or, where that is the strict one, `reset`
abbrev pub ResetGives : ℕ → ℕ → Listener → Type 0
ResetGives e w l = ResetWayGives e w l ⊎ ((w ≡ strict) × ResetUnnamedGives e l)

-- of the listener l and the run o, `listen` answers r
abbrev pub ListenGives : Listener → List ℕ → declared.Heard → Type 0
ListenGives l o r = (κs : _) × (a : _) × (s : _) × listen.Post κs a r s × (a.0 ≡ l) × (a.1.0.now ≡ o)

-- a reset listener equals a new one, of the numbers told, known or not
pub reset_is_new : (e w : ℕ) (l : Listener) → ResetGives e w l → l ≡ new_listener e w
reset_is_new e w l (inl h) = h.3 ∙ (λ i. new_listener (h.4 i) (h.5 i))
reset_is_new e w l (inr h) = h.1.3 ∙ (λ i. new_listener (h.1.4 i) (sym h.0 i))

pub listen_is : (l : Listener) (o : List ℕ) (r : declared.Heard) → ListenGives l o r → r ≡ heard_of l o
listen_is l o r h = h.3 ∙ (λ i. heard_of (h.4 i) (h.5 i))

-- l has heard the octets h since it was reset to the edition e and the way w: whatever the promises allow, call after
-- call, the octets taken added to h
pub data HasHeard : ℕ → ℕ → Listener → List ℕ → Type 0 where
  new : (e w : ℕ) (l : Listener) → ResetGives e w l → HasHeard e w l []
  more : (e w : ℕ) (l : Listener) (h o : List ℕ) (r : declared.Heard) → HasHeard e w l h → Octets o →
      ListenGives l o r → HasHeard e w r.listener (h ++ take r.taken o)

pub led_by : (e w : ℕ) (l : Listener) (h : List ℕ) → T (known e w) → HasHeard e w l h → LedBy l h
led_by e w l h t (new _ _ k p) = subst (λ (x : Listener). LedBy x []) (sym (reset_is_new e w k p)) (new_led e w t)
led_by e w l h t (more _ _ k g o r d q p) = led_on k g (led_by e w k g t d) o q r (listen_is k o r p)

-- any listener at all: 17, then 16, exactly when; with both nothing is taken and it comes back as it was; every other
-- answer names its edition
pub answering : (l : Listener) (o : List ℕ) (r : declared.Heard) → ListenGives l o r → Octets o → Answers l o r
answering l o r p q = answers.answers l o q r (listen_is l o r p)

-- its edition and its way are those of its reset, after any calls, known or not
pub edition_kept : (e w : ℕ) (l : Listener) (h : List ℕ) → HasHeard e w l h → (l.edition ≡ e) × (l.way ≡ w)
unfolding new_listener
edition_kept e w l h (new _ _ k p) =
    let x = reset_is_new e w k p in (ap (λ (x : Listener). x.edition) x, ap (λ (x : Listener). x.way) x)
edition_kept e w l h (more _ _ k g o r d q p) =
    let x = answering k o r p q in
    let y = edition_kept e w k g d in
    (x.edition_kept ∙ y.0, x.way_kept ∙ y.1)

-- by known numbers
module _ (e w : ℕ) (t : T (known e w)) (l : Listener) (h : List ℕ) (d : HasHeard e w l h) (o : List ℕ)
    (q : Octets o) (r : declared.Heard) (p : ListenGives l o r) where
  abbrev kept : (l.edition ≡ e) × (l.way ≡ w)
  kept = edition_kept e w l h d

  -- demand 3 in all its sentences, the octets taken too, by the book of its reset
  pub demand3 : Hears (language_of (book_of e w)) h o r
  demand3 =
      subst (λ (b : Book). Hears (language_of b) h o r) (λ i. book_of (kept.0 i) (kept.1 i))
      (hears.hears l h (led_by e w l h t d) o q r (listen_is l o r p))

  -- and every answer names the edition of its reset
  pub names_edition : r.edition ≡ e
  names_edition =
      let s = led_by e w l h t d in
      ap (λ (x : declared.Heard). x.edition) (listen_is l o r p ∙ in_range_heard l o (led_in_range l h s) s.numbers)
      ∙ kept.0

  -- a message or a refusal, once given, is given again by each call after it, which takes none and leaves the
  -- listener as it was
  pub answer_stays : (told r.answer ≡ waiting → ⊥) → (o' : List ℕ) (r' : declared.Heard) →
      ListenGives r.listener o' r' → r' ≡ again r.listener r.answer
  answer_stays n o' r' k =
      let waits : r.answer ≡ Waits → ⊥ = λ e. n ((told_waits _ demand3.clear).1 e) in
      hears.answer_stays l h (led_by e w l h t d) o q r (listen_is l o r p) waits o' r'
      (listen_is r.listener o' r' k)

  -- a listener from a reset and any octets never gets 16 or 17: its numbers are those of its language, 1 to 6, and 10
  -- in the strict way
  pub never_17 :
      let k = (told r.answer).number in
      1 ≤ k → T ((language_of (book_of e w)).given k)
  unfolding told
  never_17 n = go r.answer refl n
    where
      go : (x : Answer) → r.answer ≡ x → 1 ≤ (told x).number →
          T ((language_of (book_of e w)).given (told x).number)
      go Waits e n = absurd (omega arith)
      go (Message m) e n = absurd (omega arith)
      go (Refused f) a n =
          let s = led_by e w l h t d in
          subst (λ (b : Book). T ((language_of b).given f.number)) (λ i. book_of (kept.0 i) (kept.1 i))
          (hears.in_range_number l o q (led_in_range l h s) s.numbers r (listen_is l o r p) f a)

-- by unknown numbers: from its reset on it stays new, whatever it is given, and each call gets 16
module _ (e w : ℕ) (n : T (known e w) → ⊥) where
  new_unknown : (k : Listener) → k ≡ new_listener e w → (o : List ℕ) → heard_of k o ≡ unknown_numbers k
  unfolding new_listener
  new_unknown k z o =
      subst (λ (x : Listener). heard_of x o ≡ unknown_numbers x) (sym z)
      (unknown_heard (new_listener e w) o (spoken_of (book_of e w)).in_range_start n)

  pub stays_new : (l : Listener) (h : List ℕ) → HasHeard e w l h → l ≡ new_listener e w
  stays_new l h (new _ _ k p) = reset_is_new e w k p
  stays_new l h (more _ _ k g o r d q p) =
      let x = stays_new k g d in
      ap (λ (y : declared.Heard). y.listener) (listen_is k o r p ∙ new_unknown k x o) ∙ x

  pub gets_16 : (l : Listener) (h : List ℕ) → HasHeard e w l h → (o : List ℕ) (r : declared.Heard) →
      ListenGives l o r → r ≡ unknown_numbers l
  gets_16 l h d o r p = listen_is l o r p ∙ new_unknown l (stays_new l h d) o

module _ (l : Listener) (o : List ℕ) (r : declared.Heard) (p : ListenGives l o r) where
  -- any listener at all gives a number of its language, or 16 or 17 at 0
  pub numbers : Octets o → (f : Fault) → r.answer ≡ Refused f →
      T ((language_of (book_of l.edition l.way)).given f.number) ⊎ ((f ≡ noted 16 0) ⊎ (f ≡ noted 17 0))
  numbers q f e = hears.numbers l o q r (listen_is l o r p) f e

  -- and one in range and of known numbers names a parameter as its number says
  pub names : Octets o → InRange l → Known l → (f : Fault) → r.answer ≡ Refused f →
      T (named f.number f.parameter)
  names q t k f e = hears.in_range_names l o q t k r (listen_is l o r p) f e

  -- one in range, also where no octets lead to it, is stepped by the written rule of its book, and keeps that; answer
  -- and octets taken are the rule's too
  pub by_the_rule : InRange l → Known l → r ≡ stepped (language_of (book_of l.edition l.way)) l o
  by_the_rule t k = listen_is l o r p ∙ in_range_heard l o t k

  -- one in range of unknown numbers gets 16, one out of range 17: it takes nothing and comes back as it was
  pub of_unknown_numbers : InRange l → (Known l → ⊥) → r ≡ unknown_numbers l
  of_unknown_numbers t n = listen_is l o r p ∙ unknown_heard l o t n

  pub out_of_range_lem : (InRange l → ⊥) → r ≡ out_of_range l
  out_of_range_lem n = listen_is l o r p ∙ out_of_range_heard l o n

-- any cutting ends as one run does
pub cut_anywhere : (l : Listener) (x y : List ℕ) (r r₁ r₂ : declared.Heard) → ListenGives l (x ++ y) r →
    ListenGives l x r₁ → ListenGives r₁.listener y r₂ → Octets x →
    (r.listener ≡ r₂.listener) × (r.answer ≡ r₂.answer) × (r.taken ≡ r₁.taken + r₂.taken)
    × (r.edition ≡ r₂.edition)
cut_anywhere l x y r r₁ r₂ p p₁ p₂ q =
    hears.cut_anywhere l x y q r r₁ r₂ (listen_is l (x ++ y) r p) (listen_is l x r₁ p₁)
    (listen_is r₁.listener y r₂ p₂)
