-- What the promises of `step_at`, `new`, `look` and `next` say over the written rules, one call after the other, for
-- whatever outcomes they allow (document 01, Drafts; document 02, Q-5). The promises of the last three go by the names
-- that their contracts give them, `Begun`, `Seen`, `Moved`.
-- Assumes nothing.
use Rattle.std.proofs.Common.{Ok, None}
use Prim.Native.Nat.{ℕ, ◌≤◌}
use mathlib.Core.Path.{◌≡◌, sym, ◌∙◌, ap, subst}
use mathlib.Core.List.{List, ◌∷◌, ◌++◌}
use lib.ListN.{length}
use lib.Dec.{T}
use denote.Ref.{Bor}
use Rattle.rules.specs.Octets.{Octets}
use Rattle.rules.specs.Table.{Rules, rules_of}
use Rattle.rules.specs.Editions.{known, book_of}
use Rattle.rules.proofs.Unique.{unique_in}
use Rattle.rules.proofs.ContentLaw.{sound_rules}
use Rattle.rules.specs.Message as message
use Rattle.rules.specs.Message.{Message, octets, LegalMessage}
use Rattle.walker.specs.declared.Walker.{Walker}
use Rattle.walker.specs.Steps.{step_of, step_in, place_at, place_in, Step, Stepped}
use Rattle.walker.proofs.Walks as walks
use Rattle.walker.proofs.Editions as editions
use Rattle.walker.specs.Told.{told, refusal, Clear}
use Rattle.walker.specs.Walks.{Gives, StepAt, WalksBy}
use Rattle.walker.specs.Moves.{seen, Begun, Seen, Moved, Reached, reached}
use Rattle.walker.proofs.step_at.Reads as step_at

-- by the edition e and the way w, of the octets o and a place, `step_at` answers r
abbrev pub StepGives : ℕ → ℕ → List ℕ → ℕ → Stepped → Type 0
StepGives e w o at r =
    (κs : _) × (a : _) × (s : _) × step_at.Post κs a r s × (a.0 ≡ e) × (a.1.0 ≡ w) × (a.1.1.0.now ≡ o)
    × (a.1.1.1.0 ≡ at)

-- 16 at 0, and no edition is named
abbrev pub Sixteen : Stepped → Type 0
Sixteen r = (told r.answer ≡ refusal 16 0 0) × (r.edition ≡ 0)

sixteen_by_none : (r : Stepped) → r ≡ editions.by_none → Sixteen r
unfolding told
sixteen_by_none r e = (ap (λ (x : Stepped). told x.answer) e, ap (λ (x : Stepped). x.edition) e)

module _ (e w : ℕ) (o : List ℕ) (at : ℕ) (r : Stepped) (h : StepGives e w o at r) where
  step_at_is : r ≡ step_in e w o at
  step_at_is = h.3 ∙ (λ i. step_in (h.4 i) (h.5 i) (h.6 i) (h.7 i))

  -- any numbers, any octets and any place: by known numbers refused exactly as the whole read by their book, else the
  -- parameter that begins there, or none (`Walks`); by unknown ones 16 (`WalksBy`)
  pub stepping : Octets o → WalksBy e w o at r
  stepping q = subst (WalksBy e w o at) (sym step_at_is) (editions.walks_by e w o at q)

  -- of a legal message of a known edition and way
  pub step_of_lem : T (known e w) → (m : Message) → LegalMessage (rules_of (book_of e w)) m → octets m ≡ o →
      Clear r.answer × StepAt m at r.answer × (r.edition ≡ e)
  step_of_lem t m l k =
      let x = (stepping ((unique_in (book_of e w)).octets _ (m, l, k))).by_book t in
      (x.clear, x.stands m l k, ap (λ (y : Stepped). y.edition) (step_at_is ∙ editions.known_is e w o at t))

  -- by unknown numbers 16, whatever is in the slice and at every place
  pub step_unknown : (T (known e w) → ⊥) → Sixteen r
  step_unknown n = sixteen_by_none r (step_at_is ∙ editions.unknown_is e w o at n)

-- any walker, with any message, any place and any numbers
pub looking : (v : Walker) (r : Stepped) → Seen v r → Octets v.message.now →
    WalksBy v.edition v.way v.message.now v.place r
looking v r k q =
    subst (WalksBy v.edition v.way v.message.now v.place) (sym k)
    (editions.walks_by v.edition v.way v.message.now v.place q)

-- with unknown numbers it is given 16, whatever it holds
pub looking_unknown : (v : Walker) (r : Stepped) → Seen v r → (T (known v.edition v.way) → ⊥) → Sixteen r
looking_unknown v r k n =
    sixteen_by_none r (k ∙ editions.unknown_is v.edition v.way v.message.now v.place n)

-- a new walker holds the message, edition and way that it is told, at the first parameter's place
pub begun_holds : (e w : ℕ) (s : Bor (List ℕ)) (v : Walker) → Begun e w s v →
    (v.message ≡ s) × (v.place ≡ 2) × (v.edition ≡ e) × (v.way ≡ w)
begun_holds e w s v k = (
  ap (λ (x : Walker). x.message) k,
  ap (λ (x : Walker). x.place) k,
  ap (λ (x : Walker). x.edition) k,
  ap (λ (x : Walker). x.way) k,
)

-- moving on keeps message, edition and way
pub moved_keeps : (v u : Walker) → Moved v u →
    (u.message ≡ v.message) × (u.edition ≡ v.edition) × (u.way ≡ v.way)
moved_keeps v u k = (
  ap (λ (x : Walker). x.message) k,
  ap (λ (x : Walker). x.edition) k,
  ap (λ (x : Walker). x.way) k,
)

-- with unknown numbers it leaves the walker as it was
pub moved_unknown : (v u : Walker) → Moved v u → (T (known v.edition v.way) → ⊥) → u ≡ v
moved_unknown v u k n =
    let p = editions.unknown_next v.edition v.way v.message.now v.place n in
    k ∙ (λ i. record { message = v.message; place = p i; edition = v.edition; way = v.way })

module _ (e w : ℕ) (s : Bor (List ℕ)) (calls : ℕ) (v : Walker) (h : Reached e w s calls v) (r : Stepped)
    (k : Seen v r) where
  place_is : v.place ≡ place_in e w s.now calls
  place_is = ap (λ (u : Walker). u.place) (reached e w s calls v h)

  step_is : r ≡ step_in e w s.now (place_in e w s.now calls)
  step_is = k ∙ ap seen (reached e w s calls v h)

  -- a message that is not accepted gets its refusal from the first call on, at each; so does an unknown number
  pub refused_at_each : Octets s.now → WalksBy e w s.now v.place r
  refused_at_each q =
      subst (λ (x : ℕ). WalksBy e w s.now x r) (sym place_is)
      (subst (WalksBy e w s.now (place_in e w s.now calls)) (sym step_is)
      (editions.walks_by e w s.now (place_in e w s.now calls) q))

  -- by unknown numbers 16 at each call, whatever is in the slice, and the place stays the first one
  pub unknown_at_each : (T (known e w) → ⊥) → Sixteen r × (v.place ≡ 2)
  unknown_at_each n = (
    sixteen_by_none r (step_is ∙ editions.unknown_is e w s.now _ n),
    place_is ∙ editions.unknown_place e w s.now n calls,
  )

  -- edition and way are kept from call to call
  pub kept_at_each : (v.message ≡ s) × (v.edition ≡ e) × (v.way ≡ w)
  kept_at_each =
      let z = reached e w s calls v h in (
        ap (λ (u : Walker). u.message) z,
        ap (λ (u : Walker). u.edition) z,
        ap (λ (u : Walker). u.way) z,
      )

  module _ (t : T (known e w)) where
    abbrev R : Rules
    R = rules_of (book_of e w)

    known_step : r ≡ editions.named e (step_of R s.now (place_at R s.now calls))
    known_step =
        step_is
        ∙ editions.known_is e w s.now _ t
        ∙ ap (λ (x : ℕ). editions.named e (step_of R s.now x)) (editions.known_place e w s.now t calls)

    -- each names the edition
    pub named_at_each : r.edition ≡ e
    named_at_each = ap (λ (x : Stepped). x.edition) known_step

    module _ (m : Message) (l : LegalMessage R m) (o : s.now ≡ octets m) where
      at_message : r.answer ≡ step_of R (octets m) (place_at R (octets m) calls)
      at_message =
          ap (λ (x : Stepped). x.answer) known_step ∙ ap (λ (x : List ℕ). step_of R x (place_at R x calls)) o

      -- as many calls as the parameter p has before it lead to p: its type, and its contents' own place, size and
      -- octets
      pub lists : (b : List message.Parameter) (p : message.Parameter) (a : List message.Parameter) →
          m.parameters ≡ b ++ p ∷ a → calls ≡ length b → Gives (octets m) v.place p r.answer
      lists b p a is j =
          subst (λ (x : Step). Gives (octets m) v.place p x)
          (sym (at_message ∙ ap (λ (n : ℕ). step_of R (octets m) (place_at R (octets m) n)) j))
          (subst (λ (x : ℕ). Gives (octets m) x p (step_of R (octets m) (place_at R (octets m) (length b))))
          (sym there) (walks.in_order R (sound_rules (book_of e w)) m l b p a is))
        where
          there : v.place ≡ place_at R (octets m) (length b)
          there =
              place_is ∙ editions.known_place e w s.now t calls ∙ (λ i. place_at R (o i) (j i))

      -- as many calls as there are parameters, and each further one, lead to none
      pub ends : length m.parameters ≤ calls → r.answer ≡ Ok None
      ends j = at_message ∙ walks.no_more R (sound_rules (book_of e w)) m l calls j
