-- A reference stands as the last word on it says: call by call, a change says what it leaves. A call by unknown
-- numbers is refused, and says nothing.
-- Assumes nothing.
use Rattle.desk.specs.Told.{Settling}
use Rattle.std.proofs.Common.{ℕ, Result, Ok, Err}
use Prim.Native.Nat.{ℕ}
use mathlib.Core.Path.{◌≡◌, sym, subst}
use mathlib.Core.Bool.{Bool, true, false}
use mathlib.Core.Logic.Iff
use mathlib.Core.Logic.{◌⊎◌, inl, inr, ◌↔◌}
use mathlib.Core.List.{List, [], ◌∷◌}
use mathlib.Core.Option.{Option, none, some}
use lib.ListN.{get_or}
use lib.Dec.{T}
use Rattle.rules.specs.Tests.{◌=?◌, pick}
use Rattle.rules.proofs.Tests.{pick_yes, pick_not, decide, of_eq, eq_of}
use Rattle.rules.specs.Table.{rules_of}
use Rattle.rules.specs.Editions.{known, book_of}
use Rattle.rules.specs.declared.Book.{Book}
use Rattle.rules.specs.declared.Fault.{Fault}
use Rattle.message.specs.Verdict.{verdict_of}
use Rattle.desk.specs.declared.Change.{Change}
use Rattle.desk.specs.declared.Change.TheVariants.{Nothing, Adds, Removes}
use Rattle.desk.specs.declared.Desk.{Desk}
use Rattle.desk.specs.declared.Outcome.{Outcome}
use Rattle.desk.specs.References.{places_fit, is_full, places_after}
use Rattle.desk.specs.Holding.{Open, Fit}
use Rattle.desk.proofs.Holding.{fit_of}
use Rattle.desk.proofs.Changes.{added, others_added, closed_after, others_removed}
use Rattle.desk.specs.Settle.{refused_with, change_of, noticed, counted_in, settled_message, settled_under, settle_of, settle_in}
use Rattle.desk.proofs.Settles.{Ways, ways}
use Rattle.desk.proofs.Editions.{unnamed, known_is, unknown_is, none_is}
use Rattle.desk.specs.History.{said_by, Call, said_under, said, later, last_said, OpenBy}

-- calls one after the other, from the desk d to the desk e: each on the desk that the one before left
abbrev pub History : Desk → List Call → Desk → Type 0
History d [] e = d ≡ e
History d (c ∷ cs) e =
    (c.settled ≡ settle_in c.edition c.way d c.octets) × History c.settled.answer.desk cs e

-- ---- one change
stands_changed : (r : ℕ) (k : Change) (ps : List ℕ) → Fit ps → (T (is_full k ps) → ⊥) →
    OpenBy r ps (said_by r k) (places_after k ps)
unfolding said_by pick places_after
stands_changed r Nothing ps w n = same
  where
    same : Open r ps ↔ Open r (places_after Nothing ps)
    same = (λ o. o, λ o. o)
stands_changed r (Adds s) ps w n = go (s =? r) (λ t. eq_of s r t) (λ m e. m (of_eq s r e))
  where
    go : (b : Bool) → (T b → s ≡ r) → ((T b → ⊥) → s ≡ r → ⊥) →
        OpenBy r ps (pick b (some true) none) (places_after (Adds s) ps)
    go true f g = subst (λ (x : ℕ). Open x (places_after (Adds s) ps)) (f tt) (added s ps n).holds
    go false f g =
        let m : r ≡ s → ⊥ = λ e. g (λ t. t) (sym e) in
        (λ o. (o.0, (others_added s ps n r o.0 m).0 o.1), λ o. (o.0, (others_added s ps n r o.0 m).1 o.1))
stands_changed r (Removes s) ps w n = go (s =? r) (λ t. eq_of s r t) (λ m e. m (of_eq s r e))
  where
    go : (b : Bool) → (T b → s ≡ r) → ((T b → ⊥) → s ≡ r → ⊥) →
        OpenBy r ps (pick b (some false) none) (places_after (Removes s) ps)
    go true f g = λ o. closed_after s ps w (subst (λ (x : ℕ). Open x (places_after (Removes s) ps)) (sym (f tt)) o)
    go false f g =
        let m : r ≡ s → ⊥ = λ e. g (λ t. t) (sym e) in (
          λ o. (o.0, (others_removed s ps w r o.0 m).0 o.1),
          λ o. (o.0, (others_removed s ps w r o.0 m).1 o.1),
        )

module _ (book : Book) where
  -- ---- one call
  module _ (r : ℕ) (d : Desk) where
    abbrev Says : List ℕ → Outcome → Type 0
    Says o x = OpenBy r d.places (said_under (rules_of book) r o x.answer) x.desk.places

    same : Open r d.places ↔ Open r d.places
    same = (λ o. o, λ o. o)

    says_message : (o : List ℕ) (x : Outcome) → Fit d.places → Ways book d o x → Says o x
    unfolding said_under noticed
    says_message o x w (inl g) = subst (Says o) (sym g.is) same
    says_message o x w (inr (inl g)) =
        subst (Says o) (sym g.is)
        (subst (λ (b : Option Bool). OpenBy r d.places b
        (places_after (change_of (counted_in (rules_of book) o 0x0D)) d.places))
        (sym (pick_yes (get_or o 0 0 =? 0x82) (said_by r (change_of (counted_in (rules_of book) o 0x0D))) none
        (of_eq _ _ g.notice)))
        (stands_changed r (change_of (counted_in (rules_of book) o 0x0D)) d.places w g.room))
    says_message o x w (inr (inr g)) =
        subst (Says o) (sym g.is)
        (subst (λ (b : Option Bool). OpenBy r d.places b d.places)
        (sym (pick_not (get_or o 0 0 =? 0x82) (said_by r (change_of (counted_in (rules_of book) o 0x0D))) none
        (λ t. g.call (eq_of _ _ t)))) same)

    says_under : (v : Result ℕ Fault) (o : List ℕ) → Fit d.places → Says o (settled_under (rules_of book) v o d)
    unfolding settled_under said_under
    says_under (Ok n) o w = says_message o (settled_message (rules_of book) o d) w (ways book d o)
    says_under (Err f) o w = same

    says : (o : List ℕ) → Says o (settle_of (rules_of book) d o)
    unfolding settle_of refused_with said_under
    says o = go (decide (places_fit d.places))
      where
        go : T (places_fit d.places) ⊎ (T (places_fit d.places) → ⊥) → Says o (settle_of (rules_of book) d o)
        go (inl t) =
            subst (Says o) (sym (pick_yes (places_fit d.places) _ _ t))
            (says_under (verdict_of (rules_of book) o) o (fit_of d.places t))
        go (inr n) = subst (Says o) (sym (pick_not (places_fit d.places) _ _ n)) same

-- by an edition and a way
module _ (e w r : ℕ) (d : Desk) (o : List ℕ) where
  abbrev SaysBy : Settling → Type 0
  SaysBy x = Says (book_of e w) r d o x.answer

  says_by : SaysBy (settle_in e w d o)
  unfolding said_under
  says_by = go (decide (known e w))
    where
      go : T (known e w) ⊎ (T (known e w) → ⊥) → SaysBy (settle_in e w d o)
      go (inl t) = subst SaysBy (sym (known_is e w d o t)) (says (book_of e w) r d o)
      go (inr n) =
          subst SaysBy (sym (unknown_is e w d o n))
          (subst (λ (x : Outcome). SaysBy (unnamed x)) (sym (none_is d).1) (same (book_of e w) r d))

-- ---- call after call
stands_later : (r : ℕ) (ps qs rs : List ℕ) (a b : Option Bool) → OpenBy r ps b qs → OpenBy r qs a rs →
    OpenBy r ps (later a b) rs
unfolding later
stands_later r ps qs rs (some true) b x y = y
stands_later r ps qs rs (some false) b x y = y
stands_later r ps qs rs none (some true) x y = y.0 x
stands_later r ps qs rs none (some false) x y = λ o. x (y.1 o)
stands_later r ps qs rs none none x y = Iff.trans x y

goes_on : (r : ℕ) (ps : List ℕ) (d : Desk) (cs : List Call) (e : Desk) (b : Option Bool) →
    OpenBy r ps b d.places → History d cs e → OpenBy r ps (last_said r cs b) e.places
unfolding last_said said
goes_on r ps d [] e b x h = subst (λ (y : Desk). OpenBy r ps b y.places) h x
goes_on r ps d (c ∷ cs) e b x h =
    goes_on r ps c.settled.answer.desk cs e _
    (stands_later r ps d.places c.settled.answer.desk.places (said r c) b x
    (subst (SaysBy c.edition c.way r d c.octets) (sym h.0)
    (says_by c.edition c.way r d c.octets)))
    h.1

-- from whatever desk: open, closed or as it was, by the last word of all calls
pub open_by_last : (r : ℕ) (d : Desk) (cs : List Call) (e : Desk) → History d cs e →
    OpenBy r d.places (last_said r cs none) e.places
open_by_last r d cs e h = goes_on r d.places d cs e none (λ o. o, λ o. o) h
