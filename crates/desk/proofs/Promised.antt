-- What the promises of `new_desk` and `settle` say over the written rules, for whatever outcomes they allow (document
-- 01, The desk; document 02, Q-5 and Q-6).
-- Assumes nothing.
use Rattle.desk.specs.Told.{Settling}
use Prim.Native.Nat.{ℕ}
use mathlib.Core.Path.{◌≡◌, sym, ◌∙◌, ap, subst}
use mathlib.Core.List.{List, [], ◌∷◌}
use mathlib.Core.Option.{none}
use Rattle.rules.specs.Octets.{Octets}
use Rattle.desk.specs.declared.Desk.{Desk}
use Rattle.desk.specs.References.{place_count}
use Rattle.desk.specs.Holding.{Fit}
use Rattle.desk.proofs.Holding.{fit_free}
use Rattle.desk.specs.Settle.{new_desk, settle_in}
use Rattle.desk.proofs.Editions as editions
use Rattle.desk.specs.Settles.{SettlesBy}
use Rattle.desk.proofs.History as history
use Rattle.desk.proofs.History.{History}
use Rattle.desk.proofs.Words as words
use Rattle.desk.specs.History.{Call, last_said, OpenBy, Says}
use Rattle.desk.proofs.new_desk.Reads as new_desk_reads
use Rattle.desk.proofs.settle.Reads as settle

-- `new_desk` answers d
abbrev pub NewDeskGives : Desk → Type 0
NewDeskGives d = (κs : _) × (a : _) × (s : _) × new_desk_reads.Post κs a d s

-- by the edition e and the way w, of the desk d and the octets o, `settle` answers r
abbrev pub SettleGives : ℕ → ℕ → Desk → List ℕ → Settling → Type 0
SettleGives e w d o r =
    (κs : _) × (a : _) × (s : _) × settle.Post κs a r s × (a.0 ≡ e) × (a.1.0 ≡ w) × (a.1.1.0 ≡ d)
    × (a.1.1.1.0.now ≡ o)

-- of a new desk nothing is known, and all its places are free
pub new_is_unknown : (d : Desk) → NewDeskGives d → d ≡ new_desk
new_is_unknown d h = h.3

-- and it fits: every reference can be added to it
pub new_fits : (d : Desk) → NewDeskGives d → Fit d.places
new_fits d h = subst (λ (x : Desk). Fit x.places) (sym h.3) (fit_free place_count)

module _ (e w : ℕ) (d : Desk) (o : List ℕ) (r : Settling) (h : SettleGives e w d o r) where
  pub settle_is : r ≡ settle_in e w d o
  settle_is = h.3 ∙ (λ i. settle_in (h.4 i) (h.5 i) (h.6 i) (h.7 i))

  -- which answer, and what a notice, a call message and a refusal do to the desk: by known numbers by their book
  -- (`Settles`), by unknown ones 17 or else 16 (`SettlesBy`)
  pub settling : Octets o → SettlesBy e w d o r
  settling q = subst (SettlesBy e w d o) (sym settle_is) (editions.settles_by e w d o q)

  -- the same octets settled twice running by the same numbers, known or not: the second call gives the desk, the
  -- answer and the edition that the first gave
  pub settled_twice : (r' : Settling) → SettleGives e w r.answer.desk o r' → Octets o → r' ≡ r
  settled_twice r' k q =
      k.3
      ∙ (λ i. settle_in (k.4 i) (k.5 i) (k.6 i) (k.7 i))
      ∙ ap (λ (x : Settling). settle_in e w x.answer.desk o) settle_is
      ∙ editions.settled_twice e w d o q
      ∙ sym settle_is

-- ---- calls one after the other, each by its own edition and way, known or not, each outcome as the promise allows it
abbrev pub CallGives : Desk → Call → Type 0
CallGives d c = SettleGives c.edition c.way d c.octets c.settled

abbrev pub Calls : Desk → List Call → Desk → Type 0
Calls d [] e = d ≡ e
Calls d (c ∷ cs) e = CallGives d c × Calls c.settled.answer.desk cs e

-- a reference is open after them exactly as the last notice says that was done and added or removed it; without one,
-- as it was before them
pub open_by_last : (r : ℕ) (d : Desk) (cs : List Call) (e : Desk) → Calls d cs e →
    OpenBy r d.places (last_said r cs none) e.places
open_by_last r d cs e h = history.open_by_last r d cs e (calls d cs h)
  where
    calls : (d : Desk) (cs : List Call) → Calls d cs e → History d cs e
    calls d [] h = h
    calls d (c ∷ cs) h = (
      settle_is c.edition c.way d c.octets c.settled h.0,
      calls c.settled.answer.desk cs h.1,
    )

-- and what each of them says is the state and the reference of the 0DH that counts in its message, over the written
-- rules
pub says : (r : ℕ) (c : Call) (d : Desk) → CallGives d c → Octets c.octets → Says r c
says r c d h q = words.says r c d (settle_is c.edition c.way d c.octets c.settled h) q
