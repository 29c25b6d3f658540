-- Whether a read goes through, by the verdict on the octets and the room for the texts; and what its answer and the
-- area then are.
-- Assumes nothing.
use Rattle.std.proofs.Common.{ℕ, Result, Ok, Err}
use Prim.Native.Nat.{ℕ, ◌≤◌, ◌<◌}
use mathlib.Core.Path.{◌≡◌, refl, sym, ◌∙◌, ap}
use mathlib.Core.Bool.{Bool, true, false}
use mathlib.Core.List.{List}
use native.Mathlib.Omega.{arith}
use lib.ListN.{length}
use Rattle.rules.specs.Tests.{◌≤?◌, pick}
use Rattle.rules.proofs.Tests.{pick_yes, pick_not, pick_case, le_of, of_le, clash}
use Rattle.rules.specs.Table.{Rules}
use Rattle.rules.specs.Laying.{laid}
use Rattle.rules.specs.Refusals.{noted}
use Rattle.rules.specs.declared.Fault.{Fault}
use Rattle.message.specs.Verdict.{verdict_of}
use Rattle.message.specs.Parameters.{parameters_in}
use Rattle.draft.specs.Packing.{texts_of}
use Rattle.reader.specs.Read.{text_size, pack_from, pack_of, fitting_of, room_for, area_from, area_after}

-- a refusal is that of the answer
pub refused_fitting : (p : Result ℕ Fault) (f : Fault) → Err f ≡ fitting_of p → Err f ≡ p
unfolding fitting_of
refused_fitting (Ok n) f e = clash cc
refused_fitting (Err g) f e = let z : f ≡ g = cc in ap Err z

module _ (R : Rules) (o : List ℕ) (room : ℕ) where
  -- ---- the room for an accepted message's texts
  pub room_enough : text_size R o ≤ room → (Ok tt) ≡ room_for R o room
  unfolding room_for
  room_enough h = sym (pick_yes _ _ _ (of_le _ _ h))

  pub room_short : (s : ℕ) → s ≡ text_size R o → room < s → Err (noted 9 s) ≡ room_for R o room
  unfolding room_for
  room_short s z h =
      ap (λ (k : ℕ). Err (noted 9 k)) z ∙ sym (pick_not _ _ _ (λ t. omega (arith, le_of _ _ t)))

  -- ---- the verdict, then 9
  module _ (v : Result ℕ Fault) (e : v ≡ verdict_of R o) where
    by_verdict : (w : Result ℕ Fault) → v ≡ w → fitting_of (pack_from R o room w) ≡ fitting_of (pack_of R o room)
    unfolding pack_of
    by_verdict w q = ap (λ (x : Result ℕ Fault). fitting_of (pack_from R o room x)) (sym q ∙ e)

    pub fits_accepted : (n : ℕ) → v ≡ Ok n → room_for R o room ≡ fitting_of (pack_of R o room)
    unfolding room_for pack_from fitting_of pick
    fits_accepted n q = go (text_size R o ≤? room) ∙ by_verdict (Ok n) q
      where
        go : (b : Bool) →
            pick b (Ok tt) (Err (noted 9 (text_size R o))) ≡
            fitting_of (pick b (Ok (text_size R o)) (Err (noted 9 (text_size R o))))
        go true = refl
        go false = refl

    pub fits_declined : (f : Fault) → v ≡ Err f → Err f ≡ fitting_of (pack_of R o room)
    unfolding pack_from fitting_of
    fits_declined f q = by_verdict (Err f) q

  -- ---- a read that goes through is of an accepted message whose texts have room
  pub record Whole (v : Result ℕ Fault) : Type 0 where
    pub octets : ℕ
    pub accepted : v ≡ Ok octets
    pub enough : text_size R o ≤ room
    pub answer : Ok (text_size R o) ≡ pack_from R o room v

  pub whole_from : (v : Result ℕ Fault) → (Ok tt) ≡ fitting_of (pack_from R o room v) → Whole v
  unfolding pack_from fitting_of
  whole_from (Ok n) e =
      let z = pick_case
      (λ (p : Result ℕ Fault). (Ok tt) ≡ fitting_of p → (Ok (text_size R o) ≡ p) × (text_size R o ≤ room))
      (text_size R o ≤? room) _ _ (λ t _. (refl, le_of _ _ t)) (λ _ d. clash cc) e in
      record { octets = n; accepted = refl; enough = z.1; answer = z.0 }
  whole_from (Err f) e = clash cc

  pub fits_whole : (Ok tt) ≡ fitting_of (pack_of R o room) → Whole (verdict_of R o)
  unfolding pack_of
  fits_whole e = whole_from (verdict_of R o) e

-- ---- the answer, and the area
module _ (R : Rules) (o old : List ℕ) where
  pub record Packs (r : Result ℕ Fault) (area : List ℕ) : Type 0 where
    pub answer : r ≡ pack_of R o (length old)
    pub area_is : area ≡ area_after R o old

  after : (r : Result ℕ Fault) (area : List ℕ) → r ≡ pack_of R o (length old) → area ≡ area_from R o old r → Packs r area
  unfolding area_after
  after r area a b = record { answer = a; area_is = b ∙ ap (area_from R o old) a }

  pub packs_whole : (Ok tt) ≡ fitting_of (pack_of R o (length old)) → (s : ℕ) (area : List ℕ) → s ≡ text_size R o →
      area ≡ laid (texts_of R (parameters_in o)) old → Packs (Ok s) area
  unfolding pack_of area_from
  packs_whole e s area z a =
      after (Ok s) area (ap Ok z ∙ (fits_whole R o (length old) e).answer) a

  pub packs_refused : (f : Fault) → Err f ≡ fitting_of (pack_of R o (length old)) → Packs (Err f) old
  unfolding area_from
  packs_refused f e = after (Err f) old (refused_fitting (pack_of R o (length old)) f e) refl
