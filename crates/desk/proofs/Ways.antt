-- Octets that the strict way accepts are settled alike by the lenient way of the same edition, on any desk: the same
-- counts in them (document 02, Q-11).
-- Assumes nothing.
use Rattle.std.proofs.Common.{ℕ, Result, Ok, Err}
use Prim.Native.Nat.{ℕ}
use mathlib.Core.Path.{◌≡◌, refl, ◌∙◌, ap}
use mathlib.Core.List.{List}
use mathlib.Core.Option.{Option}
use lib.ListN.{get_or}
use lib.Dec.{T}
use Rattle.rules.specs.Tests.{◌=?◌, pick}
use Rattle.rules.specs.Message.{Accepts}
use Rattle.rules.specs.Editions.{strict, lenient, edition, named_by}
use Rattle.rules.proofs.Editions.{ways_known}
use Rattle.rules.proofs.Ways.{strict_of, lenient_of}
use Rattle.rules.specs.declared.Fault.{Fault}
use Rattle.message.specs.Parts.{part_of}
use Rattle.message.specs.Verdict.{verdict_of}
use Rattle.message.proofs.Ways.{same_verdict, same_part}
use Rattle.desk.specs.declared.Desk.{Desk}
use Rattle.desk.specs.declared.Outcome.{Outcome}
use Rattle.desk.specs.Told.{told}
use Rattle.desk.specs.References.{places_fit}
use Rattle.desk.specs.Settle.{done, refused_with, settled_notice, counted_in, settled_message, settled_under, settle_of, settled_by_none, settle_in}

module _ (e : ℕ) (k : T (edition e)) (o : List ℕ) (a : Accepts (strict_of e) o) (d : Desk) where
  under : (v : Result ℕ Fault) → settled_under (strict_of e) v o d ≡ settled_under (lenient_of e) v o d
  unfolding settled_under settled_message counted_in
  under (Ok n) =
      ap (λ (f : ℕ → Option (List ℕ)). pick (get_or o 0 0 =? 0x82) (settled_notice f d) (done d))
      (λ i t. part_of o (same_part e k o t i))
  under (Err f) = refl

  same_outcome : settle_of (strict_of e) d o ≡ settle_of (lenient_of e) d o
  unfolding settle_of
  same_outcome =
      ap (λ (x : Outcome). pick (places_fit d.places) x (refused_with 17 d))
      (ap (λ (v : Result ℕ Fault). settled_under (strict_of e) v o d) (same_verdict e k o a) ∙ under (verdict_of (lenient_of e) o))

  pub same_settling : settle_in e strict d o ≡ settle_in e lenient d o
  unfolding settle_in
  same_settling =
      let x = ways_known e in
      let y = same_outcome in
      λ i. pick (x i) (record { edition = named_by (told (y i).answer).number e; answer = y i })
      (record { edition = 0; answer = settled_by_none d })
