-- A read in the strict way of octets that it accepts is the read in the lenient way of the same edition, whatever the
-- area: the same answer, 9 too, the same draft, the same texts (document 02, Q-11).
-- Assumes nothing.
use Rattle.std.proofs.Common.{ℕ, Result, Ok, Err}
use Prim.Native.Nat.{ℕ}
use mathlib.Core.Path.{◌≡◌, refl, ◌∙◌, ap}
use mathlib.Core.List.{List}
use lib.ListN.{length}
use lib.Dec.{T}
use Rattle.rules.specs.Tests.{◌≤?◌, pick}
use Rattle.rules.specs.Refusals.{noted}
use Rattle.rules.specs.Message.{Accepts}
use Rattle.rules.specs.Editions.{strict, lenient, edition}
use Rattle.rules.proofs.Editions.{ways_known}
use Rattle.rules.proofs.Ways.{strict_of, lenient_of, ways_edition}
use Rattle.rules.specs.Laying.{laid}
use Rattle.rules.specs.declared.Fault.{Fault}
use Rattle.message.specs.Parameters.{parameters_in, message_in}
use Rattle.message.proofs.Ways.{same_verdict}
use Rattle.draft.specs.Draft.{empty_of}
use Rattle.draft.proofs.Ways.{ways_texts, ways_draft}
use Rattle.reader.specs.Read.{text_size, pack_from, pack_of, area_from, area_after, draft_from, read_of, unreadable, read_in, area_in}

module _ (e : ℕ) (k : T (edition e)) (o : List ℕ) (a : Accepts (strict_of e) o) where
  packs_by : (room : ℕ) (v : Result ℕ Fault) → pack_from (strict_of e) o room v ≡ pack_from (lenient_of e) o room v
  unfolding pack_from text_size
  packs_by room (Ok n) =
      ap (λ (l : List ℕ). pick (length l ≤? room) (Ok (length l)) (Err (noted 9 (length l))))
      (ways_texts e k (parameters_in o))
  packs_by room (Err f) = refl

  pub same_pack : (room : ℕ) → pack_of (strict_of e) o room ≡ pack_of (lenient_of e) o room
  unfolding pack_of
  same_pack room = ap (pack_from (strict_of e) o room) (same_verdict e k o a) ∙ packs_by room _

  drafts_by : (p : Result ℕ Fault) → draft_from (strict_of e) o p ≡ draft_from (lenient_of e) o p
  unfolding draft_from
  drafts_by (Ok n) = ways_draft e k (message_in o)
  drafts_by (Err f) = ap (λ (n : ℕ). empty_of n 0) (ways_edition e k)

  areas_by : (old : List ℕ) (p : Result ℕ Fault) → area_from (strict_of e) o old p ≡ area_from (lenient_of e) o old p
  unfolding area_from
  areas_by old (Ok n) = ap (λ (l : List ℕ). laid l old) (ways_texts e k (parameters_in o))
  areas_by old (Err f) = refl

  pub same_area : (old : List ℕ) → area_after (strict_of e) o old ≡ area_after (lenient_of e) o old
  unfolding area_after
  same_area old = ap (area_from (strict_of e) o old) (same_pack (length old)) ∙ areas_by old _

  same_reading : (room : ℕ) → read_of (strict_of e) o room ≡ read_of (lenient_of e) o room
  unfolding read_of
  same_reading room =
      let x = ways_edition e k in
      let y = same_pack room in
      let z = ap (draft_from (strict_of e) o) y ∙ drafts_by (pack_of (lenient_of e) o room) in
      λ i. record { edition = x i; answer = y i; draft = z i }

  pub same_read : (room : ℕ) → read_in e strict o room ≡ read_in e lenient o room
  unfolding read_in
  same_read room =
      let x = ways_known e in
      let y = same_reading room in
      λ i. pick (x i) (y i) unreadable

  pub same_area_in : (old : List ℕ) → area_in e strict o old ≡ area_in e lenient o old
  unfolding area_in
  same_area_in old =
      let x = ways_known e in
      let y = same_area old in
      λ i. pick (x i) (y i) old
