-- The exports on octets that the strict way accepts: words, records and areas are those of the lenient way of the same
-- edition (document 02, Q-11).
-- Assumes nothing.
use Rattle.std.proofs.Common.{ℕ, Result, Ok, Err}
use Prim.Native.Nat.{ℕ}
use mathlib.Core.Path.{◌≡◌, refl, ◌∙◌, ap}
use mathlib.Core.List.{List}
use lib.ListN.{length}
use lib.Dec.{T}
use Rattle.rules.specs.Tests.{◌=?◌, pick}
use Rattle.rules.specs.Message.{Accepts}
use Rattle.rules.specs.Editions.{strict, lenient, edition}
use Rattle.rules.proofs.Editions.{ways_known}
use Rattle.rules.proofs.Ways.{strict_of, lenient_of}
use Rattle.reader.specs.Read.{pack_of}
use Rattle.reader.proofs.Ways.{same_pack, same_area}
use Rattle.rules.specs.declared.Fault.{Fault}
use Rattle.message.specs.Parameters.{message_in}
use Rattle.message.specs.Verdict.{verdict_of}
use Rattle.message.proofs.Ways.{same_verdict, same_part}
use Rattle.caption.proofs.Ways.{same_finding}
use Rattle.draft.proofs.Ways.{ways_draft}
use Rattle.desk.proofs.Ways.{same_settling}
use Rattle.firmware.specs.DraftRecord.{draft_record}
use Rattle.firmware.specs.DeskRecord.{is_record, desk_in, desk_record}
use Rattle.firmware.specs.Exports.{bad_record, no_book, packed_word, record_from, read_answer, read_record, read_texts, desk_word, settle_answer, settle_record, part_word, counted_under, counted_answer, found_word, part_from, caption_answer, caption_record}
use Rattle.firmware.specs.Sizes.{draft_size, part_size}

module _ (e : ℕ) (k : T (edition e)) (o : List ℕ) (a : Accepts (strict_of e) o) (c t : List ℕ) where
  pub same_word : read_answer e strict o c t ≡ read_answer e lenient o c t
  unfolding read_answer
  same_word =
      let x = ways_known e in
      let y = same_pack e k o a (length t) in
      λ i. pick (length c =? draft_size) (pick (x i) (packed_word e (y i)) no_book) bad_record

  records_by : (p : Result ℕ Fault) → record_from (strict_of e) o c p ≡ record_from (lenient_of e) o c p
  unfolding record_from
  records_by (Ok n) = ap draft_record (ways_draft e k (message_in o))
  records_by (Err f) = refl

  pub same_record : read_record e strict o c t ≡ read_record e lenient o c t
  unfolding read_record
  same_record =
      let x = ways_known e in
      let y = ap (record_from (strict_of e) o c) (same_pack e k o a (length t))
      ∙ records_by (pack_of (lenient_of e) o (length t)) in
      λ i. pick (length c =? draft_size) (pick (x i) (y i) c) c

  pub same_texts : read_texts e strict o c t ≡ read_texts e lenient o c t
  unfolding read_texts
  same_texts =
      let x = ways_known e in
      let y = same_area e k o a t in
      λ i. pick (length c =? draft_size) (pick (x i) (y i) t) t

module _ (e : ℕ) (k : T (edition e)) (o : List ℕ) (a : Accepts (strict_of e) o) (c : List ℕ) where
  pub same_desk_word : settle_answer e strict c o ≡ settle_answer e lenient c o
  unfolding settle_answer
  same_desk_word =
      let z = same_settling e k o a (desk_in c) in
      λ i. pick (is_record c) (desk_word (z i).edition (z i).answer.answer) bad_record

  pub same_desk_record : settle_record e strict c o ≡ settle_record e lenient c o
  unfolding settle_record
  same_desk_record =
      let z = same_settling e k o a (desk_in c) in
      λ i. pick (is_record c) (desk_record (z i).answer.desk) c

module _ (e : ℕ) (k : T (edition e)) (o : List ℕ) (a : Accepts (strict_of e) o) where
  counts_by : (t : ℕ) (v : Result ℕ Fault) → counted_under e strict v o t ≡ counted_under e lenient v o t
  unfolding counted_under
  counts_by t (Ok n) = ap (part_word e) (same_part e k o t)
  counts_by t (Err f) = refl

  pub same_counted : (t : ℕ) → counted_answer e strict o t ≡ counted_answer e lenient o t
  unfolding counted_answer
  same_counted t =
      let x = ways_known e in
      let y = ap (λ (v : Result ℕ Fault). counted_under e strict v o t) (same_verdict e k o a)
      ∙ counts_by t (verdict_of (lenient_of e) o) in
      λ i. pick (x i) (y i) no_book

  pub same_caption_word : (d c : List ℕ) → caption_answer e strict o d c ≡ caption_answer e lenient o d c
  unfolding caption_answer
  same_caption_word d c =
      let z = same_finding e k o a d in
      λ i. pick (length c =? part_size) (found_word (z i)) bad_record

  pub same_caption_record : (d c : List ℕ) → caption_record e strict o d c ≡ caption_record e lenient o d c
  unfolding caption_record
  same_caption_record d c =
      let z = same_finding e k o a d in
      λ i. pick (length c =? part_size) (part_from c (z i).answer) c
