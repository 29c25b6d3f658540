-- Document 01's rows on a desk, computed: settled notices, a call message, and refusals; then document 02's Q-6:
-- references added, removed and refused; and Q-5: the old edition, and an unknown one.
-- Assumes nothing.
use Rattle.std.specs.Prelude.{ℕ, ◌≡◌, refl, List, [], ◌∷◌, replicate, Option as Maybe, Ok, Err, Some, None}
use Rattle.rules.specs.Tests.{◌≤?◌, ◌=?◌, ◌and◌, ◌or◌, pick}
use Rattle.rules.specs.Octets.{checksum}
use Rattle.rules.specs.Contents.{within, in_set, digit, some_length, short_month, days}
use Rattle.rules.specs.Table.{rules_of, class_fault, row_in, row_of, listed_in, listed, class_of, rival_of, type_fault, whole}
use Rattle.rules.specs.declared.Book.TheVariants.{PresentLenient}
use Rattle.rules.specs.Editions.{edition, known, book_of, named_by}
use Rattle.rules.specs.Message.{message_kind}
use Rattle.rules.specs.ContentJudge.{opens, tens_fit, ones_fit, pair_at, day_fits, calendar_at, calendar_keep, column_at, judge_of}
use Rattle.rules.specs.Machine.{step, run}
use Rattle.rules.specs.Judge.{room_fits, range_possible, some_possible, possible, final, fits, contents, after, fault, stands_in, machine}
use Rattle.rules.specs.Refusals.{noted, noted_in}
use Rattle.message.specs.Verdict.{judged, verdict_of}
use Rattle.message.specs.Parts.{parameter_at, matched, search_from, counted_at, part_of}
use Rattle.desk.specs.declared.Lamp.{Lamp}
use Rattle.desk.specs.declared.Lamp.TheVariants as lamp
use Rattle.desk.specs.declared.Desk.{Desk}
use Rattle.desk.specs.declared.Outcome.{Outcome}
use Rattle.desk.specs.Told.{told, Settling}
use Rattle.rules.specs.First.{index_of}
use Rattle.desk.specs.References.{free, held, absent, may_stand, places_fit}
use Rattle.desk.specs.References.{change_by, is_full, places_after}
use Rattle.desk.specs.Settle.{new_desk, waiting_after, lamp_after, change_in, change_of, noticed, counted_in, settled_notice, settled_message, settled_under, refused_with, settle_of, settled_by_none, settle_in}

abbrev with_places : Maybe ℕ → Lamp → List ℕ → Desk
with_places w l ps = record { waiting = w; lamp = l; places = ps }

abbrev desk : Maybe ℕ → Lamp → Desk
desk w l = with_places w l (replicate 16 free)

abbrev holding : List ℕ → Desk
holding ps = with_places None lamp.Unknown ps

abbrev settled : Desk → Outcome
settled d = record { desk = d; answer = Ok tt }

abbrev done : Maybe ℕ → Lamp → Outcome
done w l = settled (desk w l)

abbrev refused : ℕ → ℕ → Desk → Outcome
refused k p d = record { desk = d; answer = Err (noted k p) }

abbrev by : ℕ → Outcome → Settling
by e x = record { edition = e; answer = x }

-- the references 101H to 110H
abbrev sixteen : List ℕ
sixteen =
    held 0x101 ∷ held 0x102 ∷ held 0x103 ∷ held 0x104 ∷ held 0x105 ∷ held 0x106 ∷ held 0x107 ∷ held 0x108 ∷ held
    0x109 ∷ held 0x10A ∷ held 0x10B ∷ held 0x10C ∷ held 0x10D ∷ held 0x10E ∷ held 0x10F ∷ held 0x110 ∷ []

pub record Claim : Type 0 where
  pub lamp_on : settle_of (rules_of PresentLenient) new_desk (0x82 ∷ 0x03 ∷ 0x0B ∷ 0x01 ∷ 0xFF ∷ 0x70 ∷ []) ≡
      done None lamp.On
  pub lamp_off : settle_of (rules_of PresentLenient) (desk (Some 7) lamp.On)
      (0x82 ∷ 0x03 ∷ 0x0B ∷ 0x01 ∷ 0x00 ∷ 0x6F ∷ []) ≡ done (Some 7) lamp.Off
  pub waiting_two : settle_of (rules_of PresentLenient) (desk (Some 7) lamp.On)
      (0x82 ∷ 0x03 ∷ 0x13 ∷ 0x01 ∷ 0x02 ∷ 0x65 ∷ []) ≡ done (Some 2) lamp.On
  pub first_counts : settle_of (rules_of PresentLenient) new_desk
      (0x82 ∷ 0x06 ∷ 0x13 ∷ 0x01 ∷ 0x02 ∷ 0x13 ∷ 0x01 ∷ 0x05 ∷ 0x49 ∷ []) ≡ done (Some 2) lamp.Unknown
  pub call : settle_of (rules_of PresentLenient) new_desk (0x80 ∷ 0x03 ∷ 0x13 ∷ 0x01 ∷ 0x02 ∷ 0x67 ∷ []) ≡
      done None lamp.Unknown
  pub nothing : settle_of (rules_of PresentLenient) new_desk [] ≡ refused 8 0 new_desk
  pub wrong_kind : settle_of (rules_of PresentLenient) new_desk (0x81 ∷ []) ≡ refused 1 0 new_desk
  pub wrong_sum : settle_of (rules_of PresentLenient) new_desk (0x82 ∷ 0x03 ∷ 0x0B ∷ 0x01 ∷ 0xFF ∷ 0x71 ∷ []) ≡
      refused 6 5 new_desk
  pub followed : settle_of (rules_of PresentLenient) new_desk (0x82 ∷ 0x03 ∷ 0x0B ∷ 0x01 ∷ 0xFF ∷ 0x70 ∷ 0x00 ∷ []) ≡
      refused 7 6 new_desk
  -- a wrong code in the second parameter, behind a carried one (document 02, Q-3)
  pub second_wrong : settle_of (rules_of PresentLenient) new_desk
      (0x82 ∷ 0x06 ∷ 0x05 ∷ 0x01 ∷ 0x00 ∷ 0x0B ∷ 0x01 ∷ 0x41 ∷ []) ≡
      record { desk = new_desk; answer = Err (noted_in 5 7 2) }
  pub reference_added : settle_of (rules_of PresentLenient) new_desk
      (0x82 ∷ 0x05 ∷ 0x0D ∷ 0x03 ∷ 0xFF ∷ 0x01 ∷ 0x02 ∷ 0x67 ∷ []) ≡ settled (holding (held 0x102 ∷ replicate 15 free))
  pub reference_there : settle_of (rules_of PresentLenient) (holding (held 0x102 ∷ replicate 15 free))
      (0x82 ∷ 0x05 ∷ 0x0D ∷ 0x03 ∷ 0xFF ∷ 0x01 ∷ 0x02 ∷ 0x67 ∷ []) ≡ settled (holding (held 0x102 ∷ replicate 15 free))
  pub lowest_free : settle_of (rules_of PresentLenient)
      (holding (held 0x102 ∷ free ∷ held 0x103 ∷ replicate 13 free))
      (0x82 ∷ 0x05 ∷ 0x0D ∷ 0x03 ∷ 0xFF ∷ 0x00 ∷ 0x00 ∷ 0x6A ∷ []) ≡
      settled (holding (held 0x102 ∷ held 0 ∷ held 0x103 ∷ replicate 13 free))
  pub reference_removed : settle_of (rules_of PresentLenient)
      (holding (held 0x102 ∷ held 0 ∷ held 0x103 ∷ replicate 13 free))
      (0x82 ∷ 0x05 ∷ 0x0D ∷ 0x03 ∷ 0x00 ∷ 0x00 ∷ 0x00 ∷ 0x69 ∷ []) ≡
      settled (holding (held 0x102 ∷ free ∷ held 0x103 ∷ replicate 13 free))
  pub removed_elsewhere : settle_of (rules_of PresentLenient) (holding (held 0x102 ∷ replicate 15 free))
      (0x82 ∷ 0x05 ∷ 0x0D ∷ 0x03 ∷ 0x00 ∷ 0x01 ∷ 0x03 ∷ 0x65 ∷ []) ≡ settled (holding (held 0x102 ∷ replicate 15 free))
  pub reference_unset : settle_of (rules_of PresentLenient) (holding sixteen)
      (0x82 ∷ 0x05 ∷ 0x0D ∷ 0x03 ∷ 0x55 ∷ 0x02 ∷ 0x00 ∷ 0x12 ∷ []) ≡ settled (holding sixteen)
  pub no_place : settle_of (rules_of PresentLenient) (holding sixteen)
      (0x82 ∷ 0x08 ∷ 0x0B ∷ 0x01 ∷ 0xFF ∷ 0x0D ∷ 0x03 ∷ 0xFF ∷ 0x02 ∷ 0x00 ∷ 0x5A ∷ []) ≡ refused 21 0 (holding sixteen)
  pub full_and_there : settle_of (rules_of PresentLenient) (holding sixteen)
      (0x82 ∷ 0x08 ∷ 0x0B ∷ 0x01 ∷ 0xFF ∷ 0x0D ∷ 0x03 ∷ 0xFF ∷ 0x01 ∷ 0x10 ∷ 0x4B ∷ []) ≡
      settled (with_places None lamp.On sixteen)
  pub held_twice : settle_of (rules_of PresentLenient) (holding (held 7 ∷ free ∷ held 7 ∷ replicate 13 free)) [] ≡
      refused 17 0 (holding (held 7 ∷ free ∷ held 7 ∷ replicate 13 free))
  pub out_of_range : settle_of (rules_of PresentLenient) (holding (65537 ∷ replicate 15 free)) [] ≡
      refused 17 0 (holding (65537 ∷ replicate 15 free))
  pub last_reference : settle_of (rules_of PresentLenient) (holding (65536 ∷ replicate 15 free))
      (0x82 ∷ 0x05 ∷ 0x0D ∷ 0x03 ∷ 0x00 ∷ 0xFF ∷ 0xFF ∷ 0x6B ∷ []) ≡ settled new_desk
  -- by the old edition 13H is carried, and the number stays; the lamp is set
  pub old_number : settle_in 1 1 (desk (Some 7) lamp.Off)
      (0x82 ∷ 0x03 ∷ 0x13 ∷ 0x01 ∷ 0x02 ∷ 0x65 ∷ []) ≡ by 1 (done (Some 7) lamp.Off)
  pub old_lamp : settle_in 1 1 (desk (Some 7) lamp.Off)
      (0x82 ∷ 0x03 ∷ 0x0B ∷ 0x01 ∷ 0xFF ∷ 0x70 ∷ []) ≡ by 1 (done (Some 7) lamp.On)
  -- the same notice by the present edition, and by the old one where types without a row are refused
  pub present_number : settle_in 0 1 (desk (Some 7) lamp.Off)
      (0x82 ∷ 0x03 ∷ 0x13 ∷ 0x01 ∷ 0x02 ∷ 0x65 ∷ []) ≡ by 0 (done (Some 2) lamp.Off)
  pub old_strict : settle_in 1 0 new_desk (0x82 ∷ 0x03 ∷ 0x13 ∷ 0x01 ∷ 0x02 ∷ 0x65 ∷ []) ≡
      by 1 (record { desk = new_desk; answer = Err (noted_in 10 2 1) })
  -- an unknown edition and an unknown way, behind 17
  pub unknown_edition : settle_in 2 1 new_desk (0x82 ∷ 0x03 ∷ 0x0B ∷ 0x01 ∷ 0xFF ∷ 0x70 ∷ []) ≡
      by 0 (refused 16 0 new_desk)
  pub unknown_way : settle_in 1 2 new_desk (0x82 ∷ 0x03 ∷ 0x0B ∷ 0x01 ∷ 0xFF ∷ 0x70 ∷ []) ≡
      by 0 (refused 16 0 new_desk)
  pub held_twice_unknown : settle_in 2 1 (holding (held 7 ∷ free ∷ held 7 ∷ replicate 13 free)) [] ≡
      by 0 (refused 17 0 (holding (held 7 ∷ free ∷ held 7 ∷ replicate 13 free)))
  pub held_twice_known : settle_in 1 1 (holding (held 7 ∷ free ∷ held 7 ∷ replicate 13 free)) [] ≡
      by 0 (refused 17 0 (holding (held 7 ∷ free ∷ held 7 ∷ replicate 13 free)))

pub rows : Claim
unfolding ◌≤?◌ ◌=?◌ ◌and◌ ◌or◌ pick checksum within in_set whole digit row_in row_of listed_in listed class_of rival_of type_fault rules_of class_fault some_length message_kind opens tens_fit ones_fit pair_at short_month days day_fits calendar_at calendar_keep column_at judge_of step run room_fits range_possible some_possible possible final fits contents after fault stands_in machine judged verdict_of parameter_at matched search_from counted_at part_of waiting_after lamp_after change_in change_of noticed counted_in settled_notice settled_message settled_under refused_with settle_of index_of absent may_stand places_fit change_by is_full places_after edition known book_of named_by told settled_by_none settle_in
rows = record {
  lamp_on = refl;
  lamp_off = refl;
  waiting_two = refl;
  first_counts = refl;
  call = refl;
  nothing = refl;
  wrong_kind = refl;
  wrong_sum = refl;
  followed = refl;
  second_wrong = refl;
  reference_added = refl;
  reference_there = refl;
  lowest_free = refl;
  reference_removed = refl;
  removed_elsewhere = refl;
  reference_unset = refl;
  no_place = refl;
  full_and_there = refl;
  held_twice = refl;
  out_of_range = refl;
  last_reference = refl;
  old_number = refl;
  old_lamp = refl;
  present_number = refl;
  old_strict = refl;
  unknown_edition = refl;
  unknown_way = refl;
  held_twice_unknown = refl;
  held_twice_known = refl;
}
