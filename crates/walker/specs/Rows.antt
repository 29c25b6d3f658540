-- Steps computed: document 01's example message at each kind of place, the walk over it call by call, and refusals;
-- by an edition and a way (document 02, Q-5), where the old one differs, and 16.
-- Assumes nothing.
use Rattle.std.specs.Prelude.{◌≡◌, refl, List, [], ◌∷◌, ℕ, Ok, Err, None}
use Rattle.rules.specs.Tests.{◌≤?◌, ◌=?◌, ◌and◌, ◌or◌, pick}
use Rattle.rules.specs.Octets.{checksum}
use Rattle.rules.specs.Contents.{within, in_set, digit, some_length, short_month, days}
use Rattle.rules.specs.Table.{ascii, rules_of, class_fault, row_in, row_of, listed_in, listed, class_of, rival_of, type_fault, whole}
use Rattle.rules.specs.declared.Book.TheVariants.{PresentLenient}
use Rattle.rules.specs.Message.{message_kind}
use Rattle.rules.specs.ContentJudge.{opens, tens_fit, ones_fit, pair_at, day_fits, calendar_at, calendar_keep, column_at, judge_of}
use Rattle.rules.specs.Editions.{edition, known, book_of}
use Rattle.rules.specs.Refusals.{noted_in, noted}
use Rattle.rules.specs.Machine.{step, run}
use Rattle.rules.specs.Judge.{room_fits, range_possible, some_possible, possible, final, fits, contents, after, fault, stands_in, machine}
use Rattle.message.specs.Verdict.{judged, verdict_of}
use Rattle.message.specs.Parts.{parameter_at}
use Rattle.walker.specs.Steps as steps
use Rattle.walker.specs.Steps.{met, walk_from, step_under, step_of, step_in, place_at, place_in, Step, Stepped, given}

-- a date at octet 2, a caller at octet 12, the checksum at octet 19
abbrev call : List ℕ
call =
    0x80 ∷ 0x11 ∷ 0x01 ∷ 0x08 ∷ 0x30 ∷ 0x36 ∷ 0x31 ∷ 0x35 ∷ 0x31 ∷ 0x34 ∷ 0x33 ∷ 0x30 ∷ 0x02 ∷ 0x05 ∷ 0x34 ∷ 0x30 ∷ 0x39 ∷ 0x31 ∷ 0x32 ∷ 0xCB ∷ []

-- a calling user 01H, which the old edition does not have
abbrev user : List ℕ
user = 0x80 ∷ 0x03 ∷ 0x16 ∷ 0x01 ∷ 0x01 ∷ 0x65 ∷ []

-- an answer that names the edition e
abbrev by : ℕ → Step → Stepped
by e x = record { edition = e; answer = x }

pub record Claim : Type 0 where
  pub first : step_of (rules_of PresentLenient) call 2 ≡ given 0x01 4 8 12
  pub second : step_of (rules_of PresentLenient) call 12 ≡ given 0x02 14 5 19
  -- the message type, L, inside a parameter, the checksum, beyond
  pub at_kind : step_of (rules_of PresentLenient) call 0 ≡ Ok None
  pub at_size : step_of (rules_of PresentLenient) call 1 ≡ Ok None
  pub in_header : step_of (rules_of PresentLenient) call 3 ≡ Ok None
  pub in_contents : step_of (rules_of PresentLenient) call 4 ≡ Ok None
  pub at_checksum : step_of (rules_of PresentLenient) call 19 ≡ Ok None
  pub beyond : step_of (rules_of PresentLenient) call 20 ≡ Ok None
  -- call by call
  pub place_0 : place_at (rules_of PresentLenient) call 0 ≡ 2
  pub place_1 : place_at (rules_of PresentLenient) call 1 ≡ 12
  pub place_2 : place_at (rules_of PresentLenient) call 2 ≡ 19
  pub place_3 : place_at (rules_of PresentLenient) call 3 ≡ 19
  -- refusals at any place
  pub wrong_kind : step_of (rules_of PresentLenient) (0x81 ∷ []) 2 ≡ Err (noted 1 0)
  pub wrong_elsewhere : step_of (rules_of PresentLenient) (0x81 ∷ []) 0 ≡ Err (noted 1 0)
  pub too_short : step_of (rules_of PresentLenient) [] 2 ≡ Err (noted 8 0)
  -- by edition and way: what both editions have, and what the old one does not
  pub present_call : step_in 0 0 call 12 ≡ by 0 (given 0x02 14 5 19)
  pub old_call : step_in 1 1 call 12 ≡ by 1 (given 0x02 14 5 19)
  pub old_place : place_in 1 1 call 2 ≡ 19
  pub present_user : step_in 0 1 user 2 ≡ by 0 (given 0x16 4 1 5)
  pub old_user : step_in 1 0 user 2 ≡ by 1 (Err (noted_in 5 4 1))
  -- an unknown edition and an unknown way, whatever the octets and the place
  pub no_edition : step_in 2 1 call 2 ≡ by 0 (Err (noted 16 0))
  pub no_way : step_in 1 2 [] 7 ≡ by 0 (Err (noted 16 0))
  pub no_edition_place : place_in 2 1 call 2 ≡ 2

pub rows : Claim
unfolding ◌≤?◌ ◌=?◌ ◌and◌ ◌or◌ pick checksum within in_set whole digit ascii row_in row_of listed_in listed class_of rival_of type_fault rules_of class_fault some_length message_kind opens tens_fit ones_fit pair_at short_month days day_fits calendar_at calendar_keep column_at judge_of step run room_fits range_possible some_possible possible final fits contents after fault stands_in machine judged verdict_of parameter_at met walk_from step_under step_of steps.next_place place_at edition known book_of step_in place_in
rows = record {
  first = refl;
  second = refl;
  at_kind = refl;
  at_size = refl;
  in_header = refl;
  in_contents = refl;
  at_checksum = refl;
  beyond = refl;
  place_0 = refl;
  place_1 = refl;
  place_2 = refl;
  place_3 = refl;
  wrong_kind = refl;
  wrong_elsewhere = refl;
  too_short = refl;
  present_call = refl;
  old_call = refl;
  old_place = refl;
  present_user = refl;
  old_user = refl;
  no_edition = refl;
  no_way = refl;
  no_edition_place = refl;
}
