-- Captions computed: document 01's example message with directories of all kinds, a name, names and callers that do
-- not count, and refusals; then document 02's Q-5: the old edition, and an unknown one.
-- Assumes nothing.
use Rattle.rules.specs.First.{index_of}
use Rattle.caption.specs.Told.{Finding}
use Rattle.rules.specs.declared.Fault.{Fault}
use Rattle.std.specs.Prelude.{◌≡◌, refl, List, [], ◌∷◌, ℕ, Result, Err, Ok}
use Rattle.rules.specs.Tests.{◌≤?◌, ◌=?◌, ◌and◌, ◌or◌, pick}
use Rattle.rules.specs.Pairwise.{pairwise}
use Rattle.rules.specs.Octets.{checksum}
use Rattle.rules.specs.Contents.{within, in_set, digit, some_length, short_month, days}
use Rattle.rules.specs.Table.{ascii, rules_of, class_fault, row_in, row_of, listed_in, listed, class_of, rival_of, type_fault, whole}
use Rattle.rules.specs.declared.Book.TheVariants.{PresentLenient}
use Rattle.rules.specs.Editions.{edition, known, book_of}
use Rattle.rules.specs.Message.{message_kind}
use Rattle.rules.specs.ContentJudge.{opens, tens_fit, ones_fit, pair_at, day_fits, calendar_at, calendar_keep, column_at, judge_of}
use Rattle.rules.specs.Refusals.{noted, noted_in}
use Rattle.rules.specs.Machine.{step, run}
use Rattle.rules.specs.Judge.{room_fits, range_possible, some_possible, possible, final, fits, contents, after, fault, stands_in, machine}
use Rattle.message.specs.Verdict.{judged, verdict_of}
use Rattle.message.specs.Parts.{parameter_at, matched, search_from, counted_at}
use Rattle.caption.specs.declared.Shown.{Shown}
use Rattle.caption.specs.declared.Shown.TheVariants.{InMessage, InDirectory}
use Rattle.caption.specs.Lines.{on_first, lines_of, before, behind, names}
use Rattle.caption.specs.Caption.{lookup_from, by_entry, by_caller, by_name, find_under, find_of, find_in}

-- the caller 40912, from octet 14 on
abbrev call : List ℕ
call =
    0x80 ∷ 0x11 ∷ 0x01 ∷ 0x08 ∷ 0x30 ∷ 0x36 ∷ 0x31 ∷ 0x35 ∷ 0x31 ∷ 0x34 ∷ 0x33 ∷ 0x30 ∷ 0x02 ∷ 0x05 ∷ 0x34 ∷ 0x30 ∷ 0x39 ∷ 0x31 ∷ 0x32 ∷ 0xCB ∷ []

-- the name Ann and the caller 7; no name and then the name A; no caller and then the caller 7
abbrev named : List ℕ
named = 0x80 ∷ 0x08 ∷ 0x07 ∷ 0x03 ∷ 0x41 ∷ 0x6E ∷ 0x6E ∷ 0x02 ∷ 0x01 ∷ 0x37 ∷ 0x17 ∷ []

abbrev nameless : List ℕ
nameless = 0x80 ∷ 0x06 ∷ 0x08 ∷ 0x01 ∷ 0x4F ∷ 0x07 ∷ 0x01 ∷ 0x41 ∷ 0xD9 ∷ []

abbrev callerless : List ℕ
callerless = 0x80 ∷ 0x06 ∷ 0x04 ∷ 0x01 ∷ 0x50 ∷ 0x02 ∷ 0x01 ∷ 0x37 ∷ 0xEB ∷ []

abbrev by : ℕ → Result Shown Fault → Finding
by e r = record { edition = e; answer = r }

pub record Claim : Type 0 where
  -- the first line for the caller; a line that only begins with it, and one with no =, are passed over; further =
  -- belong to the text
  pub first_line : find_of (rules_of PresentLenient) call (ascii "409=A\n40912\n40912=B=C\n40912=D\n") ≡ Ok (InDirectory 18 3)
  -- the last line perhaps without 0AH; an empty text; 0DH is ordinary
  pub last_line : find_of (rules_of PresentLenient) call (ascii "1=A\n40912=B") ≡ Ok (InDirectory 10 1)
  pub empty_text : find_of (rules_of PresentLenient) call (ascii "40912=\n") ≡ Ok (InDirectory 6 0)
  pub ordinary : find_of (rules_of PresentLenient) call (ascii "40912=B\r\n") ≡ Ok (InDirectory 6 2)
  -- no line for it: the caller
  pub caller : find_of (rules_of PresentLenient) call (ascii "=40912\n409123=A\n0912=B\n\n") ≡ Ok (InMessage 14 5)
  pub no_directory : find_of (rules_of PresentLenient) call [] ≡ Ok (InMessage 14 5)
  -- the name comes before any line
  pub name : find_of (rules_of PresentLenient) named (ascii "7=A\n") ≡ Ok (InMessage 4 3)
  -- what does not count is no caption
  pub nothing : find_of (rules_of PresentLenient) nameless (ascii "A=B\n") ≡ Ok (InMessage 0 0)
  pub no_caller : find_of (rules_of PresentLenient) callerless (ascii "7=A\n") ≡ Ok (InMessage 0 0)
  pub wrong_kind : find_of (rules_of PresentLenient) (0x81 ∷ []) (ascii "7=A\n") ≡ Err (noted 1 0)
  pub too_short : find_of (rules_of PresentLenient) [] [] ≡ Err (noted 8 0)
  -- a wrong octet in the second parameter, behind a carried one (document 02, Q-3)
  pub second_wrong : find_of (rules_of PresentLenient)
      (0x80 ∷ 0x06 ∷ 0x05 ∷ 0x01 ∷ 0x00 ∷ 0x02 ∷ 0x01 ∷ 0x41 ∷ []) (ascii "7=A\n") ≡ Err (noted_in 5 7 2)
  -- by the old edition 08H silences no name, and 04H silences the caller; 08H is 10 where types without a row are
  -- refused
  pub old_name : find_in 1 1 nameless (ascii "A=B\n") ≡ by 1 (Ok (InMessage 7 1))
  pub present_name : find_in 0 1 nameless (ascii "A=B\n") ≡ by 0 (Ok (InMessage 0 0))
  pub old_no_caller : find_in 1 1 callerless (ascii "7=A\n") ≡ by 1 (Ok (InMessage 0 0))
  pub old_line : find_in 1 1 call (ascii "1=A\n40912=B") ≡ by 1 (Ok (InDirectory 10 1))
  pub old_strict : find_in 1 0 nameless (ascii "A=B\n") ≡ by 1 (Err (noted_in 10 2 1))
  -- an unknown edition, and an unknown way
  pub unknown_edition : find_in 2 1 named (ascii "7=A\n") ≡ by 0 (Err (noted 16 0))
  pub unknown_way : find_in 1 2 named (ascii "7=A\n") ≡ by 0 (Err (noted 16 0))

pub rows : Claim
unfolding ◌≤?◌ ◌=?◌ ◌and◌ ◌or◌ pick checksum within in_set whole digit ascii row_in row_of listed_in listed class_of rival_of type_fault rules_of class_fault some_length message_kind opens tens_fit ones_fit pair_at short_month days day_fits calendar_at calendar_keep column_at judge_of step run room_fits range_possible some_possible possible final fits contents after fault stands_in machine judged verdict_of parameter_at matched search_from counted_at on_first lines_of index_of before behind pairwise names lookup_from by_entry by_caller by_name find_under find_of edition known book_of find_in
rows = record {
  first_line = refl;
  last_line = refl;
  empty_text = refl;
  ordinary = refl;
  caller = refl;
  no_directory = refl;
  name = refl;
  nothing = refl;
  no_caller = refl;
  wrong_kind = refl;
  too_short = refl;
  second_wrong = refl;
  old_name = refl;
  present_name = refl;
  old_no_caller = refl;
  old_line = refl;
  old_strict = refl;
  unknown_edition = refl;
  unknown_way = refl;
}
