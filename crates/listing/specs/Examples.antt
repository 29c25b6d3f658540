-- Document 01's example and rows as showmsg prints them, computed, as one claim, those of
-- document 02, Q-4, behind them; and the longest listing that is known, eleven octets shorter than the buffer.
-- Assumes nothing.
use Rattle.std.specs.Prelude.{ℕ, ◌≡◌, refl, List, [], ◌∷◌, ◌++◌, length, replicate}
use Prim.Native.String.{String}
use Rattle.rules.specs.Tests.{◌≤?◌, ◌=?◌, ◌and◌, ◌or◌, pick}
use Rattle.rules.specs.Octets.{total, checksum}
use Rattle.rules.specs.Contents.{within, in_set, digit, some_length, short_month, days}
use Rattle.rules.specs.Charge.{dash, comma, missing, units, amount_by, amount_keep, currency_by, flags_at, flags_keep, charge_by, charge_keep}
use Rattle.rules.specs.Terminal.{terminal_by, terminal_keep}
use Rattle.rules.specs.Extension.{blank, extension_by, extension_keep}
use Rattle.rules.specs.Table.{ascii, row_in, row_of, listed_in, listed, class_of, rival_of, type_fault, class_fault, style_of, rules_of, whole}
use Rattle.rules.specs.declared.Book.TheVariants.{PresentLenient}
use Rattle.rules.specs.Message.{Parameter, Message, body, octets, message_kind}
use Rattle.rules.specs.Counting.{first_of, counted, carried_in}
use Rattle.rules.specs.ContentJudge.{opens, tens_fit, ones_fit, pair_at, day_fits, calendar_at, calendar_keep, column_at, head_by, judge_of}
use Rattle.rules.specs.Machine.{step, run}
use Rattle.rules.specs.Judge.{room_fits, range_possible, some_possible, possible, final, fits, contents, after, fault, stands_in, machine}
use Rattle.message.specs.Verdict.{judged, verdict_of}
use Rattle.message.specs.Parts.{parameter_at}
use Rattle.message.specs.Parameters.{found, parameters_from, parameters_in, message_in}
use Rattle.listing.specs.Numerals.{digits_by, decimal, hex_digit, hex}
use Rattle.listing.specs.Listing as listing
use Rattle.listing.specs.Listing.{half, seconds, coded, lamp_word, state_word, reference, currency, selector_word, selected, clock, identity, moment, duration, charge, terminal, display, printed, line_text, written, line_of, lines_for, row_lines, kind_line, carried_line, message_lines, refusal_lines, listing_of}

-- octets, and what is printed of them
abbrev pub Example : Type 0
Example = List ℕ × String

-- what is printed of each
unfoldable pub listings : List Example → List (List ℕ)
listings [] = []
listings (r ∷ rs) = listing_of (rules_of PresentLenient) r.0 ∷ listings rs

-- what each row says
unfoldable pub texts : List Example → List (List ℕ)
texts [] = []
texts (r ∷ rs) = ascii r.1 ∷ texts rs

abbrev parameter : ℕ → List ℕ → Parameter
parameter t v = record { kind = t; contents = v }

abbrev call : List Parameter → Message
call ps = record { kind = 0x80; parameters = ps }

abbrev notice : List Parameter → Message
notice ps = record { kind = 0x82; parameters = ps }

-- a charge: currency, flags, ten octets
abbrev cost : String → ℕ → String → List ℕ
cost c f v = ascii c ++ f ∷ ascii v

abbrev pub rows : List Example
rows =
    (0x80 ∷ 0x11 ∷ 0x01 ∷ 0x08 ∷ 0x30 ∷ 0x36 ∷ 0x31 ∷ 0x35 ∷ 0x31 ∷ 0x34 ∷ 0x33 ∷ 0x30 ∷ 0x02 ∷ 0x05 ∷ 0x34 ∷ 0x30 ∷ 0x39 ∷ 0x31 ∷ 0x32 ∷ 0xCB ∷ [], "kind=call\ntime=06-15 14:30\ncaller=40912\ncarried=0\n") ∷
    ([], "refused=8\nat=0\nin=0\n") ∷
    (0x81 ∷ [], "refused=1\nat=0\nin=0\n") ∷
    (0x80 ∷ 0x02 ∷ [], "refused=2\nat=1\nin=0\n") ∷
    (0x80 ∷ 0x03 ∷ [], "refused=8\nat=2\nin=0\n") ∷
    (0x80 ∷ 0x0B ∷ 0x01 ∷ [], "refused=3\nat=2\nin=1\n") ∷
    (0x80 ∷ 0x17 ∷ 0x02 ∷ 0x15 ∷ [], "refused=4\nat=3\nin=1\n") ∷
    (0x80 ∷ 0x0A ∷ 0x01 ∷ 0x08 ∷ 0x31 ∷ 0x33 ∷ [], "refused=5\nat=5\nin=1\n") ∷
    (0x82 ∷ 0x03 ∷ 0x0B ∷ 0x01 ∷ 0x80 ∷ [], "refused=5\nat=4\nin=1\n") ∷
    (0x80 ∷ 0x06 ∷ 0x05 ∷ 0x01 ∷ 0x00 ∷ 0x02 ∷ 0x01 ∷ 0x41 ∷ [], "refused=5\nat=7\nin=2\n") ∷
    (0x82 ∷ 0x03 ∷ 0x0B ∷ 0x01 ∷ 0xFF ∷ 0x70 ∷ [], "kind=notice\nlamp=on\ncarried=0\n") ∷
    (0x82 ∷ 0x03 ∷ 0x0B ∷ 0x01 ∷ 0xFF ∷ 0x71 ∷ [], "refused=6\nat=5\nin=0\n") ∷
    (0x82 ∷ 0x03 ∷ 0x0B ∷ 0x01 ∷ 0xFF ∷ 0x70 ∷ 0x00 ∷ [], "refused=7\nat=6\nin=0\n") ∷
    (0x82 ∷ 0x03 ∷ 0x13 ∷ 0x01 ∷ 0x02 ∷ 0x65 ∷ [], "kind=notice\nwaiting=2\ncarried=0\n") ∷
    (0x82 ∷ 0x06 ∷ 0x13 ∷ 0x01 ∷ 0x02 ∷ 0x13 ∷ 0x01 ∷ 0x05 ∷ 0x49 ∷ [], "kind=notice\nwaiting=2\ncarried=0\n") ∷
    (0x80 ∷ 0x06 ∷ 0x04 ∷ 0x01 ∷ 0x50 ∷ 0x02 ∷ 0x01 ∷ 0x37 ∷ 0xEB ∷ [], "kind=call\ncaller-absent=P\ncarried=0\n") ∷
    -- a moment with its seconds; a duration
    (
      octets (call (parameter 0x23 (ascii "013005") ∷ parameter 0x0F (ascii "0615143007") ∷ [])),
      "kind=call\nleft-time=06-15 14:30:07\nduration=01:30:05\ncarried=0\n",
    ) ∷
    -- source 004, annex D: a cost; units alone, by its title; units and their price. Then nothing that was charged
    (
      octets (call (parameter 0x20 (cost "FRF" 0x00 "0000023,45") ∷ [])),
      "kind=call\ncharge=FRF 00 0000023,45\ncarried=0\n",
    ) ∷ (
      octets (call (parameter 0x21 (cost "---" 0x10 "00023-----") ∷ [])),
      "kind=call\nadditional-charge=--- 10 00023-----\ncarried=0\n",
    ) ∷ (
      octets (call (parameter 0x22 (cost "DEM" 0x10 "0007800,12") ∷ [])),
      "kind=call\nextra-charge=DEM 10 0007800,12\ncarried=0\n",
    ) ∷ (
      octets (call (parameter 0x20 (cost "---" 0x08 "----------") ∷ [])),
      "kind=call\ncharge=--- 08 ----------\ncarried=0\n",
    ) ∷
    -- octets as they are
    (
      octets (call (parameter 0x10 (ascii "40912") ∷ parameter 0x1A (ascii "*31#7") ∷ [])),
      "kind=call\nnetwork-caller=40912\nredirecting=*31#7\ncarried=0\n",
    ) ∷ (
      octets
          (call (parameter 0xE0 (ascii "33 CUPS1.0") ∷ parameter 0x31 (ascii "A B") ∷ parameter 0x30 (ascii "C") ∷ [])),
      "kind=call\nprovider=C\ncarrier=A B\nextension=33 CUPS1.0\ncarried=0\n",
    ) ∷
    -- a moment without seconds; a display without a text
    (
      octets (notice (parameter 0x50 (0x70 ∷ []) ∷ parameter 0x0F (ascii "06151430") ∷ [])),
      "kind=notice\nleft-time=06-15 14:30\ndisplay=70 \ncarried=0\n",
    ) ∷ (
      octets (notice (parameter 0x50 (0x01 ∷ ascii "Call ended") ∷ parameter 0x55 (0x80 ∷ []) ∷ [])),
      "kind=notice\ndisplay=01 Call ended\nservice=80\ncarried=0\n",
    ) ∷
    -- the three selections of a terminal, the first of two; a carried type
    (
      octets (call (parameter 0x40 (0x01 ∷ 0x07 ∷ []) ∷ parameter 0x40 (0x02 ∷ ascii "1") ∷ [])),
      "kind=call\nterminal=connection 07\ncarried=0\n",
    ) ∷
    (octets (call (parameter 0x40 (0x02 ∷ ascii "4711") ∷ [])), "kind=call\nterminal=number 4711\ncarried=0\n") ∷ (
      octets (call (parameter 0x40 (0x03 ∷ ascii "12") ∷ parameter 0x17 (0x00 ∷ []) ∷ [])),
      "kind=call\nterminal=subaddress 12\ncarried=1\n",
    ) ∷
    []

-- every row but `caller` and `name`, which the longer keys of their pairs shut out, each value with the surplus of its
-- style, and the 255 octets filled up with a text. A search over rows and lengths finds no longer listing (ten carried
-- parameters would cost 30 octets of text for one digit more); what is proved is that none exceeds the buffer (Longest)
abbrev long : Message
long =
    notice (
    parameter 0x01 (ascii "12312359") ∷
    parameter 0x03 (ascii "1") ∷
    parameter 0x04 (ascii "P") ∷
    parameter 0x08 (ascii "O") ∷
    parameter 0x0B (0x00 ∷ []) ∷
    parameter 0x0D (0x55 ∷ 0xFF ∷ 0xFF ∷ []) ∷
    parameter 0x0E (ascii "2") ∷
    parameter 0x0F (ascii "1231235959") ∷
    parameter 0x10 (ascii "3") ∷
    parameter 0x11 (0xFF ∷ []) ∷
    parameter 0x12 (ascii "4") ∷
    parameter 0x13 (0xFF ∷ []) ∷
    parameter 0x15 (0xFF ∷ []) ∷
    parameter 0x16 (0x0F ∷ []) ∷
    parameter 0x1A (ascii "5") ∷
    parameter 0x20 (cost "GBP" 0x00 "0000012,34") ∷
    parameter 0x21 (cost "GBP" 0x00 "0000012,34") ∷
    parameter 0x22 (cost "GBP" 0x00 "0000012,34") ∷
    parameter 0x23 (ascii "995959") ∷
    parameter 0x30 (ascii "A") ∷
    parameter 0x31 (ascii "B") ∷
    parameter 0x40 (0x01 ∷ 0x07 ∷ []) ∷
    parameter 0x50 (0x70 ∷ replicate 108 0x43) ∷
    parameter 0x55 (0xFF ∷ []) ∷
    parameter 0xE0 (ascii "1  ABCD123") ∷
    []
    )

pub record Claim : Type 0 where
  pub printed : listings rows ≡ texts rows
  pub longest : length (listing_of (rules_of PresentLenient) (octets long)) ≡ 542

pub examples : Claim
unfolding ascii ◌≤?◌ ◌=?◌ ◌and◌ ◌or◌ pick total checksum within in_set whole digit row_in row_of listed_in listed class_of rival_of type_fault class_fault some_length style_of rules_of body octets message_kind first_of counted carried_in opens tens_fit ones_fit pair_at short_month days day_fits calendar_at calendar_keep column_at head_by dash comma missing units amount_by amount_keep currency_by flags_at flags_keep charge_by charge_keep terminal_by terminal_keep blank extension_by extension_keep judge_of step run room_fits range_possible some_possible possible final fits contents after fault stands_in machine judged verdict_of parameter_at found parameters_from parameters_in message_in digits_by decimal hex_digit hex half seconds coded lamp_word state_word reference currency selector_word selected clock identity moment duration charge terminal display printed line_text written line_of lines_for row_lines kind_line carried_line message_lines refusal_lines listing.verdict_lines listing_of listings texts
examples = record { printed = refl; longest = refl }
