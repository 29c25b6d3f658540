-- Listings that come back, computed by the definitions (document 02, Q-1): document 01's example, each refusal, days
-- that do not exist (Q-2), and a listing for each style.
-- Assumes nothing.
use Rattle.std.specs.Prelude.{◌≡◌, ℕ, List, [], ◌∷◌, ◌++◌, replicate, refl, Result, Ok}
use Prim.Native.String.{String}
use Rattle.rules.specs.First.{index_of}
use Rattle.rules.specs.Tests.{◌or◌, ◌≤?◌, ◌=?◌, ◌and◌, pick}
use Rattle.rules.specs.Pairwise.{pairwise}
use Rattle.rules.specs.Contents.{within, in_set, digit, pair_fits, pairs_fit, short_month, days, month_of, columns_fit, all_in, head_fits}
use Rattle.rules.specs.Charge.{dash, comma, missing, units, run, amount, after, costs, charge_fits}
use Rattle.rules.specs.Terminal.{terminal_fits}
use Rattle.rules.specs.Extension.{blank, country_fits, extension_fits}
use Rattle.rules.specs.Table.{ascii, rules_of, row_in, row_of, class_of, rival_of, style_of, whole}
use Rattle.rules.specs.declared.Book.TheVariants.{PresentLenient}
use Rattle.rules.specs.Laying.{laid}
use Rattle.rules.specs.Octets.{total, checksum}
use Rattle.rules.specs.Message.{body, octets}
use Rattle.listing.specs.Numerals.{digits_by, decimal, hex_digit, hex, number_from, hex_value}
use Rattle.listing.specs.Listing.{half, seconds, coded, lamp_word, state_word, reference, currency, selector_word, selected, clock, identity, moment, duration, charge, terminal, display, printed, line_text, line_of, kind_line, carried_line, says_line}
use Rattle.writer.specs.Writing.{sized, unwritten}
use Rattle.relist.specs.Back.{hex_at, number_at, pairs_back, octets_back, one_back, switch_back, state_back, reference_back, moment_back, terminal_back, back_of, read_off, back}
use Rattle.relist.specs.Relist.{line_in, behind, value_in, row_contents, row_says, types_of, among, comes, taken, kind_in, closed, lined_in, message_for, relisted}
use Rattle.rules.specs.declared.Fault.{Fault}

-- a text, the room of the output, and the answer
pub record Example : Type 0 where
  pub text : List ℕ
  pub room : ℕ
  pub answer : Result ℕ Fault

unfoldable pub answers : List Example → List (Result ℕ Fault)
answers [] = []
answers (r ∷ rs) = relisted (rules_of PresentLenient) r.text r.room ∷ answers rs

unfoldable pub outcomes : List Example → List (Result ℕ Fault)
outcomes [] = []
outcomes (r ∷ rs) = r.answer ∷ outcomes rs

abbrev row : String → ℕ → Result ℕ Fault → Example
row t n w = record { text = ascii t; room = n; answer = w }

-- a display of 252 characters, and perhaps one line more
abbrev long : String → ℕ → Result ℕ Fault → Example
long t n w =
    record { text = ascii "kind=call\ndisplay=70 " ++ replicate 252 0x41 ++ ascii t; room = n; answer = w }

-- document 01's example
abbrev example : String
example = "kind=call\ntime=06-15 14:30\ncaller=40912\ncarried=0\n"

abbrev pub rows : List Example
rows =
    -- document 01's example, with just enough room and with one octet less
    row example 20 (Ok 20) ∷
    row example 19 (unwritten 15 20) ∷
    -- 255 octets of parameters, and three more, which are 62 in any room
    long "\ncarried=0\n" 258 (Ok 258) ∷
    long "\ncarried=0\n" 257 (unwritten 15 258) ∷
    long "\nservice=00\ncarried=0\n" 258 (unwritten 62 0) ∷
    long "\nservice=00\ncarried=0\n" 0 (unwritten 62 0) ∷
    long "\nservice=00\ncarried=1\n" 258 (unwritten 61 4) ∷
    -- line ends, and what stands behind the end
    row "" 258 (unwritten 61 1) ∷
    row "kind=notice" 258 (unwritten 61 1) ∷
    row "kind=notice\n" 258 (unwritten 61 2) ∷
    row "kind=notice\ncarried=0\n" 258 (unwritten 61 2) ∷
    row "kind=notice\nwaiting=2\n" 258 (unwritten 61 3) ∷
    row "kind=notice\nwaiting=2\ncarried=0" 258 (unwritten 61 3) ∷
    row "kind=notice\nwaiting=2\ncarried=0\n" 258 (Ok 6) ∷
    row "kind=notice\nwaiting=2\ncarried=0\n\n" 258 (unwritten 61 4) ∷
    -- key, value, order, repeat, pair
    row "refused=6\nat=5\nin=0\n" 258 (unwritten 61 1) ∷
    row "kind=notice\nwaiting=07\ncarried=0\n" 258 (unwritten 61 2) ∷
    row "kind=notice\nwaiting=256\ncarried=0\n" 258 (unwritten 61 2) ∷
    row "kind=notice\nlamp=on\nuser=0a\ncarried=0\n" 258 (unwritten 61 3) ∷
    row "kind=notice\nwaiting=2\nlamp=on\ncarried=0\n" 258 (unwritten 61 3) ∷
    row "kind=notice\nlamp=on\nlamp=on\ncarried=0\n" 258 (unwritten 61 3) ∷
    row "kind=call\ncaller=7\ncalled=1\ncaller-absent=P\ncarried=0\n" 258 (unwritten 61 4) ∷
    row "kind=notice\nlamp=on\ncarried=1\n" 258 (unwritten 61 3) ∷
    -- days that do not exist
    row "kind=call\ntime=04-31 00:00\ncarried=0\n" 258 (unwritten 61 2) ∷
    row "kind=call\ncaller=7\nleft-time=02-30 00:00\ncarried=0\n" 258 (unwritten 61 3) ∷
    row "kind=call\ntime=02-29 23:59\ncarried=0\n" 258 (Ok 13) ∷
    -- each style
    row "kind=notice\nlamp=off\nmessage=unset 65535\nleft-time=06-15 14:30:07\nforwarded=FF\nduration=99:59:59\ncarried=0\n" 258 (Ok 34) ∷
    row "kind=call\ncharge=FRF 00 0000023,45\nterminal=connection 07\nextension=33 CUPS1.0\ncarried=0\n" 258 (Ok 35) ∷
    row "kind=call\nterminal=subaddress 12\ndisplay=70 \nservice=80\ncarried=0\n" 258 (Ok 14) ∷
    []

pub record Claim : Type 0 where
  pub answered : answers rows ≡ outcomes rows
  -- the octets of the example are document 01's
  pub made : octets (message_for (rules_of PresentLenient) (ascii example)) ≡
      0x80 ∷ 0x11 ∷ 0x01 ∷ 0x08 ∷ 0x30 ∷ 0x36 ∷ 0x31 ∷ 0x35 ∷ 0x31 ∷ 0x34 ∷ 0x33 ∷ 0x30 ∷ 0x02 ∷ 0x05 ∷ 0x34 ∷ 0x30 ∷
      0x39 ∷ 0x31 ∷ 0x32 ∷ 0xCB ∷
      []

pub claim : Claim
unfolding ascii ◌≤?◌ ◌=?◌ ◌and◌ ◌or◌ pick index_of pairwise within in_set digit pair_fits pairs_fit short_month days month_of columns_fit all_in head_fits dash comma missing units run amount after costs charge_fits terminal_fits blank country_fits extension_fits rules_of row_in row_of class_of rival_of style_of whole body octets total checksum digits_by decimal hex_digit hex number_from hex_value half seconds coded lamp_word state_word reference currency selector_word selected clock identity moment duration charge terminal display printed line_text line_of kind_line carried_line says_line hex_at number_at pairs_back octets_back laid one_back switch_back state_back reference_back moment_back terminal_back back_of read_off back line_in behind value_in row_contents row_says types_of among comes taken kind_in sized closed lined_in message_for relisted answers outcomes
claim = record { answered = refl; made = refl }
