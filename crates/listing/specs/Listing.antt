-- The listing of any octets (document 01, What showmsg prints).
-- Assumes nothing.
use Rattle.std.specs.Prelude.{ℕ, ◌+◌, ◌-◌, ◌≡◌, refl, Bool, List, [], ◌∷◌, ◌++◌, length, get_or, drop, replicate, Result, Ok, Err}
use Rattle.std.proofs.Common.{sym, ◌∙◌, ap, append_assoc, append-nil}
use Rattle.std.proofs.Math.Option.{Option, none, some}
use Rattle.rules.specs.Tests.{◌=?◌, ◌and◌, pick}
use Rattle.rules.specs.Pairwise.{same_octets}
use Rattle.rules.specs.Table.{Rules, Row, Style, clock as clock_style, verbatim, switch, reference as reference_style, decimal as decimal_style, hex as hex_style, numbered, moment as moment_style, duration as duration_style, charge as charge_style, terminal as terminal_style, display as display_style, style_of, class_of, contents_fit, ascii, rules_of}
use Rattle.rules.specs.declared.Book.TheVariants.{PresentLenient}
use Rattle.rules.specs.Message.{Message}
use Rattle.rules.specs.Counting.{counted, carried_in}
use Rattle.rules.specs.declared.Fault.{Fault}
use Rattle.rules.specs.declared.Class.TheVariants.{Carried}
use Rattle.message.specs.Verdict.{verdict_of}
use Rattle.message.specs.Parts.{counted_at, part_of}
use Rattle.message.specs.Parameters.{parameters_in, message_in}
use Rattle.listing.specs.declared.ListingText.{ListingText}
use Rattle.listing.specs.Numerals.{decimal, hex}
use Rattle.rules.specs.Octets.{reference_of}

-- ---- pieces of values

-- two numbers of two digits, from the octet i on, with a mark between them
unfoldable pub half : List ℕ → ℕ → ℕ → List ℕ
half v i mark = get_or v i 0 ∷ get_or v (i + 1) 0 ∷ mark ∷ get_or v (i + 2) 0 ∷ get_or v (i + 3) 0 ∷ []

-- a colon and a number of two digits, from the octet i on
unfoldable pub seconds : List ℕ → ℕ → List ℕ
seconds v i = 0x3A ∷ get_or v i 0 ∷ get_or v (i + 1) 0 ∷ []

-- the octet i in hex, a space, and what stands behind it as it is
unfoldable pub coded : List ℕ → ℕ → List ℕ
coded v i = hex (get_or v i 0) ++ ascii " " ++ drop (i + 1) v

-- 00H is off, FFH is on
unfoldable pub lamp_word : ℕ → List ℕ
lamp_word x = pick (x =? 0) (ascii "off") (ascii "on")

-- a lamp's words, and 55H is unset
unfoldable pub state_word : ℕ → List ℕ
state_word x = pick (x =? 0x55) (ascii "unset") (lamp_word x)

-- two octets, the high one first
unfoldable pub reference : List ℕ → ℕ
reference v = reference_of (get_or v 1 0) (get_or v 2 0)

-- three octets as they are, and a space
unfoldable pub currency : List ℕ → List ℕ
currency v = get_or v 0 0 ∷ get_or v 1 0 ∷ get_or v 2 0 ∷ 0x20 ∷ []

-- what a terminal's function is selected by: 01H, 02H, 03H (source 004, 5.4.24)
unfoldable pub selector_word : ℕ → List ℕ
selector_word x = pick (x =? 1) (ascii "connection ") (pick (x =? 2) (ascii "number ") (ascii "subaddress "))

-- a connection type's code in hex, or digits as they are
unfoldable pub selected : List ℕ → List ℕ
selected v = pick (get_or v 0 0 =? 1) (hex (get_or v 1 0)) (drop 1 v)

-- ---- values, a text for each style that is no piece of its own; since document 02, Q-4, from `moment` on

-- MM-DD HH:MM
unfoldable pub clock : List ℕ → List ℕ
clock v = half v 0 0x2D ++ ascii " " ++ half v 4 0x3A

-- a state and its reference
unfoldable pub identity : List ℕ → List ℕ
identity v = state_word (get_or v 0 0) ++ ascii " " ++ decimal (reference v)

-- MM-DD HH:MM, and :SS where ten octets were sent
unfoldable pub moment : List ℕ → List ℕ
moment v = clock v ++ pick (length v =? 10) (seconds v 8) []

-- HH:MM:SS
unfoldable pub duration : List ℕ → List ℕ
duration v = half v 0 0x3A ++ seconds v 4

-- currency, flags and ten octets
unfoldable pub charge : List ℕ → List ℕ
charge v = currency v ++ coded v 3

-- a word, and a code or digits
unfoldable pub terminal : List ℕ → List ℕ
terminal v = selector_word (get_or v 0 0) ++ selected v

-- what the text is, and the text
unfoldable pub display : List ℕ → List ℕ
display v = coded v 0

-- what a style makes of contents
unfoldable pub printed : Style → List ℕ → List ℕ
printed clock_style v = clock v
printed verbatim v = v
printed switch v = lamp_word (get_or v 0 0)
printed reference_style v = identity v
printed decimal_style v = decimal (get_or v 0 0)
printed hex_style v = hex (get_or v 0 0)
printed numbered v = []
printed moment_style v = moment v
printed duration_style v = duration v
printed charge_style v = charge v
printed terminal_style v = terminal v
printed display_style v = display v

-- ---- lines

-- a line of a listing
pub record Line : Type 0 where
  pub key : List ℕ
  pub value : List ℕ

-- key=value, and the line end
unfoldable pub line_text : Line → List ℕ
line_text l = l.key ++ ascii "=" ++ l.value ++ ascii "\n"

-- line after line
unfoldable pub written : List Line → List ℕ
written [] = []
written (l ∷ ls) = line_text l ++ written ls

-- the line of a row with contents
unfoldable pub line_of : Rules → Row → List ℕ → Line
line_of R r v = record { key = r.key; value = printed (style_of (class_of R r.kind)) v }

-- the line of a row with contents that fit its class is this one
unfoldable pub says_line : Rules → Row → List ℕ → List ℕ → Bool
says_line R r v l = contents_fit (class_of R r.kind) v and same_octets (line_text (line_of R r v)) l

-- of contents that count one line, and none where nothing counts
unfoldable pub lines_for : Rules → Row → Option (List ℕ) → List Line
lines_for R r none = []
lines_for R r (some v) = line_of R r v ∷ []

-- the lines of some rows, in their order
unfoldable pub row_lines : Rules → Message → List Row → List Line
row_lines R m [] = []
row_lines R m (r ∷ rs) = lines_for R r (counted R m r.kind) ++ row_lines R m rs

-- 80H is a call message, 82H a notice
unfoldable pub kind_line : ℕ → Line
kind_line x = record { key = ascii "kind"; value = pick (x =? 0x80) (ascii "call") (ascii "notice") }

-- how many parameters are carried
unfoldable pub carried_line : ℕ → Line
carried_line n = record { key = ascii "carried"; value = decimal n }

-- the kind, what counts in the order of the rows, and the number of carried parameters
unfoldable pub message_lines : Rules → Message → List Line
message_lines R m = kind_line m.kind ∷ (row_lines R m R.rows ++ carried_line (carried_in R m.parameters) ∷ [])

-- number, place and parameter of a refusal (document 02, Q-3)
unfoldable pub refusal_lines : Fault → List Line
refusal_lines f =
    (record { key = ascii "refused"; value = decimal f.number })
    ∷ (record { key = ascii "at"; value = decimal f.place })
    ∷ (record { key = ascii "in"; value = decimal f.parameter })
    ∷ []

-- an accepted message has its lines, and a refusal its three
unfoldable pub verdict_lines : Rules → List ℕ → Result ℕ Fault → List Line
verdict_lines R o (Ok n) = message_lines R (message_in o)
verdict_lines R o (Err f) = refusal_lines f

-- what showmsg prints of octets
unfoldable pub listing_of : Rules → List ℕ → List ℕ
listing_of R o = written (verdict_lines R o (verdict_of R o))

-- no listing is longer (Longest)
abbrev pub buffer_size : ℕ
buffer_size = 553

-- a listing in its buffer, zeros behind it
unfoldable pub buffer_of : List ℕ → ListingText
buffer_of v = record { octets = v ++ replicate (buffer_size - length v) 0; length = length v }

-- ---- for the code: the same from the octets, row by row

-- the row of document 01 with a number, from 0, or one that says nothing
abbrev pub no_row : Row
no_row = record { kind = 0; class = Carried; rival = 0; key = [] }

unfoldable pub row_at : ℕ → Row
row_at i = get_or (rules_of PresentLenient).rows i no_row

abbrev pub row_count : ℕ
row_count = 27

pub row_count_lem : length (rules_of PresentLenient).rows ≡ row_count
unfolding rules_of
row_count_lem = refl

-- its line, from where its contents stand
unfoldable pub part_lines : Rules → List ℕ → Row → List Line
part_lines R o r = lines_for R r (part_of o (counted_at R o r.kind))

-- the lines of some rows
unfoldable pub rows_at : Rules → List ℕ → List Row → List Line
rows_at R o [] = []
rows_at R o (r ∷ rs) = part_lines R o r ++ rows_at R o rs

-- the lines of a message's octets
unfoldable pub lines_at : Rules → List ℕ → List Line
lines_at R o = kind_line (get_or o 0 0) ∷ (rows_at R o R.rows ++ carried_line (carried_in R (parameters_in o)) ∷ [])

-- a line of a number, its key with the `=`
unfoldable pub number_line : List ℕ → ℕ → List ℕ
number_line k n = k ++ decimal n ++ ascii "\n"

-- ---- lines together
pub written_one : (l : Line) → written (l ∷ []) ≡ line_text l
unfolding written
written_one l = append-nil (line_text l)

pub written-append : (a b : List Line) → written (a ++ b) ≡ written a ++ written b
unfolding written
written-append [] b = refl
written-append (l ∷ a) b =
    ap (λ (v : List ℕ). line_text l ++ v) (written-append a b) ∙ sym (append_assoc (line_text l) (written a) (written b))
