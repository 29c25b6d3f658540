-- The tables of the present edition (document 01, The message; document 02, Q-4; source 004) and of the old one
-- (document 02, Q-5; source 001): for each parameter type its class of contents, the other type of its pair and its
-- key in a listing; for each class its contents, its kind of value in a draft and its style in a listing. A set of
-- rules is such a table.
-- Assumes nothing.
use Rattle.rules.specs.Tests.{◌=?◌, ◌or◌, pick}
use Rattle.rules.specs.Contents.{Range, in_set, some_length, Whole, only, pairs, calendar, calendar_or, columns, text, headed}
use Rattle.rules.specs.Charge.{charge_fits}
use Rattle.rules.specs.Terminal.{terminal_fits}
use Rattle.rules.specs.Extension.{extension_fits}
use Rattle.std.specs.Prelude.{ℕ, Bool, true, false, List, [], ◌∷◌}
use Prim.Native.String.{String, [] as nil, ◌∷◌ as ◌then◌}
use Prim.Native.Char as char
use Rattle.rules.specs.declared.Form.{Form}
use Rattle.rules.specs.declared.Form.TheVariants.{DateValue, CodeValue, StateValue, TextValue, CarriedValue, MomentValue, DurationValue, MarkedValue}
use Rattle.rules.specs.declared.Class.{Class}
use Rattle.rules.specs.declared.Class.TheVariants.{Carried, Date, Number, Absent, Name, Lamp, Identity, CallType, Waiting, Forwarded, User, ShortText, Moment, Charge, Duration, Terminal, Display, Service, Extension, OldNumber, OldForwarded, OldUser, Unlisted}
use Rattle.rules.specs.declared.Book.{Book}
use Rattle.rules.specs.declared.Book.TheVariants.{PresentStrict, PresentLenient, OldStrict, OldLenient}

-- the octets of a word of ours
unfoldable pub ascii : String → List ℕ
ascii nil = []
ascii (c then s) = char.code c ∷ ascii s

-- a parameter type; its class; the type that shuts it out where it stands earlier (itself, if it is no half of a
-- pair); its key
pub record Row : Type 0 where
  pub kind : ℕ
  pub class : Class
  pub rival : ℕ
  pub key : List ℕ

-- the edition's number (document 02, Q-5: 0 the present one, 1 the old one), the types that have a row; the class of
-- all others
pub record Rules : Type 0 where
  pub edition : ℕ
  pub rows : List Row
  pub others : Class

-- ---- the contents of each class
-- hour, minute
abbrev pub time_ranges : List Range
time_ranges = (0, 23) ∷ (0, 59) ∷ []

-- second
abbrev pub second_range : Range
second_range = (0, 59)

-- hour up to 99, minute, second
abbrev pub duration_ranges : List Range
duration_ranges = (0, 99) ∷ (0, 59) ∷ second_range ∷ []

abbrev pub any_octet : List Range
any_octet = (0, 255) ∷ []

-- 0-9, *, #, space, -, (, )
abbrev pub number_set : List Range
number_set = (0x30, 0x39) ∷ (0x2A, 0x2A) ∷ (0x23, 0x23) ∷ (0x20, 0x20) ∷ (0x2D, 0x2D) ∷ (0x28, 0x29) ∷ []

abbrev pub name_set : List Range
name_set = (0x20, 0x7E) ∷ []

-- "O" or "P"
abbrev pub absent_set : List Range
absent_set = (0x4F, 0x50) ∷ []

-- off, on
abbrev pub lamp_set : List Range
lamp_set = (0x00, 0x00) ∷ (0xFF, 0xFF) ∷ []

-- off, unset, on
abbrev pub identity_set : List Range
identity_set = (0x00, 0x00) ∷ (0x55, 0x55) ∷ (0xFF, 0xFF) ∷ []

abbrev pub call_type_set : List Range
call_type_set = (0x01, 0x07) ∷ (0x10, 0x11) ∷ (0x50, 0x51) ∷ (0x81, 0xFF) ∷ []

abbrev pub forwarded_set : List Range
forwarded_set = (0x00, 0x06) ∷ (0x80, 0xFF) ∷ []

abbrev pub user_set : List Range
user_set = (0x00, 0x0F) ∷ []

-- what a display text is, without and with bit 8, stored information (source 004, 5.4.25)
abbrev pub display_set : List Range
display_set =
    (0x00, 0x01) ∷ (0x03, 0x06) ∷ (0x70, 0x7F) ∷ (0x80, 0x81) ∷ (0x83, 0x86) ∷ (0xF0, 0xFF) ∷ []

-- not active, active, and what operators use (source 004, 5.4.26)
abbrev pub service_set : List Range
service_set = (0x00, 0x01) ∷ (0x80, 0xFF) ∷ []

-- the nine values of source 001
abbrev pub old_user_set : List Range
old_user_set = (0x00, 0x00) ∷ (0x03, 0x05) ∷ (0x0A, 0x0D) ∷ (0x0F, 0x0F) ∷ []

abbrev pub old_number_set : List Range
old_number_set = (0x30, 0x39) ∷ []

abbrev pub old_forwarded_set : List Range
old_forwarded_set = (0x00, 0x06) ∷ []

-- a class means the same in every set of rules
unfoldable pub whole : Class → Whole
whole Date = calendar time_ranges
whole Number = text ((1, 20) ∷ []) number_set
whole Absent = columns (absent_set ∷ [])
whole Name = text ((1, 50) ∷ []) name_set
whole Lamp = columns (lamp_set ∷ [])
whole Identity = columns (identity_set ∷ any_octet ∷ any_octet ∷ [])
whole CallType = columns (call_type_set ∷ [])
whole Waiting = columns (any_octet ∷ [])
whole Forwarded = columns (forwarded_set ∷ [])
whole User = columns (user_set ∷ [])
whole Carried = text ((1, 253) ∷ []) any_octet
whole ShortText = text ((1, 20) ∷ []) name_set
whole Moment = calendar_or time_ranges second_range
whole Charge = record { lengths = only 14; fits = charge_fits }
whole Duration = pairs duration_ranges
whole Terminal = record { lengths = (2, 21) ∷ []; fits = terminal_fits number_set }
whole Display = headed ((1, 253) ∷ []) display_set name_set
whole Service = columns (service_set ∷ [])
whole Extension = record { lengths = only 10; fits = extension_fits name_set }
whole OldNumber = text ((1, 18) ∷ []) old_number_set
whole OldForwarded = columns (old_forwarded_set ∷ [])
whole OldUser = columns (old_user_set ∷ [])
whole Unlisted = text ((1, 0) ∷ []) any_octet

-- contents of a length that the class has
abbrev pub length_fits : Class → ℕ → Bool
length_fits c n = in_set (whole c).lengths n

abbrev pub contents_fit : Class → List ℕ → Bool
contents_fit c v = (whole c).fits v

-- the row of a type, or the one given
unfoldable pub row_in : Row → List Row → ℕ → Row
row_in d [] t = d
row_in d (r ∷ rs) t = pick (t =? r.kind) r (row_in d rs t)

-- that of a type without one
abbrev pub plain_row : ℕ → Class → Row
plain_row t c = record { kind = t; class = c; rival = t; key = [] }

unfoldable pub row_of : Rules → ℕ → Row
row_of R t = row_in (plain_row t R.others) R.rows t

unfoldable pub listed_in : List Row → ℕ → Bool
listed_in [] t = false
listed_in (r ∷ rs) t = t =? r.kind or listed_in rs t

-- a type has a row; one that has none is carried, or refused
unfoldable pub listed : Rules → ℕ → Bool
listed R t = listed_in R.rows t

unfoldable pub class_of : Rules → ℕ → Class
class_of R t = (row_of R t).class

unfoldable pub rival_of : Rules → ℕ → ℕ
rival_of R t = (row_of R t).rival

-- the classes of rows
unfoldable pub rowed : Class → Bool
rowed Carried = false
rowed Unlisted = false
rowed c = true

-- the number given to a type that cannot stand in its room: 3, and 10 where its class has no length at all (document
-- 02, Q-11)
unfoldable pub class_fault : Class → ℕ
class_fault c = pick (some_length (whole c).lengths) 3 10

unfoldable pub type_fault : Rules → ℕ → ℕ
type_fault R t = class_fault (class_of R t)

-- ---- the present edition's rows, in the order of a listing: that of their types
abbrev pub row : ℕ → Class → String → Row
row t c k = record { kind = t; class = c; rival = t; key = ascii k }

abbrev pub pair_row : ℕ → Class → ℕ → String → Row
pair_row t c u k = record { kind = t; class = c; rival = u; key = ascii k }

abbrev pub rows01 : List Row
rows01 =
    row 0x01 Date "time" ∷
    pair_row 0x02 Number 0x04 "caller" ∷
    row 0x03 Number "called" ∷
    pair_row 0x04 Absent 0x02 "caller-absent" ∷
    pair_row 0x07 Name 0x08 "name" ∷
    pair_row 0x08 Absent 0x07 "name-absent" ∷
    row 0x0B Lamp "lamp" ∷
    row 0x0D Identity "message" ∷
    row 0x0E Number "depositor" ∷
    row 0x0F Moment "left-time" ∷
    row 0x10 Number "network-caller" ∷
    row 0x11 CallType "call-type" ∷
    row 0x12 Number "first-called" ∷
    row 0x13 Waiting "waiting" ∷
    row 0x15 Forwarded "forwarded" ∷
    row 0x16 User "user" ∷
    row 0x1A Number "redirecting" ∷
    row 0x20 Charge "charge" ∷
    row 0x21 Charge "additional-charge" ∷
    row 0x22 Charge "extra-charge" ∷
    row 0x23 Duration "duration" ∷
    row 0x30 ShortText "provider" ∷
    row 0x31 ShortText "carrier" ∷
    row 0x40 Terminal "terminal" ∷
    row 0x50 Display "display" ∷
    row 0x55 Service "service" ∷
    row 0xE0 Extension "extension" ∷
    []

-- ---- what a draft holds of a class (Drafts; document 02, Q-4): the numbers of a date, a code, a state with a
-- reference, a text, a carried text; those of a date with its seconds, if they were sent; those of a duration; a first
-- octet with a text
unfoldable pub form_of : Class → Form
form_of Date = DateValue
form_of Number = TextValue
form_of Absent = CodeValue
form_of Name = TextValue
form_of Lamp = CodeValue
form_of Identity = StateValue
form_of CallType = CodeValue
form_of Waiting = CodeValue
form_of Forwarded = CodeValue
form_of User = CodeValue
form_of Carried = CarriedValue
form_of ShortText = TextValue
form_of Moment = MomentValue
form_of Charge = TextValue
form_of Duration = DurationValue
form_of Terminal = MarkedValue
form_of Display = MarkedValue
form_of Service = CodeValue
form_of Extension = TextValue
form_of OldNumber = TextValue
form_of OldForwarded = CodeValue
form_of OldUser = CodeValue
form_of Unlisted = CarriedValue

-- the number of a kind of value: 0 a code, 1 a date, 2 a state with a reference, 3 a text, 4 a carried text, 5 a date
-- perhaps with seconds, 6 a duration, 7 a first octet with a text
unfoldable pub form_number : Form → ℕ
form_number CodeValue = 0
form_number DateValue = 1
form_number StateValue = 2
form_number TextValue = 3
form_number CarriedValue = 4
form_number MomentValue = 5
form_number DurationValue = 6
form_number MarkedValue = 7

-- ---- how a listing prints a class (What showmsg prints): MM-DD HH:MM; the octets as they are; off or on; a state
-- and its reference; a number in decimal; two hex digits; not at all, but numbered. Since document 02, Q-4: MM-DD HH:MM
-- and perhaps :SS; HH:MM:SS; a charge's currency, flags and octets; what a terminal is selected by; hex digits and a
-- text
pub data Style : Type 0 where
  clock : Style
  verbatim : Style
  switch : Style
  reference : Style
  decimal : Style
  hex : Style
  numbered : Style
  moment : Style
  duration : Style
  charge : Style
  terminal : Style
  display : Style

unfoldable pub style_of : Class → Style
style_of Date = clock
style_of Number = verbatim
style_of Absent = verbatim
style_of Name = verbatim
style_of Lamp = switch
style_of Identity = reference
style_of CallType = hex
style_of Waiting = decimal
style_of Forwarded = hex
style_of User = hex
style_of Carried = numbered
style_of ShortText = verbatim
style_of Moment = moment
style_of Charge = charge
style_of Duration = duration
style_of Terminal = terminal
style_of Display = display
style_of Service = hex
style_of Extension = verbatim
style_of OldNumber = verbatim
style_of OldForwarded = hex
style_of OldUser = hex
style_of Unlisted = numbered

-- ---- the old edition's rows: the eight types of source 001, and the one pair (document 02, Q-5)
abbrev pub rows_old : List Row
rows_old =
    row 0x01 Date "time" ∷
    pair_row 0x02 OldNumber 0x04 "caller" ∷
    pair_row 0x04 Absent 0x02 "caller-absent" ∷
    row 0x07 ShortText "name" ∷
    row 0x0B Lamp "lamp" ∷
    row 0x12 OldNumber "first-called" ∷
    row 0x15 OldForwarded "forwarded" ∷
    row 0x16 OldUser "user" ∷
    []

-- ---- the sets of rules: all other types are carried, or in the strict way refused (document 02, Q-11)
unfoldable pub rules_of : Book → Rules
rules_of PresentStrict = record { edition = 0; rows = rows01; others = Unlisted }
rules_of PresentLenient = record { edition = 0; rows = rows01; others = Carried }
rules_of OldStrict = record { edition = 1; rows = rows_old; others = Unlisted }
rules_of OldLenient = record { edition = 1; rows = rows_old; others = Carried }

-- the books of the old edition
unfoldable pub old_book : Book → Bool
old_book PresentStrict = false
old_book PresentLenient = false
old_book OldStrict = true
old_book OldLenient = true
