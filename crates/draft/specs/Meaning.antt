-- What the contents of a parameter say, for each kind of value (document 01, Drafts; document 02, Q-4): the numbers of
-- a date, a code, a state with a reference, a text, a carried text; the numbers of a date with its seconds, if they
-- were sent; those of a duration; a first octet and a text. Contents say a value, and a value is said by contents.
-- Assumes nothing.
use Rattle.std.specs.Prelude.{ℕ, zero, suc, ◌+◌, ◌*◌, ◌/◌, ◌%◌, Bool, List, [], ◌∷◌, length, drop, get_or}
use Rattle.rules.specs.Tests.{◌≤?◌, ◌=?◌, ◌or◌, pick}
use Rattle.rules.specs.Table.{Rules, class_of, form_of, form_number}
use Rattle.rules.specs.declared.Form.{Form}
use Rattle.rules.specs.declared.Form.TheVariants.{DateValue, CodeValue, StateValue, TextValue, CarriedValue, MomentValue, DurationValue, MarkedValue}
use Rattle.rules.specs.Octets.{reference_of}

-- values of the kind with this number have a text
unfoldable pub has_text : ℕ → Bool
has_text n = n =? form_number TextValue or n =? form_number CarriedValue or n =? form_number MarkedValue

-- the kind of a type's value: carried is the kind of every unlisted type and of no other
unfoldable pub kind_of : Rules → ℕ → Form
kind_of R t = form_of (class_of R t)

-- a value, with its text's octets
pub data Meaning : Type 0 where
  date_is : ℕ → ℕ → ℕ → ℕ → Meaning
  code_is : ℕ → Meaning
  state_is : ℕ → ℕ → Meaning
  text_is : List ℕ → Meaning
  carried_is : List ℕ → Meaning
  -- month, day, hour, minute, and the seconds + 1, or 0 where none were sent
  moment_is : ℕ → ℕ → ℕ → ℕ → ℕ → Meaning
  duration_is : ℕ → ℕ → ℕ → Meaning
  marked_is : ℕ → List ℕ → Meaning

unfoldable pub form_is : Meaning → Form
form_is (date_is m d h n) = DateValue
form_is (code_is x) = CodeValue
form_is (state_is s r) = StateValue
form_is (text_is v) = TextValue
form_is (carried_is v) = CarriedValue
form_is (moment_is m d h n s) = MomentValue
form_is (duration_is h m s) = DurationValue
form_is (marked_is x v) = MarkedValue

-- the text of a value
unfoldable pub text_in : Meaning → List ℕ
text_in (date_is m d h n) = []
text_in (code_is x) = []
text_in (state_is s r) = []
text_in (text_is v) = v
text_in (carried_is v) = v
text_in (moment_is m d h n s) = []
text_in (duration_is h m s) = []
text_in (marked_is x v) = v

-- ---- a value said by contents
unfoldable pub tens : ℕ → ℕ
tens n = 48 + n / 10

unfoldable pub ones : ℕ → ℕ
ones n = 48 + n % 10

-- two digits for each number of a date, and what is behind it
abbrev pub date_then : ℕ → ℕ → ℕ → ℕ → List ℕ → List ℕ
date_then m d h n v = tens m ∷ ones m ∷ tens d ∷ ones d ∷ tens h ∷ ones h ∷ tens n ∷ ones n ∷ v

-- two digits for the seconds; none where none were sent
unfoldable pub seconds_said : ℕ → List ℕ
seconds_said zero = []
seconds_said (suc s) = tens s ∷ ones s ∷ []

-- two digits for each number of a date; a code; a state and its reference, high octet first; a text as it is; two
-- digits for each number of a date with its seconds, and of a duration; a first octet and the text behind it
unfoldable pub spelled : Meaning → List ℕ
spelled (date_is m d h n) = date_then m d h n []
spelled (code_is x) = x ∷ []
spelled (state_is s r) = s ∷ r / 256 ∷ r % 256 ∷ []
spelled (text_is v) = v
spelled (carried_is v) = v
spelled (moment_is m d h n s) = date_then m d h n (seconds_said s)
spelled (duration_is h m s) = tens h ∷ ones h ∷ tens m ∷ ones m ∷ tens s ∷ ones s ∷ []
spelled (marked_is x v) = x ∷ v

-- ---- contents that say a value
-- the number of two digits: the low half of 30H to 39H is the digit
unfoldable pub number_of : ℕ → ℕ → ℕ
number_of a b = 10 * (a % 16) + b % 16

unfoldable pub digits_at : List ℕ → ℕ → ℕ
digits_at v i = number_of (get_or v i 0) (get_or v (suc i) 0)

-- the seconds + 1 behind the eight octets of a date; 0 where nothing is behind them
unfoldable pub seconds_of : List ℕ → ℕ
seconds_of v = pick (length v ≤? 8) 0 (suc (digits_at v 8))

unfoldable pub meant : Form → List ℕ → Meaning
meant DateValue v = date_is (digits_at v 0) (digits_at v 2) (digits_at v 4) (digits_at v 6)
meant CodeValue v = code_is (get_or v 0 0)
meant StateValue v = state_is (get_or v 0 0) (reference_of (get_or v 1 0) (get_or v 2 0))
meant TextValue v = text_is v
meant CarriedValue v = carried_is v
meant MomentValue v = moment_is (digits_at v 0) (digits_at v 2) (digits_at v 4) (digits_at v 6) (seconds_of v)
meant DurationValue v = duration_is (digits_at v 0) (digits_at v 2) (digits_at v 4)
meant MarkedValue v = marked_is (get_or v 0 0) (drop 1 v)
