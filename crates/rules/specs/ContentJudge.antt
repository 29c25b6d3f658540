-- The judge of single content octets: whether octet x may stand at index i of n where m is remembered, and what is
-- remembered then; one for each class. What is remembered is a code, the tens digit of a pair or the days that are
-- left of a month, and never an octet for its own sake.
-- Assumes nothing.
use Rattle.std.specs.Prelude.{ℕ, zero, suc, ◌+◌, ◌*◌, ◌-◌, Bool, true, List, [], ◌∷◌, ◌++◌, length}
use Rattle.rules.specs.Tests.{◌≤?◌, ◌and◌, ◌or◌, pick}
use Rattle.rules.specs.Contents.{Range, within, in_set, digit, letter, days}
use Rattle.rules.specs.Charge.{charge_by, charge_keep}
use Rattle.rules.specs.Terminal.{terminal_by, terminal_keep}
use Rattle.rules.specs.Extension.{extension_by, extension_keep}
use Rattle.rules.specs.Table.{time_ranges, second_range, duration_ranges, display_set, service_set, number_set, absent_set, name_set, lamp_set, identity_set, any_octet, call_type_set, forwarded_set, user_set, old_number_set, old_forwarded_set, old_user_set}
use Rattle.rules.specs.declared.Class.{Class}
use Rattle.rules.specs.declared.Class.TheVariants.{Carried, Date, Number, Absent, Name, Lamp, Identity, CallType, Waiting, Forwarded, User, ShortText, Moment, Charge, Duration, Terminal, Display, Service, Extension, OldNumber, OldForwarded, OldUser, Unlisted}

-- of n octets, at index i, where m is remembered, for octet x
pub record Judge : Type 0 where
  pub ok : ℕ → ℕ → ℕ → ℕ → Bool
  pub keep : ℕ → ℕ → ℕ → ℕ → ℕ

-- octet after octet
unfoldable pub passes : Judge → ℕ → ℕ → ℕ → List ℕ → Bool
passes j n i m [] = true
passes j n i m (x ∷ v) = j.ok n i m x and passes j n (suc i) (j.keep n i m x) v

-- how many octets there are before the first that may not stand; all, where each may
unfoldable pub passing : Judge → ℕ → ℕ → ℕ → List ℕ → ℕ
passing j n i m [] = 0
passing j n i m (x ∷ v) = pick (j.ok n i m x) (suc (passing j n (suc i) (j.keep n i m x) v)) 0

-- ---- the judges of the builders
-- some number of the range has the tens m
unfoldable pub opens : Range → ℕ → Bool
opens r m = r.0 ≤? 10 * m + 9 and 10 * m ≤? r.1

-- a digit, where d says that x is one, with which some number of the range begins
abbrev pub tens_by : Bool → Range → ℕ → Bool
tens_by d r x = d and opens r (x - 48)

-- a digit that makes a number of the range with the tens m
abbrev pub ones_by : Bool → Range → ℕ → ℕ → Bool
ones_by d r m x = d and within r (10 * m + (x - 48))

unfoldable pub tens_fit : Range → ℕ → Bool
tens_fit r x = tens_by (digit x) r x

unfoldable pub ones_fit : Range → ℕ → ℕ → Bool
ones_fit r m x = ones_by (digit x) r m x

unfoldable pub pair_at : List Range → ℕ → ℕ → ℕ → Bool
pair_at [] i m x = x ≤? 255
pair_at (r ∷ rs) zero m x = tens_fit r x
pair_at (r ∷ rs) (suc zero) m x = ones_fit r m x
pair_at (r ∷ rs) (suc (suc i)) m x = pair_at rs i m x

-- how many of the two digits for a number out of the range may stand
unfoldable pub pair_stands : Range → List ℕ → ℕ
pair_stands r [] = 0
pair_stands r (a ∷ []) = pick (tens_fit r a) 1 0
pair_stands r (a ∷ b ∷ v) = pick (tens_fit r a) (pick (ones_fit r (a - 48) b) 2 1) 0

-- the tens are remembered
abbrev pub pairs_judge : List Range → Judge
pairs_judge rs = record { ok = λ n i m x. pair_at rs i m x; keep = λ n i m x. x - 48 }

-- a digit that makes a day of the m that are left from the tens on; more than 21 are left only after the tens 0, where
-- 0 makes none
abbrev pub day_by : Bool → ℕ → ℕ → Bool
day_by d m x = d and (x - 48 ≤? m and (m ≤? 21 or 49 ≤? x))

unfoldable pub day_fits : ℕ → ℕ → Bool
day_fits m x = day_by (digit x) m x

-- the tens of the month are remembered; then its days; then those that are left from the tens on; then nothing of it
unfoldable pub calendar_at : List Range → ℕ → ℕ → ℕ → Bool
calendar_at rs zero m x = tens_fit (1, 12) x
calendar_at rs (suc zero) m x = ones_fit (1, 12) m x
calendar_at rs (suc (suc zero)) m x = tens_fit (1, m) x
calendar_at rs (suc (suc (suc zero))) m x = day_fits m x
calendar_at rs (suc (suc (suc (suc i)))) m x = pair_at rs i m x

unfoldable pub calendar_keep : ℕ → ℕ → ℕ → ℕ
calendar_keep zero m x = x - 48
calendar_keep (suc zero) m x = days (10 * m + (x - 48))
calendar_keep (suc (suc zero)) m x = m - 10 * (x - 48)
calendar_keep (suc (suc (suc i))) m x = x - 48

abbrev pub calendar_judge : List Range → Judge
calendar_judge rs = record { ok = λ n i m x. calendar_at rs i m x; keep = λ n i m x. calendar_keep i m x }

unfoldable pub column_at : List (List Range) → ℕ → ℕ → Bool
column_at [] i x = x ≤? 255
column_at (s ∷ ss) zero x = in_set s x
column_at (s ∷ ss) (suc i) x = column_at ss i x

abbrev pub columns_judge : List (List Range) → Judge
columns_judge ss = record { ok = λ n i m x. column_at ss i x; keep = λ n i m x. 0 }

abbrev pub text_judge : List Range → Judge
text_judge s = record { ok = λ n i m x. in_set s x; keep = λ n i m x. 0 }

-- an octet out of the one set, then octets that d says to be out of the other
unfoldable pub head_by : Bool → List Range → ℕ → ℕ → Bool
head_by d h zero x = in_set h x
head_by d h (suc i) x = d

abbrev pub headed_judge : List Range → List Range → Judge
headed_judge h s = record { ok = λ n i m x. head_by (in_set s x) h i x; keep = λ n i m x. 0 }

-- ---- judges of their own
abbrev pub charge_judge : Judge
charge_judge =
    record { ok = λ n i m x. charge_by (digit x) (letter x) i m x; keep = λ n i m x. charge_keep i m x }

abbrev pub terminal_judge : List Range → Judge
terminal_judge s =
    record { ok = λ n i m x. terminal_by (in_set s x) n i m x; keep = λ n i m x. terminal_keep i m x }

abbrev pub extension_judge : List Range → Judge
extension_judge s =
    record { ok = λ n i m x. extension_by (digit x) (in_set s x) i m x; keep = λ n i m x. extension_keep i x }

-- ---- the judge of each class
unfoldable pub judge_of : Class → Judge
judge_of Date = calendar_judge time_ranges
judge_of Number = text_judge number_set
judge_of Absent = columns_judge (absent_set ∷ [])
judge_of Name = text_judge name_set
judge_of Lamp = columns_judge (lamp_set ∷ [])
judge_of Identity = columns_judge (identity_set ∷ any_octet ∷ any_octet ∷ [])
judge_of CallType = columns_judge (call_type_set ∷ [])
judge_of Waiting = columns_judge (any_octet ∷ [])
judge_of Forwarded = columns_judge (forwarded_set ∷ [])
judge_of User = columns_judge (user_set ∷ [])
judge_of Carried = text_judge any_octet
judge_of ShortText = text_judge name_set
judge_of Moment = calendar_judge (time_ranges ++ second_range ∷ [])
judge_of Charge = charge_judge
judge_of Duration = pairs_judge duration_ranges
judge_of Terminal = terminal_judge number_set
judge_of Display = headed_judge display_set name_set
judge_of Service = columns_judge (service_set ∷ [])
judge_of Extension = extension_judge name_set
judge_of OldNumber = text_judge old_number_set
judge_of OldForwarded = columns_judge (old_forwarded_set ∷ [])
judge_of OldUser = columns_judge (old_user_set ∷ [])
judge_of Unlisted = text_judge any_octet

abbrev pub ok_at : Class → ℕ → ℕ → ℕ → ℕ → Bool
ok_at c n i m x = (judge_of c).ok n i m x

abbrev pub remember : Class → ℕ → ℕ → ℕ → ℕ → ℕ
remember c n i m x = (judge_of c).keep n i m x

abbrev pub fits_from : Class → ℕ → ℕ → ℕ → List ℕ → Bool
fits_from c n i m v = passes (judge_of c) n i m v

-- of contents as a whole, how many octets from the first on may stand where they stand
abbrev pub good_front : Class → List ℕ → ℕ
good_front c v = passing (judge_of c) (length v) 0 0 v
