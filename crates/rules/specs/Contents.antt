-- What the contents of a parameter may be (document 01, The message; of a date, document 02, Q-2; document 02, Q-4). A
-- class of contents is the lengths that they have and a rule over whole contents; six builders make such classes.
-- Assumes nothing.
use Rattle.rules.specs.Tests.{◌≤?◌, ◌=?◌, ◌and◌, ◌or◌, pick}
use Rattle.std.specs.Prelude.{ℕ, suc, ◌+◌, ◌*◌, ◌-◌, Bool, true, false, List, [], ◌∷◌, ◌++◌, length, get_or}

-- the numbers from the first to the second
abbrev pub Range : Type 0
Range = ℕ × ℕ

unfoldable pub within : Range → ℕ → Bool
within r x = r.0 ≤? x and x ≤? r.1

-- in one of some ranges
unfoldable pub in_set : List Range → ℕ → Bool
in_set [] x = false
in_set (r ∷ s) x = within r x or in_set s x

-- a class of contents: the lengths that its contents have, and which contents fit
pub record Whole : Type 0 where
  pub lengths : List Range
  pub fits : List ℕ → Bool

abbrev pub only : ℕ → List Range
only n = (n, n) ∷ []

-- one of some ranges has a number
unfoldable pub some_length : List Range → Bool
some_length [] = false
some_length (r ∷ s) = r.0 ≤? r.1 or some_length s

-- 0 to 9
unfoldable pub digit : ℕ → Bool
digit x = within (48, 57) x

-- A to Z
abbrev pub letter : ℕ → Bool
letter x = within (0x41, 0x5A) x

-- two digits that make a number of the range
unfoldable pub pair_fits : Range → ℕ → ℕ → Bool
pair_fits r a b = digit a and (digit b and within r (10 * (a - 48) + (b - 48)))

unfoldable pub pairs_fit : List Range → List ℕ → Bool
pairs_fit [] [] = true
pairs_fit [] (x ∷ v) = false
pairs_fit (r ∷ rs) [] = false
pairs_fit (r ∷ rs) (a ∷ []) = false
pairs_fit (r ∷ rs) (a ∷ b ∷ v) = pair_fits r a b and pairs_fit rs v

-- two digits for a number out of each range
abbrev pub pairs : List Range → Whole
pairs rs = record { lengths = only (2 * length rs); fits = pairs_fit rs }

-- April, June, September or November
unfoldable pub short_month : ℕ → Bool
short_month m = m =? 4 or m =? 6 or m =? 9 or m =? 11

-- the days of a month; February has 29, since no year is sent (document 02, Q-2)
unfoldable pub days : ℕ → ℕ
days m = pick (m =? 2) 29 (pick (short_month m) 30 31)

-- the number that the first two digits make
unfoldable pub month_of : List ℕ → ℕ
month_of v = 10 * (get_or v 0 0 - 48) + (get_or v 1 0 - 48)

-- a month, a day that it has, and numbers out of the ranges
abbrev pub dated : ℕ → List Range → List Range
dated m rs = (1, 12) ∷ (1, days m) ∷ rs

-- two digits each for a month, a day of that month, and a number out of each range
abbrev pub calendar : List Range → Whole
calendar rs = record { lengths = only (2 * suc (suc (length rs))); fits = λ v. pairs_fit (dated (month_of v) rs) v }

-- the same, perhaps with a number out of one more range behind
abbrev pub calendar_or : List Range → Range → Whole
calendar_or rs r = record {
  lengths = only (2 * suc (suc (length rs))) ++ only (2 * suc (suc (suc (length rs))));
  fits = λ v. pairs_fit (dated (month_of v) rs) v or pairs_fit (dated (month_of v) (rs ++ r ∷ [])) v;
}

unfoldable pub columns_fit : List (List Range) → List ℕ → Bool
columns_fit [] [] = true
columns_fit [] (x ∷ v) = false
columns_fit (s ∷ ss) [] = false
columns_fit (s ∷ ss) (x ∷ v) = in_set s x and columns_fit ss v

-- one octet out of each set
abbrev pub columns : List (List Range) → Whole
columns ss = record { lengths = only (length ss); fits = columns_fit ss }

unfoldable pub all_in : List Range → List ℕ → Bool
all_in s [] = true
all_in s (x ∷ v) = in_set s x and all_in s v

-- octets out of a set, as many as one of the ranges of lengths has
abbrev pub text : List Range → List Range → Whole
text ls s = record { lengths = ls; fits = λ v. in_set ls (length v) and all_in s v }

unfoldable pub head_fits : List Range → List Range → List ℕ → Bool
head_fits h s [] = false
head_fits h s (x ∷ v) = in_set h x and all_in s v

-- an octet out of one set, and behind it octets out of another
abbrev pub headed : List Range → List Range → List Range → Whole
headed ls h s = record { lengths = ls; fits = λ v. in_set ls (length v) and head_fits h s v }
