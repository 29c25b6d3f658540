-- The table of octets (document 02, Q-7): what the row of an octet says, and which classes of contents ask for it. The
-- rules stay in ranges (`Contents`, `Table`); a row is tied to them here.
-- Assumes nothing.
use Rattle.std.specs.Prelude.{ℕ, zero, suc, ◌+◌, ◌*◌, ◌<◌, ◌≡◌, Bool, true, false, not, List, [], ◌∷◌, ◌++◌, length, get_or}
use Rattle.std.specs.Int.Bits.{bit_and}
use Rattle.rules.specs.Tests.{◌≤?◌, ◌=?◌, pick}
use Rattle.rules.specs.Contents.{Range, in_set, digit, letter}
use Rattle.rules.specs.Table.{time_ranges, second_range, duration_ranges, display_set, number_set, name_set, old_number_set}
use Rattle.rules.specs.Charge.{charge_by}
use Rattle.rules.specs.Terminal.{terminal_by}
use Rattle.rules.specs.Extension.{extension_by}
use Rattle.rules.specs.ContentJudge.{tens_by, ones_by, day_by, head_by, passing, text_judge, ok_at}
use Rattle.rules.specs.declared.Class.{Class}
use Rattle.rules.specs.declared.Class.TheVariants.{Carried, Date, Number, Absent, Name, Lamp, Identity, CallType, Waiting, Forwarded, User, ShortText, Moment, Charge, Duration, Terminal, Display, Service, Extension, OldNumber, OldForwarded, OldUser, Unlisted}

unfoldable pub bit : Bool → ℕ
bit true = 1
bit false = 0

-- the row of an octet: 1 where it is a digit, 2 where it may stand in a number, 4 where it may stand in a name, 8
-- where it is a letter A to Z (document 02, Q-4)
unfoldable pub kinds_of : ℕ → ℕ
kinds_of x = bit (digit x) + 2 * bit (in_set number_set x) + 4 * bit (in_set name_set x) + 8 * bit (letter x)

-- a table has the row of each octet
pub record Rowed (rows : List ℕ) : Type 0 where
  pub long : length rows ≡ 256
  pub row : (x : ℕ) → x < 256 → get_or rows x 0 ≡ kinds_of x

-- the kinds of which whole texts are, each a bit of a row: digits, numbers, names
pub data ContentKind : ℕ → Type 0 where
  digits : ContentKind 1
  numbers : ContentKind 2
  names : ContentKind 4

-- a row says that a kind admits its octet
unfoldable pub admitted : ℕ → ℕ → Bool
admitted row kind = not (bit_and row kind =? 0)

-- the octets that a kind admits
unfoldable pub kind_set : ℕ → List Range
kind_set kind = pick (kind =? 1) old_number_set (pick (kind =? 2) number_set name_set)

-- of a text how many octets from the first on are of a kind
abbrev pub kind_front : ℕ → List ℕ → ℕ
kind_front kind v = passing (text_judge (kind_set kind)) (length v) 0 0 v

-- the kind of a class whose octets are not of one kind alone, or are judged by what stands before them
abbrev pub mixed : ℕ
mixed = 16

-- the kind that the octets of a class are of; 0 where they are not judged by their rows
unfoldable pub asked_kind : Class → ℕ
asked_kind Date = mixed
asked_kind Number = 2
asked_kind Absent = 0
asked_kind Name = 4
asked_kind Lamp = 0
asked_kind Identity = 0
asked_kind CallType = 0
asked_kind Waiting = 0
asked_kind Forwarded = 0
asked_kind User = 0
asked_kind Carried = 0
asked_kind ShortText = 4
asked_kind Moment = mixed
asked_kind Charge = mixed
asked_kind Duration = mixed
asked_kind Terminal = mixed
asked_kind Display = mixed
asked_kind Service = 0
asked_kind Extension = mixed
asked_kind OldNumber = 1
asked_kind OldForwarded = 0
asked_kind OldUser = 0
asked_kind Unlisted = 0

-- classes of no one kind whose octets behind the fourteenth may be any, however many they are
pub data Short : Class → Type 0 where
  moment : Short Moment
  charge : Short Charge
  duration : Short Duration
  extension : Short Extension

unfoldable pub asks : Class → Bool
asks c = not (asked_kind c =? 0)

-- as `pair_at` and `calendar_at` have it, where d says whether the octet is a digit
unfoldable pub pair_by : Bool → List Range → ℕ → ℕ → ℕ → Bool
pair_by d [] i m x = x ≤? 255
pair_by d (r ∷ rs) zero m x = tens_by d r x
pair_by d (r ∷ rs) (suc zero) m x = ones_by d r m x
pair_by d (r ∷ rs) (suc (suc i)) m x = pair_by d rs i m x

unfoldable pub calendar_by : Bool → List Range → ℕ → ℕ → ℕ → Bool
calendar_by d rs zero m x = tens_by d (1, 12) x
calendar_by d rs (suc zero) m x = ones_by d (1, 12) m x
calendar_by d rs (suc (suc zero)) m x = tens_by d (1, m) x
calendar_by d rs (suc (suc (suc zero))) m x = day_by d m x
calendar_by d rs (suc (suc (suc (suc i)))) m x = pair_by d rs i m x

-- may octet x of contents of no one kind stand at index i of n, where m is remembered and the row beside it is what it
-- is judged by
unfoldable pub mixed_by : Class → ℕ → ℕ → ℕ → ℕ → ℕ → Bool
mixed_by Date n i m row x = calendar_by (admitted row 1) time_ranges i m x
mixed_by Moment n i m row x = calendar_by (admitted row 1) (time_ranges ++ second_range ∷ []) i m x
mixed_by Charge n i m row x = charge_by (admitted row 1) (admitted row 8) i m x
mixed_by Duration n i m row x = pair_by (admitted row 1) duration_ranges i m x
mixed_by Terminal n i m row x = terminal_by (admitted row 2) n i m x
mixed_by Display n i m row x = head_by (admitted row 4) display_set i x
mixed_by c n i m row x = extension_by (admitted row 1) (admitted row 4) i m x

-- the same of any contents
unfoldable pub ok_by : Class → ℕ → ℕ → ℕ → ℕ → ℕ → Bool
ok_by c n i m row x =
    pick (asked_kind c =? 0) (ok_at c n i m x)
    (pick (asked_kind c =? mixed) (mixed_by c n i m row x) (admitted row (asked_kind c)))

-- the row beside octet x is its own, where the class asks for it
abbrev pub AskedRow : Class → ℕ → ℕ → Type 0
AskedRow c row x = asks c ≡ true → row ≡ kinds_of x

-- the rows at hand are those of the octets, where the class asks for them
abbrev pub AskedRows : Class → List ℕ → Type 0
AskedRows c rows = asks c ≡ true → Rowed rows
