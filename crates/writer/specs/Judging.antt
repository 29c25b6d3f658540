-- How the entries of a draft are judged by the octets that would be written for them.
-- Assumes nothing.
use Rattle.std.specs.Prelude.{ℕ, zero, suc, ◌+◌, ◌/◌, ◌%◌, List, [], ◌∷◌, length, Option, Some, None, Result, Ok, replicate}
use Rattle.rules.specs.Tests.{pick}
use Rattle.rules.specs.Table.{Rules}
use Rattle.rules.specs.Laying.{laid}
use Rattle.rules.specs.declared.Fault.{Fault}
use Rattle.draft.specs.Meaning.{tens, ones}
use Rattle.draft.specs.declared.Value.{Value}
use Rattle.draft.specs.declared.Value.TheVariants.{Date, Code, State, Text, Carried, Moment, Duration, Marked}
use Rattle.draft.specs.declared.Entry.{Entry}
use Rattle.writer.specs.Writing.{contents_of, legal_entry, unwritten}
use Rattle.writer.specs.declared.Spelling.{Spelling}

-- ---- what the contents of a value have before its text
-- the two digits of each number
unfoldable pub digits_of : List ℕ → List ℕ
digits_of [] = []
digits_of (n ∷ l) = tens n ∷ ones n ∷ digits_of l

-- all of a value without a text; nothing of a text; the first octet of a marked one
unfoldable pub head_of : Value → List ℕ
head_of (Date m d h n) = digits_of (m ∷ d ∷ h ∷ n ∷ [])
head_of (Code x) = x ∷ []
head_of (State s r) = s ∷ r / 256 ∷ r % 256 ∷ []
head_of (Text s n) = []
head_of (Carried s n) = []
head_of (Moment m d h n zero) = digits_of (m ∷ d ∷ h ∷ n ∷ [])
head_of (Moment m d h n (suc s)) = digits_of (m ∷ d ∷ h ∷ n ∷ s ∷ [])
head_of (Duration h m s) = digits_of (h ∷ m ∷ s ∷ [])
head_of (Marked x s n) = x ∷ []

-- octets at the beginning of ten
unfoldable pub padded : List ℕ → Spelling
padded v = record { octets = laid v (replicate 10 0); length = length v }

-- ---- entries
-- the length of the contents of an entry that makes a legal parameter
unfoldable pub takes_of : Rules → List ℕ → Entry → Option ℕ
takes_of R texts e = pick (legal_entry R texts e) (Some (length (contents_of texts e))) None

-- the octets of all parameters from entry i on, where those before it take `size`; 12 at the first that makes none
unfoldable pub measure_from : Rules → List ℕ → ℕ → ℕ → List Entry → Result ℕ Fault
measure_from R texts i size [] = Ok size
measure_from R texts i size (e ∷ es) =
    pick (legal_entry R texts e) (measure_from R texts (i + 1) (size + (2 + length (contents_of texts e))) es)
    (unwritten 12 i)
