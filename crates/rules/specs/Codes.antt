-- What the code holds of a class: a number for each, in the record of a listener; and its lengths.
-- Assumes nothing.
use Rattle.std.specs.Prelude.{ℕ, Bool, List, [], ◌∷◌, Option, Some, None}
use Rattle.rules.specs.Tests.{◌≤?◌, ◌=?◌, pick}
use Rattle.rules.specs.Contents.{Range, in_set, only}
use Rattle.rules.specs.Editions.{lenient}
use Rattle.rules.specs.declared.Class.{Class}
use Rattle.rules.specs.declared.Class.TheVariants.{Carried, Date, Number, Absent, Name, Lamp, Identity, CallType, Waiting, Forwarded, User, ShortText, Moment, Charge, Duration, Terminal, Display, Service, Extension, OldNumber, OldForwarded, OldUser, Unlisted}

unfoldable pub class_code : Class → ℕ
class_code Carried = 0
class_code Date = 1
class_code Number = 2
class_code Absent = 3
class_code Name = 4
class_code Lamp = 5
class_code Identity = 6
class_code CallType = 7
class_code Waiting = 8
class_code Forwarded = 9
class_code User = 10
class_code ShortText = 11
class_code Moment = 12
class_code Charge = 13
class_code Duration = 14
class_code Terminal = 15
class_code Display = 16
class_code Service = 17
class_code Extension = 18
class_code OldNumber = 19
class_code OldForwarded = 20
class_code OldUser = 21
class_code Unlisted = 22

-- the classes of the present edition's rows have the codes from 1 up to this one
abbrev pub last_present : ℕ
last_present = 18

-- those of both editions' rows up to this one
abbrev pub last_listed : ℕ
last_listed = 21

-- and those of the old one: a date, absent, a lamp, a short text, and its own
abbrev pub old_codes : List Range
old_codes = (1, 1) ∷ (3, 3) ∷ (5, 5) ∷ (11, 11) ∷ (19, 21) ∷ []

-- the code of a class that an edition has by a way: one of its rows (of an unknown edition, of any), or carried, but
-- not by the strict way (document 02, Q-11)
unfoldable pub code_in : ℕ → ℕ → ℕ → Bool
code_in e w k =
    pick (k =? 0) (lenient ≤? w)
    (pick (e =? 0) (k ≤? last_present) (pick (e =? 1) (in_set old_codes k) (k ≤? last_listed)))

-- the class of a code; a code of none is read as carried
unfoldable pub class_coded : ℕ → Class
class_coded k =
    pick (k =? 1) Date
    (pick (k =? 2) Number
    (pick (k =? 3) Absent
    (pick (k =? 4) Name
    (pick (k =? 5) Lamp
    (pick (k =? 6) Identity
    (pick (k =? 7) CallType
    (pick (k =? 8) Waiting
    (pick (k =? 9) Forwarded
    (pick (k =? 10) User
    (pick (k =? 11) ShortText
    (pick (k =? 12) Moment
    (pick (k =? 13) Charge
    (pick (k =? 14) Duration
    (pick (k =? 15) Terminal
    (pick (k =? 16) Display
    (pick (k =? 17) Service
    (pick (k =? 18) Extension
    (pick (k =? 19) OldNumber
    (pick (k =? 20) OldForwarded
    (pick (k =? 21) OldUser
    (pick (k =? 22) Unlisted Carried)))))))))))))))))))))

-- the length of a class that its range has not, if there is one
unfoldable pub other_length : Class → Option ℕ
other_length Moment = Some 10
other_length c = None

-- ---- the lengths of a class as the code has them
-- the lengths from the least to the most, and perhaps one other
unfoldable pub ranges : ℕ → ℕ → Option ℕ → List Range
ranges least most None = (least, most) ∷ []
ranges least most (Some other) = (least, most) ∷ only other
