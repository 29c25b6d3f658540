-- Editions and ways by their numbers (document 02, Q-5 and Q-11): edition 0 is the present one, 1 the old one; by way 0
-- types without a row are refused, by way 1 they are carried. Any other number is unknown, and gets 16.
-- Assumes nothing.
use Rattle.std.specs.Prelude.{ℕ, Bool, Option, Some, None}
use Rattle.rules.specs.Tests.{◌≤?◌, ◌=?◌, ◌and◌, ◌or◌, pick}
use Rattle.rules.specs.declared.Book.{Book}
use Rattle.rules.specs.declared.Book.TheVariants.{PresentStrict, PresentLenient, OldStrict, OldLenient}

-- the way in which types without a row are refused, and the one in which they are carried
abbrev pub strict : ℕ
strict = 0

abbrev pub lenient : ℕ
lenient = 1

-- there is an edition of this number
unfoldable pub edition : ℕ → Bool
edition e = e ≤? 1

-- there is a way of this number
abbrev pub way : ℕ → Bool
way w = w ≤? 1

-- there are an edition and a way of these numbers
unfoldable pub known : ℕ → ℕ → Bool
known e w = edition e and way w

-- the book of an edition and a way. Where one is unknown nothing is judged by a book but the range of a record: there
-- it is a strict one, which has every number that a listener can give
unfoldable pub book_of : ℕ → ℕ → Book
book_of e w =
    pick (w =? 1)
    (pick (e =? 0) PresentLenient (pick (e =? 1) OldLenient PresentStrict))
    (pick (e =? 1) OldStrict PresentStrict)

-- the book, where both are known
abbrev pub known_book : ℕ → ℕ → Option Book
known_book e w = pick (known e w) (Some (book_of e w)) None

-- the edition that an answer names which has the number k, 0 where it is none: with 16 and 17 it names 0
unfoldable pub named_by : ℕ → ℕ → ℕ
named_by k e = pick (k =? 16 or k =? 17) 0 e
