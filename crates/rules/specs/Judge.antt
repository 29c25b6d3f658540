-- The machine of call messages and notices (document 01, The message and Numbers), under any rules; and when a state
-- is in range.
-- Assumes nothing.
use Rattle.std.specs.Prelude.{ℕ, suc, ◌+◌, ◌*◌, ◌-◌, Bool, false, List, [], ◌∷◌}
use Rattle.rules.specs.Tests.{◌≤?◌, ◌=?◌, ◌and◌, ◌or◌, pick}
use Rattle.rules.specs.Contents.{Range, within}
use Rattle.rules.specs.Table.{Rules, class_of, type_fault, class_fault, whole, length_fits}
use Rattle.rules.specs.ContentJudge.{ok_at, remember}
use Rattle.rules.specs.Message.{message_kind, most}
use Rattle.rules.specs.Machine.{Machine}
use Rattle.rules.specs.declared.Class.{Class}
use Rattle.rules.specs.declared.Stage.{Stage}
use Rattle.rules.specs.declared.Stage.TheVariants.{Kind, Size, Header, Length, Content}
use Rattle.rules.specs.declared.State.{State}
use Rattle.rules.specs.declared.State.TheVariants.{Waiting, Message, Refused}

-- a length n in a room r: 0 or at least 3 octets are left after it
unfoldable pub room_fits : ℕ → ℕ → Bool
room_fits n r = r =? n + 2 or n + 5 ≤? r

-- a length of the range fits the room
unfoldable pub range_possible : Range → ℕ → Bool
range_possible l r = (l.0 + 2 ≤? r and r ≤? l.1 + 2) or (l.0 + 5 ≤? r and l.0 ≤? l.1)

unfoldable pub some_possible : List Range → ℕ → Bool
some_possible [] r = false
some_possible (l ∷ ls) r = range_possible l r or some_possible ls r

-- a type is possible in a room if one of its lengths is
unfoldable pub possible : Class → ℕ → Bool
possible c r = some_possible (whole c).lengths r

-- the parameters fill L, and the checksum comes
unfoldable pub final : Stage → Bool
final Kind = false
final Size = false
final (Header r) = r =? 0
final (Length c r) = false
final (Content c n i m r) = false

-- may octet x come here, where it is not the checksum
unfoldable pub fits : Rules → Stage → ℕ → Bool
fits R Kind x = message_kind x
fits R Size x = 3 ≤? x
fits R (Header r) x = possible (class_of R x) r
fits R (Length c r) x = length_fits c x and room_fits x r
fits R (Content c n i m r) x = ok_at c n i m x

-- the octet at index i of n is to come; after the last of them a header, or the checksum
unfoldable pub contents : Class → ℕ → ℕ → ℕ → ℕ → Stage
contents c n i m r = pick (i =? n) (Header r) (Content c n i m r)

unfoldable pub after : Rules → Stage → ℕ → Stage
after R Kind x = Size
after R Size x = Header x
after R (Header r) x = Length (class_of R x) r
after R (Length c r) x = contents c x 0 0 (r - (x + 2))
after R (Content c n i m r) x = contents c n (suc i) (remember c n i m x) r

-- the number of a refusal, by the role of the octet
unfoldable pub fault : Rules → Stage → ℕ → ℕ
fault R Kind x = 1
fault R Size x = 2
fault R (Header r) x = type_fault R x
fault R (Length c r) x = 4
fault R (Content c n i m r) x = 5

-- the parameter that an octet stands in, where so many began before it (document 02, Q-3): a type octet begins one.
-- Where it is not the checksum: that stands in none.
unfoldable pub stands_in : Stage → ℕ → ℕ
stands_in Kind b = 0
stands_in Size b = 0
stands_in (Header r) b = suc b
stands_in (Length c r) b = b
stands_in (Content c n i m r) b = b

unfoldable pub machine : Rules → Machine
machine R =
    record {
      first = Kind;
      final = final;
      fits = fits R;
      after = after R;
      fault = fault R;
      stands_in = stands_in;
    }

-- a number that the machine can give
unfoldable pub given : Rules → ℕ → Bool
given R k = within (1, 6) k or (k =? 10 and class_fault R.others =? 10)

-- what a refusal's number says of its parameter (document 02, Q-3): one of at most 85 with a type, a length and
-- contents, none with all others
unfoldable pub named : ℕ → ℕ → Bool
named k b = pick (within (3, 5) k or k =? 10) (within (1, most) b) (b =? 0)

-- b parameters of at least three octets each can stand whole before a place
unfoldable pub behind : ℕ → ℕ → Bool
behind b p = 3 * b + 2 ≤? p

-- a place can lie in parameter b, behind its type and i octets more
unfoldable pub amid : ℕ → ℕ → ℕ → Bool
amid b i p = 1 ≤? b and 3 * b + i ≤? p

-- at a stage, place and octets still to come make a message of 6 to 258 octets, and the index is within the length
unfoldable pub place_fits : Stage → ℕ → Bool
place_fits Kind p = p =? 0
place_fits Size p = p =? 1
place_fits (Header r) p = within (5, 257) (p + r)
place_fits (Length c r) p = 1 ≤? r and within (6, 258) (p + r)
place_fits (Content c n i m r) p = suc i ≤? n and within (5 + i, 257 + i) (p + n + r)

-- at a stage, no more parameters began than the octets before the place have room for
unfoldable pub count_fits : Stage → ℕ → ℕ → Bool
count_fits Kind p b = b =? 0
count_fits Size p b = b =? 0
count_fits (Header r) p b = behind b p
count_fits (Length c r) p b = amid b 0 p
count_fits (Content c n i m r) p b = amid b (1 + i) p

-- The arithmetic on a state is exact: place and parameters fit the stage, a size is one that a message has, a number
-- one that is given, with a parameter that it has.
unfoldable pub in_range : Rules → State → Bool
in_range R (Waiting s q) = place_fits s q.place and count_fits s q.place q.parameter
in_range R (Message n) = within (6, 258) n
in_range R (Refused f) = (given R f.number and f.place ≤? 257) and named f.number f.parameter
