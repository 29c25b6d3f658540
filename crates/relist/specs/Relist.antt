-- The way back from a listing to its message (document 02, Q-1): line by line, each row of the table takes the next
-- line where that is the row's own. What no row takes must be the last line, and nothing may stand behind it.
-- Assumes nothing.
use Rattle.std.specs.Prelude.{ℕ, suc, ◌+◌, ◌-◌, Bool, false, List, [], ◌∷◌, ◌++◌, length, take, drop, Result, Option, Some, None}
use Rattle.rules.specs.First.{index_of}
use Rattle.rules.specs.Tests.{◌≤?◌, ◌=?◌, pick}
use Rattle.rules.specs.Pairwise.{same_octets}
use Rattle.rules.specs.Table.{Rules, Row, style_of, class_of, rival_of}
use Rattle.rules.specs.Message.{Parameter, Message, body}
use Rattle.listing.specs.Listing.{line_text, kind_line, carried_line, says_line}
use Rattle.writer.specs.Writing.{Writing}
use Rattle.writer.specs.Writing.{unwritten, sized}
use Rattle.relist.specs.Back.{back}
use Rattle.rules.specs.declared.Fault.{Fault}

-- ---- the lines of a text
-- its first line, with the line end; all of it, where there is none
unfoldable pub line_in : List ℕ → List ℕ
line_in t = take (suc (index_of 0x0A t)) t

unfoldable pub behind : List ℕ → List ℕ
behind t = drop (suc (index_of 0x0A t)) t

-- ---- a line, by a row
-- what stands between the key with its `=` and the last octet
unfoldable pub value_in : Row → List ℕ → List ℕ
value_in r l = take (length l - (length r.key + 2)) (drop (length r.key + 1) l)

-- the contents that it would say
unfoldable pub row_contents : Rules → Row → List ℕ → List ℕ
row_contents R r l = back (style_of (class_of R r.kind)) (value_in r l)

-- it is the row's line with these contents
unfoldable pub row_says : Rules → Row → List ℕ → Bool
row_says R r l = says_line R r (row_contents R r l) l

unfoldable pub types_of : List Parameter → List ℕ
types_of [] = []
types_of (p ∷ ps) = p.kind ∷ types_of ps

-- a type is among some
unfoldable pub among : ℕ → List ℕ → Bool
among t ks = suc (index_of t ks) ≤? length ks

-- it may come behind the lines of these types: none of them shuts the row's out
unfoldable pub comes : Rules → Row → List ℕ → List ℕ → Bool
comes R r ks l = pick (among (rival_of R r.kind) ks) false (row_says R r l)

abbrev pub row_parameter : Rules → Row → List ℕ → Parameter
row_parameter R r l = record { kind = r.kind; contents = row_contents R r l }

-- ---- all value lines
-- the parameters that lines said, and the text behind these lines
pub record Lined : Type 0 where
  pub parameters : List Parameter
  pub rest : List ℕ

-- row by row, behind the lines of some parameters: the row takes the next line, or none
unfoldable pub taken : Rules → List Row → List Parameter → List ℕ → Lined
taken R [] ps t = record { parameters = ps; rest = t }
taken R (r ∷ rs) ps t =
    taken R rs (pick (comes R r (types_of ps) (line_in t)) (ps ++ row_parameter R r (line_in t) ∷ []) ps)
    (pick (comes R r (types_of ps) (line_in t)) (behind t) t)

-- ---- the answer
-- the message type that the first line says
unfoldable pub kind_said : List ℕ → Option ℕ
kind_said l =
    pick (same_octets (line_text (kind_line 0x80)) l) (Some 0x80)
    (pick (same_octets (line_text (kind_line 0x82)) l) (Some 0x82) None)

-- the same, 0 for none
unfoldable pub kind_in : List ℕ → ℕ
kind_in l =
    pick (same_octets (line_text (kind_line 0x80)) l) 0x80 (pick (same_octets (line_text (kind_line 0x82)) l) 0x82 0)

-- n value lines, then the last line, which needs one of them at least, and then nothing; parameters of l octets, over
-- 255 of which are 62
unfoldable pub closed : ℕ → List ℕ → ℕ → ℕ → Result ℕ Fault
closed n t l room =
    pick (n =? 0) (unwritten 61 2)
    (pick (same_octets (line_text (carried_line 0)) (line_in t))
    (pick (length (behind t) =? 0) (sized 62 l room) (unwritten 61 (n + 3)))
    (unwritten 61 (n + 2)))

-- the value lines of a text
unfoldable pub lined_in : Rules → List ℕ → Lined
lined_in R t = taken R R.rows [] (behind t)

-- the message that a text says
unfoldable pub message_for : Rules → List ℕ → Message
message_for R t = record { kind = kind_in (line_in t); parameters = (lined_in R t).parameters }

-- what is answered where the output has so much room
unfoldable pub relisted : Rules → List ℕ → ℕ → Result ℕ Fault
relisted R t room =
    pick (kind_in (line_in t) =? 0) (unwritten 61 1)
    (closed (length (lined_in R t).parameters) (lined_in R t).rest (length (body (lined_in R t).parameters)) room)

-- it names the edition of the rules
unfoldable pub relisting : Rules → List ℕ → ℕ → Writing
relisting R t room = record { edition = R.edition; answer = relisted R t room }

-- ---- how much of a text decides (Enough): no valid listing has as many octets
abbrev pub limit : ℕ
limit = 8192
