-- Which references are open after a history of calls (document 02, Q-6): as the last notice says that was done and
-- added or removed them.
-- Assumes nothing.
use Rattle.desk.specs.Told.{Settling}
use Rattle.rules.specs.declared.Fault.{Fault}
use Rattle.std.specs.Prelude.{ℕ, ◌≡◌, Bool, true, false, ◌↔◌, List, [], ◌∷◌, get_or, T, Result, Ok, Err}
use Rattle.std.proofs.Math.Option.{Option, none, some}
use Rattle.rules.specs.Tests.{◌=?◌, pick}
use Rattle.rules.specs.Table.{Rules, rules_of}
use Rattle.rules.specs.Editions.{known, book_of}
use Rattle.rules.specs.Message as message
use Rattle.rules.specs.Message.{octets, LegalMessage}
use Rattle.rules.specs.Counting.{counted}
use Rattle.desk.specs.declared.Change.{Change}
use Rattle.desk.specs.declared.Change.TheVariants.{Nothing, Adds, Removes}
use Rattle.desk.specs.Holding.{Open}
use Rattle.desk.specs.Settle.{change_of, counted_in}
use Rattle.rules.specs.Octets.{reference_of}

-- what a change says of the reference r: that it is open, that it is not, or nothing
unfoldable pub said_by : ℕ → Change → Option Bool
said_by r Nothing = none
said_by r (Adds s) = pick (s =? r) (some true) none
said_by r (Removes s) = pick (s =? r) (some false) none

-- one call: its edition and its way, the octets settled, and what came back
pub record Call : Type 0 where
  pub edition : ℕ
  pub way : ℕ
  pub octets : List ℕ
  pub settled : Settling

-- the rules of a call
abbrev pub rules_in : Call → Rules
rules_in c = rules_of (book_of c.edition c.way)

-- what a call says of r: a notice that is done, what its 0DH says; a refusal (by unknown numbers there is no other
-- answer) and a call message, nothing
unfoldable pub said_under : Rules → ℕ → List ℕ → Result (Unit {0}) Fault → Option Bool
said_under R r o (Ok u) = pick (get_or o 0 0 =? 0x82) (said_by r (change_of (counted_in R o 0x0D))) none
said_under R r o (Err f) = none

unfoldable pub said : ℕ → Call → Option Bool
said r c = said_under (rules_in c) r c.octets c.settled.answer.answer

-- the later word, or the one before it
unfoldable pub later : Option Bool → Option Bool → Option Bool
later none b = b
later (some a) b = some a

-- the last word of some calls on r, after the word b
unfoldable pub last_said : ℕ → List Call → Option Bool → Option Bool
last_said r [] b = b
last_said r (c ∷ cs) b = last_said r cs (later (said r c) b)

-- how r stands in the places qs, after the word b since they were ps
abbrev pub OpenBy : ℕ → List ℕ → Option Bool → List ℕ → Type 0
OpenBy r ps (some true) qs = Open r qs
OpenBy r ps (some false) qs = Open r qs → ⊥
OpenBy r ps none qs = Open r ps ↔ Open r qs

-- ---- over the written rules
-- the call was done, by a known edition and way, with a notice m whose 0DH counts with the state s and the reference r
pub record Names (c : Call) (s r : ℕ) : Type 0 where
  pub by_known : T (known c.edition c.way)
  pub m : message.Message
  pub legal : LegalMessage (rules_in c) m
  pub is : octets m ≡ c.octets
  pub notice : m.kind ≡ 0x82
  pub done : c.settled.answer.answer ≡ Ok tt
  pub high : ℕ
  pub low : ℕ
  pub counts : counted (rules_in c) m 0x0D ≡ some (s ∷ high ∷ low ∷ [])
  pub reference : reference_of high low ≡ r

-- what a call says of r: open exactly with FFH, not open exactly with 00H
pub record Says (r : ℕ) (c : Call) : Type 0 where
  pub opens : (said r c ≡ some true) ↔ Names c 0xFF r
  pub closes : (said r c ≡ some false) ↔ Names c 0x00 r
