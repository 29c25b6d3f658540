-- What the walker gives, over the written rules (document 01, Drafts): each parameter where it begins, none anywhere
-- else, refusals exactly as the whole read's; by a book, and by an edition and a way (document 02, Q-5 and Q-11).
-- Assumes nothing.
use Rattle.std.specs.Prelude.{ℕ, ◌+◌, ◌≤◌, ◌<◌, ◌≡◌, ◌⊎◌, ◌↔◌, List, ◌∷◌, ◌++◌, length, take, drop, T, Result}
use Rattle.rules.specs.Table.{Rules, rules_of}
use Rattle.rules.specs.Editions.{known, book_of}
use Rattle.rules.specs.declared.Fault.{Fault}
use Rattle.message.specs.Told as message
use Rattle.rules.specs.Message.{Message, Parameter, body, octets, LegalMessage, Accepts}
use Rattle.rules.specs.Language.{calls}
use Rattle.message.specs.Judges.{Judges, verdict_number}
use Rattle.walker.specs.Told.{told, nothing, refusal, Clear}
use Rattle.walker.specs.Steps.{next_place, Step, Stepped}

-- of the parameters ps, of which the first begins at `first`, one begins at `at`: behind those before it
pub record Begins (first : ℕ) (ps : List Parameter) (at : ℕ) : Type 0 where
  pub before : List Parameter
  pub p : Parameter
  pub behind : List Parameter
  pub is : ps ≡ before ++ p ∷ behind
  pub place : at ≡ first + length (body before)

-- the step r at a place of the octets o gives the parameter p: its type, its contents' own place and size in o, and
-- the place behind them
pub record Gives (o : List ℕ) (at : ℕ) (p : Parameter) (r : Step) : Type 0 where
  pub number : (told r).number ≡ 0
  pub place : (told r).place ≡ 0
  pub parameter : (told r).parameter ≡ 0
  pub more : (told r).more ≡ 1
  pub kind : (told r).kind ≡ p.kind
  pub start : (told r).start ≡ at + 2
  pub size : (told r).size ≡ length p.contents
  pub octets : take (told r).size (drop (told r).start o) ≡ p.contents
  pub next : next_place at r ≡ at + 2 + length p.contents

-- in a legal message m, r stands at a place
pub record StepAt (m : Message) (at : ℕ) (r : Step) : Type 0 where
  -- where a parameter begins, that one
  pub parameter : (b : Begins 2 m.parameters at) → Gives (octets m) at b.p r
  -- one is given nowhere else
  pub begins : (told r).more ≡ 1 → Begins 2 m.parameters at
  -- where none begins, there is none
  pub none : (Begins 2 m.parameters at → ⊥) → told r ≡ nothing
  -- that is so at 0 and 1, inside a parameter, at the checksum and beyond
  pub none_early : at < 2 → told r ≡ nothing
  pub none_inside : (place : ℕ) (b : Begins 2 m.parameters place) → place < at →
      at < place + 2 + length b.p.contents → told r ≡ nothing
  pub none_late : length (octets m) ≤ at + 1 → told r ≡ nothing

-- the octets o and a place went in, and r came back
pub record Walks (R : Rules) (o : List ℕ) (at : ℕ) (r : Step) : Type 0 where
  -- what is told, and the place of the next call, tell it
  pub clear : Clear r
  -- number 0 exactly when the octets are a message, whatever the place
  pub done : ((told r).number ≡ 0) ↔ Accepts R o
  -- refused exactly as the whole read declines the octets, with its number, place and parameter
  pub verdict : Result ℕ Fault
  pub judged : Judges (calls R) o verdict
  pub refused : (k p b : ℕ) → 1 ≤ k → (told r ≡ refusal k p b) ↔ (message.told verdict ≡ message.refusal k p b)
  -- where no parameter is given, the next call's place is the same
  pub stays : (told r).more ≡ 0 → next_place at r ≡ at
  -- no number but 1 to 8, and 10
  pub numbers : ((told r).number ≡ 0) ⊎ T (verdict_number (calls R) (told r).number)
  -- the part lies inside the octets
  pub inside : (told r).start + (told r).size ≤ length o
  pub stands : (m : Message) → LegalMessage R m → octets m ≡ o → StepAt m at r

-- by the edition e and the way w, the octets o and a place went in, and r came back
pub record WalksBy (e w : ℕ) (o : List ℕ) (at : ℕ) (r : Stepped) : Type 0 where
  -- by known numbers all that is said of their book
  pub by_book : T (known e w) → Walks (rules_of (book_of e w)) o at r.answer
  -- what is told, and the place of the next call, tell it, by unknown numbers too
  pub clear : Clear r.answer
  -- 16 at 0 exactly where the edition or the way is unknown, whatever the octets and the place
  pub sixteen : (p b : ℕ) → (told r.answer ≡ refusal 16 p b) ↔ ((p ≡ 0) × (b ≡ 0) × (T (known e w) → ⊥))
  -- by unknown numbers nothing else
  pub unknown : (T (known e w) → ⊥) → (told r.answer).number ≡ 16
  -- where no parameter is given, the next call's place is the same, by unknown numbers too
  pub stays : (told r.answer).more ≡ 0 → next_place at r.answer ≡ at
  -- the part lies inside the octets, by unknown numbers too
  pub inside : (told r.answer).start + (told r.answer).size ≤ length o
  -- every answer names its edition, but with 16 none; 17 is never given
  pub names : ((told r.answer).number ≡ 16 → ⊥) → r.edition ≡ e
  pub names_none : (told r.answer).number ≡ 16 → r.edition ≡ 0
