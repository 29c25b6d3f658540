-- For the code: what its parts leave behind, in the words of the way back.
-- Assumes nothing.
use Rattle.std.specs.Prelude.{◌≡◌, ℕ, ◌+◌, ◌≤◌, Bool, true, Option, Some, None, List, ◌∷◌, ◌++◌, length, take, drop}
use Rattle.rules.specs.Tests.{pick}
use Rattle.rules.specs.Table.{Rules, Row}
use Rattle.rules.specs.Message.{Message, body, octets}
use Rattle.rules.specs.Laying.{laid}
use Rattle.listing.specs.Listing.{row_count}
use Rattle.relist.specs.Relist.{row_says, comes, row_contents, Lined}
use Rattle.relist.specs.declared.Taken.{Taken}

-- the longest value and the longest contents that are read off it
abbrev pub longest_value : ℕ
longest_value = 264

abbrev pub read_size : ℕ
read_size = 274

-- the first n octets of an area are these
pub record Holds (v area : List ℕ) (n : ℕ) : Type 0 where
  pub long : n ≡ length v
  pub octets : take n area ≡ v

-- where a test says so, octets stand in the area: so many
pub record Reads (b : Bool) (v area : List ℕ) (n : Option ℕ) : Type 0 where
  pub size : n ≡ pick b (Some (length v)) None
  pub holds : b ≡ true → take (length v) area ≡ v

-- what a line says by a row, where it is the row's
abbrev pub LineRead : Rules → Row → List ℕ → List ℕ → Option ℕ → Type 0
LineRead R r l area n = Reads (row_says R r l) (row_contents R r l) area n

-- what a line says by a row that may take it
abbrev pub RowRead : Rules → Row → List ℕ → List ℕ → List ℕ → Option ℕ → Type 0
RowRead R r ks l area n = Reads (comes R r ks l) (row_contents R r l) area n

-- a parameter was put behind others as far as the area goes
pub record LaidBehind (kind : ℕ) (v old : List ℕ) (size : ℕ) (new : List ℕ) (end : ℕ) : Type 0 where
  pub ends : end ≡ size + (2 + length v)
  pub front : end ≤ length old → take end new ≡ take size old ++ kind ∷ length v ∷ v

-- the value lines were taken: how many, where the text goes on, and their parameters' octets, as far as 255 go
pub record TookRows (s : Lined) (t area : List ℕ) (k : Taken) : Type 0 where
  pub inside : k.at ≤ length t
  pub rest : drop k.at t ≡ s.rest
  pub count : k.count ≡ length s.parameters
  pub few : k.count ≤ row_count
  pub size : k.size ≡ length (body s.parameters)
  pub front : k.size ≤ 255 → take k.size area ≡ body s.parameters

-- the octets of the message of this type with these octets of parameters were laid over others
abbrev pub Sealed : ℕ → List ℕ → List ℕ → List ℕ → Type 0
Sealed kind b old new = (m : Message) → m.kind ≡ kind → body m.parameters ≡ b → new ≡ laid (octets m) old
