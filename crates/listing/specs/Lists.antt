-- What a listing says of any octets, over the written rules (document 01, What showmsg prints): which lines it has,
-- in which order, and nothing else.
-- Assumes nothing.
use Rattle.std.specs.Prelude.{ℕ, suc, ◌-◌, ◌≤◌, ◌≡◌, ◌⊎◌, ◌↔◌, List, [], ◌∷◌, ◌++◌, length, take, drop, replicate, Result}
use Rattle.std.proofs.Math.Option.{some}
use Rattle.rules.specs.Tests.{pick}
use Rattle.rules.specs.Pairwise.{same_octets}
use Rattle.rules.specs.Table.{Rules, Row, ascii}
use Rattle.rules.specs.Message.{Message, octets, LegalMessage}
use Rattle.rules.specs.Counting.{counted, carried_in}
use Rattle.rules.specs.Language.{calls}
use Rattle.rules.specs.Refusals.{noted_in}
use Rattle.rules.specs.declared.Fault.{Fault}
use Rattle.message.specs.Told.{told, refusal}
use Rattle.message.specs.Judges.{Judges}
use Rattle.listing.specs.declared.ListingText.{ListingText}
use Rattle.listing.specs.Listing.{Line, written, line_of, kind_line, carried_line, refusal_lines, buffer_size}

-- x is one of some
abbrev pub Has : {A : Type 0} → List A → A → Type 0
Has [] x = ⊥
Has (y ∷ l) x = (x ≡ y) ⊎ Has l x

-- what a message has a line for: its kind, each row whose type counts, with its value, and the number of carried
-- parameters
pub data HasLine (R : Rules) (m : Message) : Line → Type 0 where
  kind : HasLine R m (kind_line m.kind)
  counts : (r : Row) (v : List ℕ) → Has R.rows r → counted R m r.kind ≡ some v → HasLine R m (line_of R r v)
  carried : HasLine R m (carried_line (carried_in R m.parameters))

-- ---- the order of lines: `kind`, the rows of the table, `carried`
unfoldable pub keys_of : List Row → List (List ℕ)
keys_of [] = []
keys_of (r ∷ rs) = r.key ∷ keys_of rs

unfoldable pub order : Rules → List (List ℕ)
order R = ascii "kind" ∷ keys_of R.rows ++ ascii "carried" ∷ []

-- where a key stands among some; their number where it does not
unfoldable pub key_place : List (List ℕ) → List ℕ → ℕ
key_place [] k = 0
key_place (x ∷ xs) k = pick (same_octets k x) 0 (suc (key_place xs k))

abbrev pub line_place : Rules → Line → ℕ
line_place R l = key_place (order R) l.key

-- the place of each line is n or a later one, and later than that of the line before it
abbrev pub Rising : Rules → ℕ → List Line → Type 0
Rising R n [] = Unit {0}
Rising R n (l ∷ ls) = (n ≤ line_place R l) × Rising R (suc (line_place R l)) ls

-- ls are the lines of the message m
pub record Lines (R : Rules) (m : Message) (ls : List Line) : Type 0 where
  -- a line is there exactly where the message has one
  pub said : (l : Line) → Has ls l ↔ HasLine R m l
  -- they stand in their order, each once
  pub ordered : Rising R 0 ls

-- the octets o went in, and r came back
pub record Lists (R : Rules) (o : List ℕ) (r : ListingText) : Type 0 where
  -- a refusal, as the whole read declines the octets, has three lines: its number, its place and its parameter
  pub verdict : Result ℕ Fault
  pub judged : Judges (calls R) o verdict
  pub lines : List Line
  pub refused : (k p b : ℕ) → 1 ≤ k → told verdict ≡ refusal k p b → lines ≡ refusal_lines (noted_in k p b)
  -- a message has its lines
  pub message : (m : Message) → LegalMessage R m → octets m ≡ o → Lines R m lines
  -- the text is these lines, one after the other, and zeros stand behind it
  pub text : take r.length r.octets ≡ written lines
  pub inside : r.length ≤ length r.octets
  pub size : length r.octets ≡ buffer_size
  pub zeros : drop r.length r.octets ≡ replicate (buffer_size - r.length) 0
