-- Where the contents that count stand in a message's octets: behind the octets 0 and 1, the parameters before them,
-- and their own type and length; and the sentences on what counts (document 01, What counts).
-- Assumes nothing.
use Rattle.std.specs.Prelude.{◌≡◌, ℕ, ◌+◌, List, length, Option, None}
use Rattle.std.proofs.Math.Option.{none}
use Rattle.rules.specs.Message as message
use Rattle.rules.specs.Message.{body}
use Rattle.rules.specs.Table.{Rules}
use Rattle.rules.specs.Counting.{First, counted, Counts}
use Rattle.message.specs.declared.Part.{Part}
use Rattle.message.specs.Parts.{part_at}

abbrev pub contents_at : {t u : ℕ} {ps : List message.Parameter} {v : List ℕ} → First t u ps v → ℕ
contents_at f = length (body f.before) + 4

-- of the message m and the type t, p is the part that counts
pub record CountsAt (R : Rules) (m : message.Message) (t : ℕ) (p : Option Part) : Type 0 where
  -- the contents that count, at their own place and with their length
  pub at : (v : List ℕ) (c : Counts R m t v) → p ≡ part_at (contents_at c.first) (length v)
  -- none where none count
  pub nowhere : counted R m t ≡ none → p ≡ None
