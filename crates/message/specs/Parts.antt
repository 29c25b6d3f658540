-- Parameters on octets: what stands at a place, and where the contents that count stand (document 01, What counts).
-- Assumes nothing.
use Rattle.std.specs.Prelude.{ℕ, zero, suc, ◌+◌, List, length, take, drop, slice_index, Option, Some, None}
use Rattle.std.proofs.Math.Option.{Option as Maybe, none, some}
use Rattle.rules.specs.Tests.{◌≤?◌, ◌=?◌, pick}
use Rattle.rules.specs.Table.{Rules, listed, rival_of}
use Rattle.message.specs.declared.Found.{Found}
use Rattle.message.specs.declared.Part.{Part}

-- where contents stand, and a parameter that stands there
abbrev pub part_at : ℕ → ℕ → Option Part
part_at start n = Some (record { start = start; length = n })

abbrev pub found_at : ℕ → ℕ → ℕ → Option Found
found_at k start n = Some (record { kind = k; start = start; length = n })

-- type, start and length of the parameter at a place, if one stands there whole before the last octet, which is the
-- checksum
unfoldable pub parameter_at : List ℕ → ℕ → Option Found
parameter_at o at =
    pick (at + 3 ≤? length o)
    (pick (at + 3 + slice_index o (at + 1) ≤? length o) (found_at (slice_index o at) (at + 2) (slice_index o (at + 1))) None)
    None

-- the parameter found is the one wanted, or shuts it out, or the search goes on behind it
unfoldable pub matched : ℕ → ℕ → Option Found → (ℕ → Option Part) → Option Part
matched t u (Some one) next = pick (one.kind =? t) (part_at one.start one.length) (pick (one.kind =? u) None (next (one.start + one.length)))
matched t u None next = None

-- from a place on, the first parameter of type t, if none of type u stands before it; each parameter found takes one
-- of the turns
unfoldable pub search_from : ℕ → ℕ → ℕ → List ℕ → ℕ → Option Part
search_from zero t u o at = None
search_from (suc turns) t u o at = matched t u (parameter_at o at) (search_from turns t u o)

-- where the contents of type t that count stand; carried types never count
unfoldable pub counted_at : Rules → List ℕ → ℕ → Option Part
counted_at R o t = pick (listed R t) (search_from (length o) t (rival_of R t) o 2) None

-- the octets of a part
unfoldable pub part_of : List ℕ → Option Part → Maybe (List ℕ)
part_of o (Some part) = some (take part.length (drop part.start o))
part_of o None = none
