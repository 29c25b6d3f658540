-- Which messages are still open on a desk (document 02, Q-6): sixteen places, each 0, free, or one more than the
-- reference that it holds.
-- Assumes nothing.
use Rattle.std.specs.Prelude.{ℕ, suc, Bool, true, false, List, [], ◌∷◌, length, set}
use Rattle.rules.specs.Tests.{◌≤?◌, ◌=?◌, ◌and◌, pick}
use Rattle.desk.specs.declared.Change.{Change}
use Rattle.desk.specs.declared.Change.TheVariants.{Nothing, Adds, Removes}
use Rattle.rules.specs.Octets.{reference_of}
use Rattle.rules.specs.First.{index_of}

-- how many there are
abbrev pub place_count : ℕ
place_count = 16

abbrev pub free : ℕ
free = 0

-- the place of a reference
abbrev pub held : ℕ → ℕ
held r = suc r

-- the first of some places that is p; their number where none is
abbrev pub place_with : ℕ → List ℕ → ℕ
place_with p qs = index_of p qs

-- no place is p
unfoldable pub absent : ℕ → List ℕ → Bool
absent p qs = place_with p qs =? length qs

-- a place may stand before others: it is free, or it holds a reference, 0 to 65,535, that none of them holds
unfoldable pub may_stand : ℕ → List ℕ → Bool
may_stand p ps = pick (p =? free) true (p ≤? held 65535 and absent p ps)

-- in range, and no reference twice
unfoldable pub places_fit : List ℕ → Bool
places_fit [] = true
places_fit (p ∷ ps) = may_stand p ps and places_fit ps

-- what a notice does, by the three octets of 0DH: FFH adds the reference, 00H takes it out, 55H does nothing
unfoldable pub change_by : ℕ → ℕ → ℕ → Change
change_by state high low =
    pick (state =? 0xFF) (Adds (reference_of high low)) (pick (state =? 0x00) (Removes (reference_of high low)) Nothing)

-- a reference is to be added, and all places hold others: 21
unfoldable pub is_full : Change → List ℕ → Bool
is_full Nothing ps = false
is_full (Adds r) ps = absent (held r) ps and absent free ps
is_full (Removes r) ps = false

-- adding takes the lowest free place, unless the reference is there; the place of a reference that is taken out is
-- free again
unfoldable pub places_after : Change → List ℕ → List ℕ
places_after Nothing ps = ps
places_after (Adds r) ps = pick (absent (held r) ps) (set ps (place_with free ps) (held r)) ps
places_after (Removes r) ps = set ps (place_with (held r) ps) free
