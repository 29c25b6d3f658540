-- Room for a text behind what is printed so far.
-- Assumes nothing.
use Rattle.std.specs.Prelude.{ℕ, ◌+◌, ◌≤◌, List, length}
use Rattle.arrayvec.specs.ArrayVec.{ArrayVec}
use Rattle.listing.specs.Listing.{buffer_size}

-- the text v fits behind what stands on the page
abbrev pub HasRoom : List ℕ → ArrayVec ℕ → Type 0
HasRoom v page = length page.items + length v ≤ buffer_size
