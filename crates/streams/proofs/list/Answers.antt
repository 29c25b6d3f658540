-- `list` meets its contract: what is written is the front of the listing's buffer.
use Rattle.std.proofs.Common.{ap, ◌∙◌, ◌≡◌, ℕ, ◌-◌, List, take, replicate, length}
use Rattle.std.proofs.Math.Seq.{take-append_seam}
use Rattle.listing.specs.declared.ListingText.{ListingText}
use Rattle.listing.specs.Listing.{buffer_of, buffer_size}
use Rattle.streams.proofs.list.Goals as goal

-- the front of a listing's buffer
front : (t : ListingText) (v : List ℕ) → t ≡ buffer_of v → take t.length t.octets ≡ v
unfolding buffer_of
front t v e =
    ap (λ (x : ListingText). take x.length x.octets) e ∙ take-append_seam v (replicate (buffer_size - length v) 0)

pub returns : goal.returns
returns g c = rw (c.text.ensures ∙ front _ _ c.listing-listing.ensures) at c.write_all.ensures.bytes
