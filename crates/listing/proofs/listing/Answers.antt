-- `listing::listing` meets its contract: every listing has room.
-- Assumes nothing.
use Rattle.std.proofs.Common.{ap, length, arith}
use Rattle.rules.proofs.Octets.{octets_at}
use Rattle.listing.proofs.Whole.{listing_short}
use Rattle.listing.proofs.listing.Goals as goal

pub put_listing-requires : goal.put_listing-requires
put_listing-requires c =
    let octets = octets_at c.args.octets.now (λ i. omega (arith, c.type_inv.octets i)) in
    omega (arith, ap length c.new-page.ensures, listing_short c.args.octets.now octets)
