-- `firmware::desks::decode` meets its contract: each field from its octets.
-- Assumes nothing.
use Rattle.firmware.specs.DeskRecord.{desk_in}
use Rattle.firmware.proofs.desks.decode.Goals as goal

pub returns : goal.returns
unfolding desk_in
returns c =
    λ i. record {
      waiting = c.waiting_of-waiting.ensures i;
      lamp = c.lamp_of-lamp.ensures i;
      places = c.places_in-places.ensures i;
    }
