-- Each export settles its outcome: two that its promise allows are equal, the answer and what the record holds
-- afterwards.
-- Assumes nothing.
use mathlib.Core.Path.{◌≡◌}
use Rattle.firmware_c.proofs.anthercup_reset_way.Reads as reset_way
use Rattle.firmware_c.proofs.anthercup_reset.Reads as reset
use Rattle.firmware_c.proofs.anthercup_listen.Reads as listen
use Rattle.firmware_c.proofs.anthercup_read_way.Reads as read_way
use Rattle.firmware_c.proofs.anthercup_read.Reads as read
use Rattle.firmware_c.proofs.anthercup_new_desk.Reads as new_desk
use Rattle.firmware_c.proofs.anthercup_settle.Reads as settle
use Rattle.firmware_c.proofs.anthercup_counted.Reads as counted
use Rattle.firmware_c.proofs.anthercup_caption.Reads as caption
use Rattle.firmware_c.proofs.Doors as doors
use Rattle.firmware.proofs.Settled as settled

pub anthercup_reset_way_settled : (κs : _) (a : _) (r r' : _) (s s' : _) → reset_way.Post κs a r s →
    reset_way.Post κs a r' s' → (r ≡ r') × (s.1.1.0.now ≡ s'.1.1.0.now)
anthercup_reset_way_settled κs a r r' s s' p q =
    settled.anthercup_reset_way_settled κs a r r' s s' (doors.anthercup_reset_way_says κs a r s p)
    (doors.anthercup_reset_way_says κs a r' s' q)

pub anthercup_reset_settled : (κs : _) (a : _) (r r' : _) (s s' : _) → reset.Post κs a r s →
    reset.Post κs a r' s' → (r ≡ r') × (s.1.0.now ≡ s'.1.0.now)
anthercup_reset_settled κs a r r' s s' p q =
    settled.anthercup_reset_settled κs a r r' s s' (doors.anthercup_reset_says κs a r s p)
    (doors.anthercup_reset_says κs a r' s' q)

pub anthercup_listen_settled : (κs : _) (a : _) (r r' : _) (s s' : _) → listen.Post κs a r s →
    listen.Post κs a r' s' → (r ≡ r') × (s.0.now ≡ s'.0.now)
anthercup_listen_settled κs a r r' s s' p q =
    settled.anthercup_listen_settled κs a r r' s s' (doors.anthercup_listen_says κs a r s p)
    (doors.anthercup_listen_says κs a r' s' q)

pub anthercup_read_way_settled : (κs : _) (a : _) (r r' : _) (s s' : _) → read_way.Post κs a r s →
    read_way.Post κs a r' s' →
    (r ≡ r') × (s.1.1.1.0.now ≡ s'.1.1.1.0.now) × (s.1.1.1.1.0.now ≡ s'.1.1.1.1.0.now)
anthercup_read_way_settled κs a r r' s s' p q =
    settled.anthercup_read_way_settled κs a r r' s s' (doors.anthercup_read_way_says κs a r s p)
    (doors.anthercup_read_way_says κs a r' s' q)

pub anthercup_read_settled : (κs : _) (a : _) (r r' : _) (s s' : _) → read.Post κs a r s → read.Post κs a r' s' →
    (r ≡ r') × (s.1.1.0.now ≡ s'.1.1.0.now) × (s.1.1.1.0.now ≡ s'.1.1.1.0.now)
anthercup_read_settled κs a r r' s s' p q =
    settled.anthercup_read_settled κs a r r' s s' (doors.anthercup_read_says κs a r s p)
    (doors.anthercup_read_says κs a r' s' q)

pub anthercup_new_desk_settled : (κs : _) (a : _) (r r' : _) (s s' : _) → new_desk.Post κs a r s →
    new_desk.Post κs a r' s' → (r ≡ r') × (s.0.now ≡ s'.0.now)
anthercup_new_desk_settled κs a r r' s s' p q =
    settled.anthercup_new_desk_settled κs a r r' s s' (doors.anthercup_new_desk_says κs a r s p)
    (doors.anthercup_new_desk_says κs a r' s' q)

pub anthercup_settle_settled : (κs : _) (a : _) (r r' : _) (s s' : _) → settle.Post κs a r s →
    settle.Post κs a r' s' → (r ≡ r') × (s.1.1.0.now ≡ s'.1.1.0.now)
anthercup_settle_settled κs a r r' s s' p q =
    settled.anthercup_settle_settled κs a r r' s s' (doors.anthercup_settle_says κs a r s p)
    (doors.anthercup_settle_says κs a r' s' q)

pub anthercup_counted_settled : (κs : _) (a : _) (r r' : _) (s s' : _) → counted.Post κs a r s →
    counted.Post κs a r' s' → r ≡ r'
anthercup_counted_settled κs a r r' s s' p q =
    settled.anthercup_counted_settled κs a r r' s s' (doors.anthercup_counted_says κs a r s p)
    (doors.anthercup_counted_says κs a r' s' q)

pub anthercup_caption_settled : (κs : _) (a : _) (r r' : _) (s s' : _) → caption.Post κs a r s →
    caption.Post κs a r' s' → (r ≡ r') × (s.1.1.1.1.0.now ≡ s'.1.1.1.1.0.now)
anthercup_caption_settled κs a r r' s s' p q =
    settled.anthercup_caption_settled κs a r r' s s' (doors.anthercup_caption_says κs a r s p)
    (doors.anthercup_caption_says κs a r' s' q)
