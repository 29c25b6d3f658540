-- Every public promise settles its outcome: two that it allows are equal, the answer and what the record holds
-- afterwards.
-- Assumes nothing.
use mathlib.Core.Path.{◌≡◌, sym, ◌∙◌}
use Rattle.firmware.proofs.anthercup_reset.Reads as reset
use Rattle.firmware.proofs.anthercup_reset_way.Reads as reset_way
use Rattle.firmware.proofs.anthercup_listen.Reads as listen
use Rattle.firmware.proofs.anthercup_read.Reads as read
use Rattle.firmware.proofs.anthercup_read_way.Reads as read_way
use Rattle.firmware.proofs.anthercup_new_desk.Reads as new_desk
use Rattle.firmware.proofs.anthercup_settle.Reads as settle
use Rattle.firmware.proofs.anthercup_counted.Reads as counted
use Rattle.firmware.proofs.anthercup_caption.Reads as caption

pub anthercup_reset_way_settled : (κs : _) (a : _) (r r' : _) (s s' : _) → reset_way.Post κs a r s →
    reset_way.Post κs a r' s' → (r ≡ r') × (s.1.1.0.now ≡ s'.1.1.0.now)
anthercup_reset_way_settled κs a r r' s s' p q = (p.0 ∙ sym q.0, p.1 ∙ sym q.1)

pub anthercup_reset_settled : (κs : _) (a : _) (r r' : _) (s s' : _) → reset.Post κs a r s →
    reset.Post κs a r' s' → (r ≡ r') × (s.1.0.now ≡ s'.1.0.now)
anthercup_reset_settled κs a r r' s s' p q = (p.0 ∙ sym q.0, p.1 ∙ sym q.1)

pub anthercup_listen_settled : (κs : _) (a : _) (r r' : _) (s s' : _) → listen.Post κs a r s →
    listen.Post κs a r' s' → (r ≡ r') × (s.0.now ≡ s'.0.now)
anthercup_listen_settled κs a r r' s s' p q = (p.0 ∙ sym q.0, p.1 ∙ sym q.1)

pub anthercup_read_way_settled : (κs : _) (a : _) (r r' : _) (s s' : _) → read_way.Post κs a r s →
    read_way.Post κs a r' s' →
    (r ≡ r') × (s.1.1.1.0.now ≡ s'.1.1.1.0.now) × (s.1.1.1.1.0.now ≡ s'.1.1.1.1.0.now)
anthercup_read_way_settled κs a r r' s s' p q =
    (p.0 ∙ sym q.0, p.1.0 ∙ sym q.1.0, p.1.1 ∙ sym q.1.1)

pub anthercup_read_settled : (κs : _) (a : _) (r r' : _) (s s' : _) → read.Post κs a r s → read.Post κs a r' s' →
    (r ≡ r') × (s.1.1.0.now ≡ s'.1.1.0.now) × (s.1.1.1.0.now ≡ s'.1.1.1.0.now)
anthercup_read_settled κs a r r' s s' p q = (p.0 ∙ sym q.0, p.1.0 ∙ sym q.1.0, p.1.1 ∙ sym q.1.1)

pub anthercup_new_desk_settled : (κs : _) (a : _) (r r' : _) (s s' : _) → new_desk.Post κs a r s →
    new_desk.Post κs a r' s' → (r ≡ r') × (s.0.now ≡ s'.0.now)
anthercup_new_desk_settled κs a r r' s s' p q = (p.0 ∙ sym q.0, p.1 ∙ sym q.1)

pub anthercup_settle_settled : (κs : _) (a : _) (r r' : _) (s s' : _) → settle.Post κs a r s →
    settle.Post κs a r' s' → (r ≡ r') × (s.1.1.0.now ≡ s'.1.1.0.now)
anthercup_settle_settled κs a r r' s s' p q = (p.0 ∙ sym q.0, p.1 ∙ sym q.1)

pub anthercup_counted_settled : (κs : _) (a : _) (r r' : _) (s s' : _) → counted.Post κs a r s →
    counted.Post κs a r' s' → r ≡ r'
anthercup_counted_settled κs a r r' s s' p q = p ∙ sym q

pub anthercup_caption_settled : (κs : _) (a : _) (r r' : _) (s s' : _) → caption.Post κs a r s →
    caption.Post κs a r' s' → (r ≡ r') × (s.1.1.1.1.0.now ≡ s'.1.1.1.1.0.now)
anthercup_caption_settled κs a r r' s s' p q = (p.0 ∙ sym q.0, p.1 ∙ sym q.1)
