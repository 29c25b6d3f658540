-- Every public promise settles its outcome: two that it allows are equal. Nothing is lent for writing.
-- Assumes nothing.
use Rattle.std.proofs.Common.{◌≡◌, sym, ◌∙◌}
use Rattle.listener.proofs.reset_way.Reads as reset_way
use Rattle.listener.proofs.reset.Reads as reset
use Rattle.listener.proofs.listen.Reads as listen

pub reset_way_settled : (κs : _) (a : _) (r r' : _) (s s' : _) → reset_way.Post κs a r s → reset_way.Post κs a r' s' →
    r ≡ r'
reset_way_settled κs a r r' s s' p q = p ∙ sym q

pub reset_settled : (κs : _) (a : _) (r r' : _) (s s' : _) → reset.Post κs a r s → reset.Post κs a r' s' → r ≡ r'
reset_settled κs a r r' s s' p q = p ∙ sym q

pub listen_settled : (κs : _) (a : _) (r r' : _) (s s' : _) → listen.Post κs a r s → listen.Post κs a r' s' → r ≡ r'
listen_settled κs a r r' s s' p q = p ∙ sym q
