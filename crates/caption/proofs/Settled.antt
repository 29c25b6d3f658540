-- Every public promise settles its outcome: two that it allows are equal. Of a returned part the octets are settled,
-- and the lent code; where they stand in that slice, `find` says.
-- Assumes nothing.
use mathlib.Core.Path.{◌≡◌, sym, ◌∙◌}
use Rattle.caption.proofs.find.Reads as find
use Rattle.caption.proofs.caption.Reads as caption

pub find_settled : (κs : _) (a : _) (r r' : _) (s s' : _) → find.Post κs a r s → find.Post κs a r' s' → r ≡ r'
find_settled κs a r r' s s' p q = p ∙ sym q

pub caption_settled : (κs : _) (a : _) (r r' : _) (s s' : _) → caption.Post κs a r s → caption.Post κs a r' s' →
    (r.now ≡ r'.now) × (s.1.1.1.1.0.now ≡ s'.1.1.1.1.0.now)
caption_settled κs a r r' s s' p q = (p.0 ∙ sym q.0, p.1 ∙ sym q.1)
