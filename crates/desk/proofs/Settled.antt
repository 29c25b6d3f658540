-- Every public promise settles its outcome: two that it allows are equal. Nothing is lent for writing.
-- Assumes nothing.
use mathlib.Core.Path.{◌≡◌, sym, ◌∙◌}
use Rattle.desk.proofs.new_desk.Reads as new_desk
use Rattle.desk.proofs.settle.Reads as settle

pub new_desk_settled : (κs : _) (a : _) (r r' : _) (s s' : _) → new_desk.Post κs a r s → new_desk.Post κs a r' s' →
    r ≡ r'
new_desk_settled κs a r r' s s' p q = p ∙ sym q

pub settle_settled : (κs : _) (a : _) (r r' : _) (s s' : _) → settle.Post κs a r s → settle.Post κs a r' s' → r ≡ r'
settle_settled κs a r r' s s' p q = p ∙ sym q
