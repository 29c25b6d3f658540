-- Every public promise settles its answer: two that it allows are equal. Nothing is lent for writing.
-- Assumes nothing.
use Rattle.std.proofs.Common.{◌≡◌, sym, ◌∙◌}
use Rattle.message.proofs.judge.Reads as judge
use Rattle.message.proofs.octet.Reads as octet
use Rattle.message.proofs.parameter.Reads as parameter
use Rattle.message.proofs.counted.Reads as counted
use Rattle.message.proofs.Parameters.new.Reads as new
use Rattle.message.specs.Walk.{founds_left}

pub judge_settled : (κs : _) (a : _) (r r' : _) (s s' : _) → judge.Post κs a r s → judge.Post κs a r' s' → r ≡ r'
judge_settled κs a r r' s s' p q = p ∙ sym q

pub octet_settled : (κs : _) (a : _) (r r' : _) (s s' : _) → octet.Post κs a r s → octet.Post κs a r' s' → r ≡ r'
octet_settled κs a r r' s s' p q = p ∙ sym q

pub parameter_settled : (κs : _) (a : _) (r r' : _) (s s' : _) → parameter.Post κs a r s →
    parameter.Post κs a r' s' → r ≡ r'
parameter_settled κs a r r' s s' p q = p ∙ sym q

pub counted_settled : (κs : _) (a : _) (r r' : _) (s s' : _) → counted.Post κs a r s → counted.Post κs a r' s' → r ≡ r'
counted_settled κs a r r' s s' p q = p ∙ sym q

-- of a walk over parameters: what it is still to give
pub new_settled : (κs : _) (a : _) (r r' : _) (s s' : _) → new.Post κs a r s → new.Post κs a r' s' →
    founds_left r ≡ founds_left r'
new_settled κs a r r' s s' p q = p ∙ sym q
