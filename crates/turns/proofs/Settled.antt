-- The promise of the public function settles its answer: any two outcomes that it allows are equal. Assumes nothing.
use Rattle.std.proofs.Common.{◌≡◌}
use Rattle.turns.proofs.One.{turned_one}
use Rattle.turns.proofs.through.Reads as through

pub through_settled : (κs : _) (a : _) (r r' : _) (s s' : _) → through.Post κs a r s → through.Post κs a r' s' → r ≡ r'
through_settled κs a r r' s s' p q = turned_one _ _ _ _ _ _ r r' p q
