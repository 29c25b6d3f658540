-- `relist::number_at` meets its contract. The loop's invariant: what the digits from i on say behind the number so far
-- is what all of them say, as far as two octets hold it. The measure is what is left.
-- Assumes nothing.
use Rattle.std.proofs.Common.{refl, ◌∙◌, arith}
use Rattle.relist.specs.Back.{number_at}
use Rattle.relist.proofs.Digits.{number_more, number_all}
use Rattle.relist.proofs.number_at.Goals as goal

pub loop-i-init : goal.loop-i-init
loop-i-init c = (omega arith, refl)

pub loop-i-preserved : goal.loop-i-preserved
loop-i-preserved c = (
  omega arith,
  number_more _ _ _ c.loop-i-test.true _ c.saturating_sub.ensures ∙ c.loop-i.invariant.1,
)

pub returns : goal.returns
unfolding number_at
returns c = number_all _ _ _ c.loop-i-test.false c.loop-i.invariant.0 ∙ c.loop-i.invariant.1
