-- `relist::lay_parameter` meets its contract: behind the others where it fits, and nowhere else.
-- Assumes nothing.
use Rattle.std.proofs.Common.{◌≡◌, length, arith, rules}
use Rattle.relist.proofs.Sealing.{no_parameter, one_parameter}
use Rattle.relist.proofs.lay_parameter.Goals as goal

pub returns-then-end-le255 : goal.returns-then-end-le255
returns-then-end-le255 c =
    let k : length c.args.area.now ≡ 255 = search rules in
    one_parameter _ _ _ _ (omega arith) _ c.copy_from_slice.ensures.after

pub returns-else-end-le255 : goal.returns-else-end-le255
returns-else-end-le255 c =
    let k : length c.args.area.now ≡ 255 = search rules in no_parameter _ _ _ _ (omega arith)
