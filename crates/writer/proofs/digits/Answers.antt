-- `writer::digits` meets its contract: two digits behind those before them.
-- Assumes nothing.
use Rattle.std.proofs.Common.{◌≡◌, length, refl, arith, rules}
use Rattle.rules.specs.Laying.{laid}
use Rattle.writer.specs.Judging.{digits_of}
use Rattle.writer.proofs.Pairs.{digits_put, digits_all}
use Rattle.writer.proofs.digits.Goals as goal

pub loop-i-init : goal.loop-i-init
unfolding laid digits_of
loop-i-init g c = refl

pub loop-i-preserved : goal.loop-i-preserved
loop-i-preserved g c =
    let n : length c.args.numbers ≡ g.row.N = search rules in
    digits_put c.args.numbers c.loop-i.i (omega arith) _ c.loop-i.invariant (omega arith)

pub returns : goal.returns
returns g c =
    let n : g.row.N ≡ length c.args.numbers = search rules in
    digits_all c.args.numbers c.loop-i.i (omega arith) _ c.loop-i.invariant _ n c.loop-i-test.false
