-- `writer::entry_length` meets its contract: the kind of value, and then the contents.
-- Assumes nothing.
use Rattle.std.proofs.Common.{refl, arith}
use Rattle.rules.proofs.Laying.{part_is}
use Rattle.rules.proofs.Telling.{telling}
use Rattle.writer.proofs.Judging.{head_few, padded_take, padded_long}
use Rattle.writer.proofs.Calls.{entry_takes}
use Rattle.writer.proofs.entry_length.Goals as goal

pub returns-then-from-form_of : goal.returns-then-from-form_of
returns-then-from-form_of c =
    let e =
    entry_takes _ c.args.texts.now c.args.e (omega arith) _ _ _ _ c.class_of-class.ensures c.flatten-flat.ensures
    c.from.ensures
    c.form_of.ensures _ refl _ refl in
    grind (arith, telling, e)

pub shared_ref_as_front-joined_fit : goal.shared_ref_as_front-joined_fit
shared_ref_as_front-joined_fit c =
    omega (arith, padded_long _ _ c.spell-spelling.ensures, head_few c.args.e.value)

pub returns-then-joined_fit : goal.returns-then-joined_fit
returns-then-joined_fit c =
    let e =
    entry_takes _ c.args.texts.now c.args.e (omega arith) _ _ _ _ c.class_of-class.ensures c.flatten-flat.ensures
    c.from.ensures
    c.form_of.ensures _ (padded_take _ _ c.spell-spelling.ensures) _
    (part_is c.args.texts.now c.flatten-flat.result.start c.flatten-flat.result.length) in
    grind (arith, telling, e)

pub returns-else-joined_fit : goal.returns-else-joined_fit
returns-else-joined_fit c =
    let e =
    entry_takes _ c.args.texts.now c.args.e (omega arith) _ _ _ _ c.class_of-class.ensures c.flatten-flat.ensures
    c.from.ensures
    c.form_of.ensures _ (padded_take _ _ c.spell-spelling.ensures) _
    (part_is c.args.texts.now c.flatten-flat.result.start c.flatten-flat.result.length) in
    grind (arith, telling, e)
