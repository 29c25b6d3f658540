-- `writer::judge` meets its contract: of the entries it answers what came of measuring them.
-- Assumes nothing.
use Rattle.std.proofs.Common.{sym, ap, ◌∙◌, Err, arith, rules}
use Rattle.std.proofs.lemmas.Result.{err_from_is_err_and}
use Rattle.rules.proofs.Telling.{telling}
use Rattle.writer.specs.Writing.{write_of}
use Rattle.writer.proofs.Judging.{on_measure}
use Rattle.writer.proofs.Calls.{entries_went}
use Rattle.writer.proofs.judge.Goals as goal

pub returns-in_err-size : goal.returns-in_err-size
unfolding write_of on_measure
returns-in_err-size c =
    let p = err_from_is_err_and c.from_residual.result c.from_residual.ensures.1 in
    let w =
    entries_went _ c.args.draft c.args.texts.now c.args.room (search rules) (omega arith) _
    (sym c.in_err-size.was ∙ c.measure_entries.ensures) in
    p.1 ∙ ap Err p.2 ∙ grind (arith, telling, w)

pub returns : goal.returns
unfolding write_of on_measure
returns c =
    let w =
    entries_went _ c.args.draft c.args.texts.now c.args.room (search rules) (omega arith) _
    (sym c.in_ok-size.was ∙ c.measure_entries.ensures) in
    grind (arith, telling, w)
