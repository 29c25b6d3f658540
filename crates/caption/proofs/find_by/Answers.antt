-- `caption::find_by` meets its contract: as the verdict on the message goes.
-- Assumes nothing.
use mathlib.Core.Path.{sym, ◌∙◌, ap}
use Rattle.std.proofs.Common.{Ok, Err}
use Rattle.std.proofs.lemmas.Result.{err_from_is_err_and}
use Rattle.caption.specs.Caption.{find_under, find_of}
use Rattle.caption.proofs.find_by.Goals as goal

pub returns : goal.returns
unfolding find_of find_under
returns c = rw (sym c.judge.ensures ∙ c.in_ok-judge.was) (ap Ok c.by_name.ensures)

pub returns-in_err-judge : goal.returns-in_err-judge
unfolding find_of find_under
returns-in_err-judge c =
    let p = err_from_is_err_and c.from_residual.result c.from_residual.ensures.1 in
    rw (sym c.judge.ensures ∙ c.in_err-judge.was) (p.1 ∙ ap Err p.2)
