-- `walker::step_by` meets its contract: as the verdict on the message goes.
-- Assumes nothing.
use mathlib.Core.Path.{sym, ◌∙◌, ap}
use Rattle.std.proofs.Common.{Err}
use Rattle.std.proofs.lemmas.Result.{err_from_is_err_and}
use Rattle.walker.specs.Steps.{step_under, step_of}
use Rattle.walker.proofs.step_by.Goals as goal

pub returns : goal.returns
unfolding step_of step_under
returns c = rw (sym c.judge.ensures ∙ c.in_ok-judge.was) c.walk_to.ensures

pub returns-in_err-judge : goal.returns-in_err-judge
unfolding step_of step_under
returns-in_err-judge c =
    let p = err_from_is_err_and c.from_residual.result c.from_residual.ensures.1 in
    rw (sym c.judge.ensures ∙ c.in_err-judge.was) (p.1 ∙ ap Err p.2)
