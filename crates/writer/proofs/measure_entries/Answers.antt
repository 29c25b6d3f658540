-- `writer::measure_entries` meets its contract: an entry after the other.
-- Assumes nothing.
use Rattle.std.proofs.Common.{◌+◌, ◌≤◌, sym, ap, ◌∙◌, Err, arith}
use Rattle.std.proofs.lemmas.Result.{err_from_is_err_and}
use Rattle.rules.specs.Table.{rules_of}
use Rattle.writer.proofs.Entries.{Measured, all_measured, went_bad, went_on}
use Rattle.writer.proofs.measure_entries.Goals as goal
use Rattle.writer.proofs.measure_entries.Goals.{In_ok-length}

-- an entry that makes a parameter
went : (c : In_ok-length) → (c.in_ok-length.length ≤ 253)
    × Measured (rules_of c.args.book) c.args.texts.now c.args.entries.now
    (c.loop-i.size + (2 + c.in_ok-length.length)) (c.loop-i.i + 1)
went c =
    went_on _ _ _ _ _ c.loop-i.invariant.measured _ c.loop-i-test.true _ _ _ c.entry_length.ensures
    (sym c.ok_or.ensures.value ∙ c.in_ok-length.was)

pub returns-in_err-length : goal.returns-in_err-length
returns-in_err-length c =
    let p = err_from_is_err_and c.from_residual.result c.from_residual.ensures.1 in
    p.1 ∙ ap Err p.2
    ∙ went_bad _ _ _ _ _ c.loop-i.invariant.measured _ c.loop-i-test.true _ _ _ c.entry_length.ensures
    c.noted.ensures (sym c.ok_or.ensures.value ∙ c.in_err-length.was)

pub loop-i-preserved : goal.loop-i-preserved
loop-i-preserved c = record { small = omega (arith, c.loop-i.invariant.small, (went c).0); measured = (went c).1 }

pub overflow_add-size : goal.overflow_add-size
overflow_add-size c = omega (arith, (went c).0)

pub overflow_add-size-in-loop-i : goal.overflow_add-size-in-loop-i
overflow_add-size-in-loop-i c = omega (arith, (went c).0, c.loop-i.invariant.small)

pub returns : goal.returns
returns c = all_measured _ _ _ _ _ c.loop-i.invariant.measured (omega arith)
