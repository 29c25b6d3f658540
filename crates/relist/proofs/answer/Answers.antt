-- `relist::answer` meets its contract: no type, a refusal, or the message.
-- Assumes nothing.
use Rattle.std.proofs.Common.{rules, ◌≡◌, ◌+◌, ◌≤◌, length, sym, ap, ◌∙◌, arith, length-take-le, Err}
use Rattle.std.proofs.lemmas.Result.{err_from_is_err_and}
use Rattle.writer.specs.Writing.{output_after}
use Rattle.relist.proofs.Answering.{untouched, first_inside, no_kind, answered, message_fits, message_laid}
use Rattle.relist.proofs.answer.Goals as goal
use Rattle.relist.proofs.answer.Goals.{In_ok-whole}

-- an answer that is a message: its parameters fit
fits : (c : In_ok-whole) →
    (c.take_rows-lines.result.size ≤ 255) × (c.take_rows-lines.result.size + 3 ≤ length c.args.out.now)
fits c =
    message_fits _ _ c.line_end-first.ensures _ _ _ c.kind_in.ensures (sym c.ok_or.ensures.value ∙ c.in_ok-kind.was) _ _
    c.take_rows-lines.ensures _ _ c.close.ensures _ c.in_ok-whole.was

inside : (c : In_ok-whole) → c.take_rows-lines.result.size ≤ length c.take_rows-lines.new.area
inside c =
    let k : length c.take_rows-lines.new.area ≡ 255 = search rules in
    omega (arith, (fits c).0)

pub slice_bounds-kind_in-end : goal.slice_bounds-kind_in-end
slice_bounds-kind_in-end c = sym (length-take-le _ _ (first_inside _ _ c.line_end-first.ensures))

pub returns-in_err-kind : goal.returns-in_err-kind
returns-in_err-kind c =
    let p = err_from_is_err_and c.from_residual.result c.from_residual.ensures.1 in
    record {
      answer = p.1 ∙ ap Err p.2
          ∙ no_kind _ _ c.line_end-first.ensures _ _ _ c.kind_in.ensures c.noted.ensures
          (sym c.ok_or.ensures.value ∙ c.in_err-kind.was) _;
      output = untouched _ _ _ _ (p.1 ∙ ap Err p.2);
    }

pub take_rows-lines-requires : goal.take_rows-lines-requires
take_rows-lines-requires c = first_inside _ _ c.line_end-first.ensures

pub returns-in_err-whole : goal.returns-in_err-whole
returns-in_err-whole c =
    let p = err_from_is_err_and c.from_residual-in_err-whole.result c.from_residual-in_err-whole.ensures.1 in
    record {
      answer = p.1 ∙ ap Err p.2 ∙ sym c.in_err-whole.was
          ∙ answered _ _ c.line_end-first.ensures _ _ _ c.kind_in.ensures (sym c.ok_or.ensures.value ∙ c.in_ok-kind.was)
          _ _ c.take_rows-lines.ensures _ _ c.close.ensures;
      output = untouched _ _ _ _ (p.1 ∙ ap Err p.2);
    }

pub slice_bounds-area-end : goal.slice_bounds-area-end
slice_bounds-area-end c = inside (goal.at.slice_bounds-area-end c).In_ok-whole

pub slice_bounds-seal-end : goal.slice_bounds-seal-end
slice_bounds-seal-end c = sym (length-take-le _ _ (inside (goal.at.slice_bounds-seal-end c).In_ok-whole))

pub seal-requires : goal.seal-requires
seal-requires c =
    let told = (goal.at.seal-requires c).In_ok-whole in
    let n = length-take-le c.take_rows-lines.result.size c.take_rows-lines.new.area (inside told) in
    (omega (arith, (fits told).0), omega (arith, (fits told).1))

pub returns : goal.returns
unfolding output_after
returns c =
    record {
      answer = sym c.in_ok-whole.was
          ∙ answered _ _ c.line_end-first.ensures _ _ _ c.kind_in.ensures (sym c.ok_or.ensures.value ∙ c.in_ok-kind.was)
          _ _ c.take_rows-lines.ensures _ _ c.close.ensures;
      output = message_laid _ _ c.line_end-first.ensures _ _ _ c.kind_in.ensures
          (sym c.ok_or.ensures.value ∙ c.in_ok-kind.was) _ _ c.take_rows-lines.ensures _ _ c.close.ensures _
          c.in_ok-whole.was _ _ c.seal.ensures;
    }
