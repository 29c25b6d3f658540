-- `walker::walk_to` meets its contract: at first all are left.
-- Assumes nothing.
use Rattle.std.proofs.Common.{length, sym, ap, ◌∙◌, subst, arith}
use Rattle.rules.specs.Message.{most}
use Rattle.message.specs.Walk.{founds_left}
use Rattle.walker.proofs.Steps.{walked, walked_is, found_here, found_on, found_none, Within, founds_inside}
use Rattle.walker.proofs.walk_to.Goals as goal

pub loop-found-init : goal.loop-found-init
loop-found-init c =
    let all = ap founds_left c.into_iter-found-iterator.ensures.into_iter_gives ∙ c.new-found-items.ensures in (
      ap (walked c.args.at 2) all ∙ sym (walked_is most c.args.message.now c.args.at 2),
      subst (Within (length c.args.message.now)) (sym all) (founds_inside most c.args.message.now 2),
    )

pub overflow_add-next : goal.overflow_add-next
overflow_add-next c =
    let one = subst (Within (length c.args.message.now)) c.in-Some.ensures.steps c.loop-found.invariant.1 in
    omega (arith, one.0)

pub returns-then-place-at : goal.returns-then-place-at
returns-then-place-at c =
    sym (found_here _ _ _ _ c.if-place-at.true)
    ∙ sym (ap (walked c.args.at c.loop-found.place) c.in-Some.ensures.steps)
    ∙ c.loop-found.invariant.0

pub loop-found-preserved : goal.loop-found-preserved
loop-found-preserved c =
    let one = subst (Within (length c.args.message.now)) c.in-Some.ensures.steps c.loop-found.invariant.1 in (
      sym (found_on _ _ _ _ c.if-place-at.false)
          ∙ sym (ap (walked c.args.at c.loop-found.place) c.in-Some.ensures.steps)
          ∙ c.loop-found.invariant.0,
      one.1,
    )

pub returns : goal.returns
returns c =
    sym (found_none c.args.at c.loop-found.place _ c.in-None.ensures.steps.0)
    ∙ c.loop-found.invariant.0
