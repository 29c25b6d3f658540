-- `listener::run` meets its contract. The loop's invariant: the state is in range, and the run from here on gives
-- what the whole run gives. The measure is what is left of the run.
-- Assumes nothing.
use Rattle.rules.specs.declared.Spot.{Spot}
use Rattle.rules.specs.declared.Stage.{Stage}
use Rattle.rules.specs.declared.State.TheVariants.{Waiting, Message, Refused}
use Rattle.std.proofs.Common.{◌≡◌, true, T, drop, sym, refl, ap, ◌∙◌, subst, arith, rules}
use Rattle.rules.specs.Table.{rules_of}
use Rattle.rules.specs.Judge.{machine, in_range}
use Rattle.rules.specs.declared.State.{State}
use Rattle.listener.specs.Heard.{stopped, run_from}
use Rattle.listener.proofs.Runs.{run_zero, ran_stopped, ran_out}
use Rattle.listener.proofs.run.Goals as goal

-- a state that doesn't wait has its answer
ended : (s : State) → ((t : Stage) (q : Spot) → s ≡ Waiting t q → ⊥) → stopped s ≡ true
unfolding stopped
ended (Waiting t q) n = absurd (n t q refl)
ended (Message k) n = refl
ended (Refused f) n = refl

pub loop-i-init : goal.loop-i-init
loop-i-init c = (search rules, c.requires, run_zero _ _ _)

pub onward-next-requires : goal.onward-next-requires
onward-next-requires c = (
  subst (λ (w : State). T (in_range (rules_of c.args.book) w)) c.in-Waiting.is
      c.loop-i.invariant.1,
  c.loop-i-test.true,
)

pub loop-i-smaller : goal.loop-i-smaller
loop-i-smaller c = omega (arith, c.onward-next.ensures.further, c.onward-next.ensures.inside)

pub loop-i-preserved : goal.loop-i-preserved
loop-i-preserved c =
    let on = c.onward-next.ensures in
    let at = c.loop-i in (
      on.inside,
      on.is_in_range,
      on.same ∙ ap (λ (w : State). run_from at.i
          (machine (rules_of c.args.book)) w (drop at.i c.args.octets.now))
          (sym c.in-Waiting.is) ∙ at.invariant.2,
    )

pub returns-in_default : goal.returns-in_default
unfolding stopped
returns-in_default c = sym (ran_stopped _ _ _ _ (ended _ c.in_default.not-Waiting)) ∙ c.loop-i.invariant.2

pub returns-after-loop-i : goal.returns-after-loop-i
returns-after-loop-i c = sym (ran_out _ _ _ _ c.loop-i-test.false) ∙ c.loop-i.invariant.2
