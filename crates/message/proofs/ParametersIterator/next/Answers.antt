-- `next` of `message::Parameters` meets its contract: the first of those that are left, or none is left.
-- Assumes nothing.
use Rattle.std.proofs.Common.{length, sym, ap, ◌∙◌, arith, rules}
use Rattle.message.proofs.Searching.{found_inside}
use Rattle.message.proofs.Walking.{none_left, one_left, ended}
use Rattle.message.proofs.ParametersIterator.next.Goals as goal

pub returns-then-self-eq0-clause-steps : goal.returns-then-self-eq0-clause-steps
returns-then-self-eq0-clause-steps c =
    let none = sym (none_left _ c.args.self.now.octets.now c.args.self.now.place c.if-self-eq0.true) in
    (none, none)

pub returns-in_err-found-clause-steps : goal.returns-in_err-found-clause-steps
returns-in_err-found-clause-steps c =
    let none = ended c.args.self.now.turns _ _ (sym c.parameter.ensures ∙ c.in_err-found.was) in
    rw c.from_residual.ensures (none, none)

pub overflow_add-self : goal.overflow_add-self
overflow_add-self c =
    omega (arith, found_inside _ _ _ _ _ _ c.parameter.ensures c.in_ok-found.was)

pub returns-clause-steps : goal.returns-clause-steps
returns-clause-steps c =
    one_left _ _ _ (omega arith) _ (sym c.parameter.ensures ∙ c.in_ok-found.was)

pub returns-clause-goes : goal.returns-clause-goes
returns-clause-goes c =
    let step = one_left c.args.self.now.turns _ _ (omega arith) _ (sym c.parameter.ensures ∙ c.in_ok-found.was) in
    let shorter = ap length step in search rules
