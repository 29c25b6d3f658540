-- `contents::first_wrong` meets its contract: a class that asks for rows is gone along by them, of the others the first
-- octet decides.
-- Assumes nothing.
use mathlib.Core.Path.{refl, sym, ◌∙◌}
use native.Mathlib.Omega.{arith}
use Rattle.rules.proofs.Octets.{octets_known}
use Rattle.rules.proofs.Returns.{pick_t, pick_f}
use Rattle.rules.proofs.Standing.{none_stand}
use Rattle.rules.proofs.Asked.{none_asked, code_front}
use Rattle.contents.proofs.first_wrong.Goals as goal

pub returns-then-n-eq0 : goal.returns-then-n-eq0
returns-then-n-eq0 c = none_stand _ _ 0 0 _ c.if-n-eq0.true

pub by_rows-requires : goal.by_rows-requires
by_rows-requires c = (sym c.asks.ensures ∙ c.if-asks.true, omega (arith, c.if-n-eq0.false))

pub code_ok-requires : goal.code_ok-requires
code_ok-requires c = none_asked _ (sym c.asks.ensures ∙ c.if-asks.false)

pub returns-then-code_ok : goal.returns-then-code_ok
returns-then-code_ok c =
    let v = c.args.v.now in
    let none = none_asked _ (sym c.asks.ensures ∙ c.if-asks.false) in
    code_front _ none v _ _ c.if-n-eq0.false (octets_known v c.type_inv.v)
    c.code_ok.ensures (pick_t _ _ _ _ c.if-code_ok.true refl)

pub returns-else-code_ok : goal.returns-else-code_ok
returns-else-code_ok c =
    let v = c.args.v.now in
    let none = none_asked _ (sym c.asks.ensures ∙ c.if-asks.false) in
    code_front _ none v _ _ c.if-n-eq0.false (octets_known v c.type_inv.v)
    c.code_ok.ensures (pick_f _ _ _ _ c.if-code_ok.false refl)
