-- `contents::content_ok` meets its contract: where no rows are asked for the first octet alone is judged.
-- Assumes nothing.
use native.Mathlib.Omega.{arith}
use mathlib.Core.Path.{sym, ◌∙◌}
use Rattle.rules.specs.OctetRows.{ok_by}
use Rattle.rules.proofs.Telling.{telling}
use Rattle.rules.proofs.Asked.{first_as, later_any}
use Rattle.contents.proofs.Asking.{code_is, mixed_is, kind_is, kind_some, kind_one}
use Rattle.contents.proofs.content_ok.Goals as goal

pub code_ok-requires : goal.code_ok-requires
code_ok-requires c = code_is _ (sym c.asked_of.ensures ∙ c.in-Code.is)

pub returns-then-i-ne0 : goal.returns-then-i-ne0
unfolding ok_by
returns-then-i-ne0 c =
    let a = c.args in
    let none = code_is _ (sym c.asked_of.ensures ∙ c.in-Code.is) in
    let later = later_any a.c none a.n a.i a.m a.x (omega arith) (omega arith) in
    grind (arith, telling, later, none)

pub returns-else-i-ne0 : goal.returns-else-i-ne0
unfolding ok_by
returns-else-i-ne0 c =
    let a = c.args in
    let none = code_is _ (sym c.asked_of.ensures ∙ c.in-Code.is) in
    let first = first_as a.c none a.n a.m a.x in
    grind (arith, telling, first, none)

pub returns-in-Kind : goal.returns-in-Kind
unfolding ok_by
returns-in-Kind c =
    let told = sym c.asked_of.ensures ∙ c.in-Kind.is in
    let kind = kind_is _ _ told in
    let some = kind_some _ _ told in
    let one = kind_one _ _ told in
    grind (arith, telling, kind, some, one)

pub returns-in-Mixed : goal.returns-in-Mixed
unfolding ok_by
returns-in-Mixed c =
    let mixed = mixed_is _ (sym c.asked_of.ensures ∙ c.in-Mixed.is) in grind (arith, telling, mixed)
