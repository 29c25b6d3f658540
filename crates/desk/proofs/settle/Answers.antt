-- `desk::settle` meets its contract: the edition that is named goes by the answer's number.
-- Assumes nothing.
use Prim.Native.Nat.{ℕ}
use mathlib.Core.Path.{sym, ◌∙◌, ap}
use Rattle.rules.specs.Tests.{◌=?◌, ◌or◌, pick}
use Rattle.rules.specs.Editions.{named_by}
use Rattle.desk.specs.Told.{told}
use Rattle.desk.specs.Settle.{refused, outcome}
use Rattle.desk.proofs.Editions.{named_is}
use Rattle.desk.proofs.settle.Goals as goal

pub returns-in-Ok : goal.returns-in-Ok
unfolding told named_by ◌=?◌ ◌or◌ pick
returns-in-Ok c = named_is _ _ _ _ _ (ap (outcome c.args.desk) (sym c.in-Ok.is) ∙ c.desk_after.ensures)

pub returns-in-Err : goal.returns-in-Err
unfolding told
returns-in-Err c =
    ap (λ (e : ℕ). record { edition = e; answer = refused c.in-Err.fault c.args.desk }) c.named_by.ensures
    ∙ named_is _ _ _ _ _ (ap (outcome c.args.desk) (sym c.in-Err.is) ∙ c.desk_after.ensures)
