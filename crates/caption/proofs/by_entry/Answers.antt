-- `caption::by_entry` meets its contract: as the search for the caller's octets goes.
-- Assumes nothing.
use Prim.Native.Nat.{◌+◌, ◌-◌}
use mathlib.Core.Path.{◌≡◌, refl, sym, ◌∙◌}
use native.Mathlib.Omega.{arith}
use Rattle.caption.specs.Caption.{by_entry}
use Rattle.caption.proofs.by_entry.Goals as goal

pub returns-in-Some : goal.returns-in-Some
unfolding by_entry
returns-in-Some c =
    let a = c.args in
    let z : a.start + a.n - a.start ≡ a.n = omega arith in
    rw (sym (rw z at c.entry_for-entry.ensures) ∙ c.in-Some.is) refl

pub returns-in-None : goal.returns-in-None
unfolding by_entry
returns-in-None c =
    let a = c.args in
    let z : a.start + a.n - a.start ≡ a.n = omega arith in
    rw (sym (rw z at c.entry_for-entry.ensures) ∙ c.in-None.is) refl
