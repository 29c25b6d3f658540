-- `caption::by_caller` meets its contract: as the caller counts or not.
-- Assumes nothing.
use mathlib.Core.Path.{refl, sym, ◌∙◌}
use native.Mathlib.Omega.{arith}
use Rattle.caption.specs.Caption.{by_caller}
use Rattle.message.proofs.Places.{counted_inside}
use Rattle.caption.proofs.by_caller.Goals as goal

pub by_entry-requires : goal.by_entry-requires
by_entry-requires c =
    omega (
      arith,
      counted_inside _ _ _ _ _
          (sym c.counted-part.ensures ∙ c.in-Some.is),
    )

pub returns-in-Some : goal.returns-in-Some
unfolding by_caller
returns-in-Some c =
    rw (sym c.counted-part.ensures ∙ c.in-Some.is)
    c.by_entry.ensures

pub returns-in-None : goal.returns-in-None
unfolding by_caller
returns-in-None c = rw (sym c.counted-part.ensures ∙ c.in-None.is) refl
