-- `caption::by_name` meets its contract: as the name counts or not.
-- Assumes nothing.
use mathlib.Core.Path.{refl, sym, ◌∙◌}
use Rattle.caption.specs.Caption.{by_name}
use Rattle.caption.proofs.by_name.Goals as goal

pub returns-in-Some : goal.returns-in-Some
unfolding by_name
returns-in-Some c = rw (sym c.counted-part.ensures ∙ c.in-Some.is) refl

pub returns-in-None : goal.returns-in-None
unfolding by_name
returns-in-None c = rw (sym c.counted-part.ensures ∙ c.in-None.is) c.by_caller.ensures
