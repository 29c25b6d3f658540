-- `message::counted` meets its contract: a listed type is searched for with its rival; any other never counts.
-- Assumes nothing.
use Rattle.std.proofs.Common.{sym, refl, ◌∙◌}
use Rattle.rules.proofs.Returns.{pick_t, pick_f}
use Rattle.message.specs.Parts.{counted_at}
use Rattle.message.proofs.counted.Goals as goal

pub returns-then-is_listed : goal.returns-then-is_listed
unfolding counted_at
returns-then-is_listed c =
    pick_t _ _ _ _ (sym c.is_listed.ensures ∙ c.if-is_listed.true)
    (rw c.rival_of.ensures at c.search.ensures)

pub returns-else-is_listed : goal.returns-else-is_listed
unfolding counted_at
returns-else-is_listed c = pick_f _ _ _ _ (sym c.is_listed.ensures ∙ c.if-is_listed.false) refl
