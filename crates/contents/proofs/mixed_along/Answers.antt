-- `contents::mixed_along` meets its contract: the classes that are left are short.
-- Assumes nothing.
use Rattle.rules.proofs.Asked.{the_short}
use Rattle.contents.proofs.mixed_along.Goals as goal

pub short_along-requires : goal.short_along-requires
short_along-requires c =
    let told = c.in_default in (c.requires.0, the_short _ c.requires.1 told.not-Date told.not-Terminal told.not-Display)
