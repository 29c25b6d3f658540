-- `contents::fits` meets its contract: the length is one of the class's, and each octet may stand where it stands.
-- Assumes nothing.
use mathlib.Core.Path.{◌∙◌}
use Rattle.rules.proofs.Returns.{via}
use Rattle.contents.proofs.Fitting.{too_long, length_not, octets_decide}
use Rattle.contents.proofs.fits.Goals as goal

pub returns-then-v-gt-LONGEST : goal.returns-then-v-gt-LONGEST
returns-then-v-gt-LONGEST c = too_long _ _ c.if-v-gt-LONGEST.true

pub returns-then-length_fits : goal.returns-then-length_fits
returns-then-length_fits c =
    octets_decide _ _ (via _ _ _ c.length_fits.ensures c.if-length_fits.true) _
    c.first_wrong.ensures

pub returns-else-length_fits : goal.returns-else-length_fits
returns-else-length_fits c = c.if-length_fits.false ∙ length_not _ _ (via _ _ _ c.length_fits.ensures c.if-length_fits.false)
