-- `firmware::packed` meets its contract: six fields of one word.
-- Assumes nothing.
use mathlib.Core.Path.{refl}
use Rattle.firmware.specs.Word.{packed}
use Rattle.firmware.proofs.packed.Goals as goal

pub returns : goal.returns
unfolding packed
returns c = refl
