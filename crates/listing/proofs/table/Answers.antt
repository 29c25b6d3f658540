-- `listing::table` meets its contract: the rows, computed.
-- Assumes nothing.
use Rattle.std.proofs.Common.{refl}
use Rattle.rules.specs.Tests.{◌=?◌, pick}
use Rattle.rules.specs.Table.{rules_of, row_in, row_of, class_of, rival_of, ascii}
use Rattle.listing.proofs.table.Goals as goal

pub returns : goal.returns
unfolding rules_of row_in row_of class_of rival_of ascii pick ◌=?◌
returns c = refl
