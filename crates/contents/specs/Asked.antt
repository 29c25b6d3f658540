-- How the octets of a class are judged (document 02, Q-7), told of `asked_kind`'s number.
-- Assumes nothing.
use Rattle.std.specs.Prelude.{ℕ}
use Rattle.rules.specs.Tests.{◌=?◌, pick}
use Rattle.rules.specs.OctetRows.{mixed, asked_kind}
use Rattle.rules.specs.declared.Class.{Class}
use Rattle.contents.specs.declared.Asked.{Asked}
use Rattle.contents.specs.declared.Asked.TheVariants.{Code, Kind, Mixed}

-- 0 where they are not judged by their rows, `mixed` where they are of no one kind, else the kind
unfoldable pub told : ℕ → Asked
told k = pick (k =? 0) Code (pick (k =? mixed) Mixed (Kind k))

abbrev pub asked_of : Class → Asked
asked_of c = told (asked_kind c)
