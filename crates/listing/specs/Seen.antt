-- The rule of a row of the code's table.
-- Assumes nothing.
use Rattle.rules.specs.Table as table
use Rattle.rules.specs.Table.{rules_of, class_of, rival_of}
use Rattle.rules.specs.declared.Book.TheVariants.{PresentLenient}
use Rattle.listing.specs.declared.Row.{Row}

-- its class and rival are those of its type
abbrev pub seen : Row → table.Row
seen r = record {
  kind = r.kind;
  class = class_of (rules_of PresentLenient) r.kind;
  rival = rival_of (rules_of PresentLenient) r.kind;
  key = r.key.now;
}
