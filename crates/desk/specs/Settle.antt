-- What settling does to a desk (document 01, The desk; document 02, Q-6), by an edition and a way (Q-5).
-- Assumes nothing.
use Rattle.std.specs.Prelude.{ℕ, List, get_or, replicate, Result, Ok, Err, Option as Maybe, Some, None}
use Rattle.std.proofs.Math.Option.{Option, none, some}
use Rattle.rules.specs.Tests.{◌=?◌, pick}
use Rattle.rules.specs.Table.{Rules, rules_of}
use Rattle.rules.specs.Editions.{known, book_of, named_by}
use Rattle.rules.specs.declared.Fault.{Fault}
use Rattle.rules.specs.Refusals.{noted}
use Rattle.message.specs.Parts.{counted_at, part_of}
use Rattle.message.specs.Verdict.{verdict_of}
use Rattle.desk.specs.declared.Lamp.{Lamp}
use Rattle.desk.specs.declared.Lamp.TheVariants as lamp
use Rattle.desk.specs.declared.Change.{Change}
use Rattle.desk.specs.declared.Change.TheVariants.{Nothing}
use Rattle.desk.specs.declared.Desk.{Desk}
use Rattle.desk.specs.declared.Outcome.{Outcome}
use Rattle.desk.specs.Told.{told, Settling}
use Rattle.desk.specs.References.{place_count, free, places_fit, change_by, is_full, places_after}

-- number and lamp unknown, all sixteen places free
abbrev pub new_desk : Desk
new_desk = record { waiting = None; lamp = lamp.Unknown; places = replicate place_count free }

-- the waiting number, given the contents of 13H that count: set to their octet, else as it was
unfoldable pub waiting_after : Option (List ℕ) → Maybe ℕ → Maybe ℕ
waiting_after none w = w
waiting_after (some v) w = Some (get_or v 0 0)

-- the lamp, given the contents of 0BH that count: 00H is off, FFH is on, else as it was
unfoldable pub lamp_after : Option (List ℕ) → Lamp → Lamp
lamp_after none l = l
lamp_after (some v) l = pick (get_or v 0 0 =? 0x00) lamp.Off lamp.On

-- what is done to a reference, given the contents of 0DH that count
unfoldable pub change_in : List ℕ → Change
change_in v = change_by (get_or v 0 0) (get_or v 1 0) (get_or v 2 0)

unfoldable pub change_of : Option (List ℕ) → Change
change_of none = Nothing
change_of (some v) = change_in v

-- the work is done, and the desk is d; or a refusal, and the desk stays
abbrev pub done : Desk → Outcome
done d = record { desk = d; answer = Ok tt }

abbrev pub refused : Fault → Desk → Outcome
refused f d = record { desk = d; answer = Err f }

-- the outcome of settling the desk d: another desk or a refusal
abbrev pub outcome : Desk → Result Desk Fault → Outcome
outcome d (Ok e) = done e
outcome d (Err f) = refused f d

-- a refusal that is no octet's stands at 0
unfoldable pub refused_with : ℕ → Desk → Outcome
refused_with n d = refused (noted n 0) d

-- what a notice sets, given the contents of each type that count
unfoldable pub noticed : (ℕ → Option (List ℕ)) → Desk → Desk
noticed counts d = record {
  waiting = waiting_after (counts 0x13) d.waiting;
  lamp = lamp_after (counts 0x0B) d.lamp;
  places = places_after (change_of (counts 0x0D)) d.places;
}

-- nothing of a notice is settled where the reference that it adds has no place
unfoldable pub settled_notice : (ℕ → Option (List ℕ)) → Desk → Outcome
settled_notice counts d = pick (is_full (change_of (counts 0x0D)) d.places) (refused_with 21 d) (done (noticed counts d))

-- the contents of a type that count in the octets of a message
unfoldable pub counted_in : Rules → List ℕ → ℕ → Option (List ℕ)
counted_in R o t = part_of o (counted_at R o t)

-- a notice is settled; a call message changes nothing
unfoldable pub settled_message : Rules → List ℕ → Desk → Outcome
settled_message R o d = pick (get_or o 0 0 =? 0x82) (settled_notice (counted_in R o) d) (done d)

-- octets that the whole read declines get its number, place and parameter, and leave the desk as it was
unfoldable pub settled_under : Rules → Result ℕ Fault → List ℕ → Desk → Outcome
settled_under R (Ok n) o d = settled_message R o d
settled_under R (Err f) o d = refused f d

-- the outcome of settling octets on a desk: 17 for one with a place out of range or a reference twice, else by the
-- whole read's verdict on the octets
unfoldable pub settle_of : Rules → Desk → List ℕ → Outcome
settle_of R d o = pick (places_fit d.places) (settled_under R (verdict_of R o) o d) (refused_with 17 d)

-- without a book: 17 as by any, else 16
unfoldable pub settled_by_none : Desk → Outcome
settled_by_none d = pick (places_fit d.places) (refused_with 16 d) (refused_with 17 d)

-- the outcome by an edition and a way, and the edition that its answer names: by the book of known numbers, and
-- without one where the edition or the way is unknown
unfoldable pub settle_in : ℕ → ℕ → Desk → List ℕ → Settling
settle_in e w d o =
    pick (known e w)
    (record {
      edition = named_by (told (settle_of (rules_of (book_of e w)) d o).answer).number e;
      answer = settle_of (rules_of (book_of e w)) d o;
    })
    (record { edition = 0; answer = settled_by_none d })
