-- `reader::fits` meets its contract: the verdict, then 9. An accepted message's texts take at most 253 octets, so an
-- area that has as many is enough.
-- Assumes nothing.
use Rattle.std.proofs.Common.{Err}
use mathlib.Core.Path.{sym, ◌∙◌, ap}
use native.Mathlib.Omega.{arith}
use Rattle.rules.proofs.ContentLaw.{sound_rules}
use Rattle.rules.proofs.Octets.{octets_known}
use Rattle.reader.proofs.Answered.{accepted_small}
use Rattle.reader.proofs.Area.{room_enough, fits_accepted, fits_declined}
use Rattle.std.proofs.lemmas.Result.{err_from_is_err_and}
use Rattle.reader.proofs.fits.Goals as goal

pub short_of-requires : goal.short_of-requires
short_of-requires c =
    let octets = octets_known c.args.octets.now c.type_inv.octets in
    (accepted_small _ (sound_rules _) _ octets _
    (sym c.judge.ensures ∙ c.in_ok-judge.was)).0

pub returns-then-room-lt-LONGEST : goal.returns-then-room-lt-LONGEST
returns-then-room-lt-LONGEST c =
    c.short_of.ensures
    ∙ fits_accepted _ _ _ _ c.judge.ensures _ c.in_ok-judge.was

pub returns-else-room-lt-LONGEST : goal.returns-else-room-lt-LONGEST
returns-else-room-lt-LONGEST c =
    let octets = octets_known c.args.octets.now c.type_inv.octets in
    let accepted = c.in_ok-judge.was in
    room_enough _ c.args.octets.now _
    (omega (
      arith,
      c.if-room-lt-LONGEST.false,
      (accepted_small _ (sound_rules _) _ octets _ (sym c.judge.ensures ∙ accepted)).1,
    ))
    ∙ fits_accepted _ _ _ _ c.judge.ensures _ accepted

pub returns-in_err-judge : goal.returns-in_err-judge
returns-in_err-judge c =
    let p = err_from_is_err_and c.from_residual.result c.from_residual.ensures.1 in
    p.1 ∙ ap Err p.2 ∙ fits_declined _ _ _ _ c.judge.ensures _ c.in_err-judge.was
