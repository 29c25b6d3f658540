-- `reader::pack` meets its contract: the verdict, then 9, and then the texts, which take at most 253 octets.
-- Assumes nothing.
use Rattle.std.proofs.Common.{Err}
use mathlib.Core.Path.{sym, ◌∙◌, ap}
use native.Mathlib.Omega.{arith}
use Rattle.rules.proofs.ContentLaw.{sound_rules}
use Rattle.rules.proofs.Octets.{octets_known}
use Rattle.reader.proofs.Answered.{fits_small}
use Rattle.reader.proofs.Area.{fits_whole, packs_whole, packs_refused}
use Rattle.std.proofs.lemmas.Result.{err_from_is_err_and}
use Rattle.reader.proofs.pack.Goals as goal

pub lay_texts-size-requires : goal.lay_texts-size-requires
lay_texts-size-requires c = (fits_whole _ _ _ (sym c.in_ok-fits.was ∙ c.fits.ensures)).enough

pub overflow_cast-result : goal.overflow_cast-result
overflow_cast-result c =
    omega (
      arith,
      c.lay_texts-size.ensures.size,
      fits_small _ (sound_rules _) _
          (octets_known c.args.octets.now c.type_inv.octets) _
          (sym c.in_ok-fits.was ∙ c.fits.ensures),
    )

pub returns : goal.returns
returns c =
    let p = packs_whole _ c.args.octets.now c.args.area.now
    (sym c.in_ok-fits.was ∙ c.fits.ensures) _ _ c.lay_texts-size.ensures.size
    c.lay_texts-size.ensures.area in record {
      answer = p.answer;
      area = p.area_is;
    }

pub returns-in_err-fits : goal.returns-in_err-fits
returns-in_err-fits c =
    let e = err_from_is_err_and c.from_residual.result c.from_residual.ensures.1 in
    let p = packs_refused _ c.args.octets.now c.args.area.now _
    (sym c.in_err-fits.was ∙ c.fits.ensures) in record {
      answer = e.1 ∙ ap Err e.2 ∙ p.answer;
      area = p.area_is;
    }
