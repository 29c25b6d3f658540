-- `listing::says` meets its contract: a row of the table, contents that fit its class, and then its line.
-- Assumes nothing.
use Rattle.std.proofs.Common.{sym, ◌∙◌, ap, length, arith}
use Rattle.rules.specs.Table.{rules_of, class_of, contents_fit}
use Rattle.rules.specs.declared.Book.TheVariants.{PresentLenient}
use Rattle.rules.proofs.Returns.{T_of}
use Rattle.listing.specs.Listing.{line_text, line_of}
use Rattle.listing.proofs.Longest.{row_short}
use Rattle.listing.proofs.says.Goals as goal

pub is_line-requires : goal.is_line-requires
is_line-requires c =
    let same = c.in-Some.ensures.row.1 in
    let v = c.args.contents.now in
    let class = c.class_of-class.ensures ∙ ap (λ r. class_of (rules_of PresentLenient) r.kind) same in
    let fit = T_of _ (sym (c.fits.ensures ∙ ap (λ k. contents_fit k v) class) ∙ c.if-fits.true) in
    omega (
      arith,
      row_short c.args.i c.in-Some.ensures.row.0 v fit,
      ap (λ r. length (line_text (line_of (rules_of PresentLenient) r v))) same,
    )
