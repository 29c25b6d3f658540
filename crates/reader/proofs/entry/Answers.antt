-- `reader::entry` meets its contract: what stands at the place, if something does.
-- Assumes nothing.
use Rattle.std.proofs.Common.{Some, sym, ap, ◌∙◌, ◌+◌, arith}
use Rattle.rules.specs.Table.{rules_of}
use Rattle.message.proofs.Searching.{found_inside}
use Rattle.reader.specs.declared.Taken.{Taken}
use Rattle.reader.specs.Read.{taken_from, taken_at}
use Rattle.reader.proofs.Turns.{entry_found, entry_long}
use Rattle.reader.proofs.entry.Goals as goal

pub returns-in_err-found : goal.returns-in_err-found
unfolding taken_at taken_from
returns-in_err-found c =
    c.from_residual.ensures
    ∙ ap (taken_from (rules_of c.args.book) c.args.octets.now c.args.used)
    (sym c.in_err-found.was ∙ c.parameter.ensures)

pub contents_of-requires : goal.contents_of-requires
contents_of-requires c = omega (arith, found_inside _ _ _ _ _ _ c.parameter.ensures c.in_ok-found.was)

pub overflow_add-result : goal.overflow_add-result
overflow_add-result c = omega (arith, found_inside _ _ _ _ _ _ c.parameter.ensures c.in_ok-found.was)

pub returns : goal.returns
unfolding taken_at taken_from
returns c =
    let found = c.in_ok-found.found in
    let e = entry_found _ _ found _ _ c.contents_of.ensures _ c.entry_of-entry.ensures in
    let n = entry_long _ _ found _ _ c.contents_of.ensures _ c.entry_of-entry.ensures _ c.text_length.ensures in
    ap (λ (t : Taken). Some t) (λ i. record { entry = e i; text = n i; place = found.start + found.length })
    ∙ ap (taken_from (rules_of c.args.book) c.args.octets.now c.args.used) (sym c.in_ok-found.was ∙ c.parameter.ensures)
