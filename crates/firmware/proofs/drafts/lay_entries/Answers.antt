-- `firmware::lay_entries` meets its contract: at first all are left.
-- Assumes nothing.
use Rattle.std.proofs.Common.{ℕ, List, ◌+◌, ◌*◌, ap, ◌∙◌, length, length-take, length-drop, arith}
use Rattle.message.specs.Walk.{founds_left}
use Rattle.rules.specs.Table.{rules_of}
use Rattle.rules.specs.Laying.{laid_at}
use Rattle.rules.proofs.Laying.{rest_laid, part_is}
use Rattle.reader.proofs.Turns.{contents_long, entry_found, entry_long, entry_last}
use Rattle.firmware.proofs.DraftRecord.{recorded_first, recorded_inside, recorded_text, recorded_more, recorded_end}
use Rattle.firmware.proofs.drafts.lay_entries.Goals as goal

pub loop-found-init : goal.loop-found-init
loop-found-init c =
    recorded_first _ _ _ c.requires.1 _
    (ap founds_left c.into_iter-found-iterator.ensures.into_iter_gives ∙ c.new-found-items.ensures) c.args.cells.now
    c.requires.0

pub overflow_add-end : goal.overflow_add-end
overflow_add-end c =
    omega (arith, recorded_inside _ _ _ c.requires.1 _ _ _ _ _ c.loop-found.invariant _ _ c.in-Some.ensures.steps)

pub slice_bounds-contents-end : goal.slice_bounds-contents-end
slice_bounds-contents-end c =
    omega (arith, recorded_inside _ _ _ c.requires.1 _ _ _ _ _ c.loop-found.invariant _ _ c.in-Some.ensures.steps)

pub overflow_sub-contents : goal.overflow_sub-contents
overflow_sub-contents c =
    let found = c.in-Some.found in
    let part = part_is c.args.octets.now found.start found.length in
    let n = entry_long _ _ found _ _ part _ c.entry_of-entry.ensures _ c.text_length-text.ensures in
    let e = entry_found _ _ found _ _ part _ c.entry_of-entry.ensures in
    let text = recorded_text _ _ _ c.requires.1 _ _ _ _ _ c.loop-found.invariant _ _ c.in-Some.ensures.steps _ _ e n in
    let inside = recorded_inside _ _ _ c.requires.1 _ _ _ _ _ c.loop-found.invariant _ _ c.in-Some.ensures.steps in
    omega (arith, text.0, ap length part, contents_long (rules_of c.args.book) _ found inside)

pub copy-requires : goal.copy-requires
copy-requires c =
    let found = c.in-Some.found in
    let part = part_is c.args.octets.now found.start found.length in
    let n = entry_long _ _ found _ _ part _ c.entry_of-entry.ensures _ c.text_length-text.ensures in
    let e = entry_found _ _ found _ _ part _ c.entry_of-entry.ensures in
    let text = recorded_text _ _ _ c.requires.1 _ _ _ _ _ c.loop-found.invariant _ _ c.in-Some.ensures.steps _ _ e n in
    let inside = recorded_inside _ _ _ c.requires.1 _ _ _ _ _ c.loop-found.invariant _ _ c.in-Some.ensures.steps in
    simp (length-take, length-drop) (omega (arith, text.0, text.1, inside))

pub overflow_add-used : goal.overflow_add-used
overflow_add-used c =
    let found = c.in-Some.found in
    let part = part_is c.args.octets.now found.start found.length in
    let n = entry_long _ _ found _ _ part _ c.entry_of-entry.ensures _ c.text_length-text.ensures in
    let e = entry_found _ _ found _ _ part _ c.entry_of-entry.ensures in
    let text = recorded_text _ _ _ c.requires.1 _ _ _ _ _ c.loop-found.invariant _ _ c.in-Some.ensures.steps _ _ e n in
    omega (arith, text.1)

pub loop-found-preserved : goal.loop-found-preserved
loop-found-preserved c =
    let found = c.in-Some.found in
    let part = part_is c.args.octets.now found.start found.length in
    let n = entry_long _ _ found _ _ part _ c.entry_of-entry.ensures _ c.text_length-text.ensures in
    let e = entry_found _ _ found _ _ part _ c.entry_of-entry.ensures in
    recorded_more _ _ _ c.requires.1 _ _ _ _ _ c.loop-found.invariant _ _ c.in-Some.ensures.steps _ _ e n _ _
    (rest_laid _ _ _ (8 + 8 * c.loop-found.count) c.lay_entry.ensures)
    (rest_laid _ _ _ c.loop-found.used c.copy.ensures
    ∙ ap (λ (v : List ℕ). laid_at v c.loop-found.used c.loop-found.texts)
    (entry_last _ _ found _ _ part _ c.entry_of-entry.ensures _ c.text_length-text.ensures))

pub returns-clause-count : goal.returns-clause-count
returns-clause-count c =
    (recorded_end _ _ _ c.requires.1 _ _ _ _ _ c.loop-found.invariant c.in-None.ensures.steps.0).0

pub returns-clause-used : goal.returns-clause-used
returns-clause-used c =
    (recorded_end _ _ _ c.requires.1 _ _ _ _ _ c.loop-found.invariant c.in-None.ensures.steps.0).1.0

pub returns-clause-cells : goal.returns-clause-cells
returns-clause-cells c =
    (recorded_end _ _ _ c.requires.1 _ _ _ _ _ c.loop-found.invariant c.in-None.ensures.steps.0).1.1.0

pub returns-clause-texts : goal.returns-clause-texts
returns-clause-texts c =
    (recorded_end _ _ _ c.requires.1 _ _ _ _ _ c.loop-found.invariant c.in-None.ensures.steps.0).1.1.1
