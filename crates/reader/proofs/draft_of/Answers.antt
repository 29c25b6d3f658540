-- `reader::draft_of` meets its contract: at first all are left.
-- Assumes nothing.
use Rattle.std.proofs.Common.{ap, ◌∙◌, sym, refl, subst, arith, ◌<◌}
use Rattle.draft.specs.Draft.{empty_of}
use Rattle.draft.specs.declared.Draft.{Draft}
use Rattle.rules.specs.Message.{most}
use Rattle.rules.specs.Table.{rules_of}
use Rattle.reader.proofs.Laying.{TakenEntries, founds_at, founds_full, filled_first, filled_end}
use Rattle.reader.proofs.Laying.{turned_small, turned_more, turned_end}
use Rattle.reader.proofs.draft_of.Goals as goal

pub loop-init : goal.loop-init
unfolding empty_of
loop-init c =
    let none = c.empty-draft.ensures in record {
      kind = ap (λ (d : Draft). d.kind) none ∙ c.octet.ensures;
      edition = ap (λ (d : Draft). d.edition) none ∙ c.edition_of.ensures;
      counted = ap (λ (d : Draft). d.count) none;
      taken =
          subst (λ (d : Draft). TakenEntries (rules_of c.args.book) c.args.octets.now
          (founds_at c.args.octets.now d.count 2) d.count 0 d.entries) (sym none) (filled_first _ _ _ refl);
    }

pub bounds-draft-draft : goal.bounds-draft-draft
bounds-draft-draft c = omega (arith, c.loop.invariant.counted, c.loop-test.true)

pub overflow_add-used : goal.overflow_add-used
overflow_add-used c =
    let h : c.loop.draft.count < most = omega (arith, c.loop.invariant.counted, c.loop-test.true) in
    omega (
      arith,
      turned_small _ _ _ _ _ _ c.loop.invariant.taken h c.in-Some.taken (sym c.in-Some.is ∙ c.entry.ensures),
    )

pub loop-preserved : goal.loop-preserved
loop-preserved c =
    let h : c.loop.draft.count < most = omega (arith, c.loop.invariant.counted, c.loop-test.true) in
    record {
      kind = c.loop.invariant.kind;
      edition = c.loop.invariant.edition;
      counted = omega (arith, c.loop.invariant.counted);
      taken = turned_more _ _ _ _ _ _ c.loop.invariant.taken h c.in-Some.taken (sym c.in-Some.is ∙ c.entry.ensures);
    }

pub returns-after-loop : goal.returns-after-loop
returns-after-loop c =
    filled_end _ _ _ (founds_full _ _ _ (omega (arith, c.loop.invariant.counted, c.loop-test.false))) _ _ _
    c.loop.invariant.taken _ c.loop.invariant.kind c.loop.invariant.edition refl refl

pub returns-in_default : goal.returns-in_default
returns-in_default c =
    filled_end _ _ _ (turned_end _ _ _ _ _ (sym c.in_default.is ∙ c.entry.ensures)) _ _ _ c.loop.invariant.taken _
    c.loop.invariant.kind c.loop.invariant.edition refl refl
