-- `firmware::lay_draft` meets its contract: cleared, the entries and texts, then the header.
-- Assumes nothing.
use mathlib.Core.Path.{◌∙◌}
use native.Mathlib.Omega.{arith}
use lib.ListN.{length-set}
use Rattle.rules.specs.Table.{rules_of}
use Rattle.draft.specs.Packing.{draft_of}
use Rattle.message.specs.Parameters.{message_in}
use Rattle.firmware.proofs.DraftRecord.{headed, draft_kind, draft_edition, count_small}
use borrow.Author.Rules.{rules}
use Rattle.firmware.proofs.drafts.lay_draft.Goals as goal

pub lay_entries-filled-requires : goal.lay_entries-filled-requires
lay_entries-filled-requires c = (search rules, c.requires.1)

pub overflow_cast-cells : goal.overflow_cast-cells
overflow_cast-cells c = omega (arith, count_small (rules_of c.args.book) c.args.octets.now, c.lay_entries-filled.ensures.count)

pub bounds-cells-1 : goal.bounds-cells-1
bounds-cells-1 c = simp length-set (omega arith)

pub bounds-cells-2 : goal.bounds-cells-2
bounds-cells-2 c = simp length-set (omega arith)

pub shape_of-cells : goal.shape_of-cells
shape_of-cells c = simp length-set (search rules)

pub returns : goal.returns
returns c =
    let laid = c.lay_entries-filled.ensures in
    record {
      used = laid.used;
      cells = headed (draft_of (rules_of c.args.book) (message_in c.args.octets.now)) _ _ _ _
          (c.octet.ensures ∙ draft_kind _ c.args.octets.now) laid.count
          (c.edition_of.ensures ∙ draft_edition _ c.args.octets.now) laid.cells;
      texts = laid.texts;
    }
