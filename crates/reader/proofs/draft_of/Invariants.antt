-- `reader::draft_of`: the entries taken and those that are left make all entries, and the other places are not used.
-- Assumes nothing.
use Rattle.std.proofs.Common.{◌≡◌, slice_index}
use Rattle.rules.specs.Table.{rules_of}
use Rattle.reader.proofs.Laying.{TakenEntries, founds_at}
use Rattle.reader.proofs.draft_of.Given as goal

abbrev pub invariant-loop : goal.invariant-loop
invariant-loop l = record {
  kind : l.draft.kind ≡ slice_index l.octets 0;
  edition : l.draft.edition ≡ (rules_of l.book).edition;
  counted : l.draft.count ≡ l.counter;
  taken :
      TakenEntries (rules_of l.book) l.octets (founds_at l.octets l.draft.count l.place) l.draft.count l.used
      l.draft.entries;
}
