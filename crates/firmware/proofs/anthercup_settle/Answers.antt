-- `firmware::anthercup_settle` meets its contract: the record first, then the settling.
-- Assumes nothing.
use Rattle.rules.proofs.Returns.{T_of, via}
use Rattle.firmware.proofs.DeskRecord.{record_size}
use Rattle.firmware.proofs.RecordPlaces.{settles_known, settles_unknown}
use Rattle.firmware.proofs.anthercup_settle.Goals as goal

pub decode-found-requires : goal.decode-found-requires
decode-found-requires c = record_size _ (T_of _ (via _ _ _ c.is_record.ensures c.if-not-is_record.false))

pub encode-requires : goal.encode-requires
encode-requires c = record_size _ (T_of _ (via _ _ _ c.is_record.ensures c.if-not-is_record.false))

pub returns : goal.returns
returns c =
    settles_known _ _ _ _ _ c.is_record.ensures c.if-not-is_record.false _
    _ _ _ c.decode-found.ensures c.settle-done.ensures c.desk_word.ensures
    c.encode.ensures

pub returns-then-not-is_record : goal.returns-then-not-is_record
returns-then-not-is_record c = settles_unknown _ _ _ _ _ c.is_record.ensures c.if-not-is_record.true _ c.plain.ensures
