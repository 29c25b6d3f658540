-- What a C caller may take an export for: whatever its contract allows, the contract of the function of its name in
-- `firmware` allows, so that every theorem over those functions is one over the exports.
-- Assumes nothing.
use Rattle.firmware.proofs.anthercup_reset_way.Reads as reset_way
use Rattle.firmware.proofs.anthercup_reset.Reads as reset
use Rattle.firmware.proofs.anthercup_listen.Reads as listen
use Rattle.firmware.proofs.anthercup_read_way.Reads as read_way
use Rattle.firmware.proofs.anthercup_read.Reads as read
use Rattle.firmware.proofs.anthercup_new_desk.Reads as new_desk
use Rattle.firmware.proofs.anthercup_settle.Reads as settle
use Rattle.firmware.proofs.anthercup_counted.Reads as counted
use Rattle.firmware.proofs.anthercup_caption.Reads as caption
use Rattle.firmware_c.proofs.anthercup_reset_way.Reads as c_reset_way
use Rattle.firmware_c.proofs.anthercup_reset.Reads as c_reset
use Rattle.firmware_c.proofs.anthercup_listen.Reads as c_listen
use Rattle.firmware_c.proofs.anthercup_read_way.Reads as c_read_way
use Rattle.firmware_c.proofs.anthercup_read.Reads as c_read
use Rattle.firmware_c.proofs.anthercup_new_desk.Reads as c_new_desk
use Rattle.firmware_c.proofs.anthercup_settle.Reads as c_settle
use Rattle.firmware_c.proofs.anthercup_counted.Reads as c_counted
use Rattle.firmware_c.proofs.anthercup_caption.Reads as c_caption

pub anthercup_reset_way_says : (κs : _) (a : _) (r : _) (s : _) → c_reset_way.Post κs a r s → reset_way.Post κs a r s
anthercup_reset_way_says κs a r s p = p

pub anthercup_reset_says : (κs : _) (a : _) (r : _) (s : _) → c_reset.Post κs a r s → reset.Post κs a r s
anthercup_reset_says κs a r s p = p

pub anthercup_listen_says : (κs : _) (a : _) (r : _) (s : _) → c_listen.Post κs a r s → listen.Post κs a r s
anthercup_listen_says κs a r s p = p

pub anthercup_read_way_says : (κs : _) (a : _) (r : _) (s : _) → c_read_way.Post κs a r s → read_way.Post κs a r s
anthercup_read_way_says κs a r s p = p

pub anthercup_read_says : (κs : _) (a : _) (r : _) (s : _) → c_read.Post κs a r s → read.Post κs a r s
anthercup_read_says κs a r s p = p

pub anthercup_new_desk_says : (κs : _) (a : _) (r : _) (s : _) → c_new_desk.Post κs a r s → new_desk.Post κs a r s
anthercup_new_desk_says κs a r s p = p

pub anthercup_settle_says : (κs : _) (a : _) (r : _) (s : _) → c_settle.Post κs a r s → settle.Post κs a r s
anthercup_settle_says κs a r s p = p

pub anthercup_counted_says : (κs : _) (a : _) (r : _) (s : _) → c_counted.Post κs a r s → counted.Post κs a r s
anthercup_counted_says κs a r s p = p

pub anthercup_caption_says : (κs : _) (a : _) (r : _) (s : _) → c_caption.Post κs a r s → caption.Post κs a r s
anthercup_caption_says κs a r s p = p
