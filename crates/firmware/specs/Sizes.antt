-- The octets of each record that the exports are lent (document 01: numbers and byte slices; document 02, Q-6).
-- Assumes nothing.
use Rattle.std.specs.Prelude.{ℕ}

abbrev pub listener_size : ℕ
listener_size = 16

abbrev pub draft_size : ℕ
draft_size = 688

abbrev pub desk_size : ℕ
desk_size = 52

abbrev pub part_size : ℕ
part_size = 24
