-- A stop that is packed into one number is read back.
-- Assumes nothing.
use Rattle.std.proofs.Common.{◌≡◌, ℕ, ◌+◌, ◌*◌, ◌/◌, ◌%◌, ◌<◌, arith}
use Rattle.turns.specs.Turns.{stop, stop_in}

module _ (k p r v n : ℕ) (a : k < 256) (b : p < 65536) (c : r < 256) (d : v < 256) (e : n < 256) where
  abbrev packed : ℕ
  packed = k + 256 * p + 16777216 * r + 4294967296 * v + 1099511627776 * n

  number : packed % 256 ≡ k
  number = omega arith

  place : packed / 256 % 65536 ≡ p
  place = omega arith

  room : packed / 16777216 % 256 ≡ r
  room = omega arith

  sum : packed / 4294967296 % 256 ≡ v
  sum = omega arith

  parameter : packed / 1099511627776 % 256 ≡ n
  parameter = omega arith

  pub unpacked : stop_in packed ≡ stop k p r v n
  unfolding stop_in
  unpacked = λ i. stop (number i) (place i) (room i) (sum i) (parameter i)
