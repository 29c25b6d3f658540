-- The record of a part, 24 octets: 0 the message or 1 the directory; seven octets kept at 0; where the part starts in
-- that slice and how long it is, in eight octets each, the lowest first: wide enough for a directory of any size
-- (document 01, The caption).
-- Assumes nothing.
use Rattle.std.specs.Prelude.{ℕ, zero, suc, ◌+◌, ◌*◌, ◌/◌, ◌%◌, List, [], ◌∷◌, ◌++◌, take, drop, get_or}

-- the k lowest octets of a number, the lowest first
unfoldable pub low_first : ℕ → ℕ → List ℕ
low_first zero n = []
low_first (suc k) n = n % 256 ∷ low_first k (n / 256)

-- the number that octets say, the lowest first
unfoldable pub number_in : List ℕ → ℕ
number_in [] = 0
number_in (x ∷ l) = x + 256 * number_in l

unfoldable pub side_cells : ℕ → List ℕ
side_cells side = side ∷ 0 ∷ 0 ∷ 0 ∷ 0 ∷ 0 ∷ 0 ∷ 0 ∷ []

unfoldable pub part_record : ℕ → ℕ → ℕ → List ℕ
part_record side start n = side_cells side ++ (low_first 8 start ++ low_first 8 n)

-- side, start and length of a record, as the header's readers take them
unfoldable pub part_side : List ℕ → ℕ
part_side c = get_or c 0 0

unfoldable pub part_start : List ℕ → ℕ
part_start c = number_in (take 8 (drop 8 c))

unfoldable pub part_length : List ℕ → ℕ
part_length c = number_in (take 8 (drop 16 c))
