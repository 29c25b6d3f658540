-- The desk's record, 52 octets: 0 or 1, whether the waiting number is known; the number, 0 where it is not; the lamp,
-- 0 unknown, 1 off, 2 on; an octet kept at 0; then sixteen places of three octets, low first, each 0 or one more than
-- the reference that it holds. Anything else is 17 (document 01, Numbers; document 02, Q-6).
-- Assumes nothing.
use Rattle.std.specs.Prelude.{ℕ, zero, suc, ◌+◌, ◌*◌, ◌/◌, ◌%◌, Bool, List, [], ◌∷◌, ◌++◌, length, drop, get_or, Option, Some, None}
use Rattle.rules.specs.Tests.{◌≤?◌, ◌=?◌, ◌and◌, pick}
use Rattle.desk.specs.declared.Lamp.{Lamp}
use Rattle.desk.specs.declared.Lamp.TheVariants as lamp
use Rattle.desk.specs.declared.Desk.{Desk}
use Rattle.desk.specs.References.{place_count}
use Rattle.firmware.specs.Sizes.{desk_size}

-- ---- a record that is a desk's
unfoldable pub is_waiting : ℕ → ℕ → Bool
is_waiting w n = pick (w =? 0) (n =? 0) (w =? 1)

unfoldable pub is_desk : ℕ → ℕ → ℕ → ℕ → Bool
is_desk w n l z = is_waiting w n and (l ≤? 2 and z =? 0)

unfoldable pub waiting_of : ℕ → ℕ → Option ℕ
waiting_of w n = pick (w =? 0) None (Some n)

unfoldable pub lamp_of : ℕ → Lamp
lamp_of l = pick (l =? 0) lamp.Unknown (pick (l =? 1) lamp.Off lamp.On)

-- the size first, then every code and number; what the places hold is for the desk to judge
unfoldable pub is_record : List ℕ → Bool
is_record c = length c =? desk_size and is_desk (get_or c 0 0) (get_or c 1 0) (get_or c 2 0) (get_or c 3 0)

-- a place, from the octets that begin with it
unfoldable pub place_in : List ℕ → ℕ
place_in c = get_or c 0 0 + 256 * get_or c 1 0 + 65536 * get_or c 2 0

unfoldable pub places_in : ℕ → List ℕ → List ℕ
places_in zero c = []
places_in (suc n) c = place_in c ∷ places_in n (drop 3 c)

unfoldable pub desk_in : List ℕ → Desk
desk_in c =
    record {
      waiting = waiting_of (get_or c 0 0) (get_or c 1 0);
      lamp = lamp_of (get_or c 2 0);
      places = places_in place_count (drop 4 c);
    }

-- ---- the record of a desk
unfoldable pub waiting_code : Option ℕ → ℕ
waiting_code None = 0
waiting_code (Some n) = 1

unfoldable pub waiting_number : Option ℕ → ℕ
waiting_number None = 0
waiting_number (Some n) = n

unfoldable pub lamp_code : Lamp → ℕ
lamp_code lamp.Unknown = 0
lamp_code lamp.Off = 1
lamp_code lamp.On = 2

unfoldable pub place_cells : ℕ → List ℕ
place_cells p = p % 256 ∷ p / 256 % 256 ∷ p / 65536 % 256 ∷ []

unfoldable pub places_cells : List ℕ → List ℕ
places_cells [] = []
places_cells (p ∷ ps) = place_cells p ++ places_cells ps

unfoldable pub desk_record : Desk → List ℕ
desk_record d = waiting_code d.waiting ∷ waiting_number d.waiting ∷ lamp_code d.lamp ∷ 0 ∷ places_cells d.places
