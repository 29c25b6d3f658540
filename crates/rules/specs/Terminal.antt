-- The selection of a terminal's function (source 004, 5.4.24; document 02, Q-4): a connection type and its code, or a
-- number or a subaddress and its digits, out of a set. More than two octets are no connection type.
-- Assumes nothing.
use Rattle.std.specs.Prelude.{ℕ, zero, suc, Bool, false, List, [], ◌∷◌, length}
use Rattle.rules.specs.Tests.{◌≤?◌, ◌=?◌, ◌and◌, ◌or◌, pick}
use Rattle.rules.specs.Contents.{Range, within, in_set, all_in}

-- ---- whole contents
-- 01H and a code from 00H to 07H; or 02H or 03H and up to 20 digits
unfoldable pub terminal_fits : List Range → List ℕ → Bool
terminal_fits s [] = false
terminal_fits s (h ∷ []) = false
terminal_fits s (h ∷ x ∷ []) = pick (h =? 1) (x ≤? 7) (within (2, 3) h and in_set s x)
terminal_fits s (h ∷ x ∷ y ∷ v) = within (2, 3) h and (length v ≤? 18 and all_in s (x ∷ y ∷ v))

-- ---- octet by octet, of n, where d says whether x is one of the digits; 1 is remembered after a connection type
unfoldable pub terminal_by : Bool → ℕ → ℕ → ℕ → ℕ → Bool
terminal_by d n zero m x = within (2, 3) x or (n =? 2 and x =? 1)
terminal_by d n (suc i) m x = pick (m =? 1) (x ≤? 7) d

unfoldable pub terminal_keep : ℕ → ℕ → ℕ → ℕ
terminal_keep zero m x = pick (x =? 1) 1 0
terminal_keep (suc i) m x = m
