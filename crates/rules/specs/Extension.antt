-- The extension for network operators (source 004, 5.4.27; document 02, Q-4): the country, one to three digits with
-- spaces behind them; then four characters for the operator and three for the version, out of a set.
-- Assumes nothing.
use Rattle.std.specs.Prelude.{ℕ, zero, suc, Bool, false, List, [], ◌∷◌, length}
use Rattle.rules.specs.Tests.{◌≤?◌, ◌=?◌, ◌and◌, ◌or◌, pick}
use Rattle.rules.specs.Contents.{Range, digit, all_in}

unfoldable pub blank : ℕ → Bool
blank x = x =? 0x20

-- ---- whole contents
-- a third digit needs a second
unfoldable pub country_fits : ℕ → ℕ → ℕ → Bool
country_fits a b c = digit a and pick (blank b) (blank c) (digit b and (blank c or digit c))

unfoldable pub extension_fits : List Range → List ℕ → Bool
extension_fits s [] = false
extension_fits s (a ∷ []) = false
extension_fits s (a ∷ b ∷ []) = false
extension_fits s (a ∷ b ∷ c ∷ v) = country_fits a b c and (length v =? 7 and all_in s v)

-- ---- octet by octet, where d says whether x is a digit, and h whether it is a character; 1 is remembered where the
-- second octet is a space
unfoldable pub extension_by : Bool → Bool → ℕ → ℕ → ℕ → Bool
extension_by d h zero m x = d
extension_by d h (suc zero) m x = blank x or d
extension_by d h (suc (suc zero)) m x = pick (m =? 1) (blank x) (blank x or d)
extension_by d h (suc (suc (suc k))) m x = pick (k ≤? 6) h (x ≤? 255)

unfoldable pub extension_keep : ℕ → ℕ → ℕ
extension_keep zero x = 0
extension_keep (suc zero) x = pick (blank x) 1 0
extension_keep (suc (suc i)) x = 0
