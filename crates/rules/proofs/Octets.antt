-- Octets stay octets where lists are joined and cut; the sum of joined lists; and the checksum, which is an octet
-- and makes a sum 0 modulo 256.
-- Assumes nothing.
use Prim.Native.Nat.{ℕ, zero, suc, ◌+◌, ◌%◌, ◌<◌}
use mathlib.Core.Path.{◌≡◌}
use mathlib.Core.List.{List, [], ◌∷◌, ◌++◌}
use native.Mathlib.Omega.{arith}
use lib.ListN.{take, drop, get_or}
use mir.Val.{Fits}
use mir.Syntax.{w8}
use Rattle.rules.specs.Octets.{Octets, total, checksum}

pub checksum_octet : (n : ℕ) → checksum n < 256
unfolding checksum
checksum_octet n = omega arith

pub checksum_closes : (n : ℕ) → (n + checksum n) % 256 ≡ 0
unfolding checksum
checksum_closes n = omega arith

pub total-append : (a b : List ℕ) → total (a ++ b) ≡ total a + total b
unfolding total
total-append [] b = omega arith
total-append (x ∷ a) b = omega (arith, total-append a b)

pub octets-append : (a b : List ℕ) → Octets a → Octets b → Octets (a ++ b)
octets-append [] b p q = q
octets-append (x ∷ a) b p q = (p.0, octets-append a b p.1 q)

pub octets_right : (a b : List ℕ) → Octets (a ++ b) → Octets b
octets_right [] b p = p
octets_right (x ∷ a) b p = octets_right a b p.1

pub octets-take : (n : ℕ) (h : List ℕ) → Octets h → Octets (take n h)
octets-take zero h o = tt
octets-take (suc n) [] o = tt
octets-take (suc n) (x ∷ h) o = (o.0, octets-take n h o.1)

-- what a slice says of each of its octets
pub octets_at : (h : List ℕ) → ((i : ℕ) → get_or h i 0 < 256) → Octets h
octets_at [] f = tt
octets_at (x ∷ h) f = (f 0, octets_at h (λ i. f (suc i)))

-- the same, as the code knows it
pub octets_known : (h : List ℕ) → ((i : ℕ) → Fits w8 (get_or h i 0)) → Octets h
octets_known h f = octets_at h (λ i. omega (arith, f i))

pub octets-drop : (n : ℕ) (h : List ℕ) → Octets h → Octets (drop n h)
octets-drop zero h o = o
octets-drop (suc n) [] o = tt
octets-drop (suc n) (x ∷ h) o = octets-drop n h o.1

pub octet_at : (h : List ℕ) → Octets h → (i : ℕ) → get_or h i 0 < 256
octet_at [] o i = omega arith
octet_at (x ∷ h) o zero = o.0
octet_at (x ∷ h) o (suc i) = octet_at h o.1 i
