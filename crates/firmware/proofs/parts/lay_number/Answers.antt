-- `firmware::parts::lay_number` meets its contract: each octet is that of the quotient of the one before it.
-- Assumes nothing.
use Rattle.std.proofs.Common.{◌≡◌, ◌/◌, ◌%◌, ◌++◌, [], ◌∷◌, ℕ, List, drop, ap, ◌∙◌, arith}
use Rattle.rules.specs.Laying.{laid}
use Rattle.firmware.specs.PartRecord.{low_first}
use Rattle.firmware.proofs.parts.lay_number.Goals as goal

-- the eight octets, each of the number itself
octets_are : (n : ℕ) →
    n % 256 ∷ n / 256 % 256 ∷ n / 65536 % 256 ∷ n / 16777216 % 256 ∷ n / 4294967296 % 256
    ∷ n / 1099511627776 % 256 ∷ n / 281474976710656 % 256 ∷ n / 72057594037927936 % 256 ∷ []
    ≡ low_first 8 n
unfolding low_first
octets_are n =
    let b = n / 256 / 256 in
    let c : n / 65536 ≡ b = omega arith in
    let d : n / 16777216 ≡ b / 256 = omega arith in
    let e : n / 4294967296 ≡ b / 256 / 256 = omega arith in
    let f : n / 1099511627776 ≡ b / 256 / 256 / 256 = omega arith in
    let g : n / 281474976710656 ≡ b / 256 / 256 / 256 / 256 = omega arith in
    let h : n / 72057594037927936 ≡ b / 256 / 256 / 256 / 256 / 256 = omega arith in
    λ i. n % 256 ∷ n / 256 % 256 ∷ c i % 256 ∷ d i % 256 ∷ e i % 256 ∷ f i % 256 ∷ g i % 256 ∷ h i % 256 ∷ []

pub returns : goal.returns
unfolding laid low_first
returns c =
    ap (λ (v : List ℕ). v ++ drop 8 c.args.cells.now)
    (c.copy_from_slice.ensures.after ∙ c.to_le_bytes.ensures ∙ octets_are c.args.n)
