-- The record of a part, laid down and read back.
-- Assumes nothing.
use Rattle.std.proofs.Common.{Ok}
use Prim.Native.Nat.{ℕ, zero, suc, ◌+◌, ◌*◌, ◌/◌, ◌%◌, ◌<◌, ◌≤◌, ◌^◌}
use mathlib.Core.Path.{◌≡◌, refl, ◌∙◌, ap}
use mathlib.Core.List.{List, ◌++◌, append-nil}
use native.Mathlib.Omega.{arith}
use lib.ListN.{length, drop_of_length-le}
use Rattle.rules.specs.Laying.{laid, laid_at}
use Rattle.rules.proofs.Laying.{laid_then}
use Rattle.rules.specs.Octets.{Octets}
use Rattle.rules.specs.Table.{rules_of}
use Rattle.rules.proofs.Grammar.{accepted_size}
use Rattle.rules.specs.declared.Book.{Book}
use Rattle.message.specs.Verdict.{verdict_of}
use Rattle.message.proofs.Told.{accepted_iff}
use Rattle.message.proofs.Judges.{judges_of}
use Rattle.firmware.specs.PartRecord.{low_first, number_in, side_cells, part_record, part_side, part_start, part_length}
use Rattle.firmware.specs.Sizes.{part_size}

-- an accepted message has at most 258 octets
pub accepted_small : (b : Book) (o : List ℕ) → Octets o → (n : ℕ) → verdict_of (rules_of b) o ≡ Ok n →
    length o ≤ 258
accepted_small b o q n e = (accepted_size (rules_of b) o ((accepted_iff (judges_of b o q) n).0 e).1).1

-- octets laid over as many are all that stands there
laid_whole : (v old : List ℕ) → length old ≡ length v → laid v old ≡ v
unfolding laid
laid_whole v old h =
    ap (λ (r : List ℕ). v ++ r) (drop_of_length-le old {i = length v} (omega (arith, h))) ∙ append-nil v

-- side, start and length, laid behind one another over 24 octets
pub part_laid : (old : List ℕ) (side start n : ℕ) → length old ≡ part_size → (a b c : List ℕ) →
    a ≡ laid (side_cells side) old → b ≡ laid_at (low_first 8 start) 8 a → c ≡ laid_at (low_first 8 n) 16 b →
    c ≡ part_record side start n
unfolding side_cells low_first part_record
part_laid old side start n h a b c x y z =
    z
    ∙ ap (laid_at (low_first 8 n) 16) (y ∙ ap (laid_at (low_first 8 start) 8) x
    ∙ laid_then (side_cells side) (low_first 8 start) old)
    ∙ laid_then (side_cells side ++ low_first 8 start) (low_first 8 n) old
    ∙ laid_whole (part_record side start n) old h

-- a number below 256^k has its k octets, and they say it
low_back : (k n : ℕ) → n < 256 ^ k → number_in (low_first k n) ≡ n
unfolding low_first number_in
low_back zero n h = omega arith
low_back (suc k) n h =
    let e = low_back k (n / 256) (omega (arith, h)) in
    ap (λ (m : ℕ). n % 256 + 256 * m) e ∙ omega arith

-- side, start and length are read back as they were laid down; both sizes are those of slices, below 2^64
pub part_back : (side start n : ℕ) → start < 256 ^ 8 → n < 256 ^ 8 →
    (part_side (part_record side start n) ≡ side) × (part_start (part_record side start n) ≡ start)
    × (part_length (part_record side start n) ≡ n)
unfolding part_side part_start part_length part_record side_cells low_first
part_back side start n a b = (refl, low_back 8 start a, low_back 8 n b)
