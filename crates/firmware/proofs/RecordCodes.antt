-- The codes that a record of an edition and a way may hold are exactly those of the classes of its book that some type
-- has and that can stand: all of the lenient way, and those of the rows by the strict one.
-- Assumes nothing.
use Prim.Native.Nat.{ℕ, zero, suc}
use mathlib.Core.Path.{◌≡◌, refl, subst}
use mathlib.Core.Bool.{Bool, true, false}
use mathlib.Core.Logic.{◌↔◌}
use mathlib.Core.List.{List, [], ◌∷◌}
use native.Mathlib.Omega.{arith}
use lib.Dec.{T}
use lib.ListN.{get_or}
use Rattle.rules.specs.Tests.{◌≤?◌, ◌=?◌, ◌and◌, ◌or◌, pick}
use Rattle.rules.proofs.Tests.{eq_of, both}
use Rattle.rules.specs.Contents.{within, in_set, some_length}
use Rattle.rules.specs.Table.{rules_of, row_in, row_of, class_of, class_fault, whole}
use Rattle.rules.specs.Codes.{class_code, code_in}
use Rattle.rules.specs.Editions.{known, book_of}
use Rattle.rules.proofs.Editions.{no_edition, no_way}
use Rattle.rules.proofs.Table.{tabled}
use Rattle.rules.proofs.Rivals.{same_table}
use Rattle.firmware.proofs.Classes.{R, table_code}
use Rattle.firmware.proofs.Coding.{code_small}

-- every code of an edition is that of a type of its table, given here code by code; of those between that it
-- has not, any type that has another code
abbrev types : ℕ → List ℕ
types zero =
    0x05 ∷ 0x01 ∷ 0x02 ∷ 0x04 ∷ 0x07 ∷ 0x0B ∷ 0x0D ∷ 0x11 ∷ 0x13 ∷ 0x15 ∷ 0x16 ∷
    0x30 ∷ 0x0F ∷ 0x20 ∷ 0x23 ∷ 0x40 ∷ 0x50 ∷ 0x55 ∷ 0xE0 ∷ 0x05 ∷ 0x05 ∷ 0x05 ∷ []
types (suc e) =
    0x05 ∷ 0x01 ∷ 0x05 ∷ 0x04 ∷ 0x05 ∷ 0x0B ∷ 0x05 ∷ 0x05 ∷ 0x05 ∷ 0x05 ∷ 0x05 ∷
    0x07 ∷ 0x05 ∷ 0x05 ∷ 0x05 ∷ 0x05 ∷ 0x05 ∷ 0x05 ∷ 0x05 ∷ 0x02 ∷ 0x15 ∷ 0x16 ∷ []

abbrev one : Bool → ℕ
one b = pick b 1 0

abbrev has : ℕ → ℕ → ℕ → ℕ
has e y k = one (code_in e y k)

abbrev has_type : ℕ → ℕ → ℕ → ℕ
has_type e y k =
    one (class_code (class_of (R e y) (get_or (types e) k 0)) =? k
    and class_fault (class_of (R e y) (get_or (types e) k 0)) =? 3)

agree : (e y : ℕ) → T (known e y) → tabled (has e y) 0 22 ≡ tabled (has_type e y) 0 22
unfolding tabled class_of row_of row_in rules_of book_of class_fault some_length whole class_code code_in in_set within ◌≤?◌ ◌=?◌
    ◌and◌ ◌or◌ pick
agree zero zero k = refl
agree zero (suc zero) k = refl
agree (suc zero) zero k = refl
agree (suc zero) (suc zero) k = refl
agree (suc (suc e)) y k = absurd (no_edition e y k)
agree zero (suc (suc y)) k = absurd (no_way 0 y k)
agree (suc zero) (suc (suc y)) k = absurd (no_way 1 y k)

one_of : (a b : Bool) → one a ≡ one b → T a → T b
unfolding pick
one_of true true e t = tt
one_of true false e t = absurd (omega (arith, e))
one_of false b e t = absurd t

-- the codes of a book are exactly those of the classes that its types have and that can stand
pub codes_of : (e y k : ℕ) → T (known e y) →
    T (code_in e y k) ↔ ((t : ℕ) × (class_fault (class_of (R e y) t) ≡ 3) × (class_code (class_of (R e y) t) ≡ k))
codes_of e y k v = (
  λ t.
      let u = one_of _ _ (same_table (has e y) (has_type e y) 22 k (agree e y v)
      (let h = code_small e y k t in omega arith)) t in
      (get_or (types e) k 0, eq_of _ _ (both _ _ u).1, eq_of _ _ (both _ _ u).0),
  λ x. subst (λ (j : ℕ). T (code_in e y j)) x.2 (table_code e y v x.0 x.1),
)
