-- The table of the code is the present edition's rows: their types and their keys.
-- Assumes nothing.
use Prim.Native.Nat.{ℕ, ◌≤◌, ◌<◌}
use mathlib.Core.Path.{◌≡◌, refl, sym, ◌∙◌, ap}
use mathlib.Core.List.{List, map}
use native.Mathlib.Omega.{arith}
use lib.ListN.{length, get_or, get_or-eq_default}
use Rattle.std.proofs.lemmas.List.{length-map, get_or-map}
use Rattle.rules.specs.Table.{rules_of, ascii}
use Rattle.rules.specs.declared.Book.TheVariants.{PresentLenient}
use Rattle.listing.specs.declared.Row.{Row}
use Rattle.listing.specs.Seen.{seen}
use Rattle.rules.specs.Table as table
use Rattle.std.specs.List.{list_all}
use Rattle.std.proofs.lemmas.List.Folds.{list_all_at}
use Rattle.std.proofs.lemmas.Grind.{common_steps}
use mathlib.Core.Bool.{true}
use lib.Dec.{leb}
use Rattle.listing.specs.Listing.{no_row, row_at, row_count, row_count_lem}

-- no key has more than 17 octets
short : list_all (λ (r : table.Row). leb (length r.key) 17) (rules_of PresentLenient).rows ≡ true
unfolding rules_of ascii
short = refl

pub key_short : (i : ℕ) → i < row_count → length (row_at i).key ≤ 17
unfolding row_at
key_short i h =
    let at = list_all_at (λ (r : table.Row). leb (length r.key) 17) (rules_of PresentLenient).rows i no_row in
    grind (arith, common_steps, short, row_count_lem, at)

-- ---- behind the last row
pub no_row_lem : (i : ℕ) → row_count ≤ i → row_at i ≡ no_row
unfolding row_at
no_row_lem i h = get_or-eq_default (rules_of PresentLenient).rows no_row (omega (arith, row_count_lem))

-- ---- the rows of the code's table are those of the rules
pub rows_many : (rs : List Row) → map seen rs ≡ (rules_of PresentLenient).rows → length rs ≡ row_count
rows_many rs e = sym (length-map rs seen) ∙ ap length e ∙ row_count_lem

pub row_seen : (rs : List Row) (i : ℕ) (d : Row) → map seen rs ≡ (rules_of PresentLenient).rows → i < length rs →
    seen (get_or rs i d) ≡ row_at i
unfolding row_at
row_seen rs i d e h = sym (get_or-map seen rs i d no_row h) ∙ ap (λ us. get_or us i no_row) e
