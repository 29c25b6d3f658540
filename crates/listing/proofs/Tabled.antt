-- The table of the code, as `listing::table` promises it, has the rules' rows, each at its place with type and key.
-- Assumes nothing.
use Rattle.std.proofs.Common.{◌≡◌, ℕ, ◌<◌, sym, subst, get_or}
use Rattle.listing.specs.declared.Row.{Row}
use Rattle.listing.specs.Seen.{seen}
use Rattle.listing.specs.Listing.{row_at, row_count}
use Rattle.listing.proofs.Keys.{rows_many, row_seen}
use Rattle.listing.proofs.table.Reads as table

pub key_at : (κs : _) (a : _) (r : _) (s : _) → table.Post κs a r s → (i : ℕ) → i < row_count → (d : Row) →
    seen (get_or r.now i d) ≡ row_at i
key_at κs a r s p i h d = row_seen r.now i d p (subst (λ (n : ℕ). i < n) (sym (rows_many r.now p)) h)
