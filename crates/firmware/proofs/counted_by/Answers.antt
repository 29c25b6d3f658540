-- `firmware::counted_by` meets its contract: the verdict first; an accepted message has at most 258 octets.
-- Assumes nothing.
use Rattle.std.proofs.Common.{ℕ, Result}
use Prim.Native.Nat.{ℕ}
use mathlib.Core.Path.{◌≡◌, sym, ◌∙◌, ap}
use mathlib.Core.List.{List}
use native.Mathlib.Omega.{arith}
use Rattle.rules.proofs.Octets.{octets_at}
use Rattle.rules.specs.Table.{rules_of}
use Rattle.rules.specs.declared.Book.{Book}
use Rattle.rules.specs.declared.Fault.{Fault}
use Rattle.message.specs.Verdict.{verdict_of}
use Rattle.firmware.specs.Exports.{counted_under}
use Rattle.firmware.proofs.PartRecord.{accepted_small}
use Rattle.firmware.proofs.counted_by.Goals as goal

-- the verdict is that of the numbers' book
by_book : (e w : ℕ) (b c : Book) (o : List ℕ) (t : ℕ) (v x : Result ℕ Fault) → b ≡ c → x ≡ verdict_of (rules_of b) o → x ≡ v →
    counted_under e w v o t ≡ counted_under e w (verdict_of (rules_of c) o) o t
by_book e w b c o t v x p q r =
    ap (λ (y : Result ℕ Fault). counted_under e w y o t) (sym r ∙ q ∙ ap (λ (z : Book). verdict_of (rules_of z) o) p)

pub counted_in-requires : goal.counted_in-requires
counted_in-requires c =
    let o = c.args.octets.now in
    accepted_small _ o (octets_at o (λ i. omega (arith, c.shared_slice_known-1.given i))) _
    (sym c.judge-verdict.ensures ∙ c.in-Ok.is)

pub returns-in-Ok : goal.returns-in-Ok
unfolding counted_under
returns-in-Ok c =
    c.counted_in.ensures
    ∙ by_book _ _ _ _ _ _ _ _ c.book_of-book.ensures c.judge-verdict.ensures
    c.in-Ok.is

pub returns-in-Err : goal.returns-in-Err
unfolding counted_under
returns-in-Err c =
    c.refused.ensures
    ∙ by_book _ _ _ _ _ _ _ _ c.book_of-book.ensures c.judge-verdict.ensures
    c.in-Err.is
