-- `firmware::lay` meets its contract: all 16 octets are stored.
-- Assumes nothing.
use Rattle.std.proofs.Common.{◌≡◌, ◌/◌, ◌%◌, [], ◌∷◌, ℕ, List, get_or, ap, ◌∙◌, arith}
use lib.Seq.{sets}
use Rattle.firmware.specs.Record.{laid_fields}
use Rattle.firmware.proofs.Cells.{stored}
use Rattle.firmware.proofs.lay.Goals as goal

pub returns : goal.returns
unfolding laid_fields
returns c =
    let f = c.args.f in
    let cells = λ (low high : ℕ).
    f.stage ∷ f.sum ∷ low ∷ high ∷ f.class ∷ f.length ∷ f.index ∷ f.memory ∷ f.room ∷ f.number
    ∷ f.parameter ∷ c.args.edition ∷ c.args.way ∷ 0 ∷ 0 ∷ 0 ∷ [] in
    let high : f.place / 256 % 256 ≡ f.place / 256 = omega arith in
    ap (λ (r : List ℕ). sets c.args.cells.now 0 (cells (get_or r 0 0) (get_or r 1 0))) c.to_le_bytes.ensures
    ∙ stored (cells (f.place % 256) (f.place / 256 % 256)) c.args.cells.now (omega arith)
    ∙ ap (cells (f.place % 256)) high
