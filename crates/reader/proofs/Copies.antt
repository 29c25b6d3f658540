-- A part of one slice copied over a part of another that is as long, or over its rest, from a place on.
-- Assumes nothing.
use Prim.Native.Nat.{ℕ, ◌+◌, ◌-◌, ◌≤◌}
use mathlib.Core.Path.{◌≡◌, ◌∙◌, ap}
use mathlib.Core.List.{List, ◌++◌}
use lib.ListN.{length, length-drop, take, drop}
use lib.Seq.{length-take-le}
use native.Mathlib.Omega.{arith}
use borrow.Rule.Slice.PartMut.{put_mid}
use Rattle.rules.specs.Laying.{laid_at}
use Rattle.rules.proofs.Laying.{rest_copied, part_is, part_over}

-- a part of o, from its start to its end
abbrev part : List ℕ → ℕ → ℕ → List ℕ
part o start l = take (start + l - start) (drop start o)

pub put_is : (o area last : List ℕ) (start l at : ℕ) →
    last ≡ take (length (part o start l)) (part o start l)
    ++ drop (length (part o start l)) (take (length area - at) (drop at area)) →
    put_mid at (length area - at) area last ≡ laid_at (take l (drop start o)) at area
put_is o area last start l at e =
    rest_copied (part o start l) area last at e ∙ ap (λ (v : List ℕ). laid_at v at area) (part_is o start l)

-- a part laid over one as long
pub put_part : (o area last : List ℕ) (start l at : ℕ) → start + l ≤ length o → last ≡ part o start l →
    put_mid at (at + l - at) area last ≡ laid_at (take l (drop start o)) at area
put_part o area last start l at h e =
    part_over (take l (drop start o)) area last at (at + l - at)
    (omega (arith, length-take-le l (drop start o) (omega (arith, length-drop start o))))
    (e ∙ part_is o start l)
