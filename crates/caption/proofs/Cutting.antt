-- How texts are searched octet by octet, and how lines are cut off a directory one after the other.
-- Assumes nothing.
use Rattle.rules.proofs.First.{index_most, found}
use Rattle.rules.specs.First.{index_of}
use Rattle.std.proofs.Common.{None}
use Prim.Native.Nat.{ℕ, suc, ◌+◌, ◌-◌, ◌≤◌, ◌<◌}
use mathlib.Core.Path.{◌≡◌, refl, sym, ◌∙◌, ap, ap₂}
use mathlib.Core.Bool.{Bool, true, false}
use mathlib.Core.List.{List, [], ◌∷◌}
use native.Mathlib.Omega.{arith}
use lib.ListN.{length, length-drop, take, drop, drop_of_length-le}
use lib.Seq.{drop-drop, length-take-le}
use lib.Dec.{T}
use Rattle.rules.specs.Tests.{◌=?◌, pick}
use Rattle.rules.proofs.Tests.{clash, pick_yes, pick_not, both, le_of}
use Rattle.rules.proofs.Returns.{T_of, holds}
use Rattle.rules.proofs.Telling.{telling}
use Rattle.rules.proofs.Pairwise.{octets_are}
use Rattle.caption.specs.Lines.{on_first, lines_of, before, behind, names}
use Rattle.caption.specs.Caption.{lookup_from, entry_at}

-- ---- the search for an octet x, from an index on
-- what the tests on a line tell
pub ruleset line_words = (telling, found, index_most)

-- ---- the first line of a directory ends at its first 0AH, or with it
pub lines_cut : (d : List ℕ) → 0 < length d →
    lines_of d ≡ take (index_of 0x0A d) d ∷ lines_of (drop (suc (index_of 0x0A d)) d)
unfolding lines_of index_of on_first pick
lines_cut [] h = absurd (omega arith)
lines_cut (x ∷ d) h = go (x =? 0x0A) d (lines_cut d)
  where
    go : (b : Bool) (d : List ℕ) →
        (0 < length d → lines_of d ≡ take (index_of 0x0A d) d ∷ lines_of (drop (suc (index_of 0x0A d)) d)) →
        pick b ([] ∷ lines_of d) (on_first x (lines_of d)) ≡
        take (pick b 0 (suc (index_of 0x0A d))) (x ∷ d) ∷ lines_of (drop (suc (pick b 0 (suc (index_of 0x0A d)))) (x ∷ d))
    go true d f = refl
    go false [] f = refl
    go false (y ∷ d) f = ap (on_first x) (f (omega arith))

-- the text before the = of a line for the caller is as long as the caller
names_index : (caller l : List ℕ) → T (names caller l) → (index_of 0x3D l ≡ length caller) × (length caller < length l)
unfolding names before
names_index caller l t =
    let b = both _ _ t in
    let k = le_of _ _ b.0 in
    let e = sym (length-take-le (index_of 0x3D l) l (omega arith)) ∙ ap length (octets_are _ _ b.1) in
    (e, omega arith)

-- ---- the search for an entry, from the line that begins at a place on
module _ (caller d : List ℕ) (at : ℕ) where
  pub entry_end : length d ≤ at → lookup_from caller at (lines_of (drop at d)) ≡ None
  unfolding lookup_from lines_of
  entry_end h = ap (λ (r : List ℕ). lookup_from caller at (lines_of r)) (drop_of_length-le d h)

  module _ (h : at < length d) (rest : List ℕ) (w : rest ≡ drop at d) (line : List ℕ)
      (l : line ≡ take (index_of 0x0A rest) rest) where
    rest_size : length rest ≡ length d - at
    rest_size = ap length w ∙ length-drop at d

    line_size : length line ≡ index_of 0x0A rest
    line_size = ap length l ∙ length-take-le _ rest (index_most 0x0A rest)

    for_caller : T (names caller line) → (index_of 0x3D line ≡ length caller) × (length caller < length line)
    for_caller t = names_index caller line t

    cut : lines_of (drop at d) ≡ line ∷ lines_of (drop (at + suc (length line)) d)
    cut =
        ap lines_of (sym w)
        ∙ lines_cut rest (omega (arith, rest_size))
        ∙ ap (λ (v : List ℕ). v ∷ lines_of (drop (suc (index_of 0x0A rest)) rest)) (sym l)
        ∙ ap (λ (k : ℕ). line ∷ lines_of (drop (suc k) rest)) (sym line_size)
        ∙ ap (λ (r : List ℕ). line ∷ lines_of r) (ap (drop (suc (length line))) w ∙ drop-drop (suc (length line)) at d)

    -- the line ends inside the directory
    pub line_inside : at + length line ≤ length d
    line_inside = omega (arith, line_size, index_most 0x0A rest, rest_size)

    -- for the caller, and so longer than it
    pub caller_inside : names caller line ≡ true → length caller < length line
    caller_inside t = (for_caller (T_of _ t)).1

    -- its text is found there
    pub entry_here : names caller line ≡ true → lookup_from caller at (lines_of (drop at d)) ≡
        entry_at (at + length caller + 1) (length line - length caller - 1)
    unfolding lookup_from behind
    entry_here t =
        let c = for_caller (T_of _ t) in
        ap (lookup_from caller at) cut
        ∙ pick_yes _ _ _ (T_of _ t)
        ∙ ap₂ entry_at (omega (arith, c.0)) (omega (arith, c.0, length-drop (suc (index_of 0x3D line)) line))

    -- else the search goes on behind it
    pub entry_on : names caller line ≡ false → lookup_from caller at (lines_of (drop at d)) ≡
        lookup_from caller (at + (length line + 1)) (lines_of (drop (at + (length line + 1)) d))
    unfolding lookup_from
    entry_on f =
        let z : at + suc (length line) ≡ at + (length line + 1) = omega arith in
        ap (lookup_from caller at) cut
        ∙ pick_not _ _ _ (λ t. let e : true ≡ false = sym (holds _ t) ∙ f in clash cc)
        ∙ ap (λ (k : ℕ). lookup_from caller k (lines_of (drop k d))) z
