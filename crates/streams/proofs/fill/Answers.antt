-- `fill` has filled what was there and what the read gave behind it.
use Rattle.std.proofs.Common.{◌≡◌, ℕ, ◌+◌, ◌-◌, ◌≤◌, List, ◌++◌, rules, arith, length, take, slice_range, sym, ap, ◌∙◌, subst, le_refl, drop_at, length-take-le}
use Rattle.std.proofs.lemmas.Slice.{take-put_mid_below}
use Rattle.std.specs.Io.KnownBytes.{Consumes}
use Rattle.std.proofs.KnownBytes.{Consumes-trans}
use borrow.Rule.Slice.PartMut.{put_mid, post_of}
use lib.Seq.{take-add, take-append-le}
use Rattle.streams.proofs.fill.Goals as goal

-- the first octets, and those up to a place behind them
take_split : (a b : ℕ) (old new : List ℕ) → a ≤ b → take a new ≡ take a old →
    take a old ++ slice_range new a b ≡ take b new
take_split a b old new h front =
    let same : a + (b - a) ≡ b = omega arith in
    ap (λ l. l ++ slice_range new a b) (sym front) ∙ sym (take-add a (b - a) new) ∙ ap (λ n. take n new) same

-- what was put behind a place stands there
slice_range-put_mid : (a k n : ℕ) (xs ys : List ℕ) → a ≤ length xs → n ≤ length ys →
    slice_range (put_mid a k xs ys) a (a + n) ≡ take n ys
slice_range-put_mid a k n xs ys within fits =
    let same : (a + n) - a ≡ n = omega arith in
    let after = post_of a k xs in
    ap (take ((a + n) - a)) (drop_at (take a xs) (ys ++ after) a (length-take-le a xs within))
    ∙ ap (λ m. take m (ys ++ after)) same ∙ take-append-le n ys after fits

pub loop-filled-preserved : goal.loop-filled-preserved
loop-filled-preserved g c =
    let from = c.loop-filled.filled in
    let octets = c.loop-filled.octets in
    let got = c.in_ok-got.got in
    let room = length octets - from in
    let before = c.loop-filled.invariant in
    let read = c.in_ok-got.ensures in
    let filled = put_mid from room octets c.read.new.buf in
    let part = slice_range-put_mid from room got octets c.read.new.buf before.1 read.bound.0 in
    let kept = take-put_mid_below _ _ _ _ _ (le_refl _) before.1 in
    let joined = take_split from (from + got) octets filled (omega arith) kept in
    let whole = ap (λ l. take from octets ++ l) (sym part) ∙ joined in
    (search rules, search rules, subst (Consumes _ _) whole (Consumes-trans _ _ _ _ _ before.2 read.bytes.0))
