-- Octets laid over others, and a part or the rest of a lent slice, from a place on, lent and back.
-- Assumes nothing.
use Prim.Native.Nat.{ℕ, ◌+◌, ◌-◌, ◌≤◌}
use mathlib.Core.Path.{◌≡◌, sym, ◌∙◌, ap, ap₂}
use mathlib.Core.List.{List, ◌++◌, append-nil, append_assoc}
use native.Mathlib.Omega.{arith}
use lib.ListN.{length, length-append, length-drop, take, drop, drop_of_length-le}
use lib.Seq.{take-append_seam, drop-append_seam, take_at, drop_at, drop-drop, take-length, take_all, length-take-le}
use borrow.Rule.Slice.PartMut.{put_mid}
use Rattle.rules.specs.Laying.{laid, laid_at}

-- ---- where they fit: the octets before their end, those behind it, and the number of all
module _ (v : List ℕ) (at : ℕ) (old : List ℕ) (h : at + length v ≤ length old) where
  before : length (take at old) ≡ at
  before = length-take-le at old (omega arith)

  end : length (take at old ++ v) ≡ at + length v
  end = length-append (take at old) v ∙ ap (λ (n : ℕ). n + length v) before

  pub laid_front : take (at + length v) (laid_at v at old) ≡ take at old ++ v
  unfolding laid_at
  laid_front =
      ap (take (at + length v)) (sym (append_assoc (take at old) v (drop (at + length v) old)))
      ∙ take_at (take at old ++ v) (drop (at + length v) old) (at + length v) end

  pub laid_behind : drop (at + length v) (laid_at v at old) ≡ drop (at + length v) old
  unfolding laid_at
  laid_behind =
      ap (drop (at + length v)) (sym (append_assoc (take at old) v (drop (at + length v) old)))
      ∙ drop_at (take at old ++ v) (drop (at + length v) old) (at + length v) end

  pub laid_length : length (laid_at v at old) ≡ length old
  unfolding laid_at
  laid_length =
      omega (
        arith,
        length-append (take at old) (v ++ drop (at + length v) old),
        length-append v
            (drop (at + length v) old),
        length-drop (at + length v) old,
        before,
      )

-- octets behind octets
pub laid_then : (v w old : List ℕ) → laid_at w (length v) (laid v old) ≡ laid (v ++ w) old
unfolding laid laid_at
laid_then v w old =
    ap₂ (λ (a b : List ℕ). a ++ (w ++ b)) (take-append_seam v (drop (length v) old))
    (sym (drop-drop (length w) (length v) (v ++ drop (length v) old))
    ∙ ap (drop (length w)) (drop-append_seam v (drop (length v) old)) ∙ drop-drop (length w) (length v) old
    ∙ ap (λ (n : ℕ). drop n old) (sym (length-append v w)))
    ∙ sym (append_assoc v w (drop (length (v ++ w)) old))

-- ---- parts of a slice
-- a part by its start and end is that by its start and length
pub part_is : (s : List ℕ) (start n : ℕ) → take (start + n - start) (drop start s) ≡ take n (drop start s)
part_is s start n = let z : start + n - start ≡ n = omega arith in ap (λ (k : ℕ). take k (drop start s)) z

-- octets over a part that is as long as they are
pub part_over : (v s last : List ℕ) (at n : ℕ) → n ≡ length v → last ≡ v → put_mid at n s last ≡ laid_at v at s
unfolding laid_at
part_over v s last at n h e =
    ap₂ (λ (t : List ℕ) (k : ℕ). take at s ++ (t ++ drop k (drop at s))) e h
    ∙ ap (λ (t : List ℕ). take at s ++ (v ++ t)) (drop-drop (length v) at s)

-- the rest
pub rest_whole : (at : ℕ) (s : List ℕ) → take (length s - at) (drop at s) ≡ drop at s
rest_whole at s = take_all (length s - at) (drop at s) (omega (arith, length-drop at s))

-- octets were laid over it
pub rest_laid : (v s last : List ℕ) (at : ℕ) → last ≡ laid v (take (length s - at) (drop at s)) →
    put_mid at (length s - at) s last ≡ laid_at v at s
unfolding laid laid_at
rest_laid v s last at e =
    ap (λ (t : List ℕ). take at s ++ t)
    (ap (λ (t : List ℕ). last ++ t) (drop_of_length-le (drop at s) {i = length s - at}
    (omega (arith, length-drop at s)))
    ∙ append-nil last
    ∙ e
    ∙ ap (λ (t : List ℕ). v ++ drop (length v) t) (rest_whole at s)
    ∙ ap (λ (t : List ℕ). v ++ t) (drop-drop (length v) at s))

-- a whole slice was copied over it
pub rest_copied : (v s last : List ℕ) (at : ℕ) →
    last ≡ take (length v) v ++ drop (length v) (take (length s - at) (drop at s)) →
    put_mid at (length s - at) s last ≡ laid_at v at s
unfolding laid
rest_copied v s last at e =
    rest_laid v s last at (e ∙ ap (λ (t : List ℕ). t ++ drop (length v) (take (length s - at) (drop at s)))
    (take-length v))
