-- What comparing drafts needs: the loop over the entries that are used.
-- Assumes nothing.
use Prim.Native.Nat.{ℕ, ◌+◌, ◌≤◌, ◌<◌}
use mathlib.Core.Path.{◌≡◌, sym, ◌∙◌, ap₂}
use mathlib.Core.Bool.{Bool, true, false}
use mathlib.Core.List.{List}
use native.Mathlib.Omega.{arith}
use lib.ListN.{length, take, drop, get_or}
use lib.Seq.{get_or-take, length-take-le}
use Rattle.rules.specs.Message.{most}
use Rattle.rules.proofs.Pairwise.{compared, agrees, differs}
use Rattle.draft.specs.Same.{same_entry, same_entries}
use Rattle.draft.specs.declared.Entry.{Entry}

-- ---- the entries that are used: the first n of 85
-- those from i on decide
abbrev pub Left : List ℕ → List ℕ → ℕ → List Entry → List Entry → ℕ → Type 0
Left s t n es fs i = same_entries s (drop i (take n es)) t (drop i (take n fs)) ≡ same_entries s (take n es) t (take n fs)

module _ (s t : List ℕ) (n : ℕ) (es fs : List Entry) (few : n ≤ most) (l : length es ≡ most)
    (m : length fs ≡ most) where
  used_length : (gs : List Entry) → length gs ≡ most → length (take n gs) ≡ n
  used_length gs k = length-take-le n gs (omega arith)

  module _ (i : ℕ) (inv : Left s t n es fs i) where
    pub all_agree : n ≤ i → true ≡ same_entries s (take n es) t (take n fs)
    all_agree h =
        compared (λ (e f : Entry). same_entry s e t f) (take n es) (take n fs) i inv
        (omega (arith, used_length es l)) (omega (arith, used_length fs m))

    module _ (z : Entry) (b : Bool) (h : i < n) (e : b ≡ same_entry s (get_or es i z) t (get_or fs i z)) where
      at_i : same_entry s (get_or (take n es) i z) t (get_or (take n fs) i z) ≡ b
      at_i = ap₂ (λ (e f : Entry). same_entry s e t f) (get_or-take n es i z h) (get_or-take n fs i z h) ∙ sym e

      pub entry_agrees : b ≡ true → Left s t n es fs (i + 1)
      entry_agrees q =
          agrees (λ (e f : Entry). same_entry s e t f) (take n es) (take n fs) i inv z
          (omega (arith, used_length es l)) (omega (arith, used_length fs m)) (at_i ∙ q)

      pub entry_differs : b ≡ false → false ≡ same_entries s (take n es) t (take n fs)
      entry_differs q =
          differs (λ (e f : Entry). same_entry s e t f) (take n es) (take n fs) i inv z
          (omega (arith, used_length es l)) (omega (arith, used_length fs m)) (at_i ∙ q)
