-- Digits of numbers, laid down two by two.
-- Assumes nothing.
use Rattle.std.proofs.Common.{◌≡◌, ℕ, ◌+◌, ◌*◌, ◌/◌, ◌%◌, ◌<◌, ◌≤◌, List, [], ◌∷◌, ◌++◌, length, get_or, take, set, sym, refl, ap, ◌∙◌, append_assoc, add-one, arith, length-append, length-take-le, take_all, take-suc, replicate}
use Rattle.rules.specs.Laying.{laid}
use Rattle.draft.specs.Meaning.{tens, ones}
use Rattle.writer.specs.declared.Spelling.{Spelling}
use Rattle.writer.specs.Judging.{digits_of, padded}
use Rattle.writer.proofs.Laying.{set_behind}

digits_long : (l : List ℕ) → length (digits_of l) ≡ 2 * length l
unfolding digits_of
digits_long [] = refl
digits_long (x ∷ l) = omega (arith, digits_long l)

digits-append : (l m : List ℕ) → digits_of (l ++ m) ≡ digits_of l ++ digits_of m
unfolding digits_of
digits-append [] m = refl
digits-append (x ∷ l) m = ap (λ (t : List ℕ). tens x ∷ ones x ∷ t) (digits-append l m)

module _ (l : List ℕ) (i : ℕ) (h : length l ≤ 5) (octets : List ℕ)
    (e : octets ≡ laid (digits_of (take i l)) (replicate 10 0)) where
  pub digits_put : i < length l →
      set (set octets (2 * i) (48 + get_or l i 0 / 10)) (2 * i + 1) (48 + get_or l i 0 % 10) ≡
      laid (digits_of (take (i + 1) l)) (replicate 10 0)
  unfolding tens ones digits_of
  digits_put k =
      let v = digits_of (take i l) in
      let x = get_or l i 0 in
      let n : 2 * i ≡ length v = omega (arith, digits_long (take i l), length-take-le i l (omega arith)) in
      let m : 2 * i + 1 ≡ length (v ++ tens x ∷ []) = omega (arith, n, length-append v (tens x ∷ [])) in
      ap (λ (t : List ℕ). set (set t (2 * i) (tens x)) (2 * i + 1) (ones x)) e
      ∙ ap (λ (k : ℕ). set (set (laid v (replicate 10 0)) k (tens x)) (2 * i + 1) (ones x)) n
      ∙ ap (λ (t : List ℕ). set t (2 * i + 1) (ones x)) (set_behind v (replicate 10 0) (tens x) (omega (arith, n)))
      ∙ ap (λ (k : ℕ). set (laid (v ++ tens x ∷ []) (replicate 10 0)) k (ones x)) m
      ∙ set_behind (v ++ tens x ∷ []) (replicate 10 0) (ones x) (omega (arith, m))
      ∙ ap (λ (t : List ℕ). laid t (replicate 10 0))
      (append_assoc v (tens x ∷ []) (ones x ∷ []) ∙ sym (digits-append (take i l) (x ∷ []))
      ∙ ap digits_of (sym (ap (λ (k : ℕ). take k l) (add-one i) ∙ take-suc l i 0 k)))

  pub digits_all : (n : ℕ) → n ≡ length l → n ≤ i →
      ◌≡◌ {A = Spelling} (record { octets = octets; length = 2 * n }) (padded (digits_of l))
  unfolding padded
  digits_all n q k =
      let t : take i l ≡ l = take_all i l (omega arith) in
      let m : 2 * n ≡ length (digits_of l) = omega (arith, digits_long l) in
      let o = e ∙ ap (λ (t : List ℕ). laid (digits_of t) (replicate 10 0)) t in
      λ i. record { octets = o i; length = m i }
