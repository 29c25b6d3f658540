-- Two outcomes that a promise allows are equal, where the octets that a reader has left, or a writer holds, are known and
-- there is no error: the answer, and what is left or held behind it. Said over the words of the clauses.
-- Assumes nothing.
use Rattle.std.proofs.Common.{◌≡◌, refl, sym, ap, ◌∙◌, arith, ℕ, ◌<◌, ◌≤◌, List, [], ◌++◌, length, take, drop, get_or, append-nil, None, Some}
use Rattle.std.proofs.Math.Seq.{take-append_seam, drop-append_seam}
use Rattle.std.proofs.Math.ListN.{drop_of_length-le}
use Rattle.std.proofs.Math.Nat.{eq-or-lt_of_le}
use Rattle.std.proofs.lemmas.List.{take_all}
use Rattle.std.specs.declared.option.Option.{Option}
use Rattle.std.specs.Io.KnownBytes.{Consumes, Appends, IsAtEnd}
use mathlib.Core.Logic.{⊎_elim}
use lib.ListN.{length-append}
use Rattle.streams.specs.Octets.{EndsWithin, two_octets}

-- what was taken is the front, and what is left the rest
taken_is : (n : ℕ) (xs a left : List ℕ) → Consumes (Some xs) (Some left) a → length a ≤ n → (length a < n → left ≡ []) →
    (a ≡ take n xs) × (left ≡ drop n xs)
taken_is n xs a left e h z =
    ⊎_elim
    (λ (q : length a ≡ n). (
      sym (take-append_seam a left) ∙ ap (take (length a)) (sym e) ∙ ap (λ m. take m xs) q,
      sym (drop-append_seam a left) ∙ ap (drop (length a)) (sym e) ∙ ap (λ m. drop m xs) q,
    ))
    (λ (l : length a < n).
    let whole : xs ≡ a = e ∙ ap (λ r. a ++ r) (z l) ∙ append-nil a in (
      sym (take_all n a h) ∙ ap (take n) (sym whole),
      z l ∙ sym (drop_of_length-le xs (omega (arith, ap (λ (x : List ℕ). length x) whole, h))),
    ))
    (eq-or-lt_of_le h)

pub up_to_settled : (n : ℕ) (xs a b left left' : List ℕ) →
    Consumes (Some xs) (Some left) a → length a ≤ n → (length a < n → IsAtEnd (Some left)) →
    Consumes (Some xs) (Some left') b → length b ≤ n → (length b < n → IsAtEnd (Some left')) →
    (a ≡ b) × (left ≡ left')
up_to_settled n xs a b left left' e h z f i y =
    let one = taken_is n xs a left e h z in
    let two = taken_is n xs b left' f i y in (one.0 ∙ sym two.0, one.1 ∙ sym two.1)

-- octets of which there are so many, or the end
abbrev pub Exactly : ℕ → List ℕ → List ℕ → Option (List ℕ) → Type 0
Exactly n xs left None = EndsWithin n (Some xs) (Some left)
Exactly n xs left (Some a) = (length a ≡ n) × Consumes (Some xs) (Some left) a

-- so many were left, or fewer, and not both
not_both : (n : ℕ) (xs a left left' : List ℕ) → length a ≡ n → Consumes (Some xs) (Some left) a →
    EndsWithin n (Some xs) (Some left') → ⊥
not_both n xs a left left' q e (b, short, f, end) =
    omega (
      arith,
      q,
      short,
      ap (λ (x : List ℕ). length x) (sym e ∙ f),
      length-append a left,
      length-append b left',
      ap (λ (x : List ℕ). length x) end,
    )

-- where they end within so many, nothing is left
ends : (n : ℕ) (xs left : List ℕ) → EndsWithin n (Some xs) (Some left) → left ≡ []
ends n xs left (a, short, f, end) = end

pub exactly_settled : (n : ℕ) (xs left left' : List ℕ) (r r' : Option (List ℕ)) → Exactly n xs left r →
    Exactly n xs left' r' → (r ≡ r') × (left ≡ left')
exactly_settled n xs left left' None None p q = (refl, ends n xs left p ∙ sym (ends n xs left' q))
exactly_settled n xs left left' None (Some b) p q = absurd (not_both n xs b left' left q.0 q.1 p)
exactly_settled n xs left left' (Some a) None p q = absurd (not_both n xs a left left' p.0 p.1 q)
exactly_settled n xs left left' (Some a) (Some b) p q =
    let same = up_to_settled n xs a b left left' p.1 (omega (arith, p.0)) (λ l. absurd (omega (arith, p.0, l)))
    q.1 (omega (arith, q.0)) (λ l. absurd (omega (arith, q.0, l))) in (ap Some same.0, same.1)

-- two octets say one number
one_number : (m n : ℕ) → two_octets m ≡ two_octets n → m ≡ n
one_number m n e =
    omega (arith, ap (λ (x : List ℕ). get_or x 0 0) e, ap (λ (x : List ℕ). get_or x 1 0) e)

-- the number in two octets, or the end
abbrev pub Told : List ℕ → List ℕ → Option ℕ → Type 0
Told xs left None = EndsWithin 2 (Some xs) (Some left)
Told xs left (Some n) = Consumes (Some xs) (Some left) (two_octets n)

pub number_settled : (xs left left' : List ℕ) (r r' : Option ℕ) → Told xs left r → Told xs left' r' →
    (r ≡ r') × (left ≡ left')
number_settled xs left left' None None p q = (refl, ends 2 xs left p ∙ sym (ends 2 xs left' q))
number_settled xs left left' None (Some n) p q = absurd (not_both 2 xs (two_octets n) left' left refl q p)
number_settled xs left left' (Some m) None p q = absurd (not_both 2 xs (two_octets m) left left' refl p q)
number_settled xs left left' (Some m) (Some n) p q =
    let same = up_to_settled 2 xs (two_octets m) (two_octets n) left left' p (omega arith)
    (λ l. absurd (omega (arith, l))) q (omega arith) (λ l. absurd (omega (arith, l))) in
    (ap Some (one_number m n same.0), same.1)

pub list_settled : (xs ys zs v : List ℕ) → Appends (Some xs) (Some ys) v → Appends (Some xs) (Some zs) v → ys ≡ zs
list_settled xs ys zs v p q = p ∙ sym q
