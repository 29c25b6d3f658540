-- Digits read one by one: the number that they say behind others depends only on what those say, as far as two octets
-- hold it, so each step may cut it down.
-- Assumes nothing.
use Rattle.std.proofs.Common.{◌≡◌, ℕ, ◌+◌, ◌-◌, ◌*◌, ◌/◌, ◌%◌, ◌<◌, ◌≤◌, List, [], ◌∷◌, length, get_or, drop, sym, ap, ◌∙◌, add-one, arith, drop_of_length-le, drop-cons}
use native.Mathlib.Nat.{add-mul-mod_self_left, mod-mod}
use Rattle.listing.specs.Numerals.{number_from}

-- a digit behind a number, and behind what two octets hold of it
cut : (a d : ℕ) → (10 * a + d) % 65536 ≡ (10 * (a % 65536) + d) % 65536
cut a d =
    let e : 10 * (a % 65536) + d + 65536 * (10 * (a / 65536)) ≡ 10 * a + d = omega arith in
    ap (λ (k : ℕ). k % 65536) (sym e) ∙ add-mul-mod_self_left (10 * (a % 65536) + d) 65536 (10 * (a / 65536))

-- the number so far is told by what two octets hold of it
same_number : (l : List ℕ) (a b : ℕ) → a % 65536 ≡ b % 65536 → number_from a l % 65536 ≡ number_from b l % 65536
unfolding number_from
same_number [] a b e = e
same_number (x ∷ l) a b e =
    same_number l (10 * a + (x - 48)) (10 * b + (x - 48))
    (cut a (x - 48) ∙ ap (λ (k : ℕ). (10 * k + (x - 48)) % 65536) e ∙ sym (cut b (x - 48)))

module _ (t : List ℕ) (i n : ℕ) where
  -- a digit more
  pub number_more : i < length t → (d : ℕ) → d ≡ get_or t i 0 - 48 →
      number_from ((10 * n + d) % 65536) (drop (i + 1) t) % 65536 ≡ number_from n (drop i t) % 65536
  unfolding number_from
  number_more h d e =
      same_number (drop (i + 1) t) ((10 * n + d) % 65536) (10 * n + (get_or t i 0 - 48))
      (mod-mod (10 * n + d) 65536 ∙ ap (λ (k : ℕ). (10 * n + k) % 65536) e)
      ∙ ap (λ (k : ℕ). number_from (10 * n + (get_or t i 0 - 48)) (drop k t) % 65536) (add-one i)
      ∙ ap (λ (l : List ℕ). number_from n l % 65536) (sym (drop-cons t i 0 h))

  -- no digit more
  pub number_all : length t ≤ i → n < 65536 → n ≡ number_from n (drop i t) % 65536
  unfolding number_from
  number_all h l =
      let e : number_from n (drop i t) ≡ n = ap (number_from n) (drop_of_length-le t {i = i} h) in omega arith
