-- How many octets of contents may stand where they stand: never more than there are, and all exactly where each
-- passes. A text is gone along octet by octet, a date pair by pair; where only the first octet is judged, it decides.
-- Assumes nothing.
use Prim.Native.Nat.{ℕ, suc, ◌+◌, ◌-◌, ◌≤◌, ◌<◌}
use mathlib.Core.Path.{◌≡◌, refl, sym, ◌∙◌, ap}
use mathlib.Core.Bool.{Bool, true, false}
use mathlib.Core.List.{List, [], ◌∷◌}
use native.Mathlib.Numerals.{add-one}
use native.Mathlib.Omega.{arith}
use lib.ListN.{length, drop, get_or, length-drop, drop_of_length-le}
use lib.Seq.{drop-cons, drop-drop}
use Rattle.rules.specs.Tests.{◌≤?◌, ◌=?◌, ◌and◌, pick}
use Rattle.rules.specs.Octets.{Octets}
use Rattle.rules.specs.Contents.{Range, in_set}
use Rattle.rules.specs.ContentJudge.{Judge, passes, passing, tens_fit, ones_fit, pair_at, pair_stands, pairs_judge, text_judge, judge_of, ok_at, remember, fits_from, good_front}
use Rattle.rules.proofs.Octets.{octets-drop}
use Rattle.rules.proofs.Tests.{eq_of, of_eq, le_of, of_le, pick_yes, pick_not}
use Rattle.rules.proofs.Returns.{T_of, yes_eq, no_eq, same_truth}
use Rattle.rules.proofs.AtIndex.{pair_late}
use Rattle.rules.specs.declared.Class.{Class}

-- ---- any judge
module _ (j : Judge) (n : ℕ) where
  pub passing_most : (i m : ℕ) (v : List ℕ) → passing j n i m v ≤ length v
  unfolding passing pick
  passing_most i m [] = omega arith
  passing_most i m (x ∷ v) = go (j.ok n i m x) (passing_most (suc i) (j.keep n i m x) v)
    where
      go : (b : Bool) {k : ℕ} → k ≤ length v → pick b (suc k) 0 ≤ suc (length v)
      go true h = omega arith
      go false h = omega arith

  -- all may stand exactly where each passes
  pub passing_all : (i m : ℕ) (v : List ℕ) → (passing j n i m v =? length v) ≡ passes j n i m v
  unfolding passing passes pick ◌and◌
  passing_all i m [] = yes_eq 0 0 refl
  passing_all i m (x ∷ v) = go (j.ok n i m x) _ (passing_all (suc i) (j.keep n i m x) v)
    where
      go : (b : Bool) (k : ℕ) {p : Bool} → (k =? length v) ≡ p → (pick b (suc k) 0 =? suc (length v)) ≡ (b and p)
      go true k e =
          same_truth (suc k =? suc (length v)) (k =? length v)
          (λ t. of_eq _ _ (let q = eq_of _ _ t in omega arith)) (λ t. of_eq _ _ (ap suc (eq_of _ _ t))) ∙ e
      go false k e = no_eq 0 (suc (length v)) (λ q. omega arith)

  -- where any octet may stand from an index on, all do
  pub any_stand : (k : ℕ) → ((i m x : ℕ) → k ≤ i → x < 256 → true ≡ j.ok n i m x) → (i m : ℕ) (v : List ℕ) → k ≤ i →
      Octets v → length v ≡ passing j n i m v
  unfolding passing pick
  any_stand k f i m [] h o = refl
  any_stand k f i m (x ∷ v) h o = rw (← f i m x h o.0) (ap suc (any_stand k f (suc i) _ v (omega arith) o.1))

  pub none_stand : (i m : ℕ) (v : List ℕ) → length v ≡ 0 → 0 ≡ passing j n i m v
  none_stand i m v e = omega (arith, passing_most i m v)

-- ---- contents of a class
module _ (c : Class) (v : List ℕ) where
  pub fits_iff : (good_front c v =? length v) ≡ fits_from c (length v) 0 0 v
  fits_iff = passing_all _ _ 0 0 v

  pub stands_all : good_front c v ≡ length v → fits_from c (length v) 0 0 v ≡ true
  stands_all e = sym fits_iff ∙ yes_eq _ _ e

  pub all_stand : fits_from c (length v) 0 0 v ≡ true → good_front c v ≡ length v
  all_stand e = eq_of _ _ (T_of _ (fits_iff ∙ e))

-- ---- a text: the octets before i are of the set, so those from i on decide
unfoldable pub TextSoFar : List Range → List ℕ → ℕ → Type 0
TextSoFar s v i = i + passing (text_judge s) (length v) i 0 (drop i v) ≡ passing (text_judge s) (length v) 0 0 v

pub text_starts : (s : List Range) (v : List ℕ) → TextSoFar s v 0
unfolding TextSoFar
text_starts s v = omega arith

module _ (s : List Range) (v : List ℕ) (i : ℕ) (inv : TextSoFar s v i) where
  pub text_ends : length v ≤ i → i ≡ passing (text_judge s) (length v) 0 0 v
  unfolding TextSoFar
  text_ends h = omega (arith, passing_most (text_judge s) (length v) i 0 (drop i v), length-drop i v)

  module _ (h : i < length v) where
    here : passing (text_judge s) (length v) i 0 (drop i v) ≡
        pick (in_set s (get_or v i 0)) (suc (passing (text_judge s) (length v) (suc i) 0 (drop (suc i) v))) 0
    unfolding passing
    here = ap (passing (text_judge s) (length v) i 0) (drop-cons v i 0 h)

    pub text_goes : in_set s (get_or v i 0) ≡ true → TextSoFar s v (i + 1)
    unfolding TextSoFar
    text_goes e = let q = here ∙ pick_yes _ _ _ (T_of _ e) in rw (add-one i) (omega arith)

    pub text_stops : in_set s (get_or v i 0) ≡ false → i ≡ passing (text_judge s) (length v) 0 0 v
    unfolding TextSoFar
    text_stops e = let q = here ∙ pick_not _ _ _ (λ t. rw e at t) in omega arith

-- ---- any contents of a class, octet by octet: how many may stand where they stand, of contents that are to have n
-- octets
module _ (c : Class) (v : List ℕ) (n : ℕ) where
  abbrev pub Stood : ℕ → ℕ → Type 0
  Stood i m = i + passing (judge_of c) n i m (drop i v) ≡ passing (judge_of c) n 0 0 v

  module _ (i m : ℕ) (h : i < length v) where
    next : passing (judge_of c) n i m (drop i v) ≡
        pick (ok_at c n i m (get_or v i 0))
        (suc (passing (judge_of c) n (i + 1) (remember c n i m (get_or v i 0)) (drop (i + 1) v))) 0
    unfolding passing
    next =
        ap (passing (judge_of c) n i m) (drop-cons v i 0 h)
        ∙ ap (λ (k : ℕ). pick (ok_at c n i m (get_or v i 0))
        (suc (passing (judge_of c) n k (remember c n i m (get_or v i 0)) (drop k v))) 0)
        (sym (add-one i))

    pub stood_more : (m' : ℕ) → ok_at c n i m (get_or v i 0) ≡ true →
        m' ≡ remember c n i m (get_or v i 0) → Stood i m → Stood (i + 1) m'
    unfolding pick
    stood_more m' k r e =
        let p : passing (judge_of c) n i m (drop i v) ≡ suc (passing (judge_of c) n (i + 1) m' (drop (i + 1) v)) =
        next ∙ rw (k, r) refl in
        omega (arith, p, e)

    pub stood_wrong : ok_at c n i m (get_or v i 0) ≡ false → Stood i m → i ≡ passing (judge_of c) n 0 0 v
    unfolding pick
    stood_wrong k e =
        let p : passing (judge_of c) n i m (drop i v) ≡ 0 = next ∙ rw k refl in
        omega (arith, p, e)

  pub stood_all : (i m : ℕ) → length v ≤ i → Stood i m → i ≡ passing (judge_of c) n 0 0 v
  unfolding passing
  stood_all i m h e =
      let p : passing (judge_of c) n i m (drop i v) ≡ 0 = ap (passing (judge_of c) n i m) (drop_of_length-le v h) in
      omega (arith, p, e)

-- ---- a date
module _ (n : ℕ) where
  -- the digits of a pair have no part in the next
  fresh : (rs : List Range) (m : ℕ) (v : List ℕ) →
      passing (pairs_judge rs) n 0 m v ≡ passing (pairs_judge rs) n 0 0 v
  unfolding passing pair_at
  fresh rs m [] = refl
  fresh [] m (x ∷ v) = refl
  fresh (r ∷ rs) m (x ∷ v) = refl

  later : (r : Range) (rs : List Range) (i m : ℕ) (v : List ℕ) →
      passing (pairs_judge (r ∷ rs)) n (suc (suc i)) m v ≡ passing (pairs_judge rs) n i m v
  unfolding passing pair_at
  later r rs i m [] = refl
  later r rs i m (x ∷ v) =
      ap (λ (k : ℕ). pick (pair_at rs i m x) (suc k) 0) (later r rs (suc i) (x - 48) v)

  -- the next pair is judged where both digits of this one may stand
  pair_first : (r : Range) (rs : List Range) (v : List ℕ) → passing (pairs_judge (r ∷ rs)) n 0 0 v ≡
      pick (2 ≤? pair_stands r v) (suc (suc (passing (pairs_judge rs) n 0 0 (drop 2 v)))) (pair_stands r v)
  unfolding passing pair_at pair_stands pick ◌≤?◌
  pair_first r rs [] = refl
  pair_first r rs (a ∷ []) = one (tens_fit r a)
    where
      one : (t : Bool) → pick t 1 0 ≡
          pick (2 ≤? pick t 1 0) (suc (suc (passing (pairs_judge rs) n 0 0 []))) (pick t 1 0)
      one true = refl
      one false = refl
  pair_first r rs (a ∷ b ∷ v) =
      two (tens_fit r a) (ones_fit r (a - 48) b) (later r rs 0 (b - 48) v ∙ fresh rs (b - 48) v)
    where
      two : (t o : Bool) {k l : ℕ} → k ≡ l → pick t (suc (pick o (suc k) 0)) 0 ≡
          pick (2 ≤? pick t (pick o 2 1) 0) (suc (suc l)) (pick t (pick o 2 1) 0)
      two true true e = ap (λ (k : ℕ). suc (suc k)) e
      two true false e = refl
      two false true e = refl
      two false false e = refl

  -- a pair at a place, of which so much stands that the code has come to got
  module _ (v : List ℕ) (r : Range) (rs : List Range) (at got : ℕ) (e : got ≡ at + pair_stands r (drop at v)) where
    pub pair_stops : got < at + 2 → got ≡ at + passing (pairs_judge (r ∷ rs)) n 0 0 (drop at v)
    pair_stops h =
        let q = pair_first r rs (drop at v) ∙ pick_not _ _ _ (λ t. omega (arith, le_of _ _ t)) in
        omega arith

    pub pair_goes : at + 2 ≤ got → at + 2 + passing (pairs_judge rs) n 0 0 (drop (at + 2) v) ≡
        at + passing (pairs_judge (r ∷ rs)) n 0 0 (drop at v)
    pair_goes h =
        let q = pair_first r rs (drop at v) ∙ pick_yes _ _ _ (of_le _ _ (omega arith)) in
        rw (← drop-drop 2 at v) (omega arith)

  -- behind the last pair any octet may stand
  pub pair_ends : (v : List ℕ) (r : Range) (at got : ℕ) → Octets v → got ≡ at + pair_stands r (drop at v) →
      at + 2 ≤ got → length v ≡ at + passing (pairs_judge (r ∷ [])) n 0 0 (drop at v)
  pair_ends v r at got o e h =
      let a = any_stand (pairs_judge []) n 0 (λ i m x h l. pair_late [] i m x (omega arith) l) 0 0 (drop (at + 2) v)
      (omega arith) (octets-drop (at + 2) v o) in
      omega (
        arith,
        pair_goes v r [] at got e h,
        passing_most (pairs_judge (r ∷ [])) n 0 0 (drop at v),
        length-drop at v,
        length-drop (at + 2) v,
      )

-- two digits that stand are there
pub pair_whole : (r : Range) (v : List ℕ) (got : ℕ) → got ≡ 0 + pair_stands r (drop 0 v) → 2 ≤ got → 2 ≤ length v
unfolding pair_stands pick
pair_whole r [] got e h = omega arith
pair_whole r (a ∷ []) got e h = one (tens_fit r a) e
  where
    one : (t : Bool) → got ≡ 0 + pick t 1 0 → 2 ≤ 1
    one true e = omega arith
    one false e = omega arith
pair_whole r (a ∷ b ∷ v) got e h = omega arith

-- ---- a pair in the code: none, one or two octets from a place on
module _ (r : Range) where
  -- at most both stand, and both exactly where the second is there and stands with the first
  pub pair_most : (w : List ℕ) → pair_stands r w ≤ 2
  unfolding pair_stands pick
  pair_most [] = omega arith
  pair_most (a ∷ []) = one (tens_fit r a)
    where
      one : (t : Bool) → pick t 1 0 ≤ 2
      one true = omega arith
      one false = omega arith
  pair_most (a ∷ b ∷ w) = two (tens_fit r a) (ones_fit r (a - 48) b)
    where
      two : (t o : Bool) → pick t (pick o 2 1) 0 ≤ 2
      two true true = omega arith
      two true false = omega arith
      two false o = omega arith

  -- where not both stand, the tens decide
  pub tens_decide : (a : ℕ) (w : List ℕ) (t : Bool) → tens_fit r a ≡ t → (2 ≤? pair_stands r (a ∷ w)) ≡ false →
      pick {A = ℕ} t 1 0 ≡ pair_stands r (a ∷ w)
  unfolding pair_stands pick ◌≤?◌
  tens_decide a [] t e n = rw e
  tens_decide a (b ∷ w) t e n = rw e (go t (ones_fit r (a - 48) b) (rw e at n))
    where
      go : (t o : Bool) → (2 ≤? pick t (pick o 2 1) 0) ≡ false → pick {A = ℕ} t 1 0 ≡ pick t (pick o 2 1) 0
      go true true n = absurd (T_of false (sym n))
      go true false n = refl
      go false o n = refl

  short_pair : (w : List ℕ) → length w ≤ 1 → false ≡ (2 ≤? pair_stands r w)
  unfolding pair_stands pick ◌≤?◌
  short_pair [] h = refl
  short_pair (a ∷ []) h = one (tens_fit r a)
    where
      one : (t : Bool) → false ≡ (2 ≤? pick t 1 0)
      one true = refl
      one false = refl
  short_pair (a ∷ b ∷ w) h = absurd (omega arith)

  both_there : (a b : ℕ) (w : List ℕ) → (tens_fit r a and ones_fit r (a - 48) b) ≡ (2 ≤? pair_stands r (a ∷ b ∷ w))
  unfolding pair_stands pick ◌≤?◌ ◌and◌
  both_there a b w = two (tens_fit r a) (ones_fit r (a - 48) b)
    where
      two : (t o : Bool) → (t and o) ≡ (2 ≤? pick t (pick o 2 1) 0)
      two true true = refl
      two true false = refl
      two false o = refl

  module _ (v : List ℕ) (at : ℕ) where
    cut : at < length v → drop at v ≡ get_or v at 0 ∷ drop (at + 1) v
    cut h = rw (add-one at) (drop-cons v at 0 h)

    pub none_left : length v ≤ at → at ≡ at + pair_stands r (drop at v)
    unfolding pair_stands
    none_left h = rw (drop_of_length-le v h) (omega arith)

    -- one octet at most is left
    pub no_pair : length v ≤ at + 1 → false ≡ (2 ≤? pair_stands r (drop at v))
    no_pair h = short_pair (drop at v) (omega (arith, length-drop at v))

    -- two are
    pub pair_there : at + 1 < length v →
        (tens_fit r (get_or v at 0) and ones_fit r (get_or v at 0 - 48) (get_or v (at + 1) 0)) ≡ (2 ≤? pair_stands r (drop at v))
    pair_there h = rw (cut (omega arith), drop-cons v (at + 1) 0 h) (both_there _ _ _)

    pub pair_done : (b : Bool) → b ≡ (2 ≤? pair_stands r (drop at v)) → b ≡ true → at + 2 ≡ at + pair_stands r (drop at v)
    pair_done b e t = omega (arith, pair_most (drop at v), le_of _ _ (T_of _ (sym e ∙ t)))

    pub tens_left : at < length v → (b : Bool) → b ≡ (2 ≤? pair_stands r (drop at v)) → b ≡ false → (t : Bool) →
        tens_fit r (get_or v at 0) ≡ t → at + pick t 1 0 ≡ at + pair_stands r (drop at v)
    tens_left h b e n t q = rw (cut h) (ap (λ (k : ℕ). at + k) (tens_decide _ _ t q (rw (cut h) at (sym e ∙ n))))
