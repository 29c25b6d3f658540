-- Four of the builders of classes (pairs, columns, text, headed) make lawful classes; and what other classes need of
-- sets, lengths and pairs.
-- Assumes nothing.
use Prim.Native.Nat.{ℕ, zero, suc, ◌+◌, ◌*◌, ◌-◌, ◌/◌, ◌≤◌, ◌<◌}
use mathlib.Core.Path.{◌≡◌, refl, ap}
use mathlib.Core.Bool.{Bool, false}
use mathlib.Core.Logic.{◌⊎◌, inl, inr}
use mathlib.Core.List.{List, [], ◌∷◌}
use native.Mathlib.Omega.{arith}
use lib.ListN.{length}
use lib.Dec.{T}
use Rattle.rules.specs.Tests.{◌≤?◌, ◌and◌, ◌or◌, every}
use Rattle.rules.proofs.Tests.{both, join, either, left, le_of, of_le, every_head, every_tail}
use Rattle.rules.specs.Contents.{Range, within, in_set, pairs, columns, text, headed, only, digit, pair_fits, pairs_fit, columns_fit, all_in, head_fits}
use Rattle.rules.specs.ContentJudge.{passes, opens, tens_fit, ones_fit, pair_at, pairs_judge, column_at, columns_judge, text_judge, head_by, headed_judge}
use Rattle.rules.proofs.ClassLaw.{Lawful}

-- ---- what the proofs ask of a table, computed: a set has a member and octets only, a range a number of two digits,
-- lengths are 1 to 253
unfoldable pub any_in : List Range → Bool
any_in [] = false
any_in (r ∷ s) = r.0 ≤? r.1

abbrev pub octets_in : List Range → Bool
octets_in s = every (λ (r : Range). r.1 ≤? 255) s

abbrev pub sound_set : List Range → Bool
sound_set s = any_in s and octets_in s

abbrev pub sound_range : Range → Bool
sound_range r = (r.0 ≤? r.1) and (r.0 ≤? 99)

abbrev pub sound_lengths : List Range → Bool
sound_lengths ls = every (λ (l : Range). 1 ≤? l.0 and l.1 ≤? 253) ls

pub least : (ls : List Range) (n : ℕ) → T (sound_lengths ls) → T (in_set ls n) → 1 ≤ n
unfolding in_set within every
least [] n s t = absurd t
least (l ∷ ls) n s t = go (least ls n (both _ _ s).1) (either _ _ t)
  where
    go : (T (in_set ls n) → 1 ≤ n) → T (l.0 ≤? n and n ≤? l.1) ⊎ T (in_set ls n) → 1 ≤ n
    go f (inl e) = omega (arith, le_of _ _ (both _ _ (both _ _ s).0).0, le_of _ _ (both _ _ e).0)
    go f (inr e) = f e

pub most_253 : (ls : List Range) (n : ℕ) → T (sound_lengths ls) → T (in_set ls n) → n ≤ 253
unfolding in_set within every
most_253 [] n s t = absurd t
most_253 (l ∷ ls) n s t = go (most_253 ls n (both _ _ s).1) (either _ _ t)
  where
    go : (T (in_set ls n) → n ≤ 253) → T (l.0 ≤? n and n ≤? l.1) ⊎ T (in_set ls n) → n ≤ 253
    go f (inl e) = omega (arith, le_of _ _ (both _ _ (both _ _ s).0).1, le_of _ _ (both _ _ e).1)
    go f (inr e) = f e

pub only_is : (k n : ℕ) → T (in_set (only k) n) → n ≡ k
unfolding in_set within
only_is k n t = go (either _ _ t)
  where
    go : T (k ≤? n and n ≤? k) ⊎ ⊥ → n ≡ k
    go (inl e) = let a = le_of _ _ (both _ _ e).0 in let b = le_of _ _ (both _ _ e).1 in omega arith
    go (inr e) = absurd e

pub is_only : (k n : ℕ) → n ≡ k → T (in_set (only k) n)
unfolding in_set within
is_only k n e = left _ _ (join _ _ (of_le _ _ (omega arith)) (of_le _ _ (omega arith)))

-- ---- sets of octets
pub set_next : (s : List Range) → T (sound_set s) → (x : ℕ) × T (in_set s x)
unfolding in_set within any_in
set_next [] t = absurd (both _ _ t).0
set_next (r ∷ s) t = (r.0, left _ _ (join _ _ (of_le _ _ (omega arith)) (both _ _ t).0))

pub set_octet : (s : List Range) (x : ℕ) → T (octets_in s) → T (in_set s x) → x < 256
unfolding in_set within
set_octet [] x o t = absurd t
set_octet (r ∷ s) x o t = go (set_octet s x (every_tail _ r s o)) (either _ _ t)
  where
    go : (T (in_set s x) → x < 256) → T (r.0 ≤? x and x ≤? r.1) ⊎ T (in_set s x) → x < 256
    go f (inl a) = omega (arith, le_of _ _ (both _ _ a).1, le_of _ _ (every_head _ r s o))
    go f (inr b) = f b

-- ---- pairs
pair_tens : (r : Range) (a b : ℕ) → T (pair_fits r a b) → T (tens_fit r a)
unfolding pair_fits tens_fit opens digit within
pair_tens r a b t =
    let d = both _ _ t in
    let e = both _ _ d.1 in
    let q = both _ _ e.0 in
    let w = both _ _ e.1 in
    join _ _ d.0 (join _ _ (of_le _ _ (omega (arith, le_of _ _ q.1, le_of _ _ w.0)))
    (of_le _ _ (omega (arith, le_of _ _ w.1))))

pair_ones : (r : Range) (a b : ℕ) → T (pair_fits r a b) → T (ones_fit r (a - 48) b)
unfolding pair_fits ones_fit
pair_ones r a b t = (both _ _ t).1

ones_pair : (r : Range) (a b : ℕ) → T (tens_fit r a) → T (ones_fit r (a - 48) b) → T (pair_fits r a b)
unfolding pair_fits ones_fit tens_fit
ones_pair r a b t u = join _ _ (both _ _ t).0 u

-- the ranges after the first are the ranges two octets on
pairs_on : (r : Range) (rs : List Range) (n i m : ℕ) (v : List ℕ) →
    passes (pairs_judge (r ∷ rs)) n (suc (suc i)) m v ≡ passes (pairs_judge rs) n i m v
unfolding passes pair_at
pairs_on r rs n i m [] = refl
pairs_on r rs n i m (x ∷ v) = ap (λ (q : Bool). pair_at rs i m x and q) (pairs_on r rs n (suc i) (x - 48) v)

pairs_length : (rs : List Range) (v : List ℕ) → T (pairs_fit rs v) → length v ≡ 2 * length rs
unfolding pairs_fit
pairs_length [] [] t = refl
pairs_length [] (x ∷ v) t = absurd t
pairs_length (r ∷ rs) [] t = absurd t
pairs_length (r ∷ rs) (a ∷ []) t = absurd t
pairs_length (r ∷ rs) (a ∷ b ∷ v) t = omega (arith, pairs_length rs v (both _ _ t).1)

pairs_from : (rs : List Range) (n m : ℕ) (v : List ℕ) → T (pairs_fit rs v) → T (passes (pairs_judge rs) n 0 m v)
unfolding pairs_fit passes pair_at
pairs_from [] n m [] t = tt
pairs_from [] n m (x ∷ v) t = absurd t
pairs_from (r ∷ rs) n m [] t = absurd t
pairs_from (r ∷ rs) n m (a ∷ []) t = absurd t
pairs_from (r ∷ rs) n m (a ∷ b ∷ v) t =
    let d = both _ _ t in
    join _ _ (pair_tens r a b d.0) (join _ _ (pair_ones r a b d.0)
    (rw (pairs_on r rs n 0 (b - 48) v) (pairs_from rs n (b - 48) v d.1)))

from_pairs : (rs : List Range) (n m : ℕ) (v : List ℕ) → length v ≡ 2 * length rs →
    T (passes (pairs_judge rs) n 0 m v) → T (pairs_fit rs v)
unfolding pairs_fit passes pair_at
from_pairs [] n m [] l t = tt
from_pairs [] n m (x ∷ v) l t = absurd (omega arith)
from_pairs (r ∷ rs) n m [] l t = absurd (omega arith)
from_pairs (r ∷ rs) n m (a ∷ []) l t = absurd (omega arith)
from_pairs (r ∷ rs) n m (a ∷ b ∷ v) l t =
    let e = both _ _ t in
    let d = both _ _ e.1 in
    join _ _ (ones_pair r a b e.0 d.0)
    (from_pairs rs n (b - 48) v (omega arith) (rw (pairs_on r rs n 0 (b - 48) v) at d.1))

-- what is remembered at an index is the tens of some number of the range
abbrev pub PairMem : List Range → ℕ → ℕ → Type 0
PairMem [] i m = Unit {0}
PairMem (r ∷ rs) zero m = Unit {0}
PairMem (r ∷ rs) (suc zero) m = T (opens r m)
PairMem (r ∷ rs) (suc (suc i)) m = PairMem rs i m

pub pair_start : (rs : List Range) (m : ℕ) → PairMem rs 0 m
pair_start [] m = tt
pair_start (r ∷ rs) m = tt

pub pair_push : (rs : List Range) (i m x : ℕ) → T (pair_at rs i m x) → PairMem rs (suc i) (x - 48)
unfolding pair_at tens_fit
pair_push [] i m x t = tt
pair_push (r ∷ rs) zero m x t = (both _ _ t).1
pair_push (r ∷ rs) (suc zero) m x t = pair_start rs (x - 48)
pair_push (r ∷ rs) (suc (suc i)) m x t = pair_push rs i m x t

pub range_tens : (r : Range) → T (sound_range r) → T (tens_fit r (48 + r.0 / 10))
unfolding tens_fit opens digit within
range_tens r t =
    let a = le_of _ _ (both _ _ t).0 in
    let b = le_of _ _ (both _ _ t).1 in
    join _ _ (join _ _ (of_le _ _ (omega arith)) (of_le _ _ (omega arith)))
    (join _ _ (of_le _ _ (omega arith)) (of_le _ _ (omega arith)))

pub range_ones : (r : Range) (m : ℕ) → T (sound_range r) → T (opens r m) → T (ones_fit r m (48 + (r.0 - 10 * m)))
unfolding opens ones_fit digit within
range_ones r m t o =
    let a = le_of _ _ (both _ _ t).0 in
    let b = le_of _ _ (both _ _ o).0 in
    let c = le_of _ _ (both _ _ o).1 in
    join _ _ (join _ _ (of_le _ _ (omega arith)) (of_le _ _ (omega arith)))
    (join _ _ (of_le _ _ (omega arith)) (of_le _ _ (omega arith)))

pub pair_next : (rs : List Range) (i m : ℕ) → T (every sound_range rs) → PairMem rs i m → (x : ℕ) × T (pair_at rs i m x)
unfolding pair_at
pair_next [] i m s k = (0, of_le _ _ (omega arith))
pair_next (r ∷ rs) zero m s k = (48 + r.0 / 10, range_tens r (every_head _ r rs s))
pair_next (r ∷ rs) (suc zero) m s k = (48 + (r.0 - 10 * m), range_ones r m (every_head _ r rs s) k)
pair_next (r ∷ rs) (suc (suc i)) m s k = pair_next rs i m (every_tail _ r rs s) k

pub digit_octet : (x : ℕ) → T (digit x) → x < 256
unfolding digit within
digit_octet x t = omega (arith, le_of _ _ (both _ _ t).1)

pub zero_digit : T (digit 0x30)
unfolding digit within ◌≤?◌ ◌and◌
zero_digit = tt

-- an octet that passes one of two tests
pub some_octet : (a b : Bool) (x : ℕ) → (T a → x < 256) → (T b → x < 256) → T (a or b) → x < 256
some_octet a b x f g t = go (either _ _ t)
  where
    go : T a ⊎ T b → x < 256
    go (inl z) = f z
    go (inr z) = g z

pub pair_octet : (rs : List Range) (i m x : ℕ) → T (pair_at rs i m x) → x < 256
unfolding pair_at tens_fit ones_fit
pair_octet [] i m x t = omega (arith, le_of _ _ t)
pair_octet (r ∷ rs) zero m x t = digit_octet x (both _ _ t).0
pair_octet (r ∷ rs) (suc zero) m x t = digit_octet x (both _ _ t).0
pair_octet (r ∷ rs) (suc (suc i)) m x t = pair_octet rs i m x t

pub pairs_lawful : (rs : List Range) → T (sound_lengths (only (2 * length rs)) and every sound_range rs) →
    Lawful (pairs rs) (pairs_judge rs)
pairs_lawful rs s =
    let d = both _ _ s in
    record {
      Mem = λ n i m. PairMem rs i m;
      start = λ n. pair_start rs 0;
      push = λ n i m x t. pair_push rs i m x t;
      next = λ n i m o. pair_next rs i m d.1 o;
      octet = λ n i m x t. pair_octet rs i m x t;
      least = λ n t. least _ n d.0 t;
      most = λ n t. most_253 _ n d.0 t;
      fit_length = λ v t. is_only _ _ (pairs_length rs v t);
      fit_from = λ v t. pairs_from rs (length v) 0 v t;
      from_fit = λ v l t. from_pairs rs (length v) 0 v (only_is _ _ l) t;
    }

-- ---- columns
columns_on : (s : List Range) (ss : List (List Range)) (n i m : ℕ) (v : List ℕ) →
    passes (columns_judge (s ∷ ss)) n (suc i) m v ≡ passes (columns_judge ss) n i m v
unfolding passes column_at
columns_on s ss n i m [] = refl
columns_on s ss n i m (x ∷ v) = ap (λ (q : Bool). column_at ss i x and q) (columns_on s ss n (suc i) 0 v)

columns_length : (ss : List (List Range)) (v : List ℕ) → T (columns_fit ss v) → length v ≡ length ss
unfolding columns_fit
columns_length [] [] t = refl
columns_length [] (x ∷ v) t = absurd t
columns_length (s ∷ ss) [] t = absurd t
columns_length (s ∷ ss) (x ∷ v) t = ap suc (columns_length ss v (both _ _ t).1)

columns_from : (ss : List (List Range)) (n m : ℕ) (v : List ℕ) → T (columns_fit ss v) →
    T (passes (columns_judge ss) n 0 m v)
unfolding columns_fit passes column_at
columns_from [] n m [] t = tt
columns_from [] n m (x ∷ v) t = absurd t
columns_from (s ∷ ss) n m [] t = absurd t
columns_from (s ∷ ss) n m (x ∷ v) t =
    let d = both _ _ t in
    join _ _ d.0 (rw (columns_on s ss n 0 0 v) (columns_from ss n 0 v d.1))

from_columns : (ss : List (List Range)) (n m : ℕ) (v : List ℕ) → length v ≡ length ss →
    T (passes (columns_judge ss) n 0 m v) → T (columns_fit ss v)
unfolding columns_fit passes column_at
from_columns [] n m [] l t = tt
from_columns [] n m (x ∷ v) l t = absurd (omega arith)
from_columns (s ∷ ss) n m [] l t = absurd (omega arith)
from_columns (s ∷ ss) n m (x ∷ v) l t =
    let d = both _ _ t in
    join _ _ d.0 (from_columns ss n 0 v (omega arith) (rw (columns_on s ss n 0 0 v) at d.1))

column_next : (ss : List (List Range)) (i : ℕ) → T (every sound_set ss) → (x : ℕ) × T (column_at ss i x)
unfolding column_at
column_next [] i s = (0, of_le _ _ (omega arith))
column_next (s ∷ ss) zero t = set_next s (every_head _ s ss t)
column_next (s ∷ ss) (suc i) t = column_next ss i (every_tail _ s ss t)

column_octet : (ss : List (List Range)) (i x : ℕ) → T (every sound_set ss) → T (column_at ss i x) → x < 256
unfolding column_at
column_octet [] i x s t = omega (arith, le_of _ _ t)
column_octet (s ∷ ss) zero x o t = set_octet s x (both _ _ (every_head _ s ss o)).1 t
column_octet (s ∷ ss) (suc i) x o t = column_octet ss i x (every_tail _ s ss o) t

pub columns_lawful : (ss : List (List Range)) → T (sound_lengths (only (length ss)) and every sound_set ss) →
    Lawful (columns ss) (columns_judge ss)
columns_lawful ss s =
    let d = both _ _ s in
    record {
      Mem = λ n i m. Unit {0};
      start = λ n. tt;
      push = λ n i m x t. tt;
      next = λ n i m o. column_next ss i d.1;
      octet = λ n i m x t. column_octet ss i x d.1 t;
      least = λ n t. least _ n d.0 t;
      most = λ n t. most_253 _ n d.0 t;
      fit_length = λ v t. is_only _ _ (columns_length ss v t);
      fit_from = λ v t. columns_from ss (length v) 0 v t;
      from_fit = λ v l t. from_columns ss (length v) 0 v (only_is _ _ l) t;
    }

-- ---- text
text_from_lem : (s : List Range) (n i m : ℕ) (v : List ℕ) → passes (text_judge s) n i m v ≡ all_in s v
unfolding passes all_in
text_from_lem s n i m [] = refl
text_from_lem s n i m (x ∷ v) = ap (λ (q : Bool). in_set s x and q) (text_from_lem s n (suc i) 0 v)

pub text_lawful : (ls s : List Range) → T (sound_lengths ls and sound_set s) → Lawful (text ls s) (text_judge s)
text_lawful ls s k =
    let d = both _ _ k in
    record {
      Mem = λ n i m. Unit {0};
      start = λ n. tt;
      push = λ n i m x t. tt;
      next = λ n i m o. set_next s d.1;
      octet = λ n i m x t. set_octet s x (both _ _ d.1).1 t;
      least = λ n t. least ls n d.0 t;
      most = λ n t. most_253 ls n d.0 t;
      fit_length = λ v t. (both _ _ t).0;
      fit_from = λ v t. rw text_from_lem (both _ _ t).1;
      from_fit = λ v l t. join _ _ l (rw text_from_lem at t);
    }

-- ---- one octet, and a text behind it
head_text : (h s : List Range) (n i : ℕ) (v : List ℕ) → passes (headed_judge h s) n (suc i) 0 v ≡ all_in s v
unfolding passes all_in head_by
head_text h s n i [] = refl
head_text h s n i (x ∷ v) = ap (λ (q : Bool). in_set s x and q) (head_text h s n (suc i) v)

head_from : (h s : List Range) (n : ℕ) (v : List ℕ) → 1 ≤ length v → passes (headed_judge h s) n 0 0 v ≡ head_fits h s v
unfolding passes head_by head_fits
head_from h s n [] l = absurd (omega arith)
head_from h s n (x ∷ v) l = ap (λ (q : Bool). in_set h x and q) (head_text h s n 0 v)

head_next : (h s : List Range) (i : ℕ) → T (sound_set h) → T (sound_set s) → (x : ℕ) × T (head_by (in_set s x) h i x)
unfolding head_by
head_next h s zero a b = set_next h a
head_next h s (suc i) a b = set_next s b

head_octet : (h s : List Range) (i x : ℕ) → T (sound_set h) → T (sound_set s) → T (head_by (in_set s x) h i x) → x < 256
unfolding head_by
head_octet h s zero x a b t = set_octet h x (both _ _ a).1 t
head_octet h s (suc i) x a b t = set_octet s x (both _ _ b).1 t

pub headed_lawful : (ls h s : List Range) → T (sound_lengths ls and (sound_set h and sound_set s)) →
    Lawful (headed ls h s) (headed_judge h s)
headed_lawful ls h s k =
    let d = both _ _ k in
    let e = both _ _ d.1 in
    record {
      Mem = λ n i m. Unit {0};
      start = λ n. tt;
      push = λ n i m x t. tt;
      next = λ n i m o. head_next h s i e.0 e.1;
      octet = λ n i m x t. head_octet h s i x e.0 e.1 t;
      least = λ n t. least ls n d.0 t;
      most = λ n t. most_253 ls n d.0 t;
      fit_length = λ v t. (both _ _ t).0;
      fit_from =
          λ v t. let f = both _ _ t in rw (head_from h s (length v) v (least ls (length v) d.0 f.0)) f.1;
      from_fit = λ v l t. join _ _ l (rw (head_from h s (length v) v (least ls (length v) d.0 l)) at t);
    }
