-- Dates by the calendar make a lawful class (document 02, Q-2). A month has 29 to 31 days, so what is left of them
-- from the tens on tells which ones may follow. So the octets of a date pass exactly as those of pairs do whose second
-- range is the days of the month that the first two name, and the law of pairs gives that of dates. One more pair may
-- stand behind a date, as the seconds do (document 02, Q-4).
-- Assumes nothing.
use Prim.Native.Nat.{ℕ, zero, suc, ◌+◌, ◌*◌, ◌-◌, ◌≤◌, ◌<◌}
use mathlib.Core.Path.{◌≡◌, refl, sym, ◌∙◌, ap, ap₂}
use mathlib.Core.Bool.{Bool, true, false}
use mathlib.Core.Logic.{◌⊎◌, inl, inr}
use mathlib.Core.List.{List, [], ◌∷◌, ◌++◌}
use native.Mathlib.Omega.{arith}
use lib.ListN.{length, length-append}
use lib.Dec.{T}
use Rattle.rules.specs.Tests.{◌≤?◌, ◌=?◌, ◌and◌, ◌or◌, pick, every}
use Rattle.rules.proofs.Tests.{both, join, either, left, right, le_of, of_le, not_le, decide, pick_case}
use Rattle.rules.proofs.Returns.{same_truth}
use Rattle.rules.specs.Contents.{Range, within, in_set, digit, only, pairs, short_month, days, month_of, dated, calendar, calendar_or}
use Rattle.rules.specs.ContentJudge.{passes, passing, opens, tens_fit, ones_fit, day_fits, pair_at, pairs_judge, calendar_at, calendar_keep, calendar_judge}
use Rattle.rules.proofs.ClassLaw.{Lawful}
use Rattle.rules.proofs.BuilderLaw.{least, most_253, only_is, is_only, sound_range, sound_lengths, PairMem, pair_start, pair_push, pair_next, pair_octet, digit_octet, range_tens, range_ones, pairs_lawful}
use Rattle.rules.proofs.AtIndex.{date_front, date_by}
use Rattle.rules.proofs.Standing.{passing_all}

abbrev Bounds : ℕ → Type 0
Bounds d = (29 ≤ d) × (d ≤ 31)

days_bounds : (m : ℕ) → Bounds (days m)
unfolding days
days_bounds m =
    pick_case Bounds (m =? 2) 29 (pick (short_month m) 30 31) (λ _. (omega arith, omega arith))
    (λ _. pick_case Bounds (short_month m) 30 31 (λ _. (omega arith, omega arith)) (λ _. (omega arith, omega arith)))

-- ---- octet by octet, a date is judged as pairs are
-- after tens t that some day of d has, x makes a day exactly where it makes one of those that are left
module _ (d t x : ℕ) (b : Bounds d) (k : 10 * t ≤ d) where
  day_left : T (x - 48 ≤? d - 10 * t and (d - 10 * t ≤? 21 or 49 ≤? x)) → T (within (1, d) (10 * t + (x - 48)))
  unfolding within
  day_left f =
      let p = both _ _ f in
      let h = le_of _ _ p.0 in
      join _ _ (of_le _ _ (go (either _ _ p.1))) (of_le _ _ (omega arith))
    where
      go : T (d - 10 * t ≤? 21) ⊎ T (49 ≤? x) → 1 ≤ 10 * t + (x - 48)
      go (inl e) = omega (arith, le_of _ _ e)
      go (inr e) = omega (arith, le_of _ _ e)

  left_day : T (within (1, d) (10 * t + (x - 48))) → T (x - 48 ≤? d - 10 * t and (d - 10 * t ≤? 21 or 49 ≤? x))
  unfolding within
  left_day f =
      let p = both _ _ f in
      let l = le_of _ _ p.0 in
      let h = le_of _ _ p.1 in
      join _ _ (of_le _ _ (omega arith)) (go l (decide (d - 10 * t ≤? 21)))
    where
      go : 1 ≤ 10 * t + (x - 48) → T (d - 10 * t ≤? 21) ⊎ (T (d - 10 * t ≤? 21) → ⊥) → T (d - 10 * t ≤? 21 or 49 ≤? x)
      go l (inl e) = left _ _ e
      go l (inr n) = right _ _ (of_le _ _ (omega (arith, not_le _ _ n)))

  day_ones : day_fits (d - 10 * t) x ≡ ones_fit (1, d) t x
  unfolding day_fits ones_fit
  day_ones = ap (λ (q : Bool). digit x and q) (same_truth _ _ day_left left_day)

-- two choices agree where their first answers do whenever the test holds
when : (b : Bool) (x y z : ℕ) → (T b → x ≡ y) → pick b x z ≡ pick b y z
unfolding pick
when true x y z f = f tt
when false x y z f = refl

tens_most : (d x : ℕ) → T (tens_fit (1, d) x) → 10 * (x - 48) ≤ d
unfolding tens_fit opens
tens_most d x t = le_of _ _ (both _ _ (both _ _ t).1).1

module _ (rs : List Range) (n : ℕ) where
  -- past the day
  past : (q r : Range) (i m : ℕ) (v : List ℕ) → passing (calendar_judge rs) n (suc (suc (suc (suc i)))) m v ≡
      passing (pairs_judge (q ∷ r ∷ rs)) n (suc (suc (suc (suc i)))) m v
  unfolding passing calendar_at calendar_keep pair_at
  past q r i m [] = refl
  past q r i m (x ∷ v) = ap (λ (k : ℕ). pick (pair_at rs i m x) (suc k) 0) (past q r (suc i) (x - 48) v)

  -- from the day on, where the month has d days
  on_day : (q : Range) (d m : ℕ) (v : List ℕ) → Bounds d →
      passing (calendar_judge rs) n 2 d v ≡ passing (pairs_judge (q ∷ (1, d) ∷ rs)) n 2 m v
  unfolding passing calendar_at calendar_keep pair_at
  on_day q d m [] b = refl
  on_day q d m (x ∷ []) b = refl
  on_day q d m (x ∷ y ∷ v) b =
      when (tens_fit (1, d) x) _ _ 0
      (λ t. ap₂ (λ (o : Bool) (k : ℕ). suc (pick o (suc k) 0)) (day_ones d (x - 48) y b (tens_most d x t))
      (past q (1, d) 0 (y - 48) v))

  -- as many octets of a date may stand as of those pairs
  pub stands_as : (m : ℕ) (v : List ℕ) →
      passing (calendar_judge rs) n 0 m v ≡ passing (pairs_judge (dated (month_of v) rs)) n 0 m v
  unfolding passing calendar_at calendar_keep pair_at month_of
  stands_as m [] = refl
  stands_as m (a ∷ []) = refl
  stands_as m (a ∷ b ∷ v) =
      ap (λ (k : ℕ). pick (tens_fit (1, 12) a) (suc (pick (ones_fit (1, 12) (a - 48) b) (suc k) 0)) 0)
      (on_day (1, 12) (days (10 * (a - 48) + (b - 48))) (b - 48) v (days_bounds _))

  pub passes_as : (m : ℕ) (v : List ℕ) →
      passes (calendar_judge rs) n 0 m v ≡ passes (pairs_judge (dated (month_of v) rs)) n 0 m v
  passes_as m v =
      sym (passing_all _ n 0 m v) ∙ ap (λ (k : ℕ). k =? length v) (stands_as m v) ∙ passing_all _ n 0 m v

-- ---- the law
months : T (sound_range (1, 12))
unfolding ◌≤?◌ ◌and◌
months = tt

dated_sound : (rs : List Range) (m : ℕ) → T (sound_lengths (only (2 * suc (suc (length rs)))) and every sound_range rs) →
    T (sound_lengths (only (2 * length (dated m rs))) and every sound_range (dated m rs))
unfolding every
dated_sound rs m s =
    let d = both _ _ s in
    let b = days_bounds m in
    join _ _ d.0
    (join _ _ months (join _ _ (join _ _ (of_le _ _ (omega arith)) (of_le _ _ (omega arith))) d.1))

-- what may be remembered of a month is the tens of some; of its days any number
abbrev CalendarMem : List Range → ℕ → ℕ → Type 0
CalendarMem rs zero m = Unit {0}
CalendarMem rs (suc zero) m = T (opens (1, 12) m)
CalendarMem rs (suc (suc zero)) m = Unit {0}
CalendarMem rs (suc (suc (suc zero))) m = Unit {0}
CalendarMem rs (suc (suc (suc (suc i)))) m = PairMem rs i m

calendar_push : (rs : List Range) (i m x : ℕ) → T (calendar_at rs i m x) → CalendarMem rs (suc i) (calendar_keep i m x)
unfolding calendar_at calendar_keep tens_fit
calendar_push rs zero m x t = (both _ _ t).1
calendar_push rs (suc zero) m x t = tt
calendar_push rs (suc (suc zero)) m x t = tt
calendar_push rs (suc (suc (suc zero))) m x t = pair_start rs (x - 48)
calendar_push rs (suc (suc (suc (suc i)))) m x t = pair_push rs i m x t

-- 0 is the tens of some day
some_tens : (m : ℕ) → T (tens_fit (1, m) 48)
unfolding tens_fit opens digit within
some_tens m =
    join _ _ (join _ _ (of_le _ _ (omega arith)) (of_le _ _ (omega arith)))
    (join _ _ (of_le _ _ (omega arith)) (of_le _ _ (omega arith)))

-- where none is left, the 0 of 30 may follow, else a 1
some_day : (m : ℕ) → (x : ℕ) × T (day_fits m x)
unfolding day_fits digit within
some_day zero = (
  48,
  join _ _ (join _ _ (of_le _ _ (omega arith)) (of_le _ _ (omega arith)))
      (join _ _ (of_le _ _ (omega arith)) (left _ _ (of_le _ _ (omega arith)))),
)
some_day (suc m) = (
  49,
  join _ _ (join _ _ (of_le _ _ (omega arith)) (of_le _ _ (omega arith)))
      (join _ _ (of_le _ _ (omega arith)) (right _ _ (of_le _ _ (omega arith)))),
)

calendar_next : (rs : List Range) (i m : ℕ) → T (every sound_range rs) → CalendarMem rs i m →
    (x : ℕ) × T (calendar_at rs i m x)
unfolding calendar_at
calendar_next rs zero m s k = (48, range_tens (1, 12) months)
calendar_next rs (suc zero) m s k = (48 + (1 - 10 * m), range_ones (1, 12) m months k)
calendar_next rs (suc (suc zero)) m s k = (48, some_tens m)
calendar_next rs (suc (suc (suc zero))) m s k = some_day m
calendar_next rs (suc (suc (suc (suc i)))) m s k = pair_next rs i m s k

calendar_octet : (rs : List Range) (i m x : ℕ) → T (calendar_at rs i m x) → x < 256
unfolding calendar_at tens_fit ones_fit day_fits
calendar_octet rs zero m x t = digit_octet x (both _ _ t).0
calendar_octet rs (suc zero) m x t = digit_octet x (both _ _ t).0
calendar_octet rs (suc (suc zero)) m x t = digit_octet x (both _ _ t).0
calendar_octet rs (suc (suc (suc zero))) m x t = digit_octet x (both _ _ t).0
calendar_octet rs (suc (suc (suc (suc i)))) m x t = pair_octet rs i m x t

pub calendar_lawful : (rs : List Range) → T (sound_lengths (only (2 * suc (suc (length rs)))) and every sound_range rs) →
    Lawful (calendar rs) (calendar_judge rs)
calendar_lawful rs s =
    let d = both _ _ s in
    record {
      Mem = λ n i m. CalendarMem rs i m;
      start = λ n. tt;
      push = λ n i m x t. calendar_push rs i m x t;
      next = λ n i m o. calendar_next rs i m d.1 o;
      octet = λ n i m x t. calendar_octet rs i m x t;
      least = λ n t. least _ n d.0 t;
      most = λ n t. most_253 _ n d.0 t;
      fit_length = λ v t. (paired v).fit_length v t;
      fit_from = λ v t. rw (passes_as rs (length v) 0 v) ((paired v).fit_from v t);
      from_fit = λ v l t. (paired v).from_fit v l (rw (passes_as rs (length v) 0 v) at t);
    }
  where
    paired : (v : List ℕ) → Lawful (pairs (dated (month_of v) rs)) (pairs_judge (dated (month_of v) rs))
    paired v = pairs_lawful (dated (month_of v) rs) (dated_sound rs (month_of v) s)

-- ---- one more pair behind a date
calendar_front : (rs q : List Range) (i m x : ℕ) → i < 4 + 2 * length rs →
    calendar_at rs i m x ≡ calendar_at (rs ++ q) i m x
calendar_front rs q i m x h =
    sym (date_by rs i m x) ∙ date_front (digit x) rs q i m x h ∙ date_by (rs ++ q) i m x

front_passes : (rs q : List Range) (n i m : ℕ) (v : List ℕ) → i + length v ≤ 4 + 2 * length rs →
    passes (calendar_judge rs) n i m v ≡ passes (calendar_judge (rs ++ q)) n i m v
unfolding passes
front_passes rs q n i m [] h = refl
front_passes rs q n i m (x ∷ v) h =
    ap₂ (λ (a b : Bool). a and b) (calendar_front rs q i m x (omega arith))
    (front_passes rs q n (suc i) (calendar_keep i m x) v (omega arith))

module _ (a b n : ℕ) where
  one_of : T (in_set (only a ++ only b) n) → (n ≡ a) ⊎ (n ≡ b)
  unfolding in_set
  one_of t = go (either _ _ t)
    where
      go : T (within (a, a) n) ⊎ T (in_set (only b) n) → (n ≡ a) ⊎ (n ≡ b)
      go (inl e) = inl (only_is a n (left _ _ e))
      go (inr e) = inr (only_is b n e)

  is_first : n ≡ a → T (in_set (only a ++ only b) n)
  unfolding in_set
  is_first e = left _ _ (within_only (is_only a n e))
    where
      within_only : T (in_set (only a) n) → T (within (a, a) n)
      within_only t = go (either _ _ t)
        where
          go : T (within (a, a) n) ⊎ T false → T (within (a, a) n)
          go (inl e) = e
          go (inr e) = absurd e

  is_second : n ≡ b → T (in_set (only a ++ only b) n)
  unfolding in_set
  is_second e = right _ _ (is_only b n e)

module _ (rs : List Range) (r : Range) where
  abbrev more : List Range
  more = rs ++ r ∷ []

  -- the two lengths: without the last range and with it
  abbrev brief : ℕ
  brief = 2 * suc (suc (length rs))

  abbrev whole : ℕ
  whole = 2 * suc (suc (suc (length rs)))

  pub calendar_or_lawful : T (sound_lengths (only (2 * suc (suc (length rs)))) and every sound_range rs) →
      T (sound_lengths (only (2 * suc (suc (length more)))) and every sound_range more) →
      Lawful (calendar_or rs r) (calendar_judge more)
  calendar_or_lawful s t =
      let A = calendar_lawful rs s in
      let B = calendar_lawful more t in
      record {
        Mem = B.Mem;
        start = B.start;
        push = B.push;
        next = B.next;
        octet = B.octet;
        least = λ n l. (limits A B n (one_of brief whole n l)).0;
        most = λ n l. (limits A B n (one_of brief whole n l)).1;
        fit_length = λ v f. long A B v (either _ _ f);
        fit_from = λ v f. from A B v (either _ _ f);
        from_fit = λ v l p. fit A B v (one_of brief whole (length v) l) p;
      }
    where
      longer : length more ≡ suc (length rs)
      longer = omega (arith, length-append rs (r ∷ []))

      limits : Lawful (calendar rs) (calendar_judge rs) → Lawful (calendar more) (calendar_judge more) → (n : ℕ) →
          (n ≡ brief) ⊎ (n ≡ whole) → (1 ≤ n) × (n ≤ 253)
      limits A B n (inl e) = let l = is_only _ n e in (A.least n l, A.most n l)
      limits A B n (inr e) =
          let l = is_only (2 * suc (suc (length more))) n (omega (arith, e, longer)) in (B.least n l, B.most n l)

      long : Lawful (calendar rs) (calendar_judge rs) → Lawful (calendar more) (calendar_judge more) → (v : List ℕ) →
          T ((calendar rs).fits v) ⊎ T ((calendar more).fits v) → T (in_set (calendar_or rs r).lengths (length v))
      long A B v (inl f) = is_first brief whole (length v) (only_is brief (length v) (A.fit_length v f))
      long A B v (inr f) =
          is_second brief whole (length v)
          (omega (arith, only_is (2 * suc (suc (length more))) (length v) (B.fit_length v f), longer))

      from : Lawful (calendar rs) (calendar_judge rs) → Lawful (calendar more) (calendar_judge more) → (v : List ℕ) →
          T ((calendar rs).fits v) ⊎ T ((calendar more).fits v) → T (passes (calendar_judge more) (length v) 0 0 v)
      from A B v (inl f) =
          rw (← front_passes rs (r ∷ []) (length v) 0 0 v (omega (arith, only_is _ _ (A.fit_length v f))))
          (A.fit_from v f)
      from A B v (inr f) = B.fit_from v f

      fit : Lawful (calendar rs) (calendar_judge rs) → Lawful (calendar more) (calendar_judge more) → (v : List ℕ) →
          (length v ≡ brief) ⊎ (length v ≡ whole) →
          T (passes (calendar_judge more) (length v) 0 0 v) → T ((calendar_or rs r).fits v)
      fit A B v (inl e) p =
          left _ _ (A.from_fit v (is_only _ _ e)
          (rw (front_passes rs (r ∷ []) (length v) 0 0 v (omega (arith, e))) p))
      fit A B v (inr e) p =
          right _ _ (B.from_fit v (is_only (2 * suc (suc (length more))) (length v) (omega (arith, e, longer))) p)
