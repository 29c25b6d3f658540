-- Contents at an index, as the code judges them: columns of which only the first is narrow, digits pair by pair; past
-- the last octet any may stand.
-- Assumes nothing.
use mathlib.Core.Path.{◌≡◌, refl, sym}
use mathlib.Core.Bool.{Bool, true}
use Prim.Native.Nat.{ℕ, zero, suc, ◌+◌, ◌*◌, ◌-◌, ◌≤◌, ◌<◌}
use mathlib.Core.List.{List, [], ◌∷◌, ◌++◌}
use lib.ListN.{length, drop}
use native.Mathlib.Omega.{arith}
use Rattle.rules.specs.Tests.{◌=?◌, pick}
use Rattle.rules.specs.Contents.{Range, within, in_set, digit, days}
use Rattle.rules.specs.Table.{any_octet}
use Rattle.rules.specs.ContentJudge.{column_at, tens_by, ones_by, day_by, tens_fit, ones_fit, pair_at, day_fits, calendar_at, calendar_keep}
use Rattle.rules.specs.OctetRows.{pair_by, calendar_by}
use Rattle.rules.proofs.Tests.{clash}
use Rattle.rules.proofs.Returns.{or_last, and_t, yes_le}

pub any_in_lem : (x : ℕ) → x < 256 → true ≡ in_set any_octet x
unfolding in_set within
any_in_lem x l = or_last _ _ (and_t _ _ _ (yes_le _ _ (omega arith)) (sym (yes_le x 255 (omega arith))))

-- columns of any octets
abbrev pub any_columns : ℕ → List (List Range)
any_columns zero = []
any_columns (suc k) = any_octet ∷ any_columns k

pub any_columns_lem : (k i x : ℕ) → x < 256 → true ≡ column_at (any_columns k) i x
unfolding column_at
any_columns_lem zero i x l = sym (yes_le x 255 (omega arith))
any_columns_lem (suc k) zero x l = any_in_lem x l
any_columns_lem (suc k) (suc i) x l = any_columns_lem k i x l

-- behind a narrow first column
pub behind : (k : ℕ) (s : List Range) (i x : ℕ) → 1 ≤ i → x < 256 → true ≡ column_at (s ∷ any_columns k) i x
unfolding column_at
behind k s zero x h l = absurd (omega arith)
behind k s (suc i) x h l = any_columns_lem k i x l

pub pair_late : (rs : List Range) (i m x : ℕ) → 2 * length rs ≤ i → x < 256 → true ≡ pair_at rs i m x
unfolding pair_at
pair_late [] i m x h l = sym (yes_le x 255 (omega arith))
pair_late (r ∷ rs) zero m x h l = absurd (omega arith)
pair_late (r ∷ rs) (suc zero) m x h l = absurd (omega arith)
pair_late (r ∷ rs) (suc (suc i)) m x h l = pair_late rs i m x (omega arith) l

-- ---- a date, whose index the code tells apart
module _ (d : Bool) where
  pub at_month : (rs : List Range) (i m x : ℕ) → i < 2 →
      pick (i =? 0) (tens_by d (1, 12) x) (ones_by d (1, 12) m x) ≡ calendar_by d rs i m x
  unfolding calendar_by pick ◌=?◌
  at_month rs zero m x h = refl
  at_month rs (suc zero) m x h = refl
  at_month rs (suc (suc i)) m x h = absurd (omega arith)

  pub at_day_tens : (rs : List Range) (i m x : ℕ) → i ≡ 2 → tens_by d (1, m) x ≡ calendar_by d rs i m x
  unfolding calendar_by
  at_day_tens rs i m x e = rw e

  pub at_day_ones : (rs : List Range) (i m x : ℕ) → i ≡ 3 → day_by d m x ≡ calendar_by d rs i m x
  unfolding calendar_by
  at_day_ones rs i m x e = rw e

  pub pair_late_by : (rs : List Range) (i m x : ℕ) → 2 * length rs ≤ i → x < 256 → true ≡ pair_by d rs i m x
  unfolding pair_by
  pair_late_by [] i m x h l = sym (yes_le x 255 (omega arith))
  pair_late_by (r ∷ rs) zero m x h l = absurd (omega arith)
  pair_late_by (r ∷ rs) (suc zero) m x h l = absurd (omega arith)
  pair_late_by (r ∷ rs) (suc (suc i)) m x h l = pair_late_by rs i m x (omega arith) l

  -- digit j of pair k
  pub pair_within : (rs : List Range) (k i j m x : ℕ) (r : Range) (rest : List Range) → drop k rs ≡ r ∷ rest →
      2 * k + j ≡ i → j < 2 → pick (j =? 0) (tens_by d r x) (ones_by d r m x) ≡ pair_by d rs i m x
  unfolding pair_by pick ◌=?◌
  pair_within [] zero i j m x r rest e l h = clash cc
  pair_within (q ∷ rs) zero zero j m x r rest e l h = let d : q ≡ r = cc in let z : j ≡ 0 = omega arith in rw (d, z)
  pair_within (q ∷ rs) zero (suc zero) j m x r rest e l h =
      let d : q ≡ r = cc in let z : j ≡ 1 = omega arith in rw (d, z)
  pair_within (q ∷ rs) zero (suc (suc i)) j m x r rest e l h = absurd (omega arith)
  pair_within [] (suc k) i j m x r rest e l h = clash cc
  pair_within (q ∷ rs) (suc k) zero j m x r rest e l h = absurd (omega arith)
  pair_within (q ∷ rs) (suc k) (suc zero) j m x r rest e l h = absurd (omega arith)
  pair_within (q ∷ rs) (suc k) (suc (suc i)) j m x r rest e l h = pair_within rs k i j m x r rest e (omega arith) h

  -- digit j of pair k behind the day
  pub at_pair : (rs : List Range) (k i j m x : ℕ) (r : Range) (rest : List Range) → drop k rs ≡ r ∷ rest →
      4 + 2 * k + j ≡ i → j < 2 → pick (j =? 0) (tens_by d r x) (ones_by d r m x) ≡ calendar_by d rs i m x
  unfolding calendar_by
  at_pair rs k zero j m x r rest e l h = absurd (omega arith)
  at_pair rs k (suc zero) j m x r rest e l h = absurd (omega arith)
  at_pair rs k (suc (suc zero)) j m x r rest e l h = absurd (omega arith)
  at_pair rs k (suc (suc (suc zero))) j m x r rest e l h = absurd (omega arith)
  at_pair rs k (suc (suc (suc (suc i)))) j m x r rest e l h = pair_within rs k i j m x r rest e (omega arith) h

  pub past_date : (rs : List Range) (i m x : ℕ) → 4 + 2 * length rs ≤ i → x < 256 → true ≡ calendar_by d rs i m x
  unfolding calendar_by
  past_date rs zero m x h l = absurd (omega arith)
  past_date rs (suc zero) m x h l = absurd (omega arith)
  past_date rs (suc (suc zero)) m x h l = absurd (omega arith)
  past_date rs (suc (suc (suc zero))) m x h l = absurd (omega arith)
  past_date rs (suc (suc (suc (suc i)))) m x h l = pair_late_by rs i m x (omega arith) l

  -- ranges behind have no part in the pairs before them
  pair_front : (rs q : List Range) (i m x : ℕ) → i < 2 * length rs → pair_by d rs i m x ≡ pair_by d (rs ++ q) i m x
  unfolding pair_by
  pair_front [] q i m x h = absurd (omega arith)
  pair_front (r ∷ rs) q zero m x h = refl
  pair_front (r ∷ rs) q (suc zero) m x h = refl
  pair_front (r ∷ rs) q (suc (suc i)) m x h = pair_front rs q i m x (omega arith)

  pub date_front : (rs q : List Range) (i m x : ℕ) → i < 4 + 2 * length rs →
      calendar_by d rs i m x ≡ calendar_by d (rs ++ q) i m x
  unfolding calendar_by
  date_front rs q zero m x h = refl
  date_front rs q (suc zero) m x h = refl
  date_front rs q (suc (suc zero)) m x h = refl
  date_front rs q (suc (suc (suc zero))) m x h = refl
  date_front rs q (suc (suc (suc (suc i)))) m x h = pair_front rs q i m x (omega arith)

-- judged by whether it is a digit, an octet of a date is judged by the calendar
pub pair_by_lem : (rs : List Range) (i m x : ℕ) → pair_by (digit x) rs i m x ≡ pair_at rs i m x
unfolding pair_by pair_at tens_fit ones_fit
pair_by_lem [] i m x = refl
pair_by_lem (r ∷ rs) zero m x = refl
pair_by_lem (r ∷ rs) (suc zero) m x = refl
pair_by_lem (r ∷ rs) (suc (suc i)) m x = pair_by_lem rs i m x

pub date_by : (rs : List Range) (i m x : ℕ) → calendar_by (digit x) rs i m x ≡ calendar_at rs i m x
unfolding calendar_by calendar_at tens_fit ones_fit day_fits
date_by rs zero m x = refl
date_by rs (suc zero) m x = refl
date_by rs (suc (suc zero)) m x = refl
date_by rs (suc (suc (suc zero))) m x = refl
date_by rs (suc (suc (suc (suc i)))) m x = pair_by_lem rs i m x

-- and what is remembered of it
pub kept_month : (i m x : ℕ) → i ≡ 1 → days (10 * m + (x - 48)) ≡ calendar_keep i m x
unfolding calendar_keep
kept_month i m x e = rw e

pub kept_tens : (i m x : ℕ) → i ≡ 2 → m - 10 * (x - 48) ≡ calendar_keep i m x
unfolding calendar_keep
kept_tens i m x e = rw e

pub kept_digit : (i m x : ℕ) → (i ≡ 1 → ⊥) → (i ≡ 2 → ⊥) → x - 48 ≡ calendar_keep i m x
unfolding calendar_keep
kept_digit zero m x p q = refl
kept_digit (suc zero) m x p q = absurd (p refl)
kept_digit (suc (suc zero)) m x p q = absurd (q refl)
kept_digit (suc (suc (suc i))) m x p q = refl
