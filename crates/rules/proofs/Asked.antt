-- Classes that ask for the rows of their octets, and those that do not (document 02, Q-7): of these the first octet
-- alone is judged, and behind it any may stand; of those a text goes by one kind, and the others by judges of their own
-- (document 02, Q-2 and Q-4).
-- Assumes nothing.
use Prim.Native.Nat.{ℕ, suc, ◌≤◌, ◌<◌}
use mathlib.Core.Path.{◌≡◌, refl, sym, ◌∙◌, ap, ap₂}
use mathlib.Core.Bool.{Bool, true, false}
use mathlib.Core.List.{List, [], ◌∷◌, ◌++◌}
use native.Mathlib.Omega.{arith}
use lib.ListN.{length, get_or}
use Rattle.rules.specs.Tests.{◌=?◌, pick}
use Rattle.rules.specs.Octets.{Octets}
use Rattle.rules.specs.Table.{time_ranges, second_range, duration_ranges, display_set}
use Rattle.rules.specs.Charge.{charge_by}
use Rattle.rules.specs.Terminal.{terminal_by}
use Rattle.rules.specs.Extension.{extension_by}
use Rattle.rules.specs.ContentJudge.{passing, judge_of, text_judge, head_by, ok_at, remember, good_front}
use Rattle.rules.specs.OctetRows.{kinds_of, ContentKind, digits, numbers, names, kind_set, mixed, asked_kind, Short, moment, charge, duration, extension, asks, pair_by, calendar_by, mixed_by, ok_by, AskedRow}
use Rattle.rules.proofs.Returns.{T_of}
use Rattle.rules.proofs.AtIndex.{any_in_lem, any_columns_lem, behind, date_by, pair_by_lem, pair_late, past_date}
use Rattle.rules.proofs.OctetRows.{admits_kind, row-digit, row-letter}
use Rattle.rules.proofs.Standing.{any_stand}
use Rattle.rules.proofs.Linked.{charge_past, extension_past}
use Rattle.rules.specs.declared.Class.{Class}
use Rattle.rules.specs.declared.Class.TheVariants.{Carried, Date, Number, Absent, Name, Lamp, Identity, CallType, Waiting, Forwarded, User, ShortText, Moment, Charge, Duration, Terminal, Display, Service, Extension, OldNumber, OldForwarded, OldUser, Unlisted}

-- ---- no rows asked for
-- neither the length nor what is remembered has a part in the first octet
pub first_as : (c : Class) → asked_kind c ≡ 0 → (n m x : ℕ) → ok_at c 0 0 0 x ≡ ok_at c n 0 m x
unfolding judge_of asked_kind
first_as Carried e n m x = refl
first_as Date e n m x = absurd (omega arith)
first_as Number e n m x = absurd (omega arith)
first_as Absent e n m x = refl
first_as Name e n m x = absurd (omega arith)
first_as Lamp e n m x = refl
first_as Identity e n m x = refl
first_as CallType e n m x = refl
first_as Waiting e n m x = refl
first_as Forwarded e n m x = refl
first_as User e n m x = refl
first_as ShortText e n m x = absurd (omega arith)
first_as Moment e n m x = absurd (omega arith)
first_as Charge e n m x = absurd (omega arith)
first_as Duration e n m x = absurd (omega arith)
first_as Terminal e n m x = absurd (omega arith)
first_as Display e n m x = absurd (omega arith)
first_as Service e n m x = refl
first_as Extension e n m x = absurd (omega arith)
first_as OldNumber e n m x = absurd (omega arith)
first_as OldForwarded e n m x = refl
first_as OldUser e n m x = refl
first_as Unlisted e n m x = refl

pub later_any : (c : Class) → asked_kind c ≡ 0 → (n i m x : ℕ) → 1 ≤ i → x < 256 → true ≡ ok_at c n i m x
unfolding judge_of asked_kind
later_any Carried e n i m x h l = any_in_lem x l
later_any Date e n i m x h l = absurd (omega arith)
later_any Number e n i m x h l = absurd (omega arith)
later_any Absent e n i m x h l = behind 0 _ i x h l
later_any Name e n i m x h l = absurd (omega arith)
later_any Lamp e n i m x h l = behind 0 _ i x h l
later_any Identity e n i m x h l = behind 2 _ i x h l
later_any CallType e n i m x h l = behind 0 _ i x h l
later_any Waiting e n i m x h l = any_columns_lem 1 i x l
later_any Forwarded e n i m x h l = behind 0 _ i x h l
later_any User e n i m x h l = behind 0 _ i x h l
later_any ShortText e n i m x h l = absurd (omega arith)
later_any Moment e n i m x h l = absurd (omega arith)
later_any Charge e n i m x h l = absurd (omega arith)
later_any Duration e n i m x h l = absurd (omega arith)
later_any Terminal e n i m x h l = absurd (omega arith)
later_any Display e n i m x h l = absurd (omega arith)
later_any Service e n i m x h l = behind 0 _ i x h l
later_any Extension e n i m x h l = absurd (omega arith)
later_any OldNumber e n i m x h l = absurd (omega arith)
later_any OldForwarded e n i m x h l = behind 0 _ i x h l
later_any OldUser e n i m x h l = behind 0 _ i x h l
later_any Unlisted e n i m x h l = any_in_lem x l

-- contents of which the first octet is judged by o
pub code_front : (c : Class) → asked_kind c ≡ 0 → (v : List ℕ) (o : Bool) (r : ℕ) → (length v ≡ 0 → ⊥) → Octets v →
    o ≡ ok_at c 0 0 0 (get_or v 0 0) → r ≡ pick o (length v) 0 → r ≡ good_front c v
unfolding passing
code_front c e [] o r z f p q = absurd (z refl)
code_front c e (x ∷ v) o r z f p q =
    q ∙ ap₂ (λ (b : Bool) (l : ℕ). pick b (suc l) 0) (p ∙ first_as c e _ 0 x)
    (any_stand (judge_of c) _ 1 (λ i m x h l. later_any c e _ i m x h l) 1 _ v (omega arith) f.1)

-- ---- rows asked for
pub none_asked : (c : Class) → asks c ≡ false → asked_kind c ≡ 0
unfolding asks asked_kind pick ◌=?◌
none_asked Carried e = refl
none_asked Date e = absurd (T_of false (sym e))
none_asked Number e = absurd (T_of false (sym e))
none_asked Absent e = refl
none_asked Name e = absurd (T_of false (sym e))
none_asked Lamp e = refl
none_asked Identity e = refl
none_asked CallType e = refl
none_asked Waiting e = refl
none_asked Forwarded e = refl
none_asked User e = refl
none_asked ShortText e = absurd (T_of false (sym e))
none_asked Moment e = absurd (T_of false (sym e))
none_asked Charge e = absurd (T_of false (sym e))
none_asked Duration e = absurd (T_of false (sym e))
none_asked Terminal e = absurd (T_of false (sym e))
none_asked Display e = absurd (T_of false (sym e))
none_asked Service e = refl
none_asked Extension e = absurd (T_of false (sym e))
none_asked OldNumber e = absurd (T_of false (sym e))
none_asked OldForwarded e = refl
none_asked OldUser e = refl
none_asked Unlisted e = refl

-- one kind
pub text_kind : (c : Class) → asks c ≡ true → (asked_kind c ≡ mixed → ⊥) → ContentKind (asked_kind c)
unfolding asks asked_kind pick ◌=?◌
text_kind Carried e d = absurd (T_of false e)
text_kind Date e d = absurd (d refl)
text_kind Number e d = numbers
text_kind Absent e d = absurd (T_of false e)
text_kind Name e d = names
text_kind Lamp e d = absurd (T_of false e)
text_kind Identity e d = absurd (T_of false e)
text_kind CallType e d = absurd (T_of false e)
text_kind Waiting e d = absurd (T_of false e)
text_kind Forwarded e d = absurd (T_of false e)
text_kind User e d = absurd (T_of false e)
text_kind ShortText e d = names
text_kind Moment e d = absurd (d refl)
text_kind Charge e d = absurd (d refl)
text_kind Duration e d = absurd (d refl)
text_kind Terminal e d = absurd (d refl)
text_kind Display e d = absurd (d refl)
text_kind Service e d = absurd (T_of false e)
text_kind Extension e d = absurd (d refl)
text_kind OldNumber e d = digits
text_kind OldForwarded e d = absurd (T_of false e)
text_kind OldUser e d = absurd (T_of false e)
text_kind Unlisted e d = absurd (T_of false e)

pub text_judged : (c : Class) → asks c ≡ true → (asked_kind c ≡ mixed → ⊥) →
    text_judge (kind_set (asked_kind c)) ≡ judge_of c
unfolding asks asked_kind pick ◌=?◌ kind_set judge_of
text_judged Carried e d = absurd (T_of false e)
text_judged Date e d = absurd (d refl)
text_judged Number e d = refl
text_judged Absent e d = absurd (T_of false e)
text_judged Name e d = refl
text_judged Lamp e d = absurd (T_of false e)
text_judged Identity e d = absurd (T_of false e)
text_judged CallType e d = absurd (T_of false e)
text_judged Waiting e d = absurd (T_of false e)
text_judged Forwarded e d = absurd (T_of false e)
text_judged User e d = absurd (T_of false e)
text_judged ShortText e d = refl
text_judged Moment e d = absurd (d refl)
text_judged Charge e d = absurd (d refl)
text_judged Duration e d = absurd (d refl)
text_judged Terminal e d = absurd (d refl)
text_judged Display e d = absurd (d refl)
text_judged Service e d = absurd (T_of false e)
text_judged Extension e d = absurd (d refl)
text_judged OldNumber e d = refl
text_judged OldForwarded e d = absurd (T_of false e)
text_judged OldUser e d = absurd (T_of false e)
text_judged Unlisted e d = absurd (T_of false e)

-- no one kind: all but dates, terminals and displays are short
pub the_short : (c : Class) → asked_kind c ≡ mixed → (c ≡ Date → ⊥) → (c ≡ Terminal → ⊥) → (c ≡ Display → ⊥) →
    Short c
unfolding asked_kind
the_short Carried e p q r = absurd (omega arith)
the_short Date e p q r = absurd (p refl)
the_short Number e p q r = absurd (omega arith)
the_short Absent e p q r = absurd (omega arith)
the_short Name e p q r = absurd (omega arith)
the_short Lamp e p q r = absurd (omega arith)
the_short Identity e p q r = absurd (omega arith)
the_short CallType e p q r = absurd (omega arith)
the_short Waiting e p q r = absurd (omega arith)
the_short Forwarded e p q r = absurd (omega arith)
the_short User e p q r = absurd (omega arith)
the_short ShortText e p q r = absurd (omega arith)
the_short Moment e p q r = moment
the_short Charge e p q r = charge
the_short Duration e p q r = duration
the_short Terminal e p q r = absurd (q refl)
the_short Display e p q r = absurd (r refl)
the_short Service e p q r = absurd (omega arith)
the_short Extension e p q r = extension
the_short OldNumber e p q r = absurd (omega arith)
the_short OldForwarded e p q r = absurd (omega arith)
the_short OldUser e p q r = absurd (omega arith)
the_short Unlisted e p q r = absurd (omega arith)

module _ (n i m row x : ℕ) (e : row ≡ kinds_of x) where
  -- judged by its own row, an octet is judged by the rules
  pub mixed_ok : (c : Class) → asked_kind c ≡ mixed → mixed_by c n i m row x ≡ ok_at c n i m x
  unfolding mixed_by asked_kind kind_set pick ◌=?◌ judge_of
  mixed_ok Date q =
      ap (λ (d : Bool). calendar_by d time_ranges i m x) (row-digit x row e) ∙ date_by time_ranges i m x
  mixed_ok Moment q =
      ap (λ (d : Bool). calendar_by d (time_ranges ++ second_range ∷ []) i m x) (row-digit x row e)
      ∙ date_by (time_ranges ++ second_range ∷ []) i m x
  mixed_ok Charge q = ap₂ (λ (d l : Bool). charge_by d l i m x) (row-digit x row e) (row-letter x row e)
  mixed_ok Duration q =
      ap (λ (d : Bool). pair_by d duration_ranges i m x) (row-digit x row e) ∙ pair_by_lem duration_ranges i m x
  mixed_ok Terminal q = ap (λ (d : Bool). terminal_by d n i m x) (admits_kind 2 numbers x row e)
  mixed_ok Display q = ap (λ (d : Bool). head_by d display_set i x) (admits_kind 4 names x row e)
  mixed_ok Extension q =
      ap₂ (λ (d h : Bool). extension_by d h i m x) (row-digit x row e) (admits_kind 4 names x row e)
  mixed_ok Carried q = absurd (omega arith)
  mixed_ok Number q = absurd (omega arith)
  mixed_ok Absent q = absurd (omega arith)
  mixed_ok Name q = absurd (omega arith)
  mixed_ok Lamp q = absurd (omega arith)
  mixed_ok Identity q = absurd (omega arith)
  mixed_ok CallType q = absurd (omega arith)
  mixed_ok Waiting q = absurd (omega arith)
  mixed_ok Forwarded q = absurd (omega arith)
  mixed_ok User q = absurd (omega arith)
  mixed_ok ShortText q = absurd (omega arith)
  mixed_ok Service q = absurd (omega arith)
  mixed_ok OldNumber q = absurd (omega arith)
  mixed_ok OldForwarded q = absurd (omega arith)
  mixed_ok OldUser q = absurd (omega arith)
  mixed_ok Unlisted q = absurd (omega arith)

pub asked_ok : (c : Class) (n i m row x : ℕ) → AskedRow c row x → ok_by c n i m row x ≡ ok_at c n i m x
unfolding ok_by asked_kind kind_set asks pick ◌=?◌ judge_of
asked_ok Carried n i m row x a = refl
asked_ok Date n i m row x a = mixed_ok n i m row x (a refl) Date refl
asked_ok Number n i m row x a = admits_kind 2 numbers x row (a refl)
asked_ok Absent n i m row x a = refl
asked_ok Name n i m row x a = admits_kind 4 names x row (a refl)
asked_ok Lamp n i m row x a = refl
asked_ok Identity n i m row x a = refl
asked_ok CallType n i m row x a = refl
asked_ok Waiting n i m row x a = refl
asked_ok Forwarded n i m row x a = refl
asked_ok User n i m row x a = refl
asked_ok ShortText n i m row x a = admits_kind 4 names x row (a refl)
asked_ok Moment n i m row x a = mixed_ok n i m row x (a refl) Moment refl
asked_ok Charge n i m row x a = mixed_ok n i m row x (a refl) Charge refl
asked_ok Duration n i m row x a = mixed_ok n i m row x (a refl) Duration refl
asked_ok Terminal n i m row x a = mixed_ok n i m row x (a refl) Terminal refl
asked_ok Display n i m row x a = mixed_ok n i m row x (a refl) Display refl
asked_ok Service n i m row x a = refl
asked_ok Extension n i m row x a = mixed_ok n i m row x (a refl) Extension refl
asked_ok OldNumber n i m row x a = admits_kind 1 digits x row (a refl)
asked_ok OldForwarded n i m row x a = refl
asked_ok OldUser n i m row x a = refl
asked_ok Unlisted n i m row x a = refl

-- ---- short contents
-- their number has no part in what may stand, nor in what is remembered
pub short_as : (c : Class) → Short c → (n i m x : ℕ) → ok_at c 0 i m x ≡ ok_at c n i m x
unfolding judge_of
short_as c moment n i m x = refl
short_as c charge n i m x = refl
short_as c duration n i m x = refl
short_as c extension n i m x = refl

pub short_kept : (c : Class) → Short c → (n i m x : ℕ) → remember c 0 i m x ≡ remember c n i m x
unfolding judge_of
short_kept c moment n i m x = refl
short_kept c charge n i m x = refl
short_kept c duration n i m x = refl
short_kept c extension n i m x = refl

pub short_mixed : (c : Class) → Short c → asked_kind c ≡ mixed
unfolding asked_kind
short_mixed c moment = refl
short_mixed c charge = refl
short_mixed c duration = refl
short_mixed c extension = refl

-- behind the fourteenth any octet may stand
pub short_past : (c : Class) → Short c → (n i m x : ℕ) → 14 ≤ i → x < 256 → true ≡ ok_at c n i m x
unfolding judge_of
short_past c moment n i m x h l =
    past_date _ (time_ranges ++ second_range ∷ []) i m x (omega arith) l ∙ date_by (time_ranges ++ second_range ∷ []) i m x
short_past c charge n i m x h l = charge_past _ _ i m x h l
short_past c duration n i m x h l = pair_late duration_ranges i m x (omega arith) l
short_past c extension n i m x h l = extension_past _ _ i m x (omega arith) l
