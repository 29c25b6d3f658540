-- showmsg looks at 259 octets and no further: what follows them does not change the listing, since an answer comes
-- after 258 at the latest.
-- Assumes nothing.
use Rattle.std.proofs.Common.{ℕ, Result, Ok, Err}
use Prim.Native.Nat.{ℕ, ◌≤◌, ◌<◌}
use mathlib.Core.Path.{◌≡◌, sym, ◌∙◌, ap}
use mathlib.Core.Logic.{◌⊎◌, inl, inr}
use mathlib.Core.List.{List, ◌++◌}
use native.Mathlib.Omega.{arith}
use lib.ListN.{length, take, drop, take-append-drop}
use lib.Seq.{take_all, length-take-le}
use lib.Dec.{T}
use Rattle.rules.specs.Tests.{◌≤?◌, ◌=?◌}
use Rattle.rules.proofs.Tests.{pick_not, eq_of, le_of, not_le, decide}
use Rattle.rules.specs.Octets.{Octets}
use Rattle.rules.proofs.Octets.{octets-take}
use Rattle.rules.specs.Table.{rules_of}
use Rattle.rules.specs.declared.Book.TheVariants.{PresentLenient}
use Rattle.rules.specs.Refusals.{noted}
use Rattle.rules.specs.Machine.{run, answer, start, Waits}
use Rattle.rules.specs.Judge.{machine, in_range}
use Rattle.rules.proofs.InRange.{high}
use Rattle.rules.proofs.Language.{in_range-run}
use Rattle.rules.proofs.Grammar.{spoken_of, demand3_of}
use Rattle.rules.specs.declared.State.{State}
use Rattle.rules.specs.declared.State.TheVariants.{Waiting, Message, Refused}
use Rattle.rules.specs.declared.Fault.{Fault}
use Rattle.message.specs.Verdict.{judged, verdict_of}
use Rattle.listing.specs.Listing.{written, verdict_lines, listing_of}

module _ (a b : List ℕ) (q : Octets a) (long : length a ≡ 259) where
  late : (n : ℕ) → n ≤ 258 → T (length a =? n) → ⊥
  late n h t = omega (arith, eq_of _ _ t)

  later : (n : ℕ) → n ≤ 258 → length a ≤ length (a ++ b) → T (length (a ++ b) =? n) → ⊥
  later n h l t = omega (arith, eq_of _ _ t)

  same_lines : length a ≤ length (a ++ b) → (w : State) → T (in_range (rules_of PresentLenient) w) →
      (Waits w → length a < 258) →
      written (verdict_lines (rules_of PresentLenient) a (judged a w)) ≡
      written (verdict_lines (rules_of PresentLenient) (a ++ b)
      (judged (a ++ b) (run (machine (rules_of PresentLenient)) w b)))
  unfolding judged verdict_lines in_range
  same_lines l (Waiting s p) t h = absurd (omega (arith, h tt))
  same_lines l (Message n) t h =
      let k = high 6 258 n t in
      ap (λ (v : Result ℕ Fault). written (verdict_lines (rules_of PresentLenient) a v))
      (pick_not (length a =? n) (Ok n) (Err (noted 7 n)) (late n k))
      ∙ sym (ap (λ (w : State). written (verdict_lines (rules_of PresentLenient) (a ++ b) (judged (a ++ b) w)))
      ((demand3_of PresentLenient).message_stays n b)
      ∙ ap (λ (v : Result ℕ Fault). written (verdict_lines (rules_of PresentLenient) (a ++ b) v))
      (pick_not (length (a ++ b) =? n) (Ok n) (Err (noted 7 n)) (later n k l)))
  same_lines l (Refused f) t h =
      sym (ap (λ (w : State). written (verdict_lines (rules_of PresentLenient) (a ++ b) (judged (a ++ b) w)))
      ((demand3_of PresentLenient).refusal_stays f b))

  same_listing : length a ≤ length (a ++ b) →
      listing_of (rules_of PresentLenient) a ≡ listing_of (rules_of PresentLenient) (a ++ b)
  unfolding listing_of verdict_of
  same_listing l =
      same_lines l (answer (machine (rules_of PresentLenient)) a)
      (in_range-run (spoken_of PresentLenient) (start (machine (rules_of PresentLenient))) a q
      (spoken_of PresentLenient).in_range_start) ((demand3_of PresentLenient).answers_by_258 a q)
      ∙ ap (λ (w : State). written (verdict_lines (rules_of PresentLenient) (a ++ b) (judged (a ++ b) w)))
      (sym ((demand3_of PresentLenient).cut_anywhere (start (machine (rules_of PresentLenient))) a b))

-- the listing of the first 259 octets is that of all
pub first_259 : (o : List ℕ) → Octets o →
    listing_of (rules_of PresentLenient) (take 259 o) ≡ listing_of (rules_of PresentLenient) o
first_259 o q = go (decide (length o ≤? 259))
  where
    go : T (length o ≤? 259) ⊎ (T (length o ≤? 259) → ⊥) →
        listing_of (rules_of PresentLenient) (take 259 o) ≡ listing_of (rules_of PresentLenient) o
    go (inl t) = ap (listing_of (rules_of PresentLenient)) (take_all 259 o (le_of _ _ t))
    go (inr t) =
        let n = length-take-le 259 o (let z = not_le (length o) 259 t in omega arith) in
        let e = take-append-drop 259 o in
        same_listing (take 259 o) (drop 259 o) (octets-take 259 o q) n
        (omega (arith, ap length e, not_le (length o) 259 t)) ∙ ap (listing_of (rules_of PresentLenient)) e
