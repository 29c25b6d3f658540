-- The extension for network operators (document 02, Q-4; source 004, 5.4.27) is a lawful class: a space as second octet
-- is remembered, behind which a space alone may follow.
-- Assumes nothing.
use Prim.Native.Nat.{ℕ, zero, suc, ◌+◌, ◌≤◌, ◌<◌}
use mathlib.Core.Path.{◌≡◌, refl, sym, ◌∙◌, ap, subst}
use mathlib.Core.Bool.{Bool, true, false}
use mathlib.Core.Logic.{◌⊎◌, inl, inr}
use mathlib.Core.List.{List, [], ◌∷◌}
use native.Mathlib.Omega.{arith}
use lib.ListN.{length}
use lib.Dec.{T}
use Rattle.rules.specs.Tests.{◌≤?◌, ◌=?◌, ◌and◌, ◌or◌, pick}
use Rattle.rules.proofs.Tests.{pick_yes, pick_not, pick_case, both, join, left, right, le_of, of_le, eq_of, of_eq, decide}
use Rattle.rules.proofs.Returns.{same_truth}
use Rattle.rules.specs.Contents.{Range, in_set, digit, all_in, only}
use Rattle.rules.specs.ContentJudge.{passes, extension_judge}
use Rattle.rules.specs.Extension.{blank, country_fits, extension_fits, extension_by, extension_keep}
use Rattle.rules.proofs.ClassLaw.{Lawful}
use Rattle.rules.proofs.BuilderLaw.{sound_set, set_next, set_octet, digit_octet, some_octet, zero_digit, only_is, is_only}

blank_octet : (x : ℕ) → T (blank x) → x < 256
unfolding blank
blank_octet x t = omega (arith, eq_of _ _ t)

either_octet : (x : ℕ) → T (blank x or digit x) → x < 256
either_octet x t = some_octet _ _ x (blank_octet x) (digit_octet x) t

a_blank : T (blank 0x20)
unfolding blank ◌=?◌
a_blank = tt

-- the third octet, judged by what the second left, and by the whole rule
third : (b c : ℕ) → T (blank b or digit b) → T (pick (pick (blank b) 1 0 =? 1) (blank c) (blank c or digit c)) →
    T (pick (blank b) (blank c) (digit b and (blank c or digit c)))
unfolding pick ◌=?◌ ◌or◌ ◌and◌
third b c o t = go (blank b) (digit b) o t
  where
    go : (p q : Bool) → T (p or q) → T (pick (pick p 1 0 =? 1) (blank c) (blank c or digit c)) →
        T (pick p (blank c) (q and (blank c or digit c)))
    go true q o t = t
    go false true o t = t
    go false false o t = absurd o

thirds : (b c : ℕ) → T (pick (blank b) (blank c) (digit b and (blank c or digit c))) →
    T (blank b or digit b) × T (pick (pick (blank b) 1 0 =? 1) (blank c) (blank c or digit c))
unfolding pick ◌=?◌ ◌or◌ ◌and◌
thirds b c t = go (blank b) (digit b) t
  where
    go : (p q : Bool) → T (pick p (blank c) (q and (blank c or digit c))) →
        T (p or q) × T (pick (pick p 1 0 =? 1) (blank c) (blank c or digit c))
    go true q t = (tt, t)
    go false true t = (tt, t)
    go false false t = absurd t

module _ (s : List Range) where
  -- the characters, of which seven are judged
  text_on : (n k m : ℕ) (v : List ℕ) → k + length v ≤ 7 →
      passes (extension_judge s) n (suc (suc (suc k))) m v ≡ all_in s v
  unfolding passes extension_by extension_keep all_in
  text_on n k m [] h = refl
  text_on n k m (x ∷ v) h =
      ap (λ (b : Bool). b and passes (extension_judge s) n (suc (suc (suc (suc k)))) 0 v)
      (pick_yes (k ≤? 6) (in_set s x) (x ≤? 255) (of_le _ _ (omega arith)))
      ∙ ap (λ (b : Bool). in_set s x and b) (text_on n (suc k) 0 v (omega arith))

  head : (n a b c : ℕ) (v : List ℕ) → length v ≡ 7 →
      passes (extension_judge s) n 0 0 (a ∷ b ∷ c ∷ v) ≡ extension_fits s (a ∷ b ∷ c ∷ v)
  unfolding passes extension_by extension_keep extension_fits country_fits
  head n a b c v h = same_truth _ _ to of
    where
      rest : passes (extension_judge s) n 3 0 v ≡ all_in s v
      rest = text_on n 0 0 v (omega arith)

      to : T (passes (extension_judge s) n 0 0 (a ∷ b ∷ c ∷ v)) → T (extension_fits s (a ∷ b ∷ c ∷ v))
      to t =
          let p = both _ _ t in
          let q = both _ _ p.1 in
          let r = both _ _ q.1 in
          join _ _ (join _ _ p.0 (third b c q.0 r.0)) (join _ _ (of_eq _ _ h) (rw (← rest) r.1))

      of : T (extension_fits s (a ∷ b ∷ c ∷ v)) → T (passes (extension_judge s) n 0 0 (a ∷ b ∷ c ∷ v))
      of t =
          let p = both _ _ t in
          let q = both _ _ p.0 in
          let r = thirds b c q.1 in
          join _ _ q.0 (join _ _ r.0 (join _ _ r.1 (rw rest (both _ _ p.1).1)))

  long : (v : List ℕ) → T (extension_fits s v) → length v ≡ 10
  unfolding extension_fits
  long [] t = absurd t
  long (a ∷ []) t = absurd t
  long (a ∷ b ∷ []) t = absurd t
  long (a ∷ b ∷ c ∷ v) t = let e = eq_of _ _ (both _ _ (both _ _ t).1).0 in omega arith

  fit_from : (v : List ℕ) → T (extension_fits s v) → T (passes (extension_judge s) (length v) 0 0 v)
  fit_from [] t = absurd (omega (arith, long [] t))
  fit_from (a ∷ []) t = absurd (omega (arith, long (a ∷ []) t))
  fit_from (a ∷ b ∷ []) t = absurd (omega (arith, long (a ∷ b ∷ []) t))
  fit_from (a ∷ b ∷ c ∷ v) t = subst T (sym (head _ a b c v (omega (arith, long (a ∷ b ∷ c ∷ v) t)))) t

  from_fit : (v : List ℕ) → T (in_set (only 10) (length v)) → T (passes (extension_judge s) (length v) 0 0 v) →
      T (extension_fits s v)
  from_fit [] l t = absurd (omega (arith, only_is _ _ l))
  from_fit (a ∷ []) l t = absurd (omega (arith, only_is _ _ l))
  from_fit (a ∷ b ∷ []) l t = absurd (omega (arith, only_is _ _ l))
  from_fit (a ∷ b ∷ c ∷ v) l t = subst T (head _ a b c v (omega (arith, only_is _ _ l))) t

  next : (i m : ℕ) → T (sound_set s) → (x : ℕ) × T (extension_by (digit x) (in_set s x) i m x)
  unfolding extension_by
  next zero m k = (0x30, zero_digit)
  next (suc zero) m k = (0x30, right _ _ zero_digit)
  next (suc (suc zero)) m k = (0x20, pick_case T (m =? 1) _ _ (λ _. a_blank) (λ _. left _ _ a_blank))
  next (suc (suc (suc i))) m k = go (decide (i ≤? 6)) (set_next s k)
    where
      go : T (i ≤? 6) ⊎ (T (i ≤? 6) → ⊥) → (x : ℕ) × T (in_set s x) → (x : ℕ) × T (pick (i ≤? 6) (in_set s x) (x ≤? 255))
      go (inl e) d = (d.0, subst T (sym (pick_yes (i ≤? 6) _ _ e)) d.1)
      go (inr e) d = (0, subst T (sym (pick_not (i ≤? 6) (in_set s 0) (0 ≤? 255) e)) (of_le _ _ (omega arith)))

  octet : (i m x : ℕ) → T (sound_set s) → T (extension_by (digit x) (in_set s x) i m x) → x < 256
  unfolding extension_by
  octet zero m x k t = digit_octet x t
  octet (suc zero) m x k t = either_octet x t
  octet (suc (suc zero)) m x k t =
      pick_case (λ (q : Bool). T q → x < 256) (m =? 1) _ _ (λ _ u. blank_octet x u) (λ _ u. either_octet x u) t
  octet (suc (suc (suc i))) m x k t =
      pick_case (λ (q : Bool). T q → x < 256) (i ≤? 6) _ _ (λ _ u. set_octet s x (both _ _ k).1 u)
      (λ _ u. omega (arith, le_of _ _ u)) t

  pub extension_lawful : T (sound_set s) →
      Lawful (record { lengths = only 10; fits = extension_fits s }) (extension_judge s)
  extension_lawful k = record {
    Mem = λ n i m. Unit {0};
    start = λ n. tt;
    push = λ n i m x t. tt;
    next = λ n i m o. next i m k;
    octet = λ n i m x t. octet i m x k t;
    least = λ n t. omega (arith, only_is _ _ t);
    most = λ n t. omega (arith, only_is _ _ t);
    fit_length = λ v t. is_only _ _ (long v t);
    fit_from = fit_from;
    from_fit = from_fit;
  }
