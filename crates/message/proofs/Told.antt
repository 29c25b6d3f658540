-- Number, place, parameter and size tell a verdict, since a refusal has a number; and what is judged, case by case.
-- Assumes nothing.
use Rattle.std.proofs.Common.{◌≡◌, ℕ, ◌<◌, ◌≤◌, T, ◌↔◌, List, length, take, sym, ap, ◌∙◌, subst, arith, Result, Ok, Err}
use mathlib.Core.Logic.Iff
use Rattle.rules.proofs.Tests.{clash}
use Rattle.rules.proofs.InRange.{inside}
use Rattle.rules.specs.Endings.{Ending, Spoilt, Numbered}
use Rattle.rules.specs.Language.{Language}
use Rattle.rules.specs.Refusals.{noted, noted_in}
use Rattle.rules.specs.declared.Fault.{Fault}
use Rattle.message.specs.Told.{Told, told, success, refusal, Clear}
use Rattle.message.specs.Judges.{Judges, verdict_number}

number_is : {s t : Told} → s ≡ t → s.number ≡ t.number
number_is e = ap (λ (t : Told). t.number) e

pub told_accepted : (v : Result ℕ Fault) (n : ℕ) → Clear v → (told v ≡ success n) ↔ (v ≡ Ok n)
unfolding told
told_accepted (Ok m) n c = (
  λ e. ap (λ (t : Told). Ok t.size) e,
  λ e. let d : m ≡ n = cc in ap (λ (x : ℕ). success x) d,
)
told_accepted (Err f) n c = (λ e. absurd (omega (arith, number_is e)), λ e. clash cc)

pub told-declined : (v : Result ℕ Fault) (k p b : ℕ) → 1 ≤ k → (told v ≡ refusal k p b) ↔ (v ≡ Err (noted_in k p b))
unfolding told
told-declined (Ok n) k p b l = (λ e. absurd (omega (arith, number_is e)), λ e. clash cc)
told-declined (Err f) k p b l = (
  λ e i. Err (noted_in (e i).number (e i).place (e i).parameter),
  λ e. let d : f ≡ noted_in k p b = cc in ap (λ (g : Fault). refusal g.number g.place g.parameter) d,
)

-- ---- what is judged, case by case
module _ {L : Language} {o : List ℕ} {v : Result ℕ Fault} (j : Judges L o v) where
  pub accepted_iff : (n : ℕ) → (v ≡ Ok n) ↔ ((length o ≡ n) × L.Accepts o)
  accepted_iff n = Iff.trans (Iff.symm (told_accepted v n j.clear)) (j.accepted n)

  pub spoilt_iff : (f : Fault) → 1 ≤ f.number → T (L.given f.number) →
      (v ≡ Err f) ↔
      (Spoilt L.Accepts o f.place
      × Numbered L.Accepts L.roles o f.place f.number f.parameter)
  spoilt_iff f l t =
      Iff.trans (Iff.symm (told-declined v f.number f.place f.parameter l))
      (j.spoilt f.number f.place f.parameter t)

  pub early_iff : (p : ℕ) → (v ≡ Err (noted 8 p)) ↔ ((p ≡ length o) × Ending L.Accepts o)
  early_iff p = Iff.trans (Iff.symm (told-declined v 8 p 0 (omega arith))) (j.early p)

  pub followed_iff : (p : ℕ) → (v ≡ Err (noted 7 p)) ↔ ((p < length o) × L.Accepts (take p o))
  followed_iff p = Iff.trans (Iff.symm (told-declined v 7 p 0 (omega arith))) (j.followed p)

  -- 7 and 8 are in no parameter
  pub no_parameter_of : (f : Fault) → v ≡ Err f → 7 ≤ f.number → f.number ≤ 8 → f.parameter ≡ 0
  unfolding told
  no_parameter_of f e a b =
      let z = ap (λ (x : Result ℕ Fault). (told x).number) e in
      sym (ap (λ (x : Result ℕ Fault). (told x).parameter) e) ∙ j.no_parameter (inside 7 8 _ (omega arith) (omega arith))

  pub at_seven : (f : Fault) → v ≡ Err f → f.number ≡ 7 → f ≡ noted 7 f.place
  at_seven f e z =
      let b = no_parameter_of f e (omega arith) (omega arith) in
      λ i. noted_in (z i) f.place (b i)

  pub at_eight : (f : Fault) → v ≡ Err f → f.number ≡ 8 → f ≡ noted 8 f.place
  at_eight f e z =
      let b = no_parameter_of f e (omega arith) (omega arith) in
      λ i. noted_in (z i) f.place (b i)

  -- a refusal has a number, which is one of the verdict's
  pub some_number : (f : Fault) → v ≡ Err f → 1 ≤ f.number
  some_number f e = subst Clear e j.clear

  pub number_of_lem : (f : Fault) → v ≡ Err f → T (verdict_number L f.number)
  unfolding told
  number_of_lem f e =
      let z = ap (λ (x : Result ℕ Fault). (told x).number) e in
      subst (λ (k : ℕ). T (verdict_number L k)) z (j.numbers (omega (arith, z, some_number f e)))
