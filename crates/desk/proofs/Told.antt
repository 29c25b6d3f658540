-- Number, place and parameter tell the answer of settling, since a refusal has a number; and what is settled, case by
-- case.
-- Assumes nothing.
use Rattle.std.proofs.Common.{Err, Result, Ok}
use Prim.Native.Nat.{ℕ, ◌≤◌}
use mathlib.Core.Path.{◌≡◌, refl, sym, ◌∙◌, ap, subst}
use mathlib.Core.Logic.Iff
use mathlib.Core.Logic.{◌⊎◌, ◌↔◌}
use mathlib.Core.List.{List}
use native.Mathlib.Omega.{arith}
use lib.Dec.{T}
use Rattle.rules.proofs.Tests.{clash}
use Rattle.rules.specs.Table.{Rules}
use Rattle.rules.specs.Message.{Accepts}
use Rattle.rules.specs.Language.{calls}
use Rattle.rules.specs.Refusals.{noted, noted_in}
use Rattle.rules.specs.declared.Fault.{Fault}
use Rattle.message.specs.Judges.{verdict_number}
use Rattle.message.proofs.Told.{told-declined}
use Rattle.desk.specs.declared.Desk.{Desk}
use Rattle.desk.specs.declared.Outcome.{Outcome}
use Rattle.desk.specs.Told.{Told, told, success, refusal, Clear}
use Rattle.desk.specs.Holding.{Fit}
use Rattle.desk.specs.Settles.{Fills, Settles}

pub number_is : {s t : Told} → s ≡ t → s.number ≡ t.number
number_is e = ap (λ (t : Told). t.number) e

pub place_is : {s t : Told} → s ≡ t → s.place ≡ t.place
place_is e = ap (λ (t : Told). t.place) e

pub told-done : (a : Result (Unit {0}) Fault) → Clear a → (told a ≡ success) ↔ (a ≡ (Ok tt))
unfolding told
told-done (Ok u) c = (λ e. refl, λ e. refl)
told-done (Err f) c = (λ e. absurd (omega (arith, number_is e)), λ e. clash cc)

pub parameter_is : {s t : Told} → s ≡ t → s.parameter ≡ t.parameter
parameter_is e = ap (λ (t : Told). t.parameter) e

pub told-refused : (a : Result (Unit {0}) Fault) (k p b : ℕ) → 1 ≤ k → (told a ≡ refusal k p b) ↔ (a ≡ Err (noted_in k p b))
unfolding told
told-refused (Ok u) k p b l = (λ e. absurd (omega (arith, number_is e)), λ e. clash cc)
told-refused (Err f) k p b l = (
  λ e i. Err (noted_in (e i).number (e i).place (e i).parameter),
  λ e. let d : f ≡ noted_in k p b = cc in ap (λ (g : Fault). refusal g.number g.place g.parameter) d,
)

-- ---- what is settled, case by case
module _ {R : Rules} {d : Desk} {o : List ℕ} {r : Outcome} (s : Settles R d o r) where
  pub unfit_iff : (p : ℕ) → (r.answer ≡ Err (noted 17 p)) ↔ ((p ≡ 0) × (Fit d.places → ⊥))
  unfit_iff p = Iff.trans (Iff.symm (told-refused _ 17 p 0 (omega arith))) (s.seventeen p)

  pub refused_iff : (f : Fault) → 1 ≤ f.number → T (verdict_number (calls R) f.number) →
      (r.answer ≡ Err f) ↔ (Fit d.places × (s.verdict ≡ Err f))
  refused_iff f l t =
      let x = Iff.trans (Iff.symm (told-refused _ f.number f.place f.parameter l))
      (s.refused f.number f.place f.parameter t) in
      let y = told-declined s.verdict f.number f.place f.parameter l in
      (λ e. let z = x.0 e in (z.0, y.0 z.1), λ e. x.1 (e.0, y.1 e.1))

  pub full_iff : (p : ℕ) →
      (r.answer ≡ Err (noted 21 p)) ↔ ((p ≡ 0) × Fit d.places × Fills R d.places o)
  full_iff p = Iff.trans (Iff.symm (told-refused _ 21 p 0 (omega arith))) (s.full p)

  pub done_iff : (r.answer ≡ (Ok tt)) ↔ (Fit d.places × Accepts R o × (Fills R d.places o → ⊥))
  done_iff = Iff.trans (Iff.symm (told-done _ s.clear)) s.done

  -- a refusal has a number, which is one of settling's, and leaves the desk
  pub some_number : (f : Fault) → r.answer ≡ Err f → 1 ≤ f.number
  some_number f e = subst Clear e s.clear

  told-number : (f : Fault) → r.answer ≡ Err f → (told r.answer).number ≡ f.number
  unfolding told
  told-number f e = ap (λ (a : Result (Unit {0}) Fault). (told a).number) e

  -- 17 and 21 are in no parameter
  pub noted_at : (f : Fault) → r.answer ≡ Err f → (k : ℕ) → f.number ≡ k → (k ≡ 17) ⊎ (k ≡ 21) →
      f ≡ noted k f.place
  unfolding told
  noted_at f e k z w =
      let q : f.parameter ≡ 0 =
      sym (ap (λ (a : Result (Unit {0}) Fault). (told a).parameter) e)
      ∙ s.no_parameter (subst (λ (j : ℕ). (j ≡ 17) ⊎ (j ≡ 21)) (sym (told-number f e ∙ z)) w) in
      λ i. noted_in (z i) f.place (q i)

  pub number_of_lem : (f : Fault) → r.answer ≡ Err f →
      T (verdict_number (calls R) f.number) ⊎ ((f.number ≡ 17) ⊎ (f.number ≡ 21))
  number_of_lem f e =
      let z = told-number f e in
      subst (λ (k : ℕ). T (verdict_number (calls R) k) ⊎ ((k ≡ 17) ⊎ (k ≡ 21))) z
      (s.numbers (omega (arith, z, some_number f e)))

  pub refusal_leaves : (f : Fault) → r.answer ≡ Err f → r.desk ≡ d
  refusal_leaves f e = s.refusal_stays (omega (arith, told-number f e, some_number f e))
