-- Number, place and parameter tell a refusal of the caption finder, which has a number; it is the verdict's.
-- Assumes nothing.
use Rattle.std.proofs.Common.{Err, Result, Ok}
use Prim.Native.Nat.{ℕ, ◌≤◌}
use mathlib.Core.Path.{◌≡◌, refl, ap, subst}
use mathlib.Core.Logic.Iff
use mathlib.Core.Logic.{◌↔◌}
use mathlib.Core.List.{List}
use native.Mathlib.Omega.{arith}
use Rattle.rules.proofs.Tests.{clash}
use Rattle.rules.specs.Table.{Rules}
use Rattle.rules.specs.Refusals.{noted_in}
use Rattle.rules.specs.declared.Fault.{Fault}
use Rattle.message.proofs.Told.{told-declined}
use Rattle.caption.specs.declared.Shown.{Shown}
use Rattle.caption.specs.declared.Shown.TheVariants.{InMessage, InDirectory}
use Rattle.caption.specs.Told.{Told, told, refusal, Clear}
use Rattle.caption.specs.Finds.{Finds}

pub number_is : {s t : Told} → s ≡ t → s.number ≡ t.number
number_is e = ap (λ (t : Told). t.number) e

pub place_is : {s t : Told} → s ≡ t → s.place ≡ t.place
place_is e = ap (λ (t : Told). t.place) e

pub parameter_is : {s t : Told} → s ≡ t → s.parameter ≡ t.parameter
parameter_is e = ap (λ (t : Told). t.parameter) e

pub told-refused : (r : Result Shown Fault) (k p b : ℕ) → 1 ≤ k → (told r ≡ refusal k p b) ↔ (r ≡ Err (noted_in k p b))
unfolding told
told-refused (Ok (InMessage start n)) k p b l = (λ e. absurd (omega (arith, number_is e)), λ e. clash cc)
told-refused (Ok (InDirectory start n)) k p b l = (λ e. absurd (omega (arith, number_is e)), λ e. clash cc)
told-refused (Err f) k p b l = (
  λ e i. Err (noted_in (e i).number (e i).place (e i).parameter),
  λ e. let d : f ≡ noted_in k p b = cc in ap (λ (g : Fault). refusal g.number g.place g.parameter) d,
)

pub clear_of : (r : Result Shown Fault) → ((f : Fault) → r ≡ Err f → 1 ≤ f.number) → Clear r
clear_of (Ok part) h = tt
clear_of (Err f) h = h f refl

module _ {R : Rules} {o d : List ℕ} {r : Result Shown Fault} (x : Finds R o d r) where
  pub some_number : (f : Fault) → r ≡ Err f → 1 ≤ f.number
  some_number f e = subst Clear e x.clear

  pub refused_iff : (f : Fault) → 1 ≤ f.number → (r ≡ Err f) ↔ (x.verdict ≡ Err f)
  refused_iff f l =
      Iff.trans (Iff.symm (told-refused r f.number f.place f.parameter l))
      (Iff.trans (x.refused f.number f.place f.parameter l)
      (told-declined x.verdict f.number f.place f.parameter l))

  -- a refusal is the verdict's
  pub declined_so : (f : Fault) → r ≡ Err f → x.verdict ≡ Err f
  declined_so f e = (refused_iff f (some_number f e)).0 e
