-- Number, place, parameter and size tell the answer of a read, since a refusal has a number; and what is read, case by
-- case.
-- Assumes nothing.
use Rattle.std.proofs.Common.{Result, Ok, Err}
use Prim.Native.Nat.{ℕ, ◌≤◌, ◌<◌}
use mathlib.Core.Path.{◌≡◌, sym, ◌∙◌, ap, subst}
use mathlib.Core.Logic.Iff
use mathlib.Core.Logic.{◌↔◌}
use mathlib.Core.List.{List}
use native.Mathlib.Omega.{arith}
use lib.ListN.{length, take}
use lib.Dec.{T}
use Rattle.rules.proofs.Tests.{clash}
use Rattle.rules.proofs.InRange.{inside}
use Rattle.rules.specs.Table.{Rules}
use Rattle.rules.specs.Message.{Message, octets, LegalMessage, Accepts}
use Rattle.rules.specs.Endings.{Ending, Spoilt, Numbered}
use Rattle.rules.specs.Language.{calls}
use Rattle.rules.specs.Refusals.{noted, noted_in}
use Rattle.rules.specs.Laying.{laid}
use Rattle.rules.specs.declared.Fault.{Fault}
use Rattle.draft.specs.Draft.{empty_of, message_of}
use Rattle.draft.specs.Packing.{draft_of}
use Rattle.reader.specs.declared.Reading.{Reading}
use Rattle.reader.specs.Told.{Told, told, success, refusal, Clear}
use Rattle.reader.specs.Reads.{texts, read_number, Reads}

number_is : {s t : Told} → s ≡ t → s.number ≡ t.number
number_is e = ap (λ (t : Told). t.number) e

pub told-texts : (a : Result ℕ Fault) (n : ℕ) → Clear a → (told a ≡ success n) ↔ (a ≡ Ok n)
unfolding told
told-texts (Ok m) n c = (
  λ e. ap (λ (t : Told). Ok t.size) e,
  λ e. let d : m ≡ n = cc in ap (λ (x : ℕ). success x) d,
)
told-texts (Err f) n c = (λ e. absurd (omega (arith, number_is e)), λ e. clash cc)

pub told-refused : (a : Result ℕ Fault) (k p b : ℕ) → 1 ≤ k → (told a ≡ refusal k p b) ↔ (a ≡ Err (noted_in k p b))
unfolding told
told-refused (Ok n) k p b l = (λ e. absurd (omega (arith, number_is e)), λ e. clash cc)
told-refused (Err f) k p b l = (
  λ e i. Err (noted_in (e i).number (e i).place (e i).parameter),
  λ e. let d : f ≡ noted_in k p b = cc in ap (λ (g : Fault). refusal g.number g.place g.parameter) d,
)

-- ---- what is read, case by case
module _ {R : Rules} {o old : List ℕ} {r : Reading} {area : List ℕ} (x : Reads R o old r area) where
  pub spoilt_iff : (f : Fault) → 1 ≤ f.number → T ((calls R).given f.number) →
      (r.answer ≡ Err f) ↔
      (Spoilt (Accepts R) o f.place
      × Numbered (Accepts R) (calls R).roles o f.place f.number f.parameter)
  spoilt_iff f l t =
      Iff.trans (Iff.symm (told-refused _ f.number f.place f.parameter l))
      (x.spoilt f.number f.place f.parameter t)

  pub early_iff : (p : ℕ) → (r.answer ≡ Err (noted 8 p)) ↔ ((p ≡ length o) × Ending (Accepts R) o)
  early_iff p = Iff.trans (Iff.symm (told-refused _ 8 p 0 (omega arith))) (x.early p)

  pub followed_iff : (p : ℕ) → (r.answer ≡ Err (noted 7 p)) ↔ ((p < length o) × Accepts R (take p o))
  followed_iff p = Iff.trans (Iff.symm (told-refused _ 7 p 0 (omega arith))) (x.followed p)

  pub short_iff : (p : ℕ) →
      (r.answer ≡ Err (noted 9 p)) ↔
      ((m : Message) × LegalMessage R m × (octets m ≡ o) × (p ≡ length (texts R m)) × (length old < p))
  short_iff p = Iff.trans (Iff.symm (told-refused _ 9 p 0 (omega arith))) (x.short p)

  pub drafted_as : (m : Message) → LegalMessage R m → octets m ≡ o → length (texts R m) ≤ length old →
      (r ≡ (record { edition = R.edition; answer = Ok (length (texts R m)); draft = draft_of R m })) × (area ≡ laid (texts R m) old)
      × (message_of r.draft area ≡ m)
  drafted_as m l e h =
      let y = x.drafted m l e h in
      let a = (told-texts _ _ x.clear).0 y.0 in
      let d = y.1 in
      let v = x.names in
      ((λ i. record { edition = v i; answer = a i; draft = d i }), y.2, y.3)

  pub texts_accepted : (n : ℕ) → r.answer ≡ Ok n → Accepts R o
  unfolding told
  texts_accepted n e = x.only (ap (λ (a : Result ℕ Fault). (told a).number) e)

  -- 7, 8 and 9 are in no parameter
  pub noted_at : (f : Fault) → r.answer ≡ Err f → (k : ℕ) → f.number ≡ k → 7 ≤ k → k ≤ 9 → f ≡ noted k f.place
  unfolding told
  noted_at f e k z a b =
      let n = ap (λ (y : Result ℕ Fault). (told y).number) e in
      let q : f.parameter ≡ 0 =
      sym (ap (λ (y : Result ℕ Fault). (told y).parameter) e) ∙ x.no_parameter (inside 7 9 _ (omega arith) (omega arith)) in
      λ i. noted_in (z i) f.place (q i)

  -- a refusal has a number, which is one of a read's; the area stays, and the draft is empty
  pub some_number : (f : Fault) → r.answer ≡ Err f → 1 ≤ f.number
  some_number f e = subst Clear e x.clear

  pub refused_so : (f : Fault) → r.answer ≡ Err f →
      (area ≡ old) × (r.draft ≡ empty_of R.edition 0) × T (read_number R f.number)
  unfolding told
  refused_so f e =
      let z = ap (λ (a : Result ℕ Fault). (told a).number) e in
      let y = x.refused (omega (arith, z, some_number f e)) in
      (y.0, y.1, subst (λ (k : ℕ). T (read_number R k)) z y.2)
