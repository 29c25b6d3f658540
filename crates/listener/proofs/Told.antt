-- Number, place, parameter and size tell an answer of the listener: a message has a size, and a refusal a number.
-- Assumes nothing.
use Rattle.std.proofs.Common.{◌≡◌, ℕ, ◌≤◌, ◌↔◌, refl, ap, arith}
use Rattle.rules.proofs.Tests.{clash}
use Rattle.rules.specs.Refusals.{noted_in}
use Rattle.rules.specs.declared.Fault.{Fault}
use Rattle.listener.specs.declared.Answer.{Answer}
use Rattle.listener.specs.declared.Answer.TheVariants.{Waits, Message, Refused}
use Rattle.listener.specs.Told.{Told, told, waiting, success, refusal, Clear}

number_is : {s t : Told} → s ≡ t → s.number ≡ t.number
number_is e = ap (λ (t : Told). t.number) e

size_is : {s t : Told} → s ≡ t → s.size ≡ t.size
size_is e = ap (λ (t : Told). t.size) e

-- ---- the cases
pub told_waits : (a : Answer) → Clear a → (told a ≡ waiting) ↔ (a ≡ Waits)
unfolding told
told_waits Waits c = (λ e. refl, λ e. refl)
told_waits (Message n) c = (λ e. absurd (omega (arith, size_is e)), λ e. clash cc)
told_waits (Refused f) c = (λ e. absurd (omega (arith, number_is e)), λ e. clash cc)

pub told_message : (a : Answer) (n : ℕ) → 1 ≤ n → (told a ≡ success n) ↔ (a ≡ Message n)
unfolding told
told_message Waits n l = (λ e. absurd (omega (arith, size_is e)), λ e. clash cc)
told_message (Message m) n l = (
  λ e. ap Message (size_is e),
  λ e. let d : m ≡ n = cc in ap (λ (x : ℕ). success x) d,
)
told_message (Refused f) n l = (λ e. absurd (omega (arith, size_is e)), λ e. clash cc)

pub told-refused : (a : Answer) (k p b : ℕ) → 1 ≤ k → (told a ≡ refusal k p b) ↔ (a ≡ Refused (noted_in k p b))
unfolding told
told-refused Waits k p b l = (λ e. absurd (omega (arith, number_is e)), λ e. clash cc)
told-refused (Message n) k p b l = (λ e. absurd (omega (arith, number_is e)), λ e. clash cc)
told-refused (Refused f) k p b l = (
  λ e i. Refused (noted_in (e i).number (e i).place (e i).parameter),
  λ e. let d : f ≡ noted_in k p b = cc in ap (λ (g : Fault). refusal g.number g.place g.parameter) d,
)

-- ---- field by field
pub fields_waiting_lem : (a : Answer) → Clear a → (((told a).number ≡ 0) × ((told a).size ≡ 0)) ↔ (told a ≡ waiting)
unfolding told
fields_waiting_lem Waits c = (λ e. refl, λ e. (refl, refl))
fields_waiting_lem (Message n) c = (λ e. absurd (omega (arith, e.1)), λ e. (number_is e, size_is e))
fields_waiting_lem (Refused f) c = (λ e. absurd (omega (arith, e.0)), λ e. (number_is e, size_is e))

pub fields_message : (a : Answer) (n : ℕ) → 1 ≤ n → ((told a).size ≡ n) ↔ (told a ≡ success n)
unfolding told
fields_message Waits n l = (λ e. absurd (omega arith), λ e. size_is e)
fields_message (Message m) n l = (λ e. ap (λ (x : ℕ). success x) e, λ e. size_is e)
fields_message (Refused f) n l = (λ e. absurd (omega arith), λ e. size_is e)

pub fields_refusal : (a : Answer) (k p b : ℕ) → 1 ≤ k →
    (((told a).number ≡ k) × ((told a).place ≡ p) × ((told a).parameter ≡ b)) ↔ (told a ≡ refusal k p b)
unfolding told
fields_refusal Waits k p b l = (λ e. absurd (omega (arith, e.0)), λ e. absurd (omega (arith, number_is e)))
fields_refusal (Message n) k p b l = (λ e. absurd (omega (arith, e.0)), λ e. absurd (omega (arith, number_is e)))
fields_refusal (Refused f) k p b l = (
  λ e i. refusal (e.0 i) (e.1 i) (e.2 i),
  λ e. (number_is e, ap (λ (t : Told). t.place) e, ap (λ (t : Told). t.parameter) e),
)
