-- Number, place, parameter and size tell the answer of the writer.
-- Assumes nothing.
use Rattle.std.proofs.Common.{◌≡◌, ℕ, ◌≤◌, ap, arith, Result, Ok, Err}
use Rattle.rules.specs.Refusals.{noted_in}
use Rattle.writer.specs.Told.{Told, told, success, refusal}
use Rattle.writer.specs.Writing.{unwritten}
use Rattle.rules.specs.declared.Fault.{Fault}

pub unwritten_is : (w : Result ℕ Fault) (k p : ℕ) → 1 ≤ k → told w ≡ refusal k p → w ≡ unwritten k p
unfolding told
unwritten_is (Ok n) k p h e = absurd (omega (arith, ap (λ (a : Told). a.number) e))
unwritten_is (Err f) k p h e = λ i. Err (noted_in (e i).number (e i).place (e i).parameter)

pub message_is : (w : Result ℕ Fault) (n : ℕ) → 1 ≤ n → told w ≡ success n → w ≡ Ok n
unfolding told
message_is (Ok m) n h e = ap (λ (a : Told). Ok a.size) e
message_is (Err f) n h e = absurd (omega (arith, ap (λ (a : Told). a.size) e))
