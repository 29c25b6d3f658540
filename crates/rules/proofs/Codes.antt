-- A class is told by its code, and the codes are 0 to 22: computed, class by class and code by code.
-- Assumes nothing.
use Prim.Native.Nat.{ℕ, ◌≤◌}
use mathlib.Core.Path.{◌≡◌, refl, sym, ◌∙◌, ap}
use native.Mathlib.Omega.{arith}
use Rattle.std.specs.Prelude.{◌<◌, Result, Ok, Err, MatchResult}
use Rattle.std.specs.Result.{result_unwrap_or}
use Rattle.rules.specs.declared.UnknownClass.{UnknownClass}
use Rattle.rules.specs.Tests.{◌=?◌, pick}
use Rattle.rules.specs.Codes.{class_code, class_coded}
use Rattle.rules.proofs.Table.{tabled}
use Rattle.rules.proofs.Rivals.{same_table}
use Rattle.rules.proofs.Telling.{telling}
use Rattle.rules.specs.declared.Class.{Class}
use Rattle.rules.specs.declared.Class.TheVariants.{Carried, Date, Number, Absent, Name, Lamp, Identity, CallType, Waiting, Forwarded, User, ShortText, Moment, Charge, Duration, Terminal, Display, Service, Extension, OldNumber, OldForwarded, OldUser, Unlisted}

pub coded_code : (c : Class) → class_coded (class_code c) ≡ c
unfolding class_coded class_code pick ◌=?◌
coded_code Carried = refl
coded_code Date = refl
coded_code Number = refl
coded_code Absent = refl
coded_code Name = refl
coded_code Lamp = refl
coded_code Identity = refl
coded_code CallType = refl
coded_code Waiting = refl
coded_code Forwarded = refl
coded_code User = refl
coded_code ShortText = refl
coded_code Moment = refl
coded_code Charge = refl
coded_code Duration = refl
coded_code Terminal = refl
coded_code Display = refl
coded_code Service = refl
coded_code Extension = refl
coded_code OldNumber = refl
coded_code OldForwarded = refl
coded_code OldUser = refl
coded_code Unlisted = refl

-- so a class of this code is the class that the code has
pub is_coded : (c : Class) (k : ℕ) → class_code c ≡ k → c ≡ class_coded k
is_coded c k e = sym (coded_code c) ∙ ap class_coded e

-- no class has a code above
past : (k : ℕ) → 22 < k → Carried ≡ class_coded k
unfolding class_coded
past k h = grind (arith, telling)

-- and where none has it the code is read as carried
pub or_carried : (k : ℕ) (r : Result Class UnknownClass) →
    MatchResult r (λ c. class_code c ≡ k) (λ e. (e.0 ≡ k) × (22 < k)) → result_unwrap_or r Carried ≡ class_coded k
unfolding class_coded pick ◌=?◌
or_carried k (Ok c) e = is_coded c k e
or_carried k (Err e) h = past k h.1

-- the codes are 0 to 22
pub code_coded : (k : ℕ) → k ≤ 22 → class_code (class_coded k) ≡ k
unfolding tabled class_coded class_code pick ◌=?◌
code_coded k h = same_table (λ (j : ℕ). class_code (class_coded j)) (λ (j : ℕ). j) 23 k refl (omega arith)
