-- Of octets that the strict way accepts, the caption is that of the lenient way of the same edition, whatever the
-- directory (document 02, Q-11).
-- Assumes nothing.
use Rattle.std.proofs.Common.{ℕ, Result, Ok, Err, Option, Some, None}
use Prim.Native.Nat.{ℕ}
use mathlib.Core.Path.{◌≡◌, refl, ◌∙◌, ap}
use mathlib.Core.List.{List}
use lib.Dec.{T}
use Rattle.rules.specs.Tests.{pick}
use Rattle.rules.specs.Refusals.{noted}
use Rattle.rules.specs.Message.{Accepts}
use Rattle.rules.specs.Editions.{strict, lenient, edition}
use Rattle.rules.proofs.Editions.{ways_known}
use Rattle.rules.proofs.Ways.{strict_of, lenient_of}
use Rattle.rules.specs.declared.Fault.{Fault}
use Rattle.message.specs.declared.Part.{Part}
use Rattle.message.specs.Verdict.{verdict_of}
use Rattle.message.proofs.Ways.{same_verdict, same_part}
use Rattle.caption.specs.Caption.{by_caller, by_name, find_under, find_of, find_in}

module _ (e : ℕ) (k : T (edition e)) (o : List ℕ) (a : Accepts (strict_of e) o) (d : List ℕ) where
  names_by : (p : Option Part) → by_name (strict_of e) p o d ≡ by_name (lenient_of e) p o d
  unfolding by_name
  names_by (Some part) = refl
  names_by None = ap (λ (p : Option Part). by_caller p o d) (same_part e k o 0x02)

  under : (v : Result ℕ Fault) → find_under (strict_of e) v o d ≡ find_under (lenient_of e) v o d
  unfolding find_under
  under (Ok n) = ap Ok (ap (λ (p : Option Part). by_name (strict_of e) p o d) (same_part e k o 0x07) ∙ names_by _)
  under (Err f) = refl

  same_found : find_of (strict_of e) o d ≡ find_of (lenient_of e) o d
  unfolding find_of
  same_found =
      ap (λ (v : Result ℕ Fault). find_under (strict_of e) v o d) (same_verdict e k o a) ∙ under (verdict_of (lenient_of e) o)

  pub same_finding : find_in e strict o d ≡ find_in e lenient o d
  unfolding find_in
  same_finding =
      let x = ways_known e in
      let y = same_found in
      λ i. pick (x i) (record { edition = e; answer = y i }) (record { edition = 0; answer = Err (noted 16 0) })
