-- Octets that the strict way accepts, by the lenient way of the same edition: the same verdict; and of all octets the
-- same parts count (document 02, Q-11).
-- Assumes nothing.
use Rattle.std.proofs.Common.{◌≡◌, ℕ, T, List, length, sym, refl, ◌∙◌, None}
use Rattle.rules.specs.Tests.{pick}
use Rattle.rules.specs.Message.{Accepts}
use Rattle.rules.specs.Editions.{strict, lenient, edition, book_of}
use Rattle.rules.proofs.Unique.{unique_in}
use Rattle.rules.proofs.Ways.{strict_of, lenient_of, strict_accepts, ways_list, ways_rival}
use Rattle.message.specs.Verdict.{verdict_of}
use Rattle.message.specs.Parts.{search_from, counted_at}
use Rattle.message.proofs.Told.{accepted_iff}
use Rattle.message.proofs.Judges.{judges_of}

module _ (e : ℕ) (k : T (edition e)) (o : List ℕ) where
  pub lenient_accepts : Accepts (strict_of e) o → Accepts (lenient_of e) o
  lenient_accepts a = let l = (strict_accepts e k o).0 a in (l.0, l.1, l.3)

  pub same_verdict : Accepts (strict_of e) o → verdict_of (strict_of e) o ≡ verdict_of (lenient_of e) o
  same_verdict a =
      let q = (unique_in (book_of e strict)).octets o a in
      (accepted_iff (judges_of (book_of e strict) o q) (length o)).1 (refl, a)
      ∙ sym ((accepted_iff (judges_of (book_of e lenient) o q) (length o)).1 (refl, lenient_accepts a))

  pub same_part : (t : ℕ) → counted_at (strict_of e) o t ≡ counted_at (lenient_of e) o t
  unfolding counted_at
  same_part t =
      let x = ways_list e k t in
      let y = ways_rival e k t in
      λ i. pick (x i) (search_from (length o) t (y i) o 2) None
