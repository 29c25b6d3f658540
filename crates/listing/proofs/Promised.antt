-- What the promise of `listing` says of any octets, over the written rules.
-- Assumes nothing.
use Rattle.std.proofs.Common.{ℕ, Result, Ok, Err}
use Prim.Native.Nat.{ℕ, ◌-◌}
use mathlib.Core.Path.{◌≡◌, refl, sym, ◌∙◌, ap, subst}
use mathlib.Core.List.{List}
use native.Mathlib.Omega.{arith}
use lib.ListN.{length, length-append, length-replicate, take, drop, replicate}
use lib.Seq.{take-append_seam, drop-append_seam}
use Rattle.rules.specs.Octets.{Octets}
use Rattle.rules.specs.Table.{Rules, rules_of}
use Rattle.rules.specs.declared.Book.TheVariants.{PresentLenient}
use Rattle.rules.proofs.ContentLaw.{sound_rules}
use Rattle.rules.proofs.Unique.{unique_in}
use Rattle.rules.specs.Message as message
use Rattle.rules.specs.Message.{octets, LegalMessage, Accepts}
use Rattle.rules.specs.declared.Fault.{Fault}
use Rattle.message.proofs.Told.{told-declined, accepted_iff}
use Rattle.message.specs.Verdict.{verdict_of}
use Rattle.message.proofs.Judges.{judges_of}
use Rattle.message.specs.Parameters.{message_in}
use Rattle.message.proofs.Standing.{message_in_lem}
use Rattle.listing.specs.declared.ListingText.{ListingText}
use Rattle.listing.specs.Listing.{written, message_lines, verdict_lines, refusal_lines}
use Rattle.listing.specs.Listing.{listing_of, buffer_of, buffer_size}
use Rattle.listing.specs.Lists.{Lines, Lists}
use Rattle.listing.proofs.Lines.{lines_of}
use Rattle.listing.proofs.Whole.{listing_short}
use Rattle.listing.proofs.Plain.{cut, bares, lines_back}
use Rattle.listing.proofs.listing.Reads as listing

-- of the octets o, `listing` answers r
abbrev pub ListingGives : List ℕ → ListingText → Type 0
ListingGives o r = (κs : _) × (a : _) × (s : _) × listing.Post κs a r s × (a.0.now ≡ o)

-- the octets of a listing
abbrev pub shown : ListingText → List ℕ
shown r = take r.length r.octets

of_text : (v : List ℕ) →
    (shown (buffer_of v) ≡ v) × (drop (buffer_of v).length (buffer_of v).octets ≡ replicate (buffer_size - length v) 0)
unfolding buffer_of
of_text v =
    let zeros = replicate (buffer_size - length v) 0 in
    (take-append_seam v zeros, drop-append_seam v zeros)

module _ (o : List ℕ) (r : ListingText) (h : ListingGives o r) where
  listing_is : r ≡ buffer_of (listing_of (rules_of PresentLenient) o)
  listing_is = h.3 ∙ (λ i. buffer_of (listing_of (rules_of PresentLenient) (h.4 i)))

  -- its octets are the listing, and zeros stand behind them
  pub lists : shown r ≡ listing_of (rules_of PresentLenient) o
  lists = ap shown listing_is ∙ (of_text (listing_of (rules_of PresentLenient) o)).0

  pub zeros_behind : drop r.length r.octets ≡
      replicate (buffer_size - length (listing_of (rules_of PresentLenient) o)) 0
  zeros_behind =
      ap (λ (x : ListingText). drop x.length x.octets) listing_is
      ∙ (of_text (listing_of (rules_of PresentLenient) o)).1

  -- of a message's octets: its lines, and nothing else
  pub lists_message : (m : message.Message) → LegalMessage (rules_of PresentLenient) m → octets m ≡ o →
      shown r ≡ written (message_lines (rules_of PresentLenient) m)
  unfolding listing_of verdict_lines
  lists_message m l e =
      let w : Accepts (rules_of PresentLenient) o = (m, l, e) in
      let v : verdict_of (rules_of PresentLenient) o ≡ Ok (length o) =
      (accepted_iff (judges_of PresentLenient o ((unique_in PresentLenient).octets o w)) (length o)).1 (refl, w) in
      lists
      ∙ ap (λ (x : Result ℕ Fault). written (verdict_lines (rules_of PresentLenient) o x)) v
      ∙ ap (λ (x : message.Message). written (message_lines (rules_of PresentLenient) x))
      (ap message_in (sym e) ∙ message_in_lem (rules_of PresentLenient) (sound_rules PresentLenient) m l)

  -- cut at its line ends it gives them back
  pub lists_lines : (m : message.Message) → LegalMessage (rules_of PresentLenient) m → octets m ≡ o →
      cut (shown r) ≡ bares (message_lines (rules_of PresentLenient) m)
  lists_lines m l e = ap cut (lists_message m l e) ∙ lines_back m l

  -- of a refusal: number, place and parameter, as the verdict has them
  pub lists_refusal : (f : Fault) → verdict_of (rules_of PresentLenient) o ≡ Err f →
      shown r ≡ written (refusal_lines f)
  unfolding listing_of verdict_lines
  lists_refusal f e = lists ∙ ap (λ (x : Result ℕ Fault). written (verdict_lines (rules_of PresentLenient) o x)) e

-- all the sentences on a listing
module _ (o : List ℕ) (q : Octets o) where
  abbrev R : Rules
  R = rules_of PresentLenient

  message_lines_lem : (m : message.Message) → LegalMessage R m → octets m ≡ o →
      Lines R m (verdict_lines R o (verdict_of R o))
  unfolding verdict_lines
  message_lines_lem m l e =
      let v = (accepted_iff (judges_of PresentLenient o q) (length o)).1 (refl, (m, l, e)) in
      let k : message_in o ≡ m = ap message_in (sym e) ∙ message_in_lem R (sound_rules PresentLenient) m l in
      subst (Lines R m) (sym (ap (verdict_lines R o) v ∙ ap (message_lines R) k)) (lines_of PresentLenient m)

  listing_of_lem : Lists R o (buffer_of (listing_of R o))
  unfolding listing_of verdict_lines buffer_of
  listing_of_lem =
      let v = listing_of R o in
      let n = listing_short o q in
      let k = length-append v (replicate (buffer_size - length v) 0) in
      let z = length-replicate {A = ℕ} (buffer_size - length v) 0 in
      record {
        verdict = verdict_of R o;
        judged = judges_of PresentLenient o q;
        lines = verdict_lines R o (verdict_of R o);
        refused = λ k p b l e. ap (verdict_lines R o) ((told-declined _ k p b l).0 e);
        message = message_lines_lem;
        text = (of_text v).0;
        inside = omega arith;
        size = omega arith;
        zeros = (of_text v).1;
      }

-- whatever `listing` answers has them
pub listing_follows : (o : List ℕ) (r : ListingText) → ListingGives o r → Octets o →
    Lists (rules_of PresentLenient) o r
listing_follows o r h q = subst (Lists (rules_of PresentLenient) o) (sym (listing_is o r h)) (listing_of_lem o q)
