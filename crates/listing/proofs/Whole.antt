-- What `listing` owes its callers: the lines from an accepted message's octets are those of the message that they
-- are, and they fit the buffer.
-- Assumes nothing.
use Rattle.std.proofs.Common.{ℕ, Result, Ok, Err}
use Prim.Native.Nat.{ℕ, ◌≤◌}
use mathlib.Core.Path.{◌≡◌, refl, sym, ◌∙◌, ap, ap₂, subst}
use mathlib.Core.List.{List, [], ◌∷◌, ◌++◌}
use mathlib.Core.Option.{Option}
use native.Mathlib.Omega.{arith}
use lib.ListN.{length, get_or}
use Rattle.rules.specs.Octets.{Octets}
use Rattle.rules.specs.Table.{Row, rules_of}
use Rattle.rules.specs.declared.Book.TheVariants.{PresentLenient}
use Rattle.rules.proofs.ContentLaw.{sound_rules}
use Rattle.rules.specs.Message as message
use Rattle.rules.specs.Message.{octets, LegalMessage, Accepts}
use Rattle.rules.specs.Counting.{counted, carried_in}
use Rattle.rules.specs.declared.Fault.{Fault}
use Rattle.rules.proofs.Grammar.{spoken_of}
use Rattle.message.specs.Verdict.{verdict_of}
use Rattle.message.proofs.Judges.{judges_of, told_small, near_declined, few_declined}
use Rattle.message.proofs.Told.{accepted_iff, number_of_lem}
use Rattle.message.specs.Parts.{counted_at, part_of}
use Rattle.message.proofs.Searching.{counted_part}
use Rattle.message.specs.Parameters.{parameters_in, message_in}
use Rattle.message.proofs.Standing.{message_in_lem}
use Rattle.listing.specs.Listing.{Line, written, kind_line, carried_line, lines_for, row_lines, message_lines, part_lines, rows_at, lines_at, verdict_lines, refusal_lines, listing_of, buffer_size}
use Rattle.listing.proofs.Longest.{longest, refusal_short}

-- ---- the rows from the octets, and from the message
rows_same : (o : List ℕ) (m : message.Message) →
    ((t : ℕ) → part_of o (counted_at (rules_of PresentLenient) o t) ≡ counted (rules_of PresentLenient) m t) →
    (rs : List Row) → rows_at (rules_of PresentLenient) o rs ≡ row_lines (rules_of PresentLenient) m rs
unfolding rows_at row_lines part_lines
rows_same o m e [] = refl
rows_same o m e (r ∷ rs) =
    ap₂ (λ (x : Option (List ℕ)) (ls : List Line). lines_for (rules_of PresentLenient) r x ++ ls) (e r.kind)
    (rows_same o m e rs)

lines_same : (m : message.Message) → LegalMessage (rules_of PresentLenient) m →
    lines_at (rules_of PresentLenient) (octets m) ≡ message_lines (rules_of PresentLenient) (message_in (octets m))
unfolding lines_at message_lines message_in
lines_same m l =
    ap (λ (ls : List Line). kind_line (get_or (octets m) 0 0) ∷ (ls
    ++ carried_line (carried_in (rules_of PresentLenient) (parameters_in (octets m))) ∷ []))
    (rows_same (octets m) (message_in (octets m))
    (λ t. counted_part (rules_of PresentLenient) m t
    ∙ ap (λ (x : message.Message). counted (rules_of PresentLenient) x t)
    (sym (message_in_lem (rules_of PresentLenient) (sound_rules PresentLenient) m l))) (rules_of PresentLenient).rows)

-- v is the listing of o, and has room in the buffer
pub record Fitting (o v : List ℕ) : Type 0 where
  pub is : v ≡ listing_of (rules_of PresentLenient) o
  pub short : length v ≤ buffer_size

module _ (o : List ℕ) (q : Octets o) (v : Result ℕ Fault) (e : v ≡ verdict_of (rules_of PresentLenient) o) where
  pub lists_message : (n : ℕ) → v ≡ Ok n → Fitting o (written (lines_at (rules_of PresentLenient) o))
  unfolding listing_of verdict_lines
  lists_message n d = go ((accepted_iff (judges_of PresentLenient o q) n).0 (sym e ∙ d)).1
    where
      go : Accepts (rules_of PresentLenient) o → Fitting o (written (lines_at (rules_of PresentLenient) o))
      go a =
          let m = a.0 in
          let l = a.1 in
          let s : lines_at (rules_of PresentLenient) o ≡ message_lines (rules_of PresentLenient) (message_in o) =
          subst (λ (x : List ℕ). lines_at (rules_of PresentLenient) x ≡ message_lines (rules_of PresentLenient)
          (message_in x)) a.2 (lines_same m l) in
          let k : message_in o ≡ m =
          ap message_in (sym a.2) ∙ message_in_lem (rules_of PresentLenient) (sound_rules PresentLenient) m l in
          record {
            is =
                ap written s
                ∙ ap (λ (x : Result ℕ Fault). written (verdict_lines (rules_of PresentLenient) o x)) (sym d ∙ e);
            short =
                omega (
                  arith,
                  longest m l,
                  ap (λ (ls : List Line). length (written ls))
                      (s ∙ ap (message_lines (rules_of PresentLenient)) k),
                );
          }

  pub lists_refusal : (f : Fault) → v ≡ Err f → Fitting o (written (refusal_lines f))
  unfolding listing_of verdict_lines
  lists_refusal f d =
      let j = judges_of PresentLenient o q in
      record {
        is = ap (λ (x : Result ℕ Fault). written (verdict_lines (rules_of PresentLenient) o x)) (sym d ∙ e);
        short =
            refusal_short f (omega (arith, (told_small (spoken_of PresentLenient) _ (number_of_lem j f (sym e ∙ d))).1))
            (omega (arith, near_declined j f (sym e ∙ d))) (omega (arith, few_declined j f (sym e ∙ d)));
      }

-- every listing has
pub listing_short : (o : List ℕ) → Octets o → length (listing_of (rules_of PresentLenient) o) ≤ buffer_size
listing_short o q = go (verdict_of (rules_of PresentLenient) o) refl
  where
    go : (v : Result ℕ Fault) → v ≡ verdict_of (rules_of PresentLenient) o →
        length (listing_of (rules_of PresentLenient) o) ≤ buffer_size
    go (Ok n) e = let f = lists_message o q _ e n refl in omega (arith, ap length f.is, f.short)
    go (Err g) e = let f = lists_refusal o q _ e g refl in omega (arith, ap length f.is, f.short)
