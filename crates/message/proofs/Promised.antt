-- What the promises of `judge` and `counted` say of any octets, over the written rules.
-- Assumes nothing.
use Rattle.std.proofs.Common.{◌≡◌, ℕ, List, sym, ap, ◌∙◌, subst, Result, Option}
use Rattle.rules.specs.Octets.{Octets}
use Rattle.rules.specs.Table.{rules_of}
use Rattle.rules.specs.Message as message
use Rattle.rules.specs.Message.{octets}
use Rattle.rules.specs.Language.{language_of}
use Rattle.rules.specs.declared.Book.{Book}
use Rattle.rules.specs.declared.Fault.{Fault}
use Rattle.message.specs.declared.Part.{Part}
use Rattle.message.specs.Verdict.{verdict_of}
use Rattle.message.specs.Judges.{Judges}
use Rattle.message.proofs.Judges.{judges_of}
use Rattle.message.specs.Parts.{counted_at}
use Rattle.message.specs.Places.{CountsAt}
use Rattle.message.proofs.Searching.{counted_part}
use Rattle.message.proofs.Places.{counted_at_lem, part_none}
use Rattle.message.proofs.judge.Reads as judge
use Rattle.message.proofs.counted.Reads as counted

-- by the book b, of the octets o, `judge` answers v
abbrev pub JudgeGives : Book → List ℕ → Result ℕ Fault → Type 0
JudgeGives b o v = (κs : _) × (a : _) × (s : _) × judge.Post κs a v s × (a.0 ≡ b) × (a.1.0.now ≡ o)

-- by the book b, of the octets o and the type t, `counted` answers p
abbrev pub CountedGives : Book → List ℕ → ℕ → Option Part → Type 0
CountedGives b o t p =
    (κs : _) × (a : _) × (s : _) × counted.Post κs a p s × (a.0 ≡ b) × (a.1.0.now ≡ o) × (a.1.1.0 ≡ t)

module _ (b : Book) (o : List ℕ) where
  pub judge_is : (v : Result ℕ Fault) → JudgeGives b o v → v ≡ verdict_of (rules_of b) o
  judge_is v h = h.3 ∙ (λ i. verdict_of (rules_of (h.4 i)) (h.5 i))

  pub counted_is : (t : ℕ) (p : Option Part) → CountedGives b o t p → p ≡ counted_at (rules_of b) o t
  counted_is t p h = h.3 ∙ (λ i. counted_at (rules_of (h.4 i)) (h.5 i) (h.6 i))

  -- accepted, or which number at which place (`Judges`)
  pub verdicts : (v : Result ℕ Fault) → JudgeGives b o v → Octets o → Judges (language_of b) o v
  verdicts v h q = subst (Judges (language_of b) o) (sym (judge_is v h)) (judges_of b o q)

  -- of a message's octets, the part of the contents of the type that count (`CountsAt`)
  pub counts : (t : ℕ) (p : Option Part) → CountedGives b o t p → (m : message.Message) → octets m ≡ o →
      CountsAt (rules_of b) m t p
  counts t p h m e =
      let k = counted_is t p h ∙ ap (λ (x : List ℕ). counted_at (rules_of b) x t) (sym e) in
      record {
        at = λ v c. k ∙ counted_at_lem (rules_of b) m t v c;
        nowhere = λ n. k ∙ part_none (octets m) _ (counted_part (rules_of b) m t ∙ n);
      }
