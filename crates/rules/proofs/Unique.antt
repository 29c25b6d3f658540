-- Why messages are told by their octets: the length of a parameter says where its contents end, so equal octets
-- split alike; an accepted message is answered at its end and the answer stays, so none begins another; and the
-- checksum closes the sum.
-- Assumes nothing.
use Prim.Native.Nat.{ℕ, ◌%◌}
use mathlib.Core.Path.{◌≡◌, refl, sym, ◌∙◌, ap}
use mathlib.Core.List.{List, [], ◌∷◌, ◌++◌}
use native.Mathlib.Omega.{arith}
use lib.ListN.{length, length-append}
use lib.Seq.{take-length}
use Rattle.rules.specs.Octets.{Octets, total, checksum}
use Rattle.rules.proofs.Octets.{checksum_closes, total-append}
use Rattle.rules.specs.Table.{Rules, rules_of}
use Rattle.rules.proofs.ContentLaw.{SoundRules, sound_rules}
use Rattle.rules.specs.Message as message
use Rattle.rules.specs.Unique.{Unique}
use Rattle.rules.specs.declared.Book.{Book}
use Rattle.rules.specs.Message.{Parameter, body, front, octets, Accepts}
use Rattle.rules.specs.Machine.{run, start, answer}
use Rattle.rules.specs.Judge.{machine}
use Rattle.rules.proofs.Remaining.{empty}
use Rattle.rules.proofs.Listening.{accepted_octets, message_stays, run-append}
use Rattle.rules.proofs.Grammar.{spoken, accepted_size}
use Rattle.rules.proofs.Demand3.{demand3}
use Rattle.rules.specs.declared.State.{State}
use Rattle.rules.specs.declared.State.TheVariants.{Message}

-- lists of one length that begin equal lists are equal, and so are the rests
pub split : (a b c d : List ℕ) → length a ≡ length b → a ++ c ≡ b ++ d → (a ≡ b) × (c ≡ d)
split [] [] c d l e = (refl, e)
split [] (y ∷ b) c d l e = absurd (omega arith)
split (x ∷ a) [] c d l e = absurd (omega arith)
split (x ∷ a) (y ∷ b) c d l e = let r = split a b c d (omega arith) (cc) in (cc, r.1)

pub body_told : (ps qs : List Parameter) → body ps ≡ body qs → ps ≡ qs
unfolding body
body_told [] [] e = refl
body_told [] (q ∷ qs) e = cc
body_told (p ∷ ps) [] e = cc
body_told (p ∷ ps) (q ∷ qs) e =
    let r = split p.contents q.contents (body ps) (body qs) (cc) (cc) in
    let k : p.kind ≡ q.kind = cc in
    let t = body_told ps qs r.1 in
    λ i. (record { kind = k i; contents = r.0 i }) ∷ t i

told : (m n : message.Message) → octets m ≡ octets n → m ≡ n
unfolding octets
told m n e =
    let l = ap length e in
    let f = split (front m) (front n) _ _
    (omega (
      arith,
      length-append (front m) (checksum (total (front m)) ∷ []),
      length-append (front n)
          (checksum (total (front n)) ∷ []),
    )) e in
    let k : m.kind ≡ n.kind = cc in
    let b : body m.parameters ≡ body n.parameters = cc in
    let t = body_told m.parameters n.parameters b in
    λ i. record { kind = k i; parameters = t i }

sums : (m : message.Message) → total (octets m) % 256 ≡ 0
unfolding octets total
sums m = omega (arith, total-append (front m) (checksum (total (front m)) ∷ []), checksum_closes (total (front m)))

module _ (R : Rules) (S : SoundRules R) where
  accepts_octets : (o : List ℕ) → Accepts R o → Octets o
  accepts_octets o d = accepted_octets (machine R) (spoken R S).grammar o ((spoken R S).words o d)

  -- an accepted message is done at its end
  pub accepted_done : (o : List ℕ) → Accepts R o → answer (machine R) o ≡ Message (length o)
  accepted_done o d =
      ((demand3 (spoken R S)).has_message o (accepts_octets o d) (length o)).1 (omega arith, rw take-length d)

  no_prefix : (o e : List ℕ) → Accepts R o → Accepts R (o ++ e) → e ≡ []
  no_prefix o e d u =
      let q : run (machine R) (answer (machine R) o) e ≡ Message (length o) =
      ap (λ (w : State). run (machine R) w e) (accepted_done o d) ∙ message_stays (machine R) (length o) e in
      let l : length (o ++ e) ≡ length o =
      cc (run-append (machine R) (start (machine R)) o e, accepted_done (o ++ e) u) in
      empty R S e (omega (arith, length-append o e))

  pub told_of : Unique R
  told_of =
      record {
        message = told;
        whole = no_prefix;
        sum = λ o d. ap (λ (l : List ℕ). total l % 256) (sym d.2)
            ∙ sums d.0;
        octets = accepts_octets;
        size = accepted_size R;
      }

pub unique_in : (b : Book) → Unique (rules_of b)
unique_in b = told_of (rules_of b) (sound_rules b)
