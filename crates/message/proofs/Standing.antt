-- A message's octets hold exactly its parameters: from a place where some stand, the walk finds the first and goes on
-- behind it; a message has no more of them than the walk has turns. And what the next turn of a loop finds.
-- Assumes nothing.
use Rattle.std.proofs.Common.{◌≡◌, ℕ, zero, suc, ◌+◌, ◌-◌, ◌<◌, ◌≤◌, List, [], ◌∷◌, length, take, drop, sym, refl, ap, ◌∙◌, ap₂, arith, Option, Some, None}
use Rattle.rules.specs.Octets.{total, checksum}
use Rattle.rules.specs.Table.{Rules}
use Rattle.rules.proofs.ContentLaw.{SoundRules}
use Rattle.rules.proofs.Sizes.{few}
use Rattle.rules.specs.Message as message
use Rattle.rules.specs.Message.{front, octets, LegalMessage, most}
use Rattle.message.specs.declared.Found.{Found}
use Rattle.message.specs.Parameters.{found, parameters_from, parameters_in, message_in}
use Rattle.message.specs.Parts.{found_at, parameter_at}
use Rattle.message.proofs.Searching.{Stand, at_end, found_is, contents_are, on}

-- ---- for loops: what the next turn finds
module _ (turns : ℕ) (o : List ℕ) (at : ℕ) where
  pub no_more : turns ≤ 0 → parameters_from turns o at ≡ []
  unfolding parameters_from
  no_more h = let z : turns ≡ 0 = omega arith in rw z

  turned : 0 < turns → parameters_from turns o at ≡ found o (parameter_at o at) (parameters_from (turns - 1) o)
  unfolding parameters_from
  turned h = let z : turns ≡ suc (turns - 1) = omega arith in ap (λ (n : ℕ). parameters_from n o at) z

  pub none_here : 0 < turns → None ≡ parameter_at o at → parameters_from turns o at ≡ []
  unfolding found
  none_here h e = turned h ∙ ap (λ (x : Option Found). found o x (parameters_from (turns - 1) o)) (sym e)

  pub one_here : 0 < turns → (k start n : ℕ) → found_at k start n ≡ parameter_at o at →
      parameters_from turns o at ≡
      (record { kind = k; contents = take n (drop start o) }) ∷ parameters_from (turns - 1) o (start + n)
  unfolding found
  one_here h k start n e = turned h ∙ ap (λ (x : Option Found). found o x (parameters_from (turns - 1) o)) (sym e)

-- no more than there are turns
pub parameters_few : (turns : ℕ) (o : List ℕ) (at : ℕ) → length (parameters_from turns o at) ≤ turns
unfolding parameters_from found
parameters_few zero o at = omega arith
parameters_few (suc turns) o at = go (parameters_few turns o) (parameter_at o at)
  where
    go : ((p : ℕ) → length (parameters_from turns o p) ≤ turns) → (f : Option Found) →
        length (found o f (parameters_from turns o)) ≤ suc turns
    go ih (Some one) = omega (arith, ih (one.start + one.length))
    go ih None = omega arith

-- ---- a message's octets hold its parameters
pub parameters_are : (o : List ℕ) (c turns at : ℕ) (ps : List message.Parameter) → Stand o c at ps →
    length ps ≤ turns → parameters_from turns o at ≡ ps
unfolding parameters_from found
parameters_are o c zero at [] e h = refl
parameters_are o c zero at (p ∷ ps) e h = absurd (omega arith)
parameters_are o c (suc turns) at [] e h = ap (λ (f : Option Found). found o f (parameters_from turns o)) (at_end o c at e)
parameters_are o c (suc turns) at (p ∷ ps) e h =
    ap (λ (f : Option Found). found o f (parameters_from turns o)) (found_is o c at p ps e)
    ∙ ap₂ (λ (v : List ℕ) (qs : List message.Parameter). (record { kind = p.kind; contents = v }) ∷ qs)
    (contents_are o c at p ps e)
    (parameters_are o c turns (at + 2 + length p.contents) ps (on o c at p ps e) (omega arith))

module _ (R : Rules) (S : SoundRules R) where
  pub message_in_lem : (m : message.Message) → LegalMessage R m → message_in (octets m) ≡ m
  unfolding message_in parameters_in octets
  message_in_lem m l =
      ap (λ (ps : List message.Parameter). record { kind = m.kind; parameters = ps })
      (parameters_are (octets m) (checksum (total (front m))) most 2 m.parameters refl (few R S m l))
