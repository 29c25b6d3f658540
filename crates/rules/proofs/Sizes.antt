-- How many octets parameters and messages have, for any sound rules.
-- Assumes nothing.
use Prim.Native.Nat.{◌+◌, ◌*◌, ◌≤◌}
use mathlib.Core.Path.{◌≡◌}
use mathlib.Core.List.{List, [], ◌∷◌}
use native.Mathlib.Omega.{arith}
use lib.ListN.{length, length-append}
use Rattle.rules.specs.Octets.{total, checksum}
use Rattle.rules.specs.Table.{Rules, class_of}
use Rattle.rules.specs.Message.{Parameter, Message, body, front, octets, AllLegal, LegalMessage, most}
use Rattle.rules.proofs.ContentLaw.{lawful, SoundRules}

-- L + 3 octets in all
pub octets-length : (m : Message) → length (octets m) ≡ length (body m.parameters) + 3
unfolding octets
octets-length m = omega (arith, length-append (front m) (checksum (total (front m)) ∷ []))

pub some_parameter : (ps : List Parameter) → 3 ≤ length (body ps) → 1 ≤ length ps
unfolding body
some_parameter [] h = absurd (omega arith)
some_parameter (p ∷ ps) h = omega arith

module _ (R : Rules) (S : SoundRules R) where
  -- a parameter takes three octets at least
  pub three_each : (ps : List Parameter) → AllLegal R ps → 3 * length ps ≤ length (body ps)
  unfolding body
  three_each [] l = omega arith
  three_each (p ∷ ps) l =
      let n = (lawful (class_of R p.kind)).least _
      ((lawful (class_of R p.kind)).fit_length p.contents l.0.fits) in
      omega (arith, three_each ps l.1, length-append p.contents (body ps))

  -- so 85 fill a message
  pub few : (m : Message) → LegalMessage R m → length m.parameters ≤ most
  few m l = omega (arith, three_each m.parameters l.parameters, l.short)
