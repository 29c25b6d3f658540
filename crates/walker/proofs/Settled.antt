-- Every public promise settles its answer: two that it allows are equal. Nothing is lent for writing.
-- Assumes nothing.
use Rattle.walker.specs.Steps.{Stepped}
use Prim.Native.Nat.{ℕ}
use mathlib.Core.Path.{◌≡◌, sym, ◌∙◌}
use mathlib.Core.List.{List}
use denote.Ref.{Bor}
use Rattle.walker.specs.declared.Walker.{Walker}
use Rattle.walker.specs.Moves.{Begun, Seen, Moved}
use Rattle.walker.proofs.step_at.Reads as step_at

pub step_at_settled : (κs : _) (a : _) (r r' : _) (s s' : _) → step_at.Post κs a r s → step_at.Post κs a r' s' → r ≡ r'
step_at_settled κs a r r' s s' p q = p ∙ sym q

-- the promises of `new`, `look` and `next` go by the names that their contracts give them (`Clauses`)
pub new_settled : (e w : ℕ) (s : Bor (List ℕ)) (r r' : Walker) → Begun e w s r → Begun e w s r' → r ≡ r'
new_settled e w s r r' p q = p ∙ sym q

pub look_settled : (w : Walker) (r r' : Stepped) → Seen w r → Seen w r' → r ≡ r'
look_settled w r r' p q = p ∙ sym q

pub next_settled : (w r r' : Walker) → Moved w r → Moved w r' → r ≡ r'
next_settled w r r' p q = p ∙ sym q
