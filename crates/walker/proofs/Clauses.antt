-- What a caller learns of `new`, `look` and `next`: what their contracts ensure is the equation of `Moves`, for all
-- lifetimes, numbers, slices and walkers.
-- Assumes nothing.
use Rattle.walker.specs.Steps.{Stepped}
use Prim.Native.Nat.{ℕ}
use mathlib.Core.List.{List}
use seplogic.Ra.Ura.{Ura}
use base.Logic.{SProp, ent, snd∗, ex_e}
use base.Fml.{Lft}
use prog.Memory.{Memory}
use prog.Routine.{Routine}
use types.Logic.{Logic, sem}
use contract.Monad.{Fun, fact}
use denote.Ref.{Bor}
use denote.Triple.Clauses.{ensured, lasts}
use Rattle.walker.specs.declared.Walker.{Walker}
use Rattle.walker.specs.Moves.{Begun, Seen, Moved}
use Rattle.walker.specs.contracts.new as new
use Rattle.walker.specs.contracts.look as look
use Rattle.walker.specs.contracts.next as next

module _ {M : Type 1} {𝓤 : Ura M} (𝓛 : Logic 𝓤) (mem : Memory → SProp 𝓤) (run : Routine → Fun 𝓤)
    (κ : Lft) where
  pub new_says : (e w : ℕ) (s : Bor (List ℕ)) (r : Walker) →
      ent 𝓤 (ensured 𝓛 new.ended (new.clauses 𝓛 mem run) (κ, tt) (e, (w, (s, tt))) tt r)
      (fact 𝓤 (Begun e w s r))
  new_says e w s r =
      ex_e 𝓤 _ (λ ws. snd∗ 𝓤 (sem 𝓛 (lasts new.ended (κ, tt) (e, (w, (s, tt))) ws)) (fact 𝓤 (Begun e w s r)))

  pub look_says : (w : Walker) (r : Stepped) →
      ent 𝓤 (ensured 𝓛 look.ended (look.clauses 𝓛 mem run) (κ, tt) (w, tt) tt r) (fact 𝓤 (Seen w r))
  look_says w r = ex_e 𝓤 _ (λ ws. snd∗ 𝓤 (sem 𝓛 (lasts look.ended (κ, tt) (w, tt) ws)) (fact 𝓤 (Seen w r)))

  pub next_says : (w r : Walker) →
      ent 𝓤 (ensured 𝓛 next.ended (next.clauses 𝓛 mem run) (κ, tt) (w, tt) tt r) (fact 𝓤 (Moved w r))
  next_says w r = ex_e 𝓤 _ (λ ws. snd∗ 𝓤 (sem 𝓛 (lasts next.ended (κ, tt) (w, tt) ws)) (fact 𝓤 (Moved w r)))
