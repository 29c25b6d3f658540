-- `contents::is_in` meets its contract: some range has the octet.
-- Assumes nothing.
use Rattle.std.proofs.Common.{rules, tests, ◌≡◌, refl, ◌∙◌, ℕ, List, [], ◌∷◌, true, false, Bool, ◌||◌}
use Rattle.std.proofs.lemmas.Iterator.{YieldsList-from_slice}
use Rattle.std.proofs.lemmas.Iterator.Search.{any_from_yields_List}
use Rattle.std.specs.List.{list_any}
use Rattle.rules.specs.Tests.{◌or◌}
use Rattle.rules.specs.Contents.{Range, within, in_set}
use Rattle.contents.proofs.is_in.Goals as goal

any_in : (s : List Range) (x : ℕ) → list_any (λ (r : Range). within r x) s ≡ in_set s x
unfolding in_set ◌or◌
any_in [] x = refl
any_in (r ∷ s) x = go (within r x) (any_in s x)
  where
    go : (b : Bool) → list_any (λ (q : Range). within q x) s ≡ in_set s x →
        (b || list_any (λ (q : Range). within q x) s) ≡ (b or in_set s x)
    go true e = refl
    go false e = e

pub returns : goal.returns
returns c =
    any_from_yields_List (λ r. within r c.args.x) _ _ _ c.any.ensures.ran (YieldsList-from_slice c.args.set.now cc)
    (λ x b q k. search (rules, tests))
    ∙ any_in _ _
