-- What the judging of contents in two parts needs, an octet or more and a text.
-- Assumes nothing.
use Rattle.std.proofs.Common.{◌≡◌, ℕ, Bool, false, ◌+◌, ◌-◌, ◌<◌, ◌≤◌, List, ◌++◌, length, take, drop, ap, ◌∙◌, arith, length-append, take_at}
use Rattle.rules.specs.Laying.{laid}
use Rattle.rules.specs.declared.Class.{Class}
use Rattle.contents.proofs.Fitting.{too_long}
use Rattle.rules.specs.Table.{contents_fit}

module _ (c : Class) (head text : List ℕ) (r : Bool) where
  -- both are laid down in one place
  pub both_there : (old new : List ℕ) → new ≡ laid (head ++ text) old →
      r ≡ contents_fit c (take (length head + length text) new) → r ≡ contents_fit c (head ++ text)
  unfolding laid
  both_there old new e q =
      q ∙ ap (contents_fit c)
      (ap (take (length head + length text)) e
      ∙ take_at (head ++ text) (drop (length (head ++ text)) old) (length head + length text) (length-append head text))

pub both_long : (c : Class) (head text : List ℕ) → length head ≤ 10 → 253 - length head < length text →
    false ≡ contents_fit c (head ++ text)
both_long c head text l h = too_long c (head ++ text) (omega (arith, length-append head text))
