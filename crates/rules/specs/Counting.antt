-- What counts in a message (document 01, What counts): of two parameters of one type the first, of a pair of types
-- whichever stands first.
-- Assumes nothing.
use Rattle.std.specs.Prelude.{ℕ, suc, ◌≡◌, List, [], ◌∷◌, ◌++◌, T}
use Rattle.std.proofs.Math.Option.{Option, none, some}
use Rattle.rules.specs.Tests.{◌=?◌, pick}
use Rattle.rules.specs.Table.{Rules, listed, rival_of}
use Rattle.rules.specs.Message.{Parameter, Message}

-- the contents of the first parameter of type t, if none of type u stands before it
unfoldable pub first_of : ℕ → ℕ → List Parameter → Option (List ℕ)
first_of t u [] = none
first_of t u (p ∷ ps) = pick (p.kind =? t) (some p.contents) (pick (p.kind =? u) none (first_of t u ps))

-- the contents of type t that count, if any do; carried parameters never count
unfoldable pub counted : Rules → Message → ℕ → Option (List ℕ)
counted R m t = pick (listed R t) (first_of t (rival_of R t) m.parameters) none

-- how many parameters are carried, repeats too
unfoldable pub carried_in : Rules → List Parameter → ℕ
carried_in R [] = 0
carried_in R (p ∷ ps) = pick (listed R p.kind) (carried_in R ps) (suc (carried_in R ps))

-- ---- the same in words: a parameter of the type, and none of the type or its rival before it
abbrev pub NoneOf : ℕ → ℕ → List Parameter → Type 0
NoneOf t u [] = Unit {0}
NoneOf t u (p ∷ ps) = (p.kind ≡ t → ⊥) × (p.kind ≡ u → ⊥) × NoneOf t u ps

pub record First (t u : ℕ) (ps : List Parameter) (v : List ℕ) : Type 0 where
  pub before : List Parameter
  pub p : Parameter
  pub after : List Parameter
  pub is : before ++ p ∷ after ≡ ps
  pub kind : p.kind ≡ t
  pub contents : p.contents ≡ v
  pub none : NoneOf t u before

pub record Counts (R : Rules) (m : Message) (t : ℕ) (v : List ℕ) : Type 0 where
  pub listed : T (listed R t)
  pub first : First t (rival_of R t) m.parameters v
