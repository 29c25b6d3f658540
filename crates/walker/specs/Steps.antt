-- What stands at a place of a message (document 01, Drafts: the tool that walks the parameters of one lent message).
-- Assumes nothing.
use Rattle.std.specs.Prelude.{ℕ, zero, suc, ◌+◌, List, Result, Ok, Err, Option, Some, None}
use Rattle.rules.specs.Message.{most}
use Rattle.rules.specs.Tests.{◌=?◌, pick}
use Rattle.rules.specs.Table.{Rules, rules_of}
use Rattle.rules.specs.Editions.{known, book_of}
use Rattle.rules.specs.Refusals.{noted}
use Rattle.rules.specs.declared.Fault.{Fault}
use Rattle.rules.specs.declared.Named.{Named}
use Rattle.walker.specs.declared.Parameter.{Parameter}
use Rattle.message.specs.declared.Found.{Found}
use Rattle.message.specs.Verdict.{verdict_of}
use Rattle.message.specs.Parts.{parameter_at}

-- what stands at a place: a parameter, or none; or a refusal
abbrev pub Step : Type 0
Step = Result (Option Parameter) Fault

-- the same, beside the edition that the answer names
abbrev pub Stepped : Type 0
Stepped = Named Step

-- a parameter is given: its type, where its contents start, how long they are, and the place behind them
abbrev pub given : ℕ → ℕ → ℕ → ℕ → Step
given kind start n next = Ok (Some (record { kind = kind; start = start; length = n; next = next }))

-- the walk stands at a place and finds a parameter there: it is given where that is the place asked for, else the
-- walk goes on behind it
unfoldable pub met : ℕ → ℕ → Option Found → (ℕ → Step) → Step
met at place (Some one) onward =
    pick (place =? at) (given one.kind one.start one.length (one.start + one.length)) (onward (one.start + one.length))
met at place None onward = Ok None

-- what stands at the place `at`, for a walk that stands at `place`; each parameter takes one of the turns
unfoldable pub walk_from : ℕ → List ℕ → ℕ → ℕ → Step
walk_from zero o at place = Ok None
walk_from (suc turns) o at place = met at place (parameter_at o place) (walk_from turns o at)

-- octets that the whole read declines get its refusal; of a message the walk begins at 2 and meets 85
-- parameters at most
unfoldable pub step_under : Result ℕ Fault → List ℕ → ℕ → Step
step_under (Ok n) o at = walk_from most o at 2
step_under (Err f) o at = Err f

-- what stands at the place `at` of the octets o, by the whole read's verdict on o
unfoldable pub step_of : Rules → List ℕ → ℕ → Step
step_of R o at = step_under (verdict_of R o) o at

-- the same by the numbers of an edition and a way: what their book gives, and the edition; 16 at 0 where one of them is
-- unknown, whatever the octets and the place
unfoldable pub step_in : ℕ → ℕ → List ℕ → ℕ → Stepped
step_in e w o at =
    pick (known e w)
    (record { edition = e; answer = step_of (rules_of (book_of e w)) o at })
    (record { edition = 0; answer = Err (noted 16 0) })

-- the place of the next call: behind the parameter given, the same place where none is given
unfoldable pub next_place : ℕ → Step → ℕ
next_place at (Ok (Some one)) = one.next
next_place at (Ok None) = at
next_place at (Err f) = at

-- the place of the call that so many calls went before: the first is 2
unfoldable pub place_at : Rules → List ℕ → ℕ → ℕ
place_at R o zero = 2
place_at R o (suc calls) = next_place (place_at R o calls) (step_of R o (place_at R o calls))

-- the same by the numbers of an edition and a way
unfoldable pub place_in : ℕ → ℕ → List ℕ → ℕ → ℕ
place_in e w o zero = 2
place_in e w o (suc calls) = next_place (place_in e w o calls) (step_in e w o (place_in e w o calls)).answer
