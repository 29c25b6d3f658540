-- The draft of a message (document 01, Drafts): an entry for each parameter, texts packed from octet 0 of the area on
-- in message order.
-- Assumes nothing.
use Rattle.std.specs.Prelude.{ℕ, ◌+◌, ◌-◌, List, [], ◌∷◌, ◌++◌, length, replicate}
use Rattle.rules.specs.Table.{Rules}
use Rattle.rules.specs.Message.{Parameter, Message, most}
use Rattle.draft.specs.Meaning.{Meaning, date_is, code_is, state_is, text_is, carried_is, moment_is, duration_is, marked_is, meant, text_in, kind_of}
use Rattle.draft.specs.Draft.{no_entry}
use Rattle.draft.specs.declared.Value.{Value}
use Rattle.draft.specs.declared.Value.TheVariants.{Date, Code, State, Text, Carried, Moment, Duration, Marked}
use Rattle.draft.specs.declared.Entry.{Entry}
use Rattle.draft.specs.declared.Draft.{Draft}

-- ---- the draft of a message
-- a value whose text, if it has one, lies at a place
unfoldable pub value_at : ℕ → Meaning → Value
value_at at (date_is m d h n) = Date m d h n
value_at at (code_is x) = Code x
value_at at (state_is s r) = State s r
value_at at (text_is v) = Text at (length v)
value_at at (carried_is v) = Carried at (length v)
value_at at (moment_is m d h n s) = Moment m d h n s
value_at at (duration_is h m s) = Duration h m s
value_at at (marked_is x v) = Marked x at (length v)

unfoldable pub meaning_in : Rules → Parameter → Meaning
meaning_in R p = meant (kind_of R p.kind) p.contents

-- the entry of a parameter whose text, if it has one, is packed at a place
unfoldable pub entry_of : Rules → ℕ → Parameter → Entry
entry_of R at p = record { kind = p.kind; value = value_at at (meaning_in R p) }

unfoldable pub text_of : Rules → Parameter → List ℕ
text_of R p = text_in (meaning_in R p)

unfoldable pub entries_of : Rules → ℕ → List Parameter → List Entry
entries_of R at [] = []
entries_of R at (p ∷ ps) = entry_of R at p ∷ entries_of R (at + length (text_of R p)) ps

-- the texts of all parameters, one after the other
unfoldable pub texts_of : Rules → List Parameter → List ℕ
texts_of R [] = []
texts_of R (p ∷ ps) = text_of R p ++ texts_of R ps

-- all 85 entry places are settled: the used ones, and those that are not
unfoldable pub draft_of : Rules → Message → Draft
draft_of R m =
    record {
      kind = m.kind;
      edition = R.edition;
      count = length m.parameters;
      entries = entries_of R 0 m.parameters ++ replicate (most - length m.parameters) no_entry;
    }
