-- Drafts (document 01, Drafts): what their entries say, the parameters they stand for, when two are equal.
-- Assumes nothing.
use Rattle.std.specs.Prelude.{ℕ, ◌+◌, ◌≤◌, ◌≡◌, Bool, true, List, [], ◌∷◌, length, take, drop, replicate, T}
use Rattle.rules.specs.Tests.{◌≤?◌, every}
use Rattle.rules.specs.Editions as editions
use Rattle.rules.specs.Message.{Parameter, Message, most}
use Rattle.draft.specs.Meaning.{Meaning, date_is, code_is, state_is, text_is, carried_is, moment_is, duration_is, marked_is, spelled}
use Rattle.draft.specs.declared.Value.{Value}
use Rattle.draft.specs.declared.Value.TheVariants.{Date, Code, State, Text, Carried, Moment, Duration, Marked}
use Rattle.draft.specs.declared.Entry.{Entry}
use Rattle.draft.specs.declared.Draft.{Draft}

-- ---- entries
-- an entry place that is not used: type 0 and a code of 0
abbrev pub no_entry : Entry
no_entry = record { kind = 0; value = Code 0 }

-- what a value says, its text taken out of the area
unfoldable pub meaning_of : List ℕ → Value → Meaning
meaning_of texts (Date m d h n) = date_is m d h n
meaning_of texts (Code x) = code_is x
meaning_of texts (State s r) = state_is s r
meaning_of texts (Text s n) = text_is (take n (drop s texts))
meaning_of texts (Carried s n) = carried_is (take n (drop s texts))
meaning_of texts (Moment m d h n s) = moment_is m d h n s
meaning_of texts (Duration h m s) = duration_is h m s
meaning_of texts (Marked x s n) = marked_is x (take n (drop s texts))

-- how long its text is, 0 where it has none
unfoldable pub text_long : Value → ℕ
text_long (Date m d h n) = 0
text_long (Code x) = 0
text_long (State s r) = 0
text_long (Text s n) = n
text_long (Carried s n) = n
text_long (Moment m d h n s) = 0
text_long (Duration h m s) = 0
text_long (Marked x s n) = n

-- its text, if it has one, lies inside the area
unfoldable pub inside : List ℕ → Value → Bool
inside texts (Date m d h n) = true
inside texts (Code x) = true
inside texts (State s r) = true
inside texts (Text s n) = s + n ≤? length texts
inside texts (Carried s n) = s + n ≤? length texts
inside texts (Moment m d h n s) = true
inside texts (Duration h m s) = true
inside texts (Marked x s n) = s + n ≤? length texts

-- the parameter that an entry stands for
unfoldable pub parameter_of : List ℕ → Entry → Parameter
parameter_of texts e = record { kind = e.kind; contents = spelled (meaning_of texts e.value) }

-- an entry's type and value, the text by its octets and not by its start
pub record Said : Type 0 where
  pub kind : ℕ
  pub meaning : Meaning

unfoldable pub said_of : List ℕ → Entry → Said
said_of texts e = record { kind = e.kind; meaning = meaning_of texts e.value }

-- ---- drafts
-- a draft of an edition and a message type with no entries
unfoldable pub empty_of : ℕ → ℕ → Draft
empty_of e kind = record { kind = kind; edition = e; count = 0; entries = replicate most no_entry }

-- the entries that are used
abbrev pub used : Draft → List Entry
used d = take d.count d.entries

unfoldable pub parameters_of : List ℕ → List Entry → List Parameter
parameters_of texts [] = []
parameters_of texts (e ∷ es) = parameter_of texts e ∷ parameters_of texts es

unfoldable pub all_said : List ℕ → List Entry → List Said
all_said texts [] = []
all_said texts (e ∷ es) = said_of texts e ∷ all_said texts es

unfoldable pub all_inside : List ℕ → List Entry → Bool
all_inside texts es = every (λ (e : Entry). inside texts e.value) es

-- the message that a draft stands for
unfoldable pub message_of : Draft → List ℕ → Message
message_of d texts = record { kind = d.kind; parameters = parameters_of texts (used d) }

-- two drafts, each with its text area, are equal: edition, message type, number of entries and, entry by entry, type
-- and value agree. A draft of an unknown edition (document 02, Q-5), with more than 85 entries or with a text outside
-- its area is equal to none
pub record Equal (a : Draft) (s : List ℕ) (b : Draft) (t : List ℕ) : Type 0 where
  pub edition : a.edition ≡ b.edition
  pub known : T (editions.edition a.edition)
  pub kind : a.kind ≡ b.kind
  pub count : a.count ≡ b.count
  pub entries : all_said s (used a) ≡ all_said t (used b)
  pub few : a.count ≤ most
  pub left : T (all_inside s (used a))
  pub right : T (all_inside t (used b))
