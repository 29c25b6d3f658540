-- Equality of drafts (document 01, Drafts) as a test. A value is laid flat, so that values of all kinds are compared
-- alike: by the number of their kind, their numbers, and the octets of their texts.
-- Assumes nothing.
use Rattle.std.specs.Prelude.{ℕ, ◌+◌, Bool, List, [], ◌∷◌, length, take, drop}
use Rattle.rules.specs.Message.{most}
use Rattle.rules.specs.Tests.{◌≤?◌, ◌=?◌, ◌and◌}
use Rattle.rules.specs.Editions.{edition}
use Rattle.rules.specs.Pairwise.{pairwise, same_octets}
use Rattle.draft.specs.Draft.{used}
use Rattle.draft.specs.declared.Value.{Value}
use Rattle.draft.specs.declared.Value.TheVariants.{Date, Code, State, Text, Carried, Moment, Duration, Marked}
use Rattle.draft.specs.declared.Entry.{Entry}
use Rattle.draft.specs.declared.Draft.{Draft}
use Rattle.draft.specs.declared.Flat.{Flat}
use Rattle.rules.specs.Table.{form_number}
use Rattle.rules.specs.declared.Form.{Form}
use Rattle.rules.specs.declared.Form.TheVariants.{CodeValue, DateValue, StateValue, TextValue, CarriedValue, MomentValue, DurationValue, MarkedValue}

-- ---- a value laid flat
-- numbers: no text
abbrev pub flat_plain : Form → List ℕ → Flat
flat_plain form numbers = record { form = form; numbers = numbers; start = 0; length = 0 }

abbrev pub flat_numbers : Form → ℕ → ℕ → ℕ → ℕ → ℕ → Flat
flat_numbers form a b c d e = flat_plain form (a ∷ b ∷ c ∷ d ∷ e ∷ [])

-- a text: no number but its mark, 0 where it has none
abbrev pub flat_text : Form → ℕ → ℕ → ℕ → Flat
flat_text form mark start n =
    record { form = form; numbers = mark ∷ 0 ∷ 0 ∷ 0 ∷ 0 ∷ []; start = start; length = n }

-- its kind, its numbers, the place and the length of its text; 0 where it has none
unfoldable pub flat_of : Value → Flat
flat_of (Date m d h n) = flat_numbers DateValue m d h n 0
flat_of (Code x) = flat_numbers CodeValue x 0 0 0 0
flat_of (State s r) = flat_numbers StateValue s r 0 0 0
flat_of (Text s n) = flat_text TextValue 0 s n
flat_of (Carried s n) = flat_text CarriedValue 0 s n
flat_of (Moment m d h n s) = flat_numbers MomentValue m d h n s
flat_of (Duration h m s) = flat_numbers DurationValue h m s 0 0
flat_of (Marked x s n) = flat_text MarkedValue x s n

-- ---- the test
-- number by number
unfoldable pub same_numbers : Flat → Flat → Bool
same_numbers x y = same_octets x.numbers y.numbers

-- both texts lie inside their areas, and their octets agree
unfoldable pub same_text : List ℕ → Flat → List ℕ → Flat → Bool
same_text s x t y =
    x.start + x.length ≤? length s
    and (y.start + y.length ≤? length t and same_octets (take x.length (drop x.start s))
    (take y.length (drop y.start t)))

-- the same kind, the same numbers, the same text
unfoldable pub same_flat : List ℕ → Flat → List ℕ → Flat → Bool
same_flat s x t y = form_number x.form =? form_number y.form and (same_numbers x y and same_text s x t y)

-- type and value
unfoldable pub same_entry : List ℕ → Entry → List ℕ → Entry → Bool
same_entry s e t f = e.kind =? f.kind and same_flat s (flat_of e.value) t (flat_of f.value)

-- entry by entry
abbrev pub same_entries : List ℕ → List Entry → List ℕ → List Entry → Bool
same_entries s es t fs = pairwise (λ (e f : Entry). same_entry s e t f) es fs

-- message type, number of entries (at most 85) and, entry by entry, type and value
unfoldable pub same_message : Draft → List ℕ → Draft → List ℕ → Bool
same_message a s b t =
    a.kind =? b.kind and (a.count =? b.count and (a.count ≤? most and same_entries s (used a) t (used b)))

-- a known edition, the same, and all the rest
unfoldable pub same_draft : Draft → List ℕ → Draft → List ℕ → Bool
same_draft a s b t = edition a.edition and (a.edition =? b.edition and same_message a s b t)
