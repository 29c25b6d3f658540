-- The writer's rule (document 01, Drafts and Numbers): what it answers, and what the output then holds.
-- Assumes nothing.
use Rattle.std.specs.Prelude.{ℕ, suc, ◌+◌, Bool, List, [], ◌∷◌, length, Result, Ok, Err}
use Rattle.rules.specs.Tests.{◌≤?◌, ◌=?◌, ◌and◌, pick}
use Rattle.rules.specs.Table.{Rules, rules_of, contents_fit, class_of, form_number}
use Rattle.rules.specs.Editions.{known, book_of}
use Rattle.rules.specs.Message.{body, message_kind, most}
use Rattle.draft.specs.Meaning.{kind_of, form_is, spelled}
use Rattle.draft.specs.Draft.{meaning_of, inside, parameters_of, used}
use Rattle.rules.specs.Laying.{laid}
use Rattle.rules.specs.Refusals.{noted}
use Rattle.draft.specs.declared.Entry.{Entry}
use Rattle.draft.specs.declared.Draft.{Draft}
use Rattle.rules.specs.declared.Named.{Named}
use Rattle.rules.specs.declared.Fault.{Fault}

-- what a write answers, and the edition that it names
abbrev pub Writing : Type 0
Writing = Named (Result ℕ Fault)

-- a refusal with a number at a place
abbrev pub unwritten : ℕ → ℕ → Result ℕ Fault
unwritten k p = Err (noted k p)

-- ---- entries
-- the octets that would be written for an entry's value
abbrev pub contents_of : List ℕ → Entry → List ℕ
contents_of texts e = spelled (meaning_of texts e.value)

-- an entry makes a legal parameter: its type is an octet, its kind of value is its type's, its text lies inside the
-- area, its contents fit
unfoldable pub legal_entry : Rules → List ℕ → Entry → Bool
legal_entry R texts e =
    e.kind ≤? 255
    and (form_number (form_is (meaning_of texts e.value)) =? form_number (kind_of R e.kind)
    and (inside texts e.value and contents_fit (class_of R e.kind) (contents_of texts e)))

-- how many entries stand before the first that makes none
unfoldable pub legal_before : Rules → List ℕ → List Entry → ℕ
legal_before R texts [] = 0
legal_before R texts (e ∷ es) = pick (legal_entry R texts e) (suc (legal_before R texts es)) 0

-- ---- the answer
-- parameters of L octets: over 255 is refused with the number k; an output shorter than L + 3 is 15 there; else a
-- message of L + 3
unfoldable pub sized : ℕ → ℕ → ℕ → Result ℕ Fault
sized k l room = pick (256 ≤? l) (unwritten k 0) (pick (suc room ≤? l + 3) (unwritten 15 (l + 3)) (Ok (l + 3)))

-- 12 at the first entry that makes no legal parameter
unfoldable pub measured_of : Rules → Draft → List ℕ → ℕ → Result ℕ Fault
measured_of R d texts room =
    pick (suc (legal_before R texts (used d)) ≤? d.count)
    (unwritten 12 (legal_before R texts (used d)))
    (sized 13 (length (body (parameters_of texts (used d)))) room)

-- in document 01's order: 11, 14, the 85 entries of 13, 12, the 255 octets of 13, 15
unfoldable pub write_of : Rules → Draft → List ℕ → ℕ → Result ℕ Fault
write_of R d texts room =
    pick (message_kind d.kind)
    (pick (d.count =? 0) (unwritten 14 0) (pick (suc most ≤? d.count) (unwritten 13 0) (measured_of R d texts room)))
    (unwritten 11 0)

-- by the draft's edition and a way (document 02, Q-5 and Q-11): before all others 16, where one of them is unknown
unfoldable pub write_in : ℕ → Draft → List ℕ → ℕ → Writing
write_in w d texts room =
    pick (known d.edition w)
    (record { edition = d.edition; answer = write_of (rules_of (book_of d.edition w)) d texts room })
    (record { edition = 0; answer = unwritten 16 0 })

-- ---- the output: the message's octets over its beginning, or as it was
unfoldable pub output_after : Result ℕ Fault → List ℕ → List ℕ → List ℕ
output_after (Ok n) o old = laid o old
output_after (Err f) o old = old
