-- Round trips: the draft of a legal message is written as exactly its octets; the draft of the message that a draft
-- was written as is equal to it; and equal drafts get the same answer.
-- Assumes nothing.
use Rattle.std.specs.Prelude.{◌≡◌, ℕ, ◌≤◌, T, List, ◌++◌, length, Ok}
use Rattle.rules.specs.Editions.{edition}
use Rattle.rules.specs.Table.{Rules}
use Rattle.rules.specs.Message as message
use Rattle.rules.specs.Message.{octets, LegalMessage}
use Rattle.draft.specs.Draft.{message_of, Equal}
use Rattle.draft.specs.Packing.{texts_of, draft_of}
use Rattle.draft.specs.declared.Draft.{Draft}
use Rattle.writer.specs.Writing.{write_of}

-- the trips under some rules
pub record RoundTrips (R : Rules) : Type 0 where
  -- the draft of a legal message, over an area that begins with its texts, is written where there is room, and stands
  -- for exactly that message
  pub message_written : (m : message.Message) (rest : List ℕ) → LegalMessage R m → (room : ℕ) →
      length (octets m) ≤ room →
      (write_of R (draft_of R m) (texts_of R m.parameters ++ rest) room ≡ Ok (length (octets m)))
      × (message_of (draft_of R m) (texts_of R m.parameters ++ rest) ≡ m)
  -- a draft of the rules' edition that is written is equal to the draft of its message, over an area that begins with
  -- the message's texts
  pub draft_again : (d : Draft) (texts : List ℕ) (room n : ℕ) → d.edition ≡ R.edition → T (edition d.edition) →
      write_of R d texts room ≡ Ok n → (rest : List ℕ) →
      Equal d texts (draft_of R (message_of d texts)) (texts_of R (message_of d texts).parameters ++ rest)
  -- equal drafts get the same answer
  pub equal_answer : (a : Draft) (s : List ℕ) (b : Draft) (t : List ℕ) (room : ℕ) → Equal a s b t →
      write_of R a s room ≡ write_of R b t room
