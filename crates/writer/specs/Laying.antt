-- Octets laid down one behind the other: the header of a message, each parameter from its own place on, the checksum.
-- Assumes nothing.
use Rattle.std.specs.Prelude.{◌≡◌, ℕ, ◌+◌, ◌<◌, ◌≤◌, T, List, ◌∷◌, length}
use Rattle.rules.specs.Message.{body, most}
use Rattle.rules.specs.Laying.{laid}
use Rattle.draft.specs.Draft.{inside, all_inside, parameters_of, used}
use Rattle.draft.specs.declared.Entry.{Entry}
use Rattle.draft.specs.declared.Draft.{Draft}
use Rattle.writer.specs.Writing.{contents_of}

-- of an output that held `old` and then holds `new`: a type, the length of some contents and these are laid down, r
-- octets in all
abbrev pub LaidParameter : ℕ → List ℕ → List ℕ → List ℕ → ℕ → Type 0
LaidParameter kind v old new r = (new ≡ laid (kind ∷ length v ∷ v) old) × (r ≡ 2 + length v)

-- a type, a length and the contents
unfoldable pub parameter_octets : List ℕ → Entry → List ℕ
parameter_octets texts e = e.kind ∷ length (contents_of texts e) ∷ contents_of texts e

-- what is asked before an entry's parameter is laid down: there is room for it, its length is an octet, its text lies
-- inside
pub record Puttable (e : Entry) (texts : List ℕ) (room : ℕ) : Type 0 where
  pub fits : length (parameter_octets texts e) ≤ room
  pub short : length (contents_of texts e) < 256
  pub lies : T (inside texts e.value)

-- what is asked before anything is laid down: up to 85 entries, all texts inside, L octets of parameters, and room
-- for L + 3
pub record Layable (d : Draft) (texts : List ℕ) (room l : ℕ) : Type 0 where
  pub few : d.count ≤ most
  pub lie : T (all_inside texts (used d))
  pub size : length (body (parameters_of texts (used d))) ≡ l
  pub short : l ≤ 255
  pub fits : l + 3 ≤ room
