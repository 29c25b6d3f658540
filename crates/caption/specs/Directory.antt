-- What the entries of a directory are, in words (document 01, The caption), and where an entry's text stands.
-- Assumes nothing.
use Rattle.std.specs.Prelude.{ℕ, suc, ◌+◌, ◌≡◌, List, [], ◌∷◌, ◌++◌, length}
use Rattle.caption.specs.Lines.{lines_of}

-- a line for the caller: the caller, then =, then any text
abbrev pub For : List ℕ → List ℕ → Type 0
For caller l = (w : List ℕ) × (l ≡ caller ++ 0x3D ∷ w)

-- none of some lines is for the caller
abbrev pub NoneFor : List ℕ → List (List ℕ) → Type 0
NoneFor caller [] = Unit {0}
NoneFor caller (l ∷ ls) = (For caller l → ⊥) × NoneFor caller ls

-- the first line for the caller, with its text
pub record FirstFor (caller d : List ℕ) : Type 0 where
  pub earlier : List (List ℕ)
  pub text : List ℕ
  pub later : List (List ℕ)
  pub is : lines_of d ≡ earlier ++ (caller ++ 0x3D ∷ text) ∷ later
  pub none : NoneFor caller earlier

-- the octets of lines, each with its end
unfoldable pub span : List (List ℕ) → ℕ
span [] = 0
span (l ∷ ls) = suc (length l) + span ls

-- where that text stands: behind the lines before it, the caller and the =
abbrev pub text_place : {caller d : List ℕ} → FirstFor caller d → ℕ
text_place {caller} e = span e.earlier + suc (length caller)
