-- What a listing that comes back is, in words over the written rules (document 02, Q-1): which texts are valid
-- listings, which line spoils one that is not, and what is answered then.
-- Assumes nothing.
use Rattle.std.specs.Prelude.{◌≡◌, ℕ, zero, suc, ◌<◌, ◌≤◌, T, ◌⊎◌, ◌↔◌, List, [], ◌∷◌, ◌++◌, length, take, drop}
use Rattle.std.proofs.Math.Option.{some}
use Rattle.rules.specs.First.{index_of}
use Rattle.rules.specs.Table.{Rules}
use Rattle.rules.specs.Message.{Parameter, Message, body, octets, message_kind, AllLegal, Accepts}
use Rattle.rules.specs.Counting.{counted}
use Rattle.listing.specs.Listing.{written, message_lines}
use Rattle.listing.specs.Lists.{Has}
use Rattle.writer.specs.Writing.{Writing}
use Rattle.writer.specs.Told.{told, success, refusal}

-- ---- valid listings
-- each type is n or above, and above that of the parameter before it
abbrev pub RisingKinds : ℕ → List Parameter → Type 0
RisingKinds n [] = Unit {0}
RisingKinds n (p ∷ ps) = (n ≤ p.kind) × RisingKinds (suc p.kind) ps

-- a message that a listing says whole: a legal type and legal parameters, one at least, types rising, so that each
-- stands once and in the order of the table, and each counts: none is carried, none shut out. How many octets it has
-- is not asked here
pub record Orderly (R : Rules) (m : Message) : Type 0 where
  pub kind : T (message_kind m.kind)
  pub legal : AllLegal R m.parameters
  pub one : 1 ≤ length m.parameters
  pub rising : RisingKinds 0 m.parameters
  pub counts : (p : Parameter) → Has m.parameters p → counted R m p.kind ≡ some p.contents

-- t is the lines of such a message, as showmsg prints them where it has at most 255 octets of parameters
abbrev pub Says : Rules → Message → List ℕ → Type 0
Says R m t = Orderly R m × (written (message_lines R m) ≡ t)

-- t is a valid listing, however long
abbrev pub Valid : Rules → List ℕ → Type 0
Valid R t = (m : Message) × Says R m t

-- t begins one
abbrev pub Begins : Rules → List ℕ → Type 0
Begins R t = (more : List ℕ) × Valid R (t ++ more)

-- ---- lines of a text
-- there is no line end
abbrev pub Unended : List ℕ → Type 0
Unended l = index_of 0x0A l ≡ length l

-- n lines, each with its line end, and nothing else
abbrev pub Ended : ℕ → List ℕ → Type 0
Ended zero t = t ≡ []
Ended (suc n) t = (l : List ℕ) × (rest : List ℕ) × Unended l × (l ++ 0x0A ∷ rest ≡ t) × Ended n rest

-- ---- 61
-- what follows `before`: nothing, and that was no whole listing; or something without a line end; or a line with which
-- no valid listing begins
pub data Spoils (R : Rules) (before rest : List ℕ) : Type 0 where
  missing : rest ≡ [] → (Valid R before → ⊥) → Spoils R before rest
  unended : 1 ≤ length rest → Unended rest → Spoils R before rest
  wrong : (l more : List ℕ) → Unended l → l ++ 0x0A ∷ more ≡ rest → (Begins R (before ++ l ++ 0x0A ∷ []) → ⊥) →
      Spoils R before rest

-- line k spoils a text: the k - 1 lines before it begin a valid listing, and what follows spoils that
pub record SpoiltAt (R : Rules) (t : List ℕ) (k : ℕ) : Type 0 where
  pub lines : ℕ
  pub before : List ℕ
  pub rest : List ℕ
  pub number : k ≡ suc lines
  pub is : before ++ rest ≡ t
  pub ended : Ended lines before
  pub begins : Begins R before
  pub spoils : Spoils R before rest

-- ---- what is answered
-- a message m of n octets lies in an output that held `old` and then holds `new`
pub record Returned (R : Rules) (old new : List ℕ) (m : Message) (n : ℕ) : Type 0 where
  -- the first n octets are those of the message
  pub begins : take n new ≡ octets m
  -- they are accepted
  pub accepted : Accepts R (take n new)
  -- the octets after them stay
  pub stays : drop n new ≡ drop n old

-- the text t went in with an output that held `old`; w came back, and the output holds `new`
pub record Relists (R : Rules) (t old : List ℕ) (w : Writing) (new : List ℕ) : Type 0 where
  -- the answer names the edition
  pub names : w.edition ≡ R.edition
  -- 61 at line k, exactly where that line spoils the text
  pub sixty_one : (k : ℕ) → (told w.answer ≡ refusal 61 k) ↔ SpoiltAt R t k
  -- 62 at 0, exactly where the text is a valid listing whose parameters pass 255 octets
  pub sixty_two : (p : ℕ) →
      (told w.answer ≡ refusal 62 p) ↔ (p ≡ 0) × (m : Message) × Says R m t × (256 ≤ length (body m.parameters))
  -- 15 with the octets needed, exactly where the text is a valid listing of at most 255 octets of parameters and the
  -- output has fewer octets than its message
  pub fifteen : (p : ℕ) →
      (told w.answer ≡ refusal 15 p) ↔ (m : Message) × Says R m t × (length (body m.parameters) ≤ 255)
      × (p ≡ length (octets m)) × (length old < p)
  -- a message of n octets, exactly where the text is a valid listing of at most 255 octets of parameters, its message
  -- has n octets and the output has room for them
  pub message : (n : ℕ) →
      (told w.answer ≡ success n) ↔ (m : Message) × Says R m t × (length (body m.parameters) ≤ 255)
      × (n ≡ length (octets m)) × (n ≤ length old)
  -- which then lies at the output's start
  pub lays : (m : Message) (n : ℕ) → Says R m t → told w.answer ≡ success n → Returned R old new m n
  -- there is no other number, and with any refusal the output stays
  pub numbers : 1 ≤ (told w.answer).number →
      ((told w.answer).number ≡ 61) ⊎ ((told w.answer).number ≡ 62) ⊎ ((told w.answer).number ≡ 15)
  pub keeps : 1 ≤ (told w.answer).number → new ≡ old
