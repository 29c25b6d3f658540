-- What an answer of any listener at all says of its numbers (document 02, Q-5 and Q-11), also of one that no octets
-- lead to: 17 comes first, then 16, and every other answer names its edition.
-- Assumes nothing.
use Rattle.std.specs.Prelude.{◌≡◌, ℕ, T, ◌⊎◌, ◌↔◌, List, ◌≢◌}
use Rattle.rules.specs.Editions.{known, book_of}
use Rattle.rules.specs.Language.{language_of}
use Rattle.listener.specs.declared.Listener.{Listener}
use Rattle.listener.specs.declared.Heard.{Heard}
use Rattle.listener.specs.Told.{told, refusal, Clear}

-- its edition and its way are known
abbrev pub Known : Listener → Type 0
Known l = T (known l.edition l.way)

-- its state is in range by the book of its numbers
abbrev pub InRange : Listener → Type 0
InRange l = T ((language_of (book_of l.edition l.way)).in_range l.state)

-- the listener l was given the run o, and answered r
pub record Answers (l : Listener) (o : List ℕ) (r : Heard) : Type 0 where
  -- number, place, parameter and size tell the answer
  pub clear : Clear r.answer
  -- 17 at 0 exactly for one out of range, of unknown numbers too
  pub seventeen : (p b : ℕ) → (told r.answer ≡ refusal 17 p b) ↔ ((p ≡ 0) × (b ≡ 0) × (InRange l → ⊥))
  -- 16 at 0 exactly for one in range whose edition or way is unknown
  pub sixteen : (p b : ℕ) →
      (told r.answer ≡ refusal 16 p b) ↔ ((p ≡ 0) × (b ≡ 0) × InRange l × (Known l → ⊥))
  -- with both it takes nothing, and comes back as it was
  pub stays :
      let k = (told r.answer).number in
      (k ≡ 16) ⊎ (k ≡ 17) → (r.taken ≡ 0) × (r.listener ≡ l)
  -- edition and way are kept
  pub edition_kept : r.listener.edition ≡ l.edition
  pub way_kept : r.listener.way ≡ l.way
  -- every answer names the edition, but with 16 and 17 it names 0
  pub names :
      let k = (told r.answer).number in
      (k ≢ 16) → (k ≢ 17) → r.edition ≡ l.edition
  pub names_none :
      let k = (told r.answer).number in
      (k ≡ 16) ⊎ (k ≡ 17) → r.edition ≡ 0
