-- What demand 3 says of a call on a listener's record, read off the answer's word and over the written rules alone.
-- Assumes nothing.
use Rattle.std.specs.Prelude.{ℕ, suc, ◌+◌, ◌≤◌, ◌<◌, ◌≡◌, Bool, ◌⊎◌, ◌↔◌, List, ◌∷◌, ◌++◌, length, take, drop, get_or, T, Some}
use Rattle.rules.specs.Endings.{Ending, Spoilt, Numbered}
use Rattle.rules.specs.Language.{Language}
use Rattle.rules.specs.Editions.{known}
use Rattle.listener.specs.Answers.{InRange}
use Rattle.listener.specs.declared.Listener.{Listener}
use Rattle.firmware.specs.Record.{decode_of}
use Rattle.firmware.specs.Word.{packed, word_edition, word_number, word_place, word_parameter, word_size, word_taken}

-- The record's listener had taken the octets h since its reset to the edition e, was given the run o, and the call
-- answered w; the way of the reset is that of the language.
pub record RecordHears (L : Language) (e : ℕ) (h o : List ℕ) (w : ℕ) : Type 0 where
  -- the answer names the edition e
  pub names : word_edition w ≡ e
  -- neither number nor size: it waits, exactly when some ending would still complete a message
  pub waits : ((word_number w ≡ 0) × (word_size w ≡ 0)) ↔ Ending L.Accepts (h ++ o)
  -- a size: exactly that of the first octets that are accepted
  pub has_message : (n : ℕ) → 1 ≤ n → (word_size w ≡ n) ↔ ((n ≤ length (h ++ o)) × L.Accepts (take n (h ++ o)))
  -- a number: exactly at the octet that spoils the message, with the number and the parameter of that octet's role
  pub refuses : (k p b : ℕ) → 1 ≤ k →
      ((word_number w ≡ k) × (word_place w ≡ p) × (word_parameter w ≡ b)) ↔
      (Spoilt L.Accepts (h ++ o) p × Numbered L.Accepts L.roles (h ++ o) p k b)
  -- octets taken: the whole run while it waits, the message's octets and no more, the spoiling octet but none after it
  pub taken_waiting : word_number w ≡ 0 → word_size w ≡ 0 → word_taken w ≡ length o
  pub taken_message : (n : ℕ) → 1 ≤ n → word_size w ≡ n → length h + word_taken w ≡ n
  pub taken_refused : 1 ≤ word_number w → length h + word_taken w ≡ suc (word_place w)
  -- a place and a parameter with a number alone, a size with none; and nothing else stands in the word
  pub no_place : word_number w ≡ 0 → word_place w ≡ 0
  pub no_parameter : word_number w ≡ 0 → word_parameter w ≡ 0
  pub no_size : 1 ≤ word_number w → word_size w ≡ 0
  pub whole : w ≡ packed (word_edition w) (word_number w) (word_place w) (word_parameter w) (word_size w) (word_taken w)
  -- it has its answer after 258 octets at the latest
  pub answers_by_258 : word_number w ≡ 0 → word_size w ≡ 0 → length (h ++ o) < 258

-- a record stands for a listener in range; its edition is octet 11, its way octet 12
pub record Stands (c : List ℕ) : Type 0 where
  pub listener : Listener
  pub known : decode_of c ≡ Some listener
  pub is_in_range : InRange listener

-- there are an edition and a way of the numbers in octets 11 and 12
abbrev pub Numbers : List ℕ → Type 0
Numbers c = T (known (get_or c 11 0) (get_or c 12 0))

-- it stands for a listener in range, and these are known
pub record Sound (c : List ℕ) : Type 0 where
  pub stands : Stands c
  pub numbers : Numbers c

-- the record c with other numbers in octets 11 and 12
abbrev pub with_numbers : ℕ → ℕ → List ℕ → List ℕ
with_numbers e y c = take 11 c ++ (e ∷ y ∷ drop 13 c)

-- a number in the place of another: that one, or one that is unknown
abbrev pub OwnOrNone : (ℕ → Bool) → ℕ → ℕ → Type 0
OwnOrNone is a e = (e ≡ a) ⊎ (T (is e) → ⊥)

-- two calls on a run cut in two end as one call on the whole: the same record and answer, and the octets taken
-- together
pub record SameEnd (w w₁ w₂ : ℕ) (d d₂ : List ℕ) : Type 0 where
  pub left : d ≡ d₂
  pub edition : word_edition w ≡ word_edition w₂
  pub number : word_number w ≡ word_number w₂
  pub place : word_place w ≡ word_place w₂
  pub parameter : word_parameter w ≡ word_parameter w₂
  pub size : word_size w ≡ word_size w₂
  pub taken : word_taken w ≡ word_taken w₁ + word_taken w₂
