-- Demand 3: the listener gives up at the very octet that spoils the message, and not before. Over the promises of
-- `reset_way`, `reset` and `listen` and of the exports, call after call, whatever outcomes they allow; and a whole read
-- of the same octets says the same.
-- Assumes nothing.
use Rattle.std.proofs.Common.{Result}
use Prim.Native.Nat.{ℕ, ◌+◌, ◌≤◌}
use mathlib.Core.Path.{◌≡◌, refl}
use mathlib.Core.Logic.Iff
use mathlib.Core.Logic.{◌↔◌}
use mathlib.Core.List.{List, ◌++◌}
use lib.ListN.{length}
use lib.Dec.{T}
use Rattle.rules.specs.Octets.{Octets}
use Rattle.rules.specs.Language.{language_of}
use Rattle.rules.specs.declared.Book.{Book}
use Rattle.rules.specs.Editions.{known, book_of}
use Rattle.rules.proofs.Grammar.{spoken_of}
use Rattle.listener.specs.Heard.{new_listener, stepped, out_of_range, unknown_numbers}
use Rattle.listener.specs.Answers.{Known, InRange}
use Rattle.listener.proofs.Hears.{again}
use Rattle.listener.specs.Hears.{Hears}
use Rattle.listener.specs.declared.Listener.{Listener}
use Rattle.listener.specs.declared.Heard.{Heard}
use Rattle.listener.specs.declared.Answer.{Answer}
use Rattle.listener.specs.Told as heard
use Rattle.listener.proofs.Promised as listener
use Rattle.reader.specs.Told as read
use Rattle.reader.specs.declared.Reading.{Reading}
use Rattle.reader.proofs.Promised as reader
use Rattle.firmware.specs.Word.{packed as word_of, word_number, word_place, word_parameter, word_size}
use Rattle.firmware.specs.RecordHears.{RecordHears, SameEnd}
use Rattle.firmware.proofs.Promised as firmware
use Rattle.rules.specs.declared.Fault.{Fault}

-- by a known edition and way
module _ (e w : ℕ) (t : T (known e w)) (l : Listener) (h : List ℕ) (d : listener.HasHeard e w l h) (o : List ℕ)
    (q : Octets o) (r : Heard) (p : listener.ListenGives l o r) where
  -- the listener heard h since its reset to them, in whatever runs, and then one more: it waits, has a message or
  -- refuses exactly as the rules of their book say of all these octets (`Hears`: waits, has-message, refuses,
  -- answers-by-258, and the octets taken)
  pub waits_or_answers : Hears (language_of (book_of e w)) h o r
  waits_or_answers = listener.demand3 e w t l h d o q r p

  -- an answer, once given, stays the same with the same place, parameter and edition: the next call, with any run,
  -- takes nothing, says it again and leaves the listener
  pub answer_stays : (heard.told r.answer ≡ heard.waiting → ⊥) → (o' : List ℕ) (r' : Heard) →
      listener.ListenGives r.listener o' r' → r' ≡ again r.listener r.answer
  answer_stays n o' r' k = listener.answer_stays e w t l h d o q r p n o' r' k

  -- it never gets 16 or 17
  pub never_17 :
      let k = (heard.told r.answer).number in
      1 ≤ k → T ((language_of (book_of e w)).given k)
  never_17 n = listener.never_17 e w t l h d o q r p n

module _ (l : Listener) (o : List ℕ) (r : Heard) (p : listener.ListenGives l o r) where
  -- a listener in range and of known numbers that no octets lead to is stepped by the written rule: listener, answer
  -- and octets taken
  pub by_the_rule : InRange l → Known l → r ≡ stepped (language_of (book_of l.edition l.way)) l o
  by_the_rule t k = listener.by_the_rule l o r p t k

  -- one of unknown numbers gets 16 at 0, one out of range 17 at 0: it takes nothing and comes back as it was
  pub of_unknown_numbers : InRange l → (Known l → ⊥) → r ≡ unknown_numbers l
  of_unknown_numbers t n = listener.of_unknown_numbers l o r p t n

  pub out_of_range_lem : (InRange l → ⊥) → r ≡ out_of_range l
  out_of_range_lem n = listener.out_of_range_lem l o r p n

-- any cutting ends as one run does, and names the same edition
pub cut_anywhere : (l : Listener) (x y : List ℕ) (r r₁ r₂ : Heard) → listener.ListenGives l (x ++ y) r →
    listener.ListenGives l x r₁ → listener.ListenGives r₁.listener y r₂ → Octets x →
    (r.listener ≡ r₂.listener) × (r.answer ≡ r₂.answer) × (r.taken ≡ r₁.taken + r₂.taken)
    × (r.edition ≡ r₂.edition)
cut_anywhere l x y r r₁ r₂ p p₁ p₂ q = listener.cut_anywhere l x y r r₁ r₂ p p₁ p₂ q

-- a reset listener equals a new one of the numbers told, known or not (that they stay its numbers: Editions)
pub reset_is_new : (e w : ℕ) (l : Listener) → listener.ResetGives e w l → l ≡ new_listener e w
reset_is_new e w l h = listener.reset_is_new e w l h

-- ---- the exports, on a record that heard h since it was reset to a known edition and way: the same, read off the word
module _ (e y : ℕ) (c h : List ℕ) (d : firmware.RecordHasHeard e y c h) (o : List ℕ) (q : Octets o) (w : ℕ)
    (c' : List ℕ) (k : firmware.ListenGives c o w c') where
  pub anthercup_waits_or_answers : RecordHears (language_of (book_of e y)) e h o w
  anthercup_waits_or_answers = firmware.demand3 e y c h d o q w c' k

  pub anthercup_answer_stays : (((word_number w ≡ 0) × (word_size w ≡ 0)) → ⊥) →
      (o' : List ℕ) (w' : ℕ) (c'' : List ℕ) → firmware.ListenGives c' o' w' c'' →
      (w' ≡ word_of e (word_number w) (word_place w) (word_parameter w) (word_size w) 0) × (c'' ≡ c')
  anthercup_answer_stays n o' w' c'' x = firmware.answer_stays e y c h d o q w c' k n o' w' c'' x

pub anthercup_cut_anywhere : (c x y : List ℕ) (w w₁ w₂ : ℕ) (d d₁ d₂ : List ℕ) →
    firmware.ListenGives c (x ++ y) w d → firmware.ListenGives c x w₁ d₁ → firmware.ListenGives d₁ y w₂ d₂ →
    Octets c → Octets x → Octets y → SameEnd w w₁ w₂ d d₂
anthercup_cut_anywhere c x y w w₁ w₂ d d₁ d₂ h h₁ h₂ q a b = firmware.cut_anywhere c x y w w₁ w₂ d d₁ d₂ h h₁ h₂ q a b

-- ---- a listener heard h since its reset, and then a run: what it says is what a whole read of all these octets by
-- the edition and the way of the reset says
pub record AsListened (b : Book) (o : List ℕ) (w : Answer) (x : Result ℕ Fault) : Type 0 where
  -- number, place, parameter and size tell both
  pub clear : read.Clear x × heard.Clear w
  pub refuses : (k p n : ℕ) → T ((language_of b).given k) →
      (read.told x ≡ read.refusal k p n) ↔ (heard.told w ≡ heard.refusal k p n)
  pub waits : (read.told x ≡ read.refusal 8 (length o) 0) ↔ (heard.told w ≡ heard.waiting)

pub as_listened : (e w : ℕ) → T (known e w) → (l : Listener) (h : List ℕ) → listener.HasHeard e w l h →
    (o : List ℕ) → Octets o → (r : Heard) → listener.ListenGives l o r →
    (old : List ℕ) (x : Reading) (area : List ℕ) → reader.ReadGives e w (h ++ o) old x area → Octets (h ++ o) →
    AsListened (book_of e w) (h ++ o) r.answer x.answer
as_listened e w t l h d o q r p old x area k q' =
    let b = book_of e w in
    let g = reader.reads e w (h ++ o) old x area k t q' in
    let y = listener.demand3 e w t l h d o q r p in
    let v = g.early (length (h ++ o)) in
    record {
      clear = (g.clear, y.clear);
      refuses = λ k p n t. Iff.trans (g.spoilt k p n t) (Iff.symm (y.refuses k p n ((spoken_of b).numbers k t).0));
      waits = (λ e. y.waits.1 (v.0 e).1, λ e. v.1 (refl, y.waits.0 e));
    }
