-- A call on a listener's record is a call on the listener that it stands for, and its word is read back field by
-- field; a record that stands for none is 17, one that stands for a listener of an unknown edition or way 16.
-- Assumes nothing.
use Rattle.std.proofs.Common.{Option, Some, None}
use Prim.Native.Nat.{ℕ, suc, ◌+◌, ◌≤◌, ◌<◌}
use mathlib.Core.Path.{◌≡◌, refl, sym, ◌∙◌, ap, subst}
use mathlib.Core.Logic.Iff
use mathlib.Core.Logic.{◌⊎◌, inl, inr, ◌↔◌}
use mathlib.Core.List.{List, [], ◌++◌}
use native.Mathlib.Omega.{arith}
use lib.ListN.{length, take, get_or}
use lib.Dec.{T}
use Rattle.rules.specs.Tests.{◌=?◌}
use Rattle.rules.proofs.Tests.{pick_yes, pick_not, of_eq, eq_of, le_of, decide, clash}
use Rattle.rules.specs.Octets.{Octets}
use Rattle.rules.proofs.Octets.{octets-append}
use Rattle.rules.specs.Table.{rules_of}
use Rattle.rules.specs.Editions.{edition, known, book_of}
use Rattle.rules.proofs.Editions.{edition_of_lem}
use Rattle.rules.specs.declared.Book.{Book}
use Rattle.rules.specs.Machine.{run}
use Rattle.rules.specs.Judge.{machine, in_range}
use Rattle.rules.specs.Language.{language_of}
use Rattle.rules.proofs.Language.{in_range-run}
use Rattle.rules.proofs.Grammar.{spoken_of}
use Rattle.listener.specs.declared.Listener.{Listener}
use Rattle.listener.specs.declared.Answer.{Answer}
use Rattle.listener.specs.declared.Answer.TheVariants.{Waits, Message, Refused}
use Rattle.listener.specs.declared.Heard.{Heard}
use Rattle.listener.specs.Told.{told}
use Rattle.listener.specs.Heard.{stepped, heard_of, new_listener}
use Rattle.listener.specs.Answers.{InRange}
use Rattle.listener.specs.Answers as answers
use Rattle.listener.proofs.Hears as listening
use Rattle.listener.proofs.Told.{told_waits, fields_waiting_lem, fields_message, fields_refusal}
use Rattle.listener.proofs.Hears.{B, LedBy, led_in_range, led_on, new_led, hears, Ranged, ranged, taken_small}
use Rattle.listener.proofs.Hears.{in_range_heard, unknown_heard, out_of_range_heard, numbers_kept}
use Rattle.firmware.specs.Record.{decode_of, record_of}
use Rattle.firmware.specs.Word.{packed, word_edition, word_number, word_place, word_parameter, word_size, word_taken, Unpacked, unpacked, Plain, Sixteen, sixteen, Seventeen, seventeen}
use Rattle.firmware.specs.Exports.{bad_record, no_book, reset_answer, reset_record, word_of, answered, recorded, listen_answer, listen_record}
use Rattle.firmware.proofs.Coding.{Good, record_numbers, decode_encode, encode_decode, decoded_good}
use Rattle.firmware.proofs.Classes.{Coded, run-coded, NoneOr, number_given}
use Rattle.firmware.specs.RecordHears.{RecordHears, Stands, Numbers, Sound, SameEnd}
use Rattle.firmware.specs.Sizes.{listener_size}

-- the word of an answer is read back field by field
small_fields : (a : Answer) → Ranged a →
    ((told a).number < 256) × ((told a).place < 65536) × ((told a).parameter < 128) × ((told a).size < 65536)
unfolding told
small_fields Waits g = (omega arith, omega arith, omega arith, omega arith)
small_fields (Message n) g = (omega arith, omega arith, omega arith, omega arith)
small_fields (Refused f) g = (omega arith, omega arith, omega arith, omega arith)

-- a place and a parameter with a number alone, a size with none
no_place : (a : Answer) → Ranged a → (told a).number ≡ 0 → (told a).place ≡ 0
unfolding told
no_place Waits g e = refl
no_place (Message n) g e = refl
no_place (Refused f) g e = absurd (omega arith)

no_parameter : (a : Answer) → Ranged a → (told a).number ≡ 0 → (told a).parameter ≡ 0
unfolding told
no_parameter Waits g e = refl
no_parameter (Message n) g e = refl
no_parameter (Refused f) g e = absurd (omega arith)

no_size : (a : Answer) → 1 ≤ (told a).number → (told a).size ≡ 0
unfolding told
no_size Waits e = absurd (omega arith)
no_size (Message n) e = absurd (omega arith)
no_size (Refused f) e = refl

read_back : (x : Heard) → x.edition < 2 → Ranged x.answer → x.taken ≤ 258 →
    Unpacked x.edition (told x.answer).number (told x.answer).place (told x.answer).parameter
    (told x.answer).size x.taken (word_of x)
unfolding word_of
read_back x v g t =
    let b = small_fields x.answer g in unpacked _ _ _ _ _ _ v b.0 b.1 b.2 b.3 (omega arith)

-- the fields of a word by another name of the edition
pub renamed : (e v k p b n t w : ℕ) → e ≡ v → Unpacked e k p b n t w → Unpacked v k p b n t w
renamed e v k p b n t w z u = subst (λ (x : ℕ). Unpacked x k p b n t w) z u

pub edition_small : (e : ℕ) → T (edition e) → e < 2
unfolding edition
edition_small e t = let h = le_of _ _ t in omega arith

pub known_small : (e y : ℕ) → T (known e y) → e < 2
known_small e y t = edition_small e (edition_of_lem e y t)

-- a number that a book gives, or none
pub none_or_small : (b : Book) (n : ℕ) → NoneOr (rules_of b) n → n ≤ 10
none_or_small b n (inl z) = omega arith
none_or_small b n (inr t) = ((spoken_of b).numbers n t).1

-- ---- any record at all
pub stands_or_not : (c : List ℕ) → Stands c ⊎ (Stands c → ⊥)
stands_or_not c = go (decode_of c) refl
  where
    in_or_out : (l : Listener) → decode_of c ≡ Some l → InRange l ⊎ (InRange l → ⊥) → Stands c ⊎ (Stands c → ⊥)
    in_or_out l k (inl t) = inl (record { listener = l; known = k; is_in_range = t })
    in_or_out l k (inr n) =
        inr (λ s. let e : Some s.listener ≡ Some l = sym s.known ∙ k in let z : s.listener ≡ l = cc in
        n (subst (λ (x : Listener). InRange x) z s.is_in_range))

    go : (y : Option Listener) → decode_of c ≡ y → Stands c ⊎ (Stands c → ⊥)
    go (Some l) k = in_or_out l k (decide (in_range (rules_of (B l)) l.state))
    go None k = inr (λ s. clash (cc (s.known, k)))

-- a record that stands for none is 17, whatever the octets
unsound : (c : List ℕ) → Octets c → (Stands c → ⊥) → (o : List ℕ) →
    (listen_answer c o ≡ bad_record) × (listen_record c o ≡ c)
unfolding listen_answer listen_record answered recorded word_of told
unsound c q n o = go (decode_of c) refl
  where
    go : (y : Option Listener) → decode_of c ≡ y → (answered (decode_of c) o ≡ bad_record) × (recorded (decode_of c) c o ≡ c)
    go None k = (rw k, rw k)
    go (Some l) k =
        let x = out_of_range_heard l o (λ t. n (record { listener = l; known = k; is_in_range = t })) in
        (rw (k, x), rw (k, x) (encode_decode c l q k))

-- what a record stands for: the edition is its octet 11, the way its octet 12
module _ (c : List ℕ) (s : Stands c) where
  pub good : Good (get_or c 11 0) (get_or c 12 0) s.listener
  good = decoded_good c s.listener s.known

  listener_is : record { edition = get_or c 11 0; way = get_or c 12 0; state = s.listener.state } ≡ s.listener
  listener_is =
      let v = sym good.edition in
      let x = sym good.way in
      λ i. record { edition = v i; way = x i; state = s.listener.state }

  pub numbers-known : Numbers c → answers.Known s.listener
  numbers-known t = subst answers.Known listener_is t

  numbers_unknown : (Numbers c → ⊥) → answers.Known s.listener → ⊥
  numbers_unknown n k = n (subst answers.Known (sym listener_is) k)

  -- of an unknown edition or way it is 16, whatever the octets
  pub unknown_numbers_lem : Octets c → (Numbers c → ⊥) → (o : List ℕ) →
      (listen_answer c o ≡ no_book) × (listen_record c o ≡ c)
  unfolding listen_answer listen_record answered recorded word_of told
  unknown_numbers_lem q n o =
      let k = s.known in
      let x = unknown_heard s.listener o s.is_in_range (numbers_unknown n) in
      (rw (k, x), rw (k, x) (encode_decode c s.listener q k))

-- every record is sound, or the call is 16 or 17 and leaves it as it was
pub outcomes : (c : List ℕ) → Sound c ⊎ ((Stands c × (Numbers c → ⊥)) ⊎ (Stands c → ⊥))
outcomes c = go (stands_or_not c) (decide (known (get_or c 11 0) (get_or c 12 0)))
  where
    go : Stands c ⊎ (Stands c → ⊥) → Numbers c ⊎ (Numbers c → ⊥) →
        Sound c ⊎ ((Stands c × (Numbers c → ⊥)) ⊎ (Stands c → ⊥))
    go (inl s) (inl t) = inl (record { stands = s; numbers = t })
    go (inl s) (inr n) = inr (inl (s, n))
    go (inr n) t = inr (inr n)

pub sound_or_refused : (c o : List ℕ) (w : ℕ) (d : List ℕ) → w ≡ listen_answer c o → d ≡ listen_record c o → Octets c →
    Sound c ⊎ (Sixteen c w d ⊎ Seventeen c w d)
sound_or_refused c o w d e f q = go (outcomes c)
  where
    go : Sound c ⊎ ((Stands c × (Numbers c → ⊥)) ⊎ (Stands c → ⊥)) →
        Sound c ⊎ (Sixteen c w d ⊎ Seventeen c w d)
    go (inl s) = inl s
    go (inr (inl s)) = let u = unknown_numbers_lem c s.0 q s.1 o in inr (inl (sixteen c w d (e ∙ u.0) (f ∙ u.1)))
    go (inr (inr n)) = let u = unsound c q n o in inr (inr (seventeen c w d (e ∙ u.0) (f ∙ u.1)))

-- a sound record is heard by its listener
module _ (c : List ℕ) (s : Sound c) (o : List ℕ) where
  abbrev l : Listener
  l = s.stands.listener

  numbers : answers.Known l
  numbers = numbers-known c s.stands s.numbers

  sound_word : listen_answer c o ≡ word_of (heard_of l o)
  unfolding listen_answer answered
  sound_word = ap (λ (y : Option Listener). answered y o) s.stands.known

  pub sound_record : listen_record c o ≡ record_of (heard_of l o).listener
  unfolding listen_record recorded
  sound_record = ap (λ (y : Option Listener). recorded y c o) s.stands.known

  pub heard_is : heard_of l o ≡ stepped (language_of (B l)) l o
  heard_is = in_range_heard l o s.stands.is_in_range numbers

  pub in_range_after : Octets o → T ((language_of (B l)).in_range (run (machine (rules_of (B l))) l.state o))
  in_range_after q = in_range-run (spoken_of (B l)) l.state o q s.stands.is_in_range

  sound_ranged : Octets o → Ranged (heard_of l o).answer
  sound_ranged q =
      subst Ranged (sym (ap (λ (r : Heard). r.answer) heard_is)) (ranged (spoken_of (B l)) _ (in_range_after q))

  -- its answer names the edition
  pub sound_edition : (heard_of l o).edition ≡ get_or c 11 0
  sound_edition = ap (λ (r : Heard). r.edition) heard_is ∙ (good c s.stands).edition

  pub sound_fields : Octets o → (w : ℕ) → w ≡ listen_answer c o →
      Unpacked (heard_of l o).edition (told (heard_of l o).answer).number (told (heard_of l o).answer).place
      (told (heard_of l o).answer).parameter (told (heard_of l o).answer).size (heard_of l o).taken w
  sound_fields q w e =
      rw (e, sound_word)
      (read_back _ (omega (arith, sound_edition, known_small _ _ s.numbers)) (sound_ranged q) (taken_small l o q))

  -- it is stepped by the written rule, also where no octets lead to it: word and record
  pub sound_steps : (w : ℕ) (d : List ℕ) → w ≡ listen_answer c o → d ≡ listen_record c o →
      (w ≡ word_of (stepped (language_of (B l)) l o)) × (d ≡ record_of (stepped (language_of (B l)) l o).listener)
  sound_steps w d e f = (
    e ∙ sound_word ∙ ap word_of heard_is,
    f ∙ sound_record ∙ ap (λ (y : Heard). record_of y.listener) heard_is,
  )

  -- its classes stay those of its book
  pub coded_after : Coded l.edition l.way (run (machine (rules_of (B l))) l.state o)
  coded_after =
      subst (λ (x : Listener). Coded x.edition x.way (run (machine (rules_of (B x))) x.state o))
      (listener_is c s.stands)
      (run-coded (get_or c 11 0) (get_or c 12 0) s.numbers l.state o (good c s.stands).coded)

  -- and it stays sound, of its edition and way
  pub numbers_stay : (d : List ℕ) → d ≡ listen_record c o →
      (get_or d 11 0 ≡ get_or c 11 0) × (get_or d 12 0 ≡ get_or c 12 0)
  numbers_stay d f =
      let r = record_numbers (heard_of l o).listener in
      let k = numbers_kept l o in (
        ap (λ (x : List ℕ). get_or x 11 0) (f ∙ sound_record) ∙ r.0 ∙ k.0 ∙ (good c s.stands).edition,
        ap (λ (x : List ℕ). get_or x 12 0) (f ∙ sound_record) ∙ r.1 ∙ k.1 ∙ (good c s.stands).way,
      )

  abbrev pub sound_stays : Octets o → (d : List ℕ) → d ≡ listen_record c o → Sound d
  sound_stays q d f = record {
    stands = record {
      listener = (heard_of l o).listener;
      known =
          ap decode_of (f ∙ sound_record)
          ∙ decode_encode _
          (subst (λ (x : Heard). Coded x.listener.edition x.listener.way x.listener.state) (sym heard_is)
          coded_after);
      is_in_range = subst (λ (x : Heard). InRange x.listener) (sym heard_is) (in_range_after q);
    };
    numbers =
        let z = numbers_stay d f in
        subst (λ (v : ℕ). T (known v (get_or d 12 0))) (sym z.0)
        (subst (λ (v : ℕ). T (known (get_or c 11 0) v)) (sym z.1) s.numbers);
  }

  -- it gets a number that its book gives, or none
  pub sound_number : Octets o → (w : ℕ) → w ≡ listen_answer c o →
      NoneOr (rules_of (book_of (get_or c 11 0) (get_or c 12 0))) (word_number w)
  sound_number q w e =
      subst (λ (n : ℕ). NoneOr (rules_of (book_of (get_or c 11 0) (get_or c 12 0))) n) (sym (sound_fields q w e).number)
      (subst (λ (x : Listener). NoneOr (rules_of (B x)) (told (heard_of l o).answer).number)
      (sym (listener_is c s.stands)) given_so)
    where
      given_so : NoneOr (rules_of (B l)) (told (heard_of l o).answer).number
      given_so =
          subst (λ (x : Heard). NoneOr (rules_of (B l)) (told x.answer).number) (sym heard_is)
          (number_given (rules_of (B l)) _ (in_range_after q))

  pub sound_small : Octets o → (w : ℕ) → w ≡ listen_answer c o → word_number w ≤ 10
  sound_small q w e = none_or_small (book_of (get_or c 11 0) (get_or c 12 0)) (word_number w) (sound_number q w e)

-- ---- 16 and 17 exactly when
module _ (c o : List ℕ) (w : ℕ) (d : List ℕ) (e : w ≡ listen_answer c o) (f : d ≡ listen_record c o) (q : Octets c)
    (p : Octets o) where
  pub seventeen_iff : (word_number w ≡ 17) ↔ (Stands c → ⊥)
  seventeen_iff = go (outcomes c)
    where
      go : Sound c ⊎ ((Stands c × (Numbers c → ⊥)) ⊎ (Stands c → ⊥)) →
          (word_number w ≡ 17) ↔ (Stands c → ⊥)
      go (inl s) = (λ x. absurd (omega (arith, x, sound_small c s o p w e)), λ n. absurd (n s.stands))
      go (inr (inl s)) =
          let u = unknown_numbers_lem c s.0 q s.1 o in
          let z = sixteen c w d (e ∙ u.0) (f ∙ u.1) in
          (λ x. absurd (omega (arith, x, z.word.number)), λ n. absurd (n s.0))
      go (inr (inr n)) =
          let u = unsound c q n o in (λ _. n, λ _. (seventeen c w d (e ∙ u.0) (f ∙ u.1)).word.number)

  pub sixteen_iff : (word_number w ≡ 16) ↔ (Stands c × (Numbers c → ⊥))
  sixteen_iff = go (outcomes c)
    where
      go : Sound c ⊎ ((Stands c × (Numbers c → ⊥)) ⊎ (Stands c → ⊥)) →
          (word_number w ≡ 16) ↔ (Stands c × (Numbers c → ⊥))
      go (inl s) = (λ x. absurd (omega (arith, x, sound_small c s o p w e)), λ n. absurd (n.1 s.numbers))
      go (inr (inl s)) =
          let u = unknown_numbers_lem c s.0 q s.1 o in
          (λ _. s, λ _. (sixteen c w d (e ∙ u.0) (f ∙ u.1)).word.number)
      go (inr (inr n)) =
          let u = unsound c q n o in
          let z = seventeen c w d (e ∙ u.0) (f ∙ u.1) in
          (λ x. absurd (omega (arith, x, z.word.number)), λ s. absurd (n s.0))

  -- every answer names the edition of the record, 16 and 17 name none
  pub names_edition : (word_number w ≡ 16 → ⊥) → (word_number w ≡ 17 → ⊥) → word_edition w ≡ get_or c 11 0
  names_edition a b = go (outcomes c)
    where
      go : Sound c ⊎ ((Stands c × (Numbers c → ⊥)) ⊎ (Stands c → ⊥)) → word_edition w ≡ get_or c 11 0
      go (inl s) = (sound_fields c s o p w e).edition ∙ sound_edition c s o
      go (inr (inl s)) = absurd (a (sixteen_iff.1 s))
      go (inr (inr n)) = absurd (b (seventeen_iff.1 n))

-- ---- any cutting
module _ (c a b : List ℕ) (w w₁ w₂ : ℕ) (d d₁ d₂ : List ℕ) (e : w ≡ listen_answer c (a ++ b))
    (f : d ≡ listen_record c (a ++ b)) (e₁ : w₁ ≡ listen_answer c a) (f₁ : d₁ ≡ listen_record c a)
    (e₂ : w₂ ≡ listen_answer d₁ b) (f₂ : d₂ ≡ listen_record d₁ b) (q : Octets c) (p : Octets a) (r : Octets b) where
  cut_sound : Sound c → SameEnd w w₁ w₂ d d₂
  cut_sound s =
      let l = s.stands.listener in
      let s₁ = sound_stays c s a p d₁ f₁ in
      let k = listening.cut_anywhere l a b p (heard_of l (a ++ b)) (heard_of l a) (heard_of (heard_of l a).listener b)
      refl refl refl in
      let u = sound_fields c s (a ++ b) (octets-append a b p r) w e in
      let u₁ = sound_fields c s a p w₁ e₁ in
      let u₂ = sound_fields d₁ s₁ b r w₂ e₂ in
      record {
        left = f ∙ sound_record c s (a ++ b) ∙ ap record_of k.0 ∙ sym (f₂ ∙ sound_record d₁ s₁ b);
        edition =
            u.edition ∙ sound_edition c s (a ++ b) ∙ sym (numbers_stay c s a d₁ f₁).0
            ∙ sym (u₂.edition ∙ sound_edition d₁ s₁ b);
        number = u.number ∙ ap (λ (x : Answer). (told x).number) k.1 ∙ sym u₂.number;
        place = u.place ∙ ap (λ (x : Answer). (told x).place) k.1 ∙ sym u₂.place;
        parameter = u.parameter ∙ ap (λ (x : Answer). (told x).parameter) k.1 ∙ sym u₂.parameter;
        size = u.size ∙ ap (λ (x : Answer). (told x).size) k.1 ∙ sym u₂.size;
        taken = omega (arith, u.taken, u₁.taken, u₂.taken, k.2);
      }

  -- 16 or 17 for every run, and the record stays
  cut_plain : (k : ℕ) → ((o : List ℕ) (x : ℕ) (y : List ℕ) → x ≡ listen_answer c o → y ≡ listen_record c o →
      Plain k c x y) → SameEnd w w₁ w₂ d d₂
  cut_plain k all =
      let z = all (a ++ b) w d e f in
      let z₁ = all a w₁ d₁ e₁ f₁ in
      let v = z₁.cells in
      let z₂ = all b w₂ d₂ (e₂ ∙ ap (λ (x : List ℕ). listen_answer x b) v)
      (f₂ ∙ ap (λ (x : List ℕ). listen_record x b) v) in
      record {
        left = z.cells ∙ sym z₂.cells;
        edition = z.word.edition ∙ sym z₂.word.edition;
        number = z.word.number ∙ sym z₂.word.number;
        place = z.word.place ∙ sym z₂.word.place;
        parameter = z.word.parameter ∙ sym z₂.word.parameter;
        size = z.word.size ∙ sym z₂.word.size;
        taken = omega (arith, z.word.taken, z₁.word.taken, z₂.word.taken);
      }

  pub cut_anywhere : SameEnd w w₁ w₂ d d₂
  cut_anywhere = go (outcomes c)
    where
      go : Sound c ⊎ ((Stands c × (Numbers c → ⊥)) ⊎ (Stands c → ⊥)) → SameEnd w w₁ w₂ d d₂
      go (inl s) = cut_sound s
      go (inr (inl s)) =
          cut_plain 16 (λ o x y g h. let u = unknown_numbers_lem c s.0 q s.1 o in
          sixteen c x y (g ∙ u.0) (h ∙ u.1))
      go (inr (inr n)) =
          cut_plain 17 (λ o x y g h. let u = unsound c q n o in seventeen c x y (g ∙ u.0) (h ∙ u.1))

-- ---- a record that was reset to the edition v and the way y, and any octets
-- a record stands for a listener of these numbers that the octets h lead to
pub record RecordLedBy (v y : ℕ) (c h : List ℕ) : Type 0 where
  pub listener : Listener
  pub known : decode_of c ≡ Some listener
  pub led : LedBy listener h
  pub edition : listener.edition ≡ v
  pub way : listener.way ≡ y

abbrev pub led_sound : (v y : ℕ) (c h : List ℕ) → RecordLedBy v y c h → Sound c
led_sound v y c h s =
    let k = led_in_range s.listener h s.led in
    let g = decoded_good c s.listener s.known in
    record {
      stands = record { listener = s.listener; known = s.known; is_in_range = k };
      numbers =
          subst (λ (x : ℕ). T (known x (get_or c 12 0))) g.edition
          (subst (λ (x : ℕ). T (known s.listener.edition x)) g.way s.led.numbers);
    }

module _ (v y : ℕ) (c h : List ℕ) (s : RecordLedBy v y c h) (o : List ℕ) (q : Octets o) (w : ℕ)
    (e : w ≡ listen_answer c o) where
  abbrev heard : Heard
  heard = heard_of s.listener o

  fields :
      let a = told heard.answer in
      Unpacked heard.edition a.number a.place a.parameter a.size heard.taken w
  fields = sound_fields c (led_sound v y c h s) o q w e

  names_v : word_edition w ≡ v
  names_v =
      fields.edition ∙ sound_edition c (led_sound v y c h s) o
      ∙ sym (decoded_good c s.listener s.known).edition ∙ s.edition

  record_hears_in : RecordHears (language_of (B s.listener)) v h o w
  record_hears_in =
      let said = hears s.listener h s.led o q heard refl in
      let g = sound_ranged c (led_sound v y c h s) o q in
      record {
        names = names_v;
        waits = rw (fields.number, fields.size) (Iff.trans (fields_waiting_lem _ said.clear) said.waits);
        has_message = λ n l. rw fields.size (Iff.trans (fields_message _ n l) (said.has_message n l));
        refuses =
            λ k p b l. rw (fields.number, fields.place, fields.parameter)
            (Iff.trans (fields_refusal _ k p b l) (said.refuses k p b l));
        taken_waiting =
            λ a b. fields.taken ∙ said.taken_waiting
            ((fields_waiting_lem _ said.clear).0 (sym fields.number ∙ a, sym fields.size ∙ b));
        taken_message =
            λ n l a. ap (λ (t : ℕ). length h + t) fields.taken
            ∙ said.taken_message n l ((fields_message _ n l).0 (sym fields.size ∙ a));
        taken_refused = λ l.
            let k = (told heard.answer).number in
            let p = (told heard.answer).place in
            let b = (told heard.answer).parameter in
            let m : 1 ≤ k = omega (arith, fields.number) in
            ap (λ (t : ℕ). length h + t) fields.taken
            ∙ said.taken_refused k p b m ((fields_refusal _ k p b m).0 (refl, refl, refl))
            ∙ ap suc (sym fields.place);
        no_place = λ a. fields.place ∙ no_place _ g (sym fields.number ∙ a);
        no_parameter = λ a. fields.parameter ∙ no_parameter _ g (sym fields.number ∙ a);
        no_size = λ l. fields.size ∙ no_size _ (omega (arith, fields.number));
        whole =
            let r = sym fields.edition in
            let u = sym fields.number in
            let v = sym fields.place in
            let b = sym fields.parameter in
            let x = sym fields.size in
            let y = sym fields.taken in
            fields.whole ∙ (λ i. packed (r i) (u i) (v i) (b i) (x i) (y i));
        answers_by_258 =
            λ a b. said.answers_by_258
            ((fields_waiting_lem _ said.clear).0 (sym fields.number ∙ a, sym fields.size ∙ b));
      }

  pub record_hears : RecordHears (language_of (book_of v y)) v h o w
  record_hears =
      subst (λ (b : Book). RecordHears (language_of b) v h o w) (λ i. book_of (s.edition i) (s.way i)) record_hears_in

  pub record_led_on : (d : List ℕ) → d ≡ listen_record c o → RecordLedBy v y d (h ++ take (word_taken w) o)
  record_led_on d f = record {
    listener = heard.listener;
    known = (sound_stays c (led_sound v y c h s) o q d f).stands.known;
    led = rw fields.taken (led_on s.listener h s.led o q heard refl);
    edition = (numbers_kept s.listener o).0 ∙ s.edition;
    way = (numbers_kept s.listener o).1 ∙ s.way;
  }

-- an answer that a call gave, the next call on the record gives again, takes none and leaves the record as it was
module _ (v y : ℕ) (c h : List ℕ) (s : RecordLedBy v y c h) (o : List ℕ) (q : Octets o) (w : ℕ)
    (e : w ≡ listen_answer c o) (d : List ℕ) (f : d ≡ listen_record c o) where
  pub answer_stays : (((word_number w ≡ 0) × (word_size w ≡ 0)) → ⊥) → (o' : List ℕ) (w' : ℕ) (d' : List ℕ) →
      w' ≡ listen_answer d o' → d' ≡ listen_record d o' →
      (w' ≡ packed v (word_number w) (word_place w) (word_parameter w) (word_size w) 0) × (d' ≡ d)
  unfolding word_of
  answer_stays n o' w' d' e' f' =
      let l = s.listener in
      let r = heard_of l o in
      let u = fields v y c h s o q w e in
      let clear = (hears l h s.led o q r refl).clear in
      let t = sound_stays c (led_sound v y c h s) o q d f in
      let k = listening.answer_stays l h s.led o q r refl
      (λ z. let x = (fields_waiting_lem _ clear).1 ((told_waits _ clear).1 z) in n (u.number ∙ x.0, u.size ∙ x.1)) o'
      (heard_of r.listener o') refl in
      let m : r.listener.edition ≡ v = (numbers_kept l o).0 ∙ s.edition in
      let x = sym u.number in
      let p = sym u.place in
      let b = sym u.parameter in
      let z = sym u.size in (
        e' ∙ sound_word d t o' ∙ ap word_of k ∙ (λ i. packed (m i) (x i) (p i) (b i) (z i) 0),
        f' ∙ sound_record d t o' ∙ ap (λ (x : Heard). record_of x.listener) k
            ∙ sym (f ∙ sound_record c (led_sound v y c h s) o),
      )

-- ---- reset
module _ (v y : ℕ) (c : List ℕ) (w : ℕ) (d : List ℕ) (e : w ≡ reset_answer v y c) (f : d ≡ reset_record v y c) where
  pub reset_new : length c ≡ listener_size → T (known v y) →
      Unpacked v 0 0 0 0 0 w × (d ≡ record_of (new_listener v y))
  unfolding reset_answer reset_record
  reset_new n t =
      let s = of_eq _ _ n in (
        subst (Unpacked v 0 0 0 0 0) (sym (e ∙ pick_yes _ _ _ s ∙ pick_yes _ _ _ t))
            (unpacked v 0 0 0 0 0 (known_small v y t) (omega arith) (omega arith) (omega arith) (omega arith)
            (omega arith)),
        f ∙ pick_yes _ _ _ s ∙ pick_yes _ _ _ t,
      )

  pub reset_16 : length c ≡ listener_size → (T (known v y) → ⊥) → Sixteen c w d
  unfolding reset_answer reset_record
  reset_16 n t =
      let s = of_eq _ _ n in
      sixteen c w d (e ∙ pick_yes _ _ _ s ∙ pick_not _ _ _ t) (f ∙ pick_yes _ _ _ s ∙ pick_not _ _ _ t)

  pub reset_17 : (length c ≡ listener_size → ⊥) → Seventeen c w d
  unfolding reset_answer reset_record
  reset_17 n =
      let k : T (length c =? listener_size) → ⊥ = λ t. n (eq_of _ _ t) in
      seventeen c w d (e ∙ pick_not _ _ _ k) (f ∙ pick_not _ _ _ k)

  pub reset_led : length c ≡ listener_size → T (known v y) → RecordLedBy v y d []
  unfolding new_listener machine
  reset_led n t =
      let k = (reset_new n t).1 in
      record {
        listener = new_listener v y;
        known = ap decode_of k ∙ decode_encode (new_listener v y) tt;
        led = new_led v y t;
        edition = refl;
        way = refl;
      }
