-- What the promises of the exports say of any records, octets, types and directories, read off the answer's word, for
-- whatever outcomes they allow.
-- Assumes nothing.
use Prim.Native.Nat.{ℕ, ◌≤◌}
use mathlib.Core.Path.{◌≡◌, sym, ◌∙◌, subst}
use mathlib.Core.Logic.{◌⊎◌, inl, inr, ◌↔◌}
use mathlib.Core.List.{List, [], ◌∷◌, ◌++◌}
use mathlib.Core.Option.{none}
use lib.ListN.{length, take, get_or}
use lib.Dec.{T}
use Rattle.rules.specs.Octets.{Octets}
use Rattle.rules.specs.Language.{language_of}
use Rattle.rules.specs.declared.Book.{Book}
use Rattle.rules.specs.Table.{rules_of}
use Rattle.rules.specs.Editions.{strict, known, book_of}
use Rattle.listener.specs.Heard.{stepped, new_listener}
use Rattle.listener.proofs.Hears.{B}
use Rattle.desk.specs.Settle.{new_desk}
use Rattle.message.specs.Judges.{verdict_number}
use Rattle.desk.specs.History.{OpenBy}
use Rattle.firmware.specs.Record.{record_of}
use Rattle.firmware.specs.DeskRecord.{is_record, desk_in}
use Rattle.firmware.specs.Word.{packed, word_edition, word_number, word_place, word_parameter, word_size, word_taken, Unpacked, Sixteen, Seventeen}
use Rattle.firmware.specs.Exports.{reset_answer, reset_record, word_of, listen_answer, listen_record, read_answer, read_record, read_texts, new_desk_answer, new_desk_record, settle_answer, settle_record, counted_answer, caption_answer, caption_record}
use Rattle.firmware.specs.RecordHears.{SameEnd, RecordHears, Stands, Numbers, Sound}
use Rattle.firmware.specs.RecordReads.{RecordReads}
use Rattle.firmware.specs.RecordSettles.{RecordSettles, IsDesk, RecordCall, last_said_in, SaysIn}
use Rattle.firmware.specs.RecordParts.{RecordCounts, RecordFinds}
use Rattle.firmware.proofs.DeskRecord.{small_in}
use Rattle.firmware.proofs.Coding.{decoded_good}
use Rattle.firmware.proofs.Classes.{NoneOr}
use Rattle.firmware.proofs.RecordHears as hears
use Rattle.firmware.proofs.RecordReads as reads
use Rattle.firmware.proofs.RecordSettles as settles
use Rattle.firmware.proofs.RecordParts as finds
use Rattle.firmware.proofs.anthercup_reset.Reads as reset
use Rattle.firmware.proofs.anthercup_reset_way.Reads as reset_way
use Rattle.firmware.proofs.anthercup_listen.Reads as listen
use Rattle.firmware.proofs.anthercup_read.Reads as read
use Rattle.firmware.proofs.anthercup_read_way.Reads as read_way
use Rattle.firmware.proofs.anthercup_new_desk.Reads as new_desk_reads
use Rattle.firmware.proofs.anthercup_settle.Reads as settle
use Rattle.firmware.proofs.anthercup_counted.Reads as counted
use Rattle.firmware.proofs.anthercup_caption.Reads as caption
use Rattle.firmware.specs.Sizes.{listener_size, draft_size, desk_size, part_size}

-- ---- what went in, the word that came back, and what the records then hold
-- by the edition e and the way y, a listener's record held c: `anthercup_reset_way`
abbrev pub ResetWayGives : ℕ → ℕ → List ℕ → ℕ → List ℕ → Type 0
ResetWayGives e y c w c' =
    (κs : _) × (a : _) × (s : _) × reset_way.Post κs a w s × (a.0 ≡ e) × (a.1.0 ≡ y) × (a.1.1.0.now ≡ c)
    × (s.1.1.0.now ≡ c')

-- by the edition e, no way named: `anthercup_reset`
abbrev pub ResetUnnamedGives : ℕ → List ℕ → ℕ → List ℕ → Type 0
ResetUnnamedGives e c w c' =
    (κs : _) × (a : _) × (s : _) × reset.Post κs a w s × (a.0 ≡ e) × (a.1.0.now ≡ c) × (s.1.0.now ≡ c')

-- a reset by the edition e and the way y: `anthercup_reset_way`, or, where that is the strict one, `anthercup_reset`
abbrev pub ResetGives : ℕ → ℕ → List ℕ → ℕ → List ℕ → Type 0
ResetGives e y c w c' = ResetWayGives e y c w c' ⊎ ((y ≡ strict) × ResetUnnamedGives e c w c')

-- a listener's record held c, and the run o: `anthercup_listen`
abbrev pub ListenGives : List ℕ → List ℕ → ℕ → List ℕ → Type 0
ListenGives c o w c' =
    (κs : _) × (a : _) × (s : _) × listen.Post κs a w s × (a.0.now ≡ c) × (a.1.0.now ≡ o) × (s.0.now ≡ c')

-- by the edition e and the way y, the octets o, a draft's record that held c and an area that held t:
-- `anthercup_read_way`
abbrev pub ReadWayGives : ℕ → ℕ → List ℕ → List ℕ → List ℕ → ℕ → List ℕ → List ℕ → Type 0
ReadWayGives e y o c t w c' t' =
    (κs : _) × (a : _) × (s : _) × read_way.Post κs a w s × (a.0 ≡ e) × (a.1.0 ≡ y) × (a.1.1.0.now ≡ o)
    × (a.1.1.1.0.now ≡ c) × (a.1.1.1.1.0.now ≡ t) × (s.1.1.1.0.now ≡ c')
    × (s.1.1.1.1.0.now ≡ t')

-- by the edition e, no way named: `anthercup_read`
abbrev pub ReadUnnamedGives : ℕ → List ℕ → List ℕ → List ℕ → ℕ → List ℕ → List ℕ → Type 0
ReadUnnamedGives e o c t w c' t' =
    (κs : _) × (a : _) × (s : _) × read.Post κs a w s × (a.0 ≡ e) × (a.1.0.now ≡ o) × (a.1.1.0.now ≡ c)
    × (a.1.1.1.0.now ≡ t) × (s.1.1.0.now ≡ c') × (s.1.1.1.0.now ≡ t')

-- a whole read by the edition e and the way y: `anthercup_read_way`, or, where that is the strict one,
-- `anthercup_read`
abbrev pub ReadGives : ℕ → ℕ → List ℕ → List ℕ → List ℕ → ℕ → List ℕ → List ℕ → Type 0
ReadGives e y o c t w c' t' =
    ReadWayGives e y o c t w c' t' ⊎ ((y ≡ strict) × ReadUnnamedGives e o c t w c' t')

-- a desk's record held c: `anthercup_new_desk`
abbrev pub NewDeskGives : List ℕ → ℕ → List ℕ → Type 0
NewDeskGives c w c' = (κs : _) × (a : _) × (s : _) × new_desk_reads.Post κs a w s × (a.0.now ≡ c) × (s.0.now ≡ c')

-- by the edition e and the way y, a desk's record that held c, and the octets o: `anthercup_settle`
abbrev pub SettleGives : ℕ → ℕ → List ℕ → List ℕ → ℕ → List ℕ → Type 0
SettleGives e y c o w c' =
    (κs : _) × (a : _) × (s : _) × settle.Post κs a w s × (a.0 ≡ e) × (a.1.0 ≡ y) × (a.1.1.0.now ≡ c)
    × (a.1.1.1.0.now ≡ o) × (s.1.1.0.now ≡ c')

-- by the edition e and the way y, the octets o and a type t: `anthercup_counted`
abbrev pub CountedGives : ℕ → ℕ → List ℕ → ℕ → ℕ → Type 0
CountedGives e y o t w =
    (κs : _) × (a : _) × (s : _) × counted.Post κs a w s × (a.0 ≡ e) × (a.1.0 ≡ y) × (a.1.1.0.now ≡ o)
    × (a.1.1.1.0 ≡ t)

-- by the edition e and the way y, the octets o, the directory d and a part's record that held c: `anthercup_caption`
abbrev pub CaptionGives : ℕ → ℕ → List ℕ → List ℕ → List ℕ → ℕ → List ℕ → Type 0
CaptionGives e y o d c w c' =
    (κs : _) × (a : _) × (s : _) × caption.Post κs a w s × (a.0 ≡ e) × (a.1.0 ≡ y) × (a.1.1.0.now ≡ o)
    × (a.1.1.1.0.now ≡ d) × (a.1.1.1.1.0.now ≡ c) × (s.1.1.1.1.0.now ≡ c')

-- ---- listening
-- word and record are those of the definitions, whichever of the two was called
reset_told : (e y : ℕ) (c : List ℕ) (w : ℕ) (c' : List ℕ) → ResetGives e y c w c' →
    (w ≡ reset_answer e y c) × (c' ≡ reset_record e y c)
reset_told e y c w c' (inl h) = (
  h.3.0 ∙ (λ i. reset_answer (h.4 i) (h.5 i) (h.6 i)),
  sym h.7 ∙ h.3.1 ∙ (λ i. reset_record (h.4 i) (h.5 i) (h.6 i)),
)
reset_told e y c w c' (inr (z, h)) = (
  h.3.0 ∙ (λ i. reset_answer (h.4 i) (sym z i) (h.5 i)),
  sym h.6 ∙ h.3.1 ∙ (λ i. reset_record (h.4 i) (sym z i) (h.5 i)),
)

module _ (e y : ℕ) (c : List ℕ) (w : ℕ) (c' : List ℕ) (h : ResetGives e y c w c') where
  reset_word : w ≡ reset_answer e y c
  reset_word = (reset_told e y c w c' h).0

  reset_cells : c' ≡ reset_record e y c
  reset_cells = (reset_told e y c w c' h).1

  -- a record of another size than 16 is 17, then an unknown edition or way 16, and it stays; any other is that of a new
  -- listener of the two, whatever it held, and the answer names the edition
  pub reset_is_new : length c ≡ listener_size → T (known e y) →
      Unpacked e 0 0 0 0 0 w × (c' ≡ record_of (new_listener e y))
  reset_is_new n t = hears.reset_new e y c w c' reset_word reset_cells n t

  pub reset_sixteen : length c ≡ listener_size → (T (known e y) → ⊥) → Sixteen c w c'
  reset_sixteen n t = hears.reset_16 e y c w c' reset_word reset_cells n t

  pub reset_seventeen : (length c ≡ listener_size → ⊥) → Seventeen c w c'
  reset_seventeen n = hears.reset_17 e y c w c' reset_word reset_cells n

module _ (c o : List ℕ) (w : ℕ) (c' : List ℕ) (h : ListenGives c o w c') where
  listen_word : w ≡ listen_answer c o
  listen_word = h.3.0 ∙ (λ i. listen_answer (h.4 i) (h.5 i))

  listen_cells : c' ≡ listen_record c o
  listen_cells = sym h.6 ∙ h.3.1 ∙ (λ i. listen_record (h.4 i) (h.5 i))

  -- any record at all is sound, or gets 16 or 17 with all other fields 0 and stays as it was
  pub sound_or_refused : Octets c → Sound c ⊎ (Sixteen c w c' ⊎ Seventeen c w c')
  sound_or_refused q = hears.sound_or_refused c o w c' listen_word listen_cells q

  -- 17 exactly where it stands for no listener in range, 16 exactly where it stands for one of an unknown edition or
  -- way; every other answer names the record's edition
  pub listen_seventeen : Octets c → Octets o → (word_number w ≡ 17) ↔ (Stands c → ⊥)
  listen_seventeen q p = hears.seventeen_iff c o w c' listen_word listen_cells q p

  pub listen_sixteen : Octets c → Octets o → (word_number w ≡ 16) ↔ (Stands c × (Numbers c → ⊥))
  listen_sixteen q p = hears.sixteen_iff c o w c' listen_word listen_cells q p

  pub listen_names : Octets c → Octets o → (word_number w ≡ 16 → ⊥) → (word_number w ≡ 17 → ⊥) →
      word_edition w ≡ get_or c 11 0
  listen_names q p a b = hears.names_edition c o w c' listen_word listen_cells q p a b

  -- the numbers of a sound record are 0 and those that its book gives; it is stepped by the written rule, also where no
  -- octets lead to it, and stays sound, of its edition and way
  pub numbers : Sound c → Octets o → NoneOr (rules_of (book_of (get_or c 11 0) (get_or c 12 0))) (word_number w)
  numbers s q = hears.sound_number c s o q w listen_word

  pub numbers_small : Sound c → Octets o → word_number w ≤ 10
  numbers_small s q = hears.sound_small c s o q w listen_word

  -- its word has edition, number, place, parameter, size and octets taken, and nothing else
  pub sound_word : Sound c → Octets o →
      (k : ℕ) × (p : ℕ) × (b : ℕ) × (n : ℕ) × (t : ℕ) × Unpacked (get_or c 11 0) k p b n t w
  sound_word s q = (
    _,
    _,
    _,
    _,
    _,
    hears.renamed _ _ _ _ _ _ _ w (hears.sound_edition c s o) (hears.sound_fields c s o q w listen_word),
  )

  pub by_the_rule : (s : Sound c) →
      (w ≡ word_of (stepped (language_of (B s.stands.listener)) s.stands.listener o))
      × (c' ≡ record_of (stepped (language_of (B s.stands.listener)) s.stands.listener o).listener)
  by_the_rule s = hears.sound_steps c s o w c' listen_word listen_cells

  pub stays_sound : Sound c → Octets o → Sound c' × (get_or c' 11 0 ≡ get_or c 11 0) × (get_or c' 12 0 ≡ get_or c 12 0)
  stays_sound s q =
      let z = hears.numbers_stay c s o c' listen_cells in
      (hears.sound_stays c s o q c' listen_cells, z.0, z.1)

-- the record c has heard the octets h since it was reset to the edition e and the way y, call after call, the octets
-- taken added to h
pub data RecordHasHeard : ℕ → ℕ → List ℕ → List ℕ → Type 0 where
  new : (e y : ℕ) (c : List ℕ) (w : ℕ) (c' : List ℕ) → T (known e y) → length c ≡ listener_size →
      ResetGives e y c w c' → RecordHasHeard e y c' []
  more : (e y : ℕ) (c h o : List ℕ) (w : ℕ) (c' : List ℕ) → RecordHasHeard e y c h → Octets o →
      ListenGives c o w c' → RecordHasHeard e y c' (h ++ take (word_taken w) o)

pub led_by : (e y : ℕ) (c h : List ℕ) → RecordHasHeard e y c h → hears.RecordLedBy e y c h
led_by e y c h (new _ _ b w d t n k) = hears.reset_led e y b w d (reset_word e y b w d k) (reset_cells e y b w d k) n t
led_by e y c h (more _ _ b g o w d k q x) =
    hears.record_led_on e y b g (led_by e y b g k) o q w (listen_word b o w d x) d (listen_cells b o w d x)

-- edition and way of a record are those of its reset, after any calls
pub numbers_kept : (e y : ℕ) (c h : List ℕ) → RecordHasHeard e y c h → (get_or c 11 0 ≡ e) × (get_or c 12 0 ≡ y)
numbers_kept e y c h d =
    let s = led_by e y c h d in
    let g = decoded_good c s.listener s.known in
    (sym g.edition ∙ s.edition, sym g.way ∙ s.way)

module _ (e y : ℕ) (c h : List ℕ) (d : RecordHasHeard e y c h) (o : List ℕ) (q : Octets o) (w : ℕ) (c' : List ℕ)
    (k : ListenGives c o w c') where
  -- demand 3 in all its sentences, the octets taken and the edition named too, read off the word
  pub demand3 : RecordHears (language_of (book_of e y)) e h o w
  demand3 = hears.record_hears e y c h (led_by e y c h d) o q w (listen_word c o w c' k)

  -- a record from a reset and any octets is never 16 or 17: its numbers are 0 and those that its book gives
  pub never_17 : NoneOr (rules_of (book_of e y)) (word_number w)
  never_17 =
      let z = numbers_kept e y c h d in
      subst (λ (b : Book). NoneOr (rules_of b) (word_number w)) (λ i. book_of (z.0 i) (z.1 i))
      (hears.sound_number c (hears.led_sound e y c h (led_by e y c h d)) o q w (listen_word c o w c' k))

  -- a message or a refusal, once given, is given again by each call after it, which takes none and leaves the record
  -- as it was
  pub answer_stays : (((word_number w ≡ 0) × (word_size w ≡ 0)) → ⊥) → (o' : List ℕ) (w' : ℕ) (c'' : List ℕ) →
      ListenGives c' o' w' c'' →
      (w' ≡ packed e (word_number w) (word_place w) (word_parameter w) (word_size w) 0) × (c'' ≡ c')
  answer_stays n o' w' c'' x =
      hears.answer_stays e y c h (led_by e y c h d) o q w (listen_word c o w c' k) c' (listen_cells c o w c' k) n o' w'
      c'' (listen_word c' o' w' c'' x) (listen_cells c' o' w' c'' x)

-- any cutting ends as one run does, on any record
pub cut_anywhere : (c x y : List ℕ) (w w₁ w₂ : ℕ) (d d₁ d₂ : List ℕ) → ListenGives c (x ++ y) w d →
    ListenGives c x w₁ d₁ → ListenGives d₁ y w₂ d₂ → Octets c → Octets x → Octets y → SameEnd w w₁ w₂ d d₂
cut_anywhere c x y w w₁ w₂ d d₁ d₂ h h₁ h₂ q a b =
    hears.cut_anywhere c x y w w₁ w₂ d d₁ d₂
    (listen_word c (x ++ y) w d h) (listen_cells c (x ++ y) w d h) (listen_word c x w₁ d₁ h₁)
    (listen_cells c x w₁ d₁ h₁) (listen_word d₁ y w₂ d₂ h₂) (listen_cells d₁ y w₂ d₂ h₂) q a b

-- ---- reading
-- word, record and texts are those of the definitions, whichever of the two was called
pub read_told : (e y : ℕ) (o c t : List ℕ) (w : ℕ) (c' t' : List ℕ) → ReadGives e y o c t w c' t' →
    (w ≡ read_answer e y o c t) × (c' ≡ read_record e y o c t) × (t' ≡ read_texts e y o c t)
read_told e y o c t w c' t' (inl h) = (
  h.3.0 ∙ (λ i. read_answer (h.4 i) (h.5 i) (h.6 i) (h.7 i) (h.8 i)),
  sym h.9 ∙ h.3.1.0 ∙ (λ i. read_record (h.4 i) (h.5 i) (h.6 i) (h.7 i) (h.8 i)),
  sym h.10 ∙ h.3.1.1 ∙ (λ i. read_texts (h.4 i) (h.5 i) (h.6 i) (h.7 i) (h.8 i)),
)
read_told e y o c t w c' t' (inr (z, h)) = (
  h.3.0 ∙ (λ i. read_answer (h.4 i) (sym z i) (h.5 i) (h.6 i) (h.7 i)),
  sym h.8 ∙ h.3.1.0 ∙ (λ i. read_record (h.4 i) (sym z i) (h.5 i) (h.6 i) (h.7 i)),
  sym h.9 ∙ h.3.1.1 ∙ (λ i. read_texts (h.4 i) (sym z i) (h.5 i) (h.6 i) (h.7 i)),
)

module _ (e y : ℕ) (o c t : List ℕ) (w : ℕ) (c' t' : List ℕ) (h : ReadGives e y o c t w c' t') where
  read_word : w ≡ read_answer e y o c t
  read_word = (read_told e y o c t w c' t' h).0

  read_cells : c' ≡ read_record e y o c t
  read_cells = (read_told e y o c t w c' t' h).1

  read_texts_lem : t' ≡ read_texts e y o c t
  read_texts_lem = (read_told e y o c t w c' t' h).2

  -- the record's size is judged first: another than 688 is 17, then an unknown edition or way 16, and nothing is
  -- touched
  pub read_seventeen : (length c ≡ draft_size → ⊥) → Seventeen c w c' × (t' ≡ t)
  read_seventeen n = reads.unread e y o c t w c' t' read_word read_cells read_texts_lem n

  pub read_sixteen : length c ≡ draft_size → (T (known e y) → ⊥) → Sixteen c w c' × (t' ≡ t)
  read_sixteen n k = reads.no_book_lem e y o c t w c' t' read_word read_cells read_texts_lem n k

  -- otherwise word, record and texts are those of the whole read
  pub record_read : Octets o → length c ≡ draft_size → T (known e y) → RecordReads e y o c t w c' t'
  record_read q n k = reads.record_reads e y o c t w c' t' read_word read_cells read_texts_lem q n k

-- ---- the desk
module _ (c : List ℕ) (w : ℕ) (c' : List ℕ) (h : NewDeskGives c w c') where
  new_desk_word : w ≡ new_desk_answer c
  new_desk_word = h.3.0 ∙ (λ i. new_desk_answer (h.4 i))

  new_desk_cells : c' ≡ new_desk_record c
  new_desk_cells = sym h.5 ∙ h.3.1 ∙ (λ i. new_desk_record (h.4 i))

  -- a record of 52 octets is that of a desk of which nothing is known and which holds no reference, whatever it held;
  -- any other is 17, and stays
  pub new_desk_lem : length c ≡ desk_size → Unpacked 0 0 0 0 0 0 w × T (is_record c') × (desk_in c' ≡ new_desk)
  new_desk_lem n = settles.new c w c' new_desk_word new_desk_cells n

  pub new_desk_seventeen : (length c ≡ desk_size → ⊥) → Seventeen c w c'
  new_desk_seventeen n = settles.new_17 c w c' new_desk_word new_desk_cells n

module _ (e y : ℕ) (c o : List ℕ) (w : ℕ) (c' : List ℕ) (h : SettleGives e y c o w c') where
  pub settle_word : w ≡ settle_answer e y c o
  settle_word = h.3.0 ∙ (λ i. settle_answer (h.4 i) (h.5 i) (h.6 i) (h.7 i))

  pub settle_cells : c' ≡ settle_record e y c o
  settle_cells = sym h.8 ∙ h.3.1 ∙ (λ i. settle_record (h.4 i) (h.5 i) (h.6 i) (h.7 i))

  -- a record of the right size and codes: word and record of its desk's settling; any other is 17, and stays
  pub settled_record : Octets o → T (is_record c) → RecordSettles e y (desk_in c) o w c'
  settled_record q t = settles.record_settles e y c o w c' settle_word settle_cells q t

  pub no_desk : (T (is_record c) → ⊥) → Seventeen c w c'
  no_desk n = settles.seventeen e y c o w c' settle_word settle_cells n

  -- 17 exactly for a record of another size, out of range or with a reference twice; then 16 exactly for an unknown
  -- edition or way
  pub seventeen_iff : Octets o → (word_number w ≡ 17) ↔ (IsDesk c → ⊥)
  seventeen_iff q = settles.seventeen_iff e y c o w c' settle_word settle_cells q

  pub sixteen_iff : Octets o → (word_number w ≡ 16) ↔ (IsDesk c × (T (known e y) → ⊥))
  sixteen_iff q = settles.sixteen_iff e y c o w c' settle_word settle_cells q

  -- the numbers it can give
  pub settle_numbers : Octets o →
      (word_number w ≡ 0) ⊎ ((T (known e y) × T (verdict_number (language_of (book_of e y)) (word_number w)))
      ⊎ ((word_number w ≡ 16) ⊎ ((word_number w ≡ 17) ⊎ (word_number w ≡ 21))))
  settle_numbers q = settles.numbers e y c o w c' settle_word settle_cells q

  -- a refusal leaves the record as it was
  pub refusal_stays : Octets c → Octets o → 1 ≤ word_number w → c' ≡ c
  refusal_stays k q n = settles.stays e y c o w c' settle_word settle_cells q k n

  -- the same octets settled twice running by one edition and way: the second call leaves and answers what the first
  -- did, whatever the record was
  pub settled_twice : (v : ℕ) (c'' : List ℕ) → SettleGives e y c' o v c'' → Octets c → Octets o → (v ≡ w) × (c'' ≡ c')
  settled_twice v c'' k q p =
      settles.again e y c o q p w c' v c'' settle_word settle_cells
      (k.3.0 ∙ (λ i. settle_answer (k.4 i) (k.5 i) (k.6 i) (k.7 i)))
      (sym k.8 ∙ k.3.1 ∙ (λ i. settle_record (k.4 i) (k.5 i) (k.6 i) (k.7 i)))

-- calls one after the other on a record, each by its own edition and way, each outcome as the promise allows it
abbrev pub RecordCalls : List ℕ → List RecordCall → List ℕ → Type 0
RecordCalls c [] c' = c ≡ c'
RecordCalls c (x ∷ xs) c' =
    SettleGives x.edition x.way c x.octets x.word x.cells × Octets x.octets
    × RecordCalls x.cells xs c'

-- a reference is open in the record after them exactly as the last notice says that was done and added or removed it;
-- without one, as it was before them
pub open_by_last : (r : ℕ) (c : List ℕ) → Octets c → T (is_record c) → (xs : List RecordCall) (c' : List ℕ) →
    RecordCalls c xs c' → OpenBy r (desk_in c).places (last_said_in r xs none) (desk_in c').places
open_by_last r c k t xs c' h = settles.record_open_by_last r c k t xs c' (history c xs h)
  where
    history : (c : List ℕ) (xs : List RecordCall) → RecordCalls c xs c' → settles.RecordHistory c xs c'
    history c [] h = h
    history c (x ∷ xs) h = (
      h.1,
      settle_word x.edition x.way c x.octets x.word x.cells h.0,
      settle_cells x.edition x.way c x.octets x.word x.cells h.0,
      history x.cells xs h.2,
    )

-- and what each of them says is the state and the reference of the 0DH that counts in its message, over the written
-- rules
pub says : (r : ℕ) (c : List ℕ) → Octets c → T (is_record c) → (x : RecordCall) →
    SettleGives x.edition x.way c x.octets x.word x.cells → Octets x.octets → SaysIn r x
says r c k t x h q =
    settles.says_in c t (small_in c k) x q (settle_word x.edition x.way c x.octets x.word x.cells h)
    (settle_cells x.edition x.way c x.octets x.word x.cells h) r

-- ---- what counts, and the caption
module _ (e y : ℕ) (o : List ℕ) (t w : ℕ) (h : CountedGives e y o t w) where
  pub counted_is : w ≡ counted_answer e y o t
  counted_is = h.3 ∙ (λ i. counted_answer (h.4 i) (h.5 i) (h.6 i) (h.7 i))

  -- the word is that of the contents that count, or of the whole read's refusal; an unknown edition or way is 16
  pub counted_word : Octets o → T (known e y) → RecordCounts e y o t w
  counted_word q k = finds.record_counts e y k o t w counted_is q

  pub counted_sixteen : (T (known e y) → ⊥) → Unpacked 0 16 0 0 0 0 w
  counted_sixteen n = finds.no_book_lem e y o t w counted_is n

module _ (e y : ℕ) (o d c : List ℕ) (w : ℕ) (c' : List ℕ) (h : CaptionGives e y o d c w c') where
  pub caption_word : w ≡ caption_answer e y o d c
  caption_word = h.3.0 ∙ (λ i. caption_answer (h.4 i) (h.5 i) (h.6 i) (h.7 i) (h.8 i))

  pub caption_cells : c' ≡ caption_record e y o d c
  caption_cells = sym h.9 ∙ h.3.1 ∙ (λ i. caption_record (h.4 i) (h.5 i) (h.6 i) (h.7 i) (h.8 i))

  -- the record's size is judged first: another than 24 is 17, and it stays
  pub caption_seventeen : (length c ≡ part_size → ⊥) → Seventeen c w c'
  caption_seventeen n = finds.no_part e y o d c w c' caption_word caption_cells n

  -- otherwise word and record are those of the part that is found, or of 16
  pub record_caption : Octets o → length c ≡ part_size → RecordFinds e y o d c w c'
  record_caption q n = finds.record_finds e y o d c w c' caption_word caption_cells q n
