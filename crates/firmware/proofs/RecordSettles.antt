-- A desk's record is settled on as promised: the desk that it holds is settled, and the record of what that leaves is
-- written.
-- Assumes nothing.
use Rattle.std.proofs.Common.{Result, Ok, Err}
use Prim.Native.Nat.{ℕ, ◌≤◌, ◌<◌}
use mathlib.Core.Path.{◌≡◌, refl, sym, ◌∙◌, ap, subst}
use mathlib.Core.Logic.Iff
use mathlib.Core.Logic.{◌⊎◌, inl, inr, ◌↔◌}
use mathlib.Core.Bool.{Bool}
use mathlib.Core.List.{List, [], ◌∷◌}
use mathlib.Core.Option.{Option, none}
use native.Mathlib.Omega.{arith}
use lib.ListN.{length}
use lib.Dec.{T}
use Rattle.rules.specs.Tests.{◌=?◌}
use Rattle.rules.proofs.Tests.{pick_yes, pick_not, decide, of_eq, eq_of}
use Rattle.rules.specs.Octets.{Octets}
use Rattle.rules.specs.Table.{rules_of}
use Rattle.rules.specs.Editions.{known, book_of}
use Rattle.rules.specs.declared.Book.{Book}
use Rattle.message.specs.Judges.{verdict_number}
use Rattle.message.proofs.Judges.{told_small, near_declined, few_declined}
use Rattle.rules.specs.declared.Fault.{Fault}
use Rattle.rules.specs.Language.{language_of}
use Rattle.rules.proofs.Grammar.{spoken_of}
use Rattle.desk.specs.declared.Desk.{Desk}
use Rattle.desk.specs.declared.Outcome.{Outcome}
use Rattle.desk.proofs.Holding.{all_free}
use Rattle.desk.specs.Told.{Told, told, refusal, Clear, Settling}
use Rattle.desk.specs.Settle.{new_desk, settle_in}
use Rattle.desk.specs.History.{said_under, said, later, last_said, Call, OpenBy, Names}
use Rattle.desk.proofs.Words as words
use Rattle.desk.proofs.History.{History, open_by_last}
use Rattle.desk.proofs.Editions as settles
use Rattle.desk.proofs.Told.{unfit_iff, refused_iff, full_iff, done_iff, some_number, number_of_lem, noted_at, refusal_leaves}
use Rattle.desk.specs.Settles.{Settles, SettlesBy}
use Rattle.desk.specs.References.{place_count}
use Rattle.firmware.specs.DeskRecord.{is_record, desk_in, desk_record}
use Rattle.firmware.proofs.DeskRecord.{Small, small_in, record_is, decode_encode, encode_decode}
use Rattle.firmware.specs.Word as word
use Rattle.firmware.specs.Word.{word_number, Unpacked, unpacked, Seventeen}
use Rattle.firmware.proofs.RecordHears.{known_small}
use Rattle.firmware.specs.Exports.{bad_record, desk_word, new_desk_answer, new_desk_record, settle_answer, settle_record}
use Rattle.firmware.specs.RecordSettles.{RecordSettles, IsDesk, RecordCall, said_in, last_said_in, NamesIn, SaysIn}
use Rattle.firmware.specs.Sizes.{desk_size}

-- ---- by a book, numbers, places and parameters are small: a word has room for them
module _ (v : Book) (d : Desk) (o : List ℕ) (x : Outcome) (s : Settles (rules_of v) d o x) where
  number_small : (a : Result (Unit {0}) Fault) → x.answer ≡ a → (told a).number ≤ 21
  unfolding told
  number_small (Ok u) e = omega arith
  number_small (Err f) e = go (number_of_lem s f e)
    where
      go : T (verdict_number (language_of v) f.number) ⊎ ((f.number ≡ 17) ⊎ (f.number ≡ 21)) → f.number ≤ 21
      go (inl h) = omega (arith, (told_small (spoken_of v) _ h).1)
      go (inr (inl h)) = omega (arith, h)
      go (inr (inr h)) = omega (arith, h)

  near : (a : Result (Unit {0}) Fault) → x.answer ≡ a → (told a).place ≤ 258
  unfolding told
  near (Ok u) e = omega arith
  near (Err f) e = go (number_of_lem s f e)
    where
      go : T (verdict_number (language_of v) f.number) ⊎ ((f.number ≡ 17) ⊎ (f.number ≡ 21)) → f.place ≤ 258
      go (inl h) = near_declined s.judged f ((refused_iff s f (some_number s f e) h).0 e).1
      go (inr (inl h)) = omega (arith, ((unfit_iff s f.place).0 (e ∙ ap Err (noted_at s f e 17 h (inl refl)))).0)
      go (inr (inr h)) = omega (arith, ((full_iff s f.place).0 (e ∙ ap Err (noted_at s f e 21 h (inr refl)))).0)

  few : (a : Result (Unit {0}) Fault) → x.answer ≡ a → (told a).parameter ≤ 85
  unfolding told
  few (Ok u) e = omega arith
  few (Err f) e = go (number_of_lem s f e)
    where
      go : T (verdict_number (language_of v) f.number) ⊎ ((f.number ≡ 17) ⊎ (f.number ≡ 21)) → f.parameter ≤ 85
      go (inl h) = few_declined s.judged f ((refused_iff s f (some_number s f e) h).0 e).1
      go (inr (inl h)) = omega (arith, ap (λ (g : Fault). g.parameter) (noted_at s f e 17 h (inl refl)))
      go (inr (inr h)) = omega (arith, ap (λ (g : Fault). g.parameter) (noted_at s f e 21 h (inr refl)))

-- ---- by any numbers
module _ (v y : ℕ) (d : Desk) (o : List ℕ) (x : Settling) (s : SettlesBy v y d o x) where
  abbrev tells : Told
  tells = told x.answer.answer

  -- what is told, with its number as it is
  as_refusal : (k : ℕ) → tells.number ≡ k → tells ≡ refusal k tells.place tells.parameter
  as_refusal k e = λ i. refusal (e i) tells.place tells.parameter

  fields_small : (tells.number ≤ 21) × (tells.place ≤ 258) × (tells.parameter ≤ 85)
  fields_small = go (decide (known v y))
    where
      of_number : (k : ℕ) → tells.number ≡ k → k ≤ 21 → (tells.place ≡ 0) × (tells.parameter ≡ 0) →
          (tells.number ≤ 21) × (tells.place ≤ 258) × (tells.parameter ≤ 85)
      of_number k e h z = (omega arith, omega (arith, z.0), omega (arith, z.1))

      by_none : (tells.number ≡ 16) ⊎ (tells.number ≡ 17) →
          (tells.number ≤ 21) × (tells.place ≤ 258) × (tells.parameter ≤ 85)
      by_none (inl e) =
          let z = (s.sixteen _ _).0 (as_refusal 16 e) in of_number 16 e (omega arith) (z.0, z.1)
      by_none (inr e) =
          let z = (s.seventeen _ _).0 (as_refusal 17 e) in of_number 17 e (omega arith) (z.0, z.1)

      go : T (known v y) ⊎ (T (known v y) → ⊥) →
          (tells.number ≤ 21) × (tells.place ≤ 258) × (tells.parameter ≤ 85)
      go (inl t) =
          let b = s.by_book t in (
            number_small (book_of v y) d o x.answer b _ refl,
            near (book_of v y) d o x.answer b _ refl,
            few (book_of v y) d o x.answer b _ refl,
          )
      go (inr n) = by_none (s.unknown n)

  named_small : x.edition < 2
  named_small = go (decide (tells.number =? 16)) (decide (tells.number =? 17)) (decide (known v y))
    where
      go : T (tells.number =? 16) ⊎ (T (tells.number =? 16) → ⊥) →
          T (tells.number =? 17) ⊎ (T (tells.number =? 17) → ⊥) →
          T (known v y) ⊎ (T (known v y) → ⊥) → x.edition < 2
      go (inl a) b k = omega (arith, s.names_none (inl (eq_of _ _ a)))
      go (inr a) (inl b) k = omega (arith, s.names_none (inr (eq_of _ _ b)))
      go (inr a) (inr b) (inl k) =
          omega (
            arith,
            s.names (λ e. a (of_eq _ _ e)) (λ e. b (of_eq _ _ e)),
            known_small v y k,
          )
      go (inr a) (inr b) (inr k) = absurd (neither (s.unknown k))
        where
          neither : (tells.number ≡ 16) ⊎ (tells.number ≡ 17) → ⊥
          neither (inl e) = a (of_eq _ _ e)
          neither (inr e) = b (of_eq _ _ e)

  -- the desk that settling leaves has places that a record holds
  small_after : Small d.places → Small x.answer.desk.places
  small_after w = go (decide (known v y))
    where
      one_of : (tells.number ≡ 16) ⊎ (tells.number ≡ 17) → 1 ≤ tells.number
      one_of (inl e) = omega arith
      one_of (inr e) = omega arith

      by_answer : Settles (rules_of (book_of v y)) d o x.answer → (a : Result (Unit {0}) Fault) → x.answer.answer ≡ a →
          Small x.answer.desk.places
      by_answer b (Ok u) e =
          let f = b.fits ((done_iff b).0 e).0 in
          record { long = b.as_many ∙ w.long; below = λ i. omega (arith, f.range i) }
      by_answer b (Err f) e = subst (λ (y : Desk). Small y.places) (sym (refusal_leaves b f e)) w

      go : T (known v y) ⊎ (T (known v y) → ⊥) → Small x.answer.desk.places
      go (inl t) = by_answer (s.by_book t) _ refl
      go (inr n) =
          subst (λ (y : Desk). Small y.places) (sym (s.refusal_stays (one_of (s.unknown n)))) w

module _ (v y : ℕ) (c o : List ℕ) (w : ℕ) (c' : List ℕ) (a : w ≡ settle_answer v y c o)
    (b : c' ≡ settle_record v y c o) where
  pub seventeen : (T (is_record c) → ⊥) → Seventeen c w c'
  unfolding settle_answer settle_record
  seventeen n = word.seventeen c w c' (a ∙ pick_not _ _ _ n) (b ∙ pick_not _ _ _ n)

  abbrev result : Settling
  result = settle_in v y (desk_in c) o

  settled_word : Octets o → T (is_record c) →
      let k = told result.answer.answer in
      Unpacked result.edition k.number k.place k.parameter 0 0 w
  unfolding settle_answer desk_word
  settled_word q t =
      let s = settles.settles_by v y (desk_in c) o q in
      let k = told result.answer.answer in
      let z = fields_small v y (desk_in c) o result s in
      subst (Unpacked result.edition k.number k.place k.parameter 0 0) (sym (a ∙ pick_yes _ _ _ t))
      (unpacked result.edition k.number k.place k.parameter 0 0
      (named_small v y (desk_in c) o result s) (omega (arith, z.0)) (omega (arith, z.1)) (omega (arith, z.2))
      (omega arith) (omega arith))

  pub record_settles : Octets o → T (is_record c) → RecordSettles v y (desk_in c) o w c'
  unfolding settle_record
  record_settles q t = record {
    settling = result;
    settles = settles.settles_by v y (desk_in c) o q;
    word = settled_word q t;
    cells = b ∙ pick_yes _ _ _ t;
  }

  module _ (q : Octets o) where
    -- 17 exactly for a record of another size, with a code or number out of range, or with a reference twice
    pub seventeen_iff : (word_number w ≡ 17) ↔ (IsDesk c → ⊥)
    seventeen_iff = go (decide (is_record c))
      where
        go : T (is_record c) ⊎ (T (is_record c) → ⊥) → (word_number w ≡ 17) ↔ (IsDesk c → ⊥)
        go (inl t) =
            let x = record_settles q t in
            let s = x.settles in (
              λ z i. ((s.seventeen _ _).0
                  (as_refusal v y (desk_in c) o x.settling s 17 (sym x.word.number ∙ z))).2 i.places,
              λ n. x.word.number ∙ ap (λ (z : Told). z.number)
                  ((s.seventeen 0 0).1 (refl, refl, λ i. n (record { codes = t; places = i }))),
            )
        go (inr n) = (λ _ i. n i.codes, λ _. (seventeen n).word.number)

    -- 16 exactly for a desk's record and an unknown edition or way
    pub sixteen_iff : (word_number w ≡ 16) ↔ (IsDesk c × (T (known v y) → ⊥))
    sixteen_iff = go (decide (is_record c))
      where
        go : T (is_record c) ⊎ (T (is_record c) → ⊥) → (word_number w ≡ 16) ↔ (IsDesk c × (T (known v y) → ⊥))
        go (inl t) =
            let x = record_settles q t in
            let s = x.settles in (
              λ i.
                  let z = (s.sixteen _ _).0
                  (as_refusal v y (desk_in c) o x.settling s 16 (sym x.word.number ∙ i)) in
                  (record { codes = t; places = z.2 }, z.3),
              λ n. x.word.number ∙ ap (λ (z : Told). z.number)
                  ((s.sixteen 0 0).1 (refl, refl, n.0.places, n.1)),
            )
        go (inr n) = (λ x. absurd (omega (arith, x, (seventeen n).word.number)), λ i. absurd (n i.0.codes))

    -- no number but 0, those of the verdict by the book, 16, 17 and 21
    abbrev Numbers : ℕ → Type 0
    Numbers n =
        (n ≡ 0) ⊎ ((T (known v y) × T (verdict_number (language_of (book_of v y)) n))
        ⊎ ((n ≡ 16) ⊎ ((n ≡ 17) ⊎ (n ≡ 21))))

    pub numbers : Numbers (word_number w)
    unfolding told
    numbers = go (decide (is_record c)) (decide (known v y))
      where
        of_fault : (n : ℕ) (f : Fault) → n ≡ f.number → T (known v y) →
            T (verdict_number (language_of (book_of v y)) f.number) ⊎ ((f.number ≡ 17) ⊎ (f.number ≡ 21)) →
            Numbers n
        of_fault n f e k (inl h) =
            inr (inl (k, subst (λ (m : ℕ). T (verdict_number (language_of (book_of v y)) m)) (sym e) h))
        of_fault n f e k (inr (inl h)) = inr (inr (inr (inl (e ∙ h))))
        of_fault n f e k (inr (inr h)) = inr (inr (inr (inr (e ∙ h))))

        desk : (t : T (is_record c)) (x : RecordSettles v y (desk_in c) o w c') → T (known v y) → (k : Result (Unit {0}) Fault) →
            x.settling.answer.answer ≡ k → Numbers (word_number w)
        desk t x l (Ok u) e = inl (x.word.number ∙ ap (λ (a : Result (Unit {0}) Fault). (told a).number) e)
        desk t x l (Err f) e =
            of_fault (word_number w) f (x.word.number ∙ ap (λ (a : Result (Unit {0}) Fault). (told a).number) e) l
            (number_of_lem (x.settles.by_book l) f e)

        by_none : (n : ℕ) → (n ≡ 16) ⊎ (n ≡ 17) → Numbers n
        by_none n (inl e) = inr (inr (inl e))
        by_none n (inr e) = inr (inr (inr (inl e)))

        go : T (is_record c) ⊎ (T (is_record c) → ⊥) → T (known v y) ⊎ (T (known v y) → ⊥) →
            Numbers (word_number w)
        go (inl t) (inl l) = let x = record_settles q t in desk t x l _ refl
        go (inl t) (inr l) =
            let x = record_settles q t in subst Numbers (sym x.word.number) (by_none _ (x.settles.unknown l))
        go (inr n) l = inr (inr (inr (inl (seventeen n).word.number)))

    -- a refusal leaves the record as it was
    pub stays : Octets c → 1 ≤ word_number w → c' ≡ c
    stays k n = go (decide (is_record c))
      where
        go : T (is_record c) ⊎ (T (is_record c) → ⊥) → c' ≡ c
        go (inl t) =
            let x = record_settles q t in
            x.cells ∙ ap desk_record (x.settles.refusal_stays (omega (arith, x.word.number))) ∙ encode_decode c k t
        go (inr m) = (seventeen m).cells

-- ---- settled twice running, by one edition and way, known or not
pub again : (v y : ℕ) (c o : List ℕ) → Octets c → Octets o → (w : ℕ) (c₁ : List ℕ) (w₂ : ℕ) (c₂ : List ℕ) →
    w ≡ settle_answer v y c o → c₁ ≡ settle_record v y c o → w₂ ≡ settle_answer v y c₁ o → c₂ ≡ settle_record v y c₁ o →
    (w₂ ≡ w) × (c₂ ≡ c₁)
unfolding settle_answer settle_record
again v y c o k q w c₁ w₂ c₂ a b e f = go (decide (is_record c))
  where
    go : T (is_record c) ⊎ (T (is_record c) → ⊥) → (w₂ ≡ w) × (c₂ ≡ c₁)
    go (inl t) =
        let x = settle_in v y (desk_in c) o in
        let z = small_after v y (desk_in c) o x (settles.settles_by v y (desk_in c) o q) (small_in c k) in
        let i : c₁ ≡ desk_record x.answer.desk = b ∙ pick_yes _ _ _ t in
        let r : T (is_record c₁) = subst (λ (y : List ℕ). T (is_record y)) (sym i) (record_is x.answer.desk z) in
        let j : settle_in v y (desk_in c₁) o ≡ x =
        ap (λ (d : Desk). settle_in v y d o) (ap desk_in i ∙ decode_encode x.answer.desk z)
        ∙ settles.settled_twice v y (desk_in c) o q in (
          e ∙ pick_yes _ _ _ r ∙ ap (λ (y : Settling). desk_word y.edition y.answer.answer) j
              ∙ sym (a ∙ pick_yes _ _ _ t),
          f ∙ pick_yes _ _ _ r ∙ ap (λ (y : Settling). desk_record y.answer.desk) j ∙ sym i,
        )
    go (inr n) =
        let i : c₁ ≡ c = b ∙ pick_not _ _ _ n in (
          e ∙ ap (λ (x : List ℕ). settle_answer v y x o) i ∙ sym a,
          f ∙ ap (λ (x : List ℕ). settle_record v y x o) i ∙ sym b,
        )

-- a record made new is that of a desk of which nothing is known and which holds no reference
pub new : (c : List ℕ) (w : ℕ) (c' : List ℕ) → w ≡ new_desk_answer c → c' ≡ new_desk_record c → length c ≡ desk_size →
    Unpacked 0 0 0 0 0 0 w × T (is_record c') × (desk_in c' ≡ new_desk)
unfolding new_desk_answer new_desk_record
new c w c' a b n =
    let z : Small new_desk.places = record { long = refl; below = λ i. omega (arith, all_free place_count i) } in
    let e : c' ≡ desk_record new_desk = b ∙ pick_yes (length c =? desk_size) _ c (of_eq _ _ n) in (
      subst (Unpacked 0 0 0 0 0 0) (sym (a ∙ pick_yes (length c =? desk_size) _ bad_record (of_eq _ _ n)))
          (unpacked 0 0 0 0 0 0 (omega arith) (omega arith) (omega arith) (omega arith) (omega arith) (omega arith)),
      subst (λ (y : List ℕ). T (is_record y)) (sym e) (record_is new_desk z),
      ap desk_in e ∙ decode_encode new_desk z,
    )

-- another size than 52 is 17, and the record stays
pub new_17 : (c : List ℕ) (w : ℕ) (c' : List ℕ) → w ≡ new_desk_answer c → c' ≡ new_desk_record c →
    (length c ≡ desk_size → ⊥) → Seventeen c w c'
unfolding new_desk_answer new_desk_record
new_17 c w c' a b n =
    let k : T (length c =? desk_size) → ⊥ = λ t. n (eq_of _ _ t) in
    word.seventeen c w c' (a ∙ pick_not _ _ _ k) (b ∙ pick_not _ _ _ k)

-- ---- call after call
-- calls one after the other, from the record c to the record c': each on the record that the one before left
abbrev pub RecordHistory : List ℕ → List RecordCall → List ℕ → Type 0
RecordHistory c [] c' = c ≡ c'
RecordHistory c (x ∷ xs) c' =
    Octets x.octets × (x.word ≡ settle_answer x.edition x.way c x.octets)
    × (x.cells ≡ settle_record x.edition x.way c x.octets) × RecordHistory x.cells xs c'

-- on a record that is one, a call says what the same call says on its desk
module _ (c : List ℕ) (t : T (is_record c)) (w : Small (desk_in c).places) (x : RecordCall) (q : Octets x.octets)
    (a : x.word ≡ settle_answer x.edition x.way c x.octets)
    (b : x.cells ≡ settle_record x.edition x.way c x.octets) where
  abbrev as_call : Call
  as_call =
      record {
        edition = x.edition;
        way = x.way;
        octets = x.octets;
        settled = settle_in x.edition x.way (desk_in c) x.octets;
      }

  said_so : SettlesBy x.edition x.way (desk_in c) x.octets as_call.settled
  said_so = settles.settles_by x.edition x.way (desk_in c) x.octets q

  number_is : word_number x.word ≡ (told as_call.settled.answer.answer).number
  number_is = (settled_word x.edition x.way c x.octets x.word x.cells a b q t).number

  no_number : (f : Fault) → as_call.settled.answer.answer ≡ Err f → f.number ≡ 0 → ⊥
  no_number f e z = let l = subst Clear e said_so.clear in omega (arith, l, z)

  same_word : (r : ℕ) → said_in r x ≡ said r as_call
  unfolding said_in said said_under told
  same_word r = go as_call.settled.answer.answer refl
    where
      go : (k : Result (Unit {0}) Fault) → as_call.settled.answer.answer ≡ k →
          said_in r x ≡
          said_under (rules_of (book_of x.edition x.way)) r x.octets as_call.settled.answer.answer
      go (Ok u) e =
          pick_yes _ _ _ (of_eq _ _ (number_is ∙ ap (λ (x : Result (Unit {0}) Fault). (told x).number) e))
          ∙ ap (said_under (rules_of (book_of x.edition x.way)) r x.octets) (sym e)
      go (Err f) e =
          pick_not _ _ _ (λ z. no_number f e
          (sym (ap (λ (x : Result (Unit {0}) Fault). (told x).number) e) ∙ sym number_is ∙ eq_of _ _ z))
          ∙ ap (said_under (rules_of (book_of x.edition x.way)) r x.octets) (sym e)

  after_is : x.cells ≡ desk_record as_call.settled.answer.desk
  unfolding settle_record
  after_is = b ∙ pick_yes _ _ _ t

  after_small : Small as_call.settled.answer.desk.places
  after_small = small_after x.edition x.way (desk_in c) x.octets as_call.settled said_so w

  after_desk : desk_in x.cells ≡ as_call.settled.answer.desk
  after_desk = ap desk_in after_is ∙ decode_encode as_call.settled.answer.desk after_small

  after_record : T (is_record x.cells)
  after_record =
      subst (λ (y : List ℕ). T (is_record y)) (sym after_is) (record_is as_call.settled.answer.desk after_small)

  -- number 0 exactly where the desk's own call is done
  call_done : (as_call.settled.answer.answer ≡ (Ok tt)) ↔ (word_number x.word ≡ 0)
  unfolding told
  call_done = (
    λ e. number_is ∙ ap (λ (x : Result (Unit {0}) Fault). (told x).number) e,
    λ e. go as_call.settled.answer.answer refl (sym number_is ∙ e),
  )
    where
      go : (k : Result (Unit {0}) Fault) → as_call.settled.answer.answer ≡ k →
          (told as_call.settled.answer.answer).number ≡ 0 → as_call.settled.answer.answer ≡ (Ok tt)
      go (Ok u) e z = e
      go (Err f) e z = absurd (no_number f e (sym (ap (λ (x : Result (Unit {0}) Fault). (told x).number) e) ∙ z))

  names_iff : (s r : ℕ) → Names as_call s r ↔ NamesIn x s r
  names_iff s r = (
    λ n. record {
      by_known = n.by_known;
      m = n.m;
      legal = n.legal;
      is = n.is;
      notice = n.notice;
      done = call_done.0 n.done;
      high = n.high;
      low = n.low;
      counts = n.counts;
      reference = n.reference;
    },
    λ n. record {
      by_known = n.by_known;
      m = n.m;
      legal = n.legal;
      is = n.is;
      notice = n.notice;
      done = call_done.1 n.done;
      high = n.high;
      low = n.low;
      counts = n.counts;
      reference = n.reference;
    },
  )

  -- the word of a call is the state and the reference of the 0DH that counts in its message
  pub says_in : (r : ℕ) → SaysIn r x
  says_in r =
      let y = words.says r as_call (desk_in c) refl q in
      record {
        opens = rw (same_word r) (Iff.trans y.opens (names_iff 0xFF r));
        closes = rw (same_word r) (Iff.trans y.closes (names_iff 0x00 r));
      }

goes_on : (r : ℕ) (c : List ℕ) → T (is_record c) → Small (desk_in c).places → (xs : List RecordCall) (c' : List ℕ) →
    RecordHistory c xs c' →
    (cs : List Call) × History (desk_in c) cs (desk_in c') × ((b : Option Bool) → last_said_in r xs b ≡ last_said r cs b)
unfolding last_said_in last_said
goes_on r c t w [] c' h = ([], ap desk_in h, λ b. refl)
goes_on r c t w (x ∷ xs) c' h =
    let e = after_desk c t w x h.0 h.1 h.2 in
    let k = goes_on r x.cells (after_record c t w x h.0 h.1 h.2)
    (subst (λ (y : Desk). Small y.places) (sym e) (after_small c t w x h.0 h.1 h.2)) xs c' h.3 in (
      as_call c t w x h.0 h.1 h.2 ∷ k.0,
      (refl, subst (λ (y : Desk). History y k.0 (desk_in c')) e k.1),
      λ b. k.2 (later (said_in r x) b) ∙ ap (λ (y : Option Bool). last_said r k.0 (later y b))
          (same_word c t w x h.0 h.1 h.2 r),
    )

-- a reference stands in the places of the last record as the last word on it says
pub record_open_by_last : (r : ℕ) (c : List ℕ) → Octets c → T (is_record c) → (xs : List RecordCall) (c' : List ℕ) →
    RecordHistory c xs c' → OpenBy r (desk_in c).places (last_said_in r xs none) (desk_in c').places
record_open_by_last r c k t xs c' h =
    let g = goes_on r c t (small_in c k) xs c' h in
    subst (λ (b : Option Bool). OpenBy r (desk_in c).places b (desk_in c').places) (sym (g.2 none))
    (open_by_last r (desk_in c) g.0 (desk_in c') g.1)
