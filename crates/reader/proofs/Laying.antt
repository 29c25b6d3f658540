-- How texts are laid down one behind the other, and entries taken one after the other: what holds between the turns
-- of the loops.
-- Assumes nothing.
use Rattle.std.proofs.Common.{Result, Ok, Err, true, false, Some, None}
use Rattle.std.specs.Result.{is_ok}
use Rattle.rules.proofs.Tests.{clash}
use Prim.Native.Nat.{ℕ, suc, ◌+◌, ◌-◌, ◌≤◌, ◌<◌}
use mathlib.Core.Path.{◌≡◌, refl, sym, ◌∙◌, ap, ap₂, subst}
use mathlib.Core.List.{List, [], ◌∷◌, ◌++◌, append-nil, append_assoc}
use native.Mathlib.Numerals.{add-one}
use native.Mathlib.Omega.{arith}
use lib.ListN.{length, length-append, length-drop, length-set, length-replicate, take, drop, set, get_or, replicate, take-append-drop}
use lib.Seq.{drop-drop, take-suc-set, drop-set-lt, length-take-le}
use Rattle.rules.specs.Table.{Rules}
use Rattle.rules.specs.declared.Fault.{Fault}
use Rattle.rules.specs.Message.{Parameter, most}
use Rattle.message.specs.declared.Found.{Found}
use Rattle.message.specs.Walk.{founds_from}
use Rattle.message.specs.Parameters.{parameters_in, message_in}
use Rattle.message.proofs.Walking.{founds_few, none_left, one_left, ended}
use Rattle.draft.specs.declared.Entry.{Entry}
use Rattle.draft.specs.declared.Draft.{Draft}
use Rattle.draft.specs.Draft.{no_entry, empty_of}
use Rattle.rules.specs.Laying.{laid, laid_at}
use Rattle.rules.proofs.Laying.{laid_front, laid_behind, laid_length}
use Rattle.draft.specs.Packing.{text_of, texts_of, entry_of, entries_of, draft_of}
use Rattle.draft.proofs.Packing.{entries_length}
use Rattle.reader.specs.Read.{text_with, stands, text_at, text_size, taken_at, pack_of, draft_from, read_of}
use Rattle.reader.specs.declared.Taken.{Taken}
use Rattle.reader.proofs.Turns.{stood, Lie, founds_stand, size_within, Took, took, took_none, text_here}

-- those that are left at a place, when so many were found before it
abbrev pub founds_at : List ℕ → ℕ → ℕ → List Found
founds_at o count place = founds_from (most - count) o place

-- none are left after 85
pub founds_full : (o : List ℕ) (count place : ℕ) → most ≤ count → founds_at o count place ≡ []
founds_full o count place h = sym (none_left (most - count) o place (omega (arith, h)))

-- a text found at a place is as long as it says
pub text_long_lem : (R : Rules) (o : List ℕ) (at start n place : ℕ) → text_with start n place ≡ text_at R o at →
    length (take n (drop start o)) ≡ n
text_long_lem R o at start n place e =
    let here = text_here R o 1 at (omega arith) start n place e in
    length-take-le n (drop start o) (omega (arith, length-drop start o, here.lies))

module _ (R : Rules) (o : List ℕ) where
  -- those found from the first parameter on
  abbrev pub founds : List Found
  founds = founds_from most o 2

  -- ---- the size of the texts: those so far, and those of what is still to come
  pub record Sized (fs : List Found) (size : ℕ) : Type 0 where
    pub lie : Lie o fs
    pub sum : size + length (texts_of R (stood o fs)) ≡ text_size R o

  first_size : Sized founds 0
  unfolding text_size parameters_in
  first_size =
      let all = founds_stand most o 2 in
      record { lie = all.1; sum = omega (arith, ap (λ (ps : List Parameter). length (texts_of R ps)) all.0) }

  pub sized_first : (left : List Found) → left ≡ founds → Sized left 0
  sized_first left e = subst (λ (l : List Found). Sized l 0) (sym e) first_size

  module _ (f : Found) (fs left : List Found) (e : left ≡ f ∷ fs) (size : ℕ) (sized : Sized left size) where
    s : Sized (f ∷ fs) size
    s = subst (λ (l : List Found). Sized l size) e sized

    pub sized_inside : f.start + f.length ≤ length o
    unfolding Lie
    sized_inside = s.lie.0

    module _ (n : ℕ) (p : n ≡ length (text_of R (stands o f))) where
      pub sized_more : Sized fs (size + n)
      unfolding Lie stood texts_of
      sized_more =
          record {
            lie = s.lie.1;
            sum = omega (arith, s.sum, p, length-append (text_of R (stands o f)) (texts_of R (stood o fs)));
          }

      pub sized_small : size + n ≤ text_size R o
      sized_small = omega (arith, sized_more.sum)

      pub sized_within : size + n ≤ length o
      sized_within = omega (arith, sized_small, size_within R o)

  pub sized_end : (left : List Found) → left ≡ [] → (size : ℕ) → Sized left size → size ≡ text_size R o
  unfolding stood texts_of
  sized_end left e size s = omega (arith, ap (λ (l : List Found). length (texts_of R (stood o l))) e, s.sum)

  -- ---- the texts laid down
  pub record LaidTexts (old : List ℕ) (fs : List Found) (used : ℕ) (area : List ℕ) : Type 0 where
    pub sized : Sized fs used
    pub long : length area ≡ length old
    pub texts : take used area ++ texts_of R (stood o fs) ≡ texts_of R (parameters_in o)
    pub rest : drop used area ≡ drop used old

  module _ (old : List ℕ) (room : text_size R o ≤ length old) where
    pub laid_first : (left : List Found) → left ≡ founds → LaidTexts old left 0 old
    unfolding parameters_in
    laid_first left e =
        record {
          sized = sized_first left e;
          long = refl;
          texts = ap (λ (l : List Found). texts_of R (stood o l)) e ∙ ap (texts_of R) (founds_stand most o 2).0;
          rest = refl;
        }

    module _ (f : Found) (fs left : List Found) (e : left ≡ f ∷ fs) (used : ℕ) (area : List ℕ)
        (laid : LaidTexts old left used area) (v : List ℕ) (p : v ≡ text_of R (stands o f)) where
      pub laid_room : used + length v ≤ length area
      laid_room = omega (arith, sized_small f fs left e used laid.sized (length v) (ap length p), laid.long)

      pub laid_more : (next : List ℕ) → next ≡ laid_at v used area → LaidTexts old fs (used + length v) next
      unfolding stood texts_of
      laid_more next q =
          record {
            sized = sized_more f fs left e used laid.sized (length v) (ap length p);
            long = ap length q ∙ laid_length v used area laid_room ∙ laid.long;
            texts =
                ap (λ (a : List ℕ). take (used + length v) a ++ texts_of R (stood o fs)) q
                ∙ ap (λ (a : List ℕ). a ++ texts_of R (stood o fs)) (laid_front v used area laid_room)
                ∙ append_assoc (take used area) v (texts_of R (stood o fs))
                ∙ ap (λ (u : List ℕ). take used area ++ (u ++ texts_of R (stood o fs))) p
                ∙ ap (λ (l : List Found). take used area ++ texts_of R (stood o l)) (sym e)
                ∙ laid.texts;
            rest =
                ap (drop (used + length v)) q
                ∙ laid_behind v used area laid_room
                ∙ sym (drop-drop (length v) used area) ∙ ap (drop (length v)) laid.rest
                ∙ drop-drop (length v) used old;
          }

    pub laid_end : (left : List Found) → left ≡ [] → (used : ℕ) (area : List ℕ) → LaidTexts old left used area →
        area ≡ laid (texts_of R (parameters_in o)) old
    unfolding laid stood texts_of text_size
    laid_end left e used area w =
        sym (take-append-drop used area)
        ∙ ap₂ ◌++◌
        (sym (append-nil (take used area))
        ∙ ap (λ (l : List Found). take used area ++ texts_of R (stood o l)) (sym e) ∙ w.texts)
        (w.rest ∙ ap (λ (k : ℕ). drop k old) (sized_end left e used w.sized))

  -- ---- the entries taken
  pub record TakenEntries (fs : List Found) (count used : ℕ) (entries : List Entry) : Type 0 where
    pub sized : Sized fs used
    pub few : count + length fs ≤ most
    pub long : length entries ≡ most
    pub front : take count entries ++ entries_of R used (stood o fs) ≡ entries_of R 0 (parameters_in o)
    pub rest : drop count entries ≡ replicate (most - count) no_entry

  pub filled_first : (left : List Found) → left ≡ founds → TakenEntries left 0 0 (replicate most no_entry)
  unfolding parameters_in
  filled_first left e =
      record {
        sized = sized_first left e;
        few = omega (arith, ap length e, founds_few most o 2);
        long = length-replicate most no_entry;
        front = ap (λ (l : List Found). entries_of R 0 (stood o l)) e ∙ ap (entries_of R 0) (founds_stand most o 2).0;
        rest = refl;
      }

  module _ (f : Found) (fs left : List Found) (e : left ≡ f ∷ fs) (count used : ℕ) (entries : List Entry)
      (taken : TakenEntries left count used entries) where
    pub filled_room : count < most
    filled_room = omega (arith, ap length e, taken.few)

    pub filled_more : (x : Entry) (n : ℕ) → x ≡ entry_of R used (stands o f) → n ≡ length (text_of R (stands o f)) →
        TakenEntries fs (count + 1) (used + n) (set entries count x)
    unfolding stood entries_of
    filled_more x n p q =
        let g : count < length entries = omega (arith, taken.long, filled_room) in
        record {
          sized = sized_more f fs left e used taken.sized n q;
          few = omega (arith, ap length e, taken.few);
          long = length-set entries count x ∙ taken.long;
          front =
              ap (λ (l : List Entry). l ++ entries_of R (used + n) (stood o fs))
              (ap (λ (k : ℕ). take k (set entries count x)) (add-one count) ∙ take-suc-set entries count x g)
              ∙ append_assoc (take count entries) (x ∷ []) (entries_of R (used + n) (stood o fs))
              ∙ ap₂ (λ (y : Entry) (k : ℕ). take count entries ++ (y ∷ entries_of R (used + k) (stood o fs))) p q
              ∙ ap (λ (l : List Found). take count entries ++ entries_of R used (stood o l)) (sym e)
              ∙ taken.front;
          rest =
              drop-set-lt (count + 1) entries count x (omega arith)
              ∙ sym (drop-drop 1 count entries)
              ∙ ap (drop 1)
              (taken.rest ∙ (let z : most - count ≡ suc (most - (count + 1)) = omega (arith, filled_room) in
              ap (λ (k : ℕ). replicate k no_entry) z));
        }

  -- ---- taken one by one, each at the place behind the one before it
  module _ (count place used : ℕ) (entries : List Entry)
      (taken : TakenEntries (founds_at o count place) count used entries) (h : count < most) where
    module _ (t : Taken) (e : Some t ≡ taken_at R o place used) where
      one : Took R o place used t
      one = took R o place used t e

      on : founds_at o count place ≡ one.found ∷ founds_at o (count + 1) t.place
      on =
          one_left (most - count) o place (omega (arith, h)) one.found one.here
          ∙ (let z : most - count - 1 ≡ most - (count + 1) = omega arith in
          ap₂ (λ (n at : ℕ). one.found ∷ founds_from n o at) z (sym one.place))

      pub turned_small : used + t.text ≤ length o
      turned_small = sized_within one.found _ _ on used taken.sized t.text one.text

      pub turned_more : TakenEntries (founds_at o (count + 1) t.place) (count + 1) (used + t.text)
          (set entries count t.entry)
      turned_more = filled_more one.found _ _ on count used entries taken t.entry t.text one.entry one.text

  pub turned_end : (count place used : ℕ) → None ≡ taken_at R o place used → founds_at o count place ≡ []
  turned_end count place used e = ended (most - count) o place (took_none R o place used e)

  pub filled_end : (left : List Found) → left ≡ [] → (count used : ℕ) (entries : List Entry) →
      TakenEntries left count used entries → (d : Draft) → d.kind ≡ get_or o 0 0 → d.edition ≡ R.edition →
      d.count ≡ count → d.entries ≡ entries →
      d ≡ draft_of R (message_in o)
  unfolding draft_of message_in stood entries_of
  filled_end left e count used entries w d k v c s =
      let t : take count entries ≡ entries_of R 0 (parameters_in o) =
      sym (append-nil (take count entries))
      ∙ ap (λ (l : List Found). take count entries ++ entries_of R used (stood o l)) (sym e) ∙ w.front in
      let n : count ≡ length (parameters_in o) =
      sym (length-take-le count entries (omega (arith, w.few, w.long))) ∙ ap length t
      ∙ entries_length R 0 (parameters_in o) in
      let a : d.count ≡ length (parameters_in o) = c ∙ n in
      let b : d.entries ≡ entries_of R 0 (parameters_in o) ++ replicate (most - length (parameters_in o)) no_entry =
      s ∙ sym (take-append-drop count entries)
      ∙ ap₂ ◌++◌ t (w.rest ∙ ap (λ (m : ℕ). replicate (most - m) no_entry) n) in
      λ i. record { kind = k i; edition = v i; count = a i; entries = b i }

-- ---- what becomes of the octets, and the draft to it
module _ (R : Rules) (o : List ℕ) (room : ℕ) (p : Result ℕ Fault) (d : Draft) (e : p ≡ pack_of R o room) where
  reads : (v : ℕ) → v ≡ R.edition → d ≡ draft_from R o p →
      (record { edition = v; answer = p; draft = d }) ≡ read_of R o room
  unfolding read_of
  reads v h q = let z = q ∙ ap (draft_from R o) e in λ i. record { edition = h i; answer = e i; draft = z i }

  pub reads_whole : (v : ℕ) → v ≡ R.edition → true ≡ is_ok p → d ≡ draft_of R (message_in o) →
      (record { edition = v; answer = p; draft = d }) ≡ read_of R o room
  unfolding draft_from
  reads_whole v h q f = reads v h (f ∙ whole p q)
    where
      whole : (x : Result ℕ Fault) → true ≡ is_ok x → draft_of R (message_in o) ≡ draft_from R o x
      whole (Ok n) q = refl
      whole (Err g) q = clash (cc q)

  pub reads_refused : (v : ℕ) → v ≡ R.edition → false ≡ is_ok p → d ≡ empty_of v 0 →
      (record { edition = v; answer = p; draft = d }) ≡ read_of R o room
  unfolding draft_from
  reads_refused v h q f = reads v h (f ∙ ap (λ (x : ℕ). empty_of x 0) h ∙ refused p q)
    where
      refused : (x : Result ℕ Fault) → false ≡ is_ok x → empty_of R.edition 0 ≡ draft_from R o x
      refused (Ok n) q = clash (cc q)
      refused (Err g) q = refl
