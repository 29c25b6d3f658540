-- The draft's record is laid down entry by entry over octets of 0, the texts beside it, and the header's readers read
-- it back.
-- Assumes nothing.
use Prim.Native.Nat.{ℕ, zero, suc, ◌+◌, ◌*◌, ◌-◌, ◌/◌, ◌%◌, ◌≤◌, ◌<◌}
use mathlib.Core.Path.{◌≡◌, refl, sym, ◌∙◌, ap, ap₂, subst}
use mathlib.Core.Bool.{Bool}
use mathlib.Core.List.{List, [], ◌∷◌, ◌++◌, append_assoc, append-nil}
use native.Mathlib.Omega.{arith}
use lib.ListN.{get_or-append, length, length-append, take, drop, set, get_or, replicate, replicate-append-replicate}
use lib.Seq.{take-append-add, drop-append-add, take-nil, drop-nil, set_split, get_or-append-add}
use lib.Dec.{T}
use Rattle.rules.specs.Message.{Message, most}
use Rattle.rules.specs.Tests.{◌=?◌, pick, every}
use Rattle.rules.proofs.Tests.{le_of, both}
use Rattle.rules.specs.Table.{Rules, form_number}
use Rattle.draft.specs.declared.Value.{Value}
use Rattle.draft.specs.declared.Value.TheVariants.{Date, Code, State, Text, Carried, Moment, Duration, Marked}
use Rattle.draft.specs.declared.Entry.{Entry}
use Rattle.draft.specs.declared.Draft.{Draft}
use Rattle.draft.specs.Draft.{no_entry, inside, all_inside}
use Rattle.draft.specs.Packing.{entry_of, entries_of, text_of, texts_of, draft_of}
use Rattle.draft.proofs.Packing.{pack}
use Rattle.message.specs.Parameters.{message_in, parameters_in}
use Rattle.message.proofs.Standing.{parameters_few}
use Rattle.rules.specs.Laying.{laid, laid_at}
use Rattle.message.specs.declared.Found.{Found}
use Rattle.reader.proofs.Laying.{founds, TakenEntries, filled_first, filled_room, filled_more, filled_end, LaidTexts, laid_first, laid_more, laid_end, sized_inside, sized_small, sized_end}
use Rattle.reader.proofs.Turns.{text_short}
use Rattle.reader.specs.Read.{stands, text_size}
use Rattle.firmware.specs.DraftRecord.{text_numbers, numbers_of, entry_cells, entries_cells, draft_record, value_of, cell_in, entry_in}
use Rattle.firmware.specs.Sizes.{draft_size}

-- ---- entries in their places
entry_length : (e : Entry) → length (entry_cells e) ≡ 8
unfolding entry_cells
entry_length e = refl

-- unused places are octets of 0
none_cells : (n : ℕ) → entries_cells (replicate n no_entry) ≡ replicate (8 * n) 0
unfolding entries_cells entry_cells numbers_of form_number
none_cells zero = refl
none_cells (suc n) =
    let z : 8 * suc n ≡ 8 + 8 * n = omega arith in
    ap (λ (l : List ℕ). replicate {A = ℕ} 8 0 ++ l) (none_cells n) ∙ replicate-append-replicate 8 (8 * n) 0
    ∙ ap (λ (k : ℕ). replicate {A = ℕ} k 0) (sym z)

cells_take : (i : ℕ) (es : List Entry) → take (8 * i) (entries_cells es) ≡ entries_cells (take i es)
unfolding entries_cells
cells_take zero es = refl
cells_take (suc i) [] = take-nil (8 * suc i)
cells_take (suc i) (e ∷ es) =
    let z : 8 * suc i ≡ length (entry_cells e) + 8 * i = omega (arith, entry_length e) in
    ap (λ (k : ℕ). take k (entry_cells e ++ entries_cells es)) z
    ∙ take-append-add (entry_cells e) (entries_cells es) (8 * i)
    ∙ ap (λ (l : List ℕ). entry_cells e ++ l) (cells_take i es)

cells_drop : (i : ℕ) (es : List Entry) → drop (8 * i) (entries_cells es) ≡ entries_cells (drop i es)
unfolding entries_cells
cells_drop zero es = refl
cells_drop (suc i) [] = drop-nil (8 * suc i)
cells_drop (suc i) (e ∷ es) =
    let z : 8 * suc i ≡ length (entry_cells e) + 8 * i = omega (arith, entry_length e) in
    ap (λ (k : ℕ). drop k (entry_cells e ++ entries_cells es)) z
    ∙ drop-append-add (entry_cells e) (entries_cells es) (8 * i) ∙ cells_drop i es

cells_append : (es fs : List Entry) → entries_cells (es ++ fs) ≡ entries_cells es ++ entries_cells fs
unfolding entries_cells
cells_append [] fs = refl
cells_append (e ∷ es) fs =
    ap (λ (l : List ℕ). entry_cells e ++ l) (cells_append es fs)
    ∙ sym (append_assoc (entry_cells e) (entries_cells es) (entries_cells fs))

abbrev zeros : List ℕ
zeros = replicate 8 0

-- an entry put at its place
put_entry : (es : List Entry) (i : ℕ) (e : Entry) → i < length es →
    laid_at (entry_cells e) (8 + 8 * i) (zeros ++ entries_cells es) ≡ zeros ++ entries_cells (set es i e)
unfolding laid_at entries_cells
put_entry es i e h =
    let n : 8 + 8 * i + length (entry_cells e) ≡ 8 + 8 * suc i = omega (arith, entry_length e) in
    ap₂ (λ (a b : List ℕ). a ++ (entry_cells e ++ b))
    (take-append-add zeros (entries_cells es) (8 * i) ∙ ap (λ (l : List ℕ). zeros ++ l) (cells_take i es))
    (ap (λ (k : ℕ). drop k (zeros ++ entries_cells es)) n ∙ drop-append-add zeros (entries_cells es) (8 * suc i)
    ∙ cells_drop (suc i) es)
    ∙ append_assoc zeros (entries_cells (take i es)) (entry_cells e ++ entries_cells (drop (suc i) es))
    ∙ ap (λ (l : List ℕ). zeros ++ l) (sym (cells_append (take i es) (e ∷ drop (suc i) es))
    ∙ ap entries_cells (sym (set_split es i e h)))

cells_length : (es : List Entry) → length (entries_cells es) ≡ 8 * length es
unfolding entries_cells
cells_length [] = refl
cells_length (e ∷ es) = omega (arith, length-append (entry_cells e) (entries_cells es), entry_length e, cells_length es)

-- ---- the loop over the entries and their texts
module _ (R : Rules) (o old : List ℕ) where
  pub record Recorded (left : List Found) (count used : ℕ) (cells texts : List ℕ) : Type 0 where
    pub entries : List Entry
    pub filled : TakenEntries R o left count used entries
    pub cells_are : cells ≡ zeros ++ entries_cells entries
    pub laid_down : LaidTexts R o old left used texts

  module _ (room : text_size R o ≤ length old) where
    pub recorded_first : (left : List Found) → left ≡ founds R o → (cells : List ℕ) → cells ≡ replicate draft_size 0 →
        Recorded left 0 0 cells old
    recorded_first left l cells e = record {
      entries = replicate most no_entry;
      filled = filled_first R o left l;
      cells_are =
          e ∙ sym (replicate-append-replicate 8 680 0) ∙ ap (λ (l : List ℕ). zeros ++ l) (sym (none_cells most));
      laid_down = laid_first R o old room left l;
    }

    module _ (left : List Found) (count used : ℕ) (cells texts : List ℕ)
        (w : Recorded left count used cells texts) where
      pub recorded_long : length cells ≡ draft_size
      recorded_long =
          omega (
            arith,
            ap length w.cells_are,
            length-append zeros (entries_cells w.entries),
            cells_length
                w.entries,
            w.filled.long,
          )

      module _ (f : Found) (fs : List Found) (l : left ≡ f ∷ fs) where
        pub recorded_inside : f.start + f.length ≤ length o
        recorded_inside = sized_inside R o f fs left l used w.filled.sized

        pub recorded_room : count < most
        recorded_room = filled_room R o f fs left l count used w.entries w.filled

        module _ (e : Entry) (n : ℕ) (p : e ≡ entry_of R used (stands o f))
            (q : n ≡ length (text_of R (stands o f))) where
          pub recorded_text : (n ≤ f.length) × (used + n ≤ length texts)
          recorded_text = (
            omega (arith, text_short R o f recorded_inside),
            omega (arith, sized_small R o f fs left l used w.filled.sized n q, w.laid_down.long),
          )

          pub recorded_more : (next after : List ℕ) → next ≡ laid_at (entry_cells e) (8 + 8 * count) cells →
              after ≡ laid_at (text_of R (stands o f)) used texts → Recorded fs (count + 1) (used + n) next after
          recorded_more next after a b = record {
            entries = set w.entries count e;
            filled = filled_more R o f fs left l count used w.entries w.filled e n p q;
            cells_are =
                a ∙ ap (laid_at (entry_cells e) (8 + 8 * count)) w.cells_are
                ∙ put_entry w.entries count e (omega (arith, w.filled.long, recorded_room));
            laid_down =
                subst (λ (k : ℕ). LaidTexts R o old fs (used + k) after) (sym q)
                (laid_more R o old room f fs left l used texts w.laid_down (text_of R (stands o f)) refl after b);
          }

      pub recorded_end : left ≡ [] →
          (count ≡ (draft_of R (message_in o)).count)
          × ((used ≡ text_size R o)
          × ((cells ≡ zeros ++ entries_cells (draft_of R (message_in o)).entries)
          × (texts ≡ laid (texts_of R (parameters_in o)) old)))
      recorded_end e =
          let z = filled_end R o left e count used w.entries w.filled
          (record { kind = get_or o 0 0; edition = R.edition; count = count; entries = w.entries }) refl refl refl refl in (
            ap (λ (d : Draft). d.count) z,
            (
              sized_end R o left e used w.laid_down.sized,
              (
                w.cells_are ∙ ap (λ (d : Draft). zeros ++ entries_cells d.entries) z,
                laid_end R o old room left e used texts w.laid_down,
              ),
            ),
          )

-- the header over eight octets of 0
pub headed : (d : Draft) (cells : List ℕ) (kind count edition : ℕ) → kind ≡ d.kind → count ≡ d.count →
    edition ≡ d.edition → cells ≡ zeros ++ entries_cells d.entries →
    set (set (set cells 0 kind) 1 count) 2 edition ≡ draft_record d
unfolding draft_record
headed d cells kind count edition k n v e =
    ap (λ (l : List ℕ). set (set (set l 0 kind) 1 count) 2 edition) e
    ∙ (λ i. k i ∷ n i ∷ v i ∷ 0 ∷ 0 ∷ 0 ∷ 0 ∷ 0 ∷ entries_cells d.entries)

pub draft_kind : (R : Rules) (o : List ℕ) → get_or o 0 0 ≡ (draft_of R (message_in o)).kind
unfolding draft_of message_in
draft_kind R o = refl

pub draft_edition : (R : Rules) (o : List ℕ) → R.edition ≡ (draft_of R (message_in o)).edition
unfolding draft_of
draft_edition R o = refl

pub count_small : (R : Rules) (o : List ℕ) → (draft_of R (message_in o)).count ≤ most
unfolding draft_of message_in parameters_in
count_small R o = parameters_few most o 2

-- ---- what the header's readers read back
two_octets : (n : ℕ) → n < 65536 → n % 256 + 256 * (n / 256 % 256) ≡ n
two_octets n h = omega arith

-- the numbers of a value say it, where its text ends below 65,536
value_back : (texts : List ℕ) (v : Value) → length texts < 65536 → T (inside texts v) → value_of (numbers_of v) ≡ v
unfolding value_of numbers_of text_numbers inside pick ◌=?◌ form_number
value_back texts (Date m y h n) l t = refl
value_back texts (Code x) l t = refl
value_back texts (State s r) l t = ap (State s) (omega arith)
value_back texts (Text s n) l t =
    let z = le_of _ _ t in
    ap₂ Text (two_octets s (omega arith)) (two_octets n (omega arith))
value_back texts (Carried s n) l t =
    let z = le_of _ _ t in
    ap₂ Carried (two_octets s (omega arith)) (two_octets n (omega arith))
value_back texts (Moment m y h n s) l t = refl
value_back texts (Duration h m s) l t = refl
value_back texts (Marked x s n) l t =
    let z = le_of _ _ t in
    ap₂ (Marked x) (two_octets s (omega arith)) (two_octets n (omega arith))

-- an octet of the first of some entries
first_cells : (e : Entry) (r : List ℕ) (k : ℕ) → k < 8 → get_or (entry_cells e ++ r) k 0 ≡ get_or (entry_cells e) k 0
first_cells e r k h = get_or-append (entry_cells e) r 0 k (omega (arith, entry_length e))

no_cells : (k : ℕ) → 0 ≡ get_or (entry_cells no_entry) k 0
unfolding entry_cells numbers_of form_number
no_cells k = sym (get_or-replicate 8 k)
  where
    get_or-replicate : (n k : ℕ) → get_or (replicate {A = ℕ} n 0) k 0 ≡ 0
    get_or-replicate zero k = refl
    get_or-replicate (suc n) zero = refl
    get_or-replicate (suc n) (suc k) = get_or-replicate n k

cells_at : (es : List Entry) (i k : ℕ) → k < 8 →
    get_or (entries_cells es) (8 * i + k) 0 ≡ get_or (entry_cells (get_or es i no_entry)) k 0
unfolding entries_cells
cells_at [] i k h = no_cells k
cells_at (e ∷ es) zero k h =
    let z : 8 * 0 + k ≡ k = omega arith in
    ap (λ (n : ℕ). get_or (entry_cells e ++ entries_cells es) n 0) z ∙ first_cells e (entries_cells es) k h
cells_at (e ∷ es) (suc i) k h =
    let z : 8 * suc i + k ≡ length (entry_cells e) + (8 * i + k) = omega (arith, entry_length e) in
    ap (λ (n : ℕ). get_or (entry_cells e ++ entries_cells es) n 0) z
    ∙ get_or-append-add (entry_cells e) (entries_cells es) (8 * i + k) 0
    ∙ cells_at es i k h

cell_is : (d : Draft) (i k : ℕ) → k < 8 →
    cell_in (draft_record d) i k ≡ get_or (entry_cells (get_or d.entries i no_entry)) k 0
unfolding draft_record
cell_is d i k h =
    let z : 8 + 8 * i + k ≡ 8 + (8 * i + k) = omega arith in
    ap (λ (n : ℕ). get_or (draft_record d) n 0) z
    ∙ get_or-append-add (d.kind ∷ d.count ∷ d.edition ∷ replicate 5 0) (entries_cells d.entries) (8 * i + k) 0
    ∙ cells_at d.entries i k h

-- what stands at entry i is the draft's entry i
pub entry_back : (d : Draft) (i : ℕ) (texts : List ℕ) → length texts < 65536 →
    T (inside texts (get_or d.entries i no_entry).value) → entry_in (draft_record d) i ≡ get_or d.entries i no_entry
unfolding entry_in entry_cells
entry_back d i texts l t =
    let e = get_or d.entries i no_entry in
    let at : (k : ℕ) → k < 8 → cell_in (draft_record d) i k ≡ get_or (entry_cells e) k 0 = cell_is d i in
    let v = (λ j. value_of
    (record {
      form = at 1 (omega arith) j;
      a = at 2 (omega arith) j;
      b = at 3 (omega arith) j;
      c = at 4 (omega arith) j;
      d = at 5 (omega arith) j;
      e = at 6 (omega arith) j;
      f = at 7 (omega arith) j;
    })) ∙ value_back texts e.value l t in
    λ j. record { kind = at 0 (omega arith) j; value = v j }

-- of a legal message every text of its draft lies inside the message's own texts
every_at : (f : Entry → Bool) (es : List Entry) (rest i : ℕ) → T (every f es) → T (f no_entry) →
    T (f (get_or (es ++ replicate rest no_entry) i no_entry))
unfolding every
every_at f [] zero i t n = n
every_at f [] (suc rest) zero t n = n
every_at f [] (suc rest) (suc i) t n = every_at f [] rest i t n
every_at f (e ∷ es) rest zero t n = (both _ _ t).0
every_at f (e ∷ es) rest (suc i) t n = every_at f es rest i (both _ _ t).1 n

pub draft_inside : (R : Rules) (m : Message) (i : ℕ) →
    T (inside (texts_of R m.parameters) (get_or (draft_of R m).entries i no_entry).value)
unfolding draft_of all_inside inside
draft_inside R m i =
    let texts = texts_of R m.parameters in
    every_at (λ (e : Entry). inside texts e.value) (entries_of R 0 m.parameters) (most - length m.parameters) i
    (pack R texts 0 [] m.parameters (omega arith) (sym (append-nil texts))).lies tt
