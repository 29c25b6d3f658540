-- What reading and laying down the places of a desk's record, and settling on it, want.
-- Assumes nothing.
use Rattle.desk.specs.Told.{Settling}
use Prim.Native.Nat.{ℕ, zero, suc, ◌+◌, ◌*◌, ◌-◌, ◌≤◌, ◌<◌}
use mathlib.Core.Path.{◌≡◌, refl, sym, ◌∙◌, ap, ap₂}
use mathlib.Core.Bool.{Bool, true, false}
use mathlib.Core.List.{List, [], ◌∷◌, ◌++◌, append_assoc, append-nil}
use native.Mathlib.Numerals.{add-one}
use native.Mathlib.Omega.{arith}
use lib.ListN.{length, length-set, take, drop, set, get_or}
use lib.Seq.{take_all, take-suc, take-suc-set, drop-drop}
use Rattle.rules.proofs.Returns.{pick_t, pick_f, via}
use Rattle.desk.specs.declared.Desk.{Desk}
use Rattle.desk.specs.Settle.{settle_in}
use Rattle.rules.specs.Laying.{laid_at}
use Rattle.rules.proofs.Laying.{laid_front, laid_length, rest_whole}
use Rattle.desk.specs.References.{place_count}
use Rattle.firmware.specs.DeskRecord.{is_record, place_in, places_in, desk_in, place_cells, places_cells, desk_record}
use Rattle.firmware.specs.Exports.{bad_record, desk_word, settle_answer, settle_record}
use Rattle.firmware.specs.Sizes.{desk_size}

-- ---- the places of a record, one after the other
places_snoc : (i : ℕ) (b : List ℕ) → places_in (suc i) b ≡ places_in i b ++ (place_in (drop (3 * i) b) ∷ [])
unfolding places_in
places_snoc zero b = refl
places_snoc (suc i) b =
    let z : 3 + 3 * i ≡ 3 * suc i = omega arith in
    ap (λ (l : List ℕ). place_in b ∷ l)
    (places_snoc i (drop 3 b) ∙ ap (λ (x : List ℕ). places_in i (drop 3 b) ++ (place_in x ∷ []))
    (drop-drop (3 * i) 3 b ∙ ap (λ (k : ℕ). drop k b) z))

-- the places before i are read
pub record ReadPlaces (c : List ℕ) (i : ℕ) (ps : List ℕ) : Type 0 where
  pub below : i ≤ place_count
  pub long : length ps ≡ place_count
  pub front : take i ps ≡ places_in i (drop 4 c)

pub taken_first : (c ps : List ℕ) → length ps ≡ place_count → ReadPlaces c 0 ps
unfolding places_in
taken_first c ps l = record { below = omega arith; long = l; front = refl }

module _ (c : List ℕ) (i : ℕ) (ps : List ℕ) (w : ReadPlaces c i ps) where
  pub taken_more : i < place_count → (p : ℕ) → p ≡ place_in (take (length c - (4 + 3 * i)) (drop (4 + 3 * i) c)) →
      ReadPlaces c (i + 1) (set ps i p)
  taken_more h p e =
      let x : take (length c - (4 + 3 * i)) (drop (4 + 3 * i) c) ≡ drop (3 * i) (drop 4 c) =
      rest_whole (4 + 3 * i) c ∙ sym (drop-drop (3 * i) 4 c) in
      record {
        below = omega arith;
        long = length-set ps i p ∙ w.long;
        front =
            ap (λ (k : ℕ). take k (set ps i p)) (add-one i) ∙ take-suc-set ps i p (omega (arith, w.long))
            ∙ ap₂ (λ (l : List ℕ) (v : ℕ). l ++ (v ∷ [])) w.front (e ∙ ap place_in x)
            ∙ sym (places_snoc i (drop 4 c)) ∙ ap (λ (k : ℕ). places_in k (drop 4 c)) (sym (add-one i));
      }

  pub taken_end : place_count ≤ i → ps ≡ places_in place_count (drop 4 c)
  taken_end h =
      let z : i ≡ place_count = omega (arith, w.below) in
      sym (take_all i ps (omega (arith, w.long))) ∙ w.front ∙ ap (λ (k : ℕ). places_in k (drop 4 c)) z

-- ---- places laid down, one after the other
cells_append : (ps qs : List ℕ) → places_cells (ps ++ qs) ≡ places_cells ps ++ places_cells qs
unfolding places_cells
cells_append [] qs = refl
cells_append (p ∷ ps) qs =
    ap (λ (l : List ℕ). place_cells p ++ l) (cells_append ps qs)
    ∙ sym (append_assoc (place_cells p) (places_cells ps) (places_cells qs))

one_cells : (p : ℕ) → places_cells (p ∷ []) ≡ place_cells p
unfolding places_cells
one_cells p = append-nil (place_cells p)

three : (p : ℕ) → length (place_cells p) ≡ 3
unfolding place_cells
three p = refl

-- the places before i are laid behind the first four octets
pub record LaidPlaces (old ps : List ℕ) (i : ℕ) (cells : List ℕ) : Type 0 where
  pub below : i ≤ place_count
  pub long : length cells ≡ desk_size
  pub front : take (4 + 3 * i) cells ≡ take 4 old ++ places_cells (take i ps)

pub laid_first : (old ps : List ℕ) → length old ≡ desk_size → LaidPlaces old ps 0 old
unfolding places_cells
laid_first old ps l = record { below = omega arith; long = l; front = sym (append-nil (take 4 old)) }

module _ (old ps : List ℕ) (i : ℕ) (cells : List ℕ) (w : LaidPlaces old ps i cells) (l : length ps ≡ place_count) where
  pub laid_more : i < place_count → (p : ℕ) → p ≡ get_or ps i 0 → (next : List ℕ) →
      next ≡ laid_at (place_cells p) (4 + 3 * i) cells → LaidPlaces old ps (i + 1) next
  laid_more h p g next e =
      let at = 4 + 3 * i in
      let fits : at + length (place_cells p) ≤ length cells = omega (arith, three p, w.long) in
      let z : 4 + 3 * (i + 1) ≡ at + length (place_cells p) = omega (arith, three p) in
      let last : places_cells (take (i + 1) ps) ≡ places_cells (take i ps) ++ place_cells p =
      ap (λ (k : ℕ). places_cells (take k ps)) (add-one i) ∙ ap places_cells (take-suc ps i 0 (omega (arith, l)))
      ∙ cells_append (take i ps) (get_or ps i 0 ∷ [])
      ∙ ap (λ (x : List ℕ). places_cells (take i ps) ++ x) (one_cells (get_or ps i 0) ∙ ap place_cells (sym g)) in
      record {
        below = omega arith;
        long = ap length e ∙ laid_length (place_cells p) at cells fits ∙ w.long;
        front =
            (λ j. take (z j) (e j)) ∙ laid_front (place_cells p) at cells fits
            ∙ ap (λ (x : List ℕ). x ++ place_cells p) w.front
            ∙ append_assoc (take 4 old) (places_cells (take i ps)) (place_cells p)
            ∙ ap (λ (x : List ℕ). take 4 old ++ x) (sym last);
      }

  pub laid_end : place_count ≤ i → cells ≡ take 4 old ++ places_cells ps
  laid_end h =
      let z : i ≡ place_count = omega (arith, w.below) in
      sym (take_all (4 + 3 * i) cells (omega (arith, w.long))) ∙ w.front
      ∙ ap (λ (x : List ℕ). take 4 old ++ places_cells x) (take_all i ps (omega (arith, l)))

-- the first four octets, stored
pub first_four : (cells : List ℕ) → 4 ≤ length cells → (a b x y : ℕ) →
    take 4 (set (set (set (set cells 0 a) 1 b) 2 x) 3 y) ≡ a ∷ b ∷ x ∷ y ∷ []
first_four [] h a b x y = absurd (omega arith)
first_four (p ∷ []) h a b x y = absurd (omega arith)
first_four (p ∷ q ∷ []) h a b x y = absurd (omega arith)
first_four (p ∷ q ∷ r ∷ []) h a b x y = absurd (omega arith)
first_four (p ∷ q ∷ r ∷ s ∷ cells) h a b x y = refl

-- ---- settling
module _ (v y : ℕ) (c o : List ℕ) (b : Bool) (p : b ≡ is_record c) where
  pub settles_known : b ≡ true → (d : Desk) (x : Settling) (w : ℕ) (last : List ℕ) → d ≡ desk_in c →
      x ≡ settle_in v y d o → w ≡ desk_word x.edition x.answer.answer →
      last ≡ desk_record x.answer.desk → (w ≡ settle_answer v y c o) × (last ≡ settle_record v y c o)
  unfolding settle_answer settle_record
  settles_known t d x w last q k f g =
      let e : x ≡ settle_in v y (desk_in c) o = k ∙ ap (λ (u : Desk). settle_in v y u o) q in (
        pick_t _ _ _ _ (via _ _ _ p t) (f ∙ ap (λ (y : Settling). desk_word y.edition y.answer.answer) e),
        pick_t _ _ _ _ (via _ _ _ p t) (g ∙ ap (λ (y : Settling). desk_record y.answer.desk) e),
      )

  pub settles_unknown : b ≡ false → (w : ℕ) → w ≡ bad_record → (w ≡ settle_answer v y c o) × (c ≡ settle_record v y c o)
  unfolding settle_answer settle_record
  settles_unknown t w g = (pick_f _ _ _ _ (via _ _ _ p t) g, pick_f _ _ _ _ (via _ _ _ p t) refl)
