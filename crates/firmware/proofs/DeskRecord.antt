-- A desk's record and its desk are each other's inverse: the codes by cases, the places octet by octet.
-- Assumes nothing.
use Rattle.std.proofs.Common.{Option, Some, None}
use Prim.Native.Nat.{ℕ, zero, suc, ◌+◌, ◌*◌, ◌/◌, ◌%◌, ◌≤◌, ◌<◌}
use mathlib.Core.Path.{◌≡◌, refl, sym, ◌∙◌, ap}
use mathlib.Core.Bool.{Bool, true, false}
use mathlib.Core.List.{List, [], ◌∷◌}
use native.Mathlib.Omega.{arith}
use lib.ListN.{length, length-drop, drop, get_or}
use lib.Dec.{T}
use Rattle.rules.specs.Tests.{◌≤?◌, ◌=?◌, ◌and◌, pick}
use Rattle.rules.proofs.Tests.{both, join, le_of, eq_of, of_eq}
use Rattle.rules.specs.Octets.{Octets}
use Rattle.rules.proofs.Octets.{octets-drop, octet_at}
use Rattle.desk.specs.declared.Lamp.{Lamp}
use Rattle.desk.specs.declared.Lamp.TheVariants as lamp
use Rattle.desk.specs.declared.Desk.{Desk}
use Rattle.desk.specs.References.{place_count}
use Rattle.firmware.specs.DeskRecord.{is_waiting, is_desk, waiting_of, lamp_of, is_record, place_in, places_in, desk_in, waiting_code, waiting_number, lamp_code, place_cells, places_cells, desk_record}
use Rattle.firmware.specs.Sizes.{desk_size}

-- ---- each is the other's inverse
cells_length : (ps : List ℕ) → length (places_cells ps) ≡ 3 * length ps
unfolding places_cells place_cells
cells_length [] = refl
cells_length (p ∷ ps) = omega (arith, cells_length ps)

pub places_length : (n : ℕ) (c : List ℕ) → length (places_in n c) ≡ n
unfolding places_in
places_length zero c = refl
places_length (suc n) c = ap suc (places_length n (drop 3 c))

-- sixteen places that three octets each can hold
pub record Small (ps : List ℕ) : Type 0 where
  pub long : length ps ≡ place_count
  pub below : (i : ℕ) → get_or ps i 0 < 16777216

places_back : (ps : List ℕ) → ((i : ℕ) → get_or ps i 0 < 16777216) → places_in (length ps) (places_cells ps) ≡ ps
unfolding places_in places_cells place_cells place_in
places_back [] h = refl
places_back (p ∷ ps) h =
    let k : p < 16777216 = h 0 in
    let z : p % 256 + 256 * (p / 256 % 256) + 65536 * (p / 65536 % 256) ≡ p = omega arith in
    λ i. z i ∷ places_back ps (λ j. h (suc j)) i

cells_back : (n : ℕ) (c : List ℕ) → Octets c → length c ≡ 3 * n → places_cells (places_in n c) ≡ c
unfolding places_in places_cells place_cells place_in
cells_back zero [] q e = refl
cells_back zero (a ∷ c) q e = absurd (omega arith)
cells_back (suc n) [] q e = absurd (omega arith)
cells_back (suc n) (a ∷ []) q e = absurd (omega arith)
cells_back (suc n) (a ∷ b ∷ []) q e = absurd (omega arith)
cells_back (suc n) (a ∷ b ∷ x ∷ c) q e =
    let ka : a < 256 = q.0 in
    let kb : b < 256 = q.1.0 in
    let kx : x < 256 = q.1.1.0 in
    let za : (a + 256 * b + 65536 * x) % 256 ≡ a = omega arith in
    let m : (a + 256 * b + 65536 * x) / 256 ≡ b + 256 * x = omega arith in
    let mb : (b + 256 * x) % 256 ≡ b = omega arith in
    let zb : (a + 256 * b + 65536 * x) / 256 % 256 ≡ b = ap (λ (k : ℕ). k % 256) m ∙ mb in
    let h : (a + 256 * b + 65536 * x) / 65536 ≡ x = omega arith in
    let mx : x % 256 ≡ x = omega arith in
    let zx : (a + 256 * b + 65536 * x) / 65536 % 256 ≡ x = ap (λ (k : ℕ). k % 256) h ∙ mx in
    let l : length c ≡ 3 * n = omega arith in
    λ i. za i ∷ zb i ∷ zx i ∷ cells_back n c q.1.1.1 l i

places_small : (n : ℕ) (c : List ℕ) → Octets c → (i : ℕ) → get_or (places_in n c) i 0 < 16777216
unfolding places_in place_in
places_small zero c q i = omega arith
places_small (suc n) c q zero = omega (arith, octet_at c q 0, octet_at c q 1, octet_at c q 2)
places_small (suc n) c q (suc i) = places_small n (drop 3 c) (octets-drop 3 c q) i

pub small_in : (c : List ℕ) → Octets c → Small (desk_in c).places
unfolding desk_in
small_in c q =
    record {
      long = places_length place_count (drop 4 c);
      below = places_small place_count (drop 4 c) (octets-drop 4 c q);
    }

codes_fit : (w : Option ℕ) (l : Lamp) → T (is_desk (waiting_code w) (waiting_number w) (lamp_code l) 0)
unfolding is_desk is_waiting waiting_code waiting_number lamp_code pick ◌=?◌ ◌≤?◌ ◌and◌
codes_fit None lamp.Unknown = tt
codes_fit None lamp.Off = tt
codes_fit None lamp.On = tt
codes_fit (Some n) lamp.Unknown = tt
codes_fit (Some n) lamp.Off = tt
codes_fit (Some n) lamp.On = tt

waiting_decoded : (w : Option ℕ) → waiting_of (waiting_code w) (waiting_number w) ≡ w
unfolding waiting_of waiting_code waiting_number pick ◌=?◌
waiting_decoded None = refl
waiting_decoded (Some n) = refl

lamp_decoded : (l : Lamp) → lamp_of (lamp_code l) ≡ l
unfolding lamp_of lamp_code pick ◌=?◌
lamp_decoded lamp.Unknown = refl
lamp_decoded lamp.Off = refl
lamp_decoded lamp.On = refl

-- the record of a desk is one, and is that desk's
module _ (d : Desk) (w : Small d.places) where
  pub record_is : T (is_record (desk_record d))
  unfolding is_record desk_record
  record_is = join _ _ (of_eq _ _ (omega (arith, cells_length d.places, w.long))) (codes_fit d.waiting d.lamp)

  pub decode_encode : desk_in (desk_record d) ≡ d
  unfolding desk_in desk_record
  decode_encode =
      let z : places_in place_count (places_cells d.places) ≡ d.places =
      ap (λ (n : ℕ). places_in n (places_cells d.places)) (sym w.long) ∙ places_back d.places w.below in
      λ i. record { waiting = waiting_decoded d.waiting i; lamp = lamp_decoded d.lamp i; places = z i }

waiting_back : (w n : ℕ) → T (is_waiting w n) → (waiting_code (waiting_of w n) ≡ w) × (waiting_number (waiting_of w n) ≡ n)
unfolding is_waiting waiting_of waiting_code waiting_number pick
waiting_back w n t = go (w =? 0) (λ x. eq_of _ _ x) t
  where
    go : (b : Bool) → (T b → w ≡ 0) → T (pick b (n =? 0) (w =? 1)) →
        (waiting_code (pick b None (Some n)) ≡ w)
        × (waiting_number (pick b None (Some n)) ≡ n)
    go true f t = (sym (f tt), sym (eq_of _ _ t))
    go false f t = (sym (eq_of _ _ t), refl)

lamp_back : (l : ℕ) → l ≤ 2 → lamp_code (lamp_of l) ≡ l
unfolding lamp_of lamp_code pick ◌=?◌
lamp_back zero h = refl
lamp_back (suc zero) h = refl
lamp_back (suc (suc zero)) h = refl
lamp_back (suc (suc (suc n))) h = absurd (omega arith)

-- four octets and the others
four : (c : List ℕ) → 4 ≤ length c → get_or c 0 0 ∷ get_or c 1 0 ∷ get_or c 2 0 ∷ get_or c 3 0 ∷ drop 4 c ≡ c
four [] h = absurd (omega arith)
four (a ∷ []) h = absurd (omega arith)
four (a ∷ b ∷ []) h = absurd (omega arith)
four (a ∷ b ∷ x ∷ []) h = absurd (omega arith)
four (a ∷ b ∷ x ∷ y ∷ c) h = refl

pub record_size : (c : List ℕ) → T (is_record c) → length c ≡ desk_size
unfolding is_record
record_size c t = eq_of _ _ (both _ _ t).0

-- a record that is one is the record of its desk
pub encode_decode : (c : List ℕ) → Octets c → T (is_record c) → desk_record (desk_in c) ≡ c
unfolding is_record is_desk desk_in desk_record
encode_decode c q t =
    let s = record_size c t in
    let k = both _ _ (both _ _ t).1 in
    let x = both _ _ k.1 in
    let b = waiting_back (get_or c 0 0) (get_or c 1 0) k.0 in
    let l = lamp_back (get_or c 2 0) (le_of _ _ x.0) in
    let z = cells_back place_count (drop 4 c) (octets-drop 4 c q) (omega (arith, s, length-drop 4 c)) in
    (λ i. b.0 i ∷ b.1 i ∷ l i ∷ sym (eq_of _ _ x.1) i ∷ z i) ∙ four c (omega (arith, s))
