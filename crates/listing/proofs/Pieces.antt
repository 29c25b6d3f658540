-- Words and parts of values, by their tests; and texts put on a lent area, whole, by a copy or octet by octet.
-- Assumes nothing.
use Prim.Native.Nat.{ℕ, ◌+◌, ◌-◌, ◌≤◌}
use mathlib.Core.Path.{◌≡◌, refl, sym, ◌∙◌, ap}
use mathlib.Core.Bool.{Bool}
use mathlib.Core.List.{List, [], ◌∷◌, ◌++◌}
use native.Mathlib.Numerals.{add-one}
use native.Mathlib.Omega.{arith}
use lib.ListN.{length, get_or, take, drop, set, replicate, length-replicate}
use lib.Seq.{set_split}
use borrow.Rule.Slice.PartMut.{put_mid}
use Rattle.std.proofs.lemmas.Grind.{common_steps}
use Rattle.rules.proofs.Telling.{telling}
use Rattle.rules.specs.Pairwise.{same_octets}
use Rattle.rules.specs.Table.{ascii}
use Rattle.rules.specs.Laying.{laid_at}
use Rattle.rules.proofs.Laying.{laid_front, laid_behind, laid_length, part_over}
use Rattle.listing.specs.Put.{Room, Put, put_only}
use Rattle.listing.specs.Numerals.{hex}
use Rattle.listing.specs.Listing.{seconds, selector_word, selected, clock, moment}

-- ---- a lent area
-- the text laid over the area from its place on
put_whole : (v : List ℕ) (at : ℕ) (old new : List ℕ) → Room v at old → new ≡ laid_at v at old →
    Put v at old (at + length v) new
unfolding Room
put_whole v at old new h e = record {
  ends = refl;
  long = ap length e ∙ laid_length v at old h;
  front = ap (take (at + length v)) e ∙ laid_front v at old h;
  behind = ap (drop (at + length v)) e ∙ laid_behind v at old h;
}

-- a text copied over a part of the area that is as long, from a place on
pub copied : (v old last : List ℕ) (at : ℕ) → Room v at old → last ≡ v →
    Put v at old (at + length v) (put_mid at (at + length v - at) old last)
copied v old last at h e =
    put_whole v at old (put_mid at (at + length v - at) old last) h
    (part_over v old last at (at + length v - at) (omega arith) e)

-- one octet stored
pub stored : (x at : ℕ) (old : List ℕ) → Room (x ∷ []) at old → Put (x ∷ []) at old (at + 1) (set old at x)
unfolding Room laid_at
stored x at old h =
    put_whole (x ∷ []) at old (set old at x) h
    (set_split old at x (omega arith) ∙ ap (λ (n : ℕ). take at old ++ x ∷ drop n old) (sym (add-one at)))

-- room for what is the same
pub room_same : (v w : List ℕ) (at : ℕ) (old : List ℕ) → v ≡ w → Room w at old → Room v at old
unfolding Room
room_same v w at old e h = omega (arith, ap length e)

-- a text alone in a buffer of zeros, and compared with another
module _ (v : List ℕ) (k : ℕ) (h : length v ≤ k) where
  pub alone_room : Room v 0 (replicate k 0)
  unfolding Room
  alone_room = omega (arith, length-replicate {A = ℕ} k 0)

  module _ (end : ℕ) (new : List ℕ) (p : Put v 0 (replicate k 0) end new) where
    pub alone_ends : end ≤ length new
    alone_ends = omega (arith, p.ends, p.long, length-replicate {A = ℕ} k 0)

    pub alone_long : end ≡ length (take end new)
    alone_long = omega (arith, p.ends, ap length (put_only v (replicate k 0) end new p))

    pub alone_same : (w : List ℕ) (r : Bool) → r ≡ same_octets (take end new) w → r ≡ same_octets v w
    alone_same w r e = e ∙ ap (λ (x : List ℕ). same_octets x w) (put_only v (replicate k 0) end new p)

-- ---- words
pub is_connection : (x : ℕ) → x ≡ 1 → ascii "connection " ≡ selector_word x
unfolding selector_word
is_connection x e = grind (arith, telling)

pub is_number : (x : ℕ) → (x ≡ 1 → ⊥) → x ≡ 2 → ascii "number " ≡ selector_word x
unfolding selector_word
is_number x n e = grind (arith, telling)

pub is_subaddress : (x : ℕ) → (x ≡ 1 → ⊥) → (x ≡ 2 → ⊥) → ascii "subaddress " ≡ selector_word x
unfolding selector_word
is_subaddress x n m = grind (arith, telling)

-- ---- parts of contents
module _ (v : List ℕ) where
  pub with_seconds : length v ≡ 10 → clock v ++ seconds v 8 ≡ moment v
  unfolding moment
  with_seconds e = grind (arith, telling)

  pub no_seconds : (length v ≡ 10 → ⊥) → clock v ≡ moment v
  unfolding moment
  no_seconds n = grind (arith, telling, common_steps)

  pub is_code : get_or v 0 0 ≡ 1 → hex (get_or v 1 0) ≡ selected v
  unfolding selected
  is_code e = grind (arith, telling)

  pub is_digits : (get_or v 0 0 ≡ 1 → ⊥) → drop 1 v ≡ selected v
  unfolding selected
  is_digits n = grind (arith, telling)
