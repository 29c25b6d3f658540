-- The lines of a directory and its entries are what the words say, and the search finds the first line for the
-- caller, where its text stands.
-- Assumes nothing.
use Rattle.rules.proofs.First.{index_most}
use Rattle.rules.specs.First.{index_of}
use Rattle.std.proofs.Common.{None}
use Prim.Native.Nat.{ℕ, suc, ◌+◌, ◌<◌}
use mathlib.Core.Path.{◌≡◌, refl, sym, ◌∙◌, ap, ap₂, subst}
use mathlib.Core.Bool.{Bool, true, false}
use mathlib.Core.Logic.{◌⊎◌, inl, inr}
use mathlib.Core.List.{List, [], ◌∷◌, ◌++◌, append_assoc}
use native.Mathlib.Nat.{zero-add}
use native.Mathlib.Omega.{arith}
use native.Mathlib.Numerals.{add-one}
use lib.ListN.{length, length-append, take, drop, take-append-drop, drop_of_length-le}
use lib.Seq.{take-length, length-take-le, take-append_seam, take_at, drop-append-add, drop-drop}
use lib.Dec.{T}
use Rattle.rules.specs.Tests.{◌=?◌, pick}
use Rattle.rules.proofs.Tests.{pick_yes, pick_not, both, join, of_eq, eq_of, of_le, le_of, decide, clash}
use Rattle.rules.specs.Pairwise.{same_octets}
use Rattle.rules.proofs.Pairwise.{octets_are, octets_self}
use Rattle.caption.specs.Lines.{lines_of, before, behind, names}
use Rattle.caption.specs.Caption.{lookup_from, lookup, entry_at}
use Rattle.caption.proofs.Cutting.{lines_cut}
use Rattle.caption.specs.Directory.{For, NoneFor, FirstFor, span, text_place}

-- no octet of a text is x
abbrev pub Without : ℕ → List ℕ → Type 0
Without x [] = Unit {0}
Without x (y ∷ l) = (y ≡ x → ⊥) × Without x l

-- ---- the first octet x
module _ (x : ℕ) where
  pub index_at : (v w : List ℕ) → Without x v → index_of x (v ++ x ∷ w) ≡ length v
  unfolding index_of
  index_at [] w n = pick_yes _ _ _ (of_eq x x refl)
  index_at (y ∷ v) w n = pick_not _ _ _ (λ t. n.0 (eq_of _ _ t)) ∙ ap suc (index_at v w n.1)

  pub index_none : (v : List ℕ) → Without x v → index_of x v ≡ length v
  unfolding index_of
  index_none [] n = refl
  index_none (y ∷ v) n = pick_not _ _ _ (λ t. n.0 (eq_of _ _ t)) ∙ ap suc (index_none v n.1)

  index_cut : (l : List ℕ) → index_of x l < length l → l ≡ take (index_of x l) l ++ x ∷ drop (suc (index_of x l)) l
  unfolding index_of pick
  index_cut [] h = absurd (omega arith)
  index_cut (y ∷ l) h = go (y =? x) (eq_of y x) (index_cut l) h
    where
      go : (b : Bool) → (T b → y ≡ x) →
          (index_of x l < length l → l ≡ take (index_of x l) l ++ x ∷ drop (suc (index_of x l)) l) →
          pick b 0 (suc (index_of x l)) < suc (length l) →
          y ∷ l ≡ take (pick b 0 (suc (index_of x l))) (y ∷ l) ++ x ∷ drop (suc (pick b 0 (suc (index_of x l)))) (y ∷ l)
      go true e f h = ap (λ (z : ℕ). z ∷ l) (e tt)
      go false e f h = ap (λ (z : List ℕ). y ∷ z) (f (omega arith))

  behind_at : (v w : List ℕ) → drop (suc (length v)) (v ++ x ∷ w) ≡ w
  behind_at v w = ap (λ (n : ℕ). drop n (v ++ x ∷ w)) (sym (add-one (length v))) ∙ drop-append-add v (x ∷ w) 1

-- ---- lines: a text without 0AH and then 0AH is a line, and so is what is left at the end
pub lines_next : (l d : List ℕ) → Without 0x0A l → lines_of (l ++ 0x0A ∷ d) ≡ l ∷ lines_of d
lines_next l d n =
    let k = index_at 0x0A l d n in
    lines_cut (l ++ 0x0A ∷ d) (omega (arith, length-append l (0x0A ∷ d)))
    ∙ ap (λ (i : ℕ). take i (l ++ 0x0A ∷ d) ∷ lines_of (drop (suc i) (l ++ 0x0A ∷ d))) k
    ∙ ap₂ (λ (h : List ℕ) (r : List ℕ). h ∷ lines_of r) (take-append_seam l (0x0A ∷ d)) (behind_at 0x0A l d)

pub lines_last : (l : List ℕ) → Without 0x0A l → 0 < length l → lines_of l ≡ l ∷ []
unfolding lines_of
lines_last l n h =
    lines_cut l h
    ∙ ap (λ (i : ℕ). take i l ∷ lines_of (drop (suc i) l)) (index_none 0x0A l n)
    ∙ ap₂ (λ (h : List ℕ) (r : List ℕ). h ∷ lines_of r) (take-length l)
    (drop_of_length-le l {i = suc (length l)} (omega arith))

names_for : (caller w : List ℕ) → Without 0x3D caller → T (names caller (caller ++ 0x3D ∷ w))
unfolding names before
names_for caller w n =
    let k = index_at 0x3D caller w n in
    join _ _ (of_le _ _ (omega (arith, length-append caller (0x3D ∷ w))))
    (subst (λ (v : List ℕ). T (same_octets v caller))
    (sym (ap (λ (i : ℕ). take i (caller ++ 0x3D ∷ w)) k ∙ take-append_seam caller (0x3D ∷ w))) (octets_self caller))

is_for_lem : (caller l : List ℕ) → T (names caller l) → For caller l
unfolding names before
is_for_lem caller l t =
    let b = both _ _ t in
    let e = octets_are (take (index_of 0x3D l) l) caller b.1 in (
      drop (suc (index_of 0x3D l)) l,
      index_cut 0x3D l (omega (arith, le_of _ _ b.0))
          ∙ ap (λ (v : List ℕ). v ++ 0x3D ∷ drop (suc (index_of 0x3D l)) l) e,
    )

-- a line is for the caller where it begins with the caller and =
abbrev marked : List ℕ → List ℕ
marked caller = caller ++ 0x3D ∷ []

module _ (caller l : List ℕ) where
  begins_for : take (suc (length caller)) l ≡ marked caller → For caller l
  begins_for e =
      let rest = drop (suc (length caller)) l in (
        rest,
        sym (take-append-drop (suc (length caller)) l) ∙ ap (λ (v : List ℕ). v ++ rest) e
            ∙ append_assoc caller (0x3D ∷ []) rest,
      )

  for_begins : For caller l → take (suc (length caller)) l ≡ marked caller
  for_begins f =
      ap (take (suc (length caller))) (f.1 ∙ sym (append_assoc caller (0x3D ∷ []) f.0))
      ∙ take_at (marked caller) f.0 (suc (length caller)) (omega (arith, length-append caller (0x3D ∷ [])))

  for_told : For caller l ⊎ (For caller l → ⊥)
  for_told = go (decide (same_octets (take (suc (length caller)) l) (marked caller)))
    where
      go : T (same_octets (take (suc (length caller)) l) (marked caller))
          ⊎ (T (same_octets (take (suc (length caller)) l) (marked caller)) → ⊥) → For caller l ⊎ (For caller l → ⊥)
      go (inl t) = inl (begins_for (octets_are _ _ t))
      go (inr n) = inr (λ f. n (rw (for_begins f) (octets_self (marked caller))))

abbrev Among : List ℕ → List (List ℕ) → Type 0
Among caller ls =
    ((b : List (List ℕ)) × (w : List ℕ) × (a : List (List ℕ)) × (ls ≡ b ++ (caller ++ 0x3D ∷ w) ∷ a)
    × NoneFor caller b) ⊎ NoneFor caller ls

among : (caller : List ℕ) (ls : List (List ℕ)) → Among caller ls
among caller [] = inr tt
among caller (l ∷ ls) = go (for_told caller l) (among caller ls)
  where
    go : For caller l ⊎ (For caller l → ⊥) → Among caller ls → Among caller (l ∷ ls)
    go (inl f) m = inl ([], f.0, ls, ap (λ (z : List ℕ). z ∷ ls) f.1, tt)
    go (inr k) (inl f) = inl (l ∷ f.0, f.1, f.2, ap (λ (z : List (List ℕ)). l ∷ z) f.3, (k, f.4))
    go (inr k) (inr n) = inr (k, n)

-- there is a first line for the caller, or none
pub first_or_none : (caller d : List ℕ) → FirstFor caller d ⊎ NoneFor caller (lines_of d)
first_or_none caller d = told (among caller (lines_of d))
  where
    told : Among caller (lines_of d) → FirstFor caller d ⊎ NoneFor caller (lines_of d)
    told (inl f) = inl (record { earlier = f.0; text = f.1; later = f.2; is = f.3; none = f.4 })
    told (inr n) = inr n

-- ---- the search finds exactly that line
module _ (caller : List ℕ) where
  entry_none : (at : ℕ) (ls : List (List ℕ)) → NoneFor caller ls → lookup_from caller at ls ≡ None
  unfolding lookup_from
  entry_none at [] n = refl
  entry_none at (l ∷ ls) n = pick_not _ _ _ (λ t. n.0 (is_for_lem caller l t)) ∙ entry_none (at + suc (length l)) ls n.1

  entry_first : (w : List ℕ) → Without 0x3D caller → (later : List (List ℕ)) (at : ℕ) (ls : List (List ℕ)) →
      NoneFor caller ls →
      lookup_from caller at (ls ++ (caller ++ 0x3D ∷ w) ∷ later) ≡ entry_at (at + (span ls + suc (length caller))) (length w)
  unfolding lookup_from span behind
  entry_first w p later at [] n =
      let k = index_at 0x3D caller w p in
      let z : at + suc (length caller) ≡ at + (0 + suc (length caller)) = omega arith in
      pick_yes _ _ _ (names_for caller w p)
      ∙ ap₂ (λ (i : ℕ) (r : List ℕ). entry_at (at + suc i) (length r)) k
      (ap (λ (i : ℕ). drop (suc i) (caller ++ 0x3D ∷ w)) k ∙ behind_at 0x3D caller w)
      ∙ ap (λ (i : ℕ). entry_at i (length w)) z
  entry_first w p later at (l ∷ ls) n =
      let z : at + suc (length l) + (span ls + suc (length caller)) ≡ at + (suc (length l) + span ls + suc
      (length caller)) = omega arith in
      pick_not _ _ _ (λ t. n.0 (is_for_lem caller l t))
      ∙ entry_first w p later (at + suc (length l)) ls n.1
      ∙ ap (λ (i : ℕ). entry_at i (length w)) z

  pub none_found : (d : List ℕ) → NoneFor caller (lines_of d) → lookup caller d ≡ None
  none_found d n = entry_none 0 (lines_of d) n

  pub first_found : (d : List ℕ) → Without 0x3D caller → (e : FirstFor caller d) →
      lookup caller d ≡ entry_at (text_place e) (length e.text)
  first_found d p e =
      ap (lookup_from caller 0) e.is
      ∙ entry_first e.text p e.later 0 e.earlier e.none
      ∙ ap (λ (i : ℕ). entry_at i (length e.text)) (zero-add (text_place e))

-- ---- and the text stands there
lines_some : (d l : List ℕ) (ls : List (List ℕ)) → lines_of d ≡ l ∷ ls → 0 < length d
unfolding lines_of
lines_some [] l ls e = clash cc
lines_some (x ∷ d) l ls e = omega arith

line_stands : (b : List (List ℕ)) (l : List ℕ) (a : List (List ℕ)) (d : List ℕ) → lines_of d ≡ b ++ l ∷ a →
    (rest : List ℕ) × (drop (span b) d ≡ l ++ rest)
unfolding span
line_stands [] l a d e =
    let k = index_of 0x0A d in
    let f = lines_cut d (lines_some d _ _ e) in
    let h : take k d ≡ l = cc in
    (drop k d, sym (take-append-drop k d) ∙ ap (λ (v : List ℕ). v ++ drop k d) h)
line_stands (x ∷ b) l a d e =
    let k = index_of 0x0A d in
    let f = lines_cut d (lines_some d _ _ e) in
    let h : take k d ≡ x = cc in
    let t : lines_of (drop (suc k) d) ≡ b ++ l ∷ a = cc in
    let r = line_stands b l a (drop (suc k) d) t in
    let z : suc (length x) + span b ≡ suc k + span b =
    omega (arith, ap length h, length-take-le k d (index_most 0x0A d)) in
    (r.0, ap (λ (i : ℕ). drop i d) z ∙ sym (drop-drop (span b) (suc k) d) ∙ r.1)

pub text_stands : (caller d : List ℕ) (e : FirstFor caller d) →
    take (length e.text) (drop (text_place e) d) ≡ e.text
text_stands caller d e =
    let r = line_stands e.earlier _ e.later d e.is in
    ap (take (length e.text))
    (sym (drop-drop (suc (length caller)) (span e.earlier) d)
    ∙ ap (drop (suc (length caller))) (r.1 ∙ append_assoc caller (0x3D ∷ e.text) r.0)
    ∙ behind_at 0x3D caller (e.text ++ r.0))
    ∙ take-append_seam e.text r.0
