-- Texts cut at the first of an octet: what stands before it has none of it, so the cut is where it was put. Of a text
-- this is its first line, of a line its key.
-- Assumes nothing.
use Rattle.std.proofs.Common.{◌≡◌, ℕ, suc, ◌<◌, get_or, Bool, true, false, T, eqb, ◌⊎◌, List, [], ◌∷◌, ◌++◌, length, take, drop, ◌≤◌, sym, refl, ap, ◌∙◌, ap₂, inl, inr, arith, length-append, take-append-drop}
use lib.ListN.{drop_of_length-le}
use lib.Seq.{take-append_seam, drop-append_seam, drop-cons}
use lib.Dec.{eqb_refl}
use Rattle.rules.specs.First.{index_of}
use Rattle.relist.specs.First.{index_after}
use Rattle.rules.specs.Tests.{◌≤?◌, ◌=?◌, ◌or◌, pick}
use Rattle.rules.proofs.Tests.{every_head, every_tail, le_of, eq_of, pick_not}
use Rattle.rules.proofs.Returns.{holds}
use Rattle.rules.proofs.Telling.{eq_is, telling}
use Rattle.std.specs.List.{list_any}
use Rattle.listing.proofs.Characters.{plain}
use Rattle.relist.specs.Relist.{line_in, behind, among}
use Rattle.relist.specs.Sentences.{Unended}

-- ---- octets before the first of one
after_some : (q : Bool) (k n : ℕ) → pick q 0 (suc k) ≡ suc n → (q ≡ false) × (k ≡ n)
unfolding pick ◌=?◌
after_some true k n e = absurd (omega arith)
after_some false k n e = (refl, omega arith)

module _ (b : ℕ) where
  -- the place goes on from octet to octet
  pub index_goes : (x : ℕ) (l : List ℕ) → index_of b (x ∷ l) ≡ index_after (eqb x b) (index_of b l)
  unfolding index_of index_after pick ◌=?◌
  index_goes x l = go (eqb x b)
    where
      go : (q : Bool) → pick q 0 (suc (index_of b l)) ≡ index_after q (index_of b l)
      go true = refl
      go false = refl

  found : (t : List ℕ) → index_of b (b ∷ t) ≡ 0
  unfolding index_of pick ◌=?◌
  found t = ap (λ (q : Bool). pick q 0 (suc (index_of b t))) (holds (eqb b b) (eqb_refl b))

  pub none_head : (x : ℕ) (l : List ℕ) → index_of b (x ∷ l) ≡ length (x ∷ l) → eqb x b ≡ false
  unfolding index_of ◌=?◌
  none_head x l e = (after_some (eqb x b) (index_of b l) (length l) e).0

  pub none_tail : (x : ℕ) (l : List ℕ) → index_of b (x ∷ l) ≡ length (x ∷ l) → index_of b l ≡ length l
  unfolding index_of ◌=?◌
  none_tail x l e = (after_some (eqb x b) (index_of b l) (length l) e).1

  pub seam : (l t : List ℕ) → index_of b l ≡ length l → index_of b (l ++ b ∷ t) ≡ length l
  unfolding index_of pick ◌=?◌
  seam [] t e = found t
  seam (x ∷ l) t e =
      ap₂ (λ (q : Bool) (k : ℕ). pick q 0 (suc k)) (none_head x l e) (seam l t (none_tail x l e))

  -- a text has none of it, or is cut at the first
  pub cut_at : (t : List ℕ) → (index_of b t ≡ length t) ⊎ ((l : List ℕ) × (more : List ℕ) × (index_of b l ≡ length l)
      × (l ++ b ∷ more ≡ t))
  unfolding index_of pick ◌=?◌
  cut_at [] = inl refl
  cut_at (x ∷ t) = go (eqb x b) refl (cut_at t)
    where
      go : (q : Bool) → q ≡ eqb x b →
          (index_of b t ≡ length t) ⊎ ((l : List ℕ) × (more : List ℕ) × (index_of b l ≡ length l) × (l ++ b ∷ more ≡ t)) →
          (pick (eqb x b) 0 (suc (index_of b t)) ≡ suc (length t)) ⊎ ((l : List ℕ) × (more : List ℕ)
          × (index_of b l ≡ length l) × (l ++ b ∷ more ≡ x ∷ t))
      go true e w =
          inr ([], t, refl, ap (λ (y : ℕ). y ∷ t) (sym (eq_of x b (rw (sym e) tt))))
      go false e (inl h) = inl (rw (sym e) (ap suc h))
      go false e (inr w) =
          inr (x ∷ w.0, w.1, rw (sym e) (ap suc w.2), ap (λ (v : List ℕ). x ∷ v) w.3)

  -- ---- a text looked through from a place on
  module _ (t : List ℕ) (i : ℕ) (h : i < length t) where
    -- the octet stands there
    pub found_at : get_or t i 0 ≡ b → index_of b (drop i t) ≡ 0
    found_at e =
        ap (index_of b) (drop-cons t i 0 h ∙ ap (λ (x : ℕ). x ∷ drop (suc i) t) e) ∙ found (drop (suc i) t)

    -- or from the next place on
    pub sought_on : (get_or t i 0 ≡ b → ⊥) → index_of b (drop i t) ≡ suc (index_of b (drop (suc i) t))
    unfolding index_of
    sought_on n =
        ap (index_of b) (drop-cons t i 0 h)
        ∙ pick_not _ _ _ (λ k. n (eq_of _ _ k))

  -- nothing stands behind the end
  pub nowhere : (t : List ℕ) (i : ℕ) → length t ≤ i → index_of b (drop i t) ≡ 0
  unfolding index_of
  nowhere t i h = ap (index_of b) (drop_of_length-le t {i = i} h)

  -- two cuts of one text are one
  pub same_cut : (l t m u : List ℕ) → index_of b l ≡ length l → index_of b m ≡ length m → l ++ b ∷ t ≡ m ++ b ∷ u →
      (l ≡ m) × (t ≡ u)
  same_cut l t m u p q e =
      let n : length l ≡ length m = sym (seam l t p) ∙ ap (index_of b) e ∙ seam m u q in
      let f : l ≡ m =
      sym (take-append_seam l (b ∷ t)) ∙ ap₂ take n e ∙ take-append_seam m (b ∷ u) in
      let g : (b ∷ t) ≡ (b ∷ u) =
      sym (drop-append_seam l (b ∷ t)) ∙ ap₂ drop n e ∙ drop-append_seam m (b ∷ u) in
      (f, ap (drop 1) g)

-- ---- lines
module _ (l t : List ℕ) (u : Unended l) where
  snoc : l ++ 0x0A ∷ t ≡ (l ++ 0x0A ∷ []) ++ t
  snoc = go l
    where
      go : (l : List ℕ) → l ++ 0x0A ∷ t ≡ (l ++ 0x0A ∷ []) ++ t
      go [] = refl
      go (x ∷ l) = ap (λ (v : List ℕ). x ∷ v) (go l)

  long : length (l ++ 0x0A ∷ []) ≡ suc (length l)
  long = omega (arith, length-append l (0x0A ∷ []))

  pub line_first : line_in (l ++ 0x0A ∷ t) ≡ l ++ 0x0A ∷ []
  unfolding line_in
  line_first =
      ap₂ (λ (n : ℕ) (v : List ℕ). take n v) (ap suc (seam 0x0A l t u) ∙ sym long) snoc
      ∙ take-append_seam (l ++ 0x0A ∷ []) t

  pub line_behind : behind (l ++ 0x0A ∷ t) ≡ t
  unfolding behind
  line_behind =
      ap₂ (λ (n : ℕ) (v : List ℕ). drop n v) (ap suc (seam 0x0A l t u) ∙ sym long) snoc
      ∙ drop-append_seam (l ++ 0x0A ∷ []) t

pub line_split : (t : List ℕ) → line_in t ++ behind t ≡ t
unfolding line_in behind
line_split t = take-append-drop (suc (index_of 0x0A t)) t

-- characters have no line end
pub plain_unended : (l : List ℕ) → T (plain l) → Unended l
unfolding plain index_of pick ◌=?◌
plain_unended [] p = refl
plain_unended (x ∷ l) p = go (eqb x 0x0A) refl (plain_unended l (every_tail (λ (x : ℕ). 0x20 ≤? x) x l p))
  where
    go : (q : Bool) → q ≡ eqb x 0x0A → Unended l → pick (eqb x 0x0A) 0 (suc (index_of 0x0A l)) ≡ suc (length l)
    go true e u =
        absurd (omega (
          arith,
          eq_of x 0x0A (rw (sym e) tt),
          le_of 0x20 x
              (every_head (λ (x : ℕ). 0x20 ≤? x) x l p),
        ))
    go false e u = rw (sym e) (ap suc u)

-- ---- a type among others
-- it is the first of them, or among the later ones
pub among_cons : (u k : ℕ) (ks : List ℕ) → among u (k ∷ ks) ≡ ((k =? u) or among u ks)
unfolding among index_of
among_cons u k ks = grind (arith, telling)

-- one of them is it
pub among_is : (u : ℕ) (ks : List ℕ) → among u ks ≡ list_any (λ (x : ℕ). eqb x u) ks
unfolding among index_of
among_is u [] = grind (arith, telling)
among_is u (k ∷ ks) = grind (arith, telling, eq_is k u, among_is u ks)
