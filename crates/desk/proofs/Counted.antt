-- Contents that count in an accepted message are never empty, so that they begin with the octet at their start; what is
-- found in octets is what counts there; in each book the contents of 13H that count are one octet, those of
-- 0BH one of two.
-- Assumes nothing.
use Rattle.std.proofs.Common.{Option, Some, None}
use Prim.Native.Nat.{ℕ, ◌+◌, ◌-◌, ◌≤◌, ◌<◌}
use mathlib.Core.Path.{◌≡◌, refl, sym, ◌∙◌, ap, subst}
use mathlib.Core.Bool.{Bool, false}
use mathlib.Core.Logic.{◌⊎◌, inl, inr}
use mathlib.Core.List.{List, [], ◌∷◌}
use mathlib.Core.Option.{Option as Maybe, none, some}
use native.Mathlib.Nat.{add-zero}
use native.Mathlib.Omega.{arith}
use lib.ListN.{length, length-take, length-drop, take, drop, get_or}
use lib.Seq.{get_or-take, get_or-drop}
use lib.Dec.{T}
use Rattle.rules.specs.Tests.{◌≤?◌, ◌=?◌, ◌and◌, ◌or◌, pick}
use Rattle.rules.proofs.Tests.{clash, pick_case, both, either, le_of}
use Rattle.rules.proofs.Laying.{part_is}
use Rattle.rules.specs.Octets.{Octets, reference_of}
use Rattle.rules.proofs.Octets.{octets-take, octets-drop, octet_at}
use Rattle.rules.specs.Contents.{Range, Whole, columns, within, in_set, columns_fit}
use Rattle.rules.specs.Table.{Rules, rules_of, listed_in, listed, class_of, row_of, row_in, any_octet, lamp_set, identity_set, contents_fit, whole}
use Rattle.rules.proofs.ContentLaw.{lawful}
use Rattle.rules.specs.declared.Book.{Book}
use Rattle.rules.specs.declared.Book.TheVariants.{PresentStrict, PresentLenient, OldStrict, OldLenient}
use Rattle.rules.specs.Message as message
use Rattle.rules.specs.Message.{LegalMessage, Accepts}
use Rattle.rules.specs.Counting.{counted}
use Rattle.rules.proofs.Counting.{counted_iff, legal_counts}
use Rattle.message.specs.declared.Part.{Part}
use Rattle.message.specs.Parts.{part_at, counted_at, part_of}
use Rattle.message.proofs.Searching.{counted_part}
use Rattle.desk.specs.declared.Change.TheVariants.{Nothing, Adds, Removes}
use Rattle.desk.specs.References.{change_by}
use Rattle.desk.proofs.Changes.{AddsReference}
use Rattle.desk.specs.Settle.{counted_in, change_in, change_of}

-- what counts is the contents of a legal parameter of its type
legal_counted : (R : Rules) (m : message.Message) → LegalMessage R m → (t : ℕ) (v : List ℕ) →
    counted R m t ≡ some v → T (contents_fit (class_of R t) v)
legal_counted R m l t v e = legal_counts R m l t v ((counted_iff R m t v).0 e)

legal_listed : (R : Rules) (m : message.Message) (t : ℕ) (v : List ℕ) → counted R m t ≡ some v → T (listed R t)
legal_listed R m t v e = ((counted_iff R m t v).0 e).listed

-- ---- contents that count in an accepted message hold at least one octet
module _ (R : Rules) (o : List ℕ) (a : Accepts R o) (t start n : ℕ) (e : counted_at R o t ≡ part_at start n) where
  holds : counted R a.0 t ≡ some (take n (drop start o))
  unfolding part_of
  holds = sym (counted_part R a.0 t) ∙ ap (λ (x : List ℕ). part_of x (counted_at R x t)) a.2 ∙ ap (part_of o) e

  some_octets : 1 ≤ length (take n (drop start o))
  some_octets =
      (lawful (class_of R t)).least _ ((lawful (class_of R t)).fit_length _ (legal_counted R a.0 a.1 t _ holds))

  pub start_inside : start < length o
  start_inside = omega (arith, some_octets, length-take n (drop start o), length-drop start o)

  pub first_octet : get_or (take n (drop start o)) 0 0 ≡ get_or o start 0
  first_octet =
      get_or-take n (drop start o) 0 0 (omega (arith, some_octets, length-take n (drop start o)))
      ∙ get_or-drop start o 0 0 ∙ ap (λ (k : ℕ). get_or o k 0) (add-zero start)

-- ---- what is found is what counts
module _ (R : Rules) (o : List ℕ) (t : ℕ) (p : Option Part) (f : p ≡ counted_at R o t) where
  pub counts_none : p ≡ None → counted_in R o t ≡ none
  unfolding counted_in part_of
  counts_none e = ap (part_of o) (sym f ∙ e)

  pub counts_some : (start n : ℕ) → p ≡ part_at start n → counted_in R o t ≡ some (take n (drop start o))
  unfolding counted_in part_of
  counts_some start n e = ap (part_of o) (sym f ∙ e)

  -- as the octets from a place up to a place
  pub counts_slice : (start n : ℕ) → p ≡ part_at start n → counted_in R o t ≡ some (take (start + n - start) (drop start o))
  counts_slice start n e = counts_some start n e ∙ ap some (sym (part_is o start n))

-- ---- in a legal message 13H that counts is one octet, and 0BH is 00H or FFH
one_octet : (s : List Range) (v : List ℕ) → T (columns_fit (s ∷ []) v) → (k : ℕ) × (v ≡ k ∷ []) × T (in_set s k)
unfolding columns_fit
one_octet s [] t = absurd t
one_octet s (k ∷ []) t = (k, refl, (both _ _ t).0)
one_octet s (k ∷ j ∷ v) t = absurd (both _ _ t).1

three_octets : (s t u : List Range) (v : List ℕ) → T (columns_fit (s ∷ t ∷ u ∷ []) v) →
    (a b c : ℕ) × (v ≡ a ∷ b ∷ c ∷ []) × T (in_set s a)
unfolding columns_fit
three_octets s t u [] x = absurd x
three_octets s t u (a ∷ []) x = absurd (both _ _ x).1
three_octets s t u (a ∷ b ∷ []) x = absurd (both _ _ (both _ _ x).1).1
three_octets s t u (a ∷ b ∷ c ∷ []) x = (a, b, c, refl, (both _ _ x).0)
three_octets s t u (a ∷ b ∷ c ∷ e ∷ v) x = absurd (both _ _ (both _ _ (both _ _ x).1).1).1

waiting_class : (b : Book) → T (listed (rules_of b) 0x13) → whole (class_of (rules_of b) 0x13) ≡ columns (any_octet ∷ [])
unfolding listed listed_in class_of row_of row_in rules_of whole pick ◌or◌ ◌=?◌
waiting_class PresentStrict t = refl
waiting_class PresentLenient t = refl
waiting_class OldStrict t = absurd t
waiting_class OldLenient t = absurd t

lamp_class : (b : Book) → T (listed (rules_of b) 0x0B) → whole (class_of (rules_of b) 0x0B) ≡ columns (lamp_set ∷ [])
unfolding listed listed_in class_of row_of row_in rules_of whole pick ◌or◌ ◌=?◌
lamp_class PresentStrict t = refl
lamp_class PresentLenient t = refl
lamp_class OldStrict t = refl
lamp_class OldLenient t = refl

identity_class : (b : Book) → T (listed (rules_of b) 0x0D) →
    whole (class_of (rules_of b) 0x0D) ≡ columns (identity_set ∷ any_octet ∷ any_octet ∷ [])
unfolding listed listed_in class_of row_of row_in rules_of whole pick ◌or◌ ◌=?◌
identity_class PresentStrict t = refl
identity_class PresentLenient t = refl
identity_class OldStrict t = absurd t
identity_class OldLenient t = absurd t

one_of : (a k : ℕ) (b : Bool) → T ((a ≤? k and k ≤? a) or b) → (k ≡ a) ⊎ T b
one_of a k b t = go (either _ _ t)
  where
    go : T (a ≤? k and k ≤? a) ⊎ T b → (k ≡ a) ⊎ T b
    go (inl x) = let y = both _ _ x in inl (omega (arith, le_of _ _ y.0, le_of _ _ y.1))
    go (inr x) = inr x

in_identity : (k : ℕ) → T (in_set identity_set k) → (k ≡ 0x00) ⊎ ((k ≡ 0x55) ⊎ (k ≡ 0xFF))
unfolding in_set within
in_identity k t = first (one_of 0x00 k _ t)
  where
    third : (k ≡ 0xFF) ⊎ T false → k ≡ 0xFF
    third (inl e) = e
    third (inr x) = absurd x

    second : (k ≡ 0x55) ⊎ T ((0xFF ≤? k and k ≤? 0xFF) or false) → (k ≡ 0x55) ⊎ (k ≡ 0xFF)
    second (inl e) = inl e
    second (inr x) = inr (third (one_of 0xFF k _ x))

    first : (k ≡ 0x00) ⊎ T ((0x55 ≤? k and k ≤? 0x55) or ((0xFF ≤? k and k ≤? 0xFF) or false)) →
        (k ≡ 0x00) ⊎ ((k ≡ 0x55) ⊎ (k ≡ 0xFF))
    first (inl e) = inl e
    first (inr x) = inr (second (one_of 0x55 k _ x))

in_lamp : (k : ℕ) → T (in_set lamp_set k) → (k ≡ 0x00) ⊎ (k ≡ 0xFF)
unfolding in_set within
in_lamp k t = first (one_of 0x00 k _ t)
  where
    second : (k ≡ 0xFF) ⊎ T false → k ≡ 0xFF
    second (inl e) = e
    second (inr x) = absurd x

    first : (k ≡ 0x00) ⊎ T ((0xFF ≤? k and k ≤? 0xFF) or false) → (k ≡ 0x00) ⊎ (k ≡ 0xFF)
    first (inl e) = inl e
    first (inr x) = inr (second (one_of 0xFF k _ x))

module _ (b : Book) (m : message.Message) (l : LegalMessage (rules_of b) m) (v : List ℕ) where
  pub waiting_octet : counted (rules_of b) m 0x13 ≡ some v → (k : ℕ) × (v ≡ k ∷ [])
  waiting_octet e =
      let d = one_octet any_octet v (subst (λ (w : Whole). T (w.fits v))
      (waiting_class b (legal_listed (rules_of b) m 0x13 v e)) (legal_counted (rules_of b) m l 0x13 v e)) in
      (d.0, d.1)

  pub lamp_octet : counted (rules_of b) m 0x0B ≡ some v → (v ≡ 0x00 ∷ []) ⊎ (v ≡ 0xFF ∷ [])
  lamp_octet e =
      let d = one_octet lamp_set v (subst (λ (w : Whole). T (w.fits v))
      (lamp_class b (legal_listed (rules_of b) m 0x0B v e)) (legal_counted (rules_of b) m l 0x0B v e)) in
      go d.0 d.1 (in_lamp d.0 d.2)
    where
      go : (k : ℕ) → v ≡ k ∷ [] → (k ≡ 0x00) ⊎ (k ≡ 0xFF) → (v ≡ 0x00 ∷ []) ⊎ (v ≡ 0xFF ∷ [])
      go k d (inl x) = inl (d ∙ ap (λ (z : ℕ). z ∷ []) x)
      go k d (inr x) = inr (d ∙ ap (λ (z : ℕ). z ∷ []) x)

  -- 0DH that counts is a state and a reference
  pub identity_octets : counted (rules_of b) m 0x0D ≡ some v →
      (h l : ℕ) × ((v ≡ 0x00 ∷ h ∷ l ∷ []) ⊎ ((v ≡ 0x55 ∷ h ∷ l ∷ []) ⊎ (v ≡ 0xFF ∷ h ∷ l ∷ [])))
  identity_octets e =
      let d = three_octets identity_set any_octet any_octet v
      (subst (λ (w : Whole). T (w.fits v)) (identity_class b (legal_listed (rules_of b) m 0x0D v e))
      (legal_counted (rules_of b) m l 0x0D v e)) in
      (d.1, d.2, state d.0 d.1 d.2 d.3 (in_identity d.0 d.4))
    where
      state : (k h l : ℕ) → v ≡ k ∷ h ∷ l ∷ [] → (k ≡ 0x00) ⊎ ((k ≡ 0x55) ⊎ (k ≡ 0xFF)) →
          (v ≡ 0x00 ∷ h ∷ l ∷ []) ⊎ ((v ≡ 0x55 ∷ h ∷ l ∷ []) ⊎ (v ≡ 0xFF ∷ h ∷ l ∷ []))
      state k h l d (inl x) = inl (d ∙ ap (λ (z : ℕ). z ∷ h ∷ l ∷ []) x)
      state k h l d (inr (inl x)) = inr (inl (d ∙ ap (λ (z : ℕ). z ∷ h ∷ l ∷ []) x))
      state k h l d (inr (inr x)) = inr (inr (d ∙ ap (λ (z : ℕ). z ∷ h ∷ l ∷ []) x))

-- ---- a reference of two octets
octets_counted : (R : Rules) (o : List ℕ) → Octets o → (t : ℕ) (v : List ℕ) → counted_in R o t ≡ some v → Octets v
unfolding counted_in part_of
octets_counted R o q t v e = go (counted_at R o t) e
  where
    go : (p : Option Part) → part_of o p ≡ some v → Octets v
    go (Some part) e = let z : take part.length (drop part.start o) ≡ v = cc in subst Octets z (octets-take part.length (drop part.start o) (octets-drop part.start o q))
    go None e = clash cc

is_in_range : (r : ℕ) → r < 65536 → AddsReference (Adds r)
unfolding AddsReference
is_in_range r h = h

no_range : (r : ℕ) → AddsReference (Removes r)
unfolding AddsReference
no_range r = tt

none_range : AddsReference Nothing
unfolding AddsReference
none_range = tt

small : (a b c : ℕ) → b < 256 → c < 256 → AddsReference (change_by a b c)
unfolding change_by
small a b c h l =
    pick_case AddsReference (a =? 0xFF) _ _ (λ _. adds)
    (λ _. pick_case AddsReference (a =? 0x00) _ _ (λ _. removes) (λ _. nothing))
  where
    adds : AddsReference (Adds (reference_of b c))
    adds = is_in_range (reference_of b c) (omega arith)

    removes : AddsReference (Removes (reference_of b c))
    removes = no_range (reference_of b c)

    nothing : AddsReference Nothing
    nothing = none_range

pub small_change : (R : Rules) (o : List ℕ) → Octets o → (t : ℕ) → AddsReference (change_of (counted_in R o t))
unfolding change_of change_in
small_change R o q t = go (counted_in R o t) refl
  where
    go : (c : Maybe (List ℕ)) → counted_in R o t ≡ c → AddsReference (change_of c)
    go none e = none_range
    go (some v) e =
        let w = octets_counted R o q t v e in
        small (get_or v 0 0) (get_or v 1 0) (get_or v 2 0) (octet_at v w 1) (octet_at v w 2)
