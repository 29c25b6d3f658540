-- The strict and the lenient way of one edition (document 02, Q-11). The argument: the two have the same rows, so that
-- types with a row have the same class and the same rival, and types without one have contents by the lenient way
-- alone. So strict accepts exactly what lenient accepts and has listed types only, and the same counts in it.
-- Assumes nothing.
use Prim.Native.Nat.{ℕ, zero, suc}
use mathlib.Core.Path.{◌≡◌, refl, sym, ◌∙◌, ap, subst}
use mathlib.Core.Bool.{Bool, true, false}
use mathlib.Core.Logic.{◌⊎◌, inl, inr, ◌↔◌}
use mathlib.Core.List.{List, [], ◌∷◌}
use mathlib.Core.Option.{none}
use lib.Dec.{T}
use Rattle.rules.specs.Tests.{◌≤?◌, ◌=?◌, ◌or◌, pick}
use Rattle.rules.proofs.Tests.{decide, eq_of, of_eq}
use Rattle.rules.specs.Contents.{some_length}
use Rattle.rules.specs.Table.{Row, Rules, rules_of, row_in, row_of, listed_in, listed, class_of, rival_of, form_of, class_fault, whole, contents_fit}
use Rattle.rules.specs.Editions.{strict, lenient, edition, known, book_of}
use Rattle.rules.proofs.Editions.{beyond, book_way}
use Rattle.rules.specs.Message as message
use Rattle.rules.specs.Message.{Parameter, octets, LegalParameter, AllLegal, LegalMessage, Accepts}
use Rattle.rules.specs.Counting.{first_of, counted}
use Rattle.rules.specs.Unlisted.{AllListed}
use Rattle.rules.specs.declared.Class.{Class}
use Rattle.rules.proofs.Unlisted.{no_contents}

-- ---- rows
-- the row of a listed type is the same, whatever the others have
row_listed : (x y : Row) (rs : List Row) (t : ℕ) → T (listed_in rs t) → row_in x rs t ≡ row_in y rs t
unfolding row_in listed_in pick ◌or◌
row_listed x y [] t k = absurd k
row_listed x y (r ∷ rs) t k = go (row_listed x y rs t) (t =? r.kind) k
  where
    go : (T (listed_in rs t) → row_in x rs t ≡ row_in y rs t) → (b : Bool) → T (b or listed_in rs t) →
        pick b r (row_in x rs t) ≡ pick b r (row_in y rs t)
    go ih true k = refl
    go ih false k = ih k

-- that of any other type is what the others have
row_other : (x : Row) (rs : List Row) (t : ℕ) → (T (listed_in rs t) → ⊥) → row_in x rs t ≡ x
unfolding row_in listed_in pick ◌or◌
row_other x [] t n = refl
row_other x (r ∷ rs) t n = go (row_other x rs t) (t =? r.kind) n
  where
    go : ((T (listed_in rs t) → ⊥) → row_in x rs t ≡ x) → (b : Bool) → (T (b or listed_in rs t) → ⊥) →
        pick b r (row_in x rs t) ≡ x
    go ih true n = absurd (n tt)
    go ih false n = ih n

-- ---- two sets of rules with the same rows
module _ (n : ℕ) (rs : List Row) (c d : Class) where
  abbrev A : Rules
  A = record { edition = n; rows = rs; others = c }

  abbrev B : Rules
  B = record { edition = n; rows = rs; others = d }

  class_same : (t : ℕ) → T (listed A t) → class_of A t ≡ class_of B t
  unfolding class_of row_of listed
  class_same t k = ap (λ (r : Row). r.class) (row_listed _ _ rs t k)

  class_other : (t : ℕ) → (T (listed A t) → ⊥) → (class_of A t ≡ c) × (class_of B t ≡ d)
  unfolding class_of row_of listed
  class_other t k =
      (ap (λ (r : Row). r.class) (row_other _ rs t k), ap (λ (r : Row). r.class) (row_other _ rs t k))

  rival_same : (t : ℕ) → rival_of A t ≡ rival_of B t
  unfolding rival_of row_of listed
  rival_same t = go (decide (listed A t))
    where
      go : T (listed_in rs t) ⊎ (T (listed_in rs t) → ⊥) → rival_of A t ≡ rival_of B t
      go (inl k) = ap (λ (r : Row). r.rival) (row_listed _ _ rs t k)
      go (inr k) =
          ap (λ (r : Row). r.rival) (row_other _ rs t k) ∙ sym (ap (λ (r : Row). r.rival) (row_other _ rs t k))

  same_counts : (m : message.Message) (t : ℕ) → counted A m t ≡ counted B m t
  unfolding counted listed
  same_counts m t = ap (λ (u : ℕ). pick (listed_in rs t) (first_of t u m.parameters) none) (rival_same t)

  same_form : form_of c ≡ form_of d → (t : ℕ) → form_of (class_of A t) ≡ form_of (class_of B t)
  same_form z t = go (decide (listed A t))
    where
      go : T (listed A t) ⊎ (T (listed A t) → ⊥) → form_of (class_of A t) ≡ form_of (class_of B t)
      go (inl k) = ap form_of (class_same t k)
      go (inr k) = let y = class_other t k in ap form_of y.0 ∙ z ∙ sym (ap form_of y.1)

  -- of the first, types without a row have no contents
  module _ (z : class_fault c ≡ 10) where
    has_row : (p : Parameter) → LegalParameter A p → T (listed A p.kind)
    has_row p l = go (decide (listed A p.kind))
      where
        go : T (listed A p.kind) ⊎ (T (listed A p.kind) → ⊥) → T (listed A p.kind)
        go (inl k) = k
        go (inr k) =
            absurd (no_contents c z p.contents
            (subst (λ (x : Class). T (contents_fit x p.contents)) (class_other p.kind k).0 l.fits))

    all_wider : (ps : List Parameter) → AllLegal A ps → AllLegal B ps × AllListed B ps
    unfolding listed
    all_wider [] h = (tt, tt)
    all_wider (p ∷ ps) h =
        let k = has_row p h.0 in
        let y = all_wider ps h.1 in
        let f = subst (λ (x : Class). T (contents_fit x p.contents)) (class_same p.kind k) h.0.fits in
        ((record { octet = h.0.octet; fits = f }, y.0), (k, y.1))

    all_narrower : (ps : List Parameter) → AllLegal B ps → AllListed B ps → AllLegal A ps
    unfolding listed
    all_narrower [] h k = tt
    all_narrower (p ∷ ps) h k =
        let f = subst (λ (x : Class). T (contents_fit x p.contents)) (sym (class_same p.kind k.0))
        h.0.fits in
        (record { octet = h.0.octet; fits = f }, all_narrower ps h.1 k.1)

    same_legal : (m : message.Message) → LegalMessage A m ↔ (LegalMessage B m × AllListed B m.parameters)
    same_legal m = (
      λ l.
          let y = all_wider m.parameters l.parameters in
          (record { kind = l.kind; parameters = y.0; long = l.long; short = l.short }, y.1),
      λ l.
          record {
            kind = l.0.kind;
            parameters = all_narrower m.parameters l.0.parameters l.1;
            long = l.0.long;
            short = l.0.short;
          },
    )

-- ---- edition by edition
abbrev pub strict_of : ℕ → Rules
strict_of e = rules_of (book_of e strict)

abbrev pub lenient_of : ℕ → Rules
lenient_of e = rules_of (book_of e lenient)

-- a message is legal by the strict way exactly where it is by the lenient one and all its types have a row
pub strict_legal : (e : ℕ) → T (edition e) → (m : message.Message) →
    LegalMessage (strict_of e) m ↔ (LegalMessage (lenient_of e) m × AllListed (lenient_of e) m.parameters)
unfolding rules_of book_of class_fault some_length whole pick ◌=?◌ ◌≤?◌ ◌or◌
strict_legal zero k m = same_legal _ _ _ _ refl m
strict_legal (suc zero) k m = same_legal _ _ _ _ refl m
strict_legal (suc (suc e)) k m = absurd (beyond e k)

-- so octets are accepted by the strict way exactly where they are those of such a message
pub strict_accepts : (e : ℕ) → T (edition e) → (o : List ℕ) →
    Accepts (strict_of e) o ↔
    ((m : message.Message) × LegalMessage (lenient_of e) m × AllListed (lenient_of e) m.parameters × (octets m ≡ o))
strict_accepts e k o = (
  λ a. let y = (strict_legal e k a.0).0 a.1 in (a.0, y.0, y.1, a.2),
  λ a. (a.0, (strict_legal e k a.0).1 (a.1, a.2), a.3),
)

-- and the same counts in every message
pub ways_count : (e : ℕ) → T (edition e) → (m : message.Message) (t : ℕ) →
    counted (strict_of e) m t ≡ counted (lenient_of e) m t
unfolding rules_of book_of pick ◌=?◌
ways_count zero k m t = same_counts _ _ _ _ m t
ways_count (suc zero) k m t = same_counts _ _ _ _ m t
ways_count (suc (suc e)) k m t = absurd (beyond e k)

pub ways_list : (e : ℕ) → T (edition e) → (t : ℕ) → listed (strict_of e) t ≡ listed (lenient_of e) t
unfolding rules_of book_of pick ◌=?◌ listed
ways_list zero k t = refl
ways_list (suc zero) k t = refl
ways_list (suc (suc e)) k t = absurd (beyond e k)

pub ways_rival : (e : ℕ) → T (edition e) → (t : ℕ) → rival_of (strict_of e) t ≡ rival_of (lenient_of e) t
unfolding rules_of book_of pick ◌=?◌
ways_rival zero k t = rival_same _ _ _ _ t
ways_rival (suc zero) k t = rival_same _ _ _ _ t
ways_rival (suc (suc e)) k t = absurd (beyond e k)

-- a type has one kind of value in a draft, whatever the way
pub ways_form : (e : ℕ) → T (edition e) → (t : ℕ) → form_of (class_of (strict_of e) t) ≡ form_of (class_of (lenient_of e) t)
unfolding rules_of book_of form_of pick ◌=?◌
ways_form zero k t = same_form _ _ _ _ refl t
ways_form (suc zero) k t = same_form _ _ _ _ refl t
ways_form (suc (suc e)) k t = absurd (beyond e k)

pub ways_edition : (e : ℕ) → T (edition e) → (strict_of e).edition ≡ (lenient_of e).edition
unfolding rules_of book_of pick ◌=?◌
ways_edition zero k = refl
ways_edition (suc zero) k = refl
ways_edition (suc (suc e)) k = absurd (beyond e k)

-- types without a row are refused exactly by way 0
pub refuses_iff : (e w : ℕ) → T (known e w) → (class_fault (rules_of (book_of e w)).others ≡ 10) ↔ (w ≡ strict)
refuses_iff e w k =
    let z = book_way e w k in (
      λ y. eq_of _ _ (subst T z (of_eq _ _ y)),
      λ y. eq_of _ _ (subst T (sym z) (of_eq _ _ y)),
    )
