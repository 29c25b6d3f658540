-- What counts, computed, is what counts in words: contents are counted exactly where a parameter of the type has
-- none of the type or its rival before it. So of a pair at most one counts, and what counts in a legal message are
-- contents of its type.
-- Assumes nothing.
use Prim.Native.Nat.{ℕ}
use mathlib.Core.Path.{◌≡◌, refl, sym, ◌∙◌, ap, subst}
use mathlib.Core.Logic.{◌⊎◌, inl, inr, ◌↔◌}
use mathlib.Core.List.{List, [], ◌∷◌, ◌++◌}
use mathlib.Core.Option.{none, some}
use lib.Dec.{T}
use Rattle.rules.specs.Tests.{◌=?◌, pick}
use Rattle.rules.proofs.Tests.{pick_yes, pick_not, picked, eq_of, of_eq, decide, clash}
use Rattle.rules.specs.Table.{Rules, listed, rival_of, contents_fit, class_of}
use Rattle.rules.specs.Message.{Parameter, Message, LegalParameter, AllLegal, LegalMessage}
use Rattle.rules.specs.Counting.{first_of, counted, NoneOf, First, Counts}

first_is : (t u : ℕ) (ps : List Parameter) (v : List ℕ) → first_of t u ps ≡ some v → First t u ps v
unfolding first_of
first_is t u [] v e = clash cc
first_is t u (p ∷ ps) v e = go (first_is t u ps v) (picked _ _ _ _ e)
  where
    later : (p.kind ≡ t → ⊥) → (first_of t u ps ≡ some v → First t u ps v) →
        (T (p.kind =? u) × (none ≡ some v)) ⊎ ((T (p.kind =? u) → ⊥) × (first_of t u ps ≡ some v)) →
        First t u (p ∷ ps) v
    later n f (inl q) = clash (cc q.1)
    later n f (inr q) =
        let d = f q.1 in
        record {
          before = p ∷ d.before;
          p = d.p;
          after = d.after;
          is = ap (λ (l : List Parameter). p ∷ l) d.is;
          kind = d.kind;
          contents = d.contents;
          none = (n, λ k. q.0 (of_eq _ _ k), d.none);
        }

    go : (first_of t u ps ≡ some v → First t u ps v) →
        (T (p.kind =? t) × (some p.contents ≡ some v))
        ⊎ ((T (p.kind =? t) → ⊥) × (pick (p.kind =? u) none (first_of t u ps) ≡ some v)) → First t u (p ∷ ps) v
    go f (inl q) =
        record { before = []; p = p; after = ps; is = refl; kind = eq_of _ _ q.0; contents = cc q.1; none = tt }
    go f (inr q) = later (λ k. q.0 (of_eq _ _ k)) f (picked _ _ _ _ q.1)

is_first : (t u : ℕ) (b : List Parameter) (p : Parameter) (a : List Parameter) → p.kind ≡ t → NoneOf t u b →
    first_of t u (b ++ p ∷ a) ≡ some p.contents
unfolding first_of
is_first t u [] p a k n = pick_yes _ _ _ (of_eq _ _ k)
is_first t u (q ∷ b) p a k n =
    pick_not _ _ _ (λ x. n.0 (eq_of _ _ x)) ∙ pick_not _ _ _ (λ x. n.1 (eq_of _ _ x)) ∙ is_first t u b p a k n.2

-- a type other than its rival has nothing that counts where the rival stands first
shut_out : (t u : ℕ) (b : List Parameter) (p : Parameter) (a : List Parameter) → (t ≡ u → ⊥) → p.kind ≡ u →
    NoneOf u t b → first_of t u (b ++ p ∷ a) ≡ none
unfolding first_of
shut_out t u [] p a d k n = pick_not _ _ _ (λ x. d (sym (eq_of _ _ x) ∙ k)) ∙ pick_yes _ _ _ (of_eq _ _ k)
shut_out t u (q ∷ b) p a d k n =
    pick_not _ _ _ (λ x. n.1 (eq_of _ _ x)) ∙ pick_not _ _ _ (λ x. n.0 (eq_of _ _ x)) ∙ shut_out t u b p a d k n.2

module _ (R : Rules) (m : Message) where
  pub counted_iff : (t : ℕ) (v : List ℕ) → (counted R m t ≡ some v) ↔ Counts R m t v
  unfolding counted
  counted_iff t v = (
    λ e. to (picked _ _ _ _ e),
    λ c. pick_yes _ _ _ c.listed
        ∙ ap (first_of t (rival_of R t)) (sym c.first.is)
        ∙ is_first t _ c.first.before c.first.p c.first.after c.first.kind c.first.none
        ∙ ap some c.first.contents,
  )
    where
      to : (T (listed R t) × (first_of t (rival_of R t) m.parameters ≡ some v))
          ⊎ ((T (listed R t) → ⊥) × (none ≡ some v)) → Counts R m t v
      to (inl q) = record { listed = q.0; first = first_is t _ m.parameters v q.1 }
      to (inr q) = clash (cc q.1)

  -- where one of a pair counts, the other does not
  pub one_of_pair : (t : ℕ) (v : List ℕ) → (t ≡ rival_of R t → ⊥) → rival_of R (rival_of R t) ≡ t →
      counted R m t ≡ some v → counted R m (rival_of R t) ≡ none
  unfolding counted
  one_of_pair t v d s e = go ((counted_iff t v).0 e) (decide (listed R (rival_of R t)))
    where
      go : Counts R m t v → T (listed R (rival_of R t)) ⊎ (T (listed R (rival_of R t)) → ⊥) →
          pick (listed R (rival_of R t)) (first_of (rival_of R t) (rival_of R (rival_of R t)) m.parameters) none ≡ none
      go c (inr n) = pick_not _ _ _ n
      go c (inl l) =
          pick_yes _ _ _ l
          ∙ ap (λ (u : ℕ). first_of (rival_of R t) u m.parameters) s
          ∙ ap (first_of (rival_of R t) t) (sym c.first.is)
          ∙ shut_out (rival_of R t) t c.first.before c.first.p c.first.after (λ z. d (sym z))
          c.first.kind c.first.none

-- ---- what counts is legal
legal_in : (R : Rules) (b : List Parameter) (p : Parameter) (a : List Parameter) → AllLegal R (b ++ p ∷ a) →
    LegalParameter R p
legal_in R [] p a l = l.0
legal_in R (q ∷ b) p a l = legal_in R b p a l.1

-- the contents that count are contents of their type
pub legal_counts : (R : Rules) (m : Message) → LegalMessage R m → (t : ℕ) (v : List ℕ) → Counts R m t v →
    T (contents_fit (class_of R t) v)
legal_counts R m l t v c =
    let f = c.first in
    let p = legal_in R f.before f.p f.after (subst (AllLegal R) (sym f.is) l.parameters) in
    subst (λ (w : List ℕ). T (contents_fit (class_of R t) w)) f.contents
    (subst (λ (k : ℕ). T (contents_fit (class_of R k) f.p.contents)) f.kind p.fits)
