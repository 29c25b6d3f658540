-- Settling by an edition and a way does what is promised: by known numbers it is settling by their book, and by
-- unknown ones a refusal, with 17 or else 16, that leaves the desk; so a second settling changes nothing either way.
-- Assumes nothing.
use Prim.Native.Nat.{ℕ}
use mathlib.Core.Path.{◌≡◌, refl, sym, ◌∙◌, ap, subst}
use mathlib.Core.Logic.{◌⊎◌, inl, inr}
use mathlib.Core.List.{List}
use native.Mathlib.Omega.{arith}
use lib.Dec.{T}
use Rattle.rules.specs.Tests.{pick}
use Rattle.rules.proofs.Tests.{pick_yes, pick_not, decide}
use Rattle.rules.specs.Octets.{Octets}
use Rattle.rules.specs.Table.{rules_of}
use Rattle.rules.specs.Editions.{known, book_of, named_by}
use Rattle.rules.proofs.Editions as editions
use Rattle.rules.specs.Language.{language_of}
use Rattle.rules.specs.Refusals.{noted}
use Rattle.rules.proofs.Grammar.{spoken_of}
use Rattle.message.specs.Judges.{verdict_number}
use Rattle.message.proofs.Judges.{told_small}
use Rattle.desk.specs.declared.Desk.{Desk}
use Rattle.desk.specs.declared.Outcome.{Outcome}
use Rattle.desk.specs.References.{places_fit}
use Rattle.desk.specs.Holding.{Fit}
use Rattle.desk.specs.Told.{told, refusal, Settling}
use Rattle.desk.specs.Settle.{refused, refused_with, settle_of, settled_by_none, settle_in}
use Rattle.desk.specs.Settles.{Settles, SettlesBy}
use Rattle.desk.proofs.Holding.{fit_of, of_fit}
use Rattle.desk.proofs.Told.{number_is, place_is, parameter_is}
use Rattle.desk.proofs.Settles as settles

-- an outcome by the edition e, and one by none
abbrev pub named : ℕ → Outcome → Settling
named e x = record { edition = named_by (told x.answer).number e; answer = x }

abbrev pub unnamed : Outcome → Settling
unnamed x = record { edition = 0; answer = x }

module _ (e w : ℕ) (d : Desk) (o : List ℕ) where
  pub known_is : T (known e w) → settle_in e w d o ≡ named e (settle_of (rules_of (book_of e w)) d o)
  unfolding settle_in
  known_is t = pick_yes _ _ _ t

  pub unknown_is : (T (known e w) → ⊥) → settle_in e w d o ≡ unnamed (settled_by_none d)
  unfolding settle_in
  unknown_is n = pick_not _ _ _ n

-- without a book
module _ (d : Desk) where
  fit_none : Fit d.places → settled_by_none d ≡ refused (noted 16 0) d
  unfolding settled_by_none refused_with
  fit_none f = pick_yes _ _ _ (of_fit d.places f)

  unfit_none : (Fit d.places → ⊥) → settled_by_none d ≡ refused (noted 17 0) d
  unfolding settled_by_none refused_with
  unfit_none m = pick_not _ _ _ (λ t. m (fit_of d.places t))

  pub fits : Fit d.places ⊎ (Fit d.places → ⊥)
  fits = go (decide (places_fit d.places))
    where
      go : T (places_fit d.places) ⊎ (T (places_fit d.places) → ⊥) → Fit d.places ⊎ (Fit d.places → ⊥)
      go (inl t) = inl (fit_of d.places t)
      go (inr n) = inr (λ f. n (of_fit d.places f))

  -- with 17 or else 16, and the desk stays
  pub none_is : (k : ℕ) × (settled_by_none d ≡ refused (noted k 0) d)
  none_is = go fits
    where
      go : Fit d.places ⊎ (Fit d.places → ⊥) → (k : ℕ) × (settled_by_none d ≡ refused (noted k 0) d)
      go (inl f) = (16, fit_none f)
      go (inr m) = (17, unfit_none m)

-- the number of the answer says which edition is named, by unknown numbers too
module _ (e w : ℕ) (d : Desk) (o : List ℕ) where
  pub named_is : (x : Outcome) →
      x ≡ pick (known e w) (settle_of (rules_of (book_of e w)) d o) (settled_by_none d) →
      named e x ≡ settle_in e w d o
  unfolding told
  named_is x q = go (decide (known e w))
    where
      by : (y : Outcome) (k : ℕ) → y ≡ refused (noted k 0) d → (k ≡ 16) ⊎ (k ≡ 17) → named e y ≡ unnamed y
      by y k z f =
          ap (named e) z
          ∙ ap (λ (i : ℕ). record { edition = i; answer = refused (noted k 0) d }) (editions.names_none k e f)
          ∙ ap unnamed (sym z)

      none : Fit d.places ⊎ (Fit d.places → ⊥) → named e (settled_by_none d) ≡ unnamed (settled_by_none d)
      none (inl f) = by _ 16 (fit_none d f) (inl refl)
      none (inr m) = by _ 17 (unfit_none d m) (inr refl)

      go : T (known e w) ⊎ (T (known e w) → ⊥) → named e x ≡ settle_in e w d o
      go (inl t) = ap (named e) (q ∙ pick_yes _ _ _ t) ∙ sym (known_is e w d o t)
      go (inr n) = ap (named e) (q ∙ pick_not _ _ _ n) ∙ none (fits d) ∙ sym (unknown_is e w d o n)

-- ---- the sentences
module _ (e w : ℕ) (d : Desk) (o : List ℕ) where
  -- by known numbers
  module _ (t : T (known e w)) (x : Outcome) (S : Settles (rules_of (book_of e w)) d o x) where
    not_sixteen : (told x.answer).number ≡ 16 → ⊥
    not_sixteen k = go (S.numbers (omega (arith, k)))
      where
        go : T (verdict_number (language_of (book_of e w)) (told x.answer).number) ⊎
            (((told x.answer).number ≡ 17) ⊎ ((told x.answer).number ≡ 21)) → ⊥
        go (inl v) = omega (arith, k, (told_small (spoken_of (book_of e w)) _ v).1)
        go (inr (inl z)) = omega (arith, k, z)
        go (inr (inr z)) = omega (arith, k, z)

    by_known : SettlesBy e w d o (named e x)
    by_known = record {
      by_book = λ _. S;
      clear = S.clear;
      seventeen =
          λ p b. (
            λ y.
                let z : b ≡ 0 = sym (parameter_is y) ∙ S.no_parameter (inl (number_is y)) in
                let f = (S.seventeen p).0 (y ∙ ap (refusal 17 p) z) in
                (f.0, z, f.1),
            λ y. (S.seventeen p).1 (y.0, y.2) ∙ ap (refusal 17 p) (sym y.1),
          );
      sixteen = λ p b. (λ y. absurd (not_sixteen (number_is y)), λ y. absurd (y.3 t));
      unknown = λ n. absurd (n t);
      refusal_stays = S.refusal_stays;
      names = editions.names _ e;
      names_none = editions.names_none _ e;
    }

  -- by unknown ones
  module _ (n : T (known e w) → ⊥) where
    unfit_by_none : (Fit d.places → ⊥) → SettlesBy e w d o (unnamed (refused (noted 17 0) d))
    unfolding told
    unfit_by_none m = record {
      by_book = λ t. absurd (n t);
      clear = omega arith;
      seventeen =
          λ p b. (
            λ y. (sym (place_is y), sym (parameter_is y), m),
            λ y i. refusal 17 (sym y.0 i) (sym y.1 i),
          );
      sixteen = λ p b. (λ y. absurd (omega (arith, number_is y)), λ y. absurd (m y.2));
      unknown = λ _. inr refl;
      refusal_stays = λ _. refl;
      names = λ a b. absurd (b refl);
      names_none = λ _. refl;
    }

    fit_by_none : Fit d.places → SettlesBy e w d o (unnamed (refused (noted 16 0) d))
    unfolding told
    fit_by_none f = record {
      by_book = λ t. absurd (n t);
      clear = omega arith;
      seventeen = λ p b. (λ y. absurd (omega (arith, number_is y)), λ y. absurd (y.2 f));
      sixteen =
          λ p b. (
            λ y. (sym (place_is y), sym (parameter_is y), f, n),
            λ y i. refusal 16 (sym y.0 i) (sym y.1 i),
          );
      unknown = λ _. inl refl;
      refusal_stays = λ _. refl;
      names = λ a b. absurd (a refl);
      names_none = λ _. refl;
    }

    by_none : SettlesBy e w d o (unnamed (settled_by_none d))
    by_none = go (fits d)
      where
        go : Fit d.places ⊎ (Fit d.places → ⊥) → SettlesBy e w d o (unnamed (settled_by_none d))
        go (inl f) =
            subst (λ (x : Outcome). SettlesBy e w d o (unnamed x)) (sym (fit_none d f)) (fit_by_none f)
        go (inr m) =
            subst (λ (x : Outcome). SettlesBy e w d o (unnamed x)) (sym (unfit_none d m)) (unfit_by_none m)

  pub settles_by : Octets o → SettlesBy e w d o (settle_in e w d o)
  settles_by q = go (decide (known e w))
    where
      go : T (known e w) ⊎ (T (known e w) → ⊥) → SettlesBy e w d o (settle_in e w d o)
      go (inl t) =
          subst (SettlesBy e w d o) (sym (known_is e w d o t))
          (by_known t (settle_of (rules_of (book_of e w)) d o) (settles.settles (book_of e w) d o q))
      go (inr n) = subst (SettlesBy e w d o) (sym (unknown_is e w d o n)) (by_none n)

-- ---- settling twice running
module _ (e w : ℕ) (d : Desk) (o : List ℕ) where
  abbrev again : Settling → Settling
  again r = settle_in e w r.answer.desk o

  -- whatever the numbers and the octets, the second settling gives what the first gave
  pub settled_twice : Octets o → again (settle_in e w d o) ≡ settle_in e w d o
  settled_twice q = go (decide (known e w))
    where
      go : T (known e w) ⊎ (T (known e w) → ⊥) → again (settle_in e w d o) ≡ settle_in e w d o
      go (inl t) =
          ap again (known_is e w d o t)
          ∙ known_is e w (settle_of (rules_of (book_of e w)) d o).desk o t
          ∙ ap (named e) (settles.settled_twice (book_of e w) d o q)
          ∙ sym (known_is e w d o t)
      go (inr n) =
          ap again (unknown_is e w d o n) ∙ ap (λ (x : Outcome). settle_in e w x.desk o) (none_is d).1
