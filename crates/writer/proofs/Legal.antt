-- Which entries make a legal parameter, which drafts are written, and that what is written is accepted.
-- Assumes nothing.
use Rattle.std.proofs.Common.{◌≡◌, ℕ, suc, ◌+◌, ◌<◌, ◌≤◌, T, ◌⊎◌, ◌↔◌, List, [], ◌∷◌, length, refl, ap, ◌∙◌, inl, inr, arith, length-take, Ok}
use native.Mathlib.Nat.{min-le_left}
use Rattle.rules.specs.Tests.{◌≤?◌, ◌and◌, pick, every}
use Rattle.rules.proofs.Tests.{decide, both, join, le_of, of_le, eq_of, of_eq, pick_yes, pick_not, picked_by, clash, not_zero}
use Rattle.rules.specs.Table.{Rules, form_number}
use Rattle.rules.proofs.ContentLaw.{SoundRules}
use Rattle.rules.proofs.Sizes.{three_each}
use Rattle.rules.specs.Message.{message_kind, AllLegal, LegalMessage, most}
use Rattle.draft.proofs.Meaning.{same_form}
use Rattle.draft.specs.Draft.{all_inside, parameter_of, parameters_of, used, message_of}
use Rattle.draft.specs.declared.Entry.{Entry}
use Rattle.draft.specs.declared.Draft.{Draft}
use Rattle.writer.specs.Reasons.{Makes, length_of}
use Rattle.writer.specs.Writing.{legal_entry, legal_before, sized, measured_of, write_of}

-- a test that fails
pub at_most : (a b : ℕ) → (T (suc b ≤? a) → ⊥) → a ≤ b
at_most a b f = let g : b < a → ⊥ = λ l. f (of_le _ _ l) in omega arith

-- ---- entries that make legal parameters
module _ (R : Rules) (texts : List ℕ) where
  pub makes_iff : (e : Entry) → T (legal_entry R texts e) ↔ Makes R texts e
  unfolding legal_entry parameter_of
  makes_iff e = (
    λ t.
        let a = both _ _ t in
        let b = both _ _ a.1 in
        let c = both _ _ b.1 in
        record {
          kind = same_form _ _ (eq_of _ _ b.0);
          lies = c.0;
          legal = record { octet = let h = le_of _ _ a.0 in omega arith; fits = c.1 };
        },
    λ m. join _ _ (of_le _ _ (let h = m.legal.octet in omega arith))
        (join _ _ (of_eq _ _ (ap form_number m.kind)) (join _ _ m.lies m.legal.fits)),
  )

  -- ---- all entries
  pub before_all : (es : List Entry) → length es ≤ legal_before R texts es → T (every (legal_entry R texts) es)
  unfolding legal_before every
  before_all [] l = tt
  before_all (e ∷ es) l = go (before_all es) (decide (legal_entry R texts e))
    where
      go : (length es ≤ legal_before R texts es → T (every (legal_entry R texts) es)) →
          T (legal_entry R texts e) ⊎ (T (legal_entry R texts e) → ⊥) →
          T (legal_entry R texts e and every (legal_entry R texts) es)
      go f (inl t) = join _ _ t (f (omega (arith, pick_yes (legal_entry R texts e) (suc (legal_before R texts es)) 0 t)))
      go f (inr n) = absurd (omega (arith, pick_not (legal_entry R texts e) (suc (legal_before R texts es)) 0 n))

  pub all_before : (es : List Entry) → T (every (legal_entry R texts) es) → legal_before R texts es ≡ length es
  unfolding legal_before every
  all_before [] t = refl
  all_before (e ∷ es) t = let b = both _ _ t in pick_yes _ _ _ b.0 ∙ ap suc (all_before es b.1)

  pub before_most : (es : List Entry) → legal_before R texts es ≤ length es
  unfolding legal_before
  before_most [] = omega arith
  before_most (e ∷ es) = go (before_most es) (decide (legal_entry R texts e))
    where
      go : legal_before R texts es ≤ length es → T (legal_entry R texts e) ⊎ (T (legal_entry R texts e) → ⊥) →
          pick (legal_entry R texts e) (suc (legal_before R texts es)) 0 ≤ suc (length es)
      go f (inl t) = omega (arith, pick_yes (legal_entry R texts e) (suc (legal_before R texts es)) 0 t)
      go f (inr n) = omega (arith, pick_not (legal_entry R texts e) (suc (legal_before R texts es)) 0 n)

  pub all_inside_lem : (es : List Entry) → T (every (legal_entry R texts) es) → T (all_inside texts es)
  unfolding every all_inside
  all_inside_lem [] t = tt
  all_inside_lem (e ∷ es) t = let b = both _ _ t in join _ _ ((makes_iff e).0 b.0).lies (all_inside_lem es b.1)

  pub all_legal : (es : List Entry) → T (every (legal_entry R texts) es) → AllLegal R (parameters_of texts es)
  unfolding every parameters_of
  all_legal [] t = tt
  all_legal (e ∷ es) t = let b = both _ _ t in (((makes_iff e).0 b.0).legal, all_legal es b.1)

pub parameters_length : (texts : List ℕ) (es : List Entry) → length (parameters_of texts es) ≡ length es
unfolding parameters_of
parameters_length texts [] = refl
parameters_length texts (e ∷ es) = ap suc (parameters_length texts es)

-- ---- sizes
-- ---- what the writer asks
pub record Writable (R : Rules) (d : Draft) (texts : List ℕ) (room : ℕ) : Type 0 where
  pub kind : T (message_kind d.kind)
  pub some : 1 ≤ d.count
  pub few : d.count ≤ most
  pub legal : d.count ≤ legal_before R texts (used d)
  pub short : length_of d texts ≤ 255
  pub fits : length_of d texts + 3 ≤ room

module _ (R : Rules) (d : Draft) (texts : List ℕ) (room : ℕ) where
  -- then it writes
  pub writes : Writable R d texts room → write_of R d texts room ≡ Ok (length_of d texts + 3)
  unfolding write_of measured_of sized
  writes w =
      pick_yes _ _ _ w.kind
      ∙ pick_not _ _ _ (λ t. omega (arith, eq_of _ _ t, w.some))
      ∙ pick_not _ _ _ (λ t. omega (arith, le_of _ _ t, w.few))
      ∙ pick_not _ _ _ (λ t. omega (arith, le_of _ _ t, w.legal))
      ∙ pick_not _ _ _ (λ t. omega (arith, le_of _ _ t, w.short))
      ∙ pick_not _ _ _ (λ t. omega (arith, le_of _ _ t, w.fits))

  -- and else it does not
  pub written : (n : ℕ) → write_of R d texts room ≡ Ok n → Writable R d texts room × (n ≡ length_of d texts + 3)
  unfolding write_of measured_of sized
  written n e =
      picked_by _ _ _ _ _ e
      (λ k e.
      picked_by _ _ _ _ _ e (λ _ e. clash cc)
      (λ s e.
      picked_by _ _ _ _ _ e (λ _ e. clash cc)
      (λ f e.
      picked_by _ _ _ _ _ e (λ _ e. clash cc)
      (λ l e.
      picked_by _ _ _ _ _ e (λ _ e. clash cc)
      (λ h e.
      picked_by _ _ _ _ _ e (λ _ e. clash cc)
      (λ r e. (
        record {
          kind = k;
          some = not_zero _ s;
          few = at_most _ _ f;
          legal = at_most _ _ l;
          short = at_most _ _ h;
          fits = at_most _ _ r;
        },
        cc,
      )))))))
      (λ _ e. clash cc)

  module _ (w : Writable R d texts room) where
    -- every entry counted is there
    pub used_all : length (used d) ≡ d.count
    used_all =
        omega (
          arith,
          w.legal,
          before_most R texts (used d),
          length-take d.count d.entries,
          min-le_left
              d.count (length d.entries),
        )

    pub all_made : T (every (legal_entry R texts) (used d))
    all_made = before_all R texts (used d) (omega (arith, used_all, w.legal))

    pub message_legal : SoundRules R → LegalMessage R (message_of d texts)
    unfolding message_of
    message_legal S =
        let p = all_legal R texts (used d) all_made in
        record {
          kind = w.kind;
          parameters = p;
          long =
              omega (
                arith,
                three_each R S (parameters_of texts (used d)) p,
                parameters_length texts (used d),
                used_all,
                w.some,
              );
          short = omega (arith, w.short);
        }
