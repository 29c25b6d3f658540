-- The draft of a legal message stands for exactly that message: a value packed where its text lies says what it said,
-- and what is said is spelled again.
-- Assumes nothing.
use Prim.Native.Nat.{ℕ, suc, ◌+◌, ◌-◌, ◌≤◌}
use mathlib.Core.Path.{◌≡◌, refl, sym, ◌∙◌, ap, ap₂}
use mathlib.Core.List.{List, [], ◌∷◌, ◌++◌, append_assoc}
use native.Mathlib.Omega.{arith}
use lib.ListN.{length, length-append, length-drop, take, drop, replicate}
use lib.Seq.{take-append_seam, drop-append_seam, drop-drop}
use lib.Dec.{T}
use Rattle.rules.specs.Tests.{every}
use Rattle.rules.proofs.Tests.{join, of_le}
use Rattle.rules.specs.Table.{Rules, class_of}
use Rattle.rules.proofs.ClassLaw.{fit_octets}
use Rattle.rules.proofs.ContentLaw.{lawful}
use Rattle.rules.specs.Message.{Parameter, Message, LegalParameter, AllLegal, LegalMessage, most}
use Rattle.draft.specs.Meaning.{kind_of, Meaning, date_is, code_is, state_is, text_is, carried_is, moment_is, duration_is, marked_is, spelled, text_in}
use Rattle.draft.proofs.Meaning.{drawn}
use Rattle.draft.specs.Draft.{no_entry, meaning_of, inside, parameter_of, parameters_of, Said, said_of, all_said, all_inside, used, message_of, Equal}
use Rattle.draft.specs.declared.Entry.{Entry}
use Rattle.draft.specs.declared.Draft.{Draft}
use Rattle.draft.specs.Packing.{value_at, meaning_in, entry_of, text_of, entries_of, texts_of, draft_of}

-- ---- a value packed at a place where its text lies says what it said
record ValueSays (texts : List ℕ) (at : ℕ) (μ : Meaning) : Type 0 where
  says : meaning_of texts (value_at at μ) ≡ μ
  lies : T (inside texts (value_at at μ))

module _ (texts : List ℕ) (at : ℕ) (rest : List ℕ) (l : at ≤ length texts) where
  fitting : (v : List ℕ) → drop at texts ≡ v ++ rest → at + length v ≤ length texts
  fitting v e = omega (arith, length-drop at texts, ap length e, length-append v rest)

  unpack : (μ : Meaning) → drop at texts ≡ text_in μ ++ rest → ValueSays texts at μ
  unfolding meaning_of value_at inside text_in
  unpack (date_is m d h n) e = record { says = refl; lies = tt }
  unpack (code_is x) e = record { says = refl; lies = tt }
  unpack (state_is s r) e = record { says = refl; lies = tt }
  unpack (text_is v) e = record { says = ap text_is (rw e (take-append_seam v rest)); lies = of_le _ _ (fitting v e) }
  unpack (carried_is v) e =
      record { says = ap carried_is (rw e (take-append_seam v rest)); lies = of_le _ _ (fitting v e) }
  unpack (moment_is m d h n s) e = record { says = refl; lies = tt }
  unpack (duration_is h m s) e = record { says = refl; lies = tt }
  unpack (marked_is x v) e =
      record { says = ap (marked_is x) (rw e (take-append_seam v rest)); lies = of_le _ _ (fitting v e) }

  next : (v w : List ℕ) → drop at texts ≡ (v ++ w) ++ rest → drop (at + length v) texts ≡ w ++ rest
  next v w e =
      sym (drop-drop (length v) at texts) ∙ ap (drop (length v)) (e ∙ append_assoc v w rest)
      ∙ drop-append_seam v (w ++ rest)

-- what parameters say
unfoldable pub all_meant : Rules → List Parameter → List Said
all_meant R [] = []
all_meant R (p ∷ ps) = (record { kind = p.kind; meaning = meaning_in R p }) ∷ all_meant R ps

module _ (R : Rules) where
  -- the entries of some parameters, in an area that holds their texts from a place on: they say what the parameters
  -- say, and lie inside
  pub record EntriesSay (texts : List ℕ) (at : ℕ) (ps : List Parameter) : Type 0 where
    pub says : all_said texts (entries_of R at ps) ≡ all_meant R ps
    pub lies : T (all_inside texts (entries_of R at ps))

  pub pack : (texts : List ℕ) (at : ℕ) (rest : List ℕ) (ps : List Parameter) → at ≤ length texts →
      drop at texts ≡ texts_of R ps ++ rest → EntriesSay texts at ps
  unfolding all_said all_inside every entries_of entry_of texts_of text_of all_meant said_of
  pack texts at rest [] l e = record { says = refl; lies = tt }
  pack texts at rest (p ∷ ps) l e =
      let μ = meaning_in R p in
      let f = e ∙ append_assoc (text_in μ) (texts_of R ps) rest in
      let u = unpack texts at (texts_of R ps ++ rest) l μ f in
      let k = pack texts (at + length (text_in μ)) rest ps (fitting texts at (texts_of R ps ++ rest) l (text_in μ) f)
      (next texts at rest l (text_in μ) (texts_of R ps) e) in
      record {
        says =
            ap₂ (λ (m : Meaning) (ss : List Said). (record { kind = p.kind; meaning = m }) ∷ ss) u.says k.says;
        lies = join _ _ u.lies k.lies;
      }

  pub entries_length : (at : ℕ) (ps : List Parameter) → length (entries_of R at ps) ≡ length ps
  unfolding entries_of
  entries_length at [] = refl
  entries_length at (p ∷ ps) = ap suc (entries_length (at + length (text_of R p)) ps)

  -- the used entries of a message's draft are its parameters' entries
  pub used_are : (m : Message) → used (draft_of R m) ≡ entries_of R 0 m.parameters
  unfolding draft_of
  used_are m =
      ap (λ (n : ℕ). take n (entries_of R 0 m.parameters ++ replicate (most - length m.parameters) no_entry))
      (sym (entries_length 0 m.parameters))
      ∙ take-append_seam (entries_of R 0 m.parameters) (replicate (most - length m.parameters) no_entry)

-- ---- what is said is what it stands for
-- the parameters that say something
unfoldable pub spell_all : List Said → List Parameter
spell_all [] = []
spell_all (s ∷ ss) = (record { kind = s.kind; contents = spelled s.meaning }) ∷ spell_all ss

pub parameters_said : (texts : List ℕ) (es : List Entry) → parameters_of texts es ≡ spell_all (all_said texts es)
unfolding parameters_of parameter_of spell_all all_said said_of
parameters_said texts [] = refl
parameters_said texts (e ∷ es) =
    ap (λ (ps : List Parameter). (record { kind = e.kind; contents = spelled (meaning_of texts e.value) }) ∷ ps)
    (parameters_said texts es)

-- equal drafts stand for the same message
pub equal_stand : (a : Draft) (s : List ℕ) (b : Draft) (t : List ℕ) → Equal a s b t → message_of a s ≡ message_of b t
unfolding message_of
equal_stand a s b t e =
    ap₂ (λ (k : ℕ) (ps : List Parameter). record { kind = k; parameters = ps }) e.kind
    (parameters_said s (used a) ∙ ap spell_all e.entries ∙ sym (parameters_said t (used b)))

module _ (R : Rules) where
  -- contents read and said again
  pub said_again : (p : Parameter) → LegalParameter R p → spelled (meaning_in R p) ≡ p.contents
  unfolding meaning_in kind_of
  said_again p l =
      let c = class_of R p.kind in
      (drawn c).said p.contents (fit_octets (lawful c) p.contents l.fits) l.fits

  pub spell_meant : (ps : List Parameter) → AllLegal R ps → spell_all (all_meant R ps) ≡ ps
  unfolding spell_all all_meant
  spell_meant [] l = refl
  spell_meant (p ∷ ps) l =
      ap₂ (λ (v : List ℕ) (qs : List Parameter). (record { kind = p.kind; contents = v }) ∷ qs)
      (said_again p l.0) (spell_meant ps l.1)

  -- the draft of a legal message, over an area that begins with its texts, stands for exactly that message
  pub draft_stands : (m : Message) (rest : List ℕ) → LegalMessage R m →
      message_of (draft_of R m) (texts_of R m.parameters ++ rest) ≡ m
  unfolding message_of draft_of
  draft_stands m rest l =
      let texts = texts_of R m.parameters ++ rest in
      ap (λ (ps : List Parameter). record { kind = m.kind; parameters = ps })
      (ap (parameters_of texts) (used_are R m)
      ∙ parameters_said texts (entries_of R 0 m.parameters)
      ∙ ap spell_all (pack R texts 0 rest m.parameters (omega arith) refl).says
      ∙ spell_meant m.parameters l.parameters)
