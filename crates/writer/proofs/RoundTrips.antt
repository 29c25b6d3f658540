-- The round trips, for any sound rules: entries that say what legal parameters say make legal parameters, and the
-- other way.
-- Assumes nothing.
use Rattle.std.proofs.Common.{◌≡◌, ℕ, suc, ◌+◌, ◌≤◌, Bool, T, List, [], ◌∷◌, ◌++◌, length, sym, refl, ap, ◌∙◌, subst, ap₂, arith, Ok}
use Rattle.rules.specs.Editions.{edition}
use Rattle.rules.specs.Tests.{◌≤?◌, ◌=?◌, pick, every}
use Rattle.rules.proofs.Tests.{both, join, clash}
use Rattle.rules.proofs.Returns.{same_truth}
use Rattle.rules.specs.Table.{Rules, rules_of, contents_fit, class_of}
use Rattle.rules.proofs.ContentLaw.{SoundRules, sound_rules}
use Rattle.rules.specs.declared.Book.{Book}
use Rattle.rules.proofs.Sizes.{octets-length, some_parameter, few}
use Rattle.rules.specs.Message as message
use Rattle.rules.specs.Message.{Parameter, body, octets, message_kind, LegalParameter, AllLegal, LegalMessage, most}
use Rattle.draft.specs.Meaning.{Meaning, form_is, kind_of, spelled, meant}
use Rattle.draft.proofs.Meaning.{form_meant, drawn}
use Rattle.draft.specs.Draft.{meaning_of, inside, parameter_of, parameters_of, Said, said_of, all_said, all_inside, used, message_of, Equal}
use Rattle.draft.specs.Packing.{meaning_in, entries_of, texts_of, draft_of}
use Rattle.draft.proofs.Packing.{all_meant, pack, entries_length, used_are, equal_stand, said_again, draft_stands}
use Rattle.draft.specs.declared.Entry.{Entry}
use Rattle.draft.specs.declared.Draft.{Draft}
use Rattle.writer.specs.Writing.{unwritten, legal_entry, legal_before, sized, measured_of, write_of}
use Rattle.writer.proofs.Legal.{makes_iff, all_before, all_made, all_inside_lem, parameters_length, Writable, writes, written, used_all}
use Rattle.writer.specs.Reasons.{Makes, length_of}
use Rattle.writer.specs.RoundTrips.{RoundTrips}

module _ (R : Rules) (S : SoundRules R) where
  -- ---- entries that say what legal parameters say make legal parameters
  said_makes : (texts : List ℕ) (e : Entry) (p : Parameter) → e.kind ≡ p.kind →
      meaning_of texts e.value ≡ meaning_in R p → T (inside texts e.value) → LegalParameter R p → Makes R texts e
  unfolding meaning_in parameter_of
  said_makes texts e p k s i l =
      let c : spelled (meaning_of texts e.value) ≡ p.contents = ap spelled s ∙ said_again R p l in
      record {
        kind = ap form_is s ∙ form_meant (kind_of R p.kind) p.contents ∙ ap (kind_of R) (sym k);
        lies = i;
        legal = record {
          octet = omega (arith, k, l.octet);
          fits =
              subst (λ (v : List ℕ). T (contents_fit (class_of R e.kind) v)) (sym c)
              (subst (λ (t : ℕ). T (contents_fit (class_of R t) p.contents)) (sym k) l.fits);
        };
      }

  said_legal : (texts : List ℕ) (es : List Entry) (ps : List Parameter) → all_said texts es ≡ all_meant R ps →
      T (all_inside texts es) → AllLegal R ps → T (every (legal_entry R texts) es)
  unfolding all_said said_of all_meant all_inside every
  said_legal texts [] ps s i l = tt
  said_legal texts (e ∷ es) [] s i l = clash cc
  said_legal texts (e ∷ es) (p ∷ ps) s i l =
      let h : said_of texts e ≡ record { kind = p.kind; meaning = meaning_in R p } = cc in
      let b = both _ _ i in
      join _ _
      ((makes_iff R texts e).1 (said_makes texts e p (ap (λ (x : Said). x.kind) h)
      (ap (λ (x : Said). x.meaning) h) b.0 l.0))
      (said_legal texts es ps (cc) b.1 l.1)

  -- ---- a legal message's draft, over an area that begins with its texts
  module _ (m : message.Message) (rest : List ℕ) (l : LegalMessage R m) where
    abbrev area : List ℕ
    area = texts_of R m.parameters ++ rest

    entries_legal : T (every (legal_entry R area) (used (draft_of R m)))
    entries_legal =
        let p = pack R area 0 rest m.parameters (omega arith) refl in
        subst (λ (es : List Entry). T (every (legal_entry R area) es)) (sym (used_are R m))
        (said_legal area (entries_of R 0 m.parameters) m.parameters p.says p.lies l.parameters)

    draft_writable : (room : ℕ) → length (octets m) ≤ room → Writable R (draft_of R m) area room
    unfolding draft_of message_of
    draft_writable room h =
        let b : legal_before R area (used (draft_of R m)) ≡ length m.parameters =
        all_before R area _ entries_legal ∙ ap length (used_are R m) ∙ entries_length R 0 m.parameters in
        let s : length_of (draft_of R m) area ≡ length (body m.parameters) =
        ap (λ (x : message.Message). length (body x.parameters)) (draft_stands R m rest l) in
        record {
          kind = l.kind;
          some = some_parameter m.parameters l.long;
          few = few R S m l;
          legal = omega (arith, b);
          short = omega (arith, s, l.short);
          fits = omega (arith, s, octets-length m);
        }

    message_written : (room : ℕ) → length (octets m) ≤ room →
        write_of R (draft_of R m) area room ≡ Ok (length (octets m))
    unfolding message_of
    message_written room h =
        let s : length_of (draft_of R m) area + 3 ≡ length (octets m) =
        ap (λ (x : message.Message). length (body x.parameters) + 3) (draft_stands R m rest l)
        ∙ sym (octets-length m) in
        writes R (draft_of R m) area room (draft_writable room h) ∙ ap Ok s

  -- ---- a draft that was written, and the draft of its message
  parameters_meant : (texts : List ℕ) (es : List Entry) → T (every (legal_entry R texts) es) →
      all_said texts es ≡ all_meant R (parameters_of texts es)
  unfolding all_said said_of all_meant parameters_of parameter_of meaning_in kind_of every
  parameters_meant texts [] t = refl
  parameters_meant texts (e ∷ es) t =
      let b = both _ _ t in
      let m = (makes_iff R texts e).0 b.0 in
      ap₂ (λ (μ : Meaning) (ss : List Said). (record { kind = e.kind; meaning = μ }) ∷ ss) (sym (meant_back e m))
      (parameters_meant texts es b.1)
    where
      meant_back : (e : Entry) → Makes R texts e →
          meant (kind_of R e.kind) (spelled (meaning_of texts e.value)) ≡ meaning_of texts e.value
      meant_back e m = (drawn (class_of R e.kind)).read (meaning_of texts e.value) m.kind m.legal.fits

  draft_again : (d : Draft) (texts : List ℕ) (room n : ℕ) → d.edition ≡ R.edition → T (edition d.edition) →
      write_of R d texts room ≡ Ok n → (rest : List ℕ) →
      Equal d texts (draft_of R (message_of d texts)) (texts_of R (message_of d texts).parameters ++ rest)
  unfolding message_of draft_of
  draft_again d texts room n v k e rest =
      let w = (written R d texts room n e).0 in
      let m = message_of d texts in
      let area = texts_of R m.parameters ++ rest in
      let a = all_made R d texts room w in
      let p = pack R area 0 rest m.parameters (omega arith) refl in
      record {
        edition = v;
        known = k;
        kind = refl;
        count = sym (parameters_length texts (used d) ∙ used_all R d texts room w);
        entries = parameters_meant texts (used d) a ∙ sym (ap (all_said area) (used_are R m) ∙ p.says);
        few = w.few;
        left = all_inside_lem R texts (used d) a;
        right = subst (λ (es : List Entry). T (all_inside area es)) (sym (used_are R m)) p.lies;
      }

-- ---- equal drafts get the same answer
module _ (R : Rules) where
  same_legal : (s t : List ℕ) (e f : Entry) → said_of s e ≡ said_of t f → T (inside s e.value) →
      T (inside t f.value) → T (legal_entry R s e) → T (legal_entry R t f)
  unfolding said_of legal_entry
  same_legal s t e f h i j l =
      let k = ap (λ (x : Said). x.kind) h in
      let m = ap (λ (x : Said). x.meaning) h in
      let a = both _ _ l in
      let b = both _ _ a.1 in
      let c = both _ _ b.1 in
      join _ _ (rw k at a.0) (join _ _ (rw (k, m) at b.0) (join _ _ j (rw (k, m) at c.1)))

  same_before : (s t : List ℕ) (es fs : List Entry) → all_said s es ≡ all_said t fs → T (all_inside s es) →
      T (all_inside t fs) → legal_before R s es ≡ legal_before R t fs
  unfolding all_said all_inside every legal_before
  same_before s t [] [] h i j = refl
  same_before s t [] (f ∷ fs) h i j = clash cc
  same_before s t (e ∷ es) [] h i j = clash cc
  same_before s t (e ∷ es) (f ∷ fs) h i j =
      let a = both _ _ i in
      let b = both _ _ j in
      let q : said_of s e ≡ said_of t f = cc in
      let l = same_truth _ _ (same_legal s t e f q a.0 b.0) (same_legal t s f e (sym q) b.0 a.0) in
      ap₂ (λ (b : Bool) (n : ℕ). pick b (suc n) 0) l (same_before s t es fs (cc) a.1 b.1)

  equal_answer : (a : Draft) (s : List ℕ) (b : Draft) (t : List ℕ) (room : ℕ) → Equal a s b t →
      write_of R a s room ≡ write_of R b t room
  unfolding write_of measured_of message_of
  equal_answer a s b t room e =
      let n = same_before s t (used a) (used b) e.entries e.left e.right in
      let l : length (body (parameters_of s (used a))) ≡ length (body (parameters_of t (used b))) =
      ap (λ (m : message.Message). length (body m.parameters)) (equal_stand a s b t e) in
      let k = e.kind in
      let c = e.count in
      λ i. pick (message_kind (k i)) (pick (c i =? 0) (unwritten 14 0)
      (pick (suc most ≤? c i) (unwritten 13 0) (pick (suc (n i) ≤? c i) (unwritten 12 (n i)) (sized 13 (l i) room))))
      (unwritten 11 0)

round_trips : (R : Rules) → SoundRules R → RoundTrips R
round_trips R S =
    record {
      message_written = λ m rest l room h. (message_written R S m rest l room h, draft_stands R m rest l);
      draft_again = draft_again R S;
      equal_answer = equal_answer R;
    }

pub round_trips_of : (b : Book) → RoundTrips (rules_of b)
round_trips_of b = round_trips (rules_of b) (sound_rules b)
