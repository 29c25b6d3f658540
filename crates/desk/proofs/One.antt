-- The sentences on settling leave one outcome: each answer is told by the desk's places and the octets, and what
-- counts in a notice, whose contents have a sentence each in every book, tells the number, the lamp and the places
-- after it. By an edition and a way the book of known numbers leaves one outcome; by unknown ones the desk's places
-- tell the number; and the number tells which edition is named.
-- Assumes nothing.
use Rattle.rules.specs.declared.Fault.{Fault}
use Rattle.std.proofs.Common.{Result, Ok, Err}
use Prim.Native.Nat.{ℕ, ◌≤◌, ◌<◌}
use mathlib.Core.Path.{◌≡◌, refl, sym, ◌∙◌, ap, subst}
use mathlib.Core.Logic.{◌⊎◌, inl, inr}
use mathlib.Core.List.{List, [], ◌∷◌}
use mathlib.Core.Option.{Option, none, some}
use native.Mathlib.Omega.{arith}
use lib.ListN.{get_or, set}
use lib.Seq.{ext_get_or}
use lib.Dec.{T}
use Rattle.rules.specs.Tests.{◌=?◌}
use Rattle.rules.proofs.Tests.{clash, either, decide, eq_of, of_eq}
use Rattle.rules.specs.Table.{Rules, rules_of}
use Rattle.rules.specs.Editions.{known, book_of}
use Rattle.rules.specs.Message.{Message, octets, LegalMessage, message_kind}
use Rattle.rules.specs.Counting.{counted}
use Rattle.rules.specs.Language.{calls}
use Rattle.rules.specs.Refusals.{noted}
use Rattle.rules.specs.declared.Book.{Book}
use Rattle.message.specs.Judges.{verdict_number}
use Rattle.message.proofs.One.{judges_one}
use Rattle.desk.specs.declared.Desk.{Desk}
use Rattle.desk.specs.declared.Outcome.{Outcome}
use Rattle.desk.specs.References.{absent, held}
use Rattle.desk.specs.Holding.{Fit, Lowest, Added, Removed}
use Rattle.desk.specs.Told.{told, refusal, Settling}
use Rattle.desk.specs.Settles.{Notices, Settles, SettlesBy}
use Rattle.desk.proofs.Holding.{closed_of, open_of}
use Rattle.desk.proofs.Told.{told-done, unfit_iff, refused_iff, full_iff, done_iff, some_number, number_of_lem, noted_at}
use Rattle.desk.proofs.Told.{number_is, told-refused, refusal_leaves}
use Rattle.desk.proofs.Editions.{fits}
use Rattle.desk.proofs.Counted.{waiting_octet, lamp_octet, identity_octets}

-- ---- the places
lowest_one : (ps : List ℕ) (i j : ℕ) → Lowest ps i → Lowest ps j → i ≡ j
lowest_one ps i j a b =
    let x : i < j → ⊥ = below i j a b in
    let y : j < i → ⊥ = below j i b a in
    omega arith
  where
    below : (x y : ℕ) → Lowest ps x → Lowest ps y → x < y → ⊥
    below x y p q h = clash (cc (sym p.is_free ∙ (q.below x h).1))

added_one : (r : ℕ) (ps qs rs : List ℕ) → Added r ps qs → Added r ps rs → qs ≡ rs
added_one r ps qs rs a b = go (decide (absent (held r) ps))
  where
    go : T (absent (held r) ps) ⊎ (T (absent (held r) ps) → ⊥) → qs ≡ rs
    go (inl t) =
        let x = a.new (closed_of r ps t) in
        let y = b.new (closed_of r ps t) in
        x.2 ∙ ap (λ (i : ℕ). set ps i (held r)) (lowest_one ps _ _ x.1 y.1) ∙ sym y.2
    go (inr n) = a.there (open_of r ps n) ∙ sym (b.there (open_of r ps n))

removed_one : (r : ℕ) (ps qs rs : List ℕ) → Removed r ps qs → Removed r ps rs → qs ≡ rs
removed_one r ps qs rs a b = ext_get_or 0 qs rs (a.long ∙ sym b.long) (λ i _. go i (decide (get_or ps i 0 =? held r)))
  where
    go : (i : ℕ) → T (get_or ps i 0 =? held r) ⊎ (T (get_or ps i 0 =? held r) → ⊥) → get_or qs i 0 ≡ get_or rs i 0
    go i (inl t) = a.freed i (eq_of _ _ t) ∙ sym (b.freed i (eq_of _ _ t))
    go i (inr n) = let e : get_or ps i 0 ≡ held r → ⊥ = λ q. n (of_eq _ _ q) in a.others i e ∙ sym (b.others i e)

-- ---- the desk after a notice
module _ (b : Book) (m : Message) (l : LegalMessage (rules_of b) m) (d e f : Desk)
    (A : Notices (rules_of b) m d e) (B : Notices (rules_of b) m d f) where
  abbrev Counted : ℕ → Option (List ℕ) → Type 0
  Counted t c = counted (rules_of b) m t ≡ c

  waiting_one : (c : Option (List ℕ)) → Counted 0x13 c → e.waiting ≡ f.waiting
  waiting_one none q = A.number_stays q ∙ sym (B.number_stays q)
  waiting_one (some v) q =
      let x = waiting_octet b m l v q in
      let z = q ∙ ap some x.1 in
      A.number x.0 z ∙ sym (B.number x.0 z)

  lamp_one : (c : Option (List ℕ)) → Counted 0x0B c → e.lamp ≡ f.lamp
  lamp_one none q = A.lamp_stays q ∙ sym (B.lamp_stays q)
  lamp_one (some v) q = go (lamp_octet b m l v q)
    where
      go : (v ≡ 0x00 ∷ []) ⊎ (v ≡ 0xFF ∷ []) → e.lamp ≡ f.lamp
      go (inl x) = let z = q ∙ ap some x in A.lamp_off z ∙ sym (B.lamp_off z)
      go (inr x) = let z = q ∙ ap some x in A.lamp_on z ∙ sym (B.lamp_on z)

  places_one : (c : Option (List ℕ)) → Counted 0x0D c → e.places ≡ f.places
  places_one none q = A.places_stay q ∙ sym (B.places_stay q)
  places_one (some v) q = let x = identity_octets b m l v q in go x.0 x.1 x.2
    where
      go : (h k : ℕ) → (v ≡ 0x00 ∷ h ∷ k ∷ []) ⊎ ((v ≡ 0x55 ∷ h ∷ k ∷ []) ⊎ (v ≡ 0xFF ∷ h ∷ k ∷ [])) →
          e.places ≡ f.places
      go h k (inl x) = let z = q ∙ ap some x in removed_one _ _ _ _ (A.removes h k z) (B.removes h k z)
      go h k (inr (inl x)) = let z = q ∙ ap some x in A.unset h k z ∙ sym (B.unset h k z)
      go h k (inr (inr x)) = let z = q ∙ ap some x in added_one _ _ _ _ (A.adds h k z) (B.adds h k z)

  -- a notice makes one desk of a desk
  pub notices_one : e ≡ f
  notices_one =
      let w = waiting_one _ refl in
      let p = lamp_one _ refl in
      let s = places_one _ refl in
      λ i. record { waiting = w i; lamp = p i; places = s i }

-- ---- the answer
module _ (R : Rules) (d : Desk) (o : List ℕ) (r s : Outcome) (A : Settles R d o r) (B : Settles R d o s) where
  answer_too : (a : Result (Unit {0}) Fault) → r.answer ≡ a → s.answer ≡ a
  answer_too (Ok u) e = (done_iff B).1 ((done_iff A).0 e)
  answer_too (Err f) e = go (number_of_lem A f e)
    where
      l : 1 ≤ f.number
      l = some_number A f e

      at : (k : ℕ) → f.number ≡ k → (k ≡ 17) ⊎ (k ≡ 21) →
          ◌≡◌ {A = Result (Unit {0}) Fault} (Err f) (Err (noted k f.place))
      at k z w = ap Err (noted_at A f e k z w)

      go : T (verdict_number (calls R) f.number) ⊎ ((f.number ≡ 17) ⊎ (f.number ≡ 21)) → s.answer ≡ Err f
      go (inl t) =
          let x = (refused_iff A f l t).0 e in
          (refused_iff B f l t).1 (x.0, sym (judges_one (calls R) o _ _ A.judged B.judged) ∙ x.1)
      go (inr (inl k)) =
          let z = at 17 k (inl refl) in
          (unfit_iff B f.place).1 ((unfit_iff A f.place).0 (e ∙ z)) ∙ sym z
      go (inr (inr k)) =
          let z = at 21 k (inr refl) in
          (full_iff B f.place).1 ((full_iff A f.place).0 (e ∙ z)) ∙ sym z

kinds : (x : ℕ) → T (message_kind x) → (x ≡ 0x80) ⊎ (x ≡ 0x82)
unfolding message_kind
kinds x t = go (either _ _ t)
  where
    go : T (x =? 0x80) ⊎ T (x =? 0x82) → (x ≡ 0x80) ⊎ (x ≡ 0x82)
    go (inl e) = inl (eq_of _ _ e)
    go (inr e) = inr (eq_of _ _ e)

-- by any book, any octets settled on any desk have one outcome
pub settles_one : (b : Book) (d : Desk) (o : List ℕ) (r s : Outcome) →
    Settles (rules_of b) d o r → Settles (rules_of b) d o s → r ≡ s
settles_one b d o r s A B = λ i. record { desk = desk r.answer refl i; answer = sym (answer r.answer refl) i }
  where
    answer : (a : Result (Unit {0}) Fault) → r.answer ≡ a → s.answer ≡ a
    answer = answer_too (rules_of b) d o r s A B

    by_kind : (m : Message) → LegalMessage (rules_of b) m → octets m ≡ o → r.answer ≡ (Ok tt) →
        (m.kind ≡ 0x80) ⊎ (m.kind ≡ 0x82) → r.desk ≡ s.desk
    by_kind m l q e (inl k) = A.call_stays m l q k ∙ sym (B.call_stays m l q k)
    by_kind m l q e (inr k) =
        notices_one b m l d _ _ (A.notice m l q k ((told-done _ A.clear).1 e))
        (B.notice m l q k ((told-done _ B.clear).1 (answer (Ok tt) e)))

    desk : (a : Result (Unit {0}) Fault) → r.answer ≡ a → r.desk ≡ s.desk
    desk (Err f) e = refusal_leaves A f e ∙ sym (refusal_leaves B f (answer (Err f) e))
    desk (Ok u) e = let x = ((done_iff A).0 e).1 in by_kind x.0 x.1 x.2 e (kinds _ x.1.kind)

-- ---- by an edition and a way
module _ (e w : ℕ) (d : Desk) (o : List ℕ) where
  -- by unknown numbers the desk's places tell the number
  abbrev number : Fit d.places ⊎ (Fit d.places → ⊥) → ℕ
  number (inl f) = 16
  number (inr m) = 17

  none_told : (r : Settling) → SettlesBy e w d o r → (T (known e w) → ⊥) →
      (f : Fit d.places ⊎ (Fit d.places → ⊥)) → told r.answer.answer ≡ refusal (number f) 0 0
  none_told r A n (inl f) = (A.sixteen 0 0).1 (refl, refl, f, n)
  none_told r A n (inr m) = (A.seventeen 0 0).1 (refl, refl, m)

  least : (f : Fit d.places ⊎ (Fit d.places → ⊥)) → 1 ≤ number f
  least (inl f) = omega arith
  least (inr m) = omega arith

  none_one : (r : Settling) → SettlesBy e w d o r → (T (known e w) → ⊥) →
      r.answer ≡ record { desk = d; answer = Err (noted (number (fits d)) 0) }
  none_one r A n =
      let t = none_told r A n (fits d) in
      let l = least (fits d) in
      let a = (told-refused _ (number (fits d)) 0 0 l).0 t in
      let k = A.refusal_stays (omega (arith, number_is t, l)) in
      λ i. record { desk = k i; answer = a i }

  module _ (r s : Settling) (A : SettlesBy e w d o r) (B : SettlesBy e w d o s) where
    outcome_one : r.answer ≡ s.answer
    outcome_one = go (decide (known e w))
      where
        go : T (known e w) ⊎ (T (known e w) → ⊥) → r.answer ≡ s.answer
        go (inl t) = settles_one (book_of e w) d o _ _ (A.by_book t) (B.by_book t)
        go (inr n) = none_one r A n ∙ sym (none_one s B n)

    abbrev k : ℕ
    k = (told r.answer.answer).number

    number_one : k ≡ (told s.answer.answer).number
    number_one = ap (λ (x : Outcome). (told x.answer).number) outcome_one

    edition_one : r.edition ≡ s.edition
    edition_one = go (decide (k =? 16)) (decide (k =? 17))
      where
        none : (k ≡ 16) ⊎ (k ≡ 17) → r.edition ≡ s.edition
        none x =
            A.names_none x
            ∙ sym (B.names_none (subst (λ (j : ℕ). (j ≡ 16) ⊎ (j ≡ 17)) number_one x))

        go : T (k =? 16) ⊎ (T (k =? 16) → ⊥) → T (k =? 17) ⊎ (T (k =? 17) → ⊥) → r.edition ≡ s.edition
        go (inl x) y = none (inl (eq_of _ _ x))
        go (inr x) (inl y) = none (inr (eq_of _ _ y))
        go (inr x) (inr y) =
            A.names (λ z. x (of_eq _ _ z)) (λ z. y (of_eq _ _ z))
            ∙ sym (B.names (λ z. x (of_eq _ _ (number_one ∙ z))) (λ z. y (of_eq _ _ (number_one ∙ z))))

    -- by any numbers, any octets settled on any desk have one outcome, and name one edition
    pub settles_by_one : r ≡ s
    settles_by_one = λ i. record { edition = edition_one i; answer = outcome_one i }
