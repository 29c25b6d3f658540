-- The sentences on hearing leave one answer and one number of octets taken: each answer is told by the octets alone,
-- and the octets taken by the answer. What the listener then is, the contract settles.
-- Assumes nothing.
use Rattle.std.proofs.Common.{◌≡◌, ℕ, ◌≤◌, ◌⊎◌, List, sym, refl, ap, ◌∙◌, subst, inl, inr, arith}
use Rattle.rules.specs.Language.{Language}
use Rattle.listener.specs.declared.Answer.{Answer}
use Rattle.listener.specs.declared.Answer.TheVariants.{Waits, Message, Refused}
use Rattle.listener.specs.declared.Heard.{Heard}
use Rattle.listener.specs.declared.Listener.{Listener}
use Rattle.listener.specs.Hears.{Hears}
use Rattle.listener.specs.Answers.{Known, InRange, Answers}
use Rattle.listener.specs.Told.{Told, told, refusal, Clear}
use Rattle.listener.proofs.Told.{told_waits, told_message, told-refused}

pub hears_one : (L : Language) (h o : List ℕ) (r s : Heard) →
    Hears L h o r → Hears L h o s → (r.answer ≡ s.answer) × (r.taken ≡ s.taken)
hears_one L h o r s A B = go r.answer refl
  where
    go : (x : Answer) → r.answer ≡ x → (r.answer ≡ s.answer) × (r.taken ≡ s.taken)
    go Waits e =
        let a = (told_waits _ A.clear).1 e in
        let b = B.waits.1 (A.waits.0 a) in
        (e ∙ sym ((told_waits _ B.clear).0 b), A.taken_waiting a ∙ sym (B.taken_waiting b))
    go (Message n) e =
        let l : 1 ≤ n = subst Clear e A.clear in
        let a = (told_message _ n l).1 e in
        let b = (B.has_message n l).1 ((A.has_message n l).0 a) in
        (e ∙ sym ((told_message _ n l).0 b), omega (arith, A.taken_message n l a, B.taken_message n l b))
    go (Refused f) e =
        let l : 1 ≤ f.number = subst Clear e A.clear in
        let a = (told-refused _ f.number f.place f.parameter l).1 e in
        let b = (B.refuses f.number f.place f.parameter l).1 ((A.refuses f.number f.place
        f.parameter l).0 a) in (
          e ∙ sym ((told-refused _ f.number f.place f.parameter l).0 b),
          omega (
            arith,
            A.taken_refused f.number f.place f.parameter l a,
            B.taken_refused f.number f.place f.parameter l b,
          ),
        )

-- of a listener out of range, or of unknown numbers, the sentences leave one outcome, the listener included
module _ (l : Listener) (o : List ℕ) (r s : Heard) (A : Answers l o r) (B : Answers l o s) where
  alike : (k : ℕ) → (k ≡ 16) ⊎ (k ≡ 17) → told r.answer ≡ refusal k 0 0 → told s.answer ≡ refusal k 0 0 → r ≡ s
  alike k z x y =
      let u = tells (told r.answer) x z in
      let v = tells (told s.answer) y z in
      let a = (told-refused _ k 0 0 (least z)).0 x ∙ sym ((told-refused _ k 0 0 (least z)).0 y) in
      let b = (A.stays u).1 ∙ sym (B.stays v).1 in
      let c = (A.stays u).0 ∙ sym (B.stays v).0 in
      let d = A.names_none u ∙ sym (B.names_none v) in
      λ i. record { listener = b i; answer = a i; taken = c i; edition = d i }
    where
      least : (k ≡ 16) ⊎ (k ≡ 17) → 1 ≤ k
      least (inl e) = omega arith
      least (inr e) = omega arith

      tells : (t : Told) → t ≡ refusal k 0 0 → (k ≡ 16) ⊎ (k ≡ 17) → (t.number ≡ 16) ⊎ (t.number ≡ 17)
      tells t q (inl e) = inl (ap (λ (t : Told). t.number) q ∙ e)
      tells t q (inr e) = inr (ap (λ (t : Told). t.number) q ∙ e)

  pub answers_one : (InRange l → ⊥) ⊎ (InRange l × (Known l → ⊥)) → r ≡ s
  answers_one (inl n) =
      alike 17 (inr refl) ((A.seventeen 0 0).1 (refl, refl, n)) ((B.seventeen 0 0).1 (refl, refl, n))
  answers_one (inr t) =
      alike 16 (inl refl) ((A.sixteen 0 0).1 (refl, refl, t.0, t.1)) ((B.sixteen 0 0).1 (refl, refl, t.0, t.1))
