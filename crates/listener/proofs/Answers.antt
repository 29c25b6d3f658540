-- Any answer of any listener: it is the machine's, whose numbers are at most 10, or 16 or 17, which take nothing.
-- Assumes nothing.
use Rattle.std.proofs.Common.{◌≡◌, ℕ, ◌≤◌, T, ◌⊎◌, List, sym, refl, ap, ◌∙◌, subst, inl, inr, arith}
use Rattle.rules.specs.Octets.{Octets}
use Rattle.rules.specs.Language.{Language}
use Rattle.rules.proofs.Language.{Spoken, in_range-run}
use Rattle.rules.proofs.Grammar.{spoken_of}
use Rattle.rules.specs.declared.State.{State}
use Rattle.listener.specs.declared.Listener.{Listener}
use Rattle.listener.specs.declared.Answer.{Answer}
use Rattle.listener.specs.declared.Answer.TheVariants.{Waits, Message, Refused}
use Rattle.listener.specs.declared.Heard.{Heard}
use Rattle.listener.specs.Told.{Told, told, refusal, Clear}
use Rattle.listener.specs.Heard.{answer_of, untaken, heard_of}
use Rattle.listener.specs.Answers.{Known, InRange, Answers}
use Rattle.listener.proofs.Hears.{B, Ranged, ranged, clear_of, ways, numbers_kept, in_range_heard, unknown_heard, out_of_range_heard}

number_is : {x y : Told} → x ≡ y → x.number ≡ y.number
number_is d = ap (λ (x : Told). x.number) d

-- in range the machine's answer has a number up to 10, or none
small : {K : Language} → Spoken K → (w : State) → T (K.in_range w) → (told (answer_of w)).number ≤ 10
unfolding told
small H w t = go (answer_of w) (ranged H w t)
  where
    go : (a : Answer) → Ranged a → (told a).number ≤ 10
    go Waits g = omega arith
    go (Message n) g = omega arith
    go (Refused f) g = g.1

untaken_tells : (k : ℕ) (l : Listener) → told (untaken k l).answer ≡ refusal k 0 0
unfolding told
untaken_tells k l = refl

apart : (k : ℕ) → k ≤ 10 → (k ≡ 16) ⊎ (k ≡ 17) → ⊥
apart k h (inl e) = omega arith
apart k h (inr e) = omega arith

-- a refusal by number alone says exactly that
module _ (l : Listener) (o : List ℕ) (r : Heard) (k : ℕ) (d : r ≡ untaken k l) where
  tells : told r.answer ≡ refusal k 0 0
  tells = ap (λ (x : Heard). told x.answer) d ∙ untaken_tells k l

  at_zero : (p b : ℕ) → told r.answer ≡ refusal k p b → (p ≡ 0) × (b ≡ 0)
  at_zero p b x =
      let y = sym x ∙ tells in (ap (λ (z : Told). z.place) y, ap (λ (z : Told). z.parameter) y)

  from_zero : (p b : ℕ) → p ≡ 0 → b ≡ 0 → told r.answer ≡ refusal k p b
  from_zero p b x y = let u = sym x in let v = sym y in tells ∙ (λ i. refusal k (u i) (v i))

  another : (j p b : ℕ) → (j ≡ k → ⊥) → told r.answer ≡ refusal j p b → ⊥
  another j p b n x = n (sym (number_is x) ∙ number_is tells)

-- of any listener at all
pub answers : (l : Listener) (o : List ℕ) → Octets o → (r : Heard) → r ≡ heard_of l o → Answers l o r
answers l o q r e = go (ways l)
  where
    kept : (r.listener.edition ≡ l.edition) × (r.listener.way ≡ l.way)
    kept =
        let n = numbers_kept l o in (
          ap (λ (x : Heard). x.listener.edition) e ∙ n.0,
          ap (λ (x : Heard). x.listener.way) e ∙ n.1,
        )

    go : (InRange l × Known l) ⊎ ((InRange l × (Known l → ⊥)) ⊎ (InRange l → ⊥)) → Answers l o r
    go (inl t) =
        let d = e ∙ in_range_heard l o t.0 t.1 in
        let w = in_range-run (spoken_of (B l)) l.state o q t.0 in
        let few : (told r.answer).number ≤ 10 =
        subst (λ (x : Heard). (told x.answer).number ≤ 10) (sym d) (small (spoken_of (B l)) _ w) in
        record {
          clear = subst (λ (x : Heard). Clear x.answer) (sym d) (clear_of (spoken_of (B l)) _ w);
          seventeen = λ p b. (λ x. absurd (apart _ few (inr (number_is x))), λ x. absurd (x.2 t.0));
          sixteen = λ p b. (λ x. absurd (apart _ few (inl (number_is x))), λ x. absurd (x.3 t.1));
          stays = λ x. absurd (apart _ few x);
          edition_kept = kept.0;
          way_kept = kept.1;
          names = λ a b. ap (λ (x : Heard). x.edition) d;
          names_none = λ x. absurd (apart _ few x);
        }
    go (inr (inl t)) =
        let d = e ∙ unknown_heard l o t.0 t.1 in
        record {
          clear = subst (λ (x : Heard). Clear x.answer) (sym d) (omega arith);
          seventeen = λ p b. (λ x. absurd (another l o r 16 d 17 p b (λ z. omega arith) x), λ x. absurd (x.2 t.0));
          sixteen = λ p b. (
            λ x. let z = at_zero l o r 16 d p b x in (z.0, z.1, t.0, t.1),
            λ x. from_zero l o r 16 d p b x.0 x.1,
          );
          stays = λ x. (ap (λ (x : Heard). x.taken) d, ap (λ (x : Heard). x.listener) d);
          edition_kept = kept.0;
          way_kept = kept.1;
          names = λ a b. absurd (a (number_is (tells l o r 16 d)));
          names_none = λ x. ap (λ (x : Heard). x.edition) d;
        }
    go (inr (inr n)) =
        let d = e ∙ out_of_range_heard l o n in
        record {
          clear = subst (λ (x : Heard). Clear x.answer) (sym d) (omega arith);
          seventeen = λ p b. (
            λ x. let z = at_zero l o r 17 d p b x in (z.0, z.1, n),
            λ x. from_zero l o r 17 d p b x.0 x.1,
          );
          sixteen = λ p b. (λ x. absurd (another l o r 17 d 16 p b (λ z. omega arith) x), λ x. absurd (n x.2));
          stays = λ x. (ap (λ (x : Heard). x.taken) d, ap (λ (x : Heard). x.listener) d);
          edition_kept = kept.0;
          way_kept = kept.1;
          names = λ a b. absurd (b (number_is (tells l o r 17 d)));
          names_none = λ x. ap (λ (x : Heard). x.edition) d;
        }
