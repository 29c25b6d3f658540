-- The walker gives what is promised: its step follows the verdict on the octets, and in a message the walk meets each
-- parameter where it begins; so one call after the other gives all the parameters in order, then none for ever.
-- Assumes nothing.
use Rattle.std.proofs.Common.{ℕ, Result, Ok, Err, Some, None}
use Prim.Native.Nat.{ℕ, zero, suc, ◌+◌, ◌≤◌}
use mathlib.Core.Path.{◌≡◌, refl, sym, ◌∙◌, ap, ap₂, subst}
use mathlib.Core.Logic.Iff
use mathlib.Core.Logic.{◌⊎◌, inl, inr, ◌↔◌}
use mathlib.Core.List.{List, [], ◌∷◌, ◌++◌}
use native.Mathlib.Omega.{arith}
use lib.ListN.{length, length-append, take, drop}
use lib.Dec.{T}
use Rattle.rules.proofs.Tests.{clash}
use Rattle.rules.specs.Octets.{Octets, total, checksum}
use Rattle.rules.specs.Table.{Rules}
use Rattle.rules.proofs.Unique.{told_of}
use Rattle.rules.proofs.ContentLaw.{SoundRules}
use Rattle.rules.specs.Message as message
use Rattle.rules.specs.Message.{Message, body, front, octets, LegalMessage, most}
use Rattle.rules.specs.declared.Fault.{Fault}
use Rattle.rules.specs.Refusals.{noted_in}
use Rattle.message.specs.Verdict.{verdict_of}
use Rattle.message.specs.Judges.{Judges, verdict_number}
use Rattle.message.proofs.Judges.{judges_calls, told_small}
use Rattle.message.proofs.Told.{told-declined, accepted_iff, some_number, number_of_lem}
use Rattle.message.proofs.Searching.{Stand}
use Rattle.rules.proofs.Sizes.{few}
use Rattle.rules.specs.Language.{calls}
use Rattle.rules.proofs.Grammar.{spoken}
use Rattle.walker.specs.Told.{told, nothing}
use Rattle.walker.proofs.Told.{told-refused, clear_of}
use Rattle.walker.specs.Steps.{walk_from, step_under, step_of, next_place, place_at, Step, given}
use Rattle.walker.proofs.Steps.{walk_plain, under_inside}
use Rattle.walker.proofs.Begins.{giving, begin_at, place_behind, begins_before, begins_apart, walk_begins, walk_begun, walk_none, walk_on, walk_ended, contents_stand}
use Rattle.walker.specs.Walks.{Begins, Gives, StepAt, Walks}

-- ---- the step and the verdict
module _ (o : List ℕ) (at : ℕ) where
  accepted_is : (v : Result ℕ Fault) (n : ℕ) → v ≡ Ok n → step_under v o at ≡ walk_from most o at 2
  unfolding step_under
  accepted_is v n e = rw e

  accepted_of : (v : Result ℕ Fault) → ((f : Fault) → v ≡ Err f → 1 ≤ f.number) →
      (told (step_under v o at)).number ≡ 0 → (n : ℕ) × (v ≡ Ok n)
  unfolding step_under told
  accepted_of (Ok n) h e = (n, refl)
  accepted_of (Err f) h e = absurd (omega (arith, h f refl))

  refused_of : (v : Result ℕ Fault) (f : Fault) → (step_under v o at ≡ Err f) ↔ (v ≡ Err f)
  unfolding step_under
  refused_of (Ok n) f = (λ e. absurd ((walk_plain o most at 2).1 f e), λ e. clash cc)
  refused_of (Err g) f = (λ e. cc, λ e. cc)

  numbers_of_lem : (R : Rules) (v : Result ℕ Fault) →
      ((f : Fault) → v ≡ Err f → T (verdict_number (calls R) f.number)) →
      ((told (step_under v o at)).number ≡ 0) ⊎ T (verdict_number (calls R) (told (step_under v o at)).number)
  unfolding step_under told
  numbers_of_lem R (Ok n) h = inl (walk_plain o most at 2).0
  numbers_of_lem R (Err f) h = inr (h f refl)

place_stays : (at : ℕ) (r : Step) → (told r).more ≡ 0 → next_place at r ≡ at
unfolding told next_place
place_stays at (Ok (Some one)) l = absurd (omega arith)
place_stays at (Ok None) l = refl
place_stays at (Err f) l = refl

-- ---- the step in a message
given_is : (r : Step) → (told r).more ≡ 1 → (k s n next : ℕ) × (r ≡ given k s n next)
unfolding told
given_is (Ok (Some one)) e = (one.kind, one.start, one.length, one.next, refl)
given_is (Ok None) e = absurd (omega arith)
given_is (Err f) e = absurd (omega arith)

giving_gives : (o : List ℕ) (at : ℕ) (p : message.Parameter) →
    take (length p.contents) (drop (at + 2) o) ≡ p.contents → Gives o at p (giving at p)
unfolding told next_place
giving_gives o at p e =
    record {
      number = refl;
      place = refl;
      parameter = refl;
      more = refl;
      kind = refl;
      start = refl;
      size = refl;
      octets = e;
      next = refl;
    }

module _ (R : Rules) (S : SoundRules R) where
  module _ (m : Message) (l : LegalMessage R m) where
    abbrev o : List ℕ
    o = octets m

    abbrev c : ℕ
    c = checksum (total (front m))

    legal_step : (at : ℕ) → step_of R o at ≡ walk_from most o at 2
    unfolding step_of
    legal_step at =
        accepted_is o at _ (length o) ((accepted_iff (judges_calls R S o ((told_of R S).octets _ (m, l, refl)))
        (length o)).1 (refl, (m, l, refl)))

    stand : Stand o c 2 m.parameters
    unfolding octets
    stand = refl

    step_gives : (at : ℕ) (b : Begins 2 m.parameters at) → Gives o at b.p (step_of R o at)
    step_gives at b =
        subst (Gives o at b.p)
        (sym (legal_step at ∙ walk_begins o c most at 2 m.parameters stand (few R S m l) b))
        (giving_gives o at b.p (contents_stand o c at 2 m.parameters stand b))

    none_at : (at : ℕ) → (Begins 2 m.parameters at → ⊥) → step_of R o at ≡ Ok None
    none_at at n = legal_step at ∙ walk_none o c most at 2 m.parameters stand (few R S m l) n

    none_told : (at : ℕ) → (Begins 2 m.parameters at → ⊥) → told (step_of R o at) ≡ nothing
    unfolding told
    none_told at n = ap told (none_at at n)

    long_is : length o ≡ 3 + length (body m.parameters)
    unfolding octets
    long_is = omega (arith, length-append (body m.parameters) (c ∷ []))

    step_stands : (at : ℕ) → StepAt m at (step_of R o at)
    step_stands at = record {
      parameter = step_gives at;
      begins =
          λ e. let g = given_is _ e in walk_begun o c most at 2 m.parameters stand (few R S m l) _ _ _ _
          (sym (legal_step at) ∙ g.4);
      none = none_told at;
      none_early = λ h. none_told at (λ b. omega (arith, b.place, h));
      none_inside = λ place b h k. none_told at (λ d. omega (arith, begins_apart 2 m.parameters place at b d h, k));
      none_late = λ h. none_told at (λ b. omega (arith, begins_before 2 m.parameters at b, long_is, h));
    }

    -- ---- one call after the other
    place_is : (calls : ℕ) → place_at R o calls ≡ begin_at 2 m.parameters calls
    unfolding place_at begin_at
    place_is zero = refl
    place_is (suc calls) =
        ap₂ next_place (place_is calls) (ap (step_of R o) (place_is calls) ∙ legal_step _)
        ∙ walk_on o c most 2 m.parameters calls stand (few R S m l)

    -- the call that as many went before as the parameter p has before it gives p
    pub in_order : (b : List message.Parameter) (p : message.Parameter) (a : List message.Parameter) →
        m.parameters ≡ b ++ p ∷ a → Gives o (place_at R o (length b)) p (step_of R o (place_at R o (length b)))
    in_order b p a e = step_gives _ (record {
      before = b;
      p = p;
      behind = a;
      is = e;
      place =
          place_is (length b) ∙ ap (λ (ps : List message.Parameter). begin_at 2 ps (length b)) e ∙ place_behind 2 b p a;
    })

    -- and after as many as there are parameters there are no more, for ever
    pub no_more : (calls : ℕ) → length m.parameters ≤ calls → step_of R o (place_at R o calls) ≡ Ok None
    no_more calls h =
        ap (step_of R o) (place_is calls)
        ∙ legal_step _
        ∙ walk_ended o c most 2 m.parameters calls stand (few R S m l) h

  module _ (o : List ℕ) (q : Octets o) (at : ℕ) where
    abbrev v : Result ℕ Fault
    v = verdict_of R o

    abbrev J : Judges (calls R) o v
    J = judges_calls R S o q

    pub walks : Walks R o at (step_of R o at)
    unfolding step_of
    walks = record {
      clear = clear_of _ (λ f e. some_number J f ((refused_of o at v f).0 e));
      done = (
        λ e. let a =
            accepted_of o at v (λ f k. (told_small (spoken R S) _ (number_of_lem J f k)).0) e in
            ((accepted_iff J a.0).0 a.1).1,
        λ a. ap (λ (r : Step). (told r).number)
            (accepted_is o at v (length o) ((accepted_iff J (length o)).1 (refl, a))) ∙ (walk_plain o most at 2).0,
      );
      verdict = v;
      judged = J;
      refused =
          λ k p b l. Iff.trans (told-refused _ k p b l)
          (Iff.trans (refused_of o at v (noted_in k p b)) (Iff.symm (told-declined v k p b l)));
      stays = place_stays at _;
      numbers = numbers_of_lem o at R v (number_of_lem J);
      inside = under_inside o v at;
      stands = λ m l e. subst (λ (x : List ℕ). StepAt m at (step_of R x at)) e (step_stands m l at);
    }
