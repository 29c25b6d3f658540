-- A run goes on: by one step of the machine, or along contents, octet by octet.
-- Assumes nothing.
use Rattle.std.proofs.Common.{◌≡◌, ℕ, ◌+◌, ◌<◌, ◌≤◌, true, false, T, List, length, get_or, drop, sym, refl, ap, ◌∙◌, subst, arith}
use Rattle.rules.proofs.Tests.{pick_yes, pick_not, of_eq, eq_of}
use Rattle.rules.specs.Table.{Rules}
use Rattle.rules.proofs.ContentLaw.{SoundRules}
use Rattle.rules.specs.ContentJudge.{ok_at}
use Rattle.rules.specs.Machine.{step, declined}
use Rattle.rules.specs.Judge.{contents, final, fits, after, fault, machine, in_range}
use Rattle.rules.proofs.InRange.{in_range_closed}
use Rattle.rules.proofs.Steps.{takes, declines}
use Rattle.rules.specs.declared.Spot.{Spot}
use Rattle.rules.specs.declared.Stage.{Stage}
use Rattle.rules.specs.declared.Stage.TheVariants.{Header, Content}
use Rattle.rules.specs.declared.State.{State}
use Rattle.rules.specs.declared.State.TheVariants.{Waiting}
use Rattle.listener.specs.Heard.{stopped, run_from, inside_of, further, Onward}
use Rattle.listener.specs.declared.Frame.{Frame}
use Rattle.listener.specs.declared.Inside.{Inside}
use Rattle.listener.proofs.Runs.{run_more}

waits_on : (w : State) (s : Stage) (q : Spot) → w ≡ Waiting s q → stopped w ≡ false
unfolding stopped
waits_on w s q e = rw e refl

module _ (R : Rules) (S : SoundRules R) where
  -- one octet further
  pub one_step : (s : Stage) (q : Spot) (o : List ℕ) (i : ℕ) (r : State) → T (in_range R (Waiting s q)) →
      i < length o → get_or o i 0 < 256 → r ≡ step (machine R) (Waiting s q) (get_or o i 0) →
      Onward R (Waiting s q) o i (record { state = r; taken = i + 1 })
  one_step s q o i r t h x e = record {
    further = omega arith;
    inside = omega arith;
    is_in_range = subst (λ (w : State). T (in_range R w)) (sym e) (in_range_closed R S (Waiting s q) (get_or o i 0) x t);
    same = run_more (machine R) (Waiting s q) r o i e h (waits_on (Waiting s q) s q refl);
  }

  -- ---- along contents
  module _ (f : Frame) (o : List ℕ) (w : State) (from : ℕ) where
    -- where the loop stands: at octet i and index k of the contents
    pub record Stands (i k m : ℕ) (q : Spot) : Type 0 where
      pub gone : from ≤ i
      pub inside : i ≤ length o
      pub is_in_range : T (in_range R (inside_of f k m q))
      pub same : run_from i (machine R) (inside_of f k m q) (drop i o) ≡ run_from from (machine R) w (drop from o)

    pub stands_first : (k m : ℕ) (q : Spot) → w ≡ inside_of f k m q → T (in_range R (inside_of f k m q)) →
        from < length o → Stands from k m q
    stands_first k m q e t l = record {
      gone = omega arith;
      inside = omega arith;
      is_in_range = t;
      same = ap (λ (v : State). run_from from (machine R) v (drop from o)) (sym e);
    }

    module _ (i k m : ℕ) (q : Spot) (d : Stands i k m q) where
      abbrev here : Stage
      here = Content f.class f.length k m f.room

      -- the run is over
      pub stands_ended : length o ≤ i → from < length o → (s : Stage) → s ≡ here →
          Onward R w o from (record { state = Waiting s q; taken = i })
      stands_ended h l s e =
          rw e (record { further = omega arith; inside = d.inside; is_in_range = d.is_in_range; same = d.same })

      module _ (h : i < length o) (x : get_or o i 0 < 256) where
        -- the state after the octet, whatever it is
        goes : (r : State) → r ≡ step (machine R) (Waiting here q) (get_or o i 0) →
            Onward R w o from (record { state = r; taken = i + 1 })
        goes r e =
            let z = one_step here q o i r d.is_in_range h x e in
            record {
              further = omega (arith, d.gone);
              inside = z.inside;
              is_in_range = z.is_in_range;
              same = z.same ∙ d.same;
            }

        -- it is one of the contents': they go on, or are over
        module _ (t : ok_at f.class f.length k m (get_or o i 0) ≡ true)
            (p : Inside) (e : p ≡ further R f k m q (get_or o i 0)) where
          next : (s : Stage) → s ≡ contents f.class f.length p.index p.memory f.room →
              Onward R w o from (record { state = Waiting s p.spot; taken = i + 1 })
          unfolding further final fits after
          next s u =
              goes (Waiting s p.spot) (takes R here q (get_or o i 0) s p.spot refl t
              (u ∙ ap (λ (z : Inside). contents f.class f.length z.index z.memory f.room) e)
              (ap (λ (z : Inside). z.spot) e))

          pub stands_over : p.index ≡ f.length →
              Onward R w o from (record { state = Waiting (Header f.room) p.spot; taken = i + 1 })
          unfolding contents
          stands_over u = next (Header f.room) (sym (pick_yes _ _ _ (of_eq _ _ u)))

          pub stands_more : (p.index ≡ f.length → ⊥) → Stands (i + 1) p.index p.memory p.spot
          unfolding contents
          stands_more u =
              let z = next _ (sym (pick_not _ _ _ (λ v. u (eq_of _ _ v)))) in
              record { gone = omega (arith, d.gone); inside = z.inside; is_in_range = z.is_in_range; same = z.same }

        -- it spoils them
        pub stands_spoilt : ok_at f.class f.length k m (get_or o i 0) ≡ false → (s : Stage) → s ≡ here →
            (r : State) →
            r ≡ declined (machine R) s 5 q → Onward R w o from (record { state = r; taken = i + 1 })
        unfolding final fits fault
        stands_spoilt t s g r e =
            goes r (declines R here q (get_or o i 0) r refl t (e ∙ ap (λ (z : Stage). declined (machine R) z 5 q) g))
