-- A run goes along parameters: where the turns came to is where the machine would have come, octet by octet.
-- Assumes nothing.
use Rattle.std.proofs.Common.{◌≡◌, ℕ, ◌+◌, ◌-◌, ◌*◌, ◌<◌, ◌≤◌, T, List, [], ◌∷◌, length, take, drop, sym, refl, ap, ◌∙◌, subst, add-zero, arith, length-drop, take_all, drop-drop}
use Rattle.rules.specs.Tests.{◌=?◌, pick}
use Rattle.rules.proofs.Tests.{both, join, pick_yes, pick_not, eq_of, of_eq}
use Rattle.rules.specs.Contents.{within}
use Rattle.rules.specs.Refusals.{noted_in}
use Rattle.rules.specs.Octets.{Octets}
use Rattle.rules.proofs.Octets.{octets-take, octets-drop}
use Rattle.rules.specs.Table.{Rules}
use Rattle.rules.proofs.ContentLaw.{SoundRules}
use Rattle.rules.specs.Machine.{Machine, run, place}
use Rattle.rules.specs.Judge.{machine, place_fits, count_fits, in_range}
use Rattle.rules.proofs.Language.{in_range-run}
use Rattle.rules.proofs.Grammar.{spoken}
use Rattle.rules.proofs.InRange.{low, high, inside, of_behind, to_behind, few, refused-number}
use Rattle.rules.proofs.Listening.{message_stays, refused_stays}
use Rattle.rules.specs.declared.Spot.{Spot}
use Rattle.rules.specs.declared.Stage.TheVariants.{Header}
use Rattle.rules.specs.declared.State.{State}
use Rattle.rules.specs.declared.State.TheVariants.{Waiting, Message, Refused}
use Rattle.turns.specs.declared.Stop.{Stop}
use Rattle.turns.specs.Turns.{Turned, from}
use Rattle.turns.proofs.Between.{along_from, along-room, along_count, along_inside, near, stop_inside}
use Rattle.listener.specs.Heard.{stopped, taken, run_from, Onward}
use Rattle.listener.proofs.Runs.{place-taken, taken_most}

module _ (R : Rules) (S : SoundRules R) (o : List ℕ) (i : ℕ) (room : ℕ) (q : Spot) where
  abbrev M : Machine
  M = machine R

  abbrev w : State
  w = Waiting (Header room) q

  -- a state that the octets from i on lead to after d of them
  pub record Jump (d : ℕ) (v : State) : Type 0 where
    pub further : 1 ≤ d
    pub there : i + d ≤ length o
    pub is_in_range : T (in_range R v)
    pub same : run M v (drop (i + d) o) ≡ run M w (drop i o)
    pub place_is : place v ≡ q.place + d

  pub jumped : (d : ℕ) (v : State) → Jump d v → (t : ℕ) → t ≡ i + d → Onward R w o i (record { state = v; taken = t })
  unfolding run_from
  jumped d v j t e =
      let a = place-taken M v (drop (i + d) o) in
      let b = place-taken M w (drop i o) in
      let c : place (run M v (drop (i + d) o)) ≡ place (run M w (drop i o)) = ap place j.same in
      let k : i + d + taken M v (drop (i + d) o) ≡ i + taken M w (drop i o) = omega (arith, j.place_is) in
      rw e (record {
        further = omega (arith, j.further);
        inside = j.there;
        is_in_range = j.is_in_range;
        same = λ z. record { state = j.same z; taken = k z };
      })

  -- ---- where the turns came to
  module _ (h : i < length o) (b : Octets o) (g : T (in_range R w)) where
    abbrev rest : List ℕ
    rest = take (length o - i) (drop i o)

    all_there : rest ≡ drop i o
    all_there = take_all (length o - i) (drop i o) (omega (arith, length-drop i o))

    begins : from R rest 0 room q.sum 0 q.place q.parameter ≡ run M w (drop i o)
    begins = λ z. run M (Waiting (Header room) (record {
      sum = q.sum;
      place = add-zero q.place z;
      parameter = add-zero q.parameter z;
    })) (all_there z)

    ends_in : T (in_range R (run M w (drop i o)))
    ends_in = in_range-run (spoken R S) w (drop i o) (octets-drop i o b) g

    first_taken : (v : List ℕ) → 1 ≤ length v → 1 ≤ taken M w v
    unfolding taken stopped pick
    first_taken [] l = absurd (omega arith)
    first_taken (x ∷ v) l = omega arith

    -- an answer after d octets
    module _ (d : ℕ) (v : State) (e : run M w (drop i o) ≡ v) (stays : run M v (drop (i + d) o) ≡ v)
        (p : place v ≡ q.place + d) where
      answered : Jump d v
      answered =
          let k : place v ≡ q.place + taken M w (drop i o) = sym (ap place e) ∙ place-taken M w (drop i o) in
          record {
            further = omega (arith, p, k, first_taken (drop i o) (omega (arith, length-drop i o)));
            there = omega (arith, p, k, taken_most M w (drop i o), length-drop i o);
            is_in_range = subst (λ (x : State). T (in_range R x)) e ends_in;
            same = stays ∙ sym e;
            place_is = p;
          }

    -- where the header stands
    room_here : T (within (5, 257) (q.place + room))
    unfolding in_range place_fits
    room_here = (both _ _ g).0

    count_here : 3 * q.parameter + 2 ≤ q.place
    unfolding in_range count_fits
    count_here = of_behind _ _ (both _ _ g).1

    module _ (s : Stop) (t : Turned R rest 0 room q.sum 0 s) where
      -- its place lies inside the octets, and is no further than a message's end
      pub there_place : i + s.place ≤ length o
      there_place = omega (arith, stop_inside R rest room q.sum s t, ap length all_there, length-drop i o)

      pub near_place : room ≤ 255 → q.place + s.place ≤ 65535
      near_place l =
          omega (
            arith,
            high _ _ _ room_here,
            near R rest S (octets-take (length o - i) (drop i o) (octets-drop i o b)) 0 room q.sum 0
                (omega (arith, l)) (omega arith) s t,
          )

      -- and its parameter is one of a message's
      pub few_begun : q.parameter + s.parameter ≤ 255
      few_begun = go s t
        where
          go : (s : Stop) → Turned R rest 0 room q.sum 0 s → q.parameter + s.parameter ≤ 255
          go s (Turned.whole n f) = omega (arith, few R S (Header room) q g)
          go s (Turned.early n r v c a x) =
              omega (arith, along_count R rest a, (along-room R rest a).1, count_here, high _ _ _ room_here)
          go s (Turned.unsealed n f) = omega (arith, few R S (Header room) q g)
          go s (Turned.spoilt k n c x y z f) =
              let e = sym begins ∙ f q.place q.parameter in
              omega (arith, (refused-number R _ (subst (λ (x : State). T (in_range R x)) e ends_in)).2)

      pub to_message : s.number ≡ 0 → Jump s.place (Message (q.place + s.place))
      to_message e = go s t e
        where
          go : (s : Stop) → Turned R rest 0 room q.sum 0 s → s.number ≡ 0 →
              Jump s.place (Message (q.place + s.place))
          go s (Turned.whole n f) e =
              answered n (Message (q.place + n)) (sym begins ∙ f q.place q.parameter) (message_stays M _ _) refl
          go s (Turned.early n r v c a x) e = absurd (omega arith)
          go s (Turned.unsealed n f) e = absurd (omega arith)
          go s (Turned.spoilt k n c x y z f) e = absurd (x e)

      pub to_refusal : (s.number ≡ 0 → ⊥) → (s.number ≡ 8 → ⊥) → (b : ℕ) →
          b ≡ pick (s.number =? 6) 0 (q.parameter + s.parameter) →
          Jump (s.place + 1) (Refused (noted_in s.number (q.place + s.place) b))
      to_refusal e d = go s t e d
        where
          go : (s : Stop) → Turned R rest 0 room q.sum 0 s → (s.number ≡ 0 → ⊥) → (s.number ≡ 8 → ⊥) → (b : ℕ) →
              b ≡ pick (s.number =? 6) 0 (q.parameter + s.parameter) →
              Jump (s.place + 1) (Refused (noted_in s.number (q.place + s.place) b))
          go s (Turned.whole n f) e d b u = absurd (e refl)
          go s (Turned.early n r v c a x) e d b u = absurd (d refl)
          go s (Turned.unsealed n f) e d b u =
              subst (λ (k : ℕ). Jump (n + 1) (Refused (noted_in 6 (q.place + n) k)))
              (sym (u ∙ pick_yes _ _ _ (of_eq _ _ refl)))
              (answered (n + 1) _ (sym begins ∙ f q.place q.parameter) (refused_stays M _ _) (omega arith))
          go s (Turned.spoilt k n c x y z f) e d b u =
              subst (λ (j : ℕ). Jump (n + 1) (Refused (noted_in k (q.place + n) j)))
              (sym (u ∙ pick_not _ _ _ (λ h. y (eq_of _ _ h))))
              (answered (n + 1) _ (sym begins ∙ f q.place q.parameter) (refused_stays M _ _) (omega arith))

      abbrev there_spot : Stop → Spot
      there_spot s = record {
        sum = s.sum;
        place = q.place + s.place;
        parameter = q.parameter + s.parameter;
      }

      pub to_header : s.number ≡ 8 → (s.place ≡ 0 → ⊥) →
          Jump s.place (Waiting (Header s.room) (there_spot s))
      unfolding in_range place_fits count_fits
      to_header e d = go s t e d
        where
          go : (s : Stop) → Turned R rest 0 room q.sum 0 s → s.number ≡ 8 → (s.place ≡ 0 → ⊥) →
              Jump s.place (Waiting (Header s.room) (there_spot s))
          go s (Turned.whole n f) e d = absurd (omega arith)
          go s (Turned.unsealed n f) e d = absurd (omega arith)
          go s (Turned.spoilt k n c x y z f) e d = absurd (z e)
          go s (Turned.early n r v c a x) e d =
              let m = (along-room R rest a).1 in
              let l = along_inside R rest a (omega arith) in
              let k = along_count R rest a in
              record {
                further = omega arith;
                there = omega (arith, l, ap length all_there, length-drop i o);
                is_in_range =
                    join _ _ (inside 5 257 _ (omega (arith, m, low _ _ _ room_here)) (omega
                    (arith, m, high _ _ _ room_here)))
                    (to_behind _ _ (omega (arith, k, count_here)));
                same =
                    ap (run M (Waiting (Header r) (record {
                      sum = v;
                      place = q.place + n;
                      parameter = q.parameter + c;
                    })))
                    (sym (ap (drop n) all_there ∙ drop-drop n i o))
                    ∙ sym (along_from R rest a q.place q.parameter) ∙ begins;
                place_is = refl;
              }
