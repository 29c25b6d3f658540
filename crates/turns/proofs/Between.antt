-- From header to header: the machine stands at the last header on the way as it would have come there octet by octet;
-- the room falls by what lies between; and how far a stop can be.
-- Assumes nothing.
use Rattle.std.proofs.Common.{◌≡◌, ℕ, ◌+◌, ◌-◌, ◌*◌, ◌≤◌, true, T, List, [], ◌∷◌, length, take, drop, refl, ap, ◌∙◌, subst, add_assoc, arith, length-drop, drop-drop}
use Rattle.rules.proofs.Tests.{both, join, le_of, clash}
use Rattle.rules.proofs.Returns.{T_of, holds}
use Rattle.rules.specs.Octets.{Octets}
use Rattle.rules.proofs.Octets.{octets-drop}
use Rattle.rules.specs.Table.{Rules, class_of}
use Rattle.rules.proofs.ContentLaw.{SoundRules}
use Rattle.rules.specs.Machine.{step, run, place}
use Rattle.rules.proofs.Listening.{stepped, placed, message_stays, refused_stays}
use Rattle.rules.specs.Judge.{machine, place_fits, count_fits, in_range}
use Rattle.rules.proofs.Language.{in_range-run}
use Rattle.rules.proofs.Grammar.{spoken}
use Rattle.rules.proofs.InRange.{inside, to_behind, message_size, refused-number}
use Rattle.rules.specs.declared.Stage.TheVariants.{Header}
use Rattle.rules.specs.declared.State.{State}
use Rattle.rules.specs.declared.State.TheVariants.{Waiting, Message, Refused}
use Rattle.turns.specs.declared.Stop.{Stop}
use Rattle.turns.specs.Turns.{stands, span_of, summed, Along, Turned, from}
use Rattle.turns.proofs.Steps.{count_on, passes_over, fits_facts}

-- a parameter that stands takes its octets of the room, and they are there
span_fits : (R : Rules) (room : ℕ) (o : List ℕ) → stands R room o ≡ true → (span_of o ≤ room) × (span_of o ≤ length o)
unfolding stands span_of
span_fits R room [] e = absurd (clash cc)
span_fits R room (t ∷ []) e = absurd (clash cc)
span_fits R room (t ∷ n ∷ v) e =
    let b = both _ _ (T_of _ e) in
    let f = fits_facts R (class_of R t) room n (holds _ b.0) in
    (omega (arith, f.1), omega (arith, le_of _ _ (both _ _ b.1).0))

span_least : (R : Rules) (room : ℕ) (o : List ℕ) → stands R room o ≡ true → 3 ≤ span_of o
unfolding stands span_of
span_least R room [] e = absurd (clash cc)
span_least R room (t ∷ []) e = absurd (clash cc)
span_least R room (t ∷ n ∷ v) e =
    let b = both _ _ (T_of _ e) in
    omega (arith, (fits_facts R (class_of R t) room n (holds _ b.0)).0)

module _ (R : Rules) (o : List ℕ) where
  -- over one parameter
  pub one_over : (at room sum count p b : ℕ) → stands R room (drop at o) ≡ true →
      from R o at room sum count p b ≡
      from R o (at + span_of (drop at o)) (room - span_of (drop at o))
      (summed sum (take (span_of (drop at o)) (drop at o))) (count + 1) p b
  one_over at room sum count p b e =
      passes_over R room (record { sum = sum; place = p + at; parameter = b + count }) (drop at o) e
      ∙ (λ i. run (machine R) (Waiting (Header (room - span_of (drop at o))) (record {
        sum = summed sum (take (span_of (drop at o)) (drop at o));
        place = add_assoc p at (span_of (drop at o)) i;
        parameter = count_on b count i;
      })) (drop-drop (span_of (drop at o)) at o i))

  -- over all of them
  pub along_from : {at room sum count n r v c : ℕ} → Along R o at room sum count n r v c → (p b : ℕ) →
      from R o at room sum count p b ≡ from R o n r v c p b
  along_from (Along.stays e) p b = refl
  along_from {at = at} {room = room} {sum = sum} {count = count} (Along.goes e a) p b =
      one_over at room sum count p b e ∙ along_from a p b

  pub along-room : {at room sum count n r v c : ℕ} → Along R o at room sum count n r v c →
      (at ≤ n) × (n + r ≡ at + room)
  along-room (Along.stays e) = (omega arith, refl)
  along-room {at = at} {room = room} (Along.goes e a) =
      let s = span_fits R room (drop at o) e in
      let ih = along-room a in
      (omega (arith, s.0, ih.0), omega (arith, s.0, ih.1))

  -- each parameter on the way has three octets at least
  pub along_count : {at room sum count n r v c : ℕ} → Along R o at room sum count n r v c →
      3 * c + at ≤ n + 3 * count
  along_count (Along.stays e) = omega arith
  along_count {at = at} {room = room} (Along.goes e a) =
      omega (arith, span_least R room (drop at o) e, along_count a)

  pub along_inside : {at room sum count n r v c : ℕ} → Along R o at room sum count n r v c → at ≤ length o →
      n ≤ length o
  along_inside (Along.stays e) h = h
  along_inside {at = at} {room = room} (Along.goes e a) h =
      along_inside a (omega (arith, (span_fits R room (drop at o) e).1, length-drop at o))

  -- ---- how far
  -- the octets lie where a message of the most octets has them, so that a stop is no further than its end
  pub near : SoundRules R → Octets o → (at room sum count : ℕ) → at + room ≤ 255 → 3 * count ≤ at → (s : Stop) →
      Turned R o at room sum count s → s.place ≤ 256
  unfolding in_range place_fits count_fits
  near S b at room sum count h l s t = go s t (in_range-run (spoken R S) _ (drop at o) (octets-drop at o b) starts)
    where
      starts : T (in_range R (Waiting (Header room) (record {
        sum = sum;
        place = 257 - (at + room) + at;
        parameter = 0 + count;
      })))
      starts = join _ _ (inside 5 257 _ (omega arith) (omega arith)) (to_behind _ _ (omega arith))

      go : (s : Stop) → Turned R o at room sum count s →
          T (in_range R (from R o at room sum count (257 - (at + room)) 0)) → s.place ≤ 256
      go s (Turned.whole n f) q =
          omega (arith, (message_size R _ (subst (λ (w : State). T (in_range R w)) (f (257 - (at + room)) 0) q)).1)
      go s (Turned.early n r v c a w) q = omega (arith, (along-room a).1)
      go s (Turned.unsealed n f) q =
          omega (arith, (refused-number R _ (subst (λ (w : State). T (in_range R w)) (f (257 - (at + room)) 0) q)).1)
      go s (Turned.spoilt k n c x y z f) q =
          omega (arith, (refused-number R _ (subst (λ (w : State). T (in_range R w)) (f (257 - (at + room)) 0) q)).1)

  -- and inside the octets
  within_octets : (w : State) (h : List ℕ) → place (run (machine R) w h) ≤ place w + length h
  unfolding run step
  within_octets w [] = omega arith
  within_octets (Waiting s q) (x ∷ h) =
      omega (
        arith,
        within_octets (step (machine R) (Waiting s q) x) h,
        placed (machine R) (stepped (machine R) s q x),
      )
  within_octets (Message n) (x ∷ h) = omega (arith, ap place (message_stays (machine R) n h))
  within_octets (Refused f) (x ∷ h) = omega (arith, ap place (refused_stays (machine R) f h))

  pub stop_inside : (room sum : ℕ) (s : Stop) → Turned R o 0 room sum 0 s → s.place ≤ length o
  stop_inside room sum s t =
      go s t (within_octets (Waiting (Header room) (record { sum = sum; place = 0 + 0; parameter = 0 + 0 })) o)
    where
      go : (s : Stop) → Turned R o 0 room sum 0 s → place (from R o 0 room sum 0 0 0) ≤ 0 + 0 + length o →
          s.place ≤ length o
      go s (Turned.whole n f) q = omega (arith, q, ap place (f 0 0))
      go s (Turned.early n r v c a w) q = along_inside a (omega arith)
      go s (Turned.unsealed n f) q = omega (arith, q, ap place (f 0 0))
      go s (Turned.spoilt k n c x y z f) q = omega (arith, q, ap place (f 0 0))
