-- The ways in which octets from a header on come to a stop, each from what the tests of its octets gave; and a whole
-- parameter passed over.
-- Assumes nothing.
use Rattle.std.proofs.Common.{◌≡◌, ℕ, suc, ◌+◌, ◌-◌, ◌%◌, ◌<◌, ◌≤◌, Bool, true, false, T, ◌⊎◌, List, [], ◌∷◌, ◌++◌, length, get_or, take, drop, sym, refl, ap, ◌∙◌, subst, ap₂, inl, inr, add-one, arith, length-drop, take-append-drop, drop_of_length-le, length-take-le, take_all, drop-cons, drop-drop}
use Rattle.rules.specs.Tests.{◌and◌, pick}
use Rattle.rules.proofs.Tests.{picked, clash}
use Rattle.rules.proofs.Returns.{and_t, and_f, yes_le, no_le, yes_eq}
use Rattle.rules.specs.Table.{Rules, class_of, class_fault, length_fits}
use Rattle.rules.specs.ContentJudge.{judge_of, passing, good_front}
use Rattle.rules.specs.Machine.{run, Waits}
use Rattle.rules.specs.Judge.{machine, possible, room_fits, stands_in}
use Rattle.rules.specs.declared.Class.{Class}
use Rattle.rules.specs.declared.Spot.{Spot}
use Rattle.rules.specs.declared.Stage.TheVariants.{Header}
use Rattle.rules.specs.declared.State.{State}
use Rattle.rules.specs.declared.State.TheVariants.{Waiting, Message, Refused}
use Rattle.turns.specs.declared.Stop.{Stop}
use Rattle.turns.specs.Turns.{stop, stands, span_of, summed, Along, Turned, from, fits_at, Headed, stop_in}
use Rattle.rules.proofs.Standing.{passing_most}
use Rattle.turns.proofs.Steps.{count_on, sealed, not_sealed, type_on, type_spoils, length_spoils, fits_facts, header_waits, contents_wait, contents_spoil, passes_over}

-- ---- the octets at a place
pub front : (o : List ℕ) (at : ℕ) → at < length o → drop at o ≡ get_or o at 0 ∷ drop (at + 1) o
front o at h = drop-cons o at 0 h ∙ ap (λ (n : ℕ). get_or o at 0 ∷ drop n o) (sym (add-one at))

next_two : (at : ℕ) → at + 1 + 1 ≡ at + 2
next_two at = omega arith

pub two_front : (o : List ℕ) (at : ℕ) → at + 1 < length o →
    drop at o ≡ get_or o at 0 ∷ get_or o (at + 1) 0 ∷ drop (at + 2) o
two_front o at h =
    front o at (omega arith)
    ∙ ap (λ (l : List ℕ). get_or o at 0 ∷ l)
    (front o (at + 1) h ∙ ap (λ (n : ℕ). get_or o (at + 1) 0 ∷ drop n o) (next_two at))

append-nil : (v : List ℕ) → v ++ [] ≡ v
append-nil [] = refl
append-nil (x ∷ v) = ap (λ (l : List ℕ). x ∷ l) (append-nil v)

place_after : (p at : ℕ) → suc (p + at) ≡ p + (at + 1)
place_after p at = omega arith

place_inside : (p at k : ℕ) → p + at + (2 + k) ≡ p + (at + 2 + k)
place_inside p at k = omega arith

place_over : (p at d to : ℕ) → at + d ≡ to → p + at + d ≡ p + to
place_over p at d to e = omega arith

not_either : (b : Bool) (n : ℕ) → (3 ≡ n → ⊥) → (10 ≡ n → ⊥) → pick b 3 10 ≡ n → ⊥
not_either b n f g e = go (picked b 3 10 n e)
  where
    go : (T b × (3 ≡ n)) ⊎ ((T b → ⊥) × (10 ≡ n)) → ⊥
    go (inl x) = f x.1
    go (inr x) = g x.1

fault_given : (c : Class) → (class_fault c ≡ 0 → ⊥) × (class_fault c ≡ 6 → ⊥) × (class_fault c ≡ 8 → ⊥)
unfolding class_fault
fault_given c = (
  not_either _ 0 (λ e. absurd (omega arith)) (λ e. absurd (omega arith)),
  not_either _ 6 (λ e. absurd (omega arith)) (λ e. absurd (omega arith)),
  not_either _ 8 (λ e. absurd (omega arith)) (λ e. absurd (omega arith)),
)

pub not_both : (b : Bool) → b ≡ true → b ≡ false → ⊥
not_both b e f = clash cc

-- what a call told of the class c that the code has looked up
module _ (c d : Class) (room : ℕ) (b z : Bool) (e : c ≡ d) where
  pub possible_told : b ≡ possible c room → b ≡ z → possible d room ≡ z
  possible_told f g = ap (λ (k : Class). possible k room) (sym e) ∙ sym f ∙ g

  pub fitting_told : (n : ℕ) → b ≡ (length_fits c n and room_fits n room) → b ≡ z →
      (length_fits d n and room_fits n room) ≡ z
  fitting_told n f g = ap (λ (k : Class). length_fits k n and room_fits n room) (sym e) ∙ sym f ∙ g

module _ (R : Rules) (o : List ℕ) (at room sum count : ℕ) where
  abbrev spot : ℕ → ℕ → Spot
  spot p b = record { sum = sum; place = p + at; parameter = b + count }

  abbrev on : ℕ → ℕ → List ℕ → State
  on p b l = run (machine R) (Waiting (Header room) (spot p b)) l

  abbrev fitting : Bool
  fitting = fits_at R o at room

  stays_here : stands R room (drop at o) ≡ false → Along R o at room sum count at room sum count
  stays_here e = Along.stays {at = at} {room = room} {sum = sum} {count = count} e

  -- a stop as one number
  pub as_word : (w : ℕ) (s : Stop) → stop_in w ≡ s → Turned R o at room sum count s →
      Turned R o at room sum count (stop_in w)
  as_word w s e t = subst (Turned R o at room sum count) (sym e) t

  -- ---- the octets' own end
  -- before the header
  pub none_left : length o ≤ at → Turned R o at room sum count (stop 8 at room sum count)
  unfolding stands run
  none_left h =
      let e = drop_of_length-le o h in
      Turned.early at room sum count (stays_here (rw e refl)) (λ p b. rw e tt)

  -- behind its type
  pub type_left : at < length o → length o ≤ at + 1 → (room ≡ 0 → ⊥) → possible (class_of R (get_or o at 0)) room ≡ true →
      Turned R o at room sum count (stop 8 at room sum count)
  unfolding stands run
  type_left h l some k =
      let e : drop at o ≡ get_or o at 0 ∷ [] =
      front o at h ∙ ap (λ (x : List ℕ). get_or o at 0 ∷ x) (drop_of_length-le o l) in
      Turned.early at room sum count (stays_here (rw e refl))
      (λ p b. subst Waits (sym (ap (on p b) e ∙ type_on R room (spot p b) (get_or o at 0) [] some k)) tt)

  pub type_wrong : at < length o → (room ≡ 0 → ⊥) → possible (class_of R (get_or o at 0)) room ≡ false →
      Turned R o at room sum count (stop (class_fault (class_of R (get_or o at 0))) at 0 0 (count + 1))
  type_wrong h some k =
      let g = fault_given (class_of R (get_or o at 0)) in
      Turned.spoilt _ at (count + 1) g.0 g.1 g.2
      (λ p b. ap (on p b) (front o at h) ∙ type_spoils R room (spot p b) (get_or o at 0) (drop (at + 1) o) some k
      ∙ ap (λ (n : ℕ). Refused (record {
        number = class_fault (class_of R (get_or o at 0));
        place = p + at;
        parameter = n;
      })) (count_on b count))

  -- ---- the checksum
  module _ (h : at < length o) (z : room ≡ 0) (c : ℕ) (e : (c + sum) % 256 ≡ 0) (l : c < 256) (u : sum < 256) where
    pub sums_up : get_or o at 0 ≡ c → Turned R o at room sum count (stop 0 (at + 1) 0 0 0)
    sums_up k =
        Turned.whole (at + 1)
        (λ p b. ap (on p b) (front o at h)
        ∙ ap (λ (r : ℕ). run (machine R) (Waiting (Header r) (spot p b)) (get_or o at 0 ∷ drop (at + 1) o)) z
        ∙ sealed R (spot p b) (get_or o at 0) c (drop (at + 1) o) e l u k ∙ ap Message (omega arith))

    pub sums_not : (get_or o at 0 ≡ c → ⊥) → Turned R o at room sum count (stop 6 at 0 0 0)
    sums_not k =
        Turned.unsealed at
        (λ p b. ap (on p b) (front o at h)
        ∙ ap (λ (r : ℕ). run (machine R) (Waiting (Header r) (spot p b)) (get_or o at 0 ∷ drop (at + 1) o)) z
        ∙ not_sealed R (spot p b) (get_or o at 0) c (drop (at + 1) o) e l u k)

  module _ (h : at + 1 < length o) where
    abbrev rest : List ℕ
    rest = drop (at + 2) o

    abbrev n : ℕ
    n = get_or o (at + 1) 0

    on_front : (p b : ℕ) → on p b (drop at o) ≡ on p b (get_or o at 0 ∷ n ∷ rest)
    on_front p b = ap (on p b) (two_front o at h)

    -- ---- a length that may not stand
    pub length_wrong : (room ≡ 0 → ⊥) → possible (class_of R (get_or o at 0)) room ≡ true → fitting ≡ false →
        Turned R o at room sum count (stop 4 (at + 1) 0 0 (count + 1))
    unfolding machine stands_in
    length_wrong some k f =
        Turned.spoilt 4 (at + 1) (count + 1) (λ q. absurd (omega arith)) (λ q. absurd (omega arith))
        (λ q. absurd (omega arith))
        (λ p b. on_front p b ∙ type_on R room (spot p b) (get_or o at 0) (n ∷ rest) some k
        ∙ length_spoils R (class_of R (get_or o at 0)) room _ n rest f
        ∙ ap₂ (λ (a n : ℕ). Refused (record { number = 4; place = a; parameter = n }))
        (place_after p at) (count_on b count))

    module _ (k : fitting ≡ true) where
      room_for : (1 ≤ n) × (n + 2 ≤ room)
      room_for = fits_facts R (class_of R (get_or o at 0)) room n k

      -- fewer octets than the length says
      not_whole : length o < at + 2 + n → stands R room (drop at o) ≡ false
      unfolding stands
      not_whole l =
          ap (stands R room) (two_front o at h)
          ∙ sym (and_t _ _ _ k (and_f _ _ _ (no_le _ _ (omega (arith, length-drop (at + 2) o))) refl))

      -- the octets end behind the length
      pub length_left : length o ≤ at + 2 → Turned R o at room sum count (stop 8 at room sum count)
      length_left l =
          Turned.early at room sum count (stays_here (not_whole (omega (arith, room_for.0))))
          (λ p b. subst Waits (sym (on_front p b))
          (header_waits R room (spot p b) (get_or o at 0) n rest k (drop_of_length-le o l)))

      -- ---- contents
      abbrev reached : ℕ
      reached = passing (judge_of (class_of R (get_or o at 0))) n 0 0 rest

      -- the octets end in them
      pub contents_left : length o < at + 2 + n → at + 2 + reached ≡ length o →
          Turned R o at room sum count (stop 8 at room sum count)
      contents_left l g =
          Turned.early at room sum count (stays_here (not_whole l))
          (λ p b. subst Waits (sym (on_front p b))
          (contents_wait R room (spot p b) (get_or o at 0) n rest k (omega (arith, length-drop (at + 2) o))
          (omega (arith, length-drop (at + 2) o))))

      -- one of the octets that have come may not stand
      spoilt_at : (w v : List ℕ) → w ++ v ≡ rest → length w ≤ n →
          passing (judge_of (class_of R (get_or o at 0))) n 0 0 w < length w →
          Turned R o at room sum count (stop 5 (at + 2 + passing (judge_of (class_of R (get_or o at 0))) n 0 0 w) 0 0
          (count + 1))
      spoilt_at w v e l g =
          Turned.spoilt 5 (at + 2 + passing (judge_of (class_of R (get_or o at 0))) n 0 0 w) (count + 1)
          (λ q. absurd (omega arith)) (λ q. absurd (omega arith)) (λ q. absurd (omega arith))
          (λ p b. on_front p b ∙ contents_spoil R room (spot p b) (get_or o at 0) n rest k w v e l g
          ∙ ap₂ (λ (a n : ℕ). Refused (record { number = 5; place = a; parameter = n }))
          (place_inside p at _) (count_on b count))

      pub cut_spoilt : length o < at + 2 + n → at + 2 + reached < length o →
          Turned R o at room sum count (stop 5 (at + 2 + reached) 0 0 (count + 1))
      cut_spoilt l g =
          spoilt_at rest [] (append-nil rest) (omega (arith, length-drop (at + 2) o))
          (omega (arith, length-drop (at + 2) o))

      module _ (l : at + 2 + n ≤ length o) where
        inside : length (take n rest) ≡ n
        inside = length-take-le n rest (omega (arith, length-drop (at + 2) o))

        abbrev whole_reached : ℕ
        whole_reached = good_front (class_of R (get_or o at 0)) (take n rest)

        counted_so : passing (judge_of (class_of R (get_or o at 0))) n 0 0 (take n rest) ≡ whole_reached
        counted_so =
            ap (λ (j : ℕ). passing (judge_of (class_of R (get_or o at 0))) j 0 0 (take n rest)) (sym inside)

        pub contents_spoilt : whole_reached < n →
            Turned R o at room sum count (stop 5 (at + 2 + whole_reached) 0 0 (count + 1))
        contents_spoilt g =
            subst (λ (j : ℕ). Turned R o at room sum count (stop 5 (at + 2 + j) 0 0 (count + 1))) counted_so
            (spoilt_at (take n rest) (drop n rest) (take-append-drop n rest) (omega (arith, inside))
            (omega (arith, inside, counted_so)))

        -- ---- a whole parameter, and what follows it
        whole_one : whole_reached ≡ n → stands R room (drop at o) ≡ true
        unfolding stands
        whole_one g =
            ap (stands R room) (two_front o at h)
            ∙ sym (and_t _ _ _ k (and_t _ _ _ (yes_le _ _ (omega (arith, length-drop (at + 2) o)))
            (sym (yes_eq _ _ g))))

        span_is : span_of (drop at o) ≡ n + 2
        unfolding span_of
        span_is = ap span_of (two_front o at h) ∙ omega arith

        module _ (g : whole_reached ≡ n) where
          abbrev to : ℕ
          to = at + 2 + n

          span_gone : span_of (drop at o) ≡ to - at
          span_gone = span_is ∙ omega arith

          span_room : room - span_of (drop at o) ≡ room - 2 - n
          span_room = omega (arith, span_is)

          span_to : at + span_of (drop at o) ≡ to
          span_to = omega (arith, span_is)

          over : (p b : ℕ) → from R o at room sum count p b ≡
              from R o to (room - 2 - n) (summed sum (take (to - at) (drop at o))) (count + 1) p b
          over p b =
              passes_over R room (spot p b) (drop at o) (whole_one g)
              ∙ (λ i. run (machine R) (Waiting (Header (span_room i)) (record {
                sum = summed sum (take (span_gone i) (drop at o));
                place = place_over p at (span_of (drop at o)) to span_to i;
                parameter = count_on b count i;
              })) ((drop-drop (span_of (drop at o)) at o ∙ ap (λ (k : ℕ). drop k o) span_to) i))

          along_over : (m r v c : ℕ) →
              Along R o to (room - 2 - n) (summed sum (take (to - at) (drop at o))) (count + 1) m r v c →
              Along R o at room sum count m r v c
          along_over m r v c a =
              Along.goes {at = at} {room = room} {sum = sum} {count = count} {to = m} {left = r} {after = v} {begun = c}
              (whole_one g)
              (subst (λ (k : ℕ). Along R o (at + span_of (drop at o)) (room - span_of (drop at o))
              (summed sum (take k (drop at o))) (count + 1) m r v c) (sym span_gone)
              (subst (λ (k : ℕ). Along R o (at + span_of (drop at o)) k (summed sum (take (to - at) (drop at o)))
              (count + 1) m r v c)
              (sym span_room)
              (subst (λ (k : ℕ). Along R o k (room - 2 - n) (summed sum (take (to - at) (drop at o))) (count + 1)
              m r v c)
              (sym span_to) a)))

          pub passed : (s : Stop) →
              Turned R o to (room - 2 - n) (summed sum (take (to - at) (drop at o))) (count + 1) s →
              Turned R o at room sum count s
          passed s (Turned.whole m f) = Turned.whole m (λ p b. over p b ∙ f p b)
          passed s (Turned.early m r v c a w) =
              Turned.early m r v c (along_over m r v c a) (λ p b. subst Waits (sym (over p b)) (w p b))
          passed s (Turned.unsealed m f) = Turned.unsealed m (λ p b. over p b ∙ f p b)
          passed s (Turned.spoilt k m c x y z f) = Turned.spoilt k m c x y z (λ p b. over p b ∙ f p b)

-- ---- the same of a header that the code has taken: the class c, the length n, and the room that is left after it
module _ (R : Rules) (o : List ℕ) (at : ℕ) (c : Class) (n left sum count : ℕ) (h : Headed R o at c n left) where
  abbrev held : ℕ
  held = left + 2 + n

  begun : at + 1 < length o
  begun = omega (arith, h.begun)

  -- contents have an octet at least
  pub some_contents : 1 ≤ n
  some_contents =
      omega (arith, h.length_is, (fits_facts R (class_of R (get_or o at 0)) held (get_or o (at + 1) 0) h.fits).0)

  module _ (g : ℕ) (short : length o < at + 2 + n)
      (e : g ≡ passing (judge_of c) n 0 0 (take (length o - (at + 2)) (drop (at + 2) o))) where
    all_there : take (length o - (at + 2)) (drop (at + 2) o) ≡ drop (at + 2) o
    all_there = take_all (length o - (at + 2)) (drop (at + 2) o) (omega (arith, length-drop (at + 2) o))

    so_far : g ≡ passing (judge_of (class_of R (get_or o at 0))) (get_or o (at + 1) 0) 0 0 (drop (at + 2) o)
    so_far = e ∙ (λ i. passing (judge_of (h.type i)) (h.length_is i) 0 0 (all_there i))

    pub cut_near : at + 2 + g ≤ length o
    cut_near =
        omega (
          arith,
          so_far,
          h.begun,
          length-drop (at + 2) o,
          passing_most (judge_of (class_of R (get_or o at 0))) (get_or o (at + 1) 0) 0 0 (drop (at + 2) o),
        )

    pub cut_off : length o ≤ at + 2 + g → Turned R o at held sum count (stop 8 at held sum count)
    cut_off l =
        contents_left R o at held sum count begun h.fits (omega (arith, h.length_is))
        (omega (arith, so_far, cut_near))

    pub cut_wrong : at + 2 + g < length o → Turned R o at held sum count (stop 5 (at + 2 + g) 0 0 (count + 1))
    cut_wrong l =
        subst (λ (k : ℕ). Turned R o at held sum count (stop 5 (at + 2 + k) 0 0 (count + 1))) (sym so_far)
        (cut_spoilt R o at held sum count begun h.fits (omega (arith, h.length_is)) (omega (arith, so_far)))

  module _ (g : ℕ) (there : at + 2 + n ≤ length o)
      (e : g ≡ good_front c (take (at + 2 + n - (at + 2)) (drop (at + 2) o))) where
    part_is : at + 2 + n - (at + 2) ≡ get_or o (at + 1) 0
    part_is = omega (arith, h.length_is)

    whole_so : g ≡ good_front (class_of R (get_or o at 0)) (take (get_or o (at + 1) 0) (drop (at + 2) o))
    whole_so = e ∙ (λ i. good_front (h.type i) (take (part_is i) (drop (at + 2) o)))

    pub held_wrong : g < n → Turned R o at held sum count (stop 5 (at + 2 + g) 0 0 (count + 1))
    held_wrong l =
        subst (λ (k : ℕ). Turned R o at held sum count (stop 5 (at + 2 + k) 0 0 (count + 1))) (sym whole_so)
        (contents_spoilt R o at held sum count begun h.fits (omega (arith, h.length_is))
        (omega (arith, whole_so, h.length_is)))

    at_most : good_front (class_of R (get_or o at 0)) (take (get_or o (at + 1) 0) (drop (at + 2) o)) ≤ get_or o (at + 1) 0
    at_most =
        let k : get_or o (at + 1) 0 ≤ length (drop (at + 2) o) = omega (arith, h.length_is, length-drop (at + 2) o) in
        let l = length-take-le (get_or o (at + 1) 0) (drop (at + 2) o) k in
        omega (
          arith,
          l,
          passing_most (judge_of (class_of R (get_or o at 0)))
              (length (take (get_or o (at + 1) 0) (drop (at + 2) o))) 0 0 (take (get_or o (at + 1) 0) (drop (at + 2) o)),
        )

    room_after : held - 2 - n ≡ left
    room_after = omega arith

    pub held_passed : n ≤ g → (s : Stop) (v : ℕ) → v ≡ summed sum (take (at + 2 + n - at) (drop at o)) →
        Turned R o (at + 2 + n) left v (count + 1) s → Turned R o at held sum count s
    held_passed l s v q d =
        passed R o at held sum count begun h.fits (omega (arith, h.length_is))
        (omega (arith, whole_so, h.length_is, at_most)) s
        (subst (λ (k : ℕ). Turned R o (at + 2 + k) (held - 2 - k) (summed sum (take (at + 2 + k - at) (drop at o)))
        (count + 1) s)
        h.length_is
        (subst (λ (r : ℕ). Turned R o (at + 2 + n) r (summed sum (take (at + 2 + n - at) (drop at o))) (count + 1) s)
        (sym room_after) (subst (λ (z : ℕ). Turned R o (at + 2 + n) left z (count + 1) s) q d)))

-- ---- a header that fits
module _ (R : Rules) (o : List ℕ) (at room : ℕ) (c : Class) (b : Bool) (e : c ≡ class_of R (get_or o at 0))
    (f : b ≡ (length_fits c (get_or o (at + 1) 0) and room_fits (get_or o (at + 1) 0) room)) (t : b ≡ true) where
  pub head_fits_lem : (1 ≤ get_or o (at + 1) 0) × (get_or o (at + 1) 0 + 2 ≤ room)
  head_fits_lem = fits_facts R c room (get_or o (at + 1) 0) (sym f ∙ t)

  room_back : room - 2 - get_or o (at + 1) 0 + 2 + get_or o (at + 1) 0 ≡ room
  room_back = omega (arith, head_fits_lem.1)

  pub headed : at + room ≤ 255 → at + 2 < length o → Headed R o at c (get_or o (at + 1) 0) (room - 2 - get_or o (at + 1) 0)
  headed h l = record {
    near = omega (arith, head_fits_lem.1);
    begun = l;
    type = e;
    length_is = refl;
    fits = ap (fits_at R o at) room_back ∙ fitting_told c _ room b true e (get_or o (at + 1) 0) f t;
  }

  pub in_room : (sum count : ℕ) (s : Stop) →
      Turned R o at (room - 2 - get_or o (at + 1) 0 + 2 + get_or o (at + 1) 0) sum count s →
      Turned R o at room sum count s
  in_room sum count s d = subst (λ (r : ℕ). Turned R o at r sum count s) room_back d
