-- The machine on octets from a header on: step by step, then along a parameter's contents, then over a whole
-- parameter.
-- Assumes nothing.
use Rattle.std.proofs.Common.{◌≡◌, ℕ, suc, ◌+◌, ◌-◌, ◌%◌, ◌<◌, ◌≤◌, Bool, true, false, List, [], ◌∷◌, ◌++◌, length, take, drop, sym, refl, ap, ◌∙◌, subst, ap₂, add-zero, arith, take-append-drop, length-take-le}
use Rattle.rules.specs.Tests.{◌and◌, pick}
use Rattle.rules.proofs.Tests.{both, le_of, eq_of, clash}
use Rattle.rules.proofs.Returns.{T_of, holds}
use Rattle.rules.specs.Octets.{total}
use Rattle.rules.specs.Table.{Rules, class_of, class_fault, length_fits}
use Rattle.rules.specs.ContentJudge.{ok_at, remember, judge_of, passing}
use Rattle.rules.proofs.ContentLaw.{lawful}
use Rattle.rules.specs.Refusals.{noted}
use Rattle.rules.specs.Machine.{Machine, moved, step, run, Waits}
use Rattle.rules.specs.Judge.{machine, final, fits, contents, after, fault, stands_in, possible, room_fits}
use Rattle.rules.proofs.Remaining.{at_contents, possible_has}
use Rattle.rules.proofs.Listening.{message_stays, refused_stays}
use Rattle.rules.proofs.Steps.{takes, declines, seals, spoils, type_taken, type_declined, room_left}
use Rattle.rules.specs.declared.Class.{Class}
use Rattle.rules.specs.declared.Spot.{Spot}
use Rattle.rules.specs.declared.Stage.{Stage}
use Rattle.rules.specs.declared.Stage.TheVariants.{Header, Length, Content}
use Rattle.rules.specs.declared.State.{State}
use Rattle.rules.specs.declared.State.TheVariants.{Waiting, Message, Refused}
use Rattle.turns.specs.Turns.{stands, span_of, summed}

-- one parameter more
pub count_on : (b count : ℕ) → suc (b + count) ≡ b + (count + 1)
count_on b count = omega arith

one_more : (a : ℕ) → suc a ≡ a + 1
one_more a = omega arith

place_on : (a k : ℕ) → suc a + suc k ≡ a + suc (suc k)
place_on a k = omega arith

two_sums : (a x t : ℕ) → ((a + x) % 256 + t) % 256 ≡ (a + (x + t)) % 256
two_sums a x t = omega arith

three_sums : (a x y t : ℕ) → (((a + x) % 256 + y) % 256 + t) % 256 ≡ (a + (x + (y + t))) % 256
three_sums a x y t = omega arith

place_two : (a n l : ℕ) → l ≡ n → suc (suc a) + l ≡ a + (n + 2)
place_two a n l e = omega arith

minus_two : (a n : ℕ) → a - (n + 2) ≡ a - suc (suc n)
minus_two a n = omega arith

plus_two : (a n : ℕ) → a + (n + 2) ≡ a + suc (suc n)
plus_two a n = omega arith

module _ (R : Rules) where
  abbrev M : Machine
  M = machine R

  abbrev refused : ℕ → ℕ → ℕ → State
  refused k p b = Refused (record { number = k; place = p; parameter = b })

  -- ---- one octet
  module _ (s : Stage) (q : Spot) (x : ℕ) (v : List ℕ) (w : State) where
    stepped : w ≡ step M (Waiting s q) x → run M (Waiting s q) (x ∷ v) ≡ run M w v
    unfolding run
    stepped e = ap (λ (z : State). run M z v) (sym e)

  pub sealed : (q : Spot) (x c : ℕ) (v : List ℕ) → (c + q.sum) % 256 ≡ 0 → c < 256 → q.sum < 256 → x ≡ c →
      run M (Waiting (Header 0) q) (x ∷ v) ≡ Message (q.place + 1)
  sealed q x c v e l b k = stepped (Header 0) q x v _ (seals R q x c e l b k) ∙ message_stays M _ v

  pub not_sealed : (q : Spot) (x c : ℕ) (v : List ℕ) → (c + q.sum) % 256 ≡ 0 → c < 256 → q.sum < 256 →
      (x ≡ c → ⊥) → run M (Waiting (Header 0) q) (x ∷ v) ≡ Refused (noted 6 q.place)
  not_sealed q x c v e l b k =
      stepped (Header 0) q x v _ (spoils R q x c e l b _ k refl) ∙ refused_stays M _ v

  module _ (room : ℕ) (q : Spot) (t : ℕ) (v : List ℕ) (some : room ≡ 0 → ⊥) where
    pub type_on : possible (class_of R t) room ≡ true →
        run M (Waiting (Header room) q) (t ∷ v) ≡
        run M (Waiting (Length (class_of R t) room) (moved M (Header room) q t)) v
    type_on k = stepped (Header room) q t v _ (type_taken R room q t (class_of R t) some refl _ k refl)

    pub type_spoils : possible (class_of R t) room ≡ false →
        run M (Waiting (Header room) q) (t ∷ v) ≡
        refused (class_fault (class_of R t)) q.place (suc q.parameter)
    unfolding machine stands_in
    type_spoils k =
        stepped (Header room) q t v _ (type_declined R room q t (class_of R t) some refl _ _ refl k refl)
        ∙ refused_stays M _ v

  -- ---- a length
  pub fits_facts : (c : Class) (room n : ℕ) → (length_fits c n and room_fits n room) ≡ true → (1 ≤ n) × (n + 2 ≤ room)
  fits_facts c room n e = let t = both _ _ (T_of _ e) in ((lawful c).least n t.0, room_left n room t.1)

  pub fits_possible : (c : Class) (room n : ℕ) → (length_fits c n and room_fits n room) ≡ true → possible c room ≡ true
  unfolding possible
  fits_possible c room n e = let t = both _ _ (T_of _ e) in holds _ (possible_has _ n room t.0 t.1)

  module _ (c : Class) (room : ℕ) (q : Spot) (n : ℕ) (v : List ℕ) where
    pub length_on : (length_fits c n and room_fits n room) ≡ true →
        run M (Waiting (Length c room) q) (n ∷ v) ≡
        run M (Waiting (Content c n 0 0 (room - (n + 2))) (moved M (Length c room) q n)) v
    unfolding final fits after
    length_on k =
        stepped (Length c room) q n v _ (takes R (Length c room) q n _ _ refl k
        (at_contents (λ (s : Stage). Content c n 0 0 (room - (n + 2)) ≡ s) c n 0 0 (room - (n + 2))
        (λ z. absurd (omega (arith, (fits_facts c room n k).0))) (λ _. refl)) refl)

    pub length_spoils : (length_fits c n and room_fits n room) ≡ false →
        run M (Waiting (Length c room) q) (n ∷ v) ≡ refused 4 q.place q.parameter
    unfolding final fits fault machine stands_in
    length_spoils k =
        stepped (Length c room) q n v _ (declines R (Length c room) q n _ refl k refl) ∙ refused_stays M _ v

  -- ---- contents: n octets of a class, then a room
  module _ (c : Class) (n room : ℕ) where
    module _ (i m : ℕ) (q : Spot) (x : ℕ) (v : List ℕ) where
      abbrev next : Spot
      next = moved M (Content c n i m room) q x

      content_on : ok_at c n i m x ≡ true →
          run M (Waiting (Content c n i m room) q) (x ∷ v) ≡
          run M (Waiting (contents c n (suc i) (remember c n i m x) room) next) v
      unfolding final fits after
      content_on k =
          stepped (Content c n i m room) q x v _ (takes R (Content c n i m room) q x _ _ refl k refl refl)

      content_more : ok_at c n i m x ≡ true → suc i < n →
          run M (Waiting (Content c n i m room) q) (x ∷ v) ≡
          run M (Waiting (Content c n (suc i) (remember c n i m x) room) next) v
      content_more k h =
          content_on k
          ∙ ap (λ (s : Stage). run M (Waiting s next) v)
          (at_contents (λ (s : Stage). s ≡ Content c n (suc i) (remember c n i m x) room) c n (suc i) _ room
          (λ e. absurd (omega arith)) (λ _. refl))

      content_last : ok_at c n i m x ≡ true → suc i ≡ n →
          run M (Waiting (Content c n i m room) q) (x ∷ v) ≡ run M (Waiting (Header room) next) v
      content_last k h =
          content_on k
          ∙ ap (λ (s : Stage). run M (Waiting s next) v)
          (at_contents (λ (s : Stage). s ≡ Header room) c n (suc i) _ room (λ _. refl) (λ d. absurd (d h)))

      content_spoils : ok_at c n i m x ≡ false →
          run M (Waiting (Content c n i m room) q) (x ∷ v) ≡ refused 5 q.place q.parameter
      unfolding final fits fault machine stands_in
      content_spoils k =
          stepped (Content c n i m room) q x v _ (declines R (Content c n i m room) q x _ refl k refl)
          ∙ refused_stays M _ v

    abbrev going : ℕ → ℕ → List ℕ → ℕ
    going i m w = passing (judge_of c) n i m w

    -- how the octets that may stand are counted
    going_on : (i m x : ℕ) (w : List ℕ) → ok_at c n i m x ≡ true →
        going i m (x ∷ w) ≡ suc (going (suc i) (remember c n i m x) w)
    unfolding passing pick
    going_on i m x w k = rw k refl

    going_not : (i m x : ℕ) (w : List ℕ) → ok_at c n i m x ≡ false → going i m (x ∷ w) ≡ 0
    unfolding passing pick
    going_not i m x w k = rw k refl

    abbrev pub spot_after : Spot → List ℕ → Spot
    spot_after q w = record { sum = summed q.sum w; place = q.place + length w; parameter = q.parameter }

    abbrev pub ended : List ℕ → Spot → State
    ended rest z = run M (Waiting (Header room) z) rest

    -- contents that are whole
    pub contents_over : (w rest : List ℕ) (i m : ℕ) (q : Spot) → 1 ≤ length w → i + length w ≡ n →
        going i m w ≡ length w →
        run M (Waiting (Content c n i m room) q) (w ++ rest) ≡
        ended rest (spot_after q w)
    unfolding total machine stands_in
    contents_over [] rest i m q h e g = absurd (omega arith)
    contents_over (x ∷ []) rest i m q h e g = go (ok_at c n i m x) refl
      where
        go : (b : Bool) → ok_at c n i m x ≡ b →
            run M (Waiting (Content c n i m room) q) (x ∷ rest) ≡
            ended rest (spot_after q (x ∷ []))
        go true k =
            content_last i m q x rest k (omega arith)
            ∙ ap (ended rest) (λ j. record {
              sum = (q.sum + sym (add-zero x) j) % 256;
              place = one_more q.place j;
              parameter = q.parameter;
            })
        go false k = absurd (omega (arith, going_not i m x [] k))
    contents_over (x ∷ y ∷ w) rest i m q h e g =
        go
        (λ z. contents_over (y ∷ w) rest (suc i) (remember c n i m x) (next i m q x rest) (omega arith) (omega arith) z)
        (ok_at c n i m x) refl
      where
        go : (going (suc i) (remember c n i m x) (y ∷ w) ≡ length (y ∷ w) →
            run M (Waiting (Content c n (suc i) (remember c n i m x) room) (next i m q x rest)) (y ∷ w ++ rest) ≡
            ended rest (spot_after (next i m q x rest) (y ∷ w))) → (b : Bool) → ok_at c n i m x ≡ b →
            run M (Waiting (Content c n i m room) q) (x ∷ y ∷ w ++ rest) ≡
            ended rest (spot_after q (x ∷ y ∷ w))
        go ih true k =
            content_more i m q x (y ∷ w ++ rest) k (omega arith)
            ∙ ih (omega (arith, g, going_on i m x (y ∷ w) k))
            ∙ ap (ended rest) (λ j. record {
              sum = two_sums q.sum x (total (y ∷ w)) j;
              place = place_on q.place (length w) j;
              parameter = q.parameter;
            })
        go ih false k = absurd (omega (arith, going_not i m x (y ∷ w) k))

    -- octets that all may stand, and are not all of them
    pub more_wanted : (w : List ℕ) (i m : ℕ) (q : Spot) → i + length w < n → going i m w ≡ length w →
        Waits (run M (Waiting (Content c n i m room) q) w)
    unfolding run
    more_wanted [] i m q h g = tt
    more_wanted (x ∷ w) i m q h g =
        go (λ z. more_wanted w (suc i) (remember c n i m x) (next i m q x w) (omega arith) z) (ok_at c n i m x) refl
      where
        go : (going (suc i) (remember c n i m x) w ≡ length w →
            Waits (run M (Waiting (Content c n (suc i) (remember c n i m x) room) (next i m q x w)) w)) → (b : Bool) →
            ok_at c n i m x ≡ b → Waits (run M (Waiting (Content c n i m room) q) (x ∷ w))
        go ih true k =
            subst Waits (sym (content_more i m q x w k (omega arith))) (ih (omega (arith, g, going_on i m x w k)))
        go ih false k = absurd (omega (arith, going_not i m x w k))

    -- octets of which one may not stand
    pub one_spoils : (w rest : List ℕ) (i m : ℕ) (q : Spot) → i + length w ≤ n → going i m w < length w →
        run M (Waiting (Content c n i m room) q) (w ++ rest) ≡ refused 5 (q.place + going i m w) q.parameter
    unfolding machine stands_in
    one_spoils [] rest i m q h g = absurd (omega arith)
    one_spoils (x ∷ w) rest i m q h g =
        go (λ a z. one_spoils w rest (suc i) (remember c n i m x) (next i m q x rest) a z) (ok_at c n i m x) refl
      where
        go : (suc i + length w ≤ n → going (suc i) (remember c n i m x) w < length w →
            run M (Waiting (Content c n (suc i) (remember c n i m x) room) (next i m q x rest)) (w ++ rest) ≡
            refused 5 (suc q.place + going (suc i) (remember c n i m x) w) q.parameter) → (b : Bool) →
            ok_at c n i m x ≡ b →
            run M (Waiting (Content c n i m room) q) (x ∷ w ++ rest) ≡
            refused 5 (q.place + going i m (x ∷ w)) q.parameter
        go ih true k =
            let u = going_on i m x w k in
            let l : going (suc i) (remember c n i m x) w < length w = omega (arith, u, g) in
            content_more i m q x (w ++ rest) k (omega (arith, l))
            ∙ ih (omega arith) l
            ∙ ap (λ (p : ℕ). refused 5 p q.parameter) (omega (arith, u))
        go ih false k =
            content_spoils i m q x (w ++ rest) k
            ∙ ap (λ (p : ℕ). refused 5 p q.parameter) (omega (arith, going_not i m x w k))

  -- ---- a parameter at the front: what its type, its length and its contents come to
  module _ (room : ℕ) (q : Spot) (t n : ℕ) (v : List ℕ)
      (k : (length_fits (class_of R t) n and room_fits n room) ≡ true) where
    abbrev class : Class
    class = class_of R t

    some : room ≡ 0 → ⊥
    some e = omega (arith, (fits_facts class room n k).1)

    abbrev inside : Spot
    inside = moved M (Length class room) (moved M (Header room) q t) n

    headed : run M (Waiting (Header room) q) (t ∷ n ∷ v) ≡
        run M (Waiting (Content class n 0 0 (room - (n + 2))) inside) v
    headed =
        type_on room q t (n ∷ v) some (fits_possible class room n k)
        ∙ length_on class room (moved M (Header room) q t) n v k

    pub header_waits : v ≡ [] → Waits (run M (Waiting (Header room) q) (t ∷ n ∷ v))
    unfolding run
    header_waits e = subst Waits (sym headed) (rw e tt)

    pub contents_wait : length v < n → passing (judge_of class) n 0 0 v ≡ length v →
        Waits (run M (Waiting (Header room) q) (t ∷ n ∷ v))
    contents_wait h g =
        subst Waits (sym headed) (more_wanted class n (room - (n + 2)) v 0 0 inside (omega arith) g)

    pub contents_spoil : (w rest : List ℕ) → w ++ rest ≡ v → length w ≤ n →
        passing (judge_of class) n 0 0 w < length w →
        run M (Waiting (Header room) q) (t ∷ n ∷ v) ≡
        refused 5 (q.place + (2 + passing (judge_of class) n 0 0 w)) (suc q.parameter)
    unfolding machine stands_in
    contents_spoil w rest e h g =
        headed
        ∙ ap (run M (Waiting (Content class n 0 0 (room - (n + 2))) inside)) (sym e)
        ∙ one_spoils class n (room - (n + 2)) w rest 0 0 inside (omega arith) g
        ∙ ap (λ (p : ℕ). refused 5 p (suc q.parameter)) (omega arith)

    pub contents_pass : (w rest : List ℕ) → w ++ rest ≡ v → length w ≡ n →
        passing (judge_of class) n 0 0 w ≡ length w →
        run M (Waiting (Header room) q) (t ∷ n ∷ v) ≡
        run M (Waiting (Header (room - (n + 2)))
        (record {
          sum = summed q.sum (t ∷ n ∷ w);
          place = q.place + (n + 2);
          parameter = suc q.parameter;
        })) rest
    unfolding total machine stands_in
    contents_pass w rest e h g =
        headed
        ∙ ap (run M (Waiting (Content class n 0 0 (room - (n + 2))) inside)) (sym e)
        ∙ contents_over class n (room - (n + 2)) w rest 0 0 inside (omega (arith, h, (fits_facts class room n k).0))
        (omega arith) g
        ∙ ap (ended class n (room - (n + 2)) rest) (λ j. record {
          sum = three_sums q.sum t n (total w) j;
          place = place_two q.place n (length w) h j;
          parameter = suc q.parameter;
        })

  -- ---- a whole parameter
  pub passes_over : (room : ℕ) (q : Spot) (o : List ℕ) → stands R room o ≡ true →
      run M (Waiting (Header room) q) o ≡
      run M (Waiting (Header (room - span_of o))
      (record {
        sum = summed q.sum (take (span_of o) o);
        place = q.place + span_of o;
        parameter = suc q.parameter;
      })) (drop (span_of o) o)
  unfolding stands span_of
  passes_over room q [] e = absurd (clash cc)
  passes_over room q (t ∷ []) e = absurd (clash cc)
  passes_over room q (t ∷ n ∷ v) e =
      let b = both _ _ (T_of _ e) in
      let d = both _ _ b.1 in
      let l : length (take n v) ≡ n = length-take-le n v (le_of _ _ d.0) in
      let g : passing (judge_of (class_of R t)) (length (take n v)) 0 0 (take n v) ≡ n = eq_of _ _ d.1 in
      contents_pass room q t n v (holds _ b.0) (take n v) (drop n v) (take-append-drop n v) l
      (ap (λ (k : ℕ). passing (judge_of (class_of R t)) k 0 0 (take n v)) (sym l) ∙ g ∙ sym l)
      ∙ ap₂ (λ (r p : ℕ). run M (Waiting (Header r) (record {
        sum = summed q.sum (t ∷ n ∷ take n v);
        place = p;
        parameter = suc q.parameter;
      })) (drop n v)) (minus_two room n) (plus_two q.place n)
