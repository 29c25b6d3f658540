-- The opening of a message, its type and L, and the verdict from where the parameters behind them came to.
-- Assumes nothing.
use Rattle.std.proofs.Common.{◌≡◌, ℕ, ◌+◌, ◌-◌, ◌%◌, ◌<◌, ◌≤◌, true, false, List, [], ◌∷◌, length, get_or, take, drop, sym, refl, ap, ◌∙◌, subst, ap₂, zero-add, arith, length-drop, take_all, Ok, Err}
use Rattle.rules.specs.Tests.{◌=?◌, pick}
use Rattle.rules.proofs.Tests.{eq_of, pick_not}
use Rattle.rules.proofs.Returns.{yes_le, no_le}
use Rattle.rules.specs.Octets.{Octets}
use Rattle.rules.specs.Message.{message_kind}
use Rattle.rules.proofs.Demand3.{demand3}
use Rattle.rules.proofs.Grammar.{spoken}
use Rattle.rules.specs.Table.{Rules}
use Rattle.rules.proofs.ContentLaw.{SoundRules}
use Rattle.rules.specs.Refusals.{noted, noted_in}
use Rattle.rules.specs.Machine.{Machine, run, answer, fresh, Waits}
use Rattle.rules.specs.Judge.{machine, final, fits, after, fault, stands_in}
use Rattle.rules.proofs.Listening.{refused_stays}
use Rattle.rules.proofs.Steps.{takes, declines}
use Rattle.rules.specs.declared.Stage.TheVariants.{Kind, Size, Header}
use Rattle.rules.specs.declared.State.{State}
use Rattle.rules.specs.declared.State.TheVariants.{Waiting, Message, Refused}
use Rattle.turns.specs.declared.Stop.{Stop}
use Rattle.turns.specs.Turns.{Turned, from}
use Rattle.message.specs.Verdict.{judged, verdict_at, verdict_of}

commuted : (n : ℕ) → n + 2 ≡ 2 + n
commuted n = omega arith

one_octet : (x : ℕ) → x < 256 → x ≡ (0 + x) % 256
one_octet x h = omega arith

-- what the parameters behind type and L, which are 2 octets, came to
module _ (R : Rules) (o b : List ℕ) (room sum : ℕ) where
  abbrev on : State
  on = from R b 0 room sum 0 2 0

  waiting : (w : State) → Waits w → Err (noted 8 (length o)) ≡ judged o w
  unfolding judged
  waiting (Waiting s q) t = refl
  waiting (Message n) t = absurd t
  waiting (Refused f) t = absurd t

  came_to : (s : Stop) → Turned R b 0 room sum 0 s →
      verdict_at o s.number (s.place + 2) s.parameter ≡ judged o on
  unfolding verdict_at judged pick ◌=?◌
  came_to s (Turned.whole n f) =
      ap (λ (k : ℕ). pick (length o =? k) (Ok k) (Err (noted 7 k))) (commuted n)
      ∙ sym (ap (judged o) (f 2 0))
  came_to s (Turned.early n r v c a w) = waiting on (w 2 0)
  came_to s (Turned.unsealed n f) = ap (λ (p : ℕ). Err (noted 6 p)) (commuted n) ∙ sym (ap (judged o) (f 2 0))
  came_to s (Turned.spoilt k n c x y z f) =
      pick_not (k =? 0) _ _ (λ t. x (eq_of _ _ t)) ∙ pick_not (k =? 8) _ _ (λ t. z (eq_of _ _ t))
      ∙ ap₂ (λ (p b : ℕ). Err (noted_in k p b)) (commuted n) (sym (zero-add c)) ∙ sym (ap (judged o) (f 2 0))

module _ (R : Rules) where
  abbrev M : Machine
  M = machine R

  -- no octet
  pub none_yet : (o : List ℕ) → length o ≡ 0 → Err (noted 8 0) ≡ verdict_of R o
  unfolding verdict_of judged run machine
  none_yet [] h = refl
  none_yet (x ∷ o) h = absurd (omega arith)

  -- the message type
  module _ (x : ℕ) (o : List ℕ) where
    kind_on : message_kind x ≡ true → x < 256 →
        answer M (x ∷ o) ≡ run M (Waiting Size (record { sum = x; place = 1; parameter = 0 })) o
    unfolding run machine final fits after stands_in
    kind_on k h =
        ap (λ (w : State). run M w o) (sym (takes R Kind fresh x Size
        (record { sum = x; place = 1; parameter = 0 }) refl k refl
        (λ i. record { sum = one_octet x h i; place = 1; parameter = 0 })))

    kind_refused : message_kind x ≡ false → Err (noted 1 0) ≡ verdict_of R (x ∷ o)
    unfolding verdict_of judged run machine final fits fault stands_in
    kind_refused k =
        sym (ap (judged (x ∷ o)) (ap (λ (w : State). run M w o)
        (sym (declines R Kind fresh x (Refused (noted 1 0)) refl k refl)) ∙ refused_stays M (noted 1 0) o))

  -- L
  module _ (x : ℕ) (k : message_kind x ≡ true) (h : x < 256) where
    kind_only : (o : List ℕ) → length o ≡ 0 → Err (noted 8 1) ≡ verdict_of R (x ∷ o)
    unfolding verdict_of judged run
    kind_only [] e = sym (ap (judged (x ∷ [])) (kind_on x [] k h))
    kind_only (y ∷ o) e = absurd (omega arith)

    module _ (y : ℕ) (b : List ℕ) where
      size_refused : y < 3 → Err (noted 2 1) ≡ verdict_of R (x ∷ y ∷ b)
      unfolding verdict_of judged run machine final fits fault stands_in
      size_refused l =
          sym (ap (judged (x ∷ y ∷ b)) (kind_on x (y ∷ b) k h ∙ ap (λ (w : State). run M w b)
          (sym (declines R Size (record { sum = x; place = 1; parameter = 0 }) y (Refused (noted 2 1)) refl
          (no_le _ _ l) refl))
          ∙ refused_stays M (noted 2 1) b))

      size_on : 3 ≤ y → answer M (x ∷ y ∷ b) ≡ from R b 0 y ((x + y) % 256) 0 2 0
      unfolding run machine final fits after stands_in
      size_on l =
          kind_on x (y ∷ b) k h ∙ ap (λ (w : State). run M w b)
          (sym (takes R Size (record { sum = x; place = 1; parameter = 0 }) y (Header y)
          (record { sum = (x + y) % 256; place = 2 + 0; parameter = 0 + 0 }) refl (yes_le _ _ l) refl
          (λ i. record { sum = (x + y) % 256; place = 2; parameter = 0 })))

      module _ (l : 3 ≤ y) (s : Stop) (t : Turned R b 0 y ((x + y) % 256) 0 s) where
        verdict_from : verdict_at (x ∷ y ∷ b) s.number (s.place + 2) s.parameter ≡ verdict_of R (x ∷ y ∷ b)
        unfolding verdict_of
        verdict_from =
            came_to R (x ∷ y ∷ b) b y ((x + y) % 256) s t ∙ sym (ap (judged (x ∷ y ∷ b)) (size_on l))

        -- octets that end early are fewer than 258
        early_few : SoundRules R → Octets (x ∷ y ∷ b) → s.number ≡ 8 → length (x ∷ y ∷ b) < 258
        early_few S q e = (demand3 (spoken R S)).answers_by_258 (x ∷ y ∷ b) q (subst Waits (sym (size_on l)) (go s t e))
          where
            go : (s : Stop) → Turned R b 0 y ((x + y) % 256) 0 s → s.number ≡ 8 →
                Waits (from R b 0 y ((x + y) % 256) 0 2 0)
            go s (Turned.whole n f) e = absurd (omega arith)
            go s (Turned.early n r v c a w) e = w 2 0
            go s (Turned.unsealed n f) e = absurd (omega arith)
            go s (Turned.spoilt k n c u v z f) e = absurd (z e)

  -- ---- the same of octets that the code looks up
  pub kind_spoils : (o : List ℕ) → 1 ≤ length o → message_kind (get_or o 0 0) ≡ false →
      Err (noted 1 0) ≡ verdict_of R o
  kind_spoils [] h k = absurd (omega arith)
  kind_spoils (x ∷ o) h k = kind_refused x o k

  pub kind_alone : (o : List ℕ) → 1 ≤ length o → length o ≤ 1 → message_kind (get_or o 0 0) ≡ true → get_or o 0 0 < 256 →
      Err (noted 8 1) ≡ verdict_of R o
  kind_alone [] h l k b = absurd (omega arith)
  kind_alone (x ∷ o) h l k b = kind_only x k b o (omega arith)

  pub size_spoils : (o : List ℕ) → 1 < length o → message_kind (get_or o 0 0) ≡ true → get_or o 0 0 < 256 →
      get_or o 1 0 < 3 → Err (noted 2 1) ≡ verdict_of R o
  size_spoils [] h k b l = absurd (omega arith)
  size_spoils (x ∷ []) h k b l = absurd (omega arith)
  size_spoils (x ∷ y ∷ o) h k b l = size_refused x k b y o l

  -- the octets behind type and L are all of the rest
  behind : (o : List ℕ) → take (length o - 2) (drop 2 o) ≡ drop 2 o
  behind o = take_all (length o - 2) (drop 2 o) (omega (arith, length-drop 2 o))

  module _ (sum : ℕ) (s : Stop) where
    pub sized_verdict : (o : List ℕ) → 1 < length o → message_kind (get_or o 0 0) ≡ true → get_or o 0 0 < 256 →
        3 ≤ get_or o 1 0 → sum ≡ (get_or o 0 0 + get_or o 1 0) % 256 →
        Turned R (take (length o - 2) (drop 2 o)) 0 (get_or o 1 0) sum 0 s →
        verdict_at o s.number (s.place + 2) s.parameter ≡ verdict_of R o
    sized_verdict [] h k b l e t = absurd (omega arith)
    sized_verdict (x ∷ []) h k b l e t = absurd (omega arith)
    sized_verdict (x ∷ y ∷ o) h k b l e t =
        verdict_from x k b y o l s (subst (λ (z : List ℕ). Turned R z 0 y ((x + y) % 256) 0 s) (behind (x ∷ y ∷ o))
        (subst (λ (v : ℕ). Turned R (take (length (x ∷ y ∷ o) - 2) o) 0 y v 0 s) e t))

    pub early_short : (o : List ℕ) → 1 < length o → message_kind (get_or o 0 0) ≡ true → get_or o 0 0 < 256 →
        3 ≤ get_or o 1 0 → sum ≡ (get_or o 0 0 + get_or o 1 0) % 256 →
        Turned R (take (length o - 2) (drop 2 o)) 0 (get_or o 1 0) sum 0 s → SoundRules R → Octets o → s.number ≡ 8 →
        length o < 258
    early_short [] h k b l e t S q z = absurd (omega arith)
    early_short (x ∷ []) h k b l e t S q z = absurd (omega arith)
    early_short (x ∷ y ∷ o) h k b l e t S q z =
        early_few x k b y o l s (subst (λ (z : List ℕ). Turned R z 0 y ((x + y) % 256) 0 s) (behind (x ∷ y ∷ o))
        (subst (λ (v : ℕ). Turned R (take (length (x ∷ y ∷ o) - 2) o) 0 y v 0 s) e t)) S q z
