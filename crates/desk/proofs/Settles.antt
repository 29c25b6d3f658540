-- Settling does what is promised: by the places of the desk, then by the verdict, then by the three ways of a
-- message; and a second settling goes the same way and changes nothing.
-- Assumes nothing.
use Rattle.std.proofs.Common.{ℕ, Result, Ok, Err, Option as Maybe}
use Prim.Native.Nat.{ℕ, ◌≤◌}
use mathlib.Core.Path.{◌≡◌, refl, sym, ◌∙◌, ap, subst}
use mathlib.Core.Logic.{◌⊎◌, inl, inr}
use mathlib.Core.List.{List}
use mathlib.Core.Option.{Option, none, some}
use native.Mathlib.Omega.{arith}
use lib.ListN.{length, get_or}
use lib.Dec.{T}
use Rattle.rules.specs.Tests.{◌=?◌}
use Rattle.rules.proofs.Tests.{clash, pick_yes, pick_not, decide, of_eq, eq_of}
use Rattle.rules.specs.Octets.{Octets}
use Rattle.rules.specs.Table.{rules_of}
use Rattle.rules.specs.declared.Book.{Book}
use Rattle.rules.specs.Message.{Message, octets, LegalMessage, Accepts}
use Rattle.rules.specs.declared.Fault.{Fault}
use Rattle.rules.specs.Refusals.{noted, noted_in}
use Rattle.rules.specs.Language.{language_of}
use Rattle.rules.proofs.Grammar.{spoken_of}
use Rattle.message.specs.Verdict.{verdict_of}
use Rattle.message.specs.Told as message
use Rattle.message.specs.Judges.{Judges, verdict_number}
use Rattle.message.proofs.Judges.{judges_of, told_small}
use Rattle.message.proofs.Told.{told-declined, accepted_iff, number_of_lem}
use Rattle.desk.specs.declared.Lamp.{Lamp}
use Rattle.desk.specs.declared.Desk.{Desk}
use Rattle.desk.specs.declared.Outcome.{Outcome}
use Rattle.desk.specs.References.{places_fit, is_full}
use Rattle.desk.specs.Holding.{Fit}
use Rattle.desk.proofs.Holding.{fit_of, of_fit}
use Rattle.desk.proofs.Changes.{fit_after, as_many_after, room_again, same_again}
use Rattle.desk.specs.Told.{Told, told, success, refusal, Clear}
use Rattle.desk.proofs.Told.{number_is, place_is, parameter_is}
use Rattle.desk.specs.Settle as settle
use Rattle.desk.specs.Settle.{refused_with, waiting_after, lamp_after, change_of, noticed, counted_in, settled_notice, settled_message, settled_under, settle_of}
use Rattle.desk.proofs.Counted.{small_change}
use Rattle.desk.specs.Settles.{Notices, Fills, Settles}
use Rattle.desk.proofs.Notice.{kind_of_lem, notices, fills_of, of_fills}

-- ---- the ways that settling goes
-- what an outcome tells
told-refusal : (f : Fault) (d : Desk) (r : Outcome) → r ≡ settle.refused f d →
    told r.answer ≡ refusal f.number f.place f.parameter
unfolding told
told-refusal f d r e = ap (λ (x : Outcome). told x.answer) e

told-success : (r : Outcome) → r.answer ≡ (Ok tt) → told r.answer ≡ success
unfolding told
told-success r e = ap told e

clear_refusal : (f : Fault) (d : Desk) (r : Outcome) → r ≡ settle.refused f d → 1 ≤ f.number → Clear r.answer
clear_refusal f d r e l = subst (λ (x : Outcome). Clear x.answer) (sym e) l

above : (k : ℕ) → k ≤ 10 → (k ≡ 17) ⊎ (k ≡ 21) → ⊥
above k h (inl e) = omega arith
above k h (inr e) = omega arith

abbrev fault : ℕ → Fault
fault n = noted n 0

module _ (book : Book) where
  module _ (d : Desk) (o : List ℕ) where
    abbrev IsFull : Type 0
    IsFull = T (is_full (change_of (counted_in (rules_of book) o 0x0D)) d.places)

    -- a message: a notice whose reference has no place; any other notice; a call message
    pub record Kept (r : Outcome) : Type 0 where
      pub notice : get_or o 0 0 ≡ 0x82
      pub full : IsFull
      pub is : r ≡ settle.refused (fault 21) d

    pub record Noticed (r : Outcome) : Type 0 where
      pub notice : get_or o 0 0 ≡ 0x82
      pub room : IsFull → ⊥
      pub is : r ≡ settle.done (noticed (counted_in (rules_of book) o) d)

    pub record Called (r : Outcome) : Type 0 where
      pub call : get_or o 0 0 ≡ 0x82 → ⊥
      pub is : r ≡ settle.done d

    abbrev pub Ways : Outcome → Type 0
    Ways r = Kept r ⊎ (Noticed r ⊎ Called r)

    pub ways : Ways (settled_message (rules_of book) o d)
    unfolding settled_message settled_notice refused_with
    ways = go (decide (get_or o 0 0 =? 0x82)) (decide (is_full (change_of (counted_in (rules_of book) o 0x0D)) d.places))
      where
        go : T (get_or o 0 0 =? 0x82) ⊎ (T (get_or o 0 0 =? 0x82) → ⊥) → IsFull ⊎ (IsFull → ⊥) →
            Ways (settled_message (rules_of book) o d)
        go (inl k) (inl t) = inl (record { notice = eq_of _ _ k; full = t; is = pick_yes _ _ _ k ∙ pick_yes _ _ _ t })
        go (inl k) (inr n) =
            inr (inl (record { notice = eq_of _ _ k; room = n; is = pick_yes _ _ _ k ∙ pick_not _ _ _ n }))
        go (inr k) t = inr (inr (record { call = λ e. k (of_eq _ _ e); is = pick_not _ _ _ k }))

    -- each leaves places that fit
    fit_left : Octets o → Fit d.places → (r : Outcome) → Ways r → Fit r.desk.places
    unfolding noticed
    fit_left q w r (inl g) = subst (λ (x : Outcome). Fit x.desk.places) (sym g.is) w
    fit_left q w r (inr (inl g)) =
        subst (λ (x : Outcome). Fit x.desk.places) (sym g.is)
        (fit_after (change_of (counted_in (rules_of book) o 0x0D)) d.places (small_change (rules_of book) o q 0x0D)
        g.room w)
    fit_left q w r (inr (inr g)) = subst (λ (x : Outcome). Fit x.desk.places) (sym g.is) w

    many_left : (r : Outcome) → Ways r → length r.desk.places ≡ length d.places
    unfolding noticed
    many_left r (inl g) = ap (λ (x : Outcome). length x.desk.places) g.is
    many_left r (inr (inl g)) =
        ap (λ (x : Outcome). length x.desk.places) g.is
        ∙ as_many_after (change_of (counted_in (rules_of book) o 0x0D)) d.places
    many_left r (inr (inr g)) = ap (λ (x : Outcome). length x.desk.places) g.is

  module _ (d : Desk) (o : List ℕ) (q : Octets o) where
    abbrev v : Result ℕ Fault
    v = verdict_of (rules_of book) o

    J : Judges (language_of book) o v
    J = judges_of book o q

    -- a desk that does not fit is 17, whatever the octets
    module _ (n : Fit d.places → ⊥) where
      unfit : settle_of (rules_of book) d o ≡ settle.refused (fault 17) d
      unfolding settle_of refused_with
      unfit = pick_not _ _ _ (λ t. n (fit_of d.places t))

      unfit_settles : (r : Outcome) → r ≡ settle.refused (fault 17) d → Settles (rules_of book) d o r
      unfit_settles r e =
          let a = told-refusal (fault 17) d r e in
          let k : r.desk ≡ d = ap (λ (x : Outcome). x.desk) e in
          record {
            clear = clear_refusal (fault 17) d r e (omega arith);
            seventeen =
                λ p. (λ x. (place_is (sym x ∙ a), n), λ x. a ∙ ap (λ (i : ℕ). refusal 17 i 0) (sym x.0));
            verdict = v;
            judged = J;
            refused =
                λ i p b l. (
                  λ x. absurd (omega (arith, (told_small (spoken_of book) _ l).1, number_is (sym x ∙ a))),
                  λ x. absurd (n x.0),
                );
            full = λ p. (λ x. absurd (omega (arith, number_is (sym x ∙ a))), λ x. absurd (n x.1));
            done = (λ x. absurd (omega (arith, number_is (sym x ∙ a))), λ x. absurd (n x.0));
            no_parameter = λ _. parameter_is a;
            numbers = λ _. inr (inl (number_is a));
            refusal_stays = λ _. k;
            call_stays = λ m l x c. k;
            notice = λ m l x c y. absurd (omega (arith, number_is (sym y ∙ a)));
            fits = λ w. absurd (n w);
            as_many = ap (λ (x : Desk). length x.places) k;
          }

    module _ (w : Fit d.places) where
      fit : settle_of (rules_of book) d o ≡ settled_under (rules_of book) v o d
      unfolding settle_of
      fit = pick_yes _ _ _ (of_fit d.places w)

      -- octets that the whole read declines
      declined_settles : (r : Outcome) (f : Fault) → v ≡ Err f → r ≡ settle.refused f d →
          Settles (rules_of book) d o r
      declined_settles r f c e =
          let a = told-refusal f d r e in
          let k : r.desk ≡ d = ap (λ (x : Outcome). x.desk) e in
          let t = number_of_lem J f c in
          let b = told_small (spoken_of book) _ t in
          let none : (x : Accepts (rules_of book) o) → ⊥ =
          λ x. no_verdict _ _ (sym ((accepted_iff J (length o)).1 (refl, x)) ∙ c) in
          let g = (told-declined v f.number f.place f.parameter b.0).1 c in
          record {
            clear = clear_refusal f d r e b.0;
            seventeen = λ p. (λ x. absurd (omega (arith, b.1, number_is (sym x ∙ a))), λ x. absurd (x.1 w));
            verdict = v;
            judged = J;
            refused =
                λ i p b l. (
                  λ x. (w, g ∙ ap (λ (z : Told). message.refusal z.number z.place z.parameter) (sym a ∙ x)),
                  λ x. a ∙ ap (λ (z : message.Told). refusal z.number z.place z.parameter) (sym g ∙ x.1),
                );
            full =
                λ p. (
                  λ x. absurd (omega (arith, b.1, number_is (sym x ∙ a))),
                  λ x. absurd
                      (none (x.2.m, x.2.legal, x.2.is)),
                );
            done = (λ x. absurd (omega (arith, b.0, number_is (sym x ∙ a))), λ x. absurd (none x.1));
            no_parameter = λ z. absurd (above _ b.1 (subst (λ (j : ℕ). (j ≡ 17) ⊎ (j ≡ 21)) (number_is a) z));
            numbers = λ _. inl (subst (λ (k : ℕ). T (verdict_number (language_of book) k)) (sym (number_is a)) t);
            refusal_stays = λ _. k;
            call_stays = λ m l x y. k;
            notice = λ m l x y z. absurd (omega (arith, b.0, number_is (sym z ∙ a)));
            fits = λ u. subst (λ (x : Desk). Fit x.places) (sym k) w;
            as_many = ap (λ (x : Desk). length x.places) k;
          }
        where
          no_verdict : (n : ℕ) (f : Fault) → Ok n ≡ Err f → ⊥
          no_verdict n f e = clash cc

      -- a message
      module _ (n : ℕ) (c : v ≡ Ok n) where
        accepts : Accepts (rules_of book) o
        accepts = ((accepted_iff J n).0 c).1

        not_declined : (k p b : ℕ) → T (verdict_number (language_of book) k) →
            message.told v ≡ message.refusal k p b → ⊥
        not_declined k p b l x =
            let y : Ok n ≡ Err (noted_in k p b) =
            sym c ∙ (told-declined v k p b (told_small (spoken_of book) _ l).0).0 x in
            clash cc

        kind_here : (m : Message) → octets m ≡ o → get_or o 0 0 ≡ m.kind
        kind_here m x = ap (λ (y : List ℕ). get_or y 0 0) (sym x) ∙ kind_of_lem m

        kept_settles : (r : Outcome) → Kept d o r → Settles (rules_of book) d o r
        kept_settles r g =
            let a = told-refusal (fault 21) d r g.is in
            let k : r.desk ≡ d = ap (λ (x : Outcome). x.desk) g.is in
            let y = accepts in
            let f : Fills (rules_of book) d.places o =
            fills_of book o d y.0 y.1 y.2 (sym (kind_here y.0 y.2) ∙ g.notice) g.full in
            record {
              clear = clear_refusal (fault 21) d r g.is (omega arith);
              seventeen = λ p. (λ x. absurd (omega (arith, number_is (sym x ∙ a))), λ x. absurd (x.1 w));
              verdict = v;
              judged = J;
              refused =
                  λ i p b l. (
                    λ x. absurd (omega (arith, (told_small (spoken_of book) _ l).1, number_is (sym x ∙ a))),
                    λ x. absurd (not_declined i p b l x.1),
                  );
              full =
                  λ p. (
                    λ x. (place_is (sym x ∙ a), w, f),
                    λ x. a ∙ ap (λ (i : ℕ). refusal 21 i 0) (sym x.0),
                  );
              done = (λ x. absurd (omega (arith, number_is (sym x ∙ a))), λ x. absurd (x.2 f));
              no_parameter = λ _. parameter_is a;
              numbers = λ _. inr (inr (number_is a));
              refusal_stays = λ _. k;
              call_stays = λ m l x z. k;
              notice = λ m l x z u. absurd (omega (arith, number_is (sym u ∙ a)));
              fits = λ u. subst (λ (x : Desk). Fit x.places) (sym k) w;
              as_many = ap (λ (x : Desk). length x.places) k;
            }

        -- done: which desk, that no reference wanted a place, and what that desk is
        done_settles : (r : Outcome) → r.answer ≡ (Ok tt) → (Fills (rules_of book) d.places o → ⊥) →
            (get_or o 0 0 ≡ 0x80 → r.desk ≡ d) →
            ((m : Message) → LegalMessage (rules_of book) m → octets m ≡ o → m.kind ≡ 0x82 →
            Notices (rules_of book) m d r.desk) → Fit r.desk.places →
            length r.desk.places ≡ length d.places → Settles (rules_of book) d o r
        done_settles r e f k g u z =
            let a = told-success r e in
            record {
              clear = subst Clear (sym e) tt;
              seventeen = λ p. (λ x. absurd (omega (arith, number_is (sym a ∙ x))), λ x. absurd (x.1 w));
              verdict = v;
              judged = J;
              refused =
                  λ i p b l. (
                    λ x. absurd (omega (arith, (told_small (spoken_of book) _ l).0, number_is (sym a ∙ x))),
                    λ x. absurd (not_declined i p b l x.1),
                  );
              full = λ p. (λ x. absurd (omega (arith, number_is (sym a ∙ x))), λ x. absurd (f x.2));
              done = (λ x. (w, accepts, f), λ x. a);
              no_parameter = λ _. parameter_is a;
              numbers = λ l. absurd (omega (arith, l, number_is a));
              refusal_stays = λ l. absurd (omega (arith, l, number_is a));
              call_stays = λ m l x b. k (kind_here m x ∙ b);
              notice = λ m l x b y. g m l x b;
              fits = λ y. u;
              as_many = z;
            }

        message_settles : (r : Outcome) → Ways d o r → Settles (rules_of book) d o r
        message_settles r (inl g) = kept_settles r g
        message_settles r (inr (inl g)) =
            let k : r.desk ≡ noticed (counted_in (rules_of book) o) d = ap (λ (x : Outcome). x.desk) g.is in
            done_settles r (ap (λ (x : Outcome). x.answer) g.is) (λ f. g.room (of_fills book o d f).1)
            (λ x. absurd (omega (arith, g.notice, x)))
            (λ m l x z. subst (Notices (rules_of book) m d) (sym k) (notices book o d m l x g.room w))
            (fit_left d o q w r (inr (inl g))) (many_left d o r (inr (inl g)))
        message_settles r (inr (inr g)) =
            let k : r.desk ≡ d = ap (λ (x : Outcome). x.desk) g.is in
            done_settles r (ap (λ (x : Outcome). x.answer) g.is) (λ f. g.call (of_fills book o d f).0) (λ _. k)
            (λ m l x z. absurd (g.call (kind_here m x ∙ z)))
            (fit_left d o q w r (inr (inr g))) (many_left d o r (inr (inr g)))

      fit_settles : (x : Result ℕ Fault) → v ≡ x → (r : Outcome) → r ≡ settled_under (rules_of book) x o d →
          Settles (rules_of book) d o r
      unfolding settled_under
      fit_settles (Ok n) c r e = message_settles n c r (subst (Ways d o) (sym e) (ways d o))
      fit_settles (Err f) c r e = declined_settles r f c e

    pub settles : Settles (rules_of book) d o (settle_of (rules_of book) d o)
    settles = go (decide (places_fit d.places))
      where
        go : T (places_fit d.places) ⊎ (T (places_fit d.places) → ⊥) →
            Settles (rules_of book) d o (settle_of (rules_of book) d o)
        go (inl t) = let w = fit_of d.places t in fit_settles w v refl (settle_of (rules_of book) d o) (fit w)
        go (inr n) =
            let m : Fit d.places → ⊥ = λ w. n (of_fit d.places w) in
            unfit_settles m (settle_of (rules_of book) d o) (unfit m)

  -- ---- settling twice running
  waiting_twice : (c : Option (List ℕ)) (w : Maybe ℕ) → waiting_after c (waiting_after c w) ≡ waiting_after c w
  unfolding waiting_after
  waiting_twice none w = refl
  waiting_twice (some v) w = refl

  lamp_twice : (c : Option (List ℕ)) (l : Lamp) → lamp_after c (lamp_after c l) ≡ lamp_after c l
  unfolding lamp_after
  lamp_twice none l = refl
  lamp_twice (some v) l = refl

  module _ (o : List ℕ) (d : Desk) (w : Fit d.places) where
    noticed_twice : (T (is_full (change_of (counted_in (rules_of book) o 0x0D)) d.places) → ⊥) →
        noticed (counted_in (rules_of book) o) (noticed (counted_in (rules_of book) o) d) ≡
        noticed (counted_in (rules_of book) o) d
    unfolding noticed
    noticed_twice n = λ i. record {
      waiting = waiting_twice (counted_in (rules_of book) o 0x13) d.waiting i;
      lamp = lamp_twice (counted_in (rules_of book) o 0x0B) d.lamp i;
      places = same_again (change_of (counted_in (rules_of book) o 0x0D)) d.places n w i;
    }

    message_twice : (r : Outcome) → r ≡ settled_message (rules_of book) o d → Ways d o r →
        settled_message (rules_of book) o r.desk ≡ r
    unfolding noticed
    message_twice r e (inl g) = ap (settled_message (rules_of book) o) (ap (λ (x : Outcome). x.desk) g.is) ∙ sym e
    message_twice r e (inr (inl g)) =
        ap (settled_message (rules_of book) o) (ap (λ (x : Outcome). x.desk) g.is)
        ∙ again (settled_message (rules_of book) o (noticed (counted_in (rules_of book) o) d)) refl
        (ways (noticed (counted_in (rules_of book) o) d) o)
      where
        again : (s : Outcome) → s ≡ settled_message (rules_of book) o (noticed (counted_in (rules_of book) o) d) →
            Ways (noticed (counted_in (rules_of book) o) d) o s → s ≡ r
        again s x (inl h) =
            absurd (room_again (change_of (counted_in (rules_of book) o 0x0D)) d.places g.room h.full)
        again s x (inr (inl h)) = h.is ∙ ap settle.done (noticed_twice g.room) ∙ sym g.is
        again s x (inr (inr h)) = absurd (h.call g.notice)
    message_twice r e (inr (inr g)) =
        ap (settled_message (rules_of book) o) (ap (λ (x : Outcome). x.desk) g.is) ∙ sym e

    under_twice : (v : Result ℕ Fault) →
        settled_under (rules_of book) v o (settled_under (rules_of book) v o d).desk ≡ settled_under (rules_of book) v o d
    unfolding settled_under
    under_twice (Ok n) = message_twice (settled_message (rules_of book) o d) refl (ways d o)
    under_twice (Err f) = refl

    fits_under : Octets o → (v : Result ℕ Fault) → Fit (settled_under (rules_of book) v o d).desk.places
    unfolding settled_under
    fits_under q (Ok n) = fit_left d o q w (settled_message (rules_of book) o d) (ways d o)
    fits_under q (Err f) = w

  -- whatever the octets, the second settling gives what the first gave, desk and answer
  pub settled_twice : (d : Desk) (o : List ℕ) → Octets o →
      settle_of (rules_of book) (settle_of (rules_of book) d o).desk o ≡ settle_of (rules_of book) d o
  unfolding settle_of refused_with
  settled_twice d o q = go (decide (places_fit d.places))
    where
      go : T (places_fit d.places) ⊎ (T (places_fit d.places) → ⊥) →
          settle_of (rules_of book) (settle_of (rules_of book) d o).desk o ≡ settle_of (rules_of book) d o
      go (inl t) =
          let w = fit_of d.places t in
          let x : settle_of (rules_of book) d o ≡ settled_under (rules_of book) (verdict_of (rules_of book) o) o d =
          pick_yes _ _ _ t in
          ap (λ (y : Outcome). settle_of (rules_of book) y.desk o) x
          ∙ pick_yes _ _ _ (of_fit _ (fits_under o d w q (verdict_of (rules_of book) o)))
          ∙ under_twice o d w (verdict_of (rules_of book) o) ∙ sym x
      go (inr n) = ap (λ (y : Outcome). settle_of (rules_of book) y.desk o) (pick_not (places_fit d.places) _ _ n)
