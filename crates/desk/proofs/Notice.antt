-- A notice does to a desk what the written rules say: number, lamp and places by what counts, and no place for the
-- reference exactly by the places.
-- Assumes nothing.
use Prim.Native.Nat.{ℕ}
use mathlib.Core.Path.{◌≡◌, refl, sym, ◌∙◌, ap, subst}
use mathlib.Core.Bool.{Bool}
use mathlib.Core.Logic.{◌⊎◌, inl, inr}
use mathlib.Core.List.{List, [], ◌∷◌}
use mathlib.Core.Option.{Option, none, some}
use native.Mathlib.Omega.{arith}
use lib.ListN.{get_or}
use lib.Dec.{T}
use Rattle.rules.specs.Tests.{◌=?◌, pick}
use Rattle.rules.proofs.Tests.{pick_yes, pick_not, of_eq, eq_of}
use Rattle.rules.specs.Table.{Rules, rules_of}
use Rattle.rules.specs.declared.Book.{Book}
use Rattle.rules.specs.Message as message
use Rattle.rules.specs.Message.{octets, LegalMessage}
use Rattle.rules.specs.Counting.{counted}
use Rattle.message.proofs.Searching.{counted_part}
use Rattle.desk.specs.declared.Change.{Change}
use Rattle.desk.specs.declared.Change.TheVariants.{Nothing, Adds, Removes}
use Rattle.desk.specs.declared.Desk.{Desk}
use Rattle.desk.specs.References.{change_by, is_full, places_after}
use Rattle.desk.specs.Holding.{Fit, Added, Removed}
use Rattle.desk.proofs.Changes.{full_of, of_full, added, removed}
use Rattle.desk.specs.Settle.{waiting_after, lamp_after, change_in, change_of, noticed, counted_in}
use Rattle.desk.proofs.Counted.{identity_octets}
use Rattle.desk.specs.Settles.{Notices, Fills}
use Rattle.rules.specs.Octets.{reference_of}

-- ---- a message on a desk
pub kind_of_lem : (m : message.Message) → get_or (octets m) 0 0 ≡ m.kind
unfolding octets
kind_of_lem m = refl

pub counts : (R : Rules) (m : message.Message) (o : List ℕ) → octets m ≡ o → (t : ℕ) (c : Option (List ℕ)) →
    counted R m t ≡ c → counted_in R o t ≡ c
unfolding counted_in
counts R m o e t c x = ap (λ (v : List ℕ). counted_in R v t) (sym e) ∙ counted_part R m t ∙ x

pub adds_is : (h l : ℕ) → change_of (some (0xFF ∷ h ∷ l ∷ [])) ≡ Adds (reference_of h l)
unfolding change_of change_by change_in pick ◌=?◌
adds_is h l = refl

pub removes_is : (h l : ℕ) → change_of (some (0x00 ∷ h ∷ l ∷ [])) ≡ Removes (reference_of h l)
unfolding change_of change_by change_in pick ◌=?◌
removes_is h l = refl

pub unset_is : (h l : ℕ) → change_of (some (0x55 ∷ h ∷ l ∷ [])) ≡ Nothing
unfolding change_of change_by change_in pick ◌=?◌
unset_is h l = refl

pub stays_is : change_of none ≡ Nothing
unfolding change_of
stays_is = refl

-- nothing but adding wants a place
nothing_full : (ps : List ℕ) → T (is_full Nothing ps) → ⊥
unfolding is_full
nothing_full ps t = t

removed_full : (r : ℕ) (ps : List ℕ) → T (is_full (Removes r) ps) → ⊥
unfolding is_full
removed_full r ps t = t

module _ (book : Book) (o : List ℕ) (d : Desk) where
  abbrev full : Bool
  full = is_full (change_of (counted_in (rules_of book) o 0x0D)) d.places

  module _ (m : message.Message) (l : LegalMessage (rules_of book) m) (e : octets m ≡ o) where
    module _ (n : T full → ⊥) (w : Fit d.places) where
      waiting_is : (c : Option (List ℕ)) → counted (rules_of book) m 0x13 ≡ c →
          (noticed (counted_in (rules_of book) o) d).waiting ≡ waiting_after c d.waiting
      unfolding noticed
      waiting_is c x = ap (λ (y : Option (List ℕ)). waiting_after y d.waiting) (counts (rules_of book) m o e 0x13 c x)

      lamp_is : (c : Option (List ℕ)) → counted (rules_of book) m 0x0B ≡ c →
          (noticed (counted_in (rules_of book) o) d).lamp ≡ lamp_after c d.lamp
      unfolding noticed
      lamp_is c x = ap (λ (y : Option (List ℕ)). lamp_after y d.lamp) (counts (rules_of book) m o e 0x0B c x)

      change_of_lem : (c : Option (List ℕ)) (k : Change) → counted (rules_of book) m 0x0D ≡ c → change_of c ≡ k →
          change_of (counted_in (rules_of book) o 0x0D) ≡ k
      change_of_lem c k x y = ap change_of (counts (rules_of book) m o e 0x0D c x) ∙ y

      places_are : (c : Option (List ℕ)) (k : Change) → counted (rules_of book) m 0x0D ≡ c → change_of c ≡ k →
          (noticed (counted_in (rules_of book) o) d).places ≡ places_after k d.places
      unfolding noticed
      places_are c k x y = ap (λ (z : Change). places_after z d.places) (change_of_lem c k x y)

      room : (c : Option (List ℕ)) (k : Change) → counted (rules_of book) m 0x0D ≡ c → change_of c ≡ k →
          T (is_full k d.places) → ⊥
      room c k x y t = n (subst (λ (z : Change). T (is_full z d.places)) (sym (change_of_lem c k x y)) t)

      pub notices : Notices (rules_of book) m d (noticed (counted_in (rules_of book) o) d)
      unfolding waiting_after lamp_after places_after
      notices = record {
        number = λ k x. waiting_is _ x;
        number_stays = λ x. waiting_is _ x;
        lamp_off = λ x. lamp_is _ x ∙ pick_yes _ _ _ (of_eq _ _ refl);
        lamp_on = λ x. lamp_is _ x ∙ pick_not _ _ _ (λ t. omega (arith, eq_of _ _ t));
        lamp_stays = λ x. lamp_is _ x;
        adds =
            λ h k x. subst (Added (reference_of h k) d.places) (sym (places_are _ _ x (adds_is h k)))
            (added (reference_of h k) d.places (room _ _ x (adds_is h k)));
        removes =
            λ h k x. subst (Removed (reference_of h k) d.places) (sym (places_are _ _ x (removes_is h k)))
            (removed (reference_of h k) d.places w);
        unset = λ h k x. places_are _ _ x (unset_is h k);
        places_stay = λ x. places_are _ _ x stays_is;
      }

    -- 21 by the octets, and by the written rules
    pub fills_of : m.kind ≡ 0x82 → T full → Fills (rules_of book) d.places o
    fills_of k t = go (counted (rules_of book) m 0x0D) refl
      where
        empty : (c : Option (List ℕ)) → counted (rules_of book) m 0x0D ≡ c → change_of c ≡ Nothing → ⊥
        empty c x y =
            nothing_full d.places (subst (λ (z : Change). T (is_full z d.places))
            (ap change_of (counts (rules_of book) m o e 0x0D c x) ∙ y) t)

        out : (c : Option (List ℕ)) (r : ℕ) → counted (rules_of book) m 0x0D ≡ c → change_of c ≡ Removes r → ⊥
        out c r x y =
            removed_full r d.places (subst (λ (z : Change). T (is_full z d.places))
            (ap change_of (counts (rules_of book) m o e 0x0D c x) ∙ y) t)

        three : (v : List ℕ) → counted (rules_of book) m 0x0D ≡ some v → (h b : ℕ) →
            (v ≡ 0x00 ∷ h ∷ b ∷ []) ⊎ ((v ≡ 0x55 ∷ h ∷ b ∷ []) ⊎ (v ≡ 0xFF ∷ h ∷ b ∷ [])) →
            Fills (rules_of book) d.places o
        three v x h b (inl z) = absurd (out _ _ x (ap (λ (y : List ℕ). change_of (some y)) z ∙ removes_is h b))
        three v x h b (inr (inl z)) = absurd (empty _ x (ap (λ (y : List ℕ). change_of (some y)) z ∙ unset_is h b))
        three v x h b (inr (inr z)) = record {
          m = m;
          legal = l;
          is = e;
          notice = k;
          high = h;
          low = b;
          adds = x ∙ ap some z;
          others =
              full_of (reference_of h b) d.places
              (subst (λ (y : Change). T (is_full y d.places))
              (ap change_of (counts (rules_of book) m o e 0x0D _ (x ∙ ap some z)) ∙ adds_is h b) t);
        }

        go : (c : Option (List ℕ)) → counted (rules_of book) m 0x0D ≡ c → Fills (rules_of book) d.places o
        go none x = absurd (empty _ x stays_is)
        go (some v) x = let z = identity_octets book m l v x in three v x z.0 z.1 z.2

  pub of_fills : Fills (rules_of book) d.places o → (get_or o 0 0 ≡ 0x82) × T full
  of_fills w = (
    ap (λ (v : List ℕ). get_or v 0 0) (sym w.is) ∙ kind_of_lem w.m ∙ w.notice,
    subst (λ (k : Change). T (is_full k d.places))
        (sym (ap change_of (counts (rules_of book) w.m o w.is 0x0D _ w.adds) ∙ adds_is w.high w.low))
        (of_full (reference_of w.high w.low) d.places w.others),
  )
