-- A sound record with an unknown number put into its octet 11 or 12, or into both, still stands for its listener's
-- state, so that it is 16 and not 17: every class of its book is one that such a record may hold, and so is every
-- number of a refusal.
-- Assumes nothing.
use Prim.Native.Nat.{ℕ, ◌≤◌}
use mathlib.Core.Path.{◌≡◌, refl, sym, ◌∙◌, ap, subst}
use mathlib.Core.Logic.{◌⊎◌, inl, inr}
use mathlib.Core.List.{List}
use native.Mathlib.Omega.{arith}
use lib.Dec.{T}
use lib.ListN.{get_or}
use Rattle.rules.specs.Tests.{◌≤?◌, ◌=?◌, ◌and◌, ◌or◌}
use Rattle.rules.proofs.Tests.{both, join, left, right, either, decide, eq_of, of_eq, of_le, not_le, pick_yes, pick_not}
use Rattle.rules.proofs.Returns.{holds}
use Rattle.rules.specs.Contents.{within, in_set}
use Rattle.rules.specs.Octets.{Octets}
use Rattle.rules.specs.Table.{Rules, rules_of, class_fault}
use Rattle.rules.specs.Editions.{lenient, edition, way, known, book_of}
use Rattle.rules.proofs.Editions.{unknown_strict}
use Rattle.rules.specs.Codes.{class_code, code_in}
use Rattle.rules.specs.Judge.{given, in_range}
use Rattle.rules.specs.declared.Stage.TheVariants.{Kind, Size, Header, Length, Content}
use Rattle.rules.specs.declared.State.{State}
use Rattle.rules.specs.declared.State.TheVariants.{Waiting, Message, Refused}
use Rattle.listener.specs.declared.Listener.{Listener}
use Rattle.firmware.specs.Record.{laid_fields, record_of, decode_of}
use Rattle.firmware.specs.RecordHears.{Stands, Sound, with_numbers, OwnOrNone}
use Rattle.firmware.proofs.Classes.{Coded}
use Rattle.firmware.proofs.Coding.{code_small, decode_encode, encode_decode, decoded_good}

-- ---- classes
-- of a class that is not carried the edition alone is asked
by_row : (e y b k : ℕ) → (T (k =? 0) → ⊥) → code_in e y k ≡ code_in e b k
unfolding code_in
by_row e y b k n = pick_not (k =? 0) _ _ n ∙ sym (pick_not (k =? 0) _ _ n)

carried : (e y k : ℕ) → T (k =? 0) → code_in e y k ≡ (lenient ≤? y)
unfolding code_in
carried e y k t = pick_yes (k =? 0) _ _ t

no_way_below : (y : ℕ) → (T (way y) → ⊥) → lenient ≤ y
no_way_below y n = let h = not_le _ _ n in omega arith

no_0 : (e : ℕ) → (T (edition e) → ⊥) → T (e =? 0) → ⊥
unfolding edition
no_0 e n t = let h = eq_of _ _ t in n (of_le _ _ (omega arith))

no_1 : (e : ℕ) → (T (edition e) → ⊥) → T (e =? 1) → ⊥
unfolding edition
no_1 e n t = let h = eq_of _ _ t in n (of_le _ _ (omega arith))

any_row : (e y k : ℕ) → (T (edition e) → ⊥) → (T (k =? 0) → ⊥) → code_in e y k ≡ (k ≤? 21)
unfolding code_in
any_row e y k n m =
    pick_not (k =? 0) _ _ m ∙ pick_not (e =? 0) _ _ (no_0 e n) ∙ pick_not (e =? 1) _ _ (no_1 e n)

-- by an unknown way the codes are those of the lenient one
pub unknown_way : (e y k : ℕ) → (T (way y) → ⊥) → code_in e y k ≡ code_in e lenient k
unknown_way e y k n = go (decide (k =? 0))
  where
    go : T (k =? 0) ⊎ (T (k =? 0) → ⊥) → code_in e y k ≡ code_in e lenient k
    go (inl t) =
        carried e y k t ∙ holds _ (of_le lenient y (no_way_below y n))
        ∙ sym (carried e lenient k t ∙ holds _ (of_le lenient lenient (omega arith)))
    go (inr m) = by_row e y lenient k m

-- by an unknown edition they are those of the two that there are
pub either_code : (e y k : ℕ) → (T (edition e) → ⊥) → T (code_in e y k) → T (code_in 0 y k) ⊎ T (code_in 1 y k)
unfolding code_in in_set within
either_code e y k n t = go (decide (k =? 0)) (decide (k ≤? 18))
  where
    present : (T (k =? 0) → ⊥) → code_in 0 y k ≡ (k ≤? 18)
    present m = pick_not (k =? 0) _ _ m ∙ pick_yes (0 =? 0) _ _ (of_eq 0 0 refl)

    old : (T (k =? 0) → ⊥) → 19 ≤ k → k ≤ 21 → T (code_in 1 y k)
    old m l h =
        subst T (sym (pick_not (k =? 0) _ _ m ∙ pick_not (1 =? 0) _ _ (λ z. omega (arith, eq_of 1 0 z))
        ∙ pick_yes (1 =? 1) _ _ (of_eq 1 1 refl)))
        (right _ _ (right _ _ (right _ _ (right _ _ (left _ _ (join _ _ (of_le _ _ l) (of_le _ _ h)))))))

    go : T (k =? 0) ⊎ (T (k =? 0) → ⊥) → T (k ≤? 18) ⊎ (T (k ≤? 18) → ⊥) → T (code_in 0 y k) ⊎ T (code_in 1 y k)
    go (inl z) u = inl (subst T (carried e y k z ∙ sym (carried 0 y k z)) t)
    go (inr m) (inl u) = inl (subst T (sym (present m)) u)
    go (inr m) (inr u) = inr (old m (not_le _ _ u) (code_small e y k t))

-- a class of a record's own numbers, where one of them gives way to an unknown one
wider : (a b e y k : ℕ) → OwnOrNone edition a e → OwnOrNone way b y → T (code_in a b k) → T (code_in e y k)
wider a b e y k p q t = go (decide (k =? 0)) p q
  where
    go : T (k =? 0) ⊎ (T (k =? 0) → ⊥) → OwnOrNone edition a e → OwnOrNone way b y → T (code_in e y k)
    go (inl z) _ (inl f) =
        subst T (sym (carried e y k z))
        (subst (λ (v : ℕ). T (lenient ≤? v)) (sym f) (subst T (carried a b k z) t))
    go (inl z) _ (inr n) = subst T (sym (carried e y k z)) (of_le _ _ (no_way_below y n))
    go (inr m) (inl f) _ =
        subst (λ (v : ℕ). T (code_in v y k)) (sym f) (subst T (by_row a b y k m) t)
    go (inr m) (inr n) _ = subst T (sym (any_row e y k n m)) (of_le _ _ (code_small a b k t))

-- ---- numbers of a refusal
wider_given : (R S : Rules) → class_fault S.others ≡ 10 → (k : ℕ) → T (given R k) → T (given S k)
unfolding given
wider_given R S z k t = go (either _ _ t)
  where
    go : T (within (1, 6) k) ⊎ T (k =? 10 and class_fault R.others =? 10) →
        T (within (1, 6) k or (k =? 10 and class_fault S.others =? 10))
    go (inl u) = left _ _ u
    go (inr u) = right _ _ (join _ _ (both _ _ u).0 (of_eq _ _ z))

module _ (e y : ℕ) (n : T (known e y) → ⊥) where
  is_in_range : (R : Rules) (s : State) → T (in_range R s) → T (in_range (rules_of (book_of e y)) s)
  unfolding in_range
  is_in_range R (Waiting s q) t = t
  is_in_range R (Message m) t = t
  is_in_range R (Refused f) t =
      let u = both _ _ t in
      let v = both _ _ u.0 in
      join _ _ (join _ _ (wider_given R _ (unknown_strict e y n) f.number v.0) v.1) u.1

  abbrev told_so : Listener → Listener
  told_so l = record { edition = e; way = y; state = l.state }

  laid : (l : Listener) → with_numbers e y (record_of l) ≡ record_of (told_so l)
  unfolding record_of laid_fields
  laid l = refl

  module _ (c : List ℕ) (o : Octets c) (s : Sound c) where
    abbrev l : Listener
    l = s.stands.listener

    is : record_of l ≡ c
    is = encode_decode c l o s.stands.known

    module _ (p : OwnOrNone edition (get_or c 11 0) e) (q : OwnOrNone way (get_or c 12 0) y) where
      coded : (s : State) → Coded (get_or c 11 0) (get_or c 12 0) s → Coded e y s
      coded (Waiting Kind v) h = tt
      coded (Waiting Size v) h = tt
      coded (Waiting (Header r) v) h = tt
      coded (Waiting (Length k r) v) h = wider _ _ e y (class_code k) p q h
      coded (Waiting (Content k m i x r) v) h = wider _ _ e y (class_code k) p q h
      coded (Message m) h = tt
      coded (Refused f) h = tt

      pub stands_still : Stands (with_numbers e y c)
      stands_still =
          let x : with_numbers e y c ≡ record_of (told_so l) = ap (with_numbers e y) (sym is) ∙ laid l in
          record {
            listener = told_so l;
            known =
                ap decode_of x
                ∙ decode_encode (told_so l) (coded l.state (decoded_good c l s.stands.known).coded);
            is_in_range = is_in_range _ l.state s.stands.is_in_range;
          }

    at_numbers : (v : Listener) →
        (get_or (with_numbers e y (record_of v)) 11 0 ≡ e) × (get_or (with_numbers e y (record_of v)) 12 0 ≡ y)
    unfolding record_of laid_fields
    at_numbers v = (refl, refl)

    pub of_numbers : (get_or (with_numbers e y c) 11 0 ≡ e) × (get_or (with_numbers e y c) 12 0 ≡ y)
    of_numbers = (
      ap (λ (d : List ℕ). get_or (with_numbers e y d) 11 0) (sym is) ∙ (at_numbers l).0,
      ap (λ (d : List ℕ). get_or (with_numbers e y d) 12 0) (sym is) ∙ (at_numbers l).1,
    )
