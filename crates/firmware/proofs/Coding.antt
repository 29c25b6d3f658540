-- A record and what it stands for are each other's inverse: decode (encode l) is l, and encode (decode r) is r where
-- r decodes.
-- Assumes nothing.
use Rattle.std.proofs.Common.{Some, None}
use mathlib.Core.Path.{◌≡◌, refl, sym, ◌∙◌, ap, subst}
use mathlib.Core.Bool.{Bool, false}
use mathlib.Core.Logic.{◌⊎◌, inl, inr}
use mathlib.Core.List.{List, [], ◌∷◌}
use Prim.Native.Nat.{ℕ, ◌+◌, ◌*◌, ◌/◌, ◌%◌, ◌≤◌}
use native.Mathlib.Omega.{arith}
use lib.Dec.{T}
use lib.ListN.{length, get_or}
use Rattle.rules.specs.Tests.{◌≤?◌, ◌=?◌, ◌and◌, pick}
use Rattle.rules.proofs.Tests.{clash, picked_by, pick_yes, both, either, of_eq, eq_of, of_le, le_of}
use Rattle.rules.specs.Octets.{Octets}
use Rattle.rules.specs.Codes.{class_code, class_coded, old_codes, code_in}
use Rattle.rules.specs.Contents.{within, in_set}
use Rattle.rules.proofs.Codes.{coded_code, code_coded}
use Rattle.rules.specs.declared.Class.{Class}
use Rattle.rules.specs.declared.Stage.TheVariants.{Kind, Size, Header, Length, Content}
use Rattle.rules.specs.declared.State.{State}
use Rattle.rules.specs.declared.State.TheVariants.{Waiting, Message, Refused}
use Rattle.listener.specs.declared.Listener.{Listener}
use Rattle.firmware.proofs.Classes.{Coded}
use Rattle.firmware.specs.declared.Fields.{Fields}
use Rattle.firmware.specs.Record.{fields_of, fields_waiting, fields_at, fields_ended, fields_for, laid_fields, record_of, known, spot_of, opening_of, parameter_state, ended_of, state_of, decode_of}
use Rattle.firmware.specs.Sizes.{listener_size}

unknown_not : (l : Listener) → None ≡ Some l → ⊥
unknown_not l e = clash cc

-- ---- a record that decodes has 16 octets
pub known_size : (c : List ℕ) (l : Listener) → decode_of c ≡ Some l → length c ≡ listener_size
unfolding decode_of
known_size c l e = picked_by (length c ≡ listener_size) _ _ _ _ e (λ t _. eq_of _ _ t) (λ _ e. absurd (unknown_not l e))

-- ---- decode (encode l) is l
abbrev made : ℕ → ℕ → State → Listener
made e y s = record { edition = e; way = y; state = s }

state_fields : (e y : ℕ) (s : State) → Coded e y s → state_of e y (fields_for s) ≡ Some (made e y s)
unfolding state_of fields_for fields_at fields_waiting fields_ended opening_of parameter_state ended_of pick ◌≤?◌ ◌=?◌ known
state_fields e y (Waiting Kind q) h = refl
state_fields e y (Waiting Size q) h = refl
state_fields e y (Waiting (Header r) q) h = refl
state_fields e y (Waiting (Length c r) q) h =
    pick_yes (code_in e y (class_code c)) (Some (made e y (Waiting (Length (class_coded (class_code c)) r) q))) None h
    ∙ ap (λ (d : Class). Some (made e y (Waiting (Length d r) q))) (coded_code c)
state_fields e y (Waiting (Content c n i m r) q) h =
    pick_yes (code_in e y (class_code c)) (Some (made e y (Waiting (Content (class_coded (class_code c)) n i m r) q)))
    None h ∙ ap (λ (d : Class). Some (made e y (Waiting (Content d n i m r) q))) (coded_code c)
state_fields e y (Message n) h = refl
state_fields e y (Refused f) h = refl

fields_laid : (e y : ℕ) (f : Fields) → f.spare ≡ 0 → fields_of (laid_fields e y f) ≡ f
unfolding fields_of laid_fields
fields_laid e y f z =
    let p : f.place % 256 + 256 * (f.place / 256) ≡ f.place = omega arith in
    λ i. record {
      stage = f.stage;
      sum = f.sum;
      place = p i;
      class = f.class;
      length = f.length;
      index = f.index;
      memory = f.memory;
      room = f.room;
      number = f.number;
      parameter = f.parameter;
      spare = sym z i;
    }

no_spare : (s : State) → (fields_for s).spare ≡ 0
unfolding fields_for fields_at fields_waiting fields_ended
no_spare (Waiting Kind q) = refl
no_spare (Waiting Size q) = refl
no_spare (Waiting (Header r) q) = refl
no_spare (Waiting (Length c r) q) = refl
no_spare (Waiting (Content c n i m r) q) = refl
no_spare (Message n) = refl
no_spare (Refused f) = refl

laid_size : (e y : ℕ) (f : Fields) → length (laid_fields e y f) ≡ listener_size
unfolding laid_fields
laid_size e y f = refl

laid_numbers : (e y : ℕ) (f : Fields) → (get_or (laid_fields e y f) 11 0 ≡ e) × (get_or (laid_fields e y f) 12 0 ≡ y)
unfolding laid_fields
laid_numbers e y f = (refl, refl)

-- edition and way of a listener stand in octets 11 and 12 of its record
pub record_numbers : (l : Listener) → (get_or (record_of l) 11 0 ≡ l.edition) × (get_or (record_of l) 12 0 ≡ l.way)
unfolding record_of
record_numbers l = laid_numbers l.edition l.way (fields_for l.state)

-- of a listener in a class of its book
pub decode_encode : (l : Listener) → Coded l.edition l.way l.state → decode_of (record_of l) ≡ Some l
unfolding decode_of record_of
decode_encode l h =
    let g = fields_for l.state in
    let c = laid_fields l.edition l.way g in
    let n = laid_numbers l.edition l.way g in
    pick_yes _ _ _ (of_eq _ _ (laid_size l.edition l.way g))
    ∙ ap (λ (f : Fields). state_of (get_or c 11 0) (get_or c 12 0) f)
    (fields_laid l.edition l.way g (no_spare l.state))
    ∙ (λ i. state_of (n.0 i) (n.1 i) g)
    ∙ state_fields l.edition l.way l.state h

-- ---- what a record decodes to is of the edition in its octet 11 and the way in its octet 12
pub record Good (e y : ℕ) (l : Listener) : Type 0 where
  pub edition : l.edition ≡ e
  pub way : l.way ≡ y
  pub coded : Coded e y l.state

known_good : (e y : ℕ) (ok : Bool) (s : State) (l : Listener) → Coded e y s → known e y ok s ≡ Some l → Good e y l
unfolding known
known_good e y ok s l h z =
    picked_by (Good e y l) _ _ _ _ z
    (λ _ d. let x : made e y s ≡ l = cc in
    subst (Good e y) x (record { edition = refl; way = refl; coded = h }))
    (λ _ d. absurd (unknown_not l d))

set_small : (k : ℕ) → T (in_set old_codes k) → k ≤ 21
unfolding in_set within
set_small k t = go (either _ _ t)
  where
    last : T (19 ≤? k and k ≤? 21) ⊎ T false → k ≤ 21
    last (inl u) = le_of _ _ (both _ _ u).1
    last (inr u) = absurd u

    fourth : T (11 ≤? k and k ≤? 11) ⊎ T (in_set ((19, 21) ∷ []) k) → k ≤ 21
    fourth (inl u) = let h = le_of _ _ (both _ _ u).1 in omega arith
    fourth (inr u) = last (either _ _ u)

    third : T (5 ≤? k and k ≤? 5) ⊎ T (in_set ((11, 11) ∷ (19, 21) ∷ []) k) → k ≤ 21
    third (inl u) = let h = le_of _ _ (both _ _ u).1 in omega arith
    third (inr u) = fourth (either _ _ u)

    second : T (3 ≤? k and k ≤? 3) ⊎ T (in_set ((5, 5) ∷ (11, 11) ∷ (19, 21) ∷ []) k) → k ≤ 21
    second (inl u) = let h = le_of _ _ (both _ _ u).1 in omega arith
    second (inr u) = third (either _ _ u)

    go : T (1 ≤? k and k ≤? 1) ⊎ T (in_set ((3, 3) ∷ (5, 5) ∷ (11, 11) ∷ (19, 21) ∷ []) k) → k ≤ 21
    go (inl u) = let h = le_of _ _ (both _ _ u).1 in omega arith
    go (inr u) = second (either _ _ u)

pub code_small : (e y k : ℕ) → T (code_in e y k) → k ≤ 21
unfolding code_in
code_small e y k t =
    picked_by (k ≤ 21) (k =? 0) _ _ (code_in e y k) refl (λ u _. let h = eq_of _ _ u in omega arith)
    (λ _ x. picked_by (k ≤ 21) (e =? 0) _ _ (code_in e y k) x
    (λ _ z. let h = le_of _ _ (subst T (sym z) t) in omega arith)
    (λ _ z. picked_by (k ≤ 21) (e =? 1) _ _ (code_in e y k) z
    (λ _ u. set_small k (subst T (sym u) t)) (λ _ u. le_of _ _ (subst T (sym u) t))))

state_good : (e y : ℕ) (f : Fields) (l : Listener) → state_of e y f ≡ Some l → Good e y l
unfolding state_of opening_of parameter_state ended_of
state_good v y f l e =
    picked_by (Good v y l) _ _ _ _ e
    (λ _ e. picked_by (Good v y l) _ _ _ _ e (λ _ e. known_good v y _ _ l tt e)
    (λ _ e. picked_by (Good v y l) _ _ _ _ e (λ _ e. known_good v y _ _ l tt e) (λ _ e. known_good v y _ _ l tt e)))
    (λ _ e.
    picked_by (Good v y l) _ _ _ _ e
    (λ _ e.
    picked_by (Good v y l) _ _ _ _ e
    (λ t e.
    let h : T (code_in v y (class_code (class_coded f.class))) =
    subst (λ (k : ℕ). T (code_in v y k)) (sym (code_coded f.class (let k = code_small v y _ t in omega arith))) t in
    picked_by (Good v y l) _ _ _ _ e (λ _ e. known_good v y _ _ l h e) (λ _ e. known_good v y _ _ l h e))
    (λ _ e. absurd (unknown_not l e)))
    (λ _ e. picked_by (Good v y l) _ _ _ _ e (λ _ e. known_good v y _ _ l tt e)
    (λ _ e. picked_by (Good v y l) _ _ _ _ e (λ _ e. known_good v y _ _ l tt e) (λ _ e. absurd (unknown_not l e)))))

pub decoded_good : (c : List ℕ) (l : Listener) → decode_of c ≡ Some l → Good (get_or c 11 0) (get_or c 12 0) l
unfolding decode_of
decoded_good c l e =
    picked_by (Good (get_or c 11 0) (get_or c 12 0) l) _ _ _ _ e
    (λ _ e. state_good (get_or c 11 0) (get_or c 12 0) (fields_of c) l e)
    (λ _ e. absurd (unknown_not l e))

-- ---- encode (decode c) is c, where c decodes
known_is : (e y n : ℕ) (s : State) (l : Listener) → known e y (n =? 0) s ≡ Some l → (n ≡ 0) × (l.state ≡ s)
unfolding known
known_is e y n s l z =
    picked_by _ _ _ _ _ z
    (λ t d. let k : made e y s ≡ l = cc in (eq_of _ _ t, sym (ap (λ (x : Listener). x.state) k)))
    (λ _ d. absurd (unknown_not l d))

third : (n : ℕ) → n ≤ 2 → (n ≡ 0 → ⊥) → (n ≡ 1 → ⊥) → n ≡ 2
third n h a b = omega arith

fifth : (n : ℕ) → n ≤ 4 → (n ≤ 2 → ⊥) → (n ≡ 3 → ⊥) → n ≡ 4
fifth n h a b = omega arith

same_fields : (f g : Fields) → f.stage ≡ g.stage → f.sum ≡ g.sum → f.place ≡ g.place → f.class ≡ g.class →
    f.length ≡ g.length → f.index ≡ g.index → f.memory ≡ g.memory → f.room ≡ g.room → f.number ≡ g.number →
    f.parameter ≡ g.parameter → f.spare ≡ g.spare → f ≡ g
same_fields f g a b c d e h m r n p s =
    λ i. record {
      stage = a i;
      sum = b i;
      place = c i;
      class = d i;
      length = e i;
      index = h i;
      memory = m i;
      room = r i;
      number = n i;
      parameter = p i;
      spare = s i;
    }

-- what nothing uses is 0, and is read back as 0
module _ (v y : ℕ) (f : Fields) (l : Listener) where
  abbrev Back : Type 0
  Back = fields_for l.state ≡ f

  opening_back : f.stage ≤ 2 →
      opening_of v y f.stage (spot_of f) f.room
      (f.class + f.length + f.index + f.memory + f.number + f.spare) ≡ Some l → Back
  unfolding opening_of fields_for fields_at fields_waiting
  opening_back h e =
      picked_by Back _ _ _ _ e
      (λ t e. let k = eq_of _ _ t in let n = known_is v y _ _ l e in
      rw n.1 (same_fields _ f (omega arith) refl refl (omega arith) (omega arith) (omega arith) (omega arith)
      (omega arith) (omega arith) refl (omega arith)))
      (λ a e.
      picked_by Back _ _ _ _ e
      (λ t e. let k = eq_of _ _ t in let n = known_is v y _ _ l e in
      rw n.1 (same_fields _ f (omega arith) refl refl (omega arith) (omega arith) (omega arith) (omega arith)
      (omega arith) (omega arith) refl (omega arith)))
      (λ b e.
      let s : f.stage ≡ 2 = third f.stage h (λ k. a (of_eq _ _ k)) (λ k. b (of_eq _ _ k)) in
      let n = known_is v y _ _ l e in
      rw n.1 (same_fields _ f (omega arith) refl refl (omega arith) (omega arith) (omega arith) (omega arith)
      refl (omega arith) refl (omega arith))))

  parameter_back : f.stage ≤ 4 → (f.stage ≤ 2 → ⊥) →
      parameter_state v y f.stage (spot_of f) f.class f.length f.index f.memory f.room
      (f.number + f.spare) ≡ Some l → Back
  unfolding parameter_state fields_for fields_at fields_waiting
  parameter_back h g e =
      picked_by Back _ _ _ _ e
      (λ t e.
      let c = code_coded f.class (let k = code_small v y _ t in omega arith) in
      picked_by Back _ _ _ _ e
      (λ t e. let k = eq_of _ _ t in let n = known_is v y _ _ l e in
      rw n.1 (same_fields _ f (omega arith) refl refl c (omega arith) (omega arith) (omega arith) refl
      (omega arith) refl (omega arith)))
      (λ b e.
      let s : f.stage ≡ 4 = fifth f.stage h g (λ k. b (of_eq _ _ k)) in
      let n = known_is v y _ _ l e in
      rw n.1 (same_fields _ f (omega arith) refl refl c refl refl refl refl (omega arith) refl (omega arith))))
      (λ _ e. absurd (unknown_not l e))

  ended_back : ended_of v y f.stage f.place f.number f.parameter
      (f.class + f.length + f.index + f.memory + f.sum + f.room + f.spare) ≡ Some l → Back
  unfolding ended_of fields_for fields_ended
  ended_back e =
      picked_by Back _ _ _ _ e
      (λ t e. let k = eq_of _ _ t in let n = known_is v y _ _ l e in
      rw n.1 (same_fields _ f (omega arith) (omega arith) refl (omega arith) (omega arith) (omega arith)
      (omega arith) (omega arith) (omega arith) (omega arith) (omega arith)))
      (λ _ e.
      picked_by Back _ _ _ _ e
      (λ t e. let k = eq_of _ _ t in let n = known_is v y _ _ l e in
      rw n.1 (same_fields _ f (omega arith) (omega arith) refl (omega arith) (omega arith) (omega arith)
      (omega arith) (omega arith) refl refl (omega arith)))
      (λ _ e. absurd (unknown_not l e)))

  fields_state : state_of v y f ≡ Some l → Back
  unfolding state_of
  fields_state e =
      picked_by Back _ _ _ _ e
      (λ t. opening_back (le_of _ _ t))
      (λ g e. picked_by Back _ _ _ _ e (λ t. parameter_back (le_of _ _ t) (λ k. g (of_le _ _ k))) (λ _. ended_back))

-- the 16 octets of a record are its fields
laid_fields_lem : (c : List ℕ) → length c ≡ listener_size → Octets c → (fields_of c).spare ≡ 0 →
    laid_fields (get_or c 11 0) (get_or c 12 0) (fields_of c) ≡ c
unfolding laid_fields fields_of
laid_fields_lem [] n o e = absurd (omega arith)
laid_fields_lem (a0 ∷ []) n o e = absurd (omega arith)
laid_fields_lem (a0 ∷ a1 ∷ []) n o e = absurd (omega arith)
laid_fields_lem (a0 ∷ a1 ∷ a2 ∷ []) n o e = absurd (omega arith)
laid_fields_lem (a0 ∷ a1 ∷ a2 ∷ a3 ∷ []) n o e = absurd (omega arith)
laid_fields_lem (a0 ∷ a1 ∷ a2 ∷ a3 ∷ a4 ∷ []) n o e = absurd (omega arith)
laid_fields_lem (a0 ∷ a1 ∷ a2 ∷ a3 ∷ a4 ∷ a5 ∷ []) n o e = absurd (omega arith)
laid_fields_lem (a0 ∷ a1 ∷ a2 ∷ a3 ∷ a4 ∷ a5 ∷ a6 ∷ []) n o e = absurd (omega arith)
laid_fields_lem (a0 ∷ a1 ∷ a2 ∷ a3 ∷ a4 ∷ a5 ∷ a6 ∷ a7 ∷ []) n o e = absurd (omega arith)
laid_fields_lem (a0 ∷ a1 ∷ a2 ∷ a3 ∷ a4 ∷ a5 ∷ a6 ∷ a7 ∷ a8 ∷ []) n o e = absurd (omega arith)
laid_fields_lem (a0 ∷ a1 ∷ a2 ∷ a3 ∷ a4 ∷ a5 ∷ a6 ∷ a7 ∷ a8 ∷ a9 ∷ []) n o e = absurd (omega arith)
laid_fields_lem (a0 ∷ a1 ∷ a2 ∷ a3 ∷ a4 ∷ a5 ∷ a6 ∷ a7 ∷ a8 ∷ a9 ∷ a10 ∷ []) n o e = absurd (omega arith)
laid_fields_lem (a0 ∷ a1 ∷ a2 ∷ a3 ∷ a4 ∷ a5 ∷ a6 ∷ a7 ∷ a8 ∷ a9 ∷ a10 ∷ a11 ∷ []) n o e = absurd (omega arith)
laid_fields_lem (a0 ∷ a1 ∷ a2 ∷ a3 ∷ a4 ∷ a5 ∷ a6 ∷ a7 ∷ a8 ∷ a9 ∷ a10 ∷ a11 ∷ a12 ∷ []) n o e = absurd (omega arith)
laid_fields_lem (a0 ∷ a1 ∷ a2 ∷ a3 ∷ a4 ∷ a5 ∷ a6 ∷ a7 ∷ a8 ∷ a9 ∷ a10 ∷ a11 ∷ a12 ∷ a13 ∷ []) n o e = absurd (omega arith)
laid_fields_lem (a0 ∷ a1 ∷ a2 ∷ a3 ∷ a4 ∷ a5 ∷ a6 ∷ a7 ∷ a8 ∷ a9 ∷ a10 ∷ a11 ∷ a12 ∷ a13 ∷ a14 ∷ []) n o e =
    absurd (omega arith)
laid_fields_lem (a0 ∷ a1 ∷ a2 ∷ a3 ∷ a4 ∷ a5 ∷ a6 ∷ a7 ∷ a8 ∷ a9 ∷ a10 ∷ a11 ∷ a12 ∷ a13 ∷ a14 ∷ a15 ∷ a16 ∷ c) n o e =
    absurd (omega arith)
laid_fields_lem (a0 ∷ a1 ∷ a2 ∷ a3 ∷ a4 ∷ a5 ∷ a6 ∷ a7 ∷ a8 ∷ a9 ∷ a10 ∷ a11 ∷ a12 ∷ a13 ∷ a14 ∷ a15 ∷ []) n o e =
    let p : (a2 + 256 * a3) % 256 ≡ a2 = omega (arith, o.1.1.0) in
    let q : (a2 + 256 * a3) / 256 ≡ a3 = omega (arith, o.1.1.0) in
    let z13 : 0 ≡ a13 = omega arith in
    let z14 : 0 ≡ a14 = omega arith in
    let z15 : 0 ≡ a15 = omega arith in
    λ i. a0 ∷ a1 ∷ p i ∷ q i ∷ a4 ∷ a5 ∷ a6 ∷ a7 ∷ a8 ∷ a9 ∷ a10 ∷ a11 ∷ a12 ∷ z13 i ∷ z14 i ∷ z15 i ∷ []

pub encode_decode : (c : List ℕ) (l : Listener) → Octets c → decode_of c ≡ Some l → record_of l ≡ c
unfolding record_of decode_of
encode_decode c l o e =
    picked_by (laid_fields l.edition l.way (fields_for l.state) ≡ c) _ _ _ _ e
    (λ t e.
    let f = fields_state (get_or c 11 0) (get_or c 12 0) (fields_of c) l e in
    let g = state_good (get_or c 11 0) (get_or c 12 0) (fields_of c) l e in
    (λ i. laid_fields (g.edition i) (g.way i) (f i))
    ∙ laid_fields_lem c (eq_of _ _ t) o (sym (ap (λ (g : Fields). g.spare) f) ∙ no_spare l.state))
    (λ _ e. absurd (unknown_not l e))
