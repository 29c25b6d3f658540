-- Lines by their places in a text: a line ends behind the first line end, or with the text, so what stands from its
-- start to its end is the first line there, and what follows is behind it. A line that a row says has a key, a value
-- of 264 octets at most and two octets more: so no line of another length is the row's, and what stands between its
-- marks is the value.
-- Assumes nothing.
use Rattle.std.proofs.Common.{◌≡◌, ℕ, suc, ◌+◌, ◌-◌, ◌<◌, ◌≤◌, Bool, true, false, T, List, length, take, drop, sym, refl, ap, ◌∙◌, ap₂, arith, length-append, length-drop, length-take, length-take-le, take_all, drop-drop, eqb, subst, Option, Some, None}
use lib.Seq.{take-append_seam, drop-append_seam}
use Rattle.rules.specs.First.{index_of}
use Rattle.rules.specs.Tests.{◌≤?◌, ◌and◌}
use Rattle.rules.proofs.Tests.{clash}
use Rattle.rules.proofs.Returns.{pick_t, pick_f, and_t, yes_le, same_truth}
use Rattle.rules.specs.Table.{Rules, Row, rules_of, class_of, rival_of, style_of}
use Rattle.rules.specs.declared.Class.{Class}
use Rattle.rules.specs.declared.Book.TheVariants.{PresentLenient}
use Rattle.rules.proofs.ContentLaw.{lawful}
use Rattle.listing.specs.Listing.{line_of, says_line, row_at, row_count}
use Rattle.listing.proofs.Values.{value, surplus_most}
use Rattle.listing.proofs.Longest.{line_long}
use Rattle.relist.specs.Back.{back_of, read_off, back}
use Rattle.relist.specs.Relist.{line_in, behind, value_in, row_contents, row_says, among, comes}
use Rattle.relist.specs.Reading.{longest_value, Holds, Reads, LineRead, RowRead}
use Rattle.rules.proofs.First.{index_is, placed}
use Rattle.std.specs.List.{position, position_or_len, list_any}
use Rattle.std.specs.Bool.{◌==◌}
use Rattle.std.specs.Option.{unwrap_or}
use Rattle.std.proofs.lemmas.Grind.{common_steps}
use Rattle.relist.proofs.Text.{line_split, among_is}
use Rattle.relist.proofs.Said.{says_fit, says_text}

-- ---- a place that `position` finds, or that it finds none
at_place : (p : ℕ → Bool) (l : List ℕ) (i : ℕ) → position p l ≡ Some i → position_or_len p l ≡ i
at_place p l i e = sym (placed p l) ∙ ap (λ (x : Option ℕ). unwrap_or x (length l)) e

no_place : (p : ℕ → Bool) (l : List ℕ) → position p l ≡ None → position_or_len p l ≡ length l
no_place p l e = sym (placed p l) ∙ ap (λ (x : Option ℕ). unwrap_or x (length l)) e

place_in : (p : ℕ → Bool) (l : List ℕ) (i : ℕ) → position p l ≡ Some i → i < length l
place_in p l i e = grind (arith, common_steps, e)

-- ---- a line by its places
module _ (t : List ℕ) (at : ℕ) (i : at ≤ length t) where
  -- where the first line end was found, or that there is none
  module _ (r : List ℕ) (w : r ≡ drop at t) where
    pub line_ended : (i : ℕ) → position (λ (x : ℕ). x == 0x0A) r ≡ Some i →
        at + i + 1 ≡ at + length (line_in (drop at t))
    unfolding line_in
    line_ended i e =
        let p = λ (x : ℕ). eqb x 0x0A in
        let e' : position p (drop at t) ≡ Some i = ap (position p) (sym w) ∙ e in
        let k : index_of 0x0A (drop at t) ≡ i = index_is 0x0A (drop at t) ∙ at_place p (drop at t) i e' in
        let n =
        length-take-le (suc (index_of 0x0A (drop at t))) (drop at t) (omega (arith, k, place_in p (drop at t) i e')) in
        omega (arith, n, k)

    pub line_unended : position (λ (x : ℕ). x == 0x0A) r ≡ None → length t ≡ at + length (line_in (drop at t))
    unfolding line_in
    line_unended e =
        let p = λ (x : ℕ). eqb x 0x0A in
        let k : index_of 0x0A (drop at t) ≡ length (drop at t) =
        index_is 0x0A (drop at t) ∙ no_place p (drop at t) (ap (position p) (sym w) ∙ e) in
        let d = length-drop at t in
        let n = ap length (take_all (suc (index_of 0x0A (drop at t))) (drop at t) (omega (arith, k))) in
        omega (arith, n, d)

  -- it ends there
  module _ (end : ℕ) (e : end ≡ at + length (line_in (drop at t))) where
    two : length (drop at t) ≡ length (line_in (drop at t)) + length (behind (drop at t))
    two = ap length (sym (line_split (drop at t))) ∙ length-append (line_in (drop at t)) (behind (drop at t))

    pub line_within : (at ≤ end) × (end ≤ length t)
    line_within = let w = two in let d = length-drop at t in (omega arith, omega arith)

    pub line_part : take (end - at) (drop at t) ≡ line_in (drop at t)
    line_part =
        let n : end - at ≡ length (line_in (drop at t)) = omega arith in
        ap (λ (k : ℕ). take k (drop at t)) n
        ∙ ap (take (length (line_in (drop at t)))) (sym (line_split (drop at t)))
        ∙ take-append_seam (line_in (drop at t)) (behind (drop at t))

    pub line_rest : drop end t ≡ behind (drop at t)
    line_rest =
        ap (λ (k : ℕ). drop k t) e
        ∙ sym (drop-drop (length (line_in (drop at t))) at t)
        ∙ ap (drop (length (line_in (drop at t)))) (sym (line_split (drop at t)))
        ∙ drop-append_seam (line_in (drop at t)) (behind (drop at t))

    pub rest_long : length (behind (drop at t)) ≡ length t - end
    rest_long = ap length (sym line_rest) ∙ length-drop end t

-- ---- a line that a row says
module _ (R : Rules) (r : Row) (l : List ℕ) (s : T (row_says R r l)) where
  -- its contents
  pub says_some : 1 ≤ length (row_contents R r l)
  says_some =
      (lawful (class_of R r.kind)).least _
      ((lawful (class_of R r.kind)).fit_length (row_contents R r l) (says_fit R r l s))

  pub says_few : length (row_contents R r l) ≤ 253
  says_few =
      (lawful (class_of R r.kind)).most _
      ((lawful (class_of R r.kind)).fit_length (row_contents R r l) (says_fit R r l s))

  -- its length
  says_long : (n : ℕ) × (n ≤ longest_value) × (length l ≡ length r.key + n + 2)
  unfolding line_of
  says_long =
      let c = class_of R r.kind in
      let v = row_contents R r l in
      let e = ap length (says_text R r l s) in
      let k = line_long (line_of R r v) in (
        length (line_of R r v).value,
        omega (arith, (value c).wide v (says_fit R r l s), surplus_most (style_of c), says_few),
        omega arith,
      )

  pub not_shorter : length l ≤ length r.key + 1 → ⊥
  not_shorter h = let n = says_long in omega arith

  pub not_longer : longest_value < length l - 1 - (length r.key + 1) → ⊥
  not_longer h = let n = says_long in omega arith

-- ---- what was read
-- it lies in the area
pub held_inside : (v area : List ℕ) (n : ℕ) → Holds v area n → n ≤ length area
held_inside v area n h = omega (arith, h.long, ap length h.octets, length-take n area)

pub held_long : (v area : List ℕ) (n : ℕ) → Holds v area n → n ≡ length (take n area)
held_long v area n h = h.long ∙ ap length (sym h.octets)

-- nothing, where the test fails
reads_none : (b : Bool) (v area : List ℕ) → b ≡ false → Reads b v area None
reads_none b v area f = record { size = pick_f _ _ _ _ f refl; holds = λ e. clash (cc) }

reads_some : (b : Bool) (v area : List ℕ) (n : ℕ) → b ≡ true → Holds v area n → Reads b v area (Some n)
reads_some b v area n f h =
    record {
      size = pick_t _ _ _ _ f (ap Some h.long);
      holds = λ _. ap (λ (k : ℕ). take k area) (sym h.long) ∙ h.octets;
    }

module _ (R : Rules) (r : Row) (l area : List ℕ) where
  -- of a line that is not the row's
  pub read_none : (T (row_says R r l) → ⊥) → LineRead R r l area None
  read_none n = reads_none _ _ _ (same_truth (row_says R r l) false n (λ x. absurd x))

  -- the contents that the value says in the class of the row's type
  module _ (k : ℕ) (e : k ≡ length r.key) (c : Class) (d : c ≡ class_of R r.kind) where
    value_is : take (length l - 1 - (k + 1)) (drop (k + 1) l) ≡ value_in r l
    unfolding value_in
    value_is =
        let n : length l - 1 - (k + 1) ≡ length l - (length r.key + 2) = omega arith in
        ap₂ (λ (n m : ℕ). take n (drop (m + 1) l)) n e

    pub read_value : (n : ℕ) →
        Holds (read_off (back_of (style_of c) (take (length l - 1 - (k + 1)) (drop (k + 1) l)))
        (take (length l - 1 - (k + 1)) (drop (k + 1) l))) area n → Holds (row_contents R r l) area n
    unfolding row_contents back
    read_value n h =
        let q = ap₂ (λ (c : Class) (v : List ℕ). read_off (back_of (style_of c) v) v) d value_is in
        record { long = h.long ∙ ap length q; octets = h.octets ∙ q }

-- ---- the test of a line, by the number of its row
module _ (i : ℕ) (h : i < row_count) (l area : List ℕ) (n : ℕ)
    (q : Holds (row_contents (rules_of PresentLenient) (row_at i) l) area n) (b : Bool)
    (e : b ≡ (suc i ≤? row_count and says_line (rules_of PresentLenient) (row_at i) (take n area) l)) where
  tested : b ≡ row_says (rules_of PresentLenient) (row_at i) l
  unfolding row_says
  tested =
      e ∙ sym (and_t _ _ _ (yes_le (suc i) row_count (omega arith)) refl)
      ∙ ap (λ (v : List ℕ). says_line (rules_of PresentLenient) (row_at i) v l) q.octets

  pub read_says : b ≡ true → LineRead (rules_of PresentLenient) (row_at i) l area (Some n)
  read_says t = reads_some _ _ _ n (sym tested ∙ t) q

  pub read_not : b ≡ false → LineRead (rules_of PresentLenient) (row_at i) l area None
  read_not f = reads_none _ _ _ (sym tested ∙ f)

-- ---- behind the lines of some types
module _ (R : Rules) (r : Row) (ks l area : List ℕ) (k : ℕ) (e : k ≡ r.kind) (u : ℕ) (d : u ≡ rival_of R k) (b : Bool)
    (q : b ≡ list_any (λ (x : ℕ). eqb x u) ks) where
  shuts : among (rival_of R r.kind) ks ≡ b
  shuts =
      among_is (rival_of R r.kind) ks
      ∙ ap (λ (u : ℕ). list_any (λ (x : ℕ). eqb x u) ks) (sym (d ∙ ap (rival_of R) e)) ∙ sym q

  -- one of them shuts the row's out
  pub read_shut : b ≡ true → RowRead R r ks l area None
  unfolding comes
  read_shut t = reads_none _ _ _ (sym (pick_t _ _ _ _ (shuts ∙ t) refl))

  -- or none does
  pub read_open : b ≡ false → (n : Option ℕ) → LineRead R r l area n → RowRead R r ks l area n
  unfolding comes
  read_open f n w =
      subst (λ (b : Bool). Reads b (row_contents R r l) area n) (pick_f _ _ _ _ (shuts ∙ f) refl) w
