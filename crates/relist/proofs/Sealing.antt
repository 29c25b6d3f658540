-- Octets in an area: what was read off a value, in two copies; a parameter behind those before it; the octets of a
-- message. Two octets and a copy behind them lay a list over the area from their place on, and the checksum makes it a
-- message.
-- Assumes nothing.
use Rattle.std.proofs.Common.{◌≡◌, ℕ, suc, ◌+◌, ◌-◌, ◌%◌, ◌<◌, ◌≤◌, List, [], ◌∷◌, ◌++◌, length, take, drop, set, sym, refl, ap, ◌∙◌, ap₂, append_assoc, append-nil, add-one, arith, length-append, length-drop, length-set, drop_of_length-le, length-take-le, take-suc-set, take_at, drop-set-lt}
use borrow.Rule.Slice.PartMut.{mid_of, put_mid, same_len_mid}
use Rattle.rules.specs.Tests.{◌=?◌}
use Rattle.rules.proofs.Tests.{pick_case}
use Rattle.rules.specs.Octets.{total}
use Rattle.rules.specs.Message.{front}
use Rattle.rules.specs.Laying.{laid, laid_at}
use Rattle.rules.proofs.Laying.{laid_front, laid_then, rest_whole, part_over}
use Rattle.rules.specs.Table.{Style, clock, verbatim, switch, reference, decimal, hex, numbered, moment, duration, charge, terminal, display}
use Rattle.writer.proofs.Laying.{sealed}
use Rattle.relist.specs.Back.{pairs_back, octets_back, one_back, switch_back, state_back, reference_back, moment_back, terminal_back, back_of, read_off}
use Rattle.relist.specs.Reading.{Holds, LaidBehind, Sealed}
use Rattle.relist.specs.declared.Back.{Back}

-- ---- ten octets at most are read off a value
abbrev Ten : Back → Type 0
Ten b = (b.length ≤ 10) × (length b.octets ≡ 10)

ten : (s : Style) (t : List ℕ) → Ten (back_of s t)
unfolding back_of pairs_back octets_back laid one_back switch_back reference_back state_back moment_back terminal_back
ten clock t = (omega arith, refl)
ten verbatim t = (omega arith, refl)
ten switch t = (omega arith, refl)
ten reference t =
    pick_case Ten _ _ _ (λ _. (omega arith, refl))
    (λ _. pick_case Ten _ _ _ (λ _. (omega arith, refl)) (λ _. (omega arith, refl)))
ten decimal t = (omega arith, refl)
ten hex t = (omega arith, refl)
ten numbered t = (omega arith, refl)
ten moment t = (pick_case (λ (n : ℕ). n ≤ 10) (length t =? 14) 10 8 (λ _. omega arith) (λ _. omega arith), refl)
ten duration t = (omega arith, refl)
ten charge t = (omega arith, refl)
ten terminal t =
    pick_case Ten _ _ _ (λ _. (omega arith, refl))
    (λ _. pick_case Ten _ _ _ (λ _. (omega arith, refl)) (λ _. (omega arith, refl)))
ten display t = (omega arith, refl)

module _ (s : Style) (t : List ℕ) (b : Back) (e : b ≡ back_of s t) where
  pub ten_at_most : b.length ≤ 10
  ten_at_most = omega (arith, ap (λ (b : Back). b.length) e, (ten s t).0)

  pub ten_there : b.length ≤ length b.octets
  ten_there = omega (arith, ten_at_most, ap (λ (b : Back). length b.octets) e, (ten s t).1)

  -- they stand at the area's start
  module _ (old first : List ℕ) (q : first ≡ take b.length b.octets) where
    abbrev out : List ℕ
    out = first ++ drop b.length old

    abbrev head : List ℕ
    head = take b.length b.octets

    head_long : length head ≡ b.length
    head_long = length-take-le b.length b.octets ten_there

    head-laid : out ≡ laid head old
    unfolding laid
    head-laid = ap₂ (λ (v : List ℕ) (n : ℕ). v ++ drop n old) q (sym head_long)

    -- and are all
    pub read_head : length t ≤ b.from → Holds (read_off (back_of s t) t) out b.length
    unfolding read_off laid
    read_head h =
        let z : read_off (back_of s t) t ≡ head =
        ap (λ (b : Back). read_off b t) (sym e)
        ∙ ap (λ (v : List ℕ). head ++ v) (drop_of_length-le t {i = b.from} h) ∙ append-nil head in
        record {
          long = sym head_long ∙ ap length (sym z);
          octets = ap (take b.length) head-laid ∙ take_at head (drop (length head) old) b.length head_long
              ∙ sym z;
        }

    -- or the rest of the value stands behind them
    pub read_both : b.from < length t → (last : List ℕ) →
        (let w = take (length t - b.from) (drop b.from t) in
        last ≡ w) →
        Holds (read_off (back_of s t) t) (put_mid b.length (b.length + (length t - b.from) - b.length) out last)
        (b.length + (length t - b.from))
    unfolding read_off laid
    read_both h last p =
        let w = take (length t - b.from) (drop b.from t) in
        let z : read_off (back_of s t) t ≡ head ++ w =
        ap (λ (b : Back). read_off b t) (sym e) ∙ ap (λ (v : List ℕ). head ++ v) (sym (rest_whole b.from t)) in
        let n : length (head ++ w) ≡ b.length + (length t - b.from) =
        omega (
          arith,
          length-append head w,
          head_long,
          ap length (rest_whole b.from t),
          length-drop b.from t,
        ) in
        let k : b.length + (length t - b.from) - b.length ≡ length w =
        omega (arith, ap length (rest_whole b.from t), length-drop b.from t) in
        let l : put_mid b.length (b.length + (length t - b.from) - b.length) out last ≡ laid (head ++ w) old =
        part_over w out last b.length _ k p ∙ ap₂ (laid_at w) (sym head_long) head-laid ∙ laid_then head w old in
        record {
          long = sym n ∙ ap length (sym z);
          octets = ap (take (b.length + (length t - b.from))) l
              ∙ take_at (head ++ w) (drop (length (head ++ w)) old) (b.length + (length t - b.from)) n ∙ sym z;
        }

-- ---- two octets from a place on, and a list behind them
module _ (old : List ℕ) (kind n at : ℕ) where
  abbrev opened : List ℕ
  opened = set (set old at kind) (at + 1) n

  -- as many octets as before, also where as many as there were are put behind the two
  pub opened_long : (k : ℕ) (last : List ℕ) → length last ≡ length (mid_of (at + 2) k opened) →
      length (put_mid (at + 2) k opened last) ≡ length old
  opened_long k last e =
      same_len_mid (at + 2) k opened last e
      ∙ length-set (set old at kind) (at + 1) n ∙ length-set old at kind

  module _ (h : at + 2 ≤ length old) where
    two_before : take (at + 2) opened ≡ (take at old ++ kind ∷ []) ++ n ∷ []
    two_before =
        let z : at + 2 ≡ suc (at + 1) = omega arith in
        ap (λ (k : ℕ). take k opened) z
        ∙ take-suc-set (set old at kind) (at + 1) n (simp length-set (omega arith))
        ∙ ap (λ (k : ℕ). take k (set old at kind) ++ n ∷ []) (add-one at)
        ∙ ap (λ (w : List ℕ). w ++ n ∷ []) (take-suc-set old at kind (omega arith))

    two_then : (v : List ℕ) → laid_at v (at + 2) opened ≡ laid_at (kind ∷ n ∷ v) at old
    unfolding laid_at
    two_then v =
        let z : at + 2 + length v ≡ at + suc (suc (length v)) = omega arith in
        let d : drop (at + 2 + length v) opened ≡ drop (at + suc (suc (length v))) old =
        drop-set-lt (at + 2 + length v) (set old at kind) (at + 1) n (omega arith)
        ∙ drop-set-lt (at + 2 + length v) old at kind (omega arith) ∙ ap (λ (k : ℕ). drop k old) z in
        ap₂ (λ (a b : List ℕ). a ++ (v ++ b)) two_before d
        ∙ append_assoc (take at old ++ kind ∷ []) (n ∷ []) _ ∙ append_assoc (take at old) (kind ∷ []) _

-- ---- a parameter behind others
module _ (v old : List ℕ) (kind size : ℕ) where
  pub no_parameter : length old < size + 2 + length v → LaidBehind kind v old size old (size + 2 + length v)
  no_parameter h = record { ends = omega arith; front = λ l. absurd (omega arith) }

  pub one_parameter : size + 2 + length v ≤ length old → (last : List ℕ) → last ≡ v →
      (let o = opened old kind (length v) size in
      LaidBehind kind v old size (put_mid (size + 2) (size + 2 + length v - (size + 2)) o last) (size + 2 + length v))
  one_parameter h last e =
      let o = opened old kind (length v) size in
      let z : size + 2 + length v ≡ size + suc (suc (length v)) = omega arith in
      let k : size + 2 + length v - (size + 2) ≡ length v = omega arith in
      let l : put_mid (size + 2) (size + 2 + length v - (size + 2)) o last ≡ laid_at (kind ∷ length v ∷ v) size old =
      part_over v o last (size + 2) _ k e ∙ two_then old kind (length v) size (omega arith) v in
      record {
        ends = omega arith;
        front = λ _. ap₂ take z l ∙ laid_front (kind ∷ length v ∷ v) size old (omega arith);
      }

-- ---- a message
module _ (v old : List ℕ) (kind : ℕ) where
  -- its octets but the checksum, where the parameters were copied
  abbrev pub fronted : List ℕ → List ℕ
  fronted last = put_mid 2 (length v + 2 - 2) (opened old kind (length v) 0) last

  module _ (h : length v + 3 ≤ length old) (last : List ℕ) (e : last ≡ v) where
    front_laid : fronted last ≡ laid (kind ∷ length v ∷ v) old
    unfolding laid laid_at
    front_laid =
        let z : 0 + suc (suc (length v)) ≡ suc (suc (length v)) = omega arith in
        part_over v (opened old kind (length v) 0) last 2 (length v + 2 - 2) (omega arith) e
        ∙ two_then old kind (length v) 0 (omega arith) v
        ∙ ap (λ (k : ℕ). kind ∷ length v ∷ (v ++ drop k old)) z

    pub sealing : (sum r : ℕ) → sum ≡ total (take (length v + 2) (fronted last)) % 256 → r < 256 →
        (r + sum) % 256 ≡ 0 → Sealed kind v old (set (fronted last) (length v + 2) r)
    sealing sum r p l q m k b =
        let f : (kind ∷ length v ∷ v) ≡ front m = ap₂ (λ (x : ℕ) (w : List ℕ). x ∷ length w ∷ w) (sym k) (sym b) in
        let n : length v + 2 ≡ length (front m) = omega (arith, ap length f) in
        sealed m old (fronted last) (length v + 2) (front_laid ∙ ap (λ (w : List ℕ). laid w old) f, n) (omega arith)
        sum r p l q
