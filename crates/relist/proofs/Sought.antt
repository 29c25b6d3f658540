-- The laws of Reading on lines and on the lines of some types, said over the place where an octet first stands.
-- Assumes nothing.
use Rattle.std.proofs.Common.{◌≡◌, ℕ, suc, ◌+◌, ◌<◌, ◌≤◌, Bool, true, false, List, length, drop, take_all, sym, refl, ap, ◌∙◌, arith, length-drop, length-take-le, eqb, Option, None}
use Rattle.std.specs.List.{list_any}
use Rattle.rules.specs.First.{index_of}
use Rattle.relist.specs.First.{index_after}
use Rattle.rules.proofs.First.{index_most}
use Rattle.rules.proofs.Returns.{yes_le, no_le}
use Rattle.rules.specs.Table.{Rules, Row, rival_of}
use Rattle.relist.specs.Relist.{line_in, among}
use Rattle.relist.specs.Reading.{LineRead, RowRead}
use Rattle.relist.proofs.Text.{among_is}
use Rattle.relist.proofs.Reading as reading

-- the octet that is sought is not the first
after_some : (q : Bool) (k n : ℕ) → index_after q k ≡ suc n → (q ≡ false) × (k ≡ n)
unfolding index_after
after_some true k n e = absurd (omega arith)
after_some false k n e = (refl, omega arith)

-- ---- a line by its places, where its end was sought
module _ (t : List ℕ) (at : ℕ) (i : at ≤ length t) (r : ℕ) (e : r ≡ at + index_of 0x0A (drop at t)) where
  pub line_ended : r < length t → r + 1 ≡ at + length (line_in (drop at t))
  unfolding line_in
  line_ended h =
      let d = length-drop at t in
      let n = length-take-le (suc (index_of 0x0A (drop at t))) (drop at t) (omega arith) in
      omega arith

  pub line_unended : length t ≤ r → r ≡ at + length (line_in (drop at t))
  unfolding line_in
  line_unended h =
      let d = length-drop at t in
      let k = index_most 0x0A (drop at t) in
      let n = ap length (take_all (suc (index_of 0x0A (drop at t))) (drop at t) (omega arith)) in
      omega arith

-- ---- behind the lines of some types, where the rival was sought
module _ (R : Rules) (r : Row) (ks l area : List ℕ) (k : ℕ) (e : k ≡ r.kind) (u : ℕ) (d : u ≡ rival_of R k) (f : ℕ)
    (q : f ≡ 0 + index_of u (drop 0 ks)) where
  first : f ≡ index_of (rival_of R r.kind) ks
  first =
      let z : 0 + index_of u ks ≡ index_of u ks = omega arith in
      q ∙ z ∙ ap (λ (w : ℕ). index_of w ks) (d ∙ ap (rival_of R) e)

  place : f ≡ index_of u ks
  place = let z : 0 + index_of u ks ≡ index_of u ks = omega arith in q ∙ z

  -- one of them shuts the row's out
  pub read_shut : f < length ks → RowRead R r ks l area None
  unfolding among
  read_shut h =
      reading.read_shut R r ks l area k e u d (list_any (λ (x : ℕ). eqb x u) ks) refl
      (sym (among_is u ks) ∙ yes_le (suc (index_of u ks)) (length ks) (omega (arith, place)))

  -- or none does
  pub read_open : length ks ≤ f → (n : Option ℕ) → LineRead R r l area n → RowRead R r ks l area n
  unfolding among
  read_open h =
      reading.read_open R r ks l area k e u d (list_any (λ (x : ℕ). eqb x u) ks) refl
      (sym (among_is u ks) ∙ no_le (suc (index_of u ks)) (length ks) (omega (arith, place)))
