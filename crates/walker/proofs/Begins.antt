-- A walk over a message's octets gives a parameter exactly where one begins, and that one.
-- Assumes nothing.
use Rattle.std.proofs.Common.{Ok, None}
use Prim.Native.Nat.{ℕ, zero, suc, ◌+◌, ◌-◌, ◌≤◌, ◌<◌}
use mathlib.Core.Path.{◌≡◌, refl, sym, ◌∙◌, ap}
use mathlib.Core.List.{List, [], ◌∷◌, ◌++◌}
use native.Mathlib.Omega.{arith}
use lib.ListN.{length, length-append, take, drop}
use Rattle.rules.proofs.Tests.{picked_by, eq_of, clash}
use Rattle.rules.specs.Message as message
use Rattle.rules.specs.Message.{body}
use Rattle.message.proofs.Searching.{Stand, at_end, found_is, contents_are, on}
use Rattle.walker.specs.Walks.{Begins}
use Rattle.walker.specs.Steps.{walk_from, next_place, Step, given}
use Rattle.walker.proofs.Steps.{none_here, stands, here, onward}

-- the step that gives a parameter: its type, its contents behind type and length, and the place behind them
abbrev pub giving : ℕ → message.Parameter → Step
giving at p = given p.kind (at + 2) (length p.contents) (at + 2 + length p.contents)

-- the place of the parameter that so many come before; behind the last one, that of the checksum
unfoldable pub begin_at : ℕ → List message.Parameter → ℕ → ℕ
begin_at first ps zero = first
begin_at first [] (suc k) = first
begin_at first (p ∷ ps) (suc k) = begin_at (first + 2 + length p.contents) ps k

first_begins : (first : ℕ) (p : message.Parameter) (ps : List message.Parameter) (at : ℕ) → first ≡ at →
    Begins first (p ∷ ps) at
unfolding body
first_begins first p ps at e = record { before = []; p = p; behind = ps; is = refl; place = omega arith }

later_begins : (first : ℕ) (q : message.Parameter) (ps : List message.Parameter) (at : ℕ) →
    Begins (first + 2 + length q.contents) ps at → Begins first (q ∷ ps) at
unfolding body
later_begins first q ps at b = record {
  before = q ∷ b.before;
  p = b.p;
  behind = b.behind;
  is = ap (λ (l : List message.Parameter). q ∷ l) b.is;
  place = omega (arith, b.place, length-append q.contents (body b.before));
}

-- ---- places where no parameter begins
long : (b : List message.Parameter) (p : message.Parameter) (a : List message.Parameter) →
    length (body b) + 2 + length p.contents ≤ length (body (b ++ p ∷ a))
unfolding body
long [] p a = omega (arith, length-append p.contents (body a))
long (q ∷ b) p a =
    omega (arith, long b p a, length-append q.contents (body b), length-append q.contents (body (b ++ p ∷ a)))

-- each begins before the place behind the last
pub begins_before : (first : ℕ) (ps : List message.Parameter) (at : ℕ) → Begins first ps at →
    at + 2 ≤ first + length (body ps)
begins_before first ps at b =
    omega (
      arith,
      b.place,
      long b.before b.p b.behind,
      ap (λ (l : List message.Parameter). length (body l)) b.is,
    )

apart : (b : List message.Parameter) (p : message.Parameter) (a d : List message.Parameter) (q : message.Parameter)
    (c : List message.Parameter) → b ++ p ∷ a ≡ d ++ q ∷ c → length (body b) < length (body d) →
    length (body b) + 2 + length p.contents ≤ length (body d)
unfolding body
apart [] p a [] q c e h = absurd (omega arith)
apart [] p a (x ∷ d) q c e h =
    let z : p ≡ x = cc in
    omega (arith, ap (λ (y : message.Parameter). length y.contents) z, length-append x.contents (body d))
apart (x ∷ b) p a [] q c e h = absurd (omega arith)
apart (x ∷ b) p a (y ∷ d) q c e h =
    let z : x ≡ y = cc in
    let t : b ++ p ∷ a ≡ d ++ q ∷ c = cc in
    let k = ap (λ (w : message.Parameter). length w.contents) z in
    let m = length-append x.contents (body b) in
    let n = length-append y.contents (body d) in
    omega (arith, apart b p a d q c t (omega arith))

-- none begins inside another
pub begins_apart : (first : ℕ) (ps : List message.Parameter) (at behind : ℕ) (b : Begins first ps at) →
    Begins first ps behind → at < behind → at + 2 + length b.p.contents ≤ behind
begins_apart first ps at behind b d h =
    let x = b.place in
    let y = d.place in
    omega (
      arith,
      apart b.before b.p b.behind d.before d.p d.behind (sym b.is ∙ d.is)
          (omega arith),
    )

not_given : (k s n next : ℕ) → Ok None ≡ given k s n next → ⊥
not_given k s n next e = clash cc

place_far : (first : ℕ) (ps : List message.Parameter) (k : ℕ) → first ≤ begin_at first ps k
unfolding begin_at
place_far first ps zero = omega arith
place_far first [] (suc k) = omega arith
place_far first (p ∷ ps) (suc k) = omega (arith, place_far (first + 2 + length p.contents) ps k)

pub place_behind : (first : ℕ) (b : List message.Parameter) (p : message.Parameter) (a : List message.Parameter) →
    begin_at first (b ++ p ∷ a) (length b) ≡ first + length (body b)
unfolding begin_at body
place_behind first [] p a = omega arith
place_behind first (q ∷ b) p a =
    omega (arith, place_behind (first + 2 + length q.contents) b p a, length-append q.contents (body b))

-- ---- a walk that stands where the parameters ps begin
module _ (o : List ℕ) (c : ℕ) where
  at_last : (turns at place : ℕ) → Stand o c place [] → walk_from turns o at place ≡ Ok None
  unfolding walk_from
  at_last zero at place e = refl
  at_last (suc turns) at place e = none_here (suc turns) o at place (omega arith) (at_end o c place e)

  walk_here : (p : message.Parameter) (a b : List message.Parameter) (turns at place : ℕ) →
      Stand o c place (b ++ p ∷ a) → length b < turns → at ≡ place + length (body b) →
      walk_from turns o at place ≡ giving at p
  unfolding body
  walk_here p a [] turns at place e h q =
      let z : place ≡ at = omega arith in
      here turns o at place (omega arith) _ _ _ (found_is o c place p a e) z
      ∙ ap (λ (x : ℕ). giving x p) z
  walk_here p a (d ∷ b) turns at place e h q =
      onward turns o at place (omega arith) _ _ _ (found_is o c place d (b ++ p ∷ a) e) (λ z. omega arith)
      ∙ walk_here p a b (turns - 1) at (place + 2 + length d.contents) (on o c place d (b ++ p ∷ a) e)
      (omega arith) (omega (arith, length-append d.contents (body b)))

  pub walk_begins : (turns at place : ℕ) (ps : List message.Parameter) → Stand o c place ps → length ps ≤ turns →
      (b : Begins place ps at) → walk_from turns o at place ≡ giving at b.p
  walk_begins turns at place ps e h b =
      walk_here b.p b.behind b.before turns at place
      (e ∙ ap (λ (l : List message.Parameter). body l ++ c ∷ []) b.is)
      (omega (arith, ap length b.is, length-append b.before (b.p ∷ b.behind)))
      b.place

  contents_here : (p : message.Parameter) (a b : List message.Parameter) (at place : ℕ) →
      Stand o c place (b ++ p ∷ a) → at ≡ place + length (body b) →
      take (length p.contents) (drop (at + 2) o) ≡ p.contents
  unfolding body
  contents_here p a [] at place e q =
      let z : at ≡ place = omega arith in
      ap (λ (x : ℕ). take (length p.contents) (drop (x + 2) o)) z ∙ contents_are o c place p a e
  contents_here p a (d ∷ b) at place e q =
      contents_here p a b at (place + 2 + length d.contents) (on o c place d (b ++ p ∷ a) e)
      (omega (arith, length-append d.contents (body b)))

  -- behind type and length stand its contents
  pub contents_stand : (at place : ℕ) (ps : List message.Parameter) → Stand o c place ps →
      (b : Begins place ps at) → take (length b.p.contents) (drop (at + 2) o) ≡ b.p.contents
  contents_stand at place ps e b =
      contents_here b.p b.behind b.before at place
      (e ∙ ap (λ (l : List message.Parameter). body l ++ c ∷ []) b.is) b.place

  pub walk_begun : (turns at place : ℕ) (ps : List message.Parameter) → Stand o c place ps → length ps ≤ turns →
      (k s n next : ℕ) → walk_from turns o at place ≡ given k s n next → Begins place ps at
  walk_begun turns at place [] e h k s n next w = absurd (not_given k s n next (sym (at_last turns at place e) ∙ w))
  walk_begun turns at place (p ∷ ps) e h k s n next w =
      picked_by (Begins place (p ∷ ps) at) _ _ _ _
      (sym (stands turns o at place (omega arith) _ _ _ (found_is o c place p ps e)) ∙ w)
      (λ t _. first_begins place p ps at (eq_of _ _ t))
      (λ _ d. later_begins place p ps at (walk_begun (turns - 1) at (place + 2 + length p.contents) ps
      (on o c place p ps e) (omega arith) k s n next d))

  pub walk_none : (turns at place : ℕ) (ps : List message.Parameter) → Stand o c place ps → length ps ≤ turns →
      (Begins place ps at → ⊥) → walk_from turns o at place ≡ Ok None
  walk_none turns at place [] e h away = at_last turns at place e
  walk_none turns at place (p ∷ ps) e h away =
      onward turns o at place (omega arith) _ _ _ (found_is o c place p ps e) (λ z. away (first_begins place p ps at z))
      ∙ walk_none (turns - 1) at (place + 2 + length p.contents) ps (on o c place p ps e) (omega arith)
      (λ b. away (later_begins place p ps at b))

  -- from the place of a parameter a call leads to that of the next; behind the last it stays
  pub walk_on : (turns place : ℕ) (ps : List message.Parameter) (k : ℕ) → Stand o c place ps → length ps ≤ turns →
      next_place (begin_at place ps k) (walk_from turns o (begin_at place ps k) place) ≡ begin_at place ps (suc k)
  unfolding begin_at next_place
  walk_on turns place [] zero e h = ap (next_place place) (at_last turns place place e)
  walk_on turns place [] (suc k) e h = ap (next_place place) (at_last turns place place e)
  walk_on turns place (p ∷ ps) zero e h =
      ap (next_place place) (here turns o place place (omega arith) _ _ _ (found_is o c place p ps e) refl)
  walk_on turns place (p ∷ ps) (suc k) e h =
      let f = place_far (place + 2 + length p.contents) ps k in
      ap (next_place (begin_at (place + 2 + length p.contents) ps k))
      (onward turns o _ place (omega arith) _ _ _ (found_is o c place p ps e) (λ z. omega arith))
      ∙ walk_on (turns - 1) (place + 2 + length p.contents) ps k (on o c place p ps e) (omega arith)

  pub walk_ended : (turns place : ℕ) (ps : List message.Parameter) (k : ℕ) → Stand o c place ps →
      length ps ≤ turns → length ps ≤ k → walk_from turns o (begin_at place ps k) place ≡ Ok None
  unfolding begin_at
  walk_ended turns place [] k e h l = at_last turns (begin_at place [] k) place e
  walk_ended turns place (p ∷ ps) zero e h l = absurd (omega arith)
  walk_ended turns place (p ∷ ps) (suc k) e h l =
      let f = place_far (place + 2 + length p.contents) ps k in
      onward turns o _ place (omega arith) _ _ _ (found_is o c place p ps e) (λ z. omega arith)
      ∙ walk_ended (turns - 1) (place + 2 + length p.contents) ps k (on o c place p ps e) (omega arith) (omega arith)
