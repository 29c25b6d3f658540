-- Octets put behind those that stand in a lent area, one text behind the other: laws of any such area, by which no
-- function is proved since a page (Page) is the list of what stands on it.
-- Assumes nothing.
use Rattle.std.specs.Prelude.{ℕ, ◌+◌, ◌-◌, ◌≤◌, ◌≡◌, refl, List, [], ◌++◌, length, take, drop}
use Rattle.std.proofs.Common.{sym, ◌∙◌, ap, ap₂, append_assoc, append-nil, add-zero, arith, length-append, take-append-drop, drop-drop}

-- the text v fits behind the first `at` octets of the area
unfoldable pub Room : List ℕ → ℕ → List ℕ → Type 0
Room v at old = at + length v ≤ length old

-- the octets of a text from start to end
abbrev pub part : List ℕ → ℕ → ℕ → List ℕ
part v start end = take (end - start) (drop start v)

-- v was put behind the first `at` octets of the area: it ends at `end`, what stood before it and behind it is as it
-- was
pub record Put (v : List ℕ) (at : ℕ) (old : List ℕ) (end : ℕ) (new : List ℕ) : Type 0 where
  pub ends : end ≡ at + length v
  pub long : length new ≡ length old
  pub front : take end new ≡ take at old ++ v
  pub behind : drop end new ≡ drop end old

-- nothing was put
pub put_none : (at : ℕ) (old : List ℕ) → Put [] at old at old
put_none at old =
    record { ends = sym (add-zero at); long = refl; front = sym (append-nil (take at old)); behind = refl }

-- one text, and another behind it
pub put_then : (v w : List ℕ) (at : ℕ) (old : List ℕ) (mid : ℕ) (next : List ℕ) (end : ℕ) (new : List ℕ) →
    Put v at old mid next → Put w mid next end new → Put (v ++ w) at old end new
put_then v w at old mid next end new p q = record {
  ends = omega (arith, p.ends, q.ends, length-append v w);
  long = q.long ∙ p.long;
  front = q.front ∙ ap (λ (l : List ℕ). l ++ w) p.front ∙ append_assoc (take at old) v w;
  behind =
      q.behind
      ∙ ap (λ (n : ℕ). drop n next) q.ends
      ∙ sym (drop-drop (length w) mid next)
      ∙ ap (drop (length w)) p.behind
      ∙ drop-drop (length w) mid old
      ∙ ap (λ (n : ℕ). drop n old) (sym q.ends);
}

-- a text that is the same
pub put_same : (v w : List ℕ) (at : ℕ) (old : List ℕ) (end : ℕ) (new : List ℕ) → v ≡ w → Put v at old end new →
    Put w at old end new
put_same v w at old end new e p = record {
  ends = p.ends ∙ ap (λ (l : List ℕ). at + length l) e;
  long = p.long;
  front = p.front ∙ ap (λ (l : List ℕ). take at old ++ l) e;
  behind = p.behind;
}

-- what was put from the beginning is the area's front
pub put_first : (v old : List ℕ) (end : ℕ) (new : List ℕ) → Put v 0 old end new → new ≡ v ++ drop (length v) old
put_first v old end new p =
    let z : end ≡ length v = omega (arith, p.ends) in
    sym (take-append-drop end new) ∙ ap₂ ◌++◌ p.front (p.behind ∙ ap (λ (n : ℕ). drop n old) z)

-- and nothing else stands before its end
pub put_only : (v old : List ℕ) (end : ℕ) (new : List ℕ) → Put v 0 old end new → take end new ≡ v
put_only v old end new p = p.front

-- ---- room for parts
pub room_left : (v w : List ℕ) (at : ℕ) (old : List ℕ) → Room (v ++ w) at old → Room v at old
unfolding Room
room_left v w at old h = omega (arith, length-append v w)

pub room_then : (v w : List ℕ) (at : ℕ) (old : List ℕ) (mid : ℕ) (next : List ℕ) → Room (v ++ w) at old →
    Put v at old mid next → Room w mid next
unfolding Room
room_then v w at old mid next h p = omega (arith, length-append v w, p.ends, p.long)

-- ---- three texts, one behind the other
module _ (u v w : List ℕ) (at : ℕ) (old : List ℕ) (h : Room (u ++ v ++ w) at old) where
  pub room_first : Room u at old
  room_first = room_left u v at old (room_left (u ++ v) w at old h)

  module _ (mid : ℕ) (next : List ℕ) (p : Put u at old mid next) where
    pub room_second : Room v mid next
    room_second = room_then u v at old mid next (room_left (u ++ v) w at old h) p

    pub room_third : (last : ℕ) (then : List ℕ) → Put v mid next last then → Room w last then
    room_third last then q = room_then (u ++ v) w at old last then h (put_then u v at old mid next last then p q)

pub put_three : (u v w : List ℕ) (at : ℕ) (old : List ℕ) (a : ℕ) (x : List ℕ) (b : ℕ) (y : List ℕ) (end : ℕ)
    (new : List ℕ) → Put u at old a x → Put v a x b y → Put w b y end new → Put (u ++ v ++ w) at old end new
put_three u v w at old a x b y end new p q r =
    put_then (u ++ v) w at old b y end new (put_then u v at old a x b y p q) r
