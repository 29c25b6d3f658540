-- What the functions over a walker promise, each in one equation (document 01: a walker holding the message slice and
-- a place; document 02, Q-5: and its edition and its way).
-- Assumes nothing.
use Rattle.std.specs.Prelude.{ℕ, zero, suc, ◌≡◌, List}
use Rattle.std.proofs.Common.{◌∙◌, ap}
use Rattle.std.specs.Borrow.{Bor}
use Rattle.walker.specs.declared.Walker.{Walker}
use Rattle.walker.specs.Steps.{step_in, next_place, place_in, Stepped}

-- a new walker holds the message lent, the place of its first parameter, and the edition and the way that it is told
abbrev pub begun : ℕ → ℕ → Bor (List ℕ) → Walker
begun e w s = record { message = s; place = 2; edition = e; way = w }

-- what stands at a walker's place of its message, by its edition and its way
abbrev pub seen : Walker → Stepped
seen v = step_in v.edition v.way v.message.now v.place

-- a walker moved on holds the same message, the place of the next call, and the same edition and way
abbrev pub advanced : Walker → Walker
advanced v =
    record { message = v.message; place = next_place v.place (seen v).answer; edition = v.edition; way = v.way }

-- the promises of `new`, `look` and `next`
abbrev pub Begun : ℕ → ℕ → Bor (List ℕ) → Walker → Type 0
Begun e w s r = r ≡ begun e w s

abbrev pub Seen : Walker → Stepped → Type 0
Seen v r = r ≡ seen v

abbrev pub Moved : Walker → Walker → Type 0
Moved v r = r ≡ advanced v

-- a walker on the message s, told an edition and a way, that so many calls have moved on
unfoldable pub Reached : ℕ → ℕ → Bor (List ℕ) → ℕ → Walker → Type 0
Reached e w s zero v = Begun e w s v
Reached e w s (suc calls) v = (u : Walker) × Reached e w s calls u × Moved u v

-- it holds s, the place of the next call, and the edition and the way
pub reached : (e w : ℕ) (s : Bor (List ℕ)) (calls : ℕ) (v : Walker) → Reached e w s calls v →
    v ≡ record { message = s; place = place_in e w s.now calls; edition = e; way = w }
unfolding Reached place_in
reached e w s zero v h = h
reached e w s (suc calls) v h = h.2 ∙ ap advanced (reached e w s calls h.0 h.1)
