-- What the lines of a listing are: one for each type that counts, with its value's text, and none for any other, in
-- the order of the table; the number of carried parameters stands last.
-- Assumes nothing.
use Prim.Native.Nat.{ℕ, zero, suc, ◌≤◌, ◌<◌}
use mathlib.Core.Path.{◌≡◌, refl, subst}
use mathlib.Core.Logic.{◌⊎◌, inl, inr}
use mathlib.Core.Bool.{Bool}
use mathlib.Core.List.{List, [], ◌∷◌, ◌++◌}
use mathlib.Core.Option.{Option, none, some}
use native.Mathlib.Omega.{arith}
use lib.ListN.{length, get_or}
use lib.Dec.{T}
use Rattle.rules.specs.Tests.{◌=?◌, ◌and◌, pick}
use Rattle.rules.proofs.Tests.{pick_yes, both, eq_of}
use Rattle.rules.specs.Table.{Rules, Row, rules_of, ascii}
use Rattle.rules.specs.declared.Book.{Book}
use Rattle.rules.specs.declared.Book.TheVariants.{PresentStrict, PresentLenient, OldStrict, OldLenient}
use Rattle.rules.specs.Message.{Message}
use Rattle.rules.specs.Counting.{counted, carried_in}
use Rattle.rules.specs.Pairwise.{pairwise}
use Rattle.rules.proofs.Pairwise.{octets_self}
use Rattle.listing.specs.Lists.{Has, HasLine, kind, counts, carried}
use Rattle.listing.specs.Lists.{keys_of, key_place, order, line_place, Rising, Lines}
use Rattle.listing.specs.Listing.{Line, line_of, lines_for, row_lines, kind_line, carried_line, message_lines}

-- ---- one of some
module _ {A : Type 0} where
  pub has_left : (a b : List A) (x : A) → Has a x → Has (a ++ b) x
  has_left [] b x h = absurd h
  has_left (y ∷ a) b x (inl e) = inl e
  has_left (y ∷ a) b x (inr h) = inr (has_left a b x h)

  pub has_right : (a b : List A) (x : A) → Has b x → Has (a ++ b) x
  has_right [] b x h = h
  has_right (y ∷ a) b x h = inr (has_right a b x h)

  pub has_split : (a b : List A) (x : A) → Has (a ++ b) x → Has a x ⊎ Has b x
  has_split [] b x h = inr h
  has_split (y ∷ a) b x (inl e) = inl (inl e)
  has_split (y ∷ a) b x (inr h) = go (has_split a b x h)
    where
      go : Has a x ⊎ Has b x → Has (y ∷ a) x ⊎ Has b x
      go (inl i) = inl (inr i)
      go (inr i) = inr i

  has_at : (l : List A) (i : ℕ) (d : A) → i < length l → Has l (get_or l i d)
  has_at [] i d h = absurd (omega arith)
  has_at (x ∷ l) zero d h = inl refl
  has_at (x ∷ l) (suc i) d h = inr (has_at l i d (omega arith))

  at_has : (l : List A) (x d : A) → Has l x → (i : ℕ) × (i < length l) × (x ≡ get_or l i d)
  at_has [] x d h = absurd h
  at_has (y ∷ l) x d (inl e) = (0, omega arith, e)
  at_has (y ∷ l) x d (inr h) = let w = at_has l x d h in (suc w.0, omega (arith, w.1), w.2)

-- ---- the lines of a message are what it has a line for
module _ (R : Rules) (m : Message) where
  abbrev one : Row → List Line
  one r = lines_for R r (counted R m r.kind)

  for_row : (r : Row) (x : Option (List ℕ)) (l : Line) → Has (lines_for R r x) l →
      (v : List ℕ) × (x ≡ some v) × (l ≡ line_of R r v)
  unfolding lines_for
  for_row r none l h = absurd h
  for_row r (some v) l (inl e) = (v, refl, e)
  for_row r (some v) l (inr h) = absurd h

  row_for : (r : Row) (v : List ℕ) → counted R m r.kind ≡ some v → Has (one r) (line_of R r v)
  unfolding lines_for
  row_for r v e = rw e (inl refl)

  from_rows : (rs : List Row) → ((r : Row) → Has rs r → Has R.rows r) → (l : Line) → Has (row_lines R m rs) l →
      HasLine R m l
  unfolding row_lines
  from_rows [] f l h = absurd h
  from_rows (r ∷ rs) f l h = go (has_split (one r) (row_lines R m rs) l h) (from_rows rs (λ q i. f q (inr i)) l)
    where
      go : Has (one r) l ⊎ Has (row_lines R m rs) l → (Has (row_lines R m rs) l → HasLine R m l) → HasLine R m l
      go (inl x) later = let w = for_row r _ l x in rw w.2 (counts r w.0 (f r (inl refl)) w.1)
      go (inr x) later = later x

  to_rows : (rs : List Row) (r : Row) (v : List ℕ) → Has rs r → counted R m r.kind ≡ some v →
      Has (row_lines R m rs) (line_of R r v)
  unfolding row_lines
  to_rows [] r v h e = absurd h
  to_rows (q ∷ rs) r v (inl z) e =
      has_left (one q) (row_lines R m rs) _ (subst (λ (q : Row). Has (one q) (line_of R r v)) z (row_for r v e))
  to_rows (q ∷ rs) r v (inr h) e = has_right (one q) (row_lines R m rs) _ (to_rows rs r v h e)

  has_said : (l : Line) → Has (message_lines R m) l → HasLine R m l
  unfolding message_lines
  has_said l (inl e) = rw e kind
  has_said l (inr h) = go (has_split (row_lines R m R.rows) _ l h)
    where
      go : Has (row_lines R m R.rows) l ⊎ Has (carried_line (carried_in R m.parameters) ∷ []) l → HasLine R m l
      go (inl x) = from_rows R.rows (λ r i. i) l x
      go (inr (inl e)) = rw e carried
      go (inr (inr x)) = absurd x

  said_has : (l : Line) → HasLine R m l → Has (message_lines R m) l
  unfolding message_lines
  said_has l kind = inl refl
  said_has l (counts r v h e) = inr (has_left (row_lines R m R.rows) _ _ (to_rows R.rows r v h e))
  said_has l carried = inr (has_right (row_lines R m R.rows) _ _ (inl refl))

-- ---- and they stand in their order
-- the rows' keys and `carried` have the places from n on, one after the other
unfoldable in_places : Rules → ℕ → List Row → Bool
in_places R n [] = key_place (order R) (ascii "carried") =? n
in_places R n (r ∷ rs) = key_place (order R) r.key =? n and in_places R (suc n) rs

in_places_lem : (b : Book) → T (in_places (rules_of b) 1 (rules_of b).rows)
unfolding in_places key_place order keys_of rules_of ascii pairwise pick ◌=?◌ ◌and◌
in_places_lem PresentStrict = tt
in_places_lem PresentLenient = tt
in_places_lem OldStrict = tt
in_places_lem OldLenient = tt

module _ (R : Rules) (m : Message) where
  earlier : (n k : ℕ) (ls : List Line) → n ≤ k → Rising R k ls → Rising R n ls
  earlier n k [] h r = tt
  earlier n k (l ∷ ls) h r = (omega (arith, r.0), r.1)

  -- the lines of some rows, and the last
  abbrev rest : List Row → List Line
  rest rs = row_lines R m rs ++ carried_line (carried_in R m.parameters) ∷ []

  rows_rise : (n : ℕ) (rs : List Row) → T (in_places R n rs) → Rising R n (rest rs)
  unfolding in_places row_lines lines_for line_of carried_line
  rows_rise n [] t = (omega (arith, eq_of _ _ t), tt)
  rows_rise n (r ∷ rs) t = go (counted R m r.kind) (eq_of _ _ (both _ _ t).0) (rows_rise (suc n) rs (both _ _ t).1)
    where
      go : (x : Option (List ℕ)) → key_place (order R) r.key ≡ n → Rising R (suc n) (rest rs) →
          Rising R n (lines_for R r x ++ row_lines R m rs ++ carried_line (carried_in R m.parameters) ∷ [])
      go none e h = earlier n (suc n) (rest rs) (omega arith) h
      go (some v) e h = (omega arith, rw e h)

  kind_first : line_place R (kind_line m.kind) ≡ 0
  unfolding key_place order kind_line
  kind_first = pick_yes _ _ _ (octets_self (ascii "kind"))

  rise : T (in_places R 1 R.rows) → Rising R 0 (message_lines R m)
  unfolding message_lines
  rise t = (omega arith, rw kind_first (rows_rise 1 R.rows t))

-- by any book
pub lines_of : (b : Book) (m : Message) → Lines (rules_of b) m (message_lines (rules_of b) m)
lines_of b m =
    record {
      said = λ l. (has_said (rules_of b) m l, said_has (rules_of b) m l);
      ordered = rise (rules_of b) m (in_places_lem b);
    }
