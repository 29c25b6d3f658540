-- What the functions over rows owe their callers: the line of a row, one compared with it, the lines of the rows so
-- far, and how many parameters are carried.
-- Assumes nothing.
use Rattle.std.proofs.Common.{Option, Some, None, zero, not, cond, filter, map}
use Prim.Native.Nat.{ℕ, suc, ◌+◌, ◌-◌, ◌≤◌, ◌<◌}
use mathlib.Core.Path.{◌≡◌, refl, sym, ◌∙◌, ap}
use mathlib.Core.List.{List, [], ◌∷◌, ◌++◌, append-nil}
use mathlib.Core.Bool.{Bool, true, false}
use native.Mathlib.Omega.{arith}
use lib.ListN.{length, get_or, take, drop, take-append-drop}
use lib.Dec.{T}
use Rattle.std.proofs.lemmas.List.{take_more, map-append}
use Rattle.rules.specs.Tests.{◌≤?◌, ◌and◌, pick}
use Rattle.rules.proofs.Returns.{and_t, and_f, yes_le, no_le, T_of}
use Rattle.rules.specs.Pairwise.{same_octets}
use Rattle.rules.specs.Table as table
use Rattle.rules.specs.Table.{rules_of, listed, class_of, contents_fit, ascii}
use Rattle.rules.specs.declared.Class.{Class}
use Rattle.rules.specs.declared.Book.TheVariants.{PresentLenient}
use Rattle.rules.specs.Counting.{carried_in}
use Rattle.message.specs.declared.Part.{Part}
use Rattle.message.specs.Parts.{part_at, parameter_at, counted_at, part_of}
use Rattle.message.proofs.Places.{counted_inside}
use Rattle.message.specs.Parameters.{found, parameters_from, parameters_in}
use Rattle.message.specs.declared.Found.{Found}
use Rattle.message.specs.Walk.{found_then, founds_from}
use Rattle.listing.specs.declared.Row.{Row}
use Rattle.listing.specs.Seen.{seen}
use Rattle.std.proofs.lemmas.Grind.{common_steps}
use Rattle.listing.specs.Listing.{line_text, written, written_one, written-append, line_of, says_line, row_at, row_count, lines_for, part_lines, rows_at, kind_line, carried_line, lines_at, number_line}

-- ---- where contents stand, they lie inside
pub part_inside : (o : List ℕ) (t : ℕ) (p : Part) → counted_at (rules_of PresentLenient) o t ≡ Some p →
    p.start + p.length ≤ length o
part_inside o t p e = omega (arith, counted_inside o (rules_of PresentLenient) t p.start p.length e)

-- ---- the line of a row
pub row_line : (o : List ℕ) (r : table.Row) (s n : ℕ) → counted_at (rules_of PresentLenient) o r.kind ≡ part_at s n →
    written (part_lines (rules_of PresentLenient) o r) ≡
    line_text (line_of (rules_of PresentLenient) r (take (s + n - s) (drop s o)))
unfolding part_lines lines_for part_of
row_line o r s n e =
    let z : n ≡ s + n - s = omega arith in
    ap (λ (x : Option Part). written (lines_for (rules_of PresentLenient) r (part_of o x))) e
    ∙ written_one (line_of (rules_of PresentLenient) r (take n (drop s o)))
    ∙ ap (λ (k : ℕ). line_text (line_of (rules_of PresentLenient) r (take k (drop s o)))) z

pub row_none : (o : List ℕ) (r : table.Row) → counted_at (rules_of PresentLenient) o r.kind ≡ None →
    written (part_lines (rules_of PresentLenient) o r) ≡ []
unfolding part_lines lines_for part_of written
row_none o r e = ap (λ (x : Option Part). written (lines_for (rules_of PresentLenient) r (part_of o x))) e

-- ---- a line compared with that of a row
module _ (i : ℕ) (v l : List ℕ) where
  abbrev said : Bool
  said = suc i ≤? row_count and says_line (rules_of PresentLenient) (row_at i) v l

  pub no_row_says : row_count ≤ i → false ≡ said
  no_row_says h = and_f _ _ _ (no_le (suc i) row_count (omega arith)) refl

  -- k is the row's type
  module _ (h : i < row_count) (k : ℕ) (t : k ≡ (row_at i).kind) (c : Class) (e : c ≡ class_of (rules_of PresentLenient) k)
      (b : Bool) (q : b ≡ contents_fit c v) where
    row_fits : b ≡ contents_fit (class_of (rules_of PresentLenient) (row_at i).kind) v
    row_fits = q ∙ ap (λ (k : Class). contents_fit k v) (e ∙ ap (class_of (rules_of PresentLenient)) t)

    in_rows : (r : Bool) → r ≡ says_line (rules_of PresentLenient) (row_at i) v l → r ≡ said
    in_rows r z = and_t r _ _ (yes_le (suc i) row_count (omega arith)) z

    pub row_says_not : b ≡ false → false ≡ said
    unfolding says_line
    row_says_not z = in_rows false (and_f _ _ _ (sym row_fits ∙ z) refl)

    module _ (z : b ≡ true) where
      pub row_takes : T (contents_fit (class_of (rules_of PresentLenient) (row_at i).kind) v)
      row_takes = T_of _ (sym row_fits ∙ z)

      pub row_says_lem : (r : Bool) → r ≡ same_octets (line_text (line_of (rules_of PresentLenient) (row_at i) v)) l →
          r ≡ said
      unfolding says_line
      row_says_lem r d = in_rows r (and_t r _ _ (sym row_fits ∙ z) d)

-- ---- line after line
abbrev rows : List table.Row
rows = (rules_of PresentLenient).rows

-- the text of some rows
abbrev pub rows_text : List ℕ → List table.Row → List ℕ
rows_text o rs = written (rows_at (rules_of PresentLenient) o rs)

pub rows_text-append : (o : List ℕ) (a b : List table.Row) → rows_text o (a ++ b) ≡ rows_text o a ++ rows_text o b
unfolding rows_at written
rows_text-append o [] b = refl
rows_text-append o (r ∷ a) b =
    grind (
      arith,
      common_steps,
      written-append (part_lines (rules_of PresentLenient) o r) (rows_at (rules_of PresentLenient) o (a ++ b)),
      written-append (part_lines (rules_of PresentLenient) o r) (rows_at (rules_of PresentLenient) o a),
      rows_text-append o a b,
    )

row_alone : (o : List ℕ) (r : table.Row) →
    rows_text o (r ∷ []) ≡ written (part_lines (rules_of PresentLenient) o r)
unfolding rows_at
row_alone o r = ap written (append-nil (part_lines (rules_of PresentLenient) o r))

-- no rows have no text
pub no_rows : (o : List ℕ) → rows_text o [] ≡ []
unfolding rows_at written
no_rows o = refl

-- one row more
pub row_next : (o : List ℕ) (rs : List Row) (i : ℕ) (d : Row) → i < length rs →
    rows_text o (map seen (take (i + 1) rs)) ≡
    rows_text o (map seen (take i rs)) ++ written (part_lines (rules_of PresentLenient) o (seen (get_or rs i d)))
row_next o rs i d h =
    ap (λ xs. rows_text o (map seen xs)) (take_more rs i d h)
    ∙ ap (rows_text o) (map-append seen (take i rs) (get_or rs i d ∷ []))
    ∙ rows_text-append o (map seen (take i rs)) (seen (get_or rs i d) ∷ [])
    ∙ ap (λ (v : List ℕ). rows_text o (map seen (take i rs)) ++ v) (row_alone o (seen (get_or rs i d)))

-- no more than all of them
pub rows_long : (o : List ℕ) (rs : List Row) (i : ℕ) (d : Row) → i < length rs →
    length (rows_text o (map seen (take i rs)))
    + length (written (part_lines (rules_of PresentLenient) o (seen (get_or rs i d)))) ≤
    length (rows_text o (map seen rs))
rows_long o rs i d h =
    grind (
      arith,
      common_steps,
      row_next o rs i d h,
      take-append-drop (i + 1) rs,
      map-append seen (take (i + 1) rs) (drop (i + 1) rs),
      rows_text-append o (map seen (take (i + 1) rs)) (map seen (drop (i + 1) rs)),
    )

-- ---- how many are carried
abbrev pub carries : Found → Bool
carries f = not (listed (rules_of PresentLenient) f.kind)

one_more : (b : Bool) (f : Found) (fs : List Found) (n : ℕ) → length fs ≡ n →
    length (cond (not b) (f ∷ fs) fs) ≡ pick b n (suc n)
unfolding pick
one_more true f fs n e = e
one_more false f fs n e = omega (arith, e)

pub carried_founds : (turns : ℕ) (o : List ℕ) (at : ℕ) →
    length (filter carries (founds_from turns o at)) ≡ carried_in (rules_of PresentLenient) (parameters_from turns o at)
unfolding carried_in founds_from found_then parameters_from found
carried_founds zero o at = refl
carried_founds (suc turns) o at = go (carried_founds turns o) (parameter_at o at)
  where
    go : ((p : ℕ) → length (filter carries (founds_from turns o p)) ≡ carried_in (rules_of PresentLenient)
        (parameters_from turns o p)) → (x : Option Found) →
        length (filter carries (found_then x (founds_from turns o))) ≡ carried_in (rules_of PresentLenient)
        (found o x (parameters_from turns o))
    go ih None = refl
    go ih (Some f) = one_more (listed (rules_of PresentLenient) f.kind) f _ _ (ih (f.start + f.length))

-- ---- the whole text
pub carried_line_lem : (n : ℕ) → number_line (ascii "carried=") n ≡ line_text (carried_line n)
unfolding number_line carried_line line_text ascii
carried_line_lem n = refl

pub message_text : (o : List ℕ) →
    written (lines_at (rules_of PresentLenient) o) ≡
    line_text (kind_line (get_or o 0 0)) ++ rows_text o rows
    ++ number_line (ascii "carried=") (carried_in (rules_of PresentLenient) (parameters_in o))
unfolding lines_at written
message_text o =
    let n = carried_in (rules_of PresentLenient) (parameters_in o) in
    grind (
      arith,
      common_steps,
      written-append (rows_at (rules_of PresentLenient) o rows) (carried_line n ∷ []),
      written_one (carried_line n),
      carried_line_lem n,
    )
