-- No listing is longer than its buffer of 553 octets. The line of a type that counts is its key, `=`, the value and a
-- line end; the value is longer than the contents by the surplus of its style at most (Values), and `=` and the line
-- end are as many octets as type and length took in the message. No parameter counts for two rows, and all parameters
-- have 255 octets: so the lines of the rows have 255 at most, and their keys (228) and surpluses (47). `kind=notice`
-- has 12 and `carried=` with two digits 11. One line of a row has a key of 254 at most, contents of 253 and a surplus
-- of 11.
-- Assumes nothing.
use Prim.Native.Nat.{ℕ, suc, ◌+◌, ◌-◌, ◌≤◌, ◌<◌}
use mathlib.Core.Path.{◌≡◌, refl, sym, ◌∙◌, ap}
use mathlib.Core.Bool.{Bool, true}
use mathlib.Core.Logic.{◌⊎◌, inl, inr}
use mathlib.Core.List.{List, [], ◌∷◌, ◌++◌}
use mathlib.Core.Option.{Option, none, some}
use native.Mathlib.Omega.{arith}
use Rattle.std.proofs.lemmas.Grind.{common_steps}
use Rattle.rules.proofs.Telling.{telling}
use lib.ListN.{length, length-append, replicate}
use lib.Dec.{T}
use Rattle.rules.specs.Tests.{◌≤?◌, ◌=?◌, ◌and◌, pick}
use Rattle.rules.proofs.Tests.{pick_yes, both, le_of, eq_of, decide}
use Rattle.rules.specs.Table.{Rules, Row, rules_of, row_of, row_in, class_of, rival_of, style_of, ascii, contents_fit}
use Rattle.rules.specs.declared.Book.TheVariants.{PresentLenient}
use Rattle.rules.proofs.ContentLaw.{sound_rules}
use Rattle.rules.specs.Message.{Parameter, Message, LegalMessage, body}
use Rattle.rules.specs.Counting.{first_of, counted, carried_in}
use Rattle.rules.proofs.Counting.{counted_iff, legal_counts}
use Rattle.rules.specs.declared.Fault.{Fault}
use Rattle.rules.proofs.Sizes.{few}
use Rattle.contents.proofs.Fitting.{fits_short}
use Rattle.listing.specs.declared.ListingText.{ListingText}
use Rattle.listing.proofs.Numerals.{one_digit, two_digits, three_digits}
use Rattle.listing.proofs.Values.{surplus, surplus_most, value}
use Rattle.listing.proofs.Keys.{key_short}
use Rattle.listing.specs.Listing.{Line, line_text, written, line_of, lines_for, row_lines, kind_line, carried_line, message_lines, refusal_lines, buffer_of, row_at, row_count, written_one, written-append, buffer_size}

-- ---- lines
pub line_long : (l : Line) → length (line_text l) ≡ length l.key + length l.value + 2
unfolding line_text ascii
line_long l = grind (arith, common_steps)

append_long : (a b : List Line) → length (written (a ++ b)) ≡ length (written a) + length (written b)
append_long a b = ap length (written-append a b) ∙ length-append (written a) (written b)

one_line : (l : Line) → length (written (l ∷ [])) ≡ length l.key + length l.value + 2
one_line l = ap length (written_one l) ∙ line_long l

kind_wide : (x : ℕ) → length (kind_line x).value ≤ 6
unfolding kind_line ascii
kind_wide x = grind (arith, telling)

-- ---- the octets of a message that count
-- type, length and contents of a parameter
unfoldable takes : Option (List ℕ) → ℕ
takes none = 0
takes (some v) = length v + 2

-- types in their order, from n on
unfoldable rising : ℕ → List Row → Bool
rising n [] = true
rising n (r ∷ rs) = n ≤? r.kind and rising (suc r.kind) rs

module _ (R : Rules) where
  -- of each row the first parameter, if no rival stands before it
  unfoldable firsts : List Parameter → List Row → ℕ
  firsts ps [] = 0
  firsts ps (r ∷ rs) = takes (first_of r.kind (rival_of R r.kind) ps) + firsts ps rs

  nothing_first : (rs : List Row) → firsts [] rs ≡ 0
  unfolding firsts first_of takes
  nothing_first [] = refl
  nothing_first (r ∷ rs) = omega (arith, nothing_first rs)

  module _ (p : Parameter) (ps : List Parameter) where
    -- a parameter of a row's type is the first
    first_is : (t u : ℕ) → T (p.kind =? t) → first_of t u (p ∷ ps) ≡ some p.contents
    unfolding first_of
    first_is t u e = pick_yes _ _ _ e

    -- one of another type adds nothing to a row
    other : (t u : ℕ) → (T (p.kind =? t) → ⊥) → takes (first_of t u (p ∷ ps)) ≤ takes (first_of t u ps)
    unfolding first_of takes
    other t u n = grind (arith, telling)

    -- nor to rows that are all later
    others : (n : ℕ) (rs : List Row) → T (rising n rs) → p.kind < n → firsts (p ∷ ps) rs ≤ firsts ps rs
    unfolding firsts rising
    others n [] t h = omega arith
    others n (r ∷ rs) t h =
        let d = both _ _ t in
        let l = le_of _ _ d.0 in
        omega (
          arith,
          other r.kind (rival_of R r.kind) (λ e. omega (arith, eq_of _ _ e)),
          others (suc r.kind) rs d.1 (omega arith),
        )

    -- so it adds its own octets at most
    one_more : (n : ℕ) (rs : List Row) → T (rising n rs) →
        firsts (p ∷ ps) rs ≤ length p.contents + 2 + firsts ps rs
    unfolding firsts rising takes
    one_more n [] t = omega arith
    one_more n (r ∷ rs) t =
        go (both _ _ t).1 (decide (p.kind =? r.kind)) (one_more (suc r.kind) rs (both _ _ t).1)
      where
        its : T (p.kind =? r.kind) →
            takes (first_of r.kind (rival_of R r.kind) (p ∷ ps)) ≡ length p.contents + 2
        its e = ap takes (first_is r.kind (rival_of R r.kind) e)

        go : T (rising (suc r.kind) rs) → T (p.kind =? r.kind) ⊎ (T (p.kind =? r.kind) → ⊥) →
            firsts (p ∷ ps) rs ≤ length p.contents + 2 + firsts ps rs →
            takes (first_of r.kind (rival_of R r.kind) (p ∷ ps)) + firsts (p ∷ ps) rs ≤ length p.contents + 2
            + (takes (first_of r.kind (rival_of R r.kind) ps) + firsts ps rs)
        go l (inl e) i = omega (arith, its e, others (suc r.kind) rs l (omega (arith, eq_of _ _ e)))
        go l (inr n) i = omega (arith, other r.kind (rival_of R r.kind) n)

  firsts_inside : (rs : List Row) → T (rising 0 rs) → (ps : List Parameter) → firsts ps rs ≤ length (body ps)
  unfolding body
  firsts_inside rs t [] = omega (arith, nothing_first rs)
  firsts_inside rs t (p ∷ ps) =
      omega (arith, one_more p ps 0 rs t, firsts_inside rs t ps, length-append p.contents (body ps))

-- ---- the table's sums
module _ (R : Rules) where
  -- the octets of all keys
  unfoldable key_octets : List Row → ℕ
  key_octets [] = 0
  key_octets (r ∷ rs) = length r.key + key_octets rs

  -- the surpluses of all rows
  unfoldable surpluses : List Row → ℕ
  surpluses [] = 0
  surpluses (r ∷ rs) = surplus (style_of (class_of R r.kind)) + surpluses rs

abbrev R : Rules
R = rules_of PresentLenient

record Sums : Type 0 where
  keys : key_octets R R.rows ≡ 228
  values : surpluses R R.rows ≡ 47
  order : T (rising 0 R.rows)

sums : Sums
unfolding key_octets surpluses surplus rising rules_of style_of row_of row_in class_of ascii pick ◌=?◌ ◌≤?◌ ◌and◌
sums = record { keys = refl; values = refl; order = tt }

-- ---- the lines of a legal message
module _ (m : Message) (legal : LegalMessage R m) where
  -- contents that count are legal
  pub counted_fits : (t : ℕ) (v : List ℕ) → counted R m t ≡ some v → T (contents_fit (class_of R t) v)
  counted_fits t v e = legal_counts R m legal t v ((counted_iff R m t v).0 e)

  counted_first : (t : ℕ) → takes (counted R m t) ≤ takes (first_of t (rival_of R t) m.parameters)
  unfolding counted takes
  counted_first t = grind (arith, telling)

  row_long : (r : Row) → length (written (lines_for R r (counted R m r.kind))) ≤ length r.key + surplus
      (style_of (class_of R r.kind)) + takes (counted R m r.kind)
  unfolding lines_for written line_of takes
  row_long r = go (counted R m r.kind) refl
    where
      go : (x : Option (List ℕ)) → x ≡ counted R m r.kind → length (written (lines_for R r x)) ≤ length
          r.key + surplus (style_of (class_of R r.kind)) + takes x
      go none e = omega arith
      go (some v) e =
          omega (
            arith,
            one_line (line_of R r v),
            (value (class_of R r.kind)).wide v (counted_fits r.kind v (sym e)),
          )

  rows_long : (rs : List Row) →
      length (written (row_lines R m rs)) ≤ key_octets R rs + surpluses R rs + firsts R m.parameters rs
  unfolding row_lines written key_octets surpluses firsts
  rows_long [] = omega arith
  rows_long (r ∷ rs) =
      omega (
        arith,
        append_long (lines_for R r (counted R m r.kind)) (row_lines R m rs),
        row_long r,
        counted_first r.kind,
        rows_long rs,
      )

  carried_few : (ps : List Parameter) → carried_in R ps ≤ length ps
  unfolding carried_in
  carried_few [] = omega arith
  carried_few (p ∷ ps) = grind (arith, telling, carried_few ps)

  pub longest : length (written (message_lines R m)) ≤ buffer_size
  unfolding message_lines written kind_line carried_line ascii
  longest =
      let n = carried_in R m.parameters in
      omega (
        arith,
        sums.keys,
        sums.values,
        rows_long R.rows,
        firsts_inside R R.rows sums.order m.parameters,
        legal.short,
        length-append (line_text (kind_line m.kind)) (written (row_lines R m R.rows ++ carried_line n ∷ [])),
        line_long (kind_line m.kind),
        kind_wide m.kind,
        append_long (row_lines R m R.rows) (carried_line n ∷ []),
        one_line (carried_line n),
        two_digits n (omega (arith, carried_few m.parameters, few R (sound_rules PresentLenient) m legal)),
      )

-- nor is that of a refusal
pub refusal_short : (f : Fault) → f.number < 1000 → f.place < 1000 → f.parameter < 1000 →
    length (written (refusal_lines f)) ≤ buffer_size
unfolding refusal_lines written ascii
refusal_short f a b c =
    grind (arith, common_steps, line_long, three_digits f.number a, three_digits f.place b, three_digits f.parameter c)

-- nor one line of a row with contents that fit
pub row_short : (i : ℕ) → i < row_count → (v : List ℕ) → T (contents_fit (class_of R (row_at i).kind) v) →
    length (line_text (line_of R (row_at i) v)) ≤ buffer_size
unfolding line_of
row_short i h v f =
    let c = class_of R (row_at i).kind in
    omega (
      arith,
      line_long (line_of R (row_at i) v),
      key_short i h,
      (value c).wide v f,
      surplus_most (style_of c),
      fits_short c v f,
    )

-- the line of a kind, and that of no carried parameter
pub kind_short : (x : ℕ) → length (line_text (kind_line x)) ≤ 12
unfolding kind_line ascii
kind_short x = omega (arith, line_long (kind_line x), kind_wide x)

pub end_short : length (line_text (carried_line 0)) ≤ 12
unfolding carried_line ascii
end_short = omega (arith, line_long (carried_line 0), one_digit 0 (omega arith))

-- so a listing lies within its buffer
pub text_inside : (t : ListingText) (v : List ℕ) → t ≡ buffer_of v → t.length ≤ length t.octets
unfolding buffer_of
text_inside t v e =
    omega (
      arith,
      ap (λ (x : ListingText). x.length) e,
      ap (λ (x : ListingText). length x.octets) e,
      length-append v
          (replicate {A = ℕ} (buffer_size - length v) 0),
    )
