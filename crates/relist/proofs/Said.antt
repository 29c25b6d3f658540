-- What a line is to the rows of the table: the line of a row with contents that fit is said by that row with these
-- contents, and by no row with another key. Rows have keys of characters without `=`, each its own.
-- Assumes nothing.
use Rattle.std.proofs.Common.{◌≡◌, ℕ, suc, ◌+◌, ◌-◌, ◌≤◌, Bool, true, false, T, List, [], ◌∷◌, ◌++◌, length, take, drop, sym, refl, ap, ◌∙◌, subst, ap₂, append_assoc, arith, length-append, take_at, drop_at}
use Rattle.rules.specs.First.{index_of}
use Rattle.rules.specs.Tests.{◌or◌, ◌≤?◌, ◌=?◌, ◌and◌, pick, every}
use Rattle.rules.proofs.Tests.{both, join, eq_of, le_of, pick_yes, pick_case}
use Rattle.rules.specs.Pairwise.{pairwise, same_octets}
use Rattle.rules.proofs.Pairwise.{octets_are, octets_self}
use Rattle.rules.specs.Table.{Rules, Row, Style, clock, verbatim, switch, reference, decimal, hex, numbered, moment, duration, charge, terminal, display, rules_of, row_in, row_of, listed_in, listed, class_of, rival_of, style_of, contents_fit, ascii}
use Rattle.rules.specs.declared.Book.TheVariants.{PresentLenient}
use Rattle.listing.specs.Listing.{Line, line_text, line_of, printed, says_line, carried_line}
use Rattle.listing.proofs.Characters.{plain, plain-append}
use Rattle.listing.proofs.Values.{value}
use Rattle.listing.proofs.Longest.{line_long}
use Rattle.listing.proofs.Plain.{bare}
use mathlib.Core.Option.{some}
use Rattle.relist.specs.Back.{back, unprinted}
use Rattle.relist.specs.Relist.{line_in, behind, value_in, row_contents, row_says, among, comes}
use Rattle.relist.proofs.Text.{same_cut, line_first, line_behind, plain_unended}
use Rattle.relist.proofs.Values.{back_of_printed}

-- ---- the table
-- values in a style stand in a listing
unfoldable pub shown : Style → Bool
shown clock = true
shown verbatim = true
shown switch = true
shown reference = true
shown decimal = true
shown hex = true
shown numbered = false
shown moment = true
shown duration = true
shown charge = true
shown terminal = true
shown display = true

-- a row of an octet's type, which is listed and shown, with a key of characters and no `=`
unfoldable pub row_test : Rules → Row → Bool
row_test R r =
    r.kind ≤? 255
    and (listed R r.kind
    and (shown (style_of (class_of R r.kind))
    and (plain (r.key ++ ascii "=") and (index_of 0x3D r.key =? length r.key))))

-- k is neither a key of these rows nor `carried`
unfoldable pub other : List ℕ → List Row → Bool
other k [] = pick (same_octets k (ascii "carried")) false true
other k (r ∷ rs) = pick (same_octets k r.key) false (other k rs)

-- types rise from n on, and each key is its own
unfoldable pub tabled : Rules → ℕ → List Row → Bool
tabled R n [] = true
tabled R n (r ∷ rs) = n ≤? r.kind and (row_test R r and (other r.key rs and tabled R (suc r.kind) rs))

pub tested : T (tabled (rules_of PresentLenient) 0 (rules_of PresentLenient).rows)
unfolding tabled row_test other shown plain every listed listed_in class_of row_of row_in style_of rules_of ascii index_of pairwise pick ◌≤?◌ ◌=?◌ ◌and◌ ◌or◌
tested = tt

-- what a test of a row tells
pub record RowIs (R : Rules) (r : Row) : Type 0 where
  pub octet : r.kind ≤ 255
  pub listed : T (listed R r.kind)
  pub printed : style_of (class_of R r.kind) ≡ numbered → ⊥
  pub key : T (plain (r.key ++ ascii "="))
  pub cut : index_of 0x3D r.key ≡ length r.key

pub row_is : (R : Rules) (r : Row) → T (row_test R r) → RowIs R r
unfolding row_test shown
row_is R r t =
    let a = both _ _ t in
    let b = both _ _ a.1 in
    let c = both _ _ b.1 in
    let d = both _ _ c.1 in
    record {
      octet = le_of _ _ a.0;
      listed = b.0;
      printed = λ e. subst (λ (s : Style). T (shown s)) e c.0;
      key = d.0;
      cut = eq_of _ _ d.1;
    }

-- ---- a line in its parts
line_key : (l : Line) → line_text l ≡ l.key ++ 0x3D ∷ (l.value ++ 0x0A ∷ [])
unfolding line_text ascii
line_key l =
    append_assoc (l.key ++ 0x3D ∷ []) l.value (0x0A ∷ [])
    ∙ append_assoc l.key (0x3D ∷ []) (l.value ++ 0x0A ∷ [])

behind_key : (l : Line) → drop (length l.key + 1) (line_text l) ≡ l.value ++ 0x0A ∷ []
unfolding line_text ascii
behind_key l =
    ap (drop (length l.key + 1)) (append_assoc (l.key ++ 0x3D ∷ []) l.value (0x0A ∷ []))
    ∙ drop_at (l.key ++ 0x3D ∷ []) (l.value ++ 0x0A ∷ []) (length l.key + 1) (length-append l.key (0x3D ∷ []))

-- two lines that read alike have the same key
pub same_key : (a b : Line) → index_of 0x3D a.key ≡ length a.key → index_of 0x3D b.key ≡ length b.key →
    line_text a ≡ line_text b → a.key ≡ b.key
same_key a b p q e =
    (same_cut 0x3D a.key (a.value ++ 0x0A ∷ []) b.key (b.value ++ 0x0A ∷ []) p q
    (sym (line_key a) ∙ e ∙ line_key b)).0

-- the first line of a text that begins with one
module _ (l : Line) (p : T (plain (bare l))) (t : List ℕ) where
  behind_line : line_text l ++ t ≡ bare l ++ 0x0A ∷ t
  unfolding line_text bare ascii
  behind_line = append_assoc (bare l) (0x0A ∷ []) t

  pub first_line : line_in (line_text l ++ t) ≡ line_text l
  unfolding line_text bare ascii
  first_line = ap line_in behind_line ∙ line_first (bare l) t (plain_unended (bare l) p)

  pub first_behind : behind (line_text l ++ t) ≡ t
  first_behind = ap behind behind_line ∙ line_behind (bare l) t (plain_unended (bare l) p)

-- ---- a line that a row says
module _ (R : Rules) (r : Row) (l : List ℕ) where
  -- its contents fit, and it reads as they print
  pub says_fit : T (row_says R r l) → T (contents_fit (class_of R r.kind) (row_contents R r l))
  unfolding row_says says_line
  says_fit t = (both _ _ t).0

  pub says_text : T (row_says R r l) → line_text (line_of R r (row_contents R r l)) ≡ l
  unfolding row_says says_line
  says_text t = octets_are _ _ (both _ _ t).1

  -- a line that comes behind some is said, and none of their types shuts it out
  pub comes_both : (ks : List ℕ) → T (comes R r ks l) → (T (among (rival_of R r.kind) ks) → ⊥) × T (row_says R r l)
  unfolding comes
  comes_both ks =
      pick_case (λ (z : Bool). T z → (T (among (rival_of R r.kind) ks) → ⊥) × T (row_says R r l))
      (among (rival_of R r.kind) ks) false (row_says R r l) (λ _ t. absurd t) (λ n t. (n, t))

-- ---- the line of a row
module _ (R : Rules) (r : Row) (q : RowIs R r) where
  -- it has characters only
  pub row_plain : (v : List ℕ) → T (contents_fit (class_of R r.kind) v) → T (plain (bare (line_of R r v)))
  unfolding bare line_of
  row_plain v f =
      plain-append (r.key ++ ascii "=") (printed (style_of (class_of R r.kind)) v) q.key
      ((value (class_of R r.kind)).plainly v f)

  value_in_lem : (v : List ℕ) → value_in r (line_text (line_of R r v)) ≡ printed (style_of (class_of R r.kind)) v
  unfolding value_in line_of
  value_in_lem v =
      let l = line_of R r v in
      let e : length (line_text l) - (length r.key + 2) ≡ length l.value = omega (arith, line_long l) in
      ap₂ (λ (n : ℕ) (x : List ℕ). take n x) e (behind_key l) ∙ take_at l.value (0x0A ∷ []) (length l.value) refl

  module _ (v : List ℕ) (f : T (contents_fit (class_of R r.kind) v)) where
    pub own_contents : row_contents R r (line_text (line_of R r v)) ≡ v
    unfolding row_contents
    own_contents =
        ap (back (style_of (class_of R r.kind))) (value_in_lem v)
        ∙ back_of_printed (class_of R r.kind) v f q.printed

    pub own_says : T (row_says R r (line_text (line_of R r v)))
    unfolding row_says says_line
    own_says =
        rw own_contents (join (contents_fit (class_of R r.kind) v) _ f (octets_self (line_text (line_of R r v))))

  -- what stands behind its key is its value, read back
  pub says_value : (l : List ℕ) → T (row_says R r l) →
      unprinted (style_of (class_of R r.kind)) (value_in r l) ≡ some (row_contents R r l)
  unfolding unprinted row_contents
  says_value l t =
      let e : printed (style_of (class_of R r.kind)) (row_contents R r l) ≡ value_in r l =
      sym (value_in_lem (row_contents R r l)) ∙ ap (value_in r) (says_text R r l t) in
      pick_yes _ _ _
      (subst (λ (v : List ℕ). T (same_octets (printed (style_of (class_of R r.kind)) (row_contents R r l)) v)) e
      (octets_self _))

  -- a line with another key is not its own
  pub says_not : (l : Line) → index_of 0x3D l.key ≡ length l.key → (r.key ≡ l.key → ⊥) →
      T (row_says R r (line_text l)) → ⊥
  unfolding line_of
  says_not l c n t =
      n (same_key (line_of R r (row_contents R r (line_text l))) l q.cut c (says_text R r (line_text l) t))

-- the last line
pub carried_cut : index_of 0x3D (carried_line 0).key ≡ length (carried_line 0).key
unfolding carried_line index_of pick ◌=?◌ ascii
carried_cut = refl
