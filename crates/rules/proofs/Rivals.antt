-- What the code's tests of a type say of every type, row after row or computed once over the table; and that a book's
-- class is its edition's, in its way.
-- Assumes nothing.
use mathlib.Core.Path.{◌≡◌, refl, sym, ◌∙◌, ap}
use mathlib.Core.Bool.{Bool, true, false, cond}
use mathlib.Core.List.{List, [], ◌∷◌}
use Prim.Native.Nat.{ℕ, ◌<◌}
use lib.ListN.{get_or}
use lib.Dec.{T}
use Rattle.rules.specs.Tests.{◌=?◌, ◌and◌, ◌or◌, pick, every}
use Rattle.rules.proofs.Tests.{pick_not, eq_of, both}
use Rattle.rules.proofs.Returns.{holds, T_of}
use Rattle.rules.specs.declared.Class.{Class}
use Rattle.rules.specs.Table.{Row, rules_of, old_book, plain_row, rows01, rows_old, row_in, row_of, listed_in, listed, rowed, class_of, rival_of}
use Rattle.rules.specs.declared.Book.{Book}
use Rattle.rules.specs.declared.Book.TheVariants.{PresentStrict, PresentLenient, OldStrict, OldLenient}
use Rattle.rules.proofs.Table.{tabled, at}

-- two rules that make the same table agree on all of its entries
pub same_table : (f g : ℕ → ℕ) (n k : ℕ) → tabled f 0 n ≡ tabled g 0 n → k < n → f k ≡ g k
same_table f g n k e h = sym (at f n k h) ∙ ap (λ (l : List ℕ). get_or l k 0) e ∙ at g n k h

-- a type that is not a row's has the class that the other rows give it
pub row_past : (w : Class) (d r : Row) (rs : List Row) (t : ℕ) → (t ≡ r.kind → ⊥) → w ≡ (row_in d rs t).class →
    w ≡ (row_in d (r ∷ rs) t).class
unfolding row_in
row_past w d r rs t n e = e ∙ sym (ap (λ (q : Row). q.class) (pick_not _ _ _ (λ x. n (eq_of _ _ x))))

pub last_row : (w : Class) (d : Row) (t : ℕ) → w ≡ d.class → w ≡ (row_in d [] t).class
unfolding row_in
last_row w d t e = e

-- ---- the types with a row: those whose class is neither carried nor unlisted
listed_in_lem : (d : Row) (rs : List Row) (t : ℕ) → rowed d.class ≡ false →
    T (every (λ (r : Row). rowed r.class) rs) → rowed (row_in d rs t).class ≡ listed_in rs t
unfolding row_in listed_in every pick ◌or◌
listed_in_lem d [] t e h = e
listed_in_lem d (r ∷ rs) t e h = go (listed_in_lem d rs t e (both _ _ h).1) (t =? r.kind)
  where
    go : rowed (row_in d rs t).class ≡ listed_in rs t → (b : Bool) →
        rowed (pick b r (row_in d rs t)).class ≡ (b or listed_in rs t)
    go ih true = holds _ (both _ _ h).0
    go ih false = ih

pub listed_are : (b : Book) (t : ℕ) → rowed (class_of (rules_of b) t) ≡ listed (rules_of b) t
unfolding rowed class_of row_of listed rules_of every ◌and◌
listed_are PresentStrict t = listed_in_lem _ _ t refl tt
listed_are PresentLenient t = listed_in_lem _ _ t refl tt
listed_are OldStrict t = listed_in_lem _ _ t refl tt
listed_are OldLenient t = listed_in_lem _ _ t refl tt

-- a book's class is that of its edition's rows, and of its own class where there is none
pub class_is : (b : Book) (t : ℕ) →
    class_of (rules_of b) t ≡
    cond (old_book b)
    (row_in (plain_row t (rules_of b).others) rows_old t).class
    (row_in (plain_row t (rules_of b).others) rows01 t).class
unfolding old_book rules_of class_of row_of
class_is PresentStrict t = refl
class_is PresentLenient t = refl
class_is OldStrict t = refl
class_is OldLenient t = refl

-- the same of any class that is the book's own
pub in_old : (b : Book) (t : ℕ) (o r : Class) → o ≡ (rules_of b).others → old_book b ≡ true →
    r ≡ (row_in (plain_row t o) rows_old t).class → r ≡ class_of (rules_of b) t
unfolding old_book rules_of class_of row_of
in_old PresentStrict t o r e f q = absurd (T_of false f)
in_old PresentLenient t o r e f q = absurd (T_of false f)
in_old OldStrict t o r e f q = q ∙ ap (λ (c : Class). (row_in (plain_row t c) rows_old t).class) e
in_old OldLenient t o r e f q = q ∙ ap (λ (c : Class). (row_in (plain_row t c) rows_old t).class) e

pub in_present : (b : Book) (t : ℕ) (o r : Class) → o ≡ (rules_of b).others → old_book b ≡ false →
    r ≡ (row_in (plain_row t o) rows01 t).class → r ≡ class_of (rules_of b) t
unfolding old_book rules_of class_of row_of
in_present PresentStrict t o r e f q = q ∙ ap (λ (c : Class). (row_in (plain_row t c) rows01 t).class) e
in_present PresentLenient t o r e f q = q ∙ ap (λ (c : Class). (row_in (plain_row t c) rows01 t).class) e
in_present OldStrict t o r e f q = absurd (T_of false (sym f))
in_present OldLenient t o r e f q = absurd (T_of false (sym f))

-- ---- the pairs as the code has them, by the number of an edition
unfoldable pub rivals : ℕ → ℕ → ℕ
rivals e t =
    pick (t =? 0x02) 0x04
    (pick (t =? 0x04) 0x02 (pick (e =? 0 and t =? 0x07) 0x08 (pick (e =? 0 and t =? 0x08) 0x07 t)))

-- the way has no part in them
rival_in : (d e : Row) (rs : List Row) (t : ℕ) → d.rival ≡ e.rival → (row_in d rs t).rival ≡ (row_in e rs t).rival
unfolding row_in pick
rival_in d e [] t q = q
rival_in d e (r ∷ rs) t q = go (rival_in d e rs t q) (t =? r.kind)
  where
    go : (row_in d rs t).rival ≡ (row_in e rs t).rival → (b : Bool) →
        (pick b r (row_in d rs t)).rival ≡ (pick b r (row_in e rs t)).rival
    go ih true = refl
    go ih false = ih

rival_present : (t : ℕ) → t < 256 → rival_of (rules_of PresentLenient) t ≡ rivals 0 t
unfolding rivals tabled pick ◌=?◌ ◌and◌ rival_of row_of row_in rules_of
rival_present t h = same_table (rival_of (rules_of PresentLenient)) (rivals 0) 256 t refl h

rival_old : (t : ℕ) → t < 256 → rival_of (rules_of OldLenient) t ≡ rivals 1 t
unfolding rivals tabled pick ◌=?◌ ◌and◌ rival_of row_of row_in rules_of
rival_old t h = same_table (rival_of (rules_of OldLenient)) (rivals 1) 256 t refl h

pub rival_is : (b : Book) (t : ℕ) → t < 256 → rival_of (rules_of b) t ≡ rivals (rules_of b).edition t
unfolding rival_of row_of rules_of
rival_is PresentStrict t h = rival_in _ _ rows01 t refl ∙ rival_present t h
rival_is PresentLenient t h = rival_present t h
rival_is OldStrict t h = rival_in _ _ rows_old t refl ∙ rival_old t h
rival_is OldLenient t h = rival_old t h
