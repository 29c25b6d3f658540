-- A listing cut at its line ends gives back its lines: no key and no value of a legal message has an octet below 20H.
-- Assumes nothing.
use Prim.Native.Nat.{ℕ}
use mathlib.Core.Path.{◌≡◌, refl, sym, ◌∙◌, ap}
use mathlib.Core.List.{List, [], ◌∷◌, ◌++◌, append_assoc, append-nil}
use mathlib.Core.Option.{Option, none, some}
use native.Mathlib.Omega.{arith}
use lib.Dec.{T}
use Rattle.rules.specs.Tests.{◌≤?◌, ◌=?◌, ◌and◌, pick, every}
use Rattle.rules.proofs.Tests.{pick_yes, pick_not, pick_case, every_head, every_tail, both, le_of, eq_of, of_eq}
use Rattle.rules.specs.Table.{Row, rules_of, class_of, style_of, ascii}
use Rattle.rules.specs.declared.Book.TheVariants.{PresentLenient}
use Rattle.rules.specs.Message.{Message, LegalMessage}
use Rattle.rules.specs.Counting.{counted, carried_in}
use Rattle.listing.specs.Numerals.{decimal}
use Rattle.listing.proofs.Characters.{plain, plain-append, plain-decimal}
use Rattle.listing.proofs.Values.{value}
use Rattle.listing.proofs.Longest.{counted_fits}
use Rattle.listing.specs.Listing.{printed, Line, line_text, written, line_of, lines_for, row_lines, kind_line, carried_line, message_lines}

-- ---- cutting

-- the octets up to each 0AH, the first behind those of a
unfoldable pub cut_from : List ℕ → List ℕ → List (List ℕ)
cut_from a [] = []
cut_from a (x ∷ t) = pick (x =? 0x0A) (a ∷ cut_from [] t) (cut_from (a ++ x ∷ []) t)

-- the lines of a text, each without its 0AH
unfoldable pub cut : List ℕ → List (List ℕ)
cut t = cut_from [] t

-- key=value
unfoldable pub bare : Line → List ℕ
bare l = l.key ++ ascii "=" ++ l.value

-- each line so
unfoldable pub bares : List Line → List (List ℕ)
bares [] = []
bares (l ∷ ls) = bare l ∷ bares ls

cut_line : (a l t : List ℕ) → T (plain l) → cut_from a (l ++ 0x0A ∷ t) ≡ (a ++ l) ∷ cut_from [] t
unfolding cut_from plain
cut_line a [] t p =
    pick_yes (0x0A =? 0x0A) (a ∷ cut_from [] t) _ (of_eq 0x0A 0x0A refl)
    ∙ ap (λ (v : List ℕ). v ∷ cut_from [] t) (sym (append-nil a))
cut_line a (x ∷ l) t p =
    let h = le_of 0x20 x (every_head (λ (x : ℕ). 0x20 ≤? x) x l p) in
    pick_not (x =? 0x0A) (a ∷ cut_from [] (l ++ 0x0A ∷ t)) _ (λ e. let z = eq_of x 0x0A e in omega arith)
    ∙ cut_line (a ++ x ∷ []) l t (every_tail (λ (x : ℕ). 0x20 ≤? x) x l p)
    ∙ ap (λ (v : List ℕ). v ∷ cut_from [] t) (append_assoc a (x ∷ []) l)

-- every line is plain
abbrev pub Plain : List Line → Type 0
Plain [] = Unit {0}
Plain (l ∷ ls) = T (plain (bare l)) × Plain ls

plain_lines : (a b : List Line) → Plain a → Plain b → Plain (a ++ b)
plain_lines [] b p q = q
plain_lines (l ∷ a) b p q = (p.0, plain_lines a b p.1 q)

cut-written : (ls : List Line) → Plain ls → cut (written ls) ≡ bares ls
unfolding cut cut_from written bares line_text bare ascii
cut-written [] p = refl
cut-written (l ∷ ls) p =
    ap (cut_from []) (append_assoc (bare l) (ascii "\n") (written ls))
    ∙ cut_line [] (bare l) (written ls) p.0
    ∙ ap (λ (w : List (List ℕ)). bare l ∷ w) (cut-written ls p.1)

-- ---- computed: words of ours, and the keys
record Words : Type 0 where
  carried : T (plain (ascii "carried" ++ ascii "="))
  keys : T (every (λ (r : Row). plain (r.key ++ ascii "=")) (rules_of PresentLenient).rows)

words : Words
unfolding plain every ascii rules_of ◌≤?◌ ◌and◌
words = record { carried = tt; keys = tt }

-- ---- lines of ours
pub plain_kind : (x : ℕ) → T (plain (bare (kind_line x)))
unfolding bare kind_line plain every ascii ◌≤?◌ ◌and◌
plain_kind x =
    pick_case (λ (v : List ℕ). T (plain (ascii "kind" ++ ascii "=" ++ v))) (x =? 0x80) (ascii "call")
    (ascii "notice") (λ _. tt) (λ _. tt)

pub plain_carried : (n : ℕ) → T (plain (bare (carried_line n)))
unfolding bare carried_line
plain_carried n = plain-append (ascii "carried" ++ ascii "=") (decimal n) words.carried (plain-decimal n)

-- ---- the lines of a legal message
module _ (m : Message) (legal : LegalMessage (rules_of PresentLenient) m) where
  row_plain : (r : Row) → T (plain (r.key ++ ascii "=")) →
      Plain (lines_for (rules_of PresentLenient) r (counted (rules_of PresentLenient) m r.kind))
  unfolding lines_for bare line_of
  row_plain r k = go (counted (rules_of PresentLenient) m r.kind) refl
    where
      go : (x : Option (List ℕ)) → x ≡ counted (rules_of PresentLenient) m r.kind →
          Plain (lines_for (rules_of PresentLenient) r x)
      go none e = tt
      go (some v) e = (
        plain-append (r.key ++ ascii "=") (printed (style_of (class_of (rules_of PresentLenient) r.kind)) v) k
            ((value (class_of (rules_of PresentLenient) r.kind)).plainly v
            (counted_fits m legal r.kind v (sym e))),
        tt,
      )

  rows_plain : (rs : List Row) → T (every (λ (r : Row). plain (r.key ++ ascii "=")) rs) →
      Plain (row_lines (rules_of PresentLenient) m rs)
  unfolding row_lines every
  rows_plain [] t = tt
  rows_plain (r ∷ rs) t =
      let d = both _ _ t in
      plain_lines (lines_for (rules_of PresentLenient) r (counted (rules_of PresentLenient) m r.kind))
      (row_lines (rules_of PresentLenient) m rs) (row_plain r d.0) (rows_plain rs d.1)

  -- cut at its line ends, the listing of a message gives its lines, in their order
  pub lines_back :
      cut (written (message_lines (rules_of PresentLenient) m)) ≡ bares (message_lines (rules_of PresentLenient) m)
  unfolding message_lines
  lines_back =
      cut-written (message_lines (rules_of PresentLenient) m) (
        plain_kind m.kind,
        plain_lines (row_lines (rules_of PresentLenient) m (rules_of PresentLenient).rows)
            (carried_line (carried_in (rules_of PresentLenient) m.parameters) ∷ [])
            (rows_plain (rules_of PresentLenient).rows words.keys)
            (plain_carried (carried_in (rules_of PresentLenient) m.parameters), tt),
      )
