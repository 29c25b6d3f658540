-- `firmware::counted_in` meets its contract: what counts lies inside the octets, so its start fits a word.
-- Assumes nothing.
use Rattle.std.proofs.Common.{Option}
use Prim.Native.Nat.{ℕ}
use mathlib.Core.Path.{◌≡◌, sym, ◌∙◌, ap}
use mathlib.Core.List.{List}
use native.Mathlib.Omega.{arith}
use Rattle.rules.specs.Table.{rules_of}
use Rattle.rules.specs.declared.Book.{Book}
use Rattle.message.specs.declared.Part.{Part}
use Rattle.message.specs.Parts.{counted_at}
use Rattle.message.proofs.Places.{counted_inside}
use Rattle.firmware.specs.Exports.{part_word}
use Rattle.firmware.proofs.counted_in.Goals as goal

-- the part is that of the numbers' book
by_book : (e : ℕ) (b c : Book) (o : List ℕ) (t : ℕ) (p x : Option Part) → b ≡ c → x ≡ counted_at (rules_of b) o t → x ≡ p →
    part_word e p ≡ part_word e (counted_at (rules_of c) o t)
by_book e b c o t p x z q r =
    ap (part_word e) (sym r ∙ q ∙ ap (λ (y : Book). counted_at (rules_of y) o t) z)

pub packed-requires : goal.packed-requires
packed-requires c =
    let i = counted_inside _ _ _ _ _ (sym c.counted-part.ensures ∙ c.in-Some.is) in
    omega (arith, i, c.requires)

pub returns-in-Some : goal.returns-in-Some
unfolding part_word
returns-in-Some c =
    c.packed.ensures
    ∙ by_book _ _ _ _ _ _ _ c.book_of-book.ensures c.counted-part.ensures
    c.in-Some.is

pub returns-in-None : goal.returns-in-None
unfolding part_word
returns-in-None c =
    c.packed-in-None.ensures
    ∙ by_book _ _ _ _ _ _ _ c.book_of-book.ensures c.counted-part.ensures
    c.in-None.is
