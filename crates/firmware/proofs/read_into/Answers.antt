-- `firmware::read_into` meets its contract: record and texts are laid down where a read goes through, and there the
-- texts take at most 253 octets.
-- Assumes nothing.
use Prim.Native.Nat.{ℕ}
use mathlib.Core.Path.{◌≡◌, sym, ◌∙◌, ap, subst}
use mathlib.Core.List.{List}
use native.Mathlib.Omega.{arith}
use Rattle.rules.proofs.ContentLaw.{sound_rules}
use Rattle.rules.proofs.Octets.{octets_known}
use Rattle.rules.specs.Table.{rules_of}
use Rattle.rules.specs.declared.Book.{Book}
use lib.ListN.{length}
use Rattle.reader.specs.Told.{told}
use Rattle.reader.specs.Read.{pack_of, area_after}
use Rattle.reader.proofs.Answered.{fits_small}
use Rattle.reader.proofs.Area.{fits_whole, packs_whole, packs_refused}
use Rattle.firmware.specs.Exports.{packed_word, record_from}
use Rattle.firmware.proofs.read_into.Goals as goal

-- what is left of a read by a book; the book is that of the numbers
abbrev Left : ℕ → List ℕ → List ℕ → List ℕ → ℕ → List ℕ → List ℕ → Book → Type 0
Left e o c t w d u b =
    (w ≡ packed_word e (pack_of (rules_of b) o (length t)))
    × ((d ≡ record_from (rules_of b) o c (pack_of (rules_of b) o (length t))) × (u ≡ area_after (rules_of b) o t))

by_book : (e : ℕ) (o c t : List ℕ) (w : ℕ) (d u : List ℕ) (b b' : Book) → b ≡ b' → Left e o c t w d u b →
    Left e o c t w d u b'
by_book e o c t w d u b b' p x = subst (Left e o c t w d u) p x

pub lay_draft-used-requires : goal.lay_draft-used-requires
lay_draft-used-requires c = (
  c.requires,
  (fits_whole _ _ _ (sym c.in-Ok.is ∙ c.fits-fitting.ensures)).enough,
)

pub overflow_cast-used : goal.overflow_cast-used
overflow_cast-used c =
    let octets = octets_known c.args.octets.now c.shared_slice_known-1.given in
    omega (
      arith,
      c.lay_draft-used.ensures.used,
      fits_small _ (sound_rules _) _ octets _
          (sym c.in-Ok.is ∙ c.fits-fitting.ensures),
    )

pub returns-in-Ok : goal.returns-in-Ok
unfolding record_from packed_word told
returns-in-Ok c =
    let laid = c.lay_draft-used.ensures in
    let octets = c.args.octets.now in
    let p = packs_whole _ octets c.args.texts.now
    (sym c.in-Ok.is ∙ c.fits-fitting.ensures) _ _ laid.used laid.texts in
    let x = by_book _ octets c.args.cells.now c.args.texts.now _ _ _ _ _ c.book_of-book.ensures (
      c.packed.ensures ∙ ap (packed_word _) p.answer,
      (laid.cells ∙ ap (record_from _ octets c.args.cells.now) p.answer, p.area_is),
    ) in
    record { answer = x.0; cells = x.1.0; texts = x.1.1 }

pub returns-in-Err : goal.returns-in-Err
unfolding record_from packed_word told
returns-in-Err c =
    let octets = c.args.octets.now in
    let p = packs_refused _ octets c.args.texts.now _
    (sym c.in-Err.is ∙ c.fits-fitting.ensures) in
    let x = by_book _ octets c.args.cells.now c.args.texts.now _ _ _ _ _ c.book_of-book.ensures (
      c.refused.ensures ∙ ap (packed_word _) p.answer,
      (ap (record_from _ octets c.args.cells.now) p.answer, p.area_is),
    ) in
    record { answer = x.0; cells = x.1.0; texts = x.1.1 }
