-- `firmware::caption_into` meets its contract: the record is written where a part was found.
-- Assumes nothing.
use Rattle.rules.specs.declared.Fault.{Fault}
use Rattle.std.proofs.Common.{Result, Ok}
use Prim.Native.Nat.{ℕ}
use mathlib.Core.Path.{◌≡◌, sym, ◌∙◌, ap}
use mathlib.Core.List.{List}
use Rattle.caption.specs.declared.Shown.{Shown}
use Rattle.caption.specs.declared.Shown.TheVariants.{InMessage, InDirectory}
use Rattle.caption.specs.Told.{told, Finding}
use Rattle.firmware.specs.Word.{packed}
use Rattle.firmware.specs.Exports.{found_word, part_from}
use Rattle.firmware.proofs.caption_into.Goals as goal

-- what is shown, beside the edition that is named
word_of : (f g : Finding) (x : Result Shown Fault) → f ≡ g → f.answer ≡ x →
    found_word (record { edition = f.edition; answer = x }) ≡ found_word g
word_of f g x e p = let q = sym p in (λ i. found_word (record { edition = f.edition; answer = q i })) ∙ ap found_word e

-- a part has no number
word_of_part : (f g : Finding) (x : Shown) → f ≡ g → f.answer ≡ Ok x → packed f.edition 0 0 0 0 0 ≡ found_word g
unfolding found_word told
word_of_part f g (InMessage start n) e p = word_of f g _ e p
word_of_part f g (InDirectory start n) e p = word_of f g _ e p

part_of : (c : List ℕ) (f g : Finding) (x : Result Shown Fault) → f ≡ g → f.answer ≡ x → part_from c x ≡ part_from c g.answer
part_of c f g x e p = ap (part_from c) (sym p ∙ ap (λ (y : Finding). y.answer) e)

pub returns-in-Ok : goal.returns-in-Ok
unfolding found_word told
returns-in-Ok c = record {
  answer = c.packed.ensures ∙ word_of_part _ _ _ c.find-finding.ensures c.in-Ok.is;
  cells = c.lay_shown.ensures ∙ part_of _ _ _ _ c.find-finding.ensures c.in-Ok.is;
}

pub returns-in-Err : goal.returns-in-Err
unfolding found_word part_from told
returns-in-Err c = record {
  answer = c.refused.ensures ∙ word_of _ _ _ c.find-finding.ensures c.in-Err.is;
  cells = part_of c.args.cells.now _ _ _ c.find-finding.ensures c.in-Err.is;
}
