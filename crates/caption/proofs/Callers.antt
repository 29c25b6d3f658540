-- A caller has no = of its own, in each book.
-- Assumes nothing.
use Prim.Native.Nat.{ℕ}
use mathlib.Core.Path.{◌≡◌, refl, subst}
use mathlib.Core.List.{List, [], ◌∷◌}
use lib.Dec.{T}
use Rattle.rules.specs.Tests.{◌≤?◌, ◌=?◌, ◌and◌, ◌or◌, pick}
use Rattle.rules.proofs.Tests.{both}
use Rattle.rules.specs.Contents.{Range, Whole, text, within, in_set, all_in}
use Rattle.rules.specs.Table.{rules_of, class_of, row_of, row_in, number_set, whole}
use Rattle.rules.specs.declared.Book.{Book}
use Rattle.rules.specs.declared.Book.TheVariants.{PresentStrict, PresentLenient, OldStrict, OldLenient}
use Rattle.rules.specs.Message.{Message, LegalMessage}
use Rattle.rules.specs.Counting.{Counts}
use Rattle.rules.proofs.Counting.{legal_counts}
use Rattle.caption.proofs.Directory.{Without}

no_equals : (s : List Range) → (T (in_set s 0x3D) → ⊥) → (v : List ℕ) → T (all_in s v) → Without 0x3D v
unfolding all_in
no_equals s f [] t = tt
no_equals s f (x ∷ v) t =
    let b = both _ _ t in
    (λ e. f (subst (λ (y : ℕ). T (in_set s y)) e b.0), no_equals s f v b.1)

-- the contents of 02H
unfoldable caller_lengths : Book → List Range
caller_lengths PresentStrict = (1, 20) ∷ []
caller_lengths PresentLenient = (1, 20) ∷ []
caller_lengths OldStrict = (1, 18) ∷ []
caller_lengths OldLenient = (1, 18) ∷ []

unfoldable caller_set : Book → List Range
caller_set PresentStrict = number_set
caller_set PresentLenient = number_set
caller_set OldStrict = (0x30, 0x39) ∷ []
caller_set OldLenient = (0x30, 0x39) ∷ []

caller_class : (b : Book) → whole (class_of (rules_of b) 0x02) ≡ text (caller_lengths b) (caller_set b)
unfolding caller_lengths caller_set class_of row_of row_in rules_of whole pick ◌=?◌
caller_class PresentStrict = refl
caller_class PresentLenient = refl
caller_class OldStrict = refl
caller_class OldLenient = refl

none_in : (b : Book) → T (in_set (caller_set b) 0x3D) → ⊥
unfolding caller_set in_set within ◌and◌ ◌or◌ ◌≤?◌
none_in PresentStrict t = t
none_in PresentLenient t = t
none_in OldStrict t = t
none_in OldLenient t = t

pub caller_plain : (b : Book) (m : Message) → LegalMessage (rules_of b) m → (v : List ℕ) →
    Counts (rules_of b) m 0x02 v → Without 0x3D v
caller_plain b m l v c =
    no_equals (caller_set b) (none_in b) v
    (both _ _ (subst (λ (w : Whole). T (w.fits v)) (caller_class b) (legal_counts (rules_of b) m l 0x02 v c))).1
