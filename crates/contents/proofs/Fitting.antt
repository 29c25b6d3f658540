-- Contents fit exactly where their length is one of the class's and all their octets may stand.
-- Assumes nothing.
use Prim.Native.Nat.{ℕ, ◌+◌, ◌≤◌, ◌<◌}
use mathlib.Core.Path.{◌≡◌, refl, sym, ◌∙◌}
use mathlib.Core.Bool.{true, false}
use mathlib.Core.List.{List}
use native.Mathlib.Omega.{arith}
use lib.ListN.{length}
use lib.Dec.{T, eqb}
use Rattle.rules.specs.Tests.{◌=?◌, ◌and◌}
use Rattle.rules.proofs.Tests.{both, join, left, eq_of, of_eq}
use Rattle.rules.proofs.Returns.{T_of, holds, same_truth}
use Rattle.rules.specs.Table.{length_fits, contents_fit}
use Rattle.rules.specs.ContentJudge.{good_front}
use Rattle.rules.proofs.Standing.{all_stand, stands_all}
use Rattle.rules.proofs.ContentLaw.{lawful}
use Rattle.rules.specs.Judge.{room_fits}
use Rattle.rules.specs.declared.Class.{Class}

-- no class has more than 253 octets
pub fits_short : (c : Class) (v : List ℕ) → T (contents_fit c v) → length v ≤ 253
fits_short c v f = (lawful c).most (length v) ((lawful c).fit_length v f)

-- ---- the length, and then the octets
module _ (c : Class) (v : List ℕ) where
  fits_not : (T (contents_fit c v) → ⊥) → false ≡ contents_fit c v
  fits_not n = same_truth false (contents_fit c v) (λ f. absurd f) n

  pub too_long : 253 < length v → false ≡ contents_fit c v
  too_long h = fits_not (λ f. let l = fits_short c v f in omega arith)

  room_leaves_none : T (room_fits (length v) (length v + 2))
  unfolding room_fits
  room_leaves_none = left _ _ (of_eq (length v + 2) (length v + 2) refl)

  pub length_not : (length_fits c (length v) and room_fits (length v) (length v + 2)) ≡ false →
      false ≡ contents_fit c v
  length_not e =
      fits_not
      (λ f. rw e at (join (length_fits c (length v)) (room_fits (length v) (length v + 2)) ((lawful c).fit_length v f)
      room_leaves_none))

  pub octets_decide : (length_fits c (length v) and room_fits (length v) (length v + 2)) ≡ true → (n : ℕ) →
      n ≡ good_front c v → eqb n (length v) ≡ contents_fit c v
  unfolding ◌=?◌
  octets_decide e n q =
      same_truth (eqb n (length v)) (contents_fit c v)
      (λ t. (lawful c).from_fit v (both _ _ (T_of _ e)).0 (T_of _ (stands_all c v (sym q ∙ eq_of n (length v) t))))
      (λ f. of_eq n (length v) (q ∙ all_stand c v (holds _ ((lawful c).fit_from v f))))
