-- Where the lines of a text end: of two beginnings that are ended lines the one with more goes on with a whole line,
-- and what has no line end is no end of ended lines.
-- Assumes nothing.
use Rattle.std.proofs.Common.{◌≡◌, ℕ, zero, suc, ◌+◌, ◌-◌, ◌<◌, ◌≤◌, T, List, [], ◌∷◌, ◌++◌, length, get_or, sym, refl, ap, ◌∙◌, subst, ap₂, append_assoc, arith, length-append, get_or-append-add}
use lib.Seq.{get_or-append_seam}
use Rattle.rules.specs.Tests.{◌=?◌}
use Rattle.rules.proofs.Tests.{of_eq}
use Rattle.rules.specs.Table.{ascii}
use Rattle.listing.specs.Listing.{Line, line_text, written}
use Rattle.listing.proofs.Plain.{bare, Plain}
use Rattle.relist.specs.Sentences.{Unended, Ended}
use Rattle.relist.proofs.Text.{none_head, none_tail, same_cut, plain_unended}

-- ---- lines of ours
pub ended_cons : (l : Line) (n : ℕ) (t : List ℕ) → Unended (bare l) → Ended n t → Ended (suc n) (line_text l ++ t)
unfolding line_text bare ascii
ended_cons l n t u e = (bare l, t, u, sym (append_assoc (bare l) (0x0A ∷ []) t), e)

pub ended-written : (ls : List Line) → Plain ls → Ended (length ls) (written ls)
unfolding written
ended-written [] p = refl
ended-written (l ∷ ls) p =
    ended_cons l (length ls) (written ls) (plain_unended (bare l) p.0) (ended-written ls p.1)

-- ---- the octet of a line end
unended_at : (v : List ℕ) (i : ℕ) → Unended v → i < length v → get_or v i 0 ≡ 0x0A → ⊥
unfolding ◌=?◌
unended_at [] i u h e = absurd (omega arith)
unended_at (x ∷ v) zero u h e = subst T (none_head 0x0A x v u) (of_eq x 0x0A e)
unended_at (x ∷ v) (suc i) u h e = unended_at v i (none_tail 0x0A x v u) (omega arith) e

-- a text that ends with a line end has one in every end of its own
pub ends_ended : (before rest front : List ℕ) → before ++ rest ≡ front ++ 0x0A ∷ [] → 1 ≤ length rest → Unended rest → ⊥
ends_ended before rest front e h u =
    let n : length front ≡ length before + (length rest - 1) =
    omega (arith, ap length e, length-append before rest, length-append front (0x0A ∷ [])) in
    unended_at rest (length rest - 1) u (omega arith)
    (sym (get_or-append-add before rest (length rest - 1) 0)
    ∙ ap₂ (λ (v : List ℕ) (i : ℕ). get_or v i 0) e (sym n)
    ∙ get_or-append_seam front 0x0A [] 0)

-- ---- two beginnings
pub record Goes (b b' rest rest' : List ℕ) : Type 0 where
  pub line : List ℕ
  pub more : List ℕ
  pub unended : Unended line
  pub rest_is : line ++ 0x0A ∷ (more ++ rest') ≡ rest
  pub longer : b' ≡ b ++ line ++ 0x0A ∷ more

pub goes : (n k : ℕ) (b b' rest rest' : List ℕ) → n < k → Ended n b → Ended k b' → b ++ rest ≡ b' ++ rest' →
    Goes b b' rest rest'
goes n zero b b' rest rest' h e f q = absurd (omega arith)
goes zero (suc k) b b' rest rest' h e f q =
    record {
      line = f.0;
      more = f.1;
      unended = f.2;
      rest_is = sym (append_assoc f.0 (0x0A ∷ f.1) rest')
          ∙ ap (λ (x : List ℕ). x ++ rest') f.3
          ∙ sym q
          ∙ ap (λ (x : List ℕ). x ++ rest) e;
      longer = sym f.3 ∙ ap (λ (x : List ℕ). x ++ f.0 ++ 0x0A ∷ f.1) (sym e);
    }
goes (suc n) (suc k) b b' rest rest' h e f q =
    let s = same_cut 0x0A e.0 (e.1 ++ rest) f.0 (f.1 ++ rest') e.2 f.2
    (sym (append_assoc e.0 (0x0A ∷ e.1) rest) ∙ ap (λ (x : List ℕ). x ++ rest) e.3 ∙ q
    ∙ ap (λ (x : List ℕ). x ++ rest') (sym f.3) ∙ append_assoc f.0 (0x0A ∷ f.1) rest') in
    let g = goes n k e.1 f.1 rest rest' (omega arith) e.4 f.4 s.1 in
    record {
      line = g.line;
      more = g.more;
      unended = g.unended;
      rest_is = g.rest_is;
      longer = sym f.3
          ∙ ap₂ (λ (x y : List ℕ). x ++ 0x0A ∷ y) (sym s.0) g.longer
          ∙ sym (three e.0 e.1 g.line (0x0A ∷ g.more))
          ∙ ap (λ (x : List ℕ). x ++ g.line ++ 0x0A ∷ g.more) e.3;
    }
  where
    three : (a b c d : List ℕ) → (a ++ 0x0A ∷ b) ++ c ++ d ≡ a ++ 0x0A ∷ (b ++ c ++ d)
    three a b c d =
        ap (λ (x : List ℕ). x ++ d) (append_assoc a (0x0A ∷ b) c) ∙ append_assoc a (0x0A ∷ (b ++ c)) d
