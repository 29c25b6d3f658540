-- A text that is spoilt is no valid listing, it is spoilt at one line alone, and a valid listing says one message.
-- Assumes nothing.
use Rattle.std.proofs.Common.{◌≡◌, ℕ, ◌<◌, T, ◌⊎◌, List, [], ◌∷◌, ◌++◌, length, sym, ap, ◌∙◌, subst, inl, inr, append_assoc, append-nil, arith, length-append}
use Rattle.rules.specs.First.{index_of}
use Rattle.rules.specs.Tests.{◌≤?◌}
use Rattle.rules.proofs.Tests.{decide, le_of, not_le}
use Rattle.rules.specs.Message.{Message}
use Rattle.relist.specs.Sentences.{Says, Valid, Begins, Unended, Spoils, missing, unended, wrong, SpoiltAt}
use Rattle.relist.proofs.Text.{seam, same_cut}
use Rattle.relist.proofs.Ends.{ends_ended, Goes, goes}
use Rattle.relist.proofs.Valid.{R, says_message, says_ended}

-- ---- spoilt and valid
module _ (t : List ℕ) (k : ℕ) (s : SpoiltAt R t k) where
  -- whatever is valid goes on as the text does
  no_valid : Spoils R s.before s.rest → Valid R t → ⊥
  no_valid (missing e n) v =
      n (subst (Valid R) (sym s.is ∙ ap (λ (x : List ℕ). s.before ++ x) e ∙ append-nil s.before) v)
  no_valid (unended h u) v =
      let e = says_ended v.0 t v.1 in ends_ended s.before s.rest e.0 (s.is ∙ e.1) h u
  no_valid (wrong l more u e n) v = n (more, subst (Valid R) (goes_on l more e) v)
    where
      goes_on : (l more : List ℕ) → l ++ 0x0A ∷ more ≡ s.rest → t ≡ (s.before ++ l ++ 0x0A ∷ []) ++ more
      goes_on l more e =
          sym s.is
          ∙ ap (λ (x : List ℕ). s.before ++ x) (sym e)
          ∙ sym (append_assoc s.before l (0x0A ∷ more))
          ∙ sym (append_assoc (s.before ++ l) (0x0A ∷ []) more)

  pub spoilt_valid : Valid R t → ⊥
  spoilt_valid = no_valid s.spoils

-- ---- at one line
none_longer : (v l : List ℕ) → Unended v → (more : List ℕ) → l ++ 0x0A ∷ more ≡ v → Unended l → ⊥
none_longer v l u more e w =
    absurd
    (omega (
      arith,
      seam 0x0A l more w,
      u,
      ap length e,
      length-append l (0x0A ∷ more),
      ap (index_of 0x0A) e,
    ))

-- an earlier line does not spoil a text where a later one does
earlier : (t : List ℕ) (k j : ℕ) → SpoiltAt R t k → SpoiltAt R t j → k < j → ⊥
earlier t k j s r h =
    go (goes s.lines r.lines s.before r.before s.rest r.rest
    (omega (arith, s.number, r.number)) s.ended r.ended (s.is ∙ sym r.is)) s.spoils
  where
    go : Goes s.before r.before s.rest r.rest → Spoils R s.before s.rest → ⊥
    go g (missing e n) =
        absurd
        (omega (
          arith,
          ap length (g.rest_is ∙ e),
          length-append g.line
              (0x0A ∷ (g.more ++ r.rest)),
        ))
    go g (unended x u) = none_longer s.rest g.line u (g.more ++ r.rest) g.rest_is g.unended
    go g (wrong l more u e n) =
        let q = same_cut 0x0A l more g.line (g.more ++ r.rest) u g.unended (e ∙ sym g.rest_is) in
        n (begun g.line g.more r.begins g.longer l q.0)
      where
        begun : (line more : List ℕ) → Begins R r.before → r.before ≡ s.before ++ line ++ 0x0A ∷ more →
            (l : List ℕ) → l ≡ line → Begins R (s.before ++ l ++ 0x0A ∷ [])
        begun line more b z l q = (
          more ++ b.0,
          subst (Valid R)
              (ap (λ (x : List ℕ). x ++ b.0) z
              ∙ append_assoc (s.before ++ line) (0x0A ∷ more) b.0
              ∙ ap (λ (x : List ℕ). (s.before ++ x) ++ 0x0A ∷ (more ++ b.0)) (sym q)
              ∙ sym (append_assoc (s.before ++ l) (0x0A ∷ []) (more ++ b.0))) b.1,
        )

pub spoilt_one : (t : List ℕ) (k j : ℕ) → SpoiltAt R t k → SpoiltAt R t j → k ≡ j
spoilt_one t k j s r = go (decide (k ≤? j)) (decide (j ≤? k))
  where
    go : T (k ≤? j) ⊎ (T (k ≤? j) → ⊥) → T (j ≤? k) ⊎ (T (j ≤? k) → ⊥) → k ≡ j
    go (inl a) (inl b) = let x = le_of _ _ a in let y = le_of _ _ b in omega arith
    go (inr a) (inl b) = absurd (earlier t j k r s (not_le _ _ a))
    go (inl a) (inr b) = absurd (earlier t k j s r (not_le _ _ b))
    go (inr a) (inr b) = absurd (earlier t k j s r (not_le _ _ b))

-- ---- one message
pub says_one : (t : List ℕ) (m n : Message) → Says R m t → Says R n t → m ≡ n
says_one t m n s r = sym (says_message m t s) ∙ says_message n t r
