-- The sentences on reading leave one reading and one area: a refusal's number, place and parameter are told by the
-- octets and the room, and a draft by its message.
-- Assumes nothing.
use Rattle.std.proofs.Common.{Result, Ok, Err}
use Prim.Native.Nat.{ℕ, ◌≤◌}
use mathlib.Core.Path.{◌≡◌, refl, sym, ◌∙◌, ap}
use mathlib.Core.Logic.{◌⊎◌, inl, inr}
use mathlib.Core.List.{List}
use native.Mathlib.Omega.{arith}
use lib.ListN.{length}
use lib.Dec.{T}
use Rattle.rules.specs.Tests.{◌=?◌, ◌≤?◌}
use Rattle.rules.proofs.Tests.{clash, either, decide, eq_of, le_of, not_le}
use Rattle.rules.specs.Table.{Rules, rules_of}
use Rattle.rules.specs.Editions.{known, book_of}
use Rattle.rules.specs.Judge.{given}
use Rattle.rules.specs.Language.{calls}
use Rattle.rules.specs.Message.{Message, octets, LegalMessage}
use Rattle.rules.specs.Refusals.{noted}
use Rattle.rules.specs.declared.Fault.{Fault}
use Rattle.message.specs.Judges.{verdict_number}
use Rattle.message.proofs.Judges.{verdict_number_lem}
use Rattle.reader.specs.declared.Reading.{Reading}
use Rattle.reader.specs.Reads.{Reads, ReadsBy, texts, read_number}
use Rattle.reader.proofs.Told.{spoilt_iff, early_iff, followed_iff, short_iff, drafted_as, texts_accepted}
use Rattle.reader.proofs.Told.{told-refused, noted_at, some_number, refused_so}

module _ (R : Rules) (o old : List ℕ) (r : Reading) (area : List ℕ) (s : Reading) (after : List ℕ)
    (A : Reads R o old r area) (B : Reads R o old s after) where
  -- what the one refuses, the other refuses with the same number, place and parameter
  refused_too : (f : Fault) → r.answer ≡ Err f → s.answer ≡ Err f
  unfolding read_number
  refused_too f e = go (either _ _ (refused_so A f e).2)
    where
      l : 1 ≤ f.number
      l = some_number A f e

      at : (k : ℕ) → f.number ≡ k → 7 ≤ k → k ≤ 9 → ◌≡◌ {A = Result ℕ Fault} (Err f) (Err (noted k f.place))
      at k z a b = ap Err (noted_at A f e k z a b)

      judged : T (given R f.number) ⊎ ((f.number ≡ 7) ⊎ (f.number ≡ 8)) → s.answer ≡ Err f
      judged (inl t) = (spoilt_iff B f l t).1 ((spoilt_iff A f l t).0 e)
      judged (inr (inl k)) =
          let z = at 7 k (omega arith) (omega arith) in
          (followed_iff B f.place).1 ((followed_iff A f.place).0 (e ∙ z)) ∙ sym z
      judged (inr (inr k)) =
          let z = at 8 k (omega arith) (omega arith) in
          (early_iff B f.place).1 ((early_iff A f.place).0 (e ∙ z)) ∙ sym z

      go : T (verdict_number (calls R) f.number) ⊎ T (f.number =? 9) → s.answer ≡ Err f
      go (inl t) = judged (verdict_number_lem (calls R) _ t)
      go (inr t) =
          let z = at 9 (eq_of _ _ t) (omega arith) (omega arith) in
          (short_iff B f.place).1 ((short_iff A f.place).0 (e ∙ z)) ∙ sym z

  -- a message that is read has room, and its draft and texts are its own
  drafted_too : (n : ℕ) → r.answer ≡ Ok n → (m : Message) → LegalMessage R m → octets m ≡ o →
      T (length (texts R m) ≤? length old) ⊎ (T (length (texts R m) ≤? length old) → ⊥) → (r ≡ s) × (area ≡ after)
  drafted_too n e m l q (inl t) =
      let x = drafted_as A m l q (le_of _ _ t) in
      let y = drafted_as B m l q (le_of _ _ t) in
      (x.0 ∙ sym y.0, x.1 ∙ sym y.1)
  drafted_too n e m l q (inr t) =
      clash (cc (sym e ∙ (short_iff A (length (texts R m))).1 (m, l, q, refl, not_le _ _ t)))

  -- any octets and any area have one reading, and leave one area
  pub reads_one : (r ≡ s) × (area ≡ after)
  reads_one = go r.answer refl
    where
      go : (x : Result ℕ Fault) → r.answer ≡ x → (r ≡ s) × (area ≡ after)
      go (Ok n) e =
          let a = texts_accepted A n e in
          drafted_too n e a.0 a.1 a.2 (decide (length (texts R a.0) ≤? length old))
      go (Err f) e =
          let d = refused_too f e in
          let x = refused_so A f e in
          let y = refused_so B f d in
          let answer = e ∙ sym d in
          let draft = x.1 ∙ sym y.1 in
          let edition = A.names ∙ sym B.names in
          ((λ i. record { edition = edition i; answer = answer i; draft = draft i }), x.0 ∙ sym y.0)

-- by any edition and way, any octets and any area have one reading, and leave one area
pub reads_by_one : (e w : ℕ) (o old : List ℕ) (r : Reading) (area : List ℕ) (s : Reading) (after : List ℕ) →
    ReadsBy e w o old r area → ReadsBy e w o old s after → (r ≡ s) × (area ≡ after)
reads_by_one e w o old r area s after A B = go (decide (known e w))
  where
    go : T (known e w) ⊎ (T (known e w) → ⊥) → (r ≡ s) × (area ≡ after)
    go (inl t) = reads_one (rules_of (book_of e w)) o old r area s after (A.by_book t) (B.by_book t)
    go (inr n) =
        let x = A.leaves n in
        let y = B.leaves n in
        let edition = x.2 ∙ sym y.2 in
        let draft = x.1 ∙ sym y.1 in
        let answer =
        (told-refused _ 16 0 0 (omega arith)).0 (A.unknown n)
        ∙ sym ((told-refused _ 16 0 0 (omega arith)).0 (B.unknown n)) in
        ((λ i. record { edition = edition i; answer = answer i; draft = draft i }), x.0 ∙ sym y.0)
