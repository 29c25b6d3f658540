-- The sentences on finding leave one part, or one refusal: a refusal is the verdict's, and in a message the name,
-- else the caller and the directory's lines, tell side, start and length. By an edition and a way the book of known
-- numbers leaves one answer, and unknown ones leave 16.
-- Assumes nothing.
use Rattle.std.proofs.Common.{Result, Err, Ok}
use Prim.Native.Nat.{ℕ}
use mathlib.Core.Path.{◌≡◌, refl, sym, ◌∙◌}
use mathlib.Core.Logic.{◌⊎◌, inl, inr}
use mathlib.Core.List.{List}
use mathlib.Core.Option.{Option, none, some}
use native.Mathlib.Omega.{arith}
use lib.Dec.{T}
use Rattle.rules.proofs.Tests.{decide}
use Rattle.rules.specs.Table.{Rules, rules_of}
use Rattle.rules.specs.Editions.{known, book_of}
use Rattle.rules.specs.Message.{Message}
use Rattle.rules.specs.Counting.{counted, Counts}
use Rattle.rules.proofs.Counting.{counted_iff}
use Rattle.rules.specs.Language.{calls}
use Rattle.rules.specs.Refusals.{noted}
use Rattle.rules.specs.declared.Fault.{Fault}
use Rattle.message.proofs.One.{judges_one}
use Rattle.caption.specs.declared.Shown.{Shown}
use Rattle.caption.specs.declared.Shown.TheVariants.{InMessage, InDirectory}
use Rattle.caption.specs.Lines.{lines_of}
use Rattle.caption.specs.Told.{told, Finding}
use Rattle.caption.proofs.Told.{told-refused, some_number, refused_iff, declined_so}
use Rattle.caption.specs.Directory.{NoneFor, FirstFor}
use Rattle.caption.specs.Finds.{Shows, Captions, Finds, FindsBy}
use Rattle.caption.proofs.Directory.{first_or_none}
use Rattle.caption.proofs.Editions.{not_sixteen}

-- two answers name the same part
record Same (r s : Result Shown Fault) : Type 0 where
  side : (told r).side ≡ (told s).side
  start : (told r).start ≡ (told s).start
  size : (told r).size ≡ (told s).size

same : {o d : List ℕ} {r s : Result Shown Fault} {which at : ℕ} {v : List ℕ} →
    Shows o d r which at v → Shows o d s which at v → Same r s
same A B = record { side = A.side ∙ sym B.side; start = A.start ∙ sym B.start; size = A.size ∙ sym B.size }

-- a message has one caption
captions_one : (R : Rules) (m : Message) (d : List ℕ) (r s : Result Shown Fault) → Captions R m d r → Captions R m d s → Same r s
captions_one R m d r s A B = by_name_lem (counted R m 0x07) refl
  where
    by_line : counted R m 0x07 ≡ none → (v : List ℕ) → Counts R m 0x02 v →
        FirstFor v d ⊎ NoneFor v (lines_of d) → Same r s
    by_line n v c (inl e) = same (A.entry n v c e) (B.entry n v c e)
    by_line n v c (inr k) = same (A.caller n v c k) (B.caller n v c k)

    by_caller_lem : counted R m 0x07 ≡ none → (x : Option (List ℕ)) → counted R m 0x02 ≡ x → Same r s
    by_caller_lem n none k = same (A.nothing n k) (B.nothing n k)
    by_caller_lem n (some v) k = by_line n v ((counted_iff R m 0x02 v).0 k) (first_or_none v d)

    by_name_lem : (x : Option (List ℕ)) → counted R m 0x07 ≡ x → Same r s
    by_name_lem none n = by_caller_lem n (counted R m 0x02) refl
    by_name_lem (some v) k = let c = (counted_iff R m 0x07 v).0 k in same (A.name v c) (B.name v c)

module _ (R : Rules) (o d : List ℕ) where
  -- what the one refuses, the other refuses with the same number, place and parameter
  refused_too : (r s : Result Shown Fault) → Finds R o d r → Finds R o d s → (f : Fault) → r ≡ Err f → s ≡ Err f
  refused_too r s A B f e =
      (refused_iff B f (some_number A f e)).1
      (sym (judges_one (calls R) o _ _ A.judged B.judged) ∙ declined_so A f e)

  -- where the one gives a part, that is the message's caption, and the other names the same
  shown_too : (r s : Result Shown Fault) → Finds R o d r → Finds R o d s → (told r).number ≡ 0 → Same r s
  shown_too r s A B z =
      let a = A.done.0 z in
      captions_one R a.0 d r s (A.caption a.0 a.1 a.2) (B.caption a.0 a.1 a.2)

  -- any octets and any directory have one answer
  pub finds_one : (r s : Result Shown Fault) → Finds R o d r → Finds R o d s → r ≡ s
  unfolding told
  finds_one (Err f) s A B = sym (refused_too _ s A B f refl)
  finds_one (Ok (InMessage a n)) (Err f) A B = refused_too _ _ B A f refl
  finds_one (Ok (InMessage a n)) (Ok (InMessage b k)) A B =
      let t = shown_too _ _ A B refl in
      λ i. Ok (InMessage (t.start i) (t.size i))
  finds_one (Ok (InMessage a n)) (Ok (InDirectory b k)) A B = absurd (omega (arith, (shown_too _ _ A B refl).side))
  finds_one (Ok (InDirectory a n)) (Err f) A B = refused_too _ _ B A f refl
  finds_one (Ok (InDirectory a n)) (Ok (InMessage b k)) A B = absurd (omega (arith, (shown_too _ _ A B refl).side))
  finds_one (Ok (InDirectory a n)) (Ok (InDirectory b k)) A B =
      let t = shown_too _ _ A B refl in
      λ i. Ok (InDirectory (t.start i) (t.size i))

-- ---- by an edition and a way
module _ (e w : ℕ) (o d : List ℕ) where
  known-edition : (r : Finding) → FindsBy e w o d r → T (known e w) → r.edition ≡ e
  known-edition r A t = A.names (not_sixteen e w o d t r.answer (A.by_book t))

  unknown_shown : (r : Finding) → FindsBy e w o d r → (T (known e w) → ⊥) → r.answer ≡ Err (noted 16 0)
  unknown_shown r A n = (told-refused r.answer 16 0 0 (omega arith)).0 ((A.sixteen 0 0).1 (refl, refl, n))

  -- any numbers, any octets and any directory have one answer, which names one edition
  pub finds_by_one : (r s : Finding) → FindsBy e w o d r → FindsBy e w o d s → r ≡ s
  finds_by_one r s A B = go (decide (known e w))
    where
      go : T (known e w) ⊎ (T (known e w) → ⊥) → r ≡ s
      go (inl t) =
          let x = known-edition r A t ∙ sym (known-edition s B t) in
          let y = finds_one (rules_of (book_of e w)) o d _ _ (A.by_book t) (B.by_book t) in
          λ i. record { edition = x i; answer = y i }
      go (inr n) =
          let x = A.names_none (A.unknown n) ∙ sym (B.names_none (B.unknown n)) in
          let y = unknown_shown r A n ∙ sym (unknown_shown s B n) in
          λ i. record { edition = x i; answer = y i }
