-- The classes that a record of an edition and a way holds have the codes of its book (`code_in`), and a run keeps them
-- so: a type that can stand in some room has such a class.
-- Assumes nothing.
use Prim.Native.Nat.{ℕ, zero, suc}
use mathlib.Core.Path.{◌≡◌, refl, sym, subst}
use mathlib.Core.Logic.{◌⊎◌, inl, inr}
use mathlib.Core.List.{List, [], ◌∷◌}
use native.Mathlib.Omega.{arith}
use lib.Dec.{T}
use Rattle.rules.specs.Tests.{◌≤?◌, ◌=?◌, ◌and◌, ◌or◌, pick, every}
use Rattle.rules.proofs.Tests.{pick_case, every_head, every_tail, both}
use Rattle.rules.specs.Contents.{within, in_set, some_length}
use Rattle.rules.specs.Table.{Row, Rules, rules_of, row_in, row_of, class_of, class_fault, whole}
use Rattle.rules.specs.Codes.{class_code, code_in}
use Rattle.rules.specs.Editions.{known, book_of}
use Rattle.rules.proofs.Editions.{no_edition, no_way}
use Rattle.rules.specs.Machine.{step, run}
use Rattle.rules.specs.Judge.{machine, contents, fits, after, given, in_range}
use Rattle.rules.proofs.Remaining.{stands_fault}
use Rattle.rules.specs.declared.Class.{Class}
use Rattle.rules.specs.declared.Stage.{Stage}
use Rattle.rules.specs.declared.Stage.TheVariants.{Kind, Size, Header, Length, Content}
use Rattle.rules.specs.declared.State.{State}
use Rattle.rules.specs.declared.State.TheVariants.{Waiting, Message, Refused}
use Rattle.listener.specs.Told.{told}
use Rattle.listener.specs.Heard.{answer_of}

abbrev pub CodedAt : ℕ → ℕ → Stage → Type 0
CodedAt e y Kind = Unit {0}
CodedAt e y Size = Unit {0}
CodedAt e y (Header r) = Unit {0}
CodedAt e y (Length c r) = T (code_in e y (class_code c))
CodedAt e y (Content c n i m r) = T (code_in e y (class_code c))

abbrev pub Coded : ℕ → ℕ → State → Type 0
Coded e y (Waiting s q) = CodedAt e y s
Coded e y (Message n) = Unit {0}
Coded e y (Refused f) = Unit {0}

-- the rules of an edition and a way
abbrev pub R : ℕ → ℕ → Rules
R e y = rules_of (book_of e y)

-- the class of a type is that of a row, or that of all others
row_code : (e y : ℕ) (d : Row) (rs : List Row) (t : ℕ) →
    T (every (λ (r : Row). code_in e y (class_code r.class)) rs) →
    ((row_in d rs t).class ≡ d.class) ⊎ T (code_in e y (class_code (row_in d rs t).class))
unfolding row_in
row_code e y d [] t h = inl refl
row_code e y d (r ∷ rs) t h =
    pick_case (λ (q : Row). (q.class ≡ d.class) ⊎ T (code_in e y (class_code q.class))) (t =? r.kind) _ _
    (λ _. inr (every_head (λ (r : Row). code_in e y (class_code r.class)) r rs h))
    (λ _. row_code e y d rs t (every_tail (λ (r : Row). code_in e y (class_code r.class)) r rs h))

-- carried types have their code by the lenient way; by the strict one others have no class that can stand
of_others : (e y : ℕ) (d c : Class) → (c ≡ d) ⊎ T (code_in e y (class_code c)) →
    (class_fault d ≡ 3 → T (code_in e y (class_code d))) → class_fault c ≡ 3 → T (code_in e y (class_code c))
of_others e y d c (inl z) f h =
    subst (λ (x : Class). T (code_in e y (class_code x))) (sym z)
    (f (subst (λ (x : Class). class_fault x ≡ 3) z h))
of_others e y d c (inr t) f h = t

-- book by book, over its table
pub table_code : (e y : ℕ) → T (known e y) → (t : ℕ) → class_fault (class_of (R e y) t) ≡ 3 →
    T (code_in e y (class_code (class_of (R e y) t)))
unfolding class_of row_of rules_of book_of class_fault some_length whole every class_code code_in in_set within ◌≤?◌ ◌=?◌ ◌and◌
    ◌or◌ pick
table_code zero zero k t h = of_others 0 0 _ _ (row_code 0 0 _ _ t tt) (λ z. absurd (omega (arith, z))) h
table_code zero (suc zero) k t h = of_others 0 1 _ _ (row_code 0 1 _ _ t tt) (λ z. tt) h
table_code (suc zero) zero k t h = of_others 1 0 _ _ (row_code 1 0 _ _ t tt) (λ z. absurd (omega (arith, z))) h
table_code (suc zero) (suc zero) k t h = of_others 1 1 _ _ (row_code 1 1 _ _ t tt) (λ z. tt) h
table_code (suc (suc e)) y k t h = absurd (no_edition e y k)
table_code zero (suc (suc y)) k t h = absurd (no_way 0 y k)
table_code (suc zero) (suc (suc y)) k t h = absurd (no_way 1 y k)

module _ (e y : ℕ) (k : T (known e y)) where
  after_coded : (s : Stage) (x : ℕ) → T (fits (R e y) s x) → CodedAt e y s → CodedAt e y (after (R e y) s x)
  unfolding after contents fits
  after_coded Kind x g h = tt
  after_coded Size x g h = tt
  after_coded (Header r) x g h = table_code e y k x (stands_fault (class_of (R e y) x) r g)
  after_coded (Length c r) x g h = pick_case (CodedAt e y) _ _ _ (λ _. tt) (λ _. h)
  after_coded (Content c n i m r) x g h = pick_case (CodedAt e y) _ _ _ (λ _. tt) (λ _. h)

  step-coded : (w : State) (x : ℕ) → Coded e y w → Coded e y (step (machine (R e y)) w x)
  unfolding step machine
  step-coded (Waiting s q) x h =
      pick_case (Coded e y) _ _ _ (λ _. pick_case (Coded e y) _ _ _ (λ _. tt) (λ _. tt))
      (λ _. pick_case (Coded e y) _ _ _ (λ g. after_coded s x g h) (λ _. tt))
  step-coded (Message n) x h = tt
  step-coded (Refused f) x h = tt

  pub run-coded : (w : State) (o : List ℕ) → Coded e y w → Coded e y (run (machine (R e y)) w o)
  unfolding run
  run-coded w [] h = h
  run-coded w (x ∷ o) h = run-coded (step (machine (R e y)) w x) o (step-coded w x h)

-- ---- numbers
-- none, or one that the rules give
abbrev pub NoneOr : Rules → ℕ → Type 0
NoneOr S n = (n ≡ 0) ⊎ T (given S n)

pub number_given : (S : Rules) (w : State) → T (in_range S w) → NoneOr S (told (answer_of w)).number
unfolding told answer_of in_range
number_given S (Waiting s q) t = inl refl
number_given S (Message n) t = inl refl
number_given S (Refused f) t = inr (both _ _ (both _ _ t).0).0
