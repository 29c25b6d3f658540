-- What the promise of `write` says of any draft with its text area and any output, over the written rules.
-- Assumes nothing.
use Rattle.std.proofs.Common.{◌≡◌, ℕ, ◌≤◌, T, ◌⊎◌, List, ◌++◌, length, take, drop, sym, refl, ap, ◌∙◌, subst, ap₂, inl, inr, arith, take_at, drop_at, Result, Ok, Err}
use Rattle.rules.proofs.Tests.{decide, pick_yes, pick_not}
use Rattle.rules.specs.Editions.{edition, known, book_of}
use Rattle.rules.proofs.Editions.{book_edition, edition_of_lem}
use Rattle.rules.specs.Table.{rules_of}
use Rattle.rules.proofs.ContentLaw.{sound_rules}
use Rattle.rules.specs.declared.Book.{Book}
use Rattle.rules.proofs.Sizes.{octets-length}
use Rattle.rules.specs.Message as message
use Rattle.rules.specs.Message.{octets, LegalMessage}
use Rattle.rules.specs.declared.Fault.{Fault}
use Rattle.draft.specs.declared.Draft.{Draft}
use Rattle.draft.specs.Draft.{message_of, Equal}
use Rattle.rules.specs.Laying.{laid}
use Rattle.draft.specs.Packing.{texts_of, draft_of}
use Rattle.draft.proofs.Packing.{equal_stand}
use Rattle.writer.specs.Writing.{unwritten, write_of, write_in, output_after}
use Rattle.writer.proofs.Legal.{written, message_legal}
use Rattle.writer.specs.Reasons.{Answers, LaidMessage, Writes, WritesBy}
use Rattle.writer.proofs.Reasons.{answers}
use Rattle.writer.proofs.RoundTrips.{round_trips_of}
use Rattle.writer.specs.Writing.{Writing}
use Rattle.writer.specs.Told.{Told, told, refusal}
use Rattle.writer.proofs.Told.{message_is}
use Rattle.writer.proofs.write.Reads as write

-- by the way w, of the draft d with the text area t, `write` answers r; the output held `old` and then holds `out`
abbrev pub WriteGives : ℕ → Draft → List ℕ → List ℕ → Writing → List ℕ → Type 0
WriteGives w d t old r out =
    (κs : _) × (a : _) × (s : _) × write.Post κs a r s × (a.0 ≡ w) × (a.1.0 ≡ d) × (a.1.1.0.now ≡ t)
    × (a.1.1.1.0.now ≡ old) × (s.1.1.1.0.now ≡ out)

-- the book of a draft's edition and a way
abbrev pub book_for : Draft → ℕ → Book
book_for d w = book_of d.edition w

-- ---- by a book, where answer and output are as its rule says
module _ (b : Book) (d : Draft) (t old : List ℕ) (w : Result ℕ Fault) (out : List ℕ)
    (is : w ≡ write_of (rules_of b) d t (length old)) (after : out ≡ output_after w (octets (message_of d t)) old) where
  -- each number exactly where document 01 gives it
  pub answers_by : Answers (rules_of b) d t (length old) w
  answers_by = answers b d t (length old) w is

  -- a message of n octets stands in the output
  pub lays_by : (n : ℕ) → w ≡ Ok n → LaidMessage (rules_of b) d t old out n
  unfolding output_after laid message_of
  lays_by n e =
      let m = message_of d t in
      let x = written (rules_of b) d t (length old) n (sym is ∙ e) in
      let l : length (octets m) ≡ n = octets-length m ∙ sym x.1 in
      let q : out ≡ octets m ++ drop (length (octets m)) old =
      after ∙ ap (λ (y : Result ℕ Fault). output_after y (octets m) old) e in
      let f : take n out ≡ octets m = ap (take n) q ∙ take_at (octets m) _ n l in
      record {
        begins = f;
        accepted = (m, message_legal (rules_of b) d t (length old) x.0 (sound_rules b), sym f);
        stays = ap (drop n) q ∙ drop_at (octets m) _ n l ∙ ap (λ (k : ℕ). drop k old) l;
      }

  -- on a refusal the output is as it was
  pub keeps_by : (f : Fault) → w ≡ Err f → out ≡ old
  unfolding output_after
  keeps_by f e = after ∙ ap (λ (y : Result ℕ Fault). output_after y (octets (message_of d t)) old) e

  -- answer and output together (`Writes`)
  pub writing_by_book : Writes (rules_of b) d t old w out
  unfolding told
  writing_by_book = record {
    answers = answers_by;
    lays = λ n e. lays_by n (message_is w n (omega (arith, ((answers_by.message n).0 e).0)) e);
    keeps = kept w refl;
  }
    where
      kept : (x : Result ℕ Fault) → w ≡ x → 1 ≤ (told x).number → out ≡ old
      kept (Ok n) e l = absurd (omega arith)
      kept (Err f) e l = keeps_by f e

  -- the draft of a legal message, over an area that begins with its texts, is written as exactly its octets where
  -- there is room
  pub writes_back_by : (m : message.Message) → LegalMessage (rules_of b) m → (rest : List ℕ) →
      d ≡ draft_of (rules_of b) m → t ≡ texts_of (rules_of b) m.parameters ++ rest → length (octets m) ≤ length old →
      (w ≡ Ok (length (octets m))) × (out ≡ laid (octets m) old)
  unfolding output_after
  writes_back_by m l rest e f g =
      let k = (round_trips_of b).message_written m rest l (length old) g in
      let x : w ≡ Ok (length (octets m)) =
      is ∙ ap₂ (λ (y : Draft) (z : List ℕ). write_of (rules_of b) y z (length old)) e f ∙ k.0 in
      let o : octets (message_of d t) ≡ octets m = ap octets (ap₂ message_of e f ∙ k.1) in
      (x, after ∙ ap₂ (λ (y : Result ℕ Fault) (z : List ℕ). output_after y z old) x o)

  -- a draft that is written is equal to the draft of its message, over any area that begins with the message's texts
  pub reads_back_by : (n : ℕ) → d.edition ≡ (rules_of b).edition → T (edition d.edition) → w ≡ Ok n →
      (rest : List ℕ) →
      Equal d t (draft_of (rules_of b) (message_of d t)) (texts_of (rules_of b) (message_of d t).parameters ++ rest)
  reads_back_by n v k e rest = (round_trips_of b).draft_again d t (length old) n v k (sym is ∙ e) rest

-- ---- by the draft's edition and a way (document 02, Q-5 and Q-11)
module _ (w : ℕ) (d : Draft) (t old : List ℕ) (r : Writing) (out : List ℕ) (h : WriteGives w d t old r out) where
  pub write_in_lem : r ≡ write_in w d t (length old)
  write_in_lem = h.3.0 ∙ (λ i. write_in (h.4 i) (h.5 i) (h.6 i) (length (h.7 i)))

  pub output_is : out ≡ output_after r.answer (octets (message_of d t)) old
  output_is = sym h.8 ∙ h.3.1 ∙ (λ i. output_after r.answer (octets (message_of (h.5 i) (h.6 i))) (h.7 i))

  -- unknown numbers get 16, and the output stays
  pub write_none : (T (known d.edition w) → ⊥) →
      (r ≡ (record { edition = 0; answer = unwritten 16 0 })) × (out ≡ old)
  unfolding write_in output_after
  write_none n =
      let e = write_in_lem ∙ pick_not _ _ _ n in
      (e, output_is ∙ ap (λ (x : Writing). output_after x.answer (octets (message_of d t)) old) e)

  module _ (k : T (known d.edition w)) where
    named : r ≡ record { edition = d.edition; answer = write_of (rules_of (book_for d w)) d t (length old) }
    unfolding write_in
    named = write_in_lem ∙ pick_yes _ _ _ k

    pub write_is : r.answer ≡ write_of (rules_of (book_for d w)) d t (length old)
    write_is = ap (λ (x : Writing). x.answer) named

    pub names_edition : r.edition ≡ d.edition
    names_edition = ap (λ (x : Writing). x.edition) named

    -- on a refusal the output is as it was
    pub refusal_keeps : (f : Fault) → r.answer ≡ Err f → out ≡ old
    refusal_keeps = keeps_by (book_for d w) d t old r.answer out write_is output_is

    -- answer and output by the book of known numbers (`Writes`)
    pub writing : Writes (rules_of (book_for d w)) d t old r.answer out
    writing = writing_by_book (book_for d w) d t old r.answer out write_is output_is

    -- the draft of a legal message, over an area that begins with its texts, is written as exactly its octets where
    -- there is room
    pub writes_back : (m : message.Message) → LegalMessage (rules_of (book_for d w)) m → (rest : List ℕ) →
        d ≡ draft_of (rules_of (book_for d w)) m → t ≡ texts_of (rules_of (book_for d w)) m.parameters ++ rest →
        length (octets m) ≤ length old →
        (r.answer ≡ Ok (length (octets m))) × (out ≡ laid (octets m) old)
    writes_back = writes_back_by (book_for d w) d t old r.answer out write_is output_is

    -- a draft that is written is equal to the draft of its message, over any area that begins with the message's texts
    pub reads_back : (n : ℕ) → r.answer ≡ Ok n → (rest : List ℕ) →
        Equal d t (draft_of (rules_of (book_for d w)) (message_of d t))
        (texts_of (rules_of (book_for d w)) (message_of d t).parameters ++ rest)
    reads_back n e rest =
        reads_back_by (book_for d w) d t old r.answer out write_is output_is n
        (sym (book_edition d.edition w k)) (edition_of_lem d.edition w k) e rest

  -- any draft, any way, any output: 16 exactly where a number is unknown, else by their book (`WritesBy`)
  pub writing_by : WritesBy w d t old r out
  unfolding told
  writing_by = go (decide (known d.edition w))
    where
      number_is : {x y : Told} → x ≡ y → x.number ≡ y.number
      number_is e = ap (λ (z : Told). z.number) e

      go : T (known d.edition w) ⊎ (T (known d.edition w) → ⊥) → WritesBy w d t old r out
      go (inl k) =
          record {
            by_book = λ _. writing k;
            sixteen = λ p. (
              λ e. absurd (let x = number_is e in omega (arith, x, ((writing k).answers.numbers (omega arith)).1)),
              λ e. absurd (e.1 k),
            );
            leaves = λ n. absurd (n k);
            names = λ _. names_edition k;
          }
      go (inr n) =
          let x = write_none n in
          let tells : told r.answer ≡ refusal 16 0 = ap (λ (y : Writing). told y.answer) x.0 in
          record {
            by_book = λ k. absurd (n k);
            sixteen = λ p. (
              λ e. (ap (λ (z : Told). z.place) (sym e ∙ tells), n),
              λ e. tells ∙ ap (λ (q : ℕ). refusal 16 q) (sym e.0),
            );
            leaves = λ _. (x.1, ap (λ (y : Writing). y.edition) x.0);
            names = λ k. absurd (n k);
          }

-- equal drafts, each with its text area, written by one way over one output, get the same answer and leave the same
-- output
pub equals_written : (w : ℕ) (d : Draft) (t : List ℕ) (e : Draft) (u old : List ℕ) (r r' : Writing)
    (out out' : List ℕ) → WriteGives w d t old r out → WriteGives w e u old r' out' → Equal d t e u →
    (r ≡ r') × (out ≡ out')
equals_written w d t e u old r r' out out' h k q = go (decide (known d.edition w))
  where
    same_edition : (x : ℕ) → d.edition ≡ x → T (known d.edition w) → T (known x w)
    same_edition x z t = subst (λ (y : ℕ). T (known y w)) z t

    outputs : r.answer ≡ r'.answer → out ≡ out'
    outputs x =
        output_is w d t old r out h
        ∙ ap₂ (λ (y : Result ℕ Fault) (m : message.Message). output_after y (octets m) old) x (equal_stand d t e u q)
        ∙ sym (output_is w e u old r' out' k)

    go : T (known d.edition w) ⊎ (T (known d.edition w) → ⊥) → (r ≡ r') × (out ≡ out')
    go (inl t') =
        let t'' = same_edition _ q.edition t' in
        let x =
        write_is w d t old r out h t'
        ∙ (round_trips_of (book_for d w)).equal_answer d t e u (length old) q
        ∙ ap (λ (y : ℕ). write_of (rules_of (book_of y w)) e u (length old)) q.edition
        ∙ sym (write_is w e u old r' out' k t'') in
        let v = names_edition w d t old r out h t' ∙ q.edition ∙ sym (names_edition w e u old r' out' k t'') in
        ((λ i. record { edition = v i; answer = x i }), outputs x)
    go (inr n) =
        let x = write_none w d t old r out h n in
        let y = write_none w e u old r' out' k (λ t'. n (subst (λ (z : ℕ). T (known z w)) (sym q.edition) t')) in
        (x.0 ∙ sym y.0, x.1 ∙ sym y.1)
