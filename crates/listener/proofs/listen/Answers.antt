-- `listener::listen` meets its contract: out of range it is 17; else, where its numbers are unknown, 16; else it is the
-- run by their book, and its answer.
-- Assumes nothing.
use Rattle.std.proofs.Common.{◌≡◌, ℕ, List, sym, ap, ◌∙◌}
use Rattle.rules.specs.Machine.{Machine, run}
use Rattle.rules.proofs.Returns.{pick_t, pick_f, T_of}
use Rattle.rules.specs.Language.{language_of}
use Rattle.rules.specs.declared.State.{State}
use Rattle.rules.specs.declared.Book.{Book}
use Rattle.listener.specs.Heard.{taken, answer_of, run_of, heard_in}
use Rattle.listener.specs.declared.Answer.{Answer}
use Rattle.listener.specs.declared.Listener.{Listener}
use Rattle.listener.specs.declared.Heard.{Heard}
use Rattle.listener.specs.declared.Ran.{Ran}
use Rattle.listener.proofs.listen.Goals as goal

-- the state, the answer and the octets taken of a run
together : (e w : ℕ) (M : Machine) (s : State) (h : List ℕ) (r : Ran) (a : Answer) → r ≡ run_of M s h →
    a ≡ answer_of r.state →
    ◌≡◌ {A = Heard}
    (record {
      listener = record { edition = e; way = w; state = r.state };
      answer = a;
      taken = r.taken;
      edition = e;
    })
    (record {
      listener = record { edition = e; way = w; state = run M s h };
      answer = answer_of (run M s h);
      taken = taken M s h;
      edition = e;
    })
unfolding run_of
together e w M s h r a p q = rw (q, p)

-- the book is that of the numbers
by_book : (l : Listener) (h : List ℕ) (b c : Book) (r : Heard) → b ≡ c → r ≡ heard_in (language_of b) l h →
    r ≡ heard_in (language_of c) l h
by_book l h b c r e p = p ∙ ap (λ (x : Book). heard_in (language_of x) l h) e

pub run-ran-requires : goal.run-ran-requires
run-ran-requires c = T_of _ (sym c.in_range.ensures ∙ c.if-not-in_range.false)

pub returns : goal.returns
unfolding heard_in
returns c =
    by_book _ _ _ _ _ c.book_of-book.ensures
    (pick_t _ _ _ _ (sym c.in_range.ensures ∙ c.if-not-in_range.false)
    (pick_t _ _ _ _ (sym c.is_known.ensures ∙ c.if-not-is_known.false)
    (together _ _ _ _ _ _ _ c.run-ran.ensures c.into.ensures)))

pub returns-then-not-is_known : goal.returns-then-not-is_known
unfolding heard_in
returns-then-not-is_known c =
    by_book _ _ _ _ _ c.book_of-book.ensures
    (pick_t _ _ _ _ (sym c.in_range.ensures ∙ c.if-not-in_range.false)
    (pick_f _ _ _ _ (sym c.is_known.ensures ∙ c.if-not-is_known.true) c.untaken-then-not-is_known.ensures))

pub returns-then-not-in_range : goal.returns-then-not-in_range
unfolding heard_in
returns-then-not-in_range c =
    by_book _ _ _ _ _ c.book_of-book.ensures
    (pick_f _ _ _ _ (sym c.in_range.ensures ∙ c.if-not-in_range.true) c.untaken.ensures)
