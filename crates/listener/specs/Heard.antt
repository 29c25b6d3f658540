-- What a call of the listener gives (document 01, Listening): the state after the octets, the answer, the octets
-- taken, and the edition that it names; 17 for a listener out of range, 16 for one whose edition or way is unknown
-- (document 02, Q-5 and Q-11).
-- Assumes nothing.
use Rattle.std.specs.Prelude.{◌≡◌, ℕ, suc, ◌+◌, ◌<◌, ◌≤◌, Bool, true, false, T, List, [], ◌∷◌, length, drop}
use Rattle.rules.specs.Tests.{pick}
use Rattle.rules.specs.Table.{Rules}
use Rattle.rules.specs.Editions.{known, book_of}
use Rattle.rules.specs.Refusals.{noted}
use Rattle.rules.specs.ContentJudge.{remember}
use Rattle.rules.specs.Machine.{Machine, moved, step, run, start}
use Rattle.rules.specs.Judge.{machine, in_range}
use Rattle.rules.specs.declared.Spot.{Spot}
use Rattle.rules.specs.declared.Stage.TheVariants.{Content}
use Rattle.rules.specs.declared.State.{State}
use Rattle.rules.specs.declared.State.TheVariants as state
use Rattle.rules.specs.Language.{Language, language_of}
use Rattle.listener.specs.declared.Listener.{Listener}
use Rattle.listener.specs.declared.Answer.{Answer}
use Rattle.listener.specs.declared.Answer.TheVariants.{Waits, Message, Refused}
use Rattle.listener.specs.declared.Heard.{Heard}
use Rattle.listener.specs.declared.Ran.{Ran}
use Rattle.listener.specs.declared.Frame.{Frame}
use Rattle.listener.specs.declared.Inside.{Inside}

-- it has its answer
unfoldable pub stopped : State → Bool
stopped (state.Waiting s q) = false
stopped (state.Message n) = true
stopped (state.Refused f) = true

-- octets taken: none after an answer
unfoldable pub taken : Machine → State → List ℕ → ℕ
taken M w [] = 0
taken M w (x ∷ h) = pick (stopped w) 0 (suc (taken M (step M w x) h))

unfoldable pub answer_of : State → Answer
answer_of (state.Waiting s q) = Waits
answer_of (state.Message n) = Message n
answer_of (state.Refused f) = Refused f

unfoldable pub run_of : Machine → State → List ℕ → Ran
run_of M w h = record { state = run M w h; taken = taken M w h }

-- the run from here on, where i octets are taken already
unfoldable pub run_from : ℕ → Machine → State → List ℕ → Ran
run_from i M w h = record { state = run M w h; taken = i + taken M w h }

-- contents that have come so far
abbrev pub inside_of : Frame → ℕ → ℕ → Spot → State
inside_of f i m q = state.Waiting (Content f.class f.length i m f.room) q

-- contents after octet x: the next index, what x leaves to remember, the next spot
unfoldable pub further : Rules → Frame → ℕ → ℕ → Spot → ℕ → Inside
further R f i m q x = record {
  index = suc i;
  memory = remember f.class f.length i m x;
  spot = moved (machine R) (Content f.class f.length i m f.room) q x;
}

-- the run of o that stands at octet i in the state w stands further on, at r's octet in r's state, which is in range
pub record Onward (R : Rules) (w : State) (o : List ℕ) (i : ℕ) (r : Ran) : Type 0 where
  pub further : i < r.taken
  pub inside : r.taken ≤ length o
  pub is_in_range : T (in_range R r.state)
  pub same : run_from r.taken (machine R) r.state (drop r.taken o) ≡ run_from i (machine R) w (drop i o)

-- a refusal that no octet causes: nothing taken, the listener as it was, and no edition named
abbrev pub untaken : ℕ → Listener → Heard
untaken k l = record { listener = l; answer = Refused (noted k 0); taken = 0; edition = 0 }

-- out of range: 17; in range, but its edition or its way is unknown: 16
abbrev pub out_of_range : Listener → Heard
out_of_range l = untaken 17 l

abbrev pub unknown_numbers : Listener → Heard
unknown_numbers l = untaken 16 l

-- in range: its language's machine runs over the octets that it takes, and the answer tells where that ends, and
-- names its edition
abbrev pub stepped : Language → Listener → List ℕ → Heard
stepped L l h = record {
  listener = record { edition = l.edition; way = l.way; state = run L.machine l.state h };
  answer = answer_of (run L.machine l.state h);
  taken = taken L.machine l.state h;
  edition = l.edition;
}

unfoldable pub heard_in : Language → Listener → List ℕ → Heard
heard_in L l h =
    pick (L.in_range l.state) (pick (known l.edition l.way) (stepped L l h) (unknown_numbers l))
    (out_of_range l)

-- by the book of its numbers
abbrev pub heard_of : Listener → List ℕ → Heard
heard_of l h = heard_in (language_of (book_of l.edition l.way)) l h

unfoldable pub new_listener : ℕ → ℕ → Listener
new_listener e w = record { edition = e; way = w; state = start (language_of (book_of e w)).machine }
