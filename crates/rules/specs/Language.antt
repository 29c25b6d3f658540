-- A language of messages: which octets it accepts, the role of each octet of a message, and the machine that
-- judges octets as they come.
-- Listener and verdict need no more of it: a second message format is a second language.
-- Assumes nothing.
use Rattle.std.specs.Prelude.{ℕ, Bool, List}
use Rattle.rules.specs.Table.{Rules, rules_of}
use Rattle.rules.specs.Message.{Accepts}
use Rattle.rules.specs.Roles.{Role, roles}
use Rattle.rules.specs.Machine.{Machine}
use Rattle.rules.specs.Judge.{machine, given, in_range}
use Rattle.rules.specs.declared.Book.{Book}
use Rattle.rules.specs.declared.State.{State}

pub record Language : Type 1 where
  -- the octets that are messages, and the role of each octet of a message
  pub Accepts : List ℕ → Type 0
  pub roles : (o : List ℕ) → Accepts o → List Role
  -- the numbers that its octets are refused with
  pub given : ℕ → Bool
  -- its machine, and the states on which that can be stepped
  pub machine : Machine
  pub in_range : State → Bool

-- call messages and notices by some rules
abbrev pub calls : Rules → Language
calls R =
    record {
      Accepts = Accepts R;
      roles = λ o a. roles R a.0;
      given = given R;
      machine = machine R;
      in_range = in_range R;
    }

abbrev pub language_of : Book → Language
language_of b = calls (rules_of b)
