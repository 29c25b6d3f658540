-- `firmware::anthercup_listen` meets its contract: a record that stands for a listener is heard and written anew; any
-- other is 17.
-- Assumes nothing.
use mathlib.Core.Path.{sym, ◌∙◌}
use native.Mathlib.Omega.{arith}
use Rattle.rules.proofs.Octets.{octets_at}
use Rattle.listener.proofs.Hears.{taken_small}
use Rattle.firmware.proofs.Coding.{known_size}
use Rattle.firmware.proofs.ListenerRecord.{known_answers, unknown_answers}
use Rattle.firmware.proofs.anthercup_listen.Goals as goal

pub encode-requires : goal.encode-requires
encode-requires c = known_size _ _ (sym c.decode.ensures ∙ c.in-Some.is)

pub word_of-word-requires : goal.word_of-word-requires
word_of-word-requires c =
    rw c.listen-heard.ensures
    (taken_small _ _ (octets_at c.args.octets.now (λ i. omega (arith, c.shared_slice_known-1.given i))))

pub returns : goal.returns
returns c =
    known_answers _ _ _ c.decode.ensures _ _ _ _ c.in-Some.is c.listen-heard.ensures c.word_of-word.ensures
    c.encode.ensures

pub returns-in_default : goal.returns-in_default
returns-in_default c = unknown_answers _ _ _ c.decode.ensures _ c.in_default.is c.plain.ensures
