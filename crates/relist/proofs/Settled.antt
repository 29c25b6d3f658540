-- The promise of `message_of` settles its outcome: two that it allows are equal, the answer and what the output holds
-- afterwards.
-- Assumes nothing.
use Rattle.std.proofs.Common.{◌≡◌, sym, ap, ◌∙◌}
use Rattle.rules.specs.Message.{octets}
use Rattle.rules.specs.Table.{rules_of}
use Rattle.rules.specs.declared.Book.TheVariants.{PresentLenient}
use Rattle.writer.specs.Writing.{output_after}
use Rattle.writer.specs.Writing.{Writing}
use Rattle.relist.specs.Relist.{message_for}
use Rattle.relist.proofs.message_of.Reads as message_of

pub message_of_settled : (κs : _) (a : _) (r r' : _) (s s' : _) → message_of.Post κs a r s →
    message_of.Post κs a r' s' → (r ≡ r') × (s.1.0.now ≡ s'.1.0.now)
message_of_settled κs a r r' s s' p q =
    let e = p.0 ∙ sym q.0 in (
      e,
      p.1
          ∙ ap (λ (w : Writing). output_after w.answer (octets (message_for (rules_of PresentLenient) a.0.now))
          a.1.0.now) e
          ∙ sym q.1,
    )
