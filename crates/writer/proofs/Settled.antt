-- Every public promise settles its outcome: two that it allows are equal, the answer and, of `write`, what the output
-- holds afterwards.
-- Assumes nothing.
use Rattle.std.proofs.Common.{◌≡◌, sym, ap, ◌∙◌}
use Rattle.rules.specs.Message.{octets}
use Rattle.draft.specs.Draft.{message_of}
use Rattle.writer.specs.Writing.{output_after}
use Rattle.writer.specs.Writing.{Writing}
use Rattle.writer.proofs.write.Reads as write
use Rattle.writer.proofs.sum_of.Reads as sum_of
use Rattle.writer.proofs.with_room.Reads as with_room
use Rattle.writer.proofs.refusal.Reads as refusal

pub refusal_settled : (κs : _) (a : _) (r r' : _) (s s' : _) → refusal.Post κs a r s → refusal.Post κs a r' s' → r ≡ r'
refusal_settled κs a r r' s s' p q = p ∙ sym q

pub with_room_settled : (κs : _) (a : _) (r r' : _) (s s' : _) → with_room.Post κs a r s → with_room.Post κs a r' s' →
    r ≡ r'
with_room_settled κs a r r' s s' p q = p ∙ sym q

pub sum_of_settled : (κs : _) (a : _) (r r' : _) (s s' : _) → sum_of.Post κs a r s → sum_of.Post κs a r' s' → r ≡ r'
sum_of_settled κs a r r' s s' p q = p ∙ sym q

pub write_settled : (κs : _) (a : _) (r r' : _) (s s' : _) → write.Post κs a r s → write.Post κs a r' s' →
    (r ≡ r') × (s.1.1.1.0.now ≡ s'.1.1.1.0.now)
write_settled κs a r r' s s' p q =
    let e = p.0 ∙ sym q.0 in (
      e,
      p.1
          ∙ ap (λ (w : Writing). output_after w.answer (octets (message_of a.1.0 a.1.1.0.now)) a.1.1.1.0.now) e
          ∙ sym q.1,
    )
