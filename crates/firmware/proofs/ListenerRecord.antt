-- A call on a listener's record: what it answers and leaves, by the listener that the record stands for.
-- Assumes nothing.
use Rattle.std.proofs.Common.{Option, Some, None}
use mathlib.Core.Path.{◌≡◌, sym, ◌∙◌, ap}
use mathlib.Core.List.{List}
use Prim.Native.Nat.{ℕ}
use Rattle.listener.specs.declared.Listener.{Listener}
use Rattle.listener.specs.declared.Heard.{Heard}
use Rattle.listener.specs.Told.{told}
use Rattle.listener.specs.Heard.{heard_of}
use Rattle.firmware.specs.Record.{decode_of, record_of}
use Rattle.firmware.specs.Word.{packed}
use Rattle.firmware.specs.Exports.{bad_record, word_of, answered, recorded, listen_answer, listen_record}

-- ---- a call of the listener
module _ (c o : List ℕ) (got : Option Listener) (p : got ≡ decode_of c) where
  pub known_answers : (l : Listener) (h : Heard) (w : ℕ) (last : List ℕ) → got ≡ Some l → h ≡ heard_of l o →
      w ≡ packed h.edition (told h.answer).number (told h.answer).place (told h.answer).parameter
      (told h.answer).size h.taken → last ≡ record_of h.listener → (w ≡ listen_answer c o) × (last ≡ listen_record c o)
  unfolding listen_answer listen_record answered recorded word_of
  known_answers l h w last q k f g =
      let e : decode_of c ≡ Some l = sym p ∙ q in
      (rw e (f ∙ ap word_of k), rw e (g ∙ ap (λ (x : Heard). record_of x.listener) k))

  pub unknown_answers : (r : ℕ) → got ≡ None → r ≡ bad_record → (r ≡ listen_answer c o) × (c ≡ listen_record c o)
  unfolding listen_answer listen_record answered recorded
  unknown_answers r q g = let e : decode_of c ≡ None = sym p ∙ q in (rw e g, rw e)
