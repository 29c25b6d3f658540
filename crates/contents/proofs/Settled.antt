-- Every public promise settles its answer: two that it allows are equal. Nothing is lent for writing.
-- Assumes nothing.
use mathlib.Core.Path.{◌≡◌, sym, ◌∙◌}
use Rattle.contents.proofs.asks.Reads as asks
use Rattle.contents.proofs.content_ok.Reads as content_ok
use Rattle.contents.proofs.remember.Reads as remember
use Rattle.contents.proofs.first_wrong.Reads as first_wrong
use Rattle.contents.proofs.fits.Reads as fits

pub asks_settled : (κs : _) (a : _) (r r' : _) (s s' : _) → asks.Post κs a r s →
    asks.Post κs a r' s' → r ≡ r'
asks_settled κs a r r' s s' p q = p ∙ sym q

pub content_ok_settled : (κs : _) (a : _) (r r' : _) (s s' : _) → content_ok.Post κs a r s →
    content_ok.Post κs a r' s' → r ≡ r'
content_ok_settled κs a r r' s s' p q = p ∙ sym q

pub remember_settled : (κs : _) (a : _) (r r' : _) (s s' : _) → remember.Post κs a r s → remember.Post κs a r' s' →
    r ≡ r'
remember_settled κs a r r' s s' p q = p ∙ sym q

pub first_wrong_settled : (κs : _) (a : _) (r r' : _) (s s' : _) → first_wrong.Post κs a r s →
    first_wrong.Post κs a r' s' → r ≡ r'
first_wrong_settled κs a r r' s s' p q = p ∙ sym q

pub fits_settled : (κs : _) (a : _) (r r' : _) (s s' : _) → fits.Post κs a r s → fits.Post κs a r' s' → r ≡ r'
fits_settled κs a r r' s s' p q = p ∙ sym q
