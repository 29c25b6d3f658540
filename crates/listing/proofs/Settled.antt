-- Every public promise settles its answer: two that it allows are equal. Nothing is lent for writing.
-- Assumes nothing.
use mathlib.Core.Path.{◌≡◌, sym, ◌∙◌}
use Rattle.listing.proofs.listing.Reads as listing
use Rattle.listing.proofs.ListingText.text.Reads as text
use Rattle.listing.proofs.kind_at.Reads as kind_at
use Rattle.listing.proofs.key_length.Reads as key_length
use Rattle.listing.proofs.says.Reads as says
use Rattle.listing.proofs.says_kind.Reads as says_kind
use Rattle.listing.proofs.says_end.Reads as says_end

pub listing_settled : (κs : _) (a : _) (r r' : _) (s s' : _) → listing.Post κs a r s → listing.Post κs a r' s' → r ≡ r'
listing_settled κs a r r' s s' p q = p ∙ sym q

pub kind_at_settled : (κs : _) (a : _) (r r' : _) (s s' : _) → kind_at.Post κs a r s → kind_at.Post κs a r' s' → r ≡ r'
kind_at_settled κs a r r' s s' p q = p ∙ sym q

pub key_length_settled : (κs : _) (a : _) (r r' : _) (s s' : _) → key_length.Post κs a r s →
    key_length.Post κs a r' s' → r ≡ r'
key_length_settled κs a r r' s s' p q = p ∙ sym q

pub says_settled : (κs : _) (a : _) (r r' : _) (s s' : _) → says.Post κs a r s → says.Post κs a r' s' → r ≡ r'
says_settled κs a r r' s s' p q = p ∙ sym q

pub says_kind_settled : (κs : _) (a : _) (r r' : _) (s s' : _) → says_kind.Post κs a r s → says_kind.Post κs a r' s' →
    r ≡ r'
says_kind_settled κs a r r' s s' p q = p ∙ sym q

pub says_end_settled : (κs : _) (a : _) (r r' : _) (s s' : _) → says_end.Post κs a r s → says_end.Post κs a r' s' →
    r ≡ r'
says_end_settled κs a r r' s s' p q = p ∙ sym q

pub text_settled : (κs : _) (a : _) (r r' : _) (s s' : _) → text.Post κs a r s → text.Post κs a r' s' → r.now ≡ r'.now
text_settled κs a r r' s s' p q = p ∙ sym q
