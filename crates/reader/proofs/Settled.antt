-- Every public promise settles its answer and the area that was lent: two outcomes that it allows are equal.
-- Assumes nothing.
use mathlib.Core.Path.{◌≡◌, sym, ◌∙◌}
use Rattle.reader.proofs.fits.Reads as fits
use Rattle.reader.proofs.pack.Reads as pack
use Rattle.reader.proofs.entry_of.Reads as entry_of
use Rattle.reader.proofs.entry.Reads as entry
use Rattle.reader.proofs.read_way.Reads as read_way
use Rattle.reader.proofs.read.Reads as read

pub fits_settled : (κs : _) (a : _) (r r' : _) (s s' : _) → fits.Post κs a r s → fits.Post κs a r' s' → r ≡ r'
fits_settled κs a r r' s s' p q = p ∙ sym q

pub pack_settled : (κs : _) (a : _) (r r' : _) (s s' : _) → pack.Post κs a r s → pack.Post κs a r' s' →
    (r ≡ r') × (s.1.1.0.now ≡ s'.1.1.0.now)
pack_settled κs a r r' s s' p q = (p.0 ∙ sym q.0, p.1 ∙ sym q.1)

pub entry_of_settled : (κs : _) (a : _) (r r' : _) (s s' : _) → entry_of.Post κs a r s → entry_of.Post κs a r' s' →
    r ≡ r'
entry_of_settled κs a r r' s s' p q = p ∙ sym q

pub entry_settled : (κs : _) (a : _) (r r' : _) (s s' : _) → entry.Post κs a r s → entry.Post κs a r' s' → r ≡ r'
entry_settled κs a r r' s s' p q = p ∙ sym q

pub read_way_settled : (κs : _) (a : _) (r r' : _) (s s' : _) → read_way.Post κs a r s → read_way.Post κs a r' s' →
    (r ≡ r') × (s.1.1.1.0.now ≡ s'.1.1.1.0.now)
read_way_settled κs a r r' s s' p q = (p.0 ∙ sym q.0, p.1 ∙ sym q.1)

pub read_settled : (κs : _) (a : _) (r r' : _) (s s' : _) → read.Post κs a r s → read.Post κs a r' s' →
    (r ≡ r') × (s.1.1.0.now ≡ s'.1.1.0.now)
read_settled κs a r r' s s' p q = (p.0 ∙ sym q.0, p.1 ∙ sym q.1)
