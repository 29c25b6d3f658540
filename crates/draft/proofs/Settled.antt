-- Every public promise settles its answer: two that it allows are equal. Nothing is lent for writing.
-- Assumes nothing.
use mathlib.Core.Path.{◌≡◌, sym, ◌∙◌}
use Rattle.draft.proofs.no_entry.Reads as no_entry
use Rattle.draft.proofs.empty.Reads as empty
use Rattle.draft.proofs.has_text.Reads as has_text
use Rattle.draft.proofs.form_of.Reads as form_of
use Rattle.draft.proofs.flatten.Reads as flatten
use Rattle.draft.proofs.text_length.Reads as text_length
use Rattle.draft.proofs.lies.Reads as lies
use Rattle.draft.proofs.same.Reads as same

pub no_entry_settled : (κs : _) (a : _) (r r' : _) (s s' : _) → no_entry.Post κs a r s → no_entry.Post κs a r' s' →
    r ≡ r'
no_entry_settled κs a r r' s s' p q = p ∙ sym q

pub empty_settled : (κs : _) (a : _) (r r' : _) (s s' : _) → empty.Post κs a r s → empty.Post κs a r' s' → r ≡ r'
empty_settled κs a r r' s s' p q = p ∙ sym q

pub has_text_settled : (κs : _) (a : _) (r r' : _) (s s' : _) → has_text.Post κs a r s → has_text.Post κs a r' s' →
    r ≡ r'
has_text_settled κs a r r' s s' p q = p ∙ sym q

pub form_of_settled : (κs : _) (a : _) (r r' : _) (s s' : _) → form_of.Post κs a r s → form_of.Post κs a r' s' → r ≡ r'
form_of_settled κs a r r' s s' p q = p ∙ sym q

pub flatten_settled : (κs : _) (a : _) (r r' : _) (s s' : _) → flatten.Post κs a r s → flatten.Post κs a r' s' → r ≡ r'
flatten_settled κs a r r' s s' p q = p ∙ sym q

pub text_length_settled : (κs : _) (a : _) (r r' : _) (s s' : _) → text_length.Post κs a r s →
    text_length.Post κs a r' s' → r ≡ r'
text_length_settled κs a r r' s s' p q = p ∙ sym q

pub lies_settled : (κs : _) (a : _) (r r' : _) (s s' : _) → lies.Post κs a r s → lies.Post κs a r' s' → r ≡ r'
lies_settled κs a r r' s s' p q = p ∙ sym q

pub same_settled : (κs : _) (a : _) (r r' : _) (s s' : _) → same.Post κs a r s → same.Post κs a r' s' → r ≡ r'
same_settled κs a r r' s s' p q = p ∙ sym q
