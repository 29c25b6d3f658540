-- Every public promise settles its answer: two that it allows are equal. Nothing is lent for writing.
-- Assumes nothing.
use mathlib.Core.Path.{◌≡◌, sym, ◌∙◌}
use Rattle.rules.proofs.class_coded.Reads as class_coded
use Rattle.rules.proofs.class_of.Reads as class_of
use Rattle.rules.proofs.code_of.Reads as code_of
use Rattle.rules.proofs.form_of.Reads as form_of
use Rattle.rules.proofs.rival_of.Reads as rival_of
use Rattle.rules.proofs.is_listed.Reads as is_listed
use Rattle.rules.proofs.is_strict.Reads as is_strict
use Rattle.rules.proofs.class_fault.Reads as class_fault
use Rattle.rules.proofs.noted.Reads as noted
use Rattle.rules.proofs.reference_of.Reads as reference_of
use Rattle.rules.proofs.length_fits.Reads as length_fits
use Rattle.rules.proofs.possible.Reads as possible
use Rattle.rules.proofs.among.Reads as among
use Rattle.rules.proofs.message_kind.Reads as message_kind
use Rattle.rules.proofs.same_octets.Reads as same_octets
use Rattle.rules.proofs.code_in.Reads as code_in
use Rattle.rules.proofs.named_by.Reads as named_by
use Rattle.rules.proofs.edition_of.Reads as edition_of
use Rattle.rules.proofs.book_of.Reads as book_of
use Rattle.rules.proofs.known_book.Reads as known_book
use Rattle.rules.proofs.is_known.Reads as is_known
use Rattle.rules.proofs.is_edition.Reads as is_edition

pub class_coded_settled : (κs : _) (a : _) (r r' : _) (s s' : _) → class_coded.Post κs a r s →
    class_coded.Post κs a r' s' → r ≡ r'
class_coded_settled κs a r r' s s' p q = p ∙ sym q

pub class_of_settled : (κs : _) (a : _) (r r' : _) (s s' : _) → class_of.Post κs a r s → class_of.Post κs a r' s' →
    r ≡ r'
class_of_settled κs a r r' s s' p q = p ∙ sym q

pub length_fits_settled : (κs : _) (a : _) (r r' : _) (s s' : _) → length_fits.Post κs a r s →
    length_fits.Post κs a r' s' → r ≡ r'
length_fits_settled κs a r r' s s' p q = p ∙ sym q

pub possible_settled : (κs : _) (a : _) (r r' : _) (s s' : _) → possible.Post κs a r s → possible.Post κs a r' s' →
    r ≡ r'
possible_settled κs a r r' s s' p q = p ∙ sym q

pub among_settled : (κs : _) (a : _) (r r' : _) (s s' : _) → among.Post κs a r s →
    among.Post κs a r' s' → r ≡ r'
among_settled κs a r r' s s' p q = p ∙ sym q

pub message_kind_settled : (κs : _) (a : _) (r r' : _) (s s' : _) → message_kind.Post κs a r s →
    message_kind.Post κs a r' s' → r ≡ r'
message_kind_settled κs a r r' s s' p q = p ∙ sym q

pub code_of_settled : (κs : _) (a : _) (r r' : _) (s s' : _) → code_of.Post κs a r s → code_of.Post κs a r' s' →
    r ≡ r'
code_of_settled κs a r r' s s' p q = p ∙ sym q

pub form_of_settled : (κs : _) (a : _) (r r' : _) (s s' : _) → form_of.Post κs a r s → form_of.Post κs a r' s' → r ≡ r'
form_of_settled κs a r r' s s' p q = p ∙ sym q

pub is_listed_settled : (κs : _) (a : _) (r r' : _) (s s' : _) → is_listed.Post κs a r s →
    is_listed.Post κs a r' s' → r ≡ r'
is_listed_settled κs a r r' s s' p q = p ∙ sym q

pub rival_of_settled : (κs : _) (a : _) (r r' : _) (s s' : _) → rival_of.Post κs a r s → rival_of.Post κs a r' s' →
    r ≡ r'
rival_of_settled κs a r r' s s' p q = p ∙ sym q

pub same_octets_settled : (κs : _) (a : _) (r r' : _) (s s' : _) → same_octets.Post κs a r s →
    same_octets.Post κs a r' s' → r ≡ r'
same_octets_settled κs a r r' s s' p q = p ∙ sym q

pub is_strict_settled : (κs : _) (a : _) (r r' : _) (s s' : _) → is_strict.Post κs a r s →
    is_strict.Post κs a r' s' → r ≡ r'
is_strict_settled κs a r r' s s' p q = p ∙ sym q

pub class_fault_settled : (κs : _) (a : _) (r r' : _) (s s' : _) → class_fault.Post κs a r s →
    class_fault.Post κs a r' s' → r ≡ r'
class_fault_settled κs a r r' s s' p q = p ∙ sym q

pub noted_settled : (κs : _) (a : _) (r r' : _) (s s' : _) → noted.Post κs a r s → noted.Post κs a r' s' → r ≡ r'
noted_settled κs a r r' s s' p q = p ∙ sym q

pub reference_of_settled : (κs : _) (a : _) (r r' : _) (s s' : _) → reference_of.Post κs a r s →
    reference_of.Post κs a r' s' → r ≡ r'
reference_of_settled κs a r r' s s' p q = p ∙ sym q

pub is_edition_settled : (κs : _) (a : _) (r r' : _) (s s' : _) → is_edition.Post κs a r s → is_edition.Post κs a r' s' →
    r ≡ r'
is_edition_settled κs a r r' s s' p q = p ∙ sym q

pub is_known_settled : (κs : _) (a : _) (r r' : _) (s s' : _) → is_known.Post κs a r s → is_known.Post κs a r' s' →
    r ≡ r'
is_known_settled κs a r r' s s' p q = p ∙ sym q

pub book_of_settled : (κs : _) (a : _) (r r' : _) (s s' : _) → book_of.Post κs a r s → book_of.Post κs a r' s' →
    r ≡ r'
book_of_settled κs a r r' s s' p q = p ∙ sym q

pub known_book_settled : (κs : _) (a : _) (r r' : _) (s s' : _) → known_book.Post κs a r s → known_book.Post κs a r' s' →
    r ≡ r'
known_book_settled κs a r r' s s' p q = p ∙ sym q

pub edition_of_settled : (κs : _) (a : _) (r r' : _) (s s' : _) → edition_of.Post κs a r s → edition_of.Post κs a r' s' →
    r ≡ r'
edition_of_settled κs a r r' s s' p q = p ∙ sym q

pub named_by_settled : (κs : _) (a : _) (r r' : _) (s s' : _) → named_by.Post κs a r s → named_by.Post κs a r' s' →
    r ≡ r'
named_by_settled κs a r r' s s' p q = p ∙ sym q

pub code_in_settled : (κs : _) (a : _) (r r' : _) (s s' : _) → code_in.Post κs a r s → code_in.Post κs a r' s' →
    r ≡ r'
code_in_settled κs a r r' s s' p q = p ∙ sym q
