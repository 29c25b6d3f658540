-- `listing::text_of` meets its contract: the text, and what it was not laid over is still zeros.
-- Assumes nothing.
use Rattle.std.proofs.Common.{ap, ◌∙◌, ◌++◌, length}
use Rattle.std.proofs.lemmas.List.{drop-replicate}
use Rattle.listing.specs.Listing.{buffer_of}
use Rattle.listing.proofs.text_of.Goals as goal

pub returns : goal.returns
unfolding buffer_of
returns c =
    let text = c.as_slice-text.result.now in
    let zeros = drop-replicate (length text) 553 0 in
    (λ i. record { octets = c.copy_from_slice.ensures.after i ++ zeros i; length = length text })
    ∙ ap (buffer_of) c.as_slice-text.ensures.value
