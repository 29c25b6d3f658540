-- What the promise of `message_of` says of any text, over the written rules; and, with that of `listing`, there and
-- back (demand 2).
-- Assumes nothing.
use Rattle.std.proofs.Common.{◌≡◌, ℕ, ◌≤◌, List, length, take, sym, refl, ap, ◌∙◌, subst, arith, Result, Err}
use mathlib.Core.Option.{some}
use Rattle.rules.specs.Message.{Parameter, Message, octets, LegalMessage}
use Rattle.rules.proofs.Sizes.{octets-length}
use Rattle.rules.specs.Counting.{counted}
use Rattle.listing.specs.declared.ListingText.{ListingText}
use Rattle.listing.specs.Listing.{listing_of}
use Rattle.listing.specs.Lists.{Has}
use Rattle.listing.proofs.Promised.{ListingGives, shown, lists}
use Rattle.rules.specs.declared.Fault.{Fault}
use Rattle.writer.specs.Writing.{Writing}
use Rattle.writer.specs.Writing.{output_after}
use Rattle.writer.specs.Told.{told, success, refusal}
use Rattle.relist.specs.Relist.{message_for, relisted, relisting, limit}
use Rattle.relist.specs.Sentences.{RisingKinds, Says, Returned, Relists}
use Rattle.relist.proofs.Valid.{R}
use Rattle.relist.proofs.Answers.{Refusal, refusals, relists}
use Rattle.relist.proofs.RoundTrips.{said_listing, listing_says}
use Rattle.relist.proofs.Enough.{enough, enough_output}
use Rattle.relist.proofs.message_of.Reads as message_of

-- of the text t, `message_of` answers w; the output held `old` and then holds `out`
abbrev pub MessageOfGives : List ℕ → List ℕ → Writing → List ℕ → Type 0
MessageOfGives t old w out =
    (κs : _) × (a : _) × (s : _) × message_of.Post κs a w s × (a.0.now ≡ t) × (a.1.0.now ≡ old)
    × (s.1.0.now ≡ out)

module _ (t old : List ℕ) (w : Writing) (out : List ℕ) (h : MessageOfGives t old w out) where
  answer_is : w ≡ relisting R t (length old)
  answer_is = h.3.0 ∙ (λ i. relisting R (h.4 i) (length (h.5 i)))

  output_is : out ≡ output_after (relisted R t (length old)) (octets (message_for R t)) old
  unfolding relisting
  output_is =
      sym h.6 ∙ h.3.1 ∙ (λ i. output_after w.answer (octets (message_for R (h.4 i))) (h.5 i))
      ∙ ap (λ (x : Writing). output_after x.answer (octets (message_for R t)) old) answer_is

  -- each answer exactly where the sentences have it, and what the output then holds
  pub follows : Relists R t old w out
  follows =
      subst (λ (x : Writing). Relists R t old x out) (sym answer_is)
      (subst (Relists R t old (relisting R t (length old))) (sym output_is) (relists t old))

  -- what showmsg prints of the message is the text
  pub shown_again : (n : ℕ) → told w.answer ≡ success n → (r : ListingText) → ListingGives (take n out) r →
      shown r ≡ t
  shown_again n e r g =
      let m = (follows.message n).0 e in
      lists (take n out) r g
      ∙ ap (listing_of R) (follows.lays m.0 n m.1 e).begins
      ∙ said_listing t m.0 m.1 m.2

  -- a refusal has one of three numbers, names no parameter, and leaves the output
  pub refuses : (f : Fault) → w.answer ≡ Err f → Refusal f × (out ≡ old)
  unfolding relisting output_after
  refuses f e =
      let q : relisted R t (length old) ≡ Err f = sym (ap (λ (x : Writing). x.answer) answer_is) ∙ e in (
        refusals t (length old) f q,
        output_is ∙ ap (λ (x : Result ℕ Fault). output_after x (octets (message_for R t)) old) q,
      )

  -- 258 octets are always enough
  pub room_enough : 258 ≤ length old → (p : ℕ) → told w.answer ≡ refusal 15 p → ⊥
  room_enough k p e =
      let m = (follows.fifteen p).0 e in absurd (omega (arith, octets-length m.0, m.2, m.3, m.4))

-- ---- the listing of a message with each type once, in order, of which each counts, gives exactly its octets
module _ (m : Message) (l : LegalMessage R m) (rising : RisingKinds 0 m.parameters)
    (counts : (p : Parameter) → Has m.parameters p → counted R m p.kind ≡ some p.contents) (r : ListingText)
    (g : ListingGives (octets m) r) (old : List ℕ) (w : Writing) (out : List ℕ)
    (h : MessageOfGives (shown r) old w out) (room : length (octets m) ≤ length old) where
  says : Says R m (shown r)
  says = subst (Says R m) (sym (lists (octets m) r g)) (listing_says m l rising counts)

  pub made_again : (told w.answer ≡ success (length (octets m))) × Returned R old out m (length (octets m))
  made_again =
      let f = follows (shown r) old w out h in
      let e = (f.message (length (octets m))).1 (m, says, (let z = l.short in omega arith), refl, room) in
      (e, f.lays m (length (octets m)) says e)

-- ---- what the first 8,192 octets of a text get, all of it gets
pub reads_enough : (t old : List ℕ) (w w' : Writing) (out out' : List ℕ) → MessageOfGives (take limit t) old w out →
    MessageOfGives t old w' out' → (w ≡ w') × (out ≡ out')
reads_enough t old w w' out out' h h' = (
  answer_is (take limit t) old w out h ∙ enough t (length old) ∙ sym (answer_is t old w' out' h'),
  output_is (take limit t) old w out h ∙ enough_output t old ∙ sym (output_is t old w' out' h'),
)
