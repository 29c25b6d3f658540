-- There and back (demand 2): the message of a valid listing is accepted where it has at most 255 octets of parameters,
-- and its listing is the text; the listing of a legal message with each type once, in order, of which each counts, is
-- valid and says this message.
-- Assumes nothing.
use Rattle.std.proofs.Common.{◌≡◌, ℕ, ◌≤◌, T, List, [], ◌∷◌, length, sym, refl, ap, ◌∙◌, inl, inr, arith, length-append, Result, Ok}
use mathlib.Core.Option.{some}
use Rattle.rules.specs.Tests.{◌=?◌, ◌≤?◌, pick}
use Rattle.rules.specs.Table.{rules_of, listed, class_of}
use Rattle.rules.specs.Editions.{edition, book_of}
use Rattle.rules.specs.Unlisted.{AllListed}
use Rattle.rules.proofs.Ways.{strict_accepts}
use Rattle.rules.specs.declared.Book.TheVariants.{PresentStrict, PresentLenient}
use Rattle.rules.proofs.ContentLaw.{lawful, sound_rules}
use Rattle.rules.proofs.Unique.{unique_in}
use Rattle.rules.specs.Message.{Parameter, Message, body, octets, AllLegal, LegalMessage, Accepts}
use Rattle.rules.specs.Counting.{counted}
use Rattle.rules.proofs.Counting.{counted_iff}
use Rattle.rules.specs.declared.Fault.{Fault}
use Rattle.message.specs.Verdict.{verdict_of}
use Rattle.message.proofs.Told.{accepted_iff}
use Rattle.message.proofs.Judges.{judges_of}
use Rattle.message.proofs.Standing.{message_in_lem}
use Rattle.listing.specs.Listing.{written, message_lines, verdict_lines, listing_of}
use Rattle.listing.specs.Lists.{Has}
use Rattle.relist.specs.Sentences.{RisingKinds, Says}
use Rattle.relist.proofs.Valid.{R}

-- what showmsg prints of a legal message
listing_is : (m : Message) → LegalMessage R m → listing_of R (octets m) ≡ written (message_lines R m)
unfolding listing_of verdict_lines
listing_is m l =
    let w : Accepts R (octets m) = (m, l, refl) in
    let v : verdict_of R (octets m) ≡ Ok (length (octets m)) =
    (accepted_iff (judges_of PresentLenient (octets m) ((unique_in PresentLenient).octets (octets m) w))
    (length (octets m))).1 (refl, w) in
    ap (λ (x : Result ℕ Fault). written (verdict_lines R (octets m) x)) v
    ∙ ap (λ (x : Message). written (message_lines R x)) (message_in_lem R (sound_rules PresentLenient) m l)

-- a parameter has three octets at least
three : (ps : List Parameter) → AllLegal R ps → 1 ≤ length ps → 3 ≤ length (body ps)
unfolding body
three [] a h = absurd (omega arith)
three (p ∷ ps) a h =
    let c = class_of R p.kind in
    let n = (lawful c).least (length p.contents) ((lawful c).fit_length p.contents a.0.fits) in
    omega (arith, length-append p.contents (body ps))

all_listed : (ps : List Parameter) → ((p : Parameter) → Has ps p → T (listed R p.kind)) → AllListed R ps
all_listed [] f = tt
all_listed (p ∷ ps) f = (f p (inl refl), all_listed ps (λ q i. f q (inr i)))

-- ---- a listing, its message, and the listing of that
module _ (t : List ℕ) (m : Message) (s : Says R m t) (h : length (body m.parameters) ≤ 255) where
  pub said_legal : LegalMessage R m
  said_legal =
      record {
        kind = s.0.kind;
        parameters = s.0.legal;
        long = three m.parameters s.0.legal s.0.one;
        short = omega arith;
      }

  pub said_accepted : Accepts R (octets m)
  said_accepted = (m, said_legal, refl)

  -- by the strict way too: every type has a row
  pub said_strict : Accepts (rules_of PresentStrict) (octets m)
  unfolding book_of edition pick ◌=?◌ ◌≤?◌
  said_strict =
      (strict_accepts 0 tt (octets m)).1 (
        m,
        said_legal,
        all_listed m.parameters
            (λ p i. ((counted_iff R m p.kind p.contents).0 (s.0.counts p i)).listed),
        refl,
      )

  pub said_listing : listing_of R (octets m) ≡ t
  said_listing = listing_is m said_legal ∙ s.1

-- ---- a message, its listing, and the message of that
module _ (m : Message) (l : LegalMessage R m) (rising : RisingKinds 0 m.parameters)
    (counts : (p : Parameter) → Has m.parameters p → counted R m p.kind ≡ some p.contents) where
  some_parameter : (ps : List Parameter) → 3 ≤ length (body ps) → 1 ≤ length ps
  unfolding body
  some_parameter [] h = absurd (omega arith)
  some_parameter (p ∷ ps) h = omega arith

  pub listing_says : Says R m (listing_of R (octets m))
  listing_says = (
    record {
      kind = l.kind;
      legal = l.parameters;
      one = some_parameter m.parameters l.long;
      rising = rising;
      counts = counts;
    },
    sym (listing_is m l),
  )
