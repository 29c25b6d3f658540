-- What the promises of `read_way`, `read`, `pack` and `fits` say of any octets and any area, over the written rules.
-- Assumes nothing.
use Rattle.std.proofs.Common.{Result, Ok, Err}
use Prim.Native.Nat.{ℕ}
use mathlib.Core.Path.{◌≡◌, refl, sym, ◌∙◌, subst}
use mathlib.Core.Logic.{◌⊎◌, inl, inr}
use mathlib.Core.List.{List}
use lib.ListN.{length}
use lib.Dec.{T}
use Rattle.rules.specs.Editions.{strict, known, book_of}
use Rattle.rules.proofs.Tests.{decide, pick_yes, pick_not}
use Rattle.rules.specs.Octets.{Octets}
use Rattle.rules.specs.Table.{rules_of}
use Rattle.rules.proofs.ContentLaw.{sound_rules}
use Rattle.rules.specs.declared.Book.{Book}
use Rattle.reader.specs.declared.Reading.{Reading}
use Rattle.reader.specs.Read.{pack_of, fitting_of, read_of, area_after, unreadable, read_in, area_in}
use Rattle.reader.specs.Told.{told, told_fitting}
use Rattle.reader.specs.Reads.{Reads, ReadsBy}
use Rattle.reader.proofs.ByEdition.{by_known, by_unknown}
use Rattle.reader.proofs.Answered.{reads_of}
use Rattle.reader.proofs.read_way.Reads as read_way
use Rattle.reader.proofs.read.Reads as read
use Rattle.reader.proofs.pack.Reads as pack
use Rattle.reader.proofs.fits.Reads as fits
use Rattle.rules.specs.declared.Fault.{Fault}

-- by the edition e and the way w, of the octets o, `read_way` answers r; the area held `old` and then holds `area`
abbrev pub ReadWayGives : ℕ → ℕ → List ℕ → List ℕ → Reading → List ℕ → Type 0
ReadWayGives e w o old r area =
    (κs : _) × (a : _) × (s : _) × read_way.Post κs a r s × (a.0 ≡ e) × (a.1.0 ≡ w) × (a.1.1.0.now ≡ o)
    × (a.1.1.1.0.now ≡ old) × (s.1.1.1.0.now ≡ area)

-- likewise `read`, no way named
abbrev pub ReadUnnamedGives : ℕ → List ℕ → List ℕ → Reading → List ℕ → Type 0
ReadUnnamedGives e o old r area =
    (κs : _) × (a : _) × (s : _) × read.Post κs a r s × (a.0 ≡ e) × (a.1.0.now ≡ o) × (a.1.1.0.now ≡ old)
    × (s.1.1.0.now ≡ area)

-- a whole read by the edition e and the way w: `read_way`, or, where that is the strict one, `read`
abbrev pub ReadGives : ℕ → ℕ → List ℕ → List ℕ → Reading → List ℕ → Type 0
ReadGives e w o old r area = ReadWayGives e w o old r area ⊎ ((w ≡ strict) × ReadUnnamedGives e o old r area)

-- answer and area are those of the definitions, whichever of the two was called
pub read_told : (e w : ℕ) (o old : List ℕ) (r : Reading) (area : List ℕ) → ReadGives e w o old r area →
    (r ≡ read_in e w o (length old)) × (area ≡ area_in e w o old)
read_told e w o old r area (inl h) = (
  h.3.0 ∙ (λ i. read_in (h.4 i) (h.5 i) (h.6 i) (length (h.7 i))),
  sym h.8 ∙ h.3.1 ∙ (λ i. area_in (h.4 i) (h.5 i) (h.6 i) (h.7 i)),
)
read_told e w o old r area (inr (z, h)) = (
  h.3.0 ∙ (λ i. read_in (h.4 i) (sym z i) (h.5 i) (length (h.6 i))),
  sym h.7 ∙ h.3.1 ∙ (λ i. area_in (h.4 i) (sym z i) (h.5 i) (h.6 i)),
)

-- likewise by a book `pack`, which lays down the texts and gives no draft
abbrev pub PackGives : Book → List ℕ → List ℕ → Result ℕ Fault → List ℕ → Type 0
PackGives b o old w area =
    (κs : _) × (a : _) × (s : _) × pack.Post κs a w s × (a.0 ≡ b) × (a.1.0.now ≡ o) × (a.1.1.0.now ≡ old)
    × (s.1.1.0.now ≡ area)

-- likewise `fits`, of an area of so many octets: it lays nothing down
abbrev pub FitsGives : Book → List ℕ → ℕ → Result (Unit {0}) Fault → Type 0
FitsGives b o room w =
    (κs : _) × (a : _) × (s : _) × fits.Post κs a w s × (a.0 ≡ b) × (a.1.0.now ≡ o) × (a.1.1.0 ≡ room)

-- whether a read goes through tells its number, place and parameter
same_refusal : (p : Result ℕ Fault) →
    ((told_fitting (fitting_of p)).number ≡ (told p).number) × ((told_fitting (fitting_of p)).place ≡ (told p).place)
    × ((told_fitting (fitting_of p)).parameter ≡ (told p).parameter)
unfolding told_fitting fitting_of told
same_refusal (Ok n) = (refl, refl, refl)
same_refusal (Err f) = (refl, refl, refl)

module _ (b : Book) (o old : List ℕ) where
  reads_so : (r : Reading) (area : List ℕ) → r ≡ read_of (rules_of b) o (length old) →
      area ≡ area_after (rules_of b) o old → Octets o → Reads (rules_of b) o old r area
  reads_so r area e f q =
      subst (λ (x : Reading). Reads (rules_of b) o old x area) (sym e)
      (subst (Reads (rules_of b) o old (read_of (rules_of b) o (length old))) (sym f)
      (reads_of (rules_of b) (sound_rules b) o old q))

  -- `pack` answers and lays down what a read does
  pub packs : (w : Result ℕ Fault) (area : List ℕ) → PackGives b o old w area → Octets o →
      (r : Reading) × (r.answer ≡ w) × Reads (rules_of b) o old r area
  unfolding read_of
  packs w area h q =
      let e = h.3.0 ∙ (λ i. pack_of (rules_of (h.4 i)) (h.5 i) (length (h.6 i))) in
      let f = sym h.7 ∙ h.3.1 ∙ (λ i. area_after (rules_of (h.4 i)) (h.5 i) (h.6 i)) in
      (read_of (rules_of b) o (length old), sym e, reads_so _ area refl f q)

  -- `fits` says whether a read goes through with an area of this size
  pub fits_so : (w : Result (Unit {0}) Fault) → FitsGives b o (length old) w → Octets o →
      (r : Reading) × (fitting_of r.answer ≡ w) × ((area : List ℕ) × Reads (rules_of b) o old r area)
  unfolding read_of
  fits_so w h q =
      let e = h.3 ∙ (λ i. fitting_of (pack_of (rules_of (h.4 i)) (h.5 i) (h.6 i))) in
      (read_of (rules_of b) o (length old), sym e, (area_after (rules_of b) o old, reads_so _ _ refl refl q))

  -- and tells the number, the place and the parameter that the read does
  pub fits_tells : (w : Result (Unit {0}) Fault) → FitsGives b o (length old) w → Octets o →
      (r : Reading) × ((told_fitting w).number ≡ (told r.answer).number)
      × ((told_fitting w).place ≡ (told r.answer).place)
      × ((told_fitting w).parameter ≡ (told r.answer).parameter)
      × ((area : List ℕ) × Reads (rules_of b) o old r area)
  fits_tells w h q =
      let x = fits_so w h q in
      let n = subst (λ (z : Result (Unit {0}) Fault). (told_fitting z).number ≡ (told x.0.answer).number) x.1
      (same_refusal x.0.answer).0 in
      let p = subst (λ (z : Result (Unit {0}) Fault). (told_fitting z).place ≡ (told x.0.answer).place) x.1
      (same_refusal x.0.answer).1 in
      let q = subst (λ (z : Result (Unit {0}) Fault). (told_fitting z).parameter ≡ (told x.0.answer).parameter) x.1
      (same_refusal x.0.answer).2 in
      (x.0, n, p, q, x.2)

-- ---- by edition and way (document 02, Q-5 and Q-11)
module _ (e w : ℕ) (o old : List ℕ) (r : Reading) (area : List ℕ) (h : ReadGives e w o old r area) where
  read_in_lem : (r ≡ read_in e w o (length old)) × (area ≡ area_in e w o old)
  read_in_lem = read_told e w o old r area h

  -- by known numbers their book decides
  pub read_is : T (known e w) →
      (r ≡ read_of (rules_of (book_of e w)) o (length old)) × (area ≡ area_after (rules_of (book_of e w)) o old)
  unfolding read_in area_in
  read_is t = (read_in_lem.0 ∙ pick_yes _ _ _ t, read_in_lem.1 ∙ pick_yes _ _ _ t)

  -- else 16, the empty draft and no edition, and the area stays
  pub read_none : (T (known e w) → ⊥) → (r ≡ unreadable) × (area ≡ old)
  unfolding read_in area_in
  read_none n = (read_in_lem.0 ∙ pick_not _ _ _ n, read_in_lem.1 ∙ pick_not _ _ _ n)

  -- which answer, with its place, and which draft and texts, by the book of known numbers (`Reads`)
  pub reads : T (known e w) → Octets o → Reads (rules_of (book_of e w)) o old r area
  reads t q = let x = read_is t in reads_so (book_of e w) o old r area x.0 x.1 q

  -- and by any numbers: 16 exactly where one is unknown, and the edition that answer and draft name (`ReadsBy`)
  pub reading : Octets o → ReadsBy e w o old r area
  reading q = go (decide (known e w))
    where
      go : T (known e w) ⊎ (T (known e w) → ⊥) → ReadsBy e w o old r area
      go (inl t) = by_known e w o old r area t (read_is t).0 (reads t q)
      go (inr n) = let x = read_none n in by_unknown e w o old r area n x.0 x.1
