-- Contents read and said again, and a value said and read again, are the same: one law for each class.
-- Assumes nothing.
use Prim.Native.Nat.{ℕ, zero, suc, ◌+◌, ◌*◌, ◌-◌, ◌/◌, ◌%◌, ◌≤◌}
use mathlib.Core.Path.{◌≡◌, refl, sym, ◌∙◌, ap, ap₂, subst}
use mathlib.Core.Bool.{Bool, true, false}
use mathlib.Core.Logic.{◌⊎◌, ◌≢◌, inl, inr}
use mathlib.Core.List.{List, [], ◌∷◌}
use native.Mathlib.Omega.{arith}
use lib.Dec.{T}
use Rattle.rules.specs.Tests.{◌≤?◌, ◌=?◌, pick}
use Rattle.rules.proofs.Telling.{eq_tells}
use Rattle.rules.proofs.Tests.{both, either, le_of, clash}
use Rattle.rules.specs.Octets.{Octets}
use Rattle.rules.specs.Contents.{Range, within, digit, pair_fits, pairs_fit, columns_fit, head_fits}
use Rattle.rules.specs.Terminal.{terminal_fits}
use Rattle.rules.specs.Table.{form_of, form_number, whole, contents_fit}
use Rattle.rules.specs.declared.Form.{Form}
use Rattle.rules.specs.declared.Form.TheVariants.{DateValue, CodeValue, StateValue, TextValue, CarriedValue, MomentValue, DurationValue, MarkedValue}
use Rattle.rules.specs.declared.Class.{Class}
use Rattle.rules.specs.declared.Class.TheVariants as class
use Rattle.draft.specs.Meaning.{Meaning, form_is, tens, ones, date_then, seconds_said, spelled, number_of, digits_at, seconds_of, meant, date_is, code_is, state_is, text_is, carried_is, moment_is, duration_is, marked_is}

-- ---- kinds of value apart
form_at : ℕ → Form
form_at zero = CodeValue
form_at (suc zero) = DateValue
form_at (suc (suc zero)) = StateValue
form_at (suc (suc (suc zero))) = TextValue
form_at (suc (suc (suc (suc zero)))) = CarriedValue
form_at (suc (suc (suc (suc (suc zero))))) = MomentValue
form_at (suc (suc (suc (suc (suc (suc zero)))))) = DurationValue
form_at (suc (suc (suc (suc (suc (suc (suc n))))))) = MarkedValue

form_back : (f : Form) → form_at (form_number f) ≡ f
unfolding form_number form_at
form_back CodeValue = refl
form_back DateValue = refl
form_back StateValue = refl
form_back TextValue = refl
form_back CarriedValue = refl
form_back MomentValue = refl
form_back DurationValue = refl
form_back MarkedValue = refl

pub same_form : (f g : Form) → form_number f ≡ form_number g → f ≡ g
same_form f g e = sym (form_back f) ∙ ap form_at e ∙ form_back g

-- the test of their numbers tells whether kinds are equal
pub forms_tell : (f g : Form) →
    (((form_number f =? form_number g) ≡ true) × (f ≡ g)) ⊎ (((form_number f =? form_number g) ≡ false) × (f ≢ g))
forms_tell f g = go (eq_tells (form_number f) (form_number g))
  where
    go : (((form_number f =? form_number g) ≡ true) × (form_number f ≡ form_number g))
        ⊎ (((form_number f =? form_number g) ≡ false) × (form_number f ≢ form_number g)) →
        (((form_number f =? form_number g) ≡ true) × (f ≡ g)) ⊎ (((form_number f =? form_number g) ≡ false) × (f ≢ g))
    go (inl e) = inl (e.0, same_form f g e.1)
    go (inr e) = inr (e.0, λ p. e.1 (ap form_number p))

pub form_meant : (f : Form) (v : List ℕ) → form_is (meant f v) ≡ f
unfolding form_is meant
form_meant DateValue v = refl
form_meant CodeValue v = refl
form_meant StateValue v = refl
form_meant TextValue v = refl
form_meant CarriedValue v = refl
form_meant MomentValue v = refl
form_meant DurationValue v = refl
form_meant MarkedValue v = refl

-- ---- two digits come off the contents of a date or a duration
low_half : (a : ℕ) → 48 ≤ a → a ≤ 57 → a % 16 ≡ a - 48
low_half a l h = omega arith

digits_of : (a b : ℕ) → 48 ≤ a → a ≤ 57 → 48 ≤ b → b ≤ 57 → (tens (number_of a b) ≡ a) × (ones (number_of a b) ≡ b)
unfolding tens ones number_of
digits_of a b i j k l =
    let n : 10 * (a % 16) + b % 16 ≡ 10 * (a - 48) + (b - 48) =
    ap₂ (λ (x y : ℕ). 10 * x + y) (low_half a i j) (low_half b k l) in
    (ap (λ (x : ℕ). 48 + x / 10) n ∙ omega arith, ap (λ (x : ℕ). 48 + x % 10) n ∙ omega arith)

-- the number that they say, and what is behind them
record Peeled (rs : List Range) (v : List ℕ) : Type 0 where
  number : ℕ
  rest : List ℕ
  is : tens number ∷ ones number ∷ rest ≡ v
  fits : T (pairs_fit rs rest)

peel : (r : Range) (rs : List Range) (v : List ℕ) → T (pairs_fit (r ∷ rs) v) → Peeled rs v
unfolding pairs_fit pair_fits digit within
peel r rs [] t = absurd t
peel r rs (a ∷ []) t = absurd t
peel r rs (a ∷ b ∷ v) t =
    let d = both _ _ t in
    let e = both _ _ d.0 in
    let f = both _ _ e.1 in
    let g = both _ _ e.0 in
    let h = both _ _ f.0 in
    let z = digits_of a b (le_of _ _ g.0) (le_of _ _ g.1) (le_of _ _ h.0) (le_of _ _ h.1) in
    let x = z.0 in
    let y = z.1 in
    record { number = number_of a b; rest = v; is = λ i. x i ∷ y i ∷ v; fits = d.1 }

no_pairs : (v : List ℕ) → T (pairs_fit [] v) → [] ≡ v
unfolding pairs_fit
no_pairs [] t = refl
no_pairs (x ∷ v) t = absurd t

-- two digits of legal contents are read as the number that they say
high : (r : Range) (rs : List Range) (a b : ℕ) (v : List ℕ) → T (pairs_fit (r ∷ rs) (a ∷ b ∷ v)) →
    (a ≤ 57) × T (pairs_fit rs v)
unfolding pairs_fit pair_fits digit within
high r rs a b v t = let d = both _ _ t in (le_of _ _ (both _ _ (both _ _ d.0).0).1, d.1)

two : (n : ℕ) → tens n ≤ 57 → number_of (tens n) (ones n) ≡ n
unfolding tens ones number_of
two n h =
    ap₂ (λ (x y : ℕ). 10 * x + y) (low_half (48 + n / 10) (omega arith) h)
    (low_half (48 + n % 10) (omega arith) (omega arith)) ∙ omega arith

-- ---- dates, with anything behind them
record Stamp (rs : List Range) (v : List ℕ) : Type 0 where
  month : ℕ
  day : ℕ
  hour : ℕ
  minute : ℕ
  rest : List ℕ
  is : date_then month day hour minute rest ≡ v
  fits : T (pairs_fit rs rest)

stamp : (a b c d : Range) (rs : List Range) (v : List ℕ) → T (pairs_fit (a ∷ b ∷ c ∷ d ∷ rs) v) → Stamp rs v
stamp a b c d rs v f =
    let p = peel _ _ v f in
    let q = peel _ _ p.rest p.fits in
    let r = peel _ _ q.rest q.fits in
    let s = peel _ _ r.rest r.fits in
    record {
      month = p.number;
      day = q.number;
      hour = r.number;
      minute = s.number;
      rest = s.rest;
      is = cc (p.is, q.is, r.is, s.is);
      fits = s.fits;
    }

-- each number of it is read as it is said
record Legible (m y h n : ℕ) : Type 0 where
  month : number_of (tens m) (ones m) ≡ m
  day : number_of (tens y) (ones y) ≡ y
  hour : number_of (tens h) (ones h) ≡ h
  minute : number_of (tens n) (ones n) ≡ n

legible : (a b c d : Range) (rs : List Range) (m y h n : ℕ) (w : List ℕ) →
    T (pairs_fit (a ∷ b ∷ c ∷ d ∷ rs) (date_then m y h n w)) → Legible m y h n × T (pairs_fit rs w)
legible a b c d rs m y h n w f =
    let p = high _ _ _ _ _ f in
    let q = high _ _ _ _ _ p.1 in
    let r = high _ _ _ _ _ q.1 in
    let s = high _ _ _ _ _ r.1 in (
      record { month = two m p.0; day = two y q.0; hour = two h r.0; minute = two n s.0 },
      s.1,
    )

-- ---- a value that contents say, by digits
-- of its kind, and said by them
record Says (f : Form) (v : List ℕ) : Type 0 where
  value : Meaning
  kind : form_is value ≡ f
  is : spelled value ≡ v

date_says : (a b c d : Range) (v : List ℕ) → T (pairs_fit (a ∷ b ∷ c ∷ d ∷ []) v) → Says DateValue v
unfolding form_is spelled
date_says a b c d v f =
    let p = stamp a b c d [] v f in
    record {
      value = date_is p.month p.day p.hour p.minute;
      kind = refl;
      is = cc (no_pairs p.rest p.fits, p.is);
    }

-- without seconds, or with them
moment_says : (a b c d e : Range) (v : List ℕ) →
    T (pairs_fit (a ∷ b ∷ c ∷ d ∷ []) v) ⊎ T (pairs_fit (a ∷ b ∷ c ∷ d ∷ e ∷ []) v) → Says MomentValue v
unfolding form_is spelled seconds_said
moment_says a b c d e v (inl f) =
    let p = stamp a b c d [] v f in
    record {
      value = moment_is p.month p.day p.hour p.minute 0;
      kind = refl;
      is = cc (no_pairs p.rest p.fits, p.is);
    }
moment_says a b c d e v (inr f) =
    let p = stamp a b c d (e ∷ []) v f in
    let q = peel _ _ p.rest p.fits in
    record {
      value = moment_is p.month p.day p.hour p.minute (suc q.number);
      kind = refl;
      is = cc (no_pairs q.rest q.fits, q.is, p.is);
    }

duration_says : (a b c : Range) (v : List ℕ) → T (pairs_fit (a ∷ b ∷ c ∷ []) v) → Says DurationValue v
unfolding form_is spelled
duration_says a b c v f =
    let p = peel _ _ v f in
    let q = peel _ _ p.rest p.fits in
    let r = peel _ _ q.rest q.fits in
    record {
      value = duration_is p.number q.number r.number;
      kind = refl;
      is = cc (no_pairs r.rest r.fits, p.is, q.is, r.is);
    }

-- ---- contents without digits read and said again
code_back : (a : List Range) (v : List ℕ) → T (columns_fit (a ∷ []) v) → spelled (meant CodeValue v) ≡ v
unfolding meant spelled columns_fit
code_back a [] f = absurd f
code_back a (x ∷ []) f = refl
code_back a (x ∷ y ∷ v) f = absurd (both _ _ f).1

state_back_lem : (a b c : List Range) (v : List ℕ) → Octets v → T (columns_fit (a ∷ b ∷ c ∷ []) v) →
    spelled (meant StateValue v) ≡ v
unfolding meant spelled columns_fit
state_back_lem a b c [] o f = absurd f
state_back_lem a b c (x ∷ []) o f = absurd (both _ _ f).1
state_back_lem a b c (x ∷ y ∷ []) o f = absurd (both _ _ (both _ _ f).1).1
state_back_lem a b c (x ∷ y ∷ z ∷ []) o f = ap₂ (λ (p q : ℕ). x ∷ p ∷ q ∷ []) (omega arith) (omega arith)
state_back_lem a b c (x ∷ y ∷ z ∷ u ∷ v) o f = absurd (both _ _ (both _ _ (both _ _ f).1).1).1

text_back : (v : List ℕ) → spelled (meant TextValue v) ≡ v
unfolding meant spelled
text_back v = refl

carried_back : (v : List ℕ) → spelled (meant CarriedValue v) ≡ v
unfolding meant spelled
carried_back v = refl

marked_back : (v : List ℕ) → (v ≡ [] → ⊥) → spelled (meant MarkedValue v) ≡ v
unfolding meant spelled
marked_back [] n = absurd (n refl)
marked_back (x ∷ v) n = refl

-- ---- a value said by legal contents and read again
date_read : (a b c d : Range) (m : Meaning) → form_is m ≡ DateValue →
    T (pairs_fit (a ∷ b ∷ c ∷ d ∷ []) (spelled m)) → meant DateValue (spelled m) ≡ m
unfolding form_is form_number meant spelled digits_at
date_read a b c d (date_is m y h n) e f =
    let l = (legible a b c d [] m y h n [] f).0 in
    λ z. date_is (l.month z) (l.day z) (l.hour z) (l.minute z)
date_read a b c d (code_is x) e f = absurd (omega (arith, ap form_number e))
date_read a b c d (state_is s r) e f = absurd (omega (arith, ap form_number e))
date_read a b c d (text_is v) e f = absurd (omega (arith, ap form_number e))
date_read a b c d (carried_is v) e f = absurd (omega (arith, ap form_number e))
date_read a b c d (moment_is m y h n s) e f = absurd (omega (arith, ap form_number e))
date_read a b c d (duration_is h m s) e f = absurd (omega (arith, ap form_number e))
date_read a b c d (marked_is x v) e f = absurd (omega (arith, ap form_number e))

moment_read : (a b c d e : Range) (m : Meaning) → form_is m ≡ MomentValue →
    T (pairs_fit (a ∷ b ∷ c ∷ d ∷ []) (spelled m)) ⊎ T (pairs_fit (a ∷ b ∷ c ∷ d ∷ e ∷ []) (spelled m)) →
    meant MomentValue (spelled m) ≡ m
unfolding form_is form_number meant spelled digits_at seconds_said seconds_of pairs_fit pick ◌≤?◌
moment_read a b c d e (moment_is m y h n zero) k (inl f) =
    let l = (legible a b c d [] m y h n [] f).0 in
    λ z. moment_is (l.month z) (l.day z) (l.hour z) (l.minute z) 0
moment_read a b c d e (moment_is m y h n zero) k (inr f) = absurd (legible a b c d (e ∷ []) m y h n [] f).1
moment_read a b c d e (moment_is m y h n (suc s)) k (inl f) =
    absurd (legible a b c d [] m y h n (tens s ∷ ones s ∷ []) f).1
moment_read a b c d e (moment_is m y h n (suc s)) k (inr f) =
    let p = legible a b c d (e ∷ []) m y h n (tens s ∷ ones s ∷ []) f in
    let l = p.0 in
    let x = two s (high e [] (tens s) (ones s) [] p.1).0 in
    λ z. moment_is (l.month z) (l.day z) (l.hour z) (l.minute z) (suc (x z))
moment_read a b c d e (date_is m y h n) k f = absurd (omega (arith, ap form_number k))
moment_read a b c d e (code_is x) k f = absurd (omega (arith, ap form_number k))
moment_read a b c d e (state_is s r) k f = absurd (omega (arith, ap form_number k))
moment_read a b c d e (text_is v) k f = absurd (omega (arith, ap form_number k))
moment_read a b c d e (carried_is v) k f = absurd (omega (arith, ap form_number k))
moment_read a b c d e (duration_is h m s) k f = absurd (omega (arith, ap form_number k))
moment_read a b c d e (marked_is x v) k f = absurd (omega (arith, ap form_number k))

duration_read : (a b c : Range) (m : Meaning) → form_is m ≡ DurationValue →
    T (pairs_fit (a ∷ b ∷ c ∷ []) (spelled m)) → meant DurationValue (spelled m) ≡ m
unfolding form_is form_number meant spelled digits_at
duration_read a b c (duration_is h m s) e f =
    let p = high _ _ _ _ _ f in
    let q = high _ _ _ _ _ p.1 in
    let r = high _ _ _ _ _ q.1 in
    let x = two h p.0 in
    let y = two m q.0 in
    let w = two s r.0 in
    λ z. duration_is (x z) (y z) (w z)
duration_read a b c (date_is m y h n) e f = absurd (omega (arith, ap form_number e))
duration_read a b c (code_is x) e f = absurd (omega (arith, ap form_number e))
duration_read a b c (state_is s r) e f = absurd (omega (arith, ap form_number e))
duration_read a b c (text_is v) e f = absurd (omega (arith, ap form_number e))
duration_read a b c (carried_is v) e f = absurd (omega (arith, ap form_number e))
duration_read a b c (moment_is m y h n s) e f = absurd (omega (arith, ap form_number e))
duration_read a b c (marked_is x v) e f = absurd (omega (arith, ap form_number e))

-- what is said by digits
unfoldable digital : Form → Bool
digital DateValue = true
digital CodeValue = false
digital StateValue = false
digital TextValue = false
digital CarriedValue = false
digital MomentValue = true
digital DurationValue = true
digital MarkedValue = false

-- all but that is read as it is said, whatever says it
other_read : (m : Meaning) → (T (digital (form_is m)) → ⊥) → meant (form_is m) (spelled m) ≡ m
unfolding meant spelled form_is digital
other_read (date_is m y h n) e = absurd (e tt)
other_read (code_is x) e = refl
other_read (state_is s r) e = ap (state_is s) (omega arith)
other_read (text_is v) e = refl
other_read (carried_is v) e = refl
other_read (moment_is m y h n s) e = absurd (e tt)
other_read (duration_is h m s) e = absurd (e tt)
other_read (marked_is x v) e = refl

-- ---- the law of a class: its contents read and said again are the same, and so is a value of its kind that contents
-- of it say
pub record Drawn (c : Class) : Type 0 where
  pub said : (v : List ℕ) → Octets v → T (contents_fit c v) → spelled (meant (form_of c) v) ≡ v
  pub read : (m : Meaning) → form_is m ≡ form_of c → T (contents_fit c (spelled m)) → meant (form_of c) (spelled m) ≡ m

-- of a class said by digits: contents that say a value are said again, since that is read again
by_digits : (c : Class) → ((v : List ℕ) → T (contents_fit c v) → Says (form_of c) v) →
    ((m : Meaning) → form_is m ≡ form_of c → T (contents_fit c (spelled m)) → meant (form_of c) (spelled m) ≡ m) → Drawn c
by_digits c s r =
    record {
      said = λ v o f.
          let q = s v f in
          subst (λ (w : List ℕ). spelled (meant (form_of c) w) ≡ w) q.is
          (ap spelled (r q.value q.kind (subst (λ (w : List ℕ). T (contents_fit c w)) (sym q.is) f)));
      read = r;
    }

-- of any other
by_octets : (c : Class) → (T (digital (form_of c)) → ⊥) →
    ((v : List ℕ) → Octets v → T (contents_fit c v) → spelled (meant (form_of c) v) ≡ v) → Drawn c
by_octets c n s =
    record {
      said = s;
      read = λ m e f. subst (λ (k : Form). meant k (spelled m) ≡ m) e
          (other_read m (λ d. n (subst (λ (k : Form). T (digital k)) e d)));
    }

-- no contents of a class with a first octet are empty
terminal_marked : (s : List Range) (v : List ℕ) → T (terminal_fits s v) → v ≡ [] → ⊥
unfolding terminal_fits
terminal_marked s [] f e = f
terminal_marked s (x ∷ v) f e = clash (cc e)

head_marked : (h s : List Range) (v : List ℕ) → T (head_fits h s v) → v ≡ [] → ⊥
unfolding head_fits
head_marked h s [] f e = f
head_marked h s (x ∷ v) f e = clash (cc e)

-- each class is drawn as its kind of value asks
pub drawn : (c : Class) → Drawn c
unfolding whole form_of digital
drawn class.Date = by_digits class.Date (λ v f. date_says _ _ _ _ v f) (λ m e f. date_read _ _ _ _ m e f)
drawn class.Number = by_octets class.Number (λ e. e) (λ v o f. text_back v)
drawn class.Absent = by_octets class.Absent (λ e. e) (λ v o f. code_back _ v f)
drawn class.Name = by_octets class.Name (λ e. e) (λ v o f. text_back v)
drawn class.Lamp = by_octets class.Lamp (λ e. e) (λ v o f. code_back _ v f)
drawn class.Identity = by_octets class.Identity (λ e. e) (λ v o f. state_back_lem _ _ _ v o f)
drawn class.CallType = by_octets class.CallType (λ e. e) (λ v o f. code_back _ v f)
drawn class.Waiting = by_octets class.Waiting (λ e. e) (λ v o f. code_back _ v f)
drawn class.Forwarded = by_octets class.Forwarded (λ e. e) (λ v o f. code_back _ v f)
drawn class.User = by_octets class.User (λ e. e) (λ v o f. code_back _ v f)
drawn class.Carried = by_octets class.Carried (λ e. e) (λ v o f. carried_back v)
drawn class.ShortText = by_octets class.ShortText (λ e. e) (λ v o f. text_back v)
drawn class.Moment =
    by_digits class.Moment (λ v f. moment_says _ _ _ _ _ v (either _ _ f))
    (λ m e f. moment_read _ _ _ _ _ m e (either _ _ f))
drawn class.Charge = by_octets class.Charge (λ e. e) (λ v o f. text_back v)
drawn class.Duration = by_digits class.Duration (λ v f. duration_says _ _ _ v f) (λ m e f. duration_read _ _ _ m e f)
drawn class.Terminal = by_octets class.Terminal (λ e. e) (λ v o f. marked_back v (terminal_marked _ v f))
drawn class.Display = by_octets class.Display (λ e. e) (λ v o f. marked_back v (head_marked _ _ v (both _ _ f).1))
drawn class.Service = by_octets class.Service (λ e. e) (λ v o f. code_back _ v f)
drawn class.Extension = by_octets class.Extension (λ e. e) (λ v o f. text_back v)
drawn class.OldNumber = by_octets class.OldNumber (λ e. e) (λ v o f. text_back v)
drawn class.OldForwarded = by_octets class.OldForwarded (λ e. e) (λ v o f. code_back _ v f)
drawn class.OldUser = by_octets class.OldUser (λ e. e) (λ v o f. code_back _ v f)
drawn class.Unlisted = by_octets class.Unlisted (λ e. e) (λ v o f. carried_back v)
