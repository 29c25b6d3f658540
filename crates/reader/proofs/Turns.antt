-- How the texts and entries go on from parameter to parameter.
-- Assumes nothing.
use Rattle.std.proofs.Common.{Option, Some, None}
use Rattle.std.specs.Option.{unwrap_or}
use Prim.Native.Nat.{ℕ, zero, suc, ◌+◌, ◌-◌, ◌*◌, ◌≤◌, ◌<◌}
use mathlib.Core.Path.{◌≡◌, refl, sym, ◌∙◌, ap, ap₂}
use mathlib.Core.List.{List, [], ◌∷◌, ◌++◌}
use native.Mathlib.Omega.{arith}
use lib.ListN.{length, length-append, length-drop, take, drop}
use lib.Seq.{length-take-le, take-nil, drop-drop, drop-length}
use Rattle.rules.proofs.Tests.{clash}
use Rattle.rules.proofs.Laying.{rest_whole}
use Rattle.rules.specs.Table.{Rules}
use Rattle.rules.specs.declared.Form.{Form}
use Rattle.rules.specs.declared.Form.TheVariants.{DateValue, CodeValue, StateValue, TextValue, CarriedValue, MomentValue, DurationValue, MarkedValue}
use Rattle.rules.specs.Message.{Parameter, body, most}
use Rattle.message.specs.Parts.{found_at, parameter_at}
use Rattle.message.specs.Walk.{found_then, founds_from}
use Rattle.message.specs.Parameters as message
use Rattle.message.specs.Parameters.{parameters_from, parameters_in}
use Rattle.message.proofs.Standing.{none_here, one_here}
use Rattle.message.proofs.Searching.{found_inside, found_behind}
use Rattle.message.specs.declared.Found.{Found}
use Rattle.draft.specs.declared.Entry.{Entry}
use Rattle.draft.specs.Draft.{text_long}
use Rattle.draft.specs.Meaning.{Meaning, date_is, code_is, state_is, text_is, carried_is, moment_is, duration_is, marked_is, kind_of, meant, text_in}
use Rattle.draft.specs.Packing.{value_at, meaning_in, entry_of, text_of, entries_of, texts_of}
use Rattle.reader.specs.declared.Taken.{Taken}
use Rattle.reader.specs.Read.{Text, text_with, parameter_with, standing, stands, taken_with, taken_from, taken_at, text_part, text_from, text_at, text_size}

-- the text is the contents, what stands behind their first octet, or nothing
text_part_lem : (f : Form) (v : List ℕ) → length (text_in (meant f v)) ≡ text_part f (length v)
unfolding text_in meant text_part
text_part_lem DateValue v = refl
text_part_lem CodeValue v = refl
text_part_lem StateValue v = refl
text_part_lem TextValue v = refl
text_part_lem CarriedValue v = refl
text_part_lem MomentValue v = refl
text_part_lem DurationValue v = refl
text_part_lem MarkedValue v = length-drop 1 v

short : (f : Form) (v : List ℕ) → length (text_in (meant f v)) ≤ length v
unfolding text_in meant
short DateValue v = omega arith
short CodeValue v = omega arith
short StateValue v = omega arith
short TextValue v = omega arith
short CarriedValue v = omega arith
short MomentValue v = omega arith
short DurationValue v = omega arith
short MarkedValue v = omega (arith, length-drop 1 v)

behind_all : (v : List ℕ) → drop (length v - 0) v ≡ []
behind_all v = let z : length v - 0 ≡ length v = omega arith in ap (λ (n : ℕ). drop n v) z ∙ drop-length v

-- it ends where they end
text_last : (f : Form) (v : List ℕ) → drop (length v - length (text_in (meant f v))) v ≡ text_in (meant f v)
unfolding text_in meant
text_last DateValue v = behind_all v
text_last CodeValue v = behind_all v
text_last StateValue v = behind_all v
text_last TextValue v = let z : length v - length v ≡ 0 = omega arith in ap (λ (n : ℕ). drop n v) z
text_last CarriedValue v = let z : length v - length v ≡ 0 = omega arith in ap (λ (n : ℕ). drop n v) z
text_last MomentValue v = behind_all v
text_last DurationValue v = behind_all v
text_last MarkedValue [] = refl
text_last MarkedValue (x ∷ v) =
    let z : suc (length v) - length v ≡ 1 = omega arith in ap (λ (n : ℕ). drop n (x ∷ v)) z

-- of a parameter
pub text_ends : (R : Rules) (k : ℕ) (v : List ℕ) →
    drop (length v - length (text_of R (parameter_with k v))) v ≡ text_of R (parameter_with k v)
unfolding text_of meaning_in
text_ends R k v = text_last (kind_of R k) v

module _ (R : Rules) (o : List ℕ) (f : Found) (h : f.start + f.length ≤ length o) where
  pub contents_long : length (take f.length (drop f.start o)) ≡ f.length
  contents_long = length-take-le f.length (drop f.start o) (omega (arith, length-drop f.start o))

  -- a text lies within the contents
  pub text_short : length (text_of R (stands o f)) ≤ f.length
  unfolding text_of meaning_in
  text_short = omega (arith, short (kind_of R f.kind) (take f.length (drop f.start o)), contents_long)

-- the octets behind m of the first n
drop-take : (m n : ℕ) (l : List ℕ) → m ≤ n → drop m (take n l) ≡ take (n - m) (drop m l)
drop-take zero n l h = let z : n ≡ n - 0 = omega arith in ap (λ (k : ℕ). take k l) z
drop-take (suc m) zero l h = absurd (omega arith)
drop-take (suc m) (suc n) [] h = sym (take-nil (suc n - suc m))
drop-take (suc m) (suc n) (x ∷ l) h =
    let z : n - m ≡ suc n - suc m = omega arith in
    drop-take m n l (omega arith) ∙ ap (λ (k : ℕ). take k (drop m l)) z

-- how long contents and their text are, by their place, and where the text stands
module _ (R : Rules) (o : List ℕ) (k start n : ℕ) (h : start + n ≤ length o) where
  part_length_lem : length (take n (drop start o)) ≡ n
  part_length_lem = length-take-le n (drop start o) (omega (arith, length-drop start o))

  pub text_length : length (text_of R (standing o k start n)) ≡ text_part (kind_of R k) n
  unfolding text_of meaning_in
  text_length =
      text_part_lem (kind_of R k) (take n (drop start o)) ∙ ap (λ (x : ℕ). text_part (kind_of R k) x) part_length_lem

  pub text_stands : take (length (text_of R (standing o k start n)))
      (drop (start + n - length (text_of R (standing o k start n))) o) ≡
      text_of R (standing o k start n)
  unfolding text_of meaning_in
  text_stands =
      let l = length (text_of R (standing o k start n)) in
      let s = short (kind_of R k) (take n (drop start o)) in
      let a : start + n - l ≡ start + (n - l) = omega (arith, s, part_length_lem) in
      let b : l ≡ n - (n - l) = omega (arith, s, part_length_lem) in
      let c : n - l ≡ length (take n (drop start o)) - l = omega (arith, part_length_lem) in
      ap₂ (λ (x y : ℕ). take x (drop y o)) b a
      ∙ ap (take (n - (n - l))) (sym (drop-drop (n - l) start o))
      ∙ sym (drop-take (n - l) n (drop start o) (omega arith))
      ∙ ap (λ (x : ℕ). drop x (take n (drop start o))) c
      ∙ text_last (kind_of R k) (take n (drop start o))

-- what was taken at a place is of the parameter that is found there
module _ (R : Rules) (o : List ℕ) (at used : ℕ) where
  pub record Took (t : Taken) : Type 0 where
    pub found : Found
    pub here : parameter_at o at ≡ Some found
    pub entry : t.entry ≡ entry_of R used (stands o found)
    pub text : t.text ≡ length (text_of R (stands o found))
    pub place : t.place ≡ found.start + found.length

  pub took : (t : Taken) → Some t ≡ taken_at R o at used → Took t
  unfolding taken_at taken_from
  took t = go (parameter_at o at) refl
    where
      go : (x : Option Found) → parameter_at o at ≡ x → Some t ≡ taken_from R o used x → Took t
      go None p q = clash (cc q)
      go (Some f) p q =
          let z : t ≡ record {
            entry = entry_of R used (stands o f);
            text = length (text_of R (stands o f));
            place = f.start + f.length;
          } =
          cc q in
          record {
            found = f;
            here = p;
            entry = ap (λ (x : Taken). x.entry) z;
            text = ap (λ (x : Taken). x.text) z;
            place = ap (λ (x : Taken). x.place) z;
          }

  pub took_none : None ≡ taken_at R o at used → parameter_at o at ≡ None
  unfolding taken_at taken_from
  took_none = go (parameter_at o at) refl
    where
      go : (x : Option Found) → parameter_at o at ≡ x → None ≡ taken_from R o used x → parameter_at o at ≡ None
      go None p q = p
      go (Some f) p q = clash (cc q)

-- ---- the text, and the entry, of the parameter at a place
module _ (R : Rules) (o : List ℕ) (turns at : ℕ) (h : 0 < turns) where
  -- a text was found: it lies inside, and the other texts stand behind it
  pub record TextHere (start n place : ℕ) : Type 0 where
    pub lies : start + n ≤ length o
    pub texts : texts_of R (parameters_from turns o at) ≡
        take n (drop start o) ++ texts_of R (parameters_from (turns - 1) o place)

  pub text_here : (start n place : ℕ) → text_with start n place ≡ text_at R o at → TextHere start n place
  unfolding text_at text_from texts_of
  text_here start n place e = go (parameter_at o at) refl e
    where
      none : Text
      none = record { start = 0; size = 0; place = 0 }

      go : (f : Option Found) → f ≡ parameter_at o at → text_with start n place ≡ text_from R o f → TextHere start n place
      go (Some one) q e =
          let t = ap (λ (x : Option Text). unwrap_or x none) e in
          let s = one.start in
          let l = one.length in
          let i = found_inside o at (found_at one.kind s l) one.kind s l q refl in
          let a : start ≡ s + l - length (text_of R (stands o one)) = ap (λ (x : Text). x.start) t in
          let b : n ≡ length (text_of R (stands o one)) = ap (λ (x : Text). x.size) t in
          let d : place ≡ s + l = ap (λ (x : Text). x.place) t in
          record {
            lies = omega (arith, a, b, text_short R o one (omega (arith, i)), i);
            texts =
                ap (texts_of R) (one_here turns o at h one.kind s l q)
                ∙ ap (λ (v : List ℕ). v ++ texts_of R (parameters_from (turns - 1) o (s + l)))
                (sym (text_stands R o one.kind s l (omega (arith, i))))
                ∙ (λ i. take (sym b i) (drop (sym a i) o) ++ texts_of R (parameters_from (turns - 1) o (sym d i)));
          }
      go None q e = clash cc

  pub text_none : None ≡ text_at R o at → parameters_from turns o at ≡ []
  unfolding text_at text_from
  text_none e = go (parameter_at o at) refl e
    where
      go : (f : Option Found) → f ≡ parameter_at o at → None ≡ text_from R o f → parameters_from turns o at ≡ []
      go (Some one) q e = clash cc
      go None q e = none_here turns o at h q

  module _ (used : ℕ) where
    -- an entry was found: the other entries stand behind it, and the texts so far are shorter than what they were
    -- read from
    pub record EntryHere (e : Entry) (n place : ℕ) : Type 0 where
      pub entries : entries_of R used (parameters_from turns o at) ≡
          e ∷ entries_of R (used + n) (parameters_from (turns - 1) o place)
      pub behind : at + n ≤ place
      pub lies : place ≤ length o

    pub entry_here : (e : Entry) (n place : ℕ) → taken_with e n place ≡ taken_at R o at used → EntryHere e n place
    unfolding entries_of
    entry_here e n place t =
        let w = took R o at used (record { entry = e; text = n; place = place }) t in
        let one = w.found in
        let s = one.start in
        let l = one.length in
        let q = sym w.here in
        let i = found_inside o at (found_at one.kind s l) one.kind s l q refl in
        record {
          entries =
              ap (entries_of R used) (one_here turns o at h one.kind s l q)
              ∙ (λ i. sym w.entry i ∷ entries_of R (used + sym w.text i) (parameters_from (turns - 1) o (sym w.place i)));
          behind =
              omega (
                arith,
                w.text,
                w.place,
                i,
                text_short R o one (omega (arith, i)),
                found_behind o at one.kind s l q,
              );
          lies = omega (arith, w.place, i);
        }

    -- its text ends where the parameter ends
    pub entry-text : (e : Entry) (n place : ℕ) → taken_with e n place ≡ taken_at R o at used →
        text_with (place - n) n place ≡ text_at R o at
    unfolding taken_at taken_from text_at text_from
    entry-text e n place t = go (parameter_at o at) t
      where
        none : Taken
        none = record { entry = e; text = 0; place = 0 }

        go : (f : Option Found) → taken_with e n place ≡ taken_from R o used f →
            text_with (place - n) n place ≡ text_from R o f
        go (Some one) t =
            let w = ap (λ (x : Option Taken). unwrap_or x none) t in
            let b : n ≡ length (text_of R (stands o one)) = ap (λ (x : Taken). x.text) w in
            let d : place ≡ one.start + one.length = ap (λ (x : Taken). x.place) w in
            λ i. text_with (d i - b i) (b i) (d i)
        go None t = clash cc

    pub entry_none : None ≡ taken_at R o at used → parameters_from turns o at ≡ []
    entry_none e = none_here turns o at h (sym (took_none R o at used e))

-- from what was found there
module _ (R : Rules) (o : List ℕ) (at : ℕ) (f : Option Found) (e : f ≡ parameter_at o at) where
  module _ (k start l n : ℕ) (p : f ≡ found_at k start l) (g : Form) (m : g ≡ kind_of R k)
      (q : n ≡ text_part g l) where
    inside : start + l ≤ length o
    inside = omega (arith, found_inside o at f k start l e p)

    size : n ≡ length (text_of R (standing o k start l))
    size = q ∙ ap (λ (x : Form). text_part x l) m ∙ sym (text_length R o k start l inside)

    pub text_within : n ≤ l
    text_within = omega (arith, size, text_short R o (record { kind = k; start = start; length = l }) inside)

    pub text_found : text_with (start + l - n) n (start + l) ≡ text_at R o at
    unfolding text_at text_from
    text_found = ap (λ (x : ℕ). text_with (start + l - x) x (start + l)) size ∙ ap (text_from R o) (sym p ∙ e)

  pub text_ended : f ≡ None → None ≡ text_at R o at
  unfolding text_at text_from
  text_ended p = ap (text_from R o) (sym p ∙ e)

  pub entry_ended : (used : ℕ) → f ≡ None → None ≡ taken_at R o at used
  unfolding taken_at taken_from
  entry_ended used p = ap (taken_from R o used) (sym p ∙ e)

-- ---- texts are no longer than what they are read from
pub texts_within : (R : Rules) (turns : ℕ) (o : List ℕ) (at : ℕ) →
    length (texts_of R (parameters_from turns o at)) ≤ length o - at
unfolding parameters_from message.found texts_of
texts_within R zero o at = omega arith
texts_within R (suc turns) o at = go (texts_within R turns o) (parameter_at o at) refl
  where
    go : ((p : ℕ) → length (texts_of R (parameters_from turns o p)) ≤ length o - p) → (f : Option Found) →
        f ≡ parameter_at o at → length (texts_of R (message.found o f (parameters_from turns o))) ≤ length o - at
    go ih (Some one) q =
        let i = found_inside o at (found_at one.kind one.start one.length) one.kind one.start one.length q refl in
        omega (
          arith,
          ih (one.start + one.length),
          found_behind o at one.kind one.start one.length q,
          text_short R o one (omega arith),
          length-append
              (text_of R (stands o one)) (texts_of R (parameters_from turns o (one.start + one.length))),
        )
    go ih None q = omega arith

-- and two octets a parameter are no text's
pub texts_in_body : (R : Rules) (ps : List Parameter) → length (texts_of R ps) + 2 * length ps ≤ length (body ps)
unfolding texts_of body text_of meaning_in
texts_in_body R [] = omega arith
texts_in_body R (p ∷ ps) =
    omega (
      arith,
      texts_in_body R ps,
      short (kind_of R p.kind) p.contents,
      length-append (text_of R p)
          (texts_of R ps),
      length-append p.contents (body ps),
    )

pub size_within : (R : Rules) (o : List ℕ) → text_size R o ≤ length o
unfolding text_size parameters_in
size_within R o = omega (arith, texts_within R most o 2)

-- the text that a value tells of is that of what it means
value_text : (used : ℕ) (m : Meaning) → text_long (value_at used m) ≡ length (text_in m)
unfolding text_long value_at text_in
value_text used (date_is a b c d) = refl
value_text used (code_is x) = refl
value_text used (state_is s r) = refl
value_text used (text_is v) = refl
value_text used (carried_is v) = refl
value_text used (moment_is a b c d e) = refl
value_text used (duration_is a b c) = refl
value_text used (marked_is x v) = refl

pub entry_text : (R : Rules) (used : ℕ) (p : Parameter) → text_long (entry_of R used p).value ≡ length (text_of R p)
unfolding entry_of text_of
entry_text R used p = value_text used (meaning_in R p)

-- the entry of a parameter found, by its contents, and how long its text is
module _ (R : Rules) (o : List ℕ) (f : Found) (used : ℕ) (v : List ℕ) (p : v ≡ take f.length (drop f.start o))
    (e : Entry) (q : e ≡ entry_of R used (parameter_with f.kind v)) where
  pub entry_found : e ≡ entry_of R used (stands o f)
  entry_found = q ∙ ap (λ (u : List ℕ). entry_of R used (parameter_with f.kind u)) p

  pub entry_long : (n : ℕ) → n ≡ text_long e.value → n ≡ length (text_of R (stands o f))
  entry_long n t = t ∙ ap (λ (x : Entry). text_long x.value) entry_found ∙ entry_text R used (stands o f)

  -- its text ends where they end
  pub entry_last : (n : ℕ) → n ≡ text_long e.value →
      take (length v - (length v - n)) (drop (length v - n) v) ≡ text_of R (stands o f)
  entry_last n t =
      let same = t ∙ ap (λ (x : Entry). text_long x.value) q ∙ entry_text R used (parameter_with f.kind v) in
      rest_whole (length v - n) v
      ∙ ap (λ (k : ℕ). drop (length v - k) v) same
      ∙ text_ends R f.kind v
      ∙ ap (λ (u : List ℕ). text_of R (parameter_with f.kind u)) p

-- ---- the parameters that a walk finds
unfoldable pub stood : List ℕ → List Found → List Parameter
stood o [] = []
stood o (f ∷ fs) = stands o f ∷ stood o fs

-- they lie within the octets
unfoldable pub Lie : List ℕ → List Found → Type 0
Lie o [] = Unit {0}
Lie o (f ∷ fs) = (f.start + f.length ≤ length o) × Lie o fs

pub founds_stand : (turns : ℕ) (o : List ℕ) (at : ℕ) →
    (stood o (founds_from turns o at) ≡ parameters_from turns o at) × Lie o (founds_from turns o at)
unfolding stood Lie founds_from found_then parameters_from message.found
founds_stand zero o at = (refl, tt)
founds_stand (suc turns) o at = go (founds_stand turns o) (parameter_at o at) refl
  where
    go : ((p : ℕ) → (stood o (founds_from turns o p) ≡ parameters_from turns o p) × Lie o (founds_from turns o p)) →
        (x : Option Found) → x ≡ parameter_at o at →
        (stood o (found_then x (founds_from turns o)) ≡ message.found o x (parameters_from turns o)) ×
        Lie o (found_then x (founds_from turns o))
    go ih None e = (refl, tt)
    go ih (Some f) e =
        let behind = ih (f.start + f.length) in (
          ap (λ (ps : List Parameter). stands o f ∷ ps) behind.0,
          (omega (arith, found_inside o at _ f.kind f.start f.length e refl), behind.1),
        )
