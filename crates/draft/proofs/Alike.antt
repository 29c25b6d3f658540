-- The test of equality of drafts tests exactly that: what a value says is what it is flat, with its text's octets;
-- and so entry by entry.
-- Assumes nothing.
use Prim.Native.Nat.{ℕ, ◌+◌}
use mathlib.Core.Path.{◌≡◌, refl, sym, ◌∙◌, ap, subst}
use mathlib.Core.Logic.{◌↔◌}
use mathlib.Core.List.{List, [], ◌∷◌}
use native.Mathlib.Omega.{arith}
use lib.ListN.{length, take, drop, get_or}
use lib.Dec.{T}
use Rattle.rules.specs.Table.{form_number}
use Rattle.rules.specs.Tests.{◌≤?◌, every}
use Rattle.rules.proofs.Tests.{both, join, le_of, of_le, eq_of, of_eq, clash}
use Rattle.rules.proofs.Returns.{yes_le}
use Rattle.rules.specs.Pairwise.{pairwise, same_octets}
use Rattle.rules.proofs.Pairwise.{octets_are, octets_self}
use Rattle.rules.specs.declared.Form.{Form}
use Rattle.rules.specs.declared.Form.TheVariants.{DateValue, CodeValue, StateValue, TextValue, CarriedValue, MomentValue, DurationValue, MarkedValue}
use Rattle.draft.proofs.Meaning.{same_form}
use Rattle.draft.specs.Meaning.{Meaning, date_is, code_is, state_is, text_is, carried_is, moment_is, duration_is, marked_is}
use Rattle.draft.specs.Draft.{meaning_of, inside, Said, said_of, all_said, all_inside, Equal}
use Rattle.draft.specs.declared.Value.{Value}
use Rattle.draft.specs.declared.Value.TheVariants.{Date, Code, State, Text, Carried, Moment, Duration, Marked}
use Rattle.draft.specs.declared.Entry.{Entry}
use Rattle.draft.specs.declared.Draft.{Draft}
use Rattle.draft.specs.declared.Flat.{Flat}
use Rattle.draft.specs.Same.{flat_of, same_numbers, same_text, same_flat, same_entry, same_entries, same_message, same_draft}

-- ---- values: what a value says is what it is flat, with its text's octets
record FlatMeaning : Type 0 where
  form : Form
  numbers : List ℕ
  octets : List ℕ

abbrev numbers : Form → ℕ → ℕ → ℕ → ℕ → ℕ → FlatMeaning
numbers form a b c d e = record { form = form; numbers = a ∷ b ∷ c ∷ d ∷ e ∷ []; octets = [] }

abbrev words : Form → ℕ → List ℕ → FlatMeaning
words form x v = record { form = form; numbers = x ∷ 0 ∷ 0 ∷ 0 ∷ 0 ∷ []; octets = v }

unfoldable shown : Meaning → FlatMeaning
shown (date_is m d h n) = numbers DateValue m d h n 0
shown (code_is x) = numbers CodeValue x 0 0 0 0
shown (state_is s r) = numbers StateValue s r 0 0 0
shown (text_is v) = words TextValue 0 v
shown (carried_is v) = words CarriedValue 0 v
shown (moment_is m d h n s) = numbers MomentValue m d h n s
shown (duration_is h m s) = numbers DurationValue h m s 0 0
shown (marked_is x v) = words MarkedValue x v

abbrev number_at : FlatMeaning → ℕ → ℕ
number_at x i = get_or x.numbers i 0

unfoldable raised : Form → FlatMeaning → Meaning
raised CodeValue x = code_is (number_at x 0)
raised DateValue x = date_is (number_at x 0) (number_at x 1) (number_at x 2) (number_at x 3)
raised StateValue x = state_is (number_at x 0) (number_at x 1)
raised TextValue x = text_is x.octets
raised CarriedValue x = carried_is x.octets
raised MomentValue x =
    moment_is (number_at x 0) (number_at x 1) (number_at x 2) (number_at x 3) (number_at x 4)
raised DurationValue x = duration_is (number_at x 0) (number_at x 1) (number_at x 2)
raised MarkedValue x = marked_is (number_at x 0) x.octets

raised-shown : (μ : Meaning) → raised (shown μ).form (shown μ) ≡ μ
unfolding shown raised
raised-shown (date_is m d h n) = refl
raised-shown (code_is x) = refl
raised-shown (state_is s r) = refl
raised-shown (text_is v) = refl
raised-shown (carried_is v) = refl
raised-shown (moment_is m d h n s) = refl
raised-shown (duration_is h m s) = refl
raised-shown (marked_is x v) = refl

unfoldable shown_in : List ℕ → Flat → FlatMeaning
shown_in s x = record { form = x.form; numbers = x.numbers; octets = take x.length (drop x.start s) }

shown_flat : (s : List ℕ) (v : Value) → shown (meaning_of s v) ≡ shown_in s (flat_of v)
unfolding shown meaning_of shown_in flat_of
shown_flat s (Date m d h n) = refl
shown_flat s (Code x) = refl
shown_flat s (State x r) = refl
shown_flat s (Text a n) = refl
shown_flat s (Carried a n) = refl
shown_flat s (Moment m d h n x) = refl
shown_flat s (Duration h m x) = refl
shown_flat s (Marked x a n) = refl

pub inside_flat : (s : List ℕ) (v : Value) → inside s v ≡ ((flat_of v).start + (flat_of v).length ≤? length s)
unfolding inside flat_of ◌≤?◌
inside_flat s (Date m d h n) = sym (yes_le 0 (length s) (omega arith))
inside_flat s (Code x) = sym (yes_le 0 (length s) (omega arith))
inside_flat s (State x r) = sym (yes_le 0 (length s) (omega arith))
inside_flat s (Text a n) = refl
inside_flat s (Carried a n) = refl
inside_flat s (Moment m d h n x) = sym (yes_le 0 (length s) (omega arith))
inside_flat s (Duration h m x) = sym (yes_le 0 (length s) (omega arith))
inside_flat s (Marked x a n) = refl

-- both texts lie inside and the values say the same
record Alike (s : List ℕ) (v : Value) (t : List ℕ) (w : Value) : Type 0 where
  says : meaning_of s v ≡ meaning_of t w
  left : T (inside s v)
  right : T (inside t w)

module _ (s : List ℕ) (v : Value) (t : List ℕ) (w : Value) where
  value_alike : T (same_flat s (flat_of v) t (flat_of w)) → Alike s v t w
  unfolding same_flat same_numbers same_text shown_in
  value_alike q =
      let a = both _ _ q in
      let b = both _ _ a.1 in
      let x = both _ _ b.1 in
      let y = both _ _ x.1 in
      let f = same_form _ _ (eq_of _ _ a.0) in
      let n = octets_are _ _ b.0 in
      let o = octets_are _ _ y.1 in
      let e : shown (meaning_of s v) ≡ shown (meaning_of t w) =
      shown_flat s v ∙ (λ z. record { form = f z; numbers = n z; octets = o z }) ∙ sym (shown_flat t w) in
      record {
        says =
            sym (raised-shown (meaning_of s v)) ∙ ap (λ (x : FlatMeaning). raised x.form x) e
            ∙ raised-shown (meaning_of t w);
        left = rw (inside_flat s v) x.0;
        right = rw (inside_flat t w) y.0;
      }

  alike_value : Alike s v t w → T (same_flat s (flat_of v) t (flat_of w))
  unfolding same_flat same_numbers same_text shown_in
  alike_value q =
      let e : shown_in s (flat_of v) ≡ shown_in t (flat_of w) =
      sym (shown_flat s v) ∙ ap shown q.says ∙ shown_flat t w in
      join _ _ (of_eq _ _ (ap (λ (x : FlatMeaning). form_number x.form) e))
      (join _ _
      (subst (λ (l : List ℕ). T (same_octets (flat_of v).numbers l)) (ap (λ (x : FlatMeaning). x.numbers) e)
      (octets_self _))
      (join _ _ (rw (inside_flat s v) at q.left)
      (join _ _ (rw (inside_flat t w) at q.right)
      (subst (λ (o : List ℕ). T (same_octets (take (flat_of v).length (drop (flat_of v).start s)) o))
      (ap (λ (x : FlatMeaning). x.octets) e) (octets_self _)))))

-- ---- entries
-- all texts lie inside, and the entries say the same
record AllAlike (s : List ℕ) (es : List Entry) (t : List ℕ) (fs : List Entry) : Type 0 where
  says : all_said s es ≡ all_said t fs
  left : T (all_inside s es)
  right : T (all_inside t fs)

module _ (s : List ℕ) (t : List ℕ) where
  entries_alike : (es fs : List Entry) → T (same_entries s es t fs) → AllAlike s es t fs
  unfolding pairwise same_entry all_said said_of all_inside every
  entries_alike [] [] q = record { says = refl; left = tt; right = tt }
  entries_alike [] (f ∷ fs) q = absurd q
  entries_alike (e ∷ es) [] q = absurd q
  entries_alike (e ∷ es) (f ∷ fs) q =
      let a = both _ _ q in
      let b = both _ _ a.0 in
      let k = eq_of _ _ b.0 in
      let v = value_alike s e.value t f.value b.1 in
      let m = v.says in
      let r = entries_alike es fs a.1 in
      let rs = r.says in
      record {
        says = λ i. (record { kind = k i; meaning = m i }) ∷ rs i;
        left = join _ _ v.left r.left;
        right = join _ _ v.right r.right;
      }

  alike_entries : (es fs : List Entry) → AllAlike s es t fs → T (same_entries s es t fs)
  unfolding pairwise same_entry all_said said_of all_inside every
  alike_entries [] [] q = tt
  alike_entries [] (f ∷ fs) q = clash (cc q.says)
  alike_entries (e ∷ es) [] q = clash (cc q.says)
  alike_entries (e ∷ es) (f ∷ fs) q =
      let l = both _ _ q.left in
      let r = both _ _ q.right in
      let h : said_of s e ≡ said_of t f = cc q.says in
      join _ _
      (join _ _ (of_eq _ _ (ap (λ (x : Said). x.kind) h))
      (alike_value s e.value t f.value
      (record { says = ap (λ (x : Said). x.meaning) h; left = l.0; right = r.0 })))
      (alike_entries es fs (record { says = cc q.says; left = l.1; right = r.1 }))

-- ---- drafts: the test holds exactly where they are equal
pub same_equal : (a : Draft) (s : List ℕ) (b : Draft) (t : List ℕ) → T (same_draft a s b t) ↔ Equal a s b t
unfolding same_draft same_message
same_equal a s b t = (
  λ q.
      let v = both _ _ q in
      let w = both _ _ v.1 in
      let x = both _ _ w.1 in
      let y = both _ _ x.1 in
      let z = both _ _ y.1 in
      let l = entries_alike s t _ _ z.1 in
      record {
        edition = eq_of _ _ w.0;
        known = v.0;
        kind = eq_of _ _ x.0;
        count = eq_of _ _ y.0;
        entries = l.says;
        few = le_of _ _ z.0;
        left = l.left;
        right = l.right;
      },
  λ e.
      join _ _ e.known (join _ _ (of_eq _ _ e.edition)
      (join _ _ (of_eq _ _ e.kind)
      (join _ _ (of_eq _ _ e.count) (join _ _ (of_le _ _ e.few)
      (alike_entries s t _ _ (record { says = e.entries; left = e.left; right = e.right })))))),
)
