-- A text of no octets (document 02, Q-4): an entry that has one makes a legal parameter where it is a display's (50H of
-- the present edition) with a first octet that displays have, and nowhere else.
-- Assumes nothing.
use Rattle.std.proofs.Common.{◌≡◌, ℕ, ◌<◌, ◌≤◌, Bool, true, false, T, List, [], ◌∷◌, length, take, drop, sym, refl, ap, ◌∙◌, subst, arith}
use Rattle.rules.specs.Tests.{◌≤?◌, ◌=?◌, ◌and◌, ◌or◌, pick, every}
use Rattle.rules.proofs.Tests.{both, join, eq_of, le_of, of_le, clash}
use Rattle.rules.specs.Contents.{within, in_set, all_in, head_fits}
use Rattle.rules.specs.Terminal.{terminal_fits}
use Rattle.rules.specs.Table.{Rules, Row, rules_of, row_in, row_of, class_of, form_of, whole, contents_fit, display_set}
use Rattle.rules.specs.Codes.{class_code}
use Rattle.rules.proofs.ContentLaw.{lawful}
use Rattle.rules.specs.declared.Book.{Book}
use Rattle.rules.specs.declared.Book.TheVariants.{PresentStrict, PresentLenient, OldStrict, OldLenient}
use Rattle.rules.specs.declared.Form.TheVariants.{MarkedValue}
use Rattle.rules.specs.declared.Class.{Class}
use Rattle.rules.specs.declared.Class.TheVariants.{Carried, Date, Number, Absent, Name, Lamp, Identity, CallType, Waiting, Forwarded, User, ShortText, Moment, Charge, Duration, Terminal, Display, Service, Extension, OldNumber, OldForwarded, OldUser, Unlisted}
use Rattle.draft.specs.Meaning.{kind_of, form_is, spelled}
use Rattle.draft.specs.Draft.{meaning_of, inside, parameter_of}
use Rattle.draft.specs.declared.Value.{Value}
use Rattle.draft.specs.declared.Value.TheVariants as value
use Rattle.draft.specs.declared.Entry.{Entry}
use Rattle.writer.specs.Reasons.{Makes}

-- a value whose text has no octets
abbrev pub Empty : Value → Type 0
Empty (value.Date m d h n) = ⊥
Empty (value.Code x) = ⊥
Empty (value.State s r) = ⊥
Empty (value.Text s n) = n ≡ 0
Empty (value.Carried s n) = n ≡ 0
Empty (value.Moment m d h n s) = ⊥
Empty (value.Duration h m s) = ⊥
Empty (value.Marked x s n) = n ≡ 0

-- the entry of a display's first octet, and no text behind it
abbrev pub bare : ℕ → ℕ → ℕ → Entry
bare t x s = record { kind = t; value = value.Marked x s 0 }

-- no class has contents of no octets
some_contents : (c : Class) → T (contents_fit c []) → ⊥
some_contents c f = omega (arith, (lawful c).least 0 ((lawful c).fit_length [] f))

-- of those with a first octet and a text, displays alone have contents of one
one_octet : (c : Class) (x : ℕ) → MarkedValue ≡ form_of c → T (contents_fit c (x ∷ [])) →
    (c ≡ Display) × T (in_set display_set x)
unfolding form_of whole terminal_fits head_fits all_in
one_octet Terminal x e f = absurd f
one_octet Display x e f = (refl, (both _ _ (both _ _ f).1).0)
one_octet Carried x e f = clash cc
one_octet Date x e f = clash cc
one_octet Number x e f = clash cc
one_octet Absent x e f = clash cc
one_octet Name x e f = clash cc
one_octet Lamp x e f = clash cc
one_octet Identity x e f = clash cc
one_octet CallType x e f = clash cc
one_octet Waiting x e f = clash cc
one_octet Forwarded x e f = clash cc
one_octet User x e f = clash cc
one_octet ShortText x e f = clash cc
one_octet Moment x e f = clash cc
one_octet Charge x e f = clash cc
one_octet Duration x e f = clash cc
one_octet Service x e f = clash cc
one_octet Extension x e f = clash cc
one_octet OldNumber x e f = clash cc
one_octet OldForwarded x e f = clash cc
one_octet OldUser x e f = clash cc
one_octet Unlisted x e f = clash cc

display_fits : (x : ℕ) → T (in_set display_set x) → T (contents_fit Display (x ∷ []))
unfolding whole head_fits all_in in_set within ◌and◌ ◌or◌ ◌≤?◌
display_fits x f = join (in_set display_set x) true f tt

is_display : (k : ℕ) (c : Class) → c ≡ Display → T (pick (class_code c =? 16) (k =? 0x50) true) → k ≡ 0x50
unfolding class_code pick ◌=?◌
is_display k c e h = eq_of _ _ (subst (λ (d : Class). T (pick (class_code d =? 16) (k =? 0x50) true)) e h)

-- the row of a type is of a class that only the row of 50H has
display-row : (d : Row) (rs : List Row) (t : ℕ) → (d.class ≡ Display → ⊥) →
    T (every (λ (r : Row). pick (class_code r.class =? 16) (r.kind =? 0x50) true) rs) →
    (row_in d rs t).class ≡ Display → t ≡ 0x50
unfolding row_in every pick
display-row d [] t n h e = absurd (n e)
display-row d (r ∷ rs) t n h e = go (display-row d rs t n (both _ _ h).1) (t =? r.kind) (eq_of t r.kind) e
  where
    told : r.class ≡ Display → r.kind ≡ 0x50
    told c = is_display r.kind r.class c (both _ _ h).0

    go : ((row_in d rs t).class ≡ Display → t ≡ 0x50) → (b : Bool) → (T b → t ≡ r.kind) →
        (pick b r (row_in d rs t)).class ≡ Display → t ≡ 0x50
    go ih true f e = f tt ∙ told e
    go ih false f e = ih e

-- by every book, 50H alone is a display's type, in the present edition
pub display_only : (b : Book) (t : ℕ) → class_of (rules_of b) t ≡ Display → t ≡ 0x50
unfolding class_of row_of rules_of every pick ◌and◌ ◌=?◌ class_code
display_only PresentStrict t e = display-row _ _ t (λ z. clash cc) tt e
display_only PresentLenient t e = display-row _ _ t (λ z. clash cc) tt e
display_only OldStrict t e = display-row _ _ t (λ z. clash cc) tt e
display_only OldLenient t e = display-row _ _ t (λ z. clash cc) tt e

module _ (R : Rules) (texts : List ℕ) where
  -- an empty text that makes a legal parameter is a display's
  pub record Bare (t : ℕ) (v : Value) : Type 0 where
    pub class : class_of R t ≡ Display
    pub mark : ℕ
    pub start : ℕ
    pub says : v ≡ value.Marked mark start 0
    pub first : T (in_set display_set mark)
    pub lies : start ≤ length texts

  pub empty_only : (t : ℕ) (v : Value) → Makes R texts (record { kind = t; value = v }) → Empty v → Bare t v
  unfolding parameter_of meaning_of spelled inside kind_of form_is
  empty_only t (value.Text s n) m q =
      absurd (some_contents (class_of R t)
      (subst (λ (k : ℕ). T (contents_fit (class_of R t) (take k (drop s texts)))) q m.legal.fits))
  empty_only t (value.Carried s n) m q =
      absurd (some_contents (class_of R t)
      (subst (λ (k : ℕ). T (contents_fit (class_of R t) (take k (drop s texts)))) q m.legal.fits))
  empty_only t (value.Marked x s n) m q =
      let d = one_octet (class_of R t) x m.kind
      (subst (λ (k : ℕ). T (contents_fit (class_of R t) (x ∷ take k (drop s texts)))) q m.legal.fits) in
      record {
        class = d.0;
        mark = x;
        start = s;
        says = ap (value.Marked x s) q;
        first = d.1;
        lies = let h = le_of _ _ m.lies in omega arith;
      }
  empty_only t (value.Date a b c d) m q = absurd q
  empty_only t (value.Code x) m q = absurd q
  empty_only t (value.State a b) m q = absurd q
  empty_only t (value.Moment a b c d e) m q = absurd q
  empty_only t (value.Duration a b c) m q = absurd q

  -- and each of those makes one
  pub empty_may : (t x s : ℕ) → t < 256 → class_of R t ≡ Display → T (in_set display_set x) → s ≤ length texts →
      Makes R texts (bare t x s)
  unfolding parameter_of meaning_of spelled inside kind_of form_is form_of
  empty_may t x s o c f l = record {
    kind = ap form_of (sym c);
    lies = of_le _ _ (omega arith);
    legal = record { octet = o; fits = subst (λ (k : Class). T (contents_fit k (x ∷ []))) (sym c) (display_fits x f) };
  }
