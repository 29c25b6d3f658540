-- What a listing asks of each class: its value is longer than its contents by the surplus of its style at most, and
-- has no octet below 20H.
-- Assumes nothing.
use Prim.Native.Nat.{ℕ, ◌+◌, ◌-◌, ◌≤◌}
use mathlib.Core.Path.{◌≡◌, refl, sym, subst}
use mathlib.Core.Logic.{⊎_elim}
use mathlib.Core.Bool.{Bool, true, false}
use mathlib.Core.List.{List, [], ◌∷◌, ◌++◌}
use native.Mathlib.Omega.{arith}
use Rattle.std.proofs.lemmas.Grind.{common_steps}
use Rattle.rules.proofs.Telling.{telling}
use lib.ListN.{length, length-append, get_or, drop}
use lib.Dec.{T}
use Rattle.rules.specs.Tests.{◌≤?◌, ◌=?◌, ◌and◌, pick, every}
use Rattle.rules.proofs.Tests.{pick_case, pick_not, both, join, either, eq_of}
use Rattle.rules.specs.Octets.{Octets, reference_of}
use Rattle.rules.proofs.Octets.{octet_at}
use Rattle.rules.specs.Contents.{Range, in_set, letter, all_in, head_fits}
use Rattle.rules.specs.Charge.{dash, costs, charge_fits}
use Rattle.rules.specs.Terminal.{terminal_fits}
use Rattle.rules.specs.Table.{number_set, absent_set, name_set, display_set, old_number_set, whole, contents_fit, style_of, ascii}
use Rattle.rules.specs.Table.{Style, clock as clock_style, verbatim, switch, reference as reference_style, decimal as decimal_style, hex as hex_style, numbered, moment as moment_style, duration as duration_style, charge as charge_style, terminal as terminal_style, display as display_style}
use Rattle.rules.proofs.ClassLaw.{fit_octets}
use Rattle.rules.proofs.ContentLaw.{lawful}
use Rattle.rules.specs.declared.Class.{Class}
use Rattle.rules.specs.declared.Class.TheVariants.{Carried, Date, Number, Absent, Name, Lamp, Identity, CallType, Waiting, Forwarded, User, ShortText, Moment, Charge, Duration, Terminal, Display, Service, Extension, OldNumber, OldForwarded, OldUser, Unlisted}
use Rattle.listing.specs.Numerals.{decimal, hex}
use Rattle.listing.proofs.Numerals.{three_digits, five_digits}
use Rattle.listing.specs.Listing.{half, seconds, coded, lamp_word, state_word, reference, currency, selector_word, selected, clock, identity, moment, duration, charge, terminal, display, printed}
use Rattle.listing.proofs.Characters.{plain, from, set_from, cons-plain, plain-append, plain_blank, plain-decimal, plain-hex, plain_lamp, plain_state, plain_selector, plain-half, plain-seconds, letter_plain, dash_plain, pairs_plain, columns_plain, all_plain, costs-plain, extension_plain}

-- how many octets a value in each style has more than its contents, at most
unfoldable pub surplus : Style → ℕ
surplus clock_style = 3
surplus verbatim = 0
surplus switch = 2
surplus reference_style = 8
surplus decimal_style = 2
surplus hex_style = 1
surplus numbered = 0
surplus moment_style = 4
surplus duration_style = 2
surplus charge_style = 3
surplus terminal_style = 11
surplus display_style = 2

pub surplus_most : (s : Style) → surplus s ≤ 11
unfolding surplus
surplus_most clock_style = omega arith
surplus_most verbatim = omega arith
surplus_most switch = omega arith
surplus_most reference_style = omega arith
surplus_most decimal_style = omega arith
surplus_most hex_style = omega arith
surplus_most numbered = omega arith
surplus_most moment_style = omega arith
surplus_most duration_style = omega arith
surplus_most charge_style = omega arith
surplus_most terminal_style = omega arith
surplus_most display_style = omega arith

-- legal contents have at least as many octets as each of the lengths of their class
long : (a : ℕ) (c : Class) (v : List ℕ) → T (from a (whole c).lengths) → T (contents_fit c v) → a ≤ length v
long a c v p t = set_from a (whole c).lengths (length v) p ((lawful c).fit_length v t)

-- ---- how long values are
lamp_wide : (x : ℕ) → length (lamp_word x) ≤ 3
unfolding lamp_word ascii
lamp_wide x = grind (arith, telling)

state_wide : (x : ℕ) → length (state_word x) ≤ 5
unfolding state_word ascii
state_wide x = grind (arith, telling, lamp_wide x)

selector_wide : (x : ℕ) → length (selector_word x) ≤ 11
unfolding selector_word ascii
selector_wide x = grind (arith, telling)

module _ (v : List ℕ) where
  clock_long : length (clock v) ≡ 11
  unfolding clock half ascii
  clock_long = refl

  identity_wide : Octets v → length (identity v) ≤ 11
  unfolding identity ascii reference
  identity_wide o =
      let digits = five_digits (reference_of (get_or v 1 0) (get_or v 2 0)) in
      grind (arith, common_steps, state_wide (get_or v 0 0), octet_at v o 1, octet_at v o 2, digits)

  moment_wide : 8 ≤ length v → length (moment v) ≤ length v + 4
  unfolding moment seconds
  moment_wide h = grind (arith, telling, common_steps, clock_long)

  coded_long : (i : ℕ) → length (coded v i) ≡ 3 + (length v - (i + 1))
  unfolding coded hex ascii
  coded_long i = grind (arith, common_steps)

  charge_wide : 4 ≤ length v → length (charge v) ≤ length v + 3
  unfolding charge currency
  charge_wide h = omega (arith, length-append (currency v) (coded v 3), coded_long 3)

  display_wide : 1 ≤ length v → length (display v) ≤ length v + 2
  unfolding display
  display_wide h = omega (arith, coded_long 0)

  terminal_wide : 2 ≤ length v → length (terminal v) ≤ length v + 11
  unfolding terminal selected hex
  terminal_wide h = grind (arith, telling, common_steps, selector_wide (get_or v 0 0))

-- ---- values of characters
module _ (v : List ℕ) where
  clock-plain : T (plain v) → 8 ≤ length v → T (plain (clock v))
  unfolding clock
  clock-plain p l =
      plain-append (half v 0 0x2D ++ ascii " ") (half v 4 0x3A)
      (plain-append (half v 0 0x2D) (ascii " ") (plain-half v p 0 0x2D (omega arith) (omega arith)) plain_blank)
      (plain-half v p 4 0x3A (omega arith) (omega arith))

  identity-plain : T (plain (identity v))
  unfolding identity
  identity-plain =
      plain-append (state_word (get_or v 0 0) ++ ascii " ") (decimal (reference v))
      (plain-append (state_word (get_or v 0 0)) (ascii " ") (plain_state (get_or v 0 0)) plain_blank)
      (plain-decimal (reference v))

  moment-plain : T (plain v) → 8 ≤ length v → T (plain (moment v))
  unfolding moment plain every
  moment-plain p l =
      plain-append (clock v) (pick (length v =? 10) (seconds v 8) []) (clock-plain p l)
      (pick_case (λ (w : List ℕ). T (plain w)) (length v =? 10) (seconds v 8) []
      (λ e. plain-seconds v p 8 (omega (arith, eq_of _ _ e))) (λ _. tt))

  duration-plain : T (plain v) → 6 ≤ length v → T (plain (duration v))
  unfolding duration
  duration-plain p l =
      plain-append (half v 0 0x3A) (seconds v 4) (plain-half v p 0 0x3A (omega arith) (omega arith))
      (plain-seconds v p 4 (omega arith))

  coded-plain : (i : ℕ) → T (plain (drop (i + 1) v)) → T (plain (coded v i))
  unfolding coded
  coded-plain i p =
      plain-append (hex (get_or v i 0) ++ ascii " ") (drop (i + 1) v)
      (plain-append (hex (get_or v i 0)) (ascii " ") (plain-hex (get_or v i 0)) plain_blank) p

-- three letters or three dashes, and what costs there are
currency_plain : (a b c f : ℕ) (v : List ℕ) → T (charge_fits (a ∷ b ∷ c ∷ f ∷ v)) →
    (0x20 ≤ a) × (0x20 ≤ b) × (0x20 ≤ c) × T (plain v)
unfolding charge_fits
currency_plain a b c f v t =
    pick_case (λ (z : Bool). T z → (0x20 ≤ a) × (0x20 ≤ b) × (0x20 ≤ c) × T (plain v)) (dash a)
    (dash b and (dash c and costs false f v)) (letter a and (letter b and (letter c and costs true f v)))
    (λ q r. let d = both _ _ r in
    let e = both _ _ d.1 in
    (dash_plain a q, dash_plain b d.0, dash_plain c e.0, costs-plain false f v e.1))
    (λ _ r. let d = both _ _ r in
    let e = both _ _ d.1 in
    let g = both _ _ e.1 in
    (letter_plain a d.0, letter_plain b e.0, letter_plain c g.0, costs-plain true f v g.1))
    (both _ _ t).1

charge-plain : (v : List ℕ) → T (charge_fits v) → T (plain (charge v))
unfolding charge_fits charge currency
charge-plain [] t = absurd t
charge-plain (a ∷ []) t = absurd t
charge-plain (a ∷ b ∷ []) t = absurd t
charge-plain (a ∷ b ∷ c ∷ []) t = absurd t
charge-plain (a ∷ b ∷ c ∷ f ∷ v) t =
    let d = currency_plain a b c f v t in
    cons-plain a _ d.0
    (cons-plain b _ d.1
    (cons-plain c _ d.2 (cons-plain 0x20 _ (omega arith) (coded-plain (a ∷ b ∷ c ∷ f ∷ v) 3 d.3))))

selected-plain : (s : List Range) (v : List ℕ) → T (from 0x20 s) → T (terminal_fits s v) → T (plain (selected v))
unfolding terminal_fits selected all_in
selected-plain s [] p t = absurd t
selected-plain s (h ∷ []) p t = absurd t
selected-plain s (h ∷ x ∷ []) p t =
    pick_case (λ (w : List ℕ). T (plain w)) (h =? 1) (hex x) (x ∷ []) (λ _. plain-hex x)
    (λ n. let d = both _ _ (subst T (pick_not (h =? 1) _ _ n) t) in
    all_plain s (x ∷ []) p (join _ _ d.1 tt))
selected-plain s (h ∷ x ∷ y ∷ v) p t =
    pick_case (λ (w : List ℕ). T (plain w)) (h =? 1) (hex x) (x ∷ y ∷ v) (λ _. plain-hex x)
    (λ _. all_plain s (x ∷ y ∷ v) p (both _ _ (both _ _ t).1).1)

terminal-plain : (v : List ℕ) → T (terminal_fits number_set v) → T (plain (terminal v))
unfolding terminal from every ◌≤?◌ ◌and◌
terminal-plain v t =
    plain-append (selector_word (get_or v 0 0)) (selected v) (plain_selector (get_or v 0 0))
    (selected-plain number_set v tt t)

behind_plain : (h s : List Range) (v : List ℕ) → T (from 0x20 s) → T (head_fits h s v) → T (plain (display v))
unfolding head_fits display
behind_plain h s [] p t = absurd t
behind_plain h s (x ∷ v) p t = coded-plain (x ∷ v) 0 (all_plain s v p (both _ _ t).1)

display-plain : (ls h s : List Range) (v : List ℕ) → T (from 0x20 s) → T (in_set ls (length v) and head_fits h s v) →
    T (plain (display v))
display-plain ls h s v p t = behind_plain h s v p (both _ _ t).1

-- ---- the law of a class
pub record Printed (c : Class) : Type 0 where
  pub wide : (v : List ℕ) → T (contents_fit c v) → length (printed (style_of c) v) ≤ length v + surplus (style_of c)
  pub plainly : (v : List ℕ) → T (contents_fit c v) → T (plain (printed (style_of c) v))

-- classes in two hex digits
hex_value_lem : (c : Class) → style_of c ≡ hex_style → Printed c
unfolding printed surplus hex
hex_value_lem c e = record {
  wide = λ v t. subst (λ (s : Style). length (printed s v) ≤ length v + surplus s) (sym e)
      (omega (arith, (lawful c).least _ ((lawful c).fit_length v t)));
  plainly = λ v t. subst (λ (s : Style). T (plain (printed s v))) (sym e) (plain-hex (get_or v 0 0));
}

-- classes of characters, as they are
same_value : (c : Class) → style_of c ≡ verbatim → ((v : List ℕ) → T (contents_fit c v) → T (plain v)) → Printed c
unfolding printed surplus
same_value c e p = record {
  wide = λ v t. subst (λ (s : Style). length (printed s v) ≤ length v + surplus s) (sym e) (omega arith);
  plainly = λ v t. subst (λ (s : Style). T (plain (printed s v))) (sym e) (p v t);
}

text_plain : (ls s : List Range) → T (from 0x20 s) → (v : List ℕ) → T (in_set ls (length v) and all_in s v) →
    T (plain v)
text_plain ls s p v t = all_plain s v p (both _ _ t).1

pub value : (c : Class) → Printed c
unfolding printed style_of surplus whole half seconds duration from plain every ◌≤?◌ ◌and◌
value Carried = record { wide = λ v t. omega arith; plainly = λ v t. tt }
value Date =
    record {
      wide = λ v t. omega (arith, clock_long v, long 8 Date v tt t);
      plainly = λ v t. clock-plain v (pairs_plain _ v t) (long 8 Date v tt t);
    }
value Number = same_value Number refl (text_plain _ number_set tt)
value Absent = same_value Absent refl (columns_plain (absent_set ∷ []) tt)
value Name = same_value Name refl (text_plain _ name_set tt)
value Lamp =
    record {
      wide = λ v t. omega (arith, lamp_wide (get_or v 0 0), long 1 Lamp v tt t);
      plainly = λ v t. plain_lamp (get_or v 0 0);
    }
value Identity =
    record {
      wide = λ v t. omega (arith, identity_wide v (fit_octets (lawful Identity) v t), long 3 Identity v tt t);
      plainly = λ v t. identity-plain v;
    }
value CallType = hex_value_lem CallType refl
value Waiting =
    record {
      wide = λ v t. omega (
        arith,
        three_digits (get_or v 0 0) (omega (arith, octet_at v (fit_octets (lawful Waiting) v t) 0)),
        long 1 Waiting v tt t,
      );
      plainly = λ v t. plain-decimal (get_or v 0 0);
    }
value Forwarded = hex_value_lem Forwarded refl
value User = hex_value_lem User refl
value ShortText = same_value ShortText refl (text_plain _ name_set tt)
value Moment =
    record {
      wide = λ v t. moment_wide v (long 8 Moment v tt t);
      plainly = λ v t. moment-plain v (⊎_elim (pairs_plain _ v) (pairs_plain _ v) (either _ _ t))
          (long 8 Moment v tt t);
    }
value Charge = record { wide = λ v t. charge_wide v (long 4 Charge v tt t); plainly = charge-plain }
value Duration =
    record {
      wide = λ v t. omega (arith, long 6 Duration v tt t);
      plainly = λ v t. duration-plain v (pairs_plain _ v t) (long 6 Duration v tt t);
    }
value Terminal = record { wide = λ v t. terminal_wide v (long 2 Terminal v tt t); plainly = terminal-plain }
value Display =
    record {
      wide = λ v t. display_wide v (long 1 Display v tt t);
      plainly = λ v t. display-plain _ display_set name_set v tt t;
    }
value Service = hex_value_lem Service refl
value Extension = same_value Extension refl (extension_plain name_set tt)
value OldNumber = same_value OldNumber refl (text_plain _ old_number_set tt)
value OldForwarded = hex_value_lem OldForwarded refl
value OldUser = hex_value_lem OldUser refl
value Unlisted = record { wide = λ v t. omega arith; plainly = λ v t. tt }
