-- A text that is read back prints as it was, for `unprinted` tells no other; and what contents of a class print reads
-- back to them. That goes style by style: the octets that a text holds at its places are the first of the contents, in
-- their order, two hex digits and a decimal say their number (Numerals), and what stands behind is the contents' rest.
-- Assumes nothing.
use Rattle.std.proofs.Common.{◌≡◌, ℕ, zero, suc, ◌/◌, ◌%◌, ◌<◌, ◌≤◌, T, ◌⊎◌, List, [], ◌∷◌, ◌++◌, length, get_or, drop, sym, refl, ap, ◌∙◌, subst, ap₂, inl, inr, ⊎_elim, append-nil, arith, drop_of_length-le}
use mathlib.Core.Option.{none, some}
use lib.Seq.{drop-length, drop-append_seam}
use Rattle.rules.specs.Tests.{◌=?◌, pick}
use Rattle.rules.proofs.Tests.{clash, both, either, le_of, eq_of, of_eq, decide, pick_yes, pick_not, picked_by}
use Rattle.rules.specs.Pairwise.{same_octets}
use Rattle.rules.proofs.Pairwise.{octets_are, octets_self}
use Rattle.rules.specs.Laying.{laid}
use Rattle.rules.specs.Octets.{Octets}
use Rattle.rules.proofs.Octets.{octet_at}
use Rattle.rules.specs.Contents.{Range, within, in_set, only, columns_fit}
use Rattle.rules.specs.Terminal.{terminal_fits}
use Rattle.rules.specs.Table.{lamp_set, identity_set, whole, contents_fit, style_of, ascii}
use Rattle.rules.specs.Table.{Style, clock as clock_style, verbatim, switch, reference as reference_style, decimal as decimal_style, hex as hex_style, numbered, moment as moment_style, duration as duration_style, charge as charge_style, terminal as terminal_style, display as display_style}
use Rattle.rules.proofs.ClassLaw.{fit_octets}
use Rattle.rules.proofs.ContentLaw.{lawful}
use Rattle.rules.specs.declared.Class.{Class}
use Rattle.rules.specs.declared.Class.TheVariants.{Carried, Date, Number, Absent, Name, Lamp, Identity, CallType, Waiting, Forwarded, User, ShortText, Moment, Charge, Duration, Terminal, Display, Service, Extension, OldNumber, OldForwarded, OldUser, Unlisted}
use Rattle.listing.specs.Numerals.{decimal, hex, number_from}
use Rattle.listing.proofs.Numerals.{decimal_says, hex_digit_says}
use Rattle.listing.specs.Listing.{half, seconds, coded, lamp_word, state_word, reference, currency, selector_word, selected, clock, identity, moment, duration, charge, terminal, display, printed}
use Rattle.listing.proofs.Pieces.{with_seconds, no_seconds, is_connection, is_number, is_subaddress, is_code, is_digits}
use Rattle.relist.specs.Back.{hex_at, number_at, pairs_back, octets_back, one_back, switch_back, state_back, reference_back, moment_back, terminal_back, back_of, read_off, back, unprinted}

-- ---- any text
-- a text that is read back prints as it was, in every style
pub printed_of_unprinted : (s : Style) (t v : List ℕ) → unprinted s t ≡ some v → printed s v ≡ t
unfolding unprinted
printed_of_unprinted s t v e =
    picked_by (printed s v ≡ t) (same_octets (printed s (back s t)) t) (some (back s t)) none (some v) e
    (λ d q. let z : back s t ≡ v = cc in ap (printed s) (sym z) ∙ octets_are _ _ d) (λ _ q. clash (cc))

-- ---- octets in their order
-- the first n of some octets, given by their places
abbrev firsts : (ℕ → ℕ) → ℕ → List ℕ
firsts f zero = []
firsts f (suc n) = f 0 ∷ firsts (λ i. f (suc i)) n

-- contents are their first n octets and the rest
first_rest : (v : List ℕ) (n : ℕ) → n ≤ length v → firsts (λ i. get_or v i 0) n ++ drop n v ≡ v
first_rest v zero h = refl
first_rest [] (suc n) h = absurd (omega arith)
first_rest (x ∷ v) (suc n) h = ap (λ (w : List ℕ). x ∷ w) (first_rest v n (omega arith))

-- n octets are their first n
first_all : (v : List ℕ) (n : ℕ) → length v ≡ n → firsts (λ i. get_or v i 0) n ≡ v
first_all v n e =
    sym (append-nil _)
    ∙ ap (λ (w : List ℕ). firsts (λ i. get_or v i 0) n ++ w) (sym (drop_of_length-le v {i = n} (omega arith)))
    ∙ first_rest v n (omega arith)

-- an octet that is known, and the rest
head_is : (v : List ℕ) (x : ℕ) → get_or v 0 0 ≡ x → 1 ≤ length v → x ∷ drop 1 v ≡ v
head_is v x e h = ap (λ (x : ℕ). x ∷ drop 1 v) (sym e) ∙ first_rest v 1 h

-- ---- what a rule tells of contents
-- in a set that begins with one number: that number, or one of the others
among : {A : Type 0} (k : ℕ) (s : List Range) (x : ℕ) → (x ≡ k → A) → (T (in_set s x) → A) →
    T (in_set ((k, k) ∷ s) x) → A
unfolding in_set within
among k s x f g t =
    ⊎_elim (λ d. f (let b = both _ _ d in omega (arith, le_of k x b.0, le_of x k b.1))) g (either _ _ t)

-- the empty set has none
nowhere : {A : Type 0} (x : ℕ) → T (in_set [] x) → A
unfolding in_set
nowhere x t = absurd t

-- a class of one length
sized : (c : Class) (k : ℕ) → (whole c).lengths ≡ only k → (v : List ℕ) → T (contents_fit c v) → length v ≡ k
sized c k e v t =
    among k _ (length v) (λ d. d) (nowhere (length v))
    (subst (λ (s : List Range). T (in_set s (length v))) e ((lawful c).fit_length v t))

-- the first octet of columns
first_in : (s : List Range) (ss : List (List Range)) (v : List ℕ) → T (columns_fit (s ∷ ss) v) →
    T (in_set s (get_or v 0 0))
unfolding columns_fit
first_in s ss [] t = absurd t
first_in s ss (x ∷ v) t = (both _ _ t).0

-- ---- numbers
-- two hex digits
hex_octet : (x : ℕ) → x < 256 → hex_at (hex x) 0 ≡ x
unfolding hex_at hex
hex_octet x h = omega (arith, hex_digit_says (x / 16) (omega arith), hex_digit_says (x % 16) (omega arith))

-- a decimal behind a text
decimal_number : (w : List ℕ) (n : ℕ) → n < 65536 → number_at (w ++ decimal n) (length w) ≡ n
unfolding number_at
decimal_number w n h =
    let e = ap (number_from 0) (drop-append_seam w (decimal n)) ∙ decimal_says n in omega arith

-- ---- two octets and a mark, again and again
module _ (v : List ℕ) where
  clock-back : length v ≡ 8 → back clock_style (clock v) ≡ v
  unfolding back read_off back_of pairs_back clock half ascii
  clock-back e = first_all v 8 e

  duration-back : length v ≡ 6 → back duration_style (duration v) ≡ v
  unfolding back read_off back_of pairs_back duration half seconds
  duration-back e = first_all v 6 e

  moment_back_lem : T (in_set (only 8 ++ only 10) (length v)) → back moment_style (moment v) ≡ v
  unfolding back read_off back_of moment_back pairs_back pick ◌=?◌ clock half seconds ascii
  moment_back_lem =
      among 8 _ (length v)
      (λ e. ap (back moment_style) (sym (no_seconds v (λ d. omega arith))) ∙ first_all v 8 e)
      (among 10 _ (length v) (λ e. ap (back moment_style) (sym (with_seconds v e)) ∙ first_all v 10 e)
      (nowhere (length v)))

-- ---- words
lamp_said : (x : ℕ) → T (in_set lamp_set x) → back switch (lamp_word x) ≡ x ∷ []
unfolding back read_off back_of switch_back one_back octets_back laid pick ◌=?◌ lamp_word ascii
lamp_said x = among 0x00 _ x (λ e. rw e) (among 0xFF _ x (λ e. rw e) (nowhere x))

-- a state and its reference, behind any word
word_said : (w : List ℕ) (x n : ℕ) → n < 65536 →
    read_off (state_back x (w ++ decimal n) (length w)) (w ++ decimal n) ≡ x ∷ n / 256 ∷ n % 256 ∷ []
unfolding read_off state_back octets_back laid
word_said w x n h =
    ap₂ (λ (m : ℕ) (r : List ℕ). x ∷ m / 256 ∷ m % 256 ∷ r) (decimal_number w n h) (drop-length (w ++ decimal n))

state_said : (n : ℕ) → n < 65536 → (x : ℕ) → T (in_set identity_set x) →
    back reference_style (state_word x ++ ascii " " ++ decimal n) ≡ x ∷ n / 256 ∷ n % 256 ∷ []
unfolding back back_of reference_back pick ◌=?◌ state_word lamp_word ascii
state_said n h x =
    among 0x00 _ x (λ e. rw e (word_said (ascii "off ") 0x00 n h))
    (among 0x55 _ x (λ e. rw e (word_said (ascii "unset ") 0x55 n h))
    (among 0xFF _ x (λ e. rw e (word_said (ascii "on ") 0xFF n h)) (nowhere x)))

-- ---- each style, over octets
switch_back_lem : (v : List ℕ) → length v ≡ 1 → T (in_set lamp_set (get_or v 0 0)) → back switch (lamp_word (get_or v 0 0)) ≡ v
switch_back_lem v e t = lamp_said (get_or v 0 0) t ∙ first_all v 1 e

module _ (v : List ℕ) (o : Octets v) where
  identity-back : length v ≡ 3 → T (in_set identity_set (get_or v 0 0)) → back reference_style (identity v) ≡ v
  unfolding identity reference
  identity-back e t =
      let b = octet_at v o 1 in
      let c = octet_at v o 2 in
      state_said (reference v) (omega arith) (get_or v 0 0) t
      ∙ ap₂ (λ (b c : ℕ). get_or v 0 0 ∷ b ∷ c ∷ []) (omega arith) (omega arith) ∙ first_all v 3 e

  decimal_back_lem : length v ≡ 1 → back decimal_style (decimal (get_or v 0 0)) ≡ v
  unfolding back read_off back_of one_back octets_back laid
  decimal_back_lem e =
      let l = octet_at v o 0 in
      ap₂ (λ (m : ℕ) (r : List ℕ). m % 256 ∷ r) (decimal_number [] (get_or v 0 0) (omega arith))
      (drop-length (decimal (get_or v 0 0)))
      ∙ ap (λ (x : ℕ). x ∷ []) (omega arith) ∙ first_all v 1 e

  hex-back : length v ≡ 1 → back hex_style (hex (get_or v 0 0)) ≡ v
  unfolding back read_off back_of one_back octets_back laid hex
  hex-back e = ap (λ (x : ℕ). x ∷ []) (hex_octet (get_or v 0 0) (octet_at v o 0)) ∙ first_all v 1 e

  charge_back_lem : 4 ≤ length v → back charge_style (charge v) ≡ v
  unfolding back read_off back_of octets_back laid hex_at charge currency coded hex ascii
  charge_back_lem h =
      ap (λ (f : ℕ). get_or v 0 0 ∷ get_or v 1 0 ∷ get_or v 2 0 ∷ f ∷ drop 4 v) (hex_octet (get_or v 3 0) (octet_at v o 3))
      ∙ first_rest v 4 h

  display-back : 1 ≤ length v → back display_style (display v) ≡ v
  unfolding back read_off back_of octets_back laid hex_at display coded hex ascii
  display-back = head_is v _ (sym (hex_octet (get_or v 0 0) (octet_at v o 0)))

-- ---- what a terminal is selected by
data Selects (v : List ℕ) : Type 0 where
  connection : get_or v 0 0 ≡ 1 → length v ≡ 2 → Selects v
  number : get_or v 0 0 ≡ 2 → Selects v
  subaddress : get_or v 0 0 ≡ 3 → Selects v

-- one of the two that digits stand behind
digits : (h : ℕ) (v : List ℕ) → T (within (2, 3) h) → Selects (h ∷ v)
unfolding within
digits h v t = go (decide (h =? 2))
  where
    go : T (h =? 2) ⊎ (T (h =? 2) → ⊥) → Selects (h ∷ v)
    go (inl d) = number (eq_of h 2 d)
    go (inr d) =
        let b = both _ _ t in
        let l = le_of 2 h b.0 in
        let m = le_of h 3 b.1 in
        let n : h ≡ 2 → ⊥ = λ e. d (of_eq h 2 e) in
        subaddress (omega arith)

selects : (s : List Range) (v : List ℕ) → T (terminal_fits s v) → Selects v
unfolding terminal_fits
selects s [] t = absurd t
selects s (h ∷ []) t = absurd t
selects s (h ∷ x ∷ []) t = go (decide (h =? 1))
  where
    go : T (h =? 1) ⊎ (T (h =? 1) → ⊥) → Selects (h ∷ x ∷ [])
    go (inl d) = connection (eq_of h 1 d) refl
    go (inr d) = digits h (x ∷ []) (both _ _ (subst T (pick_not (h =? 1) _ _ d) t)).0
selects s (h ∷ x ∷ y ∷ v) t = digits h (x ∷ y ∷ v) (both _ _ t).0

-- a terminal's text by its parts
parts_back : (v a b : List ℕ) → a ≡ selector_word (get_or v 0 0) → b ≡ selected v → back terminal_style (a ++ b) ≡ v →
    back terminal_style (terminal v) ≡ v
unfolding terminal
parts_back v a b d e r = ap₂ (λ (a b : List ℕ). back terminal_style (a ++ b)) (sym d) (sym e) ∙ r

terminal_back_lem : (v : List ℕ) → Octets v → 1 ≤ length v → Selects v → back terminal_style (terminal v) ≡ v
unfolding back read_off back_of terminal_back octets_back laid hex_at pick ◌=?◌ hex ascii
terminal_back_lem v o h (connection d e) =
    parts_back v _ _ (is_connection _ d) (is_code v d)
    (ap₂ (λ (a b : ℕ). a ∷ b ∷ []) (sym d) (hex_octet (get_or v 1 0) (octet_at v o 1)) ∙ first_all v 2 e)
terminal_back_lem v o h (number d) =
    let n : get_or v 0 0 ≡ 1 → ⊥ = λ e. omega arith in
    parts_back v _ _ (is_number _ n d) (is_digits v n) (head_is v 2 d h)
terminal_back_lem v o h (subaddress d) =
    let n : get_or v 0 0 ≡ 1 → ⊥ = λ e. omega arith in
    parts_back v _ _ (is_subaddress _ n (λ e. omega arith)) (is_digits v n) (head_is v 3 d h)

-- ---- each class
abbrev Returns : Class → Type 0
Returns c = (v : List ℕ) → T (contents_fit c v) → back (style_of c) (printed (style_of c) v) ≡ v

-- classes as they are
same_value : (c : Class) → style_of c ≡ verbatim → Returns c
unfolding back read_off back_of octets_back laid printed
same_value c e v t = subst (λ (s : Style). back s (printed s v) ≡ v) (sym e) refl

-- classes in two hex digits
hex_value_lem : (c : Class) → style_of c ≡ hex_style → (whole c).lengths ≡ only 1 → Returns c
unfolding printed
hex_value_lem c e l v t =
    subst (λ (s : Style). back s (printed s v) ≡ v) (sym e)
    (hex-back v (fit_octets (lawful c) v t) (sized c 1 l v t))

-- what contents of a class print reads back to them
pub back_of_printed : (c : Class) (v : List ℕ) → T (contents_fit c v) → (style_of c ≡ numbered → ⊥) →
    back (style_of c) (printed (style_of c) v) ≡ v
unfolding style_of whole printed
back_of_printed Carried v t n = absurd (n refl)
back_of_printed Date v t n = clock-back v (sized Date 8 refl v t)
back_of_printed Number v t n = same_value Number refl v t
back_of_printed Absent v t n = same_value Absent refl v t
back_of_printed Name v t n = same_value Name refl v t
back_of_printed Lamp v t n = switch_back_lem v (sized Lamp 1 refl v t) (first_in lamp_set _ v t)
back_of_printed Identity v t n =
    identity-back v (fit_octets (lawful Identity) v t) (sized Identity 3 refl v t) (first_in identity_set _ v t)
back_of_printed CallType v t n = hex_value_lem CallType refl refl v t
back_of_printed Waiting v t n = decimal_back_lem v (fit_octets (lawful Waiting) v t) (sized Waiting 1 refl v t)
back_of_printed Forwarded v t n = hex_value_lem Forwarded refl refl v t
back_of_printed User v t n = hex_value_lem User refl refl v t
back_of_printed ShortText v t n = same_value ShortText refl v t
back_of_printed Moment v t n = moment_back_lem v ((lawful Moment).fit_length v t)
back_of_printed Charge v t n =
    charge_back_lem v (fit_octets (lawful Charge) v t) (omega (arith, sized Charge 14 refl v t))
back_of_printed Duration v t n = duration-back v (sized Duration 6 refl v t)
back_of_printed Terminal v t n =
    terminal_back_lem v (fit_octets (lawful Terminal) v t) ((lawful Terminal).least _ ((lawful Terminal).fit_length v t))
    (selects _ v t)
back_of_printed Display v t n =
    display-back v (fit_octets (lawful Display) v t) ((lawful Display).least _ ((lawful Display).fit_length v t))
back_of_printed Service v t n = hex_value_lem Service refl refl v t
back_of_printed Extension v t n = same_value Extension refl v t
back_of_printed OldNumber v t n = same_value OldNumber refl v t
back_of_printed OldForwarded v t n = hex_value_lem OldForwarded refl refl v t
back_of_printed OldUser v t n = hex_value_lem OldUser refl refl v t
back_of_printed Unlisted v t n = absurd (n refl)

-- so their text is a value, and says them
pub unprinted_of_printed : (c : Class) (v : List ℕ) → T (contents_fit c v) → (style_of c ≡ numbered → ⊥) →
    unprinted (style_of c) (printed (style_of c) v) ≡ some v
unfolding unprinted
unprinted_of_printed c v t n =
    rw (back_of_printed c v t n) (pick_yes _ (some v) none (octets_self (printed (style_of c) v)))
