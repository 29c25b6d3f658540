-- The answer to a text: its first line says a type, the rows take the lines behind it, and what follows these decides.
-- An answer that is a message has at most 255 octets of parameters, which then stand in the area, and room for three
-- more: sealed, they are the octets of the message that the text says.
-- Assumes nothing.
use Rattle.std.proofs.Common.{◌≡◌, ℕ, suc, ◌+◌, ◌-◌, ◌≤◌, List, [], length, take, drop, sym, refl, ap, ◌∙◌, subst, arith, Result, Ok, Err, Option, Some, None}
use Rattle.rules.proofs.Tests.{clash, picked_by, pick_yes, pick_not, not_le}
use Rattle.rules.proofs.Returns.{pick_t, pick_f, yes_eq, no_eq}
use Rattle.rules.specs.Table.{Rules, rules_of}
use Rattle.rules.specs.declared.Book.TheVariants.{PresentLenient}
use Rattle.rules.specs.declared.Fault.{Fault}
use Rattle.rules.specs.Message.{octets}
use Rattle.rules.specs.Laying.{laid}
use Rattle.rules.specs.Refusals.{noted}
use Rattle.std.specs.Option.{ok_or}
use Rattle.writer.specs.Writing.{sized, output_after}
use Rattle.relist.specs.Relist.{Lined, line_in, taken, kind_said, kind_in, closed, lined_in, message_for, relisted}
use Rattle.relist.specs.Reading.{TookRows, Sealed}
use Rattle.relist.specs.declared.Taken.{Taken}
use Rattle.relist.proofs.Reading.{line_within, line_part, line_rest}

abbrev R : Rules
R = rules_of PresentLenient

-- ---- what follows the value lines
closed_fits : (n : ℕ) (t : List ℕ) (l room whole : ℕ) → closed n t l room ≡ Ok whole →
    (l ≤ 255) × (l + 3 ≤ room)
unfolding closed sized
closed_fits n t l room whole e =
    picked_by Fits _ _ _ _ e (λ _ q. clash (cc))
    (λ _ e. picked_by Fits _ _ _ _ e
    (λ _ e. picked_by Fits _ _ _ _ e
    (λ _ e. picked_by Fits _ _ _ _ e (λ _ q. clash (cc))
    (λ a e. picked_by Fits _ _ _ _ e (λ _ q. clash (cc))
    (λ b _. (omega (arith, not_le 256 l a), omega (arith, not_le (suc room) (l + 3) b)))))
    (λ _ q. clash (cc)))
    (λ _ q. clash (cc)))
  where
    Fits : Type 0
    Fits = (l ≤ 255) × (l + 3 ≤ room)

-- a refusal leaves the output
pub untouched : (w : Result ℕ Fault) (f : Fault) (o old : List ℕ) → w ≡ Err f → old ≡ output_after w o old
unfolding output_after
untouched w f o old e = rw e refl

-- the type that a line says, and 0 for none
kind_told : (l : List ℕ) (k : ℕ) → kind_said l ≡ Some k → (kind_in l ≡ k) × (1 ≤ k)
unfolding kind_said kind_in
kind_told l k e =
    picked_by Told _ _ _ _ e (λ a q. let n : 0x80 ≡ k = cc in (pick_yes _ _ _ a ∙ n, omega arith))
    (λ a e. picked_by Told _ _ _ _ e
    (λ b q. let n : 0x82 ≡ k = cc in (pick_not _ _ _ a ∙ pick_yes _ _ _ b ∙ n, omega arith)) (λ b q. clash (cc)))
  where
    Told : Type 0
    Told = (kind_in l ≡ k) × (1 ≤ k)

kind_none : (l : List ℕ) → kind_said l ≡ None → kind_in l ≡ 0
unfolding kind_said kind_in
kind_none l e =
    picked_by (kind_in l ≡ 0) _ _ _ _ e (λ a q. clash (cc))
    (λ a e. picked_by (kind_in l ≡ 0) _ _ _ _ e (λ b q. clash (cc)) (λ b q. pick_not _ _ _ a ∙ pick_not _ _ _ b))

-- ---- the first line
module _ (t : List ℕ) (first : ℕ) (e : first ≡ 0 + length (line_in (drop 0 t))) where
  pub first_inside : first ≤ length t
  first_inside = (line_within t 0 (omega arith) first e).1

  first_is : take first t ≡ line_in t
  first_is =
      let z : first ≡ first - 0 = omega arith in
      ap (λ (k : ℕ). take k t) z ∙ line_part t 0 (omega arith) first e

  pub no_kind : (x : Option ℕ) (f g : Fault) → x ≡ kind_said (take first t) → f ≡ noted 61 1 →
      ok_or {T = ℕ} x f ≡ Err g →
      (room : ℕ) → Err g ≡ relisted R t room
  unfolding relisted
  no_kind (Some k) f g p q r room = clash (cc)
  no_kind None f g p q r room =
      let z = kind_none (line_in t) (sym (p ∙ ap kind_said first_is)) in
      sym r ∙ ap Err q ∙ pick_t _ _ _ _ (yes_eq _ _ z) refl

  module _ (kind : ℕ) (x : Option ℕ) (f : Fault) (p : x ≡ kind_said (take first t)) (o : ok_or x f ≡ Ok kind) where
    told : (kind_in (line_in t) ≡ kind) × (1 ≤ kind)
    told = go x p o
      where
        go : (x : Option ℕ) → x ≡ kind_said (take first t) → ok_or x f ≡ Ok kind →
            (kind_in (line_in t) ≡ kind) × (1 ≤ kind)
        go None p o = clash (cc)
        go (Some k) p o =
            let s : Some k ≡ Some kind = cc in
            kind_told (line_in t) kind (sym (p ∙ ap kind_said first_is) ∙ s)

    kind_is : kind ≡ kind_in (line_in t)
    kind_is = sym told.0

    -- ---- the lines behind it
    module _ (area : List ℕ) (lines : Taken)
        (q : TookRows (taken R R.rows [] (drop first t)) t area lines) where
      took : TookRows (lined_in R t) t area lines
      unfolding lined_in
      took =
          subst (λ (s : Lined). TookRows s t area lines)
          (ap (taken R R.rows []) (line_rest t 0 (omega arith) first e)) q

      module _ (room : ℕ) (w : Result ℕ Fault) (c : w ≡ closed lines.count (drop lines.at t) lines.size room) where
        pub answered : w ≡ relisted R t room
        unfolding relisted
        answered =
            pick_f _ _ _ _ (no_eq _ _ (λ z. omega (arith, z, told.0, told.1)))
            (c ∙ (λ i. closed (took.count i) (took.rest i) (took.size i) room))

        module _ (whole : ℕ) (m : w ≡ Ok whole) where
          pub message_fits : (lines.size ≤ 255) × (lines.size + 3 ≤ room)
          message_fits = closed_fits lines.count (drop lines.at t) lines.size room whole (sym c ∙ m)

          pub message_laid : (old new : List ℕ) → Sealed kind (take lines.size area) old new →
              new ≡ laid (octets (message_for R t)) old
          unfolding message_for
          message_laid old new s = s (message_for R t) (sym kind_is) (sym (took.front message_fits.0))
