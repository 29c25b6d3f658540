-- What the first 8,192 octets of a text give, all would give: no valid listing has as many, since each of the 27 rows
-- has a line of at most 17 + 264 + 2 octets. So of a longer text the lines that begin a valid listing lie in these
-- octets, and what spoils it does so in them, or has no line end there.
-- Assumes nothing.
use Rattle.std.proofs.Common.{◌≡◌, ℕ, zero, suc, ◌+◌, ◌-◌, ◌*◌, ◌<◌, ◌≤◌, Bool, T, ◌⊎◌, List, [], ◌∷◌, ◌++◌, length, take, sym, refl, ap, ◌∙◌, subst, ap₂, inl, inr, arith, length-append, length-take-le, take_all, Result}
use lib.Seq.{take-append-le, take-append-add}
use Rattle.rules.specs.First.{index_of}
use Rattle.rules.specs.Tests.{◌≤?◌, ◌and◌, every, ◌=?◌, pick}
use Rattle.rules.proofs.Tests.{decide, le_of, not_le, every_head, every_tail}
use Rattle.rules.specs.Message.{Parameter, octets}
use Rattle.rules.specs.Table.{Row, rules_of, class_of, style_of, contents_fit, ascii}
use Rattle.listing.specs.Listing.{Line, line_text, written, line_of, row_count_lem}
use Rattle.listing.proofs.Longest.{line_long, kind_short, end_short}
use Rattle.listing.proofs.Values.{value, surplus_most}
use Rattle.contents.proofs.Fitting.{fits_short}
use Rattle.writer.specs.Writing.{unwritten, output_after}
use Rattle.relist.specs.Relist.{message_for, relisted, relisting, limit}
use Rattle.relist.specs.Sentences.{Valid, Unended, Spoils, missing, unended, wrong, SpoiltAt}
use Rattle.relist.proofs.Text.{none_head, none_tail}
use Rattle.relist.proofs.Chosen.{Chosen, said, last}
use Rattle.relist.proofs.Orderly.{orderly_chosen}
use Rattle.relist.proofs.Said.{tested}
use Rattle.relist.proofs.Valid.{R, first, says_text}
use Rattle.relist.proofs.Spoilt.{Read, valid, spoilt, reads}
use Rattle.relist.proofs.Answers.{from_61}
use Rattle.rules.specs.declared.Fault.{Fault}

-- ---- how long a valid listing is
abbrev short : Row → Bool
short r = length r.key ≤? 17

short_keys : T (every short R.rows)
unfolding every rules_of ascii ◌≤?◌ ◌and◌
short_keys = tt

row_long : (r : Row) → T (short r) → (v : List ℕ) → T (contents_fit (class_of R r.kind) v) →
    length (line_text (line_of R r v)) ≤ 283
unfolding line_of
row_long r k v f =
    let c = class_of R r.kind in
    omega (
      arith,
      line_long (line_of R r v),
      le_of _ _ k,
      (value c).wide v f,
      surplus_most (style_of c),
      fits_short c v f,
    )

lines_long : (rs : List Row) → T (every short rs) → (ps qs : List Parameter) (ls : List Line) → Chosen R rs ps qs ls →
    length (written ls) ≤ 283 * length rs
unfolding written
lines_long [] k ps qs ls c = omega (arith, ap (λ (x : List Line). length (written x)) c.1)
lines_long (r ∷ rs) k ps qs ls (inl c) = omega (arith, lines_long rs (every_tail short r rs k) ps qs ls c)
lines_long (r ∷ rs) k ps qs ls (inr c) =
    omega (
      arith,
      ap (λ (x : List Line). length (written x)) c.4,
      length-append (line_text (line_of R r c.0)) (written c.2),
      row_long r (every_head short r rs k) c.0 c.5,
      lines_long rs (every_tail short r rs k) (ps ++ said r c.0 ∷ []) c.1 c.2 c.7,
    )

pub valid_short : (t : List ℕ) → Valid R t → length t < limit
valid_short t v =
    let m = v.0 in
    let w = orderly_chosen R tested m v.1.0 in
    omega (
      arith,
      ap length (says_text m t v.1),
      length-append (first m.kind) (written w.0 ++ last),
      length-append (written w.0) last,
      kind_short m.kind,
      end_short,
      lines_long R.rows short_keys [] m.parameters w.0 w.1,
      row_count_lem,
    )

-- ---- texts cut short
unended_take : (n : ℕ) (v : List ℕ) → Unended v → Unended (take n v)
unfolding index_of pick ◌=?◌
unended_take zero v u = refl
unended_take (suc n) [] u = refl
unended_take (suc n) (x ∷ v) u =
    ap₂ (λ (q : Bool) (k : ℕ). pick q 0 (suc k)) (none_head 0x0A x v u) (unended_take n v (none_tail 0x0A x v u))

module _ (t : List ℕ) (h : limit < length t) (k : ℕ) (s : SpoiltAt R t k) where
  inside : length s.before < limit
  inside =
      let b = s.begins in
      omega (arith, valid_short (s.before ++ b.0) b.1, length-append s.before b.0)

  abbrev n : ℕ
  n = limit - length s.before

  rest_long : n ≤ length s.rest
  rest_long = omega (arith, inside, ap length s.is, length-append s.before s.rest)

  cut : s.before ++ take n s.rest ≡ take limit t
  cut =
      let e : length s.before + n ≡ limit = omega (arith, inside) in
      sym (take-append-add s.before s.rest n) ∙ ap₂ take e s.is

  some : 1 ≤ length (take n s.rest)
  some = omega (arith, length-take-le n s.rest rest_long, inside)

  spoils : Spoils R s.before s.rest → Spoils R s.before (take n s.rest)
  spoils (missing e v) = absurd (omega (arith, rest_long, ap length e, inside))
  spoils (unended g u) = unended some (unended_take n s.rest u)
  spoils (wrong l more u e b) = go (decide (suc (length l) ≤? n))
    where
      go : T (suc (length l) ≤? n) ⊎ (T (suc (length l) ≤? n) → ⊥) → Spoils R s.before (take n s.rest)
      go (inl y) =
          let q = le_of _ _ y in
          let j : length l + suc (n - suc (length l)) ≡ n = omega arith in
          wrong l (take (n - suc (length l)) more) u
          (sym (take-append-add l (0x0A ∷ more) (suc (n - suc (length l)))) ∙ ap₂ take j e) b
      go (inr x) =
          let q = not_le _ _ x in
          let d : take n l ≡ take n s.rest =
          sym (take-append-le n l (0x0A ∷ more) (omega arith)) ∙ ap (take n) e in
          unended some (subst Unended d (unended_take n l u))

  spoilt_cut : SpoiltAt R (take limit t) k
  spoilt_cut =
      record {
        lines = s.lines;
        before = s.before;
        rest = take n s.rest;
        number = s.number;
        is = cut;
        ended = s.ended;
        begins = s.begins;
        spoils = spoils s.spoils;
      }

-- ---- a longer text is spoilt at the same line
record Both (t : List ℕ) : Type 0 where
  line : ℕ
  all : (room : ℕ) → relisted R t room ≡ unwritten 61 line
  front : (room : ℕ) → relisted R (take limit t) room ≡ unwritten 61 line

both_spoilt : (t : List ℕ) → limit < length t → Both t
both_spoilt t h = go (reads t 0)
  where
    go : Read t 0 → Both t
    go (valid m s) = absurd (omega (arith, valid_short t (m, s)))
    go (spoilt k e s) =
        record {
          line = k;
          all = λ room. from_61 t room k s;
          front = λ room. from_61 (take limit t) room k (spoilt_cut t h k s);
        }

module _ (t : List ℕ) where
  pub enough : (room : ℕ) → relisting R (take limit t) room ≡ relisting R t room
  unfolding relisting
  enough room = go (decide (length t ≤? limit))
    where
      go : T (length t ≤? limit) ⊎ (T (length t ≤? limit) → ⊥) → relisting R (take limit t) room ≡ relisting R t room
      go (inl y) = ap (λ (x : List ℕ). relisting R x room) (take_all limit t (le_of _ _ y))
      go (inr x) =
          let b = both_spoilt t (not_le _ _ x) in
          ap (λ (w : Result ℕ Fault). record { edition = R.edition; answer = w }) (b.front room ∙ sym (b.all room))

  pub enough_output : (old : List ℕ) →
      output_after (relisted R (take limit t) (length old)) (octets (message_for R (take limit t))) old ≡
      output_after (relisted R t (length old)) (octets (message_for R t)) old
  unfolding output_after
  enough_output old = go (decide (length t ≤? limit))
    where
      after : List ℕ → List ℕ
      after x = output_after (relisted R x (length old)) (octets (message_for R x)) old

      go : T (length t ≤? limit) ⊎ (T (length t ≤? limit) → ⊥) → after (take limit t) ≡ after t
      go (inl y) = ap after (take_all limit t (le_of _ _ y))
      go (inr x) =
          let b = both_spoilt t (not_le _ _ x) in
          ap (λ (w : Result ℕ Fault). output_after w (octets (message_for R (take limit t))) old) (b.front (length old))
          ∙ sym (ap (λ (w : Result ℕ Fault). output_after w (octets (message_for R t)) old) (b.all (length old)))
