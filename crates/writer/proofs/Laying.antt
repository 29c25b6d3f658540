-- What laying down needs: a copy behind two octets, a parameter behind those before it in the output's rest, the
-- checksum behind them all.
-- Assumes nothing.
use Rattle.std.proofs.Common.{◌≡◌, ℕ, zero, suc, ◌+◌, ◌-◌, ◌%◌, ◌<◌, ◌≤◌, T, List, [], ◌∷◌, ◌++◌, length, get_or, take, drop, set, sym, refl, ap, ◌∙◌, ap₂, append_assoc, append-nil, add-one, arith, length-append, length-drop, length-set, take-append-drop, length-take, length-take-le, take_all, drop-cons, take-suc, drop-drop, take_at}
use lib.Seq.{set-append_seam}
use borrow.Rule.Slice.PartMut.{put_mid, mid_of, same_len_mid}
use Rattle.rules.specs.Tests.{every}
use Rattle.rules.proofs.Tests.{both, le_of}
use Rattle.rules.specs.Octets.{total, checksum}
use Rattle.rules.specs.Message.{Message, body, front, octets}
use Rattle.rules.specs.Laying.{laid, laid_at}
use Rattle.rules.proofs.Laying.{laid_then, rest_laid, part_is, part_over}
use Rattle.draft.specs.Draft.{inside, all_inside, parameter_of, parameters_of, used, message_of}
use Rattle.draft.specs.Same.{flat_of}
use Rattle.draft.proofs.Alike.{inside_flat}
use Rattle.draft.specs.declared.Flat.{Flat}
use Rattle.draft.specs.declared.Entry.{Entry}
use Rattle.draft.specs.declared.Draft.{Draft}
use Rattle.writer.specs.Writing.{contents_of}
use Rattle.writer.specs.Judging.{padded, head_of}
use Rattle.writer.proofs.Judging.{padded_take, contents_are}
use Rattle.writer.specs.declared.Spelling.{Spelling}
use Rattle.writer.specs.Laying.{LaidParameter, parameter_octets, Puttable, Layable}

-- ---- octets copied behind octets
pub both_laid : (head text old first last : List ℕ) → first ≡ head → last ≡ text →
    put_mid (length head) (length head + length text - length head) (first ++ drop (length head) old) last
    ≡ laid (head ++ text) old
unfolding laid
both_laid head text old first last e q =
    part_over text (first ++ drop (length head) old) last (length head) (length head + length text - length head)
    (omega arith) q
    ∙ ap (λ (t : List ℕ). laid_at text (length head) (t ++ drop (length head) old)) e
    ∙ laid_then head text old

-- ---- a type, a length, and the contents behind them
laid_behind_two : (old v : List ℕ) (kind n : ℕ) → 2 + n ≤ length old →
    laid_at v 2 (set (set old 0 kind) 1 n) ≡ laid (kind ∷ n ∷ v) old
unfolding laid laid_at
laid_behind_two [] v kind n h = absurd (let z : 2 + n ≤ 0 = h in omega arith)
laid_behind_two (x ∷ []) v kind n h = absurd (let z : 2 + n ≤ 1 = h in omega arith)
laid_behind_two (x ∷ y ∷ zs) v kind n h =
    ap (λ (t : List ℕ). kind ∷ n ∷ (v ++ t)) (sym (drop-drop (length v) 2 (kind ∷ n ∷ zs)))

module _ (old head text : List ℕ) (kind : ℕ) where
  -- the output with the first two
  abbrev pub opened : List ℕ
  opened = set (set old 0 kind) 1 (length head + length text)

  pub opened_long : length opened ≡ length old
  opened_long = simp length-set

  pub parameter_laid : (last : List ℕ) → 2 + (length head + length text) ≤ length old →
      last ≡ laid (head ++ text) (take (length opened - 2) (drop 2 opened)) →
      LaidParameter kind (head ++ text) old (put_mid 2 (length opened - 2) opened last) (2 + (length head + length text))
  parameter_laid last h e =
      let n = length-append head text in (
        rest_laid (head ++ text) opened last 2 e ∙ laid_behind_two old (head ++ text) kind (length head + length text) h
            ∙ ap (λ (k : ℕ). laid (kind ∷ k ∷ (head ++ text)) old) (sym n),
        ap (λ (k : ℕ). 2 + k) (sym n),
      )

-- ---- the parameter of an entry, by its value laid flat
module _ (texts : List ℕ) (e : Entry) (f : Flat) (q : f ≡ flat_of e.value) (s : Spelling)
    (z : s ≡ padded (head_of e.value)) (room : ℕ) (p : Puttable e texts room) where
  -- the octets spelled, and its text by start and end
  abbrev in_two : List ℕ
  in_two = take s.length s.octets ++ take (f.start + f.length - f.start) (drop f.start texts)

  two_are : in_two ≡ contents_of texts e
  two_are =
      ap₂ (λ (v w : List ℕ). v ++ w) (padded_take s (head_of e.value) z) (part_is texts f.start f.length)
      ∙ ap (λ (f : Flat). head_of e.value ++ take f.length (drop f.start texts)) q
      ∙ contents_are texts e.value

  pub text_inside : f.start + f.length ≤ length texts
  text_inside = let h = le_of _ _ (rw (inside_flat texts e.value) at p.lies) in rw q h

  long : length (take s.length s.octets) + length
      (take (f.start + f.length - f.start) (drop f.start texts)) ≡ length (contents_of texts e)
  long =
      sym (length-append (take s.length s.octets)
      (take (f.start + f.length - f.start) (drop f.start texts))) ∙ ap length two_are

  pub entry_asked : (2 + (length (take s.length s.octets) + length
      (take (f.start + f.length - f.start) (drop f.start texts))) ≤ room)
      × (length (take s.length s.octets) + length
      (take (f.start + f.length - f.start) (drop f.start texts)) < 256)
  unfolding parameter_octets
  entry_asked = (omega (arith, long, p.fits), omega (arith, long, p.short))

  pub entry_put : (old new : List ℕ) (r : ℕ) → LaidParameter e.kind in_two old new r →
      (new ≡ laid (parameter_octets texts e) old) × (r ≡ length (parameter_octets texts e))
  unfolding parameter_octets
  entry_put old new r d = (
    d.0 ∙ ap (λ (v : List ℕ). laid (e.kind ∷ length v ∷ v) old) two_are,
    omega (arith, d.1, ap length two_are),
  )

-- ---- parameters one behind the other, behind the message type and L
abbrev body_of : List ℕ → List Entry → List ℕ
body_of texts es = body (parameters_of texts es)

body-append : (texts : List ℕ) (es fs : List Entry) → body_of texts (es ++ fs) ≡ body_of texts es ++ body_of texts fs
unfolding body parameters_of parameter_of
body-append texts [] fs = refl
body-append texts (e ∷ es) fs =
    ap (λ (t : List ℕ). e.kind ∷ length (contents_of texts e) ∷ t)
    (ap (λ (t : List ℕ). contents_of texts e ++ t) (body-append texts es fs)
    ∙ sym (append_assoc (contents_of texts e) (body_of texts es) (body_of texts fs)))

one_body : (texts : List ℕ) (e : Entry) → body_of texts (e ∷ []) ≡ parameter_octets texts e
unfolding body parameters_of parameter_of parameter_octets
one_body texts e = ap (λ (t : List ℕ). e.kind ∷ length (contents_of texts e) ∷ t) (append-nil (contents_of texts e))

module _ (es : List Entry) (texts : List ℕ) (i : ℕ) (z : Entry) (l : i < length es) where
  body_more : body_of texts (take (i + 1) es) ≡ body_of texts (take i es) ++ parameter_octets texts (get_or es i z)
  body_more =
      ap (λ (k : ℕ). body_of texts (take k es)) (add-one i)
      ∙ ap (body_of texts) (take-suc es i z l)
      ∙ body-append texts (take i es) (get_or es i z ∷ [])
      ∙ ap (λ (t : List ℕ). body_of texts (take i es) ++ t) (one_body texts (get_or es i z))

  body_less : length (body_of texts (take i es)) + length (parameter_octets texts (get_or es i z)) ≤ length
      (body_of texts es)
  body_less =
      let a : body_of texts es ≡ body_of texts (take (i + 1) es) ++ body_of texts (drop (i + 1) es) =
      ap (body_of texts) (sym (take-append-drop (i + 1) es)) ∙ body-append texts _ _ in
      omega (
        arith,
        ap length a,
        length-append (body_of texts (take (i + 1) es)) (body_of texts (drop (i + 1) es)),
        ap length body_more,
        length-append (body_of texts (take i es)) (parameter_octets texts (get_or es i z)),
      )

inside_at : (texts : List ℕ) (es : List Entry) (i : ℕ) (z : Entry) → i < length es → T (all_inside texts es) →
    T (inside texts (get_or es i z).value)
unfolding all_inside every
inside_at texts [] i z l a = absurd (let q : i < 0 = l in omega arith)
inside_at texts (e ∷ es) zero z l a = (both _ _ a).0
inside_at texts (e ∷ es) (suc i) z l a =
    inside_at texts es i z (let q : suc i < suc (length es) = l in omega arith) (both _ _ a).1

-- i entries are laid down behind the first two octets of the output
pub record Wrote (es : List Entry) (texts first out : List ℕ) (at i : ℕ) : Type 0 where
  pub at_is : at ≡ 2 + length (body_of texts (take i es))
  pub out_is : out ≡ laid (take 2 first ++ body_of texts (take i es)) first
  pub long : length out ≡ length first

pub wrote_none : (es : List Entry) (texts first : List ℕ) → 2 ≤ length first → Wrote es texts first first 2 0
unfolding laid body parameters_of
wrote_none es texts [] h = absurd (let z : 2 ≤ 0 = h in omega arith)
wrote_none es texts (x ∷ []) h = absurd (let z : 2 ≤ 1 = h in omega arith)
wrote_none es texts (x ∷ y ∷ zs) h = record { at_is = refl; out_is = refl; long = refl }

-- the first two octets are the message type and L
header_laid : (old v : List ℕ) (kind l : ℕ) → 2 ≤ length old →
    laid (take 2 (set (set old 0 kind) 1 l) ++ v) (set (set old 0 kind) 1 l) ≡ laid (kind ∷ l ∷ v) old
unfolding laid
header_laid [] v kind l h = absurd (let z : 2 ≤ 0 = h in omega arith)
header_laid (x ∷ []) v kind l h = absurd (let z : 2 ≤ 1 = h in omega arith)
header_laid (x ∷ y ∷ zs) v kind l h = refl

-- the output where the entries begin
abbrev headed : Draft → List ℕ → ℕ → List ℕ
headed d old l = set (set old 0 d.kind) 1 l

module _ (d : Draft) (texts old : List ℕ) (l : ℕ) (p : Layable d texts (length old) l)
    (out : List ℕ) (at i : ℕ) (w : Wrote (used d) texts (headed d old l) out at i) where
  headed_long : length (headed d old l) ≡ length old
  headed_long = simp length-set

  pub wrote_end : length (used d) ≤ i →
      (out ≡ laid (front (message_of d texts)) old) × (at ≡ length (front (message_of d texts)))
  unfolding message_of
  wrote_end h =
      let t : take i (used d) ≡ used d = take_all i (used d) h in (
        w.out_is
            ∙ ap (λ (es : List Entry). laid (take 2 (headed d old l) ++ body_of texts es) (headed d old l)) t
            ∙ header_laid old (body_of texts (used d)) d.kind l (omega (arith, p.fits))
            ∙ ap (λ (k : ℕ). laid (d.kind ∷ k ∷ body_of texts (used d)) old) (sym p.size),
        omega (arith, w.at_is, ap (λ (es : List Entry). length (body_of texts es)) t),
      )

  pub wrote_length : length out ≡ length old
  wrote_length = w.long ∙ headed_long

  module _ (z : Entry) (h : i < length (used d)) where
    in_body : length (body_of texts (take i (used d))) + length
        (parameter_octets texts (get_or (used d) i z)) ≤ length (body_of texts (used d))
    in_body = body_less (used d) texts i z h

    pub wrote_room : at + length (parameter_octets texts (get_or (used d) i z)) + 1 ≤ length out
    wrote_room = omega (arith, in_body, w.at_is, wrote_length, p.size, p.fits)

    pub wrote_small : at + length (parameter_octets texts (get_or (used d) i z)) ≤ 257
    wrote_small = omega (arith, in_body, w.at_is, p.size, p.short)

    pub wrote_asked : Puttable (get_or (used d) i z) texts (length (take (length out - at) (drop at out)))
    unfolding parameter_octets
    wrote_asked =
        record {
          fits = simp (length-take, length-drop) (omega (arith, wrote_room));
          short = omega (arith, in_body, p.size, p.short);
          lies = inside_at texts (used d) i z h p.lie;
        }

    pub wrote_more : (last : List ℕ) (r : ℕ) →
        (last ≡ laid (parameter_octets texts (get_or (used d) i z)) (take (length out - at) (drop at out)))
        × (r ≡ length (parameter_octets texts (get_or (used d) i z))) →
        length last ≡ length (mid_of at (length out - at) out) →
        Wrote (used d) texts (headed d old l) (put_mid at (length out - at) out last) (at + r) (i + 1)
    wrote_more last r e k =
        let m = body_more (used d) texts i z h in
        let b = body_of texts (take i (used d)) in
        let o = parameter_octets texts (get_or (used d) i z) in
        let f = headed d old l in
        let t : length (take 2 f) ≡ 2 = length-take-le 2 f (omega (arith, p.fits, headed_long)) in
        record {
          at_is = omega (arith, w.at_is, e.1, ap length m, length-append b o);
          out_is = rest_laid o out last at e.0
              ∙ ap₂ (laid_at o)
              (let q : at ≡ length (take 2 f ++ b) = omega (arith, w.at_is, t, length-append (take 2 f) b) in q)
              w.out_is
              ∙ laid_then (take 2 f ++ b) o f
              ∙ ap (λ (v : List ℕ). laid v f)
              (append_assoc (take 2 f) b o ∙ ap (λ (v : List ℕ). take 2 f ++ v) (sym m));
          long = same_len_mid at (length out - at) out last k ∙ w.long;
        }

-- ---- the checksum behind them
-- there is room for it
pub front_fits : (d : Draft) (texts : List ℕ) (room l : ℕ) → Layable d texts room l →
    length (front (message_of d texts)) < room
unfolding message_of
front_fits d texts room l p = omega (arith, p.size, p.fits)

checksum_is : (n sum r : ℕ) → sum ≡ n % 256 → r < 256 → (r + sum) % 256 ≡ 0 → r ≡ checksum n
unfolding checksum
checksum_is n sum r e l q = omega arith

pub set_behind : (v old : List ℕ) (x : ℕ) → length v < length old →
    set (laid v old) (length v) x ≡ laid (v ++ x ∷ []) old
unfolding laid
set_behind v old x h =
    let d = drop-cons old (length v) 0 h in
    ap (λ (t : List ℕ). set (v ++ t) (length v) x) d
    ∙ set-append_seam v (get_or old (length v) 0) (drop (suc (length v)) old) x
    ∙ sym (append_assoc v (x ∷ []) (drop (suc (length v)) old))
    ∙ ap (λ (k : ℕ). (v ++ x ∷ []) ++ drop k old)
    (let n : suc (length v) ≡ length (v ++ x ∷ []) = omega (arith, length-append v (x ∷ [])) in n)

module _ (m : Message) (old out : List ℕ) (end : ℕ) (q : (out ≡ laid (front m) old) × (end ≡ length (front m)))
    (h : end < length old) where
  pub sealed : (sum r : ℕ) → sum ≡ total (take end out) % 256 → r < 256 → (r + sum) % 256 ≡ 0 →
      set out end r ≡ laid (octets m) old
  unfolding octets laid
  sealed sum r e l s =
      let v = front m in
      let t : take end out ≡ v = ap (take end) q.0 ∙ take_at v (drop (length v) old) end (sym q.1) in
      let c : r ≡ checksum (total v) = checksum_is (total v) sum r (e ∙ ap (λ (l : List ℕ). total l % 256) t) l s in
      ap (λ (x : List ℕ). set x end r) q.0
      ∙ ap (λ (k : ℕ). set (laid v old) k r) q.1
      ∙ set_behind v old r (omega (arith, q.1))
      ∙ ap (λ (x : ℕ). laid (v ++ x ∷ []) old) c
