-- The value lines of a text, row by row: after i rows the parameters so far and the text behind their lines come to
-- what all rows make of the whole text. The next row takes the next line exactly where it says contents, of which
-- there is one octet at least; the types, the count and the octets of the parameters grow by its own.
-- Assumes nothing.
use Rattle.std.proofs.Common.{◌≡◌, ℕ, ◌+◌, ◌-◌, ◌*◌, ◌<◌, ◌≤◌, Bool, T, ◌⊎◌, List, [], ◌∷◌, ◌++◌, length, take, drop, set, sym, refl, ap, ◌∙◌, subst, ap₂, inl, inr, append-nil, add-one, arith, length-append, length-set, drop_of_length-le, length-take-le, drop-cons, take-suc-set, Option, Some, None}
use Rattle.rules.specs.Tests.{pick}
use Rattle.rules.proofs.Tests.{decide, pick_yes, pick_not}
use Rattle.rules.proofs.Returns.{holds}
use Rattle.rules.specs.Table.{Rules, Row, rules_of}
use Rattle.rules.specs.declared.Book.TheVariants.{PresentLenient}
use Rattle.rules.specs.Message.{Parameter, body}
use Rattle.rules.proofs.Unlisted.{body-append}
use Rattle.listing.specs.Listing.{no_row, row_at, row_count, row_count_lem}
use Rattle.relist.specs.Relist.{line_in, behind, row_contents, row_says, types_of, comes, row_parameter, Lined, taken}
use Rattle.relist.specs.Reading.{RowRead, LaidBehind, TookRows}
use Rattle.relist.proofs.Reading.{line_within, line_part, line_rest, says_few}
use Rattle.relist.proofs.Said.{comes_both}

abbrev R : Rules
R = rules_of PresentLenient

abbrev rows : List Row
rows = R.rows

-- ---- parameters behind parameters
kinds_append : (ps qs : List Parameter) → types_of (ps ++ qs) ≡ types_of ps ++ types_of qs
unfolding types_of
kinds_append [] qs = refl
kinds_append (p ∷ ps) qs = ap (λ (l : List ℕ). p.kind ∷ l) (kinds_append ps qs)

body_one : (p : Parameter) → body (p ∷ []) ≡ p.kind ∷ length p.contents ∷ p.contents
unfolding body
body_one p = ap (λ (l : List ℕ). p.kind ∷ length p.contents ∷ l) (append-nil p.contents)

-- ---- the next row
module _ (i : ℕ) (h : i < row_count) (ps : List Parameter) (d : List ℕ) where
  abbrev next : Parameter
  next = row_parameter R (row_at i) (line_in d)

  abbrev comes_next : Bool
  comes_next = comes R (row_at i) (types_of ps) (line_in d)

  step : taken R (drop i rows) ps d ≡ taken R (drop (i + 1) rows) (pick comes_next (ps ++ next ∷ []) ps)
      (pick comes_next (behind d) d)
  unfolding taken row_at
  step =
      ap (λ (rs : List Row). taken R rs ps d)
      (drop-cons rows i no_row (omega (arith, row_count_lem))
      ∙ ap (λ (k : ℕ). row_at i ∷ drop k rows) (sym (add-one i)))

  takes : T comes_next → taken R (drop i rows) ps d ≡ taken R (drop (i + 1) rows) (ps ++ next ∷ []) (behind d)
  takes c = step ∙ ap₂ (taken R (drop (i + 1) rows)) (pick_yes _ _ _ c) (pick_yes _ _ _ c)

  leaves : (T comes_next → ⊥) → taken R (drop i rows) ps d ≡ taken R (drop (i + 1) rows) ps d
  leaves c = step ∙ ap₂ (taken R (drop (i + 1) rows)) (pick_not _ _ _ c) (pick_not _ _ _ c)

-- ---- after i rows
pub record AfterRows (t : List ℕ) (first : ℕ) (area kinds : List ℕ) (at count size i : ℕ) : Type 0 where
  pub parameters : List Parameter
  pub goes : taken R rows [] (drop first t) ≡ taken R (drop i rows) parameters (drop at t)
  pub among : take count kinds ≡ types_of parameters
  pub many : count ≡ length parameters
  pub few : count ≤ i
  pub below : i ≤ row_count
  pub inside : at ≤ length t
  pub long : size ≡ length (body parameters)
  pub small : size ≤ 255 * i
  pub front : size ≤ 255 → take size area ≡ body parameters
  pub room : length kinds ≡ row_count
  pub whole : length area ≡ 255

pub took_nothing : (t : List ℕ) (first : ℕ) (area kinds : List ℕ) → first ≤ length t → length area ≡ 255 →
    length kinds ≡ row_count → AfterRows t first area kinds first 0 0 0
unfolding types_of body
took_nothing t first area kinds h l k =
    record {
      parameters = [];
      goes = refl;
      among = refl;
      many = refl;
      few = omega arith;
      below = omega arith;
      inside = h;
      long = refl;
      small = omega arith;
      front = λ _. refl;
      room = k;
      whole = l;
    }

module _ (t : List ℕ) (first : ℕ) (area kinds : List ℕ) (at count size i : ℕ)
    (w : AfterRows t first area kinds at count size i) where
  -- the types so far
  pub kinds_long : count ≡ length (take count kinds)
  kinds_long = sym (length-take-le count kinds (omega (arith, w.few, w.below, w.room)))

  -- the next row read the next line
  module _ (h : i < row_count) (end : ℕ) (e : end ≡ at + length (line_in (drop at t))) (n : Option ℕ) (new : List ℕ)
      (q : RowRead R (row_at i) (take count kinds) (take (end - at) (drop at t)) new n) where
    abbrev line : List ℕ
    line = line_in (drop at t)

    read : RowRead R (row_at i) (types_of w.parameters) line new n
    read =
        subst (λ (l : List ℕ). RowRead R (row_at i) (types_of w.parameters) l new n)
        (line_part t at w.inside end e)
        (subst (λ (ks : List ℕ). RowRead R (row_at i) ks (take (end - at) (drop at t)) new n) w.among q)

    abbrev comes_now : Bool
    comes_now = comes_next i h w.parameters (drop at t)

    says : T comes_now → T (row_says R (row_at i) line)
    says c = (comes_both R (row_at i) line (types_of w.parameters) c).1

    comes_long : T comes_now → n ≡ Some (length (row_contents R (row_at i) line))
    comes_long c = read.size ∙ pick_yes _ _ _ c

    not_comes : (T comes_now → ⊥) → n ≡ None
    not_comes c = read.size ∙ pick_not _ _ _ c

    -- it took no line
    pub took_none : n ≡ None → AfterRows t first area kinds at count size (i + 1)
    took_none z =
        let c : T comes_now → ⊥ = λ c. let s = comes_long c in cc in
        record {
          parameters = w.parameters;
          goes = w.goes ∙ leaves i h w.parameters (drop at t) c;
          among = w.among;
          many = w.many;
          few = omega (arith, w.few);
          below = omega arith;
          inside = w.inside;
          long = w.long;
          small = omega (arith, w.small);
          front = w.front;
          room = w.room;
          whole = w.whole;
        }

    -- it took the line, and its parameter stands behind the others
    module _ (m : ℕ) (o : n ≡ Some m) where
      taken_by : T comes_now
      taken_by = go (decide comes_now)
        where
          go : T comes_now ⊎ (T comes_now → ⊥) → T comes_now
          go (inl c) = c
          go (inr c) = let s = not_comes c in cc

      m_long : m ≡ length (row_contents R (row_at i) line)
      m_long = let s = comes_long taken_by in cc

      -- few octets
      pub read_few : m ≤ 253
      read_few = omega (arith, m_long, says_few R (row_at i) line (says taken_by))

      abbrev more : Parameter
      more = next i h w.parameters (drop at t)

      contents : take m new ≡ more.contents
      contents = ap (λ (k : ℕ). take k new) m_long ∙ read.holds (holds comes_now taken_by)

      pub took_more : (kind : ℕ) → kind ≡ (row_at i).kind → (last : List ℕ) (to : ℕ) →
          LaidBehind kind (take m new) area size last to → length last ≡ length area →
          AfterRows t first last (set kinds count kind) end (count + 1) to (i + 1)
      unfolding types_of
      took_more kind k last to l p =
          let ps = w.parameters in
          let b : body (ps ++ more ∷ []) ≡ body ps ++ kind ∷ length (take m new) ∷ take m new =
          body-append ps (more ∷ [])
          ∙ ap (λ (x : List ℕ). body ps ++ x)
          (body_one more ∙ ap₂ (λ (x : ℕ) (v : List ℕ). x ∷ length v ∷ v) (sym k) (sym contents)) in
          let s : to ≡ length (body (ps ++ more ∷ [])) =
          omega (
            arith,
            l.ends,
            w.long,
            ap length b,
            length-append (body ps) (kind ∷ length (take m new) ∷ take m new),
          ) in
          record {
            parameters = ps ++ more ∷ [];
            goes = w.goes ∙ takes i h ps (drop at t) taken_by
                ∙ ap (taken R (drop (i + 1) rows) (ps ++ more ∷ [])) (sym (line_rest t at w.inside end e));
            among = ap (λ (x : ℕ). take x (set kinds count kind)) (add-one count)
                ∙ take-suc-set kinds count kind (omega (arith, w.few, w.room))
                ∙ ap₂ (λ (a : List ℕ) (x : ℕ). a ++ x ∷ []) w.among k ∙ sym (kinds_append ps (more ∷ []));
            many = omega (arith, w.many, length-append ps (more ∷ []));
            few = omega (arith, w.few);
            below = omega arith;
            inside = (line_within t at w.inside end e).1;
            long = s;
            small = omega (
              arith,
              l.ends,
              w.small,
              read_few,
              ap length contents,
              m_long,
            );
            front = λ z. l.front (omega (arith, w.whole))
                ∙ ap (λ (x : List ℕ). x ++ kind ∷ length (take m new) ∷ take m new) (w.front (omega (arith, l.ends)))
                ∙ sym b;
            room = length-set kinds count kind ∙ w.room;
            whole = p ∙ w.whole;
          }

  -- ---- after all rows
  pub took_all : row_count ≤ i →
      TookRows (taken R rows [] (drop first t)) t area (record { at = at; count = count; size = size })
  unfolding taken
  took_all h =
      let g : taken R rows [] (drop first t) ≡ record { parameters = w.parameters; rest = drop at t } =
      w.goes ∙ ap (λ (rs : List Row). taken R rs w.parameters (drop at t))
      (drop_of_length-le rows {i = i} (omega (arith, row_count_lem))) in
      record {
        inside = w.inside;
        rest = ap (λ (s : Lined). s.rest) (sym g);
        count = w.many ∙ ap (λ (s : Lined). length s.parameters) (sym g);
        few = omega (arith, w.few, w.below);
        size = w.long ∙ ap (λ (s : Lined). length (body s.parameters)) (sym g);
        front = λ z. w.front z ∙ ap (λ (s : Lined). body s.parameters) (sym g);
      }
