-- The lines that rows take one after the other, and the parameters that they say: a choice of the rows, in their
-- order. Taking them from a text gives such a choice, whose lines the text begins with; and from a text that is the
-- lines of a choice and the last line, it gives just this choice.
-- Assumes nothing.
use Rattle.std.proofs.Common.{◌≡◌, ℕ, suc, ◌≤◌, Bool, true, false, T, ◌⊎◌, List, [], ◌∷◌, ◌++◌, length, drop, sym, refl, ap, ◌∙◌, subst, ap₂, inl, inr, append_assoc, append-nil, arith, length-append, length-drop}
use Rattle.rules.specs.First.{index_of}
use Rattle.rules.specs.Tests.{◌≤?◌, pick}
use Rattle.rules.proofs.Tests.{both, decide, pick_yes, pick_not, pick_case}
use Rattle.rules.proofs.Pairwise.{octets_self}
use Rattle.rules.specs.Pairwise.{same_octets}
use Rattle.rules.specs.Table.{Rules, Row, class_of, rival_of, contents_fit, ascii}
use Rattle.rules.specs.Message.{Parameter}
use Rattle.listing.specs.Listing.{Line, line_text, written, line_of, carried_line}
use Rattle.listing.proofs.Characters.{plain}
use Rattle.listing.proofs.Plain.{bare, Plain, plain_carried}
use Rattle.relist.specs.Relist.{line_in, behind, row_contents, row_says, types_of, among, comes, row_parameter, Lined, taken}
use Rattle.relist.proofs.Text.{line_split, line_first, line_behind}
use Rattle.relist.specs.Sentences.{Unended}
use Rattle.relist.proofs.Said.{RowIs, row_is, other, tabled, first_line, first_behind, row_plain, own_contents, own_says, says_fit, says_text, comes_both, says_not, carried_cut}

abbrev pub said : Row → List ℕ → Parameter
said r v = record { kind = r.kind; contents = v }

abbrev pub lined : List Parameter → List ℕ → Lined
lined ps t = record { parameters = ps; rest = t }

-- the last line
abbrev pub last : List ℕ
last = line_text (carried_line 0)

-- ---- a choice of rows behind some parameters: the parameters that they say, and their lines
abbrev pub Chosen : Rules → List Row → List Parameter → List Parameter → List Line → Type 0
Chosen R [] ps qs ls = (qs ≡ []) × (ls ≡ [])
Chosen R (r ∷ rs) ps qs ls =
    Chosen R rs ps qs ls
    ⊎ ((v : List ℕ) × (more : List Parameter) × (later : List Line)
    × (qs ≡ said r v ∷ more)
    × (ls ≡ line_of R r v ∷ later)
    × T (contents_fit (class_of R r.kind) v)
    × (T (among (rival_of R r.kind) (types_of ps)) → ⊥)
    × Chosen R rs (ps ++ said r v ∷ []) more later)

-- what a table's test tells of its first row
pub record FirstIs (R : Rules) (n : ℕ) (r : Row) (rs : List Row) : Type 0 where
  pub from : T (n ≤? r.kind)
  pub row : RowIs R r
  pub own : T (other r.key rs)
  pub later : T (tabled R (suc r.kind) rs)

pub first_is : (R : Rules) (n : ℕ) (r : Row) (rs : List Row) → T (tabled R n (r ∷ rs)) → FirstIs R n r rs
unfolding tabled
first_is R n r rs t =
    let a = both _ _ t in
    let b = both _ _ a.1 in
    let c = both _ _ b.1 in
    record { from = a.0; row = row_is R r b.0; own = c.0; later = c.1 }

pub empty : {A : Type 0} (v : List A) → length v ≡ 0 → v ≡ []
empty [] e = refl
empty (x ∷ v) e = absurd (omega arith)

not_same : (k w : List ℕ) (b : Bool) → T (pick (same_octets k w) false b) → (k ≡ w → ⊥) × T b
not_same k w b =
    pick_case (λ (z : Bool). T z → (k ≡ w → ⊥) × T b) (same_octets k w) false b (λ _ t. absurd t)
    (λ n t. ((λ e. n (subst (λ (x : List ℕ). T (same_octets k x)) e (octets_self k))), t))

module _ (R : Rules) where
  -- a row takes a line, or not
  comes_not : (r : Row) (ks l : List ℕ) → (T (row_says R r l) → ⊥) → T (comes R r ks l) → ⊥
  comes_not r ks l n t = n (comes_both R r l ks t).1

  comes_yes : (r : Row) (ks l : List ℕ) → (T (among (rival_of R r.kind) ks) → ⊥) → T (row_says R r l) →
      T (comes R r ks l)
  unfolding comes
  comes_yes r ks l n t = rw (pick_not (among (rival_of R r.kind) ks) false (row_says R r l) n) t

  -- one row, as the next line goes
  module _ (r : Row) (rs : List Row) (ps : List Parameter) (t l : List ℕ) (e : line_in t ≡ l) where
    takes : T (comes R r (types_of ps) l) → taken R (r ∷ rs) ps t ≡ taken R rs (ps ++ row_parameter R r l ∷ []) (behind t)
    unfolding taken
    takes y =
        ap₂ (taken R rs) (pick_yes (comes R r (types_of ps) (line_in t)) _ _ (rw e y))
        (pick_yes (comes R r (types_of ps) (line_in t)) _ _ (rw e y))
        ∙ ap (λ (x : List ℕ). taken R rs (ps ++ row_parameter R r x ∷ []) (behind t)) e

    leaves : (T (comes R r (types_of ps) l) → ⊥) → taken R (r ∷ rs) ps t ≡ taken R rs ps t
    unfolding taken
    leaves n =
        ap₂ (taken R rs) (pick_not (comes R r (types_of ps) (line_in t)) _ _ (rw e n))
        (pick_not (comes R r (types_of ps) (line_in t)) _ _ (rw e n))

  -- ---- from any text
  pub record Took (rs : List Row) (ps : List Parameter) (t : List ℕ) : Type 0 where
    pub more : List Parameter
    pub lines : List Line
    pub chosen : Chosen R rs ps more lines
    pub parameters : (taken R rs ps t).parameters ≡ ps ++ more
    pub text : written lines ++ (taken R rs ps t).rest ≡ t

  pub took : (rs : List Row) (n : ℕ) → T (tabled R n rs) → (ps : List Parameter) (t : List ℕ) → Took rs ps t
  unfolding taken written
  took [] n z ps t =
      record { more = []; lines = []; chosen = (refl, refl); parameters = sym (append-nil ps); text = refl }
  took (r ∷ rs) n z ps t =
      let f = first_is R n r rs z in
      go f (took rs (suc r.kind) f.later) (decide (comes R r (types_of ps) (line_in t)))
    where
      l : List ℕ
      l = line_in t

      yes : FirstIs R n r rs → T (comes R r (types_of ps) l) →
          Took rs (ps ++ row_parameter R r l ∷ []) (behind t) → Took (r ∷ rs) ps t
      yes f y w =
          let e : taken R (r ∷ rs) ps t ≡ taken R rs (ps ++ row_parameter R r l ∷ []) (behind t) =
          takes r rs ps t l refl y in
          let s = comes_both R r l (types_of ps) y in
          record {
            more = row_parameter R r l ∷ w.more;
            lines = line_of R r (row_contents R r l) ∷ w.lines;
            chosen = inr (
              row_contents R r l,
              w.more,
              w.lines,
              refl,
              refl,
              says_fit R r l s.1,
              s.0,
              w.chosen,
            );
            parameters = ap (λ (x : Lined). x.parameters) e ∙ w.parameters
                ∙ append_assoc ps (row_parameter R r l ∷ []) w.more;
            text = ap (λ (x : Lined). (line_text (line_of R r (row_contents R r l)) ++ written w.lines) ++ x.rest) e
                ∙ append_assoc (line_text (line_of R r (row_contents R r l))) (written w.lines) _
                ∙ ap₂ (λ (a b : List ℕ). a ++ b) (says_text R r l s.1) w.text
                ∙ line_split t;
          }

      no : (T (comes R r (types_of ps) l) → ⊥) → Took rs ps t → Took (r ∷ rs) ps t
      no x w =
          let e : taken R (r ∷ rs) ps t ≡ taken R rs ps t = leaves r rs ps t l refl x in
          record {
            more = w.more;
            lines = w.lines;
            chosen = inl w.chosen;
            parameters = ap (λ (x : Lined). x.parameters) e ∙ w.parameters;
            text = ap (λ (x : Lined). written w.lines ++ x.rest) e ∙ w.text;
          }

      go : FirstIs R n r rs → ((ps : List Parameter) (t : List ℕ) → Took rs ps t) →
          T (comes R r (types_of ps) l) ⊎ (T (comes R r (types_of ps) l) → ⊥) → Took (r ∷ rs) ps t
      go f w (inl y) = yes f y (w (ps ++ row_parameter R r l ∷ []) (behind t))
      go f w (inr x) = no x (w ps t)

  -- ---- from the lines of a choice, with the last line behind them
  -- the first of some lines and the last has a key of these rows, or `carried`
  record Head (rs : List Row) (ls : List Line) : Type 0 where
    line : Line
    rest : List ℕ
    is : written ls ++ last ≡ line_text line ++ rest
    plain : T (plain (bare line))
    cut : index_of 0x3D line.key ≡ length line.key
    key : (k : List ℕ) → T (other k rs) → k ≡ line.key → ⊥

  head : (rs : List Row) (n : ℕ) → T (tabled R n rs) → (ps qs : List Parameter) (ls : List Line) →
      Chosen R rs ps qs ls → Head rs ls
  unfolding other written line_of carried_line
  head [] n z ps qs ls c =
      record {
        line = carried_line 0;
        rest = [];
        is = ap (λ (x : List Line). written x ++ last) c.1 ∙ sym (append-nil last);
        plain = plain_carried 0;
        cut = carried_cut;
        key = λ k t. (not_same k (ascii "carried") true t).0;
      }
  head (r ∷ rs) n z ps qs ls (inl c) =
      let f = first_is R n r rs z in
      let h = head rs (suc r.kind) f.later ps qs ls c in
      record {
        line = h.line;
        rest = h.rest;
        is = h.is;
        plain = h.plain;
        cut = h.cut;
        key = λ k t. h.key k (not_same k r.key (other k rs) t).1;
      }
  head (r ∷ rs) n z ps qs ls (inr c) =
      let f = first_is R n r rs z in
      record {
        line = line_of R r c.0;
        rest = written c.2 ++ last;
        is = ap (λ (x : List Line). written x ++ last) c.4 ∙ append_assoc (line_text (line_of R r c.0))
            (written c.2) last;
        plain = row_plain R r f.row c.0 c.5;
        cut = f.row.cut;
        key = λ k t. (not_same k r.key (other k rs) t).0;
      }

  -- one row and the line that it takes
  module _ (r : Row) (q : RowIs R r) (rs : List Row) (ps : List Parameter) (v : List ℕ)
      (f : T (contents_fit (class_of R r.kind) v)) (n : T (among (rival_of R r.kind) (types_of ps)) → ⊥) where
    row_taken : (t : List ℕ) → taken R (r ∷ rs) ps (line_text (line_of R r v) ++ t) ≡ taken R rs (ps ++ said r v ∷ []) t
    row_taken t =
        let l = line_of R r v in
        let p = row_plain R r q v f in
        takes r rs ps (line_text l ++ t) (line_text l) (first_line l p t)
        (comes_yes r (types_of ps) (line_text l) n (own_says R r q v f))
        ∙ ap (taken R rs (ps ++ row_parameter R r (line_text l) ∷ [])) (first_behind l p t)
        ∙ ap (λ (x : List ℕ). taken R rs (ps ++ said r x ∷ []) t) (own_contents R r q v f)

  -- one row and a line that is another's
  row_skipped : (r : Row) (rs : List Row) (ps : List Parameter) (t : List ℕ) → (T (row_says R r (line_in t)) → ⊥) →
      taken R (r ∷ rs) ps t ≡ taken R rs ps t
  row_skipped r rs ps t n = leaves r rs ps t (line_in t) refl (comes_not r (types_of ps) (line_in t) n)

  pub chosen_taken : (rs : List Row) (n : ℕ) → T (tabled R n rs) → (ps qs : List Parameter) (ls : List Line) →
      Chosen R rs ps qs ls → taken R rs ps (written ls ++ last) ≡ lined (ps ++ qs) last
  unfolding taken written
  chosen_taken [] n z ps qs ls c =
      ap₂ (λ (x : List Line) (y : List Parameter). lined y (written x ++ last)) c.1
      (sym (append-nil ps) ∙ ap (λ (x : List Parameter). ps ++ x) (sym c.0))
  chosen_taken (r ∷ rs) n z ps qs ls (inl c) =
      let f = first_is R n r rs z in
      let h = head rs (suc r.kind) f.later ps qs ls c in
      row_skipped r rs ps (written ls ++ last)
      (rw h.is (rw (first_line h.line h.plain h.rest)
      (says_not R r f.row h.line h.cut (h.key r.key f.own))))
      ∙ chosen_taken rs (suc r.kind) f.later ps qs ls c
  chosen_taken (r ∷ rs) n z ps qs ls (inr c) =
      let f = first_is R n r rs z in
      let v = c.0 in
      ap (λ (x : List Line). taken R (r ∷ rs) ps (written x ++ last)) c.4
      ∙ ap (taken R (r ∷ rs) ps) (append_assoc (line_text (line_of R r v)) (written c.2) last)
      ∙ row_taken r f.row rs ps v c.5 c.6 (written c.2 ++ last)
      ∙ chosen_taken rs (suc r.kind) f.later (ps ++ said r v ∷ []) c.1 c.2 c.7
      ∙ ap (λ (x : List Parameter). lined x last)
      (append_assoc ps (said r v ∷ []) c.1 ∙ ap (λ (x : List Parameter). ps ++ x) (sym c.3))

  -- ---- what rows take hangs on the lines so far alone
  pub rest_short : (rs : List Row) (ps : List Parameter) (t : List ℕ) → length (taken R rs ps t).rest ≤ length t
  unfolding taken behind
  rest_short [] ps t = omega arith
  rest_short (r ∷ rs) ps t =
      let c = comes R r (types_of ps) (line_in t) in
      let b = suc (index_of 0x0A t) in
      let u = pick c (drop b t) t in
      omega (
        arith,
        rest_short rs (pick c (ps ++ row_parameter R r (line_in t) ∷ []) ps) u,
        pick_case (λ (x : List ℕ). length x ≤ length t) c (drop b t) t (λ _. omega (arith, length-drop b t))
            (λ _. omega arith),
      )

  -- a text whose lines were taken up to a line, which was not: any other that goes on with this line ends so too
  module _ (l : List ℕ) (u : Unended l) (a b : List ℕ) where
    abbrev up_to : List Parameter → List ℕ → Lined
    up_to qs c = lined qs (l ++ 0x0A ∷ c)

    pub again : (rs : List Row) (ps : List Parameter) (ls : List Line) → Plain ls → (qs : List Parameter) →
        taken R rs ps (written ls ++ (l ++ 0x0A ∷ a)) ≡ up_to qs a →
        taken R rs ps (written ls ++ (l ++ 0x0A ∷ b)) ≡ up_to qs b
    unfolding taken written
    again [] ps ls p qs e =
        let h : length (written ls) ≡ 0 =
        omega (arith, ap (λ (x : Lined). length x.rest) e, length-append (written ls) (l ++ 0x0A ∷ a)) in
        ap₂ (λ (x : List Parameter) (y : List ℕ). lined x (y ++ (l ++ 0x0A ∷ b)))
        (ap (λ (x : Lined). x.parameters) e) (empty (written ls) h)
    again (r ∷ rs) ps [] p qs e = go (decide (comes R r (types_of ps) (l ++ 0x0A ∷ []))) (again rs ps [] p qs)
      where
        go : T (comes R r (types_of ps) (l ++ 0x0A ∷ [])) ⊎ (T (comes R r (types_of ps) (l ++ 0x0A ∷ [])) → ⊥) →
            (taken R rs ps (l ++ 0x0A ∷ a) ≡ up_to qs a → taken R rs ps (l ++ 0x0A ∷ b) ≡ up_to qs b) →
            taken R (r ∷ rs) ps (l ++ 0x0A ∷ b) ≡ up_to qs b
        go (inl y) f =
            let w = takes r rs ps (l ++ 0x0A ∷ a) (l ++ 0x0A ∷ []) (line_first l a u) y in
            let ps' = ps ++ row_parameter R r (l ++ 0x0A ∷ []) ∷ [] in
            absurd
            (omega (
              arith,
              ap (λ (x : Lined). length x.rest) (sym w ∙ e),
              rest_short rs ps' (behind (l ++ 0x0A ∷ a)),
              ap length (line_behind l a u),
              length-append l (0x0A ∷ a),
            ))
        go (inr n) f =
            leaves r rs ps (l ++ 0x0A ∷ b) (l ++ 0x0A ∷ []) (line_first l b u) n
            ∙ f (sym (leaves r rs ps (l ++ 0x0A ∷ a) (l ++ 0x0A ∷ []) (line_first l a u) n) ∙ e)
    again (r ∷ rs) ps (k ∷ ls) p qs e =
        go (decide (comes R r (types_of ps) (line_text k)))
        (again rs (ps ++ row_parameter R r (line_text k) ∷ []) ls p.1 qs) (again rs ps (k ∷ ls) p qs)
      where
        at : (c : List ℕ) → written (k ∷ ls) ++ (l ++ 0x0A ∷ c) ≡ line_text k ++ (written ls ++ (l ++ 0x0A ∷ c))
        at c = append_assoc (line_text k) (written ls) (l ++ 0x0A ∷ c)

        first : (c : List ℕ) → line_in (written (k ∷ ls) ++ (l ++ 0x0A ∷ c)) ≡ line_text k
        first c = ap line_in (at c) ∙ first_line k p.0 (written ls ++ (l ++ 0x0A ∷ c))

        then : (c : List ℕ) → behind (written (k ∷ ls) ++ (l ++ 0x0A ∷ c)) ≡ written ls ++ (l ++ 0x0A ∷ c)
        then c = ap behind (at c) ∙ first_behind k p.0 (written ls ++ (l ++ 0x0A ∷ c))

        go : T (comes R r (types_of ps) (line_text k)) ⊎ (T (comes R r (types_of ps) (line_text k)) → ⊥) →
            (taken R rs (ps ++ row_parameter R r (line_text k) ∷ []) (written ls ++ (l ++ 0x0A ∷ a)) ≡ up_to qs a →
            taken R rs (ps ++ row_parameter R r (line_text k) ∷ []) (written ls ++ (l ++ 0x0A ∷ b)) ≡ up_to qs b) →
            (taken R rs ps (written (k ∷ ls) ++ (l ++ 0x0A ∷ a)) ≡ up_to qs a →
            taken R rs ps (written (k ∷ ls) ++ (l ++ 0x0A ∷ b)) ≡ up_to qs b) →
            taken R (r ∷ rs) ps (written (k ∷ ls) ++ (l ++ 0x0A ∷ b)) ≡ up_to qs b
        go (inl y) f g =
            let ps' = ps ++ row_parameter R r (line_text k) ∷ [] in
            takes r rs ps _ (line_text k) (first b) y ∙ ap (taken R rs ps') (then b)
            ∙ f (sym (takes r rs ps _ (line_text k) (first a) y ∙ ap (taken R rs ps') (then a)) ∙ e)
        go (inr n) f g =
            leaves r rs ps _ (line_text k) (first b) n ∙ g (sym (leaves r rs ps _ (line_text k) (first a) n) ∙ e)
