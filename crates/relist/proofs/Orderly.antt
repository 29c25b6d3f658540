-- The messages that listings say are the choices of the table's rows: an orderly message has the parameters of a
-- choice, the parameters of a choice make an orderly message, and its lines are those of the choice.
-- Assumes nothing.
use Rattle.std.proofs.Common.{◌≡◌, ℕ, suc, ◌<◌, ◌≤◌, T, ◌⊎◌, List, [], ◌∷◌, ◌++◌, length, sym, refl, ap, ◌∙◌, subst, ap₂, inl, inr, append_assoc, arith}
use mathlib.Core.Option.{Option, none, some}
use Rattle.rules.specs.First.{index_of}
use Rattle.rules.specs.Tests.{◌≤?◌, ◌=?◌, pick}
use Rattle.rules.proofs.Tests.{decide, either, eq_of, of_eq, le_of, pick_yes, picked, clash, left, right}
use Rattle.rules.specs.Table.{Rules, Row, listed_in, listed, class_of, rival_of, contents_fit}
use Rattle.rules.specs.Message.{Parameter, Message, AllLegal, message_kind}
use Rattle.rules.specs.Counting.{first_of, counted, carried_in, NoneOf}
use Rattle.rules.proofs.Counting.{counted_iff}
use Rattle.listing.specs.Listing.{Line, line_text, written, line_of, lines_for, row_lines, kind_line, carried_line, message_lines, written-append, written_one}
use Rattle.listing.specs.Lists.{Has}
use Rattle.listing.proofs.Lines.{has_right, has_split}
use Rattle.listing.proofs.Plain.{Plain}
use Rattle.relist.specs.Relist.{types_of, among}
use Rattle.relist.specs.Sentences.{RisingKinds, Orderly}
use Rattle.relist.proofs.Text.{among_cons}
use Rattle.relist.proofs.Said.{RowIs, tabled, row_plain}
use Rattle.relist.proofs.Chosen.{Chosen, said, FirstIs, first_is, last}

-- ---- a type among some
module _ (u k : ℕ) (ks : List ℕ) where
  among_head : k ≡ u → T (among u (k ∷ ks))
  among_head e = subst T (sym (among_cons u k ks)) (left _ _ (of_eq k u e))

  among_tail : T (among u ks) → T (among u (k ∷ ks))
  among_tail t = subst T (sym (among_cons u k ks)) (right _ _ t)

  among_either : T (among u (k ∷ ks)) → (k ≡ u) ⊎ T (among u ks)
  among_either t = go (either _ _ (subst T (among_cons u k ks) t))
    where
      go : T (k =? u) ⊎ T (among u ks) → (k ≡ u) ⊎ T (among u ks)
      go (inl e) = inl (eq_of k u e)
      go (inr h) = inr h

-- ---- types below one, and from one on
abbrev Below : ℕ → List Parameter → Type 0
Below n [] = Unit {0}
Below n (p ∷ ps) = (p.kind < n) × Below n ps

below_more : (n k : ℕ) (ps : List Parameter) → n ≤ k → Below n ps → Below k ps
below_more n k [] h b = tt
below_more n k (p ∷ ps) h b = (omega (arith, b.0), below_more n k ps h b.1)

below_snoc : (n : ℕ) (ps : List Parameter) (p : Parameter) → Below n ps → p.kind < n → Below n (ps ++ p ∷ [])
below_snoc n [] p b h = (h, tt)
below_snoc n (q ∷ ps) p b h = (b.0, below_snoc n ps p b.1 h)

below_has : (n : ℕ) (ps : List Parameter) → Below n ps → (p : Parameter) → Has ps p → p.kind < n
below_has n [] b p h = absurd h
below_has n (q ∷ ps) b p (inl e) = omega (arith, b.0, ap (λ (x : Parameter). x.kind) e)
below_has n (q ∷ ps) b p (inr h) = below_has n ps b.1 p h

rising_less : (n k : ℕ) (qs : List Parameter) → n ≤ k → RisingKinds k qs → RisingKinds n qs
rising_less n k [] h r = tt
rising_less n k (q ∷ qs) h r = (omega (arith, r.0), r.1)

rising_has : (n : ℕ) (qs : List Parameter) → RisingKinds n qs → (p : Parameter) → Has qs p → n ≤ p.kind
rising_has n [] r p h = absurd h
rising_has n (q ∷ qs) r p (inl e) = omega (arith, r.0, ap (λ (x : Parameter). x.kind) e)
rising_has n (q ∷ qs) r p (inr h) = let z = rising_has (suc q.kind) qs r.1 p h in omega (arith, r.0)

-- none of a type, nor of its rival
none_of : (t u : ℕ) (ps : List Parameter) → Below t ps → (T (among u (types_of ps)) → ⊥) → NoneOf t u ps
unfolding types_of
none_of t u [] b n = tt
none_of t u (p ∷ ps) b n = (
  (λ e. let z = b.0 in omega (arith, e)),
  (λ e. n (among_head u p.kind (types_of ps) e)),
  none_of t u ps b.1 (λ x. n (among_tail u p.kind (types_of ps) x)),
)

-- where a type counts behind some below it, its rival is none of them
unshut : (t u : ℕ) (ps rest : List Parameter) (v : List ℕ) → Below t ps → first_of t u (ps ++ rest) ≡ some v →
    T (among u (types_of ps)) → ⊥
unfolding types_of first_of among index_of
unshut t u [] rest v b e a = let z = le_of 1 0 a in absurd (omega arith)
unshut t u (p ∷ ps) rest v b e a =
    go (picked _ _ _ _ e) (unshut t u ps rest v b.1) (among_either u p.kind (types_of ps) a)
  where
    later : (T (p.kind =? u) × (none ≡ some v)) ⊎ ((T (p.kind =? u) → ⊥) × (first_of t u (ps ++ rest) ≡ some v)) →
        (first_of t u (ps ++ rest) ≡ some v → T (among u (types_of ps)) → ⊥) → (p.kind ≡ u) ⊎ T (among u (types_of ps)) →
        ⊥
    later (inl q) f x = clash (cc q.1)
    later (inr q) f (inl x) = q.0 (of_eq _ _ x)
    later (inr q) f (inr x) = f q.1 x

    go : (T (p.kind =? t) × (some p.contents ≡ some v))
        ⊎ ((T (p.kind =? t) → ⊥) × (pick (p.kind =? u) none (first_of t u (ps ++ rest)) ≡ some v)) →
        (first_of t u (ps ++ rest) ≡ some v → T (among u (types_of ps)) → ⊥) → (p.kind ≡ u) ⊎ T (among u (types_of ps)) →
        ⊥
    go (inl q) f x = let z = b.0 in absurd (omega (arith, eq_of _ _ q.0))
    go (inr q) f x = later (picked _ _ _ _ q.1) f x

-- ---- from a choice
module _ (R : Rules) where
  pub rising_chosen : (rs : List Row) (n : ℕ) → T (tabled R n rs) → (ps qs : List Parameter) (ls : List Line) →
      Chosen R rs ps qs ls → RisingKinds n qs
  rising_chosen [] n z ps qs ls c = subst (RisingKinds n) (sym c.0) tt
  rising_chosen (r ∷ rs) n z ps qs ls (inl c) =
      let f = first_is R n r rs z in
      rising_less n (suc r.kind) qs (let h = le_of _ _ f.from in omega arith)
      (rising_chosen rs (suc r.kind) f.later ps qs ls c)
  rising_chosen (r ∷ rs) n z ps qs ls (inr c) =
      let f = first_is R n r rs z in
      subst (RisingKinds n) (sym c.3)
      (le_of _ _ f.from, rising_chosen rs (suc r.kind) f.later (ps ++ said r c.0 ∷ []) c.1 c.2 c.7)

  legal_chosen : (rs : List Row) (n : ℕ) → T (tabled R n rs) → (ps qs : List Parameter) (ls : List Line) →
      Chosen R rs ps qs ls → AllLegal R qs
  legal_chosen [] n z ps qs ls c = subst (AllLegal R) (sym c.0) tt
  legal_chosen (r ∷ rs) n z ps qs ls (inl c) =
      legal_chosen rs (suc r.kind) (first_is R n r rs z).later ps qs ls c
  legal_chosen (r ∷ rs) n z ps qs ls (inr c) =
      let f = first_is R n r rs z in
      subst (AllLegal R) (sym c.3) (
        record { octet = let h = f.row.octet in omega arith; fits = c.5 },
        legal_chosen rs (suc r.kind) f.later (ps ++ said r c.0 ∷ []) c.1 c.2 c.7,
      )

  pub plain_chosen : (rs : List Row) (n : ℕ) → T (tabled R n rs) → (ps qs : List Parameter) (ls : List Line) →
      Chosen R rs ps qs ls → Plain ls
  plain_chosen [] n z ps qs ls c = subst Plain (sym c.1) tt
  plain_chosen (r ∷ rs) n z ps qs ls (inl c) =
      plain_chosen rs (suc r.kind) (first_is R n r rs z).later ps qs ls c
  plain_chosen (r ∷ rs) n z ps qs ls (inr c) =
      let f = first_is R n r rs z in
      subst Plain (sym c.4) (
        row_plain R r f.row c.0 c.5,
        plain_chosen rs (suc r.kind) f.later (ps ++ said r c.0 ∷ []) c.1 c.2 c.7,
      )

-- ---- what counts
has_mid : (b : List Parameter) (p : Parameter) (a : List Parameter) → Has (b ++ p ∷ a) p
has_mid b p a = has_right b (p ∷ a) p (inl refl)

module _ (R : Rules) (m : Message) where
  counts_first : (t : ℕ) (v : List ℕ) → counted R m t ≡ some v → first_of t (rival_of R t) m.parameters ≡ some v
  unfolding counted
  counts_first t v e = go (picked _ _ _ _ e)
    where
      go : (T (listed R t) × (first_of t (rival_of R t) m.parameters ≡ some v))
          ⊎ ((T (listed R t) → ⊥) × (none ≡ some v)) → first_of t (rival_of R t) m.parameters ≡ some v
      go (inl q) = q.1
      go (inr q) = clash (cc q.1)

  -- nothing counts of a type that no parameter has
  uncounted : (t : ℕ) → ((p : Parameter) → Has m.parameters p → p.kind ≡ t → ⊥) → counted R m t ≡ none
  uncounted t n = go (counted R m t) refl
    where
      go : (x : Option (List ℕ)) → x ≡ counted R m t → x ≡ none
      go none e = refl
      go (some v) e =
          let f = ((counted_iff R m t v).0 (sym e)).first in
          absurd (n f.p
          (subst (λ (ps : List Parameter). Has ps f.p) f.is (has_mid f.before f.p f.after))
          f.kind)

  -- the first parameter of a choice counts
  module _ (r : Row) (q : RowIs R r) (ps : List Parameter) (b : Below r.kind ps) (v : List ℕ)
      (n : T (among (rival_of R r.kind) (types_of ps)) → ⊥) (more : List Parameter)
      (e : m.parameters ≡ ps ++ said r v ∷ more) where
    row_counts : counted R m r.kind ≡ some v
    row_counts =
        (counted_iff R m r.kind v).1
        (record {
          listed = q.listed;
          first =
              record {
                before = ps;
                p = said r v;
                after = more;
                is = sym e;
                kind = refl;
                contents = refl;
                none = none_of r.kind (rival_of R r.kind) ps b n;
              };
        })

  abbrev then : Row → List ℕ → List Parameter → List Parameter
  then r v ps = ps ++ said r v ∷ []

  -- so its lines are those of the choice
  pub rows_chosen : (rs : List Row) (n : ℕ) → T (tabled R n rs) → (ps qs : List Parameter) (ls : List Line) →
      Below n ps → m.parameters ≡ ps ++ qs → Chosen R rs ps qs ls → row_lines R m rs ≡ ls
  unfolding row_lines lines_for
  rows_chosen [] n z ps qs ls b e c = sym c.1
  rows_chosen (r ∷ rs) n z ps qs ls b e (inl c) =
      let f = first_is R n r rs z in
      let h = le_of _ _ f.from in
      ap (λ (x : Option (List ℕ)). lines_for R r x ++ row_lines R m rs)
      (uncounted r.kind (λ p i k. apart f p (has_split ps qs p (subst (λ (x : List Parameter). Has x p) e i)) k))
      ∙ rows_chosen rs (suc r.kind) f.later ps qs ls (below_more n (suc r.kind) ps (omega arith) b) e c
    where
      apart : FirstIs R n r rs → (p : Parameter) → Has ps p ⊎ Has qs p → p.kind ≡ r.kind → ⊥
      apart f p (inl i) k = let h = le_of _ _ f.from in absurd (omega (arith, below_has n ps b p i))
      apart f p (inr i) k =
          absurd
          (omega (
            arith,
            rising_has (suc r.kind) qs
                (rising_chosen R rs (suc r.kind) f.later ps qs ls c) p i,
          ))
  rows_chosen (r ∷ rs) n z ps qs ls b e (inr c) =
      let f = first_is R n r rs z in
      let h = le_of _ _ f.from in
      let v = c.0 in
      let d : m.parameters ≡ ps ++ said r v ∷ c.1 = e ∙ ap (λ (x : List Parameter). ps ++ x) c.3 in
      ap (λ (x : Option (List ℕ)). lines_for R r x ++ row_lines R m rs)
      (row_counts r f.row ps (below_more n r.kind ps h b) v c.6 c.1 d)
      ∙ ap (λ (x : List Line). line_of R r v ∷ x)
      (rows_chosen rs (suc r.kind) f.later (then r v ps) c.1 c.2
      (below_snoc (suc r.kind) ps (said r v) (below_more n (suc r.kind) ps (omega arith) b) (omega arith))
      (d ∙ sym (append_assoc ps (said r v ∷ []) c.1)) c.7)
      ∙ sym c.4

  -- and each of its parameters counts
  counts_chosen : (rs : List Row) (n : ℕ) → T (tabled R n rs) → (ps qs : List Parameter) (ls : List Line) →
      Below n ps → m.parameters ≡ ps ++ qs → Chosen R rs ps qs ls → (p : Parameter) → Has qs p →
      counted R m p.kind ≡ some p.contents
  counts_chosen [] n z ps qs ls b e c p i = absurd (subst (λ (x : List Parameter). Has x p) c.0 i)
  counts_chosen (r ∷ rs) n z ps qs ls b e (inl c) p i =
      let f = first_is R n r rs z in
      let h = le_of _ _ f.from in
      counts_chosen rs (suc r.kind) f.later ps qs ls (below_more n (suc r.kind) ps (omega arith) b) e c p i
  counts_chosen (r ∷ rs) n z ps qs ls b e (inr c) p i =
      let f = first_is R n r rs z in
      let h = le_of _ _ f.from in
      let v = c.0 in
      let d : m.parameters ≡ ps ++ said r v ∷ c.1 = e ∙ ap (λ (x : List Parameter). ps ++ x) c.3 in
      one_or_later (said r v) c.1 p (subst (λ (x : List Parameter). Has x p) c.3 i)
      (row_counts r f.row ps (below_more n r.kind ps h b) v c.6 c.1 d)
      (counts_chosen rs (suc r.kind) f.later (then r v ps) c.1 c.2
      (below_snoc (suc r.kind) ps (said r v) (below_more n (suc r.kind) ps (omega arith) b) (omega arith))
      (d ∙ sym (append_assoc ps (said r v ∷ []) c.1)) c.7 p)
    where
      one_or_later : (q : Parameter) (qs : List Parameter) (p : Parameter) → Has (q ∷ qs) p →
          counted R m q.kind ≡ some q.contents → (Has qs p → counted R m p.kind ≡ some p.contents) →
          counted R m p.kind ≡ some p.contents
      one_or_later q qs p (inl x) g later =
          subst (λ (x : Parameter). counted R m x.kind ≡ some x.contents) (sym x) g
      one_or_later q qs p (inr x) g later = later x

-- ---- all rows
module _ (R : Rules) (z : T (tabled R 0 R.rows)) (k : ℕ) (qs : List Parameter) (ls : List Line)
    (c : Chosen R R.rows [] qs ls) where
  abbrev m : Message
  m = record { kind = k; parameters = qs }

  pub chosen_orderly : T (message_kind k) → 1 ≤ length qs → Orderly R m
  chosen_orderly t h =
      record {
        kind = t;
        legal = legal_chosen R R.rows 0 z [] qs ls c;
        one = h;
        rising = rising_chosen R R.rows 0 z [] qs ls c;
        counts = counts_chosen R m R.rows 0 z [] qs ls tt refl c;
      }

-- ---- from an orderly message
abbrev AllAmong : List Row → List Parameter → Type 0
AllAmong rs [] = Unit {0}
AllAmong rs (q ∷ qs) = T (listed_in rs q.kind) × AllAmong rs qs

all_listed : (rs : List Row) (qs : List Parameter) → ((p : Parameter) → Has qs p → T (listed_in rs p.kind)) →
    AllAmong rs qs
all_listed rs [] f = tt
all_listed rs (q ∷ qs) f = (f q (inl refl), all_listed rs qs (λ p i. f p (inr i)))

-- a type that a row does not have is one of the later rows
listed_later : (r : Row) (rs : List Row) (t : ℕ) → (t ≡ r.kind → ⊥) → T (listed_in (r ∷ rs) t) → T (listed_in rs t)
unfolding listed_in
listed_later r rs t n l = go (either _ _ l)
  where
    go : T (t =? r.kind) ⊎ T (listed_in rs t) → T (listed_in rs t)
    go (inl e) = absurd (n (eq_of _ _ e))
    go (inr x) = x

all_later : (r : Row) (rs : List Row) (qs : List Parameter) → RisingKinds (suc r.kind) qs → AllAmong (r ∷ rs) qs →
    AllAmong rs qs
all_later r rs [] h a = tt
all_later r rs (q ∷ qs) h a = (
  listed_later r rs q.kind (λ e. let z = h.0 in omega (arith, e)) a.0,
  all_later r rs qs (rising_less (suc r.kind) (suc q.kind) qs (let z = h.0 in omega arith) h.1) a.1,
)

none_carried : (R : Rules) (qs : List Parameter) → AllAmong R.rows qs → carried_in R qs ≡ 0
unfolding carried_in listed
none_carried R [] a = refl
none_carried R (q ∷ qs) a = pick_yes _ _ _ a.0 ∙ none_carried R qs a.1

module _ (R : Rules) where
  listed_from : (n : ℕ) (rs : List Row) → T (tabled R n rs) → (t : ℕ) → T (listed_in rs t) → n ≤ t
  unfolding listed_in
  listed_from n [] z t l = absurd l
  listed_from n (r ∷ rs) z t l =
      let f = first_is R n r rs z in
      let h = le_of _ _ f.from in
      go (either _ _ l) (listed_from (suc r.kind) rs f.later t) h
    where
      go : T (t =? r.kind) ⊎ T (listed_in rs t) → (T (listed_in rs t) → suc r.kind ≤ t) → n ≤ r.kind → n ≤ t
      go (inl e) g h = omega (arith, eq_of _ _ e)
      go (inr x) g h = let y = g x in omega arith

  module _ (m : Message) (counts : (p : Parameter) → Has m.parameters p → counted R m p.kind ≡ some p.contents)
    where
      choose : (rs : List Row) (n : ℕ) → T (tabled R n rs) → (ps qs : List Parameter) → Below n ps →
          m.parameters ≡ ps ++ qs → RisingKinds n qs → AllLegal R qs → AllAmong rs qs →
          (ls : List Line) × Chosen R rs ps qs ls
      unfolding listed_in
      choose [] n z ps [] b e h l a = ([], (refl, refl))
      choose [] n z ps (q ∷ qs) b e h l a = absurd a.0
      choose (r ∷ rs) n z ps [] b e h l a =
          let f = first_is R n r rs z in
          let g = le_of _ _ f.from in
          let w = choose rs (suc r.kind) f.later ps []
          (below_more n (suc r.kind) ps (omega arith) b) e tt tt tt in
          (w.0, inl w.1)
      choose (r ∷ rs) n z ps (q ∷ qs) b e h l a =
          let f = first_is R n r rs z in
          let g = le_of _ _ f.from in
          go f (decide (q.kind =? r.kind))
          (choose rs (suc r.kind) f.later (ps ++ q ∷ []) qs)
          (choose rs (suc r.kind) f.later ps (q ∷ qs) (below_more n (suc r.kind) ps (omega arith) b) e)
        where
          rival_free : T (among (rival_of R q.kind) (types_of ps)) → ⊥
          rival_free =
              unshut q.kind (rival_of R q.kind) ps (q ∷ qs) q.contents
              (below_more n q.kind ps h.0 b)
              (ap (first_of q.kind (rival_of R q.kind)) (sym e)
              ∙ counts_first R m q.kind q.contents
              (counts q (subst (λ (x : List Parameter). Has x q) (sym e) (has_mid ps q qs))))

          go : FirstIs R n r rs → T (q.kind =? r.kind) ⊎ (T (q.kind =? r.kind) → ⊥) →
              (Below (suc r.kind) (ps ++ q ∷ []) → m.parameters ≡ (ps ++ q ∷ []) ++ qs →
              RisingKinds (suc r.kind) qs → AllLegal R qs → AllAmong rs qs →
              (ls : List Line) × Chosen R rs (ps ++ q ∷ []) qs ls) →
              (RisingKinds (suc r.kind) (q ∷ qs) → AllLegal R (q ∷ qs) → AllAmong rs (q ∷ qs) →
              (ls : List Line) × Chosen R rs ps (q ∷ qs) ls) → (ls : List Line) × Chosen R (r ∷ rs) ps (q ∷ qs) ls
          go f (inl y) take skip =
              let k : q.kind ≡ r.kind = eq_of _ _ y in
              let g = le_of _ _ f.from in
              let s : q ≡ said r q.contents = λ i. record { kind = k i; contents = q.contents } in
              let up = subst (λ (x : ℕ). RisingKinds (suc x) qs) k h.1 in
              let w = take
              (below_snoc (suc r.kind) ps q (below_more n (suc r.kind) ps (omega arith) b) (omega arith))
              (e ∙ sym (append_assoc ps (q ∷ []) qs)) up l.1 (all_later r rs qs up a.1) in (
                line_of R r q.contents ∷ w.0,
                inr (
                  q.contents,
                  qs,
                  w.0,
                  ap (λ (x : Parameter). x ∷ qs) s,
                  refl,
                  subst (λ (x : ℕ). T (contents_fit (class_of R x) q.contents)) k l.0.fits,
                  subst (λ (x : ℕ). T (among (rival_of R x) (types_of ps)) → ⊥) k rival_free,
                  subst (λ (x : Parameter). Chosen R rs (ps ++ x ∷ []) qs w.0) s w.1,
                ),
              )
          go f (inr y) take skip =
              let x = listed_later r rs q.kind (λ k. y (of_eq _ _ k)) a.0 in
              let up = listed_from (suc r.kind) rs f.later q.kind x in
              let w = skip (up, h.1) l (
                x,
                all_later r rs qs
                    (rising_less (suc r.kind) (suc q.kind) qs (omega arith) h.1) a.1,
              ) in
              (w.0, inl w.1)

  module _ (z : T (tabled R 0 R.rows)) (m : Message) (o : Orderly R m) where
    listed_all : AllAmong R.rows m.parameters
    unfolding listed
    listed_all =
        all_listed R.rows m.parameters
        (λ p i. ((counted_iff R m p.kind p.contents).0 (o.counts p i)).listed)

    pub orderly_chosen : (ls : List Line) × Chosen R R.rows [] m.parameters ls
    orderly_chosen =
        choose m o.counts R.rows 0 z [] m.parameters tt refl o.rising o.legal listed_all

    -- what showmsg prints of it: its kind, the lines of the choice, and that none is carried
    pub chosen_lines : (ls : List Line) → Chosen R R.rows [] m.parameters ls →
        written (message_lines R m) ≡ line_text (kind_line m.kind) ++ (written ls ++ last)
    unfolding message_lines written
    chosen_lines ls c =
        ap (λ (x : List ℕ). line_text (kind_line m.kind) ++ x)
        (ap₂ (λ (x : List Line) (n : ℕ). written (x ++ carried_line n ∷ []))
        (rows_chosen R m R.rows 0 z [] m.parameters ls tt refl c)
        (none_carried R m.parameters listed_all)
        ∙ written-append ls (carried_line 0 ∷ [])
        ∙ ap (λ (x : List ℕ). written ls ++ x) (written_one (carried_line 0)))

-- ---- choices
-- none of the rows
pub none_chosen : (R : Rules) (rs : List Row) (ps : List Parameter) → Chosen R rs ps [] []
none_chosen R [] ps = (refl, refl)
none_chosen R (r ∷ rs) ps = inl (none_chosen R rs ps)

-- the first of them alone
pub one_chosen : (R : Rules) (r : Row) (rs : List Row) (v : List ℕ) → T (contents_fit (class_of R r.kind) v) →
    Chosen R (r ∷ rs) [] (said r v ∷ []) (line_of R r v ∷ [])
unfolding among types_of index_of ◌≤?◌
one_chosen R r rs v f = inr (v, [], [], refl, refl, f, (λ a. a), none_chosen R rs (said r v ∷ []))

-- as many lines as parameters
pub chosen_long : (R : Rules) (rs : List Row) (ps qs : List Parameter) (ls : List Line) → Chosen R rs ps qs ls →
    length ls ≡ length qs
chosen_long R [] ps qs ls c = ap length c.1 ∙ ap length (sym c.0)
chosen_long R (r ∷ rs) ps qs ls (inl c) = chosen_long R rs ps qs ls c
chosen_long R (r ∷ rs) ps qs ls (inr c) =
    ap length c.4 ∙ ap suc (chosen_long R rs (ps ++ said r c.0 ∷ []) c.1 c.2 c.7)
    ∙ sym (ap length c.3)
