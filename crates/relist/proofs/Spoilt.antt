-- Every text is a valid listing or is spoilt at a line. That a line spoils: a valid listing that has the lines before
-- it and this one would have been taken up to this line as the text was, since what rows take hangs on the lines so
-- far alone; and then this line is its last, with a value line before it.
-- Assumes nothing.
use Rattle.std.proofs.Common.{◌≡◌, ℕ, zero, suc, ◌+◌, ◌≤◌, T, ◌⊎◌, List, [], ◌∷◌, ◌++◌, length, drop, sym, refl, ap, ◌∙◌, subst, ap₂, inl, inr, append_assoc, append-nil, arith, length-append}
use Rattle.rules.specs.Tests.{◌≤?◌, ◌=?◌, ◌and◌, ◌or◌, pick}
use Rattle.rules.proofs.Tests.{decide, eq_of, of_eq, not_zero, pick_yes, pick_not}
use Rattle.rules.specs.Contents.{within, digit, pair_fits, pairs_fit, short_month, days, month_of}
use Rattle.rules.specs.Pairwise.{same_octets}
use Rattle.rules.proofs.Pairwise.{octets_self, octets_are}
use Rattle.rules.specs.Table.{Row, row, rules_of, row_in, row_of, class_of, whole, contents_fit, ascii}
use Rattle.rules.specs.declared.Class.TheVariants.{Date}
use Rattle.rules.specs.Message.{Parameter, Message, body, message_kind}
use Rattle.listing.specs.Listing.{Line, written, line_of, kind_line}
use Rattle.listing.proofs.Plain.{bare, Plain, plain_kind}
use Rattle.writer.specs.Writing.{unwritten}
use Rattle.relist.specs.Relist.{line_in, behind, Lined, taken, kind_in, closed, lined_in, relisted}
use Rattle.relist.specs.Sentences.{Orderly, Says, Valid, Begins, Unended, Ended, Spoils, missing, unended, wrong, SpoiltAt}
use Rattle.relist.proofs.Text.{cut_at, line_first, line_split, plain_unended}
use Rattle.relist.proofs.Said.{tested}
use Rattle.relist.proofs.Chosen.{Chosen, said, lined, last, empty, Took, took, again}
use Rattle.relist.proofs.Orderly.{chosen_orderly, chosen_lines, plain_chosen, one_chosen, chosen_long}
use Rattle.relist.proofs.Ends.{ended_cons, ended-written}
use Rattle.relist.proofs.Valid.{R, first, kind_is, kind_some, kind_behind, last_line, end, end_unended, last_is, says_kind, says_lined}

-- ---- a line spoils
-- what is left of a text spoils it, where the lines before are no whole listing and begin none with the next line
module _ (t before rest : List ℕ) (n : ℕ) (is : before ++ rest ≡ t) (e : Ended n before) (b : Begins R before) where
  pub spoilt_from : (rest ≡ [] → Valid R before → ⊥) →
      ((l more : List ℕ) → Unended l → l ++ 0x0A ∷ more ≡ rest → Begins R (before ++ l ++ 0x0A ∷ []) → ⊥) →
      SpoiltAt R t (suc n)
  spoilt_from v w =
      record {
        lines = n;
        before = before;
        rest = rest;
        number = refl;
        is = is;
        ended = e;
        begins = b;
        spoils = go rest refl;
      }
    where
      cuts : (x : ℕ) (r : List ℕ) → x ∷ r ≡ rest → (Unended (x ∷ r)) ⊎ ((l : List ℕ) × (more : List ℕ) × Unended l
          × (l ++ 0x0A ∷ more ≡ x ∷ r)) → Spoils R before rest
      cuts x r q (inl u) =
          unended (let z = ap length q in omega arith) (subst Unended q u)
      cuts x r q (inr c) = wrong c.0 c.1 c.2 (c.3 ∙ q) (w c.0 c.1 c.2 (c.3 ∙ q))

      go : (r : List ℕ) → r ≡ rest → Spoils R before rest
      go [] q = missing (sym q) (v (sym q))
      go (x ∷ r) q = cuts x r q (cut_at 0x0A (x ∷ r))

-- ---- a listing that says as little as it can, of either type
abbrev little : List ℕ
little = ascii "01010000"

little_fits : T (contents_fit (class_of R 0x01) little)
unfolding class_of row_of row_in rules_of whole pairs_fit pair_fits within digit month_of days short_month ascii pick ◌=?◌ ◌≤?◌ ◌and◌ ◌or◌
little_fits = tt

abbrev time_row : Row
time_row = row 0x01 Date "time"

time_first : time_row ∷ drop 1 R.rows ≡ R.rows
unfolding rules_of
time_first = refl

one_line : Chosen R R.rows [] (said time_row little ∷ []) (line_of R time_row little ∷ [])
one_line =
    subst (λ (rs : List Row). Chosen R rs [] (said time_row little ∷ []) (line_of R time_row little ∷ [])) time_first
    (one_chosen R time_row (drop 1 R.rows) little little_fits)

shortest : (k : ℕ) → T (message_kind k) → Begins R (first k)
shortest k t =
    let ps = said time_row little ∷ [] in
    let ls = line_of R time_row little ∷ [] in
    let o = chosen_orderly R tested k ps ls one_line t (omega arith) in
    let m : Message = record { kind = k; parameters = ps } in
    (written ls ++ last, (m, (o, chosen_lines R tested m o ls one_line)))

-- ---- octets and texts
line_then : (a l b : List ℕ) → (a ++ l ++ 0x0A ∷ []) ++ b ≡ a ++ (l ++ 0x0A ∷ b)
line_then a l b =
    append_assoc (a ++ l) (0x0A ∷ []) b ∙ append_assoc a l (0x0A ∷ b)

last_long : length last ≡ length end + 1
last_long = omega (arith, ap length (sym (append-nil last) ∙ last_is []), length-append end (0x0A ∷ []))

ended_snoc : (n : ℕ) (a l : List ℕ) → Ended n a → Unended l → Ended (suc n) (a ++ (l ++ 0x0A ∷ []))
ended_snoc zero a l e u = (l, [], u, ap (λ (x : List ℕ). x ++ (l ++ 0x0A ∷ [])) (sym e), refl)
ended_snoc (suc n) a l e u = (
  e.0,
  e.1 ++ (l ++ 0x0A ∷ []),
  e.2,
  sym (append_assoc e.0 (0x0A ∷ e.1) (l ++ 0x0A ∷ [])) ∙ ap (λ (x : List ℕ). x ++ (l ++ 0x0A ∷ [])) e.3,
  ended_snoc n e.1 l e.4 u,
)

call_legal : T (message_kind 0x80)
unfolding message_kind ◌or◌ ◌=?◌
call_legal = tt

-- ---- no first line
module _ (t : List ℕ) (z : kind_in (line_in t) ≡ 0) where
  pub no_kind : SpoiltAt R t 1
  no_kind =
      let b = shortest 0x80 call_legal in
      spoilt_from t [] t 0 refl refl (first 0x80 ++ b.0, b.1)
      (λ e v. none [] v (ap (λ (x : List ℕ). kind_in (line_in x)) (sym e) ∙ z))
      (λ l more u e c. none ((l ++ 0x0A ∷ []) ++ c.0) c.1
      (ap kind_in (ap line_in (append_assoc l (0x0A ∷ []) c.0) ∙ line_first l c.0 u ∙ sym (line_first l more u)
      ∙ ap line_in e) ∙ z))
    where
      none : (x : List ℕ) → Valid R x → kind_in (line_in x) ≡ 0 → ⊥
      none x v q = kind_some v.0.kind v.1.0.kind (sym (says_kind v.0 x v.1) ∙ q)

-- ---- behind a first line
module _ (t : List ℕ) (n : kind_in (line_in t) ≡ 0 → ⊥) where
  abbrev k : ℕ
  k = kind_in (line_in t)

  abbrev w : Took R R.rows [] (behind t)
  w = took R R.rows 0 tested [] (behind t)

  abbrev ps : List Parameter
  ps = w.more

  abbrev ls : List Line
  ls = w.lines

  abbrev left : List ℕ
  left = (taken R R.rows [] (behind t)).rest

  abbrev before : List ℕ
  before = first k ++ written ls

  kind : T (message_kind k)
  kind = (kind_is (line_in t) n).legal

  plain : Plain ls
  plain = plain_chosen R R.rows 0 tested [] ps ls w.chosen

  long : length ls ≡ length ps
  long = chosen_long R R.rows [] ps ls w.chosen

  whole_text : before ++ left ≡ t
  whole_text =
      append_assoc (first k) (written ls) left ∙ ap₂ (λ (x y : List ℕ). x ++ y) (kind_is (line_in t) n).line w.text
      ∙ line_split t

  ended : Ended (suc (length ls)) before
  ended =
      ended_cons (kind_line k) (length ls) (written ls) (plain_unended (bare (kind_line k)) (plain_kind k))
      (ended-written ls plain)

  -- a listing that has these lines and the next was taken up to it
  module _ (l a : List ℕ) (u : Unended l) (e : left ≡ l ++ 0x0A ∷ a) (b : List ℕ) (m : Message)
      (s : Says R m (before ++ (l ++ 0x0A ∷ b))) where
    up_to : taken R R.rows [] (written ls ++ (l ++ 0x0A ∷ a)) ≡ lined ps (l ++ 0x0A ∷ a)
    up_to =
        ap (taken R R.rows []) (ap (λ (x : List ℕ). written ls ++ x) (sym e) ∙ w.text)
        ∙ (λ i. lined (w.parameters i) (e i))

    stuck : lined ps (l ++ 0x0A ∷ b) ≡ lined m.parameters last
    unfolding lined_in
    stuck =
        sym (again R l u a b R.rows [] ls plain ps up_to)
        ∙ ap (taken R R.rows [])
        (sym (ap behind (append_assoc (first k) (written ls) (l ++ 0x0A ∷ b))
        ∙ kind_behind k (written ls ++ (l ++ 0x0A ∷ b))))
        ∙ says_lined m (before ++ (l ++ 0x0A ∷ b)) s

    pub stuck_parameters : ps ≡ m.parameters
    stuck_parameters = ap (λ (x : Lined). x.parameters) stuck

    pub stuck_last : l ++ 0x0A ∷ b ≡ last
    stuck_last = ap (λ (x : Lined). x.rest) stuck

  -- nothing is left: the lines are no whole listing
  nothing_left : left ≡ [] → Valid R before → ⊥
  unfolding lined_in
  nothing_left e v =
      let q : before ≡ t = sym (append-nil before) ∙ ap (λ (x : List ℕ). before ++ x) (sym e) ∙ whole_text in
      let d : left ≡ last =
      ap (λ (x : Lined). x.rest) (says_lined v.0 t (subst (λ (x : List ℕ). Says R v.0 x) q v.1)) in
      absurd (omega (arith, ap length (sym e ∙ d), last_long))

  -- no value line
  pub no_value : length ps ≡ 0 → SpoiltAt R t 2
  unfolding written
  no_value z =
      let q : ls ≡ [] = empty ls (long ∙ z) in
      subst (SpoiltAt R t) (ap (λ (x : List Line). suc (suc (length x))) q)
      (spoilt_from t before left (suc (length ls)) whole_text ended
      (subst (Begins R) (sym (append-nil (first k)) ∙ ap (λ (x : List Line). first k ++ written x) (sym q))
      (shortest k kind))
      nothing_left
      (λ l more u e c. let s = subst (λ (x : List ℕ). Says R c.1.0 x) (line_then before l c.0) c.1.1 in
      let h = s.0.one in
      absurd (omega (arith, ap length (stuck_parameters l more u (sym e) c.0 c.1.0 s)))))

  -- value lines
  module _ (h : 1 ≤ length ps) where
    abbrev m : Message
    m = record { kind = k; parameters = ps }

    orderly : Orderly R m
    orderly = chosen_orderly R tested k ps ls w.chosen kind h

    says : Says R m (before ++ last)
    says = (
      orderly,
      chosen_lines R tested m orderly ls w.chosen ∙ sym (append_assoc (first k) (written ls) last),
    )

    -- and not the last line
    pub no_last : (T (same_octets last (line_in left)) → ⊥) → SpoiltAt R t (length ps + 2)
    no_last x =
        subst (SpoiltAt R t) (let z : suc (suc (length ls)) ≡ length ps + 2 = omega (arith, long) in z)
        (spoilt_from t before left (suc (length ls)) whole_text ended (last, (m, says)) nothing_left
        (λ l more u e c. x
        (let s = subst (λ (y : List ℕ). Says R c.1.0 y) (line_then before l c.0) c.1.1 in
        let q : last ≡ line_in left = sym last_line ∙ ap line_in (sym (stuck_last l more u (sym e) c.0 c.1.0 s))
        ∙ line_first l c.0 u ∙ sym (line_first l more u) ∙ ap line_in e in
        subst (λ (y : List ℕ). T (same_octets last y)) q (octets_self last))))

    module _ (y : T (same_octets last (line_in left))) where
      left_is : left ≡ last ++ behind left
      left_is = sym (line_split left) ∙ ap (λ (x : List ℕ). x ++ behind left) (sym (octets_are _ _ y))

      all_text : (before ++ last) ++ behind left ≡ t
      all_text =
          append_assoc before last (behind left) ∙ ap (λ (x : List ℕ). before ++ x) (sym left_is) ∙ whole_text

      -- nothing behind it
      pub all_said_lem : behind left ≡ [] → Says R m t
      all_said_lem e =
          subst (Says R m)
          (sym (append-nil (before ++ last)) ∙ ap (λ (x : List ℕ). (before ++ last) ++ x) (sym e) ∙ all_text)
          says

      -- or something
      pub more_behind : (behind left ≡ [] → ⊥) → SpoiltAt R t (length ps + 3)
      more_behind x =
          subst (SpoiltAt R t) (let z : suc (suc (suc (length ls))) ≡ length ps + 3 = omega (arith, long) in z)
          (spoilt_from t (before ++ last) (behind left) (suc (suc (length ls))) all_text
          (subst (λ (v : List ℕ). Ended (suc (suc (length ls))) (before ++ v)) (sym (last_is []) ∙ append-nil last)
          (ended_snoc (suc (length ls)) before end ended end_unended))
          ([], subst (Valid R) (sym (append-nil (before ++ last))) (m, says)) (λ e _. x e)
          (λ l more u e c. beyond l c.0 c.1.0 c.1.1))
        where
          beyond : (l b : List ℕ) (m' : Message) → Says R m' (((before ++ last) ++ l ++ 0x0A ∷ []) ++ b) → ⊥
          beyond l b m' s =
              let v = l ++ 0x0A ∷ b in
              let q : ((before ++ last) ++ l ++ 0x0A ∷ []) ++ b ≡ before ++ (end ++ 0x0A ∷ v) =
              line_then (before ++ last) l b ∙ append_assoc before last v
              ∙ ap (λ (x : List ℕ). before ++ x) (last_is v) in
              let d = stuck_last end (behind left) end_unended (left_is ∙ last_is (behind left)) v m'
              (subst (Says R m') q s) in
              absurd (omega (arith, ap length d, last_long, length-append end (0x0A ∷ v), length-append l (0x0A ∷ b)))

-- ---- every text
pub data Read (t : List ℕ) (room : ℕ) : Type 0 where
  valid : (m : Message) → Says R m t → Read t room
  spoilt : (k : ℕ) → relisted R t room ≡ unwritten 61 k → SpoiltAt R t k → Read t room

module _ (t : List ℕ) (room : ℕ) where
  pub reads : Read t room
  unfolding relisted closed lined_in
  reads = start (decide (kind_in (line_in t) =? 0))
    where
      told : (n : kind_in (line_in t) ≡ 0 → ⊥) → length (taken R R.rows [] (behind t)).parameters ≡ length (ps t n)
      told n = ap length (w t n).parameters

      begun : (n : kind_in (line_in t) ≡ 0 → ⊥) → relisted R t room ≡ closed (length (ps t n)) (left t n)
          (length (body (taken R R.rows [] (behind t)).parameters)) room
      begun n =
          pick_not _ _ _ (λ e. n (eq_of _ _ e))
          ∙ ap (λ (x : ℕ). closed x (left t n) (length (body (taken R R.rows [] (behind t)).parameters)) room)
          (told n)

      after : (n : kind_in (line_in t) ≡ 0 → ⊥) (h : 1 ≤ length (ps t n)) (c : T (length (ps t n) =? 0) → ⊥)
          (y : T (same_octets last (line_in (left t n)))) →
          T (length (behind (left t n)) =? 0) ⊎ (T (length (behind (left t n)) =? 0) → ⊥) → Read t room
      after n h c y (inl e) = valid (m t n h) (all_said_lem t n h y (empty (behind (left t n)) (eq_of _ _ e)))
      after n h c y (inr x) =
          spoilt (length (ps t n) + 3) (begun n ∙ pick_not _ _ _ c ∙ pick_yes _ _ _ y ∙ pick_not _ _ _ x)
          (more_behind t n h y (λ e. x (of_eq _ _ (ap length e))))

      valued : (n : kind_in (line_in t) ≡ 0 → ⊥) (c : T (length (ps t n) =? 0) → ⊥) →
          T (same_octets last (line_in (left t n))) ⊎ (T (same_octets last (line_in (left t n))) → ⊥) → Read t room
      valued n c (inl y) =
          after n (not_zero _ c) c y (decide (length (behind (left t n)) =? 0))
      valued n c (inr x) =
          spoilt (length (ps t n) + 2) (begun n ∙ pick_not _ _ _ c ∙ pick_not _ _ _ x) (no_last t n (not_zero _ c) x)

      counted : (n : kind_in (line_in t) ≡ 0 → ⊥) → T (length (ps t n) =? 0) ⊎ (T (length (ps t n) =? 0) → ⊥) →
          Read t room
      counted n (inl z) = spoilt 2 (begun n ∙ pick_yes _ _ _ z) (no_value t n (eq_of _ _ z))
      counted n (inr c) = valued n c (decide (same_octets last (line_in (left t n))))

      start : T (kind_in (line_in t) =? 0) ⊎ (T (kind_in (line_in t) =? 0) → ⊥) → Read t room
      start (inl z) = spoilt 1 (pick_yes _ _ _ z) (no_kind t (eq_of _ _ z))
      start (inr x) = counted (λ e. x (of_eq _ _ e)) (decide (length (ps t (λ e. x (of_eq _ _ e))) =? 0))
