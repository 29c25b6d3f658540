-- When 10 is given (document 02, Q-11): exactly at a type without a row, where such types are refused. The argument: a
-- role that gives 10 is that of a type, and roles follow the parameters; and parameters are told by their octets, so
-- every message that goes on from whole parameters has a parameter of that type next, which then is not legal.
-- Assumes nothing.
use Prim.Native.Nat.{ℕ, zero, suc, ◌+◌, ◌<◌}
use mathlib.Core.Path.{◌≡◌, refl, sym, ◌∙◌, ap, subst}
use mathlib.Core.Logic.{◌⊎◌, inl, inr, ◌↔◌}
use mathlib.Core.List.{List, [], ◌∷◌, ◌++◌, append_assoc, append-nil}
use native.Mathlib.Omega.{arith}
use lib.ListN.{length, take, get_or, length-append, length-take}
use lib.Seq.{take-suc}
use lib.Dec.{T}
use Rattle.rules.specs.Tests.{◌≤?◌, ◌and◌, ◌or◌}
use Rattle.rules.proofs.Tests.{both, either, left, right, le_of, of_le, decide, pick_yes, pick_not}
use Rattle.rules.specs.Contents.{Range, within, in_set, some_length}
use Rattle.rules.specs.Octets.{total, checksum}
use Rattle.rules.specs.Table.{Rules, whole, contents_fit, class_of, class_fault, type_fault, listed}
use Rattle.rules.specs.Message as message
use Rattle.rules.specs.Message.{Parameter, body, front, octets, LegalParameter, AllLegal, Accepts}
use Rattle.rules.specs.Roles.{Role, always, times, role_at, body_roles, roles}
use Rattle.rules.specs.Endings.{Spoilt, Numbered}
use Rattle.rules.specs.Unlisted.{TypeAt, UnlistedAt}
use Rattle.rules.specs.declared.Class.{Class}
use Rattle.rules.proofs.ContentLaw.{lawful, SoundRules, type_fault_lem}
use Rattle.rules.proofs.Unique.{split}

-- ---- a class without a length has no contents
some_of : (ls : List Range) (n : ℕ) → T (in_set ls n) → T (some_length ls)
unfolding in_set within some_length
some_of [] n t = absurd t
some_of (l ∷ ls) n t = go (some_of ls n) (either _ _ t)
  where
    go : (T (in_set ls n) → T (some_length ls)) → T (l.0 ≤? n and n ≤? l.1) ⊎ T (in_set ls n) →
        T (l.0 ≤? l.1 or some_length ls)
    go f (inl e) =
        let a = le_of _ _ (both _ _ e).0 in
        let b = le_of _ _ (both _ _ e).1 in
        left _ _ (of_le _ _ (omega arith))
    go f (inr e) = right _ _ (f e)

pub no_contents : (c : Class) → class_fault c ≡ 10 → (v : List ℕ) → T (contents_fit c v) → ⊥
unfolding class_fault
no_contents c z v t =
    let s = some_of (whole c).lengths (length v) ((lawful c).fit_length v t) in
    let k : class_fault c ≡ 3 = pick_yes _ _ _ s in
    omega (arith, z, k)

fault_of : (R : Rules) (t : ℕ) → type_fault R t ≡ class_fault (class_of R t)
unfolding type_fault
fault_of R t = refl

-- ---- parameters one behind the other
pub body-append : (ps qs : List Parameter) → body (ps ++ qs) ≡ body ps ++ body qs
unfolding body
body-append [] qs = refl
body-append (p ∷ ps) qs =
    ap (λ (l : List ℕ). p.kind ∷ length p.contents ∷ l)
    (ap (λ (l : List ℕ). p.contents ++ l) (body-append ps qs) ∙ sym (append_assoc p.contents (body ps) (body qs)))

body_size : (p : Parameter) (ps : List Parameter) →
    length (body (p ∷ ps)) ≡ 2 + (length p.contents + length (body ps))
unfolding body
body_size p ps = omega (arith, length-append p.contents (body ps))

-- the parameter behind ps in parameters qs that begin with their octets and go on
pub record Next (ps qs : List Parameter) (x : ℕ) : Type 0 where
  pub p : Parameter
  pub rest : List Parameter
  pub is : ps ++ p ∷ rest ≡ qs
  pub kind : p.kind ≡ x

pub next : (ps qs : List Parameter) (x : ℕ) (r s : List ℕ) → body ps ++ x ∷ r ≡ body qs ++ s →
    length (body ps) < length (body qs) → Next ps qs x
unfolding body
next [] [] x r s e l = absurd (omega arith)
next [] (q ∷ qs) x r s e l = record { p = q; rest = qs; is = refl; kind = cc }
next (p ∷ ps) [] x r s e l = absurd (omega arith)
next (p ∷ ps) (q ∷ qs) x r s e l =
    let n : length p.contents ≡ length q.contents = cc in
    let k : p.kind ≡ q.kind = cc in
    let f : (p.contents ++ body ps) ++ x ∷ r ≡ (q.contents ++ body qs) ++ s = cc in
    let g = split p.contents q.contents (body ps ++ x ∷ r) (body qs ++ s) n
    (sym (append_assoc p.contents (body ps) (x ∷ r)) ∙ f ∙ append_assoc q.contents (body qs) s) in
    let a = length-append p.contents (body ps) in
    let b = length-append q.contents (body qs) in
    let y = next ps qs x r s g.1 (omega (arith, l, a, b, n)) in
    record {
      p = y.p;
      rest = y.rest;
      is = (λ i. record { kind = k i; contents = g.0 i } ∷ y.is i);
      kind = y.kind;
    }

module _ (R : Rules) where
  legal_at : (ps : List Parameter) (p : Parameter) (rest : List Parameter) → AllLegal R (ps ++ p ∷ rest) →
      LegalParameter R p
  legal_at [] p rest h = h.0
  legal_at (q ∷ ps) p rest h = legal_at ps p rest h.1

  -- ---- the roles of a type, and no others, give 10
  abbrev type_role : ℕ → Role
  type_role b = record { number = type_fault R; parameter = b }

  skip : (n : ℕ) (r : Role) (rs : List Role) (i : ℕ) → role_at (times n r ++ rs) (n + i) ≡ role_at rs i
  unfolding role_at times
  skip zero r rs i = let z : 0 + i ≡ i = omega arith in ap (role_at rs) z
  skip (suc n) r rs i =
      let z : suc n + i ≡ suc (n + i) = omega arith in
      ap (role_at (times (suc n) r ++ rs)) z ∙ skip n r rs i

  -- the role behind the parameters ps
  role_behind : (b : ℕ) (ps : List Parameter) (p : Parameter) (rest : List Parameter) (rs : List Role) →
      role_at (body_roles R b (ps ++ p ∷ rest) ++ rs) (length (body ps)) ≡ type_role (b + length ps)
  unfolding role_at body_roles body
  role_behind b [] p rest rs = let z : b ≡ b + 0 = omega arith in ap type_role z
  role_behind b (q ∷ ps) p rest rs =
      let t = times (length q.contents) (always 5 b) in
      let u = body_roles R (suc b) (ps ++ p ∷ rest) in
      let z : suc b + length ps ≡ b + suc (length ps) = omega arith in
      ap (λ (n : ℕ). role_at ((t ++ u) ++ rs) n) (length-append q.contents (body ps))
      ∙ ap (λ (l : List Role). role_at l (length q.contents + length (body ps))) (append_assoc t u rs)
      ∙ skip (length q.contents) (always 5 b) (u ++ rs) (length (body ps))
      ∙ role_behind (suc b) ps p rest rs ∙ ap type_role z

  -- where a role of parameters gives 10 to x
  record Gives (b : ℕ) (qs : List Parameter) (i x c : ℕ) : Type 0 where
    pub ps : List Parameter
    pub p : Parameter
    pub rest : List Parameter
    pub is : ps ++ p ∷ rest ≡ qs
    pub place : length (body ps) ≡ i
    pub number : c ≡ b + length ps
    pub fault : type_fault R x ≡ 10

  past : (n b : ℕ) (rs : List Role) (i x : ℕ) → (role_at (times n (always 5 b) ++ rs) i).number x ≡ 10 →
      (j : ℕ) × (n + j ≡ i)
  unfolding role_at times
  past zero b rs i x e = (i, omega arith)
  past (suc n) b rs zero x e = absurd (omega (arith, e))
  past (suc n) b rs (suc i) x e = let y = past n b rs i x e in (y.0, omega (arith, y.1))

  body_gives : (b : ℕ) (qs : List Parameter) (i x c : ℕ) →
      (role_at (body_roles R b qs ++ always 6 0 ∷ []) i).number x ≡ 10 →
      (role_at (body_roles R b qs ++ always 6 0 ∷ []) i).parameter ≡ c → Gives b qs i x c
  unfolding role_at body_roles body
  body_gives b [] zero x c e f = absurd (omega (arith, e))
  body_gives b [] (suc i) x c e f = absurd (omega (arith, e))
  body_gives b (q ∷ qs) zero x c e f =
      record { ps = []; p = q; rest = qs; is = refl; place = refl; number = omega (arith, f); fault = e }
  body_gives b (q ∷ qs) (suc zero) x c e f = absurd (omega (arith, e))
  body_gives b (q ∷ qs) (suc (suc i)) x c e f =
      let n = length q.contents in
      let t = times n (always 5 b) in
      let u = body_roles R (suc b) qs in
      let rs = u ++ always 6 0 ∷ [] in
      let a : role_at ((t ++ u) ++ always 6 0 ∷ []) i ≡ role_at (t ++ rs) i =
      ap (λ (l : List Role). role_at l i) (append_assoc t u (always 6 0 ∷ [])) in
      let y = past n b rs i x (sym (ap (λ (r : Role). r.number x) a) ∙ e) in
      let k : role_at ((t ++ u) ++ always 6 0 ∷ []) i ≡ role_at rs y.0 =
      a ∙ ap (role_at (t ++ rs)) (sym y.1) ∙ skip n (always 5 b) rs y.0 in
      let z = body_gives (suc b) qs y.0 x c (sym (ap (λ (r : Role). r.number x) k) ∙ e)
      (sym (ap (λ (r : Role). r.parameter) k) ∙ f) in
      record {
        ps = q ∷ z.ps;
        p = z.p;
        rest = z.rest;
        is = ap (λ (l : List Parameter). q ∷ l) z.is;
        place = omega (arith, length-append q.contents (body z.ps), z.place, y.1);
        number = omega (arith, z.number);
        fault = z.fault;
      }

  message_gives : (m : message.Message) (p x c : ℕ) → (role_at (roles R m) p).number x ≡ 10 →
      (role_at (roles R m) p).parameter ≡ c → (i : ℕ) × (2 + i ≡ p) × Gives 1 m.parameters i x c
  unfolding role_at roles
  message_gives m zero x c e f = absurd (omega (arith, e))
  message_gives m (suc zero) x c e f = absurd (omega (arith, e))
  message_gives m (suc (suc i)) x c e f = (i, omega arith, body_gives 1 m.parameters i x c e f)

  -- ---- from 10 to a type without a row
  module _ (S : SoundRules R) (h : List ℕ) (p b : ℕ) where
    taken : p < length h → length (take p h) ≡ p
    taken l = omega (arith, length-take p h)

    of_message : (l : p < length h) (e : List ℕ) (a : Accepts R (take p h ++ e)) → (i : ℕ) → 2 + i ≡ p →
        Gives 1 a.0.parameters i (get_or h p 0) b → TypeAt h p b
    unfolding octets
    of_message l e (m, g, z) i j y =
        let w = body y.ps in
        let v = body (y.p ∷ y.rest) in
        let q : body m.parameters ≡ w ++ v = ap body (sym y.is) ∙ body-append y.ps (y.p ∷ y.rest) in
        let c = checksum (total (front m)) ∷ [] in
        let long = length (body m.parameters) in
        let s = split (take p h) (m.kind ∷ long ∷ w) e (v ++ c) (omega (arith, taken l, y.place, j))
        (sym z ∙ ap (λ (k : List ℕ). m.kind ∷ long ∷ (k ++ c)) q
        ∙ ap (λ (k : List ℕ). m.kind ∷ long ∷ k) (append_assoc w v c)) in
        record {
          kind = m.kind;
          long = long;
          parameters = y.ps;
          before = s.0;
          room = omega (arith, ap length q, length-append w v, body_size y.p y.rest);
          number = omega (arith, y.number);
        }

    no_row_lem : (x : ℕ) → type_fault R x ≡ 10 → (T (listed R x) → ⊥) × (class_fault R.others ≡ 10)
    no_row_lem x e = (row, others (decide (listed R x)))
      where
        row : T (listed R x) → ⊥
        row t =
            let z : type_fault R x ≡ 3 = type_fault_lem R S x ∙ pick_yes (listed R x) 3 (class_fault R.others) t in
            omega (arith, e, z)

        others : T (listed R x) ⊎ (T (listed R x) → ⊥) → class_fault R.others ≡ 10
        others (inl t) = absurd (row t)
        others (inr n) =
            sym (pick_not (listed R x) 3 (class_fault R.others) n) ∙ sym (type_fault_lem R S x) ∙ e

    unlisted_of : Spoilt (Accepts R) h p → Numbered (Accepts R) (λ o a. roles R a.0) h p 10 b →
        (class_fault R.others ≡ 10) × UnlistedAt R h p b
    unlisted_of s n =
        let e = s.before.e in
        let a = s.before.accepted in
        let k = n e a in
        let y = message_gives a.0 p (get_or h p 0) b k.0 k.1 in
        let u = no_row_lem (get_or h p 0) y.2.fault in (
          u.1,
          record {
            place = s.place;
            before = s.before;
            stands = of_message s.place e a y.0 y.1 y.2;
            unlisted = u.0;
          },
        )

    -- ---- and back
    module _ (z : class_fault R.others ≡ 10) (u : UnlistedAt R h p b) where
      abbrev x : ℕ
      x = get_or h p 0

      fault_is : type_fault R x ≡ 10
      fault_is = type_fault_lem R S x ∙ pick_not (listed R x) 3 (class_fault R.others) u.unlisted ∙ z

      -- a message that begins with the octets before p goes on with a parameter
      goes_on : (y : ℕ) (r : List ℕ) (a : Accepts R (take p h ++ y ∷ r)) →
          Next u.stands.parameters a.0.parameters y
      unfolding octets
      goes_on y r (m, g, k) =
          let c = checksum (total (front m)) ∷ [] in
          let s = u.stands in
          let e : m.kind ∷ length (body m.parameters) ∷ (body m.parameters ++ c) ≡
          s.kind ∷ s.long ∷ (body s.parameters ++ y ∷ r) =
          k ∙ ap (λ (l : List ℕ). l ++ y ∷ r) s.before in
          let n : length (body m.parameters) ≡ s.long = cc in
          let f : body m.parameters ++ c ≡ body s.parameters ++ y ∷ r = cc in
          next s.parameters m.parameters y r c (sym f) (omega (arith, n, s.room))

      -- none has octet p
      none_has : (r : List ℕ) → Accepts R (take p h ++ x ∷ r) → ⊥
      none_has r a =
          let y = goes_on x r a in
          let g = legal_at u.stands.parameters y.p y.rest
          (subst (AllLegal R) (sym y.is) a.1.parameters) in
          no_contents (class_of R x) fault_class y.p.contents
          (subst (λ (t : ℕ). T (contents_fit (class_of R t) y.p.contents)) y.kind g.fits)
        where
          fault_class : class_fault (class_of R x) ≡ 10
          fault_class = sym (fault_of R x) ∙ fault_is

      with_octet : take (suc p) h ≡ take p h ++ (x ∷ [])
      with_octet = take-suc h p 0 u.place

      role_is : (e : List ℕ) (a : Accepts R (take p h ++ e)) → role_at (roles R a.0) p ≡ type_role b
      unfolding roles role_at octets
      role_is [] (m, g, k) =
          let s = u.stands in
          let c = checksum (total (front m)) ∷ [] in
          let e : m.kind ∷ length (body m.parameters) ∷ (body m.parameters ++ c) ≡
          s.kind ∷ s.long ∷ body s.parameters = k ∙ append-nil (take p h) ∙ s.before in
          let n : length (body m.parameters) ≡ s.long = cc in
          let f : body m.parameters ++ c ≡ body s.parameters = cc in
          absurd (omega (arith, ap length f, length-append (body m.parameters) c, n, s.room))
      role_is (y ∷ r) a =
          let s = u.stands in
          let w = goes_on y r a in
          let j : p ≡ suc (suc (length (body s.parameters))) =
          omega (arith, taken u.place, ap length s.before) in
          ap (role_at (roles R a.0)) j
          ∙ ap (λ (l : List Parameter). role_at (body_roles R 1 l ++ always 6 0 ∷ []) (length (body s.parameters)))
          (sym w.is)
          ∙ role_behind 1 s.parameters w.p w.rest (always 6 0 ∷ [])
          ∙ ap type_role (let n = s.number in omega arith)

      pub spoilt_at : Spoilt (Accepts R) h p × Numbered (Accepts R) (λ o a. roles R a.0) h p 10 b
      spoilt_at = (
        record {
          place = u.place;
          before = u.before;
          none = λ a. none_has [] (subst (Accepts R) with_octet a);
          hopeless = λ d. none_has d.e
              (subst (Accepts R) (ap (λ (l : List ℕ). l ++ d.e) with_octet ∙ append_assoc (take p h) (x ∷ []) d.e)
              d.accepted);
        },
        λ e a. let k = role_is e a in
            (ap (λ (r : Role). r.number x) k ∙ fault_is, ap (λ (r : Role). r.parameter) k),
      )

    -- 10 exactly where types without a row are refused, and octet p is one
    pub ten_iff : (Spoilt (Accepts R) h p × Numbered (Accepts R) (λ o a. roles R a.0) h p 10 b) ↔
        ((class_fault R.others ≡ 10) × UnlistedAt R h p b)
    ten_iff = (λ y. unlisted_of y.0 y.1, λ y. spoilt_at y.0 y.1)
