-- What may still come at each stage, as a rule over whole parameters; and that the machine's step takes off one octet
-- of it. The argument: an octet that may come is the first of some rest (forward), a rest goes on from every octet
-- that may come (backward, lives), and any fillable room is filled with parameters of type 02H.
-- Assumes nothing.
use Prim.Native.Nat.{ℕ, zero, suc, ◌+◌, ◌-◌, ◌≤◌, ◌<◌}
use mathlib.Core.Path.{◌≡◌, refl, sym, ◌∙◌, ap}
use mathlib.Core.Logic.{◌⊎◌, inl, inr}
use mathlib.Core.List.{List, [], ◌∷◌, ◌++◌}
use native.Mathlib.Omega.{arith}
use lib.ListN.{length, length-append}
use lib.Dec.{T}
use Rattle.rules.specs.Tests.{◌≤?◌, ◌=?◌, ◌and◌, ◌or◌}
use Rattle.rules.proofs.Tests.{both, join, either, left, right, le_of, of_le, eq_of, of_eq, pick_case, pick_yes, clash}
use Rattle.rules.specs.Contents.{Range, within, in_set, some_length}
use Rattle.rules.specs.Table.{Rules, class_of, class_fault, length_fits, contents_fit, whole}
use Rattle.rules.specs.ContentJudge.{ok_at, remember, fits_from, passes}
use Rattle.rules.proofs.ClassLaw.{begin, proceed, fit_passes, passes_fit}
use Rattle.rules.proofs.ContentLaw.{lawful, small, SoundRules}
use Rattle.rules.specs.Message.{Parameter, Message, body, front, message_kind, AllLegal, LegalMessage}
use Rattle.rules.specs.Judge.{room_fits, range_possible, some_possible, possible, final, fits, contents, after}
use Rattle.rules.specs.declared.Class.{Class}
use Rattle.rules.specs.declared.Stage.{Stage}
use Rattle.rules.specs.declared.Stage.TheVariants.{Kind, Size, Header, Length, Content}

-- a room that parameters fill is 0 or at least 3
abbrev pub Fillable : ℕ → Type 0
Fillable r = (r ≡ 0) ⊎ (3 ≤ r)

module _ (R : Rules) where
  -- parameters that fill a room
  pub record Params (r : ℕ) (b : List ℕ) : Type 0 where
    pub ps : List Parameter
    pub legal : AllLegal R ps
    pub is : body ps ≡ b
    pub long : length b ≡ r

  -- length and contents of a parameter, and parameters that fill the room after it
  pub record FromLength (c : Class) (r : ℕ) (b : List ℕ) : Type 0 where
    pub v : List ℕ
    pub rest : List ℕ
    pub room : ℕ
    pub tail : Params room rest
    pub fits : T (contents_fit c v)
    pub is : length v ∷ v ++ rest ≡ b
    pub size : length v + 2 + room ≡ r

  -- the rest of some contents, and parameters after it
  pub record Chunk (c : Class) (n i m r : ℕ) (b : List ℕ) : Type 0 where
    pub v : List ℕ
    pub rest : List ℕ
    pub long : i + length v ≡ n
    pub fits : T (fits_from c n i m v)
    pub tail : Params r rest
    pub is : v ++ rest ≡ b

  pub record Fronted (b : List ℕ) : Type 0 where
    pub m : Message
    pub legal : LegalMessage R m
    pub is : front m ≡ b

  pub record FromSize (b : List ℕ) : Type 0 where
    pub ps : List Parameter
    pub legal : AllLegal R ps
    pub long : 3 ≤ length (body ps)
    pub short : length (body ps) < 256
    pub is : length (body ps) ∷ body ps ≡ b

  abbrev pub Body : Stage → List ℕ → Type 0
  Body Kind b = Fronted b
  Body Size b = FromSize b
  Body (Header r) b = Params r b
  Body (Length c r) b = FromLength c r b
  Body (Content c n i m r) b = (i < n) × Chunk c n i m r b

  abbrev pub Some : Stage → Type 0
  Some s = (b : List ℕ) × Body s b

-- ---- the room rule
room_fits_lem : (n r room : ℕ) → n + 2 + room ≡ r → Fillable room → T (room_fits n r)
unfolding room_fits
room_fits_lem n r room e (inl z) = left _ _ (of_eq _ _ (omega arith))
room_fits_lem n r room e (inr z) = right _ _ (of_le _ _ (omega arith))

pub fits_room : (n r : ℕ) → T (room_fits n r) → (n + 2 + (r - (n + 2)) ≡ r) × Fillable (r - (n + 2))
unfolding room_fits
fits_room n r t = go (either _ _ t)
  where
    go : T (r =? n + 2) ⊎ T (n + 5 ≤? r) → (n + 2 + (r - (n + 2)) ≡ r) × Fillable (r - (n + 2))
    go (inl e) = let k = eq_of _ _ e in (omega arith, inl (omega arith))
    go (inr l) = let k = le_of _ _ l in (omega arith, inr (omega arith))

pub possible_has : (ls : List Range) (n r : ℕ) → T (in_set ls n) → T (room_fits n r) → T (some_possible ls r)
unfolding some_possible range_possible room_fits in_set within
possible_has [] n r l f = absurd l
possible_has (l ∷ ls) n r t f = go (λ e. possible_has ls n r e f) (either _ _ t) (either _ _ f)
  where
    go : (T (in_set ls n) → T (some_possible ls r)) → T (l.0 ≤? n and n ≤? l.1) ⊎ T (in_set ls n) →
        T (r =? n + 2) ⊎ T (n + 5 ≤? r) → T (range_possible l r or some_possible ls r)
    go h (inl e) (inl f) =
        let a = le_of _ _ (both _ _ e).0 in
        let b = le_of _ _ (both _ _ e).1 in
        let k = eq_of _ _ f in
        left _ _ (left _ _ (join _ _ (of_le _ _ (omega arith)) (of_le _ _ (omega arith))))
    go h (inl e) (inr f) =
        let a = le_of _ _ (both _ _ e).0 in
        let b = le_of _ _ (both _ _ e).1 in
        let k = le_of _ _ f in
        left _ _ (right _ _ (join _ _ (of_le _ _ (omega arith)) (of_le _ _ (omega arith))))
    go h (inr e) f = right _ _ (h e)

-- a length that fits its room
abbrev Fitting : List Range → ℕ → Type 0
Fitting ls r = (n : ℕ) × T (in_set ls n) × T (room_fits n r)

has_possible : (ls : List Range) (r : ℕ) → T (some_possible ls r) → Fitting ls r
unfolding some_possible range_possible room_fits in_set within
has_possible [] r t = absurd t
has_possible (l ∷ ls) r t = go (has_possible ls r) (either _ _ t)
  where
    one : T (l.0 + 2 ≤? r and r ≤? l.1 + 2) ⊎ T (l.0 + 5 ≤? r and l.0 ≤? l.1) → Fitting (l ∷ ls) r
    one (inl e) =
        let a = le_of _ _ (both _ _ e).0 in
        let b = le_of _ _ (both _ _ e).1 in (
          r - 2,
          left _ _ (join _ _ (of_le _ _ (omega arith)) (of_le _ _ (omega arith))),
          left _ _
              (of_eq _ _ (omega arith)),
        )
    one (inr e) = let d = both _ _ e in (l.0, left _ _ (join _ _ (of_le _ _ (omega arith)) d.1), right _ _ d.0)

    go : (T (some_possible ls r) → Fitting ls r) → T (range_possible l r) ⊎ T (some_possible ls r) → Fitting (l ∷ ls) r
    go f (inl e) = one (either _ _ e)
    go f (inr e) = let d = f e in (d.0, right _ _ d.1, d.2)

-- what is possible in some room has a length at all
pub some_possible_lem : (ls : List Range) (r : ℕ) → T (some_possible ls r) → T (some_length ls)
unfolding some_possible range_possible some_length
some_possible_lem [] r t = absurd t
some_possible_lem (l ∷ ls) r t = go (some_possible_lem ls r) (either _ _ t)
  where
    one : T (l.0 + 2 ≤? r and r ≤? l.1 + 2) ⊎ T (l.0 + 5 ≤? r and l.0 ≤? l.1) → T (l.0 ≤? l.1)
    one (inl e) =
        let a = le_of _ _ (both _ _ e).0 in
        let b = le_of _ _ (both _ _ e).1 in
        of_le _ _ (omega arith)
    one (inr e) = (both _ _ e).1

    go : (T (some_possible ls r) → T (some_length ls)) → T (range_possible l r) ⊎ T (some_possible ls r) →
        T (l.0 ≤? l.1 or some_length ls)
    go f (inl e) = left _ _ (one (either _ _ e))
    go f (inr e) = right _ _ (f e)

-- so a type that can stand has a class which is never 10
pub stands_fault : (c : Class) (r : ℕ) → T (possible c r) → class_fault c ≡ 3
unfolding possible class_fault
stands_fault c r t = pick_yes _ _ _ (some_possible_lem (whole c).lengths r t)

-- what holds where the contents are through, and where they are not, holds at the stage of contents
pub at_contents : (P : Stage → Type 0) (c : Class) (n i m r : ℕ) → (i ≡ n → P (Header r)) →
    ((i ≡ n → ⊥) → P (Content c n i m r)) → P (contents c n i m r)
unfolding contents
at_contents P c n i m r f g = pick_case P _ _ _ (λ e. f (eq_of _ _ e)) (λ e. g (λ k. e (of_eq _ _ k)))

module _ (R : Rules) (S : SoundRules R) where
  -- ---- a parameter stands first
  first_go : (t r : ℕ) (b : List ℕ) (ps : List Parameter) → AllLegal R ps → body ps ≡ t ∷ b → suc (length b) ≡ r →
      FromLength R (class_of R t) r b
  unfolding body
  first_go t r b [] l e n = clash cc
  first_go t r b (q ∷ ps) l e n =
      let k : q.kind ≡ t = cc in
      record {
        v = q.contents;
        rest = body ps;
        room = length (body ps);
        tail = record { ps = ps; legal = l.1; is = refl; long = refl };
        fits = rw k at l.0.fits;
        is = cc;
        size = omega (arith, ap length e, length-append q.contents (body ps));
      }

  first : (t r : ℕ) (b : List ℕ) → Params R r (t ∷ b) → FromLength R (class_of R t) r b
  first t r b d = first_go t r b d.ps d.legal d.is d.long

  first_back : (t r : ℕ) (b : List ℕ) → t < 256 → FromLength R (class_of R t) r b → Params R r (t ∷ b)
  unfolding body
  first_back t r b o f =
      record {
        ps = (record { kind = t; contents = f.v }) ∷ f.tail.ps;
        legal = (record { octet = o; fits = f.fits }, f.tail.legal);
        is = ap (λ (l : List ℕ). t ∷ l) (ap (λ (l : List ℕ). length f.v ∷ f.v ++ l) f.tail.is ∙ f.is);
        long = omega (arith, ap length f.is, length-append f.v f.rest, f.tail.long, f.size);
      }

  room_go : (ps : List Parameter) → AllLegal R ps → Fillable (length (body ps))
  unfolding body
  room_go [] l = inl refl
  room_go (q ∷ ps) l =
      inr (omega (
        arith,
        length-append q.contents (body ps),
        (lawful (class_of R q.kind)).least _
            ((lawful (class_of R q.kind)).fit_length q.contents l.0.fits),
      ))

  room_of : (r : ℕ) (b : List ℕ) → Params R r b → Fillable r
  room_of r b d = rw (ap length d.is ∙ d.long) at (room_go d.ps d.legal)

  -- ---- contents, from an index on
  chunk_in : (c : Class) (n i m r : ℕ) (b : List ℕ) → Chunk R c n i m r b → Body R (contents c n i m r) b
  chunk_in c n i m r b d =
      at_contents (λ (s : Stage). Body R s b) c n i m r (λ e. none e d.v d.long d.is)
      (λ e. (omega (arith, e, d.long), d))
    where
      none : i ≡ n → (v : List ℕ) → i + length v ≡ n → v ++ d.rest ≡ b → Params R r b
      none e [] l k = rw k at d.tail
      none e (x ∷ v) l k = absurd (omega arith)

  chunk_out : (c : Class) (n i m r : ℕ) (b : List ℕ) → Body R (contents c n i m r) b → Chunk R c n i m r b
  unfolding passes
  chunk_out c n i m r b =
      at_contents (λ (s : Stage). Body R s b → Chunk R c n i m r b) c n i m r
      (λ e d. record { v = []; rest = b; long = omega arith; fits = tt; tail = d; is = refl })
      (λ e d. d.1)

  -- ---- an octet comes off
  off_length : (c : Class) (r x : ℕ) (b : List ℕ) → FromLength R c r (x ∷ b) →
      T (fits R (Length c r) x) × Body R (after R (Length c r) x) b
  unfolding fits after
  off_length c r x b f =
      let n : length f.v ≡ x = cc in
      let l : T (length_fits c x) = rw n at ((lawful c).fit_length f.v f.fits) in
      let q : f.room ≡ r - (x + 2) = omega (arith, f.size) in (
        join _ _ l (room_fits_lem x r f.room (omega (arith, f.size)) (room_of _ _ f.tail)),
        chunk_in c x 0 0 _ b (record {
          v = f.v;
          rest = f.rest;
          long = omega arith;
          fits = fit_passes (lawful c) x f.v n f.fits;
          tail = rw q at f.tail;
          is = cc;
        }),
      )

  off_content : (c : Class) (n i m r x : ℕ) (b : List ℕ) → i < n → Chunk R c n i m r (x ∷ b) →
      T (fits R (Content c n i m r) x) × Body R (after R (Content c n i m r) x) b
  unfolding fits after passes
  off_content c n i m r x b h d = go d.v d.long d.fits d.is
    where
      go : (v : List ℕ) → i + length v ≡ n → T (fits_from c n i m v) → v ++ d.rest ≡ x ∷ b →
          T (ok_at c n i m x) × Body R (contents c n (suc i) (remember c n i m x) r) b
      go [] l f e = absurd (omega arith)
      go (y ∷ v) l f e =
          let j : y ≡ x = cc in (
            rw j at (both _ _ f).0,
            chunk_in c n (suc i) (remember c n i m x) r b (record {
              v = v;
              rest = d.rest;
              long = omega arith;
              fits = rw j at (both _ _ f).1;
              tail = d.tail;
              is = cc;
            }),
          )

  pub forward : (s : Stage) (x : ℕ) (b : List ℕ) → Body R s (x ∷ b) → T (fits R s x) × Body R (after R s x) b
  unfolding fits after possible whole
  forward Kind x b d =
      let k : d.m.kind ≡ x = cc in (
        rw k at d.legal.kind,
        record {
          ps = d.m.parameters;
          legal = d.legal.parameters;
          long = d.legal.long;
          short = d.legal.short;
          is = cc;
        },
      )
  forward Size x b d =
      let k : length (body d.ps) ≡ x = cc in
      let e : body d.ps ≡ b = cc in
      (of_le _ _ (omega arith), record { ps = d.ps; legal = d.legal; is = e; long = rw e at k })
  forward (Header r) x b d = let f = first x r b d in (may_stand_lem f, f)
    where
      may_stand_lem : FromLength R (class_of R x) r b → T (some_possible (whole (class_of R x)).lengths r)
      may_stand_lem f =
          possible_has _ (length f.v) r ((lawful (class_of R x)).fit_length f.v f.fits)
          (room_fits_lem _ _ f.room f.size (room_of _ _ f.tail))
  forward (Length c r) x b d = off_length c r x b d
  forward (Content c n i m r) x b d = off_content c n i m r x b d.0 d.1

  -- ---- and may be put back
  pub backward : (s : Stage) (x : ℕ) (b b₀ : List ℕ) → (T (final s) → ⊥) → x < 256 → Body R s b₀ → T (fits R s x) →
      Body R (after R s x) b → Body R s (x ∷ b)
  unfolding fits after final passes
  backward Kind x b b₀ f o l k d =
      record {
        m = record { kind = x; parameters = d.ps };
        legal = record { kind = k; parameters = d.legal; long = d.long; short = d.short };
        is = cc;
      }
  backward Size x b b₀ f o l k d =
      let h = le_of _ _ k in
      let e : length (body d.ps) ≡ x = ap length d.is ∙ d.long in
      record { ps = d.ps; legal = d.legal; long = omega arith; short = omega arith; is = cc }
  backward (Header r) x b b₀ f o l k d = first_back x r b o d
  backward (Length c r) x b b₀ f o l k d =
      let e = chunk_out c x 0 0 _ b d in
      let q = fits_room x r (both _ _ k).1 in
      let n : length e.v ≡ x = omega (arith, e.long) in
      record {
        v = e.v;
        rest = e.rest;
        room = r - (x + 2);
        tail = e.tail;
        fits = passes_fit (lawful c) x e.v n (both _ _ k).0 e.fits;
        is = cc;
        size = omega arith;
      }
  backward (Content c n i m r) x b b₀ f o l j d =
      let e = chunk_out c n (suc i) (remember c n i m x) r b d in (
        l.0,
        record {
          v = x ∷ e.v;
          rest = e.rest;
          long = omega (arith, e.long);
          fits = join _ _ j e.fits;
          tail = e.tail;
          is = ap (λ (q : List ℕ). x ∷ q) e.is;
        },
      )

  -- ---- nothing more comes before the checksum, and only there
  pub nil_final : (s : Stage) → Body R s [] → T (final s)
  unfolding final
  nil_final Kind d = clash cc
  nil_final Size d = clash cc
  nil_final (Header r) d = of_eq _ _ (sym d.long)
  nil_final (Length c r) d = clash (cc d.is)
  nil_final (Content c n i m r) d =
      absurd (omega (arith, d.0, d.1.long, length-append d.1.v d.1.rest, ap length d.1.is))

  pub empty : (b : List ℕ) → length b ≡ 0 → b ≡ []
  empty [] e = refl
  empty (x ∷ b) e = absurd (omega arith)

  pub final_nil : (s : Stage) (b : List ℕ) → T (final s) → Body R s b → b ≡ []
  unfolding final
  final_nil Kind b f d = absurd f
  final_nil Size b f d = absurd f
  final_nil (Header r) b f d = empty b (d.long ∙ eq_of _ _ f)
  final_nil (Length c r) b f d = absurd f
  final_nil (Content c n i m r) b f d = absurd f

  -- ---- something can come after each octet that may come
  -- a parameter of any length of its class, before parameters
  put : (c : Class) (n room r : ℕ) → n + 2 + room ≡ r → T (length_fits c n) → Some R (Header room) → Some R (Length c r)
  put c n room r e l s =
      let v = begin (lawful c) n n in (
        length v.0 ∷ v.0 ++ s.0,
        record {
          v = v.0;
          rest = s.0;
          room = room;
          tail = s.1;
          fits = passes_fit (lawful c) n v.0 v.1 l v.2;
          is = refl;
          size = omega (arith, v.1);
        },
      )

  caller : (n room r : ℕ) → n + 2 + room ≡ r → 1 ≤ n → n ≤ 3 → Some R (Header room) → Some R (Header r)
  caller n room r e l m s =
      let d = put (class_of R 0x02) n room r e (small R S n l m) s in
      (0x02 ∷ d.0, first_back 0x02 r d.0 (omega arith) d.1)

  nothing : Some R (Header 0)
  unfolding body
  nothing = ([], record { ps = []; legal = tt; is = refl; long = refl })

  never : (r : ℕ) → 0 < r → r < 3 → Fillable r → ⊥
  never r a b (inl e) = omega arith
  never r a b (inr e) = omega arith

  filler : (r : ℕ) → Fillable r → Some R (Header r)
  filler zero f = nothing
  filler (suc zero) f = absurd (never 1 (omega arith) (omega arith) f)
  filler (suc (suc zero)) f = absurd (never 2 (omega arith) (omega arith) f)
  filler (suc (suc (suc zero))) f = caller 1 0 3 (omega arith) (omega arith) (omega arith) nothing
  filler (suc (suc (suc (suc zero)))) f = caller 2 0 4 (omega arith) (omega arith) (omega arith) nothing
  filler (suc (suc (suc (suc (suc zero))))) f = caller 3 0 5 (omega arith) (omega arith) (omega arith) nothing
  filler (suc (suc (suc (suc (suc (suc r)))))) f =
      caller 1 (suc (suc (suc r))) _ (omega arith) (omega arith) (omega arith)
      (filler (suc (suc (suc r))) (inr (omega arith)))

  least_body : (d : Some R (Header 3)) → length (body d.1.ps) ≡ 3
  least_body d = ap length d.1.is ∙ d.1.long

  pub lives : (s : Stage) (x : ℕ) → (T (final s) → ⊥) → x < 256 → Some R s → T (fits R s x) → Some R (after R s x)
  unfolding fits after final possible whole
  lives Kind x f o l k =
      let d = filler 3 (inr (omega arith)) in
      let e = least_body d in
      (_, record { ps = d.1.ps; legal = d.1.legal; long = omega arith; short = omega arith; is = refl })
  lives Size x f o l k = filler x (inr (le_of _ _ k))
  lives (Header r) x f o l k = go (has_possible _ r k)
    where
      go : Fitting (whole (class_of R x)).lengths r → Some R (Length (class_of R x) r)
      go n = let e = fits_room n.0 r n.2 in put (class_of R x) n.0 _ r e.0 n.1 (filler _ e.1)
  lives (Length c r) x f o l k =
      let v = begin (lawful c) x x in
      let d = filler (r - (x + 2)) (fits_room x r (both _ _ k).1).1 in (
        v.0 ++ d.0,
        chunk_in c x 0 0 _ _
            (record { v = v.0; rest = d.0; long = omega (arith, v.1); fits = v.2; tail = d.1; is = refl }),
      )
  lives (Content c n i m r) x f o l j =
      let v = proceed (lawful c) n i m x (n - suc i) j in (
        v.0 ++ l.1.1.rest,
        chunk_in c n (suc i) _ r _
            (record {
              v = v.0;
              rest = l.1.1.rest;
              long = omega (arith, v.1, l.1.0);
              fits = v.2;
              tail = l.1.1.tail;
              is = refl;
            }),
      )

  -- there is a message
  pub some_message : Some R Kind
  unfolding message_kind ◌or◌ ◌=?◌
  some_message =
      let d = filler 3 (inr (omega arith)) in
      let e = least_body d in (
        _,
        record {
          m = record { kind = 0x80; parameters = d.1.ps };
          legal = record { kind = tt; parameters = d.1.legal; long = omega arith; short = omega arith };
          is = refl;
        },
      )
