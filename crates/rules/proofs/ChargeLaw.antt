-- A charge (document 02, Q-4; source 004, 5.4.18) is a lawful class. From the flags on, what is remembered tells which
-- of the four forms the ten octets have; octet by octet they pass exactly where they have that form.
-- Assumes nothing.
use Prim.Native.Nat.{ℕ, zero, suc, ◌+◌, ◌≤◌, ◌<◌}
use mathlib.Core.Path.{◌≡◌, refl, sym, ◌∙◌, ap, subst}
use mathlib.Core.Bool.{Bool, true, false}
use mathlib.Core.Logic.{◌⊎◌, inl, inr}
use mathlib.Core.List.{List, [], ◌∷◌}
use native.Mathlib.Omega.{arith}
use lib.ListN.{length}
use lib.Dec.{T}
use Rattle.rules.specs.Tests.{◌≤?◌, ◌=?◌, ◌and◌, ◌or◌, pick}
use Rattle.rules.proofs.Tests.{pick_yes, pick_not, pick_case, both, join, right, le_of, of_le, eq_of, decide}
use Rattle.rules.proofs.Returns.{same_truth}
use Rattle.rules.specs.Contents.{within, in_set, digit, letter, only}
use Rattle.rules.specs.ContentJudge.{passes, charge_judge}
use Rattle.rules.specs.Charge.{dash, comma, missing, units, run, amount, after, costs, charge_fits, amount_by, amount_keep, currency_by, flags_at, flags_keep, charge_by, charge_keep}
use Rattle.rules.proofs.ClassLaw.{Lawful}
use Rattle.rules.proofs.BuilderLaw.{only_is, is_only, digit_octet, some_octet, zero_digit}

abbrev amount_at : ℕ → ℕ → ℕ → Bool
amount_at m k x = amount_by (digit x) m k x

abbrev currency_at : ℕ → ℕ → Bool
currency_at m x = currency_by (letter x) m x

abbrev charge_at : ℕ → ℕ → ℕ → Bool
charge_at i m x = charge_by (digit x) (letter x) i m x

-- ---- lengths
run_long : (p : ℕ → Bool) (k : ℕ) (v : List ℕ) → T (run p k v) → length v ≡ k
unfolding run
run_long p zero [] t = refl
run_long p zero (x ∷ v) t = absurd t
run_long p (suc k) [] t = absurd t
run_long p (suc k) (x ∷ v) t = ap suc (run_long p k v (both _ _ t).1)

amount_long : (k : ℕ) (v : List ℕ) → T (amount k v) → length v ≡ k
unfolding amount
amount_long zero [] t = refl
amount_long zero (x ∷ v) t = absurd t
amount_long (suc k) [] t = absurd t
amount_long (suc k) (x ∷ v) t =
    ap suc (pick_case (λ (b : Bool). T b → length v ≡ k) _ _ _ (λ _ u. run_long digit k v u)
    (λ _ u. amount_long k v (both _ _ u).1) t)

after_long : (k j : ℕ) (p : List ℕ → Bool) → ((v : List ℕ) → T (p v) → length v ≡ j) → (v : List ℕ) →
    T (after k p v) → length v ≡ k + j
unfolding after
after_long zero j p f v t = omega (arith, f v t)
after_long (suc k) j p f [] t = absurd t
after_long (suc k) j p f (x ∷ v) t = omega (arith, after_long k j p f v (both _ _ t).1)

costs_long : (b : Bool) (f : ℕ) (v : List ℕ) → T (costs b f v) → length v ≡ 10
unfolding costs pick
costs_long b f v t = by b (missing f) (units f) t
  where
    by : (b m u : Bool) → T (pick b (pick m false (pick u (after 5 (amount 5) v) (amount 10 v)))
        (pick m (run dash 10 v) (pick u (after 5 (run dash 5) v) false))) → length v ≡ 10
    by true true u t = absurd t
    by true false true t = after_long 5 5 (amount 5) (amount_long 5) v t
    by true false false t = amount_long 10 v t
    by false true u t = run_long dash 10 v t
    by false false true t = after_long 5 5 (run dash 5) (run_long dash 5) v t
    by false false false t = absurd t

-- ---- the ten octets of amount, units and price
-- the ten octets from octet k of them on, where m is remembered
unfoldable goes : ℕ → ℕ → ℕ → List ℕ → Bool
goes n k m v = passes charge_judge n (suc (suc (suc (suc k)))) m v

one_on : (n k m x : ℕ) (v : List ℕ) → k ≤ 9 →
    goes n k m (x ∷ v) ≡ (amount_at m k x and goes n (suc k) (amount_keep m x) v)
unfolding goes passes charge_by charge_keep
one_on n k m x v h =
    let rest = passes charge_judge n (suc (suc (suc (suc (suc k))))) in
    ap (λ (b : Bool). b and rest (pick (k ≤? 9) (amount_keep m x) 0) v)
    (pick_yes (k ≤? 9) (amount_at m k x) _ (of_le _ _ h))
    ∙ ap (λ (a : ℕ). amount_at m k x and rest a v) (pick_yes (k ≤? 9) (amount_keep m x) 0 (of_le _ _ h))

-- a mode in which every octet passes one test and the mode stays
steady : (p : ℕ → Bool) (m n k l : ℕ) (v : List ℕ) → ((i x : ℕ) → k ≤ i → amount_at m i x ≡ p x) →
    ((x : ℕ) → amount_keep m x ≡ m) → k + l ≡ 10 → length v ≡ l → goes n k m v ≡ run p l v
unfolding run goes passes
steady p m n k zero [] a q e h = refl
steady p m n k zero (x ∷ v) a q e h = absurd (omega arith)
steady p m n k (suc l) [] a q e h = absurd (omega arith)
steady p m n k (suc l) (x ∷ v) a q e h =
    one_on n k m x v (omega arith)
    ∙ ap (λ (b : Bool). b and goes n (suc k) (amount_keep m x) v) (a k x (omega arith))
    ∙ ap (λ (c : ℕ). p x and goes n (suc k) c v) (q x)
    ∙ ap (λ (b : Bool). p x and b)
    (steady p m n (suc k) l v (λ i y z. a i y (omega arith)) q (omega arith) (omega arith))

-- digits of which one may be a comma: mode m before it, mode m' after it
spent : (m m' n k l : ℕ) (v : List ℕ) → ((i x : ℕ) → k ≤ i → amount_at m i x ≡ (comma x or digit x)) →
    ((x : ℕ) → amount_keep m x ≡ pick (comma x) m' m) → ((i x : ℕ) → amount_at m' i x ≡ digit x) →
    ((x : ℕ) → amount_keep m' x ≡ m') → k + l ≡ 10 → length v ≡ l → goes n k m v ≡ amount l v
unfolding amount goes passes pick ◌or◌ ◌and◌
spent m m' n k zero [] a q a' q' e h = refl
spent m m' n k zero (x ∷ v) a q a' q' e h = absurd (omega arith)
spent m m' n k (suc l) [] a q a' q' e h = absurd (omega arith)
spent m m' n k (suc l) (x ∷ v) a q a' q' e h =
    one_on n k m x v (omega arith)
    ∙ ap (λ (b : Bool). b and goes n (suc k) (amount_keep m x) v) (a k x (omega arith))
    ∙ ap (λ (c : ℕ). (comma x or digit x) and goes n (suc k) c v) (q x)
    ∙ go (spent m m' n (suc k) l v (λ i y z. a i y (omega arith)) q a' q' (omega arith) (omega arith)) (comma x)
  where
    go : goes n (suc k) m v ≡ amount l v → (b : Bool) →
        ((b or digit x) and goes n (suc k) (pick b m' m) v) ≡ pick b (run digit l v) (digit x and amount l v)
    go ih true = steady digit m' n (suc k) l v (λ i y _. a' i y) q' (omega arith) (omega arith)
    go ih false = ap (λ (b : Bool). digit x and b) ih

digit_no_comma : (x : ℕ) → T (digit x) → T (comma x) → ⊥
unfolding digit comma within
digit_no_comma x t u = omega (arith, le_of _ _ (both _ _ t).0, eq_of _ _ u)

-- the units, and then the price or dashes
counting : (m : ℕ) (p : List ℕ → Bool) (n k u : ℕ) (v : List ℕ) → ((i x : ℕ) → i ≤ 4 → amount_at m i x ≡ digit x) →
    ((x : ℕ) → T (digit x) → amount_keep m x ≡ m) → ((w : List ℕ) → length w ≡ 5 → goes n 5 m w ≡ p w) → k + u ≡ 5 →
    length v ≡ u + 5 → goes n k m v ≡ after u p v
unfolding after
counting m p n k zero v a q f e h = let z : k ≡ 5 = omega arith in rw z (f v (omega arith))
counting m p n k (suc u) [] a q f e h = absurd (omega arith)
counting m p n k (suc u) (x ∷ v) a q f e h =
    one_on n k m x v (omega arith)
    ∙ ap (λ (b : Bool). b and goes n (suc k) (amount_keep m x) v) (a k x (omega arith))
    ∙ go (counting m p n (suc k) u v a q f (omega arith) (omega arith)) (decide (digit x))
  where
    go : goes n (suc k) m v ≡ after u p v → T (digit x) ⊎ (T (digit x) → ⊥) →
        (digit x and goes n (suc k) (amount_keep m x) v) ≡ (digit x and after u p v)
    go ih (inl t) = ap (λ (c : ℕ). digit x and goes n (suc k) c v) (q x t) ∙ ap (λ (b : Bool). digit x and b) ih
    go ih (inr t) = same_truth _ _ (λ z. absurd (t (both _ _ z).0)) (λ z. absurd (t (both _ _ z).0))

module _ (n : ℕ) (v : List ℕ) (h : length v ≡ 10) where
  cost : goes n 0 0 v ≡ amount 10 v
  unfolding amount_by amount_keep
  cost = spent 0 1 n 0 10 v (λ i x _. refl) (λ x. refl) (λ i x. refl) (λ x. refl) refl h

  priced : goes n 0 2 v ≡ after 5 (amount 5) v
  unfolding amount_by amount_keep
  priced =
      counting 2 (amount 5) n 0 5 v (λ i x l. pick_yes _ _ _ (of_le _ _ l))
      (λ x t. pick_not _ _ _ (digit_no_comma x t))
      (λ w l. spent 2 3 n 5 5 w (λ i x g. pick_not _ _ _ (λ z. omega (arith, le_of _ _ z))) (λ x. refl)
      (λ i x. refl) (λ x. refl) refl l) refl h

  alone : goes n 0 4 v ≡ after 5 (run dash 5) v
  unfolding amount_by amount_keep
  alone =
      counting 4 (run dash 5) n 0 5 v (λ i x l. pick_yes _ _ _ (of_le _ _ l)) (λ x t. refl)
      (λ w l. steady dash 4 n 5 5 w (λ i x g. pick_not _ _ _ (λ z. omega (arith, le_of _ _ z))) (λ x. refl) refl l)
      refl h

  nothing : goes n 0 5 v ≡ run dash 10 v
  unfolding amount_by amount_keep
  nothing = steady dash 5 n 0 10 v (λ i x _. refl) (λ x. refl) refl h

  -- from the flags on
  flagged : (m f : ℕ) → m ≤ 1 → (flags_at m f and goes n 0 (flags_keep m f) v) ≡ costs (m =? 0) f v
  unfolding flags_at flags_keep costs ◌=?◌ pick ◌and◌ ◌or◌
  flagged zero f l = by (missing f) (units f)
    where
      by : (a b : Bool) → (pick a false true and goes n 0 (pick a 5 (pick b 2 0)) v) ≡
          pick a false (pick b (after 5 (amount 5) v) (amount 10 v))
      by true b = refl
      by false true = priced
      by false false = cost
  flagged (suc zero) f l = by (missing f) (units f)
    where
      by : (a b : Bool) → ((a or b) and goes n 0 (pick a 5 (pick b 4 0)) v) ≡
          pick a (run dash 10 v) (pick b (after 5 (run dash 5) v) false)
      by true b = nothing
      by false true = alone
      by false false = refl
  flagged (suc (suc m)) f l = absurd (omega arith)

-- ---- the law
-- behind the first octet, of letters or of dashes
behind : (n m b c f : ℕ) (v : List ℕ) → length v ≡ 10 → m ≤ 1 → passes charge_judge n 1 m (b ∷ c ∷ f ∷ v) ≡
    (currency_at m b and (currency_at m c and (f ≤? 255 and costs (m =? 0) f v)))
unfolding passes charge_by charge_keep goes
behind n m b c f v h l =
    ap (λ (q : Bool). currency_at m b and (currency_at m c and q))
    (inner (f ≤? 255) (flags_at m f) _ ∙ ap (λ (q : Bool). f ≤? 255 and q) (flagged n v h m f l))
  where
    inner : (p q r : Bool) → ((p and q) and r) ≡ (p and (q and r))
    inner p q r = same_truth _ _
        (λ t. let d = both _ _ (both _ _ t).0 in join _ _ d.0 (join _ _ d.1 (both _ _ t).1))
        (λ t. let d = both _ _ (both _ _ t).1 in join _ _ (join _ _ (both _ _ t).0 d.0) d.1)

-- the flags are an octet, wherever that is asked
outer : (a b q r : Bool) → (a and (b and (q and r))) ≡ (q and (a and (b and r)))
unfolding ◌and◌
outer true true q r = refl
outer true false true r = refl
outer true false false r = refl
outer false b true r = refl
outer false b false r = refl

head : (n a b c f : ℕ) (v : List ℕ) → length v ≡ 10 →
    passes charge_judge n 0 0 (a ∷ b ∷ c ∷ f ∷ v) ≡ charge_fits (a ∷ b ∷ c ∷ f ∷ v)
unfolding passes charge_by charge_keep charge_fits currency_by pick ◌and◌ ◌or◌ ◌=?◌
head n a b c f v h = by (dash a) (letter a)
  where
    none : (q : Bool) → false ≡ (q and false)
    none true = refl
    none false = refl

    by : (d l : Bool) → ((d or l) and passes charge_judge n 1 (pick d 1 0) (b ∷ c ∷ f ∷ v)) ≡
        (f ≤? 255 and pick d (dash b and (dash c and costs false f v))
        (l and (letter b and (letter c and costs true f v))))
    by true l = behind n 1 b c f v h (omega arith) ∙ outer (dash b) (dash c) (f ≤? 255) _
    by false true = behind n 0 b c f v h (omega arith) ∙ outer (letter b) (letter c) (f ≤? 255) _
    by false false = none (f ≤? 255)

long : (v : List ℕ) → T (charge_fits v) → length v ≡ 14
unfolding charge_fits
long [] t = absurd t
long (a ∷ []) t = absurd t
long (a ∷ b ∷ []) t = absurd t
long (a ∷ b ∷ c ∷ []) t = absurd t
long (a ∷ b ∷ c ∷ f ∷ v) t =
    let e : length v ≡ 10 = pick_case (λ (q : Bool). T q → length v ≡ 10) (dash a) _ _
    (λ _ u. costs_long false f v (both _ _ (both _ _ u).1).1)
    (λ _ u. costs_long true f v (both _ _ (both _ _ (both _ _ u).1).1).1) (both _ _ t).1 in
    omega arith

fit_from : (v : List ℕ) → T (charge_fits v) → T (passes charge_judge (length v) 0 0 v)
fit_from [] t = absurd (omega (arith, long [] t))
fit_from (a ∷ []) t = absurd (omega (arith, long (a ∷ []) t))
fit_from (a ∷ b ∷ []) t = absurd (omega (arith, long (a ∷ b ∷ []) t))
fit_from (a ∷ b ∷ c ∷ []) t = absurd (omega (arith, long (a ∷ b ∷ c ∷ []) t))
fit_from (a ∷ b ∷ c ∷ f ∷ v) t = subst T (sym (head _ a b c f v (omega (arith, long (a ∷ b ∷ c ∷ f ∷ v) t)))) t

from_fit : (v : List ℕ) → T (in_set (only 14) (length v)) → T (passes charge_judge (length v) 0 0 v) → T (charge_fits v)
from_fit [] l t = absurd (omega (arith, only_is _ _ l))
from_fit (a ∷ []) l t = absurd (omega (arith, only_is _ _ l))
from_fit (a ∷ b ∷ []) l t = absurd (omega (arith, only_is _ _ l))
from_fit (a ∷ b ∷ c ∷ []) l t = absurd (omega (arith, only_is _ _ l))
from_fit (a ∷ b ∷ c ∷ f ∷ v) l t = subst T (head _ a b c f v (omega (arith, only_is _ _ l))) t

-- ---- some octet can always follow
abbrev Mem : ℕ → ℕ → Type 0
Mem zero m = Unit {0}
Mem (suc zero) m = m ≤ 1
Mem (suc (suc zero)) m = m ≤ 1
Mem (suc (suc (suc zero))) m = m ≤ 1
Mem (suc (suc (suc (suc k)))) m = k ≤ 9 → m ≤ 5

known_currency : (m x : ℕ) → T (currency_at m x) → m ≤ 1
unfolding currency_by
known_currency zero x t = omega arith
known_currency (suc zero) x t = omega arith
known_currency (suc (suc m)) x t = absurd t

flags_known : (m x : ℕ) → flags_keep m x ≤ 5
unfolding flags_keep pick
flags_known m x = by (missing x) (units x) (m =? 0)
  where
    by : (a b z : Bool) → pick a 5 (pick b (pick z 2 4) 0) ≤ 5
    by true b z = omega arith
    by false true true = omega arith
    by false true false = omega arith
    by false false z = omega arith

amount_known : (m k x : ℕ) → T (amount_at m k x) → amount_keep m x ≤ 5
unfolding amount_by amount_keep
amount_known zero k x t = pick_case (λ (q : ℕ). q ≤ 5) (comma x) _ _ (λ _. omega arith) (λ _. omega arith)
amount_known (suc zero) k x t = omega arith
amount_known (suc (suc zero)) k x t = pick_case (λ (q : ℕ). q ≤ 5) (comma x) _ _ (λ _. omega arith) (λ _. omega arith)
amount_known (suc (suc (suc zero))) k x t = omega arith
amount_known (suc (suc (suc (suc zero)))) k x t = omega arith
amount_known (suc (suc (suc (suc (suc zero))))) k x t = omega arith
amount_known (suc (suc (suc (suc (suc (suc m)))))) k x t = absurd t

push : (i m x : ℕ) → T (charge_at i m x) → Mem (suc i) (charge_keep i m x)
unfolding charge_by charge_keep
push zero m x t = pick_case (λ (q : ℕ). q ≤ 1) (dash x) _ _ (λ _. omega arith) (λ _. omega arith)
push (suc zero) m x t = known_currency m x t
push (suc (suc zero)) m x t = known_currency m x t
push (suc (suc (suc zero))) m x t = λ _. flags_known m x
push (suc (suc (suc (suc k)))) m x t =
    λ h. subst (λ (q : ℕ). q ≤ 5) (sym (pick_yes (k ≤? 9) (amount_keep m x) 0 (of_le _ _ (omega arith))))
    (amount_known m k x (subst T (pick_yes (k ≤? 9) _ _ (of_le _ _ (omega arith))) t))

amount_next : (m k : ℕ) → m ≤ 5 → (x : ℕ) × T (amount_at m k x)
unfolding amount_by dash ◌=?◌
amount_next zero k l = (0x30, right _ _ zero_digit)
amount_next (suc zero) k l = (0x30, zero_digit)
amount_next (suc (suc zero)) k l = (0x30, pick_case T (k ≤? 4) _ _ (λ _. zero_digit) (λ _. right _ _ zero_digit))
amount_next (suc (suc (suc zero))) k l = (0x30, zero_digit)
amount_next (suc (suc (suc (suc zero)))) k l = go (decide (k ≤? 4))
  where
    go : T (k ≤? 4) ⊎ (T (k ≤? 4) → ⊥) → (x : ℕ) × T (pick (k ≤? 4) (digit x) (dash x))
    go (inl t) = (0x30, subst T (sym (pick_yes (k ≤? 4) _ _ t)) zero_digit)
    go (inr t) = (0x2D, subst T (sym (pick_not (k ≤? 4) (digit 0x2D) (dash 0x2D) t)) tt)
amount_next (suc (suc (suc (suc (suc zero))))) k l = (0x2D, tt)
amount_next (suc (suc (suc (suc (suc (suc m)))))) k l = absurd (omega arith)

currency_next : (m : ℕ) → m ≤ 1 → (x : ℕ) × T (currency_at m x)
unfolding currency_by dash within ◌≤?◌ ◌and◌ ◌=?◌
currency_next zero l = (0x41, tt)
currency_next (suc zero) l = (0x2D, tt)
currency_next (suc (suc m)) l = absurd (omega arith)

flags_next : (m : ℕ) → m ≤ 1 → (x : ℕ) × T (x ≤? 255 and flags_at m x)
unfolding flags_at missing units ◌≤?◌ ◌and◌ ◌or◌ ◌=?◌ pick
flags_next zero l = (0, tt)
flags_next (suc zero) l = (8, tt)
flags_next (suc (suc m)) l = absurd (omega arith)

next : (i m : ℕ) → Mem i m → (x : ℕ) × T (charge_at i m x)
unfolding charge_by dash ◌=?◌ ◌or◌
next zero m o = (0x2D, tt)
next (suc zero) m o = currency_next m o
next (suc (suc zero)) m o = currency_next m o
next (suc (suc (suc zero))) m o = flags_next m o
next (suc (suc (suc (suc k)))) m o = go (decide (k ≤? 9))
  where
    go : T (k ≤? 9) ⊎ (T (k ≤? 9) → ⊥) → (x : ℕ) × T (pick (k ≤? 9) (amount_at m k x) (x ≤? 255))
    go (inl t) = let d = amount_next m k (o (le_of _ _ t)) in (d.0, subst T (sym (pick_yes (k ≤? 9) _ _ t)) d.1)
    go (inr t) = (0, subst T (sym (pick_not (k ≤? 9) (amount_at m k 0) (0 ≤? 255) t)) (of_le _ _ (omega arith)))

-- ---- octets
dash_octet : (x : ℕ) → T (dash x) → x < 256
unfolding dash
dash_octet x t = omega (arith, eq_of _ _ t)

letter_octet : (x : ℕ) → T (letter x) → x < 256
unfolding within
letter_octet x t = omega (arith, le_of _ _ (both _ _ t).1)

comma_octet : (x : ℕ) → T (comma x) → x < 256
unfolding comma
comma_octet x t = omega (arith, eq_of _ _ t)

amount_octet : (m k x : ℕ) → T (amount_at m k x) → x < 256
unfolding amount_by
amount_octet zero k x t = some_octet _ _ x (comma_octet x) (digit_octet x) t
amount_octet (suc zero) k x t = digit_octet x t
amount_octet (suc (suc zero)) k x t =
    pick_case (λ (q : Bool). T q → x < 256) (k ≤? 4) _ _ (λ _ u. digit_octet x u)
    (λ _ u. some_octet _ _ x (comma_octet x) (digit_octet x) u) t
amount_octet (suc (suc (suc zero))) k x t = digit_octet x t
amount_octet (suc (suc (suc (suc zero)))) k x t =
    pick_case (λ (q : Bool). T q → x < 256) (k ≤? 4) _ _ (λ _ u. digit_octet x u) (λ _ u. dash_octet x u) t
amount_octet (suc (suc (suc (suc (suc zero))))) k x t = dash_octet x t
amount_octet (suc (suc (suc (suc (suc (suc m)))))) k x t = absurd t

currency_octet : (m x : ℕ) → T (currency_at m x) → x < 256
unfolding currency_by
currency_octet zero x t = letter_octet x t
currency_octet (suc zero) x t = dash_octet x t
currency_octet (suc (suc m)) x t = absurd t

octet : (i m x : ℕ) → T (charge_at i m x) → x < 256
unfolding charge_by
octet zero m x t = some_octet _ _ x (dash_octet x) (letter_octet x) t
octet (suc zero) m x t = currency_octet m x t
octet (suc (suc zero)) m x t = currency_octet m x t
octet (suc (suc (suc zero))) m x t = omega (arith, le_of _ _ (both _ _ t).0)
octet (suc (suc (suc (suc k)))) m x t =
    pick_case (λ (q : Bool). T q → x < 256) (k ≤? 9) _ _ (λ _ u. amount_octet m k x u)
    (λ _ u. omega (arith, le_of _ _ u)) t

pub charge_lawful : Lawful (record { lengths = only 14; fits = charge_fits }) charge_judge
charge_lawful = record {
  Mem = λ n i m. Mem i m;
  start = λ n. tt;
  push = λ n i m x t. push i m x t;
  next = λ n i m o. next i m o;
  octet = λ n i m x t. octet i m x t;
  least = λ n t. omega (arith, only_is _ _ t);
  most = λ n t. omega (arith, only_is _ _ t);
  fit_length = λ v t. is_only _ _ (long v t);
  fit_from = fit_from;
  from_fit = from_fit;
}
