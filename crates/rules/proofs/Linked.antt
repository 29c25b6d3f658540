-- Charges, terminals and extensions at an index, as the code judges them (document 02, Q-4): one law for each of its
-- tests of the index.
-- Assumes nothing.
use mathlib.Core.Path.{◌≡◌, refl, sym, ◌∙◌}
use mathlib.Core.Bool.{Bool, true, false, not}
use Prim.Native.Nat.{ℕ, zero, suc, ◌-◌, ◌≤◌, ◌<◌}
use native.Mathlib.Omega.{arith}
use Rattle.rules.specs.Tests.{◌≤?◌, ◌=?◌, pick}
use Rattle.rules.proofs.Tests.{le_of, of_le, pick_yes, pick_not}
use Rattle.rules.proofs.Returns.{yes_le}
use Rattle.rules.specs.Charge.{amount_by, amount_keep, currency_by, flags_at, charge_by, charge_keep}
use Rattle.rules.specs.Terminal.{terminal_by, terminal_keep}
use Rattle.rules.specs.Extension.{extension_by, extension_keep}

module _ (d l : Bool) where
  pub charge_currency : (i m x : ℕ) → (i ≡ 0 → ⊥) → i < 3 → currency_by l m x ≡ charge_by d l i m x
  unfolding charge_by
  charge_currency zero m x z h = absurd (z refl)
  charge_currency (suc zero) m x z h = refl
  charge_currency (suc (suc zero)) m x z h = refl
  charge_currency (suc (suc (suc i))) m x z h = absurd (omega arith)

  pub charge_amount : (i m x : ℕ) → 4 ≤ i → i < 14 → amount_by d m (i - 4) x ≡ charge_by d l i m x
  unfolding charge_by
  charge_amount zero m x g h = absurd (omega arith)
  charge_amount (suc zero) m x g h = absurd (omega arith)
  charge_amount (suc (suc zero)) m x g h = absurd (omega arith)
  charge_amount (suc (suc (suc zero))) m x g h = absurd (omega arith)
  charge_amount (suc (suc (suc (suc k)))) m x g h =
      let e : suc (suc (suc (suc k))) - 4 ≡ k = omega arith in
      rw e (sym (pick_yes (k ≤? 9) (amount_by d m k x) (x ≤? 255) (of_le _ _ (omega arith))))

  pub charge_past : (i m x : ℕ) → 14 ≤ i → x < 256 → true ≡ charge_by d l i m x
  unfolding charge_by
  charge_past zero m x g h = absurd (omega arith)
  charge_past (suc zero) m x g h = absurd (omega arith)
  charge_past (suc (suc zero)) m x g h = absurd (omega arith)
  charge_past (suc (suc (suc zero))) m x g h = absurd (omega arith)
  charge_past (suc (suc (suc (suc k)))) m x g h =
      sym (pick_not (k ≤? 9) (amount_by d m k x) (x ≤? 255) (λ t. omega (arith, le_of _ _ t))
      ∙ yes_le x 255 (omega arith))

  pub extension_text : (i m x : ℕ) → 3 ≤ i → i < 10 → l ≡ extension_by d l i m x
  unfolding extension_by
  extension_text zero m x g h = absurd (omega arith)
  extension_text (suc zero) m x g h = absurd (omega arith)
  extension_text (suc (suc zero)) m x g h = absurd (omega arith)
  extension_text (suc (suc (suc k))) m x g h = sym (pick_yes (k ≤? 6) l (x ≤? 255) (of_le _ _ (omega arith)))

  pub extension_past : (i m x : ℕ) → 10 ≤ i → x < 256 → true ≡ extension_by d l i m x
  unfolding extension_by
  extension_past zero m x g h = absurd (omega arith)
  extension_past (suc zero) m x g h = absurd (omega arith)
  extension_past (suc (suc zero)) m x g h = absurd (omega arith)
  extension_past (suc (suc (suc k))) m x g h =
      sym (pick_not (k ≤? 6) l (x ≤? 255) (λ t. omega (arith, le_of _ _ t)) ∙ yes_le x 255 (omega arith))

-- nothing else is remembered of an amount, a currency or flags
pub amount_none : (d : Bool) (m k x : ℕ) → (m ≡ 0 → ⊥) → (m ≡ 1 → ⊥) → (m ≡ 2 → ⊥) → (m ≡ 3 → ⊥) → (m ≡ 4 → ⊥) →
    (m ≡ 5 → ⊥) → false ≡ amount_by d m k x
unfolding amount_by
amount_none d zero k x p q r s t u = absurd (p refl)
amount_none d (suc zero) k x p q r s t u = absurd (q refl)
amount_none d (suc (suc zero)) k x p q r s t u = absurd (r refl)
amount_none d (suc (suc (suc zero))) k x p q r s t u = absurd (s refl)
amount_none d (suc (suc (suc (suc zero)))) k x p q r s t u = absurd (t refl)
amount_none d (suc (suc (suc (suc (suc zero))))) k x p q r s t u = absurd (u refl)
amount_none d (suc (suc (suc (suc (suc (suc m)))))) k x p q r s t u = refl

pub currency_none : (l : Bool) (m x : ℕ) → 2 ≤ m → false ≡ currency_by l m x
unfolding currency_by
currency_none l zero x h = absurd (omega arith)
currency_none l (suc zero) x h = absurd (omega arith)
currency_none l (suc (suc m)) x h = refl

pub flags_none : (m x : ℕ) → 2 ≤ m → false ≡ flags_at m x
unfolding flags_at
flags_none zero x h = absurd (omega arith)
flags_none (suc zero) x h = absurd (omega arith)
flags_none (suc (suc m)) x h = refl

-- flags that a test refuses
pub not_told : (r b : Bool) → r ≡ b → not r ≡ pick b false true
unfolding pick
not_told r true e = rw e
not_told r false e = rw e

-- ---- what is remembered
pub amount_stays : (m x : ℕ) → (m ≡ 0 → ⊥) → (m ≡ 2 → ⊥) → m ≡ amount_keep m x
unfolding amount_keep
amount_stays zero x p q = absurd (p refl)
amount_stays (suc zero) x p q = refl
amount_stays (suc (suc zero)) x p q = absurd (q refl)
amount_stays (suc (suc (suc m))) x p q = refl

pub kept_currency : (i m x : ℕ) → (i ≡ 0 → ⊥) → i < 3 → m ≡ charge_keep i m x
unfolding charge_keep
kept_currency zero m x z h = absurd (z refl)
kept_currency (suc zero) m x z h = refl
kept_currency (suc (suc zero)) m x z h = refl
kept_currency (suc (suc (suc i))) m x z h = absurd (omega arith)

pub kept_amount : (i m x : ℕ) → 4 ≤ i → i < 14 → amount_keep m x ≡ charge_keep i m x
unfolding charge_keep
kept_amount zero m x g h = absurd (omega arith)
kept_amount (suc zero) m x g h = absurd (omega arith)
kept_amount (suc (suc zero)) m x g h = absurd (omega arith)
kept_amount (suc (suc (suc zero))) m x g h = absurd (omega arith)
kept_amount (suc (suc (suc (suc k)))) m x g h =
    sym (pick_yes (k ≤? 9) (amount_keep m x) 0 (of_le _ _ (omega arith)))

pub kept_past : (i m x : ℕ) → 14 ≤ i → 0 ≡ charge_keep i m x
unfolding charge_keep
kept_past zero m x g = absurd (omega arith)
kept_past (suc zero) m x g = absurd (omega arith)
kept_past (suc (suc zero)) m x g = absurd (omega arith)
kept_past (suc (suc (suc zero))) m x g = absurd (omega arith)
kept_past (suc (suc (suc (suc k)))) m x g =
    sym (pick_not (k ≤? 9) (amount_keep m x) 0 (λ t. omega (arith, le_of _ _ t)))

pub behind_selector : (d : Bool) (n i m x : ℕ) → (i ≡ 0 → ⊥) → pick (m =? 1) (x ≤? 7) d ≡ terminal_by d n i m x
unfolding terminal_by
behind_selector d n zero m x z = absurd (z refl)
behind_selector d n (suc i) m x z = refl

pub kept_selector : (i m x : ℕ) → (i ≡ 0 → ⊥) → m ≡ terminal_keep i m x
unfolding terminal_keep
kept_selector zero m x z = absurd (z refl)
kept_selector (suc i) m x z = refl

pub kept_country : (i x : ℕ) → (i ≡ 1 → ⊥) → 0 ≡ extension_keep i x
unfolding extension_keep
kept_country zero x z = refl
kept_country (suc zero) x z = absurd (z refl)
kept_country (suc (suc i)) x z = refl
