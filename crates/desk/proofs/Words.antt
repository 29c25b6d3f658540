-- What a call says of a reference is what the written rules say of its message: the state and the reference of the
-- 0DH that counts, where the call was done.
-- Assumes nothing.
use Rattle.rules.specs.declared.Fault.{Fault}
use Rattle.std.proofs.Common.{Result, Ok, Err}
use Prim.Native.Nat.{ℕ}
use mathlib.Core.Path.{◌≡◌, refl, sym, ◌∙◌, ap, subst}
use mathlib.Core.Bool.{Bool, true, false}
use mathlib.Core.Logic.{◌⊎◌, inl, inr}
use mathlib.Core.List.{List, [], ◌∷◌}
use mathlib.Core.Option.{Option, none, some}
use native.Mathlib.Omega.{arith}
use lib.ListN.{get_or}
use lib.Dec.{T}
use Rattle.rules.proofs.Tests.{clash, pick_yes, picked_by, decide, of_eq, eq_of}
use Rattle.rules.specs.Octets.{Octets, reference_of}
use Rattle.rules.specs.Table.{rules_of}
use Rattle.rules.specs.Editions.{known, book_of}
use Rattle.rules.specs.declared.Book.{Book}
use Rattle.rules.specs.Message as message
use Rattle.rules.specs.Message.{octets, LegalMessage}
use Rattle.rules.specs.Counting.{counted}
use Rattle.desk.specs.declared.Change.TheVariants.{Nothing, Adds, Removes}
use Rattle.desk.specs.declared.Desk.{Desk}
use Rattle.desk.specs.Told.{told}
use Rattle.desk.specs.Settle.{change_of, settle_in}
use Rattle.desk.specs.Settles.{SettlesBy}
use Rattle.desk.specs.History.{said_by, Call, said_under, said, Names, Says}
use Rattle.desk.proofs.Told.{done_iff}
use Rattle.desk.proofs.Counted.{identity_octets}
use Rattle.desk.proofs.Notice.{kind_of_lem, counts, adds_is, removes_is, unset_is, stays_is}
use Rattle.desk.proofs.Editions.{settles_by}

-- the state that says it
abbrev state : Bool → ℕ
state true = 0xFF
state false = 0x00

-- ---- by what counts
module _ (r : ℕ) where
  by_adding : (x : ℕ) (b : Bool) → said_by r (Adds x) ≡ some b → (b ≡ true) × (x ≡ r)
  unfolding said_by
  by_adding x b e =
      picked_by ((b ≡ true) × (x ≡ r)) _ _ _ _ e (λ t d. (let z : true ≡ b = cc in sym z, eq_of _ _ t))
      (λ _ d. clash cc)

  by_removing : (x : ℕ) (b : Bool) → said_by r (Removes x) ≡ some b → (b ≡ false) × (x ≡ r)
  unfolding said_by
  by_removing x b e =
      picked_by ((b ≡ false) × (x ≡ r)) _ _ _ _ e (λ t d. (let z : false ≡ b = cc in sym z, eq_of _ _ t))
      (λ _ d. clash cc)

  by_nothing : (b : Bool) → said_by r Nothing ≡ some b → ⊥
  unfolding said_by
  by_nothing b e = clash cc

  says_added : (h l : ℕ) → reference_of h l ≡ r → said_by r (change_of (some (0xFF ∷ h ∷ l ∷ []))) ≡ some true
  unfolding said_by
  says_added h l e = ap (said_by r) (adds_is h l) ∙ pick_yes _ _ _ (of_eq _ _ e)

  says_removed : (h l : ℕ) → reference_of h l ≡ r → said_by r (change_of (some (0x00 ∷ h ∷ l ∷ []))) ≡ some false
  unfolding said_by
  says_removed h l e = ap (said_by r) (removes_is h l) ∙ pick_yes _ _ _ (of_eq _ _ e)

module _ (r : ℕ) (c : Call) where
  abbrev book : Book
  book = book_of c.edition c.way

  abbrev knows : Bool
  knows = known c.edition c.way

  -- of a notice that is done, by what counts in it
  word_of : (m : message.Message) → octets m ≡ c.octets → m.kind ≡ 0x82 → c.settled.answer.answer ≡ (Ok tt) →
      (b : Option (List ℕ)) → counted (rules_of book) m 0x0D ≡ b → said r c ≡ said_by r (change_of b)
  unfolding said said_under
  word_of m e k d b x =
      ap (said_under (rules_of book) r c.octets) d
      ∙ pick_yes _ _ _ (of_eq _ _ (ap (λ (v : List ℕ). get_or v 0 0) (sym e) ∙ kind_of_lem m ∙ k))
      ∙ ap (λ (y : Option (List ℕ)). said_by r (change_of y)) (counts (rules_of book) m c.octets e 0x0D b x)

  named : (s : ℕ) (w : Option Bool) →
      ((h l : ℕ) → reference_of h l ≡ r → said_by r (change_of (some (s ∷ h ∷ l ∷ []))) ≡ w) → Names c s r → said r c ≡ w
  named s w f n = word_of n.m n.is n.notice n.done _ n.counts ∙ f n.high n.low n.reference

  -- a word comes from a notice that is done
  module _ (d : Desk) (p : c.settled ≡ settle_in c.edition c.way d c.octets) (q : Octets c.octets)
      (b : Bool) (e : said r c ≡ some b) where
    is_done : (a : Result (Unit {0}) Fault) → c.settled.answer.answer ≡ a → (a ≡ (Ok tt)) × (get_or c.octets 0 0 ≡ 0x82)
    unfolding said said_under
    is_done (Ok u) x =
        let z : said_under (rules_of book) r c.octets (Ok tt) ≡ some b =
        ap (said_under (rules_of book) r c.octets) (sym x) ∙ e in
        (refl, picked_by (get_or c.octets 0 0 ≡ 0x82) _ _ _ _ z (λ t _. eq_of _ _ t) (λ _ k. clash cc))
    is_done (Err f) x =
        let z : said_under (rules_of book) r c.octets (Err f) ≡ some b =
        ap (said_under (rules_of book) r c.octets) (sym x) ∙ e in
        clash cc

    module _ (m : message.Message) (l : LegalMessage (rules_of book) m) (is : octets m ≡ c.octets)
        (k : m.kind ≡ 0x82) (g : c.settled.answer.answer ≡ (Ok tt)) (t : T knows) where
      three : (v : List ℕ) → counted (rules_of book) m 0x0D ≡ some v → (h b' : ℕ) →
          (v ≡ 0x00 ∷ h ∷ b' ∷ []) ⊎ ((v ≡ 0x55 ∷ h ∷ b' ∷ []) ⊎ (v ≡ 0xFF ∷ h ∷ b' ∷ [])) → Names c (state b) r
      three v x h b' (inl z) =
          let y = by_removing r (reference_of h b') b
          (sym (word_of m is k g _ (x ∙ ap some z) ∙ ap (said_by r) (removes_is h b')) ∙ e) in
          subst (λ (u : Bool). Names c (state u) r) (sym y.0)
          (record {
            by_known = t;
            m = m;
            legal = l;
            is = is;
            notice = k;
            done = g;
            high = h;
            low = b';
            counts = x ∙ ap some z;
            reference = y.1;
          })
      three v x h b' (inr (inl z)) =
          absurd (by_nothing r b (sym (word_of m is k g _ (x ∙ ap some z) ∙ ap (said_by r) (unset_is h b')) ∙ e))
      three v x h b' (inr (inr z)) =
          let y = by_adding r (reference_of h b') b
          (sym (word_of m is k g _ (x ∙ ap some z) ∙ ap (said_by r) (adds_is h b')) ∙ e) in
          subst (λ (u : Bool). Names c (state u) r) (sym y.0)
          (record {
            by_known = t;
            m = m;
            legal = l;
            is = is;
            notice = k;
            done = g;
            high = h;
            low = b';
            counts = x ∙ ap some z;
            reference = y.1;
          })

      by_counted : (v : Option (List ℕ)) → counted (rules_of book) m 0x0D ≡ v → Names c (state b) r
      by_counted none x = absurd (by_nothing r b (sym (word_of m is k g none x ∙ ap (said_by r) stays_is) ∙ e))
      by_counted (some v) x = let z = identity_octets book m l v x in three v x z.0 z.1 z.2

    settles : SettlesBy c.edition c.way d c.octets c.settled
    settles = subst (SettlesBy c.edition c.way d c.octets) (sym p) (settles_by _ _ d c.octets q)

    -- by unknown numbers none is done
    by_known : c.settled.answer.answer ≡ (Ok tt) → T knows
    unfolding told
    by_known g = go (decide knows)
      where
        k : (told c.settled.answer.answer).number ≡ 0
        k = ap (λ (a : Result (Unit {0}) Fault). (told a).number) g

        refused : ((told c.settled.answer.answer).number ≡ 16) ⊎
            ((told c.settled.answer.answer).number ≡ 17) → T knows
        refused (inl x) = absurd (omega (arith, k, x))
        refused (inr x) = absurd (omega (arith, k, x))

        go : T knows ⊎ (T knows → ⊥) → T knows
        go (inl t) = t
        go (inr n) = refused (settles.unknown n)

    names : Names c (state b) r
    names =
        let g = is_done c.settled.answer.answer refl in
        let t = by_known g.0 in
        let a = ((done_iff (settles.by_book t)).0 g.0).1 in
        by_counted a.0 a.1 a.2 (sym (kind_of_lem a.0) ∙ ap (λ (v : List ℕ). get_or v 0 0) a.2 ∙ g.1)
        g.0 t _ refl

-- a call whose outcome is that of its settling says of every reference what the written rules say
pub says : (r : ℕ) (c : Call) (d : Desk) → c.settled ≡ settle_in c.edition c.way d c.octets →
    Octets c.octets → Says r c
says r c d p q = record {
  opens = (names r c d p q true, named r c 0xFF (some true) (says_added r));
  closes = (names r c d p q false, named r c 0x00 (some false) (says_removed r));
}
