-- A valid listing is read back as the message that it says: its first line tells the message type, its value lines are
-- a choice of the table's rows, and what no row takes is the last line.
-- Assumes nothing.
use Rattle.std.proofs.Common.{◌≡◌, ℕ, ◌≤◌, T, ◌⊎◌, ◌↔◌, List, [], ◌∷◌, ◌++◌, length, sym, refl, ap, ◌∙◌, subst, inl, inr, append_assoc, append-nil, arith}
use Rattle.rules.specs.Tests.{◌or◌, ◌=?◌, ◌and◌, pick}
use Rattle.rules.proofs.Tests.{decide, either, eq_of, of_eq, pick_yes, pick_not}
use Rattle.rules.specs.Pairwise.{pairwise, same_octets}
use Rattle.rules.proofs.Pairwise.{octets_are, octets_self}
use Rattle.rules.specs.Table.{Rules, rules_of, ascii}
use Rattle.rules.specs.declared.Book.TheVariants.{PresentLenient}
use Rattle.rules.specs.Message.{Parameter, Message, body, message_kind}
use Rattle.listing.specs.Listing.{Line, line_text, written, kind_line, carried_line}
use Rattle.listing.proofs.Plain.{bare, plain_kind, plain_carried}
use Rattle.writer.specs.Writing.{sized}
use Rattle.relist.specs.Relist.{line_in, behind, Lined, taken, kind_in, closed, lined_in, message_for, relisted}
use Rattle.relist.specs.Sentences.{Orderly, Says, Valid, Unended}
use Rattle.relist.proofs.Text.{plain_unended}
use Rattle.relist.proofs.Said.{tested, first_line, first_behind}
use Rattle.relist.proofs.Chosen.{Chosen, lined, last, chosen_taken}
use Rattle.relist.proofs.Orderly.{orderly_chosen, chosen_orderly, chosen_lines}

-- ---- the first line
abbrev pub first : ℕ → List ℕ
first k = line_text (kind_line k)

kind_either : (k : ℕ) → T (message_kind k) → (k ≡ 0x80) ⊎ (k ≡ 0x82)
unfolding message_kind
kind_either k t = go (either _ _ t)
  where
    go : T (k =? 0x80) ⊎ T (k =? 0x82) → (k ≡ 0x80) ⊎ (k ≡ 0x82)
    go (inl e) = inl (eq_of _ _ e)
    go (inr e) = inr (eq_of _ _ e)

record Kinds : Type 0 where
  call : kind_in (first 0x80) ≡ 0x80
  notice : kind_in (first 0x82) ≡ 0x82

kinds : Kinds
unfolding kind_in kind_line line_text ascii pairwise pick ◌=?◌ ◌and◌
kinds = record { call = refl; notice = refl }

-- it says the message type
kind_back : (k : ℕ) → T (message_kind k) → kind_in (first k) ≡ k
kind_back k t = go (kind_either k t)
  where
    go : (k ≡ 0x80) ⊎ (k ≡ 0x82) → kind_in (first k) ≡ k
    go (inl e) = subst (λ (x : ℕ). kind_in (first x) ≡ x) (sym e) kinds.call
    go (inr e) = subst (λ (x : ℕ). kind_in (first x) ≡ x) (sym e) kinds.notice

pub kind_some : (k : ℕ) → T (message_kind k) → k ≡ 0 → ⊥
kind_some k t e = go (kind_either k t)
  where
    go : (k ≡ 0x80) ⊎ (k ≡ 0x82) → ⊥
    go (inl x) = absurd (omega arith)
    go (inr x) = absurd (omega arith)

-- a line that says one is that first line
pub record KindIs (l : List ℕ) : Type 0 where
  pub legal : T (message_kind (kind_in l))
  pub line : first (kind_in l) ≡ l

pub kind_is : (l : List ℕ) → (kind_in l ≡ 0 → ⊥) → KindIs l
unfolding kind_in message_kind ◌or◌ ◌=?◌
kind_is l n = go (decide (same_octets (first 0x80) l)) (decide (same_octets (first 0x82) l))
  where
    is : (k : ℕ) → T (message_kind k) → kind_in l ≡ k → T (same_octets (first k) l) → KindIs l
    is k t e s =
        record {
          legal = subst (λ (x : ℕ). T (message_kind x)) (sym e) t;
          line = ap first e ∙ octets_are _ _ s;
        }

    go : T (same_octets (first 0x80) l) ⊎ (T (same_octets (first 0x80) l) → ⊥) →
        T (same_octets (first 0x82) l) ⊎ (T (same_octets (first 0x82) l) → ⊥) → KindIs l
    go (inl a) b = is 0x80 tt (pick_yes _ _ _ a) a
    go (inr a) (inl b) = is 0x82 tt (pick_not _ _ _ a ∙ pick_yes _ _ _ b) b
    go (inr a) (inr b) = absurd (n (pick_not _ _ _ a ∙ pick_not _ _ _ b))

module _ (k : ℕ) (t : List ℕ) where
  pub kind_first : line_in (first k ++ t) ≡ first k
  kind_first = first_line (kind_line k) (plain_kind k) t

  pub kind_behind : behind (first k ++ t) ≡ t
  kind_behind = first_behind (kind_line k) (plain_kind k) t

-- ---- the last line
pub last_first : (t : List ℕ) → line_in (last ++ t) ≡ last
last_first t = first_line (carried_line 0) (plain_carried 0) t

pub last_behind : (t : List ℕ) → behind (last ++ t) ≡ t
last_behind t = first_behind (carried_line 0) (plain_carried 0) t

pub last_line : line_in last ≡ last
last_line = ap line_in (sym (append-nil last)) ∙ last_first []

pub last_all : behind last ≡ []
last_all = ap behind (sym (append-nil last)) ∙ last_behind []

abbrev pub end : List ℕ
end = bare (carried_line 0)

pub end_unended : Unended end
end_unended = plain_unended end (plain_carried 0)

pub last_is : (t : List ℕ) → last ++ t ≡ end ++ 0x0A ∷ t
unfolding line_text bare ascii
last_is t = append_assoc end (0x0A ∷ []) t

abbrev pub R : Rules
R = rules_of PresentLenient

-- ---- a valid listing is read back
module _ (m : Message) (t : List ℕ) (s : Says R m t) where
  abbrev o : Orderly R m
  o = s.0

  abbrev lines : List Line
  lines = (orderly_chosen R tested m o).0

  pub says_text : t ≡ first m.kind ++ (written lines ++ last)
  says_text = sym s.1 ∙ chosen_lines R tested m o lines (orderly_chosen R tested m o).1

  pub says_kind : kind_in (line_in t) ≡ m.kind
  says_kind =
      ap (λ (x : List ℕ). kind_in (line_in x)) says_text ∙ ap kind_in (kind_first m.kind (written lines ++ last))
      ∙ kind_back m.kind o.kind

  pub says_lined : lined_in R t ≡ lined m.parameters last
  unfolding lined_in
  says_lined =
      ap (λ (x : List ℕ). taken R R.rows [] x)
      (ap behind says_text ∙ kind_behind m.kind (written lines ++ last))
      ∙ chosen_taken R R.rows 0 tested [] m.parameters lines (orderly_chosen R tested m o).1

  pub says_message : message_for R t ≡ m
  unfolding message_for
  says_message i = record { kind = says_kind i; parameters = (says_lined i).parameters }

  pub says_answer : (room : ℕ) → relisted R t room ≡ sized 62 (length (body m.parameters)) room
  unfolding relisted closed
  says_answer room =
      pick_not _ _ _ (λ e. kind_some m.kind o.kind (sym says_kind ∙ eq_of _ _ e))
      ∙ ap (λ (x : Lined). closed (length x.parameters) x.rest (length (body x.parameters)) room) says_lined
      ∙ pick_not _ _ _ (λ e. let h = o.one in absurd (omega (arith, eq_of (length m.parameters) 0 e)))
      ∙ pick_yes _ _ _ (rw last_line (octets_self last))
      ∙ pick_yes _ _ _ (of_eq _ _ (ap length last_all))

  -- and ends with a line end
  pub says_ended : (front : List ℕ) × (t ≡ front ++ 0x0A ∷ [])
  says_ended = (
    first m.kind ++ (written lines ++ end),
    says_text ∙ ap (λ (x : List ℕ). first m.kind ++ (written lines ++ x)) (sym (append-nil last) ∙ last_is [])
        ∙ ap (λ (x : List ℕ). first m.kind ++ x) (sym (append_assoc (written lines) end (0x0A ∷ [])))
        ∙ sym (append_assoc (first m.kind) (written lines ++ end) (0x0A ∷ [])),
  )

-- ---- the same in lines: the kind, a choice of rows, one at least, and that none is carried
pub record InLines (t : List ℕ) : Type 0 where
  pub kind : ℕ
  pub parameters : List Parameter
  pub lines : List Line
  pub legal : T (message_kind kind)
  pub one : 1 ≤ length parameters
  pub chosen : Chosen R R.rows [] parameters lines
  pub text : t ≡ first kind ++ (written lines ++ last)

pub valid_lines : (t : List ℕ) → Valid R t ↔ InLines t
valid_lines t = (
  (λ v. record {
    kind = v.0.kind;
    parameters = v.0.parameters;
    lines = (orderly_chosen R tested v.0 v.1.0).0;
    legal = v.1.0.kind;
    one = v.1.0.one;
    chosen = (orderly_chosen R tested v.0 v.1.0).1;
    text = says_text v.0 t v.1;
  }),
  (λ i. let m : Message = record { kind = i.kind; parameters = i.parameters } in
      let o = chosen_orderly R tested i.kind i.parameters i.lines i.chosen i.legal i.one in
      (m, (o, chosen_lines R tested m o i.lines i.chosen ∙ sym i.text))),
)
