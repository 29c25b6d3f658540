-- The draft of a message and its texts are the same by the strict and by the lenient way of one edition (document 02,
-- Q-11): a type has one kind of value, whatever the way.
-- Assumes nothing.
use Prim.Native.Nat.{ℕ, ◌+◌, ◌-◌}
use mathlib.Core.Path.{◌≡◌, refl, ◌∙◌, ap}
use mathlib.Core.List.{List, [], ◌∷◌, ◌++◌}
use lib.ListN.{length, replicate}
use lib.Dec.{T}
use Rattle.rules.specs.Table.{Rules}
use Rattle.rules.specs.Editions.{edition}
use Rattle.rules.specs.Message.{Parameter, Message, most}
use Rattle.rules.specs.declared.Form.{Form}
use Rattle.rules.proofs.Ways.{strict_of, lenient_of, ways_form, ways_edition}
use Rattle.draft.specs.Meaning.{meant, text_in, kind_of}
use Rattle.draft.specs.Draft.{no_entry}
use Rattle.draft.specs.Packing.{value_at, meaning_in, entry_of, text_of, entries_of, texts_of, draft_of}
use Rattle.draft.specs.declared.Entry.{Entry}

-- by two sets of rules that have the same kinds of value
module _ (R S : Rules) (k : (t : ℕ) → kind_of R t ≡ kind_of S t) where
  same_meaning : (p : Parameter) → meaning_in R p ≡ meaning_in S p
  unfolding meaning_in
  same_meaning p = ap (λ (f : Form). meant f p.contents) (k p.kind)

  same_text_lem : (p : Parameter) → text_of R p ≡ text_of S p
  unfolding text_of
  same_text_lem p = ap text_in (same_meaning p)

  same_texts : (ps : List Parameter) → texts_of R ps ≡ texts_of S ps
  unfolding texts_of
  same_texts [] = refl
  same_texts (p ∷ ps) = let x = same_text_lem p in let y = same_texts ps in λ i. x i ++ y i

  same_entries_lem : (at : ℕ) (ps : List Parameter) → entries_of R at ps ≡ entries_of S at ps
  unfolding entries_of entry_of
  same_entries_lem at [] = refl
  same_entries_lem at (p ∷ ps) =
      let x = same_meaning p in
      let y = same_text_lem p in
      (λ i. record { kind = p.kind; value = value_at at (x i) } ∷ entries_of R (at + length (y i)) ps)
      ∙ ap (λ (l : List Entry). entry_of S at p ∷ l) (same_entries_lem (at + length (text_of S p)) ps)

  same_draft_lem : R.edition ≡ S.edition → (m : Message) → draft_of R m ≡ draft_of S m
  unfolding draft_of
  same_draft_lem z m =
      let x = same_entries_lem 0 m.parameters in
      λ i. record {
        kind = m.kind;
        edition = z i;
        count = length m.parameters;
        entries = x i ++ replicate (most - length m.parameters) no_entry;
      }

kinds : (e : ℕ) → T (edition e) → (t : ℕ) → kind_of (strict_of e) t ≡ kind_of (lenient_of e) t
unfolding kind_of
kinds e k t = ways_form e k t

pub ways_texts : (e : ℕ) → T (edition e) → (ps : List Parameter) → texts_of (strict_of e) ps ≡ texts_of (lenient_of e) ps
ways_texts e k ps = same_texts (strict_of e) (lenient_of e) (kinds e k) ps

pub ways_draft : (e : ℕ) → T (edition e) → (m : Message) → draft_of (strict_of e) m ≡ draft_of (lenient_of e) m
ways_draft e k m = same_draft_lem (strict_of e) (lenient_of e) (kinds e k) (ways_edition e k) m
