-- `contents::by_rows` meets its contract: the table has the row of each octet; contents of no one kind go by judges of
-- their own, a text by its kind.
-- Assumes nothing.
use mathlib.Core.Path.{sym, ◌∙◌, ap, subst}
use Prim.Native.Nat.{ℕ}
use lib.ListN.{length}
use Rattle.rules.specs.Tests.{◌≤?◌, ◌and◌, ◌or◌}
use Rattle.rules.specs.Contents.{within, in_set, digit}
use Rattle.rules.specs.ContentJudge.{Judge, passing}
use Rattle.rules.specs.OctetRows.{bit, kinds_of, ContentKind, kind_front}
use Rattle.rules.proofs.Table.{tabled}
use Rattle.rules.proofs.OctetRows.{kind_rows, rowed}
use Rattle.rules.proofs.Asked.{text_kind, text_judged}
use Rattle.contents.proofs.Asking.{mixed_else, kind_is, kind_one}
use Rattle.contents.proofs.by_rows.Goals as goal

pub mixed_along-requires : goal.mixed_along-requires
unfolding kind_rows tabled kinds_of bit digit within in_set ◌or◌ ◌and◌ ◌≤?◌
mixed_along-requires c =
    (rowed, mixed_else _ c.requires.0 (λ k e. c.in_default.not-Kind k (c.asked_of.ensures ∙ e)), c.requires.1)

pub kind_along-requires : goal.kind_along-requires
unfolding kind_rows tabled kinds_of bit digit within in_set ◌or◌ ◌and◌ ◌≤?◌
kind_along-requires c =
    let told = sym c.asked_of.ensures ∙ c.in-Kind.is in
    (rowed, subst ContentKind (kind_is _ _ told) (text_kind _ c.requires.0 (kind_one _ _ told)))

pub returns-in-Kind : goal.returns-in-Kind
returns-in-Kind c =
    let told = sym c.asked_of.ensures ∙ c.in-Kind.is in
    let v = c.args.v.now in
    c.kind_along.ensures
    ∙ ap (λ (k : ℕ). kind_front k v) (sym (kind_is _ _ told))
    ∙ ap (λ (j : Judge). passing j (length v) 0 0 v) (text_judged _ c.requires.0 (kind_one _ _ told))
