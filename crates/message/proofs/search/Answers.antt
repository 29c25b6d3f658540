-- `message::search` meets its contract: the first of the type or its rival, if it is of the type.
-- Assumes nothing.
use Rattle.std.proofs.Common.{sym, ap, ◌∙◌, rules, tests}
use Rattle.std.proofs.lemmas.Iterator.Consumers.{YieldsList-from_first}
use Rattle.std.proofs.lemmas.Iterator.Search.{find_from_yields_List}
use Rattle.message.specs.Walk.{founds_left}
use Rattle.message.proofs.Walking.{is_either, chosen, chosen_all, chosen_here, chosen_none}
use Rattle.message.proofs.search.Goals as goal

pub returns-in_err-found : goal.returns-in_err-found
returns-in_err-found c =
    c.from_residual.ensures ∙ ap (chosen c.args.t) (sym c.in_err-found.was) ∙ chosen_all _ _ _ _
    (find_from_yields_List {s = c.new.result} (is_either c.args.t c.args.rival) c.find.new.self _ _ c.find.ensures.ran
    (YieldsList-from_first (λ x. x) founds_left _ c.new.ensures) (λ x b q k. search (rules, tests)))

pub returns-then-found-t : goal.returns-then-found-t
returns-then-found-t c =
    chosen_here _ _ c.if-found-t.true ∙ ap (chosen c.args.t) (sym c.in_ok-found.was) ∙ chosen_all _ _ _ _
    (find_from_yields_List {s = c.new.result} (is_either c.args.t c.args.rival) c.find.new.self _ _ c.find.ensures.ran
    (YieldsList-from_first (λ x. x) founds_left _ c.new.ensures) (λ x b q k. search (rules, tests)))

pub returns-else-found-t : goal.returns-else-found-t
returns-else-found-t c =
    chosen_none _ _ c.if-found-t.false ∙ ap (chosen c.args.t) (sym c.in_ok-found.was) ∙ chosen_all _ _ _ _
    (find_from_yields_List {s = c.new.result} (is_either c.args.t c.args.rival) c.find.new.self _ _ c.find.ensures.ran
    (YieldsList-from_first (λ x. x) founds_left _ c.new.ensures) (λ x b q k. search (rules, tests)))
