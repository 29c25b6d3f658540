-- `listing::carried` meets its contract: of those that the walk finds, it counts those of no listed type.
-- Assumes nothing.
use Rattle.std.proofs.Common.{length, ap, inl, ◌∙◌, arith, rules, tests}
use Rattle.std.proofs.lemmas.Iterator.Consumers.{YieldsList-from_first, YieldsList-from_filter, YieldsList-at, count_from_yields_List}
use Rattle.rules.specs.Message.{most}
use Rattle.message.specs.Walk.{founds_left}
use Rattle.message.proofs.Walking.{founds_few}
use Rattle.message.specs.Parameters.{parameters_in}
use Rattle.listing.proofs.Rows.{carries, carried_founds}
use Rattle.listing.proofs.carried.Goals as goal

pub count-count-requires-clause-fits : goal.count-count-requires-clause-fits
count-count-requires-clause-fits c =
    inl (omega (
      arith,
      ap (λ p. length (founds_left p)) c.filter.ensures.source,
      ap length c.new.ensures,
      founds_few most c.args.octets.now 2,
    ))

pub overflow_cast-result : goal.overflow_cast-result
overflow_cast-result c =
    omega (
      arith,
      ap (λ p. length (founds_left p)) c.filter.ensures.source,
      ap length c.new.ensures,
      founds_few most c.args.octets.now 2,
      c.count-count.ensures.bound,
    )

pub returns : goal.returns
unfolding parameters_in
returns c =
    count_from_yields_List c.filter.result _ c.count-count.ensures.ran
    (YieldsList-from_filter _ carries (YieldsList-at c.filter.ensures.source
    (YieldsList-from_first (λ x. x) founds_left _ c.new.ensures)) c.filter.ensures.closure
    (λ x b q k. search (rules, tests)))
    ∙ carried_founds most c.args.octets.now 2
