-- `contents::date_along` meets its contract: pair after pair, until one does not stand; the day by the days of the
-- month that the first pair names.
-- Assumes nothing.
use mathlib.Core.Path.{◌∙◌, sym}
use native.Mathlib.Nat.{zero-add}
use Rattle.rules.specs.ContentJudge.{judge_of}
use Rattle.rules.proofs.Octets.{octets_known}
use Rattle.rules.proofs.Standing.{pair_stops, pair_goes, pair_ends, pair_whole}
use Rattle.rules.proofs.CalendarLaw.{stands_as}
use Rattle.contents.proofs.date_along.Goals as goal

pub returns-then-month-lt2 : goal.returns-then-month-lt2
unfolding judge_of
returns-then-month-lt2 c =
    let v = c.args.v.now in
    pair_stops _ v _ _ 0 _ c.pair_along-month.ensures c.if-month-lt2.true
    ∙ zero-add _
    ∙ sym (stands_as _ _ 0 v)

pub days_along-requires : goal.days_along-requires
days_along-requires c = pair_whole _ _ _ c.pair_along-month.ensures c.if-month-lt2.false

pub returns-then-day-lt4 : goal.returns-then-day-lt4
unfolding judge_of
returns-then-day-lt4 c =
    let v = c.args.v.now in
    pair_stops _ v _ _ 2 _ (rw c.days_along.ensures at c.pair_along-day.ensures)
    c.if-day-lt4.true
    ∙ pair_goes _ v _ _ 0 _ c.pair_along-month.ensures c.if-month-lt2.false
    ∙ zero-add _
    ∙ sym (stands_as _ _ 0 v)

pub returns-then-hour-lt6 : goal.returns-then-hour-lt6
unfolding judge_of
returns-then-hour-lt6 c =
    let v = c.args.v.now in
    pair_stops _ v _ _ 4 _ c.pair_along-hour.ensures c.if-hour-lt6.true
    ∙ pair_goes _ v _ _ 2 _ (rw c.days_along.ensures at c.pair_along-day.ensures)
    c.if-day-lt4.false
    ∙ pair_goes _ v _ _ 0 _ c.pair_along-month.ensures c.if-month-lt2.false
    ∙ zero-add _
    ∙ sym (stands_as _ _ 0 v)

pub returns-then-minute-lt8 : goal.returns-then-minute-lt8
unfolding judge_of
returns-then-minute-lt8 c =
    let v = c.args.v.now in
    pair_stops _ v _ _ 6 _ c.pair_along-minute.ensures c.if-minute-lt8.true
    ∙ pair_goes _ v _ _ 4 _ c.pair_along-hour.ensures c.if-hour-lt6.false
    ∙ pair_goes _ v _ _ 2 _ (rw c.days_along.ensures at c.pair_along-day.ensures)
    c.if-day-lt4.false
    ∙ pair_goes _ v _ _ 0 _ c.pair_along-month.ensures c.if-month-lt2.false
    ∙ zero-add _
    ∙ sym (stands_as _ _ 0 v)

pub returns : goal.returns
unfolding judge_of
returns c =
    let v = c.args.v.now in
    pair_ends _ v _ 6 _ (octets_known v c.type_inv.v)
    c.pair_along-minute.ensures c.if-minute-lt8.false
    ∙ pair_goes _ v _ _ 4 _ c.pair_along-hour.ensures c.if-hour-lt6.false
    ∙ pair_goes _ v _ _ 2 _ (rw c.days_along.ensures at c.pair_along-day.ensures)
    c.if-day-lt4.false
    ∙ pair_goes _ v _ _ 0 _ c.pair_along-month.ensures c.if-month-lt2.false
    ∙ zero-add _
    ∙ sym (stands_as _ _ 0 v)
