-- `listing::put_listing` meets its contract: the verdict, and then its lines.
-- Assumes nothing.
use Rattle.std.proofs.Common.{arith}
use Rattle.rules.proofs.Octets.{octets_at}
use Rattle.listing.proofs.Whole.{lists_message, lists_refusal}
use Rattle.listing.proofs.put_listing.Goals as goal

pub put_message-requires : goal.put_message-requires
put_message-requires c =
    let octets = octets_at c.args.octets.now (λ i. omega (arith, c.type_inv.octets i)) in
    grind (arith, (lists_message c.args.octets.now octets _ c.judge.ensures _ c.in-Ok.is).is)

pub put_refusal-requires : goal.put_refusal-requires
put_refusal-requires c =
    let octets = octets_at c.args.octets.now (λ i. omega (arith, c.type_inv.octets i)) in
    grind (arith, (lists_refusal c.args.octets.now octets _ c.judge.ensures _ c.in-Err.is).is)

pub returns-in-Ok : goal.returns-in-Ok
returns-in-Ok c =
    let octets = octets_at c.args.octets.now (λ i. omega (arith, c.type_inv.octets i)) in
    grind (arith, (lists_message c.args.octets.now octets _ c.judge.ensures _ c.in-Ok.is).is)

pub returns-in-Err : goal.returns-in-Err
returns-in-Err c =
    let octets = octets_at c.args.octets.now (λ i. omega (arith, c.type_inv.octets i)) in
    grind (arith, (lists_refusal c.args.octets.now octets _ c.judge.ensures _ c.in-Err.is).is)
