-- `listener::by_turns` meets its contract: the run jumps to where the turns came, or goes one octet further.
-- Assumes nothing.
use Rattle.std.proofs.Common.{refl, add_assoc, arith}
use Rattle.rules.specs.Table.{rules_of}
use Rattle.rules.proofs.ContentLaw.{sound_rules}
use Rattle.rules.proofs.Octets.{octets_known}
use Rattle.listener.proofs.Bounds.{place_small, count_small}
use Rattle.listener.proofs.Going.{one_step}
use Rattle.listener.proofs.Headers.{jumped, near_place, there_place, few_begun, to_message, to_header, to_refusal}
use Rattle.listener.proofs.by_turns.Goals as goal

pub overflow_add-gone : goal.overflow_add-gone
overflow_add-gone c =
    let known = c.shared_slice_known-1 in
    let a = c.args in
    omega (
      arith,
      there_place (rules_of a.book) (sound_rules a.book) a.octets.now a.i a.room a.q c.requires.1
          (octets_known a.octets.now known.given) c.requires.0 _ c.through-stop.ensures,
    )

pub overflow_add-place : goal.overflow_add-place
overflow_add-place c =
    let known = c.shared_slice_known-1 in
    let a = c.args in
    omega (
      arith,
      near_place (rules_of a.book) (sound_rules a.book) a.octets.now a.i a.room a.q c.requires.1
          (octets_known a.octets.now known.given) c.requires.0 _ c.through-stop.ensures
          (omega arith),
    )

pub overflow_add-begun : goal.overflow_add-begun
overflow_add-begun c =
    let known = c.shared_slice_known-1 in
    let a = c.args in
    omega (
      arith,
      few_begun (rules_of a.book) (sound_rules a.book) a.octets.now a.i a.room a.q c.requires.1
          (octets_known a.octets.now known.given) c.requires.0 _ c.through-stop.ensures,
    )

pub at_header-requires : goal.at_header-requires
at_header-requires c = (place_small _ (sound_rules _) _ _ c.requires.0, count_small _ (sound_rules _) _ _ c.requires.0)

pub overflow_add-result-in_default : goal.overflow_add-result-in_default
overflow_add-result-in_default c =
    let known = c.shared_slice_known-1 in
    let a = c.args in
    omega (
      arith,
      there_place (rules_of a.book) (sound_rules a.book) a.octets.now a.i a.room a.q c.requires.1
          (octets_known a.octets.now known.given) c.requires.0 _ c.through-stop.ensures,
    )

pub returns-in-0-default : goal.returns-in-0-default
returns-in-0-default c =
    let known = c.shared_slice_known-1 in
    let a = c.args in
    let octets = octets_known a.octets.now known.given in
    jumped _ (sound_rules _) _ _ _ _ _ _
    (to_message _ (sound_rules _) _ _ _ _ c.requires.1 octets c.requires.0 _
    c.through-stop.ensures c.in-0-default.is-0) _ refl

pub returns-in-8-eq0 : goal.returns-in-8-eq0
returns-in-8-eq0 c =
    one_step _ (sound_rules _) _ _ _ _ _ c.requires.0 c.requires.1
    (omega (arith, c.shared_slice_known-in-8-eq0-1.given c.args.i)) c.at_header.ensures

pub returns-in-8-default : goal.returns-in-8-default
returns-in-8-default c =
    let known = c.shared_slice_known-1 in
    let a = c.args in
    let octets = octets_known a.octets.now known.given in
    jumped _ (sound_rules _) _ _ _ _ _ _
    (to_header _ (sound_rules _) _ _ _ _ c.requires.1 octets c.requires.0 _
    c.through-stop.ensures c.in-8-default.is-0 c.in-8-default.is-1.1) _ refl

pub returns-in_default : goal.returns-in_default
returns-in_default c =
    let known = c.shared_slice_known-1 in
    let a = c.args in
    let octets = octets_known a.octets.now known.given in
    jumped _ (sound_rules _) _ _ _ _ _ _
    (to_refusal _ (sound_rules _) _ _ _ _ c.requires.1 octets c.requires.0 _
    c.through-stop.ensures (omega arith) (omega arith) _
    c.parameter_of.ensures) _ (add_assoc a.i _ 1)
