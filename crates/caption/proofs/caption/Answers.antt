-- `caption::caption` meets its contract: the part that `find` finds lies inside its slice, and is cut out of it; the
-- code says which slice it was.
-- Assumes nothing.
use Rattle.caption.specs.Told.{Finding}
use Rattle.rules.specs.declared.Fault.{Fault}
use Rattle.std.proofs.Common.{Result, Ok}
use mathlib.Core.Path.{sym, ◌∙◌, ap}
use native.Mathlib.Omega.{arith}
use Rattle.caption.proofs.Inside.{in_message, in_directory, message_part, directory_part, refused_part}
use Rattle.caption.specs.declared.Shown.{Shown}
use Rattle.caption.specs.Caption.{code_of}
use Rattle.caption.proofs.caption.Goals as goal

pub overflow_add-result : goal.overflow_add-result
overflow_add-result c =
    omega (
      arith,
      in_message _ _ c.args.message.now c.args.directory.now _
          c.find-finding.ensures _ _ (c.in-Ok.is ∙ ap Ok c.in-InMessage.is),
    )

pub slice_bounds-result-end-in-InMessage : goal.slice_bounds-result-end-in-InMessage
slice_bounds-result-end-in-InMessage c =
    in_message _ _ c.args.message.now c.args.directory.now _
    c.find-finding.ensures _ _ (c.in-Ok.is ∙ ap Ok c.in-InMessage.is)

pub overflow_add-result-in-InDirectory : goal.overflow_add-result-in-InDirectory
overflow_add-result-in-InDirectory c =
    omega (
      arith,
      in_directory _ _ c.args.message.now c.args.directory.now _
          c.find-finding.ensures _ _ (c.in-Ok.is ∙ ap Ok c.in-InDirectory.is),
    )

pub slice_bounds-result-end-in-InDirectory : goal.slice_bounds-result-end-in-InDirectory
slice_bounds-result-end-in-InDirectory c =
    in_directory _ _ c.args.message.now c.args.directory.now _
    c.find-finding.ensures _ _ (c.in-Ok.is ∙ ap Ok c.in-InDirectory.is)

pub returns-in-InMessage : goal.returns-in-InMessage
unfolding code_of
returns-in-InMessage c =
    let o = c.args.message.now in
    let d = c.args.directory.now in
    let e = c.find-finding.ensures in
    let shown = ap (λ (x : Finding). x.answer) e in
    let f = (c.in-Ok.is ∙ ap Ok c.in-InMessage.is) in
    record {
      part = message_part _ _ o d _ e _ _ f;
      side = ap (λ (r : Result Shown Fault). code_of r c.args.side.now) (sym f ∙ shown);
    }

pub returns-in-InDirectory : goal.returns-in-InDirectory
unfolding code_of
returns-in-InDirectory c =
    let o = c.args.message.now in
    let d = c.args.directory.now in
    let e = c.find-finding.ensures in
    let shown = ap (λ (x : Finding). x.answer) e in
    let f = (c.in-Ok.is ∙ ap Ok c.in-InDirectory.is) in
    record {
      part = directory_part _ _ o d _ e _ _ f;
      side = ap (λ (r : Result Shown Fault). code_of r c.args.side.now) (sym f ∙ shown);
    }

pub returns-in_default : goal.returns-in_default
unfolding code_of
returns-in_default c =
    let o = c.args.message.now in
    let d = c.args.directory.now in
    let e = c.find-finding.ensures in
    let shown = ap (λ (x : Finding). x.answer) e in
    let f = c.in_default.is in
    record {
      part = refused_part _ _ o d _ e _ f;
      side = ap (λ (r : Result Shown Fault). code_of r c.args.side.now) (sym f ∙ shown);
    }
