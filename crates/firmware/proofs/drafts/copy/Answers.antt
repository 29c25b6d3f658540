-- `firmware::copy` meets its contract: at the end all octets are copied. Assumes nothing.
use Rattle.std.proofs.Common.{◌≡◌, ℕ, List, ◌++◌, length, take, drop, sym, ap, ap₂, ◌∙◌, arith}
use Rattle.std.proofs.lemmas.List.{take-append-drop}
use lib.Seq.{take-length}
use Rattle.rules.specs.Laying.{laid}
use Rattle.firmware.proofs.drafts.copy.Goals as goal

pub returns : goal.returns
unfolding laid
returns c =
    let v = c.args.from.now in
    let old = c.args.to.now in
    let n : c.loop-i.i ≡ length v = omega arith in
    sym (take-append-drop c.loop-i.i c.loop-i.to)
    ∙ ap₂ (λ (f b : List ℕ). f ++ b) c.loop-i.invariant.front c.loop-i.invariant.behind
    ∙ ap (λ (k : ℕ). take k v ++ drop k old) n ∙ ap (λ (f : List ℕ). f ++ drop (length v) old) (take-length v)
