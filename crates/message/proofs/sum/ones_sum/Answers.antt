use Rattle.std.proofs.Common.{sym, ap, ◌∙◌, arith, ℕ, List, length, length-append}
use Rattle.message.specs.Datagrams.{ones_sum}
use Rattle.message.proofs.Sums.{sum_part, sum_none}
use Rattle.message.proofs.sum.ones_sum.Goals as goal

pub loop-part-preserved : goal.loop-part-preserved
loop-part-preserved c =
    let sum = c.loop-part.sum in
    let part = c.in-Some.part.now in
    let rest = c.next.new.self.rest.now in
    let step = c.in-Some.ensures.steps in
    let size = ap length step.1.0 ∙ length-append part rest in
    record {
      size = step.0 ∙ c.loop-part.invariant.size;
      same = c.loop-part.invariant.same ∙ ap (λ (l : List ℕ). ones_sum sum l) step.1.0 ∙ sum_part sum part rest (omega arith) ∙ ap (λ (n : ℕ). ones_sum n rest) (sym c.deferred-sum.ensures);
    }

pub returns : goal.returns
returns c =
    sym (c.loop-part.invariant.same ∙ sum_none c.loop-part.sum c.loop-part.part-iterator.rest.now (omega (arith, c.in-None.ensures.steps.1.0)))
