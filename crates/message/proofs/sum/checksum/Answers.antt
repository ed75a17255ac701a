use mathlib.Core.Path.{sym, ap, ◌∙◌}
use mathlib.Core.List.{List}
use Prim.Native.Nat.{ℕ}
use lib.ListN.{length}
use Rattle.message.specs.Datagrams.{ones_sum, complement}
use Rattle.message.proofs.Sums.{sum_head}
use Rattle.message.proofs.sum.checksum.Goals as goal

pub returns : goal.returns
returns c = let a = c.args in
    let d = a.datagram.now in
    let e = c.ones_sum.ensures ∙ ap (λ (l : List ℕ). ones_sum 0 l) c.pseudo_header-head.ensures in
    c.sent.ensures ∙ ap complement (c.ones_sum-2.ensures ∙ ap (λ (s : ℕ). ones_sum s d) e ∙ sym (sum_head a.source a.destination (length d) d))
