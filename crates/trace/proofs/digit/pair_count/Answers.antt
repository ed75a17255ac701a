use Rattle.std.proofs.Common.{◌≡◌, rules, ap, ◌∙◌, arith}
use Rattle.std.specs.Slice.Iter.{chunks_exact_rest, chunks_exact_size, chunks_exact_steps}
use Rattle.std.proofs.lemmas.Iterator.Splits.{YieldsList-from_shown_while}
use Rattle.std.proofs.lemmas.Iterator.Search.{YieldsList-from_take_while}
use Rattle.std.proofs.lemmas.Iterator.Consumers.{count_from_yields_List, YieldsList-at}
use Rattle.std.proofs.lemmas.List.Folds.{length-prefix_len}
use borrow.Author.Tests.{tests}
use Rattle.trace.specs.Digits.{pairs_of}
use Rattle.trace.proofs.Digits.{pairs, pairs_none, pairs_some, begins_octet, pairs_counted}
use Rattle.trace.proofs.digit.pair_count.Goals as goal

pub returns : goal.returns
returns c =
    let whole = YieldsList-from_shown_while chunks_exact_steps (λ x. x.now) (λ s. pairs (chunks_exact_rest s)) (λ s. chunks_exact_size s ≡ 2) (λ s t p q. pairs_none (chunks_exact_rest s) (omega (arith, q.1.0, p))) (λ s x t p q. (q.0 ∙ p, pairs_some (chunks_exact_rest s) x.now (chunks_exact_rest t) q.1.0 (q.1.1 ∙ p))) c.chunks_exact.result c.chunks_exact.ensures.size in
    count_from_yields_List c.take_while.result c.count.result c.count.ensures.ran (YieldsList-from_take_while _ begins_octet (YieldsList-at c.take_while.ensures.source whole) c.take_while.ensures.closure c.take_while.ensures.done (λ x b q k. search (rules, tests))) ∙ length-prefix_len begins_octet (pairs (chunks_exact_rest c.chunks_exact.result)) ∙ pairs_counted (chunks_exact_rest c.chunks_exact.result) ∙ ap pairs_of c.chunks_exact.ensures.rest
