use Rattle.std.proofs.Common.{[], ◌∷◌}
use Rattle.trace.proofs.Writers.{row, wrote_as}
use Rattle.trace.proofs.write.put_octet.Goals as goal

pub returns : goal.returns
returns c = wrote_as (row c.put_char-next.ensures c.put_char.ensures) (λ k. c.digit_char-high.ensures k ∷ c.digit_char-low.ensures k ∷ [])
