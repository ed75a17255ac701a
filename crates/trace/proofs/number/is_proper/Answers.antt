use Rattle.std.proofs.Common.{sym, ap, ◌∙◌, arith}
use Rattle.std.specs.Prelude.{is_some, is_none}
use Rattle.trace.proofs.Numbers.{proper_none, proper_zero, proper_other, proper_one, none_by}
use Rattle.trace.proofs.number.is_proper.Goals as goal

pub returns-in-empty : goal.returns-in-empty
returns-in-empty c = sym (proper_none c.args.text.now (omega arith))

pub returns-in-len1 : goal.returns-in-len1
returns-in-len1 c = c.is_some.ensures ∙ ap is_some c.decimal_digit.ensures.value ∙ sym (proper_one c.args.text.now (omega arith))

pub returns-in-len2-up : goal.returns-in-len2-up
returns-in-len2-up c =
    none_by _ _ c.is_none.ensures ∙ ap is_none c.decimal_digit-in-len2-up.ensures.value ∙ sym (proper_zero c.args.text.now c.in-len2-up.len_at_least c.if-zero-eq48.true)

pub returns-in-len1-up : goal.returns-in-len1-up
returns-in-len1-up c =
    c.is_some-in-len1-up.ensures ∙ ap is_some c.decimal_digit-in-len1-up.ensures.value ∙ sym (proper_other c.args.text.now (omega arith) c.if-zero-eq48.false)
