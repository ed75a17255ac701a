use Rattle.std.proofs.Common.{◌≡◌, ◌+◌, Some, length, drop, sym, ap, ◌∙◌, arith}
use Rattle.trace.specs.Numbers.{digits_of}
use Rattle.trace.proofs.Numbers.{onward, onward_start, onward_end, onward_over, onward_more, upto_some, upto_none, digits_at, digits_end_at, digits_all}
use Rattle.trace.proofs.number.digits_within.Goals as goal

pub loop-len-init : goal.loop-len-init
loop-len-init c = (omega arith, onward_start c.args.most (digits_of c.args.text.now))

pub returns-in_err-value : goal.returns-in_err-value
returns-in_err-value c =
    let l = c.loop-len in
    let digits = digits_at l.len c.in-Some.d c.args.text.now c.loop-len-test.true (sym c.in-Some.ensures.value) in
    c.from_residual.ensures ∙ sym (l.invariant.1 ∙ ap (onward c.args.most l.value l.len) digits ∙ onward_over c.args.most l.value l.len c.in-Some.d _ (upto_none _ _ c.in_err-value.ensures))

pub loop-len-preserved : goal.loop-len-preserved
loop-len-preserved c =
    let l = c.loop-len in
    let t = c.args.text.now in
    let digits = digits_at l.len c.in-Some.d t c.loop-len-test.true (sym c.in-Some.ensures.value) in
    let more = upto_some _ _ _ c.in_ok-value.ensures in (
      omega (arith, more),
      l.invariant.1 ∙ ap (onward c.args.most l.value l.len) digits ∙ onward_more c.args.most l.value l.len c.in-Some.d (digits_of (drop (l.len + 1) t))
          ∙ ap (λ v. onward c.args.most v (l.len + 1) (digits_of (drop (l.len + 1) t))) (sym more.0),
    )

pub returns : goal.returns
returns c =
    let l = c.loop-len in
    let t = c.args.text.now in
    let size : l.len ≡ length t = omega arith in
    sym (l.invariant.1 ∙ onward_end c.args.most l.value l.len (digits_all l.len t c.loop-len-test.false) l.invariant.0 ∙ ap (λ n. Some (record { value = l.value; len = n })) size)

pub returns-in_default : goal.returns-in_default
returns-in_default c =
    let l = c.loop-len in
    sym (l.invariant.1 ∙ onward_end c.args.most l.value l.len (digits_end_at l.len c.args.text.now c.loop-len-test.true (sym c.decimal_digit.ensures.value ∙ c.in_default.is)) l.invariant.0)
