use Rattle.std.proofs.Common.{◌∷◌, length, drop, sym, ap, ◌∙◌, rules}
use borrow.Author.Tests.{tests}
use Rattle.octets.proofs.Runs.{part_tail}
use Rattle.trace.specs.Lines.{after_line, lines_of}
use Rattle.trace.proofs.Lines.{lines_step, lines_none}
use Rattle.trace.proofs.line.TextLinesIterator.next.Goals as goal

pub returns-then-is_empty-clause-steps : goal.returns-then-is_empty-clause-steps
returns-then-is_empty-clause-steps c = let none = lines_none c.args.self.now.rest.now (search (rules, tests)) in (none, none)

pub returns-clause-steps : goal.returns-clause-steps
returns-clause-steps c =
    let text = c.args.self.now.rest.now in
    lines_step text (search (rules, tests)) ∙ ap (λ line. line ∷ lines_of (drop (after_line 0 text) text)) (sym c.line_at.ensures) ∙ ap (λ n. c.line_at.result.now ∷ lines_of (drop n text)) (sym c.after_line.ensures) ∙ ap (λ rest. c.line_at.result.now ∷ lines_of rest) (sym (part_tail c.after_line.result text))

pub returns-clause-goes : goal.returns-clause-goes
returns-clause-goes c = let fewer = ap length (returns-clause-steps c) in search rules
