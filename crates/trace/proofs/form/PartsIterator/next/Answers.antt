use Rattle.std.proofs.Common.{rules, arith, ap, sym, ◌∙◌, take, drop, ◌-◌, length, ◌∷◌}
use Rattle.trace.specs.Forms.{parts_of}
use Rattle.trace.specs.declared.form.Part.TheVariants.{Gap}
use Rattle.trace.proofs.Forms.{parts_letter, parts_gap, parts_cut, parts_none}
use Rattle.trace.proofs.form.PartsIterator.next.Goals as goal

pub returns-in-len1-up-clause-steps : goal.returns-in-len1-up-clause-steps
returns-in-len1-up-clause-steps c = parts_letter c.args.self.now.0.now c.in-len1-up.len_at_least c.if-letter-ne-PERCENT.true

pub returns-in-len1-up-clause-goes : goal.returns-in-len1-up-clause-goes
returns-in-len1-up-clause-goes c = let e = parts_letter c.args.self.now.0.now c.in-len1-up.len_at_least c.if-letter-ne-PERCENT.true in search rules

pub returns-in-len1-clause-steps : goal.returns-in-len1-clause-steps
returns-in-len1-clause-steps c = parts_cut c.args.self.now.0.now (omega arith) c.if-letter-ne-PERCENT.false

pub returns-in-len1-clause-goes : goal.returns-in-len1-clause-goes
returns-in-len1-clause-goes c = let e = parts_cut c.args.self.now.0.now (omega arith) c.if-letter-ne-PERCENT.false in search rules

pub returns-in-len2-up-clause-steps : goal.returns-in-len2-up-clause-steps
returns-in-len2-up-clause-steps c = parts_gap c.args.self.now.0.now (omega arith) c.if-letter-ne-PERCENT.false ∙ ap (λ g. Gap g ∷ parts_of (take (length c.args.self.now.0.now - 2) (drop 2 c.args.self.now.0.now))) (sym c.from.ensures)

pub returns-in-len2-up-clause-goes : goal.returns-in-len2-up-clause-goes
returns-in-len2-up-clause-goes c = let e = parts_gap c.args.self.now.0.now (omega arith) c.if-letter-ne-PERCENT.false in search rules

pub returns-in-empty-clause-steps : goal.returns-in-empty-clause-steps
returns-in-empty-clause-steps c = (parts_none c.args.self.now.0.now (omega arith), parts_none c.args.self.now.0.now (omega arith))
