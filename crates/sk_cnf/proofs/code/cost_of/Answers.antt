use Rattle.std.proofs.Common.{◌∙◌, sym, ap}
use Rattle.sk_dag.specs.Eval.{as_cost}
use Rattle.sk_cnf.proofs.CodeLaws.{slot_is}
use Rattle.sk_cnf.proofs.code.cost_of.Goals as goal

pub returns-in-Some-Truth-clause-value : goal.returns-in-Some-Truth-clause-value
returns-in-Some-Truth-clause-value c =
    let is = rw c.in-Some-Truth.field-0-is at c.in-Some-Truth.ensures in
    λ w v. c.zero.ensures.value v ∙ sym (ap as_cost (slot_is c.args.codes.now c.args.a.index _ is w v))

pub returns-in-Some-Word-clause-value : goal.returns-in-Some-Word-clause-value
returns-in-Some-Word-clause-value c =
    let is = rw c.in-Some-Word.field-0-is at c.in-Some-Word.ensures in
    λ w v. c.zero-in-Some-Word.ensures.value v ∙ sym (ap as_cost (slot_is c.args.codes.now c.args.a.index _ is w v))

pub returns-in-None-clause-value : goal.returns-in-None-clause-value
returns-in-None-clause-value c =
    λ w v. c.zero-in-None.ensures.value v ∙ sym (ap as_cost (slot_is c.args.codes.now c.args.a.index _ c.in-None.ensures w v))
