use Rattle.std.proofs.Common.{◌∙◌, sym, ap}
use Rattle.sk_base.specs.Word.{signed}
use Rattle.sk_dag.specs.Eval.{as_word}
use Rattle.sk_cnf.proofs.CodeLaws.{slot_is, signed_zero}
use Rattle.sk_cnf.proofs.code.word_of.Goals as goal

pub returns-in-Some-Truth-clause-value : goal.returns-in-Some-Truth-clause-value
returns-in-Some-Truth-clause-value c =
    let is = rw c.in-Some-Truth.field-0-is at c.in-Some-Truth.ensures in
    λ v. ap (signed c.args.width) (c.zero.ensures.value v) ∙ signed_zero c.args.width ∙ sym (ap as_word (slot_is c.args.codes.now c.args.a.index _ is c.args.width v))

pub returns-in-Some-Cost-clause-value : goal.returns-in-Some-Cost-clause-value
returns-in-Some-Cost-clause-value c =
    let is = rw c.in-Some-Cost.field-0-is at c.in-Some-Cost.ensures in
    λ v. ap (signed c.args.width) (c.zero-in-Some-Cost.ensures.value v) ∙ signed_zero c.args.width ∙ sym (ap as_word (slot_is c.args.codes.now c.args.a.index _ is c.args.width v))

pub returns-in-None-clause-value : goal.returns-in-None-clause-value
returns-in-None-clause-value c =
    λ v. ap (signed c.args.width) (c.zero-in-None.ensures.value v) ∙ signed_zero c.args.width ∙ sym (ap as_word (slot_is c.args.codes.now c.args.a.index _ c.in-None.ensures c.args.width v))
