use Rattle.std.proofs.Common.{◌≡◌, take, map}
use Rattle.sk_adt.specs.declared.form.CaseForm.{out-CaseForm}
use Rattle.sk_adt.proofs.words.case_words.Given as goal

abbrev pub invariant-loop-case : goal.invariant-loop-case
invariant-loop-case l = l.out ≡ map (λ c. (out-CaseForm c).head.word) (take l.case-index l.cases)
