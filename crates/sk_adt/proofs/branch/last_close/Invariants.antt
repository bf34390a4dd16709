use Rattle.std.proofs.Common.{◌≡◌, drop, map}
use Rattle.sk_adt.specs.declared.form.CaseForm.{out-CaseForm}
use Rattle.sk_adt.specs.Branches.{last_close}
use Rattle.sk_adt.proofs.branch.last_close.Given as goal

abbrev pub invariant-loop-case : goal.invariant-loop-case
invariant-loop-case l = last_close l.last (map (λ c. (out-CaseForm c).head) (drop l.case-index l.cases)) ≡ last_close l.fn.span (map (λ c. (out-CaseForm c).head) l.cases)
