use Rattle.std.proofs.Common.{◌∙◌, sym, true≢false}
use Rattle.sk_dag.proofs.ReachLemmas.{marked_here, true_here}
use Rattle.sk_cnf.proofs.CodeLaws.{coded_here}
use Rattle.sk_cnf.proofs.growing.is_wanted.Goals as goal

pub returns-in-Some-clause-no : goal.returns-in-Some-clause-no
returns-in-Some-clause-no c =
    let h = rw c.as_slice.ensures at c.in-Some.ensures in
    λ mark e. (c.in-Some.field-0.now, coded_here c.args.codes.now c.args.i c.in-Some.field-0.now (sym h))

pub returns-in-None-clause-yes : goal.returns-in-None-clause-yes
returns-in-None-clause-yes c = λ t. marked_here c.args.marks.now c.args.i c.requires t

pub returns-in-None-clause-no : goal.returns-in-None-clause-no
returns-in-None-clause-no c = λ mark e. absurd (true≢false (sym (true_here c.args.marks.now c.args.i mark) ∙ e))
