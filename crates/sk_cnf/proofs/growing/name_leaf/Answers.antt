use Rattle.std.proofs.Common.{◌∙◌, sym, subst}
use Rattle.sk_cnf.specs.Standing.{IsNamed}
use Rattle.sk_cnf.proofs.LeafEq.{absent_leaf}
use Rattle.sk_cnf.proofs.DistinctLaws.{insert_new}
use Rattle.sk_cnf.proofs.GrowingLaws.{IsNamed-push}
use Rattle.sk_cnf.proofs.growing.name_leaf.Goals as goal

pub returns-clause-keys : goal.returns-clause-keys
returns-clause-keys c =
    let old = c.args.leaves.now.keys in
    c.in_ok-insert_full.ensures.keys ∙ insert_new old c.args.leaf (absent_leaf old c.args.leaf c.requires.new)

pub returns-clause-named : goal.returns-clause-named
returns-clause-named c =
    subst (IsNamed _) (sym (returns-clause-keys c))
    (IsNamed-push _ _ c.args.leaves.now.keys c.args.leaf c.in_ok-var.var c.requires.named c.in_ok-var.ensures.ok.0 c.in_ok-var.ensures.ok.1 c.in_ok-push.ensures.ok)
