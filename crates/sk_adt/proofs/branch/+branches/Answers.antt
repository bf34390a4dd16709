use Rattle.sk_adt.proofs.Chaining.{switch_is}
use Rattle.sk_adt.proofs.branch.+branches.Goals as goal

pub push_switch-returns-clause-tokens : goal.push_switch-returns-clause-tokens
push_switch-returns-clause-tokens t c =
    switch_is c.args.known.now c.args.inside.now.items c.args.head.now c.args.cases.now c.args.out.now.items _ _ c.last_close.result c.in_ok-push_branches.ensures.tokens c.last_close.ensures
    c.in_ok-push_end.ensures
