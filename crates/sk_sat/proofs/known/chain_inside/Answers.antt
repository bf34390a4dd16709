use Rattle.std.proofs.Common.{◌-◌, arith}
use Rattle.sk_sat.proofs.KnownLemmas.{apart_begins, apart_more}
use Rattle.sk_sat.proofs.known.chain_inside.Goals as goal

pub chain-init : goal.chain-init
chain-init c = apart_begins _ c.args.heads.now c.args.links.now _ _ _ c.requires (omega arith)

pub before-top-requires : goal.before-top-requires
before-top-requires c = (c.args.heads.now, c.requires.0, c.requires.1)

pub chain-preserved : goal.chain-preserved
chain-preserved c = apart_more _ _ _ _ (c.chain.top - 1) _ (omega arith) c.chain.invariant (c.is_inside.ensures.none c.if-is_inside.false) c.before-top.ensures.none
