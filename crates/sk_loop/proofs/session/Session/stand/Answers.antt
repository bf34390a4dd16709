use Rattle.std.proofs.Common.{List, length, refl, subst}
use Rattle.sk_model.specs.declared.expanded.Pair.{Pair}
use Rattle.sk_loop_laws.specs.Honest.{inputs_of}
use Rattle.sk_loop.specs.Session.{Asks}
use Rattle.sk_loop.proofs.Standing.{stands_again}
use Rattle.sk_loop.proofs.session.Session.stand.Goals as goal

pub returns-clause-stands : goal.returns-clause-stands
returns-clause-stands c =
    stands_again c.args.self.now _ c.args.expanded.now c.args.bounds.now c.args.pairs.now c.args.limit c.requires.ready
    (subst (λ (ps : List Pair). Asks c.ask_from.new.asking c.args.expanded.now c.args.bounds.now (inputs_of ps) c.args.limit (length ps)) c.as_slice.ensures c.in_ok-ask_from.ensures.asks)
    c.in_ok-ask_from.ensures.formula.behind c.len-self.ensures refl refl refl
