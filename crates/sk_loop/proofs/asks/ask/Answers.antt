use Rattle.std.proofs.Common.{◌+◌, ◌++◌, ◌∷◌, [], get_or}
use Rattle.sk_loop_laws.specs.Honest.{inputs_of}
use Rattle.sk_loop_guesses.specs.Asking.{IsAsking}
use Rattle.sk_loop.specs.Session.{Asks}
use Rattle.sk_loop.proofs.Demanding.{asked_next, on_ok}
use Rattle.sk_loop.proofs.asks.ask.Goals as goal

pub returns-clause-asks : goal.returns-clause-asks
returns-clause-asks c =
    on_ok c.add.result
    (IsAsking c.add.new.self c.args.expanded.now c.args.bounds.now (c.requires.asks.demands ++ record { input = (get_or c.args.pairs.now c.args.i c.index-pairs-i.result).input; limit = c.args.limit } ∷ []))
    (Asks c.add.new.self c.args.expanded.now c.args.bounds.now (inputs_of c.args.pairs.now) c.args.limit (c.args.i + 1))
    (λ asking. asked_next c.args.asking.now c.add.new.self c.args.expanded.now c.args.bounds.now c.args.pairs.now c.args.limit c.args.i c.index-pairs-i.result c.requires.asks c.requires.within asking)
    (c.add.ensures.asking c.requires.asks.demands c.requires.asks.asking)
