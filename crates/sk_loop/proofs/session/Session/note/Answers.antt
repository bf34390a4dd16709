use Rattle.std.proofs.Common.{◌+◌, List, refl, subst}
use Rattle.sk_model.specs.declared.expanded.Pair.{Pair}
use Rattle.sk_loop_laws.specs.Honest.{inputs_of}
use Rattle.sk_loop.specs.Session.{Asks}
use Rattle.sk_loop.proofs.Standing.{note_steps}
use Rattle.sk_loop.proofs.session.Session.note.Goals as goal

pub returns-clause-steps : goal.returns-clause-steps
returns-clause-steps c =
    note_steps c.args.self.now _ c.args.expanded.now c.args.bounds.now c.args.pairs.now c.push.new.self c.args.pair c.args.limit c.args.self.now.count c.requires.stands c.requires.round c.in_ok-push.ensures.ok refl
    (subst (λ (ps : List Pair). Asks c.ask.new.asking c.args.expanded.now c.args.bounds.now (inputs_of ps) c.args.limit (c.args.self.now.count + 1)) c.as_slice.ensures c.in_ok-ask.ensures.asks)
    c.in_ok-ask.ensures.formula.behind c.len-self.ensures refl refl refl
