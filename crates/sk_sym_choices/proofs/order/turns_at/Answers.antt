use Rattle.std.proofs.Common.{◌≡◌, List, replicate, length, sym, subst, ◌∙◌}
use Rattle.std.specs.Option.{option_copied}
use Rattle.sk_dag.specs.declared.node.BoolId.{BoolId}
use Rattle.sk_model.specs.Fill.{digit}
use Rattle.sk_sym_folds.specs.Chosen.{chosen_values}
use Rattle.sk_sym_choices.specs.Orders.{AllThere, IsPut}
use Rattle.sk_sym_choices.proofs.Turns.{there_replicate, turns_first}
use Rattle.sk_sym_choices.proofs.order.turns_at.Goals as goal

pub put_next-requires-clause-nodes : goal.put_next-requires-clause-nodes
put_next-requires-clause-nodes c =
    let same : c.as_slice.result.now ≡ replicate c.args.k c.args.never = c.as_slice.ensures ∙ c.in_ok-before.ensures in
    subst (λ (ns : List BoolId). AllThere c.args.dag.now ns) (sym same) (there_replicate c.args.k c.args.never c.requires.never.there)

pub returns-clause-turns : goal.returns-clause-turns
returns-clause-turns c =
    let same : c.as_slice.result.now ≡ replicate c.args.k c.args.never = c.as_slice.ensures ∙ c.in_ok-before.ensures in
    turns_first (option_copied c.args.chosen) c.args.first c.args.k c.args.never c.args.always c.in_ok-made.made c.requires.never c.requires.always c.in_ok-made.ensures.keeps
    (subst (λ (ns : List BoolId). IsPut c.put_next.new.dag (λ e. digit (chosen_values (option_copied c.args.chosen) e) c.args.first (length ns)) ns c.args.always c.in_ok-made.made) same c.in_ok-made.ensures.put)
