use Rattle.std.proofs.Common.{sym, subst, arith}
use Rattle.std.specs.Option.{option_copied}
use Rattle.sk_dag.specs.declared.node.BoolId.{BoolId}
use Rattle.sk_dag.specs.Graph.{HasBool}
use Rattle.sk_dag.proofs.EvalLemmas.{Keeps-trans}
use Rattle.sk_model.specs.Parts.{value}
use Rattle.sk_sym_folds.specs.Chosen.{chosen_values}
use Rattle.sk_sym_choices.proofs.Turns.{there_at, there_keeps, put_value}
use Rattle.sk_sym_choices.proofs.order.put_at.Goals as goal

pub bool_mux-requires-clause-b : goal.bool_mux-requires-clause-b
bool_mux-requires-clause-b c =
    let k = Keeps-trans c.in_ok-same.ensures.keeps c.in_ok-above.ensures.keeps in
    subst (λ (n : BoolId). HasBool c.site_above.new.dag.nodes n) (sym c.node_at.ensures) (there_at c.args.nodes.now c.args.turn c.args.node (there_keeps k c.requires.nodes) (k.sorts _ _ c.requires.node))

pub bool_mux-requires-2-clause-a : goal.bool_mux-requires-2-clause-a
bool_mux-requires-2-clause-a c =
    let k = Keeps-trans (Keeps-trans c.in_ok-same.ensures.keeps c.in_ok-above.ensures.keeps) c.in_ok-near.ensures.keeps in
    subst (λ (n : BoolId). HasBool c.bool_mux.new.dag.nodes n) (sym c.node_at-before.ensures) (there_at c.args.nodes.now c.saturating_sub.result c.args.node (there_keeps k c.requires.nodes) (k.sorts _ _ c.requires.node))

pub returns-clause-value : goal.returns-clause-value
returns-clause-value c = λ g m e h.
    let near = c.in_ok-r.ensures.keeps.later g m in
    let above = c.in_ok-near.ensures.keeps.later g near in
    let same = c.in_ok-above.ensures.keeps.later g above in
    put_value g e c.args.nodes.now c.args.node (value (chosen_values (option_copied c.args.chosen) e) c.args.site) c.args.turn
    c.in_ok-same.same c.in_ok-above.above c.in_ok-near.near c.node_at-before.result c.node_at.result c.in_ok-r.r
    h c.requires.turn
    (c.in_ok-same.ensures.value g same e (omega (arith, h)))
    (c.in_ok-above.ensures.value g above e (omega (arith, h)))
    c.node_at.ensures
    (rw c.saturating_sub.ensures at c.node_at-before.ensures)
    (c.in_ok-near.ensures.value g near e)
    (c.in_ok-r.ensures.value g m e)
