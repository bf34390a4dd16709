use Rattle.sk_sym_state.proofs.Ends.{does_same}
use Rattle.sk_sym_walk.proofs.Layers.{same_hole}
use Rattle.sk_sym_walk.proofs.Places.{expr_behind}
use Rattle.sk_sym_walk.proofs.leaf.hole.Goals as goal

pub returns-clause-evaluated : goal.returns-clause-evaluated
returns-clause-evaluated c =
    let h = c.in_ok-r.ensures.evaluates in
    record {
      evaluates = record { does = does_same (λ e s. (same_hole c.args.active.now c.args.span c.args.e.now c.in-Hole.field-0 c.in-Hole.is).at e c.args.at.now s) h.does; there = h.there };
      place = record { place = expr_behind _ c.args.active.now c.args.span c.args.e.now c.in_ok-pass_expr.ensures };
    }
