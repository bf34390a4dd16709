use Rattle.std.proofs.Common.{◌≡◌, length, arith}
use Rattle.std.specs.Option.{option_copied}
use Rattle.sk_model.specs.Fill.{digit}
use Rattle.sk_sym_folds.specs.Chosen.{chosen_values}
use Rattle.sk_sym_choices.proofs.Turns.{put_first, put_same}
use Rattle.sk_sym_choices.proofs.order.put_next.Goals as goal

pub returns-then-is_empty-clause-put : goal.returns-then-is_empty-clause-put
returns-then-is_empty-clause-put c =
    let none : length c.args.nodes.now ≡ 0 = grind arith in
    rw (c.in_ok-push.ensures.ok, c.new-made.ensures) (put_first _ c.args.nodes.now c.args.node none c.requires.node)

pub returns-clause-put : goal.returns-clause-put
returns-clause-put c = put_same (λ e. digit (chosen_values (option_copied c.args.chosen) e) c.args.first (length c.args.nodes.now)) (λ e. c.in_ok-site.ensures (chosen_values (option_copied c.args.chosen) e)) c.in_ok-made.ensures.put
