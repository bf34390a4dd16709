use Rattle.std.specs.Prelude.{codes}
use Rattle.std.specs.Fmt.{decimal}
use Rattle.std.specs.List.{flat_map}
use Rattle.sk_app.specs.SpentText.{pair_lines}
use Rattle.sk_app.proofs.SpentLaws.{four_join}
use Rattle.sk_app.proofs.spent.push_rounds.Goals as goal

pub returns : goal.returns
returns c = rw (c.in_ok-push_pairs.ensures, c.in_ok-push.ensures.items, c.in_ok-push_number.ensures.ok, c.in_ok-extend_from_slice.ensures.items)
    (four_join c.args.out.now.items (codes "//@ spent rounds ") (decimal c.args.rounds) (codes "\n") (flat_map pair_lines c.args.pairs.now))
