use Rattle.std.specs.Prelude.{codes}
use Rattle.std.specs.Fmt.{decimal}
use Rattle.sk_app.proofs.SpentLaws.{three_join}
use Rattle.sk_app.proofs.spent.push_conflicts.Goals as goal

pub returns : goal.returns
returns c = rw (c.in_ok-push.ensures.items, c.in_ok-push_number.ensures.ok, c.in_ok-extend_from_slice.ensures.items)
    (three_join c.args.out.now.items (codes "//@ spent conflicts ") (decimal c.args.conflicts) (codes "\n"))
