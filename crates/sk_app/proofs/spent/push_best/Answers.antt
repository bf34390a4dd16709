use Rattle.std.specs.Prelude.{codes}
use Rattle.sk_app.specs.ResultText.{spaced}
use Rattle.sk_app.proofs.SpentLaws.{three_join}
use Rattle.sk_app.proofs.spent.push_best.Goals as goal

pub returns : goal.returns
returns c = rw (c.in_ok-push.ensures.items, c.in_ok-push_spaced.ensures, c.as_slice.ensures, c.in_ok-extend_from_slice.ensures.items)
    (three_join c.args.out.now.items (codes "//@ completion\n//@ holes") (spaced c.args.choice.now.values) (codes "\n"))
