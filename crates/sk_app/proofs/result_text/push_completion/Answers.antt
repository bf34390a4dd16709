use Rattle.std.specs.Prelude.{codes}
use Rattle.std.specs.Fmt.{decimal}
use Rattle.sk_app.specs.ResultText.{spaced}
use Rattle.sk_app.proofs.CompleteLaws.{lines_join}
use Rattle.sk_app.proofs.result_text.push_completion.Goals as goal

pub returns : goal.returns
returns c = rw (c.in_ok-push.ensures.items, c.in_ok-push_spaced.ensures, c.as_slice.ensures, c.in_ok-extend_from_slice-2.ensures.items, c.in_ok-push_number.ensures.ok, c.in_ok-extend_from_slice.ensures.items)
    (lines_join c.args.out.now.items (codes "//@ completion\n//@ value ") (decimal c.args.value) (codes "\n//@ holes") (spaced c.args.choice.now.values) (codes "\n"))
