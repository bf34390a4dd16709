use Rattle.std.proofs.Common.{sym, subst}
use Rattle.sk_check_text.specs.Splitting.{Splits}
use Rattle.sk_check_text.proofs.FirstMark.{found_splits, found_within, whole_splits}
use Rattle.sk_check_text.proofs.splitting.split.Goals as goal

pub split_at-requires : goal.split_at-requires
split_at-requires c = found_within c.args.input.now c.in-Some.at c.in-Some.behind.now c.in-Some.ensures

pub returns-in-Some : goal.returns-in-Some
returns-in-Some c =
    subst (λ s. Splits c.args.input.now s c.in-Some.behind.now) (sym c.split_at.ensures.front)
    (found_splits c.args.input.now c.in-Some.at c.in-Some.behind.now c.in-Some.ensures)

pub returns-in-None : goal.returns-in-None
returns-in-None c = whole_splits c.args.input.now c.in-None.ensures
