use Rattle.std.proofs.Common.{◌≤◌, length, sym, subst, arith}
use Rattle.sk_tree.specs.Strings.{Strings}
use Rattle.sk_tree_spell.proofs.CountLaws.{within, beyond}
use Rattle.sk_tree_spell.proofs.string.strings.Goals as goal

pub returns-then-count-gt128-clause-too_many : goal.returns-then-count-gt128-clause-too_many
returns-then-count-gt128-clause-too_many c = beyond c.args.pattern.now (omega (arith, c.if-count-gt128.true, c.count.ensures))

pub returns-clause-few : goal.returns-clause-few
returns-clause-few c =
    let few = within c.args.pattern.now (omega (arith, c.if-count-gt128.false, c.count.ensures)) in
    subst (λ (ss : Strings). length ss ≤ 128) (sym c.in_ok-found.ensures) few

pub returns-clause-only : goal.returns-clause-only
returns-clause-only c = λ more.
    let few = within c.args.pattern.now (omega (arith, c.if-count-gt128.false, c.count.ensures)) in
    omega (arith, few, more)
