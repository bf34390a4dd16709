use Rattle.std.proofs.Common.{◌≡◌, ℕ, List, subst, arith}
use Rattle.std.specs.Option.{option_copied}
use Rattle.sk_dag.proofs.EvalLemmas.{Keeps-trans}
use Rattle.sk_model.specs.declared.expanded.Site.{Site}
use Rattle.sk_sym_choices.specs.Payments.{AreColumns, GiveDigits}
use Rattle.sk_sym_choices.proofs.Turns.{Keeps-refl}
use Rattle.sk_sym_choices.proofs.Columns.{column_by, columns_none, columns_more}
use Rattle.sk_sym_choices.proofs.program.orders.Goals as goal

pub loop-k-init : goal.loop-k-init
loop-k-init c = record {
  keeps = Keeps-refl _;
  within = omega arith;
  columns = rw c.new-made.ensures (columns_none _ _ _ _ _);
}

pub loop-k-preserved : goal.loop-k-preserved
loop-k-preserved c =
    let inv = c.loop-k.invariant in
    let digits = subst (λ (ss : List Site). GiveDigits ss c.args.first c.args.count) c.as_slice.ensures c.in_ok-test_sizes.ensures in
    record {
      keeps = Keeps-trans inv.keeps c.in_ok-column.ensures.keeps;
      within = omega (arith, c.loop-k-test.true);
      columns = rw c.in_ok-push.ensures.ok (columns_more c.in_ok-column.column inv.columns c.in_ok-column.ensures.keeps (column_by c.args.expanded.now (option_copied c.args.chosen) c.args.first c.args.count c.loop-k.k c.in_ok-column.column digits c.in_ok-column.ensures.turns));
    }

pub returns-clause-columns : goal.returns-clause-columns
returns-clause-columns c =
    let inv = c.loop-k.invariant in
    let end : c.loop-k.k ≡ c.args.count = omega (arith, inv.within, c.loop-k-test.false) in
    subst (λ (n : ℕ). AreColumns c.loop-k.dag c.args.expanded.now (option_copied c.args.chosen) c.args.first c.args.count n c.loop-k.made) end inv.columns
