use Rattle.std.specs.Option.{option_copied}
use Rattle.sk_dag.proofs.EvalLemmas.{Keeps-trans}
use Rattle.sk_sym_folds.specs.Chosen.{chosen_values}
use Rattle.sk_sym_choices.proofs.Turns.{Keeps-refl}
use Rattle.sk_sym_choices.proofs.Tests.{met_first, met_more, met_all}
use Rattle.sk_sym_choices.proofs.node.all_met.Goals as goal

pub loop-test-init : goal.loop-test-init
loop-test-init c = record {
  keeps = Keeps-refl _;
  there = c.in_ok-yes.ensures.there;
  value = λ g m e r. met_first (chosen_values (option_copied c.args.chosen) e) c.args.tests.now _ (c.in_ok-yes.ensures.value g m e);
}

pub and-requires : goal.and-requires
and-requires c = record {
  a = c.in_ok-one.ensures.keeps.sorts _ _ c.loop-test.invariant.there;
  b = c.in_ok-one.ensures.there;
}

pub loop-test-preserved : goal.loop-test-preserved
loop-test-preserved c =
    let inv = c.loop-test.invariant in
    record {
      keeps = Keeps-trans (Keeps-trans inv.keeps c.in_ok-one.ensures.keeps) c.in_ok-more.ensures.keeps;
      there = c.in_ok-more.ensures.there;
      value = λ g m e r.
          let one = c.in_ok-more.ensures.keeps.later g m in
          let old = c.in_ok-one.ensures.keeps.later g one in
          met_more (chosen_values (option_copied c.args.chosen) e) c.loop-test.test-index c.args.tests.now _ _ _ _ _ c.loop-test-test.true (c.in_ok-one.ensures.value g one e r) (c.in_ok-more.ensures.value g m e) (inv.value g old e r);
    }

pub returns : goal.returns
returns c =
    let inv = c.loop-test.invariant in
    record {
      keeps = Keeps-trans c.in_ok-yes.ensures.keeps inv.keeps;
      there = inv.there;
      value = λ g m e r. met_all (chosen_values (option_copied c.args.chosen) e) c.loop-test.test-index c.args.tests.now _ _ c.loop-test-test.false (inv.value g m e r);
    }

pub returns-in_err-one-clause-keeps : goal.returns-in_err-one-clause-keeps
returns-in_err-one-clause-keeps c = Keeps-trans (Keeps-trans c.in_ok-yes.ensures.keeps c.loop-test.invariant.keeps) c.in_err-one.ensures.keeps

pub returns-in_err-more-clause-keeps : goal.returns-in_err-more-clause-keeps
returns-in_err-more-clause-keeps c = Keeps-trans (Keeps-trans (Keeps-trans c.in_ok-yes.ensures.keeps c.loop-test.invariant.keeps) c.in_ok-one.ensures.keeps) c.in_err-more.ensures.keeps
