use Rattle.std.proofs.Common.{subst, List}
use Rattle.sk_arr.proofs.Makers.{Keeps-refl}
use Rattle.sk_dag.proofs.EvalLemmas.{Keeps-trans}
use Rattle.sk_oblig_arguments.specs.Constants.{AreConstant}
use Rattle.sk_prog.specs.declared.value.Value.{Value}
use Rattle.sk_oblig_arguments.proofs.Shaping.{constant_array, constants_more}
use Rattle.sk_oblig_arguments.proofs.constant.+constant.Goals as goal

pub constant-returns-in-Null-clause-constant : goal.constant-returns-in-Null-clause-constant
constant-returns-in-Null-clause-constant t c = rw c.in-Null.is (c.constant_null.ensures c.args.dag.now)

pub constant-returns-in_ok-parts-in-Array-clause-constant : goal.constant-returns-in_ok-parts-in-Array-clause-constant
constant-returns-in_ok-parts-in-Array-clause-constant t c =
    rw c.in-Array.is (constant_array c.in_ok-parts-in-Array.parts (subst (λ (vs : List Value). AreConstant c.constants.new.dag vs c.in_ok-parts-in-Array.parts) c.as_slice.ensures c.in_ok-parts-in-Array.ensures.constants))

pub constants-loop-value-preserved : goal.constants-loop-value-preserved
constants-loop-value-preserved t c = record {
  keeps = Keeps-trans c.loop-value.invariant.keeps c.in_ok-one.ensures.keeps;
  made = constants_more c.args.values.now c.loop-value.value-index c.value-item.result c.loop-value.made c.push.new.self c.in_ok-one.one c.loop-value-test.true c.value-item.is c.in_ok-push.ensures.ok c.in_ok-one.ensures.keeps c.loop-value.invariant.made c.in_ok-one.ensures.constant;
}
