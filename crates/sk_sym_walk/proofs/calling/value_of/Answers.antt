use Rattle.std.proofs.Common.{subst}
use Rattle.sk_sym_state.specs.Stands.{AnyStands}
use Rattle.sk_sym_walk.proofs.Called.{result_given, result_blank, result_absent}
use Rattle.sk_sym_walk.proofs.Sequences.{ok_more}
use Rattle.sk_sym_walk.proofs.calling.value_of.Goals as goal

pub returns-in_ok-r-in-None-clause-result : goal.returns-in_ok-r-in-None-clause-result
returns-in_ok-r-in-None-clause-result c = result_blank c.args.ty c.args.given c.in_ok-r-in-None.r c.in-None.is c.in_ok-r-in-None.ensures.given

pub returns-in-Some-given-clause-result : goal.returns-in-Some-given-clause-result
returns-in-Some-given-clause-result c = result_given c.args.ty c.in-Some.field-0 c.args.given c.in-Some-given.r c.in-Some.is c.in-Some-given.is (subst (AnyStands c.args.dag.now) c.in-Some-given.is c.requires.given)

pub returns-in-None-given-clause-result : goal.returns-in-None-given-clause-result
returns-in-None-given-clause-result c = ok_more c.absent.result (λ r. result_absent c.args.ty c.in-Some.field-0 c.args.given r c.in-Some.is c.in-None-given.is) c.absent.ensures.stands
