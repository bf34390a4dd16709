use Rattle.std.proofs.Common.{IsTrue, arith, refl, sym, ap, subst, ◌∙◌}
use Rattle.std.proofs.lemmas.List.{take_all}
use Rattle.sk_arr.proofs.Depths.{depth_array, depth_within, depths}
use Rattle.sk_sym.specs.Outcome.{AllNameNone}
use Rattle.sk_sym.proofs.Names.{bit_names_none, int_names_none, reference_names_none, array_names_none, no_items, none_more}
use Rattle.sk_sym.proofs.outcome.+names.Goals as goal

pub all_name_none-names_none-requires : goal.all_name_none-names_none-requires
all_name_none-names_none-requires t c = (omega (arith, depth_within c.args.list.now c.loop-a.a-index c.a-item.result c.loop-a-test.true c.a-item.is), tt)

pub names_none-all_name_none-requires : goal.names_none-all_name_none-requires
names_none-all_name_none-requires t c = (omega (arith, depth_array c.args.a.now _ c.in-Array.is, ap depths c.as_slice-in-Array.ensures), tt)

pub all_name_none-loop-a-preserved : goal.all_name_none-loop-a-preserved
all_name_none-loop-a-preserved t c = none_more c.args.list.now c.loop-a.a-index c.a-item.result c.loop-a-test.true c.a-item.is c.loop-a.invariant (c.if-not-names_none.ensures refl)

pub all_name_none-returns : goal.all_name_none-returns
all_name_none-returns t c = λ yes. subst AllNameNone (take_all c.loop-a.a-index c.args.list.now (omega arith)) c.loop-a.invariant

pub names_none-returns-in-Bit : goal.names_none-returns-in-Bit
names_none-returns-in-Bit t c = λ yes. bit_names_none c.in-Bit.is

pub names_none-returns-in-Int : goal.names_none-returns-in-Int
names_none-returns-in-Int t c = λ yes. int_names_none c.in-Int.is

pub names_none-returns-in-Reference : goal.names_none-returns-in-Reference
names_none-returns-in-Reference t c = λ yes. reference_names_none c.in-Reference.is (sym c.as_slice.ensures ∙ no_items c.as_slice.result.now (subst IsTrue c.is_empty.ensures yes))

pub names_none-returns-in-Array : goal.names_none-returns-in-Array
names_none-returns-in-Array t c = λ yes. array_names_none c.in-Array.is (subst AllNameNone c.as_slice-in-Array.ensures (c.all_name_none.ensures yes))
