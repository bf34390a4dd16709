use Rattle.std.proofs.Common.{arith, refl, ap}
use Rattle.sk_arr.proofs.Depths.{depth_array, depth_within, depths}
use Rattle.sk_sym_stores.specs.Kinds.{may_name_kind}
use Rattle.sk_sym_stores.proofs.Naming.{bit_names, int_names, reference_names, array_names, names_more, names_all}
use Rattle.sk_sym_stores.proofs.kind.+kind.Goals as goal

pub all_name_kind-names_kind-requires : goal.all_name_kind-names_kind-requires
all_name_kind-names_kind-requires t c = (omega (arith, depth_within c.args.list.now c.loop-r.r-index c.r-item.result c.loop-r-test.true c.r-item.is), tt)

pub names_kind-all_name_kind-requires : goal.names_kind-all_name_kind-requires
names_kind-all_name_kind-requires t c = (omega (arith, depth_array c.args.r.now _ c.in-Array.is, ap depths c.as_slice-in-Array.ensures), tt)

pub all_name_kind-loop-r-preserved : goal.all_name_kind-loop-r-preserved
all_name_kind-loop-r-preserved t c = names_more (may_name_kind c.args.structs.now c.args.elem) c.args.list.now c.loop-r.r-index c.r-item.result c.loop-r-test.true c.r-item.is c.loop-r.invariant (c.if-not-names_kind.ensures refl)

pub all_name_kind-returns : goal.all_name_kind-returns
all_name_kind-returns t c = λ yes. names_all (may_name_kind c.args.structs.now c.args.elem) c.args.list.now c.loop-r.r-index (omega arith) c.loop-r.invariant

pub names_kind-returns-in-Bit : goal.names_kind-returns-in-Bit
names_kind-returns-in-Bit t c = λ yes. bit_names (may_name_kind c.args.structs.now c.args.elem) c.in-Bit.is

pub names_kind-returns-in-Int : goal.names_kind-returns-in-Int
names_kind-returns-in-Int t c = λ yes. int_names (may_name_kind c.args.structs.now c.args.elem) c.in-Int.is

pub names_kind-returns-in-Reference : goal.names_kind-returns-in-Reference
names_kind-returns-in-Reference t c = λ yes. reference_names (may_name_kind c.args.structs.now c.args.elem) c.in-Reference.is (rw c.as_slice.ensures at (c.targets_kind.ensures yes))

pub names_kind-returns-in-Array : goal.names_kind-returns-in-Array
names_kind-returns-in-Array t c = λ yes. array_names (may_name_kind c.args.structs.now c.args.elem) c.in-Array.is (rw c.as_slice-in-Array.ensures at (c.all_name_kind.ensures yes))
