use Rattle.std.proofs.Common.{refl, sym}
use Rattle.sk_dag.specs.declared.shape.Shape.TheVariants as shape
use Rattle.sk_arr.proofs.Forms.{form_array, only_array}
use Rattle.sk_arr.proofs.Standing.{array_stands}
use Rattle.sk_sym_frames.proofs.Results.{either_list}
use Rattle.sk_sym_frames.proofs.ended.either_list.Goals as goal

pub join_shapes-requires-clause-a : goal.join_shapes-requires-clause-a
join_shapes-requires-clause-a c = array_stands c.args.dag.now c.args.a c.requires.a

pub join_shapes-requires-clause-b : goal.join_shapes-requires-clause-b
join_shapes-requires-clause-b c = array_stands c.args.dag.now c.args.b c.requires.b

pub returns-clause-either : goal.returns-clause-either
returns-clause-either c = either_list c.args.a c.args.b c.in-Array.made c.in-Array.is c.in_ok-r.ensures.choice

pub unreachable-requires : goal.unreachable-requires
unreachable-requires c = only_array c.in_ok-r.r (form_array {s = shape.Array c.args.a} c.args.a (sym c.in_ok-r.ensures.choice.alike) refl) c.in_default.not-Array
