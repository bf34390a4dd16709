use Rattle.std.proofs.Common.{arith, sym, ap, subst}
use Rattle.sk_arr.specs.Shapes.{AllStand}
use Rattle.sk_arr.proofs.Depths.{depth_array, depth_within, depths}
use Rattle.sk_arr.proofs.Standing.{bit_there, int_there, parts_stand}
use Rattle.rows_sym.proofs.Inputs.{stands_at}
use Rattle.rows_sym.proofs.ending.+worth.Goals as goal

pub worth-eval_bool-requires : goal.worth-eval_bool-requires
worth-eval_bool-requires t c = bit_there c.requires c.in-Bit.is

pub worth-eval_word-requires : goal.worth-eval_word-requires
worth-eval_word-requires t c = int_there c.requires c.in-Int.is

pub worth-all_worth-requires : goal.worth-all_worth-requires
worth-all_worth-requires t c = (omega (arith, depth_array c.args.shape.now _ c.in-Array.is, ap depths c.as_slice.ensures), subst (AllStand c.args.dag.now) (sym c.as_slice.ensures) (parts_stand c.requires c.in-Array.is))

pub all_worth-worth-requires : goal.all_worth-worth-requires
all_worth-worth-requires t c = (omega (arith, depth_within c.args.shapes.now c.loop-shape.shape-index c.shape-item.result c.loop-shape-test.true c.shape-item.is), stands_at c.args.shapes.now c.loop-shape.shape-index c.shape-item.result c.loop-shape-test.true c.shape-item.is c.requires)
