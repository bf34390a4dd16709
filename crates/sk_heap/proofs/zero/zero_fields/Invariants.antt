use Rattle.std.proofs.Common.{map, take}
use Rattle.sk_dag.specs.Eval.{Keeps}
use Rattle.sk_heap.specs.Types.{field_form}
use Rattle.sk_heap.specs.Zeros.{AreZeros}
use Rattle.sk_heap.proofs.zero.zero_fields.Given as goal

-- those so far are made
abbrev pub invariant-loop-field : goal.invariant-loop-field
invariant-loop-field l = record {
  keeps : Keeps l.initial.dag l.dag;
  zeros : AreZeros l.dag (map field_form (take l.field-index l.fields)) l.made;
}
