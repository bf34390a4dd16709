use Rattle.std.proofs.Common.{take}
use Rattle.sk_arr.specs.Held.{AllPass}
use Rattle.sk_sym_steps.specs.Steps.{is_kind}
use Rattle.sk_sym_steps.proofs.record.are_kind.Given as goal

-- those so far are
abbrev pub invariant-loop-slot : goal.invariant-loop-slot
invariant-loop-slot l = AllPass (is_kind l.structs l.s) (take l.slot-index l.targets)
