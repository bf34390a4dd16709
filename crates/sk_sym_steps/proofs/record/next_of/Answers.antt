use Rattle.std.proofs.Common.{sym, ◌∙◌}
use Rattle.sk_sym_steps.proofs.Records.{none_more}
use Rattle.sk_sym_steps.proofs.record.next_of.Goals as goal

pub loop-slot-preserved : goal.loop-slot-preserved
loop-slot-preserved c = none_more c.args.structs.now c.args.s c.args.from c.loop-slot.slot (sym c.is_kind_at.ensures ∙ c.if-is_kind_at.false) c.loop-slot.invariant
