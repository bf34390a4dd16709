use Rattle.std.proofs.Common.{length, ◌+◌, ◌-◌}
use Rattle.sk_app_reading.proofs.StreamLemmas.{HasRead}
use Rattle.sk_app_reading.proofs.text.read_text.Given as goal

abbrev pub invariant-reading : goal.invariant-reading
invariant-reading g l = HasRead l.fn.most l.text.items (g.S.Source.left l.fn.source) (g.S.Source.left l.source) (g.S.Source.faults l.fn.source) (g.S.Source.faults l.source)

abbrev pub decreases-reading : goal.decreases-reading
decreases-reading g l = (l.fn.most + 1) - length l.text.items
