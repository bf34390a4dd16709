use Rattle.std.proofs.Common.{length}
use Rattle.sk_app_reading.proofs.StreamLemmas.{IsWriting}
use Rattle.sk_app_reading.proofs.output.write_all.Given as goal

abbrev pub invariant-writing : goal.invariant-writing
invariant-writing g l = IsWriting l.fn.bytes l.rest (g.K.Sink.held l.fn.sink) (g.K.Sink.held l.sink) (g.K.Sink.faults l.fn.sink) (g.K.Sink.faults l.sink) (g.K.Sink.spare l.sink)

abbrev pub decreases-writing : goal.decreases-writing
decreases-writing g l = length l.rest
