use Rattle.std.proofs.Common.{subst}
use Rattle.sk_app_reading.specs.Streams.{IsRead}
use Rattle.sk_check_app.specs.Call.{most_input}
use Rattle.sk_check_app.specs.Judging.{JudgesInput, whole}
use Rattle.sk_check_app.proofs.judging.judge_source.Goals as goal

pub returns-in-Ok-Whole : goal.returns-in-Ok-Whole
returns-in-Ok-Whole g c =
    let m = c.in-Ok-Whole in
    record {
      takes = whole m.input.items (subst (λ x. IsRead most_input x (g.S.Source.faults c.args.source.now) (g.S.Source.faults c.read_text.new.source) (g.S.Source.left c.args.source.now)) m.field-0-is m.ensures.read) (subst (λ x. JudgesInput c.args.set.now x c.judge_input.result (g.K.Sink.faults c.args.sink.now) (g.K.Sink.faults c.judge_input.new.sink) (g.K.Sink.held c.args.sink.now) (g.K.Sink.held c.judge_input.new.sink)) c.as_slice.ensures.value c.judge_input.ensures);
      few = m.ensures.few;
    }
