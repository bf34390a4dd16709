use Rattle.std.proofs.Common.{subst}
use Rattle.sk_app_reading.specs.Streams.{IsRead}
use Rattle.sk_app.specs.Checks.{most_input}
use Rattle.sk_app.specs.Effects.{ChecksInput, whole}
use Rattle.sk_app.proofs.check.check_source.Goals as goal

pub returns-in-Ok-Whole : goal.returns-in-Ok-Whole
returns-in-Ok-Whole g c =
    let m = c.in-Ok-Whole in
    record {
      checks = whole m.input.items (subst (λ x. IsRead most_input x (g.S.Source.faults c.args.source.now) (g.S.Source.faults c.read_text.new.source) (g.S.Source.left c.args.source.now)) m.field-0-is m.ensures.read) (subst (λ x. ChecksInput c.args.set.now x c.check_input.result (g.K.Sink.faults c.args.sink.now) (g.K.Sink.faults c.check_input.new.sink) (g.K.Sink.held c.args.sink.now) (g.K.Sink.held c.check_input.new.sink)) c.as_slice.ensures.value c.check_input.ensures);
      few = m.ensures.few;
    }
