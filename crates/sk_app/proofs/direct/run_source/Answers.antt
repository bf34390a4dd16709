use Rattle.std.proofs.Common.{subst}
use Rattle.sk_front.specs.Texts.{HasSpan}
use Rattle.sk_front.specs.Texts.{most_bytes}
use Rattle.sk_app_reading.specs.Streams.{IsRead}
use Rattle.sk_app.specs.Effects.{RunsText, whole}
use Rattle.sk_app.proofs.EndingLemmas.{whole_place}
use Rattle.sk_app.proofs.direct.run_source.Goals as goal

pub returns-in-Ok-Whole : goal.returns-in-Ok-Whole
returns-in-Ok-Whole g c =
    let m = c.in-Ok-Whole in
    record {
      runs = whole m.text.items (subst (λ x. IsRead most_bytes x (g.S.Source.faults c.args.source.now) (g.S.Source.faults c.read_text.new.source) (g.S.Source.left c.args.source.now)) m.field-0-is m.ensures.read) (subst (λ x. RunsText c.args.set.now c.args.job.now x c.run_text.result (g.K.Sink.faults c.args.sink.now) (g.K.Sink.faults c.run_text.new.sink) (g.K.Sink.held c.args.sink.now) (g.K.Sink.held c.run_text.new.sink)) c.as_slice.ensures.value c.run_text.ensures.runs);
      place = λ fault e. whole_place (g.S.Source.left c.args.source.now) m.text.items fault (subst (λ x. IsRead most_bytes x (g.S.Source.faults c.args.source.now) (g.S.Source.faults c.read_text.new.source) (g.S.Source.left c.args.source.now)) m.field-0-is m.ensures.read) (subst (λ x. HasSpan x fault.span) c.as_slice.ensures.value (c.run_text.ensures.place fault e));
      few = m.ensures.few;
    }
