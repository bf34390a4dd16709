use Rattle.std.proofs.Common.{subst}
use Rattle.sk_front.specs.Texts.{most_bytes}
use Rattle.sk_app_reading.specs.Streams.{IsRead}
use Rattle.sk_app.specs.Effects.{PrunesText, whole}
use Rattle.sk_app.proofs.prune.prune_source.Goals as goal

pub returns-in-Ok-Whole : goal.returns-in-Ok-Whole
returns-in-Ok-Whole g c =
    let m = c.in-Ok-Whole in
    record {
      prunes = whole m.text.items (subst (λ x. IsRead most_bytes x (g.S.Source.faults c.args.source.now) (g.S.Source.faults c.read_text.new.source) (g.S.Source.left c.args.source.now)) m.field-0-is m.ensures.read) (subst (λ x. PrunesText c.args.set.now x c.prune_text.result (g.K.Sink.faults c.args.sink.now) (g.K.Sink.faults c.prune_text.new.sink) (g.K.Sink.held c.args.sink.now) (g.K.Sink.held c.prune_text.new.sink)) c.as_slice.ensures.value c.prune_text.ensures);
      few = m.ensures.few;
    }
