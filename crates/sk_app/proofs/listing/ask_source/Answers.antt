use Rattle.std.proofs.Common.{subst}
use Rattle.sk_front.specs.Texts.{most_bytes}
use Rattle.sk_app_reading.specs.Streams.{IsRead}
use Rattle.sk_app.specs.Effects.{RepliesTo, whole}
use Rattle.sk_app.proofs.listing.ask_source.Goals as goal

pub returns-in-Ok-Whole : goal.returns-in-Ok-Whole
returns-in-Ok-Whole g c =
    let m = c.in-Ok-Whole in
    record {
      asks = whole m.text.items (subst (λ x. IsRead most_bytes x (g.S.Source.faults c.args.source.now) (g.S.Source.faults c.read_text.new.source) (g.S.Source.left c.args.source.now)) m.field-0-is m.ensures.read) (subst (λ x. RepliesTo c.args.set.now c.args.question x c.reply.result (g.K.Sink.faults c.args.sink.now) (g.K.Sink.faults c.reply.new.sink) (g.K.Sink.held c.args.sink.now) (g.K.Sink.held c.reply.new.sink)) c.as_slice.ensures.value c.reply.ensures);
      few = m.ensures.few;
    }
