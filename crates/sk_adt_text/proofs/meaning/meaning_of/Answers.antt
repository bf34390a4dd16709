use Rattle.std.proofs.Common.{sym}
use Rattle.sk_adt_text.proofs.Answering.{has_span}
use Rattle.sk_adt_text.proofs.meaning.meaning_of.Goals as goal

pub returns-in-Err-Fault-clause-place : goal.returns-in-Err-Fault-clause-place
returns-in-Err-Fault-clause-place c =
    let m = c.in-Err-Fault in
    has_span c.args.tokens.now c.args.bytes c.in-Ok.tree m.fault _ c.placed.result m.field-0 c.in-Ok.ensures.found m.field-0-is (sym m.fault-is) m.ensures.place c.placed.ensures.place c.placed.ensures.order c.placed.ensures.within
