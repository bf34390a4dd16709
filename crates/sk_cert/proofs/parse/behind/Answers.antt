use Rattle.std.proofs.Common.{◌∙◌, sym, ap}
use Rattle.sk_cert.specs.Words.{behind}
use Rattle.sk_cert.proofs.Gathered.{piece_first, behind_short}
use Rattle.sk_cert.proofs.parse.behind.Goals as goal

pub returns-in-None : goal.returns-in-None
returns-in-None c = behind_short c.args.kind.now c.args.line.now c.in-None.ensures.place

pub returns-in-Some : goal.returns-in-Some
returns-in-Some c =
    c.behind_first.ensures
    ∙ sym (ap (λ ws. behind c.args.kind.now ws) (piece_first 32 c.in-Some.at c.before-in-Some.result.now c.after.result.now c.args.line.now c.before-in-Some.ensures c.after.ensures c.in-Some.ensures.place))
