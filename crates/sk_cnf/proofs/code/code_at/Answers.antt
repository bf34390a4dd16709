use Rattle.std.proofs.Common.{sym}
use Rattle.sk_cnf.proofs.CodeLaws.{none_at}
use Rattle.sk_cnf.proofs.code.code_at.Goals as goal

pub returns-in-None : goal.returns-in-None
returns-in-None c = sym (none_at c.args.codes.now c.args.i (sym c.in-None.ensures))
