use Rattle.std.proofs.Common.{sym, subst, arith}
use Rattle.sk_cert.specs.Certificates.{HasItsVariables}
use Rattle.sk_cert.proofs.writer.push_uppers.Goals as goal

pub push_upper-requires : goal.push_upper-requires
push_upper-requires c = subst HasItsVariables (sym c.index-parts-i.is) (c.requires c.loop-i.i c.index-parts-i.result (omega arith))
