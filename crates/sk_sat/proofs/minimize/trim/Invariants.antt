use Rattle.std.proofs.Common.{◌≡◌, length}
use Rattle.sk_sat.proofs.ShortenLemmas.{Trims}
use Rattle.sk_sat.proofs.minimize.trim.Given as goal

abbrev pub invariant-loop-l : goal.invariant-loop-l
invariant-loop-l l = record {
  trims : Trims l.known l.values l.reason l.level l.lits l.fn.kept l.out l.l-index l.kept l.extra.items l.slim.items;
  long : length l.kept ≡ length l.fn.kept;
}
