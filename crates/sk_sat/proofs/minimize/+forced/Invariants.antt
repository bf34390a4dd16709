use Rattle.std.proofs.Common.{◌≡◌, ◌+◌, ◌*◌, length, take}
use Rattle.sk_sat.specs.Analysis.{AreCovered}
use Rattle.sk_sat.specs.Marks.{MarksMore}
use Rattle.sk_sat.proofs.minimize.+forced.Given as goal

-- the chain that may still be followed
abbrev pub decreases-is_covered : goal.decreases-is_covered
decreases-is_covered l = 2 * l.fuel + 1

abbrev pub decreases-is_forced : goal.decreases-is_forced
decreases-is_forced l = 2 * l.fuel

-- the first literals of the reason are covered
abbrev pub invariant-is_forced-loop-packed : goal.invariant-is_forced-loop-packed
invariant-is_forced-loop-packed l = record {
  more : MarksMore l.known l.values l.reason l.level l.lits l.initial.kept l.initial.extra.items l.kept l.extra.items;
  long : length l.kept ≡ length l.initial.kept;
  covered : AreCovered l.level l.kept (take l.packed-index l.clause) l.l;
}
