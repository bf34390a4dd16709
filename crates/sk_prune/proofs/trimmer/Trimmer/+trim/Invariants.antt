use Rattle.std.proofs.Common.{◌≡◌, drop, map, ◌++◌}
use Rattle.sk_prune.specs.Trimmed.{up_to_end, any_ends, bodies}
use Rattle.sk_prune.specs.Trims.{trim_of}
use Rattle.sk_prune.proofs.trimmer.Trimmer.+trim.Given as goal

-- what statements became so far, none of which ends, and what those from here become
abbrev pub invariant-up_to_end-loop-s : goal.invariant-up_to_end-loop-s
invariant-up_to_end-loop-s l = record {
  stmts : l.stmts.items ++ up_to_end (map (trim_of l.self) (drop l.s-index l.ss)) ≡ up_to_end (map (trim_of l.self) l.ss);
  ends : any_ends (map (trim_of l.self) (drop l.s-index l.ss)) ≡ any_ends (map (trim_of l.self) l.ss);
}

abbrev pub invariant-bodies-loop-s : goal.invariant-bodies-loop-s
invariant-bodies-loop-s l = l.made.items ++ bodies l.span (map (trim_of l.self) (drop l.s-index l.ss)) ≡ bodies l.span (map (trim_of l.self) l.ss)
