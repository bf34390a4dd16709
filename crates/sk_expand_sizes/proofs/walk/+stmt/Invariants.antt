use Rattle.std.proofs.Common.{◌≡◌, drop}
use Rattle.sk_expand_sizes.specs.Count.{stmts_counted}
use Rattle.sk_expand_sizes.proofs.walk.+stmt.Given as goal

-- what is still to be walked over, after what was walked over, is the whole
abbrev pub invariant-stmts-loop-s : goal.invariant-stmts-loop-s
invariant-stmts-loop-s l = stmts_counted l.turns (drop l.s-index l.ss) l.times l.count ≡ stmts_counted l.turns l.ss l.times l.fn.count
