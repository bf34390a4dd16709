use Rattle.std.proofs.Common.{◌≡◌, drop, ◌+◌}
use Rattle.sk_sym_sites.specs.Counts.{stmts_count}
use Rattle.sk_sym_sites.proofs.passing.+pass_stmt.Given as goal

-- the sites passed so far, and those that are left
abbrev pub invariant-pass_stmts-loop-s : goal.invariant-pass_stmts-loop-s
invariant-pass_stmts-loop-s l = l.at + stmts_count (drop l.s-index l.ss) ≡ l.fn.at + stmts_count l.ss
