use Rattle.std.proofs.Common.{◌≡◌, drop, ◌++◌, ◌+◌, length}
use Rattle.sk_model.specs.Sites.{stmts_sites}
use Rattle.sk_expand_sites.proofs.lister.+stmt.Given as goal

-- the sites so far, and those that are left
abbrev pub invariant-push_stmts-loop-s : goal.invariant-push_stmts-loop-s
invariant-push_stmts-loop-s l = record {
  listed : l.out ++ stmts_sites l.bounds (drop l.s-index l.ss) ≡ l.fn.out ++ stmts_sites l.bounds l.ss;
  counted : length l.out + length (stmts_sites l.bounds (drop l.s-index l.ss)) ≡ length l.fn.out + length (stmts_sites l.bounds l.ss);
}
