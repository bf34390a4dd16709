use Rattle.std.proofs.Common.{◌≡◌, drop, ◌++◌}
use Rattle.sk_types_rules.specs.Rules.{◌>>=◌}
use Rattle.sk_types_names.specs.Envs.{context_of}
use Rattle.sk_types_laws.specs.Making.{make_all, makes}
use Rattle.sk_types_stmts.proofs.block.+making.Given as goal

-- the statements so far and those to come are all statements
abbrev pub invariant-make_all-loop-stmt : goal.invariant-make_all-loop-stmt
invariant-make_all-loop-stmt l = make_all (context_of l.env) l.returns l.stmts l.from l.fn.scope ≡ (make_all (context_of l.env) l.returns (drop l.stmt-index l.stmts) l.from l.scope >>= λ rest. makes (l.made ++ rest.made) rest.scope)
