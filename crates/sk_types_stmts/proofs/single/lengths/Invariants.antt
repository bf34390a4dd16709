use Rattle.std.proofs.Common.{◌≡◌, drop, ◌++◌}
use Rattle.std.specs.Prelude.{map}
use Rattle.sk_types_names.specs.Envs.{context_of}
use Rattle.sk_types_rules.specs.Constants.{constant_number}
use Rattle.sk_types_stmts.proofs.single.lengths.Given as goal

-- the numbers so far and those to come
abbrev pub invariant-loop-length : goal.invariant-loop-length
invariant-loop-length l = l.numbers ++ map (constant_number (context_of l.env) l.scope) (drop l.length-index l.lengths) ≡ map (constant_number (context_of l.env) l.scope) l.lengths
