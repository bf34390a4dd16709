use Rattle.std.proofs.Common.{◌≡◌}
use Rattle.sk_explain_causes.proofs.declared.push_declarations.Given as goal

-- the title stays
abbrev pub invariant-loop-word : goal.invariant-loop-word
invariant-loop-word l = l.told.title ≡ l.fn.told.title
