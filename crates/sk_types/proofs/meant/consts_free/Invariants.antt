use Rattle.std.proofs.Common.{◌≡◌, drop}
use Rattle.std.specs.List.{list_all}
use Rattle.sk_prog.specs.declared.prog.ConstDef.{ConstDef}
use Rattle.sk_types_rules.specs.Types.{is_free}
use Rattle.sk_types.proofs.meant.consts_free.Given as goal

-- the constants to come decide
abbrev pub invariant-loop-def : goal.invariant-loop-def
invariant-loop-def l = list_all (λ (c : ConstDef). is_free c.name) l.consts ≡ list_all (λ (c : ConstDef). is_free c.name) (drop l.def-index l.consts)
