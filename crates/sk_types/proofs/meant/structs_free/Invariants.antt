use Rattle.std.proofs.Common.{◌≡◌, drop}
use Rattle.std.specs.Prelude.{◌&&◌}
use Rattle.std.specs.List.{list_all}
use Rattle.sk_prog.specs.declared.prog.StructDef.{StructDef}
use Rattle.sk_types_rules.specs.Types.{is_free, struct_free}
use Rattle.sk_types.proofs.meant.structs_free.Given as goal

-- the structs to come decide
abbrev pub invariant-loop-def : goal.invariant-loop-def
invariant-loop-def l = list_all (λ (d : StructDef). is_free d.name && struct_free d) l.defs ≡ list_all (λ (d : StructDef). is_free d.name && struct_free d) (drop l.def-index l.defs)
