use Rattle.std.proofs.Common.{◌≡◌, ◌++◌, drop}
use Rattle.std.specs.List.{flat_map}
use Rattle.sk_print.specs.Layout.{const_layout}
use Rattle.sk_print.proofs.item.push_consts.Given as goal

abbrev pub invariant-loop-def : goal.invariant-loop-def
invariant-loop-def l =
    l.out.items ++ flat_map (const_layout l.fn.prog) (drop l.def-index l.defs)
    ≡ l.fn.out.items ++ flat_map (const_layout l.fn.prog) l.defs
