use Rattle.std.proofs.Common.{◌≡◌, ◌++◌, drop}
use Rattle.std.specs.List.{flat_map}
use Rattle.sk_print.specs.Layout.{fun_layout}
use Rattle.sk_print.proofs.item.push_funs.Given as goal

abbrev pub invariant-loop-f : goal.invariant-loop-f
invariant-loop-f l =
    l.out.items ++ flat_map (fun_layout l.fn.prog) (drop l.f-index l.funs)
    ≡ l.fn.out.items ++ flat_map (fun_layout l.fn.prog) l.funs
