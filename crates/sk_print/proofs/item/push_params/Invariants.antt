use Rattle.std.proofs.Common.{◌≡◌, ◌++◌, drop, codes}
use Rattle.std.specs.List.{join_by}
use Rattle.sk_print.specs.Joined.{joined_from}
use Rattle.sk_print.specs.Layout.{param_layout}
use Rattle.sk_print.proofs.item.push_params.Given as goal

abbrev pub invariant-loop-p : goal.invariant-loop-p
invariant-loop-p l =
    l.out.items ++ joined_from l.is_first (param_layout l.fn.prog) (codes ", ") (drop l.p-index l.params)
    ≡ l.fn.out.items ++ join_by (param_layout l.fn.prog) (codes ", ") l.params
