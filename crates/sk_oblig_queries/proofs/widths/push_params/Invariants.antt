use Rattle.std.proofs.Common.{◌≡◌, ◌++◌, take}
use Rattle.sk_oblig_queries.specs.Widths.{params_widths}
use Rattle.sk_oblig_queries.proofs.widths.push_params.Given as goal

abbrev pub invariant-loop-param : goal.invariant-loop-param
invariant-loop-param l = l.widths ≡ l.initial.widths ++ params_widths l.inbits (take l.param-index l.params)
