use Rattle.std.proofs.Common.{◌≡◌, ◌++◌, take}
use Rattle.sk_oblig_queries.specs.Widths.{obligations_widths}
use Rattle.sk_oblig_queries.proofs.widths.push_obligations.Given as goal

abbrev pub invariant-loop-obligation : goal.invariant-loop-obligation
invariant-loop-obligation l = l.widths ≡ l.initial.widths ++ obligations_widths l.inbits l.prog (take l.obligation-index l.obligations)
