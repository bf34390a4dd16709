use Rattle.std.proofs.Common.{arith}
use Rattle.sk_gates.proofs.ExtensionLaws.{Continues-trans, on_err}
use Rattle.sk_cnf.proofs.CoverLaws.{Shows-continues, Shows-covers}
use Rattle.sk_cnf.proofs.growing.encode_marked.Goals as goal

pub loop-i-preserved : goal.loop-i-preserved
loop-i-preserved c =
    let inv = c.loop-i.invariant in
    let behind = c.encode_place.ensures.behind in
    record {
      covers = c.in_ok-encode_place.ensures.covers c.args.to.now inv.covers;
      behind = Continues-trans inv.behind behind;
      within = λ k d l. omega (arith, inv.within k d l, behind.vars);
    }

pub returns-in_err-encode_place-clause-refused : goal.returns-in_err-encode_place-clause-refused
returns-in_err-encode_place-clause-refused c =
    let shows = rw (← c.in_err-encode_place.ensures.refused) at (Shows-continues c.encode_place.ensures.behind (Shows-covers c.loop-i.invariant.covers)) in
    on_err _ shows
