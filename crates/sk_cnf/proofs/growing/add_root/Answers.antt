use Rattle.sk_gates.proofs.ExtensionLaws.{Continues-same, Continues-trans, Continues-adds, on_err}
use Rattle.sk_cnf.proofs.CoverLaws.{Shows-continues, Shows-covers}
use Rattle.sk_cnf.proofs.growing.add_root.Goals as goal

pub demand-requires : goal.demand-requires
demand-requires c = c.truth_of-bit.ensures.within c.args.dag.now.bits _ (rw c.as_slice.ensures c.in_ok-encode_marked.ensures.covers.fits)

pub returns-clause-gains : goal.returns-clause-gains
returns-clause-gains c = record {
  mid = _;
  bit = c.truth_of-bit.result;
  covers = c.in_ok-encode_marked.ensures.covers;
  demands = c.in_ok-demand.ensures.ok;
  value = λ w v. rw c.as_slice.ensures at (c.truth_of-bit.ensures.value w v);
}

pub returns-in_err-demand-clause-refused : goal.returns-in_err-demand-clause-refused
returns-in_err-demand-clause-refused c =
    on_err _ (Shows-continues (Continues-same c.in_err-demand.ensures.err) (Shows-covers c.in_ok-encode_marked.ensures.covers))

pub returns-in_err-demand-clause-kept : goal.returns-in_err-demand-clause-kept
returns-in_err-demand-clause-kept c =
    on_err _ (Continues-trans (Continues-adds c.in_ok-encode_marked.ensures.covers.gate) (Continues-same c.in_err-demand.ensures.err))
