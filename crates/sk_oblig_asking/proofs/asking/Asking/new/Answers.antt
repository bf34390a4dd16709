use Rattle.std.proofs.Common.{[]}
use Rattle.sk_oblig.proofs.Speaking.{keeps_width}
use Rattle.sk_oblig_asking.proofs.Growth.{begun, grows_empty}
use Rattle.sk_oblig_asking.proofs.asking.Asking.new.Goals as goal

pub require-requires-clause-begun : goal.require-requires-clause-begun
require-requires-clause-begun c = (record { bits = c.in_range.new.dag.bits; nodes = [] }, [], c.in_ok-growing.ensures.stands c.in_range.new.dag.bits, grows_empty c.in_range.new.dag)

pub returns : goal.returns
returns c =
    let grows = grows_empty c.in_range.new.dag in
    let stands = c.in_ok-require.ensures.stands (record { bits = c.in_range.new.dag.bits; nodes = [] }) [] (c.in_ok-growing.ensures.stands c.in_range.new.dag.bits) grows in
    record {
      asking = begun _ c.in_ok-growing.growing c.as_slice.result.now _ c.in_ok-leaves.leaves c.as_slice-2.result.now c.in_ok-root.root c.requires.askable (keeps_width c.in_ok-root.ensures.keeps c.new-dag.ensures.bits) c.as_slice.ensures c.in_ok-root.ensures.range c.new.ensures c.in_ok-leaves.ensures.leaves c.in_ok-leaves.ensures.count c.as_slice-2.ensures c.in_ok-growing.ensures.leaves stands (c.in_ok-require.ensures.tight c.in_ok-growing.ensures.tight) c.in_ok-require.ensures.leaves;
    }
