use Rattle.std.proofs.Common.{◌≡◌, slice_index}
use Rattle.std.proofs.lemmas.List.{get_or_read}
use Rattle.sk_dag.specs.Eval.{IsNode}
use Rattle.sk_dag.specs.declared.node.Node.TheVariants.{Xor, Not}
use Rattle.sk_sums.proofs.SumLemmas.{value_xor, value_not}
use Rattle.sk_sums.proofs.spread.follow.Goals as goal

pub returns-in_ok-add-in-Xor-2-clause-there : goal.returns-in_ok-add-in-Xor-2-clause-there
returns-in_ok-add-in-Xor-2-clause-there c =
    let node : IsNode c.args.dag.now c.index.result.now (Xor c.in-Xor.a c.in-Xor.b) = rw c.in-Xor.is at c.node.ensures in
    let first = c.take_away.ensures.there c.args.dag.now c.requires.there in
    let second = c.in_ok-add-in-Xor.ensures.there c.args.dag.now node.children.0 first in
    c.in_ok-add-in-Xor-2.ensures.there c.args.dag.now node.children.1 second

pub returns-in_ok-add-in-Xor-2-clause-value : goal.returns-in_ok-add-in-Xor-2-clause-value
returns-in_ok-add-in-Xor-2-clause-value c =
    let items = c.args.sum.now.terms.items in
    let read : c.index.result.now ≡ slice_index items c.args.place = get_or_read items c.args.place _ c.requires.place c.index.ensures 0 in
    let node : IsNode c.args.dag.now c.index.result.now (Xor c.in-Xor.a c.in-Xor.b) = rw c.in-Xor.is at c.node.ensures in
    let here : IsNode c.args.dag.now (slice_index items c.args.place) (Xor c.in-Xor.a c.in-Xor.b) = rw read at node in
    value_xor c.args.sum.now c.take_away.new.sum c.add.new.sum c.add-in-Xor.new.sum here c.take_away.ensures.value c.in_ok-add-in-Xor.ensures.value c.in_ok-add-in-Xor-2.ensures.value

pub returns-in_ok-add-in-Not-clause-value : goal.returns-in_ok-add-in-Not-clause-value
returns-in_ok-add-in-Not-clause-value c =
    let items = c.args.sum.now.terms.items in
    let read : c.index.result.now ≡ slice_index items c.args.place = get_or_read items c.args.place _ c.requires.place c.index.ensures 0 in
    let node : IsNode c.args.dag.now c.index.result.now (Not c.in-Not.a) = rw c.in-Not.is at c.node.ensures in
    let here : IsNode c.args.dag.now (slice_index items c.args.place) (Not c.in-Not.a) = rw read at node in
    value_not c.args.sum.now c.take_away-in-Not.new.sum c.turn.new.sum c.add-in-Not.new.sum here c.take_away-in-Not.ensures.value c.turn.ensures.value c.in_ok-add-in-Not.ensures.value
