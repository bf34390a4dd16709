use Rattle.std.proofs.Common.{◌<◌, ℕ, All, length, false, refl}
use Rattle.std.proofs.lemmas.List.Elements.{All-push}
use Rattle.std.proofs.lemmas.Option.{slice_get-get_or}
use Rattle.sk_dag.specs.declared.node.Node.TheVariants.{Flag}
use Rattle.sk_dag.proofs.BelowLemmas.{given-words, words_of_all, value_from_table, child_within}
use Rattle.sk_dag.proofs.below.step.Goals as goal

pub value_of-value-requires-clause-words : goal.value_of-value-requires-clause-words
value_of-value-requires-clause-words c =
    given-words c.args.table.now _ c.requires.table (words_of_all _ c.args.env.now _ c.requires.well_formed)

pub returns-in_ok-push-in-Some-2-clause-waiting : goal.returns-in_ok-push-in-Some-2-clause-waiting
returns-in_ok-push-in-Some-2-clause-waiting c =
    let there = slice_get-get_or c.args.nodes.now c.args.index (Flag false) c.requires.index in
    let within = child_within _ _ c.args.index c.in-Some.child _ c.requires.well_formed there c.requires.index c.in-Some.ensures.some in
    let P : ℕ → Type 0 = λ i. i < length c.args.nodes.now in
    let first : All P c.push.new.self.items = rw c.in_ok-push-in-Some.ensures.items (All-push P _ c.args.index c.requires.waiting c.requires.index) in
    rw c.in_ok-push-in-Some-2.ensures.items (All-push P _ c.in-Some.child first within)

pub returns-in_ok-insert-in-None-clause-table : goal.returns-in_ok-insert-in-None-clause-table
returns-in_ok-insert-in-None-clause-table c =
    let there = slice_get-get_or c.args.nodes.now c.args.index (Flag false) c.requires.index in
    c.in_ok-insert-in-None.ensures _ c.requires.table
    (value_from_table _ c.args.env.now _ c.args.index _ _ c.args.table.now c.requires.well_formed there c.requires.table (c.in-None.ensures.none refl) c.value_of-value.ensures)
