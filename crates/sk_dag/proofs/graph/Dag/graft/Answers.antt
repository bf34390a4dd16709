use Rattle.std.proofs.Common.{◌∷◌, [], arith, refl}
use Rattle.std.proofs.lemmas.Option.{slice_get_within}
use Rattle.sk_dag.proofs.ReachLemmas.{IsClosed-reached, root_stands, StandsFor-bool, IsCopied-marked}
use Rattle.sk_dag.proofs.graph.Dag.graft.Goals as goal

pub copy_marked-requires-clause-closed : goal.copy_marked-requires-clause-closed
copy_marked-requires-clause-closed c = rw c.as_slice.ensures (IsClosed-reached _ _ _ c.in_ok-marks.ensures)

pub new_bool_id-requires : goal.new_bool_id-requires
new_bool_id-requires c =
    let root = slice_get_within c.args.other.now.nodes c.args.root.index c.requires.root.node c.requires.root.found in
    rw c.deref.ensures.value (omega (arith, c.in_ok-numbers.ensures.copied.length))

pub returns-clause-value : goal.returns-clause-value
returns-clause-value c =
    let copied = rw c.as_slice.ensures at c.in_ok-numbers.ensures.copied in
    rw (c.new_bool_id.ensures, c.deref.ensures.value)
    (StandsFor-bool _ c.args.root (root_stands _ _ c.args.root c.in_ok-marks.ensures copied c.requires.root))

pub returns-clause-there : goal.returns-clause-there
returns-clause-there c =
    let copied = rw c.as_slice.ensures at c.in_ok-numbers.ensures.copied in
    rw (c.new_bool_id.ensures, c.deref.ensures.value)
    ((root_stands _ _ c.args.root c.in_ok-marks.ensures copied c.requires.root).sorts _ c.requires.root)

pub returns-clause-copied : goal.returns-clause-copied
returns-clause-copied c =
    let copies = rw c.as_slice.ensures at c.in_ok-numbers.ensures.copies in
    let only = rw c.as_slice.ensures at c.in_ok-numbers.ensures.only in
    record { numbers = _; copied = IsCopied-marked _ _ (c.args.root ∷ []) c.in_ok-marks.ensures copies only; answer = rw (c.new_bool_id.ensures, c.deref.ensures.value) refl }
