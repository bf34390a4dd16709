use Rattle.sk_simplify.specs.Reduct.{KeepsRoots}
use Rattle.sk_sums.proofs.RootLemmas.{KeepsRoots-refl, KeepsRoots-trans, roots_there}
use Rattle.sk_sums.proofs.simpler.cancelled.Goals as goal

pub returns-then-not-any_is_set-clause-roots : goal.returns-then-not-any_is_set-clause-roots
returns-then-not-any_is_set-clause-roots c = KeepsRoots-refl c.args.first.dag c.args.first.roots c.requires.roots

pub simplify-requires : goal.simplify-requires
simplify-requires c =
    let sums : KeepsRoots c.args.first.dag c.args.first.roots c.in_ok-next.next.dag c.in_ok-next.next.roots =
    rw c.as_slice-roots.ensures at c.in_ok-next.ensures.roots in
    rw c.as_slice-3.ensures (roots_there sums)

pub returns-clause-roots : goal.returns-clause-roots
returns-clause-roots c =
    let sums : KeepsRoots c.args.first.dag c.args.first.roots c.in_ok-next.next.dag c.in_ok-next.next.roots =
    rw c.as_slice-roots.ensures at c.in_ok-next.ensures.roots in
    let last : KeepsRoots c.in_ok-next.next.dag c.in_ok-next.next.roots c.in_ok-last.last.dag c.in_ok-last.last.roots =
    rw c.as_slice-3.ensures at c.in_ok-last.ensures.roots in
    KeepsRoots-trans sums last
