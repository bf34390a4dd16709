use Rattle.std.proofs.Common.{◌∙◌, [], refl}
use Rattle.sk_cnf.proofs.StandingLaws.{IsEncoding-from}
use Rattle.sk_cnf.proofs.growing.encode.Goals as goal

pub require-requires-clause-begun : goal.require-requires-clause-begun
require-requires-clause-begun c =
    (record { bits = c.args.dag.now.bits; nodes = [] }, [], c.in_ok-growing.ensures.stands c.args.dag.now.bits, record { bits = refl; nodes = refl })

pub returns : goal.returns
returns c =
    let s = c.in_ok-require.ensures.stands (record { bits = c.args.dag.now.bits; nodes = [] }) [] (c.in_ok-growing.ensures.stands c.args.dag.now.bits) (record { bits = refl; nodes = refl }) in
    IsEncoding-from _ _ _ _ ((λ i. (c.require.ensures.leaves i).keys) ∙ c.in_ok-growing.ensures.leaves) s (c.in_ok-require.ensures.tight c.in_ok-growing.ensures.tight)
