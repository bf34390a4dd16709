use Rattle.sk_all_exclusions.proofs.Excluded.{are_exact, excluded_all}
use Rattle.sk_all_exclusions.proofs.excluding.exclude.Goals as goal

-- the clauses of all that are listed stand behind the old ones
pub returns-clause-exact : goal.returns-clause-exact
returns-clause-exact c =
    are_exact c.args.expanded.now c.args.encoded.now c.loop-i.encoded c.args.listed.now c.requires.narrow c.requires.names c.requires.listed
    (excluded_all c.args.expanded.now c.args.encoded.now.names c.args.listed.now c.loop-i.i c.args.encoded.now.clauses.clauses c.loop-i.encoded.clauses.clauses c.loop-i-test.false c.loop-i.invariant.clauses)
