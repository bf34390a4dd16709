use Rattle.sk_oblig.proofs.Listed.{spared}
use Rattle.sk_oblig.proofs.wanted.spares.Goals as goal

pub returns-clause-fine : goal.returns-clause-fine
returns-clause-fine c = spared c.args.input.now c.args.obligation c.as_slice.result.now c.in_ok-args.args c.as_slice-2.result.now c.in_ok-bad.bad c.in_ok-r.r c.requires.found c.as_slice.ensures c.as_slice-2.ensures c.in_ok-bad.ensures.keeps c.in_ok-r.ensures.keeps c.in_ok-args.ensures.constants c.in_ok-bad.ensures.check c.in_ok-r.ensures.there c.in_ok-r.ensures.value
