use Rattle.std.proofs.Common.{refl, ap, length, ◌∙◌}
use Rattle.std.proofs.lemmas.List.{length_push}
use Rattle.sk_clause.proofs.ValueLemmas.{length-assigned}
use Rattle.sk_sat.proofs.SettleLemmas.{decided_goes_on}
use Rattle.sk_sat.proofs.round.round_of.Goals as goal

pub returns-in_ok-decide-in-Some-choose : goal.returns-in_ok-decide-in-Some-choose
returns-in_ok-decide-in-Some-choose c = (
  refl,
  refl,
  decided_goes_on c.args.known.now c.args.trail.now c.propagate.new.trail c.decide.new.self c.in_ok-i.ensures.extends
      (c.in_ok-decide-in-Some-choose.ensures.trail c.args.known.now c.in_ok-i.ensures.trail)
      (ap length c.in_ok-decide-in-Some-choose.ensures.values ∙ length-assigned c.propagate.new.trail.values.items c.in-Some-choose.l)
      (ap length c.in_ok-decide-in-Some-choose.ensures.lits ∙ length_push c.propagate.new.trail.lits.items c.in-Some-choose.l)
      c.in_ok-decide-in-Some-choose.ensures.lims,
)
