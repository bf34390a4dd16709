-- what the solver tells
use Rattle.std.proofs.Common.{Bool, List, map, ap, ◌∙◌}
use Rattle.sk_clause.specs.Meaning.{valuation}
use Rattle.sk_oblig_queries.specs.Said.{choice_said}
use Rattle.sk_all_listing.proofs.Proposals.{some_proposed, none_proposed}
use Rattle.sk_all_listing.proofs.proposing.propose.Goals as goal

pub returns-in-Sat : goal.returns-in-Sat
returns-in-Sat g c =
    some_proposed c.in_ok-encoded.encoded c.exclude.new.encoded c.args.expanded.now c.args.bounds.now c.in_ok-query.query c.args.inputs.now c.args.listed.now c.in_ok-values.field-0 c.in-Sat.values c.in_ok-choice-in-Sat.choice
    c.in_ok-exclude.ensures.exact c.in_ok-query.ensures c.in_ok-encoded.ensures.asks c.in_ok-exclude.ensures.names c.in-Sat.is c.in_ok-values.ensures
    (c.in_ok-choice-in-Sat.ensures.said ∙ ap (λ (bits : List Bool). choice_said c.args.expanded.now.sites (map (valuation bits) c.exclude.new.encoded.names)) c.as_slice.ensures)

pub returns-in-Unsat : goal.returns-in-Unsat
returns-in-Unsat g c =
    none_proposed c.in_ok-encoded.encoded c.exclude.new.encoded c.args.expanded.now c.args.bounds.now c.in_ok-query.query c.args.inputs.now c.args.listed.now c.in_ok-values.field-0 c.in-Unsat.field-0
    c.requires.askable c.in_ok-exclude.ensures.exact c.in_ok-query.ensures c.in_ok-encoded.ensures.asks c.in-Unsat.is c.in_ok-values.ensures
