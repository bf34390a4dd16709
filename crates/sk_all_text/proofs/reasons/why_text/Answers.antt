use Rattle.sk_built_laws.proofs.Refusals.{refused, taken}
use Rattle.sk_all_text.specs.AllTexts.{TellsReasons, IsExplained, IsMet}
use Rattle.sk_all_text.proofs.Answering.{is_met, is_explained}
use Rattle.sk_all_text.proofs.reasons.why_text.Goals as goal

pub returns-clause-only : goal.returns-clause-only
returns-clause-only g c = refused c.args.set.now c.args.text.now TellsReasons c.explained.result c.explained.ensures.found c.explained.ensures.fault

pub returns-clause-met : goal.returns-clause-met
returns-clause-met g c bounds e built choice meets = taken c.args.set.now c.args.text.now TellsReasons IsMet bounds e built (is_met bounds e choice meets) c.explained.result c.explained.ensures.found c.explained.ensures.fault

pub returns-clause-explained : goal.returns-clause-explained
returns-clause-explained g c bounds e built none = taken c.args.set.now c.args.text.now TellsReasons IsExplained bounds e built (is_explained bounds e none) c.explained.result c.explained.ensures.found c.explained.ensures.fault
