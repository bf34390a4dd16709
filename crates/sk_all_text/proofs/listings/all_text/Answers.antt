use Rattle.sk_built_laws.proofs.Refusals.{refused, taken}
use Rattle.sk_all_text.specs.AllTexts.{TellsAll, TellsMore, TellsListing}
use Rattle.sk_all_text.proofs.Answering.{is_all, is_more}
use Rattle.sk_all_text.proofs.listings.all_text.Goals as goal

pub returns-clause-only : goal.returns-clause-only
returns-clause-only g c = refused c.args.set.now c.args.text.now (λ out. TellsListing c.args.most out.items) c.listed.result c.listed.ensures.found c.listed.ensures.fault

pub returns-clause-all : goal.returns-clause-all
returns-clause-all g c bounds e built few = taken c.args.set.now c.args.text.now (λ out. TellsListing c.args.most out.items) (λ out. TellsAll c.args.most out.items bounds e) bounds e built (λ out told. is_all bounds e c.args.most few out.items told) c.listed.result c.listed.ensures.found c.listed.ensures.fault

pub returns-clause-more : goal.returns-clause-more
returns-clause-more g c bounds e built many = taken c.args.set.now c.args.text.now (λ out. TellsListing c.args.most out.items) (λ out. TellsMore c.args.most out.items bounds e) bounds e built (λ out told. is_more bounds e c.args.most many out.items told) c.listed.result c.listed.ensures.found c.listed.ensures.fault
