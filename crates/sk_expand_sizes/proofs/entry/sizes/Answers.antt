use Rattle.sk_expand_sizes.proofs.AnswerLaws.{found, only_steps, only_news, others}
use Rattle.sk_expand_sizes.proofs.entry.sizes.Goals as goal

pub returns-clause-found : goal.returns-clause-found
returns-clause-found c = found c.args.bounds.now c.args.expanded.now c.sized.result c.sized.ensures

pub returns-clause-steps : goal.returns-clause-steps
returns-clause-steps c = only_steps c.args.bounds.now c.args.expanded.now c.sized.result c.sized.ensures

pub returns-clause-news : goal.returns-clause-news
returns-clause-news c = only_news c.args.bounds.now c.args.expanded.now c.sized.result c.sized.ensures

pub returns-clause-others : goal.returns-clause-others
returns-clause-others c = others c.args.bounds.now c.args.expanded.now c.sized.result c.sized.ensures
