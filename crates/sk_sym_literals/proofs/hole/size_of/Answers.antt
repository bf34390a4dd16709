use Rattle.std.proofs.Common.{arith}
use Rattle.sk_sym_literals.proofs.Holes.{below_size, beyond_size}
use Rattle.sk_sym_literals.proofs.hole.size_of.Goals as goal

pub returns : goal.returns
returns c = λ values h. below_size c.args.sites.now values h c.args.site _ (omega arith)

pub returns-then-site-sites : goal.returns-then-site-sites
returns-then-site-sites c = λ values h. beyond_size c.args.sites.now values h c.args.site (omega arith)
