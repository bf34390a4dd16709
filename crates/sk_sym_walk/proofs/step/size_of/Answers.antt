use Rattle.std.proofs.Common.{◌≡◌, arith}
use Rattle.sk_model.specs.Parts.{value}
use Rattle.sk_sym_forms.proofs.Holes.{below_size}
use Rattle.sk_sym_walk.proofs.Places.{past_sites}
use Rattle.sk_sym_walk.proofs.step.size_of.Goals as goal

pub returns-then-site-sites : goal.returns-then-site-sites
returns-then-site-sites c = λ values h.
    let none : value values c.args.site ≡ 0 = past_sites c.args.sites.now values h c.args.site (omega arith) in
    omega (arith, none)

pub returns : goal.returns
returns c = λ values h. below_size c.args.sites.now values h c.args.site _ (omega arith)
