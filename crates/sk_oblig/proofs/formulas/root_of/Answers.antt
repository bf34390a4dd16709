use Rattle.std.proofs.Common.{List, subst, sym}
use Rattle.sk_model.specs.declared.expanded.Input.{Input}
use Rattle.sk_oblig_queries.specs.declared.query.Query.{Query}
use Rattle.sk_oblig.specs.Formulas.{IsAsked, IsRoot, SaysWanted}
use Rattle.sk_oblig.proofs.Whole.{bad_root, bad_at_root, wanted_root}
use Rattle.sk_oblig.proofs.formulas.root_of.Goals as goal

pub returns-in_ok-r-in-Bad : goal.returns-in_ok-r-in-Bad
returns-in_ok-r-in-Bad c =
    let range = subst (λ (q : Query). IsAsked c.args.expanded.now q) c.in-Bad.is c.requires.asked in
    let is = bad_root c.requires.askable range c.in_ok-r-in-Bad.r c.in_ok-r-in-Bad.ensures.bad in
    record { root = subst (λ (q : Query). IsRoot c.bad.new.dag c.args.expanded.now c.args.bounds.now q c.in_ok-r-in-Bad.r) (sym c.in-Bad.is) is }

pub returns-in_ok-r-in-BadAt : goal.returns-in_ok-r-in-BadAt
returns-in_ok-r-in-BadAt c =
    let range = subst (λ (q : Query). IsAsked c.args.expanded.now q) c.in-BadAt.is c.requires.asked in
    let is = bad_at_root c.requires.askable range.0 c.in-BadAt.obligation c.in_ok-r-in-BadAt.r c.in_ok-r-in-BadAt.ensures.bad in
    record { root = subst (λ (q : Query). IsRoot c.bad_at.new.dag c.args.expanded.now c.args.bounds.now q c.in_ok-r-in-BadAt.r) (sym c.in-BadAt.is) is }

pub returns-in_ok-r-in-Wanted : goal.returns-in_ok-r-in-Wanted
returns-in_ok-r-in-Wanted c =
    let says = subst (λ (is : List Input). SaysWanted c.wanted.new.dag c.args.expanded.now c.args.bounds.now is c.in-Wanted.limit c.in_ok-r-in-Wanted.r) c.as_slice.ensures c.in_ok-r-in-Wanted.ensures.wanted in
    let is = wanted_root c.in-Wanted.inputs c.in-Wanted.limit c.in_ok-r-in-Wanted.r c.requires.askable says in
    record { root = subst (λ (q : Query). IsRoot c.wanted.new.dag c.args.expanded.now c.args.bounds.now q c.in_ok-r-in-Wanted.r) (sym c.in-Wanted.is) is }
