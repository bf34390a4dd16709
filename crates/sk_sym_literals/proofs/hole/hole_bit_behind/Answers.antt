use Rattle.std.proofs.Common.{◌+◌, ◌≤◌, length, arith}
use Rattle.sk_sym_literals.proofs.Holes.{beyond, chosen_false}
use Rattle.sk_sym_literals.proofs.hole.hole_bit_behind.Goals as goal
use Rattle.sk_sym_literals.proofs.hole.hole_bit_behind.Goals.{then-site-sites-via-then-site-sites, then-site-sites-via-else-site-sites+then-k-sites}

pub returns-then-site-sites-clause-chosen : goal.returns-then-site-sites-clause-chosen
returns-then-site-sites-clause-chosen c =
    let sites = c.args.expanded.now.sites in
    let far : length sites ≤ c.args.site + c.args.k = elim c.then-site-sites.branch [
      | then-site-sites-via-then-site-sites w ↦ omega (arith, c.len-sites.ensures, w.if-site-sites.true)
      | then-site-sites-via-else-site-sites+then-k-sites w ↦ omega (arith, c.len-sites.ensures, w.if-site-sites.false, w.if-k-sites.true)
    ] in
    chosen_false c.args.dag.now.bits (c.args.site + c.args.k) c.in_ok-r.ensures.given (λ values fits. beyond sites values fits (c.args.site + c.args.k) far)
