use Rattle.std.proofs.Common.{◌≡◌, take}
use Rattle.sk_oblig_queries.specs.Widths.{sites_widths}
use Rattle.sk_oblig_queries.proofs.widths.site_widths.Given as goal

abbrev pub invariant-loop-site : goal.invariant-loop-site
invariant-loop-site l = l.widths ≡ sites_widths (take l.site-index l.sites)
