-- How large an expansion may be: at most 262,144 nodes, 4,096 sites, 262,144 steps over all obligations,
-- and 256 records that one obligation makes.
use Rattle.std.specs.Prelude.{ℕ, ◌≤◌, length}
use Rattle.sk_base.specs.declared.bounds.Bounds.{Bounds}
use Rattle.sk_model.specs.declared.expanded.Expanded.{Expanded}
use Rattle.sk_model.specs.Nodes.{nodes}
use Rattle.sk_model.specs.Steps.{steps}
use Rattle.sk_model.specs.News.{news}

abbrev pub most_nodes : ℕ
most_nodes = 262144

abbrev pub most_sites : ℕ
most_sites = 4096

abbrev pub most_steps : ℕ
most_steps = 262144

abbrev pub most_news : ℕ
most_news = 256

pub record IsWithinLimits (e : Expanded) (bounds : Bounds) : Type 0 where
  pub nodes_fit : nodes e.prog ≤ most_nodes
  pub sites_fit : length e.sites ≤ most_sites
  pub steps_fit : steps bounds e ≤ most_steps
  pub news_fit : news bounds e ≤ most_news
