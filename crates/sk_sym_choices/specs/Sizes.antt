-- Values of sites that are below their sizes.
use Rattle.std.specs.Prelude.{ℕ, ◌<◌, List, length, get_or}
use Rattle.sk_model.specs.declared.expanded.Site.{Site}
use Rattle.sk_model.specs.Parts.{value}

-- each value is below the size of its site, as those of a choice in range are
pub record AreInRange (sites : List Site) (values : List ℕ) : Type 0 where
  pub each : (i : ℕ) (other : Site) → i < length sites → value values i < (get_or sites i other).size
