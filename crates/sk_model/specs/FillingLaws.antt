-- What a reader expects of fillings.
use Rattle.std.specs.Prelude.{◌≡◌, []}
use Rattle.sk_base.specs.declared.bounds.Bounds.{Bounds}
use Rattle.sk_model.specs.declared.expanded.Choice.{Choice}
use Rattle.sk_model.specs.declared.expanded.Expanded.{Expanded}
use Rattle.sk_model.specs.Sites.{sites}
use Rattle.sk_model.specs.Stands.{AgreeWhereStands}
use Rattle.sk_model.specs.Fill.{fill}

-- A filling has no sites.
abbrev pub FilledHasNoSites : Type 0
FilledHasNoSites = (bounds : Bounds) (e : Expanded) (a : Choice) → sites bounds (fill e a) ≡ []

-- A filling depends on the sites that stand alone: two choices that agree where the sites of the first stand
-- fill alike.
abbrev pub FilledByWhatStands : Type 0
FilledByWhatStands = (e : Expanded) (a b : Choice) → AgreeWhereStands e a.values b.values → fill e a ≡ fill e b
