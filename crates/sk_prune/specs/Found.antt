-- What code holds of the functions that are found.
use Rattle.sk_prune.specs.declared.reached.Reach.{Reach}
use Rattle.sk_prune.specs.Reached.{Reached}

abbrev pub as_reached : Reach → Reached
as_reached r = record { marks = r.marks.items; found = r.found.items }
