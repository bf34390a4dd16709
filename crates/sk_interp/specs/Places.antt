-- What the code's words for targets and calls mean.
use Rattle.sk_interp.specs.declared.location.Root.{Root}
use Rattle.sk_interp.specs.declared.location.Root.TheVariants as root
use Rattle.sk_interp.specs.declared.location.Location.{Location}
use Rattle.sk_model.specs.Heap as model

abbrev pub root_of : Root → model.Root
root_of (root.Variable slot) = model.Variable slot
root_of (root.Field reference field) = model.Field reference field

abbrev pub location_of : Location → model.Location
location_of l = record { root = root_of l.root; indexes = l.indexes.items }
