-- What the target of an assignment may name, over nodes: which location it is goes by bits.
use Rattle.std.specs.Prelude.{List, if◌then◌else◌, ⊤}
use Rattle.sk_base.specs.declared.span.Span.{Span}
use Rattle.sk_dag.specs.declared.env.Env.{Env}
use Rattle.sk_dag.specs.declared.shape.Shape.{Shape}
use Rattle.sk_dag.specs.Graph.{Graph, HasBool}
use Rattle.sk_dag.specs.Eval.{bool_value}
use Rattle.sk_heap.specs.declared.slot.Slot.{Slot}
use Rattle.sk_prog.specs.declared.value.Value.{Value}
use Rattle.sk_model.specs.Step.{Comp}
use Rattle.sk_model.specs.Heap as model
use Rattle.sk_sym_state.specs.declared.setting.Setting.{Setting}
use Rattle.sk_sym_state.specs.declared.state.SymState.{SymState}
use Rattle.sk_sym_state.specs.Meaning.{Does, DoesOn}
use Rattle.sk_sym_stores.specs.declared.location.Location.{Location}
use Rattle.sk_sym_places.specs.declared.place.Place.{Place}
use Rattle.sk_sym_places.specs.declared.place.Place.TheOpen.{Place-F, One, Either}
use Rattle.sk_sym_places.specs.declared.place.Place.TheFolds.{fold-Place, every-Place}
use Rattle.sk_sym_stores.specs.Locations.{LocationIs, LocationStands}
use Rattle.sk_sym_stores.specs.Stores.{IsStored}

abbrev pub location_step : Graph → Env → Place-F Location → Location
location_step g e (One l) = l
location_step g e (Either cond first second) = if bool_value g e cond then first else second

-- the location that a place is in an environment: by each bit the one or the other
abbrev pub location_in : Graph → Env → Place → Location
location_in g e = fold-Place Location (location_step g e)

abbrev pub PartStands : Graph → Place-F Place → Type 0
PartStands d (One l) = LocationStands d l
PartStands d (Either cond first second) = HasBool d.nodes cond

-- each bit of it and each location that it may be stands
pub record PlaceStands (d : Graph) (p : Place) : Type 0 where
  pub parts : every-Place (PartStands d) p

-- it is this location
abbrev pub PlaceIs : Graph → Env → List Slot → Place → model.Location → Type 0
PlaceIs g e heap p = LocationIs g e heap (location_in g e p)

-- a place that is what an expression names as a target
pub record Places (x : Setting) (d0 d1 : Graph) (s0 s1 : SymState) (p : Place) (m : Env → Comp model.Location) : Type 0 where
  pub does : Does x d0 d1 s0 s1 (λ g e. PlaceIs g e s1.heap p) m
  pub there : PlaceStands d1 p

-- where something is stored, and what
abbrev pub IsPut : List Slot → Place → Shape → Graph → Env → model.Location × Value → Type 0
IsPut heap p r g e = IsStored heap (location_in g e p) r g e

-- the run stores a value at the location that a place is
pub record Puts (x : Setting) (d0 d1 : Graph) (s0 s1 : SymState) (span : Span) (p : Place) (r : Shape) : Type 0 where
  pub does : DoesOn x d0 d1 s0 s1 (IsPut s0.heap p r) (λ g e (u : Unit {0}). ⊤) (λ e q. model.store span q.0 q.1)
