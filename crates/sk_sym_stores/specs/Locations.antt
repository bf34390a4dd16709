-- What the target of an assignment names, over nodes.
use Rattle.std.specs.Prelude.{◌≡◌, List, ◌∷◌, [], ◌++◌, map, All}
use Rattle.sk_dag.specs.declared.env.Env.{Env}
use Rattle.sk_dag.specs.declared.node.WordId.{WordId}
use Rattle.sk_dag.specs.declared.shape.Shape.{Shape}
use Rattle.sk_dag.specs.declared.shape.Shape.TheVariants as shape
use Rattle.sk_dag.specs.Graph.{Graph, HasWord}
use Rattle.sk_dag.specs.Eval.{word_value}
use Rattle.sk_arr.specs.Shapes.{Stands}
use Rattle.sk_heap.specs.declared.slot.Slot.{Slot}
use Rattle.sk_model.specs.Step.{Comp}
use Rattle.sk_model.specs.Heap as model
use Rattle.sk_sym_state.specs.declared.setting.Setting.{Setting}
use Rattle.sk_sym_state.specs.declared.state.SymState.{SymState}
use Rattle.sk_sym_state.specs.Seen.{IsWorth}
use Rattle.sk_sym_state.specs.Meaning.{Does}
use Rattle.sk_sym_stores.specs.declared.location.Location.{Location}
use Rattle.sk_sym_stores.specs.declared.location.Root.{Root}
use Rattle.sk_sym_stores.specs.declared.location.Root.TheVariants.{Variable, Field}

-- the variable, or the field of what the reference is worth
abbrev pub RootIs : Graph → Env → List Slot → Root → model.Root → Type 0
RootIs g e heap (Variable slot) (model.Variable n) = n ≡ slot
RootIs g e heap (Variable slot) (model.Field v k) = ⊥
RootIs g e heap (Field reference kind field) (model.Variable n) = ⊥
RootIs g e heap (Field reference kind field) (model.Field v k) = IsWorth g e heap reference v × (k ≡ field)

-- it begins there, and its indexes are what the words are
pub record LocationIs (g : Graph) (e : Env) (heap : List Slot) (l : Location) (at : model.Location) : Type 0 where
  pub root : RootIs g e heap l.root at.root
  pub indexes : at.indexes ≡ map (word_value g e) l.indexes

pub record AreWords (d : Graph) (list : List WordId) : Type 0 where
  pub each : All (HasWord d.nodes) list

abbrev pub RootStands : Graph → Root → Type 0
RootStands d (Variable slot) = Unit {0}
RootStands d (Field reference kind field) = Stands d reference

pub record LocationStands (d : Graph) (l : Location) : Type 0 where
  pub root : RootStands d l.root
  pub indexes : AreWords d l.indexes

-- a location that is what an expression names as a target
pub record Locates (x : Setting) (d0 d1 : Graph) (s0 s1 : SymState) (l : Location) (m : Env → Comp model.Location) : Type 0 where
  pub does : Does x d0 d1 s0 s1 (λ g e. LocationIs g e s1.heap l) m
  pub there : LocationStands d1 l

-- one index more, which is a word
pub record IsIndexed (old new : Location) (index : Shape) : Type 0 where
  pub word : WordId
  pub is : index ≡ shape.Int word
  pub now : new ≡ record { root = old.root; indexes = old.indexes ++ word ∷ [] }
