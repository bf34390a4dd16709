-- What a state over nodes is in an environment: a run that goes on from a state, or one that has ended.
--
-- The variables in scope are the first of those of the call; of those behind them nothing is said.
use Rattle.std.specs.Prelude.{◌≡◌, ◌≤◌, true, false, List, ◌++◌, Option, Some, None, ◌⊎◌}
use Rattle.sk_dag.specs.declared.env.Env.{Env}
use Rattle.sk_dag.specs.declared.shape.Shape.{Shape}
use Rattle.sk_dag.specs.Graph.{Graph}
use Rattle.sk_dag.specs.Eval.{bool_value, cost_value}
use Rattle.sk_prog.specs.declared.value.Value.{Value}
use Rattle.sk_prog.specs.declared.prog.Fun.{Fun}
use Rattle.sk_heap.specs.declared.slot.Slot.{Slot}
use Rattle.sk_model.specs.Step.{State, Step, Goes, Fails, Skips}
use Rattle.sk_model.specs.Exec.{Flow, Onward, Returns}
use Rattle.sk_model.specs.Run.{result_of, refs_from}
use Rattle.sk_heap_laws.specs.Values.{values_in}
use Rattle.sk_heap_laws.specs.Heaps.{heap_value, HeapLive, HeapGrows, HoldAlike, AreFree}
use Rattle.sk_sym_state.specs.Seen.{ShapesLive, IsWorth, AreWorth}
use Rattle.sk_sym_state.specs.declared.state.Ended.{Ended}
use Rattle.sk_sym_state.specs.declared.state.SymState.{SymState}

-- the shapes are worth the first of the values
pub record AreFrontOf (g : Graph) (e : Env) (heap : List Slot) (list : List Shape) (values : List Value) : Type 0 where
  pub behind : List Value
  pub whole : values ≡ values_in g e heap list ++ behind
  pub live : ShapesLive g e heap list

-- it is a run that goes on from this state
pub record Shows (g : Graph) (e : Env) (s : SymState) (at : State) : Type 0 where
  pub path : bool_value g e s.path ≡ true
  pub failed : bool_value g e s.failed ≡ false
  pub skipped : bool_value g e s.skipped ≡ false
  pub returned : bool_value g e s.frame.returned ≡ false
  pub cost : cost_value g e s.cost ≡ at.cost
  pub heap : heap_value g e s.heap ≡ at.heap
  pub lives : HeapLive g e s.heap
  pub slots : AreFrontOf g e s.heap s.frame.slots at.slots
  pub free : AreFree g e s.heap s.cursor

-- it is a run that has failed
pub record HasFailed (g : Graph) (e : Env) (s : SymState) : Type 0 where
  pub path : bool_value g e s.path ≡ false
  pub failed : bool_value g e s.failed ≡ true
  pub skipped : bool_value g e s.skipped ≡ false
  pub returned : bool_value g e s.frame.returned ≡ false

-- it is a run that is skipped
pub record HasSkipped (g : Graph) (e : Env) (s : SymState) : Type 0 where
  pub path : bool_value g e s.path ≡ false
  pub failed : bool_value g e s.failed ≡ false
  pub skipped : bool_value g e s.skipped ≡ true
  pub returned : bool_value g e s.frame.returned ≡ false

-- the result of a function: nothing is asked where it has none
abbrev pub ResultIs : Graph → Env → List Slot → Option Shape → Option Value → Type 0
ResultIs g e heap r None = Unit {0}
ResultIs g e heap None (Some v) = ⊥
ResultIs g e heap (Some r) (Some v) = IsWorth g e heap r v

-- a call that has ended with this result and these final values of its `ref` parameters
abbrev pub EndedIs : Graph → Env → List Slot → Option Ended → Option Value → List Value → Type 0
EndedIs g e heap None v refs = ⊥
EndedIs g e heap (Some ended) v refs = ResultIs g e heap ended.result v × AreWorth g e heap ended.refs refs

-- it is a run whose active call, of this function, has returned so
pub record HasReturned (g : Graph) (e : Env) (fun : Fun) (s : SymState) (v : Option Value) (at : State) : Type 0 where
  pub path : bool_value g e s.path ≡ false
  pub failed : bool_value g e s.failed ≡ false
  pub skipped : bool_value g e s.skipped ≡ false
  pub returned : bool_value g e s.frame.returned ≡ true
  pub cost : cost_value g e s.cost ≡ at.cost
  pub heap : heap_value g e s.heap ≡ at.heap
  pub lives : HeapLive g e s.heap
  pub ended : EndedIs g e s.heap s.frame.ended (result_of fun.result (Returns v)) (refs_from 0 fun.params at.slots)
  pub free : AreFree g e s.heap s.frame.most

-- it is what a statement of this function does
abbrev pub SeesFlow : Graph → Env → Fun → SymState → Step Flow → Type 0
SeesFlow g e fun s (Goes Onward at) = Shows g e s at
SeesFlow g e fun s (Goes (Returns v) at) = HasReturned g e fun s v at
SeesFlow g e fun s (Fails span) = HasFailed g e s
SeesFlow g e fun s (Skips span) = HasSkipped g e s

-- it goes on from this state with something of which this holds
pub record GoesOn {A : Type 0} (g : Graph) (e : Env) (s : SymState) (at : State) (Is : A → Type 0) (a : A) : Type 0 where
  pub shows : Shows g e s at
  pub is : Is a

abbrev pub Sees : {A : Type 0} → Graph → Env → SymState → (A → Type 0) → Step A → Type 0
Sees g e s Is (Goes a at) = GoesOn g e s at Is a
Sees g e s Is (Fails span) = HasFailed g e s
Sees g e s Is (Skips span) = HasSkipped g e s

-- it is a run that goes on, whatever from
pub record IsHere (g : Graph) (e : Env) (s : SymState) : Type 0 where
  pub path : bool_value g e s.path ≡ true
  pub failed : bool_value g e s.failed ≡ false
  pub skipped : bool_value g e s.skipped ≡ false
  pub returned : bool_value g e s.frame.returned ≡ false
  pub free : AreFree g e s.heap s.cursor

-- it is one whose active call has returned, whatever
pub record IsBack (g : Graph) (e : Env) (s : SymState) : Type 0 where
  pub path : bool_value g e s.path ≡ false
  pub failed : bool_value g e s.failed ≡ false
  pub skipped : bool_value g e s.skipped ≡ false
  pub returned : bool_value g e s.frame.returned ≡ true
  pub free : AreFree g e s.heap s.frame.most

-- it goes on, has returned, has failed or is skipped
abbrev pub IsOutcome : Graph → Env → SymState → Type 0
IsOutcome g e s = IsHere g e s ⊎ (IsBack g e s ⊎ (HasFailed g e s ⊎ HasSkipped g e s))

-- the heap has grown, and the run goes on or has ended
pub record Comes (g : Graph) (e : Env) (old new : SymState) : Type 0 where
  pub grown : HeapGrows g e old.heap new.heap
  pub is : IsOutcome g e new

-- Whether the run has failed, is skipped or has returned, its cost, its records, where they are live, and what it has returned
-- are as they were. The same slots hold.
pub record Carries (g : Graph) (e : Env) (old new : SymState) : Type 0 where
  pub failed : bool_value g e new.failed ≡ bool_value g e old.failed
  pub skipped : bool_value g e new.skipped ≡ bool_value g e old.skipped
  pub returned : bool_value g e new.frame.returned ≡ bool_value g e old.frame.returned
  pub cost : cost_value g e new.cost ≡ cost_value g e old.cost
  pub heap : HeapLive g e old.heap → heap_value g e new.heap ≡ heap_value g e old.heap
  pub lives : HeapLive g e old.heap → HeapLive g e new.heap
  pub ended : (v : Option Value) (refs : List Value) → EndedIs g e old.heap old.frame.ended v refs → EndedIs g e new.heap new.frame.ended v refs
  pub holds : HoldAlike g e old.heap new.heap
  pub most : old.frame.most ≤ new.frame.most

-- and the run does not go on
pub record Stays (g : Graph) (e : Env) (old new : SymState) : Type 0 where
  pub path : bool_value g e new.path ≡ false
  pub rest : Carries g e old new

-- the states are the same but for their paths, their variables and their cursors
pub record AreAlong (old new : SymState) : Type 0 where
  pub failed : new.failed ≡ old.failed
  pub skipped : new.skipped ≡ old.skipped
  pub cost : new.cost ≡ old.cost
  pub heap : new.heap ≡ old.heap
  pub structs : new.structs ≡ old.structs
  pub returned : new.frame.returned ≡ old.frame.returned
  pub ended : new.frame.ended ≡ old.frame.ended
  pub most : new.frame.most ≡ old.frame.most
