-- States that stand in a graph stand in what it grows to.
use Rattle.std.proofs.Common.{sym, ap, subst, ◌∙◌}
use Rattle.std.specs.Prelude.{Option, Some, None, map}
use Rattle.sk_dag.specs.declared.shape.Shape.{Shape}
use Rattle.sk_dag.specs.Graph.{Graph, HasBool, HasCost, BoolSort, CostSort}
use Rattle.sk_dag.specs.Eval.{Keeps}
use Rattle.sk_arr.specs.Shapes.{AllStand}
use Rattle.sk_arr.proofs.Standing.{Stands-keeps, AllStand-keeps}
use Rattle.sk_prog.specs.declared.prog.Prog.{Prog}
use Rattle.sk_heap.specs.Answers.{struct_of}
use Rattle.sk_heap.specs.Heaps.{HeapStands}
use Rattle.sk_heap.proofs.Heaps.{HeapStands-keeps}
use Rattle.sk_sym_state.specs.declared.branch.Fork.{Fork}
use Rattle.sk_sym_state.specs.declared.branch.Side.{Side}
use Rattle.sk_sym_state.specs.declared.state.Ended.{Ended}
use Rattle.sk_sym_state.specs.declared.state.Frame.{Frame}
use Rattle.sk_sym_state.specs.declared.state.SymState.{SymState}
use Rattle.sk_sym_state.specs.Stands.{AnyStands, AnyEndedStands, FrameStands, StateStands}
use Rattle.sk_sym_state.specs.Shows.{AreAlong}
use Rattle.sk_sym_state.specs.Branching.{ForkStands, SideStands, AreTurned}

module _ {a b : Graph} (k : Keeps a b) where
  pub AnyStands-keeps : (r : Option Shape) → AnyStands a r → AnyStands b r
  AnyStands-keeps None h = tt
  AnyStands-keeps (Some r) h = Stands-keeps k h

  pub AnyEnded-keeps : (r : Option Ended) → AnyEndedStands a r → AnyEndedStands b r
  AnyEnded-keeps None h = tt
  AnyEnded-keeps (Some r) h = record { result = AnyStands-keeps r.result h.result; refs = AllStand-keeps k h.refs }

  pub FrameStands-keeps : {f : Frame} → FrameStands a f → FrameStands b f
  FrameStands-keeps {f} h = record { slots = AllStand-keeps k h.slots; returned = k.sorts _ BoolSort h.returned; ended = AnyEnded-keeps f.ended h.ended }

  pub StateStands-keeps : {prog : Prog} {s : SymState} → StateStands a prog s → StateStands b prog s
  StateStands-keeps h = record {
    path = k.sorts _ BoolSort h.path;
    failed = k.sorts _ BoolSort h.failed;
    skipped = k.sorts _ BoolSort h.skipped;
    cost = k.sorts _ CostSort h.cost;
    heap = HeapStands-keeps k h.heap;
    structs = h.structs;
    frame = FrameStands-keeps h.frame;
  }

  pub ForkStands-keeps : {f : Fork} → ForkStands a f → ForkStands b f
  ForkStands-keeps h = record { path = k.sorts _ BoolSort h.path; first = k.sorts _ BoolSort h.first; second = k.sorts _ BoolSort h.second; whole = λ g more e. h.whole g (k.later g more) e }

  pub SideStands-keeps : {side : Side} → SideStands a side → SideStands b side
  SideStands-keeps h = record { fork = ForkStands-keeps h.fork; path = k.sorts _ BoolSort h.path; slots = AllStand-keeps k h.slots }

-- a state with another path and other variables
pub stands_along : {d : Graph} {prog : Prog} {s0 s1 : SymState} → AreAlong s0 s1 → StateStands d prog s0 → HasBool d.nodes s1.path → AllStand d s1.frame.slots → StateStands d prog s1
stands_along {d} {prog} {s0} {s1} along h path slots = record {
  path = path;
  failed = subst (λ i. HasBool d.nodes i) (sym along.failed) h.failed;
  skipped = subst (λ i. HasBool d.nodes i) (sym along.skipped) h.skipped;
  cost = subst (λ i. HasCost d.nodes i) (sym along.cost) h.cost;
  heap = subst (λ l. HeapStands d prog l) (sym along.heap) h.heap;
  structs = ap (λ l. map struct_of l) along.heap ∙ h.structs ∙ sym along.structs;
  frame = record {
    slots = slots;
    returned = subst (λ i. HasBool d.nodes i) (sym along.returned) h.frame.returned;
    ended = subst (AnyEndedStands d) (sym along.ended) h.frame.ended;
  };
}

-- the state and what waited, after they have changed places
pub turned_stands : {d : Graph} {prog : Prog} {s0 s1 : SymState} {waits gone : Side} → AreTurned s0 s1 waits gone → SideStands d waits → StateStands d prog s0 → StateStands d prog s1
turned_stands {d} t w h = stands_along t.along h (subst (λ i. HasBool d.nodes i) (sym t.path) w.path) (subst (AllStand d) (sym t.slots) w.slots)

pub gone_stands : {d : Graph} {prog : Prog} {s0 s1 : SymState} {waits gone : Side} → AreTurned s0 s1 waits gone → SideStands d waits → StateStands d prog s0 → SideStands d gone
gone_stands {d} t w h = record {
  fork = subst (ForkStands d) (sym t.fork) w.fork;
  path = subst (λ i. HasBool d.nodes i) (sym t.old_path) h.path;
  slots = subst (AllStand d) (sym t.old_slots) h.frame.slots;
}
