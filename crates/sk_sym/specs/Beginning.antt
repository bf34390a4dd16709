-- What a run begins with.
use Rattle.std.specs.Prelude.{◌≡◌, true, false, []}
use Rattle.sk_dag.specs.declared.env.Env.{Env}
use Rattle.sk_dag.specs.Graph.{Graph, Grows, HasBool, HasCost}
use Rattle.sk_dag.specs.Eval.{bool_value, cost_value}
use Rattle.sk_prog.specs.declared.prog.Prog.{Prog}
use Rattle.sk_model.specs.Run.{start}
use Rattle.sk_sym_state.specs.declared.state.SymState.{SymState}
use Rattle.sk_sym_state.specs.Stands.{StateStands}
use Rattle.sk_sym_state.specs.Shows.{Shows}
use Rattle.sk_sym.specs.declared.begin.Constants.{Constants}

-- nodes for true, for false and for a cost of 0
pub record AreConstants (d : Graph) (r : Constants) : Type 0 where
  pub on_there : HasBool d.nodes r.on
  pub off_there : HasBool d.nodes r.off
  pub free_there : HasCost d.nodes r.free
  pub on : (g : Graph) → Grows d g → (e : Env) → bool_value g e r.on ≡ true
  pub off : (g : Graph) → Grows d g → (e : Env) → bool_value g e r.off ≡ false
  pub free : (g : Graph) → Grows d g → (e : Env) → cost_value g e r.free ≡ 0

-- the state has no records, and is the first state of a run in each environment
pub record IsBeginning (d : Graph) (prog : Prog) (s : SymState) : Type 0 where
  pub stands : StateStands d prog s
  pub heap : s.heap ≡ []
  pub shows : (g : Graph) (e : Env) → Grows d g → Shows g e s start
