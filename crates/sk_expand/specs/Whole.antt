-- What an expansion is, and why there is none.
use Rattle.std.specs.Prelude.{◌≡◌, ⊤, ◌+◌, ◌<◌, ◌≤◌, List, Result, Ok, Err, ◌⊎◌, length}
use Rattle.sk_base.specs.declared.bounds.Bounds.{Bounds}
use Rattle.sk_prog.specs.declared.prog.Fun.{Fun}
use Rattle.sk_prog.specs.declared.prog.Prog.{Prog}
use Rattle.sk_model.specs.Limits.{most_nodes, most_sites}
use Rattle.sk_model.specs.Nodes.{nodes, consts_nodes, funs_nodes}
use Rattle.sk_model.specs.Sites.{sites}
use Rattle.sk_model.specs.Expand.{all_funs, walk_funs, expand_prog, ordinary_count}
use Rattle.sk_expand.specs.declared.stop.Stop.{Stop}
use Rattle.sk_expand.specs.declared.stop.Stop.TheVariants.{TooLarge, NoMemory}
use Rattle.sk_expand.specs.declared.program.Whole.{Whole}
use Rattle.sk_expand_sizes.specs.declared.fault.SizeFault.{SizeFault}
use Rattle.sk_expand_sizes.specs.declared.fault.SizeFault.TheVariants.{Copies, Sites, Steps, News, Memory}

-- these are the functions of the expansion, and with the constants they have no more nodes than there may be
pub record Are (fs : List Fun) (p : Prog) (bounds : Bounds) : Type 0 where
  pub funs : fs ≡ all_funs (walk_funs bounds p.funs p.funs 0)
  pub few : consts_nodes p.consts + funs_nodes fs ≤ most_nodes

abbrev pub IsFunctions : Result (List Fun) Stop → Prog → Bounds → Type 0
IsFunctions (Ok fs) p bounds = Are fs p bounds
IsFunctions (Err TooLarge) p bounds = most_nodes < nodes (expand_prog p bounds)
IsFunctions (Err NoMemory) p bounds = ⊤

-- this is the program of the expansion, and it has no more nodes than there may be
pub record IsProgram (w : Whole) (p : Prog) (bounds : Bounds) : Type 0 where
  pub prog : w.prog ≡ expand_prog p bounds
  pub ordinary : w.ordinary ≡ ordinary_count p.funs
  pub few : nodes w.prog ≤ most_nodes

abbrev pub IsWhole : Result Whole Stop → Prog → Bounds → Type 0
IsWhole (Ok w) p bounds = IsProgram w p bounds
IsWhole (Err TooLarge) p bounds = most_nodes < nodes (expand_prog p bounds)
IsWhole (Err NoMemory) p bounds = ⊤

-- the expansion has too many nodes
abbrev pub TooManyNodes : Prog → Bounds → Type 0
TooManyNodes p bounds = most_nodes < nodes (expand_prog p bounds)

-- it has no more nodes than there may be, and too many sites
pub record TooManySites (p : Prog) (bounds : Bounds) : Type 0 where
  pub few_nodes : nodes (expand_prog p bounds) ≤ most_nodes
  pub more : most_sites < length (sites bounds (expand_prog p bounds))

-- a fault of a program has its cause
abbrev pub HasCause : Prog → Bounds → SizeFault → Type 0
HasCause p bounds Copies = TooManyNodes p bounds
HasCause p bounds Sites = TooManySites p bounds
HasCause p bounds Steps = ⊥
HasCause p bounds News = ⊥
HasCause p bounds Memory = ⊤

-- a fault is this one, or want of memory
abbrev pub IsOrMemory : SizeFault → SizeFault → Type 0
IsOrMemory this fault = (fault ≡ this) ⊎ (fault ≡ Memory)
