-- An expansion has no more copies than nodes.
use Rattle.std.specs.Prelude.{◌≤◌, length}
use Rattle.sk_base.specs.declared.bounds.Bounds.{Bounds}
use Rattle.sk_prog.specs.declared.prog.Prog.{Prog}
use Rattle.sk_model.specs.Nodes.{nodes}
use Rattle.sk_model.specs.Expand.{walk_funs, expand}

-- Each copy is made by a call, which is a node.
abbrev pub CopiesAreFew : Type 0
CopiesAreFew = (prog : Prog) (bounds : Bounds) → length (walk_funs bounds prog.funs prog.funs 0).copies ≤ nodes (expand prog bounds).prog
