-- The copies of a statement, of which a site says how many are done.
use Rattle.std.specs.Prelude.{ℕ, suc, List, map, take, nat_lt, if◌then◌else◌}
use Rattle.sk_dag.specs.declared.env.Env.{Env}
use Rattle.sk_prog.specs.declared.expr.PExpr.{PExpr}
use Rattle.sk_prog.specs.declared.stmt.PStmt.{PStmt}
use Rattle.sk_model.specs.Parts.{Part, in_turn, value}
use Rattle.sk_model.specs.Sites.{is_hole}
use Rattle.sk_model.specs.Step.{Comp, pure}
use Rattle.sk_model.specs.Exec.{Flow, Onward, one_by_one}
use Rattle.sk_sym_walk.specs.declared.activation.Activation.{Activation}
use Rattle.sk_sym_walk.specs.Walk.{values_at, stmt_part, all_part}

-- what the copies do of which the first site has a place, by the value of the site with another one
abbrev pub copies_at : Activation → ℕ → ℕ → List PStmt → Env → Comp Flow
copies_at a site i ss e = one_by_one (take (value (values_at a e) site) (in_turn (map (λ s. stmt_part a s e) ss) i))

-- the copies, after the site with this place
abbrev pub some_part : Activation → ℕ → List PStmt → Env → Part (Comp Flow)
some_part a site ss e = record { count = (all_part a ss e).count; at = λ i. copies_at a site i ss e }

-- the site, and the copies
abbrev pub copies_part : Activation → List PStmt → Env → Part (Comp Flow)
copies_part a ss e = record { count = suc (all_part a ss e).count; at = λ i. copies_at a i (suc i) ss e }

-- the copy with number k, which is done where the value of the site is above k
abbrev pub copy_part : Activation → ℕ → ℕ → PStmt → Env → Part (Comp Flow)
copy_part a site k s e = record { count = (stmt_part a s e).count; at = λ i. if nat_lt k (value (values_at a e) site) then (stmt_part a s e).at i else pure Onward }

-- a repeat: a constant says nothing of its copies, since all are there
abbrev pub repeat_part : Activation → PExpr → List PStmt → Env → Part (Comp Flow)
repeat_part a count ss = if is_hole count.form then copies_part a ss else all_part a ss
