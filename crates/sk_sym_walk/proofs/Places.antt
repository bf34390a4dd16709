-- Where a part ends whose sites are passed, and sites that are not there.
use Rattle.std.proofs.Common.{◌≡◌, ◌≤◌, ℕ, zero, suc, ◌+◌, List, [], ◌∷◌, length, Option, Some, None, refl, sym, ap, ◌∙◌, arith}
use Rattle.std.specs.Prelude.{option_map}
use Rattle.sk_base.specs.declared.span.Span.{Span}
use Rattle.sk_dag.specs.declared.env.Env.{Env}
use Rattle.sk_prog.specs.declared.expr.PExpr.{PExpr}
use Rattle.sk_prog.specs.declared.stmt.PStmt.{PStmt}
use Rattle.sk_model.specs.declared.expanded.Site.{Site}
use Rattle.sk_model.specs.Parts.{value}
use Rattle.sk_model.specs.Fill.{Fits}
use Rattle.sk_sym_sites.specs.Counts.{expr_count, stmt_count, any_count}
use Rattle.sk_sym_sites.proofs.Trees.{counts_expr, counts_stmt}
use Rattle.sk_sym_walk.specs.declared.activation.Activation.{Activation}
use Rattle.sk_sym_walk.specs.Walk.{prog_of, values_at, calls_at, eval_part, stmt_part}
use Rattle.sk_sym_walk.specs.Parts.{other_part}

pub expr_behind : {j : ℕ} (i : ℕ) (a : Activation) (span : Span) (x : PExpr) → j ≡ i + expr_count x → (e : Env) → j ≡ i + (eval_part a span x e).count
expr_behind i a span x p e = p ∙ ap (λ n. i + n) (sym (counts_expr (prog_of a) a.bounds (values_at a e) (calls_at a e) x))

pub stmt_behind : {j : ℕ} (i : ℕ) (a : Activation) (s : PStmt) → j ≡ i + stmt_count s → (e : Env) → j ≡ i + (stmt_part a s e).count
stmt_behind i a s p e = p ∙ ap (λ n. i + n) (sym (counts_stmt (prog_of a) a.bounds (values_at a e) (calls_at a e) s))

pub other_behind : {j : ℕ} (i : ℕ) (a : Activation) (o : Option PStmt) → j ≡ i + any_count (option_map stmt_count o) → (e : Env) → j ≡ i + (other_part a o e).count
other_behind i a None p e = p
other_behind i a (Some s) p e = stmt_behind i a s p e

-- a site that is not there has the value 0
pub past_sites : (sites : List Site) (values : List ℕ) → Fits sites values → (i : ℕ) → length sites ≤ i → value values i ≡ 0
past_sites [] [] h i l = refl
past_sites [] (v ∷ vs) h i l = elim h [ ]
past_sites (s ∷ ss) [] h i l = elim h [ ]
past_sites (s ∷ ss) (v ∷ vs) h zero l = absurd (omega (arith, l))
past_sites (s ∷ ss) (v ∷ vs) h (suc i) l = past_sites ss vs h.1 i (omega (arith, l))
