-- Patterns: the string that the value of a site names.
use Rattle.std.specs.Prelude.{◌≡◌, ℕ, suc, ◌-◌, List, ◌∷◌, map}
use Rattle.sk_base.specs.declared.span.Span.{Span}
use Rattle.sk_dag.specs.declared.env.Env.{Env}
use Rattle.sk_prog.specs.declared.value.Value.{Value}
use Rattle.sk_prog.specs.declared.expr.PExpr.{PExpr}
use Rattle.sk_model.specs.Parts.{Part, counts, pick, value}
use Rattle.sk_model.specs.Step.{Comp}
use Rattle.sk_model.specs.Heap as model
use Rattle.sk_model.specs.Open.{nothing_done}
use Rattle.sk_sym_walk.specs.declared.activation.Activation.{Activation}
use Rattle.sk_sym_walk.specs.Walk.{values_at, expr_part, eval_part}
use Rattle.sk_sym_walk.specs.Parts.{either_part}
use Rattle.sk_sym_walk.specs.Targets.{target_part}

-- the value of the string with a number, where the first site of all strings has place i
abbrev pub string_at : Activation → Span → List PExpr → ℕ → ℕ → Env → Comp Value
string_at a span xs n i e = (pick nothing_done (map (λ x. expr_part a x e) xs) n i).value span

-- of strings whose first has number k: the one with the number that is the value of a site, and the first where that is less
abbrev pub strings_part : Activation → Span → ℕ → ℕ → List PExpr → Env → Part (Comp Value)
strings_part a span site k xs e = record { count = counts (map (λ x. expr_part a x e) xs); at = λ i. string_at a span xs (value (values_at a e) site - k) i e }

-- the first string where the bit holds, and else one of the others, whose first has number `next`
abbrev pub string_part : Activation → Span → ℕ → ℕ → PExpr → List PExpr → Env → Part (Value → Comp Value)
string_part a span site next x xs = either_part span (eval_part a span x) (strings_part a span site next xs)

-- the site, and the string with the number that is its value
abbrev pub pattern_part : Activation → Span → List PExpr → Env → Part (Comp Value)
pattern_part a span xs e = record { count = suc (counts (map (λ x. expr_part a x e) xs)); at = λ i. string_at a span xs (value (values_at a e) i) (suc i) e }

-- this is the first of some expressions, and what follows it
pub record AreExprs (list : List PExpr) (first : PExpr) (more : List PExpr) : Type 0 where
  pub front : list ≡ first ∷ more

-- ---- patterns as targets

-- what the string with a number names, where the first site of all strings has place i
abbrev pub target_at : Activation → Span → List PExpr → ℕ → ℕ → Env → Comp model.Location
target_at a span xs n i e = (pick nothing_done (map (λ x. expr_part a x e) xs) n i).target span

-- what one of strings names whose first has number k, as `strings_part` has the value of one
abbrev pub strings_target : Activation → Span → ℕ → ℕ → List PExpr → Env → Part (Comp model.Location)
strings_target a span site k xs e = record { count = counts (map (λ x. expr_part a x e) xs); at = λ i. target_at a span xs (value (values_at a e) site - k) i e }

-- what the first string names where the bit holds, and else one of the others, whose first has number `next`
abbrev pub string_target : Activation → Span → ℕ → ℕ → PExpr → List PExpr → Env → Part (Value → Comp model.Location)
string_target a span site next x xs = either_part span (target_part a span x) (strings_target a span site next xs)

-- what a pattern names
abbrev pub pattern_target : Activation → Span → List PExpr → Env → Part (Comp model.Location)
pattern_target a span xs e = record { count = suc (counts (map (λ x. expr_part a x e) xs)); at = λ i. target_at a span xs (value (values_at a e) i) (suc i) e }
