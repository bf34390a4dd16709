-- Readers within a budget of depth, opened at a budget that is not 0.
use Rattle.std.proofs.Common.{◌≡◌, ℕ, zero, suc, ◌-◌, ◌<◌, List, None, refl, arith}
use Rattle.sk_tree.specs.declared.token.Token.{Token}
use Rattle.sk_tree.specs.Spelt.{Role, PatternRole, AsChoice, AsSequence, AsPart}
use Rattle.sk_parser_laws.specs.ExprReader.{Trees, level_at, expr_at}
use Rattle.sk_parser_laws.specs.StmtReader.{form_at, stmt_at}
use Rattle.sk_parser_laws.specs.PatternReader.{by_role, choice_at, sequence_at, part_at, pattern_at}

pub pattern_more : (b : ℕ) (role : PatternRole) (ts : List Token) → 0 < b → pattern_at b role ts ≡ by_role (pattern_at (b - 1)) b role ts
unfolding pattern_at
pattern_more zero role ts h = absurd (omega arith)
pattern_more (suc b) role ts h = let e : suc b - 1 ≡ b = omega arith in rw e refl

pub choice_more : (b : ℕ) (ts : List Token) → 0 < b → pattern_at b AsChoice ts ≡ choice_at (pattern_at (b - 1)) b ts
choice_more b ts h = pattern_more b AsChoice ts h

pub sequence_more : (b : ℕ) (ts : List Token) → 0 < b → pattern_at b AsSequence ts ≡ sequence_at (pattern_at (b - 1)) b ts
sequence_more b ts h = pattern_more b AsSequence ts h

pub part_more : (b : ℕ) (ts : List Token) → 0 < b → pattern_at b AsPart ts ≡ part_at (pattern_at (b - 1)) b ts
part_more b ts h = pattern_more b AsPart ts h

pub choice_none : (ts : List Token) → pattern_at 0 AsChoice ts ≡ None
unfolding pattern_at
choice_none ts = refl

pub sequence_none : (ts : List Token) → pattern_at 0 AsSequence ts ≡ None
unfolding pattern_at
sequence_none ts = refl

pub part_none : (ts : List Token) → pattern_at 0 AsPart ts ≡ None
unfolding pattern_at
part_none ts = refl

pub expr_more : (trees : Trees) (b level : ℕ) (ts : List Token) → 0 < b → expr_at trees b level ts ≡ level_at trees (expr_at trees (b - 1)) b level ts
unfolding expr_at
expr_more trees zero level ts h = absurd (omega arith)
expr_more trees (suc b) level ts h = let e : suc b - 1 ≡ b = omega arith in rw e refl

pub expr_none : (trees : Trees) (level : ℕ) (ts : List Token) → expr_at trees 0 level ts ≡ None
unfolding expr_at
expr_none trees level ts = refl

pub stmt_more : (b : ℕ) (role : Role) (ts : List Token) → 0 < b → stmt_at b role ts ≡ form_at (stmt_at (b - 1)) (b - 1) role ts
unfolding stmt_at
stmt_more zero role ts h = absurd (omega arith)
stmt_more (suc b) role ts h = let e : suc b - 1 ≡ b = omega arith in rw e refl

pub stmt_none : (role : Role) (ts : List Token) → stmt_at 0 role ts ≡ None
unfolding stmt_at
stmt_none role ts = refl
