-- Numbers that stand for literals and lists of clauses, by which proofs tell them apart.
use Rattle.std.specs.Prelude.{ℕ, Bool, List, refl}
use Rattle.std.specs.Coded.{Coded, code_by, coded×, coded_ℕ, coded_bool, coded_list}
use Rattle.sk_clause.specs.declared.lit.Lit.{Lit}
use Rattle.sk_clause.specs.Problem.{Problem}

abbrev pub coded_lit : Coded Lit
coded_lit = code_by (ℕ × Bool) (coded× coded_ℕ coded_bool) (λ l. (l.var, l.neg)) (λ p. record { var = p.0; neg = p.1 }) (λ _. refl)

abbrev pub coded_clauses : Coded (List (List Lit))
coded_clauses = coded_list (coded_list coded_lit)

abbrev pub coded_problem : Coded Problem
coded_problem = code_by (ℕ × List (List Lit)) (coded× coded_ℕ coded_clauses) (λ p. (p.vars, p.clauses)) (λ p. record { vars = p.0; clauses = p.1 }) (λ _. refl)
