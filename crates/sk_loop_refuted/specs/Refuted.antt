-- What a solver of its own says of a formula.
use Rattle.std.specs.Prelude.{ℕ, Bool, ◌≡◌, ◌<◌, ◌≤◌, List, length, All}
use Rattle.sk_clause.specs.declared.lit.Lit.{Lit}
use Rattle.sk_clause.specs.Meaning.{EachFollows, IsConsistent, Meets, NoneIncludes, Refutes, valuation}
use Rattle.sk_clause.specs.Problem.{AreWithin}
use Rattle.sk_cnf.specs.declared.growing.Encoded.{Encoded}
use Rattle.sk_sat.specs.declared.solver.Answer.{Answer}
use Rattle.sk_sat.specs.declared.solver.Answer.TheVariants as answer

-- A value for each variable, with which each clause is true.
pub record IsSolution (f : Encoded) (values : List Bool) : Type 0 where
  pub long : length values ≡ f.clauses.vars
  pub meets : Meets (valuation values) f.clauses.clauses

-- The log refutes the clauses, with their variables alone, and has no more clauses than the budget says, if there is one.
pub record IsRefutation (f : Encoded) (budget : ℕ) (log : List (List Lit)) : Type 0 where
  pub refutes : Refutes f.clauses.clauses log
  pub within : AreWithin f.clauses.vars log
  pub few : 0 < budget → length log ≤ budget

-- So many clauses as the budget says, which is not 0, were learnt from the formula, with its variables alone: none has a
-- literal and its negation, each follows from the formula and those before it, and includes none of these.
pub record IsSpent (f : Encoded) (budget : ℕ) (log : List (List Lit)) : Type 0 where
  pub some : 0 < budget
  pub long : length log ≡ budget
  pub within : AreWithin f.clauses.vars log
  pub consistent : All IsConsistent log
  pub follows : EachFollows f.clauses.clauses log
  pub fresh : NoneIncludes f.clauses.clauses log

abbrev pub IsAnswered : Encoded → ℕ → Answer → Type 0
IsAnswered f budget (answer.Sat values) = IsSolution f values
IsAnswered f budget (answer.Unsat log) = IsRefutation f budget log
IsAnswered f budget (answer.Spent log) = IsSpent f budget log
