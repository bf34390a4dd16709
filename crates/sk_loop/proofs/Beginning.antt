-- Formulas that begin with others.
use Rattle.std.proofs.Common.{◌≡◌, ℕ, ◌++◌, List, [], length, take, sym, ◌∙◌, ap, arith}
use Rattle.std.proofs.lemmas.List.{append_assoc, append-nil, length-append, take-append-le}
use Rattle.sk_clause.specs.declared.lit.Lit.{Lit}
use Rattle.sk_clause.specs.Problem.{Problem}
use Rattle.sk_cnf.specs.declared.growing.Encoded.{Encoded}
use Rattle.sk_cnf.specs.Standing.{Begins}
use Rattle.sk_sat.specs.Solver.{State}
use Rattle.sk_loop_guesses.specs.asking.Asking.{Asking}
use Rattle.sk_loop.specs.Session.{IsLoaded, KeepsClauses}

pub begins_same : (f g : Problem) → g ≡ f → Begins f g
begins_same f g is = record { vars = omega (arith, ap (λ (p : Problem). p.vars) is); added = []; clauses = ap (λ (p : Problem). p.clauses) is ∙ sym (append-nil f.clauses) }

pub begins_on : (f g h : Problem) → Begins f g → Begins g h → Begins f h
begins_on f g h a b = record {
  vars = omega arith;
  added = a.added ++ b.added;
  clauses = b.clauses ∙ ap (λ (cs : List (List Lit)). cs ++ b.added) a.clauses ∙ append_assoc f.clauses a.added b.added;
}

-- of a formula that grew the solver has the first clauses, as before
pub loaded_on : (s : State) (loaded : ℕ) (f g : Problem) → Begins f g → IsLoaded s loaded f → IsLoaded s loaded g
loaded_on s loaded f g b l = record {
  vars = omega arith;
  within = omega (arith, ap length b.clauses, length-append f.clauses b.added);
  added = l.added ∙ sym (ap (take loaded) b.clauses ∙ take-append-le loaded f.clauses b.added l.within);
}

-- and names that stay
pub kept_made : (f g : Encoded) → g.names ≡ f.names → Begins f.clauses g.clauses → KeepsClauses f g
kept_made f g names behind = record { names = names; behind = behind }

pub kept_same : (f g : Encoded) → g ≡ f → KeepsClauses f g
kept_same f g is = kept_made f g (ap (λ (x : Encoded). x.names) is) (begins_same f.clauses g.clauses (ap (λ (x : Encoded). x.clauses) is))

pub kept_on : (f g h : Encoded) → KeepsClauses f g → KeepsClauses g h → KeepsClauses f h
kept_on f g h a b = kept_made f h (b.names ∙ a.names) (begins_on f.clauses g.clauses h.clauses a.behind b.behind)

pub kept_asking : (a b : Asking) → b ≡ a → KeepsClauses a.growing.encoded b.growing.encoded
kept_asking a b is = kept_same a.growing.encoded b.growing.encoded (ap (λ (x : Asking). x.growing.encoded) is)

pub kept_from : (a b c : Asking) → b ≡ a → KeepsClauses b.growing.encoded c.growing.encoded → KeepsClauses a.growing.encoded c.growing.encoded
kept_from a b c is k = kept_on a.growing.encoded b.growing.encoded c.growing.encoded (kept_asking a b is) k

pub ruleset beginning = (kept_same, kept_on)
