-- What the answer of a solver that had learnt nothing says of a formula.
use Rattle.std.proofs.Common.{◌≡◌, ℕ, ◌+◌, ◌<◌, ◌++◌, List, [], ◌∷◌, length, drop, sym, ◌∙◌, ap, subst, arith}
use Rattle.std.proofs.lemmas.List.{append-nil, length-append}
use Rattle.std.proofs.lemmas.List.Elements.{All-nil, All-push}
use Rattle.sk_clause.specs.declared.lit.Lit.{Lit}
use Rattle.sk_clause.specs.Meaning.{EachFollows, Meets, NoneIncludes, Refutes, valuation}
use Rattle.sk_clause.specs.Problem.{AreWithin, IsWithin}
use Rattle.sk_cnf.specs.declared.growing.Encoded.{Encoded}
use Rattle.sk_sat.specs.Answer.{IsAnswer}
use Rattle.sk_sat.specs.Solver.{State, Gains, gained}
use Rattle.sk_sat.specs.declared.solver.Answer.{Answer}
use Rattle.sk_sat.specs.declared.solver.Answer.TheVariants as answer
use Rattle.sk_loop_refuted.specs.Refuted.{IsAnswered}

-- the state before: the formula's clauses, with nothing learnt
pub record IsFresh (f : Encoded) (s : State) : Type 0 where
  pub vars : s.vars ≡ f.clauses.vars
  pub added : s.added ≡ f.clauses.clauses
  pub learnt : s.learnt ≡ []

-- so all that is learnt was gained
gained_all : (old new : State) → old.learnt ≡ [] → gained old new ≡ new.learnt
gained_all old new none = ap (λ (cs : List (List Lit)). drop (length cs) new.learnt) none

pub answered : (f : Encoded) (old new : State) (budget : ℕ) (a : Answer) → IsFresh f old → AreWithin new.vars new.learnt → Gains old new → IsAnswer old new budget a → IsAnswered f budget a
answered f old new budget a fresh within gains says = by a says
  where
    vars : new.vars ≡ f.clauses.vars
    vars = gains.vars ∙ fresh.vars

    all : gained old new ≡ new.learnt
    all = gained_all old new fresh.learnt

    inside : AreWithin f.clauses.vars new.learnt
    inside = subst (λ (n : ℕ). AreWithin n new.learnt) vars within

    by : (a : Answer) → IsAnswer old new budget a → IsAnswered f budget a
    by (answer.Sat values) h = record { long = h.0 ∙ fresh.vars; meets = subst (Meets (valuation values)) fresh.added h.1 }
    by (answer.Unsat log) h =
        let long : length log ≡ length (gained old new) + 1 = ap length h.0 ∙ length-append new.learnt ([] ∷ []) ∙ ap (λ (cs : List (List Lit)). length cs + 1) (sym all) in
        record {
          refutes = subst (λ (cs : List (List Lit)). Refutes cs log) fresh.added h.1;
          within = subst (AreWithin f.clauses.vars) (sym h.0) (All-push (IsWithin f.clauses.vars) new.learnt [] inside (All-nil (λ (l : Lit). l.var < f.clauses.vars)));
          few = λ some. let less = h.2 some in omega arith;
        }
    by (answer.Spent log) h =
        let is : log ≡ new.learnt = h.0 ∙ all in
        let known : old.added ++ old.learnt ≡ f.clauses.clauses = ap (λ (cs : List (List Lit)). old.added ++ cs) fresh.learnt ∙ append-nil old.added ∙ fresh.added in
        record {
          some = h.1;
          long = h.2;
          within = subst (AreWithin f.clauses.vars) (sym is) inside;
          consistent = h.3;
          follows = subst (λ (cs : List (List Lit)). EachFollows cs log) known (subst (EachFollows (old.added ++ old.learnt)) (sym h.0) gains.each);
          fresh = subst (λ (cs : List (List Lit)). NoneIncludes cs log) known h.4;
        }
