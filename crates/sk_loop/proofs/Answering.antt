-- What the solver's answers say of a formula.
use Rattle.std.proofs.Common.{◌≡◌, ℕ, ◌<◌, ◌++◌, List, length, take, sym, ◌∙◌, ap, subst, arith}
use Rattle.std.specs.Prelude.{All}
use Rattle.std.proofs.lemmas.List.{take-append-le, take_all}
use Rattle.sk_clause.specs.declared.lit.Lit.{Lit}
use Rattle.sk_clause.specs.Meaning.{EachFollows, IsConsistent, Meets, NoneIncludes, Refutes}
use Rattle.sk_clause.proofs.MeaningLemmas.{refuted}
use Rattle.sk_cnf.specs.declared.growing.Encoded.{Encoded}
use Rattle.sk_sat.specs.Solver.{State, Gains, gained}
use Rattle.sk_loop_laws.specs.Laws.{with_learnt}
use Rattle.sk_loop.specs.Answered.{IsNever, IsSpentFrom}

pub never_met : (added log : List (List Lit)) (f : Encoded) → Refutes added log → added ≡ f.clauses.clauses → IsNever f
never_met added log f r is = record { none = λ v met. refuted v added log r (subst (Meets v) (sym is) met) }

-- what was learnt before a call stands first afterwards
learnt_first : (old new : State) → Gains old new → take (length old.learnt) new.learnt ≡ old.learnt
learnt_first old new g =
    ap (take (length old.learnt)) g.learnt ∙ take-append-le (length old.learnt) old.learnt (gained old new) (omega arith) ∙ take_all (length old.learnt) old.learnt (omega arith)

pub spent_from : (old new : State) (f g : Encoded) (count before : ℕ) (log : List (List Lit)) →
    old.added ≡ f.clauses.clauses → EachFollows old.added old.learnt → before ≡ length old.learnt → Gains old new →
    log ≡ gained old new → 0 < count → length log ≡ count → All IsConsistent log → NoneIncludes (old.added ++ old.learnt) log →
    g ≡ with_learnt f (take before new.learnt) → IsSpentFrom f count g log
spent_from old new f g count before log is known many gains all some long consistent fresh made =
    let learnt : take before new.learnt ≡ old.learnt = ap (λ (n : ℕ). take n new.learnt) many ∙ learnt_first old new gains in
    let whole : g ≡ with_learnt f old.learnt = made ∙ ap (with_learnt f) learnt in
    let clauses : old.added ++ old.learnt ≡ g.clauses.clauses = ap (λ (cs : List (List Lit)). cs ++ old.learnt) is ∙ sym (ap (λ (x : Encoded). x.clauses.clauses) whole) in
    record {
      learnt = old.learnt;
      known = subst (λ (cs : List (List Lit)). EachFollows cs old.learnt) is known;
      is = whole;
      some = some;
      long = long;
      consistent = consistent;
      follows = subst (λ (cs : List (List Lit)). EachFollows cs log) clauses (subst (EachFollows (old.added ++ old.learnt)) (sym all) gains.each);
      fresh = subst (λ (cs : List (List Lit)). NoneIncludes cs log) clauses fresh;
    }

pub ruleset answering = (never_met, spent_from)
