-- Clauses that follow, put behind those of a formula, change nothing that it says.
use Rattle.std.proofs.Common.{◌≡◌, ℕ, zero, suc, ◌≤◌, Bool, true, List, [], ◌∷◌, ◌++◌, length, get_or, take, sym, ap, subst, ◌∙◌, arith}
use Rattle.std.proofs.lemmas.List.{append-nil, append_assoc}
use Rattle.std.proofs.lemmas.List.Elements.{Contains-append_left}
use Rattle.std.proofs.Math.Seq.{take-suc, take_all}
use Rattle.sk_clause.specs.declared.lit.Lit.{Lit}
use Rattle.sk_clause.specs.Meaning.{clause_true, Meets, EachFollows}
use Rattle.sk_clause.proofs.MeaningLemmas.{follows_sound, Meets-push}
use Rattle.sk_cnf.specs.declared.growing.Encoded.{Encoded}
use Rattle.sk_cnf.specs.Formula.{Encodes}
use Rattle.sk_loop_laws.specs.Laws.{with_learnt, LearntAsksFor, LearntIsTight}

-- what meets the clauses meets each front of the log
meets_front : (v : ℕ → Bool) (cs log : List (List Lit)) → EachFollows cs log → Meets v cs → (n : ℕ) → n ≤ length log → Meets v (cs ++ take n log)
meets_front v cs log each met zero h = rw append-nil met
meets_front v cs log each met (suc n) h =
    let m : Meets v (cs ++ take n log) = meets_front v cs log each met n (omega arith) in
    let t : clause_true v (get_or log n []) ≡ true = follows_sound v (cs ++ take n log) (get_or log n []) (each n (omega arith)) m in
    let p = Meets-push v (cs ++ take n log) (get_or log n []) m t in
    let e : take (suc n) log ≡ take n log ++ get_or log n [] ∷ [] = take-suc log n [] (omega arith) in
    subst (Meets v) (append_assoc cs (take n log) (get_or log n [] ∷ []) ∙ ap (λ x. cs ++ x) (sym e)) p

-- and the log itself
pub meets_log : (v : ℕ → Bool) (cs log : List (List Lit)) → EachFollows cs log → Meets v cs → Meets v (cs ++ log)
meets_log v cs log each met = subst (λ ls. Meets v (cs ++ ls)) (take_all (length log) log (omega arith)) (meets_front v cs log each met (length log) (omega arith))

pub meets_first : (v : ℕ → Bool) (cs log : List (List Lit)) → Meets v (cs ++ log) → Meets v cs
meets_first v cs log met c within = met c (Contains-append_left cs log c within)

pub learnt_encodes : (f : Encoded) (learnt : List (List Lit)) (count : ℕ) (Holds : List Bool → Type 0) → EachFollows f.clauses.clauses learnt → Encodes f count Holds → Encodes (with_learnt f learnt) count Holds
learnt_encodes f learnt count Holds each h = record {
  named = h.named;
  within = h.within;
  distinct = h.distinct;
  exact = λ bits many. (
    λ x. (h.exact bits many).0 (x.0, x.1, meets_first x.0 f.clauses.clauses learnt x.2),
    λ holds. (let x = (h.exact bits many).1 holds in (x.0, x.1, meets_log x.0 f.clauses.clauses learnt each x.2)),
  );
}

pub learnt_asks_for : LearntAsksFor
learnt_asks_for f e bounds q learnt asks each = learnt_encodes f learnt _ _ each asks

pub learnt_is_tight : LearntIsTight
learnt_is_tight f learnt tight u v same mu mv = tight u v same (meets_first u f.clauses.clauses learnt mu) (meets_first v f.clauses.clauses learnt mv)
