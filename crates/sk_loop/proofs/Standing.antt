-- What a session stands for.
use Rattle.std.proofs.Common.{◌≡◌, ℕ, ◌+◌, ◌<◌, ◌≤◌, ◌⊎◌, inl, inr, ◌++◌, List, [], ◌∷◌, Option, None, drop, length, refl, sym, ◌∙◌, ap, subst, arith}
use Rattle.std.proofs.lemmas.List.{length-append, take_all}
use Rattle.sk_base.specs.declared.bounds.Bounds.{Bounds}
use Rattle.sk_model.specs.declared.expanded.Expanded.{Expanded}
use Rattle.sk_model.specs.declared.expanded.Input.{Input}
use Rattle.sk_model.specs.declared.expanded.Pair.{Pair}
use Rattle.sk_clause.specs.Problem.{Problem}
use Rattle.sk_cnf.specs.Standing.{Begins}
use Rattle.sk_clause.specs.declared.lit.Lit.{Lit}
use Rattle.sk_sat.specs.Solver.{State, gained}
use Rattle.sk_loop_guesses.specs.asking.Asking.{Asking}
use Rattle.sk_loop_guesses.specs.Asking.{IsAsking}
use Rattle.sk_loop_laws.specs.Honest.{IsRound, inputs_of}
use Rattle.sk_loop.specs.declared.session.Session.{Session}
use Rattle.sk_loop.specs.Session.{Asks, IsLoaded, IsReady, StandsFor}
use Rattle.sk_loop.specs.declared.solving.Answered.{Answered}
use Rattle.sk_loop.specs.Answered.{IsOfCall}
use Rattle.sk_loop.specs.Rounds.{Solves, Steps}
use Rattle.sk_loop.proofs.Beginning.{loaded_on}
use Rattle.sk_loop.proofs.Demanding.{asks_begins, asks_more, asks_ready, asks_wanted}
use Rattle.sk_loop.proofs.Loading.{starts_loaded}
use Rattle.sk_loop.proofs.Growing.{inputs_many, inputs_push, grown_same, grown_push, grown_on}

pub stands_made : (s : Session) (e : Expanded) (bounds : Bounds) (inputs : List Input) (limit : Option ℕ) → Asks s.asking e bounds inputs limit (length inputs) → s.count ≡ length inputs → s.limit ≡ limit → IsLoaded s.solver s.loaded s.asking.growing.encoded.clauses → StandsFor s e bounds inputs limit
stands_made s e bounds inputs limit asks count is loaded = record {
  asked = asks;
  count = count;
  same = is;
  loaded = loaded;
  asks = asks_wanted s.asking e bounds inputs limit asks;
  tight = asks.asking.tight;
}

pub stands_begins : (s : Session) (e : Expanded) (bounds : Bounds) → IsAsking s.asking e bounds [] → s.solver.vars ≡ 0 → s.solver.added ≡ [] → s.loaded ≡ 0 → s.count ≡ 0 → s.limit ≡ None → StandsFor s e bounds [] None
stands_begins s e bounds asking vars added loaded count limit =
    stands_made s e bounds [] None (asks_begins s.asking e bounds asking) count limit
    (subst (λ (n : ℕ). IsLoaded s.solver n s.asking.growing.encoded.clauses) (sym loaded) (starts_loaded s.solver s.asking.growing.encoded.clauses vars added))

pub all_loaded : (s : State) (n : ℕ) (f : Problem) → s.vars ≡ f.vars → s.added ≡ f.clauses → n ≡ length f.clauses → IsLoaded s n f
all_loaded s n f v a many = record { vars = omega arith; within = omega arith; added = a ∙ sym (take_all n f.clauses (omega arith)) }

pub ready_begins : (s : Session) (e : Expanded) (bounds : Bounds) (inputs : List Input) (limit : Option ℕ) → StandsFor s e bounds [] None → IsReady s e bounds inputs limit
ready_begins s e bounds inputs limit st = record { before = []; most = None; stands = st; front = record { rest = inputs; is = refl }; above = tt }

pub stands_ready : (s : Session) (e : Expanded) (bounds : Bounds) (inputs : List Input) (limit : Option ℕ) (from : ℕ) → IsReady s e bounds inputs limit → (from ≡ 0) ⊎ ((from ≡ s.count) × (s.limit ≡ limit)) → Asks s.asking e bounds inputs limit from
stands_ready s e bounds inputs limit from r which =
    asks_ready s.asking e bounds r.before inputs r.most limit from r.stands.asked r.front r.above
    (elim which [ inl none ↦ inl none | inr same ↦ inr (same.0 ∙ r.stands.count, sym r.stands.same ∙ same.1) ])

pub ready_within : (s : Session) (e : Expanded) (bounds : Bounds) (pairs : List Pair) (limit : Option ℕ) (from : ℕ) → IsReady s e bounds (inputs_of pairs) limit → (from ≡ 0) ⊎ ((from ≡ s.count) × (s.limit ≡ limit)) → from ≤ length pairs
ready_within s e bounds pairs limit from r which =
    let long = sym (inputs_many pairs) ∙ ap length r.front.is ∙ length-append r.before r.front.rest in
    elim which [ inl none ↦ omega (arith, none) | inr same ↦ (let a = same.0 in let b = r.stands.count in omega (arith, a, b, long)) ]

pub stands_again : (s t : Session) (e : Expanded) (bounds : Bounds) (pairs : List Pair) (limit : Option ℕ) → IsReady s e bounds (inputs_of pairs) limit → Asks t.asking e bounds (inputs_of pairs) limit (length pairs) → Begins s.asking.growing.encoded.clauses t.asking.growing.encoded.clauses → t.count ≡ length pairs → t.limit ≡ limit → t.solver ≡ s.solver → t.loaded ≡ s.loaded → StandsFor t e bounds (inputs_of pairs) limit
stands_again s t e bounds pairs limit r asks behind count is solver loaded =
    stands_made t e bounds (inputs_of pairs) limit
    (subst (λ (n : ℕ). Asks t.asking e bounds (inputs_of pairs) limit n) (sym (inputs_many pairs)) asks)
    (count ∙ sym (inputs_many pairs)) is
    (subst (λ (n : ℕ). IsLoaded t.solver n t.asking.growing.encoded.clauses) (sym loaded)
    (subst (λ (x : State). IsLoaded x s.loaded t.asking.growing.encoded.clauses) (sym solver)
    (loaded_on s.solver s.loaded s.asking.growing.encoded.clauses t.asking.growing.encoded.clauses behind r.stands.loaded)))

pub stands_solved : (s t : Session) (e : Expanded) (bounds : Bounds) (inputs : List Input) (limit : Option ℕ) → StandsFor s e bounds inputs limit → Solves s t → StandsFor t e bounds inputs limit
stands_solved s t e bounds inputs limit st so =
    stands_made t e bounds inputs limit
    (subst (λ (a : Asking). Asks a e bounds inputs limit (length inputs)) (sym so.asking) st.asked)
    (so.count ∙ st.count) (so.limit ∙ st.same) so.loaded

-- a further pair, the input of which is still to be asked for
pub note_asks : (s : Session) (e : Expanded) (bounds : Bounds) (old new : List Pair) (p : Pair) (limit : Option ℕ) (n : ℕ) → StandsFor s e bounds (inputs_of old) limit → new ≡ old ++ p ∷ [] → n ≡ s.count → Asks s.asking e bounds (inputs_of new) limit n
note_asks s e bounds old new p limit n st is many =
    let wide = asks_more s.asking e bounds (inputs_of old) (p.input ∷ []) limit (length (inputs_of old)) (omega arith) st.asked in
    let list : inputs_of old ++ p.input ∷ [] ≡ inputs_of new = sym (ap inputs_of is ∙ inputs_push old p) in
    subst (λ (k : ℕ). Asks s.asking e bounds (inputs_of new) limit k) (sym (many ∙ st.count))
    (subst (λ (x : List Input). Asks s.asking e bounds x limit (length (inputs_of old))) list wide)

pub note_within : (s : Session) (e : Expanded) (bounds : Bounds) (old new : List Pair) (p : Pair) (limit : Option ℕ) (n : ℕ) → StandsFor s e bounds (inputs_of old) limit → new ≡ old ++ p ∷ [] → n ≡ s.count → n < length new
note_within s e bounds old new p limit n st is many =
    let a = ap length is ∙ length-append old (p ∷ []) in
    let b = st.count ∙ inputs_many old in
    omega (arith, a, b, many)

pub note_long : (old new : List Pair) (p : Pair) → new ≡ old ++ p ∷ [] → length new ≡ length old + 1
note_long old new p is = ap length is ∙ length-append old (p ∷ [])

pub note_steps : (s t : Session) (e : Expanded) (bounds : Bounds) (old new : List Pair) (p : Pair) (limit : Option ℕ) (n : ℕ) → StandsFor s e bounds (inputs_of old) limit → IsRound e bounds limit (inputs_of old) p → new ≡ old ++ p ∷ [] → n ≡ s.count → Asks t.asking e bounds (inputs_of new) limit (n + 1) → Begins s.asking.growing.encoded.clauses t.asking.growing.encoded.clauses → t.count ≡ length new → t.limit ≡ s.limit → t.solver ≡ s.solver → t.loaded ≡ s.loaded → Steps e bounds limit old new t
note_steps s t e bounds old new p limit n st round is many asks behind count same solver loaded =
    let long : n + 1 ≡ length (inputs_of new) = (let a = note_long old new p is in let b = st.count ∙ inputs_many old in let c = inputs_many new in omega (arith, a, b, c, many)) in
    record {
      grown = grown_push e bounds limit old new p round is;
      stands = stands_made t e bounds (inputs_of new) limit
          (subst (λ (k : ℕ). Asks t.asking e bounds (inputs_of new) limit k) long asks)
          (count ∙ sym (inputs_many new)) (same ∙ st.same)
          (subst (λ (k : ℕ). IsLoaded t.solver k t.asking.growing.encoded.clauses) (sym loaded)
          (subst (λ (x : State). IsLoaded x s.loaded t.asking.growing.encoded.clauses) (sym solver)
          (loaded_on s.solver s.loaded s.asking.growing.encoded.clauses t.asking.growing.encoded.clauses behind st.loaded)));
    }

pub steps_same : (s : Session) (e : Expanded) (bounds : Bounds) (limit : Option ℕ) (old : List Pair) → StandsFor s e bounds (inputs_of old) limit → Steps e bounds limit old old s
steps_same s e bounds limit old st = record { grown = grown_same e bounds limit old; stands = st }

pub steps_on : (m t : Session) (e : Expanded) (bounds : Bounds) (limit : Option ℕ) (old mid new : List Pair) → Steps e bounds limit old mid m → Steps e bounds limit mid new t → Steps e bounds limit old new t
steps_on m t e bounds limit old mid new a b = record { grown = grown_on e bounds limit old mid new a.grown b.grown; stands = b.stands }

-- what a call has learnt, once the solver has all clauses
pub of_call : (old mid new : State) (budget : ℕ) (a : Answered) → mid.learnt ≡ old.learnt → IsOfCall budget (gained mid new) a → IsOfCall budget (gained old new) a
of_call old mid new budget a same is = subst (λ (learnt : List (List Lit)). IsOfCall budget (drop (length learnt) new.learnt) a) same is

pub ruleset solves_made = (all_loaded, of_call)

pub ruleset readying = (stands_ready, ready_within, stands_again)
