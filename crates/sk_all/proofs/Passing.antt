-- What an answer of the solver says of the choices that pass inputs.
use Rattle.std.proofs.Common.{◌≡◌, ℕ, ◌<◌, ◌≤◌, ◌^◌, Bool, List, [], ◌∷◌, length, map, None, refl, sym, subst, ◌∙◌, arith}
use Rattle.std.specs.Prelude.{IsTrue}
use Rattle.std.proofs.lemmas.Bool.{and_parts, ltb-true}
use Rattle.std.proofs.lemmas.List.{length-map}
use Rattle.std.proofs.lemmas.List.Elements.{All-nil, All-cons}
use Rattle.sk_base.specs.declared.bounds.Bounds.{Bounds}
use Rattle.sk_clause.specs.declared.lit.Lit.{Lit}
use Rattle.sk_clause.specs.Meaning.{Meets, valuation}
use Rattle.sk_clause.proofs.MeaningLemmas.{refuted}
use Rattle.sk_cnf.specs.declared.growing.Encoded.{Encoded}
use Rattle.sk_model.specs.declared.expanded.Expanded.{Expanded}
use Rattle.sk_model.specs.declared.expanded.Input.{Input}
use Rattle.sk_model.specs.declared.expanded.Site.{Site}
use Rattle.sk_expand_sites.specs.Needs.{is_narrow, are_narrow}
use Rattle.sk_loop.specs.Formulas.{IsAskable}
use Rattle.sk_oblig_queries.specs.declared.query.Query.{Query}
use Rattle.sk_oblig_queries.specs.declared.query.Query.TheVariants as query
use Rattle.sk_oblig_queries.specs.Laws.{AreSmall}
use Rattle.sk_oblig_queries.specs.Queries.{AsksFor, bits_of_query}
use Rattle.sk_oblig_queries.specs.Said.{choice_said}
use Rattle.sk_oblig_queries.proofs.Nothing.{nothing_wanted}
use Rattle.sk_sat.specs.declared.solver.Answer.{Answer}
use Rattle.sk_sat.specs.declared.solver.Answer.TheVariants as answer
use Rattle.sk_loop_refuted.specs.Refuted.{IsAnswered, IsSolution, IsRefutation}
use Rattle.sk_all.specs.Reasons.{SomePasses, NonePasses}

pub small_sites : (sites : List Site) → IsTrue (are_narrow sites) → AreSmall sites
small_sites [] n = All-nil (λ (s : Site). s.size ≤ 2 ^ 64)
small_sites (s ∷ ss) n =
    let both = and_parts (is_narrow s) (are_narrow ss) n in
    let below = ltb-true s.size 4294967297 both.0 in
    let small : s.size ≤ 2 ^ 64 = omega (arith, below) in
    All-cons (λ (t : Site). t.size ≤ 2 ^ 64) s ss small (small_sites ss both.1)

-- values that meet the formula say a choice
pub some_passes : (f : Encoded) (e : Expanded) (bounds : Bounds) (q : Query) (inputs : List Input) (values : List Bool) → q ≡ query.Wanted inputs None → AsksFor f e bounds q → IsSolution f values → SomePasses e bounds inputs
some_passes f e bounds q inputs values is asks found =
    let asked : AsksFor f e bounds (query.Wanted inputs None) = subst (λ (r : Query). AsksFor f e bounds r) is asks in
    let bits : List Bool = map (valuation values) f.names in
    let long : length bits ≡ bits_of_query e bounds (query.Wanted inputs None) = length-map f.names (valuation values) ∙ asked.named in
    record {
      choice = choice_said e.sites bits;
      passes = (asked.exact bits long).0 (valuation values, refl, found.meets);
    }

-- a formula that is refuted says none
pub none_passes : (f : Encoded) (e : Expanded) (bounds : Bounds) (q : Query) (inputs : List Input) (log : List (List Lit)) (budget : ℕ) → IsAskable e bounds → q ≡ query.Wanted inputs None → AsksFor f e bounds q → IsRefutation f budget log → NonePasses e bounds inputs
none_passes f e bounds q inputs log budget askable is asks r =
    let asked : AsksFor f e bounds (query.Wanted inputs None) = subst (λ (p : Query). AsksFor f e bounds p) is asks in
    record { none = λ choice wanted. nothing_wanted f e bounds inputs None (small_sites e.sites askable.narrow) asked (λ v met. refuted v f.clauses.clauses log r.refutes met) choice wanted }

pub some_told : (f : Encoded) (e : Expanded) (bounds : Bounds) (q : Query) (inputs : List Input) (a : Answer) (values : List Bool) → a ≡ answer.Sat values → IsAnswered f 0 a → q ≡ query.Wanted inputs None → AsksFor f e bounds q → SomePasses e bounds inputs
some_told f e bounds q inputs a values found told is asks = some_passes f e bounds q inputs values is asks (subst (λ (b : Answer). IsAnswered f 0 b) found told)

pub none_told : (f : Encoded) (e : Expanded) (bounds : Bounds) (q : Query) (inputs : List Input) (a : Answer) (log : List (List Lit)) → IsAskable e bounds → a ≡ answer.Unsat log → IsAnswered f 0 a → q ≡ query.Wanted inputs None → AsksFor f e bounds q → NonePasses e bounds inputs
none_told f e bounds q inputs a log askable found told is asks = none_passes f e bounds q inputs log 0 askable is asks (subst (λ (b : Answer). IsAnswered f 0 b) found told)
