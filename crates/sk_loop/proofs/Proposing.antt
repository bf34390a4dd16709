-- What the solver's answers say of the choices that pass the inputs of pairs.
use Rattle.std.proofs.Common.{◌≡◌, ℕ, ◌≤◌, ◌^◌, Bool, List, [], ◌∷◌, Option, refl, sym, subst, arith}
use Rattle.std.specs.Prelude.{IsTrue}
use Rattle.std.proofs.lemmas.Bool.{and_parts, ltb-true}
use Rattle.std.proofs.lemmas.List.Elements.{All-cons, All-nil}
use Rattle.sk_base.specs.declared.bounds.Bounds.{Bounds}
use Rattle.sk_base.specs.declared.bounds.Budget.{Budget}
use Rattle.sk_clause.specs.declared.lit.Lit.{Lit}
use Rattle.sk_clause.specs.Meaning.{Meets}
use Rattle.sk_model.specs.declared.expanded.Choice.{Choice}
use Rattle.sk_model.specs.declared.expanded.Expanded.{Expanded}
use Rattle.sk_model.specs.declared.expanded.Input.{Input}
use Rattle.sk_model.specs.declared.expanded.Pair.{Pair}
use Rattle.sk_model.specs.declared.expanded.Site.{Site}
use Rattle.sk_expand_sites.specs.Needs.{are_narrow, is_narrow}
use Rattle.sk_cnf.specs.declared.growing.Encoded.{Encoded}
use Rattle.sk_oblig_queries.specs.declared.query.Query.{Query}
use Rattle.sk_oblig_queries.specs.declared.query.Query.TheVariants as query
use Rattle.sk_oblig_queries.specs.Queries.{AsksFor, IsWanted}
use Rattle.sk_oblig_queries.specs.Laws.{AreSmall}
use Rattle.sk_oblig_queries.proofs.Nothing.{nothing_wanted}
use Rattle.sk_loop_guesses.specs.asking.Asking.{Asking}
use Rattle.sk_loop_guesses.specs.Formulas.{IsAskable}
use Rattle.sk_loop_laws.specs.Honest.{Honest, inputs_of}
use Rattle.sk_loop_laws.specs.Shown.{HasRoom, IsOfPairs, IsOfSearch, Learnt, NonePasses, limit_of}
use Rattle.sk_loop_laws.proofs.Completing.{completes_is_wanted}
use Rattle.sk_loop_laws.proofs.Pairs.{honest_are_inputs}
use Rattle.sk_loop.specs.declared.session.Session.{Session}
use Rattle.sk_loop.specs.Answered.{IsNever, IsSpentFrom}
use Rattle.sk_loop.specs.Countered.{IsBadQuery, IsSpentOn}
use Rattle.sk_loop.specs.Session.{StandsFor}
use Rattle.sk_loop.specs.Rounds.{Solves}
use Rattle.sk_loop.proofs.Countering.{still_asks, still_tight}
use Rattle.sk_loop.proofs.Standing.{stands_solved}

small_sites : (sites : List Site) → IsTrue (are_narrow sites) → AreSmall sites
small_sites [] n = All-nil (λ (s : Site). s.size ≤ 2 ^ 64)
small_sites (s ∷ ss) n =
    let both = and_parts (is_narrow s) (are_narrow ss) n in
    let below = ltb-true s.size 4294967297 both.0 in
    let small : s.size ≤ 2 ^ 64 = omega (arith, below) in
    All-cons (λ (t : Site). t.size ≤ 2 ^ 64) s ss small (small_sites ss both.1)

pub asks_solved : (s t : Session) (e : Expanded) (bounds : Bounds) (inputs : List Input) (limit : Option ℕ) → StandsFor s e bounds inputs limit → Solves s t → AsksFor t.asking.growing.encoded e bounds (query.Wanted inputs limit)
asks_solved s t e bounds inputs limit st so = (stands_solved s t e bounds inputs limit st so).asks

pub met_solved : (s t : Session) (v : ℕ → Bool) → Solves s t → Meets v s.asking.growing.encoded.clauses.clauses → Meets v t.asking.growing.encoded.clauses.clauses
met_solved s t v so met = subst (λ (a : Asking). Meets v a.growing.encoded.clauses.clauses) (sym so.asking) met

pub never_passes : (s : Session) (e : Expanded) (bounds : Bounds) (pairs : List Pair) (limit : Option ℕ) → IsAskable e bounds → Honest e bounds pairs → StandsFor s e bounds (inputs_of pairs) limit → IsNever s.asking.growing.encoded → NonePasses e bounds (inputs_of pairs) limit
never_passes s e bounds pairs limit askable honest st none =
    let never : (choice : Choice) → IsWanted e bounds (inputs_of pairs) limit choice → ⊥ = λ choice wanted. nothing_wanted s.asking.growing.encoded e bounds (inputs_of pairs) limit (small_sites e.sites askable.narrow) st.asks none.none choice wanted in
    record {
      passes = never;
      completes = λ choice c. never choice (completes_is_wanted e bounds limit choice (inputs_of pairs) (askable.met choice c.range) c (honest_are_inputs e bounds pairs honest));
    }

pub spent_wanted : (s : Session) (e : Expanded) (bounds : Bounds) (pairs : List Pair) (inputs : List Input) (limit : Option ℕ) (budget : Budget) (g : Encoded) (log : List (List Lit)) → Honest e bounds pairs → HasRoom budget pairs → StandsFor s e bounds (inputs_of pairs) limit → IsSpentFrom s.asking.growing.encoded budget.conflicts g log → inputs ≡ inputs_of pairs → Learnt e bounds budget.conflicts pairs (query.Wanted inputs limit) g log × (limit_of (query.Wanted inputs limit) ≡ limit) × IsOfSearch (query.Wanted inputs limit) × HasRoom budget pairs
spent_wanted s e bounds pairs inputs limit budget g log honest room st spent is =
    let f = s.asking.growing.encoded in
    let asks : AsksFor f e bounds (query.Wanted inputs limit) = subst (λ (x : List Input). AsksFor f e bounds (query.Wanted x limit)) (sym is) st.asks in (
      record {
        some = spent.some;
        long = spent.long;
        consistent = spent.consistent;
        asks = still_asks e bounds (query.Wanted inputs limit) f g budget.conflicts log asks spent;
        tight = still_tight f g budget.conflicts log st.tight spent;
        follows = spent.follows;
        fresh = spent.fresh;
        honest = honest;
        query = is;
      },
      refl,
      tt,
      room,
    )

bad_of_pairs : (e : Expanded) (bounds : Bounds) (pairs : List Pair) (q : Query) (choice : Choice) (limit : Option ℕ) → IsWanted e bounds (inputs_of pairs) limit choice → IsBadQuery q choice limit → IsOfPairs e bounds pairs q × (limit_of q ≡ limit) × IsOfSearch q
bad_of_pairs e bounds pairs (query.Bad c l) choice limit wanted is = (subst (λ (m : Option ℕ). IsWanted e bounds (inputs_of pairs) m c) (sym is.1) (subst (IsWanted e bounds (inputs_of pairs) limit) (sym is.0) wanted), is.1, tt)
bad_of_pairs e bounds pairs (query.BadAt c o l) choice limit wanted is = absurd is
bad_of_pairs e bounds pairs (query.Wanted inputs l) choice limit wanted is = absurd is

pub spent_bad : (e : Expanded) (bounds : Bounds) (pairs : List Pair) (choice : Choice) (limit : Option ℕ) (budget : Budget) (q : Query) (g : Encoded) (log : List (List Lit)) → Honest e bounds pairs → HasRoom budget pairs → IsWanted e bounds (inputs_of pairs) limit choice → IsSpentOn e bounds choice limit budget.conflicts q g log → Learnt e bounds budget.conflicts pairs q g log × (limit_of q ≡ limit) × IsOfSearch q × HasRoom budget pairs
spent_bad e bounds pairs choice limit budget q g log honest room wanted spent =
    let of = bad_of_pairs e bounds pairs q choice limit wanted spent.query in (
      record {
        some = spent.some;
        long = spent.long;
        consistent = spent.consistent;
        asks = spent.asks;
        tight = spent.tight;
        follows = spent.follows;
        fresh = spent.fresh;
        honest = honest;
        query = of.0;
      },
      of.1,
      of.2,
      room,
    )

pub ruleset proposing = (asks_solved, met_solved, stands_solved, never_passes, spent_wanted)
