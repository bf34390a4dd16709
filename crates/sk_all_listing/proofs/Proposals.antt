-- What an answer of the solver says of a formula in which listed choices are excluded.
use Rattle.std.proofs.Common.{◌≡◌, ℕ, ◌≤◌, ◌^◌, Bool, List, [], ◌∷◌, map, length, Some, None, refl, sym, ap, subst, ◌∙◌, arith}
use Rattle.std.specs.Prelude.{Contains, IsTrue}
use Rattle.std.proofs.lemmas.Bool.{and_parts, ltb-true}
use Rattle.std.proofs.lemmas.List.{length-map}
use Rattle.sk_base.specs.declared.bounds.Bounds.{Bounds}
use Rattle.sk_clause.specs.declared.lit.Lit.{Lit}
use Rattle.sk_clause.specs.Meaning.{Meets, valuation}
use Rattle.sk_clause.proofs.MeaningLemmas.{refuted}
use Rattle.sk_cnf.specs.declared.growing.Encoded.{Encoded}
use Rattle.sk_model.specs.declared.expanded.Choice.{Choice}
use Rattle.sk_model.specs.declared.expanded.Expanded.{Expanded}
use Rattle.sk_model.specs.declared.expanded.Input.{Input}
use Rattle.sk_model.specs.declared.expanded.Site.{Site}
use Rattle.sk_model.specs.Fill.{Fits}
use Rattle.sk_model.specs.Stands.{AgreeWhereStands}
use Rattle.sk_expand_sites.specs.Needs.{is_narrow, are_narrow}
use Rattle.sk_all.specs.Formulas.{IsAskable}
use Rattle.sk_oblig_queries.specs.declared.query.Query.{Query}
use Rattle.sk_oblig_queries.specs.declared.query.Query.TheVariants as query
use Rattle.sk_oblig_queries.specs.Numbers.{numbers_said}
use Rattle.sk_oblig_queries.specs.Queries.{AsksFor, IsWanted, bits_of_query}
use Rattle.sk_oblig_queries.specs.Said.{choice_said}
use Rattle.sk_oblig_queries.specs.Widths.{sites_widths}
use Rattle.sk_oblig_queries.proofs.Spoken.{Below, all_spoken, size_reached}
use Rattle.sk_sat.specs.declared.solver.Answer.{Answer}
use Rattle.sk_sat.specs.declared.solver.Answer.TheVariants as answer
use Rattle.sk_loop_refuted.specs.Refuted.{IsAnswered, IsRefutation, IsSolution}
use Rattle.sk_all_exclusions.specs.declared.listed.Listed.{Listed}
use Rattle.sk_all_exclusions.specs.Exclusions.{HasNames}
use Rattle.sk_all_exclusions.specs.Laws.{AreExact}
use Rattle.sk_all_listing.specs.Rounds.{IsProposed, IsUnlisted}

-- the formula of a query for a choice has a name for each bit of each site
pub has_names : (f : Encoded) (e : Expanded) (bounds : Bounds) (q : Query) (inputs : List Input) → q ≡ query.Wanted inputs None → AsksFor f e bounds q → HasNames f e
has_names f e bounds q inputs is asks =
    let asked : AsksFor f e bounds (query.Wanted inputs None) = subst (λ (r : Query). AsksFor f e bounds r) is asks in
    record { named = asked.named; within = asked.within }

-- the values of a choice in range are small enough for the bits of their sites
below : (ss : List Site) (vs : List ℕ) → IsTrue (are_narrow ss) → Fits ss vs → Below (sites_widths ss) vs
below [] [] narrow h = tt
below [] (v ∷ vs) narrow h = absurd h
below (s ∷ ss) [] narrow h = absurd h
below (s ∷ ss) (v ∷ vs) narrow h =
    let both = and_parts (is_narrow s) (are_narrow ss) narrow in
    let less = ltb-true s.size 4294967297 both.0 in
    let small : s.size ≤ 2 ^ 64 = omega (arith, less) in
    let reached = size_reached s.size small in
    (omega (arith, h.0, reached), below ss vs both.1 h.1)

module _ (f g : Encoded) (e : Expanded) (bounds : Bounds) (inputs : List Input) (ls : List Listed) (exact : AreExact e f g ls) (asks : AsksFor f e bounds (query.Wanted inputs None)) where
  -- values that meet it say a choice that passes, with which none that is listed agrees
  says_other : (values : List Bool) → g.names ≡ f.names → Meets (valuation values) g.clauses.clauses → (choice : Choice) → choice ≡ choice_said e.sites (map (valuation values) g.names) → IsWanted e bounds inputs None choice × IsUnlisted e ls choice
  says_other values names met choice is =
      let v : ℕ → Bool = valuation values in
      let bits : List Bool = map v f.names in
      let long : length bits ≡ bits_of_query e bounds (query.Wanted inputs None) = length-map f.names v ∙ asks.named in
      let two = (exact.met v).0 met in
      let same : choice_said e.sites bits ≡ choice = ap (λ (ns : List ℕ). choice_said e.sites (map v ns)) (sym names) ∙ sym is in (
        subst (λ (c : Choice). IsWanted e bounds inputs None c) same ((asks.exact bits long).0 (v, refl, two.0)),
        subst (λ (c : Choice). IsUnlisted e ls c) same (record { none = two.1 }),
      )

  -- where it is refuted, each choice that passes agrees with one that is listed
  agrees_with_one : (log : List (List Lit)) → IsTrue (are_narrow e.sites) → IsRefutation g 0 log → (b : Choice) → IsWanted e bounds inputs None b → (l : Listed) × Contains ls l × AgreeWhereStands e l.choice.values b.values
  agrees_with_one log narrow r b wanted =
      let ws : List ℕ = sites_widths e.sites in
      let said = all_spoken ws b.values (below e.sites b.values narrow wanted.range.fits) in
      let holds : IsWanted e bounds inputs None (choice_said e.sites said.0) = subst (λ (values : List ℕ). IsWanted e bounds inputs None (record { values = values })) (sym said.2) wanted in
      let met = (asks.exact said.0 said.1).1 holds in
      let one = exact.unmet met.0 met.2 (λ all. refuted met.0 g.clauses.clauses log r.refutes all) in
      let same : numbers_said ws (map met.0 f.names) ≡ b.values = ap (numbers_said ws) met.1 ∙ said.2 in
      (one.0, one.1, subst (λ (values : List ℕ). AgreeWhereStands e one.0.choice.values values) same one.2)

pub some_proposed : (f g : Encoded) (e : Expanded) (bounds : Bounds) (q : Query) (inputs : List Input) (ls : List Listed) (a : Answer) (values : List Bool) (choice : Choice) → AreExact e f g ls → q ≡ query.Wanted inputs None → AsksFor f e bounds q → g.names ≡ f.names → a ≡ answer.Sat values → IsAnswered g 0 a → choice ≡ choice_said e.sites (map (valuation values) g.names) → IsProposed e bounds inputs ls (Some choice)
some_proposed f g e bounds q inputs ls a values choice exact is asks names found told said =
    let asked : AsksFor f e bounds (query.Wanted inputs None) = subst (λ (r : Query). AsksFor f e bounds r) is asks in
    let solved : IsSolution g values = subst (λ (b : Answer). IsAnswered g 0 b) found told in
    says_other f g e bounds inputs ls exact asked values names solved.meets choice said

pub none_proposed : (f g : Encoded) (e : Expanded) (bounds : Bounds) (q : Query) (inputs : List Input) (ls : List Listed) (a : Answer) (log : List (List Lit)) → IsAskable e bounds → AreExact e f g ls → q ≡ query.Wanted inputs None → AsksFor f e bounds q → a ≡ answer.Unsat log → IsAnswered g 0 a → IsProposed e bounds inputs ls None
none_proposed f g e bounds q inputs ls a log askable exact is asks found told =
    let asked : AsksFor f e bounds (query.Wanted inputs None) = subst (λ (r : Query). AsksFor f e bounds r) is asks in
    let shown : IsRefutation g 0 log = subst (λ (b : Answer). IsAnswered g 0 b) found told in
    agrees_with_one f g e bounds inputs ls exact asked log askable.narrow shown

pub solved_meets : (g : Encoded) (a : Answer) (values : List Bool) → a ≡ answer.Sat values → IsAnswered g 0 a → Meets (valuation values) g.clauses.clauses
solved_meets g a values found told = let solved : IsSolution g values = subst (λ (b : Answer). IsAnswered g 0 b) found told in solved.meets

pub ruleset proposing = (has_names, solved_meets)
