-- An input that costs the best choice more, behind the pairs.
use Rattle.std.proofs.Common.{◌≡◌, inl, inr, ℕ, ◌+◌, ◌<◌, List, [], ◌∷◌, ◌++◌, Option, Some, None, length, take, get_or, refl, sym, ap, subst, ◌∙◌, arith}
use Rattle.std.specs.Prelude.{All, max}
use Rattle.std.proofs.lemmas.Option.{none-some, same_Some}
use Rattle.std.proofs.lemmas.List.{append_assoc, append-nil, get_or-map, length-map, map-append, take_more}
use Rattle.std.proofs.lemmas.Bool.{cases_order}
use Rattle.sk_base.specs.declared.bounds.Bounds.{Bounds}
use Rattle.sk_base.specs.declared.bounds.Budget.{Budget}
use Rattle.sk_clause.specs.declared.lit.Lit.{Lit}
use Rattle.sk_cnf.specs.declared.growing.Encoded.{Encoded}
use Rattle.sk_model.specs.declared.expanded.Choice.{Choice}
use Rattle.sk_model.specs.declared.expanded.Expanded.{Expanded}
use Rattle.sk_model.specs.declared.expanded.Input.{Input}
use Rattle.sk_model.specs.declared.expanded.Pair.{Pair}
use Rattle.sk_model.specs.Fill.{fill}
use Rattle.sk_model.specs.Inputs.{IsInput}
use Rattle.sk_model.specs.Meets.{Meets, cost_on}
use Rattle.sk_oblig_queries.specs.declared.query.Query.{Query}
use Rattle.sk_oblig_queries.specs.declared.query.Query.TheVariants as query
use Rattle.sk_oblig_queries.specs.Queries.{IsBad, IsWanted}
use Rattle.sk_loop.specs.Formulas.{IsAskable}
use Rattle.sk_loop.specs.Countered.{IsBadQuery, IsSpentOn}
use Rattle.sk_loop_laws.specs.Honest.{Grown, Honest, inputs_of}
use Rattle.sk_loop_laws.specs.Shown.{AreSpent, HasRoom, IsOfPairs, IsOfSearch, Learnt}
use Rattle.sk_min_laws.specs.Best.{Meeting, greatest_on}
use Rattle.sk_min.specs.Least.{CostsLeast, IsLimited, IsShort}
use Rattle.sk_min.specs.Search.{IsBehind, IsRaised}
use Rattle.sk_min_laws.proofs.Greatest.{each_within, greatest_push}
use Rattle.sk_loop_laws.proofs.Pairs.{grown_is_honest, honest_are_inputs}
use Rattle.sk_min.proofs.Lists.{last_read, one_longer, same_last, take_front}

-- the inputs of pairs with one behind them
pub inputs_push : (old : List Pair) (p : Pair) → inputs_of (old ++ p ∷ []) ≡ inputs_of old ++ p.input ∷ []
inputs_push old p = map-append (λ (q : Pair). q.input) old (p ∷ [])

pub nothing_behind : (pairs : List Pair) → IsBehind pairs pairs
nothing_behind pairs = record { added = []; is = sym (append-nil pairs) }

pub one_behind : (first old new : List Pair) (p : Pair) → IsBehind first old → new ≡ old ++ p ∷ [] → IsBehind first new
one_behind first old new p b e = record { added = b.added ++ p ∷ []; is = e ∙ ap (λ ps. ps ++ p ∷ []) b.is ∙ append_assoc first b.added (p ∷ []) }

pub behind_on : (first old new : List Pair) → IsBehind first old → IsBehind old new → IsBehind first new
behind_on first old new a b = record { added = a.added ++ b.added; is = b.is ∙ ap (λ ps. ps ++ b.added) a.is ∙ append_assoc first a.added b.added }

pub behind_grown : (e : Expanded) (bounds : Bounds) (limit : Option ℕ) (old new : List Pair) → Grown e bounds limit old new → IsBehind old new
behind_grown e bounds limit old new g = record { added = g.added; is = g.behind }

-- there is room where a budget is not spent by a further pair
pub room_left : (budget : Budget) (old new : List Pair) (p : Pair) → HasRoom budget old → new ≡ old ++ p ∷ [] → (AreSpent budget.rounds new → ⊥) → HasRoom budget new
room_left budget old new p room behind left =
    let long : length new ≡ length old + 1 = ap length behind ∙ one_longer old p in
    elim room [
      | inl none ↦ inl none
      | inr few ↦ elim (cases_order (length new) budget.rounds) [
        | inl same ↦ absurd (left (record { some = omega (arith, same, long); long = same }))
        | inr differ ↦ elim differ [ inl lt ↦ inr lt | inr gt ↦ absurd (omega (arith, gt, few, long)) ]
      ]
    ]

module _ (e : Expanded) (bounds : Bounds) where
  -- a choice that meets all obligations passes the inputs of pairs within what they cost it at most
  pub meeting_passes : (pairs : List Pair) (best : Choice) (value : ℕ) → IsAskable e bounds → Honest e bounds pairs → Meeting e bounds best → value ≡ greatest_on e bounds best (inputs_of pairs) → IsWanted e bounds (inputs_of pairs) (Some value) best
  unfolding Meets
  meeting_passes pairs best value askable honest meeting is =
      let met = askable.met best meeting.range in
      record {
        range = meeting.range;
        passes = record {
          unbroken = λ k d h. meeting.meets _ ((met.inputs _).1 (honest_are_inputs e bounds pairs honest k d h));
          within = each_within e bounds best (inputs_of pairs) value (omega arith);
        };
      }

  -- an input that speaks against it within this limit costs it more
  pub costs_more : (best : Choice) (value : ℕ) (input : Input) → IsAskable e bounds → Meeting e bounds best → IsBad e bounds best (Some value) input → value < cost_on (fill e best) bounds input
  unfolding Meets
  costs_more best value input askable meeting bad =
      let met = askable.met best meeting.range in
      elim bad.bad [
        | inl breaks ↦ absurd (meeting.meets input ((met.inputs input).1 bad.is_input) breaks)
        | inr over ↦ over
      ]

  pub grown_by_one : (old : List Pair) (p : Pair) (value : ℕ) → IsWanted e bounds (inputs_of old) (Some value) p.choice → IsBad e bounds p.choice (Some value) p.input → Grown e bounds (Some value) old (old ++ p ∷ [])
  grown_by_one old p value wanted bad = record {
    added = p ∷ [];
    behind = refl;
    rounds = λ i q h at.
        let r = last_read old p q i h at in
        let front : take i (old ++ p ∷ []) ≡ old = ap (λ k. take k (old ++ p ∷ [])) r.0 ∙ take_front old (p ∷ []) in
        record {
          wanted = subst (λ (ps : List Pair). IsWanted e bounds (inputs_of ps) (Some value) q.choice) (sym front) (subst (λ (x : Pair). IsWanted e bounds (inputs_of old) (Some value) x.choice) r.1 wanted);
          bad = subst (λ (x : Pair). IsBad e bounds x.choice (Some value) x.input) r.1 bad;
        };
  }

  pub raised_by : (old : List Pair) (p : Pair) (value cost : ℕ) → IsAskable e bounds → Honest e bounds old → Meeting e bounds p.choice → value ≡ greatest_on e bounds p.choice (inputs_of old) → IsBad e bounds p.choice (Some value) p.input → cost ≡ cost_on (fill e p.choice) bounds p.input → IsRaised e bounds p.choice old (old ++ p ∷ []) cost
  raised_by old p value cost askable honest meeting is bad costs =
      let more = costs_more p.choice value p.input askable meeting bad in
      let wanted = meeting_passes old p.choice value askable honest meeting is in
      let on_all : greatest_on e bounds p.choice (inputs_of (old ++ p ∷ [])) ≡ greatest_on e bounds p.choice (inputs_of old ++ p.input ∷ []) = ap (greatest_on e bounds p.choice) (inputs_push old p) in
      let pushed = greatest_push e bounds p.choice (inputs_of old) p.input in
      record {
        pair = p;
        behind = refl;
        of_best = refl;
        honest = grown_is_honest e bounds (Some value) old (old ++ p ∷ []) honest (grown_by_one old p value wanted bad);
        is = omega (arith, more, on_all, pushed, is, costs);
        some = omega (arith, more, costs);
      }

  -- as it stands in code: of a copy of the choice
  pub raised : (old new : List Pair) (best : Choice) (p : Pair) (value cost : ℕ) → IsAskable e bounds → Honest e bounds old → Meeting e bounds best → value ≡ greatest_on e bounds best (inputs_of old) → IsBad e bounds best (Some value) p.input → cost ≡ cost_on (fill e best) bounds p.input → p.choice ≡ best → new ≡ old ++ p ∷ [] → IsRaised e bounds best old new cost
  raised old new best p value cost askable honest meeting is bad costs same behind =
      subst (λ (ps : List Pair). IsRaised e bounds best old ps cost) (sym behind)
      (subst (λ (b : Choice). Meeting e bounds b → value ≡ greatest_on e bounds b (inputs_of old) → IsBad e bounds b (Some value) p.input → cost ≡ cost_on (fill e b) bounds p.input → IsRaised e bounds b old (old ++ p ∷ []) cost) same
      (λ m i b c. raised_by old p value cost askable honest m i b c) meeting is bad costs)

  -- what is shown where the pairs are as many as the budget says
  pub short_of_raised : (best : Choice) (old new : List Pair) (cost : ℕ) → Meeting e bounds best → CostsLeast e bounds new best → IsRaised e bounds best old new cost → IsShort e bounds new best
  short_of_raised best old new cost meeting least r = record {
    meeting = meeting;
    least = least;
    more = omega (arith, r.is, r.some);
    last = λ front p at.
        let same : r.pair ≡ p = same_last old front r.pair p (sym r.behind ∙ at) in
        inl (ap (λ (x : Pair). x.choice) (sym same) ∙ r.of_best);
  }

  -- a query for an input of any obligation is one of the search
  pub of_search : (q : Query) (choice : Choice) (limit : Option ℕ) → IsBadQuery q choice limit → IsOfSearch q
  of_search (query.Bad c l) choice limit h = tt
  of_search (query.BadAt c o l) choice limit h = absurd h
  of_search (query.Wanted inputs l) choice limit h = absurd h

  -- the query of a spent search for a costlier input
  pub limited_of : (pairs : List Pair) (best : Choice) (value : ℕ) (q : Query) → IsBadQuery q best (Some value) → value ≡ greatest_on e bounds best (inputs_of pairs) → IsLimited e bounds pairs best q
  limited_of pairs best value (query.Bad c None) h is = absurd (none-some value h.1)
  limited_of pairs best value (query.Bad c (Some limit)) h is = inl (h.0, same_Some limit value h.1 ∙ is)
  limited_of pairs best value (query.BadAt c o limit) h is = absurd h
  limited_of pairs best value (query.Wanted inputs limit) h is = absurd h

  pub of_pairs : (pairs : List Pair) (best : Choice) (limit : Option ℕ) (q : Query) → IsBadQuery q best limit → IsWanted e bounds (inputs_of pairs) limit best → IsOfPairs e bounds pairs q
  of_pairs pairs best limit (query.Bad c l) h wanted = subst (λ (b : Choice). IsWanted e bounds (inputs_of pairs) l b) (sym h.0) (subst (λ (m : Option ℕ). IsWanted e bounds (inputs_of pairs) m best) (sym h.1) wanted)
  of_pairs pairs best limit (query.BadAt c o l) h wanted = absurd h
  of_pairs pairs best limit (query.Wanted inputs l) h wanted = absurd h

  pub learnt_of : (pairs : List Pair) (best : Choice) (value count : ℕ) (q : Query) (f : Encoded) (log : List (List Lit)) → IsAskable e bounds → Honest e bounds pairs → Meeting e bounds best → value ≡ greatest_on e bounds best (inputs_of pairs) → IsSpentOn e bounds best (Some value) count q f log → Learnt e bounds count pairs q f log
  learnt_of pairs best value count q f log askable honest meeting is spent = record {
    some = spent.some;
    long = spent.long;
    consistent = spent.consistent;
    asks = spent.asks;
    tight = spent.tight;
    follows = spent.follows;
    fresh = spent.fresh;
    honest = honest;
    query = of_pairs pairs best (Some value) q spent.query (meeting_passes pairs best value askable honest meeting is);
  }

  -- the greatest cost over one more of the pairs
  pub greatest_more : (pairs : List Pair) (i : ℕ) (p : Pair) (best : Choice) (greatest cost : ℕ) → i < length pairs → p ≡ get_or pairs i p → greatest ≡ greatest_on e bounds best (inputs_of (take i pairs)) → cost ≡ cost_on (fill e best) bounds p.input → max greatest cost ≡ greatest_on e bounds best (inputs_of (take (i + 1) pairs))
  greatest_more pairs i p best greatest cost h at so costs =
      let more : take (i + 1) pairs ≡ take i pairs ++ p ∷ [] = take_more pairs i p h ∙ ap (λ (q : Pair). take i pairs ++ q ∷ []) (sym at) in
      let on_all : greatest_on e bounds best (inputs_of (take (i + 1) pairs)) ≡ greatest_on e bounds best (inputs_of (take i pairs) ++ p.input ∷ []) = ap (greatest_on e bounds best) (ap inputs_of more ∙ inputs_push (take i pairs) p) in
      let pushed = greatest_push e bounds best (inputs_of (take i pairs)) p.input in
      omega (arith, on_all, pushed, so, costs)

  pub input_at : (pairs : List Pair) (i : ℕ) (p : Pair) → i < length pairs → p ≡ get_or pairs i p → All (IsInput e.prog bounds) (inputs_of pairs) → IsInput e.prog bounds p.input
  input_at pairs i p h at all =
      let long : length (inputs_of pairs) ≡ length pairs = length-map pairs (λ (q : Pair). q.input) in
      let read : get_or (inputs_of pairs) i p.input ≡ p.input = get_or-map (λ (q : Pair). q.input) pairs i p p.input h ∙ ap (λ (q : Pair). q.input) (sym at) in
      subst (λ (x : Input). IsInput e.prog bounds x) read (all i p.input (omega arith))
