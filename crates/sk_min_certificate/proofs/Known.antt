-- What is known of a best choice, and of there being none, as what makes proofs asks for it.
use Rattle.std.proofs.Common.{◌≡◌, ◌⊎◌, inl, inr, ℕ, zero, suc, ◌<◌, ◌≤◌, ◌-◌, List, Option, Some, None, All, refl, sym, subst, ◌∙◌, ap, arith}
use Rattle.std.specs.Prelude.{IfSome}
use Rattle.std.proofs.lemmas.Bool.{cases_lt}
use Rattle.std.proofs.lemmas.Option.{none-some, same_Some}
use Rattle.sk_base.specs.declared.bounds.Bounds.{Bounds}
use Rattle.sk_clause.specs.declared.lit.Lit.{Lit}
use Rattle.sk_cnf.specs.declared.growing.Encoded.{Encoded}
use Rattle.sk_model.specs.declared.expanded.Choice.{Choice}
use Rattle.sk_model.specs.declared.expanded.Expanded.{Expanded}
use Rattle.sk_model.specs.declared.expanded.Input.{Input}
use Rattle.sk_model.specs.declared.expanded.Pair.{Pair}
use Rattle.sk_model.specs.Inputs.{IsInput}
use Rattle.sk_oblig_queries.specs.declared.query.Query.{Query}
use Rattle.sk_oblig_queries.specs.declared.query.Query.TheVariants as query
use Rattle.sk_oblig_queries.specs.Queries.{IsWanted}
use Rattle.sk_min.specs.Formulas.{IsAskable}
use Rattle.sk_loop_laws.specs.Honest.{Honest, inputs_of}
use Rattle.sk_loop_laws.specs.Shown.{Completes, IsOfPairs, Learnt}
use Rattle.sk_loop_laws.proofs.Completing.{completes_is_wanted}
use Rattle.sk_loop_laws.proofs.Pairs.{honest_are_inputs}
use Rattle.sk_min_laws.specs.Best.{Meeting, IsBest, NoneBelow, greatest_on}
use Rattle.sk_min_laws.proofs.Greatest.{each_within, greatest_within}
use Rattle.sk_min.specs.Least.{CostsLeast, IsKnownOf, IsLimited}
use Rattle.sk_min_certify.specs.Certified.{IsPut, NonePassesBelow}
use Rattle.sk_min_certify.specs.Stops.{IsLearnt}
use Rattle.sk_min_certificate.specs.Certifications.{IsSpentProof}
use Rattle.sk_min_certificate.specs.Claims.{IsKnown}

-- a best choice completes within its value
pub completes : (e : Expanded) (bounds : Bounds) (choice : Option Choice) (value : ℕ) (pairs : List Pair) → IsKnown e bounds choice value pairs → IfSome choice (Completes e bounds (Some value))
completes e bounds None value pairs k = tt
completes e bounds (Some a) value pairs k = let b = k.0 in record { range = b.meeting.range; meets = b.meeting.meets; within = b.costs.greatest }

-- where a lower proof is made, no choice passes the inputs within its limit
pub none_below : (e : Expanded) (bounds : Bounds) (choice : Option Choice) (value : ℕ) (pairs : List Pair) → IsKnown e bounds choice value pairs → NonePassesBelow e bounds choice value (inputs_of pairs)
none_below e bounds None value pairs k = λ limit is b wanted. k.1 b (subst (λ (l : Option ℕ). IsWanted e bounds (inputs_of pairs) l b) is wanted)
none_below e bounds (Some a) zero pairs k = λ limit is b wanted. absurd (let none : 0 < 0 = is.0 in omega (arith, none))
none_below e bounds (Some a) (suc w) pairs k = λ limit is b wanted.
    let less : suc w - 1 ≡ w = omega arith in
    k.1 b (subst (λ (l : Option ℕ). IsWanted e bounds (inputs_of pairs) l b) (is.1 ∙ ap Some less) wanted)

module _ (e : Expanded) (bounds : Bounds) (askable : IsAskable e bounds) (pairs : List Pair) (honest : Honest e bounds pairs) where
  are : All (IsInput e.prog bounds) (inputs_of pairs)
  are = honest_are_inputs e bounds pairs honest

  -- a choice that meets the obligations passes the inputs within what they cost it at most
  passes : (b : Choice) (w : ℕ) → Meeting e bounds b → greatest_on e bounds b (inputs_of pairs) ≤ w → IsWanted e bounds (inputs_of pairs) (Some w) b
  passes b w m within =
      let done : Completes e bounds None b = record { range = m.range; meets = m.meets; within = tt } in
      let wanted : IsWanted e bounds (inputs_of pairs) None b = completes_is_wanted e bounds None b (inputs_of pairs) (askable.met b m.range) done are in
      record { range = m.range; passes = record { unbroken = wanted.passes.unbroken; within = each_within e bounds b (inputs_of pairs) w within } }

  -- and they cost it no less than the best value
  at_least : (value : ℕ) (b : Choice) → NoneBelow e bounds (inputs_of pairs) value → Meeting e bounds b → value ≤ greatest_on e bounds b (inputs_of pairs)
  at_least zero b below m = omega arith
  at_least (suc w) b below m = elim (cases_lt w (greatest_on e bounds b (inputs_of pairs))) [
    | inl above ↦ omega (arith, above)
    | inr within ↦ absurd (below b (passes b w m within))
  ]

  -- the best one they cost just that
  greatest_is : (value : ℕ) (a : Choice) → IsBest e bounds a value → NoneBelow e bounds (inputs_of pairs) value → greatest_on e bounds a (inputs_of pairs) ≡ value
  greatest_is value a best below =
      let done : Completes e bounds (Some value) a = record { range = best.meeting.range; meets = best.meeting.meets; within = best.costs.greatest } in
      let wanted : IsWanted e bounds (inputs_of pairs) (Some value) a = completes_is_wanted e bounds (Some value) a (inputs_of pairs) (askable.met a best.meeting.range) done are in
      let most = greatest_within e bounds a (inputs_of pairs) value wanted.passes.within in
      let least = at_least value a below best.meeting in
      omega (arith, most, least)

  limited : (value : ℕ) (a : Choice) → IsBest e bounds a value → NoneBelow e bounds (inputs_of pairs) value → (q : Query) → IsPut e bounds (Some a) value (inputs_of pairs) q → IsLimited e bounds pairs a q
  limited value a best below (query.Bad b limit) put = absurd put
  limited value a best below (query.BadAt b o limit) put = inl (sym (same_Some a b put.0), put.2 ∙ sym (greatest_is value a best below))
  limited value a best below (query.Wanted listed None) put = absurd (none-some (value - 1) (put.1).1)
  limited value a best below (query.Wanted listed (Some limit)) put =
      let is = greatest_is value a best below in
      let some : 0 < value = (put.1).0 in
      let same : limit ≡ value - 1 = same_Some limit (value - 1) (put.1).1 in
      record { some = omega (arith, is, some); is = omega (arith, is, same) }

  costs_least : (value : ℕ) (a : Choice) → IsBest e bounds a value → NoneBelow e bounds (inputs_of pairs) value → CostsLeast e bounds pairs a
  costs_least value a best below = record {
    each = λ i p at m.
        let is = greatest_is value a best below in
        let least = at_least value p.choice below m in
        omega (arith, is, least);
  }

  known_of : (choice : Option Choice) (value : ℕ) → IsKnown e bounds choice value pairs → (q : Query) → IsPut e bounds choice value (inputs_of pairs) q → IsKnownOf e bounds pairs q choice
  known_of None value k (query.Bad b limit) put = absurd put
  known_of None value k (query.BadAt b o limit) put = absurd (none-some b put.0)
  known_of None value k (query.Wanted listed limit) put = put.1
  known_of (Some a) value k q put = (k.0.meeting, limited value a k.0 k.1 q put, costs_least value a k.0 k.1)

  of_pairs : (choice : Option Choice) (value : ℕ) (q : Query) → IsPut e bounds choice value (inputs_of pairs) q → IsOfPairs e bounds pairs q
  of_pairs choice value (query.Bad b limit) put = absurd put
  of_pairs choice value (query.BadAt b o limit) put = (put.3, put.1)
  of_pairs choice value (query.Wanted listed limit) put = put.0

  -- what a spent budget leaves is what it would leave of a search that found the pairs
  pub spent : (choice : Option Choice) (value count : ℕ) (q : Query) (f : Encoded) (log : List (List Lit)) → IsKnown e bounds choice value pairs → IsPut e bounds choice value (inputs_of pairs) q → IsLearnt e bounds count q f log → IsSpentProof e bounds choice pairs count q f log
  spent choice value count q f log k put l = record {
    learnt = record {
      some = l.spent.some;
      long = l.spent.long;
      consistent = l.spent.consistent;
      asks = l.asks;
      tight = l.tight;
      follows = l.spent.follows;
      fresh = l.spent.fresh;
      honest = honest;
      query = of_pairs choice value q put;
    };
    known = known_of choice value k q put;
  }
