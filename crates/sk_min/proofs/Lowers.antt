-- A search below the value of the best choice.
use Rattle.std.proofs.Common.{◌≡◌, ◌≢◌, inl, inr, ℕ, ◌+◌, ◌<◌, ◌≤◌, ◌-◌, List, [], ◌∷◌, ◌++◌, Option, Some, None, length, take, slice_get, sym, ap, subst, ◌∙◌, arith}
use Rattle.std.proofs.lemmas.Option.{none-some, same_Some}
use Rattle.std.proofs.lemmas.List.{append-nil, append_assoc, map-append}
use Rattle.sk_base.specs.declared.bounds.Bounds.{Bounds}
use Rattle.sk_base.specs.declared.bounds.Budget.{Budget}
use Rattle.sk_model.specs.declared.expanded.Choice.{Choice}
use Rattle.sk_model.specs.declared.expanded.Expanded.{Expanded}
use Rattle.sk_model.specs.declared.expanded.Pair.{Pair}
use Rattle.sk_model.specs.Fill.{fill}
use Rattle.sk_model.specs.Meets.{IsGreatestCost, cost_on}
use Rattle.sk_oblig_queries.specs.declared.query.Query.{Query}
use Rattle.sk_oblig_queries.specs.declared.query.Query.TheVariants as query
use Rattle.sk_oblig_queries.specs.Queries.{IsWanted}
use Rattle.sk_loop.specs.Formulas.{IsAskable}
use Rattle.sk_loop.specs.declared.session.Session.{Session}
use Rattle.sk_loop.specs.Session.{IsReady, StandsFor}
use Rattle.sk_loop_laws.specs.Honest.{Grown, Honest, inputs_of}
use Rattle.sk_loop_laws.specs.Shown.{AreSpent, Completes, HasRoom, IsOfPairs, limit_of}
use Rattle.sk_min_laws.specs.Best.{Meeting, greatest_on}
use Rattle.sk_min.specs.Least.{AllBreak, CostsLeast, IsLimited, IsLowered, IsShort}
use Rattle.sk_min.specs.Search.{IsBehind, IsCheapest, IsReadyBelow, IsState, IsTop}
use Rattle.sk_min.proofs.Bests.{meeting_of, pairs_within}
use Rattle.sk_min_laws.proofs.Greatest.{greatest_append, greatest_within}
use Rattle.sk_min.proofs.Lists.{last_there, one_longer, take_front}

pub inputs_append : (old added : List Pair) → inputs_of (old ++ added) ≡ inputs_of old ++ inputs_of added
inputs_append old added = map-append (λ (q : Pair). q.input) old added

module _ (e : Expanded) (bounds : Bounds) where
  -- Readiness

  pub ready_first : (s : Session) (pairs : List Pair) (best : Choice) → StandsFor s e bounds (inputs_of pairs) None → IsReadyBelow s e bounds pairs best
  ready_first s pairs best stands = record {
    below = λ v g. record {
      before = inputs_of pairs;
      most = None;
      stands = stands;
      front = record { rest = []; is = sym (append-nil (inputs_of pairs)) };
      above = tt;
    };
  }

  pub ready_lower : (s : Session) (pairs : List Pair) (best : Choice) (less : ℕ) → StandsFor s e bounds (inputs_of pairs) (Some less) → Completes e bounds (Some less) best → IsReadyBelow s e bounds pairs best
  ready_lower s pairs best less stands completes = record {
    below = λ v g. record {
      before = inputs_of pairs;
      most = Some less;
      stands = stands;
      front = record { rest = []; is = sym (append-nil (inputs_of pairs)) };
      above = elim g.reached [
        | inl z ↦ omega (arith, z)
        | inr r ↦ let h : cost_on (fill e best) bounds r.0 ≤ less = completes.within r.0 r.1 in omega (arith, r.2, h)
      ];
    };
  }

  pub ready_later : (s : Session) (old new added : List Pair) (limit : Option ℕ) → new ≡ old ++ added → IsReady s e bounds (inputs_of old) limit → IsReady s e bounds (inputs_of new) limit
  ready_later s old new added limit behind r = record {
    before = r.before;
    most = r.most;
    stands = r.stands;
    front = record {
      rest = r.front.rest ++ inputs_of added;
      is = ap inputs_of behind ∙ inputs_append old added ∙ ap (λ is. is ++ inputs_of added) r.front.is ∙ append_assoc r.before r.front.rest (inputs_of added);
    };
    above = r.above;
  }

  pub state_first : (s : Session) (pairs : List Pair) (best : Choice) → Honest e bounds pairs → Meeting e bounds best → IsCheapest e bounds pairs best → StandsFor s e bounds (inputs_of pairs) None → IsState e bounds (record { session = s; pairs = pairs; best = best })
  state_first s pairs best honest meeting cheapest stands = record { honest = honest; meeting = meeting; cheapest = cheapest; ready = ready_first s pairs best stands }

  pub state_lower : (s : Session) (pairs : List Pair) (best : Choice) (less : ℕ) → Honest e bounds pairs → StandsFor s e bounds (inputs_of pairs) (Some less) → Completes e bounds (Some less) best → IsCheapest e bounds pairs best → IsState e bounds (record { session = s; pairs = pairs; best = best })
  state_lower s pairs best less honest stands completes cheapest = record { honest = honest; meeting = meeting_of e bounds completes; cheapest = cheapest; ready = ready_lower s pairs best less stands completes }

  pub ready_turn : (s : Session) (old new : List Pair) (best choice : Choice) (value : ℕ) → IsReadyBelow s e bounds old best → choice ≡ best → IsTop e bounds new choice value → IsBehind old new → IsReady s e bounds (inputs_of new) (Some (value - 1))
  ready_turn s old new best choice value ready same top behind =
      let greatest : IsGreatestCost (fill e best) bounds value = subst (λ (b : Choice). IsGreatestCost (fill e b) bounds value) same top.greatest in
      ready_later s old new behind.added (Some (value - 1)) behind.is (ready.below value greatest)

  -- the greatest cost on the inputs of the pairs stays when pairs are added
  pub still : (old new : List Pair) (best : Choice) (value : ℕ) (limit : Option ℕ) → IsAskable e bounds → IsTop e bounds old best value → Grown e bounds limit old new → Honest e bounds new → value ≡ greatest_on e bounds best (inputs_of new)
  still old new best value limit askable top grown honest =
      let most = pairs_within e bounds new best value askable honest top.meeting top.greatest in
      let on_all : greatest_on e bounds best (inputs_of new) ≡ greatest_on e bounds best (inputs_of old ++ inputs_of grown.added) = ap (greatest_on e bounds best) (ap inputs_of grown.behind ∙ inputs_append old grown.added) in
      let split = greatest_append e bounds best (inputs_of old) (inputs_of grown.added) in
      omega (arith, most, on_all, split, top.is)

  -- Rounds

  pub front_shorter : (budget : Budget) (old new front : List Pair) (p : Pair) → HasRoom budget old → AreSpent budget.rounds new → new ≡ front ++ p ∷ [] → length old ≤ length front
  front_shorter budget old new front p room spent at =
      let long : length new ≡ length front + 1 = ap length at ∙ one_longer front p in
      elim room [
        | inl none ↦ absurd (omega (arith, none, spent.some))
        | inr few ↦ omega (arith, few, long, spent.long)
      ]

  pub last_round : (limit : Option ℕ) (old new front : List Pair) (p : Pair) → Grown e bounds limit old new → length old ≤ length front → new ≡ front ++ p ∷ [] → IsWanted e bounds (inputs_of front) limit p.choice
  last_round limit old new front p grown long at =
      let there : slice_get new (length front) ≡ Some p = ap (λ (ps : List Pair). slice_get ps (length front)) at ∙ last_there front p in
      let before : take (length front) new ≡ front = ap (take (length front)) at ∙ take_front front (p ∷ []) in
      subst (λ (ps : List Pair). IsWanted e bounds (inputs_of ps) limit p.choice) before (grown.rounds (length front) p long there).wanted

  pub short_of_grown : (budget : Budget) (old new : List Pair) (best : Choice) (value : ℕ) → IsAskable e bounds → IsTop e bounds old best value → 0 < value → Grown e bounds (Some (value - 1)) old new → Honest e bounds new → HasRoom budget old → AreSpent budget.rounds new → CostsLeast e bounds new best → IsShort e bounds new best
  short_of_grown budget old new best value askable top some grown honest room spent least =
      let same = still old new best value (Some (value - 1)) askable top grown honest in
      record {
        meeting = top.meeting;
        least = least;
        more = omega (arith, same);
        last = λ front p at. inr (subst (λ (n : ℕ). IsWanted e bounds (inputs_of front) (Some (n - 1)) p.choice) same (last_round (Some (value - 1)) old new front p grown (front_shorter budget old new front p room spent at) at));
      }

  pub all_break : (new : List Pair) → Grown e bounds None [] new → AllBreak e bounds new
  all_break new grown = record {
    each = λ i p at. elim (grown.rounds i p (omega arith) at).bad.bad [ inl breaks ↦ breaks | inr over ↦ absurd over ];
  }

  -- Conflicts

  -- a choice that passes the inputs within less than what they cost the best one is another
  pub another : (pairs : List Pair) (best choice : Choice) (limit : ℕ) → IsLowered e bounds pairs best limit → IsWanted e bounds (inputs_of pairs) (Some limit) choice → choice ≢ best
  another pairs best choice limit lowered wanted same =
      let within : greatest_on e bounds choice (inputs_of pairs) ≤ limit = greatest_within e bounds choice (inputs_of pairs) limit wanted.passes.within in
      let costs : greatest_on e bounds choice (inputs_of pairs) ≡ greatest_on e bounds best (inputs_of pairs) = ap (λ (b : Choice). greatest_on e bounds b (inputs_of pairs)) same in
      omega (arith, within, costs, lowered.some, lowered.is)

  lowered_is : (pairs : List Pair) (best : Choice) (value limit : ℕ) → 0 < value → value ≡ greatest_on e bounds best (inputs_of pairs) → Some limit ≡ Some (value - 1) → IsLowered e bounds pairs best limit
  lowered_is pairs best value limit some is same = let h = same_Some limit (value - 1) same in record { some = omega (arith, is); is = omega (arith, is, h) }

  pub limited_below : (pairs : List Pair) (best : Choice) (value : ℕ) (q : Query) → 0 < value → value ≡ greatest_on e bounds best (inputs_of pairs) → limit_of q ≡ Some (value - 1) → IsOfPairs e bounds pairs q → IsLimited e bounds pairs best q
  limited_below pairs best value (query.Bad c None) some is same wanted = absurd (none-some (value - 1) same)
  limited_below pairs best value (query.Bad c (Some limit)) some is same wanted = let l = lowered_is pairs best value limit some is same in inr (another pairs best c limit l wanted, l)
  limited_below pairs best value (query.BadAt c o limit) some is same wanted = let l = lowered_is pairs best value limit some is same in inr (another pairs best c limit l wanted.0, l)
  limited_below pairs best value (query.Wanted inputs None) some is same wanted = absurd (none-some (value - 1) same)
  limited_below pairs best value (query.Wanted inputs (Some limit)) some is same wanted = lowered_is pairs best value limit some is same
