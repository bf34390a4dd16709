-- What a formula asks that grows by one input after another.
use Rattle.std.proofs.Common.{◌≡◌, ℕ, ◌+◌, ◌<◌, ◌≤◌, ◌⊎◌, inl, inr, ◌++◌, List, [], ◌∷◌, Option, Some, None, length, get_or, take, sym, subst, arith, Result, Ok, Err}
use Rattle.std.specs.Prelude.{All, Contains, IfSome, OnOk}
use Rattle.std.proofs.lemmas.List.{take_more, take_all, take-append-le, length-map, get_or-map}
use Rattle.std.proofs.lemmas.List.Elements.{All-nil, All-push, All-weaker, All-same, All-contains, Contains-append_left, Contains-push}
use Rattle.sk_base.specs.declared.bounds.Bounds.{Bounds}
use Rattle.sk_prog.specs.declared.prog.Prog.{Prog}
use Rattle.sk_model.specs.declared.expanded.Choice.{Choice}
use Rattle.sk_model.specs.declared.expanded.Expanded.{Expanded}
use Rattle.sk_model.specs.declared.expanded.Input.{Input}
use Rattle.sk_model.specs.declared.expanded.Pair.{Pair}
use Rattle.sk_model.specs.Fill.{fill}
use Rattle.sk_model.specs.Meets.{Breaks, Passes, cost_on}
use Rattle.sk_oblig_queries.specs.declared.query.Query.TheVariants as query
use Rattle.sk_oblig_queries.specs.Queries.{AsksFor, IsWanted}
use Rattle.sk_oblig_queries.specs.Said.{choice_said}
use Rattle.sk_loop_guesses.specs.asking.Asking.{Asking}
use Rattle.sk_loop_guesses.specs.Asking.{Demand, IsAsking, PassesEach}
use Rattle.sk_loop_laws.specs.Honest.{inputs_of}
use Rattle.sk_loop.specs.Session.{AreDemands, Asks, IsAbove, IsFront, IsListed}

abbrev demand_of : Input → Option ℕ → Demand
demand_of i limit = record { input = i; limit = limit }

above_itself : (limit : Option ℕ) → IsAbove limit limit
above_itself None = tt
above_itself (Some most) = omega arith

above_on : (a b c : Option ℕ) → IsAbove a b → IsAbove b c → IsAbove a c
above_on None b c h k = tt
above_on (Some a) None c h k = absurd h
above_on (Some a) (Some b) None h k = absurd k
above_on (Some a) (Some b) (Some c) h k = omega (arith, h, k)

module _ (prog : Prog) (bounds : Bounds) where
  abbrev Unbroken : Input → Type 0
  Unbroken input = Breaks prog bounds input → ⊥

  abbrev Within : ℕ → Input → Type 0
  Within most input = cost_on prog bounds input ≤ most

  -- an input of a list that is passed is passed within each limit that is above
  pub passes_one : (inputs : List Input) (limit most : Option ℕ) (input : Input) → Contains inputs input → IsAbove most limit → Passes prog bounds inputs limit → Passes prog bounds (input ∷ []) most
  passes_one inputs limit most input there above p = record { unbroken = All-push Unbroken [] input (All-nil Unbroken) (All-contains Unbroken inputs input p.unbroken there); within = one limit most above p.within }
    where
      one : (limit most : Option ℕ) → IsAbove most limit → IfSome limit (λ n. All (Within n) inputs) → IfSome most (λ n. All (Within n) (input ∷ []))
      one limit None h w = tt
      one None (Some m) h w = absurd h
      one (Some n) (Some m) h w =
          let low : cost_on prog bounds input ≤ n = All-contains (Within n) inputs input w there in
          All-push (Within m) [] input (All-nil (Within m)) (omega (arith, low, h))

  unbroken_of : (input : Input) (limit : Option ℕ) → Passes prog bounds (input ∷ []) limit → Unbroken input
  unbroken_of input limit p = p.unbroken 0 input (omega arith)

  -- inputs each of which is passed alone
  pub passes_all : (inputs : List Input) (limit : Option ℕ) → All (λ i. Passes prog bounds (i ∷ []) limit) inputs → Passes prog bounds inputs limit
  passes_all inputs limit all = record { unbroken = All-weaker (λ i. Passes prog bounds (i ∷ []) limit) Unbroken (λ i p. unbroken_of i limit p) inputs all; within = each limit all }
    where
      each : (limit : Option ℕ) → All (λ i. Passes prog bounds (i ∷ []) limit) inputs → IfSome limit (λ n. All (Within n) inputs)
      each None all = tt
      each (Some n) all = All-weaker (λ i. Passes prog bounds (i ∷ []) (Some n)) (Within n) (λ i p. p.within 0 i (omega arith)) inputs all

-- A choice passes each demand where it passes all inputs.
pub each_is_wanted : (e : Expanded) (bounds : Bounds) (demands : List Demand) (inputs : List Input) (limit : Option ℕ) (choice : Choice) → AreDemands demands inputs limit (length inputs) → PassesEach e bounds demands choice → IsWanted e bounds inputs limit choice
each_is_wanted e bounds demands inputs limit choice are each = record {
  range = each.range;
  passes = passes_all (fill e choice) bounds inputs limit
      (All-weaker (λ i. Contains demands (demand_of i limit)) (λ i. Passes (fill e choice) bounds (i ∷ []) limit)
      (λ i there. All-contains (λ (d : Demand). Passes (fill e choice) bounds (d.input ∷ []) d.limit) demands (demand_of i limit) each.passes there)
      inputs
      (All-same (λ i. Contains demands (demand_of i limit)) inputs (take (length inputs) inputs) (sym (take_all (length inputs) inputs (omega arith))) are.made));
}

pub wanted_is_each : (e : Expanded) (bounds : Bounds) (demands : List Demand) (inputs : List Input) (limit : Option ℕ) (count : ℕ) (choice : Choice) → AreDemands demands inputs limit count → IsWanted e bounds inputs limit choice → PassesEach e bounds demands choice
wanted_is_each e bounds demands inputs limit count choice are wanted = record {
  range = wanted.range;
  passes = All-weaker (IsListed inputs limit) (λ (d : Demand). Passes (fill e choice) bounds (d.input ∷ []) d.limit)
      (λ d l. passes_one (fill e choice) bounds inputs limit d.limit d.input l.there l.above wanted.passes) demands are.listed;
}

-- Once each input is asked for, the formula asks for a choice that passes all.
pub asks_wanted : (a : Asking) (e : Expanded) (bounds : Bounds) (inputs : List Input) (limit : Option ℕ) → Asks a e bounds inputs limit (length inputs) → AsksFor a.growing.encoded e bounds (query.Wanted inputs limit)
asks_wanted a e bounds inputs limit s =
    let f = s.asking.asks in
    record {
      named = f.named;
      within = f.within;
      distinct = f.distinct;
      exact = λ bits long. (
        (λ x. each_is_wanted e bounds s.demands inputs limit (choice_said e.sites bits) s.are ((f.exact bits long).0 x)),
        (λ w. (f.exact bits long).1 (wanted_is_each e bounds s.demands inputs limit (length inputs) (choice_said e.sites bits) s.are w)),
      );
    }

pub asks_begins : (a : Asking) (e : Expanded) (bounds : Bounds) → IsAsking a e bounds [] → Asks a e bounds [] None 0
asks_begins a e bounds h = record { demands = []; asking = h; are = record { listed = All-nil (IsListed [] None); made = All-nil (λ i. Contains [] (demand_of i None)) } }

-- the next input was asked for
pub asks_next : (a b : Asking) (e : Expanded) (bounds : Bounds) (inputs : List Input) (limit : Option ℕ) (i : ℕ) (input : Input) → (s : Asks a e bounds inputs limit i) → i < length inputs → input ≡ get_or inputs i input → IsAsking b e bounds (s.demands ++ demand_of input limit ∷ []) → Asks b e bounds inputs limit (i + 1)
asks_next a b e bounds inputs limit i input s h is asking =
    let d : Demand = demand_of input limit in
    let there : Contains inputs input = (i, h, sym is) in
    record {
      demands = s.demands ++ d ∷ [];
      asking = asking;
      are = record {
        listed = All-push (IsListed inputs limit) s.demands d s.are.listed (record { there = there; above = above_itself limit });
        made = All-same (λ x. Contains (s.demands ++ d ∷ []) (demand_of x limit)) (take (i + 1) inputs) (take i inputs ++ get_or inputs i input ∷ []) (take_more inputs i input h)
            (All-push (λ x. Contains (s.demands ++ d ∷ []) (demand_of x limit)) (take i inputs) (get_or inputs i input)
            (All-weaker (λ x. Contains s.demands (demand_of x limit)) (λ x. Contains (s.demands ++ d ∷ []) (demand_of x limit)) (λ x c. Contains-append_left s.demands (d ∷ []) (demand_of x limit) c) (take i inputs) s.are.made)
            (subst (λ (x : Input). Contains (s.demands ++ d ∷ []) (demand_of x limit)) is (Contains-push s.demands d)));
      };
    }

pub asked_next : (a b : Asking) (e : Expanded) (bounds : Bounds) (pairs : List Pair) (limit : Option ℕ) (i : ℕ) (d : Pair) → (s : Asks a e bounds (inputs_of pairs) limit i) → i < length pairs → IsAsking b e bounds (s.demands ++ demand_of (get_or pairs i d).input limit ∷ []) → Asks b e bounds (inputs_of pairs) limit (i + 1)
asked_next a b e bounds pairs limit i d s h asking =
    let long = length-map pairs (λ (q : Pair). q.input) in
    asks_next a b e bounds (inputs_of pairs) limit i (get_or pairs i d).input s (omega (arith, h, long)) (sym (get_or-map (λ (q : Pair). q.input) pairs i d (get_or pairs i d).input h)) asking

-- what holds where a call was not refused gives what follows from it there
pub on_ok : {T E : Type 0} (r : Result T E) (P Q : Type 0) → (P → Q) → OnOk r P → OnOk r Q
on_ok (Ok x) P Q f p = f p
on_ok (Err e) P Q f p = tt

-- with further inputs listed behind them
pub asks_more : (a : Asking) (e : Expanded) (bounds : Bounds) (inputs more : List Input) (limit : Option ℕ) (count : ℕ) → count ≤ length inputs → Asks a e bounds inputs limit count → Asks a e bounds (inputs ++ more) limit count
asks_more a e bounds inputs more limit count h s = record {
  demands = s.demands;
  asking = s.asking;
  are = record {
    listed = All-weaker (IsListed inputs limit) (IsListed (inputs ++ more) limit) (λ d l. record { there = Contains-append_left inputs more d.input l.there; above = l.above }) s.demands s.are.listed;
    made = All-same (λ x. Contains s.demands (demand_of x limit)) (take count (inputs ++ more)) (take count inputs) (take-append-le count inputs more h) s.are.made;
  };
}

-- within a lower limit nothing was asked for
pub asks_lower : (a : Asking) (e : Expanded) (bounds : Bounds) (inputs : List Input) (most limit : Option ℕ) (count : ℕ) → IsAbove most limit → Asks a e bounds inputs most count → Asks a e bounds inputs limit 0
asks_lower a e bounds inputs most limit count above s = record {
  demands = s.demands;
  asking = s.asking;
  are = record {
    listed = All-weaker (IsListed inputs most) (IsListed inputs limit) (λ d l. record { there = l.there; above = above_on d.limit most limit l.above above }) s.demands s.are.listed;
    made = All-nil (λ x. Contains s.demands (demand_of x limit));
  };
}

-- what is still to be asked, of inputs that begin with those that were
pub asks_ready : (a : Asking) (e : Expanded) (bounds : Bounds) (before inputs : List Input) (most limit : Option ℕ) (from : ℕ) → Asks a e bounds before most (length before) → IsFront before inputs → IsAbove most limit → (from ≡ 0) ⊎ ((from ≡ length before) × (most ≡ limit)) → Asks a e bounds inputs limit from
asks_ready a e bounds before inputs most limit from s front above which =
    let wide : Asks a e bounds inputs most (length before) = subst (λ (xs : List Input). Asks a e bounds xs most (length before)) (sym front.is) (asks_more a e bounds before front.rest most (length before) (omega arith) s) in
    elim which [
      | inl none ↦ subst (λ (n : ℕ). Asks a e bounds inputs limit n) (sym none) (asks_lower a e bounds inputs most limit (length before) above wide)
      | inr same ↦ subst (λ (n : ℕ). Asks a e bounds inputs limit n) (sym same.0) (subst (λ (l : Option ℕ). Asks a e bounds inputs l (length before)) same.1 wide)
    ]
