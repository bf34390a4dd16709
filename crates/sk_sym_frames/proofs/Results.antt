-- What calls give, and the one or the other of two.
use Rattle.std.proofs.Common.{◌≡◌, Bool, true, false, true≢false, List, refl, sym, ap, subst, ◌∙◌}
use Rattle.std.specs.Prelude.{Option, Some, None, map, if◌then◌else◌}
use Rattle.sk_dag.specs.declared.env.Env.{Env}
use Rattle.sk_dag.specs.declared.node.BoolId.{BoolId}
use Rattle.sk_dag.specs.declared.shape.Seen.TheVariants.{Array as SeenArray}
use Rattle.sk_dag.specs.declared.shape.Shape.{Shape}
use Rattle.sk_dag.specs.declared.shape.Shape.TheVariants as shape
use Rattle.sk_dag.specs.Graph.{Graph, Grows}
use Rattle.sk_dag.specs.Eval.{bool_value, Keeps}
use Rattle.sk_dag.specs.EvalShape.{shape_value}
use Rattle.sk_arr.specs.Shapes.{Stands, AllStand}
use Rattle.sk_arr.specs.Answers.{shapes_value, IsChoice}
use Rattle.sk_arr.proofs.Standing.{AllStand-keeps, parts_stand, seen_lists}
use Rattle.sk_arr.proofs.Values.{value_array}
use Rattle.sk_prog.specs.declared.ty.Ty.{Ty}
use Rattle.sk_prog.specs.declared.value.Value.{Value}
use Rattle.sk_prog.specs.declared.prog.Fun.{Fun}
use Rattle.sk_heap.specs.declared.slot.Slot.{Slot}
use Rattle.sk_model.specs.Values.{zero_of}
use Rattle.sk_model.specs.Exec.{Onward, Returns}
use Rattle.sk_model.specs.Run.{result_of, refs_from}
use Rattle.sk_heap_laws.specs.Values.{place_of, holds_in, value_of, IsLive, AllLive}
use Rattle.sk_heap_laws.proofs.Heaps.{values_are}
use Rattle.sk_sym_literals.specs.Given.{IsGiven as IsAlwaysWorth}
use Rattle.sk_sym_state.specs.declared.state.Ended.{Ended}
use Rattle.sk_sym_state.specs.Seen.{IsWorth, AreWorth}
use Rattle.sk_sym_state.specs.Stands.{AnyStands, EndedStands}
use Rattle.sk_sym_state.specs.Shows.{AreFrontOf, ResultIs, EndedIs}
use Rattle.sk_sym_state.proofs.Standing.{AnyStands-keeps}
use Rattle.sk_sym_frames.specs.Ended.{AnyWorth, AreRefs, IsResult, IsEnd, IsEitherResult, AreEither, IsEither, IsLatest, IsGiven}

-- ---- results

pub zero_worth : {d : Graph} (t : Ty) (r : Shape) → IsAlwaysWorth d (zero_of t) r → (g : Graph) (e : Env) (heap : List Slot) → Grows d g → IsWorth g e heap r (zero_of t)
zero_worth t r is g e heap more = record {
  value = is.value g more e (place_of (holds_in g e heap));
  live = is.live g e (holds_in g e heap);
}

-- a function without a result
pub result_none : {d : Graph} (value : Option Shape) → IsResult d None value None
result_none value = record { stands = tt; worth = λ g e heap v more h. tt }

-- a value that is given
pub result_given : {d : Graph} (t : Ty) (r : Shape) → Stands d r → IsResult d (Some t) (Some r) (Some r)
result_given t r there = record { stands = there; worth = λ g e heap v more h. by g e heap v h }
  where
    by : (g : Graph) (e : Env) (heap : List Slot) (v : Option Value) → AnyWorth g e heap (Some r) v → ResultIs g e heap (Some r) (result_of (Some t) (Returns v))
    by g e heap None h = absurd h
    by g e heap (Some v) h = h

-- and none that is
zero_given : {d : Graph} (t : Ty) (r : Shape) → IsAlwaysWorth d (zero_of t) r → (g : Graph) (e : Env) (heap : List Slot) (v : Option Value) → Grows d g → AnyWorth g e heap None v → ResultIs g e heap (Some r) (result_of (Some t) (Returns v))
zero_given t r is g e heap None more h = zero_worth t r is g e heap more
zero_given t r is g e heap (Some v) more h = absurd h

pub result_zero : {d : Graph} (t : Ty) (r : Shape) → IsAlwaysWorth d (zero_of t) r → IsResult d (Some t) None (Some r)
result_zero t r is = record { stands = is.stands; worth = zero_given t r is }

pub end_is : {d0 d1 : Graph} {fun : Fun} {slots refs : List Shape} {value result : Option Shape} → AllStand d0 slots → Keeps d0 d1 → AreRefs fun.params slots refs → IsResult d1 fun.result value result → IsEnd d1 fun slots value (record { result = result; refs = refs })
end_is {d0} h k are is = record {
  stands = record { result = is.stands; refs = AllStand-keeps k (are.stand d0 h) };
  worth = λ g e heap v values more w f. (is.worth g e heap v more w, are.worth d0 h g e heap values f);
}

-- ---- the one or the other

choice_first : {d : Graph} {c : BoolId} {a b r : Shape} {g : Graph} {e : Env} {heap : List Slot} {v : Value} → IsChoice d c a b r → Grows d g → bool_value g e c ≡ true → IsWorth g e heap a v → IsWorth g e heap r v
choice_first {a = a} {b = b} {r = r} {g = g} {e = e} {heap = heap} is more on w =
    let same : shape_value g e r ≡ shape_value g e a = is.value g more e ∙ ap (λ t. if t then shape_value g e a else shape_value g e b) on in
    record { value = ap (value_of (place_of (holds_in g e heap))) same ∙ w.value; live = subst (IsLive (holds_in g e heap)) (sym same) w.live }

choice_second : {d : Graph} {c : BoolId} {a b r : Shape} {g : Graph} {e : Env} {heap : List Slot} {v : Value} → IsChoice d c a b r → Grows d g → bool_value g e c ≡ false → IsWorth g e heap b v → IsWorth g e heap r v
choice_second {a = a} {b = b} {r = r} {g = g} {e = e} {heap = heap} is more off w =
    let same : shape_value g e r ≡ shape_value g e b = is.value g more e ∙ ap (λ t. if t then shape_value g e a else shape_value g e b) off in
    record { value = ap (value_of (place_of (holds_in g e heap))) same ∙ w.value; live = subst (IsLive (holds_in g e heap)) (sym same) w.live }

pub either_result : {d : Graph} {c : BoolId} {a b r : Shape} → IsChoice d c a b r → IsEitherResult d c (Some a) (Some b) (Some r)
either_result {d} {c} {a} {b} {r} is = record { stands = is.stands; first = first; second = second }
  where
    first : (g : Graph) (e : Env) (heap : List Slot) (v : Option Value) → Grows d g → bool_value g e c ≡ true → ResultIs g e heap (Some a) v → ResultIs g e heap (Some r) v
    first g e heap None more on h = tt
    first g e heap (Some v) more on h = choice_first is more on h

    second : (g : Graph) (e : Env) (heap : List Slot) (v : Option Value) → Grows d g → bool_value g e c ≡ false → ResultIs g e heap (Some b) v → ResultIs g e heap (Some r) v
    second g e heap None more off h = tt
    second g e heap (Some v) more off h = choice_second is more off h

pub either_first : {d : Graph} {c : BoolId} (a : Shape) → Stands d a → IsEitherResult d c (Some a) None (Some a)
either_first {d} {c} a there = record { stands = there; first = λ g e heap v more on h. h; second = λ g e heap v more off h. by g e heap v h }
  where
    by : (g : Graph) (e : Env) (heap : List Slot) (v : Option Value) → ResultIs g e heap None v → ResultIs g e heap (Some a) v
    by g e heap None h = tt
    by g e heap (Some v) h = absurd h

pub either_second : {d : Graph} {c : BoolId} (b : Option Shape) → AnyStands d b → IsEitherResult d c None b b
either_second {d} {c} b there = record { stands = there; first = λ g e heap v more on h. by g e heap v h; second = λ g e heap v more off h. h }
  where
    by : (g : Graph) (e : Env) (heap : List Slot) (v : Option Value) → ResultIs g e heap None v → ResultIs g e heap b v
    by g e heap None h = tt
    by g e heap (Some v) h = absurd h

pub either_list : {d : Graph} {c : BoolId} {r : Shape} (a b made : List Shape) → r ≡ shape.Array made → IsChoice d c (shape.Array a) (shape.Array b) r → AreEither d c a b made
either_list {d} {c} {r} a b made at is = record {
  stand = parts_stand is.stands at;
  value = λ g e more. seen_lists (shapes_value g e made) (if bool_value g e c then shapes_value g e a else shapes_value g e b)
      (sym (value_array g e made) ∙ ap (shape_value g e) (sym at) ∙ is.value g more e ∙ (λ i. if bool_value g e c then value_array g e a i else value_array g e b i) ∙ by g e (bool_value g e c));
}
  where
    by : (g : Graph) (e : Env) (t : Bool) → (if t then SeenArray (shapes_value g e a) else SeenArray (shapes_value g e b)) ≡ SeenArray (if t then shapes_value g e a else shapes_value g e b)
    by g e true = refl
    by g e false = refl

worth_same : {g : Graph} {e : Env} {heap : List Slot} (list made : List Shape) {vs : List Value} → shapes_value g e made ≡ shapes_value g e list → AreWorth g e heap list vs → AreWorth g e heap made vs
worth_same {g} {e} {heap} list made same w = record {
  value = values_are g e heap made ∙ ap (map (value_of (place_of (holds_in g e heap)))) same ∙ sym (values_are g e heap list) ∙ w.value;
  live = subst (AllLive (holds_in g e heap)) (sym same) w.live;
}

pub either_ended : {mid new : Graph} {c : BoolId} {a b : Ended} {result : Option Shape} (refs : List Shape) → Keeps mid new → IsEitherResult mid c a.result b.result result → AreEither new c a.refs b.refs refs → IsEither new c a b (record { result = result; refs = refs })
either_ended {c = c} {a = a} {b = b} {result = result} refs k is are = record {
  stands = record { result = AnyStands-keeps k result is.stands; refs = are.stand };
  first = λ g e heap v vs more on h. (is.first g e heap v (k.later g more) on h.0, worth_same a.refs refs (are.value g e more ∙ ap (λ t. if t then shapes_value g e a.refs else shapes_value g e b.refs) on) h.1);
  second = λ g e heap v vs more off h. (is.second g e heap v (k.later g more) off h.0, worth_same b.refs refs (are.value g e more ∙ ap (λ t. if t then shapes_value g e a.refs else shapes_value g e b.refs) off) h.1);
}

pub latest_none : {d : Graph} {c : BoolId} {now : Ended} → EndedStands d now → IsLatest d c now None now
latest_none there = record { stands = there; first = λ g e heap v refs more on h. h; second = λ g e heap v refs more off h. absurd h }

pub latest_either : {d : Graph} {c : BoolId} {now before r : Ended} → IsEither d c now before r → IsLatest d c now (Some before) r
latest_either is = record { stands = is.stands; first = is.first; second = is.second }

-- ---- what a call gives

onward_is : (t : Option Ty) → result_of t (Returns None) ≡ result_of t Onward
onward_is None = refl
onward_is (Some t) = refl

last_is : {d : Graph} {fun : Fun} {slots : List Shape} {last : Ended} → IsEnd d fun slots None last → (g : Graph) (e : Env) (heap : List Slot) (values : List Value) → Grows d g → AreFrontOf g e heap slots values → EndedIs g e heap (Some last) (result_of fun.result Onward) (refs_from 0 fun.params values)
last_is {fun = fun} {last = last} is g e heap values more f = subst (λ v. EndedIs g e heap (Some last) v (refs_from 0 fun.params values)) (onward_is fun.result) (is.worth g e heap None values more tt f)

-- which has not returned anywhere
pub given_last : {d : Graph} {fun : Fun} {path returned : BoolId} {slots : List Shape} {last : Ended} → IsEnd d fun slots None last → IsGiven d fun path slots returned None last
given_last is = record { stands = is.stands; here = λ g e heap values more p off f. last_is is g e heap values more f; before = λ g e heap v refs more on h. absurd h }

-- whose body nowhere comes to its end
pub given_before : {d : Graph} {fun : Fun} {path returned : BoolId} {slots : List Shape} {ended : Ended} → EndedStands d ended → ((g : Graph) → Grows d g → (e : Env) → bool_value g e path ≡ false) → IsGiven d fun path slots returned (Some ended) ended
given_before there gone = record { stands = there; here = λ g e heap values more p off f. absurd (true≢false (sym p ∙ gone g more e)); before = λ g e heap v refs more on h. h }

-- of which both are so
pub given_either : {mid new : Graph} {fun : Fun} {path returned : BoolId} {slots : List Shape} {ended last r : Ended} → Keeps mid new → IsEnd mid fun slots None last → IsEither new returned ended last r → IsGiven new fun path slots returned (Some ended) r
given_either {fun = fun} k end is = record {
  stands = is.stands;
  here = λ g e heap values more p off f. is.second g e heap (result_of fun.result Onward) (refs_from 0 fun.params values) more off (last_is end g e heap values (k.later g more) f);
  before = is.first;
}

pub ruleset results = (result_none, result_given, result_zero)

pub ruleset eithers = (either_result, either_first, either_second)

pub ruleset latests = (latest_none, latest_either)
