-- Elements of arrays that are replaced.
use Rattle.std.proofs.Common.{◌≡◌, ℕ, zero, suc, ℤ, pos, negsuc, Bool, true, List, [], ◌∷◌, map, All, Some, slice_get, slice_set, refl, ap, ◌∙◌}
use Rattle.std.specs.Prelude.{option_and_then, if◌then◌else◌}
use Rattle.std.proofs.lemmas.List.Elements.{All-cons, All-head, All-tail}
use Rattle.sk_dag.specs.declared.env.Env.{Env}
use Rattle.sk_dag.specs.declared.node.BoolId.{BoolId}
use Rattle.sk_dag.specs.declared.node.WordId.{WordId}
use Rattle.sk_dag.specs.declared.shape.Shape.{Shape}
use Rattle.sk_dag.specs.declared.shape.Shape.TheVariants as shape
use Rattle.sk_dag.specs.declared.shape.Seen.{Seen}
use Rattle.sk_dag.specs.Graph.{Graph, Grows}
use Rattle.sk_dag.specs.Eval.{bool_value, word_value}
use Rattle.sk_dag.specs.EvalShape.{shape_value}
use Rattle.sk_arr.specs.Places.{replaced_at}
use Rattle.sk_arr.specs.Answers.{shapes_value, IsWritten}
use Rattle.sk_prog.specs.declared.value.Value.{Value}
use Rattle.sk_prog.specs.declared.value.Value.TheVariants as value
use Rattle.sk_prog.specs.declared.value.Value.TheViews.{outs-Array}
use Rattle.sk_model.specs.Values.{elements_of, elements, element, replaced}
use Rattle.sk_heap_laws.specs.Values.{value_of, IsLive, AllLive}
use Rattle.sk_heap_laws.proofs.Fields.{map_set}
use Rattle.sk_sym_stores.specs.Replaced.{HasElement}

-- the array as it is written where the guard always holds
pub always_written : {g : Graph} {always outside : BoolId} {list made : List Shape} {index : WordId} {v : Shape} → ((h : Graph) → Grows g h → (e : Env) → bool_value h e always ≡ true) → IsWritten g always list index v made outside → HasElement g list index v (shape.Array made) outside
always_written {g} {always} {outside} {list} {made} {index} {v} holds is = record {
  there = is.there;
  left = is.left;
  parts = made;
  whole = refl;
  stand = is.stand;
  alike = is.alike;
  named = is.named;
  written = λ h more e. is.written h more e ∙ ap (λ (b : Bool). if b then replaced_at (shapes_value h e list) (word_value h e index) (shape_value h e v) else shapes_value h e list) (holds h more e);
}

-- the values with the one replaced that an index names
abbrev pub set_at : List Value → ℤ → Value → List Value
set_at vs (pos i) v = slice_set vs i v
set_at vs (negsuc i) v = vs

-- one index more goes into the element that it names
pub replaced_in : (index : ℤ) (more : List ℤ) (vs : List Value) (part : Value) → replaced (index ∷ more) (value.Array vs) part ≡ option_and_then (λ old. option_and_then (λ new. Some (value.Array (set_at vs index new))) (replaced more old part)) (element (value.Array vs) index)
replaced_in (pos i) more vs part =
    let same : elements (value.Array vs) ≡ vs = ap elements_of (outs-Array vs) in
    ap (λ l. option_and_then (λ old. option_and_then (λ new. Some (value.Array (slice_set l i new))) (replaced more old part)) (slice_get (elements (value.Array vs)) i)) same
replaced_in (negsuc i) more vs part = refl

pub map_replaced : (p : ℕ → ℕ) (vs : List Seen) (x : ℤ) (v : Seen) → map (value_of p) (replaced_at vs x v) ≡ set_at (map (value_of p) vs) x (value_of p v)
map_replaced p vs (pos i) v = map_set (value_of p) vs i v
map_replaced p vs (negsuc i) v = refl

set_live : (P : Seen → Type 0) (vs : List Seen) (i : ℕ) (v : Seen) → All P vs → P v → All P (slice_set vs i v)
set_live P [] i v h p = h
set_live P (w ∷ vs) zero v h p = All-cons P v vs p (All-tail P w vs h)
set_live P (w ∷ vs) (suc i) v h p = All-cons P w (slice_set vs i v) (All-head P w vs h) (set_live P vs i v (All-tail P w vs h) p)

pub replaced_live : (holds : ℕ → Bool) (vs : List Seen) (x : ℤ) (v : Seen) → AllLive holds vs → IsLive holds v → AllLive holds (replaced_at vs x v)
replaced_live holds vs (pos i) v all one = record { each = set_live (IsLive holds) vs i v all.each one }
replaced_live holds vs (negsuc i) v all one = all
