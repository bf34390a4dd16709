-- The elements of an array, or any other shape alone, as what is made longer.
use Rattle.std.proofs.Common.{◌≡◌, ℕ, Bool, true, false, List, [], ◌∷◌, map, refl, sym, ap, subst, ◌∙◌, if◌then◌else◌}
use Rattle.std.proofs.lemmas.List.Elements.{All-nil, All-cons}
use Rattle.sk_dag.specs.declared.env.Env.{Env}
use Rattle.sk_dag.specs.declared.node.BoolId.{BoolId}
use Rattle.sk_dag.specs.declared.node.WordId.{WordId}
use Rattle.sk_dag.specs.declared.shape.Targets.{Targets}
use Rattle.sk_dag.specs.declared.shape.Shape.{Shape}
use Rattle.sk_dag.specs.declared.shape.Shape.TheVariants as shape
use Rattle.sk_dag.specs.declared.shape.Shape.TheViews.{outs-Bit, outs-Int, outs-Reference, outs-Array}
use Rattle.sk_dag.specs.Graph.{Graph}
use Rattle.sk_dag.specs.declared.shape.Seen.TheVariants as seen
use Rattle.sk_dag.specs.Eval.{bool_value, word_value, Keeps}
use Rattle.sk_dag.specs.EvalShape.{shape_value, held_slot}
use Rattle.sk_arr.specs.Shapes.{Stands, AllStand, SlotsPass, AllSlotsPass}
use Rattle.sk_arr.specs.Answers.{shapes_value}
use Rattle.sk_arr.proofs.Parts.{shape_law}
use Rattle.sk_arr.proofs.Standing.{parts_stand}
use Rattle.sk_arr.proofs.Values.{value_bit, value_int, value_reference, value_array, parts_pass}
use Rattle.std.specs.Prelude.{Option, Some, None}
use Rattle.sk_prog.specs.declared.value.Value.{Value}
use Rattle.sk_prog.specs.declared.value.Value.TheVariants as value
use Rattle.sk_prog.specs.declared.value.Value.TheViews.{outs-Bit as outs-OneBit, outs-Int as outs-Number, outs-Null, outs-Place, outs-Array as outs-Values}
use Rattle.sk_model.specs.Values.{is_array, is_array_form, first_is_array, elements, elements_of, lengthened}
use Rattle.sk_heap_laws.specs.Values.{value_of, IsLive, AllLive}
use Rattle.sk_heap_laws.proofs.Parts.{of_bit, of_int, of_null, of_slot, of_array, live_nil, live_cons, array_live}
use Rattle.sk_sym_literals.specs.Rows.{is_row, is_row_form, parts_of, parts_in, first_is_row, row_of, rows_of}
use Rattle.sk_sym_literals.specs.Given.{IsGiven, IsMade, IsLengthened}

-- the elements of an array where a test of its value is met, and where not, the value alone
abbrev pub row_by : (Value → Bool) → Value → List Value
row_by test v = if test v then elements v else v ∷ []

pub record IsRowOf (test : Value → Bool) (a : Shape) (list : List Shape) : Type 0 where
  pub stand : (g : Graph) → Stands g a → AllStand g list
  pub named : (pass : ℕ → Bool) → SlotsPass pass a → AllSlotsPass pass list
  pub live : (h : Graph) (e : Env) (holds : ℕ → Bool) → IsLive holds (shape_value h e a) → AllLive holds (shapes_value h e list)
  pub value : (h : Graph) (e : Env) (place : ℕ → ℕ) → map (value_of place) (shapes_value h e list) ≡ row_by test (value_of place (shape_value h e a))

-- a shape alone
alone : (test : Value → Bool) (a : Shape) → ((h : Graph) (e : Env) (place : ℕ → ℕ) → test (value_of place (shape_value h e a)) ≡ false) → IsRowOf test a (a ∷ [])
alone test a never = record {
  stand = λ g h. record { each = All-cons (Stands g) a [] h (All-nil (Stands g)) };
  named = λ pass h. record { each = All-cons (SlotsPass pass) a [] h (All-nil (SlotsPass pass)) };
  live = λ h e holds l. live_cons holds (shape_value h e a) [] l (live_nil holds);
  value = λ h e place. let v = value_of place (shape_value h e a) in sym (ap (λ b. if b then elements v else v ∷ []) (never h e place));
}

values_in : (h : Graph) (e : Env) (place : ℕ → ℕ) (ss : List Shape) → value_of place (shape_value h e (shape.Array ss)) ≡ value.Array (map (value_of place) (shapes_value h e ss))
values_in h e place ss = ap (value_of place) (value_array h e ss) ∙ of_array place (shapes_value h e ss)

elements_in : (h : Graph) (e : Env) (place : ℕ → ℕ) (ss : List Shape) → elements (value_of place (shape_value h e (shape.Array ss))) ≡ map (value_of place) (shapes_value h e ss)
elements_in h e place ss = ap elements (values_in h e place ss) ∙ ap elements_of (outs-Values (map (value_of place) (shapes_value h e ss)))

-- the elements of an array
whole : (test : Value → Bool) (ss : List Shape) → ((h : Graph) (e : Env) (place : ℕ → ℕ) → test (value_of place (shape_value h e (shape.Array ss))) ≡ true) → IsRowOf test (shape.Array ss) ss
whole test ss always = record {
  stand = λ g h. parts_stand h refl;
  named = λ pass h. parts_pass pass ss h;
  live = λ h e holds l. array_live holds (shapes_value h e ss) (subst (IsLive holds) (value_array h e ss) l);
  value = λ h e place.
      let v = value_of place (shape_value h e (shape.Array ss)) in
      sym (elements_in h e place ss) ∙ sym (ap (λ b. if b then elements v else v ∷ []) (always h e place));
}

-- ---- by the variants of a shape

is_row_array : (ss : List Shape) → is_row (shape.Array ss) ≡ true
is_row_array ss = ap is_row_form (outs-Array ss)

array_value : (h : Graph) (e : Env) (place : ℕ → ℕ) (ss : List Shape) → is_array (value_of place (shape_value h e (shape.Array ss))) ≡ true
array_value h e place ss = ap is_array (values_in h e place ss) ∙ ap is_array_form (outs-Values (map (value_of place) (shapes_value h e ss)))

-- a shape that is no array, and is worth none
record IsSingle (s : Shape) : Type 0 where
  row : is_row s ≡ false
  parts : parts_of s ≡ []
  array : (h : Graph) (e : Env) (place : ℕ → ℕ) → is_array (value_of place (shape_value h e s)) ≡ false
  none : (h : Graph) (e : Env) (place : ℕ → ℕ) → elements (value_of place (shape_value h e s)) ≡ []

single_bit : (a : BoolId) → IsSingle (shape.Bit a)
single_bit a = record {
  row = ap is_row_form (outs-Bit a);
  parts = ap parts_in (outs-Bit a);
  array = λ h e place. ap is_array (look h e place) ∙ ap is_array_form (outs-OneBit (bool_value h e a));
  none = λ h e place. ap elements (look h e place) ∙ ap elements_of (outs-OneBit (bool_value h e a));
}
  where
    look : (h : Graph) (e : Env) (place : ℕ → ℕ) → value_of place (shape_value h e (shape.Bit a)) ≡ value.Bit (bool_value h e a)
    look h e place = ap (value_of place) (value_bit h e a) ∙ of_bit place (bool_value h e a)

single_int : (a : WordId) → IsSingle (shape.Int a)
single_int a = record {
  row = ap is_row_form (outs-Int a);
  parts = ap parts_in (outs-Int a);
  array = λ h e place. ap is_array (look h e place) ∙ ap is_array_form (outs-Number (word_value h e a));
  none = λ h e place. ap elements (look h e place) ∙ ap elements_of (outs-Number (word_value h e a));
}
  where
    look : (h : Graph) (e : Env) (place : ℕ → ℕ) → value_of place (shape_value h e (shape.Int a)) ≡ value.Int (word_value h e a)
    look h e place = ap (value_of place) (value_int h e a) ∙ of_int place (word_value h e a)

single_reference : (a : Targets) → IsSingle (shape.Reference a)
single_reference a = record {
  row = ap is_row_form (outs-Reference a);
  parts = ap parts_in (outs-Reference a);
  array = λ h e place. ap (λ v. is_array (value_of place v)) (value_reference h e a) ∙ no_array place (held_slot h e a.slots.items);
  none = λ h e place. ap (λ v. elements (value_of place v)) (value_reference h e a) ∙ no_elements place (held_slot h e a.slots.items);
}
  where
    no_array : (place : ℕ → ℕ) (o : Option ℕ) → is_array (value_of place (seen.Slot o)) ≡ false
    no_array place None = ap is_array (of_null place) ∙ ap is_array_form outs-Null
    no_array place (Some n) = ap is_array (of_slot place n) ∙ ap is_array_form (outs-Place (place n))

    no_elements : (place : ℕ → ℕ) (o : Option ℕ) → elements (value_of place (seen.Slot o)) ≡ []
    no_elements place None = ap elements (of_null place) ∙ ap elements_of outs-Null
    no_elements place (Some n) = ap elements (of_slot place n) ∙ ap elements_of (outs-Place (place n))

-- ---- arrays, and arrays of arrays

row_single : (s : Shape) → IsSingle s → IsRowOf is_array s (row_of s)
row_single s is = subst (IsRowOf is_array s) (sym (ap (λ b. if b then parts_of s else s ∷ []) is.row)) (alone is_array s is.array)

pub row_law : (s : Shape) → IsRowOf is_array s (row_of s)
row_law = shape_law (λ s. IsRowOf is_array s (row_of s))
    (λ a. row_single (shape.Bit a) (single_bit a))
    (λ a. row_single (shape.Int a) (single_int a))
    (λ a. row_single (shape.Reference a) (single_reference a))
    (λ ss below. subst (IsRowOf is_array (shape.Array ss)) (sym (ap (λ b. if b then parts_of (shape.Array ss) else shape.Array ss ∷ []) (is_row_array ss) ∙ ap parts_in (outs-Array ss)))
    (whole is_array ss (λ h e place. array_value h e place ss)))

-- whether a value is an array, as its shape tells
array_as : (s : Shape) (h : Graph) (e : Env) (place : ℕ → ℕ) → is_array (value_of place (shape_value h e s)) ≡ is_row s
array_as = shape_law (λ s. (h : Graph) (e : Env) (place : ℕ → ℕ) → is_array (value_of place (shape_value h e s)) ≡ is_row s)
    (λ a h e place. (single_bit a).array h e place ∙ sym (single_bit a).row)
    (λ a h e place. (single_int a).array h e place ∙ sym (single_int a).row)
    (λ a h e place. (single_reference a).array h e place ∙ sym (single_reference a).row)
    (λ ss below h e place. array_value h e place ss ∙ sym (is_row_array ss))

abbrev pub has_rows : Value → Bool
has_rows v = first_is_array (elements v)

rows_single : (s : Shape) → IsSingle s → IsRowOf has_rows s (rows_of s)
rows_single s is = subst (IsRowOf has_rows s) (sym (ap (λ l. if first_is_row l then l else s ∷ []) is.parts)) (alone has_rows s (λ h e place. ap first_is_array (is.none h e place)))

first_as : (ss : List Shape) (h : Graph) (e : Env) (place : ℕ → ℕ) → first_is_array (map (value_of place) (shapes_value h e ss)) ≡ first_is_row ss
first_as [] h e place = refl
first_as (s ∷ ss) h e place = array_as s h e place

rows_array : (ss : List Shape) → IsRowOf has_rows (shape.Array ss) (rows_of (shape.Array ss))
rows_array ss = subst (IsRowOf has_rows (shape.Array ss)) (sym (ap (λ l. if first_is_row l then l else shape.Array ss ∷ []) (ap parts_in (outs-Array ss)))) (by (first_is_row ss) refl)
  where
    told : (h : Graph) (e : Env) (place : ℕ → ℕ) → has_rows (value_of place (shape_value h e (shape.Array ss))) ≡ first_is_row ss
    told h e place = ap first_is_array (elements_in h e place ss) ∙ first_as ss h e place

    by : (b : Bool) → first_is_row ss ≡ b → IsRowOf has_rows (shape.Array ss) (if b then ss else shape.Array ss ∷ [])
    by true h = whole has_rows ss (λ k e place. told k e place ∙ h)
    by false h = alone has_rows (shape.Array ss) (λ k e place. told k e place ∙ h)

pub rows_law : (s : Shape) → IsRowOf has_rows s (rows_of s)
rows_law = shape_law (λ s. IsRowOf has_rows s (rows_of s))
    (λ a. rows_single (shape.Bit a) (single_bit a))
    (λ a. rows_single (shape.Int a) (single_int a))
    (λ a. rows_single (shape.Reference a) (single_reference a))
    (λ ss below. rows_array ss)

-- ---- what is made longer of a shape

pub row_stands : {g : Graph} {a : Shape} {list : List Shape} → Stands g a → list ≡ row_of a → AllStand g list
row_stands {g} {a} h is = subst (AllStand g) (sym is) ((row_law a).stand g h)

pub rows_stand : {g : Graph} {a : Shape} {list : List Shape} → Stands g a → list ≡ rows_of a → AllStand g list
rows_stand {g} {a} h is = subst (AllStand g) (sym is) ((rows_law a).stand g h)

pub made_longer : {d g : Graph} {test : Value → Bool} {a zero r : Shape} {list : List Shape} {z : Value} {count : ℕ} → IsRowOf test a list → IsGiven d z zero → Keeps d g → IsLengthened g list zero count r → IsMade g a (λ v. lengthened count z (row_by test v)) r
made_longer {z = z} {count = count} row is keeps long = record {
  stands = long.stands;
  named = λ pass h. long.named pass (row.named pass h) (is.unnamed pass);
  live = λ h e holds l. long.live h e holds (row.live h e holds l) (is.live h e holds);
  value = λ h more e place. long.value h e place ∙ (λ i. lengthened count (is.value h (keeps.later h more) e place i) (row.value h e place i));
}
