-- Arrays of bits: sums and shifts.
use Rattle.std.proofs.lemmas.Bool.{ltb-true}
use Rattle.std.proofs.lemmas.List.{take_more, take_all}
use Rattle.std.proofs.lemmas.List.Elements.{All-head, All-tail}
use Rattle.std.proofs.Common.{◌≡◌, ℕ, ℤ, pos, negsuc, ◌+◌, ◌<◌, ◌≤◌, Bool, true, false, true≢false, int_lt, List, [], ◌∷◌, ◌++◌, map, length, take, get_or, All, Option, None, Some, refl, sym, ap, subst, ◌∙◌, arith, if◌then◌else◌}
use Rattle.sk_base.specs.declared.span.Span.{Span}
use Rattle.sk_dag.specs.declared.env.Env.{Env}
use Rattle.sk_dag.specs.declared.node.BoolId.{BoolId}
use Rattle.sk_dag.specs.declared.node.WordId.{WordId}
use Rattle.sk_dag.specs.declared.shape.Shape.{Shape}
use Rattle.sk_dag.specs.declared.shape.Shape.TheVariants as shape
use Rattle.sk_dag.specs.declared.shape.Seen.{Seen}
use Rattle.sk_dag.specs.declared.shape.Seen.TheOpen as N
use Rattle.sk_dag.specs.declared.shape.Seen.TheViews.{out-Seen, outs-Bit, outs-Int, outs-Slot, outs-Array}
use Rattle.sk_dag.specs.declared.shape.Seen.TheVariants as seen
use Rattle.sk_dag.specs.Graph.{Graph, Grows, HasBool}
use Rattle.sk_dag.specs.Eval.{bool_value, word_value, Keeps}
use Rattle.sk_dag.specs.EvalShape.{shape_value}
use Rattle.sk_arr.specs.Forms.{IsBit}
use Rattle.sk_arr.specs.Shapes.{blank, SlotsPass, AllSlotsPass, AllStand}
use Rattle.sk_arr.specs.Answers.{shapes_value}
use Rattle.sk_arr.specs.Bits.{seen_bits, AreBits, IsSum, IsShifted}
use Rattle.sk_arr.proofs.Parts.{shape_law}
use Rattle.sk_arr.proofs.Values.{value_bit, value_array, blank_bit, blank_int, blank_reference, blank_array, bit_passes, array_passes, all_push}
use Rattle.sk_arr.proofs.Standing.{array_stands, AllStand-keeps}
use Rattle.sk_prog.specs.declared.expr.BinOp.{BinOp}
use Rattle.sk_prog.specs.declared.expr.BinOp.TheVariants as op
use Rattle.sk_prog.specs.declared.value.Value.TheVariants as value
use Rattle.sk_prog.specs.declared.value.Value.TheViews.{outs-Array as outs-Values}
use Rattle.sk_model.specs.Step.{pure}
use Rattle.sk_model.specs.Values.{truth, elements_of}
use Rattle.sk_model.specs.Operators.{bit, array_of, operand, Bits, sum_of, shift, moved_up, moved_down, on_operands}
use Rattle.sk_heap_laws.specs.Values.{place_of, value_of, IsLive, AllLive}
use Rattle.sk_heap_laws.proofs.Parts.{seen_law, of_bit, of_int, of_null, of_slot, of_array, live_bit, live_array, live_nil, live_cons}
use Rattle.sk_sym_operators.specs.Worth.{worth, answered, bits_in}
use Rattle.sk_sym_operators.specs.Answers.{IsComputed}
use Rattle.sk_sym_operators.proofs.Operating.{worth_array, worth_int, lifted, OnForms}

-- ---- bits

abbrev is_bit_form : N.Seen-F Seen → Bool
is_bit_form (N.Bit b) = true
is_bit_form _ = false

is_one : Seen → Bool
is_one v = is_bit_form (out-Seen v)

no_int : (x : ℤ) → seen.Int x ≡ seen.Bit false → ⊥
unfolding is_one
no_int x e = true≢false (sym (ap is_bit_form (outs-Bit false)) ∙ sym (ap is_one e) ∙ ap is_bit_form (outs-Int x))

no_slot : seen.Slot None ≡ seen.Bit false → ⊥
unfolding is_one
no_slot e = true≢false (sym (ap is_bit_form (outs-Bit false)) ∙ sym (ap is_one e) ∙ ap is_bit_form (outs-Slot None))

no_array : (vs : List Seen) → seen.Array vs ≡ seen.Bit false → ⊥
unfolding is_one
no_array vs e = true≢false (sym (ap is_bit_form (outs-Bit false)) ∙ sym (ap is_one e) ∙ ap is_bit_form (outs-Array vs))

-- a shape of the form of a bit is one
pub the_bit : (s : Shape) → IsBit s → (a : BoolId) × (s ≡ shape.Bit a)
the_bit = shape_law (λ s. IsBit s → (a : BoolId) × (s ≡ shape.Bit a))
    (λ a is. (a, refl))
    (λ a is. absurd (no_int (pos 0) (sym (blank_int a) ∙ is.form)))
    (λ a is. absurd (no_slot (sym (blank_reference a) ∙ is.form)))
    (λ ss below is. absurd (no_array (map blank ss) (sym (blank_array ss) ∙ is.form)))

pub bit_form : {s : Shape} {a : BoolId} → s ≡ shape.Bit a → IsBit s
bit_form {s} {a} is = record { form = ap blank is ∙ blank_bit a }

pub bits_more : (list : List Shape) (i : ℕ) (s : Shape) → i < length list → s ≡ get_or list i s → AreBits (take i list) → IsBit s → AreBits (take (i + 1) list)
bits_more list i s l at h k = record {
  each = subst (All IsBit) (sym (take_more list i s l ∙ ap (λ z. take i list ++ z ∷ []) (sym at))) (all_push IsBit (take i list) s h.each k);
}

pub bits_all : (list : List Shape) (i : ℕ) → length list ≤ i → AreBits (take i list) → AreBits list
bits_all list i l h = subst AreBits (take_all i list l) h

head_bit : (s : Shape) (list : List Shape) → AreBits (s ∷ list) → (a : BoolId) × (s ≡ shape.Bit a)
head_bit s list h = the_bit s (All-head IsBit s list h.each)

tail_bits : (s : Shape) (list : List Shape) → AreBits (s ∷ list) → AreBits list
tail_bits s list h = record { each = All-tail IsBit s list h.each }

seen_is : (h : Graph) (e : Env) (s : Shape) (a : BoolId) → s ≡ shape.Bit a → shape_value h e s ≡ seen.Bit (bool_value h e a)
seen_is h e s a is = ap (shape_value h e) is ∙ value_bit h e a

pub bit_is : (p : ℕ → ℕ) (b : Bool) → bit (value_of p (seen.Bit b)) ≡ b
bit_is p b = ap bit (of_bit p b)

-- what bits are seen as
pub seen_as : (h : Graph) (e : Env) (list : List Shape) → AreBits list → shapes_value h e list ≡ seen_bits (bits_in h e list)
seen_as h e [] are = refl
seen_as h e (s ∷ list) are =
    let one = head_bit s list are in
    let look : shape_value h e s ≡ seen.Bit (bool_value h e one.0) = seen_is h e s one.0 one.1 in
    let itself : shape_value h e s ≡ seen.Bit (bit (value_of (λ n. 0) (shape_value h e s))) = look ∙ ap (λ b. seen.Bit b) (sym (ap (λ v. bit (value_of (λ n. 0) v)) look ∙ bit_is (λ n. 0) (bool_value h e one.0))) in
    λ i. itself i ∷ seen_as h e list (tail_bits s list are) i

pub bits_live : (holds : ℕ → Bool) (h : Graph) (e : Env) (list : List Shape) → AreBits list → AllLive holds (shapes_value h e list)
bits_live holds h e [] are = live_nil holds
bits_live holds h e (s ∷ list) are =
    let one = head_bit s list are in
    live_cons holds (shape_value h e s) (shapes_value h e list) (subst (IsLive holds) (sym (seen_is h e s one.0 one.1)) (live_bit holds (bool_value h e one.0))) (bits_live holds h e list (tail_bits s list are))

pub bits_pass : (test : ℕ → Bool) (list : List Shape) → AreBits list → AllSlotsPass test list
bits_pass test list are = record { each = λ i d lt. let one = the_bit (get_or list i d) (are.each i d lt) in subst (SlotsPass test) (sym one.1) (bit_passes test one.0) }

values_of_bits : (p : ℕ → ℕ) (bs : List Bool) → map (value_of p) (seen_bits bs) ≡ map truth bs
values_of_bits p [] = refl
values_of_bits p (b ∷ bs) = λ i. of_bit p b i ∷ values_of_bits p bs i

-- an array of bits, where it does not fail
pub row_computed : {g : Graph} {list : List Shape} {fails : BoolId} (zs : Graph → Env → List Bool) → AllStand g list → AreBits list → HasBool g.nodes fails → ((h : Graph) → Grows g h → (e : Env) → bool_value h e fails ≡ false → shapes_value h e list ≡ seen_bits (zs h e)) → IsComputed g (λ h e span. answered span (bool_value h e fails) (array_of (zs h e))) (shape.Array list) fails
row_computed {g} {list} {fails} zs stand are there known = record {
  stands = array_stands g list stand;
  there = there;
  unnamed = λ test. array_passes test list (bits_pass test list are);
  live = λ h e holds. subst (IsLive holds) (sym (value_array h e list)) (live_array holds (shapes_value h e list) (bits_live holds h e list are));
  value = λ h more e place span. by h more e place span (bool_value h e fails) refl;
}
  where
    by : (h : Graph) → Grows g h → (e : Env) (place : ℕ → ℕ) (span : Span) (b : Bool) → bool_value h e fails ≡ b → answered span b (array_of (zs h e)) ≡ answered span b (value_of place (shape_value h e (shape.Array list)))
    by h more e place span true does = refl
    by h more e place span false never =
        ap pure (sym (ap (value_of place) (value_array h e list ∙ ap (λ l. seen.Array l) (known h more e never))
        ∙ of_array place (seen_bits (zs h e)) ∙ ap (λ l. value.Array l) (values_of_bits place (zs h e))))

-- the bit of a value is where slots have any places
bit_anywhere : (p q : ℕ → ℕ) (v : Seen) → bit (value_of p v) ≡ bit (value_of q v)
bit_anywhere p q = seen_law (λ v. bit (value_of p v) ≡ bit (value_of q v))
    (λ b. bit_is p b ∙ sym (bit_is q b))
    (λ z. ap bit (of_int p z) ∙ sym (ap bit (of_int q z)))
    slot
    (λ vs below. ap bit (of_array p vs) ∙ sym (ap bit (of_array q vs)))
  where
    slot : (s : Option ℕ) → bit (value_of p (seen.Slot s)) ≡ bit (value_of q (seen.Slot s))
    slot None = ap bit (of_null p) ∙ sym (ap bit (of_null q))
    slot (Some n) = ap bit (of_slot p n) ∙ sym (ap bit (of_slot q n))

bits_anywhere : (p : ℕ → ℕ) (h : Graph) (e : Env) (list : List Shape) → map bit (map (value_of p) (shapes_value h e list)) ≡ bits_in h e list
bits_anywhere p h e [] = refl
bits_anywhere p h e (s ∷ list) = λ i. bit_anywhere p (λ n. 0) (shape_value h e s) i ∷ bits_anywhere p h e list i

-- what an array is as an operand
pub row_operand : (holds : ℕ → Bool) (h : Graph) (e : Env) (a : Shape) (list : List Shape) → a ≡ shape.Array list → operand (worth holds h e a) ≡ Bits (bits_in h e list)
row_operand holds h e a list is =
    ap operand (worth_array holds h e list is)
    ∙ ap (λ l. Bits (map bit l)) (ap elements_of (outs-Values (map (value_of (place_of holds)) (shapes_value h e list))))
    ∙ ap (λ l. Bits l) (bits_anywhere (place_of holds) h e list)

-- ---- sums

pub summed : {d g : Graph} {x y made : List Shape} {a b : Shape} {fails : BoolId} {o : BinOp} (w : ℕ) → o ≡ op.Add → a ≡ shape.Array x → b ≡ shape.Array y → AreBits x → AreBits y → IsSum d x y made → Keeps d g → HasBool g.nodes fails → ((h : Graph) → Grows g h → (e : Env) → bool_value h e fails ≡ false) → OnForms g w o a b (shape.Array made) fails
summed {d} {g} {x} {y} {made} {a} {b} {fails} w same p q xs ys is keeps there never =
    subst (λ o. OnForms g w o a b (shape.Array made) fails) (sym same)
    (lifted (a ∷ b ∷ []) (λ h e holds span. on_operands w span op.Add (operand (worth holds h e a)) (operand (worth holds h e b)))
    (λ h more e holds live span.
    (λ i. on_operands w span op.Add (row_operand holds h e a x p i) (row_operand holds h e b y q i))
    ∙ sym (ap (λ t. answered span t (array_of (sum_of (bits_in h e x) (bits_in h e y)))) (never h more e)))
    (row_computed (λ h e. sum_of (bits_in h e x) (bits_in h e y)) (AllStand-keeps keeps is.stand) is.bits there
    (λ h more e no_failure. is.value h (keeps.later h more) e (bits_in h e x) (bits_in h e y) (seen_as h e x xs) (seen_as h e y ys))))

-- ---- shifts

not_below : (n : ℕ) → int_lt (pos n) (pos 0) ≡ false
not_below n = by (int_lt (pos n) (pos 0)) refl
  where
    by : (b : Bool) → int_lt (pos n) (pos 0) ≡ b → b ≡ false
    by true e = absurd (omega (arith, ltb-true n 0 e))
    by false e = refl

is_below : (n : ℕ) → int_lt (negsuc n) (pos 0) ≡ true
is_below n = refl

abbrev pub shift_of : Bool → BinOp
shift_of left = if left then op.Shl else op.Shr

abbrev shift_bits : Bool → List Bool → ℤ → List Bool
shift_bits left bs (pos n) = if left then moved_up n bs else moved_down n bs
shift_bits left bs (negsuc n) = bs

shift_is : (span : Span) (left : Bool) (bs : List Bool) (z : ℤ) → shift span (shift_of left) bs z ≡ answered span (int_lt z (pos 0)) (array_of (shift_bits left bs z))
shift_is span true bs (pos n) = sym (ap (λ b. answered span b (array_of (moved_up n bs))) (not_below n))
shift_is span false bs (pos n) = sym (ap (λ b. answered span b (array_of (moved_down n bs))) (not_below n))
shift_is span true bs (negsuc n) = sym (ap (λ b. answered span b (array_of bs)) (is_below n))
shift_is span false bs (negsuc n) = sym (ap (λ b. answered span b (array_of bs)) (is_below n))

pub shifted : {g : Graph} {x made : List Shape} {a b : Shape} {fails : BoolId} {o : BinOp} (w : ℕ) (left : Bool) (by : WordId) → o ≡ shift_of left → a ≡ shape.Array x → b ≡ shape.Int by → AreBits x → IsShifted g left x by made fails → OnForms g w o a b (shape.Array made) fails
shifted {g} {x} {made} {a} {b} {fails} w left count same p q xs is =
    subst (λ o. OnForms g w o a b (shape.Array made) fails) (sym same)
    (lifted (a ∷ b ∷ []) (λ h e holds span. on_operands w span (shift_of left) (operand (worth holds h e a)) (operand (worth holds h e b)))
    (λ h more e holds live span.
    (λ i. on_operands w span (shift_of left) (row_operand holds h e a x p i) (operand (worth_int holds h e count q i)))
    ∙ as_shift left span (bits_in h e x) (word_value h e count)
    ∙ shift_is span left (bits_in h e x) (word_value h e count)
    ∙ sym (ap (λ t. answered span t (array_of (shift_bits left (bits_in h e x) (word_value h e count)))) (is.negative h more e)))
    (row_computed (λ h e. shift_bits left (bits_in h e x) (word_value h e count)) is.stand is.bits is.there
    (λ h more e never. counted h more e (word_value h e count) refl (sym (is.negative h more e) ∙ never))))
  where
    as_shift : (left : Bool) (span : Span) (bs : List Bool) (z : ℤ) → on_operands w span (shift_of left) (Bits bs) (operand (value.Int z)) ≡ shift span (shift_of left) bs z
    as_shift true span bs z = refl
    as_shift false span bs z = refl

    counted : (h : Graph) → Grows g h → (e : Env) (z : ℤ) → word_value h e count ≡ z → int_lt (word_value h e count) (pos 0) ≡ false → shapes_value h e made ≡ seen_bits (shift_bits left (bits_in h e x) (word_value h e count))
    counted h more e (pos n) at low = is.value h more e n (bits_in h e x) at (seen_as h e x xs) ∙ sym (ap (λ z. seen_bits (shift_bits left (bits_in h e x) z)) at)
    counted h more e (negsuc n) at low = absurd (true≢false (sym (is_below n) ∙ sym (ap (λ z. int_lt z (pos 0)) at) ∙ low))

-- in the words of a match on the shapes and the operator
pub at_forms : {g : Graph} {a a' b b' r : Shape} {o o' : BinOp} {fails : BoolId} (w : ℕ) → a ≡ a' → b ≡ b' → o ≡ o' → OnForms g w o' a' b' r fails → OnForms g w o a b r fails
at_forms {g} {a} {a'} {b} {b'} {r} {o} {o'} {fails} w p q same h =
    subst (λ x. OnForms g w o x b r fails) (sym p) (subst (λ y. OnForms g w o a' y r fails) (sym q) (subst (λ k. OnForms g w k a' b' r fails) (sym same) h))
