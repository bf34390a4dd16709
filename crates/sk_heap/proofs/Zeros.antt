-- Shapes that are 0: those of each type, and lists of them.
use Rattle.std.proofs.lemmas.List.{replicate_more, take_more, take_all}
use Rattle.std.proofs.lemmas.List.Elements.{All-nil}
use Rattle.std.proofs.lemmas.Int.{ints}
use Rattle.std.proofs.Common.{◌≡◌, ℕ, ◌+◌, ◌<◌, ◌≤◌, false, List, [], ◌∷◌, ◌++◌, length, map, take, get_or, replicate, pos, IsTrue, refl, sym, ap, subst, ◌∙◌, arith}
use Rattle.sk_base.proofs.Words.{half_pos}
use Rattle.sk_base.specs.Word.{IsWord}
use Rattle.sk_dag.specs.declared.env.Env.{Env}
use Rattle.sk_dag.specs.declared.node.BoolId.{BoolId}
use Rattle.sk_dag.specs.declared.node.WordId.{WordId}
use Rattle.sk_dag.specs.declared.shape.Targets.{Targets}
use Rattle.sk_dag.specs.declared.shape.Seen.{Seen}
use Rattle.sk_dag.specs.declared.shape.Seen.TheVariants.{Bit as SeenBit, Int as SeenInt, Slot as SeenSlot, Array as SeenArray}
use Rattle.sk_dag.specs.declared.shape.Shape.{Shape}
use Rattle.sk_dag.specs.declared.shape.Shape.TheVariants as shape
use Rattle.sk_dag.specs.Graph.{Graph, Grows, HasBool, HasWord}
use Rattle.sk_dag.specs.Eval.{bool_value, word_value, Keeps}
use Rattle.sk_dag.specs.EvalShape.{shape_value, held_slot}
use Rattle.sk_arr.specs.Held.{held_in, AllIn, AllPass}
use Rattle.sk_arr.specs.Shapes.{blank, Stands}
use Rattle.sk_arr.specs.Answers.{IsCopy}
use Rattle.sk_arr.proofs.Makers.{Keeps-refl}
use Rattle.sk_arr.proofs.Targets.{none_in}
use Rattle.sk_arr.proofs.Standing.{bit_stands, int_stands, reference_stands, array_stands, AllStand-keeps}
use Rattle.sk_arr.proofs.Values.{value_bit, value_int, value_reference, value_array, blank_bit, blank_int, blank_reference, blank_array, bit_passes, int_passes, reference_passes, array_passes, map_push, stand_none, stand_push, passes_push}
use Rattle.sk_arr.specs.Shapes.{SlotsPass}
use Rattle.sk_prog.specs.declared.ty.Elem.{Elem}
use Rattle.sk_prog.specs.declared.ty.Elem.TheVariants as elem
use Rattle.sk_prog.specs.declared.ids.StructId.{StructId}
use Rattle.sk_prog.specs.declared.prog.FieldDef.{FieldDef}
use Rattle.sk_heap.specs.Types.{form_of, form_of_elem, field_form}
use Rattle.sk_heap.specs.Zeros.{IsZero, AreZeros}

-- 0 is a word of every width
pub zero_word : (bits : ℕ) → IsWord bits (pos 0)
zero_word bits = let p = half_pos bits in record { low = omega (arith, ints); high = omega (arith, ints, p) }

pub zero_bit : {g : Graph} {a : BoolId} {t : Elem} → t ≡ elem.Bit → HasBool g.nodes a → ((h : Graph) → Grows g h → (e : Env) → bool_value h e a ≡ false) → IsZero g (form_of_elem t) (shape.Bit a)
zero_bit {g} {a} {t} is there value = subst (λ u. IsZero g (form_of_elem u) (shape.Bit a)) (sym is) record {
  stands = bit_stands g a there;
  formed = blank_bit a;
  unnamed = λ test. bit_passes test a;
  value = λ h more e. value_bit h e a ∙ ap (λ b. SeenBit b) (value h more e);
}

pub zero_int : {g : Graph} {a : WordId} {t : Elem} → t ≡ elem.Int → HasWord g.nodes a → ((h : Graph) → Grows g h → (e : Env) → word_value h e a ≡ pos 0) → IsZero g (form_of_elem t) (shape.Int a)
zero_int {g} {a} {t} is there value = subst (λ u. IsZero g (form_of_elem u) (shape.Int a)) (sym is) record {
  stands = int_stands g a there;
  formed = blank_int a;
  unnamed = λ test. int_passes test a;
  value = λ h more e. value_int h e a ∙ ap (λ z. SeenInt z) (value h more e);
}

pub zero_reference : {g : Graph} {t : Elem} {s : StructId} (a : Targets) → t ≡ elem.Reference s → a.slots.items ≡ [] → IsZero g (form_of_elem t) (shape.Reference a)
zero_reference {g} {t} {s} a is none = subst (λ u. IsZero g (form_of_elem u) (shape.Reference a)) (sym is) record {
  stands = reference_stands g a (subst (AllIn g) (sym none) (none_in g)) (λ e. subst (λ ts. length (held_in g e ts) ≤ 1) (sym none) (omega arith));
  formed = blank_reference a;
  unnamed = λ test. reference_passes test a (subst (AllPass test) (sym none) (record { each = All-nil (λ x. IsTrue (test x.0)) }));
  value = λ h more e. value_reference h e a ∙ ap (λ ts. SeenSlot (held_slot h e ts)) none;
}

pub zero_array : {g : Graph} {vs : List Seen} (list : List Shape) → AreZeros g vs list → IsZero g (SeenArray vs) (shape.Array list)
zero_array {g} {vs} list are = record {
  stands = array_stands g list are.stand;
  formed = blank_array list ∙ ap (λ l. SeenArray l) are.formed;
  unnamed = λ test. array_passes test list (are.unnamed test);
  value = λ h more e. value_array h e list ∙ ap (λ l. SeenArray l) (are.value h more e);
}

pub zero_copy : {g : Graph} {v : Seen} {a r : Shape} → IsZero g v a → IsCopy g a r → IsZero g v r
zero_copy zero copy = record {
  stands = copy.stands;
  formed = copy.alike ∙ zero.formed;
  unnamed = λ test. copy.named test (zero.unnamed test);
  value = λ h more e. copy.value h e ∙ zero.value h more e;
}

pub zeros_none : (g : Graph) → AreZeros g [] []
zeros_none g = record {
  stand = stand_none g;
  formed = refl;
  unnamed = λ test. record { each = All-nil (SlotsPass test) };
  value = λ h more e. refl;
}

pub zeros_push : {mid new : Graph} (vs : List Seen) (v : Seen) (list : List Shape) (r : Shape) → AreZeros mid vs list → Keeps mid new → IsZero new v r → AreZeros new (vs ++ v ∷ []) (list ++ r ∷ [])
zeros_push vs v list r are keeps is = record {
  stand = stand_push list r (AllStand-keeps keeps are.stand) is.stands;
  formed = map_push blank list r ∙ (λ i. are.formed i ++ is.formed i ∷ []);
  unnamed = λ test. passes_push list r (are.unnamed test) (is.unnamed test);
  value = λ h more e. map_push (shape_value h e) list r ∙ (λ i. are.value h (keeps.later h more) e i ++ is.value h more e i ∷ []);
}

-- one copy more
pub copies_more : (zero : Shape) (made : List Shape) (n : ℕ) (r : Shape) → ((g : Graph) (v : Seen) → IsZero g v zero → AreZeros g (replicate n v) made) → ((g : Graph) → Stands g zero → IsCopy g zero r) → (g : Graph) (v : Seen) → IsZero g v zero → AreZeros g (replicate (n + 1) v) (made ++ r ∷ [])
copies_more zero made n r are copy g v is = subst (λ vs. AreZeros g vs (made ++ r ∷ [])) (replicate_more n v) (zeros_push (replicate n v) v made r (are g v is) (Keeps-refl g) (zero_copy is (copy g is.stands)))

-- one field more
pub fields_more : {mid new : Graph} (list : List FieldDef) (made : List Shape) (i : ℕ) (f : FieldDef) (r : Shape) → i < length list → f ≡ get_or list i f → AreZeros mid (map field_form (take i list)) made → Keeps mid new → IsZero new (form_of f.ty) r → AreZeros new (map field_form (take (i + 1) list)) (made ++ r ∷ [])
fields_more {mid} {new} list made i f r l at are keeps is =
    let more : take (i + 1) list ≡ take i list ++ f ∷ [] = take_more list i f l ∙ ap (λ x. take i list ++ x ∷ []) (sym at) in
    subst (λ vs. AreZeros new vs (made ++ r ∷ [])) (sym (map_push field_form (take i list) f) ∙ sym (ap (map field_form) more))
    (zeros_push (map field_form (take i list)) (field_form f) made r are keeps is)

pub fields_done : {g : Graph} (list : List FieldDef) (made : List Shape) (i : ℕ) → length list ≤ i → AreZeros g (map field_form (take i list)) made → AreZeros g (map field_form list) made
fields_done {g} list made i l are = subst (λ fs. AreZeros g (map field_form fs) made) (take_all i list l) are

pub ruleset zeros = (zero_word)
