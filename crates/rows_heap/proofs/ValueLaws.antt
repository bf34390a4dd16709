-- Which shapes are values of a type.
use Rattle.std.proofs.lemmas.List.Elements.{All-nil, All-cons}
use Rattle.std.proofs.Common.{◌≡◌, ℕ, ◌<◌, ◌≤◌, List, [], ◌∷◌, length, get_or, IsTrue, sym, subst, ◌∙◌, arith}
use Rattle.sk_dag.specs.declared.node.BoolId.{BoolId}
use Rattle.sk_dag.specs.declared.node.WordId.{WordId}
use Rattle.sk_dag.specs.declared.shape.Targets.{Targets}
use Rattle.sk_dag.specs.declared.shape.Seen.TheVariants.{Array as SeenArray}
use Rattle.sk_dag.specs.declared.shape.Shape.{Shape}
use Rattle.sk_dag.specs.declared.shape.Shape.TheVariants as shape
use Rattle.sk_dag.specs.Graph.{Graph, HasBool, HasWord}
use Rattle.sk_dag.specs.Eval.{Keeps}
use Rattle.sk_arr.specs.Held.{held_in, AllIn, AllPass}
use Rattle.sk_arr.specs.Shapes.{Alike, Stands, SlotsPass}
use Rattle.sk_arr.specs.Answers.{IsCopy, IsChoice}
use Rattle.sk_arr.proofs.Makers.{Keeps-refl}
use Rattle.sk_arr.proofs.Targets.{none_in}
use Rattle.sk_arr.proofs.Standing.{Stands-keeps, bit_stands, int_stands, reference_stands, array_stands, bit_there}
use Rattle.sk_arr.proofs.Values.{blank_bit, blank_int, blank_reference, blank_array, bit_passes, int_passes, reference_passes, array_passes}
use Rattle.sk_prog.specs.declared.ids.StructId.{StructId}
use Rattle.sk_prog.specs.declared.ty.Elem.TheVariants as elem
use Rattle.sk_prog.specs.declared.ty.Ty.{Ty}
use Rattle.sk_prog.specs.declared.ty.Ty.TheVariants as ty
use Rattle.sk_heap.specs.declared.slot.Slot.{Slot}
use Rattle.sk_heap.specs.Types.{elem_of}
use Rattle.sk_heap.specs.Heaps.{is_of, may_name, RefersTo}
use Rattle.sk_heap.proofs.Heaps.{StaysOf, IsOfType-more}
use Rattle.rows_heap.specs.Worlds.{IsValue, AreValues, IsPairOf}

-- ---- single values

pub bit_value : {g : Graph} {heap : List Slot} (a : BoolId) → HasBool g.nodes a → IsValue g heap (ty.One elem.Bit) (shape.Bit a)
bit_value {g} {heap} a there = record { stands = bit_stands g a there; typed = record { form = blank_bit a; slots = bit_passes (may_name heap elem.Bit) a } }

pub int_value : {g : Graph} {heap : List Slot} (a : WordId) → HasWord g.nodes a → IsValue g heap (ty.One elem.Int) (shape.Int a)
int_value {g} {heap} a there = record { stands = int_stands g a there; typed = record { form = blank_int a; slots = int_passes (may_name heap elem.Int) a } }

pub null_value : {g : Graph} {heap : List Slot} (s : StructId) (a : Targets) → a.slots.items ≡ [] → IsValue g heap (ty.One (elem.Reference s)) (shape.Reference a)
null_value {g} {heap} s a none = record {
  stands = reference_stands g a (subst (AllIn g) (sym none) (none_in g)) (λ e. subst (λ ts. length (held_in g e ts) ≤ 1) (sym none) (omega arith));
  typed = record {
    form = blank_reference a;
    slots = reference_passes (is_of heap s) a (subst (AllPass (is_of heap s)) (sym none) (record { each = All-nil (λ x. IsTrue (is_of heap s x.0)) }));
  };
}

pub reference_value : {g : Graph} {heap : List Slot} {s : StructId} {a : Targets} → RefersTo g heap s a → IsValue g heap (ty.One (elem.Reference s)) (shape.Reference a)
reference_value {a = a} refers = record { stands = refers.stands; typed = record { form = blank_reference a; slots = refers.slots } }

pub bit_found : {g : Graph} {heap : List Slot} {t : Ty} {r : Shape} {a : BoolId} → IsValue g heap t r → r ≡ shape.Bit a → HasBool g.nodes a
bit_found h is = bit_there h.stands is

pub reference_found : {g : Graph} {heap : List Slot} {s : StructId} {r : Shape} {a : Targets} → IsValue g heap (ty.One (elem.Reference s)) r → r ≡ shape.Reference a → RefersTo g heap s a
reference_found {g} {heap} {s} h is = record { stands = subst (Stands g) is h.stands; slots = subst (SlotsPass (is_of heap s)) is h.typed.slots }

-- ---- one of the values

pub value_found : {g : Graph} {heap : List Slot} {values : List (Ty × Shape)} (all : List (Ty × Shape)) (i : ℕ) (v : Ty × Shape) (t : Ty) → all ≡ values → AreValues g heap values → i < length all → v ≡ get_or all i v → v.0 ≡ t → IsValue g heap t v.1
value_found {g} {heap} all i v t same h l at is =
    let there : AreValues g heap all = subst (AreValues g heap) (sym same) h in
    subst (λ u. IsValue g heap u v.1) is
    (subst (λ x. IsValue g heap x.0 x.1) (sym at) (there.each i v l))

-- ---- in what the graph grows to, and in another heap

pub IsValue-more : {g g' : Graph} {heap heap' : List Slot} {t : Ty} {r : Shape} → Keeps g g' → StaysOf heap heap' → IsValue g heap t r → IsValue g' heap' t r
IsValue-more keeps more h = record { stands = Stands-keeps keeps h.stands; typed = IsOfType-more more h.typed }

pub AreValues-more : {g g' : Graph} {heap heap' : List Slot} {values : List (Ty × Shape)} → Keeps g g' → StaysOf heap heap' → AreValues g heap values → AreValues g' heap' values
AreValues-more keeps more h = record { each = λ i d l. IsValue-more keeps more (h.each i d l) }

-- ---- choices, and pairs

pub values_alike : {g : Graph} {heap : List Slot} {t : Ty} {a b : Shape} → IsValue g heap t a → IsValue g heap t b → Alike a b
values_alike p q = p.typed.form ∙ sym q.typed.form

pub chosen_value : {g g' : Graph} {heap : List Slot} {t : Ty} {c : BoolId} {a b r : Shape} → IsChoice g' c a b r → IsValue g heap t a → IsValue g heap t b → IsValue g' heap t r
chosen_value {heap = heap} {t = t} choice p q = record {
  stands = choice.stands;
  typed = record { form = choice.alike ∙ p.typed.form; slots = choice.named (may_name heap (elem_of t)) p.typed.slots q.typed.slots };
}

pub copied_value : {g : Graph} {heap : List Slot} {t : Ty} {a r : Shape} → IsCopy g a r → IsValue g heap t a → IsValue g heap t r
copied_value {heap = heap} {t = t} copy p = record {
  stands = copy.stands;
  typed = record { form = copy.alike ∙ p.typed.form; slots = copy.named (may_name heap (elem_of t)) p.typed.slots };
}

pub pair_value : {g : Graph} {heap : List Slot} {t pair : Ty} (a b : Shape) → IsPairOf t pair → IsValue g heap t a → IsValue g heap t b → IsValue g heap pair (shape.Array (a ∷ b ∷ []))
pair_value {g} {heap} {t} {pair} a b is p q = record {
  stands = array_stands g (a ∷ b ∷ []) (record { each = both (Stands g) p.stands q.stands });
  typed = record {
    form = blank_array (a ∷ b ∷ []) ∙ (λ i. SeenArray (p.typed.form i ∷ q.typed.form i ∷ [])) ∙ sym is.form;
    slots = subst (λ e. SlotsPass (may_name heap e) (shape.Array (a ∷ b ∷ []))) (sym is.elem)
        (array_passes (may_name heap (elem_of t)) (a ∷ b ∷ []) (record { each = both (SlotsPass (may_name heap (elem_of t))) p.typed.slots q.typed.slots }));
  };
}
  where
    both : (P : Shape → Type 0) → P a → P b → (i : ℕ) (d : Shape) → i < length (a ∷ b ∷ []) → P (get_or (a ∷ b ∷ []) i d)
    both P x y = All-cons P a (b ∷ []) x (All-cons P b [] y (All-nil P))

pub pair_copied : {g : Graph} {heap : List Slot} {t pair : Ty} {first second a b : Shape} (parts : List Shape) → parts ≡ a ∷ b ∷ [] → ((h : Graph) → Stands h first → IsCopy h first a) → ((h : Graph) → Stands h second → IsCopy h second b) → IsPairOf t pair → IsValue g heap t first → IsValue g heap t second → IsValue g heap pair (shape.Array parts)
pair_copied {g} {heap} {t} {pair} {first} {second} {a} {b} parts are copy copy' is p q =
    subst (λ l. IsValue g heap pair (shape.Array l)) (sym are)
    (pair_value a b is (copied_value (copy g p.stands) p) (copied_value (copy' g q.stands) q))

pub ruleset givens = (Keeps-refl, bit_value, int_value, null_value)
