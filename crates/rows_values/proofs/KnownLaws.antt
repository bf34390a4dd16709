-- Shapes that stand, and shapes of one form, in the words of the tests of them.
use Rattle.std.proofs.Common.{◌≡◌, ℕ, ◌≤◌, Bool, true, false, not, List, [], ◌∷◌, length, map, sym, ap, subst, ◌∙◌, arith, if◌then◌else◌}
use Rattle.std.proofs.lemmas.List.Elements.{All-nil, All-cons}
use Rattle.sk_dag.specs.declared.env.Env.{Env}
use Rattle.sk_dag.specs.declared.node.BoolId.{BoolId}
use Rattle.sk_dag.specs.declared.node.WordId.{WordId}
use Rattle.sk_dag.specs.declared.shape.Targets.{Targets}
use Rattle.sk_dag.specs.declared.shape.Shape.{Shape}
use Rattle.sk_dag.specs.declared.shape.Shape.TheVariants as shape
use Rattle.sk_dag.specs.declared.shape.Seen.TheVariants.{Array as SeenArray}
use Rattle.sk_dag.specs.Graph.{Graph, Grows, HasBool, HasWord}
use Rattle.sk_dag.specs.Eval.{bool_value}
use Rattle.sk_dag.proofs.EvalLemmas.{Grows-refl}
use Rattle.sk_arr.specs.Forms.{IsBit}
use Rattle.sk_arr.specs.Shapes.{blank, Alike, AlikeTo, AllAlike, Stands, AllStand}
use Rattle.sk_arr.proofs.Standing.{bit_stands, int_stands, reference_stands, array_stands}
use Rattle.sk_arr.proofs.Values.{blank_bit, blank_int, blank_reference, blank_array}
use Rattle.rows_values.specs.Known.{TargetsStand}

-- ---- targets

pub none_stand : (g : Graph) (ts : List (ℕ × BoolId)) → ts ≡ [] → TargetsStand g ts
none_stand g ts is = subst (TargetsStand g) (sym is) (record { there = record { each = All-nil (λ t. HasBool g.nodes t.1) }; few = λ e. omega arith })

pub one_stands : {g : Graph} {ts : List (ℕ × BoolId)} {slot : ℕ} {a : BoolId} → ts ≡ (slot, a) ∷ [] → HasBool g.nodes a → TargetsStand g ts
one_stands {g} {ts} {slot} {a} is h = subst (TargetsStand g) (sym is) (record {
  there = record { each = All-cons (λ t. HasBool g.nodes t.1) (slot, a) [] h (All-nil (λ t. HasBool g.nodes t.1)) };
  few = λ e. by (bool_value g e a);
})
  where
    by : (x : Bool) → length (if x then slot ∷ [] else []) ≤ 1
    by true = omega arith
    by false = omega arith

pub two_stand : {g : Graph} {ts : List (ℕ × BoolId)} {slot other : ℕ} {a b : BoolId} → ts ≡ (slot, a) ∷ (other, b) ∷ [] → HasBool g.nodes a → HasBool g.nodes b → ((h : Graph) → Grows g h → (e : Env) → bool_value h e b ≡ not (bool_value h e a)) → TargetsStand g ts
two_stand {g} {ts} {slot} {other} {a} {b} is h k opposite = subst (TargetsStand g) (sym is) (record {
  there = record { each = All-cons (λ t. HasBool g.nodes t.1) (slot, a) ((other, b) ∷ []) h (All-cons (λ t. HasBool g.nodes t.1) (other, b) [] k (All-nil (λ t. HasBool g.nodes t.1))) };
  few = λ e. by (bool_value g e a) (bool_value g e b) (opposite g (Grows-refl g) e);
})
  where
    by : (x y : Bool) → y ≡ not x → length (if x then slot ∷ (if y then other ∷ [] else []) else (if y then other ∷ [] else [])) ≤ 1
    by true y is = subst (λ v. length (slot ∷ (if v then other ∷ [] else [])) ≤ 1) (sym is) (omega arith)
    by false y is = subst (λ v. length (if v then other ∷ [] else []) ≤ 1) (sym is) (omega arith)

pub ruleset targets = (none_stand, one_stands, two_stand)

-- ---- shapes that stand

pub bit_stands_at : {g : Graph} {s : Shape} {a : BoolId} → s ≡ shape.Bit a → HasBool g.nodes a → Stands g s
bit_stands_at {g} {s} {a} is h = subst (Stands g) (sym is) (bit_stands g a h)

pub int_stands_at : {g : Graph} {s : Shape} {a : WordId} → s ≡ shape.Int a → HasWord g.nodes a → Stands g s
int_stands_at {g} {s} {a} is h = subst (Stands g) (sym is) (int_stands g a h)

pub reference_stands_at : {g : Graph} {s : Shape} {a : Targets} → s ≡ shape.Reference a → TargetsStand g a.slots.items → Stands g s
reference_stands_at {g} {s} {a} is h = subst (Stands g) (sym is) (reference_stands g a h.there h.few)

pub array_stands_at : {g : Graph} {s : Shape} {ss : List Shape} → s ≡ shape.Array ss → AllStand g ss → Stands g s
array_stands_at {g} {s} {ss} is h = subst (Stands g) (sym is) (array_stands g ss h)

pub ruleset standing = (bit_stands_at, int_stands_at, reference_stands_at, array_stands_at)

-- ---- forms

pub bits_alike : {s r : Shape} {a b : BoolId} → s ≡ shape.Bit a → r ≡ shape.Bit b → Alike s r
bits_alike {s} {r} {a} {b} p q = ap blank p ∙ blank_bit a ∙ sym (ap blank q ∙ blank_bit b)

pub ints_alike : {s r : Shape} {a b : WordId} → s ≡ shape.Int a → r ≡ shape.Int b → Alike s r
ints_alike {s} {r} {a} {b} p q = ap blank p ∙ blank_int a ∙ sym (ap blank q ∙ blank_int b)

pub references_alike : {s r : Shape} {a b : Targets} → s ≡ shape.Reference a → r ≡ shape.Reference b → Alike s r
references_alike {s} {r} {a} {b} p q = ap blank p ∙ blank_reference a ∙ sym (ap blank q ∙ blank_reference b)

pub arrays_alike : {s r : Shape} (ss rs : List Shape) → s ≡ shape.Array ss → r ≡ shape.Array rs → map blank ss ≡ map blank rs → Alike s r
arrays_alike {s} {r} ss rs p q h = ap blank p ∙ blank_array ss ∙ ap (λ l. SeenArray l) h ∙ sym (ap blank q ∙ blank_array rs)

pub ruleset forms = (bits_alike, ints_alike, references_alike, arrays_alike)

-- of shapes that all have the form of one, each has that of each
pub all_alike_from : {a : Shape} {list : List Shape} → AlikeTo a list → AllAlike list
all_alike_from h = record { each = λ i d lt. record { each = λ j c l. sym (h.each i d lt) ∙ h.each j c l } }

pub bit_form : {s : Shape} {a : BoolId} → s ≡ shape.Bit a → IsBit s
bit_form {s} {a} is = record { form = ap blank is ∙ blank_bit a }
