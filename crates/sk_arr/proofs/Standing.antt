-- Shapes that stand in a graph stand in what it grows to; and which references stand.
use Rattle.std.proofs.Common.{◌≡◌, ℕ, ◌≤◌, List, [], length, map, ap, slice_get, Some, sym, subst, ◌∙◌}
use Rattle.std.proofs.lemmas.Option.{slice_get_within, get_or_from_slice_get}
use Rattle.sk_dag.specs.declared.env.Env.{Env}
use Rattle.sk_dag.specs.declared.node.BoolId.{BoolId}
use Rattle.sk_dag.specs.declared.node.WordId.{WordId}
use Rattle.sk_dag.specs.declared.shape.Targets.{Targets}
use Rattle.sk_dag.specs.declared.shape.Shape.{Shape}
use Rattle.sk_dag.specs.declared.shape.Shape.TheVariants as shape
use Rattle.sk_dag.specs.declared.shape.Shape.TheOpen as F
use Rattle.sk_dag.specs.declared.shape.Shape.TheFolds.{every-Shape}
use Rattle.sk_dag.specs.declared.shape.Seen.{Seen}
use Rattle.sk_dag.specs.declared.shape.Seen.TheVariants.{Array as SeenArray}
use Rattle.sk_dag.specs.declared.shape.Seen.TheOpen as N
use Rattle.sk_dag.specs.declared.shape.Seen.TheViews.{out-Seen, outs-Array}
use Rattle.sk_dag.specs.Graph.{Graph, HasBool, HasWord, BoolSort, WordSort}
use Rattle.sk_dag.specs.Eval.{bool_value, Keeps}
use Rattle.sk_dag.proofs.EvalLemmas.{Grows-refl, bool_value-grows}
use Rattle.sk_arr.specs.Held.{held_in, AllIn}
use Rattle.sk_arr.specs.Shapes.{blank, blank_step, Alike, PartStands, Stands, AllStand}
use Rattle.sk_arr.proofs.Parts.{fold_array, every_more, every_bit, every_int, every_reference, every_array, bit_every, int_every, reference_every, array_every}
use Rattle.sk_arr.proofs.Targets.{few, one}

part_keeps : {a b : Graph} → Keeps a b → (x : F.Shape-F Shape) → PartStands a x → PartStands b x
part_keeps k (F.Bit i) h = record { there = k.sorts i.index BoolSort h.there; exclusive = tt }
part_keeps k (F.Int i) h = record { there = k.sorts i.index WordSort h.there; exclusive = tt }
part_keeps k (F.Array ss) h = record { there = tt; exclusive = tt }
part_keeps {a} {b} k (F.Reference targets) h = record {
  there = λ i d lt. k.sorts _ BoolSort (h.there i d lt);
  exclusive = λ e i j s t p q x y. h.exclusive e i j s t p q (sym (same e i s p) ∙ x) (sym (same e j t q) ∙ y);
}
  where
    same : (e : Env) (i : ℕ) (s : ℕ × BoolId) → slice_get targets.slots.items i ≡ Some s → bool_value b e s.1 ≡ bool_value a e s.1
    same e i s p =
        bool_value-grows (k.later b (Grows-refl b))
        (subst (λ t. HasBool a.nodes t.1) (get_or_from_slice_get targets.slots.items i s s p) (h.there i s (slice_get_within targets.slots.items i s p)))
        e

pub Stands-keeps : {a b : Graph} {s : Shape} → Keeps a b → Stands a s → Stands b s
Stands-keeps {a} {b} {s} k h = record { parts = every_more (PartStands a) (PartStands b) (part_keeps k) s h.parts }

pub AllStand-keeps : {a b : Graph} {ss : List Shape} → Keeps a b → AllStand a ss → AllStand b ss
AllStand-keeps k h = record { each = λ i d lt. Stands-keeps k (h.each i d lt) }

pub AllIn-keeps : {a b : Graph} {ts : List (ℕ × BoolId)} → Keeps a b → AllIn a ts → AllIn b ts
AllIn-keeps k h = record { each = λ i d lt. k.sorts _ BoolSort (h.each i d lt) }

pub bit_stands : (g : Graph) (a : BoolId) → HasBool g.nodes a → Stands g (shape.Bit a)
bit_stands g a h = record { parts = every_bit (PartStands g) a (record { there = h; exclusive = tt }) }

pub int_stands : (g : Graph) (a : WordId) → HasWord g.nodes a → Stands g (shape.Int a)
int_stands g a h = record { parts = every_int (PartStands g) a (record { there = h; exclusive = tt }) }

pub array_stands : (g : Graph) (ss : List Shape) → AllStand g ss → Stands g (shape.Array ss)
array_stands g ss h = record { parts = every_array (PartStands g) ss (record { there = tt; exclusive = tt }) (λ i d lt. (h.each i d lt).parts) }

pub reference_stands : (g : Graph) (t : Targets) → AllIn g t.slots.items → ((e : Env) → length (held_in g e t.slots.items) ≤ 1) → Stands g (shape.Reference t)
reference_stands g t h at_most = record { parts = every_reference (PartStands g) t (record { there = h.each; exclusive = λ e. one (bool_value g e) t.slots.items (at_most e) }) }

pub bit_there : {g : Graph} {s : Shape} {a : BoolId} → Stands g s → s ≡ shape.Bit a → HasBool g.nodes a
bit_there {g} {s} {a} h is = (bit_every (PartStands g) a (subst (every-Shape (PartStands g)) is h.parts)).there

pub int_there : {g : Graph} {s : Shape} {a : WordId} → Stands g s → s ≡ shape.Int a → HasWord g.nodes a
int_there {g} {s} {a} h is = (int_every (PartStands g) a (subst (every-Shape (PartStands g)) is h.parts)).there

pub targets_there : {g : Graph} {s : Shape} {t : Targets} → Stands g s → s ≡ shape.Reference t → AllIn g t.slots.items
targets_there {g} {s} {t} h is = record { each = (reference_every (PartStands g) t (subst (every-Shape (PartStands g)) is h.parts)).there }

pub targets_few : (g : Graph) (t : Targets) → Stands g (shape.Reference t) → (e : Env) → length (held_in g e t.slots.items) ≤ 1
targets_few g t h e = few (bool_value g e) t.slots.items ((reference_every (PartStands g) t h.parts).exclusive e)

pub parts_stand : {g : Graph} {s : Shape} {ss : List Shape} → Stands g s → s ≡ shape.Array ss → AllStand g ss
parts_stand {g} {s} {ss} h is = record { each = λ i d lt. record { parts = array_every (PartStands g) ss (subst (every-Shape (PartStands g)) is h.parts) i d lt } }

abbrev list_of : N.Seen-F Seen → List Seen
list_of (N.Array vs) = vs
list_of _ = []

-- arrays are equal where their elements are
pub seen_lists : (xs ys : List Seen) → SeenArray xs ≡ SeenArray ys → xs ≡ ys
seen_lists xs ys e = sym (ap list_of (outs-Array xs)) ∙ ap (λ v. list_of (out-Seen v)) e ∙ ap list_of (outs-Array ys)

pub alike_parts : (s r : Shape) (ss rs : List Shape) → Alike s r → s ≡ shape.Array ss → r ≡ shape.Array rs → map blank ss ≡ map blank rs
alike_parts s r ss rs h p q =
    seen_lists (map blank ss) (map blank rs) (sym (fold_array Seen blank_step ss) ∙ ap blank (sym p) ∙ h ∙ ap blank q ∙ fold_array Seen blank_step rs)

pub ruleset inside = (Stands-keeps, AllStand-keeps, bit_there, int_there, targets_there, parts_stand, alike_parts)
