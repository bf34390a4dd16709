-- What shapes of one form are.
use Rattle.std.proofs.Common.{◌≡◌, ℕ, false, List, None, pos, map, refl, sym, ap, ◌∙◌, arith}
use Rattle.sk_dag.specs.declared.node.BoolId.{BoolId}
use Rattle.sk_dag.specs.declared.node.WordId.{WordId}
use Rattle.sk_dag.specs.declared.shape.Targets.{Targets}
use Rattle.sk_dag.specs.declared.shape.Seen.{Seen}
use Rattle.sk_dag.specs.declared.shape.Seen.TheOpen as N
use Rattle.sk_dag.specs.declared.shape.Seen.TheVariants.{Bit as SeenBit, Int as SeenInt, Slot as SeenSlot, Array as SeenArray}
use Rattle.sk_dag.specs.declared.shape.Seen.TheViews.{out-Seen, outs-Bit, outs-Int, outs-Slot, outs-Array}
use Rattle.sk_dag.specs.declared.shape.Shape.{Shape}
use Rattle.sk_dag.specs.declared.shape.Shape.TheVariants as shape
use Rattle.sk_arr.specs.Shapes.{blank, Alike}
use Rattle.sk_arr.specs.Forms.{IsBit, IsInt, IsReference, IsArray}
use Rattle.sk_arr.proofs.Parts.{shape_law}
use Rattle.sk_arr.proofs.Values.{blank_bit, blank_int, blank_reference, blank_array}

abbrev kind : N.Seen-F Seen → ℕ
kind (N.Bit b) = 0
kind (N.Int x) = 1
kind (N.Slot s) = 2
kind (N.Array vs) = 3

abbrev kind_of : Seen → ℕ
kind_of v = kind (out-Seen v)

seen_bit : kind_of (SeenBit false) ≡ 0
seen_bit = ap kind (outs-Bit false)

seen_int : kind_of (SeenInt (pos 0)) ≡ 1
seen_int = ap kind (outs-Int (pos 0))

seen_slot : kind_of (SeenSlot None) ≡ 2
seen_slot = ap kind (outs-Slot None)

seen_array : (vs : List Seen) → kind_of (SeenArray vs) ≡ 3
seen_array vs = ap kind (outs-Array vs)

kind_bit : (a : BoolId) → kind_of (blank (shape.Bit a)) ≡ 0
kind_bit a = ap kind_of (blank_bit a) ∙ seen_bit

kind_int : (a : WordId) → kind_of (blank (shape.Int a)) ≡ 1
kind_int a = ap kind_of (blank_int a) ∙ seen_int

kind_reference : (a : Targets) → kind_of (blank (shape.Reference a)) ≡ 2
kind_reference a = ap kind_of (blank_reference a) ∙ seen_slot

kind_array : (ss : List Shape) → kind_of (blank (shape.Array ss)) ≡ 3
kind_array ss = ap kind_of (blank_array ss) ∙ seen_array (map blank ss)

-- a shape of the form of a bit is no other
pub only_bit : (s : Shape) → IsBit s → ((a : BoolId) → s ≡ shape.Bit a → ⊥) → ⊥
only_bit = shape_law (λ s. IsBit s → ((a : BoolId) → s ≡ shape.Bit a → ⊥) → ⊥)
    (λ a is no. no a refl)
    (λ a is no. absurd (omega (arith, kind_int a, ap kind_of is.form, seen_bit)))
    (λ a is no. absurd (omega (arith, kind_reference a, ap kind_of is.form, seen_bit)))
    (λ ss below is no. absurd (omega (arith, kind_array ss, ap kind_of is.form, seen_bit)))

pub only_int : (s : Shape) → IsInt s → ((a : WordId) → s ≡ shape.Int a → ⊥) → ⊥
only_int = shape_law (λ s. IsInt s → ((a : WordId) → s ≡ shape.Int a → ⊥) → ⊥)
    (λ a is no. absurd (omega (arith, kind_bit a, ap kind_of is.form, seen_int)))
    (λ a is no. no a refl)
    (λ a is no. absurd (omega (arith, kind_reference a, ap kind_of is.form, seen_int)))
    (λ ss below is no. absurd (omega (arith, kind_array ss, ap kind_of is.form, seen_int)))

pub only_reference : (s : Shape) → IsReference s → ((a : Targets) → s ≡ shape.Reference a → ⊥) → ⊥
only_reference = shape_law (λ s. IsReference s → ((a : Targets) → s ≡ shape.Reference a → ⊥) → ⊥)
    (λ a is no. absurd (omega (arith, kind_bit a, ap kind_of is.form, seen_slot)))
    (λ a is no. absurd (omega (arith, kind_int a, ap kind_of is.form, seen_slot)))
    (λ a is no. no a refl)
    (λ ss below is no. absurd (omega (arith, kind_array ss, ap kind_of is.form, seen_slot)))

pub only_array : (s : Shape) → IsArray s → ((ss : List Shape) → s ≡ shape.Array ss → ⊥) → ⊥
only_array = shape_law (λ s. IsArray s → ((ss : List Shape) → s ≡ shape.Array ss → ⊥) → ⊥)
    (λ a is no. absurd (omega (arith, kind_bit a, ap kind_of is.form, seen_array is.forms)))
    (λ a is no. absurd (omega (arith, kind_int a, ap kind_of is.form, seen_array is.forms)))
    (λ a is no. absurd (omega (arith, kind_reference a, ap kind_of is.form, seen_array is.forms)))
    (λ ss below is no. no ss refl)

-- what is alike to a bit is of its form
pub form_bit : {s u : Shape} {a : BoolId} → Alike s u → s ≡ shape.Bit a → IsBit u
form_bit {s} {u} {a} h is = record { form = sym h ∙ ap blank is ∙ blank_bit a }

pub form_int : {s u : Shape} {a : WordId} → Alike s u → s ≡ shape.Int a → IsInt u
form_int {s} {u} {a} h is = record { form = sym h ∙ ap blank is ∙ blank_int a }

pub form_reference : {s u : Shape} {a : Targets} → Alike s u → s ≡ shape.Reference a → IsReference u
form_reference {s} {u} {a} h is = record { form = sym h ∙ ap blank is ∙ blank_reference a }

pub form_array : {s u : Shape} (ss : List Shape) → Alike s u → s ≡ shape.Array ss → IsArray u
form_array {s} {u} ss h is = record { forms = map blank ss; form = sym h ∙ ap blank is ∙ blank_array ss }

pub ruleset forms = (form_bit, form_int, form_reference, form_array)
