-- Lists of bits, and what they are seen as.
use Rattle.std.proofs.Common.{◌≡◌, ℕ, zero, suc, ◌<◌, Bool, false, List, [], ◌∷◌, ◌++◌, length, map, get_or, slice_get, Some, All, sym, ap, ◌∙◌, arith}
use Rattle.std.specs.Prelude.{option_map}
use Rattle.std.proofs.lemmas.Option.{same_Some, slice_get-map, slice_get-get_or}
use Rattle.std.proofs.lemmas.List.Elements.{All-nil}
use Rattle.sk_dag.specs.declared.env.Env.{Env}
use Rattle.sk_dag.specs.declared.node.BoolId.{BoolId}
use Rattle.sk_dag.specs.declared.shape.Seen.{Seen}
use Rattle.sk_dag.specs.declared.shape.Seen.TheOpen as N
use Rattle.sk_dag.specs.declared.shape.Seen.TheViews.{out-Seen, outs-Bit}
use Rattle.sk_dag.specs.declared.shape.Seen.TheVariants.{Bit as SeenBit}
use Rattle.sk_dag.specs.declared.shape.Shape.{Shape}
use Rattle.sk_dag.specs.declared.shape.Shape.TheVariants as shape
use Rattle.sk_dag.specs.Graph.{Graph}
use Rattle.sk_dag.specs.Eval.{bool_value}
use Rattle.sk_dag.specs.EvalShape.{shape_value}
use Rattle.sk_arr.specs.Forms.{IsBit}
use Rattle.sk_arr.specs.Shapes.{blank, Alike, AllAlike}
use Rattle.sk_arr.specs.Answers.{shapes_value}
use Rattle.sk_arr.specs.Bits.{seen_bits, AreBits}
use Rattle.sk_arr.proofs.Values.{value_bit, blank_bit, length_map, all_push}

abbrev as_bit : N.Seen-F Seen → Bool
as_bit (N.Bit b) = b
as_bit _ = false

seen_bit : (a b : Bool) → SeenBit a ≡ SeenBit b → a ≡ b
seen_bit a b e = sym (ap as_bit (outs-Bit a)) ∙ ap (λ v. as_bit (out-Seen v)) e ∙ ap as_bit (outs-Bit b)

pub is_bit : (a : BoolId) → IsBit (shape.Bit a)
is_bit a = record { form = blank_bit a }

pub bits_none : AreBits []
bits_none = record { each = All-nil IsBit }

pub bits_push : (ss : List Shape) (s : Shape) → AreBits ss → IsBit s → AreBits (ss ++ s ∷ [])
bits_push ss s h k = record { each = all_push IsBit ss s h.each k }

-- what is alike to a bit is a bit
pub bit_alike : {s u : Shape} → Alike s u → IsBit u → IsBit s
bit_alike h is = record { form = h ∙ is.form }

pub bits_alike : (list made : List Shape) → map blank made ≡ map blank list → AreBits list → AreBits made
bits_alike list made e bits = record { each = by list made e bits.each }
  where
    first : List Seen → Seen → Seen
    first [] d = d
    first (x ∷ xs) d = x

    rest : List Seen → List Seen
    rest [] = []
    rest (x ∷ xs) = xs

    by : (list made : List Shape) → map blank made ≡ map blank list → All IsBit list → All IsBit made
    by list [] e all i d lt = absurd (omega (arith, lt))
    by [] (y ∷ ys) e all i d lt = absurd (omega (arith, ap length e))
    by (x ∷ xs) (y ∷ ys) e all zero d lt = bit_alike (ap (λ l. first l (blank x)) e) (all zero d (omega arith))
    by (x ∷ xs) (y ∷ ys) e all (suc i) d lt = by xs ys (ap rest e) (λ k c m. all (suc k) c (omega (arith, m))) i d (omega (arith, lt))

pub bits_all_alike : (list : List Shape) → AreBits list → AllAlike list
bits_all_alike list bits = record { each = λ i d lt. record { each = λ j c l. (bits.each i d lt).form ∙ sym (bits.each j c l).form } }

pub bits_long : (h : Graph) (e : Env) (list : List Shape) (xs : List Bool) → shapes_value h e list ≡ seen_bits xs → length xs ≡ length list
bits_long h e list xs is = sym (length_map (λ b. SeenBit b) xs) ∙ sym (ap length is) ∙ length_map (shape_value h e) list

get_mapped : {A B : Type 0} (f : A → B) (xs : List A) (i : ℕ) (d : A) → i < length xs → slice_get (map f xs) i ≡ Some (f (get_or xs i d))
get_mapped f xs i d l = slice_get-map f xs i ∙ ap (option_map f) (slice_get-get_or xs i d l)

-- what a bit is seen as among bits
pub bit_at : (h : Graph) (e : Env) (list : List Shape) (xs : List Bool) (i : ℕ) (a : Shape) → i < length list → a ≡ get_or list i a → shapes_value h e list ≡ seen_bits xs → shape_value h e a ≡ SeenBit (get_or xs i false)
bit_at h e list xs i a l at same =
    let m : i < length xs = omega (arith, l, bits_long h e list xs same) in
    same_Some (shape_value h e a) (SeenBit (get_or xs i false))
    (ap (λ s. Some (shape_value h e s)) at ∙ sym (get_mapped (shape_value h e) list i a l) ∙ ap (λ vs. slice_get vs i) same ∙ get_mapped (λ b. SeenBit b) xs i false m)

pub bit_value : (h : Graph) (e : Env) (s : Shape) (a : BoolId) (x : Bool) → s ≡ shape.Bit a → shape_value h e s ≡ SeenBit x → bool_value h e a ≡ x
bit_value h e s a x is seen = seen_bit (bool_value h e a) x (sym (value_bit h e a) ∙ ap (shape_value h e) (sym is) ∙ seen)
