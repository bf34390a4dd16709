-- What asks for no record: operators and the like. They leave the state as it is, and give no references but those that they were given.
use Rattle.std.proofs.Common.{◌≡◌, ℕ, zero, suc, ◌+◌, pos, negsuc, ℤ, List, [], ◌∷◌, map, length, take, drop, Option, Some, None, Bool, true, false, inl, inr, refl, sym, subst}
use Rattle.std.specs.Prelude.{◌⊎◌, if◌then◌else◌, nat_le}
use Rattle.sk_base.specs.declared.span.Span.{Span}
use Rattle.sk_prog.specs.declared.ty.Elem.{Elem}
use Rattle.sk_prog.specs.declared.ty.Elem.TheVariants as elem
use Rattle.sk_prog.specs.declared.ty.Ty.{Ty}
use Rattle.sk_prog.specs.declared.ty.Ty.TheVariants as ty
use Rattle.sk_prog.specs.declared.value.Value.{Value}
use Rattle.sk_prog.specs.declared.value.Value.TheVariants as value
use Rattle.sk_prog.specs.declared.expr.UnOp.{UnOp}
use Rattle.sk_prog.specs.declared.expr.UnOp.TheVariants as unary
use Rattle.sk_prog.specs.declared.expr.BinOp.{BinOp}
use Rattle.sk_prog.specs.declared.expr.BinOp.TheVariants as op
use Rattle.sk_prog.specs.declared.prog.ConstDef.{ConstDef}
use Rattle.sk_prog.specs.declared.prog.Prog.{Prog}
use Rattle.sk_types_rules.specs.declared.scope.Variable.{Variable}
use Rattle.sk_model.specs.Step as plain
use Rattle.sk_model.specs.Values.{truth, elements, element, padded}
use Rattle.sk_model.specs.Operators.{array_of, Operand, Number, OneBit, Bits, operand, divided, number_operator, bit_operator, bits_operator, shift, on_operands, operator, on_operand, unary_operator, to_int}
use Rattle.sk_model.specs.Eval.{number_at, literal, const_value, or_fail, indexed, sliced, unfilled}
use Rattle.sk_model.proofs.Induction.{Each}
use Rattle.sk_adt.specs.declared.algebraic.Algebraic.{Algebraic}
use Rattle.sk_adt_tags.specs.declared.role.Test.{Test}
use Rattle.sk_adt_records.specs.Steps.{Record, lifted, bare, lift}
use Rattle.sk_adt_record_laws.proofs.Places.{Holds, places, holds_int, holds_bit, holds_null, holds_array, holds_element, holds_slice, holds_padded}
use Rattle.sk_adt_record_laws.proofs.Related.{IsOf, Fits, with_heap, Inv, Ends, ends_at}

-- it gives a value of whose references this holds, or it fails, whatever the state
abbrev pub Quiet : (ℕ → Type 0) → plain.Comp Value → Type 0
Quiet P m = ((v : Value) × Holds P v × ((s : plain.State) → m s ≡ plain.Goes v s)) ⊎ ((span : Span) × ((s : plain.State) → m s ≡ plain.Fails span))

module _ (P : ℕ → Type 0) where
  gives : (v : Value) → Holds P v → Quiet P (plain.pure v)
  gives v h = inl (v, h, λ s. refl)

  fails : (span : Span) → Quiet P (plain.fail span)
  fails span = inr (span, λ s. refl)

  each_truth : (bits : List Bool) → Each (Holds P) (map truth bits)
  each_truth [] = tt
  each_truth (b ∷ bits) = (holds_bit P b, each_truth bits)

  gives_int : (n : ℤ) → Quiet P (plain.pure (value.Int n))
  gives_int n = gives (value.Int n) (holds_int P n)

  gives_bit : (b : Bool) → Quiet P (plain.pure (truth b))
  gives_bit b = gives (value.Bit b) (holds_bit P b)

  gives_bits : (bits : List Bool) → Quiet P (plain.pure (array_of bits))
  gives_bits bits = gives (array_of bits) (holds_array P (map truth bits) (each_truth bits))

  quiet_divided : (span : Span) (y z : ℤ) → Quiet P (divided span y z)
  quiet_divided span (pos zero) z = fails span
  quiet_divided span (pos (suc n)) z = gives_int z
  quiet_divided span (negsuc n) z = gives_int z

  quiet_number : (width : ℕ) (span : Span) (o : BinOp) (x y : ℤ) → Quiet P (number_operator width span o x y)
  quiet_number width span op.Add x y = gives_int _
  quiet_number width span op.Sub x y = gives_int _
  quiet_number width span op.Mul x y = gives_int _
  quiet_number width span op.Div x y = quiet_divided span y _
  quiet_number width span op.Rem x y = quiet_divided span y _
  quiet_number width span op.Lt x y = gives_bit _
  quiet_number width span op.Le x y = gives_bit _
  quiet_number width span op.Gt x y = gives_bit _
  quiet_number width span op.Ge x y = gives_bit _
  quiet_number width span o x y = fails span

  quiet_bit : (span : Span) (o : BinOp) (a b : Bool) → Quiet P (bit_operator span o a b)
  quiet_bit span op.And a b = gives_bit _
  quiet_bit span op.Or a b = gives_bit _
  quiet_bit span op.Xor a b = gives_bit _
  quiet_bit span o a b = fails span

  quiet_bits : (span : Span) (o : BinOp) (a b : List Bool) → Quiet P (bits_operator span o a b)
  quiet_bits span op.Add a b = gives_bits _
  quiet_bits span op.And a b = gives_bits _
  quiet_bits span op.Or a b = gives_bits _
  quiet_bits span op.Xor a b = gives_bits _
  quiet_bits span o a b = fails span

  quiet_shift : (span : Span) (o : BinOp) (a : List Bool) (n : ℤ) → Quiet P (shift span o a n)
  quiet_shift span op.Shl a (pos n) = gives_bits _
  quiet_shift span op.Shr a (pos n) = gives_bits _
  quiet_shift span o a n = fails span

  quiet_on : (width : ℕ) (span : Span) (o : BinOp) (a b : Operand) → Quiet P (on_operands width span o a b)
  quiet_on width span o (Number x) (Number y) = quiet_number width span o x y
  quiet_on width span o (OneBit a) (OneBit b) = quiet_bit span o a b
  quiet_on width span o (Bits a) (Bits b) = quiet_bits span o a b
  quiet_on width span o (Bits a) (Number n) = quiet_shift span o a n
  quiet_on width span o a b = fails span

  pub quiet_operator : (width : ℕ) (span : Span) (o : BinOp) (v w : Value) → Quiet P (operator width span o v w)
  quiet_operator width span op.Eq v w = gives_bit _
  quiet_operator width span op.Ne v w = gives_bit _
  quiet_operator width span o v w = quiet_on width span o (operand v) (operand w)

  quiet_one : (width : ℕ) (span : Span) (o : UnOp) (a : Operand) → Quiet P (on_operand width span o a)
  quiet_one width span unary.Not (OneBit b) = gives_bit _
  quiet_one width span unary.Flip (OneBit b) = gives_bit _
  quiet_one width span unary.Flip (Bits a) = gives_bits _
  quiet_one width span unary.Neg (Number n) = gives_int _
  quiet_one width span o a = fails span

  pub quiet_unary : (width : ℕ) (span : Span) (o : UnOp) (v : Value) → Quiet P (unary_operator width span o v)
  quiet_unary width span o v = quiet_one width span o (operand v)

  pub quiet_to_int : (span : Span) (v : Value) → Quiet P (to_int span v)
  quiet_to_int span (value.Bit b) = gives_int _
  quiet_to_int span v = fails span

  pub quiet_unfilled : (t : Option Ty) (span : Span) → Quiet P (unfilled t span)
  quiet_unfilled (Some (ty.Array elem.Bit zero)) span = gives (value.Array []) (holds_array P [] tt)
  quiet_unfilled t span = fails span

  pub quiet_indexed : (span : Span) (v k : Value) → Holds P v → Quiet P (indexed span v k)
  quiet_indexed span v (value.Int i) h = go (element v i) refl
    where
      go : (o : Option Value) → element v i ≡ o → Quiet P (or_fail span o)
      go None e = fails span
      go (Some w) e = gives w (holds_element P v w i h e)
  quiet_indexed span v k h = fails span

  pub quiet_sliced : (span : Span) (n : ℕ) (v k : Value) → Holds P v → Quiet P (sliced span n v k)
  quiet_sliced span n v (value.Int (pos i)) h = go (nat_le (i + n) (length (elements v)))
    where
      go : (b : Bool) → Quiet P (if b then plain.pure (value.Array (take n (drop i (elements v)))) else plain.fail span)
      go true = gives (value.Array (take n (drop i (elements v)))) (holds_slice P v n i h)
      go false = fails span
  quiet_sliced span n v k h = fails span

  number_holds : (width : ℕ) (e : Elem) (n : ℕ) → Holds P (number_at width e n)
  number_holds width elem.Int n = holds_int P _
  number_holds width elem.Bit n = holds_bit P _
  number_holds width (elem.Reference d) n = holds_null P

  pub literal_holds : (width : ℕ) (t : Option Ty) (n : ℕ) → Holds P (literal width t n)
  literal_holds width (Some (ty.One e)) n = number_holds width e n
  literal_holds width (Some (ty.Array e k)) n = holds_padded P (ty.Array e k) (number_at width e n) (number_holds width e n)
  literal_holds width (Some (ty.Grid e k m)) n = holds_padded P (ty.Grid e k m) (padded (ty.Array e k) (number_at width e n)) (holds_padded P (ty.Array e k) (number_at width e n) (number_holds width e n))
  literal_holds width None n = number_holds width elem.Int n

  pub const_holds : (c : Option ConstDef) → Holds P (const_value c)
  const_holds None = holds_int P (pos 0)
  const_holds (Some c) = holds_int P c.number

each_all : (ps : List ℕ) → Each (λ (p : ℕ). Unit {0}) ps
each_all [] = tt
each_all (p ∷ ps) = (tt, each_all ps)

-- it gives a value that fits, or it fails, whatever the state
abbrev pub FitsQuiet : List Record → Elem → plain.Comp Value → Type 0
FitsQuiet h e m = ((v : Value) × Fits h e v × ((s : plain.State) → m s ≡ plain.Goes v s)) ⊎ ((span : Span) × ((s : plain.State) → m s ≡ plain.Fails span))

nothing_asked : (m : plain.Comp Value) → Quiet (λ p. Unit {0}) m → ((v : Value) × Unit {0} × ((s : plain.State) → m s ≡ plain.Goes v s)) ⊎ ((span : Span) × ((s : plain.State) → m s ≡ plain.Fails span))
nothing_asked m (inl g) = inl (g.0, tt, g.2)
nothing_asked m (inr f) = inr f

pub quiet_fits : (h : List Record) (e : Elem) (v : Value) (m : plain.Comp Value) → ((P : ℕ → Type 0) → Holds P v → Quiet P m) → Fits h e v → FitsQuiet h e m
quiet_fits h (elem.Reference d) v m f g = f (IsOf h d) g
quiet_fits h elem.Int v m f g = nothing_asked m (f (λ p. Unit {0}) (each_all (places v)))
quiet_fits h elem.Bit v m f g = nothing_asked m (f (λ p. Unit {0}) (each_all (places v)))

module _ (types : List Algebraic) (prog : Prog) where
  pub lift_ends : (scope : List Variable) (tests : List Test) (h : List Record) (e : Elem) (m : plain.Comp Value) (s : plain.State) → FitsQuiet h e m → Inv types prog scope tests s h → Ends types prog (λ (v : Value). scope) tests h (λ v k. Fits k e v) (m s) (lift m (with_heap s h))
  lift_ends scope tests h e m s (inl g) i =
      subst (λ z. Ends types prog (λ (v : Value). scope) tests h (λ v k. Fits k e v) z (lift m (with_heap s h))) (sym (g.2 s))
      (subst (λ z. Ends types prog (λ (v : Value). scope) tests h (λ v k. Fits k e v) (plain.Goes g.0 s) (lifted (with_heap s h) z)) (sym (g.2 (bare (with_heap s h))))
      (ends_at types prog (λ (v : Value). scope) tests (λ v k. Fits k e v) g.0 s h i g.1))
  lift_ends scope tests h e m s (inr f) i =
      subst (λ z. Ends types prog (λ (v : Value). scope) tests h (λ v k. Fits k e v) z (lift m (with_heap s h))) (sym (f.1 s))
      (subst (λ z. Ends types prog (λ (v : Value). scope) tests h (λ v k. Fits k e v) (plain.Fails f.0) (lifted (with_heap s h) z)) (sym (f.1 (bare (with_heap s h)))) refl)
