-- What operators want of their operands, and what they have by themselves, where the operands are filled.
use Rattle.std.proofs.Common.{◌≡◌, Bool, true, false, Option, Some, inl, inr, refl, sym, ap, subst, ◌∙◌}
use Rattle.sk_prog.specs.declared.ty.Ty.{Ty}
use Rattle.sk_prog.specs.declared.expr.UnOp.{UnOp}
use Rattle.sk_prog.specs.declared.expr.UnOp.TheVariants as unary
use Rattle.sk_prog.specs.declared.expr.BinOp.{BinOp}
use Rattle.sk_prog.specs.declared.expr.BinOp.TheVariants as op
use Rattle.sk_types_rules.specs.declared.rules.Own.{Own}
use Rattle.sk_types_rules.specs.declared.rules.Own.TheVariants.{Wrong, Loose, Firm}
use Rattle.sk_types_rules.specs.declared.rules.Class.{Class}
use Rattle.sk_types_rules.specs.declared.rules.Class.TheVariants.{Plus, Arithmetic, Order, Equality, Bitwise, Shift, Logic}
use Rattle.sk_types_rules.specs.Rules.{int, bit, is_bit_array, firm_if, class_of, operand, result_of, result_own, shifted, operation_own, unary_own}
use Rattle.sk_types_rules.specs.Types.{Wanted, MeansOperation, MeansShift, MeansBinary, MeansUnary}
use Rattle.sk_holes_laws.specs.Owns.{Stays}
use Rattle.sk_holes_laws.specs.Sizes.{Sized, AnySized}
use Rattle.sk_holes_laws.proofs.Operands.{wanted_stays, flip_stays}
use Rattle.sk_holes_laws.proofs.Sized.{OwnSized, operand_sized}

-- an operand, which stays at the type that it has
abbrev pub StaysAt : Own → Own → Option Ty → Type 0
StaysAt x x' t = (u : Ty) → t ≡ Some u → Stays x x' u

result_stays : (k : Class) (o o' : Own) (u : Ty) → Stays o o' u → Stays (result_own k o) (result_own k o') (result_of k u)
result_stays k o o' u (inl e) = inl (ap (result_own k) e)
result_stays k o o' u (inr e) = inr (ap (result_own k) e)

abbrev pub Remade : Class → Own → Own → Ty → Option Ty → Option Ty → Option Ty → Own → Own → Type 0
Remade k x y u a b t w w' = MeansBinary k x y u a b t × StaysAt w w' t

some_back : (t : Option Ty) (u v : Ty) → t ≡ Some u → t ≡ Some v → u ≡ v
some_back t u v p q = let e : Some u ≡ Some v = sym p ∙ q in cc

operation_stays : (k : Class) (x y x' y' : Own) (u : Ty) (a b t : Option Ty) → MeansOperation k x y u a b t → StaysAt x x' a → StaysAt y y' b → MeansOperation k x' y' u a b t × StaysAt (result_own k (operand k x y)) (result_own k (operand k x' y')) t
operation_stays k x y x' y' u a b t m p q =
    let w = wanted_stays k x y x' y' u m.wanted (p u m.left) (q u m.right) in
    (record { wanted = w.0; left = m.left; right = m.right; result = m.result }, λ v is. subst (λ z. Stays (result_own k (operand k x y)) (result_own k (operand k x' y')) z) (some_back t (result_of k u) v m.result is) (result_stays k (operand k x y) (operand k x' y') u w.1))

firm_shifted : (x : Own) (u : Ty) → shifted x ≡ Firm u → x ≡ Firm u
firm_shifted Wrong u h = cc
firm_shifted Loose u h = cc
firm_shifted (Firm t) u h = go (is_bit_array t) h
  where
    go : (b : Bool) → firm_if b t ≡ Firm u → Firm t ≡ Firm u
    go true e = e
    go false e = cc

shift_stays : (x x' : Own) (u : Ty) → shifted x ≡ Firm u → Stays x x' u → shifted x' ≡ Firm u
shift_stays x x' u h (inl p) = ap shifted p ∙ h
shift_stays x x' u h (inr p) = ap shifted (p ∙ sym (firm_shifted x u h)) ∙ h

shifts_stay : (x x' : Own) (u : Ty) (a b t : Option Ty) → MeansShift x u a b t → StaysAt x x' a → MeansShift x' u a b t × StaysAt (shifted x) (shifted x') t
shifts_stay x x' u a b t m p =
    let s = shift_stays x x' u m.shifted (p u m.left) in
    (record { shifted = s; left = m.left; right = m.right; result = m.result }, λ v is. inl (s ∙ sym m.shifted))

abbrev Operation : BinOp → Type 0
Operation o = (x y x' y' : Own) (u : Ty) (a b t : Option Ty) → MeansBinary (class_of o) x y u a b t → StaysAt x x' a → StaysAt y y' b → MeansBinary (class_of o) x' y' u a b t × StaysAt (operation_own o x y) (operation_own o x' y') t

pub binary_stays : (o : BinOp) → Operation o
binary_stays op.AndThen x y x' y' u a b t m p q = (m, λ v is. inl refl)
binary_stays op.OrElse x y x' y' u a b t m p q = (m, λ v is. inl refl)
binary_stays op.Shl x y x' y' u a b t m p q = shifts_stay x x' u a b t m p
binary_stays op.Shr x y x' y' u a b t m p q = shifts_stay x x' u a b t m p
binary_stays op.Mul x y x' y' u a b t m p q = operation_stays Arithmetic x y x' y' u a b t m p q
binary_stays op.Div x y x' y' u a b t m p q = operation_stays Arithmetic x y x' y' u a b t m p q
binary_stays op.Rem x y x' y' u a b t m p q = operation_stays Arithmetic x y x' y' u a b t m p q
binary_stays op.Sub x y x' y' u a b t m p q = operation_stays Arithmetic x y x' y' u a b t m p q
binary_stays op.Add x y x' y' u a b t m p q = operation_stays Plus x y x' y' u a b t m p q
binary_stays op.Lt x y x' y' u a b t m p q = operation_stays Order x y x' y' u a b t m p q
binary_stays op.Le x y x' y' u a b t m p q = operation_stays Order x y x' y' u a b t m p q
binary_stays op.Gt x y x' y' u a b t m p q = operation_stays Order x y x' y' u a b t m p q
binary_stays op.Ge x y x' y' u a b t m p q = operation_stays Order x y x' y' u a b t m p q
binary_stays op.Eq x y x' y' u a b t m p q = operation_stays Equality x y x' y' u a b t m p q
binary_stays op.Ne x y x' y' u a b t m p q = operation_stays Equality x y x' y' u a b t m p q
binary_stays op.And x y x' y' u a b t m p q = operation_stays Bitwise x y x' y' u a b t m p q
binary_stays op.Xor x y x' y' u a b t m p q = operation_stays Bitwise x y x' y' u a b t m p q
binary_stays op.Or x y x' y' u a b t m p q = operation_stays Bitwise x y x' y' u a b t m p q

pub unary_stays : (o : UnOp) (x x' : Own) (u : Ty) → MeansUnary o x u → Stays x x' u → MeansUnary o x' u × Stays (unary_own o x) (unary_own o x') u
unary_stays unary.Not x x' u m h = (m, inl refl)
unary_stays unary.Neg x x' u m h = (m, inl refl)
unary_stays unary.Flip x x' u m h = flip_stays x x' u m h

-- The operands of an operator are of a type with elements.

same_sized : (t u : Option Ty) → t ≡ u → AnySized u → AnySized t
same_sized t u e h = subst AnySized (sym e) h

wanted_sized : (o : Own) (u : Ty) → OwnSized o → Wanted o false u → Sized u
wanted_sized Wrong u h w = absurd w
wanted_sized Loose u h w = cc
wanted_sized (Firm v) u h w = subst Sized w h

both_sized : (u : Ty) (a b : Option Ty) → Sized u → a ≡ Some u → b ≡ Some u → AnySized a × AnySized b
both_sized u a b h p q = (same_sized a (Some u) p h, same_sized b (Some u) q h)

pub class_sized : (k : Class) (x y : Own) (u : Ty) (a b t : Option Ty) → MeansBinary k x y u a b t → OwnSized x → OwnSized y → AnySized t → AnySized a × AnySized b
class_sized Plus x y u a b t m p q h = both_sized u a b (same_sized (Some u) t (sym m.result) h) m.left m.right
class_sized Arithmetic x y u a b t m p q h = both_sized u a b (same_sized (Some u) t (sym m.result) h) m.left m.right
class_sized Bitwise x y u a b t m p q h = both_sized u a b (same_sized (Some u) t (sym m.result) h) m.left m.right
class_sized Order x y u a b t m p q h = both_sized u a b (wanted_sized (operand Order x y) u (operand_sized Order x y p q) m.wanted) m.left m.right
class_sized Equality x y u a b t m p q h = both_sized u a b (wanted_sized (operand Equality x y) u (operand_sized Equality x y p q) m.wanted) m.left m.right
class_sized Shift x y u a b t m p q h = (same_sized a (Some u) m.left (same_sized (Some u) t (sym m.result) h), same_sized b (Some int) m.right tt)
class_sized Logic x y u a b t m p q h = (same_sized a (Some bit) m.left tt, same_sized b (Some bit) m.right tt)

pub unary_sized : (o : UnOp) (x : Own) (u : Ty) (t : Option Ty) → t ≡ Some u → AnySized t → Sized u
unary_sized o x u t e h = subst AnySized e h
