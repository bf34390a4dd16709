-- Whole numbers of constants: a sum, a difference or a product that does not fit into 64 bits is not near.
use Rattle.std.proofs.Common.{◌≡◌, ℕ, suc, ◌<◌, ◌≤◌, Bool, true, false, Option, Some, None, refl, sym, ap, subst, ◌∙◌, arith, w64, FitsSigned, List}
use Rattle.std.specs.Prelude.{ℤ, pos, negsuc, neg_ℤ, unsigned_abs, ◌^◌, nat_le, nat_lt, int_le, int_lt, if◌then◌else◌}
use Rattle.std.specs.Option.{SomeIff}
use Rattle.std.proofs.lemmas.Bool.{leb-true, ltb-true}
use Rattle.std.proofs.lemmas.Int.{fits_signed_from_abs}
use Rattle.sk_base.specs.declared.bounds.Bounds.{Bounds}
use Rattle.sk_types_rules.specs.Rules.{◌>>=◌, only_if, in_range}
use Rattle.sk_tree.specs.declared.expr.Expr.{Expr}
use Rattle.sk_types_rules.specs.declared.scope.Variable.{Variable}
use Rattle.sk_types_rules.specs.Scope.{Context}
use Rattle.sk_types_rules.specs.Constants.{is_near, near, natural, constant_number}
use Rattle.sk_types_laws.specs.Parts.{Part, length_part, length_of}
use Rattle.sk_types_laws.proofs.Joined.{part_is}
use Rattle.sk_types_laws.proofs.Ats.{both_true}

abs_near : (z : ℤ) → is_near z ≡ true → unsigned_abs z < 2 ^ 63
abs_near (pos n) is = let h = leb-true n 4611686018427387904 ((both_true (int_le (neg_ℤ (pos (2 ^ 62))) (pos n)) (int_le (pos n) (pos (2 ^ 62))) is).1) in omega (arith, h)
abs_near (negsuc n) is = let h = leb-true n 4611686018427387903 ((both_true (int_le (neg_ℤ (pos (2 ^ 62))) (negsuc n)) (int_le (negsuc n) (pos (2 ^ 62))) is).0) in omega (arith, h)

not_near : (z : ℤ) → ¬ (FitsSigned w64 z) → near z ≡ None
not_near z unfit = go (is_near z) refl
  where
    go : (b : Bool) → is_near z ≡ b → only_if b z ≡ None
    go false is = refl
    go true is = absurd (unfit (fits_signed_from_abs w64 z (abs_near z is)))

-- what does not overflow decides
pub near_some : (z x : ℤ) → SomeIff (Some x) (FitsSigned w64 z) z → near z ≡ near x
near_some z x s = ap near (sym s.1)

pub near_none : (z : ℤ) → ¬ (FitsSigned w64 z) → near z ≡ None
near_none z s = not_near z s

pub natural_negative : (bounds : Bounds) (z : ℤ) → int_lt z (pos 0) ≡ true → natural bounds z ≡ None
natural_negative bounds (pos n) h = let k = ltb-true n 0 h in absurd (omega (arith, k))
natural_negative bounds (negsuc n) h = refl

pub natural_positive : (bounds : Bounds) (z : ℤ) → int_lt z (pos 0) ≡ false → natural bounds z ≡ only_if (in_range bounds (unsigned_abs z)) (unsigned_abs z)
natural_positive bounds (pos n) h = refl
natural_positive bounds (negsuc n) h = cc

-- the number of a constant expression, by its part
pub length_is : (context : Context) (scope : List Variable) (e : Expr) → length_of context scope e ≡ constant_number context scope e
length_is context scope e = ap (λ (p : Part). length_part context p) (part_is context scope e)
