-- Operators on values, and holes that are not filled.
use Rattle.std.proofs.Common.{◌≡◌, zero, suc, ℤ, pos, negsuc, true, false, true≢false, sym, ◌∙◌, ◌≢◌, ℕ, refl, Some}
use Rattle.std.proofs.lemmas.Bool.Decides.{Decides-int_eq}
use Rattle.std.specs.Ordering.{int_eq}
use Rattle.sk_base.specs.declared.span.Span.{Span}
use Rattle.sk_prog.specs.declared.value.Value.{Value}
use Rattle.sk_prog.specs.declared.value.Value.TheVariants as value
use Rattle.sk_prog.specs.declared.expr.BinOp.{BinOp}
use Rattle.sk_prog.specs.declared.expr.BinOp.TheVariants as op
use Rattle.sk_interp_laws.specs.declared.log.Log.{Log}
use Rattle.sk_interp_laws.specs.Recording.{Recorded, Goes, Fails, lift}
use Rattle.sk_model.specs.Operators.{divided, operator, on_operands, operand}
use Rattle.sk_model.specs.Eval.{unfilled}
use Rattle.sk_prog.specs.declared.ty.Elem.TheVariants as elem
use Rattle.sk_prog.specs.declared.ty.Ty.TheVariants as ty

module _ (span : Span) (z : ℤ) (r : Recorded Log) where
  pub divided_none : (y : ℤ) → int_eq y (pos 0) ≡ true → lift (divided span y z) r ≡ Fails span r.log
  divided_none y e = let h : y ≡ pos 0 = (Decides-int_eq y (pos 0)).0 e in rw h refl

  pub divided_some : (y : ℤ) → int_eq y (pos 0) ≡ false → lift (divided span y z) r ≡ Goes (value.Int z) r
  divided_some (pos zero) e = absurd (true≢false (sym ((Decides-int_eq (pos 0) (pos 0)).1 refl) ∙ e))
  divided_some (pos (suc n)) e = refl
  divided_some (negsuc n) e = refl

pub ruleset division = (divided_none, divided_some)

-- all operators but `==` and `!=` go by their operands
pub others : (width : ℕ) (span : Span) (o : BinOp) (v w : Value) → o ≢ op.Eq → o ≢ op.Ne → operator width span o v w ≡ on_operands width span o (operand v) (operand w)
others width span op.Mul v w e n = refl
others width span op.Div v w e n = refl
others width span op.Rem v w e n = refl
others width span op.Add v w e n = refl
others width span op.Sub v w e n = refl
others width span op.Shl v w e n = refl
others width span op.Shr v w e n = refl
others width span op.Lt v w e n = refl
others width span op.Le v w e n = refl
others width span op.Gt v w e n = refl
others width span op.Ge v w e n = refl
others width span op.Eq v w e n = absurd (e refl)
others width span op.Ne v w e n = absurd (n refl)
others width span op.And v w e n = refl
others width span op.Xor v w e n = refl
others width span op.Or v w e n = refl
others width span op.AndThen v w e n = refl
others width span op.OrElse v w e n = refl

-- a hole of a bit or more
pub some_bits : (n : ℕ) (span : Span) (r : Recorded Log) → n ≢ 0 → lift (unfilled (Some (ty.Array elem.Bit n)) span) r ≡ Fails span r.log
some_bits zero span r h = absurd (h refl)
some_bits (suc n) span r h = refl
