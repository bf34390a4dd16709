-- An operator between two operands, with a space on each side, tells its mark.
use Rattle.std.proofs.Common.{ℕ, List, ◌∷◌, ◌++◌, refl, sym, ap, append_assoc, codes}
use Rattle.sk_tree.specs.declared.token.Mark.TheVariants as mark
use Rattle.sk_tree.specs.Spelling.{single_mark, double_mark}
use Rattle.sk_tree.specs.Shapes.{is_blank, is_letter, is_digit, shape_of}
use Rattle.sk_tree.specs.Spell.{Kinds, ◌▹◌, sign}
use Rattle.sk_prog.specs.declared.expr.BinOp.{BinOp}
use Rattle.sk_prog.specs.declared.expr.BinOp.TheVariants as op
use Rattle.sk_types_rules.specs.Erase.{mark_of}
use Rattle.sk_print.specs.Layout.{op_layout}
use Rattle.sk_print.proofs.Lexed.{lex_blank, lex_slash}
use Rattle.sk_print_laws.proofs.Told.{Free, Told, then, then_told, told_same, space, spaced, one_at, two}

slash : Free (codes "/ ") (sign mark.Slash)
unfolding is_blank
slash = record { told = λ text more l. lex_slash (32 ∷ text) more refl (lex_blank 32 text more refl l) }

-- the operator, with the space behind it
marked : (o : BinOp) → Free (op_layout o ++ codes " ") (sign (mark_of o))
unfolding shape_of is_blank is_letter is_digit single_mark double_mark op_layout
marked op.Mul = one_at 42 32 mark.Star (λ xs. refl) refl refl refl refl
marked op.Div = slash
marked op.Rem = one_at 37 32 mark.Percent (λ xs. refl) refl refl refl refl
marked op.Add = one_at 43 32 mark.Plus (λ xs. refl) refl refl refl refl
marked op.Sub = one_at 45 32 mark.Minus (λ xs. refl) refl refl refl refl
marked op.Shl = then (two 60 60 mark.ShiftLeft (λ xs. refl) refl refl) space
marked op.Shr = then (two 62 62 mark.ShiftRight (λ xs. refl) refl refl) space
marked op.Lt = one_at 60 32 mark.Less (λ xs. refl) refl refl refl refl
marked op.Le = then (two 60 61 mark.AtMost (λ xs. refl) refl refl) space
marked op.Gt = one_at 62 32 mark.Greater (λ xs. refl) refl refl refl refl
marked op.Ge = then (two 62 61 mark.AtLeast (λ xs. refl) refl refl) space
marked op.Eq = then (two 61 61 mark.Equal (λ xs. refl) refl refl) space
marked op.Ne = then (two 33 61 mark.NotEqual (λ xs. refl) refl refl) space
marked op.And = one_at 38 32 mark.Ampersand (λ xs. refl) refl refl refl refl
marked op.Xor = one_at 94 32 mark.Caret (λ xs. refl) refl refl refl refl
marked op.Or = one_at 124 32 mark.Bar (λ xs. refl) refl refl refl refl
marked op.AndThen = then (two 38 38 mark.AndThen (λ xs. refl) refl refl) space
marked op.OrElse = then (two 124 124 mark.OrElse (λ xs. refl) refl refl) space

-- in front of its second operand
pub operator : (o : BinOp) {b : List ℕ} {ks : Kinds} → Told b ks → Told (codes " " ++ (op_layout o ++ (codes " " ++ b))) (sign (mark_of o) ▹ ks)
operator o {b} {ks} f = go (op_layout o) (marked o)
  where
    go : (bs : List ℕ) → Free (bs ++ codes " ") (sign (mark_of o)) → Told (codes " " ++ (bs ++ (codes " " ++ b))) (sign (mark_of o) ▹ ks)
    go bs m = told_same (ap (λ z. 32 ∷ z) (sym (append_assoc bs (codes " ") b))) refl (then_told (spaced m) f)
