-- The sorts of the expressions of the examples.
use Rattle.std.specs.Prelude.{if◌then◌else◌}
use Rattle.std.proofs.Common.{◌≡◌, true, false, List, [], ◌∷◌, Some, None, sym, refl, ap, subst, ◌∙◌, arith}
use Rattle.sk_tree.specs.declared.expr.Expr.{Expr}
use Rattle.sk_prog.specs.declared.ty.Ty.{Ty}
use Rattle.sk_types_rules.specs.declared.rules.Own.TheVariants.{Loose, Firm}
use Rattle.sk_types_rules.specs.declared.rules.Class.TheVariants.{Plus, Bitwise}
use Rattle.sk_tree.specs.declared.token.Mark.TheVariants.{Plus as Sum}
use Rattle.sk_types_rules.specs.Rules.{int, bit, operand, operator_of}
use Rattle.sk_types_rules.specs.Sorts.{Sort, sort, own, firm, keeps, kept, any_binary}
use Rattle.sk_types_rules.specs.Examples.{context, scope, here, bits, a, b, hole, number, of_two, bit_b, integer_b, bits_one}
use Rattle.sk_types_rules.specs.Types.{EFormRule, eform_bare, is_bare, Means}
use Rattle.sk_types_rules.proofs.Layers.{FormMeans, form_means_are, rule, means_from}
use Rattle.sk_types_rules.proofs.Nearest.{lookup_nearest}
use Rattle.sk_tree.specs.declared.expr.EForm.TheFolds.{the_lemmas}
use Rattle.sk_prog.specs.declared.expr.PExpr.{PExpr}
use Rattle.sk_prog.specs.declared.expr.PEForm.{PEForm}
use Rattle.sk_prog.specs.declared.expr.PField.{PField}
use Rattle.sk_prog.specs.declared.expr.PEForm.TheVariants as pform
use Rattle.sk_prog.specs.declared.expr.PEForm.TheOpen as P
use Rattle.sk_prog.specs.declared.expr.PEForm.TheViews.{roll-PEForm}
use Rattle.std.proofs.lemmas.Grind.{common_steps}
use Rattle.sk_types_rules.proofs.SortLaws.{sort_number, sort_word, sort_hole, sort_binary}

sort_a : sort context scope a ≡ firm int true
sort_a = sort_word context scope here _

sort_b : sort context scope b ≡ firm bit true
sort_b = sort_word context scope here _

own_b : own context scope b ≡ Firm bit
own_b = ap (λ (s : Sort). s.own) sort_b

own_hole : own context scope hole ≡ Loose
own_hole = ap (λ (s : Sort). s.own) (sort_hole context scope here None)

pub sum_is : operand Plus (own context scope b) (own context scope hole) ≡ Firm int
sum_is = λ i. operand Plus (own_b i) (own_hole i)

pub meet_is : operand Bitwise (own context scope b) (own context scope hole) ≡ Firm bit
meet_is = λ i. operand Bitwise (own_b i) (own_hole i)

pub whole_is : own context scope (of_two Sum b hole) ≡ Firm int
whole_is = ap (λ (s : Sort). s.own) (sort_binary context scope here Sum b hole ∙ (λ i. any_binary (operator_of Sum) (sort_b i) (sort_hole context scope here None i)))

pub one_fits : (sort context scope (number 1)).at (bits 8) ≡ true
one_fits = ap (λ (s : Sort). s.at (bits 8)) (sort_number context scope here 1)

pub two_does_not : (sort context scope (number 2)).at (bits 8) ≡ false
two_does_not = ap (λ (s : Sort). s.at (bits 8)) (sort_number context scope here 2)

-- what is kept, from whether the first string is
one_kept : (t : Ty) (e : Expr) (es : List Expr) (s : Sort) → sort context scope e ≡ s → kept context scope t (e ∷ es) ≡ (if keeps s t then e ∷ kept context scope t es else kept context scope t es)
one_kept t e es s is = λ i. if keeps (is i) t then e ∷ kept context scope t es else kept context scope t es

kept_b : kept context scope int (b ∷ []) ≡ []
kept_b = one_kept int b [] _ sort_b

pub kept_integer : kept context scope int (a ∷ b ∷ []) ≡ a ∷ []
kept_integer = one_kept int a (b ∷ []) _ sort_a ∙ ap (λ es. a ∷ es) kept_b

kept_bit_b : kept context scope bit (b ∷ []) ≡ b ∷ []
kept_bit_b = one_kept bit b [] _ sort_b

pub kept_bit : kept context scope bit (a ∷ b ∷ []) ≡ b ∷ []
kept_bit = one_kept bit a (b ∷ []) _ sort_a ∙ kept_bit_b

pub kept_loose : kept context scope bit (a ∷ hole ∷ b ∷ []) ≡ hole ∷ b ∷ []
kept_loose = one_kept bit a (hole ∷ b ∷ []) _ sort_a ∙ one_kept bit hole (b ∷ []) _ (sort_hole context scope here None) ∙ ap (λ es. hole ∷ es) kept_bit_b

-- Coercions

by_rule : (p : PExpr) (e : Expr) (l : P.PEForm-F PEForm PExpr PField) → p.span ≡ e.span → roll-PEForm l ≡ p.form → rule context scope l p.ty e → Means context scope p e
by_rule p e l at rolls r = means_from context scope p e at (subst (λ f. FormMeans context scope f p.ty e) rolls (subst (λ (M : EFormRule). M p.ty e) (sym (form_means_are context scope l)) r))

means_b : Means context scope bit_b b
means_b = by_rule bit_b b (P.Var 1 _) refl (pform.rolls-Var 1 _) (refl, bit, refl, lookup_nearest scope _ (record { slot = 1; ty = bit }) refl)

bare_b : is_bare b ≡ true
bare_b = grind (arith, common_steps, the_lemmas)

pub widened_b : Means context scope integer_b b
widened_b = by_rule integer_b b (P.ToInt bit_b) refl (pform.rolls-ToInt bit_b) (means_b, bare_b, record { own = own_b; operand = refl; result = refl })

pub padded_one : Means context scope bits_one (number 1)
padded_one = by_rule bits_one (number 1) (P.Number 1) refl (pform.rolls-Number 1) (refl, refl, refl)
