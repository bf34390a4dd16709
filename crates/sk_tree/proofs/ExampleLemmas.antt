-- What the definitions compute on the trees of the examples.
use Rattle.std.proofs.Common.{◌≡◌, Bool, true, false, refl, ap, ◌∙◌, [], ◌∷◌, Some, None, codes}
use Rattle.sk_tree.specs.declared.token.Kind.TheVariants as kind
use Rattle.sk_tree.specs.declared.expr.EForm.TheVariants as eform
use Rattle.sk_tree.specs.declared.stmt.Form.TheVariants as form
use Rattle.sk_tree.specs.Placed.{Place, eform_place, expr_place, field_placed, Stand, closed, if_stand, form_stand, stand_of, stmt_placed, expr_placed}
use Rattle.sk_tree.specs.Spelt.{Role}
use Rattle.sk_tree.specs.Spell.{Kinds, spell_eform, spell_new_field, spell_expr, spell_form, spell}
use Rattle.sk_tree.specs.Examples.{nowhere, expr, stmt, a, b, number, empty, dangling, nearest, loop, loop_kinds}
use Rattle.sk_tree.proofs.Folds.{of_word, of_number, of_binary, of_empty, of_assign, of_step, of_if, of_if_else, of_for}

-- where statements stand

a_placed : expr_placed a ≡ true
a_placed = ap (λ (p : Place). p.placed) (of_word Place Place Bool eform_place expr_place field_placed nowhere (codes "a"))

b_placed : expr_placed b ≡ true
b_placed = ap (λ (p : Place). p.placed) (of_word Place Place Bool eform_place expr_place field_placed nowhere (codes "b"))

empty_stands : stand_of empty ≡ closed true
empty_stands = of_empty Stand Stand form_stand (λ s. s.form) nowhere

with_else : stand_of (stmt (form.If b empty (Some empty))) ≡ closed true
with_else = of_if_else Stand Stand form_stand (λ s. s.form) nowhere b empty empty ∙ rest
  where
    rest : if_stand (expr_placed b) (stand_of empty) (Some (stand_of empty)) ≡ closed true
    rest = rw (b_placed, empty_stands) refl

without_else : stand_of (stmt (form.If b empty None)) ≡ record { placed = true; takes_else = true }
without_else = of_if Stand Stand form_stand (λ s. s.form) nowhere b empty ∙ rest
  where
    rest : if_stand (expr_placed b) (stand_of empty) None ≡ record { placed = true; takes_else = true }
    rest = rw (b_placed, empty_stands) refl

pub nearest_stands : stmt_placed nearest ≡ true
nearest_stands = ap (λ (s : Stand). s.placed) (of_if Stand Stand form_stand (λ s. s.form) nowhere a (stmt (form.If b empty (Some empty)))) ∙ rest
  where
    rest : (if_stand (expr_placed a) (stand_of (stmt (form.If b empty (Some empty)))) None).placed ≡ true
    rest = rw (a_placed, with_else) refl

pub dangling_stands : stmt_placed dangling ≡ false
dangling_stands = ap (λ (s : Stand). s.placed) (of_if_else Stand Stand form_stand (λ s. s.form) nowhere a (stmt (form.If b empty None)) empty) ∙ rest
  where
    rest : (if_stand (expr_placed a) (stand_of (stmt (form.If b empty None))) (Some (stand_of empty))).placed ≡ false
    rest = rw (a_placed, without_else) refl

-- what a loop spells

word_spells : (x : _) → spell_expr (expr (eform.Word x)) ≡ kind.Word x ∷ []
word_spells x = of_word Kinds Kinds Kinds spell_eform (λ x. x.form) spell_new_field nowhere x

number_spells : (n : _) → spell_expr (number n) ≡ kind.Number n ∷ []
number_spells n = of_number Kinds Kinds Kinds spell_eform (λ x. x.form) spell_new_field nowhere n

abbrev Spells : Type 0
Spells = Role → Kinds

pub loop_spells : spell loop ≡ loop_kinds
loop_spells = rw (of_for Spells Spells spell_form (λ s. s.form), of_assign Spells Spells spell_form (λ s. s.form), of_step Spells Spells spell_form (λ s. s.form), of_empty Spells Spells spell_form (λ s. s.form), of_binary Kinds Kinds Kinds spell_eform (λ x. x.form) spell_new_field, number_spells 0, number_spells 3, word_spells (codes "i")) refl
