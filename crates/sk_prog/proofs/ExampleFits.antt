-- The examples of well-formed programs.
use Rattle.std.proofs.Common.{◌≡◌, ℕ, Bool, true, ◌&&◌, List, [], ◌∷◌, None, refl, sym, ap, ◌∙◌, codes}
use Rattle.std.specs.Prelude.{nat_lt}
use Rattle.sk_tree.specs.Spelling.{key_of}
use Rattle.sk_tree.specs.Shapes.{is_letter, is_digit}
use Rattle.sk_prog.specs.declared.stmt.PForm.TheVariants as pform
use Rattle.sk_prog.specs.declared.stmt.PForm.TheOpen as S
use Rattle.sk_prog.specs.declared.stmt.PForm.TheViews.{roll-PForm}
use Rattle.sk_prog.specs.declared.stmt.PForm.TheFolds.{fold-roll-PForm, fold-roll-PStmt}
use Rattle.sk_prog.specs.declared.prog.StructDef.{StructDef}
use Rattle.sk_prog.specs.declared.prog.Prog.{Prog}
use Rattle.sk_prog.specs.Spanless.{no_span}
use Rattle.sk_prog.specs.Fits.{is_name, ty_fits, form_fits, stmt_fits, fun_fits, struct_fits, prog_fits}
use Rattle.sk_prog.specs.Examples.{node, reference, declared, with_function, StructIsThere, StructIsMissing, SlotIsMissing, NameIsKeyword}

declared_fits : (prog : Prog) (slots slot : ℕ) → stmt_fits prog slots (declared slot) ≡ (nat_lt slot slots && (is_name (codes "p") && (ty_fits prog reference && true)))
declared_fits prog slots slot =
    ap (λ f. stmt_fits prog slots (record { span = no_span; form = f })) (sym (pform.rolls-Declare slot (codes "p") reference None))
    ∙ fold-roll-PStmt Bool Bool (form_fits prog slots) (λ s. s.form) (record { span = no_span; form = roll-PForm (S.Declare slot (codes "p") reference None) })
    ∙ fold-roll-PForm Bool Bool (form_fits prog slots) (λ s. s.form) (S.Declare slot (codes "p") reference None)

pub struct_is_there : StructIsThere
unfolding prog_fits key_of is_letter is_digit
struct_is_there = ap (λ b. (b && true) && true) (declared_fits (with_function (node ∷ []) (codes "f") (declared 0 ∷ [])) 1 0)

pub struct_is_missing : StructIsMissing
unfolding prog_fits key_of is_letter is_digit
struct_is_missing = ap (λ b. (b && true) && true) (declared_fits (with_function [] (codes "f") (declared 0 ∷ [])) 1 0)

pub slot_is_missing : SlotIsMissing
unfolding prog_fits key_of is_letter is_digit
slot_is_missing = ap (λ b. (b && true) && true) (declared_fits (with_function (node ∷ []) (codes "f") (declared 1 ∷ [])) 1 1)

pub name_is_keyword : NameIsKeyword
unfolding prog_fits key_of is_letter is_digit
name_is_keyword = refl
