-- Lists of kinds that are written one after another, with the same kinds between two; and parts of expressions.
use Rattle.std.specs.Prelude.{ℕ, Bool, true, false, List, [], ◌++◌, Option, Some, None}
use Rattle.sk_tree.specs.declared.token.Mark.TheVariants as mark
use Rattle.sk_tree.specs.declared.token.Key.TheVariants as key
use Rattle.sk_tree.specs.declared.expr.Expr.{Expr}
use Rattle.sk_tree.specs.declared.expr.NewField.{NewField}
use Rattle.sk_tree.specs.declared.expr.EForm.TheFolds.{fold-NewField}
use Rattle.sk_tree.specs.Spelt.{Role, InBlock, AsBody, AsFirst, AsNext}
use Rattle.sk_tree.specs.Spell.{Kinds, sign, keyword, word, number, between, behind, spell_eform, spell_new_field, spell_expr}
use Rattle.sk_tree_spell.specs.declared.stmt.Place.{Place}
use Rattle.sk_tree_spell.specs.declared.stmt.Place.TheVariants as place

-- what stands before one: nothing before the first
abbrev pub gap : Bool → Kinds → Kinds
gap true by = []
gap false by = by

-- those that are left, where the next is the first, and where it is not
abbrev pub separated : Bool → Kinds → List Kinds → Kinds
separated true by kss = between by kss
separated false by kss = behind by kss

-- a hole, with its width where it has one
abbrev pub hole_kinds : Option ℕ → Kinds
hole_kinds None = sign mark.Hole
hole_kinds (Some n) = sign mark.Hole ++ sign mark.OpenParen ++ number n ++ sign mark.CloseParen

-- a field that `new` sets
abbrev pub spell_set : NewField → Kinds
spell_set = fold-NewField Kinds Kinds Kinds spell_eform (λ x. x.form) spell_new_field

-- the role of a statement in its place
abbrev pub role_of : Place → Role
role_of place.Block = InBlock
role_of place.Body = AsBody
role_of place.First = AsFirst
role_of place.Next = AsNext

-- the value of a declared name
abbrev pub spell_value : Expr → Kinds
spell_value value = sign mark.Assign ++ spell_expr value

-- what stands behind the body of an `if`
abbrev pub spell_other : (Role → Kinds) → Kinds
spell_other other = keyword key.Else ++ other AsBody

-- the name that a function implements
abbrev pub spell_implements : List ℕ → Kinds
spell_implements g = keyword key.Implements ++ word g
