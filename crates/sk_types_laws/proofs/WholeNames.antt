-- Types that are written depend on the names at the top alone.
use Rattle.std.proofs.Common.{◌≡◌, ℕ, List, [], ◌∷◌, ◌++◌, Option, Some, None, refl, ap, ◌∙◌}
use Rattle.std.specs.Prelude.{ℤ, map}
use Rattle.sk_base.specs.declared.bounds.Bounds.{Bounds}
use Rattle.sk_tree.specs.declared.expr.Expr.{Expr}
use Rattle.sk_tree.specs.declared.expr.EForm.TheOpen as E
use Rattle.sk_tree.specs.declared.expr.EForm.TheFolds.{fold-Expr}
use Rattle.sk_tree.specs.declared.item.Base.{Base}
use Rattle.sk_tree.specs.declared.item.Base.TheVariants as base
use Rattle.sk_tree.specs.declared.item.TyTree.{TyTree}
use Rattle.sk_prog.specs.declared.ty.Elem.{Elem}
use Rattle.sk_prog.specs.declared.ty.Elem.TheVariants as elem
use Rattle.sk_prog.specs.declared.prog.StructDef.{StructDef}
use Rattle.sk_types_rules.specs.Rules.{◌>>=◌}
use Rattle.sk_types_rules.specs.Scope.{Known, Signature, Top, Context, struct_or, constant_or, function_or, place_of, top_meaning, top_names}
use Rattle.sk_types_rules.specs.Constants.{eform_number, natural, constant_number}
use Rattle.sk_types_rules.specs.Sorts.{base_elem, with_lengths, written_type, struct_meant}
use Rattle.sk_types_laws.specs.Whole.{context_in}

-- two tops with the same names
pub record SameNames (a b : Top) : Type 0 where
  pub structs : map (λ (d : StructDef). d.name) a.structs ≡ map (λ (d : StructDef). d.name) b.structs
  pub consts : a.consts ≡ b.consts
  pub funs : map (λ (s : Signature). s.name) a.funs ≡ map (λ (s : Signature). s.name) b.funs

pub names_same : (a b : Top) → SameNames a b → top_names a ≡ top_names b
names_same a b n = λ i. n.structs i ++ (n.consts i ++ n.funs i)

pub meaning_same : (a b : Top) → SameNames a b → (x : List ℕ) → top_meaning a x ≡ top_meaning b x
meaning_same a b n x = λ i. struct_or (place_of (n.structs i) x) (constant_or (place_of (n.consts i) x) (function_or (place_of (n.funs i) x)))

module _ (bounds : Bounds) (known : List Known) (a b : Top) (n : SameNames a b) where
  abbrev first : Context
  first = context_in bounds a known

  abbrev second : Context
  second = context_in bounds b known

  step_same : (l : E.EForm-F (Option ℤ) (Option ℤ) (Unit {0})) → eform_number first [] l ≡ eform_number second [] l
  step_same (E.Number n) = refl
  step_same (E.Word x) = refl
  step_same _ = refl

  pub number_same : (e : Expr) → constant_number first [] e ≡ constant_number second [] e
  number_same e = ap (λ (step : E.EForm-F (Option ℤ) (Option ℤ) (Unit {0}) → Option ℤ). fold-Expr (Option ℤ) (Option ℤ) (Unit {0}) step (λ x. x.form) (λ x. tt) e >>= natural bounds) (λ i l. step_same l i)

  numbers_same : (es : List Expr) → map (constant_number first []) es ≡ map (constant_number second []) es
  numbers_same [] = refl
  numbers_same (e ∷ es) = λ i. number_same e i ∷ numbers_same es i

  base_same : (y : Base) → base_elem first [] y ≡ base_elem second [] y
  base_same base.Int = refl
  base_same base.Bit = refl
  base_same (base.Named x) = ap (λ m. struct_meant m >>= λ s. Some (elem.Reference s)) (meaning_same a b n x)

  lengths_same : (e : Elem) (ls : List (Option ℕ)) → with_lengths first [] e ls ≡ with_lengths second [] e ls
  lengths_same e [] = refl
  lengths_same e (None ∷ ls) = refl
  lengths_same e (Some n ∷ []) = refl
  lengths_same e (Some n ∷ None ∷ ls) = refl
  lengths_same e (Some n ∷ Some m ∷ []) = refl
  lengths_same e (Some n ∷ Some m ∷ k ∷ ls) = refl

  pub written_same : (y : TyTree) → written_type first [] y ≡ written_type second [] y
  written_same y = (λ i. base_same y.base i >>= λ e. with_lengths first [] e (numbers_same y.lengths i)) ∙ go (base_elem second [] y.base)
    where
      go : (o : Option Elem) → (o >>= λ e. with_lengths first [] e (map (constant_number second []) y.lengths)) ≡ (o >>= λ e. with_lengths second [] e (map (constant_number second []) y.lengths))
      go None = refl
      go (Some e) = lengths_same e (map (constant_number second []) y.lengths)
