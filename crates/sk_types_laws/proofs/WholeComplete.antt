-- What a whole tree means is what it becomes.
use Rattle.std.proofs.Common.{◌≡◌, ℕ, zero, suc, Bool, true, List, [], ◌∷◌, ◌++◌, Option, Some, None, refl, sym, ap, subst, ◌∙◌}
use Rattle.std.specs.Prelude.{map, IsTrue, slice_get}
use Rattle.sk_base.specs.declared.bounds.Bounds.{Bounds}
use Rattle.sk_tree.specs.declared.expr.Expr.{Expr}
use Rattle.sk_tree.specs.declared.item.TyTree.{TyTree}
use Rattle.sk_tree.specs.declared.item.Field.{Field}
use Rattle.sk_tree.specs.declared.item.Param.{Param}
use Rattle.sk_tree.specs.declared.item.FunItem.{FunItem}
use Rattle.sk_tree.specs.declared.item.Item.{Item}
use Rattle.sk_tree.specs.declared.item.Item.TheVariants as item
use Rattle.sk_tree.specs.declared.item.Tree.{Tree}
use Rattle.sk_prog.specs.declared.ty.Ty.{Ty}
use Rattle.sk_prog.specs.declared.ids.FunId.{FunId}
use Rattle.sk_prog.specs.declared.prog.FieldDef.{FieldDef}
use Rattle.sk_prog.specs.declared.prog.StructDef.{StructDef}
use Rattle.sk_prog.specs.declared.prog.ConstDef.{ConstDef}
use Rattle.sk_prog.specs.declared.prog.ParamDef.{ParamDef}
use Rattle.sk_prog.specs.declared.prog.Fun.{Fun}
use Rattle.sk_prog.specs.declared.prog.Prog.{Prog}
use Rattle.sk_types_rules.specs.Rules.{only_if, int}
use Rattle.sk_types_rules.specs.Scope.{Known, Signature, signature_of, Top, top_of, top_names, Context, all_distinct}
use Rattle.sk_types_rules.specs.Plain.{plain}
use Rattle.sk_types_rules.specs.Types.{ParamsMean, parameters, kind_of, ResultMeans, may_be, ImplementsMeans, FunMeans, StructFieldsMean, StructMeans, ConstMeans, ItemsMean, Types}
use Rattle.sk_types_laws.specs.Envs.{AreDistinct}
use Rattle.sk_types_laws.specs.Whole.{named_top, any_written, fields_of, params_of, struct_of, heading_of, context_in, typed_top, const_of, implements_of, fun_of, bodies_of, prog_of}
use Rattle.sk_types_laws.proofs.Ats.{some_same}
use Rattle.sk_types_laws.proofs.WholeNames.{names_same}
use Rattle.sk_types_laws.specs.LawNames.{Whole, Once}
use Rattle.sk_types_laws.proofs.WholeSound.{typed_same, typed_names, prog_sound}
use Rattle.sk_types_laws.proofs.StepComplete.{value_complete, all_complete}

only_is : {A : Type 0} (b : Bool) (x : A) → b ≡ true → only_if b x ≡ Some x
only_is b x h = rw h refl

module _ (context : Context) where
  fields_are : (ys : List Field) (ds : List FieldDef) → StructFieldsMean context ys ds → fields_of context ys ≡ Some ds
  fields_are [] [] m = refl
  fields_are (y ∷ ys) (d ∷ ds) m = rw (m.1, fields_are ys ds m.2) (λ i. Some (record { name = sym m.0 i; ty = d.ty } ∷ ds))
  fields_are [] (d ∷ ds) m = absurd m
  fields_are (y ∷ ys) [] m = absurd m

  params_are : (ps : List Param) (ds : List ParamDef) → ParamsMean context ps ds → params_of context ps ≡ Some ds
  params_are [] [] m = refl
  params_are (p ∷ ps) (d ∷ ds) m = rw (m.0.type, params_are ps ds m.1) (λ i. Some (record { name = sym m.0.name i; ty = d.ty; by_ref = sym m.0.by_ref i } ∷ ds))
  params_are [] (d ∷ ds) m = absurd m
  params_are (p ∷ ps) [] m = absurd m

  result_is : (y : Option TyTree) (t : Option Ty) → ResultMeans context y t → any_written context y ≡ Some t
  result_is None None m = refl
  result_is (Some y) (Some t) m = rw m refl
  result_is None (Some t) m = absurd m
  result_is (Some y) None m = absurd m

  struct_is : (x : List ℕ) (ys : List Field) (d : StructDef) → StructMeans context x ys d → struct_of context x ys ≡ Some d
  struct_is x ys d m = rw (fields_are ys d.fields m.fields, m.distinct) (λ i. Some (record { name = sym m.name i; fields = d.fields }))

  heading_is : (g : FunItem) (f : Fun) → FunMeans context g f → heading_of context g ≡ Some (signature_of f)
  heading_is g f m =
      let may : may_be (kind_of g.kind) f.params f.result ≡ true = subst (λ k. IsTrue (may_be k f.params f.result)) m.kind m.signature in
      rw (result_is g.result f.result m.result, params_are g.params f.params m.params, may, m.distinct) (λ i. Some (record { name = sym m.name i; kind = sym m.kind i; result = f.result; params = f.params }))

  implements_is : (s : Signature) (x : Option (List ℕ)) (i : Option FunId) → ImplementsMeans context.top s x i → implements_of context.top s x ≡ Some i
  implements_is s None None m = refl
  implements_is s (Some x) (Some f) m = rw (m.0, m.2, m.3) refl
  implements_is s None (Some f) m = absurd m
  implements_is s (Some x) None m = absurd m

  const_is : AreDistinct context.top → (x : List ℕ) (e : Expr) (n : ℕ) (c : ConstDef) → ConstMeans context x e n c → const_of context x e n ≡ Some c
  const_is good x e n c m = rw (value_complete context None good [] int e c.value m.value) (λ i. Some (record { name = sym m.name i; value = c.value; number = sym m.same i }))

  fun_is : AreDistinct context.top → (g : FunItem) (f : Fun) → FunMeans context g f → fun_of context g (signature_of f) ≡ Some f
  fun_is good g f m =
      rw (implements_is (signature_of f) g.implements f.implements m.implements, all_complete context f.result good 0 (parameters f.params) f.body g.body m.body)
      (λ i. Some (record { name = f.name; kind = f.kind; result = f.result; params = f.params; slots = sym m.slots i; implements = f.implements; body = f.body }))

-- Items

abbrev top_in : List StructDef → List ConstDef → List Fun → Top
top_in ds cs fs = record { structs = ds; consts = map (λ (c : ConstDef). c.name) cs; funs = map signature_of fs }

typed_is : (bounds : Bounds) (top : Top) (known : List Known) (is : List Item) (ds : List StructDef) (cs : List ConstDef) (fs : List Fun) → ItemsMean bounds top known is ds cs fs → typed_top bounds top known is ≡ Some (top_in ds cs fs)
typed_is bounds top known [] [] [] [] m = refl
typed_is bounds top known (item.Struct x ys ∷ is) (d ∷ ds) cs fs m = rw (struct_is (context_in bounds top known) x ys d m.0, typed_is bounds top known is ds cs fs m.1) refl
typed_is bounds top known (item.Const x e ∷ is) ds (c ∷ cs) fs m = rw (m.1.number, typed_is bounds top (known ++ record { name = x; number = m.0 } ∷ []) is ds cs fs m.2) (λ i. Some (record { structs = ds; consts = sym m.1.name i ∷ map (λ (c : ConstDef). c.name) cs; funs = map signature_of fs }))
typed_is bounds top known (item.Fun g ∷ is) ds cs (f ∷ fs) m = rw (heading_is (context_in bounds top known) g f m.0, typed_is bounds top known is ds cs fs m.1) refl
typed_is bounds top known [] [] [] (f ∷ fs) m = absurd m
typed_is bounds top known [] [] (c ∷ cs) fs m = absurd m
typed_is bounds top known [] (d ∷ ds) cs fs m = absurd m
typed_is bounds top known (item.Pragma word text ∷ is) ds cs fs m = absurd m
typed_is bounds top known (item.Struct x ys ∷ is) [] cs fs m = absurd m
typed_is bounds top known (item.Const x e ∷ is) ds [] fs m = absurd m
typed_is bounds top known (item.Fun g ∷ is) ds cs [] m = absurd m

bodies_are : (bounds : Bounds) (top : Top) → AreDistinct top → (known : List Known) (is : List Item) (ds : List StructDef) (cs : List ConstDef) (fs : List Fun) → ItemsMean bounds top known is ds cs fs → bodies_of bounds top known is ≡ Some (record { consts = cs; funs = fs })
bodies_are bounds top good known [] [] [] [] m = refl
bodies_are bounds top good known (item.Struct x ys ∷ is) (d ∷ ds) cs fs m = bodies_are bounds top good known is ds cs fs m.1
bodies_are bounds top good known (item.Const x e ∷ is) ds (c ∷ cs) fs m = rw (m.1.number, const_is (context_in bounds top known) good x e m.0 c m.1, bodies_are bounds top good (known ++ record { name = x; number = m.0 } ∷ []) is ds cs fs m.2) refl
bodies_are bounds top good known (item.Fun g ∷ is) ds cs (f ∷ fs) m = rw (heading_is (context_in bounds top known) g f m.0, fun_is (context_in bounds top known) good g f m.0, bodies_are bounds top good known is ds cs fs m.1) refl
bodies_are bounds top good known [] [] [] (f ∷ fs) m = absurd m
bodies_are bounds top good known [] [] (c ∷ cs) fs m = absurd m
bodies_are bounds top good known [] (d ∷ ds) cs fs m = absurd m
bodies_are bounds top good known (item.Pragma word text ∷ is) ds cs fs m = absurd m
bodies_are bounds top good known (item.Struct x ys ∷ is) [] cs fs m = absurd m
bodies_are bounds top good known (item.Const x e ∷ is) ds [] fs m = absurd m
bodies_are bounds top good known (item.Fun g ∷ is) ds cs [] m = absurd m

-- each struct of a program names no field twice
distinct_in : (bounds : Bounds) (top : Top) (known : List Known) (is : List Item) (ds : List StructDef) (cs : List ConstDef) (fs : List Fun) → ItemsMean bounds top known is ds cs fs → (i : ℕ) (d : StructDef) → slice_get ds i ≡ Some d → IsTrue (all_distinct (map (λ (y : FieldDef). y.name) d.fields))
distinct_in bounds top known [] [] [] [] m i d h = cc
distinct_in bounds top known (item.Struct x ys ∷ is) (e ∷ ds) cs fs m zero d h =
    let same : e ≡ d = cc in
    subst (λ (d : StructDef). IsTrue (all_distinct (map (λ (y : FieldDef). y.name) d.fields))) same m.0.distinct
distinct_in bounds top known (item.Struct x ys ∷ is) (e ∷ ds) cs fs m (suc i) d h = distinct_in bounds top known is ds cs fs m.1 i d h
distinct_in bounds top known (item.Const x e ∷ is) ds (c ∷ cs) fs m i d h = distinct_in bounds top (known ++ record { name = x; number = m.0 } ∷ []) is ds cs fs m.2 i d h
distinct_in bounds top known (item.Fun g ∷ is) ds cs (f ∷ fs) m i d h = distinct_in bounds top known is ds cs fs m.1 i d h
distinct_in bounds top known [] [] [] (f ∷ fs) m i d h = absurd m
distinct_in bounds top known [] [] (c ∷ cs) fs m i d h = absurd m
distinct_in bounds top known [] (e ∷ ds) cs fs m i d h = absurd m
distinct_in bounds top known (item.Pragma word text ∷ is) ds cs fs m i d h = absurd m
distinct_in bounds top known (item.Struct x ys ∷ is) [] cs fs m i d h = absurd m
distinct_in bounds top known (item.Const x e ∷ is) ds [] fs m i d h = absurd m
distinct_in bounds top known (item.Fun g ∷ is) ds cs [] m i d h = absurd m

-- What a tree means is what it becomes.
pub prog_complete : (bounds : Bounds) (tree : Tree) (prog : Prog) → Types tree bounds prog → prog_of bounds tree ≡ Some prog
unfolding prog_of
prog_complete bounds tree prog m =
    let is = (plain tree).items in
    let top = top_of prog in
    let good = distinct_in bounds top [] is prog.structs prog.consts prog.funs m.items in
    let typed = typed_is bounds top [] is prog.structs prog.consts prog.funs m.items in
    let names = typed_names bounds top [] is top typed in
    let named : typed_top bounds (named_top is) [] is ≡ Some top = sym (typed_same bounds top (named_top is) names [] is) ∙ typed in
    let distinct : all_distinct (top_names (named_top is)) ≡ true = ap all_distinct (sym (names_same top (named_top is) names)) ∙ m.distinct in
    rw (m.steps, distinct, named, bodies_are bounds top good [] is prog.structs prog.consts prog.funs m.items, m.kept) refl

pub whole : Whole
whole bounds tree prog = (prog_sound bounds tree prog, prog_complete bounds tree prog)

pub once : Once
once bounds tree p q h k = some_same p q (sym (prog_complete bounds tree p h) ∙ prog_complete bounds tree q k)
