-- What a tree means is well-formed.
use Rattle.std.proofs.Common.{◌≡◌, ℕ, ◌≤◌, true, List, [], ◌∷◌, ◌++◌, length, Option, Some, None, refl, sym, ap, subst, ◌∙◌, arith}
use Rattle.std.specs.Prelude.{◌&&◌, map}
use Rattle.std.specs.List.{list_all}
use Rattle.std.proofs.lemmas.Bool.{le-leb}
use Rattle.std.proofs.lemmas.List.{length-map}
use Rattle.sk_base.specs.declared.bounds.Bounds.{Bounds}
use Rattle.sk_tree.specs.declared.expr.Expr.{Expr}
use Rattle.sk_tree.specs.declared.item.TyTree.{TyTree}
use Rattle.sk_tree.specs.declared.item.Field.{Field}
use Rattle.sk_tree.specs.declared.item.Param.{Param}
use Rattle.sk_tree.specs.declared.item.FunItem.{FunItem}
use Rattle.sk_tree.specs.declared.item.Item.{Item}
use Rattle.sk_tree.specs.declared.item.Item.TheVariants as item
use Rattle.sk_tree.specs.Names.{field_names, param_names, any_name, any_ty_names, item_names, ty_names}
use Rattle.sk_prog.specs.declared.ty.Ty.{Ty}
use Rattle.sk_prog.specs.declared.ids.FunId.{FunId}
use Rattle.sk_prog.specs.declared.prog.FieldDef.{FieldDef}
use Rattle.sk_prog.specs.declared.prog.StructDef.{StructDef}
use Rattle.sk_prog.specs.declared.prog.ConstDef.{ConstDef}
use Rattle.sk_prog.specs.declared.prog.ParamDef.{ParamDef}
use Rattle.sk_prog.specs.declared.prog.Fun.{Fun}
use Rattle.sk_prog.specs.declared.prog.Prog.{Prog}
use Rattle.sk_prog.specs.Fits.{is_name, any_ty_fits, field_fits, struct_fits, const_fits, param_fits, implements_fits, fun_fits, prog_fits}
use Rattle.sk_types_rules.specs.Scope.{Known, Signature, signature_of, Context}
use Rattle.sk_types_rules.specs.Plain.{plain}
use Rattle.sk_types_rules.specs.Types.{ParamsMean, variable_of, parameters, ResultMeans, ImplementsMeans, FunMeans, StructFieldsMean, StructMeans, ConstMeans, ItemsMean, room, most}
use Rattle.sk_types_laws.proofs.Ats.{both_true, both}
use Rattle.sk_types_fit_laws.specs.LawNames.{WellFormed}
use Rattle.sk_types_fit_laws.proofs.Found.{top, fun_there, written_fits}
use Rattle.sk_types_fit_laws.proofs.Owns.{TopFits, field_fit, struct_fit, param_fit, signature_fit, variable_fit}
use Rattle.sk_types_fit_laws.proofs.Exprs.{named, fit}
use Rattle.sk_types_fit_laws.proofs.Stmts.{stmt_named, most_grows, body_fits}
use Rattle.sk_types_fit_laws.proofs.PlainNames.{items_keep}

module _ (prog : Prog) (bounds : Bounds) where
  abbrev context : List Known → Context
  context known = record { bounds = bounds; top = top prog; known = known }

  -- Types at the top

  fields_there : (known : List Known) (ys : List Field) (ds : List FieldDef) → StructFieldsMean (context known) ys ds → list_all (field_fit prog) ds ≡ true
  fields_there known [] [] m = refl
  fields_there known (y ∷ ys) (d ∷ ds) m = both _ _ (written_fits prog (context known) refl [] y.ty d.ty m.1) (fields_there known ys ds m.2)
  fields_there known [] (d ∷ ds) m = absurd m
  fields_there known (y ∷ ys) [] m = absurd m

  params_there : (known : List Known) (ps : List Param) (ds : List ParamDef) → ParamsMean (context known) ps ds → list_all (param_fit prog) ds ≡ true
  params_there known [] [] m = refl
  params_there known (p ∷ ps) (d ∷ ds) m = both _ _ (written_fits prog (context known) refl [] p.ty d.ty m.0.type) (params_there known ps ds m.1)
  params_there known [] (d ∷ ds) m = absurd m
  params_there known (p ∷ ps) [] m = absurd m

  result_there : (known : List Known) (y : Option TyTree) (t : Option Ty) → ResultMeans (context known) y t → any_ty_fits prog t ≡ true
  result_there known None None m = refl
  result_there known (Some y) (Some t) m = written_fits prog (context known) refl [] y t m
  result_there known None (Some t) m = absurd m
  result_there known (Some y) None m = absurd m

  abbrev TypesThere : List StructDef → List Fun → Type 0
  TypesThere ds fs = (list_all (struct_fit prog) ds ≡ true) × (list_all (signature_fit prog) (map signature_of fs) ≡ true)

  types_there : (known : List Known) (is : List Item) (ds : List StructDef) (cs : List ConstDef) (fs : List Fun) → ItemsMean bounds (top prog) known is ds cs fs → TypesThere ds fs
  types_there known [] [] [] [] m = (refl, refl)
  types_there known (item.Struct x ys ∷ is) (d ∷ ds) cs fs m =
      let rest = types_there known is ds cs fs m.1 in
      (both _ _ (fields_there known ys d.fields m.0.fields) rest.0, rest.1)
  types_there known (item.Const x e ∷ is) ds (c ∷ cs) fs m = types_there (known ++ record { name = x; number = m.0 } ∷ []) is ds cs fs m.2
  types_there known (item.Fun g ∷ is) ds cs (f ∷ fs) m =
      let rest = types_there known is ds cs fs m.1 in
      (rest.0, both _ _ (both _ _ (result_there known g.result f.result m.0.result) (params_there known g.params f.params m.0.params)) rest.1)
  types_there known [] [] [] (f ∷ fs) m = absurd m
  types_there known [] [] (c ∷ cs) fs m = absurd m
  types_there known [] (d ∷ ds) cs fs m = absurd m
  types_there known (item.Pragma word text ∷ is) ds cs fs m = absurd m
  types_there known (item.Struct x ys ∷ is) [] cs fs m = absurd m
  types_there known (item.Const x e ∷ is) ds [] fs m = absurd m
  types_there known (item.Fun g ∷ is) ds cs [] m = absurd m

  -- Items

  module _ (good : TopFits prog) where
    fields_named : (known : List Known) (ys : List Field) (ds : List FieldDef) → StructFieldsMean (context known) ys ds → list_all (field_names is_name) ys ≡ true → list_all (field_fits prog) ds ≡ true
    fields_named known [] [] m n = refl
    fields_named known (y ∷ ys) (d ∷ ds) m n =
        let k = both_true (field_names is_name y) (list_all (field_names is_name) ys) n in
        let j = both_true (ty_names is_name y.ty) (is_name y.name) k.0 in
        both _ _ (both _ _ (ap is_name m.0 ∙ j.1) (written_fits prog (context known) refl [] y.ty d.ty m.1)) (fields_named known ys ds m.2 k.1)
    fields_named known [] (d ∷ ds) m n = absurd m
    fields_named known (y ∷ ys) [] m n = absurd m

    params_named : (known : List Known) (ps : List Param) (ds : List ParamDef) → ParamsMean (context known) ps ds → list_all (param_names is_name) ps ≡ true → list_all (param_fits prog) ds ≡ true
    params_named known [] [] m n = refl
    params_named known (p ∷ ps) (d ∷ ds) m n =
        let k = both_true (param_names is_name p) (list_all (param_names is_name) ps) n in
        let j = both_true (ty_names is_name p.ty) (is_name p.name) k.0 in
        both _ _ (both _ _ (ap is_name m.0.name ∙ j.1) (written_fits prog (context known) refl [] p.ty d.ty m.0.type)) (params_named known ps ds m.1 k.1)
    params_named known [] (d ∷ ds) m n = absurd m
    params_named known (p ∷ ps) [] m n = absurd m

    variables_there : (ds : List ParamDef) → list_all (param_fit prog) ds ≡ true → list_all (variable_fit prog) (parameters ds) ≡ true
    variables_there [] h = refl
    variables_there (d ∷ ds) h = let k = both_true (param_fit prog d) (list_all (param_fit prog) ds) h in both _ _ k.0 (variables_there ds k.1)

    implements_there : (s : Signature) (x : Option (List ℕ)) (i : Option FunId) → ImplementsMeans (top prog) s x i → implements_fits prog i ≡ true
    implements_there s None None m = refl
    implements_there s (Some x) (Some i) m = fun_there prog i m.1 m.2
    implements_there s None (Some i) m = absurd m
    implements_there s (Some x) None m = absurd m

    struct_named : (known : List Known) (x : List ℕ) (ys : List Field) (d : StructDef) → StructMeans (context known) x ys d → item_names is_name (item.Struct x ys) ≡ true → struct_fits prog d ≡ true
    struct_named known x ys d m n = let k = both_true (is_name x) (list_all (field_names is_name) ys) n in both _ _ (ap is_name m.name ∙ k.0) (fields_named known ys d.fields m.fields k.1)

    const_named : (known : List Known) (x : List ℕ) (e : Expr) (i : ℕ) (c : ConstDef) → ConstMeans (context known) x e i c → item_names is_name (item.Const x e) ≡ true → const_fits prog c ≡ true
    const_named known x e i c m n =
        let k = both_true (is_name x) (named e) n in
        both _ _ (ap is_name m.name ∙ k.0) (fit prog good bounds known [] refl 0 (omega arith) c.value e m.value.means (ap (any_ty_fits prog) m.value.type) k.1)

    fun_named : (known : List Known) (g : FunItem) (f : Fun) → FunMeans (context known) g f → item_names is_name (item.Fun g) ≡ true → fun_fits prog f ≡ true
    fun_named known g f m n =
        let result = both_true (any_ty_names is_name g.result) (is_name g.name && (list_all (param_names is_name) g.params && (any_name is_name g.implements && list_all stmt_named g.body))) n in
        let name = both_true (is_name g.name) (list_all (param_names is_name) g.params && (any_name is_name g.implements && list_all stmt_named g.body)) result.1 in
        let params = both_true (list_all (param_names is_name) g.params) (any_name is_name g.implements && list_all stmt_named g.body) name.1 in
        let implements = both_true (any_name is_name g.implements) (list_all stmt_named g.body) params.1 in
        let returns = result_there known g.result f.result m.result in
        let vars = variables_there f.params (params_there known g.params f.params m.params) in
        let count : length (parameters f.params) ≡ length f.params = length-map f.params variable_of in
        let grows = most_grows (map room f.body) (length f.params) in
        let slots = m.slots in
        let room_is : length f.params ≤ f.slots = omega (arith, grows, slots) in
        let now : length (parameters f.params) ≤ f.slots = omega (arith, count, room_is) in
        let most : most f.body (length (parameters f.params)) ≤ f.slots = subst (λ n. most f.body n ≤ f.slots) (sym count) (omega (arith, slots)) in
        both _ _ (ap is_name m.name ∙ name.0) (both _ _ returns (both _ _ (params_named known g.params f.params m.params params.0)
        (both _ _ (le-leb (length f.params) f.slots room_is) (both _ _ (implements_there (signature_of f) g.implements f.implements m.implements)
        (body_fits prog good bounds known f.result returns f.slots 0 (parameters f.params) f.body g.body m.body vars now most implements.1)))))

    pub record ItemsFit (ds : List StructDef) (cs : List ConstDef) (fs : List Fun) : Type 0 where
      pub structs : list_all (struct_fits prog) ds ≡ true
      pub consts : list_all (const_fits prog) cs ≡ true
      pub funs : list_all (fun_fits prog) fs ≡ true

    items_fit : (known : List Known) (is : List Item) (ds : List StructDef) (cs : List ConstDef) (fs : List Fun) → ItemsMean bounds (top prog) known is ds cs fs → list_all (item_names is_name) is ≡ true → ItemsFit ds cs fs
    items_fit known [] [] [] [] m n = record { structs = refl; consts = refl; funs = refl }
    items_fit known (item.Struct x ys ∷ is) (d ∷ ds) cs fs m n =
        let k = both_true (item_names is_name (item.Struct x ys)) (list_all (item_names is_name) is) n in
        let rest = items_fit known is ds cs fs m.1 k.1 in
        record { structs = both _ _ (struct_named known x ys d m.0 k.0) rest.structs; consts = rest.consts; funs = rest.funs }
    items_fit known (item.Const x e ∷ is) ds (c ∷ cs) fs m n =
        let k = both_true (item_names is_name (item.Const x e)) (list_all (item_names is_name) is) n in
        let rest = items_fit (known ++ record { name = x; number = m.0 } ∷ []) is ds cs fs m.2 k.1 in
        record { structs = rest.structs; consts = both _ _ (const_named known x e m.0 c m.1 k.0) rest.consts; funs = rest.funs }
    items_fit known (item.Fun g ∷ is) ds cs (f ∷ fs) m n =
        let k = both_true (item_names is_name (item.Fun g)) (list_all (item_names is_name) is) n in
        let rest = items_fit known is ds cs fs m.1 k.1 in
        record { structs = rest.structs; consts = rest.consts; funs = both _ _ (fun_named known g f m.0 k.0) rest.funs }
    items_fit known [] [] [] (f ∷ fs) m n = absurd m
    items_fit known [] [] (c ∷ cs) fs m n = absurd m
    items_fit known [] (d ∷ ds) cs fs m n = absurd m
    items_fit known (item.Pragma word text ∷ is) ds cs fs m n = absurd m
    items_fit known (item.Struct x ys ∷ is) [] cs fs m n = absurd m
    items_fit known (item.Const x e ∷ is) ds [] fs m n = absurd m
    items_fit known (item.Fun g ∷ is) ds cs [] m n = absurd m

pub well_formed : WellFormed
unfolding prog_fits
well_formed bounds tree prog n m =
    let t = types_there prog bounds [] (plain tree).items prog.structs prog.consts prog.funs m.items in
    let good : TopFits prog = record { structs = t.0; funs = t.1 } in
    let f = items_fit prog bounds good [] (plain tree).items prog.structs prog.consts prog.funs m.items (items_keep tree.items n) in
    both _ _ f.structs (both _ _ f.consts f.funs)
