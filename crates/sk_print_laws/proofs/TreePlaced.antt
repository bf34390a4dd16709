-- What a placed tree means is printed as a placed tree.
use Rattle.std.proofs.Common.{◌≡◌, ℕ, Bool, true, List, [], ◌∷◌, ◌++◌, Option, Some, None, refl, sym, ap, subst, ◌∙◌}
use Rattle.std.specs.Prelude.{◌&&◌, map}
use Rattle.std.specs.List.{list_all}
use Rattle.std.proofs.lemmas.List.Folds.{list_all-append}
use Rattle.sk_base.specs.declared.bounds.Bounds.{Bounds}
use Rattle.sk_tree.specs.declared.item.Item.{Item}
use Rattle.sk_tree.specs.declared.item.Item.TheVariants as item
use Rattle.sk_tree.specs.declared.item.Field.{Field}
use Rattle.sk_tree.specs.Placed.{stmt_placed, any_ty_placed, param_placed, struct_field_placed, item_placed}
use Rattle.sk_prog.specs.declared.ty.Ty.{Ty}
use Rattle.sk_prog.specs.declared.prog.FieldDef.{FieldDef}
use Rattle.sk_prog.specs.declared.prog.StructDef.{StructDef}
use Rattle.sk_prog.specs.declared.prog.ConstDef.{ConstDef}
use Rattle.sk_prog.specs.declared.prog.ParamDef.{ParamDef}
use Rattle.sk_prog.specs.declared.prog.Fun.{Fun}
use Rattle.sk_prog.specs.declared.prog.Prog.{Prog}
use Rattle.sk_types_rules.specs.Erase.{erase_ty, erase_any_ty, erase_struct, erase_param}
use Rattle.sk_types_rules.specs.Scope.{Known, Context, top_of}
use Rattle.sk_types_rules.specs.Plain.{plain}
use Rattle.sk_types_rules.specs.Types.{parameters, FunMeans, ItemsMean}
use Rattle.sk_types_laws.proofs.Ats.{both_true, both}
use Rattle.sk_print_laws.specs.PlacedAgain.{TreesPlaced}
use Rattle.sk_print_laws.specs.Printed.{printed_const, printed_fun, printed}
use Rattle.sk_print_laws.proofs.PlacedAgain.{placed_again}
use Rattle.sk_print_laws.proofs.HeldPlain.{stmt_held, item_held, items_held}
use Rattle.sk_print_laws.proofs.StmtsPlaced.{ty_fine, body_fine}

abbrev AllPlaced : List Item → Type 0
AllPlaced is = list_all item_placed is ≡ true

both_placed : (is js : List Item) → AllPlaced is → AllPlaced js → AllPlaced (is ++ js)
both_placed is js h k = list_all-append item_placed is js ∙ both _ _ h k

module _ (prog : Prog) (bounds : Bounds) where
  fields_placed : (ds : List FieldDef) → list_all struct_field_placed (map (λ (f : FieldDef). record { ty = erase_ty prog f.ty; name = f.name }) ds) ≡ true
  fields_placed [] = refl
  fields_placed (d ∷ ds) = both _ _ (ty_fine prog d.ty) (fields_placed ds)

  structs_placed : (ds : List StructDef) → AllPlaced (map (erase_struct prog) ds)
  structs_placed [] = refl
  structs_placed (d ∷ ds) = both _ _ (fields_placed d.fields) (structs_placed ds)

  any_ty_fine : (t : Option Ty) → any_ty_placed (erase_any_ty prog t) ≡ true
  any_ty_fine None = refl
  any_ty_fine (Some t) = ty_fine prog t

  params_placed : (ds : List ParamDef) → list_all param_placed (map (erase_param prog) ds) ≡ true
  params_placed [] = refl
  params_placed (d ∷ ds) = both _ _ (ty_fine prog d.ty) (params_placed ds)

  abbrev context : List Known → Context
  context known = record { bounds = bounds; top = top_of prog; known = known }

  record Laid (cs : List ConstDef) (fs : List Fun) : Type 0 where
    consts : AllPlaced (map (printed_const prog) cs)
    funs : AllPlaced (map (printed_fun prog) fs)

  items_placed : (known : List Known) (is : List Item) (ds : List StructDef) (cs : List ConstDef) (fs : List Fun) → ItemsMean bounds (top_of prog) known is ds cs fs → list_all item_held is ≡ true → Laid cs fs
  items_placed known [] [] [] [] m h = record { consts = refl; funs = refl }
  items_placed known (item.Struct x ys ∷ is) (d ∷ ds) cs fs m h = items_placed known is ds cs fs m.1 (both_true (item_held (item.Struct x ys)) (list_all item_held is) h).1
  items_placed known (item.Const x e ∷ is) ds (c ∷ cs) fs m h =
      let k = both_true (item_held (item.Const x e)) (list_all item_held is) h in
      let rest = items_placed (known ++ record { name = x; number = m.0 } ∷ []) is ds cs fs m.2 k.1 in
      record { consts = both _ _ (placed_again prog (context known) [] c.value e m.1.value.means k.0).0 rest.consts; funs = rest.funs }
  items_placed known (item.Fun g ∷ is) ds cs (f ∷ fs) m h =
      let k = both_true (item_held (item.Fun g)) (list_all item_held is) h in
      let rest = items_placed known is ds cs fs m.1 k.1 in
      let body = body_fine prog (context known) f.result 0 (parameters f.params) f.body g.body m.0.body k.0 in
      record { consts = rest.consts; funs = both _ _ (both _ _ (both _ _ (any_ty_fine f.result) (params_placed f.params)) body) rest.funs }
  items_placed known [] [] [] (f ∷ fs) m h = absurd m
  items_placed known [] [] (c ∷ cs) fs m h = absurd m
  items_placed known [] (d ∷ ds) cs fs m h = absurd m
  items_placed known (item.Pragma word text ∷ is) ds cs fs m h = absurd m
  items_placed known (item.Struct x ys ∷ is) [] cs fs m h = absurd m
  items_placed known (item.Const x e ∷ is) ds [] fs m h = absurd m
  items_placed known (item.Fun g ∷ is) ds cs [] m h = absurd m

pub tree_placed_again : TreesPlaced
tree_placed_again bounds tree prog placed types =
    let all = items_placed prog bounds [] (plain tree).items prog.structs prog.consts prog.funs types.items (items_held tree.items placed) in
    both_placed (map (erase_struct prog) prog.structs) (map (printed_const prog) prog.consts ++ map (printed_fun prog) prog.funs) (structs_placed prog bounds prog.structs)
    (both_placed (map (printed_const prog) prog.consts) (map (printed_fun prog) prog.funs) all.consts all.funs)
