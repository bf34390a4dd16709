-- The items of a tree: which item each function has, and what those of structs and constants mean in the expansion.
use Rattle.std.proofs.Common.{◌≡◌, ℕ, zero, suc, true, List, [], ◌∷◌, ◌++◌, append_assoc, Option, Some, None, refl, sym, ap, ◌∙◌, subst}
use Rattle.std.specs.Prelude.{◌&&◌, map, slice_get, IsTrue, ℤ}
use Rattle.std.specs.List.{list_all}
use Rattle.std.proofs.lemmas.Bool.{and_parts}
use Rattle.sk_base.specs.declared.bounds.Bounds.{Bounds}
use Rattle.sk_tree.specs.declared.expr.Expr.{Expr}
use Rattle.sk_tree.specs.declared.item.Field.{Field}
use Rattle.sk_tree.specs.declared.item.Param.{Param}
use Rattle.sk_tree.specs.declared.item.TyTree.{TyTree}
use Rattle.sk_tree.specs.declared.item.FunItem.{FunItem}
use Rattle.sk_tree.specs.declared.item.Item.{Item}
use Rattle.sk_tree.specs.declared.item.Item.TheVariants as item
use Rattle.sk_tree.specs.Placed.{item_placed}
use Rattle.sk_prog.specs.declared.ty.Ty.{Ty}
use Rattle.sk_prog.specs.declared.prog.FieldDef.{FieldDef}
use Rattle.sk_prog.specs.declared.prog.StructDef.{StructDef}
use Rattle.sk_prog.specs.declared.prog.ConstDef.{ConstDef}
use Rattle.sk_prog.specs.declared.prog.ParamDef.{ParamDef}
use Rattle.sk_prog.specs.declared.prog.Fun.{Fun}
use Rattle.sk_types_rules.specs.Scope.{Top, Known, Context, all_distinct}
use Rattle.sk_types_rules.specs.Constants.{whole_number, natural, constant_number}
use Rattle.sk_types_rules.specs.Sorts.{written_type}
use Rattle.sk_types_rules.specs.Types.{Means, ParamsMean, ResultMeans, StructFieldsMean, ConstMeans, FunMeans, ItemsMean}
use Rattle.sk_types_laws.proofs.Ats.{bind_some}
use Rattle.sk_holes_laws.specs.Expanded.{natural_of, known_of}
use Rattle.sk_expand_laws.proofs.Plain.{item_fine}

module _ (bounds : Bounds) (top : Top) where
  abbrev pub at : List Known → Context
  at known = record { bounds = bounds; top = top; known = known }

  -- the item of a function, with the constants that stand before it and those behind
  pub record HasItem (from all : List Known) (f : Fun) : Type 0 where
    pub known : List Known
    pub later : List Known
    pub constants : known ++ later ≡ from ++ all
    pub tree : FunItem
    pub means : FunMeans (at known) tree f
    pub fine : item_fine (item.Fun tree) ≡ true

  pub fun_item : (known : List Known) (is : List Item) (ds : List StructDef) (cs : List ConstDef) (fs : List Fun) → ItemsMean bounds top known is ds cs fs → list_all item_fine is ≡ true → (i : ℕ) (f : Fun) → slice_get fs i ≡ Some f → HasItem known (map known_of cs) f
  fun_item known [] [] [] [] m fine i f h = cc
  fun_item known (item.Struct x ys ∷ is) (d ∷ ds) cs fs m fine i f h = fun_item known is ds cs fs m.1 (and_parts (item_fine (item.Struct x ys)) (list_all item_fine is) fine).1 i f h
  fun_item known (item.Const x e ∷ is) ds (c ∷ cs) fs m fine i f h =
      let k : Known = record { name = x; number = m.0 } in
      let r = fun_item (known ++ k ∷ []) is ds cs fs m.2 (and_parts (item_fine (item.Const x e)) (list_all item_fine is) fine).1 i f h in
      let same : k ≡ known_of c = λ j. record { name = sym m.1.name j; number = sym (ap natural_of m.1.same) j } in
      record {
        known = r.known;
        later = r.later;
        constants = r.constants ∙ append_assoc known (k ∷ []) (map known_of cs) ∙ ap (λ k. known ++ k ∷ map known_of cs) same;
        tree = r.tree;
        means = r.means;
        fine = r.fine;
      }
  fun_item known (item.Fun g ∷ is) ds cs (e ∷ fs) m fine zero f h =
      let same : e ≡ f = cc in
      record {
        known = known;
        later = map known_of cs;
        constants = refl;
        tree = g;
        means = subst (λ f. FunMeans (at known) g f) same m.0;
        fine = (and_parts (item_fine (item.Fun g)) (list_all item_fine is) fine).0;
      }
  fun_item known (item.Fun g ∷ is) ds cs (e ∷ fs) m fine (suc i) f h = fun_item known is ds cs fs m.1 (and_parts (item_fine (item.Fun g)) (list_all item_fine is) fine).1 i f h
  fun_item known [] (d ∷ ds) cs fs m fine i f h = absurd m
  fun_item known [] [] (c ∷ cs) fs m fine i f h = absurd m
  fun_item known [] [] [] (e ∷ fs) m fine i f h = absurd m
  fun_item known (item.Struct x ys ∷ is) [] cs fs m fine i f h = absurd m
  fun_item known (item.Const x e ∷ is) ds [] fs m fine i f h = absurd m
  fun_item known (item.Fun g ∷ is) ds cs [] m fine i f h = absurd m
  fun_item known (item.Pragma word text ∷ is) ds cs fs m fine i f h = absurd m

  -- no struct names a field twice
  pub structs_distinct : (known : List Known) (is : List Item) (ds : List StructDef) (cs : List ConstDef) (fs : List Fun) → ItemsMean bounds top known is ds cs fs → (i : ℕ) (d : StructDef) → slice_get ds i ≡ Some d → IsTrue (all_distinct (map (λ (y : FieldDef). y.name) d.fields))
  structs_distinct known [] [] [] [] m i d h = cc
  structs_distinct known (item.Struct x ys ∷ is) (d ∷ ds) cs fs m zero e h = let same : d ≡ e = cc in subst (λ (d : StructDef). IsTrue (all_distinct (map (λ (y : FieldDef). y.name) d.fields))) same m.0.distinct
  structs_distinct known (item.Struct x ys ∷ is) (d ∷ ds) cs fs m (suc i) e h = structs_distinct known is ds cs fs m.1 i e h
  structs_distinct known (item.Const x e ∷ is) ds (c ∷ cs) fs m i d h = structs_distinct (known ++ record { name = x; number = m.0 } ∷ []) is ds cs fs m.2 i d h
  structs_distinct known (item.Fun g ∷ is) ds cs (f ∷ fs) m i d h = structs_distinct known is ds cs fs m.1 i d h
  structs_distinct known [] (d ∷ ds) cs fs m i e h = absurd m
  structs_distinct known [] [] (c ∷ cs) fs m i e h = absurd m
  structs_distinct known [] [] [] (f ∷ fs) m i e h = absurd m
  structs_distinct known (item.Struct x ys ∷ is) [] cs fs m i d h = absurd m
  structs_distinct known (item.Const x e ∷ is) ds [] fs m i d h = absurd m
  structs_distinct known (item.Fun g ∷ is) ds cs [] m i d h = absurd m
  structs_distinct known (item.Pragma word text ∷ is) ds cs fs m i d h = absurd m

-- What is said of types that are written, and of constants, where one set of names takes the place of another.
pub record Again (bounds : Bounds) (old new : Top) : Type 0 where
  pub written : (known : List Known) (y : TyTree) (t : Ty) → written_type (at bounds old known) [] y ≡ Some t → written_type (at bounds new known) [] y ≡ Some t
  pub number : (known : List Known) (e : Expr) → constant_number (at bounds new known) [] e ≡ constant_number (at bounds old known) [] e
  pub constant : (known : List Known) (c : ConstDef) (e : Expr) (z : ℤ) → Means (at bounds old known) [] c.value e → whole_number (at bounds old known) [] e ≡ Some z → Means (at bounds new known) [] c.value e

module _ (bounds : Bounds) (old new : Top) (again : Again bounds old new) where
  pub result_again : (known : List Known) (y : Option TyTree) (t : Option Ty) → ResultMeans (at bounds old known) y t → ResultMeans (at bounds new known) y t
  result_again known None None m = m
  result_again known (Some y) (Some t) m = again.written known y t m
  result_again known None (Some t) m = absurd m
  result_again known (Some y) None m = absurd m

  pub params_again : (known : List Known) (ps : List Param) (ds : List ParamDef) → ParamsMean (at bounds old known) ps ds → ParamsMean (at bounds new known) ps ds
  params_again known [] [] m = m
  params_again known (p ∷ ps) (d ∷ ds) m = (record { name = m.0.name; type = again.written known p.ty d.ty m.0.type; by_ref = m.0.by_ref }, params_again known ps ds m.1)
  params_again known [] (d ∷ ds) m = absurd m
  params_again known (p ∷ ps) [] m = absurd m

  fields_again : (known : List Known) (ys : List Field) (ds : List FieldDef) → StructFieldsMean (at bounds old known) ys ds → StructFieldsMean (at bounds new known) ys ds
  fields_again known [] [] m = m
  fields_again known (y ∷ ys) (d ∷ ds) m = (m.0, again.written known y.ty d.ty m.1, fields_again known ys ds m.2)
  fields_again known [] (d ∷ ds) m = absurd m
  fields_again known (y ∷ ys) [] m = absurd m

  const_again : (known : List Known) (x : List ℕ) (e : Expr) (n : ℕ) (c : ConstDef) → ConstMeans (at bounds old known) x e n c → ConstMeans (at bounds new known) x e n c
  const_again known x e n c m =
      let z = bind_some (whole_number (at bounds old known) [] e) (natural bounds) n m.number in
      record {
        name = m.name;
        value = record { means = again.constant known c e z.0 m.value.means z.1; type = m.value.type };
        number = again.number known e ∙ m.number;
        same = m.same;
      }

  -- the items of structs and constants alone
  pub record Items (known : List Known) (ds : List StructDef) (cs : List ConstDef) : Type 0 where
    pub items : List Item
    pub placed : list_all item_placed items ≡ true
    pub means : ItemsMean bounds new known items ds cs []

  pub items_again : (known : List Known) (is : List Item) (ds : List StructDef) (cs : List ConstDef) (fs : List Fun) → ItemsMean bounds old known is ds cs fs → list_all item_fine is ≡ true → Items known ds cs
  items_again known [] [] [] [] m fine = record { items = []; placed = refl; means = tt }
  items_again known (item.Struct x ys ∷ is) (d ∷ ds) cs fs m fine =
      let a = and_parts (item_placed (item.Struct x ys)) (list_all item_fine is) fine in
      let r = items_again known is ds cs fs m.1 a.1 in
      record {
        items = item.Struct x ys ∷ r.items;
        placed = λ i. a.0 i && r.placed i;
        means = (record { name = m.0.name; fields = fields_again known ys d.fields m.0.fields; distinct = m.0.distinct }, r.means);
      }
  items_again known (item.Const x e ∷ is) ds (c ∷ cs) fs m fine =
      let a = and_parts (item_placed (item.Const x e)) (list_all item_fine is) fine in
      let r = items_again (known ++ record { name = x; number = m.0 } ∷ []) is ds cs fs m.2 a.1 in
      record {
        items = item.Const x e ∷ r.items;
        placed = λ i. a.0 i && r.placed i;
        means = (m.0, const_again known x e m.0 c m.1, r.means);
      }
  items_again known (item.Fun g ∷ is) ds cs (f ∷ fs) m fine = items_again known is ds cs fs m.1 (and_parts (item_fine (item.Fun g)) (list_all item_fine is) fine).1
  items_again known [] (d ∷ ds) cs fs m fine = absurd m
  items_again known [] [] (c ∷ cs) fs m fine = absurd m
  items_again known [] [] [] (f ∷ fs) m fine = absurd m
  items_again known (item.Struct x ys ∷ is) [] cs fs m fine = absurd m
  items_again known (item.Const x e ∷ is) ds [] fs m fine = absurd m
  items_again known (item.Fun g ∷ is) ds cs [] m fine = absurd m
  items_again known (item.Pragma word text ∷ is) ds cs fs m fine = absurd m
