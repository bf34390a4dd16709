-- What a whole tree becomes is what it means.
use Rattle.std.proofs.Common.{◌≡◌, ℕ, Bool, true, false, List, [], ◌∷◌, ◌++◌, Option, Some, None, refl, sym, ap, subst, ◌∙◌}
use Rattle.std.specs.Prelude.{◌&&◌, map, IsTrue, slice_get}
use Rattle.sk_base.specs.declared.bounds.Bounds.{Bounds}
use Rattle.sk_tree.specs.declared.expr.Expr.{Expr}
use Rattle.sk_tree.specs.declared.item.TyTree.{TyTree}
use Rattle.sk_tree.specs.declared.item.Field.{Field}
use Rattle.sk_tree.specs.declared.item.Param.{Param}
use Rattle.sk_tree.specs.declared.item.FunItem.{FunItem}
use Rattle.sk_tree.specs.declared.item.Item.{Item}
use Rattle.sk_tree.specs.declared.item.Item.TheVariants as item
use Rattle.sk_tree.specs.declared.item.Tree.{Tree}
use Rattle.sk_prog.specs.declared.ty.Ty.{Ty}
use Rattle.sk_prog.specs.declared.ids.FunId.{FunId}
use Rattle.sk_prog.specs.declared.prog.FieldDef.{FieldDef}
use Rattle.sk_prog.specs.declared.prog.StructDef.{StructDef}
use Rattle.sk_prog.specs.declared.prog.ConstDef.{ConstDef}
use Rattle.sk_prog.specs.declared.prog.ParamDef.{ParamDef}
use Rattle.sk_prog.specs.declared.prog.Fun.{Fun}
use Rattle.sk_prog.specs.declared.prog.Prog.{Prog}
use Rattle.sk_types_rules.specs.Rules.{◌>>=◌, only_if, int}
use Rattle.sk_types_rules.specs.Scope.{Known, Signature, signature_of, Top, top_of, top_names, Context, Meaning, AVariable, AStruct, AConstant, AFunction, Nothing, meaning_of, all_distinct}
use Rattle.sk_types_rules.specs.Constants.{constant_number}
use Rattle.sk_types_rules.specs.Sorts.{written_type}
use Rattle.sk_types_rules.specs.Plain.{plain, steps_are_targets}
use Rattle.sk_types_rules.specs.Types.{ParamsMean, parameters, kind_of, ResultMeans, may_be, may_implement, ImplementsMeans, FunMeans, StructFieldsMean, StructMeans, ConstMeans, ItemsMean, Types}
use Rattle.sk_types_laws.specs.Making.{value_at, make_all}
use Rattle.sk_types_laws.specs.Whole.{no_top, with_struct, with_const, with_fun, named_top, any_written, fields_of, params_of, struct_of, heading_of, context_in, typed_top, const_of, function_meant, implemented, implements_of, fun_of, Bodies, bodies_of, prog_of}
use Rattle.sk_types_laws.proofs.Ats.{bind_some, some_same, if_some, both_true}
use Rattle.sk_types_laws.proofs.WholeNames.{SameNames, names_same, number_same, written_same}
use Rattle.sk_types_laws.proofs.StepSound.{value_sound, all_sound}

only_parts : {A : Type 0} (b : Bool) (x y : A) → only_if b x ≡ Some y → (b ≡ true) × (x ≡ y)
only_parts true x y e = (refl, some_same x y e)
only_parts false x y e = cc

-- Types depend on names alone.

module _ (bounds : Bounds) (a b : Top) (n : SameNames a b) where
  any_same : (known : List Known) (y : Option TyTree) → any_written (context_in bounds a known) y ≡ any_written (context_in bounds b known) y
  any_same known None = refl
  any_same known (Some y) = ap (λ o. o >>= λ t. Some (Some t)) (written_same bounds known a b n y)

  fields_same : (known : List Known) (ys : List Field) → fields_of (context_in bounds a known) ys ≡ fields_of (context_in bounds b known) ys
  fields_same known [] = refl
  fields_same known (y ∷ ys) = λ i. written_same bounds known a b n y.ty i >>= λ t. fields_same known ys i >>= λ ds. Some (record { name = y.name; ty = t } ∷ ds)

  params_same : (known : List Known) (ps : List Param) → params_of (context_in bounds a known) ps ≡ params_of (context_in bounds b known) ps
  params_same known [] = refl
  params_same known (p ∷ ps) = λ i. written_same bounds known a b n p.ty i >>= λ t. params_same known ps i >>= λ ds. Some (record { name = p.name; ty = t; by_ref = p.by_ref } ∷ ds)

  struct_same : (known : List Known) (x : List ℕ) (ys : List Field) → struct_of (context_in bounds a known) x ys ≡ struct_of (context_in bounds b known) x ys
  struct_same known x ys = ap (λ o. o >>= λ ds. only_if (all_distinct (map (λ (d : FieldDef). d.name) ds)) (record { name = x; fields = ds })) (fields_same known ys)

  heading_same : (known : List Known) (g : FunItem) → heading_of (context_in bounds a known) g ≡ heading_of (context_in bounds b known) g
  heading_same known g = λ i. any_same known g.result i >>= λ t. params_same known g.params i >>= λ ds. only_if (may_be (kind_of g.kind) ds t && all_distinct (map (λ (d : ParamDef). d.name) ds)) (record { name = g.name; kind = kind_of g.kind; result = t; params = ds })

  pub typed_same : (known : List Known) (is : List Item) → typed_top bounds a known is ≡ typed_top bounds b known is
  typed_same known [] = refl
  typed_same known (item.Pragma word text ∷ is) = refl
  typed_same known (item.Struct x ys ∷ is) = λ i. struct_same known x ys i >>= λ d. typed_same known is i >>= λ top. Some (with_struct d top)
  typed_same known (item.Const x e ∷ is) = λ i. number_same bounds known a b n e i >>= λ n. typed_same (known ++ record { name = x; number = n } ∷ []) is i >>= λ top. Some (with_const x top)
  typed_same known (item.Fun g ∷ is) = λ i. heading_same known g i >>= λ s. typed_same known is i >>= λ top. Some (with_fun s top)

-- Names stay.

struct_name : (context : Context) (x : List ℕ) (ys : List Field) (d : StructDef) → struct_of context x ys ≡ Some d → d.name ≡ x
struct_name context x ys d h =
    let ds = bind_some (fields_of context ys) _ d h in
    let k = only_parts _ _ d ds.2 in
    ap (λ (d : StructDef). d.name) (sym k.1)

heading_name : (context : Context) (g : FunItem) (s : Signature) → heading_of context g ≡ Some s → s.name ≡ g.name
heading_name context g s h =
    let t = bind_some (any_written context g.result) _ s h in
    let ds = bind_some (params_of context g.params) _ s t.2 in
    let k = only_parts _ _ s ds.2 in
    ap (λ (s : Signature). s.name) (sym k.1)

pub typed_names : (bounds : Bounds) (names : Top) (known : List Known) (is : List Item) (top : Top) → typed_top bounds names known is ≡ Some top → SameNames top (named_top is)
typed_names bounds names known [] top h = subst (λ top. SameNames top no_top) (some_same _ _ h) (record { structs = refl; consts = refl; funs = refl })
typed_names bounds names known (item.Pragma word text ∷ is) top h = cc
typed_names bounds names known (item.Struct x ys ∷ is) top h =
    let d = bind_some (struct_of (context_in bounds names known) x ys) _ top h in
    let t = bind_some (typed_top bounds names known is) _ top d.2 in
    let n = typed_names bounds names known is t.0 t.1 in
    let name = struct_name (context_in bounds names known) x ys d.0 d.1 in
    subst (λ top. SameNames top (named_top (item.Struct x ys ∷ is))) (some_same _ _ t.2) (record { structs = λ i. name i ∷ n.structs i; consts = n.consts; funs = n.funs })
typed_names bounds names known (item.Const x e ∷ is) top h =
    let k = bind_some (constant_number (context_in bounds names known) [] e) _ top h in
    let t = bind_some (typed_top bounds names (known ++ record { name = x; number = k.0 } ∷ []) is) _ top k.2 in
    let n = typed_names bounds names (known ++ record { name = x; number = k.0 } ∷ []) is t.0 t.1 in
    subst (λ top. SameNames top (named_top (item.Const x e ∷ is))) (some_same _ _ t.2) (record { structs = n.structs; consts = ap (λ xs. x ∷ xs) n.consts; funs = n.funs })
typed_names bounds names known (item.Fun g ∷ is) top h =
    let s = bind_some (heading_of (context_in bounds names known) g) _ top h in
    let t = bind_some (typed_top bounds names known is) _ top s.2 in
    let n = typed_names bounds names known is t.0 t.1 in
    let name = heading_name (context_in bounds names known) g s.0 s.1 in
    subst (λ top. SameNames top (named_top (item.Fun g ∷ is))) (some_same _ _ t.2) (record { structs = n.structs; consts = n.consts; funs = λ i. name i ∷ n.funs i })

-- Structs, constants and signatures

module _ (context : Context) where
  fields_mean : (ys : List Field) (ds : List FieldDef) → fields_of context ys ≡ Some ds → StructFieldsMean context ys ds
  fields_mean [] ds h = subst (StructFieldsMean context []) (some_same _ _ h) tt
  fields_mean (y ∷ ys) ds h =
      let t = bind_some (written_type context [] y.ty) _ ds h in
      let r = bind_some (fields_of context ys) _ ds t.2 in
      subst (StructFieldsMean context (y ∷ ys)) (some_same _ _ r.2) (refl, t.1, fields_mean ys r.0 r.1)

  params_mean : (ps : List Param) (ds : List ParamDef) → params_of context ps ≡ Some ds → ParamsMean context ps ds
  params_mean [] ds h = subst (ParamsMean context []) (some_same _ _ h) tt
  params_mean (p ∷ ps) ds h =
      let t = bind_some (written_type context [] p.ty) _ ds h in
      let r = bind_some (params_of context ps) _ ds t.2 in
      subst (ParamsMean context (p ∷ ps)) (some_same _ _ r.2) (record { name = refl; type = t.1; by_ref = refl }, params_mean ps r.0 r.1)

  result_mean : (y : Option TyTree) (t : Option Ty) → any_written context y ≡ Some t → ResultMeans context y t
  result_mean None t h = subst (ResultMeans context None) (some_same _ _ h) tt
  result_mean (Some y) t h = let u = bind_some (written_type context [] y) _ t h in subst (ResultMeans context (Some y)) (some_same _ _ u.2) u.1

  struct_mean : (x : List ℕ) (ys : List Field) (d : StructDef) → struct_of context x ys ≡ Some d → StructMeans context x ys d
  struct_mean x ys d h =
      let ds = bind_some (fields_of context ys) _ d h in
      let k = only_parts _ _ d ds.2 in
      subst (StructMeans context x ys) k.1 (record { name = refl; fields = fields_mean ys ds.0 ds.1; distinct = k.0 })

  const_mean : (x : List ℕ) (e : Expr) (n : ℕ) (c : ConstDef) → constant_number context [] e ≡ Some n → const_of context x e n ≡ Some c → ConstMeans context x e n c
  const_mean x e n c number h =
      let p = bind_some (value_at context [] int e) _ c h in
      subst (ConstMeans context x e n) (some_same _ _ p.2) (record { name = refl; value = value_sound context None [] int e p.0 p.1; number = number; same = refl })

  pub record HeadingMeans (g : FunItem) (s : Signature) : Type 0 where
    pub name : s.name ≡ g.name
    pub kind : s.kind ≡ kind_of g.kind
    pub result : ResultMeans context g.result s.result
    pub params : ParamsMean context g.params s.params
    pub signature : IsTrue (may_be s.kind s.params s.result)
    pub distinct : IsTrue (all_distinct (map (λ (d : ParamDef). d.name) s.params))

  heading_mean : (g : FunItem) (s : Signature) → heading_of context g ≡ Some s → HeadingMeans g s
  heading_mean g s h =
      let t = bind_some (any_written context g.result) _ s h in
      let ds = bind_some (params_of context g.params) _ s t.2 in
      let k = only_parts _ _ s ds.2 in
      let j = both_true _ _ k.0 in
      subst (HeadingMeans g) k.1 (record { name = refl; kind = refl; result = result_mean g.result t.0 t.1; params = params_mean g.params ds.0 ds.1; signature = j.0; distinct = j.1 })

  function_is : (m : Meaning) (f : FunId) → function_meant m ≡ Some f → m ≡ AFunction f
  function_is (AFunction g) f h = ap AFunction (some_same _ _ h)
  function_is (AVariable v) f h = cc
  function_is (AStruct r) f h = cc
  function_is (AConstant c) f h = cc
  function_is Nothing f h = cc

  implements_mean : (s : Signature) (x : Option (List ℕ)) (i : Option FunId) → implements_of context.top s x ≡ Some i → ImplementsMeans context.top s x i
  implements_mean s None i h = subst (ImplementsMeans context.top s None) (some_same _ _ h) tt
  implements_mean s (Some x) i h =
      let f = bind_some (function_meant (meaning_of context.top [] x)) _ i h in
      let g = bind_some (implemented context.top s f.0 (slice_get context.top.funs f.0.index)) _ i f.2 in
      let k = callee f.0 (slice_get context.top.funs f.0.index) refl g.0 g.1 in
      subst (ImplementsMeans context.top s (Some x)) (ap Some k.0 ∙ some_same _ _ g.2) (function_is _ f.0 f.1, k.1, k.2, k.3)
    where
      callee : (f : FunId) (o : Option Signature) → slice_get context.top.funs f.index ≡ o → (h : FunId) → implemented context.top s f o ≡ Some h → (f ≡ h) × (g : Signature) × (slice_get context.top.funs f.index ≡ Some g) × IsTrue (may_implement s g)
      callee f None is h e = cc
      callee f (Some g) is h e = let k = only_parts _ _ h e in (k.1, g, is, k.0)

  fun_mean : (g : FunItem) (s : Signature) (f : Fun) → HeadingMeans g s → fun_of context g s ≡ Some f → FunMeans context g f × (signature_of f ≡ s)
  fun_mean g s f m h =
      let i = bind_some (implements_of context.top s g.implements) _ f h in
      let b = bind_some (make_all context s.result g.body 0 (parameters s.params)) _ f i.2 in
      let good = all_sound context s.result 0 (parameters s.params) g.body b.0 b.1 in
      subst (λ f. FunMeans context g f × (signature_of f ≡ s)) (some_same _ _ b.2) (record { name = m.name; kind = m.kind; result = m.result; implements = implements_mean s g.implements i.0 i.1; params = m.params; signature = m.signature; distinct = m.distinct; body = good.mean; slots = refl }, refl)

-- Items

pub record ItemsGood (bounds : Bounds) (top : Top) (known : List Known) (is : List Item) (t : Top) (b : Bodies) : Type 0 where
  pub mean : ItemsMean bounds top known is t.structs b.consts b.funs
  pub consts : map (λ (c : ConstDef). c.name) b.consts ≡ t.consts
  pub funs : map signature_of b.funs ≡ t.funs

items_good : (bounds : Bounds) (top : Top) (known : List Known) (is : List Item) (t : Top) (b : Bodies) → typed_top bounds top known is ≡ Some t → bodies_of bounds top known is ≡ Some b → ItemsGood bounds top known is t b
items_good bounds top known [] t b h k = subst (λ t. ItemsGood bounds top known [] t b) (some_same _ _ h) (subst (ItemsGood bounds top known [] no_top) (some_same _ _ k) (record { mean = tt; consts = refl; funs = refl }))
items_good bounds top known (item.Pragma word text ∷ is) t b h k = cc
items_good bounds top known (item.Struct x ys ∷ is) t b h k =
    let d = bind_some (struct_of (context_in bounds top known) x ys) _ t h in
    let u = bind_some (typed_top bounds top known is) _ t d.2 in
    let g = items_good bounds top known is u.0 b u.1 k in
    subst (λ t. ItemsGood bounds top known (item.Struct x ys ∷ is) t b) (some_same _ _ u.2) (record { mean = (struct_mean (context_in bounds top known) x ys d.0 d.1, g.mean); consts = g.consts; funs = g.funs })
items_good bounds top known (item.Const x e ∷ is) t b h k =
    let n = bind_some (constant_number (context_in bounds top known) [] e) _ t h in
    let m = bind_some (constant_number (context_in bounds top known) [] e) _ b k in
    let same : m.0 ≡ n.0 = some_same _ _ (sym m.1 ∙ n.1) in
    let c = bind_some (const_of (context_in bounds top known) x e m.0) _ b m.2 in
    let u = bind_some (typed_top bounds top (known ++ record { name = x; number = n.0 } ∷ []) is) _ t n.2 in
    let r = bind_some (bodies_of bounds top (known ++ record { name = x; number = m.0 } ∷ []) is) _ b c.2 in
    let bodies : bodies_of bounds top (known ++ record { name = x; number = n.0 } ∷ []) is ≡ Some r.0 = ap (λ n. bodies_of bounds top (known ++ record { name = x; number = n } ∷ []) is) (sym same) ∙ r.1 in
    let g = items_good bounds top (known ++ record { name = x; number = n.0 } ∷ []) is u.0 r.0 u.1 bodies in
    let const = const_mean (context_in bounds top known) x e n.0 c.0 n.1 (ap (const_of (context_in bounds top known) x e) (sym same) ∙ c.1) in
    subst (λ t. ItemsGood bounds top known (item.Const x e ∷ is) t b) (some_same _ _ u.2) (subst (ItemsGood bounds top known (item.Const x e ∷ is) (with_const x u.0)) (some_same _ _ r.2) (record { mean = (n.0, const, g.mean); consts = λ i. const.name i ∷ g.consts i; funs = g.funs }))
items_good bounds top known (item.Fun f ∷ is) t b h k =
    let s = bind_some (heading_of (context_in bounds top known) f) _ t h in
    let z = bind_some (heading_of (context_in bounds top known) f) _ b k in
    let same : z.0 ≡ s.0 = some_same _ _ (sym z.1 ∙ s.1) in
    let p = bind_some (fun_of (context_in bounds top known) f z.0) _ b z.2 in
    let u = bind_some (typed_top bounds top known is) _ t s.2 in
    let r = bind_some (bodies_of bounds top known is) _ b p.2 in
    let g = items_good bounds top known is u.0 r.0 u.1 r.1 in
    let fun = fun_mean (context_in bounds top known) f z.0 p.0 (heading_mean (context_in bounds top known) f z.0 z.1) p.1 in
    subst (λ t. ItemsGood bounds top known (item.Fun f ∷ is) t b) (some_same _ _ u.2) (subst (ItemsGood bounds top known (item.Fun f ∷ is) (with_fun s.0 u.0)) (some_same _ _ r.2) (record { mean = (fun.0, g.mean); consts = g.consts; funs = λ i. (fun.1 ∙ same) i ∷ g.funs i }))

-- What a tree becomes is what it means.
pub prog_sound : (bounds : Bounds) (tree : Tree) (prog : Prog) → prog_of bounds tree ≡ Some prog → Types tree bounds prog
unfolding prog_of
prog_sound bounds tree prog h =
    let is = (plain tree).items in
    let steps = if_some (steps_are_targets tree) _ prog h in
    let distinct = if_some (all_distinct (top_names (named_top is))) _ prog steps.1 in
    let top = bind_some (typed_top bounds (named_top is) [] is) _ prog distinct.1 in
    let b = bind_some (bodies_of bounds top.0 [] is) _ prog top.2 in
    let kept = only_parts _ _ prog b.2 in
    let names = typed_names bounds (named_top is) [] is top.0 top.1 in
    let typed = typed_same bounds top.0 (named_top is) names [] is ∙ top.1 in
    let g = items_good bounds top.0 [] is top.0 b.0 typed b.1 in
    let q : Prog = record { structs = top.0.structs; consts = b.0.consts; funs = b.0.funs } in
    let same : top.0 ≡ top_of q = λ i. record { structs = top.0.structs; consts = sym g.consts i; funs = sym g.funs i } in
    subst (Types tree bounds) kept.1 (record {
      steps = steps.0;
      items = subst (λ top. ItemsMean bounds top [] is q.structs q.consts q.funs) same g.mean;
      distinct = ap (λ top. all_distinct (top_names top)) (sym same) ∙ ap all_distinct (names_same top.0 (named_top is) names) ∙ distinct.0;
      kept = kept.0;
    })
