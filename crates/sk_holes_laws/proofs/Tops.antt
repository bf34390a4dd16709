-- What stands at the top of an expansion: its structs, constants and signatures.
use Rattle.std.proofs.Common.{◌≡◌, ℕ, zero, suc, Bool, true, false, ◌&&◌, ◌||◌, not, List, [], ◌∷◌, ◌++◌, map, Option, Some, None, refl, sym, ap, subst, ◌∙◌, append_assoc, append-nil}
use Rattle.std.specs.Prelude.{IsTrue, pos, slice_get, if◌then◌else◌}
use Rattle.std.specs.List.{list_all, list_any}
use Rattle.std.specs.Str.{bytes_eq}
use Rattle.std.proofs.lemmas.Bool.{and_parts}
use Rattle.sk_base.specs.declared.bounds.Bounds.{Bounds}
use Rattle.sk_tree.specs.declared.expr.Expr.{Expr}
use Rattle.sk_tree.specs.declared.item.TyTree.{TyTree}
use Rattle.sk_tree.specs.declared.item.Field.{Field}
use Rattle.sk_tree.specs.declared.item.Param.{Param}
use Rattle.sk_tree.specs.declared.item.FunItem.{FunItem}
use Rattle.sk_tree.specs.declared.item.Item.{Item}
use Rattle.sk_tree.specs.declared.item.Item.TheVariants as item
use Rattle.sk_prog.specs.declared.ty.Ty.{Ty}
use Rattle.sk_prog.specs.declared.prog.FieldDef.{FieldDef}
use Rattle.sk_prog.specs.declared.prog.StructDef.{StructDef}
use Rattle.sk_prog.specs.declared.prog.ConstDef.{ConstDef}
use Rattle.sk_prog.specs.declared.prog.ParamDef.{ParamDef}
use Rattle.sk_prog.specs.declared.prog.Fun.{Fun}
use Rattle.sk_types_rules.specs.Scope.{all_distinct, Signature, Top, Known, Context}
use Rattle.sk_types_rules.specs.Constants.{number_known, whole_number, natural}
use Rattle.sk_types_rules.specs.Types.{ParamsMean, ResultMeans, StructFieldsMean, ConstMeans, FunMeans, ItemsMean}
use Rattle.sk_types_laws.proofs.Ats.{bind_some}
use Rattle.sk_model.specs.Filled.{expr_filled}
use Rattle.sk_holes_laws.specs.Sizes.{Sized, AnySized, SizedFields}
use Rattle.sk_holes_laws.specs.Filling.{context_with, top_with, Knows}
use Rattle.sk_holes_laws.specs.Expanded.{natural_of, known_of}
use Rattle.sk_holes_laws.proofs.Carried.{constant_stays}
use Rattle.sk_holes_laws.proofs.Consts.{constant_kept}
use Rattle.sk_holes_laws.proofs.Written.{written_sized, type_stays}
use Rattle.sk_holes_laws.proofs.Ranks.{marked}

-- Sizes

fields_sized : (context : Context) (ys : List Field) (ds : List FieldDef) → StructFieldsMean context ys ds → (i : ℕ) (d : FieldDef) → slice_get ds i ≡ Some d → Sized d.ty
fields_sized context [] [] h i d is = cc
fields_sized context (y ∷ ys) (c ∷ ds) h zero d is = let e : c ≡ d = cc in subst (λ (d : FieldDef). Sized d.ty) e (written_sized context [] y.ty c.ty h.1)
fields_sized context (y ∷ ys) (c ∷ ds) h (suc i) d is = fields_sized context ys ds h.2 i d is
fields_sized context [] (d ∷ ds) h i c is = absurd h
fields_sized context (y ∷ ys) [] h i d is = absurd h

pub params_sized : (context : Context) (ps : List Param) (ds : List ParamDef) → ParamsMean context ps ds → (i : ℕ) (d : ParamDef) → slice_get ds i ≡ Some d → Sized d.ty
params_sized context [] [] h i d is = cc
params_sized context (p ∷ ps) (c ∷ ds) h zero d is = let e : c ≡ d = cc in subst (λ (d : ParamDef). Sized d.ty) e (written_sized context [] p.ty c.ty (h.0).type)
params_sized context (p ∷ ps) (c ∷ ds) h (suc i) d is = params_sized context ps ds h.1 i d is
params_sized context [] (d ∷ ds) h i c is = absurd h
params_sized context (p ∷ ps) [] h i d is = absurd h

pub result_sized : (context : Context) (r : Option TyTree) (t : Option Ty) → ResultMeans context r t → AnySized t
result_sized context None None h = tt
result_sized context (Some y) (Some t) h = written_sized context [] y t h
result_sized context None (Some t) h = absurd h
result_sized context (Some y) None h = absurd h

-- no struct names a field twice, and the types of its fields have elements
pub record GoodStruct (d : StructDef) : Type 0 where
  pub distinct : IsTrue (all_distinct (map (λ (y : FieldDef). y.name) d.fields))
  pub sized : SizedFields d

module _ (bounds : Bounds) (top : Top) where
  pub structs_good : (is : List Item) (known : List Known) (ds : List StructDef) (cs : List ConstDef) → ItemsMean bounds top known is ds cs [] → (i : ℕ) (d : StructDef) → slice_get ds i ≡ Some d → GoodStruct d
  structs_good [] known [] [] h i d is = cc
  structs_good [] known [] (c ∷ cs) h i d is = absurd h
  structs_good [] known (d ∷ ds) cs h i c is = absurd h
  structs_good (item.Struct x ys ∷ is) known [] cs h i d at = absurd h
  structs_good (item.Struct x ys ∷ is) known (c ∷ ds) cs h zero d at =
      let e : c ≡ d = cc in
      subst GoodStruct e (record { distinct = (h.0).distinct; sized = fields_sized (record { bounds = bounds; top = top; known = known }) ys c.fields (h.0).fields })
  structs_good (item.Struct x ys ∷ is) known (c ∷ ds) cs h (suc i) d at = structs_good is known ds cs h.1 i d at
  structs_good (item.Const x e ∷ is) known ds [] h i d at = absurd h
  structs_good (item.Const x e ∷ is) known ds (c ∷ cs) h i d at = structs_good is (known ++ record { name = x; number = h.0 } ∷ []) ds cs h.2 i d at
  structs_good (item.Fun g ∷ is) known ds cs h i d at = absurd h
  structs_good (item.Pragma w t ∷ is) known ds cs h i d at = absurd h

-- Constants that are known

first_known : (known later : List Known) → Knows known (known ++ later)
first_known [] later x z h = cc
first_known (k ∷ known) later x z h = go (first_known known later) (bytes_eq k.name x) h
  where
    go : Knows known (known ++ later) → (b : Bool) → (if b then Some (pos k.number) else number_known known x) ≡ Some z → (if b then Some (pos k.number) else number_known (known ++ later) x) ≡ Some z
    go rest true h = h
    go rest false h = rest x z h

pub known_first : (known later all : List Known) → known ++ later ≡ all → Knows known all
known_first known later all e = subst (λ a. Knows known a) e (first_known known later)

-- Distinct names

any_marked : (x : List ℕ) (bs : List Bool) (ys : List (List ℕ)) → list_any (bytes_eq x) ys ≡ false → list_any (bytes_eq x) (marked bs ys) ≡ false
any_marked x [] ys h = refl
any_marked x (b ∷ bs) [] h = go b
  where
    go : (b : Bool) → list_any (bytes_eq x) (marked (b ∷ bs) []) ≡ false
    go true = refl
    go false = refl
any_marked x (b ∷ bs) (y ∷ ys) h = go (any_marked x bs ys) b (bytes_eq x y) refl h
  where
    go : (list_any (bytes_eq x) ys ≡ false → list_any (bytes_eq x) (marked bs ys) ≡ false) → (b c : Bool) → bytes_eq x y ≡ c → (c || list_any (bytes_eq x) ys) ≡ false → list_any (bytes_eq x) (marked (b ∷ bs) (y ∷ ys)) ≡ false
    go rest b true is h = cc
    go rest true false is h = ap (λ c. c || list_any (bytes_eq x) (marked bs ys)) is ∙ rest h
    go rest false false is h = rest h

any_front : (x : List ℕ) (xs : List (List ℕ)) (bs : List Bool) (ys : List (List ℕ)) → list_any (bytes_eq x) (xs ++ ys) ≡ false → list_any (bytes_eq x) (xs ++ marked bs ys) ≡ false
any_front x [] bs ys h = any_marked x bs ys h
any_front x (z ∷ xs) bs ys h = go (any_front x xs bs ys) (bytes_eq x z) h
  where
    go : (list_any (bytes_eq x) (xs ++ ys) ≡ false → list_any (bytes_eq x) (xs ++ marked bs ys) ≡ false) → (c : Bool) → (c || list_any (bytes_eq x) (xs ++ ys)) ≡ false → (c || list_any (bytes_eq x) (xs ++ marked bs ys)) ≡ false
    go rest true h = cc
    go rest false h = rest h

off : (b : Bool) → not b ≡ true → b ≡ false
off true h = cc
off false h = refl

distinct_marked : (bs : List Bool) (ys : List (List ℕ)) → all_distinct ys ≡ true → all_distinct (marked bs ys) ≡ true
distinct_marked [] ys h = refl
distinct_marked (b ∷ bs) [] h = go b
  where
    go : (b : Bool) → all_distinct (marked (b ∷ bs) []) ≡ true
    go true = refl
    go false = refl
distinct_marked (true ∷ bs) (y ∷ ys) h =
    let b = and_parts (not (list_any (bytes_eq y) ys)) (all_distinct ys) h in
    let one = ap not (any_marked y bs ys (off (list_any (bytes_eq y) ys) b.0)) in
    let rest = distinct_marked bs ys b.1 in
    λ i. one i && rest i
distinct_marked (false ∷ bs) (y ∷ ys) h = let b = and_parts (not (list_any (bytes_eq y) ys)) (all_distinct ys) h in distinct_marked bs ys b.1

-- names stay distinct where the last of them are left out
pub distinct_front : (xs : List (List ℕ)) (bs : List Bool) (ys : List (List ℕ)) → all_distinct (xs ++ ys) ≡ true → all_distinct (xs ++ marked bs ys) ≡ true
distinct_front [] bs ys h = distinct_marked bs ys h
distinct_front (x ∷ xs) bs ys h =
    let b = and_parts (not (list_any (bytes_eq x) (xs ++ ys))) (all_distinct (xs ++ ys)) h in
    let one = ap not (any_front x xs bs ys (off (list_any (bytes_eq x) (xs ++ ys)) b.0)) in
    let rest = distinct_front xs bs ys b.1 in
    λ i. one i && rest i

pub marked_map : {A B : Type 0} (v : A → B) (bs : List Bool) (xs : List A) → map v (marked bs xs) ≡ marked bs (map v xs)
marked_map v [] xs = refl
marked_map v (b ∷ bs) [] = go b
  where
    go : (b : Bool) → map v (marked (b ∷ bs) []) ≡ marked (b ∷ bs) (map v [])
    go true = refl
    go false = refl
marked_map v (true ∷ bs) (x ∷ xs) = ap (λ ys. v x ∷ ys) (marked_map v bs xs)
marked_map v (false ∷ bs) (x ∷ xs) = marked_map v bs xs

-- Items

module _ (bounds : Bounds) (structs : List StructDef) (consts : List (List ℕ)) (funs again : List Signature) where
  abbrev one : List Known → Context
  one known = context_with bounds structs consts funs known

  abbrev two : List Known → Context
  two known = context_with bounds structs consts again known

  same_known : (known : List Known) → Knows known known
  same_known known x z h = h

  fields_stay : (known : List Known) (ys : List Field) (ds : List FieldDef) → StructFieldsMean (one known) ys ds → StructFieldsMean (two known) ys ds
  fields_stay known [] [] h = tt
  fields_stay known (y ∷ ys) (d ∷ ds) h = (h.0, type_stays bounds structs consts funs again known known [] (same_known known) y.ty d.ty h.1, fields_stay known ys ds h.2)
  fields_stay known [] (d ∷ ds) h = absurd h
  fields_stay known (y ∷ ys) [] h = absurd h

  const_kept : (known : List Known) (x : List ℕ) (e : Expr) (n : ℕ) (c : ConstDef) → ConstMeans (one known) x e n c → ConstMeans (two known) x e n c × (expr_filled c.value ≡ true)
  const_kept known x e n c h =
      let z = bind_some (whole_number (one known) [] e) (natural bounds) n h.number in
      let r = constant_kept bounds structs consts funs again known c.value e (h.value).means z.0 z.1 in
      (record { name = h.name; value = record { means = r.means; type = (h.value).type }; number = constant_stays bounds structs consts funs again known known [] (same_known known) e n h.number; same = h.same }, r.filled)

  -- the constants of a list of items leave nothing open
  pub consts_filled : (is : List Item) (known : List Known) (ds : List StructDef) (cs : List ConstDef) → ItemsMean bounds (top_with structs consts funs) known is ds cs [] → list_all (λ (c : ConstDef). expr_filled c.value) cs ≡ true
  consts_filled [] known [] [] h = refl
  consts_filled [] known [] (c ∷ cs) h = absurd h
  consts_filled [] known (d ∷ ds) cs h = absurd h
  consts_filled (item.Struct x ys ∷ is) known [] cs h = absurd h
  consts_filled (item.Struct x ys ∷ is) known (d ∷ ds) cs h = consts_filled is known ds cs h.1
  consts_filled (item.Const x e ∷ is) known ds [] h = absurd h
  consts_filled (item.Const x e ∷ is) known ds (c ∷ cs) h =
      let one_filled = (const_kept known x e h.0 c h.1).1 in
      let rest = consts_filled is (known ++ record { name = x; number = h.0 } ∷ []) ds cs h.2 in
      λ i. one_filled i && rest i
  consts_filled (item.Fun g ∷ is) known ds cs h = absurd h
  consts_filled (item.Pragma w t ∷ is) known ds cs h = absurd h

  -- Functions that mean items, where all these constants are known.
  abbrev pub FunsMean : List Known → List FunItem → List Fun → Type 0
  FunsMean all [] [] = Unit {0}
  FunsMean all (g ∷ gs) (f ∷ fs) = FunMeans (two all) g f × FunsMean all gs fs
  FunsMean all [] (f ∷ fs) = ⊥
  FunsMean all (g ∷ gs) [] = ⊥

  funs_last : (all : List Known) (gs : List FunItem) (fs : List Fun) → FunsMean all gs fs → ItemsMean bounds (top_with structs consts again) all (map item.Fun gs) [] [] fs
  funs_last all [] [] h = tt
  funs_last all (g ∷ gs) (f ∷ fs) h = (h.0, funs_last all gs fs h.1)
  funs_last all [] (f ∷ fs) h = absurd h
  funs_last all (g ∷ gs) [] h = absurd h

  -- the items of structs and constants, and functions behind them
  pub items_then : (is : List Item) (known : List Known) (ds : List StructDef) (cs : List ConstDef) → ItemsMean bounds (top_with structs consts funs) known is ds cs [] → (gs : List FunItem) (fs : List Fun) → FunsMean (known ++ map known_of cs) gs fs
      → ItemsMean bounds (top_with structs consts again) known (is ++ map item.Fun gs) ds cs fs
  items_then [] known [] [] h gs fs k = funs_last known gs fs (subst (λ all. FunsMean all gs fs) (append-nil known) k)
  items_then [] known [] (c ∷ cs) h gs fs k = absurd h
  items_then [] known (d ∷ ds) cs h gs fs k = absurd h
  items_then (item.Struct x ys ∷ is) known [] cs h gs fs k = absurd h
  items_then (item.Struct x ys ∷ is) known (d ∷ ds) cs h gs fs k =
      let m = h.0 in
      (record { name = m.name; fields = fields_stay known ys d.fields m.fields; distinct = m.distinct }, items_then is known ds cs h.1 gs fs k)
  items_then (item.Const x e ∷ is) known ds [] h gs fs k = absurd h
  items_then (item.Const x e ∷ is) known ds (c ∷ cs) h gs fs k =
      let m = h.1 in
      let kept = (const_kept known x e h.0 c m).0 in
      let same : known_of c ≡ record { name = x; number = h.0 } = λ i. record { name = m.name i; number = ap natural_of m.same i } in
      let whole : known ++ map known_of (c ∷ cs) ≡ (known ++ record { name = x; number = h.0 } ∷ []) ++ map known_of cs = ap (λ q. known ++ q ∷ map known_of cs) same ∙ sym (append_assoc known (record { name = x; number = h.0 } ∷ []) (map known_of cs)) in
      (h.0, kept, items_then is (known ++ record { name = x; number = h.0 } ∷ []) ds cs h.2 gs fs (subst (λ all. FunsMean all gs fs) whole k))
  items_then (item.Fun g ∷ is) known ds cs h gs fs k = absurd h
  items_then (item.Pragma w t ∷ is) known ds cs h gs fs k = absurd h
