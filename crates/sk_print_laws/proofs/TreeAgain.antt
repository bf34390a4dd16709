-- A tree like the printed one means the program that was printed, spans aside.
use Rattle.std.proofs.Common.{◌≡◌, ℕ, zero, suc, Bool, true, false, List, [], ◌∷◌, ◌++◌, map, length, Option, Some, None, refl, sym, ap, ◌∙◌, subst}
use Rattle.std.specs.Prelude.{◌&&◌, ◌||◌, not, IsTrue, slice_get}
use Rattle.std.specs.List.{list_all, list_any, flat_map}
use Rattle.std.proofs.lemmas.List.Folds.{list_all-map}
use Rattle.sk_base.specs.declared.bounds.Bounds.{Bounds}
use Rattle.sk_tree.specs.declared.expr.Expr.{Expr}
use Rattle.sk_tree.specs.declared.stmt.Stmt.{Stmt}
use Rattle.sk_tree.specs.declared.item.TyTree.{TyTree}
use Rattle.sk_tree.specs.declared.item.Field.{Field}
use Rattle.sk_tree.specs.declared.item.Param.{Param}
use Rattle.sk_tree.specs.declared.item.FunItem.{FunItem}
use Rattle.sk_tree.specs.declared.item.Item.{Item}
use Rattle.sk_tree.specs.declared.item.Item.TheVariants as item
use Rattle.sk_tree.specs.declared.item.Tree.{Tree}
use Rattle.sk_prog.specs.declared.ty.Ty.{Ty}
use Rattle.sk_prog.specs.declared.ids.FunId.{FunId}
use Rattle.sk_prog.specs.declared.stmt.PStmt.{PStmt}
use Rattle.sk_prog.specs.declared.prog.FunKind.{FunKind}
use Rattle.sk_prog.specs.declared.prog.FunKind.TheVariants as pkind
use Rattle.sk_prog.specs.declared.prog.FieldDef.{FieldDef}
use Rattle.sk_prog.specs.declared.prog.StructDef.{StructDef}
use Rattle.sk_prog.specs.declared.prog.ConstDef.{ConstDef}
use Rattle.sk_prog.specs.declared.prog.ParamDef.{ParamDef}
use Rattle.sk_prog.specs.declared.prog.Fun.{Fun}
use Rattle.sk_prog.specs.declared.prog.Prog.{Prog}
use Rattle.sk_prog.specs.Spanless as W
use Rattle.sk_types_rules.specs.Erase.{erase_ty, erase_any_ty, erase_kind, erase_implements, erase_struct, erase_param}
use Rattle.sk_types_rules.specs.Rules.{int}
use Rattle.sk_types_rules.specs.Scope.{all_distinct, Signature, signature_of, Top, top_of, top_names, Known, Context}
use Rattle.sk_types_rules.specs.Plain.{all_made, plainly, plain_stmts, plain_fun, plain_items, plain, is_yes, stmt_steps, item_steps}
use Rattle.sk_types_rules.specs.Types.{most_of, room, most, StmtMeans, BlockMeans, ParamsMean, parameters, kind_of, ResultMeans, is_generator, ImplementsMeans, FunMeans, StructFieldsMean, StructMeans, ConstMeans, ItemsMean, is_free, stmt_free, fun_free, struct_free, has_generator, names_free, Types}
use Rattle.sk_types_laws.specs.Envs.{AreDistinct}
use Rattle.sk_types_laws.proofs.Ats.{both_true}
use Rattle.sk_print_laws.specs.Printed.{stmt_shown, printed_expr, printed_const, printed_fun, printed}
use Rattle.sk_print_laws.specs.SpanlessTree as T
use Rattle.sk_print_laws.specs.TreesMean.{TreesMean}
use Rattle.sk_print_laws.proofs.NamesBack.{fun_back}
use Rattle.sk_print_laws.proofs.MeansAgain.{expr_again}
use Rattle.sk_print_laws.proofs.TypesAgain.{type_again}
use Rattle.sk_print_laws.proofs.CountsAgain.{constant_again}
use Rattle.sk_print_laws.proofs.Shaped.{stmt_shaped, item_shaped, items_shaped}
use Rattle.sk_print_laws.proofs.StmtsAgain.{block_is_again}

-- Items that differ in spans alone from one of a kind

struct_item : (i : Item) (x : List ℕ) (ys : List Field) → T.spanless_item i ≡ item.Struct x ys → (zs : List Field) × (i ≡ item.Struct x zs) × (map T.spanless_field zs ≡ ys)
struct_item (item.Struct y zs) x ys h = let e : y ≡ x = cc in (zs, ap (λ n. item.Struct n zs) e, cc)
struct_item (item.Pragma word text) x ys h = cc
struct_item (item.Const y e) x ys h = cc
struct_item (item.Fun g) x ys h = cc

const_item : (i : Item) (x : List ℕ) (e : Expr) → T.spanless_item i ≡ item.Const x e → (d : Expr) × (i ≡ item.Const x d) × (T.spanless_expr d ≡ e)
const_item (item.Const y d) x e h = let k : y ≡ x = cc in (d, ap (λ n. item.Const n d) k, cc)
const_item (item.Pragma word text) x e h = cc
const_item (item.Struct y ys) x e h = cc
const_item (item.Fun g) x e h = cc

fun_item : (i : Item) (g : FunItem) → T.spanless_item i ≡ item.Fun g → (k : FunItem) × (i ≡ item.Fun k) × (T.spanless_fun k ≡ g)
fun_item (item.Fun k) g h = (k, refl, cc)
fun_item (item.Pragma word text) g h = cc
fun_item (item.Struct y ys) g h = cc
fun_item (item.Const y e) g h = cc

-- Lists with the same tests

plains_same : (es : List Stmt) → plain_stmts es ≡ all_made (map plainly es)
plains_same [] = refl
plains_same (e ∷ es) = ap (λ z. (plainly e).made ++ z) (plains_same es)

frees_same : (ps qs : List PStmt) → map stmt_free ps ≡ map stmt_free qs → list_all stmt_free ps ≡ list_all stmt_free qs
frees_same ps qs h = sym (list_all-map is_yes stmt_free ps) ∙ ap (list_all is_yes) h ∙ list_all-map is_yes stmt_free qs

funs_free : (fs gs : List Fun) → map fun_free fs ≡ map fun_free gs → list_all fun_free fs ≡ list_all fun_free gs
funs_free fs gs h = sym (list_all-map is_yes fun_free fs) ∙ ap (list_all is_yes) h ∙ list_all-map is_yes fun_free gs

generators : (fs gs : List Fun) → map signature_of fs ≡ map signature_of gs → list_any (λ (f : Fun). is_generator f.kind) fs ≡ list_any (λ (f : Fun). is_generator f.kind) gs
generators [] [] h = refl
generators [] (g ∷ gs) h = cc
generators (f ∷ fs) [] h = cc
generators (f ∷ fs) (g ∷ gs) h =
    let one : signature_of f ≡ signature_of g = cc in
    let rest : map signature_of fs ≡ map signature_of gs = cc in
    λ i. is_generator (one i).kind || generators fs gs rest i

kind_back : (prog : Prog) (k : FunKind) → kind_of (erase_kind prog k) ≡ k
kind_back prog pkind.Plain = refl
kind_back prog pkind.Harness = refl
kind_back prog pkind.Generator = refl

module _ (prog : Prog) (bounds : Bounds) where
  abbrev context : List Known → Context
  context known = record { bounds = bounds; top = top_of prog; known = known }

  -- What is known of the parts of a program that a tree means, each where it stands in that tree

  abbrev StructOk : StructDef → Type 0
  StructOk d = (known : List Known) × (x : List ℕ) × (ys : List Field) × StructMeans (context known) x ys d

  abbrev StructsOk : List StructDef → Type 0
  StructsOk [] = Unit {0}
  StructsOk (d ∷ ds) = StructOk d × StructsOk ds

  abbrev ConstsOk : List Known → List ConstDef → Type 0
  ConstsOk known [] = Unit {0}
  ConstsOk known (c ∷ cs) = (x : List ℕ) × (e : Expr) × (n : ℕ) × ConstMeans (context known) x e n c × ConstsOk (known ++ record { name = x; number = n } ∷ []) cs

  abbrev FunOk : Fun → Type 0
  FunOk f = (known : List Known) × (g : FunItem) × FunMeans (context known) g f × (list_all stmt_shaped g.body ≡ true)

  abbrev FunsOk : List Fun → Type 0
  FunsOk [] = Unit {0}
  FunsOk (f ∷ fs) = FunOk f × FunsOk fs

  record AreOk (known : List Known) (ds : List StructDef) (cs : List ConstDef) (fs : List Fun) : Type 0 where
    structs : StructsOk ds
    consts : ConstsOk known cs
    funs : FunsOk fs

  taken : (known : List Known) (is : List Item) (ds : List StructDef) (cs : List ConstDef) (fs : List Fun) → ItemsMean bounds (top_of prog) known is ds cs fs → list_all item_shaped is ≡ true → AreOk known ds cs fs
  taken known [] [] [] [] m h = record { structs = tt; consts = tt; funs = tt }
  taken known (item.Struct x ys ∷ is) (d ∷ ds) cs fs m h =
      let rest = taken known is ds cs fs m.1 (both_true (item_shaped (item.Struct x ys)) (list_all item_shaped is) h).1 in
      record { structs = ((known, x, ys, m.0), rest.structs); consts = rest.consts; funs = rest.funs }
  taken known (item.Const x e ∷ is) ds (c ∷ cs) fs m h =
      let rest = taken (known ++ record { name = x; number = m.0 } ∷ []) is ds cs fs m.2 (both_true (item_shaped (item.Const x e)) (list_all item_shaped is) h).1 in
      record { structs = rest.structs; consts = (x, e, m.0, m.1, rest.consts); funs = rest.funs }
  taken known (item.Fun g ∷ is) ds cs (f ∷ fs) m h =
      let k = both_true (item_shaped (item.Fun g)) (list_all item_shaped is) h in
      let rest = taken known is ds cs fs m.1 k.1 in
      record { structs = rest.structs; consts = rest.consts; funs = ((known, g, m.0, k.0), rest.funs) }
  taken known [] [] [] (f ∷ fs) m h = absurd m
  taken known [] [] (c ∷ cs) fs m h = absurd m
  taken known [] (d ∷ ds) cs fs m h = absurd m
  taken known (item.Pragma word text ∷ is) ds cs fs m h = absurd m
  taken known (item.Struct x ys ∷ is) [] cs fs m h = absurd m
  taken known (item.Const x e ∷ is) ds [] fs m h = absurd m
  taken known (item.Fun g ∷ is) ds cs [] m h = absurd m

  distinct_at : (ds : List StructDef) → StructsOk ds → (i : ℕ) (d : StructDef) → slice_get ds i ≡ Some d → IsTrue (all_distinct (map (λ (y : FieldDef). y.name) d.fields))
  distinct_at [] h i d is = cc
  distinct_at (c ∷ ds) h zero d is =
      let e : c ≡ d = cc in
      subst (λ (z : StructDef). IsTrue (all_distinct (map (λ (y : FieldDef). y.name) z.fields))) e (((h.0).3).distinct)
  distinct_at (c ∷ ds) h (suc i) d is = distinct_at ds h.1 i d is

  module _ (good : AreDistinct (top_of prog)) where
    -- Structs

    abbrev as_field : FieldDef → Field
    as_field f = record { ty = erase_ty prog f.ty; name = f.name }

    fields_again : (known again : List Known) (ys : List Field) (ds : List FieldDef) → StructFieldsMean (context known) ys ds → (zs : List Field) → map T.spanless_field zs ≡ map T.spanless_field (map as_field ds) → StructFieldsMean (context again) zs ds
    fields_again known again [] [] m [] h = tt
    fields_again known again [] [] m (z ∷ zs) h = cc
    fields_again known again (y ∷ ys) (d ∷ ds) m [] h = cc
    fields_again known again (y ∷ ys) (d ∷ ds) m (z ∷ zs) h =
        let a : T.spanless_field z ≡ T.spanless_field (as_field d) = cc in
        let b : map T.spanless_field zs ≡ map T.spanless_field (map as_field ds) = cc in
        (sym (ap (λ (f : Field). f.name) a), type_again prog bounds known again [] good y.ty d.ty m.1 z.ty (ap (λ (f : Field). f.ty) a), fields_again known again ys ds m.2 zs b)
    fields_again known again [] (d ∷ ds) m zs h = absurd m
    fields_again known again (y ∷ ys) [] m zs h = absurd m

    -- Functions

    params_again : (known again : List Known) (ps : List Param) (ds : List ParamDef) → ParamsMean (context known) ps ds → (qs : List Param) → map T.spanless_param qs ≡ map T.spanless_param (map (erase_param prog) ds) → ParamsMean (context again) qs ds
    params_again known again [] [] m [] h = tt
    params_again known again [] [] m (q ∷ qs) h = cc
    params_again known again (p ∷ ps) (d ∷ ds) m [] h = cc
    params_again known again (p ∷ ps) (d ∷ ds) m (q ∷ qs) h =
        let a : T.spanless_param q ≡ T.spanless_param (erase_param prog d) = cc in
        let b : map T.spanless_param qs ≡ map T.spanless_param (map (erase_param prog) ds) = cc in (
          record { name = sym (ap (λ (x : Param). x.name) a); type = type_again prog bounds known again [] good p.ty d.ty (m.0).type q.ty (ap (λ (x : Param). x.ty) a); by_ref = sym (ap (λ (x : Param). x.by_ref) a) },
          params_again known again ps ds m.1 qs b,
        )
    params_again known again [] (d ∷ ds) m qs h = absurd m
    params_again known again (p ∷ ps) [] m qs h = absurd m

    result_again : (known again : List Known) (y : Option TyTree) (t : Option Ty) → ResultMeans (context known) y t → (z : Option TyTree) → T.any_spanless_ty z ≡ T.any_spanless_ty (erase_any_ty prog t) → ResultMeans (context again) z t
    result_again known again None None m None h = tt
    result_again known again None None m (Some z) h = cc
    result_again known again (Some y) (Some t) m None h = cc
    result_again known again (Some y) (Some t) m (Some z) h =
        let a : T.spanless_ty z ≡ T.spanless_ty (erase_ty prog t) = cc in
        type_again prog bounds known again [] good y t m z a
    result_again known again None (Some t) m z h = absurd m
    result_again known again (Some y) None m z h = absurd m

    implements_back : (s : Signature) (x : Option (List ℕ)) (i : Option FunId) → ImplementsMeans (top_of prog) s x i → erase_implements prog i ≡ x
    implements_back s None None m = refl
    implements_back s (Some x) (Some i) m = ap Some (fun_back prog [] x i m.0)
    implements_back s None (Some i) m = absurd m
    implements_back s (Some x) None m = absurd m

    abbrev as_fun : Fun → FunItem
    as_fun f = record { kind = erase_kind prog f.kind; result = erase_any_ty prog f.result; name = f.name; params = map (erase_param prog) f.params; implements = erase_implements prog f.implements; body = flat_map (λ s. stmt_shown prog s false) f.body }

    record FunIs (f : Fun) (again : List Known) (k : FunItem) : Type 0 where
      made : Fun
      means : FunMeans (context again) (plain_fun k) made
      signature : signature_of made ≡ signature_of f
      free : fun_free made ≡ fun_free f
      same : W.spanless_fun made ≡ W.spanless_fun f
      steps : list_all stmt_steps k.body ≡ true

    fun_again : (f : Fun) → FunOk f → (again : List Known) (k : FunItem) → T.spanless_fun k ≡ T.spanless_fun (as_fun f) → FunIs f again k
    fun_again f ok again k h =
        let known = ok.0 in
        let g = ok.1 in
        let m = ok.2 in
        let b = block_is_again prog bounds known again f.result good f.body 0 (parameters f.params) g.body m.body ok.3 k.body (ap (λ (x : FunItem). x.body) h) in
        let kind : k.kind ≡ erase_kind prog f.kind = ap (λ (x : FunItem). x.kind) h in
        let implements : k.implements ≡ g.implements = ap (λ (x : FunItem). x.implements) h ∙ implements_back (signature_of f) g.implements f.implements m.implements in
        record {
          made = record { name = f.name; kind = f.kind; result = f.result; params = f.params; slots = f.slots; implements = f.implements; body = b.made };
          means = record {
            name = sym (ap (λ (x : FunItem). x.name) h);
            kind = sym (kind_back prog f.kind) ∙ ap kind_of (sym kind);
            result = result_again known again g.result f.result m.result k.result (ap (λ (x : FunItem). x.result) h);
            implements = subst (λ x. ImplementsMeans (top_of prog) (signature_of f) x f.implements) (sym implements) m.implements;
            params = params_again known again g.params f.params m.params k.params (ap (λ (x : FunItem). x.params) h);
            signature = m.signature;
            distinct = m.distinct;
            body = subst (λ ds. BlockMeans (λ p. p) (StmtMeans (context again) f.result) 0 (parameters f.params) b.made ds) (sym (plains_same k.body ∙ b.plain)) b.means;
            slots = m.slots ∙ ap (λ rs. most_of rs (length f.params)) (sym b.rooms);
          };
          signature = refl;
          free = ap (λ z. list_all (λ (d : ParamDef). is_free d.name) f.params && z) (frees_same b.made f.body b.frees);
          same = ap (λ z. record { name = f.name; kind = f.kind; result = f.result; params = f.params; slots = f.slots; implements = f.implements; body = z }) b.same;
          steps = sym (list_all-map is_yes stmt_steps k.body) ∙ b.steps;
        }

    -- Items, in the order of the printed tree

    record ItemsAgain (known : List Known) (ds : List StructDef) (cs : List ConstDef) (fs : List Fun) (is : List Item) : Type 0 where
      consts : List ConstDef
      funs : List Fun
      items : ItemsMean bounds (top_of prog) known (plain_items is) ds consts funs
      steps : list_all item_steps is ≡ true
      names : map (λ (c : ConstDef). c.name) consts ≡ map (λ (c : ConstDef). c.name) cs
      signatures : map signature_of funs ≡ map signature_of fs
      frees : map fun_free funs ≡ map fun_free fs
      consts_same : map W.spanless_const consts ≡ map W.spanless_const cs
      funs_same : map W.spanless_fun funs ≡ map W.spanless_fun fs

    funs_again : (fs : List Fun) → FunsOk fs → (known : List Known) (is : List Item) → map T.spanless_item is ≡ map T.spanless_item (map (printed_fun prog) fs) → ItemsAgain known [] [] fs is
    funs_again [] ok known [] h = record { consts = []; funs = []; items = tt; steps = refl; names = refl; signatures = refl; frees = refl; consts_same = refl; funs_same = refl }
    funs_again [] ok known (i ∷ is) h = cc
    funs_again (f ∷ fs) ok known [] h = cc
    funs_again (f ∷ fs) ok known (i ∷ is) h =
        let a : T.spanless_item i ≡ item.Fun (T.spanless_fun (as_fun f)) = cc in
        let b : map T.spanless_item is ≡ map T.spanless_item (map (printed_fun prog) fs) = cc in
        let k = fun_item i (T.spanless_fun (as_fun f)) a in
        let r = fun_again f ok.0 known k.0 k.2 in
        let rest = funs_again fs ok.1 known is b in
        subst (λ z. ItemsAgain known [] [] (f ∷ fs) (z ∷ is)) (sym k.1) (record {
          consts = rest.consts;
          funs = r.made ∷ rest.funs;
          items = consts_none rest.consts rest.names r.made rest.funs k.0 r.means rest.items;
          steps = λ j. r.steps j && rest.steps j;
          names = rest.names;
          signatures = λ j. r.signature j ∷ rest.signatures j;
          frees = λ j. r.free j ∷ rest.frees j;
          consts_same = rest.consts_same;
          funs_same = λ j. r.same j ∷ rest.funs_same j;
        })
      where
        consts_none : (cs : List ConstDef) → map (λ (c : ConstDef). c.name) cs ≡ [] → (f : Fun) (gs : List Fun) (k : FunItem) → FunMeans (context known) (plain_fun k) f → ItemsMean bounds (top_of prog) known (plain_items is) [] cs gs → ItemsMean bounds (top_of prog) known (item.Fun (plain_fun k) ∷ plain_items is) [] cs (f ∷ gs)
        consts_none [] h f gs k m r = (m, r)
        consts_none (c ∷ cs) h f gs k m r = cc

    consts_again : (cs : List ConstDef) (fs : List Fun) → FunsOk fs → (known : List Known) → ConstsOk known cs → (is : List Item) → map T.spanless_item is ≡ map T.spanless_item (map (printed_const prog) cs ++ map (printed_fun prog) fs) → ItemsAgain known [] cs fs is
    consts_again [] fs ok known consts is h = funs_again fs ok known is h
    consts_again (c ∷ cs) fs ok known consts [] h = cc
    consts_again (c ∷ cs) fs ok known consts (i ∷ is) h =
        let a : T.spanless_item i ≡ item.Const c.name (T.spanless_expr (printed_expr prog c.value)) = cc in
        let b : map T.spanless_item is ≡ map T.spanless_item (map (printed_const prog) cs ++ map (printed_fun prog) fs) = cc in
        let k = const_item i c.name (T.spanless_expr (printed_expr prog c.value)) a in
        let d = k.0 in
        let e = consts.1 in
        let n = consts.2 in
        let m = consts.3 in
        let more : ConstsOk (known ++ record { name = c.name; number = n } ∷ []) cs = subst (λ x. ConstsOk (known ++ record { name = x; number = n } ∷ []) cs) (sym m.name) consts.4 in
        let r = expr_again prog bounds known known [] good c.value e (m.value).means d k.2 in
        let made : ConstDef = record { name = c.name; value = r.made; number = c.number } in
        let rest = consts_again cs fs ok (known ++ record { name = c.name; number = n } ∷ []) more is b in
        let means : ConstMeans (context known) c.name d n made = record { name = refl; value = record { means = r.means; type = r.type ∙ (m.value).type }; number = constant_again prog bounds known [] c.value e (m.value).means n m.number d k.2; same = m.same } in
        subst (λ z. ItemsAgain known [] (c ∷ cs) fs (z ∷ is)) (sym k.1) (record {
          consts = made ∷ rest.consts;
          funs = rest.funs;
          items = (n, means, rest.items);
          steps = rest.steps;
          names = λ j. c.name ∷ rest.names j;
          signatures = rest.signatures;
          frees = rest.frees;
          consts_same = λ j. record { name = c.name; value = r.same j; number = c.number } ∷ rest.consts_same j;
          funs_same = rest.funs_same;
        })

    structs_again : (ds : List StructDef) (cs : List ConstDef) (fs : List Fun) → StructsOk ds → ConstsOk [] cs → FunsOk fs → (is : List Item) → map T.spanless_item is ≡ map T.spanless_item (map (erase_struct prog) ds ++ (map (printed_const prog) cs ++ map (printed_fun prog) fs)) → ItemsAgain [] ds cs fs is
    structs_again [] cs fs structs consts funs is h = consts_again cs fs funs [] consts is h
    structs_again (d ∷ ds) cs fs structs consts funs [] h = cc
    structs_again (d ∷ ds) cs fs structs consts funs (i ∷ is) h =
        let a : T.spanless_item i ≡ item.Struct d.name (map T.spanless_field (map as_field d.fields)) = cc in
        let b : map T.spanless_item is ≡ map T.spanless_item (map (erase_struct prog) ds ++ (map (printed_const prog) cs ++ map (printed_fun prog) fs)) = cc in
        let k = struct_item i d.name (map T.spanless_field (map as_field d.fields)) a in
        let m = (structs.0).3 in
        let means : StructMeans (context []) d.name k.0 d = record { name = refl; fields = fields_again (structs.0).0 [] (structs.0).2 d.fields m.fields k.0 k.2; distinct = m.distinct } in
        let rest = structs_again ds cs fs structs.1 consts funs is b in
        subst (λ z. ItemsAgain [] (d ∷ ds) cs fs (z ∷ is)) (sym k.1) (record {
          consts = rest.consts;
          funs = rest.funs;
          items = (means, rest.items);
          steps = rest.steps;
          names = rest.names;
          signatures = rest.signatures;
          frees = rest.frees;
          consts_same = rest.consts_same;
          funs_same = rest.funs_same;
        })

-- The program

pub trees_mean_again : TreesMean
trees_mean_again bounds tree prog types again h =
    let ok = taken prog bounds [] (plain tree).items prog.structs prog.consts prog.funs types.items (items_shaped tree.items) in
    let good : AreDistinct (top_of prog) = distinct_at prog bounds prog.structs ok.structs in
    let r = structs_again prog bounds good prog.structs prog.consts prog.funs ok.structs ok.consts ok.funs again.items (ap (λ (t : Tree). t.items) h) in
    let typed : Prog = record { structs = prog.structs; consts = r.consts; funs = r.funs } in
    let top : top_of typed ≡ top_of prog = λ i. record { structs = prog.structs; consts = r.names i; funs = r.signatures i } in
    let generated : has_generator typed ≡ has_generator prog = generators r.funs prog.funs r.signatures in
    let free : names_free typed ≡ names_free prog = λ i. list_all is_free (top_names (top i)) && (list_all struct_free prog.structs && funs_free r.funs prog.funs r.frees i) in (
      typed,
      record {
        steps = r.steps;
        items = subst (λ (t : Top). ItemsMean bounds t [] (plain_items again.items) prog.structs r.consts r.funs) (sym top) r.items;
        distinct = ap (λ (t : Top). all_distinct (top_names t)) top ∙ types.distinct;
        kept = (λ i. not (generated i) || free i) ∙ types.kept;
      },
      λ i. record { structs = prog.structs; consts = r.consts_same i; funs = r.funs_same i },
    )
