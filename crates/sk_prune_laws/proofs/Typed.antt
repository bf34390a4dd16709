-- A pruned expansion without sites keeps the rules, and is well-formed.
use Rattle.std.proofs.Common.{◌≡◌, ℕ, zero, suc, ◌+◌, Bool, true, false, ◌&&◌, ◌||◌, not, List, [], ◌∷◌, ◌++◌, map, length, Option, Some, None, refl, sym, ap, subst, ◌∙◌, arith, append_assoc}
use Rattle.std.specs.Prelude.{IsTrue, max, slice_get, slice_index_or, option_map}
use Rattle.std.specs.List.{list_all, list_any}
use Rattle.std.proofs.lemmas.Bool.{and_parts}
use Rattle.std.proofs.lemmas.List.{length-map}
use Rattle.std.proofs.lemmas.Option.{slice_get-map}
use Rattle.sk_base.specs.declared.bounds.Bounds.{Bounds}
use Rattle.sk_tree.specs.declared.item.TyTree.{TyTree}
use Rattle.sk_tree.specs.declared.item.Param.{Param}
use Rattle.sk_tree.specs.declared.item.FunItem.{FunItem}
use Rattle.sk_tree.specs.declared.item.Item.{Item}
use Rattle.sk_tree.specs.declared.item.Item.TheVariants as item
use Rattle.sk_tree.specs.declared.item.Tree.{Tree}
use Rattle.sk_tree.specs.declared.stmt.Stmt.{Stmt}
use Rattle.sk_tree.specs.Placed.{stmt_placed, fun_placed, item_placed}
use Rattle.sk_prog.specs.declared.ids.FunId.{FunId}
use Rattle.sk_prog.specs.declared.ty.Ty.{Ty}
use Rattle.sk_prog.specs.declared.stmt.PStmt.{PStmt}
use Rattle.sk_prog.specs.declared.prog.StructDef.{StructDef}
use Rattle.sk_prog.specs.declared.prog.ConstDef.{ConstDef}
use Rattle.sk_prog.specs.declared.prog.ParamDef.{ParamDef}
use Rattle.sk_prog.specs.declared.prog.FunKind.{FunKind}
use Rattle.sk_prog.specs.declared.prog.FunKind.TheVariants as kind
use Rattle.sk_prog.specs.declared.prog.Fun.{Fun}
use Rattle.sk_prog.specs.declared.prog.Prog.{Prog}
use Rattle.sk_prog.specs.Names.{struct_names, const_names, fun_names, stmt_names, all_names}
use Rattle.sk_prog.specs.Fits.{is_name, prog_fits}
use Rattle.sk_types_rules.specs.declared.scope.Variable.{Variable}
use Rattle.sk_types_rules.specs.Scope.{all_distinct, Signature, Known, Context, signature_of, top_of, top_names}
use Rattle.sk_types_rules.specs.Types.{Types, FunMeans, ItemsMean, ParamsMean, ResultMeans, ImplementsMeans, variable_of, parameters, is_generator, names_free, most}
use Rattle.sk_types_rules.specs.Plain.{plain_fun, plain_items, item_steps}
use Rattle.sk_types_rules.specs.WellTyped.{expr_patterns, WellTyped}
use Rattle.sk_types_fit_laws.proofs.Whole.{well_formed}
use Rattle.sk_model.specs.declared.expanded.Expanded.{Expanded}
use Rattle.sk_model.specs.Parts.{Part, rank, in_turn}
use Rattle.sk_model.specs.Slots.{stmts_slots}
use Rattle.sk_model.specs.Sites.{stmts_sites, funs_sites, sites}
use Rattle.sk_model.specs.Fill.{before_body, stmt_part}
use Rattle.sk_model.specs.Filled.{expr_filled, fun_filled}
use Rattle.sk_holes_laws.specs.Holes.{Below, AreWide}
use Rattle.sk_holes_laws.specs.Sizes.{Sized, SizedScope, SizedSignature, SizedFuns}
use Rattle.sk_holes_laws.specs.Filling.{context_with, signature_names, Every}
use Rattle.sk_holes_laws.specs.Fillings.{Filling, StandsIn, IsSet}
use Rattle.sk_holes_laws.specs.Expanded.{all_known, IsExpanded}
use Rattle.sk_holes_laws.proofs.Stmts.{one, two, StmtOk, BlockFilled, stmt_fills, block_fills}
use Rattle.sk_holes_laws.proofs.Trees.{AllFine}
use Rattle.sk_holes_laws.proofs.Carried.{function_meant}
use Rattle.sk_holes_laws.proofs.Written.{type_stays}
use Rattle.sk_holes_laws.proofs.Slots.{slots_are_most}
use Rattle.sk_holes_laws.proofs.Funs.{body_is_plain, body_has_no_steps}
use Rattle.sk_holes_laws.proofs.Ranks.{marked, marked_named, marked_there, place_there}
use Rattle.sk_holes_laws.proofs.NamesFilled.{funs_named}
use Rattle.sk_holes_laws.proofs.TreesNamed.{items_told}
use Rattle.sk_holes_laws.proofs.Patterns.{expr_holds, funs_hold}
use Rattle.sk_holes_laws.proofs.Tops.{params_sized, result_sized, structs_good, known_first, distinct_front, marked_map, consts_filled, FunsMean, items_then}
use Rattle.sk_prune.specs.Called.{called}
use Rattle.sk_prune.specs.Renamed.{any_id, renamed}
use Rattle.sk_prune.specs.Stays.{Stays, AreMarks}
use Rattle.sk_prune.specs.Stays as stays
use Rattle.sk_prune.specs.Trimmed.{trimmed}
use Rattle.sk_prune.specs.Pruned.{trimmed_fun, trimmed_funs, renamed_fun, kept_funs}
use Rattle.sk_prune_laws.specs.Typed.{PrunedKeepRules}
use Rattle.sk_prune_laws.proofs.Full.{none_of}
use Rattle.sk_prune_laws.proofs.Runs.{every_contained}
use Rattle.sk_prune_laws.proofs.Keeps.{trimmed_keeps}
use Rattle.sk_prune_laws.proofs.Named.{rest_named}
use Rattle.sk_prune_laws.proofs.Plain.{rest_sites, rest_fills, rest_full, rest_calls}

some_of : {A B : Type 0} (v : A → B) (o : Option A) (y : B) → option_map v o ≡ Some y → (a : A) × (o ≡ Some a) × (v a ≡ y)
some_of v None y h = cc
some_of v (Some a) y h = let e : v a ≡ y = cc in (a, refl, e)

sized_parameters : (ds : List ParamDef) → ((i : ℕ) (d : ParamDef) → slice_get ds i ≡ Some d → Sized d.ty) → SizedScope (parameters ds)
sized_parameters [] h i v is = cc
sized_parameters (d ∷ ds) h zero v is = let e : variable_of d ≡ v = cc in subst (λ (v : Variable). Sized v.ty) e (h 0 d refl)
sized_parameters (d ∷ ds) h (suc i) v is = sized_parameters ds (λ j c at. h (suc j) c at) i v is

body_placed : (es : List Stmt) → AllFine es → list_all stmt_placed es ≡ true
body_placed [] h = refl
body_placed (e ∷ es) h = λ i. (h.0).placed i && body_placed es h.1 i

sites_at : (bounds : Bounds) (fs : List Fun) (n : ℕ) (f : Fun) → slice_get fs n ≡ Some f → funs_sites bounds fs ≡ [] → stmts_sites bounds f.body ≡ []
sites_at bounds [] n f h k = cc
sites_at bounds (g ∷ gs) zero f h k = let e : g ≡ f = cc in subst (λ (x : Fun). stmts_sites bounds x.body ≡ []) e (none_of (stmts_sites bounds g.body) (funs_sites bounds gs) k).0
sites_at bounds (g ∷ gs) (suc n) f h k = sites_at bounds gs n f h (none_of (stmts_sites bounds g.body) (funs_sites bounds gs) k).1

named_at : (test : List ℕ → Bool) (fs : List Fun) (n : ℕ) (f : Fun) → slice_get fs n ≡ Some f → list_all (fun_names test) fs ≡ true → fun_names test f ≡ true
named_at test [] n f h k = cc
named_at test (g ∷ gs) zero f h k = let e : g ≡ f = cc in subst (λ (x : Fun). fun_names test x ≡ true) e (and_parts (fun_names test g) (list_all (fun_names test) gs) k).0
named_at test (g ∷ gs) (suc n) f h k = named_at test gs n f h (and_parts (fun_names test g) (list_all (fun_names test) gs) k).1

module _ (bounds : Bounds) (x : Expanded) (wide : AreWide bounds) (h : IsExpanded bounds x) (none : sites bounds x.prog ≡ []) (marks : List Bool) (are : AreMarks (trimmed_funs x.prog bounds.int_bits) marks) where
  abbrev width : ℕ
  width = bounds.int_bits

  abbrev number : ℕ → ℕ
  number = rank marks

  abbrev cut : Fun → Fun
  cut = trimmed_fun x.prog.consts width

  abbrev rest : List PStmt → List PStmt
  rest = trimmed x.prog.consts width

  abbrev consts : List (List ℕ)
  consts = map (λ (c : ConstDef). c.name) x.prog.consts

  abbrev signs : List Signature
  signs = map signature_of x.prog.funs

  abbrev again : List Signature
  again = marked marks signs

  abbrev filling : List Known → Filling
  filling known = record { bounds = bounds; structs = x.prog.structs; consts = consts; funs = signs; again = again; known = known; all = all_known x.prog; stands = marks; values = [] }

  sign_at : (n : ℕ) (f : Fun) → slice_get x.prog.funs n ≡ Some f → slice_get signs n ≡ Some (signature_of f)
  sign_at n f is = slice_get-map signature_of x.prog.funs n ∙ ap (option_map signature_of) is

  cut_at : (n : ℕ) (f : Fun) → slice_get x.prog.funs n ≡ Some f → slice_get (trimmed_funs x.prog width) n ≡ Some (cut f)
  cut_at n f is = slice_get-map cut x.prog.funs n ∙ ap (option_map cut) is

  fun_at : (n : ℕ) (s : Signature) → slice_get signs n ≡ Some s → (f : Fun) × (slice_get x.prog.funs n ≡ Some f) × (signature_of f ≡ s)
  fun_at n s is = some_of signature_of (slice_get x.prog.funs n) s (sym (slice_get-map signature_of x.prog.funs n) ∙ is)

  signs_sized : SizedFuns signs
  signs_sized n s is =
      let f = fun_at n s is in
      let e = h.funs n f.0 f.1 in
      let keeps = e.keeps in
      let head = keeps.head in
      let context : Context = record { bounds = bounds; top = top_of x.prog; known = e.known } in
      subst SizedSignature f.2 (record { params = params_sized context (keeps.item).params (f.0).params head.params; result = result_sized context (keeps.item).result (f.0).result head.result })

  set : (known later : List Known) → known ++ later ≡ all_known x.prog → IsSet (filling known)
  set known later e = record {
    wide = wide;
    distinct = λ i d is. (structs_good bounds (top_of x.prog) h.items [] x.prog.structs x.prog.consts h.means i d is).distinct;
    fields = λ i d is. (structs_good bounds (top_of x.prog) h.items [] x.prog.structs x.prog.consts h.means i d is).sized;
    signatures = signs_sized;
    carries = record {
      named = λ y n at stands. let s = place_there signs y n at in marked_named marks signs y n at (stands s.0 s.1);
      there = λ n s at stands. marked_there marks signs n s at (stands s at);
    };
    knows = known_first known later (all_known x.prog) e;
  }

  -- what stays is marked, where it is there
  stands_in : (known : List Known) (n : ℕ) → Stays (trimmed_funs x.prog width) n → StandsIn (filling known) n
  stands_in known n stay s is = let f = fun_at n s is in are.marked n (cut f.0) (cut_at n f.0 f.1) stay

  -- Heads

  module _ (known : List Known) (setting : IsSet (filling known)) where
    abbrev first : Context
    first = one (filling known) setting

    abbrev second : Context
    second = two (filling known) setting

    result_stays : (r : Option TyTree) (t : Option Ty) → ResultMeans first r t → ResultMeans second r t
    result_stays None None k = tt
    result_stays (Some y) (Some t) k = type_stays bounds x.prog.structs consts signs again known (all_known x.prog) [] setting.knows y t k
    result_stays None (Some t) k = absurd k
    result_stays (Some y) None k = absurd k

    params_stay : (ps : List Param) (ds : List ParamDef) → ParamsMean first ps ds → ParamsMean second ps ds
    params_stay [] [] k = tt
    params_stay (p ∷ ps) (d ∷ ds) k =
        let m = k.0 in
        (record { name = m.name; type = type_stays bounds x.prog.structs consts signs again known (all_known x.prog) [] setting.knows p.ty d.ty m.type; by_ref = m.by_ref }, params_stay ps ds k.1)
    params_stay [] (d ∷ ds) k = absurd k
    params_stay (p ∷ ps) [] k = absurd k

    implements_stay : (s : Signature) (y : Option (List ℕ)) (i : Option FunId) → ((g : FunId) → i ≡ Some g → StandsIn (filling known) g.index) → ImplementsMeans first.top s y i → ImplementsMeans second.top s y (any_id number i)
    implements_stay s None None stand k = tt
    implements_stay s (Some y) (Some i) stand k =
        let carries = setting.carries in
        let stands = stand i refl in
        let meant = function_meant bounds x.prog.structs consts signs again known (all_known x.prog) [] (StandsIn (filling known)) number carries y i stands k.0 in
        (meant, k.1, carries.there i.index k.1 k.2 stands, k.3)
    implements_stay s None (Some i) stand k = absurd k
    implements_stay s (Some y) None stand k = absurd k

    every_ok : (result : Option Ty) (large : _) (ps : List PStmt) → Every (StmtOk (filling known) setting result large) ps
    every_ok result large [] = tt
    every_ok result large (p ∷ ps) = (stmt_fills (filling known) setting result large p, every_ok result large ps)

  -- Functions

  abbrev all_two : Context
  all_two = context_with bounds x.prog.structs consts again (all_known x.prog)

  record FunGood (q : Fun) : Type 0 where
    item : FunItem
    means : FunMeans all_two item q
    fine : AllFine item.body
    placed : fun_placed item ≡ true
    no_generator : is_generator q.kind ≡ false
    filled : fun_filled q ≡ true
    named : fun_names is_name q ≡ true

  -- Names

  words : (list_all (struct_names is_name) x.prog.structs ≡ true) × ((list_all (const_names is_name) x.prog.consts && list_all (fun_names is_name) x.prog.funs) ≡ true)
  words = and_parts (list_all (struct_names is_name) x.prog.structs) (list_all (const_names is_name) x.prog.consts && list_all (fun_names is_name) x.prog.funs) h.words

  more_words : (list_all (const_names is_name) x.prog.consts ≡ true) × (list_all (fun_names is_name) x.prog.funs ≡ true)
  more_words = and_parts (list_all (const_names is_name) x.prog.consts) (list_all (fun_names is_name) x.prog.funs) words.1

  nothing_before : (k : FunKind) (ps : List PStmt) → before_body k [] ++ ps ≡ ps
  nothing_before kind.Harness ps = refl
  nothing_before kind.Plain ps = refl
  nothing_before kind.Generator ps = refl

  fun_named : (n : ℕ) (g : Fun) → slice_get x.prog.funs n ≡ Some g → fun_names is_name (renamed_fun number (cut g)) ≡ true
  fun_named n g is =
      let params : Bool = list_all (λ (d : ParamDef). is_name d.name) g.params in
      let a = and_parts (is_name g.name) (params && list_all (stmt_names is_name) g.body) (named_at is_name x.prog.funs n g is more_words.1) in
      let b = and_parts params (list_all (stmt_names is_name) g.body) a.1 in
      let left = rest_named is_name x.prog.consts width g.body b.1 in
      let quiet = sites_at bounds x.prog.funs n g is none in
      let cut_named : fun_names is_name (cut g) ≡ true = λ i. a.0 i && (b.0 i && left i) in
      let all = funs_named is_name [] number [] (true ∷ []) (cut g ∷ []) 0 (λ i. cut_named i && true) in
      let filled : PStmt → Part PStmt = stmt_part [] number in
      let whole : List PStmt = before_body g.kind [] ++ in_turn (map filled (rest g.body)) 0 in
      let c = and_parts (is_name g.name && (params && list_all (stmt_names is_name) whole)) true all in
      let d = and_parts (is_name g.name) (params && list_all (stmt_names is_name) whole) c.0 in
      let e = and_parts params (list_all (stmt_names is_name) whole) d.1 in
      let body = subst (λ ps. list_all (stmt_names is_name) ps ≡ true) (nothing_before g.kind (in_turn (map filled (rest g.body)) 0) ∙ rest_fills bounds number (λ m. Unit {0}) x.prog.consts width g.body quiet 0) e.1 in
      λ i. a.0 i && (b.0 i && body i)

  fun_good : (n : ℕ) (g : Fun) → slice_get x.prog.funs n ≡ Some g → slice_index_or marks n false ≡ true → FunGood (renamed_fun number (cut g))
  fun_good n g is there =
      let e = h.funs n g is in
      let keeps = e.keeps in
      let head = keeps.head in
      let setting = set e.known e.later e.constants in
      let f : Filling = filling e.known in
      let sizes = signs_sized n (signature_of g) (sign_at n g is) in
      let context : Context = record { bounds = bounds; top = top_of x.prog; known = e.known } in
      let scope : List Variable = parameters g.params in
      let variables = sized_parameters g.params sizes.params in
      let quiet = sites_at bounds x.prog.funs n g is none in
      let stay = are.stay n there in
      let keep = trimmed_keeps context g.result x.prog.consts width g.body 0 scope keeps.body in
      let low = subst (λ zs. Below [] 0 zs) (sym (rest_sites bounds number (StandsIn f) x.prog.consts width g.body quiet)) tt in
      let calls = rest_calls bounds number (StandsIn f) x.prog.consts width g.body quiet 0 (every_contained (StandsIn f) (called (rest g.body)) (λ m c. stands_in e.known m (stays.Called n (cut g) stay (cut_at n g is) c))) in
      let r = block_fills f setting g.result sizes.result (rest g.body) (every_ok e.known setting g.result sizes.result (rest g.body)) 0 scope variables keep 0 (low, calls) in
      let b : BlockFilled f setting g.result sizes.result 0 scope (renamed number (rest g.body)) = subst (λ qs. BlockFilled f setting g.result sizes.result 0 scope qs) (rest_fills bounds number (StandsIn f) x.prog.consts width g.body quiet 0) r in
      let body : List PStmt = renamed number (rest g.body) in
      let it : FunItem = record { kind = (keeps.item).kind; result = (keeps.item).result; name = (keeps.item).name; params = (keeps.item).params; implements = (keeps.item).implements; body = b.trees } in
      let long : length scope ≡ length g.params = length-map g.params variable_of in
      let slots : max (length scope) (stmts_slots body) ≡ most body (length scope) = slots_are_most (two f setting) g.result body 0 scope b.trees b.mean in
      let result_placed = head.result_placed in
      let params_placed = head.params_placed in
      let stmts = body_placed b.trees b.fine in
      record {
        item = it;
        means = record {
          name = head.name;
          kind = head.kind;
          result = result_stays e.known setting (keeps.item).result g.result head.result;
          implements = implements_stay e.known setting (signature_of g) (keeps.item).implements g.implements (λ i k. stands_in e.known i.index (stays.Reference n (cut g) i (cut_at n g is) k refl)) head.implements;
          params = params_stay e.known setting (keeps.item).params g.params head.params;
          signature = head.signature;
          distinct = head.distinct;
          body = b.mean;
          slots = subst (λ k. max k (stmts_slots body) ≡ most body k) long slots;
        };
        fine = b.fine;
        placed = λ j. result_placed j && params_placed j && stmts j;
        no_generator = keeps.no_generator;
        filled = rest_full bounds number (StandsIn f) x.prog.consts width g.body quiet;
        named = fun_named n g is;
      }

  abbrev made : List Bool → List Fun → List Fun
  made bs fs = kept_funs number bs (map cut fs)

  -- functions from one with this number on
  record Stretch (bs : List Bool) (fs : List Fun) (n : ℕ) : Type 0 where
    there : (j : ℕ) (g : Fun) → slice_get fs j ≡ Some g → slice_get x.prog.funs (n + j) ≡ Some g
    same : (j : ℕ) → slice_index_or bs j false ≡ slice_index_or marks (n + j) false

  next : (b : Bool) (bs : List Bool) (g : Fun) (fs : List Fun) (n : ℕ) → Stretch (b ∷ bs) (g ∷ fs) n → Stretch bs fs (n + 1)
  next b bs g fs n s = record {
    there = λ j k is. let e : n + suc j ≡ n + 1 + j = omega arith in ap (slice_get x.prog.funs) (sym e) ∙ s.there (suc j) k is;
    same = λ j. let e : n + suc j ≡ n + 1 + j = omega arith in s.same (suc j) ∙ ap (λ m. slice_index_or marks m false) e;
  }

  all_good : (bs : List Bool) (fs : List Fun) (n : ℕ) → Stretch bs fs n → Every FunGood (made bs fs)
  all_good [] fs n s = tt
  all_good (true ∷ bs) [] n s = tt
  all_good (false ∷ bs) [] n s = tt
  all_good (true ∷ bs) (g ∷ fs) n s =
      let e : n + 0 ≡ n = omega arith in
      let is = ap (slice_get x.prog.funs) (sym e) ∙ s.there 0 g refl in
      let there = ap (λ m. slice_index_or marks m false) (sym e) ∙ sym (s.same 0) in
      (fun_good n g is there, all_good bs fs (n + 1) (next true bs g fs n s))
  all_good (false ∷ bs) (g ∷ fs) n s = all_good bs fs (n + 1) (next false bs g fs n s)

  start : Stretch marks x.prog.funs 0
  start = record { there = λ j g is. let e : j ≡ 0 + j = omega arith in ap (slice_get x.prog.funs) (sym e) ∙ is; same = λ j. let e : j ≡ 0 + j = omega arith in ap (λ m. slice_index_or marks m false) e }

  signatures : (bs : List Bool) (fs : List Fun) → map signature_of (made bs fs) ≡ marked bs (map signature_of fs)
  signatures [] fs = refl
  signatures (true ∷ bs) [] = refl
  signatures (false ∷ bs) [] = refl
  signatures (true ∷ bs) (f ∷ fs) = ap (λ ss. signature_of f ∷ ss) (signatures bs fs)
  signatures (false ∷ bs) (f ∷ fs) = signatures bs fs

  every_filled : (qs : List Fun) → Every FunGood qs → list_all fun_filled qs ≡ true
  every_filled [] k = refl
  every_filled (q ∷ qs) k =
      let one_filled = (k.0).filled in
      let more = every_filled qs k.1 in
      λ i. one_filled i && more i

  -- Items

  record Items (qs : List Fun) : Type 0 where
    items : List FunItem
    mean : FunsMean bounds x.prog.structs consts signs again (all_known x.prog) items qs
    plain : plain_items (map item.Fun items) ≡ map item.Fun items
    steps : list_all item_steps (map item.Fun items) ≡ true
    placed : list_all item_placed (map item.Fun items) ≡ true
    no_generator : list_any (λ (f : Fun). is_generator f.kind) qs ≡ false

  items_of : (qs : List Fun) → Every FunGood qs → Items qs
  items_of [] k = record { items = []; mean = tt; plain = refl; steps = refl; placed = refl; no_generator = refl }
  items_of (q ∷ qs) k =
      let more = items_of qs k.1 in
      let this = k.0 in
      let g : FunItem = this.item in
      let plain : plain_fun g ≡ g = ap (λ body. record { kind = g.kind; result = g.result; name = g.name; params = g.params; implements = g.implements; body = body }) (body_is_plain g.body this.fine) in
      let steps = body_has_no_steps g.body this.fine in
      record {
        items = g ∷ more.items;
        mean = (this.means, more.mean);
        plain = λ i. item.Fun (plain i) ∷ more.plain i;
        steps = λ i. steps i && more.steps i;
        placed = λ i. this.placed i && more.placed i;
        no_generator = λ i. this.no_generator i || more.no_generator i;
      }

  front_plain : (is : List Item) (known : List Known) (ds : List StructDef) (cs : List ConstDef) → ItemsMean bounds (top_of x.prog) known is ds cs [] → (rest : List Item) → plain_items rest ≡ rest → plain_items (is ++ rest) ≡ is ++ rest
  front_plain [] known ds cs m rest e = e
  front_plain (item.Struct y ys ∷ is) known [] cs m rest e = absurd m
  front_plain (item.Struct y ys ∷ is) known (d ∷ ds) cs m rest e = ap (λ js. item.Struct y ys ∷ js) (front_plain is known ds cs m.1 rest e)
  front_plain (item.Const y v ∷ is) known ds [] m rest e = absurd m
  front_plain (item.Const y v ∷ is) known ds (c ∷ cs) m rest e = ap (λ js. item.Const y v ∷ js) (front_plain is (known ++ record { name = y; number = m.0 } ∷ []) ds cs m.2 rest e)
  front_plain (item.Fun g ∷ is) known ds cs m rest e = absurd m
  front_plain (item.Pragma w t ∷ is) known ds cs m rest e = absurd m

  front_steps : (is : List Item) (known : List Known) (ds : List StructDef) (cs : List ConstDef) → ItemsMean bounds (top_of x.prog) known is ds cs [] → (rest : List Item) → list_all item_steps rest ≡ true → list_all item_steps (is ++ rest) ≡ true
  front_steps [] known ds cs m rest e = e
  front_steps (item.Struct y ys ∷ is) known [] cs m rest e = absurd m
  front_steps (item.Struct y ys ∷ is) known (d ∷ ds) cs m rest e = front_steps is known ds cs m.1 rest e
  front_steps (item.Const y v ∷ is) known ds [] m rest e = absurd m
  front_steps (item.Const y v ∷ is) known ds (c ∷ cs) m rest e = front_steps is (known ++ record { name = y; number = m.0 } ∷ []) ds cs m.2 rest e
  front_steps (item.Fun g ∷ is) known ds cs m rest e = absurd m
  front_steps (item.Pragma w t ∷ is) known ds cs m rest e = absurd m

  front_placed : (is rest : List Item) → list_all item_placed is ≡ true → list_all item_placed rest ≡ true → list_all item_placed (is ++ rest) ≡ true
  front_placed [] rest a b = b
  front_placed (i ∷ is) rest a b =
      let c = and_parts (item_placed i) (list_all item_placed is) a in
      let more = front_placed is rest c.1 b in
      λ j. c.0 j && more j

  consts_hold : (prog : Prog) (cs : List ConstDef) → list_all (λ (c : ConstDef). expr_filled c.value) cs ≡ true → list_all (λ (c : ConstDef). expr_patterns prog c.value) cs ≡ true
  consts_hold prog [] e = refl
  consts_hold prog (c ∷ cs) e =
      let b = and_parts (expr_filled c.value) (list_all (λ (c : ConstDef). expr_filled c.value) cs) e in
      let this = expr_holds prog c.value b.0 in
      let more = consts_hold prog cs b.1 in
      λ i. this i && more i

  abbrev kept : List Fun
  kept = made marks x.prog.funs

  abbrev prog : Prog
  prog = record x.prog { funs = kept }

  good : Every FunGood kept
  good = all_good marks x.prog.funs 0 start

  const_values : list_all (λ (c : ConstDef). expr_filled c.value) x.prog.consts ≡ true
  const_values = consts_filled bounds x.prog.structs consts signs again h.items [] x.prog.structs x.prog.consts h.means

  r : Items kept
  r = items_of kept good

  abbrev fs : List Item
  fs = map item.Fun r.items

  abbrev tree : Tree
  tree = record { items = h.items ++ fs }

  top_is : record { structs = x.prog.structs; consts = consts; funs = again } ≡ top_of prog
  top_is = ap (λ funs. record { structs = x.prog.structs; consts = consts; funs = funs }) (sym (signatures marks x.prog.funs))

  plain_is : plain_items tree.items ≡ tree.items
  plain_is = front_plain h.items [] x.prog.structs x.prog.consts h.means fs r.plain

  abbrev struct_names_of : List (List ℕ)
  struct_names_of = map (λ (d : StructDef). d.name) x.prog.structs

  distinct_is : all_distinct (top_names (top_of prog)) ≡ true
  distinct_is =
      let front = distinct_front (struct_names_of ++ consts) marks (signature_names signs) (ap all_distinct (append_assoc struct_names_of consts (signature_names signs)) ∙ h.distinct) in
      let names_are : top_names (record { structs = x.prog.structs; consts = consts; funs = again }) ≡ (struct_names_of ++ consts) ++ marked marks (signature_names signs) = ap (λ ns. struct_names_of ++ (consts ++ ns)) (marked_map (λ (s : Signature). s.name) marks signs) ∙ sym (append_assoc struct_names_of consts (marked marks (signature_names signs))) in
      ap (λ top. all_distinct (top_names top)) (sym top_is) ∙ ap all_distinct names_are ∙ front

  mean_is : ItemsMean bounds (top_of prog) [] tree.items x.prog.structs x.prog.consts kept
  mean_is = subst (λ top. ItemsMean bounds top [] tree.items x.prog.structs x.prog.consts kept) top_is (items_then bounds x.prog.structs consts signs again h.items [] x.prog.structs x.prog.consts h.means r.items kept r.mean)

  filled_is : list_all fun_filled kept ≡ true
  filled_is = every_filled kept good

  types_are : Types tree bounds prog
  types_are = record {
    steps = front_steps h.items [] x.prog.structs x.prog.consts h.means fs r.steps;
    items = subst (λ is. ItemsMean bounds (top_of prog) [] is x.prog.structs x.prog.consts kept) (sym plain_is) mean_is;
    distinct = distinct_is;
    kept = ap (λ b. not b || names_free prog) r.no_generator;
  }

  well : WellTyped prog bounds
  well = record {
    tree = tree;
    placed = front_placed h.items fs h.placed r.placed;
    types = types_are;
    patterns = (let consts_ok = consts_hold prog x.prog.consts const_values in let funs_ok = funs_hold prog kept filled_is in λ i. consts_ok i && funs_ok i);
  }

  every_named : (qs : List Fun) → Every FunGood qs → list_all (fun_names is_name) qs ≡ true
  every_named [] k = refl
  every_named (q ∷ qs) k =
      let this = (k.0).named in
      let more = every_named qs k.1 in
      λ i. this i && more i

  fits : IsTrue (prog_fits prog)
  fits =
      let named = every_named kept good in
      let a = words.0 in
      let b = more_words.0 in
      let all : all_names is_name prog ≡ true = λ i. a i && (b i && named i) in
      let told = items_told is_name prog all bounds tree.items [] refl x.prog.structs x.prog.consts kept mean_is a b named const_values filled_is in
      well_formed bounds tree prog told types_are

pub pruned_keep_rules : PrunedKeepRules
pruned_keep_rules bounds x q wide h none p =
    let k = p.funs in
    let same : record { structs = x.prog.structs; consts = x.prog.consts; funs = kept_funs (rank k.marks) k.marks (trimmed_funs x.prog bounds.int_bits) } ≡ q = λ i. record { structs = sym p.structs i; consts = sym p.consts i; funs = sym k.is i } in
    subst (λ (z : Prog). WellTyped z bounds × IsTrue (prog_fits z)) same (well bounds x wide h none k.marks k.are, fits bounds x wide h none k.marks k.are)
