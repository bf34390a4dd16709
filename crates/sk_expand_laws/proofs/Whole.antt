-- The expansion of a program that keeps the rules: its functions, and the whole.
use Rattle.std.proofs.Common.{◌≡◌, ℕ, zero, suc, ◌+◌, ◌<◌, ◌≤◌, Bool, true, false, List, [], ◌∷◌, ◌++◌, length, Option, Some, None, refl, sym, ap, ◌∙◌, subst, arith, inl, inr}
use Rattle.std.specs.Prelude.{◌&&◌, ◌||◌, ◌⊎◌, ◌^◌, not, map, slice_get, IsTrue, if◌then◌else◌}
use Rattle.std.specs.List.{list_all}
use Rattle.std.specs.Str.{bytes_eq}
use Rattle.std.proofs.lemmas.Bool.{and_parts}
use Rattle.std.proofs.lemmas.Option.{slice_get_within}
use Rattle.sk_base.specs.declared.span.Span.{Span}
use Rattle.sk_base.specs.declared.bounds.Bounds.{Bounds}
use Rattle.sk_tree.specs.declared.expr.Expr.{Expr}
use Rattle.sk_tree.specs.declared.expr.EForm.TheVariants as teform
use Rattle.sk_tree.specs.declared.expr.EForm.TheOpen as E
use Rattle.sk_tree.specs.declared.item.FunKind.TheVariants as tkind
use Rattle.sk_tree.specs.declared.item.FunItem.{FunItem}
use Rattle.sk_tree.specs.declared.item.Item.{Item}
use Rattle.sk_tree.specs.Placed.{Place, any_ty_placed, param_placed}
use Rattle.sk_prog.specs.declared.ids.FunId.{FunId}
use Rattle.sk_prog.specs.declared.ty.Ty.{Ty}
use Rattle.sk_prog.specs.declared.expr.PExpr.{PExpr}
use Rattle.sk_prog.specs.declared.expr.PEForm.TheVariants as eform
use Rattle.sk_prog.specs.declared.expr.PEForm.TheOpen as P
use Rattle.sk_prog.specs.declared.expr.PEForm.TheViews as V
use Rattle.sk_prog.specs.declared.stmt.PStmt.{PStmt}
use Rattle.sk_prog.specs.declared.stmt.PForm.TheVariants as form
use Rattle.sk_prog.specs.declared.stmt.PForm.TheOpen as S
use Rattle.sk_prog.specs.declared.stmt.PForm.TheViews as W
use Rattle.sk_prog.specs.declared.prog.FieldDef.{FieldDef}
use Rattle.sk_prog.specs.declared.prog.StructDef.{StructDef}
use Rattle.sk_prog.specs.declared.prog.ConstDef.{ConstDef}
use Rattle.sk_prog.specs.declared.prog.ParamDef.{ParamDef}
use Rattle.sk_prog.specs.declared.prog.Fun.{Fun}
use Rattle.sk_prog.specs.declared.prog.Prog.{Prog}
use Rattle.sk_prog.specs.Names.{stmt_names, struct_names, const_names, fun_names, eform_names, form_names}
use Rattle.sk_prog.specs.Fits.{is_name, ty_fits, any_ty_fits, expr_fits, stmt_fits, field_fits, struct_fits, const_fits, param_fits, implements_fits, fun_fits, prog_fits}
use Rattle.sk_types_rules.specs.declared.scope.Variable.{Variable}
use Rattle.sk_types_rules.specs.Rules.{bit}
use Rattle.sk_types_rules.specs.Scope.{latest, Signature, signature_of, Top, top_of, top_names, Known, Context, all_distinct, meaning_of}
use Rattle.sk_types_rules.specs.Types.{EFormRule, ExprRule, is_free, stmt_free, fun_free, struct_free, has_generator, names_free, ParamsMean, ResultMeans, ImplementsMeans, FunMeans, variable_of, parameters, kind_of, may_be, may_implement, speaks_of_records, same_params, same_result, ItemsMean, Types, Means, StmtMeans, AllMean}
use Rattle.sk_types_rules.specs.Types as T
use Rattle.sk_types_rules.specs.Plain.{plain}
use Rattle.sk_types_rules.proofs.Layers.{FormMeans, form_means_are, means_from}
use Rattle.sk_types_laws.specs.Envs.{AreDistinct}
use Rattle.sk_model.specs.Parts.{rank, total}
use Rattle.sk_model.specs.Expand.{Made, is_generator, are_ordinary, ordinary_count, copy_name, copy_of, stub, calls_walk, all_left, renumbered, walked, walk_stmts, walk_funs, expand_prog, expand}
use Rattle.sk_model.proofs.Layers.{layer_false, layer_of_assert}
use Rattle.sk_holes_laws.specs.Keeping.{Keeping, SaidAt, InBlock, StmtKeeps, AllKeep}
use Rattle.sk_holes_laws.specs.Callees.{eform_callees, form_callees, stmt_callees, is_ahead}
use Rattle.sk_holes_laws.specs.Expanded.{known_of, IsOrdinary, FunIsExpanded, IsExpanded}
use Rattle.sk_expand_laws.specs.Copies.{Standing, IsBody, IsCopy, AreCopies}
use Rattle.sk_expand_laws.specs.Expansion.{ExpansionsAre}
use Rattle.sk_expand_laws.proofs.Ahead.{rank_below, calls_ahead}
use Rattle.sk_expand_laws.proofs.Calls.{NoneHides, function_named, function_means, calls_keep}
use Rattle.sk_expand_laws.proofs.Constants.{constant_again}
use Rattle.sk_expand_laws.proofs.Copied.{all_stand, copies_are_numbered}
use Rattle.sk_expand_laws.proofs.CopyNames.{free_other}
use Rattle.sk_expand_laws.proofs.Counts.{all_counts}
use Rattle.sk_expand_laws.proofs.Distinct.{same_kind, no_copies, names_stay}
use Rattle.sk_expand_laws.proofs.Few.{copies_are_few}
use Rattle.sk_expand_laws.proofs.Exprs.{CallsKeep, place_at, same_number}
use Rattle.sk_expand_laws.proofs.Items.{HasItem, fun_item, structs_distinct, Again, result_again, params_again, items_again}
use Rattle.sk_expand_laws.proofs.Keeps.{ActKeeps, keeps_are, stmt_keeps_is}
use Rattle.sk_expand_laws.proofs.Lists.{get_front, get_parts, get_map, map_get, get_same, placed_name, no_or, not_true}
use Rattle.sk_expand_laws.proofs.Ordinary.{IsFrom, function_from, function_found, count_is}
use Rattle.sk_expand_laws.proofs.Plain.{stmt_fine, item_fine, items_fine}
use Rattle.sk_expand_laws.proofs.Stmts.{written_again, stmts_again}
use Rattle.sk_expand_laws.proofs.Words.{stmts_ok}
use Rattle.sk_expand_laws.proofs.WordNames.{copy_is_name, words_of}

-- Lists

all_at : {X : Type 0} (test : X → Bool) (xs : List X) → ((i : ℕ) (x : X) → slice_get xs i ≡ Some x → test x ≡ true) → list_all test xs ≡ true
all_at test [] h = refl
all_at test (x ∷ xs) h = (λ i. h 0 x refl i && all_at test xs (λ j y at. h (suc j) y at) i)

at_all : {X : Type 0} (test : X → Bool) (xs : List X) (i : ℕ) (x : X) → list_all test xs ≡ true → slice_get xs i ≡ Some x → test x ≡ true
at_all test [] i x h at = cc
at_all test (y ∷ xs) zero x h at = let same : y ≡ x = cc in ap test (sym same) ∙ (and_parts (test y) (list_all test xs) h).0
at_all test (y ∷ xs) (suc i) x h at = at_all test xs i x (and_parts (test y) (list_all test xs) h).1 at

copy_at : (bounds : Bounds) (funs all cs : List Fun) (k : ℕ) → AreCopies bounds funs all k cs → (j : ℕ) (c : Fun) → slice_get cs j ≡ Some c → IsCopy bounds funs all (k + j) c
copy_at bounds funs all [] k a j c at = cc
copy_at bounds funs all (d ∷ cs) k a zero c at =
    let same : d ≡ c = cc in
    let e : k ≡ k + 0 = omega arith in
    subst (λ n. IsCopy bounds funs all n c) e (subst (λ c. IsCopy bounds funs all k c) same a.0)
copy_at bounds funs all (d ∷ cs) k a (suc j) c at =
    let e : (k + 1) + j ≡ k + suc j = omega arith in
    subst (λ n. IsCopy bounds funs all n c) e (copy_at bounds funs all cs (k + 1) a.1 j c at)

-- Parameters hide no copy.
params_lookup : (n : ℕ) (ds : List ParamDef) (x : List ℕ) → list_all (λ (d : ParamDef). not (bytes_eq d.name x)) ds ≡ true → latest n None (parameters ds) x ≡ None
params_lookup n [] x h = refl
params_lookup n (d ∷ ds) x h =
    let a = and_parts (not (bytes_eq d.name x)) (list_all (λ (d : ParamDef). not (bytes_eq d.name x)) ds) h in
    subst (λ b. latest (suc n) (if b then Some (record { slot = n; ty = d.ty }) else None) (parameters ds) x ≡ None) (sym (not_true (bytes_eq d.name x) a.0)) (params_lookup (suc n) ds x a.1)

-- `assert false;`

module _ (context : Context) (result : Option Ty) (s : Span) where
  abbrev falsity : PExpr
  falsity = record { span = s; ty = Some bit; form = eform.False }

  false_said : (scope : List Variable) → SaidAt context scope bit falsity
  false_said scope =
      let d : Expr = record { span = s; form = teform.False } in
      let m : FormMeans context scope eform.False (Some bit) d = subst (λ f. FormMeans context scope f (Some bit) d) V.rolls-False (subst (λ (M : EFormRule). M (Some bit) d) (sym (form_means_are context scope P.False)) (refl, refl)) in
      record { said = record { tree = d; means = means_from context scope falsity d refl m; placed = ap (λ (p : Place). p.placed) (place_at d E.False (sym teform.rolls-False)) }; type = refl }

  pub stub_keeps : (from : ℕ) (scope : List Variable) → InBlock (λ p. p) (StmtKeeps context result) from scope (stub s)
  stub_keeps from scope =
      let p : PStmt = record { span = s; form = form.Assert falsity } in
      let keeps : ActKeeps context result (form.Assert falsity) from scope = subst (λ g. ActKeeps context result g from scope) (W.rolls-Assert falsity) (subst (λ (K : Keeping). K from scope) (sym (keeps_are context result (S.Assert falsity))) (false_said scope)) in
      (subst (λ (K : Keeping). K from scope) (sym (stmt_keeps_is context result p)) keeps, tt)

stub_words : (s : Span) → list_all (stmt_names is_name) (stub s) ≡ true
stub_words s = ap (λ b. b && true) (
    layer_of_assert Bool Bool (form_names is_name) (λ s. s.form) s (falsity (record { bounds = record { unroll = 0; inline_amnt = 0; cbits = 0; inbits = 0; int_bits = 0 }; top = record { structs = []; consts = []; funs = [] }; known = [] }) None s)
    ∙ layer_false Bool Bool Bool (eform_names is_name) (λ x. x.form) (λ x. x.value) s (Some bit)
    )

stub_calls : (test : ℕ → Bool) (s : Span) → list_all (stmt_callees test) (stub s) ≡ true
stub_calls test s = ap (λ b. b && true) (
    layer_of_assert Bool Bool (form_callees test) (λ s. s.form) s (falsity (record { bounds = record { unroll = 0; inline_amnt = 0; cbits = 0; inbits = 0; int_bits = 0 }; top = record { structs = []; consts = []; funs = [] }; known = [] }) None s)
    ∙ layer_false Bool Bool Bool (eform_callees test) (λ x. x.form) (λ x. x.value) s (Some bit)
    )

module _ (prog : Prog) (bounds : Bounds) (is : List Item) (means : ItemsMean bounds (top_of prog) [] is prog.structs prog.consts prog.funs) (fine : list_all item_fine is ≡ true) (fits : prog_fits prog ≡ true) (kept : (not (has_generator prog) || names_free prog) ≡ true) (distinct : all_distinct (top_names (top_of (expand_prog prog bounds))) ≡ true) (small : length (walk_funs bounds prog.funs prog.funs 0).copies < 2 ^ 64) where
  abbrev made : Made (List Fun)
  made = walk_funs bounds prog.funs prog.funs 0

  abbrev old : Top
  old = top_of prog

  abbrev new : Top
  new = top_of (expand_prog prog bounds)

  abbrev consts : List (List ℕ)
  consts = map (λ (c : ConstDef). c.name) prog.consts

  abbrev funs : List Signature
  funs = map signature_of prog.funs

  abbrev others : List Signature
  others = map signature_of (made.made ++ made.copies)

  abbrev count : ℕ
  count = ordinary_count prog.funs

  abbrev under : List Known → Context
  under known = record { bounds = bounds; top = new; known = known }

  copies_are : AreCopies bounds prog.funs made.copies 0 made.copies
  copies_are = copies_are_numbered prog bounds

  copy_is : (j : ℕ) (c : Fun) → slice_get made.copies j ≡ Some c → IsCopy bounds prog.funs made.copies j c
  copy_is j c at = let e : 0 + j ≡ j = omega arith in subst (λ n. IsCopy bounds prog.funs made.copies n c) e (copy_at bounds prog.funs made.copies made.copies 0 copies_are j c at)

  good : AreDistinct new
  good i d at = structs_distinct bounds old [] is prog.structs prog.consts prog.funs means i d at

  -- Names

  hides : (x : List ℕ) → (has_generator prog ≡ true → is_free x ≡ true) → (k : ℕ) (c : Fun) → slice_get made.copies k ≡ Some c → bytes_eq x c.name ≡ false
  hides x free k c at = go (has_generator prog) refl
    where
      go : (b : Bool) → has_generator prog ≡ b → bytes_eq x c.name ≡ false
      go true gen =
          let r = copy_is k c at in
          let within = slice_get_within made.copies k c at in
          ap (λ (f : Fun). bytes_eq x f.name) r.is ∙ free_other x r.generator.name (k + 1) (omega (arith, within, small)) (free gen)
      go false gen =
          let none : made.copies ≡ [] = no_copies bounds prog.funs made.copies gen made.copies 0 copies_are in
          let e : slice_get [] k ≡ Some c = subst (λ cs. slice_get cs k ≡ Some c) none at in
          cc

  free_funs : has_generator prog ≡ true → list_all fun_free prog.funs ≡ true
  free_funs gen =
      let free : names_free prog ≡ true = ap (λ b. not b || names_free prog) (sym gen) ∙ kept in
      (and_parts (list_all struct_free prog.structs) (list_all fun_free prog.funs) (and_parts (list_all is_free (top_names old)) (list_all struct_free prog.structs && list_all fun_free prog.funs) free).1).1

  calls : (fuel : ℕ) (left : List ℕ) (scope : List Variable) → NoneHides made.copies scope → CallsKeep made.copies (calls_walk bounds prog.funs fuel left) old new scope
  calls fuel left scope shown = calls_keep prog bounds distinct scope shown fuel left

  none_hides : NoneHides made.copies []
  none_hides k c at = refl

  again : Again bounds old new
  again = record {
    written = λ known y t h. written_again bounds prog.structs consts funs others known made.copies (calls_walk bounds prog.funs 0 []) good (calls 0 []) None (has_generator prog) hides [] y t (calls 0 [] [] none_hides) h;
    number = λ known e. same_number bounds prog.structs consts funs others known [] made.copies (calls_walk bounds prog.funs 0 []) good (calls 0 [] [] none_hides) e;
    constant = λ known c e z m w. (constant_again bounds prog.structs consts funs others known [] c.value e z m w).means;
  }

  -- Functions

  fun_fit : (i : ℕ) (f : Fun) → slice_get prog.funs i ≡ Some f → fun_fits prog f ≡ true
  unfolding prog_fits
  fun_fit i f at =
      let a = and_parts (list_all (struct_fits prog) prog.structs) (list_all (const_fits prog) prog.consts && list_all (fun_fits prog) prog.funs) fits in
      at_all (fun_fits prog) prog.funs i f (and_parts (list_all (const_fits prog) prog.consts) (list_all (fun_fits prog) prog.funs) a.1).1 at

  record Fit (f : Fun) : Type 0 where
    name : is_name f.name ≡ true
    params : list_all (param_fits prog) f.params ≡ true
    body : list_all (stmt_fits prog f.slots) f.body ≡ true

  fit : (f : Fun) → fun_fits prog f ≡ true → Fit f
  fit f h =
      let a = and_parts (is_name f.name) _ h in
      let b = and_parts (any_ty_fits prog f.result) _ a.1 in
      let c = and_parts (list_all (param_fits prog) f.params) _ b.1 in
      let d = and_parts _ (implements_fits prog f.implements && list_all (stmt_fits prog f.slots) f.body) c.1 in
      record { name = a.0; params = c.0; body = (and_parts (implements_fits prog f.implements) (list_all (stmt_fits prog f.slots) f.body) d.1).1 }

  param_words : (ds : List ParamDef) → list_all (param_fits prog) ds ≡ true → list_all (λ (d : ParamDef). is_name d.name) ds ≡ true
  param_words [] h = refl
  param_words (d ∷ ds) h =
      let a = and_parts (param_fits prog d) (list_all (param_fits prog) ds) h in
      let b = and_parts (is_name d.name) (ty_fits prog d.ty) a.0 in
      (λ i. b.0 i && param_words ds a.1 i)

  params_show : (ds : List ParamDef) → (has_generator prog ≡ true → list_all (λ (d : ParamDef). is_free d.name) ds ≡ true) → NoneHides made.copies (parameters ds)
  params_show ds free k c at = params_lookup 0 ds c.name (all_other ds free)
    where
      all_other : (ds : List ParamDef) → (has_generator prog ≡ true → list_all (λ (d : ParamDef). is_free d.name) ds ≡ true) → list_all (λ (d : ParamDef). not (bytes_eq d.name c.name)) ds ≡ true
      all_other [] free = refl
      all_other (d ∷ ds) free =
          let e = hides d.name (λ gen. (and_parts (is_free d.name) (list_all (λ (d : ParamDef). is_free d.name) ds) (free gen)).0) k c at in
          (λ i. not (e i) && all_other ds (λ gen. (and_parts (is_free d.name) (list_all (λ (d : ParamDef). is_free d.name) ds) (free gen)).1) i)

  -- What is known of a function of the program, and of a walk of its body.
  module _ (place : ℕ) (f : Fun) (there : slice_get prog.funs place ≡ Some f) where
    has : HasItem bounds old [] (map known_of prog.consts) f
    has = fun_item bounds old [] is prog.structs prog.consts prog.funs means fine place f there

    placed : ((any_ty_placed has.tree.result && list_all param_placed has.tree.params) ≡ true) × (list_all stmt_fine has.tree.body ≡ true)
    placed = and_parts (any_ty_placed has.tree.result && list_all param_placed has.tree.params) (list_all stmt_fine has.tree.body) has.fine

    free_parts : has_generator prog ≡ true → (list_all (λ (d : ParamDef). is_free d.name) f.params ≡ true) × (list_all stmt_free f.body ≡ true)
    free_parts gen = and_parts (list_all (λ (d : ParamDef). is_free d.name) f.params) (list_all stmt_free f.body) (at_all fun_free prog.funs place f (free_funs gen) there)

    fitting : Fit f
    fitting = fit f (fun_fit place f there)

    module _ (fuel : ℕ) (left : List ℕ) (k : ℕ) (stands : Standing made.copies k (walk_stmts bounds (calls_walk bounds prog.funs fuel left) f.body k).copies) where
      abbrev body : List PStmt
      body = (walk_stmts bounds (calls_walk bounds prog.funs fuel left) f.body k).made

      body_keeps : AllKeep (under has.known) f.result 0 (parameters f.params) body
      body_keeps = stmts_again bounds prog.structs consts funs others has.known made.copies (calls_walk bounds prog.funs fuel left) good (calls fuel left) f.result (has_generator prog) hides f.body has.tree.body 0 (parameters f.params) k
          (params_show f.params (λ gen. (free_parts gen).0)) has.means.body placed.1 (λ gen. (free_parts gen).1) stands

      body_ok : (n begin : ℕ) → n < count + begin → begin ≤ k → (list_all (stmt_names is_name) body ≡ true) × (list_all (stmt_callees (is_ahead count n)) body ≡ true)
      body_ok n begin ahead le = stmts_ok bounds (calls_walk bounds prog.funs fuel left) prog f.slots begin (is_ahead count n) (calls_ahead prog bounds n begin ahead fuel left) f.body k le fitting.body
          (all_counts (record { bounds = bounds; top = old; known = has.known }) good f.result f.body 0 (parameters f.params) has.tree.body has.means.body)

  -- what is to be shown of each function
  record IsOk (n : ℕ) (f : Fun) : Type 0 where
    keeps : FunIsExpanded bounds (expand_prog prog bounds) count n f
    words : fun_names is_name f ≡ true

  -- An ordinary function implements an ordinary function.

  implements_again : (s : Signature) (o : Option (List ℕ)) (j : Option FunId) → ImplementsMeans old s o j → ImplementsMeans new s o (renumbered bounds prog.funs j) × IsOrdinary count (renumbered bounds prog.funs j)
  implements_again s None None m = (tt, tt)
  implements_again s (Some x) None m = absurd m
  implements_again s None (Some i) m = absurd m
  implements_again s (Some x) (Some i) m =
      let o = map_get signature_of prog.funs i.index m.1 m.2 in
      let fun = o.0 in
      let sig : signature_of fun ≡ m.1 = o.2 in
      let plain = and_parts (not (T.is_generator s.kind || T.is_generator m.1.kind)) (same_params s.params m.1.params && (same_result s.result m.1.result && not (speaks_of_records m.1.params m.1.result))) m.3 in
      let ordinary : is_generator fun.kind ≡ false = sym (same_kind fun.kind) ∙ ap (λ (s : Signature). T.is_generator s.kind) sig ∙ (no_or (T.is_generator s.kind) (T.is_generator m.1.kind) (not_true _ plain.0)).1 in
      let r = function_found bounds prog.funs made.copies prog.funs 0 i.index fun (all_stand made.copies) o.1 ordinary in
      let g = rank (are_ordinary prog.funs) i.index in
      let now : signature_of r.now ≡ m.1 = ap signature_of r.walked.is ∙ sig in
      let there : slice_get new.funs g ≡ Some (signature_of r.now) = get_map signature_of (made.made ++ made.copies) g r.now (get_front made.made made.copies g r.now r.there) in
      let names = map (λ (s : Signature). s.name) old.funs in
      let p = placed_name names x i.index (function_named old [] x i m.0).1 in
      let name : r.now.name ≡ x = ap (λ (s : Signature). s.name) now ∙ get_same _ m.1.name x (get_map (λ (s : Signature). s.name) old.funs i.index m.1 m.2) p in
      let meaning = function_means new [] g (signature_of r.now) distinct there refl in (
        (ap (meaning_of new []) (sym name) ∙ meaning, signature_of r.now, there, subst (λ t. IsTrue (may_implement s t)) (sym now) m.3),
        rank_below prog bounds i.index fun o.1 ordinary,
      )

  ordinary_ok : (n : ℕ) (f : Fun) → IsFrom bounds prog.funs made.copies prog.funs n f → n < count → IsOk n f
  ordinary_ok n f r below =
      let i = has r.place r.from r.there in
      let p = placed r.place r.from r.there in
      let a = and_parts (any_ty_placed i.tree.result) (list_all param_placed i.tree.params) p.0 in
      let t = fitting r.place r.from r.there in
      let fuel = total (all_left bounds prog.funs) in
      let left = all_left bounds prog.funs in
      let k = r.walked.at in
      let ps = body r.place r.from r.there fuel left k r.walked.copies in
      let keeps = body_keeps r.place r.from r.there fuel left k r.walked.copies in
      let ok = body_ok r.place r.from r.there fuel left k r.walked.copies n 0 (omega (arith, below)) (omega arith) in
      let impl = implements_again (signature_of r.from) i.tree.implements r.from.implements i.means.implements in
      let g = walked bounds prog.funs r.from ps in
      let whole : IsOk n g = record {
        keeps = record {
          known = i.known;
          later = i.later;
          constants = i.constants;
          keeps = record {
            item = i.tree;
            head = record {
              name = i.means.name;
              kind = i.means.kind;
              result = result_again bounds old new again i.known i.tree.result r.from.result i.means.result;
              implements = impl.0;
              params = params_again bounds old new again i.known i.tree.params r.from.params i.means.params;
              signature = i.means.signature;
              distinct = i.means.distinct;
              result_placed = a.0;
              params_placed = a.1;
            };
            no_generator = same_kind r.from.kind ∙ r.kind;
            implemented = impl.1;
            body = keeps;
            calls = ok.1;
          };
        };
        words = λ j. t.name j && (param_words r.from.params t.params j && ok.0 j);
      } in
      subst (λ f. IsOk n f) (sym r.walked.is) whole

  -- A generator implements nothing.
  no_implements : (s : Signature) (o : Option (List ℕ)) (j : Option FunId) → ImplementsMeans old s o j → T.is_generator s.kind ≡ true → j ≡ None
  no_implements s None None m gen = refl
  no_implements s (Some x) None m gen = absurd m
  no_implements s None (Some i) m gen = absurd m
  no_implements s (Some x) (Some i) m gen =
      let plain = and_parts (not (T.is_generator s.kind || T.is_generator m.1.kind)) (same_params s.params m.1.params && (same_result s.result m.1.result && not (speaks_of_records m.1.params m.1.result))) m.3 in
      let no = (no_or (T.is_generator s.kind) (T.is_generator m.1.kind) (not_true _ plain.0)).0 in
      let z : true ≡ false = sym gen ∙ no in
      cc

  module _ (j n : ℕ) (c : Fun) (r : IsCopy bounds prog.funs made.copies j c) (number : n ≡ count + j) (within : j < length made.copies) where
    abbrev from : Fun
    from = r.generator

    abbrev BodyOk : List PStmt → Type 0
    BodyOk ps = AllKeep (under (has r.place from r.there).known) from.result 0 (parameters from.params) ps × (list_all (stmt_names is_name) ps ≡ true) × (list_all (stmt_callees (is_ahead count n)) ps ≡ true)

    copy_body : ((span : Span) × (r.body ≡ stub span)) ⊎ IsBody bounds prog.funs made.copies from (j + 1) r.body → BodyOk r.body
    copy_body (inl h) = subst BodyOk (sym h.1) (stub_keeps (under (has r.place from r.there).known) from.result h.0 0 (parameters from.params), stub_words h.0, stub_calls (is_ahead count n) h.0)
    copy_body (inr h) =
        let keeps = body_keeps r.place from r.there h.fuel h.left (j + 1) h.copies in
        let ok = body_ok r.place from r.there h.fuel h.left (j + 1) h.copies n (j + 1) (omega (arith, number)) (omega arith) in
        subst BodyOk (sym h.made) (keeps, ok.0, ok.1)

    copy_ok : IsOk n c
    copy_ok =
        let i = has r.place from r.there in
        let p = placed r.place from r.there in
        let a = and_parts (any_ty_placed i.tree.result) (list_all param_placed i.tree.params) p.0 in
        let t = fitting r.place from r.there in
        let b = copy_body r.made in
        let none : from.implements ≡ None = no_implements (signature_of from) i.tree.implements from.implements i.means.implements (same_kind from.kind ∙ r.kind) in
        let x = copy_name from.name (j + 1) in
        let g : FunItem = record { kind = tkind.Plain; result = i.tree.result; name = x; params = i.tree.params; implements = None; body = i.tree.body } in
        let d = copy_of from (j + 1) r.body in
        let word = copy_is_name from.name (j + 1) (omega (arith, within, small)) t.name in
        let whole : IsOk n d = record {
          keeps = record {
            known = i.known;
            later = i.later;
            constants = i.constants;
            keeps = record {
              item = g;
              head = record {
                name = refl;
                kind = refl;
                result = result_again bounds old new again i.known i.tree.result from.result i.means.result;
                implements = subst (λ o. ImplementsMeans new (signature_of d) None o) (sym none) tt;
                params = params_again bounds old new again i.known i.tree.params from.params i.means.params;
                signature = refl;
                distinct = i.means.distinct;
                result_placed = a.0;
                params_placed = a.1;
              };
              no_generator = refl;
              implemented = subst (IsOrdinary count) (sym none) tt;
              body = b.0;
              calls = b.2;
            };
          };
          words = λ y. word y && (param_words from.params t.params y && b.1 y);
        } in
        subst (λ f. IsOk n f) (sym r.is) whole

  fun_ok : (n : ℕ) (f : Fun) → slice_get (made.made ++ made.copies) n ≡ Some f → IsOk n f
  fun_ok n f at = elim (get_parts made.made made.copies n f at) [
    | inl h ↦
        let many = count_is bounds prog.funs made.copies prog.funs 0 in
        let within = slice_get_within made.made n f h in
        ordinary_ok n f (function_from bounds prog.funs made.copies prog.funs 0 n f (all_stand made.copies) h) (omega (arith, many, within))
    | inr h ↦
        let many = count_is bounds prog.funs made.copies prog.funs 0 in
        let e = h.1 in
        copy_ok h.0 n f (copy_is h.0 f h.2) (omega (arith, many, e)) (slice_get_within made.copies h.0 f h.2)
  ]

  -- Words

  fields_words : (ys : List FieldDef) → list_all (field_fits prog) ys ≡ true → list_all (λ (y : FieldDef). is_name y.name) ys ≡ true
  fields_words [] h = refl
  fields_words (y ∷ ys) h =
      let a = and_parts (field_fits prog y) (list_all (field_fits prog) ys) h in
      let b = and_parts (is_name y.name) (ty_fits prog y.ty) a.0 in
      (λ i. b.0 i && fields_words ys a.1 i)

  structs_words : (ds : List StructDef) → list_all (struct_fits prog) ds ≡ true → list_all (struct_names is_name) ds ≡ true
  structs_words [] h = refl
  structs_words (d ∷ ds) h =
      let a = and_parts (struct_fits prog d) (list_all (struct_fits prog) ds) h in
      let b = and_parts (is_name d.name) (list_all (field_fits prog) d.fields) a.0 in
      (λ i. (b.0 i && fields_words d.fields b.1 i) && structs_words ds a.1 i)

  consts_words : (cs : List ConstDef) → list_all (const_fits prog) cs ≡ true → list_all (const_names is_name) cs ≡ true
  consts_words [] h = refl
  consts_words (c ∷ cs) h =
      let a = and_parts (const_fits prog c) (list_all (const_fits prog) cs) h in
      let b = and_parts (is_name c.name) (expr_fits prog 0 c.value) a.0 in
      (λ i. (b.0 i && words_of prog 0 c.value b.1 i) && consts_words cs a.1 i)

  pub whole : IsExpanded bounds (expand prog bounds)
  unfolding expand prog_fits
  whole =
      let a = and_parts (list_all (struct_fits prog) prog.structs) (list_all (const_fits prog) prog.consts && list_all (fun_fits prog) prog.funs) fits in
      let b = and_parts (list_all (const_fits prog) prog.consts) (list_all (fun_fits prog) prog.funs) a.1 in
      let r = items_again bounds old new again [] is prog.structs prog.consts prog.funs means fine in
      let words = all_at (fun_names is_name) (made.made ++ made.copies) (λ n f at. (fun_ok n f at).words) in
      record {
        items = r.items;
        placed = r.placed;
        means = r.means;
        distinct = distinct;
        words = λ i. structs_words prog.structs a.0 i && (consts_words prog.consts b.0 i && words i);
        funs = λ n f at. (fun_ok n f at).keeps;
        sites = refl;
      }

pub expansions_are : ExpansionsAre
unfolding expand
expansions_are bounds prog typed fits small =
    let few = copies_are_few prog bounds in
    let distinct = names_stay prog bounds typed.types.distinct typed.types.kept small in
    whole prog bounds (plain typed.tree).items typed.types.items (items_fine typed.tree.items typed.placed) fits typed.types.kept distinct (omega (arith, small, few))
