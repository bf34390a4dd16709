-- The expansion of a program that is tagged is tagged.
use Rattle.std.proofs.Common.{◌≡◌, ℕ, zero, suc, ◌+◌, Bool, true, false, ◌&&◌, List, [], ◌∷◌, map, length, Some, inl, inr, refl, sym, ap, subst, ◌∙◌}
use Rattle.std.specs.Prelude.{◌⊎◌, slice_get, slice_index_or, if◌then◌else◌}
use Rattle.std.specs.List.{list_all}
use Rattle.std.proofs.lemmas.Bool.{and_parts, ltb-true}
use Rattle.std.proofs.lemmas.List.Folds.{list_all-map}
use Rattle.sk_base.specs.declared.span.Span.{Span}
use Rattle.sk_base.specs.declared.bounds.Bounds.{Bounds}
use Rattle.sk_tree.specs.declared.item.Item.{Item}
use Rattle.sk_prog.specs.declared.ty.Ty.TheVariants as ty
use Rattle.sk_prog.specs.declared.ty.Elem.TheVariants as elem
use Rattle.sk_prog.specs.declared.expr.PExpr.{PExpr}
use Rattle.sk_prog.specs.declared.expr.PEForm.TheVariants as eform
use Rattle.sk_prog.specs.declared.expr.PEForm.TheOpen as P
use Rattle.sk_prog.specs.declared.expr.PEForm.TheViews as V
use Rattle.sk_prog.specs.declared.stmt.PStmt.{PStmt}
use Rattle.sk_prog.specs.declared.stmt.PForm.TheVariants as pform
use Rattle.sk_prog.specs.declared.stmt.PForm.TheOpen as S
use Rattle.sk_prog.specs.declared.stmt.PForm.TheViews as W
use Rattle.sk_prog.specs.declared.prog.Fun.{Fun}
use Rattle.sk_prog.specs.declared.prog.Prog.{Prog}
use Rattle.sk_prog.specs.Fits.{stmt_fits, struct_fits, const_fits, fun_fits, has_fun, prog_fits}
use Rattle.sk_prog.specs.Names.{is_yes}
use Rattle.sk_types_rules.specs.Scope.{top_of}
use Rattle.sk_types_rules.specs.Types.{ItemsMean}
use Rattle.sk_types_rules.specs.Plain.{plain}
use Rattle.sk_model.specs.Parts.{rank, total}
use Rattle.sk_model.specs.Expand.{Walk, pure, CallWalk, fun_id, is_generator, is_zero, are_ordinary, ordinary_count, copy_of, copied, stub, one_less, call_of, calls_walk, all_left, walk_stmts, expand}
use Rattle.sk_expand_laws.specs.Copies.{Standing, IsBody, IsCopy}
use Rattle.sk_expand_laws.proofs.Ahead.{get_there}
use Rattle.sk_expand_laws.proofs.Copied.{all_stand}
use Rattle.sk_expand_laws.proofs.Counts.{stmt_counts}
use Rattle.sk_expand_laws.proofs.Lists.{get_front, get_behind, get_parts}
use Rattle.sk_expand_laws.proofs.Ordinary.{IsFrom, function_from, function_found, count_is}
use Rattle.sk_expand_laws.proofs.Plain.{item_fine, items_fine}
use Rattle.sk_adt.specs.declared.algebraic.Algebraic.{Algebraic}
use Rattle.sk_adt.specs.Words.{each}
use Rattle.sk_adt_tags.specs.Tags.{Work, idle, all_of, params_of, work, fun_breaks, breaks}
use Rattle.sk_adt_tag_laws.specs.Fillings.{ExpansionsStayTagged}
use Rattle.sk_adt_tag_laws.proofs.Follow.{none_first, none_second, none_both, none_follows, quiet_tracks}
use Rattle.sk_adt_tag_laws.proofs.Ahead.{made, funs, copy_is, body_fits, body_counts}
use Rattle.sk_adt_tag_laws.proofs.WalkedExprs.{CallsStay, seen}
use Rattle.sk_adt_tag_laws.proofs.WalkedStmts.{shown, body_walks}

-- Lists

none_at : {X : Type 0} (f : X → List Span) (xs : List X) (i : ℕ) (x : X) → each (map f xs) ≡ [] → slice_get xs i ≡ Some x → f x ≡ []
none_at f [] i x h at = cc
none_at f (y ∷ xs) zero x h at = let e : y ≡ x = cc in ap f (sym e) ∙ none_first (f y) (each (map f xs)) h
none_at f (y ∷ xs) (suc i) x h at = none_at f xs i x (none_second (f y) (each (map f xs)) h) at

at_none : {X : Type 0} (f : X → List Span) (xs : List X) → ((i : ℕ) (x : X) → slice_get xs i ≡ Some x → f x ≡ []) → each (map f xs) ≡ []
at_none f [] h = refl
at_none f (y ∷ xs) h = none_both (f y) (each (map f xs)) (h 0 y refl) (at_none f xs (λ i x at. h (suc i) x at))

module _ (types : List Algebraic) (prog : Prog) (bounds : Bounds) where
  abbrev copies : List Fun
  copies = (made prog bounds).copies

  abbrev all : List Fun
  all = funs prog bounds

  -- Parameters of what calls become

  abbrev Stays : ℕ → ℕ → Type 0
  Stays f g = params_of (slice_get prog.funs f) ≡ params_of (slice_get all g)

  module _ (inner : CallWalk) (left : List ℕ) (s : Span) (f k : ℕ) (fun : Fun) (at : slice_get prog.funs f ≡ Some fun) where
    ordinary : is_generator fun.kind ≡ false → Stays f (rank (are_ordinary prog.funs) f)
    ordinary is =
        let r = function_found bounds prog.funs copies prog.funs 0 f fun (all_stand copies) at is in
        let g = rank (are_ordinary prog.funs) f in
        ap params_of at ∙ ap (λ (f : Fun). f.params) (sym r.walked.is) ∙ ap params_of (sym (get_front (made prog bounds).made copies g r.now r.there))

    copy : (body : Walk (List PStmt)) → Standing copies k (copied bounds prog.funs fun body k).copies → Stays f (ordinary_count prog.funs + k)
    copy body st =
        let c = copy_of fun (k + 1) (body (k + 1)).made in
        let e : length (made prog bounds).made + k ≡ ordinary_count prog.funs + k = ap (λ n. n + k) (count_is bounds prog.funs copies prog.funs 0) in
        let place : slice_get all (ordinary_count prog.funs + k) ≡ Some c = subst (λ n. slice_get all n ≡ Some c) e (get_behind (made prog bounds).made copies k c st.0) in
        ap params_of at ∙ ap params_of (sym place)

    called : Standing copies k (call_of bounds prog.funs inner left s f (Some fun) k).copies → Stays f (call_of bounds prog.funs inner left s f (Some fun) k).made
    called = by_kind (is_generator fun.kind) refl
      where
        by_zero : (b : Bool) → Standing copies k ((if b then copied bounds prog.funs fun (pure (stub s)) else copied bounds prog.funs fun (walk_stmts bounds inner fun.body)) k).copies → Stays f ((if b then copied bounds prog.funs fun (pure (stub s)) else copied bounds prog.funs fun (walk_stmts bounds inner fun.body)) k).made
        by_zero true st = copy (pure (stub s)) st
        by_zero false st = copy (walk_stmts bounds inner fun.body) st

        by_kind : (b : Bool) → is_generator fun.kind ≡ b → Standing copies k ((if b then (if is_zero (slice_index_or left f 0) then copied bounds prog.funs fun (pure (stub s)) else copied bounds prog.funs fun (walk_stmts bounds inner fun.body)) else pure (rank (are_ordinary prog.funs) f)) k).copies → Stays f ((if b then (if is_zero (slice_index_or left f 0) then copied bounds prog.funs fun (pure (stub s)) else copied bounds prog.funs fun (walk_stmts bounds inner fun.body)) else pure (rank (are_ordinary prog.funs) f)) k).made
        by_kind true is st = by_zero (is_zero (slice_index_or left f 0)) st
        by_kind false is st = ordinary is

  any_called : (inner : CallWalk) (left : List ℕ) (s : Span) (f k : ℕ) → has_fun prog (fun_id f) ≡ true → Standing copies k (call_of bounds prog.funs inner left s f (slice_get prog.funs f) k).copies → Stays f (call_of bounds prog.funs inner left s f (slice_get prog.funs f) k).made
  any_called inner left s f k has st =
      let x = get_there prog.funs f (ltb-true f (length prog.funs) has) in
      subst (λ z. Stays f (call_of bounds prog.funs inner left s f z k).made) (sym x.1) (called inner left s f k x.0 x.1 (subst (λ z. Standing copies k (call_of bounds prog.funs inner left s f z k).copies) x.1 st))

  calls_stay : (fuel : ℕ) (left : List ℕ) → CallsStay types prog all copies bounds (calls_walk bounds prog.funs fuel left)
  unfolding calls_walk
  calls_stay zero left s f k has st = any_called (λ inner_span g. pure g) left s f k has st
  calls_stay (suc n) left s f k has st = any_called (calls_walk bounds prog.funs n (one_less left f)) left s f k has st

  -- Bodies

  abbrev again : Prog
  again = record prog { funs = all }

  module _ (is : List Item) (means : ItemsMean bounds (top_of prog) [] is prog.structs prog.consts prog.funs) (fine : list_all item_fine is ≡ true) (fits : list_all (fun_fits prog) prog.funs ≡ true) (none : each (map (fun_breaks types prog) prog.funs) ≡ []) where
    abbrev Keeps : List PStmt → Type 0
    Keeps ps = (all_of (map (work types again) ps)).breaks [] ≡ []

    walked_none : (place : ℕ) (f : Fun) → slice_get prog.funs place ≡ Some f → (fuel : ℕ) (left : List ℕ) (k : ℕ) → Standing copies k (walk_stmts bounds (calls_walk bounds prog.funs fuel left) f.body k).copies → Keeps (walk_stmts bounds (calls_walk bounds prog.funs fuel left) f.body k).made
    walked_none place f there fuel left k st =
        let call = calls_walk bounds prog.funs fuel left in
        let tracks = body_walks types prog all copies bounds call (calls_stay fuel left) f.slots f.body k (list_all-map is_yes (stmt_fits prog f.slots) f.body ∙ body_fits prog bounds is means fine fits place f there) (list_all-map is_yes stmt_counts f.body ∙ body_counts prog bounds is means fine fits place f there) st in
        tracks.breaks [] [] (λ y j e. e) (none_at (fun_breaks types prog) prog.funs place f none there)

    stub_none : (s : Span) → Keeps (stub s)
    stub_none s =
        let call = calls_walk bounds prog.funs 0 [] in
        let stay = calls_stay 0 [] in
        let e : PExpr = record { span = s; ty = Some (ty.One elem.Bit); form = eform.False } in
        let quiet = seen types prog all copies bounds call stay 0 P.False V.rolls-False s (Some (ty.One elem.Bit)) none_follows in
        let a : Work = work types again (record { span = s; form = pform.Assert e }) in
        let tracks = shown types prog all copies bounds call stay 0 (S.Assert e) (W.rolls-Assert e) s (quiet_tracks idle quiet) in
        none_both (a.breaks []) [] (tracks.breaks [] [] (λ y j e. e) refl) refl

    ordinary_none : (n : ℕ) (g : Fun) → IsFrom bounds prog.funs copies prog.funs n g → Keeps g.body
    ordinary_none n g r = subst (λ (g : Fun). Keeps g.body) (sym r.walked.is) (walked_none r.place r.from r.there (total (all_left bounds prog.funs)) (all_left bounds prog.funs) r.walked.at r.walked.copies)

    copy_none : (j : ℕ) (c : Fun) → IsCopy bounds prog.funs copies j c → Keeps c.body
    copy_none j c r = subst (λ (g : Fun). Keeps g.body) (sym r.is) (go r.made)
      where
        go : ((span : Span) × (r.body ≡ stub span)) ⊎ IsBody bounds prog.funs copies r.generator (j + 1) r.body → Keeps r.body
        go (inl h) = subst Keeps (sym h.1) (stub_none h.0)
        go (inr h) = subst Keeps (sym h.made) (walked_none r.place r.generator r.there h.fuel h.left (j + 1) h.copies)

    fun_none : (n : ℕ) (g : Fun) → slice_get all n ≡ Some g → fun_breaks types again g ≡ []
    fun_none n g at = elim (get_parts (made prog bounds).made copies n g at) [
      | inl h ↦ ordinary_none n g (function_from bounds prog.funs copies prog.funs 0 n g (all_stand copies) h)
      | inr h ↦ copy_none h.0 g (copy_is prog bounds h.0 g h.2)
    ]

    funs_none : each (map (fun_breaks types again) all) ≡ []
    funs_none = at_none (fun_breaks types again) all fun_none

pub expansions_stay_tagged : ExpansionsStayTagged
unfolding expand prog_fits breaks
expansions_stay_tagged bounds types prog typed fits none =
    let a = and_parts (list_all (struct_fits prog) prog.structs) (list_all (const_fits prog) prog.consts && list_all (fun_fits prog) prog.funs) fits in
    let b = and_parts (list_all (const_fits prog) prog.consts) (list_all (fun_fits prog) prog.funs) a.1 in
    funs_none types prog bounds (plain typed.tree).items typed.types.items (items_fine typed.tree.items typed.placed) b.1 none
