-- A filled statement keeps the rules: it means a plain tree of its own.
use Rattle.std.proofs.Common.{◌≡◌, ℕ, zero, suc, ◌+◌, ◌-◌, Bool, true, false, ◌&&◌, not, List, [], ◌∷◌, ◌++◌, map, length, take, drop, Option, Some, None, inl, inr, refl, sym, ap, subst, ◌∙◌}
use Rattle.std.specs.Prelude.{if◌then◌else◌, insert}
use Rattle.std.specs.List.{list_all, list_any}
use Rattle.std.proofs.lemmas.List.{length-map}
use Rattle.sk_base.specs.declared.span.Span.{Span}
use Rattle.sk_base.specs.declared.name.Name.{Name}
use Rattle.sk_tree.specs.declared.expr.Expr.{Expr}
use Rattle.sk_tree.specs.declared.item.TyTree.{TyTree}
use Rattle.sk_tree.specs.declared.stmt.Stmt.{Stmt}
use Rattle.sk_tree.specs.declared.stmt.Declared.{Declared}
use Rattle.sk_tree.specs.declared.stmt.Form.{Form}
use Rattle.sk_tree.specs.declared.stmt.Form.TheVariants as tform
use Rattle.sk_tree.specs.declared.stmt.Form.TheOpen as F
use Rattle.sk_tree.specs.declared.stmt.Form.TheViews as T
use Rattle.sk_tree.specs.Placed.{any_placed, form_stand}
use Rattle.sk_prog.specs.declared.ty.Ty.{Ty}
use Rattle.sk_prog.specs.declared.expr.PExpr.{PExpr}
use Rattle.sk_prog.specs.declared.expr.PField.{PField}
use Rattle.sk_prog.specs.declared.expr.PEForm.{PEForm}
use Rattle.sk_prog.specs.declared.expr.PEForm.TheOpen as P
use Rattle.sk_prog.specs.declared.expr.PEForm.TheFolds.{map-PEForm, fold-roll-PEForm, fold-roll-PExpr}
use Rattle.sk_prog.specs.declared.stmt.PStmt.{PStmt}
use Rattle.sk_prog.specs.declared.stmt.PForm.{PForm}
use Rattle.sk_prog.specs.declared.stmt.PForm.TheVariants as pform
use Rattle.sk_prog.specs.declared.stmt.PForm.TheOpen as S
use Rattle.sk_prog.specs.declared.stmt.PForm.TheViews as W
use Rattle.sk_prog.specs.declared.stmt.PForm.TheFolds.{map-PForm, fold-PForm}
use Rattle.sk_types_rules.specs.declared.scope.Variable.{Variable}
use Rattle.sk_types_rules.specs.Rules.{int, bit}
use Rattle.sk_types_rules.specs.Scope.{Context}
use Rattle.sk_types_rules.specs.Sorts.{target_type, this_or, first_target}
use Rattle.sk_types_rules.specs.Types.{EFormRule, Means, IsAt, AnyAt, IsTarget, BlockMeans, StmtRule, FormRule, ReturnMeans, form_after, after, is_declaration, is_call, form_calls, StmtMeans}
use Rattle.sk_types_rules.specs.Plain.{form_plain, form_steps, stmt_at}
use Rattle.sk_types_rules.proofs.Layers.{FormMeans, rule, form_means_are, means_parts, ActMeans, act_rule, act_means_are, stmt_means_is}
use Rattle.sk_types_laws.proofs.Ats.{pexpr_law}
use Rattle.sk_model.specs.declared.expanded.Site.{Site}
use Rattle.sk_model.specs.Parts.{Part, counts, in_turn, value, joined, rank}
use Rattle.sk_model.specs.Sites.{site, places, is_hole, expr_sites, value_sites, form_sites, stmt_sites}
use Rattle.sk_model.specs.Stands.{Standing, beside, in_row, first_of, by_value, expr_standing, value_standing, form_standing, stmt_standing}
use Rattle.sk_model.specs.Stands as A
use Rattle.sk_model.specs.Fill.{digit, arrange, expr_part, value_part, some_copies, all_copies, form_part, stmt_step, stmt_part}
use Rattle.sk_model.proofs.Layers.{stmt_layer}
use Rattle.sk_model.proofs.Induction.{StmtCases, stmt_ind}
use Rattle.sk_holes_laws.specs.Holes.{Below}
use Rattle.sk_holes_laws.specs.Keeping.{Said, SaidAt, AnySaidAt, form_block, is_block, Keeping, InBlock, EachKeeps, ReturnKeeps, StmtKeeps}
use Rattle.sk_holes_laws.specs.Sizes.{Sized, AnySized, SizedScope}
use Rattle.sk_holes_laws.specs.Filling.{context_with, Every, Ready}
use Rattle.sk_holes_laws.specs.Fillings.{Filling, StandsIn, IsSet, ExprReady}
use Rattle.sk_holes_laws.proofs.Sized.{OwnSized, own_sized}
use Rattle.sk_holes_laws.proofs.Rows.{Counted, CountedPart, below_append, every_append, none_counted, both_counted, both_ready, row_counted, row_ready, counts_made, every_join, length-places, map_same}
use Rattle.sk_holes_laws.proofs.Exprs.{every_of, expr_fills}
use Rattle.sk_holes_laws.proofs.Targets.{target_own, said_fills, target_fills}
use Rattle.sk_holes_laws.proofs.Kept.{ActKeeps, act_keeps, act_keeps_are, stmt_keeps_is}
use Rattle.sk_holes_laws.proofs.Written.{written_sized, type_stays}
use Rattle.sk_holes_laws.proofs.Trees.{TLayer, plains, plain_at, steps_of, steps_at, stands_of, stand_at, Fine, AllFine, all_plain, all_steps, all_placed, IsBody, body_plain, body_takes}
use Rattle.sk_holes_laws.proofs.Declared.{SLayer, blocks_of, grows_of, after_at, block_at, leaves, DeclaresNot, blocks_declare_not, none_declares, act_call, field_call, still_call}

-- Lists

pub every_take : {A : Type 0} (Q : A → Type 0) (n : ℕ) (xs : List A) → Every Q xs → Every Q (take n xs)
every_take Q zero xs h = tt
every_take Q (suc n) [] h = tt
every_take Q (suc n) (x ∷ xs) h = (h.0, every_take Q n xs h.1)

every_drop : {A : Type 0} (Q : A → Type 0) (n : ℕ) (xs : List A) → Every Q xs → Every Q (drop n xs)
every_drop Q zero xs h = h
every_drop Q (suc n) [] h = tt
every_drop Q (suc n) (x ∷ xs) h = every_drop Q n xs h.1

-- an order of statements holds each of them
pub every_arranged : {A : Type 0} (Q : A → Type 0) (values : List ℕ) (i : ℕ) (xs ys : List A) → Every Q xs → Every Q ys → Every Q (arrange values i xs ys)
every_arranged Q values i xs [] h k = h
every_arranged Q values i xs (y ∷ ys) h k =
    let n = length xs - digit values i (length xs) in
    every_arranged Q values i (insert xs n y) ys (every_join Q (take n xs) (y ∷ drop n xs) (every_take Q n xs h) (k.0, every_drop Q n xs h)) k.1

sized_nothing : SizedScope []
sized_nothing i v h = cc

sized_more : (scope : List Variable) (x : List ℕ) (t : Ty) → SizedScope scope → Sized t → SizedScope (scope ++ record { name = x; ty = t } ∷ [])
sized_more [] x t h k zero v is = let e : record { name = x; ty = t } ≡ v = cc in subst (λ (v : Variable). Sized v.ty) e k
sized_more [] x t h k (suc i) v is = cc
sized_more (w ∷ scope) x t h k zero v is = h 0 v is
sized_more (w ∷ scope) x t h k (suc i) v is = sized_more scope x t (λ j u at. h (suc j) u at) k i v is

module _ (f : Filling) (setting : IsSet f) where
  abbrev pub one : Context
  one = context_with f.bounds f.structs f.consts f.funs f.known

  abbrev pub two : Context
  two = context_with f.bounds f.structs f.consts f.again f.all

  abbrev number : ℕ → ℕ
  number = rank f.stands

  abbrev pub ReadyFor : List Site → Part Standing → ℕ → Type 0
  ReadyFor S T i = Ready f.values (StandsIn f) S T i

  pub expr_counted : (p : PExpr) → Counted (expr_sites f.bounds p) (expr_standing f.values p) (expr_part f.values number p).count
  expr_counted p = (expr_fills f.bounds f.structs f.consts f.funs f.again f.known f.all (StandsIn f) number setting f.values [] sized_nothing p).counted

  value_counted : (v : Option PExpr) → Counted (value_sites f.bounds v) (value_standing f.values v) (value_part f.values number v).count
  value_counted None = none_counted
  value_counted (Some p) = expr_counted p

  module _ (scope : List Variable) (variables : SizedScope scope) where
    target_sized : (e : Expr) (t : Ty) → target_type one scope e ≡ Some t → Sized t
    target_sized e t h = subst OwnSized (target_own one scope e t h) (own_sized one scope setting.fields setting.signatures variables e)

    first_sized : (es : List Expr) (t : Ty) → first_target one scope es ≡ Some t → Sized t
    first_sized [] t h = cc
    first_sized (e ∷ es) t h = go (first_sized es t) (target_type one scope e) refl h
      where
        go : (first_target one scope es ≡ Some t → Sized t) → (o : Option Ty) → target_type one scope e ≡ o → this_or one scope o (first_target one scope es) ≡ Some t → Sized t
        go rest None is k = rest k
        go rest (Some u) is k = target_sized e t (is ∙ k)

    place_sized : (t : Ty) (p : PExpr) (e : Expr) → IsTarget one scope t p e → Sized t
    place_sized t p e (inl h) = target_sized e t h.target
    place_sized t p e (inr h) = first_sized h.strings t h.first

    record ValueFilled (t : Ty) (q : Option PExpr) : Type 0 where
      tree : Option Expr
      means : AnyAt two scope t q tree
      placed : any_placed tree ≡ true

    at_of : (t : Ty) (q : PExpr) → (h : SaidAt two scope t q) → IsAt two scope t q (h.said).tree
    at_of t q h = record { means = (h.said).means; type = h.type }

    value_fills : (t : Ty) → Sized t → (v : Option PExpr) (i : ℕ) → AnySaidAt one scope t v → ReadyFor (value_sites f.bounds v) (value_standing f.values v) i → ValueFilled t ((value_part f.values number v).at i)
    value_fills t sized None i h ready = record { tree = None; means = tt; placed = refl }
    value_fills t sized (Some p) i h ready =
        let r = said_fills f setting scope variables t sized p i ready h in
        record { tree = Some (r.said).tree; means = at_of t ((expr_part f.values number p).at i) r; placed = (r.said).placed }

    -- a call has a type with elements, where it has one

    abbrev FormTyped : PEForm → Type 0
    FormTyped g = (t : Option Ty) (e : Expr) → FormMeans one scope g t e → act_call g ≡ true → AnySized t

    abbrev Typed : PExpr → Type 0
    Typed p = (e : Expr) → Means one scope p e → is_call p ≡ true → AnySized p.ty

    abbrev Above : Type 0
    Above = P.PEForm-F ((g : PEForm) × FormTyped g) ((p : PExpr) × Typed p) (PField × Unit {0})

    abbrev below : Above → P.PEForm-F PEForm PExpr PField
    below y = map-PEForm ((g : PEForm) × FormTyped g) ((p : PExpr) × Typed p) (PField × Unit {0}) PEForm PExpr PField (λ q. q.0) (λ q. q.0) (λ q. q.0) y

    typed_layer : (y : Above) (t : Option Ty) (e : Expr) → rule one scope (below y) t e → form_calls (map-PEForm PEForm PExpr PField Bool Bool (Unit {0}) act_call is_call field_call (below y)) ≡ true → AnySized t
    typed_layer (P.Call g qs) t e h is = subst AnySized (sym h.6) (setting.signatures g.index h.3 (h.4).there).result
    typed_layer (P.Number n) t e h is = cc
    typed_layer P.True t e h is = cc
    typed_layer P.False t e h is = cc
    typed_layer P.Null t e h is = cc
    typed_layer (P.Var slot x) t e h is = cc
    typed_layer (P.Const c) t e h is = cc
    typed_layer (P.Hole n) t e h is = cc
    typed_layer (P.Pattern qs) t e h is = cc
    typed_layer (P.Paren q) t e h is = cc
    typed_layer (P.New k qs) t e h is = cc
    typed_layer (P.Braces qs) t e h is = cc
    typed_layer (P.Member q k j) t e h is = cc
    typed_layer (P.Index q j) t e h is = cc
    typed_layer (P.Slice q j m) t e h is = cc
    typed_layer (P.Unary o q) t e h is = cc
    typed_layer (P.Binary o q j) t e h is = cc
    typed_layer (P.Cond z q j) t e h is = cc
    typed_layer (P.ToInt q) t e h is = cc
    typed_layer (P.Pad q) t e h is = cc

    call_typed : (p : PExpr) → Typed p
    call_typed = pexpr_law FormTyped Typed (λ q. Unit {0})
        (λ y t e m is. typed_layer y t e (subst (λ (M : EFormRule). M t e) (form_means_are one scope (below y)) m) (sym (fold-roll-PEForm Bool Bool (Unit {0}) form_calls (λ p. p.form) (λ p. tt) (below y)) ∙ is))
        (λ p h e m is. h p.ty e (means_parts one scope p e m).1 (sym (fold-roll-PExpr Bool Bool (Unit {0}) form_calls (λ p. p.form) (λ p. tt) (record { span = p.span; ty = p.ty; form = p.form })) ∙ is))
        (λ q h. tt)

    call_fills : (p : PExpr) (i : ℕ) → is_call p ≡ true → Said one scope p → ExprReady f p i → Said two scope ((expr_part f.values number p).at i)
    call_fills p i is h ready =
        let r = (expr_fills f.bounds f.structs f.consts f.funs f.again f.known f.all (StandsIn f) number setting f.values scope variables p).fills h.tree i h.means h.placed (call_typed p h.tree h.means is) ready in
        record { tree = r.tree; means = r.means; placed = (r.place).placed }

  module _ (result : Option Ty) (large : AnySized result) where
    -- What is made of a statement

    pub record StmtFilled (p : PStmt) (from : ℕ) (scope : List Variable) (q : PStmt) : Type 0 where
      pub tree : Stmt
      pub means : StmtMeans two result q from scope tree
      pub fine : Fine tree
      pub body : is_block p ≡ true → IsBody tree
      pub grows : (s : List Variable) → after q s ≡ after p s
      pub scoped : SizedScope (after p scope)

    pub record StmtFills (p : PStmt) (S : List Site) (T : Part Standing) (F : Part PStmt) : Type 0 where
      pub counted : Counted S T F.count
      pub fills : (from : ℕ) (scope : List Variable) → SizedScope scope → (i : ℕ) → StmtKeeps one result p from scope → ReadyFor S T i → StmtFilled p from scope (F.at i)

    abbrev pub StmtOk : PStmt → Type 0
    StmtOk p = StmtFills p (stmt_sites f.bounds p) (stmt_standing f.values p) (stmt_part f.values number p)

    abbrev act_sites : PForm → Span → List Site
    act_sites = fold-PForm (Span → List Site) (List Site) (form_sites f.bounds) (λ s. s.form s.span)

    abbrev act_standing : PForm → Span → Part Standing
    act_standing = fold-PForm (Span → Part Standing) (Part Standing) (form_standing f.values) (λ s. s.form s.span)

    abbrev act_part : PForm → Part PForm
    act_part = fold-PForm (Part PForm) (Part PStmt) (form_part f.values number) (stmt_step f.values number)

    abbrev layer_sites : SLayer → Span → List Site
    layer_sites x s = form_sites f.bounds (map-PForm PForm PStmt (Span → List Site) (List Site) act_sites (stmt_sites f.bounds) x) s

    abbrev layer_standing : SLayer → Span → Part Standing
    layer_standing x s = form_standing f.values (map-PForm PForm PStmt (Span → Part Standing) (Part Standing) act_standing (stmt_standing f.values) x) s

    abbrev layer_part : SLayer → Part PForm
    layer_part x = form_part f.values number (map-PForm PForm PStmt (Part PForm) (Part PStmt) act_part (stmt_part f.values number) x)

    abbrev stated : Span → PForm → PStmt
    stated s g = record { span = s; form = g }

    abbrev Made : SLayer → PForm → Span → Type 0
    Made x g s = (from : ℕ) (scope : List Variable) → SizedScope scope → (i : ℕ) → act_keeps one result x from scope → ReadyFor (layer_sites x s) (layer_standing x s) i → StmtFilled (stated s g) from scope (stated s ((layer_part x).at i))

    by_form : (x : SLayer) (g : PForm) → W.roll-PForm x ≡ g → (s : Span) → Counted (layer_sites x s) (layer_standing x s) (layer_part x).count → Made x g s → StmtOk (stated s g)
    by_form x g is s c h =
        subst (λ (S : List Site). StmtFills (stated s g) S (stmt_standing f.values (stated s g)) (stmt_part f.values number (stated s g))) (sym (stmt_layer (Span → List Site) (List Site) (form_sites f.bounds) (λ s. s.form s.span) x g is s))
        (subst (λ (S : Part Standing). StmtFills (stated s g) (layer_sites x s) S (stmt_part f.values number (stated s g))) (sym (stmt_layer (Span → Part Standing) (Part Standing) (form_standing f.values) (λ s. s.form s.span) x g is s))
        (subst (λ (S : Part PStmt). StmtFills (stated s g) (layer_sites x s) (layer_standing x s) S) (sym (stmt_layer (Part PForm) (Part PStmt) (form_part f.values number) (stmt_step f.values number) x g is s))
        (record {
          counted = record { sites = c.sites; standing = c.standing };
          fills = λ from scope variables i k ready.
              let act = subst (λ (M : Keeping). M from scope) (stmt_keeps_is one result (stated s g)) k in
              h from scope variables i (subst (λ (M : Keeping). M from scope) (act_keeps_are one result x) (subst (λ g. ActKeeps one result g from scope) (sym is) act)) ready;
        })))

    -- a statement of layer l in the place of one of layer l0, which means a tree of layer j
    built : (l0 : SLayer) (g0 : PForm) → W.roll-PForm l0 ≡ g0 → (l : SLayer) (g : PForm) → W.roll-PForm l ≡ g → (s : Span) (from : ℕ) (scope : List Variable) (j : TLayer) (d : Form) → T.roll-Form j ≡ d
        → act_rule two result l from scope d
        → (form_plain (plains j) s).made ≡ record { span = s; form = d } ∷ []
        → form_steps (steps_of j) ≡ true
        → (form_stand (stands_of j)).placed ≡ true
        → (form_block (blocks_of l0) ≡ true → (es : List Stmt) × (d ≡ tform.Block es))
        → ((z : List Variable) → form_after (grows_of l) z ≡ form_after (grows_of l0) z)
        → SizedScope (form_after (grows_of l0) scope)
        → StmtFilled (stated s g0) from scope (stated s g)
    built l0 g0 is0 l g is s from scope j d dj r plain steps placed body grows scoped =
        let tree : Stmt = record { span = s; form = d } in
        record {
          tree = tree;
          means = subst (λ (M : StmtRule). M from scope tree) (sym (stmt_means_is two result (stated s g))) (refl, subst (λ z. ActMeans two result z from scope d) is (subst (λ (M : FormRule). M from scope d) (sym (act_means_are two result l)) r));
          fine = record { made = ap (λ p. p.made) (plain_at s d j dj) ∙ plain; steps = steps_at s d j dj ∙ steps; placed = ap (λ p. p.placed) (stand_at s d j dj) ∙ placed };
          body = λ b. body (sym (block_at s g0 l0 is0) ∙ b);
          grows = λ z. ap (λ h. h z) (after_at s g l is) ∙ grows z ∙ sym (ap (λ h. h z) (after_at s g0 l0 is0));
          scoped = subst SizedScope (sym (ap (λ h. h scope) (after_at s g0 l0 is0))) scoped;
        }

    -- Lists of statements

    pub record BlockFilled (from : ℕ) (scope : List Variable) (qs : List PStmt) : Type 0 where
      pub trees : List Stmt
      pub mean : BlockMeans (λ p. p) (StmtMeans two result) from scope qs trees
      pub fine : AllFine trees

    every_counted : (ps : List PStmt) → Every StmtOk ps → Every (CountedPart f.values (StandsIn f) (stmt_sites f.bounds) (stmt_standing f.values) (stmt_part f.values number)) ps
    every_counted [] h = tt
    every_counted (p ∷ ps) h = (h.0.counted, every_counted ps h.1)

    pub rows_counted : (ps : List PStmt) → Every StmtOk ps → Counted (joined (map (stmt_sites f.bounds) ps)) (in_row (map (stmt_standing f.values) ps)) (counts (map (stmt_part f.values number) ps))
    rows_counted ps h = row_counted f.values (StandsIn f) (stmt_sites f.bounds) (stmt_standing f.values) (stmt_part f.values number) ps (every_counted ps h)

    split : (p : PStmt) (ps : List PStmt) (i : ℕ) → StmtOk p → ReadyFor (joined (map (stmt_sites f.bounds) (p ∷ ps))) (in_row (map (stmt_standing f.values) (p ∷ ps))) i
        → ReadyFor (stmt_sites f.bounds p) (stmt_standing f.values p) i × ReadyFor (joined (map (stmt_sites f.bounds) ps)) (in_row (map (stmt_standing f.values) ps)) (i + (stmt_part f.values number p).count)
    split p ps i h ready = row_ready f.values (StandsIn f) (stmt_sites f.bounds) (stmt_standing f.values) (stmt_part f.values number) p ps i h.counted ready

    -- statements that follow each other
    pub block_fills : (ps : List PStmt) → Every StmtOk ps → (from : ℕ) (scope : List Variable) → SizedScope scope → InBlock (λ p. p) (StmtKeeps one result) from scope ps → (i : ℕ)
        → ReadyFor (joined (map (stmt_sites f.bounds) ps)) (in_row (map (stmt_standing f.values) ps)) i → BlockFilled from scope (in_turn (map (stmt_part f.values number) ps) i)
    block_fills [] h from scope variables k i ready = record { trees = []; mean = tt; fine = tt }
    block_fills (p ∷ ps) h from scope variables k i ready =
        let parts = split p ps i h.0 ready in
        let r = h.0.fills from scope variables i k.0 parts.0 in
        let n = i + (stmt_part f.values number p).count in
        let rest = block_fills ps h.1 from (after p scope) r.scoped k.1 n parts.1 in
        record {
          trees = r.tree ∷ rest.trees;
          mean = (r.means, subst (λ z. BlockMeans (λ p. p) (StmtMeans two result) from z (in_turn (map (stmt_part f.values number) ps) n) rest.trees) (sym (r.grows scope)) rest.mean);
          fine = (r.fine, rest.fine);
        }

    -- a statement that stands in this scope and leaves it
    record Single (scope : List Variable) (q : PStmt) : Type 0 where
      tree : Stmt
      means : StmtMeans two result q (length scope) scope tree
      fine : Fine tree
      stays : after q scope ≡ scope

    block_of : (scope : List Variable) (qs : List PStmt) → Every (Single scope) qs → BlockFilled (length scope) scope qs
    block_of scope [] h = record { trees = []; mean = tt; fine = tt }
    block_of scope (q ∷ qs) h =
        let rest = block_of scope qs h.1 in
        record {
          trees = h.0.tree ∷ rest.trees;
          mean = (h.0.means, subst (λ z. BlockMeans (λ p. p) (StmtMeans two result) (length scope) z qs rest.trees) (sym h.0.stays) rest.mean);
          fine = (h.0.fine, rest.fine);
        }

    single_of : (p : PStmt) → StmtOk p → (scope : List Variable) → SizedScope scope → StmtKeeps one result p (length scope) scope → DeclaresNot p → (i : ℕ) → ReadyFor (stmt_sites f.bounds p) (stmt_standing f.values p) i → Single scope ((stmt_part f.values number p).at i)
    single_of p h scope variables k no_name i ready =
        let r = h.fills (length scope) scope variables i k ready in
        record { tree = r.tree; means = r.means; fine = r.fine; stays = r.grows scope ∙ leaves p no_name scope }

    each_single : (scope : List Variable) → SizedScope scope → (ps : List PStmt) → Every StmtOk ps → EachKeeps (StmtKeeps one result) scope ps → Every DeclaresNot ps → (i : ℕ)
        → ReadyFor (joined (map (stmt_sites f.bounds) ps)) (in_row (map (stmt_standing f.values) ps)) i → Every (Single scope) (in_turn (map (stmt_part f.values number) ps) i)
    each_single scope variables [] h k d i ready = tt
    each_single scope variables (p ∷ ps) h k d i ready =
        let parts = split p ps i h.0 ready in
        (single_of p h.0 scope variables k.0 d.0 i parts.0, each_single scope variables ps h.1 k.1 d.1 (i + (stmt_part f.values number p).count) parts.1)

    first_single : (scope : List Variable) → SizedScope scope → (v : ℕ) (ps : List PStmt) → Every StmtOk ps → EachKeeps (StmtKeeps one result) scope ps → Every DeclaresNot ps → (i : ℕ)
        → Below f.values i (joined (map (stmt_sites f.bounds) ps)) → Every (StandsIn f) ((in_row (first_of v (map (stmt_standing f.values) ps))).at i).called
        → Every (Single scope) (take v (in_turn (map (stmt_part f.values number) ps) i))
    first_single scope variables zero ps h k d i b c = tt
    first_single scope variables (suc v) [] h k d i b c = tt
    first_single scope variables (suc v) (p ∷ ps) h k d i b c =
        let below = below_append f.values (stmt_sites f.bounds p) (joined (map (stmt_sites f.bounds) ps)) i b in
        let called = every_append (StandsIn f) ((stmt_standing f.values p).at i).called ((in_row (first_of v (map (stmt_standing f.values) ps))).at (i + (stmt_standing f.values p).count)).called c in
        let counted = h.0.counted in (
          single_of p h.0 scope variables k.0 d.0 i (below.0, called.0),
          first_single scope variables v ps h.1 k.1 d.1 (i + (stmt_part f.values number p).count)
              (subst (λ n. Below f.values (i + n) (joined (map (stmt_sites f.bounds) ps))) counted.sites below.1)
              (subst (λ n. Every (StandsIn f) ((in_row (first_of v (map (stmt_standing f.values) ps))).at (i + n)).called) counted.standing called.1),
        )

    -- Forms

    -- a block in the place of a statement that leaves its scope
    block_made : (l0 : SLayer) (g0 : PForm) → W.roll-PForm l0 ≡ g0 → (s : Span) (from : ℕ) (scope : List Variable) (qs : List PStmt) → BlockFilled (length scope) scope qs → ((z : List Variable) → z ≡ form_after (grows_of l0) z) → SizedScope (form_after (grows_of l0) scope) → StmtFilled (stated s g0) from scope (stated s (pform.Block qs))
    block_made l0 g0 is s from scope qs r grows scoped =
        built l0 g0 is (S.Block qs) (pform.Block qs) (pform.rolls-Block qs) s from scope (F.Block r.trees) (tform.Block r.trees) (tform.rolls-Block r.trees)
        (r.trees, refl, r.mean)
        (ap (λ es. stmt_at s (tform.Block es) ∷ []) (all_plain r.trees r.fine))
        (all_steps r.trees r.fine)
        (all_placed r.trees r.fine)
        (λ b. (r.trees, refl))
        grows scoped

    block_case : (s : Span) (ps : List PStmt) → Every StmtOk ps → Made (S.Block ps) (pform.Block ps) s
    block_case s ps hs from scope variables i k ready = block_made (S.Block ps) (pform.Block ps) (pform.rolls-Block ps) s from scope (in_turn (map (stmt_part f.values number) ps) i) (block_fills ps hs (length scope) scope variables k i ready) (λ z. refl) variables

    declare_case : (s : Span) (slot : ℕ) (x : Name) (t : Ty) (v : Option PExpr) → Made (S.Declare slot x t v) (pform.Declare slot x t v) s
    declare_case s slot x t v from scope variables i k ready =
        let y : TyTree = (k.type).tree in
        let sized = written_sized one scope y t (k.type).means in
        let r = value_fills scope variables t sized v i k.value ready in
        let q : Option PExpr = (value_part f.values number v).at i in
        let d : Declared = record { name = x; value = r.tree } in
        let type = type_stays f.bounds f.structs f.consts f.funs f.again f.known f.all scope setting.knows y t (k.type).means in
        let y_placed = (k.type).placed in
        built (S.Declare slot x t v) (pform.Declare slot x t v) (pform.rolls-Declare slot x t v) (S.Declare slot x t q) (pform.Declare slot x t q) (pform.rolls-Declare slot x t q) s from scope (F.Declare y (d ∷ [])) (tform.Declare y (d ∷ [])) (tform.rolls-Declare y (d ∷ []))
        (y, d, refl, record { name = refl; type = type; next = k.next; once = k.once; value = r.means })
        refl refl (λ j. y_placed j && (r.placed j && true)) (λ b. cc) (λ z. refl) (sized_more scope x t variables sized)

    assign_case : (s : Span) (p e : PExpr) → Made (S.Assign p e) (pform.Assign p e) s
    assign_case s p e from scope variables i k ready =
        let t : Ty = k.type in
        let target = k.target in
        let sized = place_sized scope variables t p target.tree target.target in
        let parts = both_ready f.values (StandsIn f) (expr_sites f.bounds p) (expr_sites f.bounds e) (expr_standing f.values p) (expr_standing f.values e) (expr_part f.values number p).count i (expr_counted p) ready in
        let n = i + (expr_part f.values number p).count in
        let a = target_fills f setting scope variables t sized p i parts.0 target in
        let b = said_fills f setting scope variables t sized e n parts.1 k.value in
        let q : PExpr = (expr_part f.values number p).at i in
        let w : PExpr = (expr_part f.values number e).at n in
        let x : Expr = a.tree in
        let y : Expr = (b.said).tree in
        built (S.Assign p e) (pform.Assign p e) (pform.rolls-Assign p e) (S.Assign q w) (pform.Assign q w) (pform.rolls-Assign q w) s from scope (F.Assign x y) (tform.Assign x y) (tform.rolls-Assign x y)
        (x, y, refl, t, record { target = a.target; value = at_of scope variables t w b })
        refl refl (λ j. a.placed j && (b.said).placed j) (λ b. cc) (λ z. refl) variables

    call_case : (s : Span) (p : PExpr) → Made (S.Call p) (pform.Call p) s
    call_case s p from scope variables i k ready =
        let r = call_fills scope variables p i k.0 k.1 ready in
        let q : PExpr = (expr_part f.values number p).at i in
        let x : Expr = r.tree in
        built (S.Call p) (pform.Call p) (pform.rolls-Call p) (S.Call q) (pform.Call q) (pform.rolls-Call q) s from scope (F.Call x) (tform.Call x) (tform.rolls-Call x)
        (x, refl, still_call f.values number p i k.0, r.means)
        refl refl r.placed (λ b. cc) (λ z. refl) variables

    if_case : (s : Span) (c : PExpr) (a : PStmt) → StmtOk a → Made (S.If c a None) (pform.If c a None) s
    if_case s c a ha from scope variables i k ready =
        let parts = both_ready f.values (StandsIn f) (expr_sites f.bounds c) (stmt_sites f.bounds a ++ []) (expr_standing f.values c) (beside (stmt_standing f.values a) (A.own 0)) (expr_part f.values number c).count i (expr_counted c) ready in
        let n = i + (expr_part f.values number c).count in
        let inner = both_ready f.values (StandsIn f) (stmt_sites f.bounds a) [] (stmt_standing f.values a) (A.own 0) (stmt_part f.values number a).count n ha.counted parts.1 in
        let r = said_fills f setting scope variables bit tt c i parts.0 k.0 in
        let b = ha.fills from scope variables n k.2 inner.0 in
        let q : PExpr = (expr_part f.values number c).at i in
        let w : PStmt = (stmt_part f.values number a).at n in
        let x : Expr = (r.said).tree in
        let y : Stmt = b.tree in
        let body = body_plain y b.fine (b.body k.1) in
        built (S.If c a None) (pform.If c a None) (pform.rolls-If c a None) (S.If q w None) (pform.If q w None) (pform.rolls-If q w None) s from scope (F.If x y None) (tform.If x y None) (tform.rolls-If x y None)
        (x, y, None, refl, at_of scope variables bit q r, b.means, tt)
        (ap (λ z. stmt_at s (tform.If x z None) ∷ []) body)
        (λ j. (b.fine).steps j && true)
        (λ j. (r.said).placed j && (b.fine).placed j)
        (λ b. cc) (λ z. refl) variables

    else_case : (s : Span) (c : PExpr) (a e : PStmt) → StmtOk a → StmtOk e → Made (S.If c a (Some e)) (pform.If c a (Some e)) s
    else_case s c a e ha he from scope variables i k ready =
        let parts = both_ready f.values (StandsIn f) (expr_sites f.bounds c) (stmt_sites f.bounds a ++ stmt_sites f.bounds e) (expr_standing f.values c) (beside (stmt_standing f.values a) (stmt_standing f.values e)) (expr_part f.values number c).count i (expr_counted c) ready in
        let n = i + (expr_part f.values number c).count in
        let inner = both_ready f.values (StandsIn f) (stmt_sites f.bounds a) (stmt_sites f.bounds e) (stmt_standing f.values a) (stmt_standing f.values e) (stmt_part f.values number a).count n ha.counted parts.1 in
        let m = n + (stmt_part f.values number a).count in
        let r = said_fills f setting scope variables bit tt c i parts.0 k.0 in
        let b = ha.fills from scope variables n k.2 inner.0 in
        let d = he.fills from scope variables m k.4 inner.1 in
        let q : PExpr = (expr_part f.values number c).at i in
        let w : PStmt = (stmt_part f.values number a).at n in
        let v : PStmt = (stmt_part f.values number e).at m in
        let x : Expr = (r.said).tree in
        let y : Stmt = b.tree in
        let z : Stmt = d.tree in
        let left = body_plain y b.fine (b.body k.1) in
        let right = body_plain z d.fine (d.body k.3) in
        let takes = body_takes y (b.body k.1) in
        built (S.If c a (Some e)) (pform.If c a (Some e)) (pform.rolls-If c a (Some e)) (S.If q w (Some v)) (pform.If q w (Some v)) (pform.rolls-If q w (Some v)) s from scope (F.If x y (Some z)) (tform.If x y (Some z)) (tform.rolls-If x y (Some z))
        (x, y, Some z, refl, at_of scope variables bit q r, b.means, d.means)
        (λ j. stmt_at s (tform.If x (left j) (Some (right j))) ∷ [])
        (λ j. (b.fine).steps j && (d.fine).steps j)
        (λ j. (r.said).placed j && (b.fine).placed j && not (takes j) && (d.fine).placed j)
        (λ b. cc) (λ z. refl) variables

    while_case : (s : Span) (c : PExpr) (a : PStmt) → StmtOk a → Made (S.While c a) (pform.While c a) s
    while_case s c a ha from scope variables i k ready =
        let parts = both_ready f.values (StandsIn f) (expr_sites f.bounds c) (stmt_sites f.bounds a) (expr_standing f.values c) (stmt_standing f.values a) (expr_part f.values number c).count i (expr_counted c) ready in
        let n = i + (expr_part f.values number c).count in
        let r = said_fills f setting scope variables bit tt c i parts.0 k.0 in
        let b = ha.fills from scope variables n k.2 parts.1 in
        let q : PExpr = (expr_part f.values number c).at i in
        let w : PStmt = (stmt_part f.values number a).at n in
        let x : Expr = (r.said).tree in
        let y : Stmt = b.tree in
        let body = body_plain y b.fine (b.body k.1) in
        built (S.While c a) (pform.While c a) (pform.rolls-While c a) (S.While q w) (pform.While q w) (pform.rolls-While q w) s from scope (F.While x y) (tform.While x y) (tform.rolls-While x y)
        (x, y, refl, at_of scope variables bit q r, b.means)
        (ap (λ z. stmt_at s (tform.While x z) ∷ []) body)
        (b.fine).steps
        (λ j. (r.said).placed j && (b.fine).placed j)
        (λ b. cc) (λ z. refl) variables

    return_fills : (scope : List Variable) (variables : SizedScope scope) (r : Option Ty) → AnySized r → (v : Option PExpr) (i : ℕ) → ReturnKeeps one scope r v → ReadyFor (value_sites f.bounds v) (value_standing f.values v) i → (x : Option Expr) × ReturnMeans two result scope r ((value_part f.values number v).at i) x × (any_placed x ≡ true)
    return_fills scope variables None sized None i k ready = (None, tt, refl)
    return_fills scope variables (Some t) sized (Some p) i k ready =
        let r = said_fills f setting scope variables t sized p i ready k in
        (Some (r.said).tree, at_of scope variables t ((expr_part f.values number p).at i) r, (r.said).placed)
    return_fills scope variables None sized (Some p) i k ready = absurd k
    return_fills scope variables (Some t) sized None i k ready = absurd k

    return_case : (s : Span) (v : Option PExpr) → Made (S.Return v) (pform.Return v) s
    return_case s v from scope variables i k ready =
        let r = return_fills scope variables result large v i k ready in
        let q : Option PExpr = (value_part f.values number v).at i in
        built (S.Return v) (pform.Return v) (pform.rolls-Return v) (S.Return q) (pform.Return q) (pform.rolls-Return q) s from scope (F.Return r.0) (tform.Return r.0) (tform.rolls-Return r.0)
        (r.0, refl, r.1)
        refl refl r.2 (λ b. cc) (λ z. refl) variables

    assert_case : (s : Span) (p : PExpr) → Made (S.Assert p) (pform.Assert p) s
    assert_case s p from scope variables i k ready =
        let r = said_fills f setting scope variables bit tt p i ready k in
        let q : PExpr = (expr_part f.values number p).at i in
        let x : Expr = (r.said).tree in
        built (S.Assert p) (pform.Assert p) (pform.rolls-Assert p) (S.Assert q) (pform.Assert q) (pform.rolls-Assert q) s from scope (F.Assert x) (tform.Assert x) (tform.rolls-Assert x)
        (x, refl, at_of scope variables bit q r)
        refl refl (r.said).placed (λ b. cc) (λ z. refl) variables

    assume_case : (s : Span) (p : PExpr) → Made (S.Assume p) (pform.Assume p) s
    assume_case s p from scope variables i k ready =
        let r = said_fills f setting scope variables bit tt p i ready k in
        let q : PExpr = (expr_part f.values number p).at i in
        let x : Expr = (r.said).tree in
        built (S.Assume p) (pform.Assume p) (pform.rolls-Assume p) (S.Assume q) (pform.Assume q) (pform.rolls-Assume q) s from scope (F.Assume x) (tform.Assume x) (tform.rolls-Assume x)
        (x, refl, at_of scope variables bit q r)
        refl refl (r.said).placed (λ b. cc) (λ z. refl) variables

    minimize_case : (s : Span) (p : PExpr) → Made (S.Minimize p) (pform.Minimize p) s
    minimize_case s p from scope variables i k ready =
        let r = said_fills f setting scope variables int tt p i ready k in
        let q : PExpr = (expr_part f.values number p).at i in
        let x : Expr = (r.said).tree in
        built (S.Minimize p) (pform.Minimize p) (pform.rolls-Minimize p) (S.Minimize q) (pform.Minimize q) (pform.rolls-Minimize q) s from scope (F.Minimize x) (tform.Minimize x) (tform.rolls-Minimize x)
        (x, refl, at_of scope variables int q r)
        refl refl (r.said).placed (λ b. cc) (λ z. refl) variables

    -- Repeats and orders

    abbrev turns : List PStmt → List (Part Standing)
    turns ps = map (stmt_standing f.values) ps

    some_counted : (n : ℕ) (s : Span) (ps : List PStmt) → Every StmtOk ps → Counted (site n s ∷ joined (map (stmt_sites f.bounds) ps)) (by_value f.values first_of (turns ps)) (some_copies f.values number (map (stmt_part f.values number) ps)).count
    some_counted n s ps h =
        let c = rows_counted ps h in
        record { sites = ap suc c.sites; standing = ap suc (counts_made f.values (StandsIn f) (stmt_sites f.bounds) (stmt_standing f.values) (stmt_part f.values number) ps (every_counted ps h)) }

    some_fill : (l0 : SLayer) (g0 : PForm) → W.roll-PForm l0 ≡ g0 → (n : ℕ) (s : Span) (ps : List PStmt) → Every StmtOk ps → (from : ℕ) (scope : List Variable) → SizedScope scope → EachKeeps (StmtKeeps one result) scope ps → Every DeclaresNot ps → (i : ℕ)
        → Below f.values i (site n s ∷ joined (map (stmt_sites f.bounds) ps)) → Every (StandsIn f) ((in_row (first_of (value f.values i) (turns ps))).at (i + 1)).called
        → ((z : List Variable) → z ≡ form_after (grows_of l0) z) → SizedScope (form_after (grows_of l0) scope)
        → StmtFilled (stated s g0) from scope (stated s ((some_copies f.values number (map (stmt_part f.values number) ps)).at i))
    some_fill l0 g0 is n s ps h from scope variables k d i b c grows scoped =
        let qs : List PStmt = take (value f.values i) (in_turn (map (stmt_part f.values number) ps) (i + 1)) in
        block_made l0 g0 is s from scope qs (block_of scope qs (first_single scope variables (value f.values i) ps h k d (i + 1) b.1 c)) grows scoped

    repeat_counted : (b : Bool) (n : ℕ) (s : Span) (ps : List PStmt) → Every StmtOk ps → Counted ((if b then site n s ∷ [] else []) ++ joined (map (stmt_sites f.bounds) ps)) (if b then by_value f.values first_of (turns ps) else in_row (turns ps)) (if b then some_copies f.values number (map (stmt_part f.values number) ps) else all_copies f.values number (map (stmt_part f.values number) ps)).count
    repeat_counted true n s ps h = some_counted n s ps h
    repeat_counted false n s ps h = rows_counted ps h

    repeat_fills : (c : PExpr) (b : Bool) (n : ℕ) (s : Span) (ps : List PStmt) → Every StmtOk ps → (from : ℕ) (scope : List Variable) → SizedScope scope → EachKeeps (StmtKeeps one result) scope ps → Every DeclaresNot ps → (i : ℕ)
        → ReadyFor ((if b then site n s ∷ [] else []) ++ joined (map (stmt_sites f.bounds) ps)) (if b then by_value f.values first_of (turns ps) else in_row (turns ps)) i
        → StmtFilled (stated s (pform.Repeat c ps)) from scope (stated s ((if b then some_copies f.values number (map (stmt_part f.values number) ps) else all_copies f.values number (map (stmt_part f.values number) ps)).at i))
    repeat_fills c true n s ps h from scope variables k d i ready = some_fill (S.Repeat c ps) (pform.Repeat c ps) (pform.rolls-Repeat c ps) n s ps h from scope variables k d i ready.0 ready.1 (λ z. refl) variables
    repeat_fills c false n s ps h from scope variables k d i ready =
        let qs : List PStmt = in_turn (map (stmt_part f.values number) ps) i in
        block_made (S.Repeat c ps) (pform.Repeat c ps) (pform.rolls-Repeat c ps) s from scope qs (block_of scope qs (each_single scope variables ps h k d i ready)) (λ z. refl) variables

    repeat_case : (s : Span) (c : PExpr) (ps : List PStmt) → Every StmtOk ps → Made (S.Repeat c ps) (pform.Repeat c ps) s
    repeat_case s c ps hs from scope variables i k ready = repeat_fills c (is_hole c.form) (length (map (stmt_sites f.bounds) ps) + 1) s ps hs from scope variables k.1 (blocks_declare_not ps (sym (ap (λ qs. list_all is_block qs) (map_same ps)) ∙ k.0)) i ready

    minrepeat_case : (s : Span) (ps : List PStmt) → Every StmtOk ps → Made (S.MinRepeat ps) (pform.MinRepeat ps) s
    minrepeat_case s ps hs from scope variables i k ready = some_fill (S.MinRepeat ps) (pform.MinRepeat ps) (pform.rolls-MinRepeat ps) (length (map (stmt_sites f.bounds) ps) + 1) s ps hs from scope variables k.2 (blocks_declare_not ps (sym (ap (λ qs. list_all is_block qs) (map_same ps)) ∙ k.1)) i ready.0 ready.1 (λ z. refl) variables

    minrepeat_counted : (s : Span) (ps : List PStmt) → Every StmtOk ps → Counted (layer_sites (S.MinRepeat ps) s) (layer_standing (S.MinRepeat ps) s) (layer_part (S.MinRepeat ps)).count
    minrepeat_counted s ps h =
        let c = some_counted (length (map (stmt_sites f.bounds) ps) + 1) s ps h in
        record { sites = c.sites; standing = c.standing }

    own_counted : (s : Span) (ps : List PStmt) → Counted (places 2 (length (map (stmt_sites f.bounds) ps) - 1) s) (A.own (length (turns ps) - 1)) (length (map (stmt_part f.values number) ps) - 1)
    own_counted s ps =
        let a : length (map (stmt_sites f.bounds) ps) ≡ length ps = length-map ps (stmt_sites f.bounds) in
        let b : length (turns ps) ≡ length ps = length-map ps (stmt_standing f.values) in
        let c : length (map (stmt_part f.values number) ps) ≡ length ps = length-map ps (stmt_part f.values number) in
        record { sites = length-places 2 (length (map (stmt_sites f.bounds) ps) - 1) s ∙ ap (λ n. n - 1) (a ∙ sym c); standing = ap (λ n. n - 1) (b ∙ sym c) }

    reorder_counted : (s : Span) (ps : List PStmt) → Every StmtOk ps → Counted (layer_sites (S.Reorder ps) s) (layer_standing (S.Reorder ps) s) (layer_part (S.Reorder ps)).count
    reorder_counted s ps h = both_counted (places 2 (length (map (stmt_sites f.bounds) ps) - 1) s) (joined (map (stmt_sites f.bounds) ps)) (A.own (length (turns ps) - 1)) (in_row (turns ps)) (length (map (stmt_part f.values number) ps) - 1) (counts (map (stmt_part f.values number) ps)) (own_counted s ps) (rows_counted ps h)

    reorder_case : (s : Span) (ps : List PStmt) → Every StmtOk ps → Made (S.Reorder ps) (pform.Reorder ps) s
    reorder_case s ps hs from scope variables i k ready =
        let n = length (map (stmt_part f.values number) ps) - 1 in
        let parts = both_ready f.values (StandsIn f) (places 2 (length (map (stmt_sites f.bounds) ps) - 1) s) (joined (map (stmt_sites f.bounds) ps)) (A.own (length (turns ps) - 1)) (in_row (turns ps)) n i (own_counted s ps) ready in
        let each = each_single scope variables ps hs k.1 (none_declares ps (sym (ap (λ qs. not (list_any is_declaration qs)) (map_same ps)) ∙ k.0)) (i + n) parts.1 in
        let qs : List PStmt = arrange f.values i [] (in_turn (map (stmt_part f.values number) ps) (i + n)) in
        block_made (S.Reorder ps) (pform.Reorder ps) (pform.rolls-Reorder ps) s from scope qs (block_of scope qs (every_arranged (Single scope) f.values i [] (in_turn (map (stmt_part f.values number) ps) (i + n)) tt each)) (λ z. refl) variables

    two_counted : (c : PExpr) (a : PStmt) → StmtOk a → Counted (expr_sites f.bounds c ++ stmt_sites f.bounds a) (beside (expr_standing f.values c) (stmt_standing f.values a)) ((expr_part f.values number c).count + (stmt_part f.values number a).count)
    two_counted c a h = both_counted (expr_sites f.bounds c) (stmt_sites f.bounds a) (expr_standing f.values c) (stmt_standing f.values a) (expr_part f.values number c).count (stmt_part f.values number a).count (expr_counted c) h.counted

    if_counted : (c : PExpr) (a : PStmt) → StmtOk a → Counted (expr_sites f.bounds c ++ (stmt_sites f.bounds a ++ [])) (beside (expr_standing f.values c) (beside (stmt_standing f.values a) (A.own 0))) ((expr_part f.values number c).count + ((stmt_part f.values number a).count + 0))
    if_counted c a h = both_counted (expr_sites f.bounds c) (stmt_sites f.bounds a ++ []) (expr_standing f.values c) (beside (stmt_standing f.values a) (A.own 0)) (expr_part f.values number c).count ((stmt_part f.values number a).count + 0) (expr_counted c) (both_counted (stmt_sites f.bounds a) [] (stmt_standing f.values a) (A.own 0) (stmt_part f.values number a).count 0 h.counted none_counted)

    else_counted : (c : PExpr) (a b : PStmt) → StmtOk a → StmtOk b → Counted (expr_sites f.bounds c ++ (stmt_sites f.bounds a ++ stmt_sites f.bounds b)) (beside (expr_standing f.values c) (beside (stmt_standing f.values a) (stmt_standing f.values b))) ((expr_part f.values number c).count + ((stmt_part f.values number a).count + (stmt_part f.values number b).count))
    else_counted c a b h k = both_counted (expr_sites f.bounds c) (stmt_sites f.bounds a ++ stmt_sites f.bounds b) (expr_standing f.values c) (beside (stmt_standing f.values a) (stmt_standing f.values b)) (expr_part f.values number c).count ((stmt_part f.values number a).count + (stmt_part f.values number b).count) (expr_counted c) (both_counted (stmt_sites f.bounds a) (stmt_sites f.bounds b) (stmt_standing f.values a) (stmt_standing f.values b) (stmt_part f.values number a).count (stmt_part f.values number b).count h.counted k.counted)

    assign_counted : (p e : PExpr) → Counted (expr_sites f.bounds p ++ expr_sites f.bounds e) (beside (expr_standing f.values p) (expr_standing f.values e)) ((expr_part f.values number p).count + (expr_part f.values number e).count)
    assign_counted p e = both_counted (expr_sites f.bounds p) (expr_sites f.bounds e) (expr_standing f.values p) (expr_standing f.values e) (expr_part f.values number p).count (expr_part f.values number e).count (expr_counted p) (expr_counted e)

    stmt_cases : StmtCases StmtOk
    stmt_cases = record {
      block = λ s ps h. let hs = every_of StmtOk ps h in by_form (S.Block ps) (pform.Block ps) (pform.rolls-Block ps) s (rows_counted ps hs) (block_case s ps hs);
      declare = λ s slot x t v. by_form (S.Declare slot x t v) (pform.Declare slot x t v) (pform.rolls-Declare slot x t v) s (value_counted v) (declare_case s slot x t v);
      assign = λ s p e. by_form (S.Assign p e) (pform.Assign p e) (pform.rolls-Assign p e) s (assign_counted p e) (assign_case s p e);
      calls = λ s p. by_form (S.Call p) (pform.Call p) (pform.rolls-Call p) s (expr_counted p) (call_case s p);
      if_only = λ s c a h. by_form (S.If c a None) (pform.If c a None) (pform.rolls-If c a None) s (if_counted c a h) (if_case s c a h);
      if_else = λ s c a b h k. by_form (S.If c a (Some b)) (pform.If c a (Some b)) (pform.rolls-If c a (Some b)) s (else_counted c a b h k) (else_case s c a b h k);
      loop = λ s c a h. by_form (S.While c a) (pform.While c a) (pform.rolls-While c a) s (two_counted c a h) (while_case s c a h);
      returns = λ s v. by_form (S.Return v) (pform.Return v) (pform.rolls-Return v) s (value_counted v) (return_case s v);
      asserts = λ s p. by_form (S.Assert p) (pform.Assert p) (pform.rolls-Assert p) s (expr_counted p) (assert_case s p);
      assumes = λ s p. by_form (S.Assume p) (pform.Assume p) (pform.rolls-Assume p) s (expr_counted p) (assume_case s p);
      minimizes = λ s p. by_form (S.Minimize p) (pform.Minimize p) (pform.rolls-Minimize p) s (expr_counted p) (minimize_case s p);
      repeats = λ s c ps h. let hs = every_of StmtOk ps h in by_form (S.Repeat c ps) (pform.Repeat c ps) (pform.rolls-Repeat c ps) s (repeat_counted (is_hole c.form) (length (map (stmt_sites f.bounds) ps) + 1) s ps hs) (repeat_case s c ps hs);
      minrepeat = λ s ps h. let hs = every_of StmtOk ps h in by_form (S.MinRepeat ps) (pform.MinRepeat ps) (pform.rolls-MinRepeat ps) s (minrepeat_counted s ps hs) (minrepeat_case s ps hs);
      reorder = λ s ps h. let hs = every_of StmtOk ps h in by_form (S.Reorder ps) (pform.Reorder ps) (pform.rolls-Reorder ps) s (reorder_counted s ps hs) (reorder_case s ps hs);
    }

    -- a filled statement keeps the rules
    pub stmt_fills : (p : PStmt) → StmtOk p
    stmt_fills = stmt_ind StmtOk stmt_cases
