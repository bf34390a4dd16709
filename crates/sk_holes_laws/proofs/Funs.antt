-- A filled function keeps the rules.
use Rattle.std.proofs.Common.{◌≡◌, ◌<◌, ℕ, zero, suc, true, ◌&&◌, List, [], ◌∷◌, ◌++◌, map, length, Option, Some, None, refl, sym, ap, subst, ◌∙◌}
use Rattle.std.specs.Prelude.{slice_get, max}
use Rattle.std.specs.List.{list_all}
use Rattle.std.proofs.lemmas.List.{length-map}
use Rattle.sk_tree.specs.declared.expr.Expr.{Expr}
use Rattle.sk_tree.specs.declared.expr.EForm.TheVariants as eform
use Rattle.sk_tree.specs.declared.expr.EForm.TheOpen as E
use Rattle.sk_tree.specs.declared.stmt.Stmt.{Stmt}
use Rattle.sk_tree.specs.declared.stmt.Form.TheVariants as tform
use Rattle.sk_tree.specs.declared.stmt.Form.TheOpen as F
use Rattle.sk_tree.specs.declared.item.TyTree.{TyTree}
use Rattle.sk_tree.specs.declared.item.Param.{Param}
use Rattle.sk_tree.specs.declared.item.FunItem.{FunItem}
use Rattle.sk_tree.specs.Placed.{Place, stmt_placed, fun_placed}
use Rattle.sk_prog.specs.declared.ids.FunId.{FunId}
use Rattle.sk_prog.specs.declared.ty.Ty.{Ty}
use Rattle.sk_prog.specs.declared.expr.PExpr.{PExpr}
use Rattle.sk_prog.specs.declared.expr.PEForm.TheVariants as pexpr
use Rattle.sk_prog.specs.declared.expr.PEForm.TheOpen as P
use Rattle.sk_prog.specs.declared.stmt.PStmt.{PStmt}
use Rattle.sk_prog.specs.declared.stmt.PForm.TheVariants as pform
use Rattle.sk_prog.specs.declared.stmt.PForm.TheOpen as S
use Rattle.sk_prog.specs.declared.prog.FunKind.{FunKind}
use Rattle.sk_prog.specs.declared.prog.FunKind.TheVariants as kind
use Rattle.sk_prog.specs.declared.prog.ParamDef.{ParamDef}
use Rattle.sk_prog.specs.declared.prog.Fun.{Fun}
use Rattle.sk_types_rules.specs.declared.scope.Variable.{Variable}
use Rattle.sk_types_rules.specs.Rules.{int}
use Rattle.sk_types_rules.specs.Scope.{Signature, AFunction, signature_of}
use Rattle.sk_types_rules.specs.Types.{StmtRule, FormRule, BlockMeans, StmtMeans, ParamsMean, variable_of, parameters, ResultMeans, ImplementsMeans, FunMeans, after, most}
use Rattle.sk_types_rules.specs.Plain.{stmt_steps, plain_stmts}
use Rattle.sk_types_rules.proofs.Layers.{ActMeans, act_means_are, stmt_means_is}
use Rattle.sk_model.specs.Parts.{rank}
use Rattle.sk_model.specs.Slots.{stmts_slots}
use Rattle.sk_model.specs.Sites.{stmts_sites}
use Rattle.sk_model.specs.Stands.{Payment, body_standing}
use Rattle.sk_model.specs.Fill.{minimize_of, before_body, fill_stmts, fill_fun}
use Rattle.sk_holes_laws.specs.Sizes.{Sized, AnySized, SizedScope}
use Rattle.sk_holes_laws.specs.Filling.{Every}
use Rattle.sk_holes_laws.specs.Fillings.{Filling, StandsIn, IsSet}
use Rattle.sk_holes_laws.specs.Expanded.{IsOrdinary, FunKeeps}
use Rattle.sk_holes_laws.proofs.Places.{place_at}
use Rattle.sk_holes_laws.proofs.Holes.{mean}
use Rattle.sk_holes_laws.proofs.Carried.{function_meant}
use Rattle.sk_holes_laws.proofs.Written.{type_stays}
use Rattle.sk_holes_laws.proofs.Trees.{plain_at, steps_at, stand_at, Fine, AllFine}
use Rattle.sk_holes_laws.proofs.Declared.{after_at}
use Rattle.sk_holes_laws.proofs.Stmts.{one, two, ReadyFor, StmtOk, BlockFilled, stmt_fills, block_fills}
use Rattle.sk_holes_laws.proofs.Slots.{slots_are_most}
use Rattle.sk_holes_laws.proofs.Paid.{PaysInRange}

-- Bodies

pub body_is_plain : (es : List Stmt) → AllFine es → plain_stmts es ≡ es
body_is_plain [] h = refl
body_is_plain (e ∷ es) h = λ i. h.0.made i ++ body_is_plain es h.1 i

pub body_has_no_steps : (es : List Stmt) → AllFine es → list_all stmt_steps es ≡ true
body_has_no_steps [] h = refl
body_has_no_steps (e ∷ es) h = λ i. h.0.steps i && body_has_no_steps es h.1 i

body_placed : (es : List Stmt) → AllFine es → list_all stmt_placed es ≡ true
body_placed [] h = refl
body_placed (e ∷ es) h = λ i. h.0.placed i && body_placed es h.1 i

sized_parameters : (ds : List ParamDef) → ((i : ℕ) (d : ParamDef) → slice_get ds i ≡ Some d → Sized d.ty) → SizedScope (parameters ds)
sized_parameters [] h i v is = cc
sized_parameters (d ∷ ds) h zero v is = let e : variable_of d ≡ v = cc in subst (λ (v : Variable). Sized v.ty) e (h 0 d refl)
sized_parameters (d ∷ ds) h (suc i) v is = sized_parameters ds (λ j c at. h (suc j) c at) i v is

-- Ordinary functions stand, and keep their numbers.
abbrev pub OrdinaryStay : Filling → ℕ → Type 0
OrdinaryStay f ordinary = (i : ℕ) (s : Signature) → i < ordinary → slice_get f.funs i ≡ Some s → StandsIn f i × (rank f.stands i ≡ i)

module _ (f : Filling) (setting : IsSet f) where
  -- what is paid, at the head of a body

  abbrev minimize_tree : Payment → Stmt
  minimize_tree p = record { span = p.span; form = tform.Minimize (record { span = p.span; form = eform.Number p.amount }) }

  abbrev number_tree : Payment → Expr
  number_tree p = record { span = p.span; form = eform.Number p.amount }

  abbrev number_paid : Payment → PExpr
  number_paid p = record { span = p.span; ty = Some int; form = pexpr.Number p.amount }

  minimize_means : (result : Option Ty) (p : Payment) → PaysInRange f p → (from : ℕ) (scope : List Variable) → StmtMeans (two f setting) result (minimize_of p) from scope (minimize_tree p)
  minimize_means result p h from scope =
      let e = mean (two f setting) scope (P.Number p.amount) (pexpr.Number p.amount) (pexpr.rolls-Number p.amount) (Some int) (number_tree p) (refl, h, refl) in
      let act = subst (λ z. ActMeans (two f setting) result z from scope (minimize_tree p).form) (pform.rolls-Minimize (number_paid p)) (subst (λ (M : FormRule). M from scope (minimize_tree p).form) (sym (act_means_are (two f setting) result (S.Minimize (number_paid p)))) (number_tree p, refl, record { means = e; type = refl })) in
      subst (λ (M : StmtRule). M from scope (minimize_tree p)) (sym (stmt_means_is (two f setting) result (minimize_of p))) (refl, act)

  minimize_fine : (p : Payment) → Fine (minimize_tree p)
  minimize_fine p =
      let x : Expr = number_tree p in
      record {
        made = ap (λ z. z.made) (plain_at p.span (tform.Minimize x) (F.Minimize x) (tform.rolls-Minimize x));
        steps = steps_at p.span (tform.Minimize x) (F.Minimize x) (tform.rolls-Minimize x);
        placed = ap (λ z. z.placed) (stand_at p.span (tform.Minimize x) (F.Minimize x) (tform.rolls-Minimize x)) ∙ ap (λ (a : Place). a.placed) (place_at x (E.Number p.amount) (sym (eform.rolls-Number p.amount)));
      }

  minimize_stays : (p : Payment) (scope : List Variable) → after (minimize_of p) scope ≡ scope
  minimize_stays p scope = ap (λ h. h scope) (after_at p.span (pform.Minimize (number_paid p)) (S.Minimize (number_paid p)) (pform.rolls-Minimize (number_paid p)))

  module _ (result : Option Ty) (large : AnySized result) where
    abbrev Block : ℕ → List Variable → List PStmt → Type 0
    Block from scope qs = BlockFilled f setting result large from scope qs

    paid_first : (ps : List Payment) → Every (PaysInRange f) ps → (from : ℕ) (scope : List Variable) (qs : List PStmt) → Block from scope qs → Block from scope (map minimize_of ps ++ qs)
    paid_first [] h from scope qs r = r
    paid_first (p ∷ ps) h from scope qs r =
        let rest = paid_first ps h.1 from scope qs r in
        record {
          trees = minimize_tree p ∷ rest.trees;
          mean = (minimize_means result p h.0 from scope, subst (λ z. BlockMeans (λ p. p) (StmtMeans (two f setting) result) from z (map minimize_of ps ++ qs) rest.trees) (sym (minimize_stays p scope)) rest.mean);
          fine = (minimize_fine p, rest.fine);
        }

    before : (k : FunKind) (ps : List Payment) → Every (PaysInRange f) ps → (from : ℕ) (scope : List Variable) (qs : List PStmt) → Block from scope qs → Block from scope (before_body k (map minimize_of ps) ++ qs)
    before kind.Harness ps h from scope qs r = paid_first ps h from scope qs r
    before kind.Plain ps h from scope qs r = r
    before kind.Generator ps h from scope qs r = r

    all_ok : (ps : List PStmt) → Every (StmtOk f setting result large) ps
    all_ok [] = tt
    all_ok (p ∷ ps) = (stmt_fills f setting result large p, all_ok ps)

  -- Heads

  result_stays : (r : Option TyTree) (t : Option Ty) → ResultMeans (one f setting) r t → ResultMeans (two f setting) r t
  result_stays None None h = tt
  result_stays (Some y) (Some t) h = type_stays f.bounds f.structs f.consts f.funs f.again f.known f.all [] setting.knows y t h
  result_stays None (Some t) h = absurd h
  result_stays (Some y) None h = absurd h

  params_stay : (ps : List Param) (ds : List ParamDef) → ParamsMean (one f setting) ps ds → ParamsMean (two f setting) ps ds
  params_stay [] [] h = tt
  params_stay (p ∷ ps) (d ∷ ds) h =
      let m = h.0 in
      (record { name = m.name; type = type_stays f.bounds f.structs f.consts f.funs f.again f.known f.all [] setting.knows p.ty d.ty m.type; by_ref = m.by_ref }, params_stay ps ds h.1)
  params_stay [] (d ∷ ds) h = absurd h
  params_stay (p ∷ ps) [] h = absurd h

  implements_stay : (ordinary : ℕ) → OrdinaryStay f ordinary → (s : Signature) (x : Option (List ℕ)) (i : Option FunId) → IsOrdinary ordinary i → ImplementsMeans (one f setting).top s x i → ImplementsMeans (two f setting).top s x i
  implements_stay ordinary stay s None None o h = tt
  implements_stay ordinary stay s (Some x) (Some i) o h =
      let k = stay i.index h.1 o h.2 in
      let carries = setting.carries in
      let same : record { index = rank f.stands i.index } ≡ i = ap (λ n. record { index = n }) k.1 in
      let meant = function_meant f.bounds f.structs f.consts f.funs f.again f.known f.all [] (StandsIn f) (rank f.stands) carries x i k.0 h.0 in
      (meant ∙ ap AFunction same, h.1, ap (λ n. slice_get f.again n) (sym k.1) ∙ carries.there i.index h.1 h.2 k.0, h.3)
  implements_stay ordinary stay s None (Some i) o h = absurd h
  implements_stay ordinary stay s (Some x) None o h = absurd h

  -- a filled function means an item of its own
  pub record FunFilled (q : Fun) : Type 0 where
    pub item : FunItem
    pub means : FunMeans (two f setting) item q
    pub fine : AllFine item.body
    pub placed : fun_placed item ≡ true

  pub fun_fills : (ordinary n : ℕ) (g : Fun) → FunKeeps (one f setting) ordinary n g → slice_get f.funs n ≡ Some (signature_of g) → OrdinaryStay f ordinary → (ps : List Payment) → Every (PaysInRange f) ps → (i : ℕ)
      → ReadyFor f setting (stmts_sites f.bounds g.body) (body_standing f.values g.body) i → FunFilled (fill_fun f.values (rank f.stands) (map minimize_of ps) g i)
  fun_fills ordinary n g keeps there stay ps paid i ready =
      let sizes = setting.signatures n (signature_of g) there in
      let head = keeps.head in
      let scope : List Variable = parameters g.params in
      let variables = sized_parameters g.params sizes.params in
      let r = block_fills f setting g.result sizes.result g.body (all_ok g.result sizes.result g.body) 0 scope variables keeps.body i ready in
      let b = before g.result sizes.result g.kind ps paid 0 scope (fill_stmts f.values (rank f.stands) g.body i) r in
      let body : List PStmt = before_body g.kind (map minimize_of ps) ++ fill_stmts f.values (rank f.stands) g.body i in
      let item : FunItem = record { kind = (keeps.item).kind; result = (keeps.item).result; name = (keeps.item).name; params = (keeps.item).params; implements = (keeps.item).implements; body = b.trees } in
      let long : length scope ≡ length g.params = length-map g.params variable_of in
      let slots : max (length scope) (stmts_slots body) ≡ most body (length scope) = slots_are_most (two f setting) g.result body 0 scope b.trees b.mean in
      let result_placed = head.result_placed in
      let params_placed = head.params_placed in
      let stmts = body_placed b.trees b.fine in
      record {
        item = item;
        means = record {
          name = head.name;
          kind = head.kind;
          result = result_stays (keeps.item).result g.result head.result;
          implements = implements_stay ordinary stay (signature_of g) (keeps.item).implements g.implements keeps.implemented head.implements;
          params = params_stay (keeps.item).params g.params head.params;
          signature = head.signature;
          distinct = head.distinct;
          body = b.mean;
          slots = subst (λ k. max k (stmts_slots body) ≡ most body k) long slots;
        };
        fine = b.fine;
        placed = λ j. result_placed j && params_placed j && stmts j;
      }
