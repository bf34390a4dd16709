-- What a call becomes is to its caller what it was.
use Rattle.std.proofs.Common.{◌≡◌, ℕ, zero, suc, ◌+◌, Bool, true, false, List, ◌++◌, length, Option, Some, None, refl, sym, ap, ◌∙◌, subst}
use Rattle.std.specs.Prelude.{map, slice_get, slice_index_or, if◌then◌else◌}
use Rattle.sk_base.specs.declared.span.Span.{Span}
use Rattle.sk_base.specs.declared.bounds.Bounds.{Bounds}
use Rattle.sk_prog.specs.declared.ids.FunId.{FunId}
use Rattle.sk_prog.specs.declared.stmt.PStmt.{PStmt}
use Rattle.sk_prog.specs.declared.prog.StructDef.{StructDef}
use Rattle.sk_prog.specs.declared.prog.Fun.{Fun}
use Rattle.sk_prog.specs.declared.prog.Prog.{Prog}
use Rattle.sk_types_rules.specs.declared.scope.Variable.{Variable}
use Rattle.sk_types_rules.specs.declared.scope.Place.{Place}
use Rattle.sk_types_rules.specs.Scope.{lookup, Signature, signature_of, Top, top_of, top_names, all_distinct, AFunction, place_of, function_or, constant_or, struct_or, top_meaning, variable_or, meaning_of}
use Rattle.sk_types_rules.specs.Sorts.{is_harness}
use Rattle.sk_types_rules.specs.Types.{IsCallee}
use Rattle.sk_model.specs.Parts.{rank}
use Rattle.sk_model.specs.Expand.{Made, Walk, pure, CallWalk, fun_id, is_generator, is_zero, are_ordinary, ordinary_count, copy_of, copied, stub, one_less, call_of, calls_walk, walk_stmts, walk_funs, expand_prog}
use Rattle.sk_expand_laws.specs.Copies.{Standing}
use Rattle.sk_expand_laws.proofs.Copied.{all_stand}
use Rattle.sk_expand_laws.proofs.Exprs.{Callee, CallsKeep}
use Rattle.sk_expand_laws.proofs.Lists.{get_front, get_behind, get_map, map_get, get_same, place_is, no_place, distinct_rest, placed_name}
use Rattle.sk_expand_laws.proofs.Ordinary.{function_found, count_is}

-- no variable has the name of a copy
abbrev pub NoneHides : List Fun → List Variable → Type 0
NoneHides copies scope = (k : ℕ) (c : Fun) → slice_get copies k ≡ Some c → lookup scope c.name ≡ None

-- A function of this name stands at this place.
function_or_is : (s c f : Option ℕ) (r : FunId) → struct_or s (constant_or c (function_or f)) ≡ AFunction r → f ≡ Some r.index
function_or_is (Some i) c f r h = cc
function_or_is None (Some i) f r h = cc
function_or_is None None (Some i) r h = let same : record { index = i } ≡ r = cc in ap (λ (r : FunId). Some r.index) same
function_or_is None None None r h = cc

module _ (top : Top) (scope : List Variable) where
  abbrev struct_names : List (List ℕ)
  struct_names = map (λ (d : StructDef). d.name) top.structs

  abbrev fun_names : List (List ℕ)
  fun_names = map (λ (s : Signature). s.name) top.funs

  pub function_named : (x : List ℕ) (r : FunId) → meaning_of top scope x ≡ AFunction r → (lookup scope x ≡ None) × (place_of fun_names x ≡ Some r.index)
  function_named x r = go (lookup scope x)
    where
      go : (o : Option Place) → variable_or o (top_meaning top x) ≡ AFunction r → (o ≡ None) × (place_of fun_names x ≡ Some r.index)
      go None h = (refl, function_or_is (place_of struct_names x) (place_of top.consts x) (place_of fun_names x) r h)
      go (Some v) h = cc

  pub function_means : (g : ℕ) (s : Signature) → all_distinct (top_names top) ≡ true → slice_get top.funs g ≡ Some s → lookup scope s.name ≡ None → meaning_of top scope s.name ≡ AFunction (fun_id g)
  function_means g s d there none =
      let x = s.name in
      let at : slice_get fun_names g ≡ Some x = get_map (λ (s : Signature). s.name) top.funs g s there in
      let behind = distinct_rest struct_names (top.consts ++ fun_names) d in
      let last = distinct_rest top.consts fun_names behind in
      let a : place_of struct_names x ≡ None = no_place struct_names (top.consts ++ fun_names) (length top.consts + g) x d (get_behind top.consts fun_names g x at) in
      let b : place_of top.consts x ≡ None = no_place top.consts fun_names g x behind at in
      let c : place_of fun_names x ≡ Some g = place_is fun_names g x last at in
      (λ i. variable_or (none i) (struct_or (a i) (constant_or (b i) (function_or (c i)))))

module _ (prog : Prog) (bounds : Bounds) where
  abbrev pub made : Made (List Fun)
  made = walk_funs bounds prog.funs prog.funs 0

  abbrev pub after : Top
  after = top_of (expand_prog prog bounds)

  module _ (distinct : all_distinct (top_names after) ≡ true) (scope : List Variable) (free : NoneHides made.copies scope) where
    module _ (inner : CallWalk) (left : List ℕ) (s : Span) (f k : ℕ) (x : List ℕ) (old : Signature) (callee : IsCallee (top_of prog) scope x (fun_id f) old) (fun : Fun) (at : slice_get prog.funs f ≡ Some fun) (sig : signature_of fun ≡ old) where
      name_is : fun.name ≡ x
      name_is =
          let p = placed_name (fun_names (top_of prog) scope) x f (function_named (top_of prog) scope x (fun_id f) callee.meaning).1 in
          let n = get_map (λ (s : Signature). s.name) (top_of prog).funs f old callee.there in
          ap (λ (s : Signature). s.name) sig ∙ get_same _ old.name x n p

      ordinary : is_generator fun.kind ≡ false → Callee after scope (rank (are_ordinary prog.funs) f) old
      ordinary is =
          let r = function_found bounds prog.funs made.copies prog.funs 0 f fun (all_stand made.copies) at is in
          let g = rank (are_ordinary prog.funs) f in
          let now : signature_of r.now ≡ old = ap signature_of r.walked.is ∙ sig in
          let there : slice_get after.funs g ≡ Some (signature_of r.now) = get_map signature_of (made.made ++ made.copies) g r.now (get_front made.made made.copies g r.now r.there) in
          let none : lookup scope r.now.name ≡ None = ap (lookup scope) (ap (λ (s : Signature). s.name) (now ∙ sym sig) ∙ name_is) ∙ (function_named (top_of prog) scope x (fun_id f) callee.meaning).0 in
          record {
            name = r.now.name;
            now = signature_of r.now;
            callee = record { meaning = function_means after scope g (signature_of r.now) distinct there none; there = there; callable = ap (λ (s : Signature). is_harness s.kind) now ∙ callee.callable };
            params = ap (λ (s : Signature). s.params) now;
            result = ap (λ (s : Signature). s.result) now;
          }

      copy : (body : Walk (List PStmt)) → Standing made.copies k (copied bounds prog.funs fun body k).copies → Callee after scope (ordinary_count prog.funs + k) old
      copy body st =
          let c = copy_of fun (k + 1) (body (k + 1)).made in
          let g = ordinary_count prog.funs + k in
          let e : length made.made + k ≡ g = ap (λ n. n + k) (count_is bounds prog.funs made.copies prog.funs 0) in
          let place : slice_get (made.made ++ made.copies) g ≡ Some c = subst (λ n. slice_get (made.made ++ made.copies) n ≡ Some c) e (get_behind made.made made.copies k c st.0) in
          let there : slice_get after.funs g ≡ Some (signature_of c) = get_map signature_of (made.made ++ made.copies) g c place in
          record {
            name = c.name;
            now = signature_of c;
            callee = record { meaning = function_means after scope g (signature_of c) distinct there (free k c st.0); there = there; callable = refl };
            params = ap (λ (s : Signature). s.params) sig;
            result = ap (λ (s : Signature). s.result) sig;
          }

      called : Standing made.copies k (call_of bounds prog.funs inner left s f (Some fun) k).copies → Callee after scope (call_of bounds prog.funs inner left s f (Some fun) k).made old
      called = by_kind (is_generator fun.kind) refl
        where
          by_zero : (b : Bool) → Standing made.copies k ((if b then copied bounds prog.funs fun (pure (stub s)) else copied bounds prog.funs fun (walk_stmts bounds inner fun.body)) k).copies → Callee after scope ((if b then copied bounds prog.funs fun (pure (stub s)) else copied bounds prog.funs fun (walk_stmts bounds inner fun.body)) k).made old
          by_zero true st = copy (pure (stub s)) st
          by_zero false st = copy (walk_stmts bounds inner fun.body) st

          by_kind : (b : Bool) → is_generator fun.kind ≡ b → Standing made.copies k ((if b then (if is_zero (slice_index_or left f 0) then copied bounds prog.funs fun (pure (stub s)) else copied bounds prog.funs fun (walk_stmts bounds inner fun.body)) else pure (rank (are_ordinary prog.funs) f)) k).copies → Callee after scope ((if b then (if is_zero (slice_index_or left f 0) then copied bounds prog.funs fun (pure (stub s)) else copied bounds prog.funs fun (walk_stmts bounds inner fun.body)) else pure (rank (are_ordinary prog.funs) f)) k).made old
          by_kind true is st = by_zero (is_zero (slice_index_or left f 0)) st
          by_kind false is st = ordinary is

    any_called : (inner : CallWalk) (left : List ℕ) (s : Span) (f k : ℕ) (x : List ℕ) (old : Signature) → IsCallee (top_of prog) scope x (fun_id f) old → Standing made.copies k (call_of bounds prog.funs inner left s f (slice_get prog.funs f) k).copies → Callee after scope (call_of bounds prog.funs inner left s f (slice_get prog.funs f) k).made old
    any_called inner left s f k x old callee st =
        let o = map_get signature_of prog.funs f old callee.there in
        let r = called inner left s f k x old callee o.0 o.1 o.2 in
        subst (λ z. Callee after scope (call_of bounds prog.funs inner left s f z k).made old) (sym o.1) (r (subst (λ z. Standing made.copies k (call_of bounds prog.funs inner left s f z k).copies) o.1 st))

    pub calls_keep : (fuel : ℕ) (left : List ℕ) → CallsKeep made.copies (calls_walk bounds prog.funs fuel left) (top_of prog) after scope
    unfolding calls_walk
    calls_keep zero left s f k x old callee st = any_called (λ inner_span g. pure g) left s f k x old callee st
    calls_keep (suc n) left s f k x old callee st = any_called (calls_walk bounds prog.funs n (one_less left f)) left s f k x old callee st
