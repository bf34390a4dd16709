-- What a statement means, its walk keeps in the expansion.
use Rattle.std.proofs.Common.{◌≡◌, ℕ, zero, suc, ◌+◌, Bool, true, false, ◌&&◌, List, [], ◌∷◌, ◌++◌, map, length, Option, Some, None, refl, sym, ap, ◌∙◌, subst, arith}
use Rattle.std.specs.Prelude.{◌-◌, ◌^◌, ◌<◌, min, ◌||◌, not, slice_get, nat_le, nat_lt}
use Rattle.std.specs.List.{list_all, list_any}
use Rattle.std.specs.Str.{bytes_eq}
use Rattle.std.proofs.lemmas.Bool.{and_parts, lt-ltb}
use Rattle.std.proofs.lemmas.List.Folds.{list_all-map}
use Rattle.sk_base.specs.declared.span.Span.{Span}
use Rattle.sk_base.specs.declared.bounds.Bounds.{Bounds}
use Rattle.sk_tree.specs.declared.expr.Expr.{Expr}
use Rattle.sk_tree.specs.declared.item.Base.{Base}
use Rattle.sk_tree.specs.declared.item.Base.TheVariants as base
use Rattle.sk_tree.specs.declared.item.TyTree.{TyTree}
use Rattle.sk_tree.specs.declared.stmt.Stmt.{Stmt}
use Rattle.sk_tree.specs.declared.stmt.Form.{Form}
use Rattle.sk_tree.specs.declared.stmt.Form.TheVariants as tform
use Rattle.sk_tree.specs.declared.stmt.Form.TheOpen as F
use Rattle.sk_tree.specs.declared.stmt.Form.TheViews.{roll-Form}
use Rattle.sk_tree.specs.Placed.{place_of, expr_placed, any_placed, ty_placed, declared_placed}
use Rattle.sk_prog.specs.declared.ty.Ty.{Ty}
use Rattle.sk_prog.specs.declared.ty.Elem.{Elem}
use Rattle.sk_prog.specs.declared.ty.Elem.TheVariants as elem
use Rattle.sk_prog.specs.declared.expr.PExpr.{PExpr}
use Rattle.sk_prog.specs.declared.stmt.PStmt.{PStmt}
use Rattle.sk_prog.specs.declared.stmt.PForm.{PForm}
use Rattle.sk_prog.specs.declared.stmt.PForm.TheVariants as form
use Rattle.sk_prog.specs.declared.stmt.PForm.TheOpen as S
use Rattle.sk_prog.specs.declared.stmt.PForm.TheViews.{roll-PForm, roll-PStmt}
use Rattle.sk_prog.specs.declared.stmt.PForm.TheViews as V
use Rattle.sk_prog.specs.declared.stmt.PForm.TheFolds.{map-PForm, fold-PForm, fold-roll-PForm, fold-roll-PStmt, ind-PStmt}
use Rattle.sk_prog.specs.declared.prog.StructDef.{StructDef}
use Rattle.sk_prog.specs.declared.prog.Fun.{Fun}
use Rattle.sk_types_rules.specs.declared.scope.Variable.{Variable}
use Rattle.sk_types_rules.specs.Rules.{◌>>=◌, int, bit, in_range}
use Rattle.sk_types_rules.specs.Scope.{lookup, is_taken, Signature, Top, Known, Context, Meaning, AVariable, AStruct, AConstant, AFunction, Nothing, meaning_of}
use Rattle.sk_types_rules.specs.Constants.{constant_number}
use Rattle.sk_types_rules.specs.Sorts.{struct_meant, base_elem, with_lengths, written_type}
use Rattle.sk_types_rules.specs.Types.{FormRule, StmtRule, Grows, Means, IsAt, AnyAt, BlockMeans, AnyMeans, OneMeans, ReturnMeans, form_after, after, form_declares, is_declaration, is_free, is_yes, form_free, stmt_free, StmtMeans}
use Rattle.sk_types_rules.proofs.Layers.{ActMeans, act_rule, act_means_are, stmt_means_is}
use Rattle.sk_types_laws.specs.Envs.{AreDistinct}
use Rattle.sk_types_laws.proofs.Ats.{bind_some}
use Rattle.sk_model.specs.Expand.{Walk, as_walk, in_order, times, most_copies, copies_held, CallWalk, walk_expr, walk_value, form_walk, stmt_step, walk_stmt}
use Rattle.sk_holes_laws.specs.Keeping.{Keeping, SaidAt, AnySaidAt, form_block, is_block, InBlock, EachKeeps, ReturnKeeps, StmtKeeps}
use Rattle.sk_expand_laws.specs.Copies.{Standing}
use Rattle.sk_expand_laws.proofs.Calls.{NoneHides}
use Rattle.sk_expand_laws.proofs.Callees.{is_call_again}
use Rattle.sk_expand_laws.proofs.Exprs.{CallsKeep, same_number, struct_again}
use Rattle.sk_expand_laws.proofs.Keeps.{ActKeeps, keeps_rule, keeps_are, stmt_keeps_is, map_id}
use Rattle.sk_expand_laws.proofs.Lists.{lookup_more, not_true}
use Rattle.sk_expand_laws.proofs.Plain.{Shape, bodied, value_placed, form_shape, shape_of, act_shape, stmt_fine, shapes, shape_is, shape_in, stmts_fine}
use Rattle.sk_expand_laws.proofs.Targets.{Found, found, target_again}
use Rattle.sk_expand_laws.proofs.Walks.{standing_parts}

abbrev pub act_block : PForm → Bool
act_block = fold-PForm Bool Bool form_block (λ s. s.form)

abbrev pub act_declares : PForm → Bool
act_declares = fold-PForm Bool Bool form_declares (λ s. s.form)

abbrev pub act_after : PForm → Grows
act_after = fold-PForm Grows Grows form_after (λ s. s.form)

abbrev pub act_free : PForm → Bool
act_free = fold-PForm Bool Bool form_free (λ s. s.form)

abbrev Acts : Type 0
Acts = S.PForm-F PForm PStmt

block_is : (p : PStmt) → is_block p ≡ act_block p.form
block_is p = fold-roll-PStmt Bool Bool form_block (λ s. s.form) (record { span = p.span; form = p.form })

declares_is : (p : PStmt) → is_declaration p ≡ act_declares p.form
declares_is p = fold-roll-PStmt Bool Bool form_declares (λ s. s.form) (record { span = p.span; form = p.form })

after_is : (p : PStmt) → after p ≡ act_after p.form
after_is p = fold-roll-PStmt Grows Grows form_after (λ s. s.form) (record { span = p.span; form = p.form })

free_is : (p : PStmt) → stmt_free p ≡ act_free p.form
free_is p = fold-roll-PStmt Bool Bool form_free (λ s. s.form) (record { span = p.span; form = p.form })

-- A repeat holds no more copies than an integer can count.
pub held_in_range : (bounds : Bounds) (bits : ℕ) → in_range bounds (most_copies bounds bits) ≡ true
held_in_range bounds bits = go (2 ^ (bounds.int_bits - 1)) (positive (bounds.int_bits - 1))
  where
    positive : (n : ℕ) → 0 < 2 ^ n
    positive zero = omega arith
    positive (suc n) = omega (arith, positive n)

    go : (h : ℕ) → 0 < h → nat_lt (min (2 ^ bits - 1) (min bounds.unroll (h - 1))) h ≡ true
    go h some = lt-ltb _ h (omega (arith, some))

module _ (bounds : Bounds) (structs : List StructDef) (consts : List (List ℕ)) (funs others : List Signature) (known : List Known) (all : List Fun) (call : CallWalk) where
  abbrev old : Top
  old = record { structs = structs; consts = consts; funs = funs }

  abbrev new : Top
  new = record { structs = structs; consts = consts; funs = others }

  abbrev pub one : Context
  one = record { bounds = bounds; top = old; known = known }

  abbrev pub two : Context
  two = record { bounds = bounds; top = new; known = known }

  module _ (good : AreDistinct new) (calls : (scope : List Variable) → NoneHides all scope → CallsKeep all call old new scope) (result : Option Ty) (named : Bool) (hides : (x : List ℕ) → (named ≡ true → is_free x ≡ true) → (k : ℕ) (c : Fun) → slice_get all k ≡ Some c → bytes_eq x c.name ≡ false) where
    abbrev walks : PExpr → Walk PExpr
    walks = walk_expr bounds call

    abbrev acts : PForm → Walk PForm
    acts = fold-PForm (Walk PForm) (Walk PStmt) (form_walk bounds call) (stmt_step bounds call)

    abbrev pub steps : PStmt → Walk PStmt
    steps = walk_stmt bounds call

    -- Expressions in statements

    module _ (scope : List Variable) (shown : NoneHides all scope) where
      expr_found : (p : PExpr) (e : Expr) (k : ℕ) → Means one scope p e → Standing all k (walks p k).copies → Found bounds structs consts funs others known scope all call good (calls scope shown) (walks p k).made p.ty e
      expr_found p e k m c = found bounds structs consts funs others known scope all call good (calls scope shown) p e k m c

      said_at : (t : Ty) (p : PExpr) (e : Expr) (k : ℕ) → IsAt one scope t p e → expr_placed e ≡ true → Standing all k (walks p k).copies → SaidAt two scope t (walks p k).made
      said_at t p e k h placed c =
          let r = expr_found p e k h.means c in
          record { said = record { tree = r.tree; means = r.means; placed = r.again.placed placed }; type = r.type ∙ h.type }

      any_said : (t : Ty) (p : Option PExpr) (e : Option Expr) (k : ℕ) → AnyAt one scope t p e → any_placed e ≡ true → Standing all k (walk_value bounds call p k).copies → AnySaidAt two scope t (walk_value bounds call p k).made
      any_said t None e k h placed c = tt
      any_said t (Some p) (Some e) k h placed c = said_at t p e k h placed c
      any_said t (Some p) None k h placed c = absurd h

      return_said : (t : Option Ty) (p : Option PExpr) (e : Option Expr) (k : ℕ) → ReturnMeans one t scope t p e → any_placed e ≡ true → Standing all k (walk_value bounds call p k).copies → ReturnKeeps two scope t (walk_value bounds call p k).made
      return_said None None None k h placed c = tt
      return_said (Some t) (Some p) (Some e) k h placed c = said_at t p e k h placed c
      return_said None None (Some e) k h placed c = absurd h
      return_said None (Some p) e k h placed c = absurd h
      return_said (Some t) None e k h placed c = absurd h
      return_said (Some t) (Some p) None k h placed c = absurd h

    -- Types that are written mean what they meant.

    base_again : (scope : List Variable) (b : Base) (a : Elem) → base_elem one scope b ≡ Some a → base_elem two scope b ≡ Some a
    base_again scope base.Int a h = h
    base_again scope base.Bit a h = h
    base_again scope (base.Named x) a h = go (meaning_of old scope x) refl h
      where
        go : (m : Meaning) → meaning_of old scope x ≡ m → (struct_meant m >>= λ s. Some (elem.Reference s)) ≡ Some a → (struct_meant (meaning_of new scope x) >>= λ s. Some (elem.Reference s)) ≡ Some a
        go (AStruct s) is h = ap (λ m. struct_meant m >>= λ s. Some (elem.Reference s)) (struct_again structs consts funs others scope x s is) ∙ h
        go (AVariable v) is h = cc
        go (AConstant c) is h = cc
        go (AFunction f) is h = cc
        go Nothing is h = cc

    pub written_again : (scope : List Variable) (y : TyTree) (t : Ty) → CallsKeep all call old new scope → written_type one scope y ≡ Some t → written_type two scope y ≡ Some t
    written_again scope y t keep h =
        let a = bind_some (base_elem one scope y.base) (λ a. with_lengths one scope a (map (constant_number one scope) y.lengths)) t h in
        ap (λ o. o >>= λ a. with_lengths two scope a (map (constant_number two scope) y.lengths)) (base_again scope y.base a.0 a.1)
        ∙ ap (with_lengths two scope a.0) (numbers y.lengths)
        ∙ lengths_same a.0 (map (constant_number one scope) y.lengths)
        ∙ a.2
      where
        numbers : (es : List Expr) → map (constant_number two scope) es ≡ map (constant_number one scope) es
        numbers [] = refl
        numbers (e ∷ es) = λ i. same_number bounds structs consts funs others known scope all call good keep e i ∷ numbers es i

        lengths_same : (a : Elem) (ns : List (Option ℕ)) → with_lengths two scope a ns ≡ with_lengths one scope a ns
        lengths_same a [] = refl
        lengths_same a (None ∷ ns) = refl
        lengths_same a (Some n ∷ []) = refl
        lengths_same a (Some n ∷ None ∷ ns) = refl
        lengths_same a (Some n ∷ Some m ∷ []) = refl
        lengths_same a (Some n ∷ Some m ∷ o ∷ ns) = refl

    -- Statements

    record FormIs (f g : PForm) (from : ℕ) (scope : List Variable) (e : Form) : Type 0 where
      keeps : ActKeeps two result g from scope
      anywhere : (act_shape e).block ≡ true → (n : ℕ) → ActKeeps two result g n scope
      block : (act_shape e).block ≡ true → act_block g ≡ true
      declares : act_declares g ≡ act_declares f
      grows : act_after g ≡ act_after f
      still : act_declares f ≡ false → act_after f scope ≡ scope
      opens : NoneHides all (act_after f scope)

    pub record StmtIs (p q : PStmt) (from : ℕ) (scope : List Variable) (e : Stmt) : Type 0 where
      pub keeps : StmtKeeps two result q from scope
      pub anywhere : (shape_of e).block ≡ true → (n : ℕ) → StmtKeeps two result q n scope
      pub block : (shape_of e).block ≡ true → is_block q ≡ true
      pub declares : is_declaration q ≡ is_declaration p
      pub grows : after q ≡ after p
      pub still : is_declaration p ≡ false → after p scope ≡ scope
      pub opens : NoneHides all (after p scope)

    abbrev FormAgain : PForm → Type 0
    FormAgain f = (from : ℕ) (scope : List Variable) (e : Form) (k : ℕ) → NoneHides all scope → ActMeans one result f from scope e → (act_shape e).fine ≡ true → (named ≡ true → act_free f ≡ true) → Standing all k (acts f k).copies → FormIs f (acts f k).made from scope e

    abbrev pub StmtAgain : PStmt → Type 0
    StmtAgain p = (from : ℕ) (scope : List Variable) (e : Stmt) (k : ℕ) → NoneHides all scope → StmtMeans one result p from scope e → stmt_fine e ≡ true → (named ≡ true → stmt_free p ≡ true) → Standing all k (steps p k).copies → StmtIs p (steps p k).made from scope e

    abbrev Such : Type 0
    Such = (f : PForm) × FormAgain f

    abbrev Such' : Type 0
    Such' = (p : PStmt) × StmtAgain p

    abbrev down : S.PForm-F Such Such' → Acts
    down = map-PForm Such Such' PForm PStmt (λ q. q.0) (λ q. q.0)

    abbrev firsts : List Such' → List PStmt
    firsts qs = map (λ (q : Such'). q.0) qs

    abbrev bools : (PForm → Bool) → (PStmt → Bool) → Acts → S.PForm-F Bool Bool
    bools f g l = map-PForm PForm PStmt Bool Bool f g l

    abbrev growing : Acts → S.PForm-F Grows Grows
    growing l = map-PForm PForm PStmt Grows Grows act_after after l

    -- what is found of a form that is no block and no declaration
    usual : (l m : Acts) (g : PForm) → roll-PForm m ≡ g → (from : ℕ) (scope : List Variable) (e h : Form) (j : F.Form-F Form Stmt) → e ≡ h → roll-Form j ≡ h → (form_shape (shapes j)).block ≡ false
        → keeps_rule two result m from scope → form_declares (bools act_declares is_declaration m) ≡ false → form_declares (bools act_declares is_declaration l) ≡ false
        → form_after (growing m) ≡ (λ s. s) → form_after (growing l) ≡ (λ s. s) → NoneHides all scope → FormIs (roll-PForm l) g from scope e
    usual l m g is from scope e h j eh jh block keeps dm dl am al shown =
        let no : (act_shape e).block ≡ true → ⊥ = λ y. let z = sym (ap (λ (s : Shape). s.block) (shape_in e h j eh jh) ∙ block) ∙ y in cc in
        let stays : act_after (roll-PForm l) ≡ (λ s. s) = fold-roll-PForm Grows Grows form_after (λ s. s.form) l ∙ al in
        record {
          keeps = subst (λ g. ActKeeps two result g from scope) is (subst (λ (K : Keeping). K from scope) (sym (keeps_are two result m)) keeps);
          anywhere = λ y. absurd (no y);
          block = λ y. absurd (no y);
          declares = ap act_declares (sym is) ∙ fold-roll-PForm Bool Bool form_declares (λ s. s.form) m ∙ dm ∙ sym (fold-roll-PForm Bool Bool form_declares (λ s. s.form) l ∙ dl);
          grows = ap act_after (sym is) ∙ fold-roll-PForm Grows Grows form_after (λ s. s.form) m ∙ am ∙ sym stays;
          still = λ d. ap (λ (f : Grows). f scope) stays;
          opens = subst (NoneHides all) (sym (ap (λ (f : Grows). f scope) stays)) shown;
        }

    free_in : (l : Acts) → (named ≡ true → act_free (roll-PForm l) ≡ true) → named ≡ true → form_free (bools act_free stmt_free l) ≡ true
    free_in l h y = sym (fold-roll-PForm Bool Bool form_free (λ s. s.form) l) ∙ h y

    fine_in : (e h : Form) (j : F.Form-F Form Stmt) → e ≡ h → roll-Form j ≡ h → (act_shape e).fine ≡ true → (form_shape (shapes j)).fine ≡ true
    fine_in e h j eh jh y = ap (λ (s : Shape). s.fine) (sym (shape_in e h j eh jh)) ∙ y

    -- Lists of statements

    all_free : (ps : List PStmt) → list_all is_yes (map stmt_free ps) ≡ true → list_all stmt_free ps ≡ true
    all_free ps h = sym (list_all-map is_yes stmt_free ps) ∙ h

    block_again : (qs : List Such') (es : List Stmt) (from : ℕ) (scope : List Variable) (k : ℕ) → NoneHides all scope → BlockMeans (λ y. y) (StmtMeans one result) from scope (firsts qs) es → list_all stmt_fine es ≡ true → (named ≡ true → list_all stmt_free (firsts qs) ≡ true) → Standing all k (in_order (map steps (firsts qs)) k).copies → InBlock (λ y. y) (StmtKeeps two result) from scope (in_order (map steps (firsts qs)) k).made
    block_again [] es from scope k shown m fine free c = tt
    block_again (q ∷ qs) [] from scope k shown m fine free c = absurd m
    block_again (q ∷ qs) (e ∷ es) from scope k shown m fine free c =
        let w = steps q.0 k in
        let n = k + length w.copies in
        let s = standing_parts all k w.copies (in_order (map steps (firsts qs)) n).copies c in
        let a = and_parts (stmt_fine e) (list_all stmt_fine es) fine in
        let x = q.1 from scope e k shown m.0 a.0 (λ y. (and_parts (stmt_free q.0) (list_all stmt_free (firsts qs)) (free y)).0) s.0 in
        let r = block_again qs es from (after q.0 scope) n x.opens m.1 a.1 (λ y. (and_parts (stmt_free q.0) (list_all stmt_free (firsts qs)) (free y)).1) s.1 in
        (x.keeps, subst (λ (f : Grows). InBlock (λ y. y) (StmtKeeps two result) from (f scope) (in_order (map steps (firsts qs)) n).made) (sym x.grows) r)

    record EachIs (ps : List PStmt) (scope : List Variable) : Type 0 where
      each : EachKeeps (StmtKeeps two result) scope ps
      none : list_any is_declaration ps ≡ false

    no_or : (a b : Bool) → (a || b) ≡ false → (a ≡ false) × (b ≡ false)
    no_or false false h = (refl, refl)
    no_or false true h = cc
    no_or true b h = cc

    each_again : (qs : List Such') (es : List Stmt) (scope : List Variable) (k : ℕ) → NoneHides all scope → BlockMeans (λ y. y) (StmtMeans one result) (length scope) scope (firsts qs) es → list_any is_declaration (firsts qs) ≡ false → list_all stmt_fine es ≡ true → (named ≡ true → list_all stmt_free (firsts qs) ≡ true) → Standing all k (in_order (map steps (firsts qs)) k).copies → EachIs (in_order (map steps (firsts qs)) k).made scope
    each_again [] es scope k shown m none fine free c = record { each = tt; none = refl }
    each_again (q ∷ qs) [] scope k shown m none fine free c = absurd m
    each_again (q ∷ qs) (e ∷ es) scope k shown m none fine free c =
        let w = steps q.0 k in
        let n = k + length w.copies in
        let s = standing_parts all k w.copies (in_order (map steps (firsts qs)) n).copies c in
        let a = and_parts (stmt_fine e) (list_all stmt_fine es) fine in
        let d = no_or (is_declaration q.0) (list_any is_declaration (firsts qs)) none in
        let x = q.1 (length scope) scope e k shown m.0 a.0 (λ y. (and_parts (stmt_free q.0) (list_all stmt_free (firsts qs)) (free y)).0) s.0 in
        let rest = subst (λ sc. BlockMeans (λ y. y) (StmtMeans one result) (length scope) sc (firsts qs) es) (x.still d.0) m.1 in
        let r = each_again qs es scope n shown rest d.1 a.1 (λ y. (and_parts (stmt_free q.0) (list_all stmt_free (firsts qs)) (free y)).1) s.1 in
        record { each = (x.keeps, r.each); none = λ i. (x.declares ∙ d.0) i || r.none i }

    record CopiesAre (ps : List PStmt) (n : ℕ) (scope : List Variable) : Type 0 where
      each : EachKeeps (StmtKeeps two result) scope ps
      blocks : list_all is_block ps ≡ true
      many : length ps ≡ n

    copies_again : (n : ℕ) (q : Such') (from : ℕ) (scope : List Variable) (e : Stmt) (k : ℕ) → NoneHides all scope → StmtMeans one result q.0 from scope e → bodied (shape_of e) ≡ true → (named ≡ true → stmt_free q.0 ≡ true) → Standing all k (times n (in_order (steps q.0 ∷ [])) k).copies → CopiesAre (times n (in_order (steps q.0 ∷ [])) k).made n scope
    copies_again zero q from scope e k shown m body free c = record { each = tt; blocks = refl; many = refl }
    copies_again (suc n) q from scope e k shown m body free c =
        let w = steps q.0 k in
        let v = in_order (steps q.0 ∷ []) k in
        let j = k + length v.copies in
        let s = standing_parts all k v.copies (times n (in_order (steps q.0 ∷ [])) j).copies c in
        let u = standing_parts all k w.copies [] s.0 in
        let a = and_parts (stmt_fine e) (shape_of e).block body in
        let x = q.1 from scope e k shown m a.0 free u.0 in
        let r = copies_again n q from scope e j shown m body free s.1 in
        record { each = (x.anywhere a.1 (length scope), r.each); blocks = λ i. x.block a.1 i && r.blocks i; many = ap suc r.many }

    one_copy : (qs : List Such') (from : ℕ) (scope : List Variable) (e : Stmt) → OneMeans (StmtMeans one result) from scope (firsts qs) e → (q : Such') × (qs ≡ q ∷ []) × StmtMeans one result q.0 from scope e
    one_copy [] from scope e m = absurd m
    one_copy (q ∷ []) from scope e m = (q, refl, m)
    one_copy (q ∷ r ∷ qs) from scope e m = absurd m

    held_again : (n : ℕ) (qs : List Such') (from : ℕ) (scope : List Variable) (e : Stmt) (k : ℕ) → NoneHides all scope → OneMeans (StmtMeans one result) from scope (firsts qs) e → bodied (shape_of e) ≡ true → (named ≡ true → list_all stmt_free (firsts qs) ≡ true) → Standing all k (times n (in_order (map steps (firsts qs))) k).copies → CopiesAre (times n (in_order (map steps (firsts qs))) k).made n scope
    held_again n [] from scope e k shown m body free c = absurd m
    held_again n (q ∷ []) from scope e k shown m body free c = copies_again n q from scope e k shown m body (λ y. (and_parts (stmt_free q.0) true (free y)).0) c
    held_again n (q ∷ r ∷ qs) from scope e k shown m body free c = absurd m

    -- a value whose target is of level 1
    value_of : (x e : Expr) → value_placed x e ≡ true → (place_of x).level ≡ 1 → expr_placed e ≡ true
    value_of x e h low = sym (ap (λ n. not (nat_le n 1) || expr_placed e) low) ∙ h

    abbrev act_of : S.PForm-F Such Such' → Walk PForm
    act_of y = form_walk bounds call (map-PForm PForm PStmt (Walk PForm) (Walk PStmt) acts steps (down y))

    abbrev LayerIs : S.PForm-F Such Such' → Type 0
    LayerIs y = (from : ℕ) (scope : List Variable) (e : Form) (k : ℕ) → NoneHides all scope → act_rule one result (down y) from scope e → (act_shape e).fine ≡ true → (named ≡ true → form_free (bools act_free stmt_free (down y)) ≡ true) → Standing all k (act_of y k).copies → FormIs (roll-PForm (down y)) (act_of y k).made from scope e

    layer : (y : S.PForm-F Such Such') → LayerIs y
    layer (S.Block qs) from scope e k shown h fine free c =
        let ps = (in_order (map steps (firsts qs)) k).made in
        let l : Acts = S.Block (firsts qs) in
        let m : Acts = S.Block ps in
        let is = V.rolls-Block ps in
        let f = stmts_fine h.0 (fine_in e (tform.Block h.0) (F.Block h.0) h.1 (tform.rolls-Block h.0) fine) in
        let r = block_again qs h.0 (length scope) scope k shown h.2 f (λ y. all_free (firsts qs) (free y)) c in
        let stays : act_after (roll-PForm l) ≡ (λ s. s) = fold-roll-PForm Grows Grows form_after (λ s. s.form) l in
        let keeps : (n : ℕ) → ActKeeps two result (form.Block ps) n scope = λ n. subst (λ g. ActKeeps two result g n scope) is (subst (λ (K : Keeping). K n scope) (sym (keeps_are two result m)) r) in
        record {
          keeps = keeps from;
          anywhere = λ y n. keeps n;
          block = λ y. ap act_block (sym is) ∙ fold-roll-PForm Bool Bool form_block (λ s. s.form) m;
          declares = ap act_declares (sym is) ∙ fold-roll-PForm Bool Bool form_declares (λ s. s.form) m ∙ sym (fold-roll-PForm Bool Bool form_declares (λ s. s.form) l);
          grows = ap act_after (sym is) ∙ fold-roll-PForm Grows Grows form_after (λ s. s.form) m ∙ sym stays;
          still = λ d. ap (λ (f : Grows). f scope) stays;
          opens = subst (NoneHides all) (sym (ap (λ (f : Grows). f scope) stays)) shown;
        }
    layer (S.Declare slot x t value) from scope e k shown h fine free c =
        let v = (walk_value bounds call value k).made in
        let l : Acts = S.Declare slot x t value in
        let m : Acts = S.Declare slot x t v in
        let is = V.rolls-Declare slot x t v in
        let d = h.3 in
        let g = tform.Declare h.0 (h.1 ∷ []) in
        let f = fine_in e g (F.Declare h.0 (h.1 ∷ [])) h.2 (tform.rolls-Declare h.0 (h.1 ∷ [])) fine in
        let a = and_parts (ty_placed h.0) (list_all declared_placed (h.1 ∷ [])) f in
        let b = and_parts (declared_placed h.1) true a.1 in
        let grown : act_after (roll-PForm l) ≡ (λ scope. scope ++ record { name = x; ty = t } ∷ []) = fold-roll-PForm Grows Grows form_after (λ s. s.form) l in
        let no : (act_shape e).block ≡ true → ⊥ = λ y. let z : false ≡ true = sym (ap (λ (s : Shape). s.block) (shape_in e g (F.Declare h.0 (h.1 ∷ [])) h.2 (tform.rolls-Declare h.0 (h.1 ∷ [])))) ∙ y in cc in
        let rule : keeps_rule two result m from scope = record {
          type = record { tree = h.0; means = written_again scope h.0 t (calls scope shown) d.type; placed = a.0 };
          next = d.next;
          once = ap (λ x. is_taken from (lookup scope x)) d.name ∙ d.once;
          value = any_said scope shown t value h.1.value k d.value b.0 c;
        } in
        let opens : NoneHides all (scope ++ record { name = x; ty = t } ∷ []) = λ i f at. lookup_more scope (record { name = x; ty = t }) f.name (hides x free i f at) ∙ shown i f at in
        record {
          keeps = subst (λ g. ActKeeps two result g from scope) is (subst (λ (K : Keeping). K from scope) (sym (keeps_are two result m)) rule);
          anywhere = λ y. absurd (no y);
          block = λ y. absurd (no y);
          declares = ap act_declares (sym is) ∙ fold-roll-PForm Bool Bool form_declares (λ s. s.form) m ∙ sym (fold-roll-PForm Bool Bool form_declares (λ s. s.form) l);
          grows = ap act_after (sym is) ∙ fold-roll-PForm Grows Grows form_after (λ s. s.form) m ∙ sym grown;
          still = λ z. let u = sym (fold-roll-PForm Bool Bool form_declares (λ s. s.form) l) ∙ z in cc;
          opens = subst (NoneHides all) (sym (ap (λ (f : Grows). f scope) grown)) opens;
        }
    layer (S.Assign p q) from scope e k shown h fine free c =
        let w = walks p k in
        let n = k + length w.copies in
        let s = standing_parts all k w.copies (walks q n).copies c in
        let a = w.made in
        let b = (walks q n).made in
        let g = tform.Assign h.0 h.1 in
        let f = and_parts (expr_placed h.0) (value_placed h.0 h.1) (fine_in e g (F.Assign h.0 h.1) h.2 (tform.rolls-Assign h.0 h.1) fine) in
        let x = target_again bounds structs consts funs others known scope all call good (calls scope shown) h.3 p h.0 k h.4.target f.0 s.0 in
        let y = said_at scope shown h.3 q h.1 n h.4.value (value_of h.0 h.1 f.1 x.low) s.1 in
        usual (S.Assign p q) (S.Assign a b) (form.Assign a b) (V.rolls-Assign a b) from scope e g (F.Assign h.0 h.1) h.2 (tform.rolls-Assign h.0 h.1) refl (record { type = h.3; target = x.said; value = y }) refl refl refl refl shown
    layer (S.Call p) from scope e k shown h fine free c =
        let a = (walks p k).made in
        let g = tform.Call h.0 in
        let f = fine_in e g (F.Call h.0) h.1 (tform.rolls-Call h.0) fine in
        let r = expr_found scope shown p h.0 k h.3 c in
        usual (S.Call p) (S.Call a) (form.Call a) (V.rolls-Call a) from scope e g (F.Call h.0) h.1 (tform.rolls-Call h.0) refl (is_call_again bounds call p k ∙ h.2, record { tree = r.tree; means = r.means; placed = r.again.placed f }) refl refl refl refl shown
    layer (S.If p a None) from scope e k shown h fine free c =
        let w = walks p k in
        let n = k + length w.copies in
        let v = steps a.0 n in
        let s = standing_parts all k w.copies (v.copies ++ []) c in
        let u = standing_parts all n v.copies [] s.1 in
        let g = tform.If h.0 h.1 None in
        let z : h.2 ≡ None = none_is h.2 h.6 in
        let is : e ≡ g = h.3 ∙ ap (λ z. tform.If h.0 h.1 z) z in
        let f = and_parts (expr_placed h.0) (bodied (shape_of h.1) && true) (fine_in e g (F.If h.0 h.1 None) is (tform.rolls-If h.0 h.1 None) fine) in
        let b = and_parts (bodied (shape_of h.1)) true f.1 in
        let d = and_parts (stmt_fine h.1) (shape_of h.1).block b.0 in
        let x = a.1 from scope h.1 n shown h.5 d.0 (λ y. (and_parts (stmt_free a.0) true (free y)).0) u.0 in
        usual (S.If p a.0 None) (S.If w.made v.made None) (form.If w.made v.made None) (V.rolls-If w.made v.made None) from scope e g (F.If h.0 h.1 None) is (tform.rolls-If h.0 h.1 None) refl
        (said_at scope shown bit p h.0 k h.4 f.0 s.0, x.block d.1, x.keeps, refl, tt) refl refl refl refl shown
      where
        none_is : (z : Option Stmt) → AnyMeans (StmtMeans one result) from scope None z → z ≡ None
        none_is None m = refl
        none_is (Some z) m = absurd m
    layer (S.If p a (Some b)) from scope e k shown h fine free c =
        let w = walks p k in
        let n = k + length w.copies in
        let v = steps a.0 n in
        let j = n + length v.copies in
        let o = steps b.0 j in
        let s = standing_parts all k w.copies (v.copies ++ o.copies) c in
        let u = standing_parts all n v.copies o.copies s.1 in
        let z = some_is h.2 h.6 in
        let g = tform.If h.0 h.1 (Some z.0) in
        let is : e ≡ g = h.3 ∙ ap (λ z. tform.If h.0 h.1 z) z.1 in
        let f = and_parts (expr_placed h.0) (bodied (shape_of h.1) && bodied (shape_of z.0)) (fine_in e g (F.If h.0 h.1 (Some z.0)) is (tform.rolls-If h.0 h.1 (Some z.0)) fine) in
        let q = and_parts (bodied (shape_of h.1)) (bodied (shape_of z.0)) f.1 in
        let d = and_parts (stmt_fine h.1) (shape_of h.1).block q.0 in
        let i = and_parts (stmt_fine z.0) (shape_of z.0).block q.1 in
        let x = a.1 from scope h.1 n shown h.5 d.0 (λ y. (and_parts (stmt_free a.0) (stmt_free b.0) (free y)).0) u.0 in
        let t = b.1 from scope z.0 j shown z.2 i.0 (λ y. (and_parts (stmt_free a.0) (stmt_free b.0) (free y)).1) u.1 in
        usual (S.If p a.0 (Some b.0)) (S.If w.made v.made (Some o.made)) (form.If w.made v.made (Some o.made)) (V.rolls-If w.made v.made (Some o.made)) from scope e g (F.If h.0 h.1 (Some z.0)) is (tform.rolls-If h.0 h.1 (Some z.0)) refl
        (said_at scope shown bit p h.0 k h.4 f.0 s.0, x.block d.1, x.keeps, t.block i.1, t.keeps) refl refl refl refl shown
      where
        some_is : (z : Option Stmt) → AnyMeans (StmtMeans one result) from scope (Some b.0) z → (y : Stmt) × (z ≡ Some y) × StmtMeans one result b.0 from scope y
        some_is None m = absurd m
        some_is (Some z) m = (z, refl, m)
    layer (S.While p a) from scope e k shown h fine free c =
        let w = walks p k in
        let n = k + length w.copies in
        let v = steps a.0 n in
        let s = standing_parts all k w.copies v.copies c in
        let g = tform.While h.0 h.1 in
        let f = and_parts (expr_placed h.0) (bodied (shape_of h.1)) (fine_in e g (F.While h.0 h.1) h.2 (tform.rolls-While h.0 h.1) fine) in
        let d = and_parts (stmt_fine h.1) (shape_of h.1).block f.1 in
        let x = a.1 from scope h.1 n shown h.4 d.0 free s.1 in
        usual (S.While p a.0) (S.While w.made v.made) (form.While w.made v.made) (V.rolls-While w.made v.made) from scope e g (F.While h.0 h.1) h.2 (tform.rolls-While h.0 h.1) refl
        (said_at scope shown bit p h.0 k h.3 f.0 s.0, x.block d.1, x.keeps) refl refl refl refl shown
    layer (S.Return p) from scope e k shown h fine free c =
        let v = (walk_value bounds call p k).made in
        let g = tform.Return h.0 in
        let f = fine_in e g (F.Return h.0) h.1 (tform.rolls-Return h.0) fine in
        usual (S.Return p) (S.Return v) (form.Return v) (V.rolls-Return v) from scope e g (F.Return h.0) h.1 (tform.rolls-Return h.0) refl (return_said scope shown result p h.0 k h.2 f c) refl refl refl refl shown
    layer (S.Assert p) from scope e k shown h fine free c =
        let a = (walks p k).made in
        let g = tform.Assert h.0 in
        let f = fine_in e g (F.Assert h.0) h.1 (tform.rolls-Assert h.0) fine in
        usual (S.Assert p) (S.Assert a) (form.Assert a) (V.rolls-Assert a) from scope e g (F.Assert h.0) h.1 (tform.rolls-Assert h.0) refl (said_at scope shown bit p h.0 k h.2 f c) refl refl refl refl shown
    layer (S.Assume p) from scope e k shown h fine free c =
        let a = (walks p k).made in
        let g = tform.Assume h.0 in
        let f = fine_in e g (F.Assume h.0) h.1 (tform.rolls-Assume h.0) fine in
        usual (S.Assume p) (S.Assume a) (form.Assume a) (V.rolls-Assume a) from scope e g (F.Assume h.0) h.1 (tform.rolls-Assume h.0) refl (said_at scope shown bit p h.0 k h.2 f c) refl refl refl refl shown
    layer (S.Minimize p) from scope e k shown h fine free c =
        let a = (walks p k).made in
        let g = tform.Minimize h.0 in
        let f = fine_in e g (F.Minimize h.0) h.1 (tform.rolls-Minimize h.0) fine in
        usual (S.Minimize p) (S.Minimize a) (form.Minimize a) (V.rolls-Minimize a) from scope e g (F.Minimize h.0) h.1 (tform.rolls-Minimize h.0) refl (said_at scope shown int p h.0 k h.2 f c) refl refl refl refl shown
    layer (S.Repeat p qs) from scope e k shown h fine free c =
        let n = copies_held bounds p.form in
        let ps = (times n (in_order (map steps (firsts qs))) k).made in
        let g = tform.Repeat h.0 h.1 in
        let f = fine_in e g (F.Repeat h.0 h.1) h.2 (tform.rolls-Repeat h.0 h.1) fine in
        let r = held_again n qs from scope h.1 k shown h.4 f (λ y. all_free (firsts qs) (free y)) c in
        usual (S.Repeat p (firsts qs)) (S.Repeat p ps) (form.Repeat p ps) (V.rolls-Repeat p ps) from scope e g (F.Repeat h.0 h.1) h.2 (tform.rolls-Repeat h.0 h.1) refl
        (ap (list_all is_block) (map_id ps) ∙ r.blocks, r.each) refl refl refl refl shown
    layer (S.MinRepeat qs) from scope e k shown h fine free c =
        let n = most_copies bounds bounds.cbits in
        let ps = (times n (in_order (map steps (firsts qs))) k).made in
        let g = tform.MinRepeat h.0 in
        let f = fine_in e g (F.MinRepeat h.0) h.1 (tform.rolls-MinRepeat h.0) fine in
        let r = held_again n qs from scope h.0 k shown h.2 f (λ y. all_free (firsts qs) (free y)) c in
        usual (S.MinRepeat (firsts qs)) (S.MinRepeat ps) (form.MinRepeat ps) (V.rolls-MinRepeat ps) from scope e g (F.MinRepeat h.0) h.1 (tform.rolls-MinRepeat h.0) refl
        (ap (in_range bounds) r.many ∙ held_in_range bounds bounds.cbits, ap (list_all is_block) (map_id ps) ∙ r.blocks, r.each) refl refl refl refl shown
    layer (S.Reorder qs) from scope e k shown h fine free c =
        let ps = (in_order (map steps (firsts qs)) k).made in
        let g = tform.Reorder h.0 in
        let f = stmts_fine h.0 (fine_in e g (F.Reorder h.0) h.1 (tform.rolls-Reorder h.0) fine) in
        let may = (and_parts (nat_le (length (map (λ y. y) (firsts qs))) 6) (not (list_any is_declaration (map (λ y. y) (firsts qs)))) h.2).1 in
        let none : list_any is_declaration (firsts qs) ≡ false = ap (list_any is_declaration) (sym (map_id (firsts qs))) ∙ not_true _ may in
        let r = each_again qs h.0 scope k shown h.3 none f (λ y. all_free (firsts qs) (free y)) c in
        usual (S.Reorder (firsts qs)) (S.Reorder ps) (form.Reorder ps) (V.rolls-Reorder ps) from scope e g (F.Reorder h.0) h.1 (tform.rolls-Reorder h.0) refl
        (ap (λ xs. not (list_any is_declaration xs)) (map_id ps) ∙ ap not r.none, r.each) refl refl refl refl shown

    form_from : (y : S.PForm-F Such Such') → FormAgain (roll-PForm (down y))
    form_from y from scope e k shown m fine free c =
        let w : acts (roll-PForm (down y)) ≡ act_of y = fold-roll-PForm (Walk PForm) (Walk PStmt) (form_walk bounds call) (stmt_step bounds call) (down y) in
        subst (λ (w : Walk PForm). FormIs (roll-PForm (down y)) (w k).made from scope e) (sym w)
        (layer y from scope e k shown (subst (λ (M : FormRule). M from scope e) (act_means_are one result (down y)) m) fine (free_in (down y) free) (subst (λ (w : Walk PForm). Standing all k (w k).copies) w c))

    in_stmt : (s : Span) (f : PForm) → FormAgain f → StmtAgain (record { span = s; form = f })
    in_stmt s f h from scope e k shown m fine free c =
        let p : PStmt = record { span = s; form = f } in
        let w : steps p ≡ as_walk (λ g. record { span = s; form = g }) (acts f) = fold-roll-PStmt (Walk PForm) (Walk PStmt) (form_walk bounds call) (stmt_step bounds call) (record { span = s; form = f }) in
        let q : PStmt = record { span = s; form = (acts f k).made } in
        let means = (subst (λ (M : StmtRule). M from scope e) (stmt_means_is one result p) m).1 in
        let r = h from scope e.form k shown means (ap (λ (s : Shape). s.fine) (sym (shape_is e)) ∙ fine) (λ y. sym (free_is p) ∙ free y) (subst (λ (w : Walk PStmt). Standing all k (w k).copies) w c) in
        let at : (act_shape e.form).block ≡ (shape_of e).block = ap (λ (s : Shape). s.block) (sym (shape_is e)) in
        subst (λ (w : Walk PStmt). StmtIs p (w k).made from scope e) (sym w) (record {
          keeps = subst (λ (K : Keeping). K from scope) (sym (stmt_keeps_is two result q)) r.keeps;
          anywhere = λ y n. subst (λ (K : Keeping). K n scope) (sym (stmt_keeps_is two result q)) (r.anywhere (at ∙ y) n);
          block = λ y. block_is q ∙ r.block (at ∙ y);
          declares = declares_is q ∙ r.declares ∙ sym (declares_is p);
          grows = after_is q ∙ r.grows ∙ sym (after_is p);
          still = λ d. ap (λ (f : Grows). f scope) (after_is p) ∙ r.still (sym (declares_is p) ∙ d);
          opens = subst (λ (f : Grows). NoneHides all (f scope)) (sym (after_is p)) r.opens;
        })

    pub stmt_again : (p : PStmt) → StmtAgain p
    stmt_again = ind-PStmt FormAgain StmtAgain
        (λ x y is. subst (λ z. FormAgain (roll-PForm z)) is (form_from y))
        (λ x y is. subst (λ z. StmtAgain (roll-PStmt z)) is (in_stmt y.span y.form.0 y.form.1))

    -- the statements of a block
    pub stmts_again : (ps : List PStmt) (es : List Stmt) (from : ℕ) (scope : List Variable) (k : ℕ) → NoneHides all scope → BlockMeans (λ y. y) (StmtMeans one result) from scope ps es → list_all stmt_fine es ≡ true → (named ≡ true → list_all stmt_free ps ≡ true) → Standing all k (in_order (map steps ps) k).copies → InBlock (λ y. y) (StmtKeeps two result) from scope (in_order (map steps ps) k).made
    stmts_again [] es from scope k shown m fine free c = tt
    stmts_again (p ∷ ps) [] from scope k shown m fine free c = absurd m
    stmts_again (p ∷ ps) (e ∷ es) from scope k shown m fine free c =
        let w = steps p k in
        let n = k + length w.copies in
        let s = standing_parts all k w.copies (in_order (map steps ps) n).copies c in
        let a = and_parts (stmt_fine e) (list_all stmt_fine es) fine in
        let x = stmt_again p from scope e k shown m.0 a.0 (λ y. (and_parts (stmt_free p) (list_all stmt_free ps) (free y)).0) s.0 in
        let r = stmts_again ps es from (after p scope) n x.opens m.1 a.1 (λ y. (and_parts (stmt_free p) (list_all stmt_free ps) (free y)).1) s.1 in
        (x.keeps, subst (λ (f : Grows). InBlock (λ y. y) (StmtKeeps two result) from (f scope) (in_order (map steps ps) n).made) (sym x.grows) r)
