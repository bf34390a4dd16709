-- Statements with the new numbers of functions do what they do with the old ones, where calls do the same.
use Rattle.std.proofs.Common.{◌≡◌, ℕ, zero, suc, ◌-◌, ◌++◌, List, [], ◌∷◌, map, length, Option, Some, None, Bool, refl, sym, ap, subst, ◌∙◌}
use Rattle.std.specs.Prelude.{IsTrue, slice_get, replicate, nat_le, if◌then◌else◌}
use Rattle.sk_base.specs.declared.span.Span.{Span}
use Rattle.sk_base.specs.declared.bounds.Bounds.{Bounds}
use Rattle.sk_prog.specs.declared.ids.FunId.{FunId}
use Rattle.sk_prog.specs.declared.ids.StructId.{StructId}
use Rattle.sk_prog.specs.declared.ty.Ty.{Ty}
use Rattle.sk_prog.specs.declared.ty.Ty.TheVariants as ty
use Rattle.sk_prog.specs.declared.ty.Elem.TheVariants as elem
use Rattle.sk_prog.specs.declared.value.Value.{Value}
use Rattle.sk_prog.specs.declared.value.Value.TheVariants as value
use Rattle.sk_prog.specs.declared.value.Value.TheOpen as VV
use Rattle.sk_prog.specs.declared.value.Value.TheViews.{out-Value, rolls-Array, out-roll-Value}
use Rattle.sk_prog.specs.declared.expr.PExpr.{PExpr}
use Rattle.sk_prog.specs.declared.expr.PField.{PField}
use Rattle.sk_prog.specs.declared.expr.PEForm.TheVariants as eform
use Rattle.sk_prog.specs.declared.expr.PEForm.TheOpen as P
use Rattle.sk_prog.specs.declared.stmt.PStmt.{PStmt}
use Rattle.sk_prog.specs.declared.stmt.PForm.{PForm}
use Rattle.sk_prog.specs.declared.prog.StructDef.{StructDef}
use Rattle.sk_prog.specs.declared.prog.Prog.{Prog}
use Rattle.sk_model.specs.Parts.{joined}
use Rattle.sk_model.specs.Sites.{is_hole}
use Rattle.sk_model.specs.Step.{State, Goes, Comp, ◌>>=◌, pure, fail}
use Rattle.sk_model.specs.Values.{zero_of, is_array_form, elements_of, padded}
use Rattle.sk_model.specs.Heap.{Field, at_root, read_field, with_fields, zeros_of}
use Rattle.sk_model.specs.Operators.{unary_operator, to_int}
use Rattle.sk_model.specs.Eval.{Calls, Called, Does, const_value, padded_at, indexed, sliced, in_order, fields_in_order, choose, binary, ref_args, copy_back, result_value, add_index, does, does_form}
use Rattle.sk_model.specs.Exec.{Flow, one_by_one, declare, assign, drop_value, branch, turns, return, assert, assume, minimize, any_meaning, exec_stmt}
use Rattle.sk_model.proofs.Induction.{Each, ExprCases, expr_ind, StmtCases, stmt_ind}
use Rattle.sk_model.proofs.Layers.{layer_field, layer_number, layer_true, layer_false, layer_null, layer_var, layer_const, layer_hole, layer_pattern, layer_paren, layer_call, layer_new, layer_braces, layer_member, layer_index, layer_slice, layer_unary, layer_binary, layer_cond, layer_to_int, layer_pad, layer_of_block, layer_of_declare, layer_of_assign, layer_of_call, layer_of_if, layer_of_if_else, layer_of_while, layer_of_return, layer_of_assert, layer_of_assume, layer_of_minimize, layer_of_repeat, layer_of_minrepeat, layer_of_reorder}
use Rattle.sk_model.proofs.Forms.{field_does, field_does_is, does_number, does_true, does_false, does_null, does_var, does_const, does_hole, does_pattern, does_paren, does_call, does_new, does_braces, does_member, does_index, does_slice, does_unary, does_binary, does_cond, does_to_int, does_pad, exec_block, exec_declare, exec_assign, exec_call, exec_if, exec_if_else, exec_while, exec_return, exec_assert, exec_assume, exec_minimize, exec_repeat, exec_minrepeat, exec_reorder}
use Rattle.sk_holes_laws.specs.Filling.{Every}
use Rattle.sk_holes_choice_laws.proofs.Matching.{Matches}
use Rattle.sk_holes_choice_laws.proofs.Does.{same_does}
use Rattle.sk_prune.specs.Called.{eform_called, expr_called, value_called, form_called, stmt_called, called}
use Rattle.sk_prune.specs.Renamed.{Typed, hole_renamed, new_id, eform_renamed, expr_again, field_again, expr_renamed, value_renamed, form_renamed, stmt_again, stmt_renamed, renamed}
use Rattle.sk_prune.specs.Words.{field_called, field_renamed}
use Rattle.sk_prune_laws.proofs.Rows.{by_state}

pub every_split : {A : Type 0} (Q : A → Type 0) (xs ys : List A) → Every Q (xs ++ ys) → Every Q xs × Every Q ys
every_split Q [] ys h = (tt, h)
every_split Q (x ∷ xs) ys h = let r = every_split Q xs ys h.1 in ((h.0, r.0), r.1)

-- what `new` does, by the structs alone
abbrev allot : List StructDef → StructId → List (ℕ × Value) → Comp Value
allot structs d set = λ s. Goes (value.Place (length s.heap)) (record s { heap = s.heap ++ with_fields (zeros_of (slice_get structs d.index)) set ∷ [] })

out_array : (vs : List Value) → out-Value (value.Array vs) ≡ VV.Array vs
out_array vs = ap out-Value (sym (rolls-Array vs)) ∙ out-roll-Value (VV.Array vs)

no_bits : padded (ty.Array elem.Bit 0) (value.Array []) ≡ value.Array []
no_bits = ap (λ (o : VV.Value-F Value). value.Array ((if is_array_form o then elements_of o else value.Array [] ∷ []) ++ replicate (0 - length (if is_array_form o then elements_of o else value.Array [] ∷ [])) (zero_of (ty.One elem.Bit)))) (out_array [])

module _ (bounds : Bounds) (stands : ℕ → Bool) (number : ℕ → ℕ) (prog again : Prog) (call call' : Calls) (m : Matches prog again call call' stands number) where
  abbrev width : ℕ
  width = bounds.int_bits

  abbrev Stands : ℕ → Type 0
  Stands f = IsTrue (stands f)

  abbrev Go : List ℕ → Type 0
  Go fs = Every Stands fs

  abbrev old : PExpr → Does
  old = does prog width call

  abbrev new : PExpr → Does
  new = does again width call'

  abbrev old_x : PField → ℕ × Does
  old_x = field_does prog width call

  abbrev new_x : PField → ℕ × Does
  new_x = field_does again width call'

  abbrev ren : PExpr → PExpr
  ren = expr_renamed number

  abbrev ren_x : PField → PField
  ren_x = field_renamed number

  abbrev L : Type 0
  L = List ℕ

  abbrev Q : PExpr → Type 0
  Q e = Go (expr_called e) → new (ren e) ≡ old e

  abbrev R : PField → Type 0
  R x = Go (field_called x) → new_x (ren_x x) ≡ old_x x

  rows : (es : List PExpr) → Each Q es → Go (joined (map expr_called es)) → map new (map ren es) ≡ map old es
  rows [] q h = refl
  rows (e ∷ es) q h =
      let g = every_split Stands (expr_called e) (joined (map expr_called es)) h in
      let a = q.0 g.0 in
      let b = rows es q.1 g.1 in
      λ i. a i ∷ b i

  field_rows : (xs : List PField) → Each R xs → Go (joined (map field_called xs)) → map new_x (map ren_x xs) ≡ map old_x xs
  field_rows [] q h = refl
  field_rows (x ∷ xs) q h =
      let g = every_split Stands (field_called x) (joined (map field_called xs)) h in
      let a = q.0 g.0 in
      let b = field_rows xs q.1 g.1 in
      λ i. a i ∷ b i

  -- by the layers: of the new numbers, of what is called, and of what the new form and the old one do
  by_form : (e e' : PExpr) (fs : List ℕ) (d d' : Does) → ren e ≡ e' → expr_called e ≡ fs → new e' ≡ d' → old e ≡ d → (Go fs → d' ≡ d) → Q e
  by_form e e' fs d d' is calls does_new does_old h go = ap new is ∙ does_new ∙ h (subst Go calls go) ∙ sym does_old

  call_does : (f : FunId) (ds es : List Does) (t : Option Ty) → Stands f.index → ds ≡ es → does_form again width call' {X = Option Ty → Does} (P.Call (new_id number f) ds) t ≡ does_form prog width call {X = Option Ty → Does} (P.Call f es) t
  call_does f ds es t h q =
      same_does _ _
      (λ span.
      let c : call' span (number f.index) ≡ call span f.index = λ i args st. sym (m.calls span f.index args st h) i in
      let p = sym (m.params f.index h) in
      λ i. in_order span (q i) >>= (λ vs. c i vs >>= (λ (called : Called). copy_back span (ref_args (p i) (q i)) called.refs >>= (λ u. pure (result_value called.result)))))
      (λ span. refl)

  new_does : (d : StructId) (xs ys : List (ℕ × Does)) (t : Option Ty) → xs ≡ ys → does_form again width call' {X = Option Ty → Does} (P.New d xs) t ≡ does_form prog width call {X = Option Ty → Does} (P.New d ys) t
  new_does d xs ys t q = same_does _ _ (λ span j. fields_in_order span (q j) >>= allot (sym m.structs j) d) (λ span. refl)

  kept_hole : (s : Span) (t : Option Ty) (bits : Option ℕ) → new (record { span = s; ty = t; form = eform.Hole bits }) ≡ does_form prog width call {X = Option Ty → Does} (P.Hole bits) t
  kept_hole s t bits = does_hole again width call' s t bits ∙ same_does _ _ (λ span. refl) (λ span. refl)

  -- a hole of no bits is worth what braces of none are
  hole_does : (s : Span) (t : Option Ty) (bits : Option ℕ) → new (record { span = s; ty = t; form = hole_renamed bits t }) ≡ does_form prog width call {X = Option Ty → Does} (P.Hole bits) t
  hole_does s None bits = kept_hole s None bits
  hole_does s (Some (ty.One e)) bits = kept_hole s (Some (ty.One e)) bits
  hole_does s (Some (ty.Array elem.Bit zero)) bits =
      does_braces again width call' s (Some (ty.Array elem.Bit zero)) []
      ∙ same_does _ _ (λ span j st. Goes (no_bits j) st) (λ span. refl)
  hole_does s (Some (ty.Array elem.Bit (suc n))) bits = kept_hole s (Some (ty.Array elem.Bit (suc n))) bits
  hole_does s (Some (ty.Array elem.Int n)) bits = kept_hole s (Some (ty.Array elem.Int n)) bits
  hole_does s (Some (ty.Array (elem.Reference d) n)) bits = kept_hole s (Some (ty.Array (elem.Reference d) n)) bits
  hole_does s (Some (ty.Grid e n k)) bits = kept_hole s (Some (ty.Grid e n k)) bits

  two : (a b : PExpr) → Q a → Q b → Go (expr_called a ++ expr_called b) → (new (ren a) ≡ old a) × (new (ren b) ≡ old b)
  two a b q r h = let g = every_split Stands (expr_called a) (expr_called b) h in (q g.0, r g.1)

  cases : ExprCases Q R
  cases = record {
    field = λ k e q h.
        let c : field_called (record { field = k; value = e }) ≡ expr_called e = layer_field L L L eform_called (λ e. e.form) (λ x. x.value) k e in
        let a = q (subst Go c h) in
        ap new_x (layer_field Typed PExpr PField (eform_renamed number) (expr_again number) (field_again number) k e) ∙ field_does_is again width call' k (ren e) ∙ ap (λ (d : Does). (k, d)) a ∙ sym (field_does_is prog width call k e);
    number = λ s t n. by_form _ _ _ _ _ (layer_number Typed PExpr PField (eform_renamed number) (expr_again number) (field_again number) s t n) (layer_number L L L eform_called (λ e. e.form) (λ x. x.value) s t n) (does_number again width call' s t n) (does_number prog width call s t n) (λ h. same_does _ _ (λ span. refl) (λ span. refl));
    truth = λ s t. by_form _ _ _ _ _ (layer_true Typed PExpr PField (eform_renamed number) (expr_again number) (field_again number) s t) (layer_true L L L eform_called (λ e. e.form) (λ x. x.value) s t) (does_true again width call' s t) (does_true prog width call s t) (λ h. same_does _ _ (λ span. refl) (λ span. refl));
    falsity = λ s t. by_form _ _ _ _ _ (layer_false Typed PExpr PField (eform_renamed number) (expr_again number) (field_again number) s t) (layer_false L L L eform_called (λ e. e.form) (λ x. x.value) s t) (does_false again width call' s t) (does_false prog width call s t) (λ h. same_does _ _ (λ span. refl) (λ span. refl));
    null = λ s t. by_form _ _ _ _ _ (layer_null Typed PExpr PField (eform_renamed number) (expr_again number) (field_again number) s t) (layer_null L L L eform_called (λ e. e.form) (λ x. x.value) s t) (does_null again width call' s t) (does_null prog width call s t) (λ h. same_does _ _ (λ span. refl) (λ span. refl));
    var = λ s t slot x. by_form _ _ _ _ _ (layer_var Typed PExpr PField (eform_renamed number) (expr_again number) (field_again number) s t slot x) (layer_var L L L eform_called (λ e. e.form) (λ x. x.value) s t slot x) (does_var again width call' s t slot x) (does_var prog width call s t slot x) (λ h. same_does _ _ (λ span. refl) (λ span. refl));
    const = λ s t k. by_form _ _ _ _ _ (layer_const Typed PExpr PField (eform_renamed number) (expr_again number) (field_again number) s t k) (layer_const L L L eform_called (λ e. e.form) (λ x. x.value) s t k) (does_const again width call' s t k) (does_const prog width call s t k) (λ h. same_does _ _ (λ span j st. Goes (const_value (slice_get (sym m.consts j) k.index)) st) (λ span. refl));
    hole = λ s t bits. by_form _ _ _ _ _ (layer_hole Typed PExpr PField (eform_renamed number) (expr_again number) (field_again number) s t bits) (layer_hole L L L eform_called (λ e. e.form) (λ x. x.value) s t bits) (hole_does s t bits) (does_hole prog width call s t bits) (λ h. refl);
    pattern = λ s t es q. by_form _ _ _ _ _ (layer_pattern Typed PExpr PField (eform_renamed number) (expr_again number) (field_again number) s t es) (layer_pattern L L L eform_called (λ e. e.form) (λ x. x.value) s t es) (does_pattern again width call' s t (map ren es)) (does_pattern prog width call s t es) (λ h. same_does _ _ (λ span. refl) (λ span. refl));
    paren = λ s t e q. by_form _ _ _ _ _ (layer_paren Typed PExpr PField (eform_renamed number) (expr_again number) (field_again number) s t e) (layer_paren L L L eform_called (λ e. e.form) (λ x. x.value) s t e) (does_paren again width call' s t (ren e)) (does_paren prog width call s t e) (λ h. let a = q h in same_does _ _ (λ span j. (a j).value span) (λ span. refl));
    call = λ s t f es q. by_form _ _ _ _ _ (layer_call Typed PExpr PField (eform_renamed number) (expr_again number) (field_again number) s t f es) (layer_call L L L eform_called (λ e. e.form) (λ x. x.value) s t f es) (does_call again width call' s t (new_id number f) (map ren es)) (does_call prog width call s t f es) (λ h. call_does f (map new (map ren es)) (map old es) t h.0 (rows es q h.1));
    new = λ s t d fs q. by_form _ _ _ _ _ (layer_new Typed PExpr PField (eform_renamed number) (expr_again number) (field_again number) s t d fs) (layer_new L L L eform_called (λ e. e.form) (λ x. x.value) s t d fs) (does_new again width call' s t d (map ren_x fs)) (does_new prog width call s t d fs) (λ h. new_does d (map new_x (map ren_x fs)) (map old_x fs) t (field_rows fs q h));
    braces = λ s t es q. by_form _ _ _ _ _ (layer_braces Typed PExpr PField (eform_renamed number) (expr_again number) (field_again number) s t es) (layer_braces L L L eform_called (λ e. e.form) (λ x. x.value) s t es) (does_braces again width call' s t (map ren es)) (does_braces prog width call s t es) (λ h. let a = rows es q h in same_does _ _ (λ span j. in_order span (a j) >>= (λ vs. pure (padded_at t (value.Array vs)))) (λ span. refl));
    member = λ s t e d k q. by_form _ _ _ _ _ (layer_member Typed PExpr PField (eform_renamed number) (expr_again number) (field_again number) s t e d k) (layer_member L L L eform_called (λ e. e.form) (λ x. x.value) s t e d k) (does_member again width call' s t (ren e) d k) (does_member prog width call s t e d k) (λ h. let a = q h in same_does _ _ (λ span j. (a j).value span >>= read_field span k) (λ span j. (a j).value span >>= (λ v. at_root (Field v k))));
    index = λ s t e i q r. by_form _ _ _ _ _ (layer_index Typed PExpr PField (eform_renamed number) (expr_again number) (field_again number) s t e i) (layer_index L L L eform_called (λ e. e.form) (λ x. x.value) s t e i) (does_index again width call' s t (ren e) (ren i)) (does_index prog width call s t e i) (λ h. let a = two e i q r h in same_does _ _ (λ span j. (a.0 j).value span >>= (λ w. (a.1 j).value span >>= indexed span w)) (λ span j. (a.0 j).target span >>= (λ l. (a.1 j).value span >>= add_index span l)));
    slice = λ s t e i n q r. by_form _ _ _ _ _ (layer_slice Typed PExpr PField (eform_renamed number) (expr_again number) (field_again number) s t e i n) (layer_slice L L L eform_called (λ e. e.form) (λ x. x.value) s t e i n) (does_slice again width call' s t (ren e) (ren i) n) (does_slice prog width call s t e i n) (λ h. let a = two e i q r h in same_does _ _ (λ span j. (a.0 j).value span >>= (λ w. (a.1 j).value span >>= sliced span n w)) (λ span. refl));
    unary = λ s t o e q. by_form _ _ _ _ _ (layer_unary Typed PExpr PField (eform_renamed number) (expr_again number) (field_again number) s t o e) (layer_unary L L L eform_called (λ e. e.form) (λ x. x.value) s t o e) (does_unary again width call' s t o (ren e)) (does_unary prog width call s t o e) (λ h. let a = q h in same_does _ _ (λ span j. (a j).value span >>= unary_operator width span o) (λ span. refl));
    binary = λ s t o a b q r. by_form _ _ _ _ _ (layer_binary Typed PExpr PField (eform_renamed number) (expr_again number) (field_again number) s t o a b) (layer_binary L L L eform_called (λ e. e.form) (λ x. x.value) s t o a b) (does_binary again width call' s t o (ren a) (ren b)) (does_binary prog width call s t o a b) (λ h. let g = two a b q r h in same_does _ _ (λ span j. binary width span o ((g.0 j).value span) ((g.1 j).value span)) (λ span. refl));
    cond = λ s t c a b q r u. by_form _ _ _ _ _ (layer_cond Typed PExpr PField (eform_renamed number) (expr_again number) (field_again number) s t c a b) (layer_cond L L L eform_called (λ e. e.form) (λ x. x.value) s t c a b) (does_cond again width call' s t (ren c) (ren a) (ren b)) (does_cond prog width call s t c a b) (λ h.
        let first = every_split Stands (expr_called c) (expr_called a ++ expr_called b) h in
        let k = q first.0 in
        let g = two a b r u first.1 in
        same_does _ _ (λ span j. (k j).value span >>= choose span ((g.0 j).value span) ((g.1 j).value span)) (λ span. refl));
    to_int = λ s t e q. by_form _ _ _ _ _ (layer_to_int Typed PExpr PField (eform_renamed number) (expr_again number) (field_again number) s t e) (layer_to_int L L L eform_called (λ e. e.form) (λ x. x.value) s t e) (does_to_int again width call' s t (ren e)) (does_to_int prog width call s t e) (λ h. let a = q h in same_does _ _ (λ span j. (a j).value span >>= to_int span) (λ span. refl));
    pad = λ s t e q. by_form _ _ _ _ _ (layer_pad Typed PExpr PField (eform_renamed number) (expr_again number) (field_again number) s t e) (layer_pad L L L eform_called (λ e. e.form) (λ x. x.value) s t e) (does_pad again width call' s t (ren e)) (does_pad prog width call s t e) (λ h. let a = q h in same_does _ _ (λ span j. (a j).value span >>= (λ v. pure (padded_at t v))) (λ span. refl));
  }

  expr_same : (e : PExpr) → Q e
  expr_same = expr_ind Q R cases

  any_same : (e : Option PExpr) → Go (value_called e) → any_meaning again bounds call' (value_renamed number e) ≡ any_meaning prog bounds call e
  any_same None h = refl
  any_same (Some e) h = ap Some (expr_same e h)

  -- Statements

  abbrev was : PStmt → Comp Flow
  was = exec_stmt prog bounds call

  abbrev is : PStmt → Comp Flow
  is = exec_stmt again bounds call'

  abbrev ren_s : PStmt → PStmt
  ren_s = stmt_renamed number

  abbrev At : PStmt → Type 0
  At s = Go (stmt_called s) → is (ren_s s) ≡ was s

  stmt_rows : (ss : List PStmt) → Each At ss → Go (called ss) → map is (map ren_s ss) ≡ map was ss
  stmt_rows [] q h = refl
  stmt_rows (s ∷ ss) q h =
      let g = every_split Stands (stmt_called s) (called ss) h in
      let a = q.0 g.0 in
      let b = stmt_rows ss q.1 g.1 in
      λ i. a i ∷ b i

  by_stmt : (s s' : PStmt) (fs : List ℕ) (n n' : Comp Flow) → ren_s s ≡ s' → stmt_called s ≡ fs → ((st : State) → is s' st ≡ n' st) → ((st : State) → was s st ≡ n st) → (Go fs → n' ≡ n) → At s
  by_stmt s s' fs n n' e calls does_new does_old h go = ap is e ∙ by_state (is s') n' does_new ∙ h (subst Go calls go) ∙ sym (by_state (was s) n does_old)

  both : (a b : PExpr) → Go (expr_called a ++ expr_called b) → (new (ren a) ≡ old a) × (new (ren b) ≡ old b)
  both a b h = two a b (expr_same a) (expr_same b) h

  stmt_cases : StmtCases At
  stmt_cases = record {
    block = λ s ss q. by_stmt _ _ _ _ _ (layer_of_block PForm PStmt (form_renamed number) (stmt_again number) s ss) (layer_of_block L L form_called (λ s. s.form) s ss) (exec_block again bounds call' s (map ren_s ss)) (exec_block prog bounds call s ss) (λ h. ap one_by_one (stmt_rows ss q h));
    declare = λ s slot x t e. by_stmt _ _ _ _ _ (layer_of_declare PForm PStmt (form_renamed number) (stmt_again number) s slot x t e) (layer_of_declare L L form_called (λ s. s.form) s slot x t e) (exec_declare again bounds call' s slot x t (value_renamed number e)) (exec_declare prog bounds call s slot x t e) (λ h. ap (declare s slot t) (any_same e h));
    assign = λ s p e. by_stmt _ _ _ _ _ (layer_of_assign PForm PStmt (form_renamed number) (stmt_again number) s p e) (layer_of_assign L L form_called (λ s. s.form) s p e) (exec_assign again bounds call' s (ren p) (ren e)) (exec_assign prog bounds call s p e) (λ h. let g = both p e h in λ j. assign s (g.0 j) (g.1 j));
    calls = λ s e. by_stmt _ _ _ _ _ (layer_of_call PForm PStmt (form_renamed number) (stmt_again number) s e) (layer_of_call L L form_called (λ s. s.form) s e) (exec_call again bounds call' s (ren e)) (exec_call prog bounds call s e) (λ h. ap (drop_value s) (expr_same e h));
    if_only = λ s c a q. by_stmt _ _ _ _ _ (layer_of_if PForm PStmt (form_renamed number) (stmt_again number) s c a) (layer_of_if L L form_called (λ s. s.form) s c a) (exec_if again bounds call' s (ren c) (ren_s a)) (exec_if prog bounds call s c a) (λ h.
        let g = every_split Stands (expr_called c) (stmt_called a ++ []) h in
        let k = every_split Stands (stmt_called a) [] g.1 in
        let u = expr_same c g.0 in
        let v = q k.0 in
        λ j. branch s (u j) (v j) None);
    if_else = λ s c a b q r. by_stmt _ _ _ _ _ (layer_of_if_else PForm PStmt (form_renamed number) (stmt_again number) s c a b) (layer_of_if_else L L form_called (λ s. s.form) s c a b) (exec_if_else again bounds call' s (ren c) (ren_s a) (ren_s b)) (exec_if_else prog bounds call s c a b) (λ h.
        let g = every_split Stands (expr_called c) (stmt_called a ++ stmt_called b) h in
        let k = every_split Stands (stmt_called a) (stmt_called b) g.1 in
        let u = expr_same c g.0 in
        let v = q k.0 in
        let w = r k.1 in
        λ j. branch s (u j) (v j) (Some (w j)));
    loop = λ s c a q. by_stmt _ _ _ _ _ (layer_of_while PForm PStmt (form_renamed number) (stmt_again number) s c a) (layer_of_while L L form_called (λ s. s.form) s c a) (exec_while again bounds call' s (ren c) (ren_s a)) (exec_while prog bounds call s c a) (λ h.
        let g = every_split Stands (expr_called c) (stmt_called a) h in
        let u = expr_same c g.0 in
        let v = q g.1 in
        λ j. turns bounds.unroll s (u j) (v j));
    returns = λ s e. by_stmt _ _ _ _ _ (layer_of_return PForm PStmt (form_renamed number) (stmt_again number) s e) (layer_of_return L L form_called (λ s. s.form) s e) (exec_return again bounds call' s (value_renamed number e)) (exec_return prog bounds call s e) (λ h. ap (return s) (any_same e h));
    asserts = λ s e. by_stmt _ _ _ _ _ (layer_of_assert PForm PStmt (form_renamed number) (stmt_again number) s e) (layer_of_assert L L form_called (λ s. s.form) s e) (exec_assert again bounds call' s (ren e)) (exec_assert prog bounds call s e) (λ h. ap (assert s) (expr_same e h));
    assumes = λ s e. by_stmt _ _ _ _ _ (layer_of_assume PForm PStmt (form_renamed number) (stmt_again number) s e) (layer_of_assume L L form_called (λ s. s.form) s e) (exec_assume again bounds call' s (ren e)) (exec_assume prog bounds call s e) (λ h. ap (assume s) (expr_same e h));
    minimizes = λ s e. by_stmt _ _ _ _ _ (layer_of_minimize PForm PStmt (form_renamed number) (stmt_again number) s e) (layer_of_minimize L L form_called (λ s. s.form) s e) (exec_minimize again bounds call' s (ren e)) (exec_minimize prog bounds call s e) (λ h. ap (minimize s) (expr_same e h));
    repeats = λ s c ss q. by_stmt _ _ _ _ _ (layer_of_repeat PForm PStmt (form_renamed number) (stmt_again number) s c ss) (layer_of_repeat L L form_called (λ s. s.form) s c ss) (exec_repeat again bounds call' s c (map ren_s ss)) (exec_repeat prog bounds call s c ss) (λ h. let u = stmt_rows ss q h in λ j. if is_hole c.form then fail s else one_by_one (u j));
    minrepeat = λ s ss q. by_stmt _ _ _ _ _ (layer_of_minrepeat PForm PStmt (form_renamed number) (stmt_again number) s ss) (layer_of_minrepeat L L form_called (λ s. s.form) s ss) (exec_minrepeat again bounds call' s (map ren_s ss)) (exec_minrepeat prog bounds call s ss) (λ h. refl);
    reorder = λ s ss q. by_stmt _ _ _ _ _ (layer_of_reorder PForm PStmt (form_renamed number) (stmt_again number) s ss) (layer_of_reorder L L form_called (λ s. s.form) s ss) (exec_reorder again bounds call' s (map ren_s ss)) (exec_reorder prog bounds call s ss) (λ h. let u = stmt_rows ss q h in λ j. if nat_le (length (u j)) 1 then one_by_one (u j) else fail s);
  }

  stmt_same : (s : PStmt) → At s
  stmt_same = stmt_ind At stmt_cases

  each_same : (ss : List PStmt) → Each At ss
  each_same [] = tt
  each_same (s ∷ ss) = (stmt_same s, each_same ss)

  -- so is it of statements in a row
  pub renamed_do : (ss : List PStmt) → Every (λ f. IsTrue (stands f)) (called ss) → map (exec_stmt again bounds call') (renamed number ss) ≡ map (exec_stmt prog bounds call) ss
  renamed_do ss h = stmt_rows ss (each_same ss) h
