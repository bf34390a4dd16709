-- Each call of an expansion is of an ordinary function, or of a copy that stands behind the caller.
use Rattle.std.proofs.Common.{◌≡◌, ◌<◌, ◌≤◌, ℕ, zero, suc, ◌+◌, Bool, true, ◌&&◌, List, [], ◌∷◌, ◌++◌, length, Some, inl, inr, sym, ap, subst, ◌∙◌, arith}
use Rattle.std.specs.Prelude.{◌⊎◌, IsTrue, slice_get, nat_le}
use Rattle.std.specs.List.{list_all}
use Rattle.std.proofs.lemmas.Bool.{and_parts}
use Rattle.std.proofs.lemmas.Option.{slice_get_within}
use Rattle.sk_base.specs.declared.span.Span.{Span}
use Rattle.sk_base.specs.declared.bounds.Bounds.{Bounds}
use Rattle.sk_tree.specs.declared.item.Item.{Item}
use Rattle.sk_prog.specs.declared.ty.Ty.TheVariants as ty
use Rattle.sk_prog.specs.declared.ty.Elem.TheVariants as elem
use Rattle.sk_prog.specs.declared.expr.PExpr.{PExpr}
use Rattle.sk_prog.specs.declared.expr.PEForm.TheVariants as eform
use Rattle.sk_prog.specs.declared.stmt.PStmt.{PStmt}
use Rattle.sk_prog.specs.declared.prog.Fun.{Fun}
use Rattle.sk_prog.specs.declared.prog.Prog.{Prog}
use Rattle.sk_prog.specs.Fits.{is_name, any_ty_fits, stmt_fits, struct_fits, const_fits, param_fits, implements_fits, fun_fits, prog_fits}
use Rattle.sk_types_rules.specs.Scope.{top_of}
use Rattle.sk_types_rules.specs.Types.{ItemsMean, parameters}
use Rattle.sk_types_rules.specs.Plain.{plain}
use Rattle.sk_types_rules.specs.WellTyped.{WellTyped}
use Rattle.sk_model.specs.Parts.{total}
use Rattle.sk_model.specs.Expand.{Made, ordinary_count, stub, calls_walk, all_left, walk_stmts, walk_funs, expand}
use Rattle.sk_model.proofs.Layers.{layer_false, layer_of_assert}
use Rattle.sk_holes_laws.specs.Callees.{eform_callees, form_callees, stmt_callees, is_ahead}
use Rattle.sk_expand_laws.specs.Copies.{IsBody, IsCopy, AreCopies}
use Rattle.sk_expand_laws.proofs.Ahead.{calls_ahead}
use Rattle.sk_expand_laws.proofs.Copied.{all_stand, copies_are_numbered}
use Rattle.sk_expand_laws.proofs.Counts.{stmt_counts, all_counts}
use Rattle.sk_expand_laws.proofs.Items.{fun_item, structs_distinct}
use Rattle.sk_expand_laws.proofs.Lists.{get_parts}
use Rattle.sk_expand_laws.proofs.Ordinary.{IsFrom, function_from, count_is}
use Rattle.sk_expand_laws.proofs.Plain.{item_fine, items_fine}
use Rattle.sk_expand_laws.proofs.Words.{stmts_ok}
use Rattle.sk_adt_tag_laws.specs.Fillings.{CallsAreAhead}

-- Lists

at_all : {X : Type 0} (test : X → Bool) (xs : List X) (i : ℕ) (x : X) → list_all test xs ≡ true → slice_get xs i ≡ Some x → test x ≡ true
at_all test [] i x h at = cc
at_all test (y ∷ xs) zero x h at = let e : y ≡ x = cc in ap test (sym e) ∙ (and_parts (test y) (list_all test xs) h).0
at_all test (y ∷ xs) (suc i) x h at = at_all test xs i x (and_parts (test y) (list_all test xs) h).1 at

copy_at : (bounds : Bounds) (funs all cs : List Fun) (k : ℕ) → AreCopies bounds funs all k cs → (j : ℕ) (c : Fun) → slice_get cs j ≡ Some c → IsCopy bounds funs all (k + j) c
copy_at bounds funs all [] k a j c at = cc
copy_at bounds funs all (d ∷ cs) k a zero c at =
    let e : d ≡ c = cc in
    let same : k ≡ k + 0 = omega arith in
    subst (λ n. IsCopy bounds funs all n c) same (subst (λ c. IsCopy bounds funs all k c) e a.0)
copy_at bounds funs all (d ∷ cs) k a (suc j) c at = let same : k + 1 + j ≡ k + suc j = omega arith in subst (λ n. IsCopy bounds funs all n c) same (copy_at bounds funs all cs (k + 1) a.1 j c at)

stub_ahead : (test : ℕ → Bool) (s : Span) → list_all (stmt_callees test) (stub s) ≡ true
stub_ahead test s =
    let e : PExpr = record { span = s; ty = Some (ty.One elem.Bit); form = eform.False } in
    ap (λ b. b && true) (layer_of_assert Bool Bool (form_callees test) (λ s. s.form) s e ∙ layer_false Bool Bool Bool (eform_callees test) (λ x. x.form) (λ x. x.value) s (Some (ty.One elem.Bit)))

module _ (prog : Prog) (bounds : Bounds) where
  abbrev pub made : Made (List Fun)
  made = walk_funs bounds prog.funs prog.funs 0

  abbrev pub funs : List Fun
  funs = made.made ++ made.copies

  abbrev count : ℕ
  count = ordinary_count prog.funs

  pub copy_is : (j : ℕ) (c : Fun) → slice_get made.copies j ≡ Some c → IsCopy bounds prog.funs made.copies j c
  copy_is j c at = let e : 0 + j ≡ j = omega arith in subst (λ n. IsCopy bounds prog.funs made.copies n c) e (copy_at bounds prog.funs made.copies made.copies 0 (copies_are_numbered prog bounds) j c at)

  module _ (is : List Item) (means : ItemsMean bounds (top_of prog) [] is prog.structs prog.consts prog.funs) (fine : list_all item_fine is ≡ true) (fits : list_all (fun_fits prog) prog.funs ≡ true) where
    module _ (place : ℕ) (f : Fun) (there : slice_get prog.funs place ≡ Some f) where
      pub body_fits : list_all (stmt_fits prog f.slots) f.body ≡ true
      body_fits =
          let a = and_parts (is_name f.name) _ (at_all (fun_fits prog) prog.funs place f fits there) in
          let b = and_parts (any_ty_fits prog f.result) _ a.1 in
          let c = and_parts (list_all (param_fits prog) f.params) _ b.1 in
          let d = and_parts (nat_le (length f.params) f.slots) _ c.1 in
          (and_parts (implements_fits prog f.implements) (list_all (stmt_fits prog f.slots) f.body) d.1).1

      pub body_counts : list_all stmt_counts f.body ≡ true
      body_counts =
          let has = fun_item bounds (top_of prog) [] is prog.structs prog.consts prog.funs means fine place f there in
          all_counts (record { bounds = bounds; top = top_of prog; known = has.known }) (λ i d at. structs_distinct bounds (top_of prog) [] is prog.structs prog.consts prog.funs means i d at) f.result f.body 0 (parameters f.params) has.tree.body has.means.body

      body_ahead : (fuel : ℕ) (left : List ℕ) (k n begin : ℕ) → n < count + begin → begin ≤ k → list_all (stmt_callees (is_ahead count n)) (walk_stmts bounds (calls_walk bounds prog.funs fuel left) f.body k).made ≡ true
      body_ahead fuel left k n begin ahead le = (stmts_ok bounds (calls_walk bounds prog.funs fuel left) prog f.slots begin (is_ahead count n) (calls_ahead prog bounds n begin ahead fuel left) f.body k le body_fits body_counts).1

    -- Calls

    abbrev Ahead : ℕ → List PStmt → Type 0
    Ahead n ps = list_all (stmt_callees (is_ahead count n)) ps ≡ true

    ordinary_ahead : (n : ℕ) (g : Fun) → IsFrom bounds prog.funs made.copies prog.funs n g → n < count → Ahead n g.body
    ordinary_ahead n g r below = subst (λ (g : Fun). Ahead n g.body) (sym r.walked.is) (body_ahead r.place r.from r.there (total (all_left bounds prog.funs)) (all_left bounds prog.funs) r.walked.at n 0 (omega (arith, below)) (omega arith))

    copy_ahead : (j n : ℕ) (c : Fun) → n ≡ count + j → IsCopy bounds prog.funs made.copies j c → Ahead n c.body
    copy_ahead j n c number r = subst (λ (g : Fun). Ahead n g.body) (sym r.is) (go r.made)
      where
        go : ((span : Span) × (r.body ≡ stub span)) ⊎ IsBody bounds prog.funs made.copies r.generator (j + 1) r.body → Ahead n r.body
        go (inl h) = subst (Ahead n) (sym h.1) (stub_ahead (is_ahead count n) h.0)
        go (inr h) = subst (Ahead n) (sym h.made) (body_ahead r.place r.generator r.there h.fuel h.left (j + 1) n (j + 1) (omega (arith, number)) (omega arith))

    fun_ahead : (n : ℕ) (g : Fun) → slice_get funs n ≡ Some g → Ahead n g.body
    fun_ahead n g at = elim (get_parts made.made made.copies n g at) [
      | inl h ↦
          let many = count_is bounds prog.funs made.copies prog.funs 0 in
          let within = slice_get_within made.made n g h in
          ordinary_ahead n g (function_from bounds prog.funs made.copies prog.funs 0 n g (all_stand made.copies) h) (omega (arith, many, within))
      | inr h ↦
          let many = count_is bounds prog.funs made.copies prog.funs 0 in
          let e = h.1 in
          copy_ahead h.0 n g (omega (arith, many, e)) (copy_is h.0 g h.2)
    ]

pub calls_are_ahead : (bounds : Bounds) (prog : Prog) → WellTyped prog bounds → IsTrue (prog_fits prog) → CallsAreAhead (expand prog bounds)
unfolding expand prog_fits
calls_are_ahead bounds prog typed fits =
    let a = and_parts (list_all (struct_fits prog) prog.structs) (list_all (const_fits prog) prog.consts && list_all (fun_fits prog) prog.funs) fits in
    let b = and_parts (list_all (const_fits prog) prog.consts) (list_all (fun_fits prog) prog.funs) a.1 in
    fun_ahead prog bounds (plain typed.tree).items typed.types.items (items_fine typed.tree.items typed.placed) b.1
