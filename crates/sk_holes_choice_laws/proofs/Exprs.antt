-- An expression does under a choice what its filling does.
use Rattle.std.proofs.Common.{◌≡◌, ◌<◌, ℕ, zero, suc, ◌+◌, ◌-◌, Bool, List, [], ◌∷◌, ◌++◌, map, length, Option, Some, None, refl, sym, ap, subst, ◌∙◌, arith}
use Rattle.std.specs.Prelude.{IsTrue, slice_get, replicate, if◌then◌else◌}
use Rattle.std.proofs.lemmas.List.{length-map}
use Rattle.sk_base.specs.declared.span.Span.{Span}
use Rattle.sk_base.specs.declared.bounds.Bounds.{Bounds}
use Rattle.sk_prog.specs.declared.ids.FunId.{FunId}
use Rattle.sk_prog.specs.declared.ids.StructId.{StructId}
use Rattle.sk_prog.specs.declared.ids.ConstId.{ConstId}
use Rattle.sk_prog.specs.declared.ty.Ty.{Ty}
use Rattle.sk_prog.specs.declared.ty.Ty.TheVariants as ty
use Rattle.sk_prog.specs.declared.ty.Elem.TheVariants as elem
use Rattle.sk_prog.specs.declared.value.Value.{Value}
use Rattle.sk_prog.specs.declared.value.Value.TheVariants as value
use Rattle.sk_prog.specs.declared.value.Value.TheOpen as VV
use Rattle.sk_prog.specs.declared.value.Value.TheViews.{out-Value, rolls-Array, out-roll-Value}
use Rattle.sk_prog.specs.declared.expr.PExpr.{PExpr}
use Rattle.sk_prog.specs.declared.expr.PField.{PField}
use Rattle.sk_prog.specs.declared.expr.PEForm.{PEForm}
use Rattle.sk_prog.specs.declared.expr.PEForm.TheVariants as eform
use Rattle.sk_prog.specs.declared.expr.PEForm.TheOpen as P
use Rattle.sk_prog.specs.declared.expr.PEForm.TheViews as V
use Rattle.sk_prog.specs.declared.expr.PEForm.TheFolds.{map-PEForm, fold-PEForm, fold-PField}
use Rattle.sk_prog.specs.declared.prog.StructDef.{StructDef}
use Rattle.sk_prog.specs.declared.prog.Prog.{Prog}
use Rattle.sk_model.specs.declared.expanded.Site.{Site}
use Rattle.sk_model.specs.Parts.{Part, counts, in_turn, pick, value, joined}
use Rattle.sk_model.specs.Sites.{site, eform_sites, expr_sites}
use Rattle.sk_model.specs.Stands.{Standing, own, absent, beside, in_row, only, first_of, eform_standing, expr_standing}
use Rattle.sk_model.specs.Fill.{chosen, no_string, renamed, eform_part, expr_step, field_step, expr_part, fill_expr}
use Rattle.sk_model.specs.Fill as F
use Rattle.sk_model.specs.Step.{State, Step, Goes, Comp, and_then, ◌>>=◌, pure, fail}
use Rattle.sk_model.specs.Values.{zero_of, is_array_form, elements_of, padded}
use Rattle.sk_model.specs.Heap.{Field, at_root, read_field, with_fields, zeros_of}
use Rattle.sk_model.specs.Operators.{unary_operator, to_int}
use Rattle.sk_model.specs.Eval.{Calls, Called, Does, number_at, literal, const_value, padded_at, indexed, sliced, in_order, fields_in_order, choose, binary, ref_args, copy_back, result_value, add_index, does, does_form}
use Rattle.sk_model.specs.Open.{nothing_done, open_eform, open_field, open_expr}
use Rattle.sk_model.specs.Open as O
use Rattle.sk_model.proofs.Induction.{Each, ExprCases, expr_ind}
use Rattle.sk_model.proofs.Layers.{expr_layer, layer_field}
use Rattle.sk_model.proofs.Forms.{field_does, does_number, does_true, does_false, does_null, does_var, does_const, does_paren, does_call, does_new, does_braces, does_member, does_index, does_slice, does_unary, does_binary, does_cond, does_to_int, does_pad, field_does_is}
use Rattle.sk_holes_laws.specs.Filling.{Every, Ready}
use Rattle.sk_holes_laws.proofs.Rows.{Counted, none_counted, both_counted, both_ready, row_counted, row_ready, CountedPart, counts_made}
use Rattle.sk_holes_choice_laws.proofs.Matching.{Matches}
use Rattle.sk_holes_choice_laws.proofs.Does.{same_does, chosen_does}

-- what `new` does, by the structs alone
abbrev allot : List StructDef → StructId → List (ℕ × Value) → Comp Value
allot structs d set = λ s. Goes (value.Place (length s.heap)) (record s { heap = s.heap ++ with_fields (zeros_of (slice_get structs d.index)) set ∷ [] })

out_array : (vs : List Value) → out-Value (value.Array vs) ≡ VV.Array vs
out_array vs = ap out-Value (sym (rolls-Array vs)) ∙ out-roll-Value (VV.Array vs)

none_added : (vs : List Value) (n : ℕ) (z : Value) → length vs ≡ n → vs ++ replicate (n - length vs) z ≡ vs
none_added vs n z h = let e : n - length vs ≡ 0 = omega (arith, h) in ap (λ k. vs ++ replicate k z) e ∙ nothing vs
  where
    nothing : (ws : List Value) → ws ++ [] ≡ ws
    nothing [] = refl
    nothing (w ∷ ws) = ap (λ xs. w ∷ xs) (nothing ws)

-- an array of as many bits as its type says is padded by none
padded_bits : (n : ℕ) (vs : List Value) → length vs ≡ n → padded (ty.Array elem.Bit n) (value.Array vs) ≡ value.Array vs
padded_bits n vs h =
    ap (λ (o : VV.Value-F Value). value.Array ((if is_array_form o then elements_of o else value.Array vs ∷ []) ++ replicate (n - length (if is_array_form o then elements_of o else value.Array vs ∷ [])) (zero_of (ty.One elem.Bit)))) (out_array vs)
    ∙ ap value.Array (none_added vs n (zero_of (ty.One elem.Bit)) h)

pub every_of : {A : Type 0} (Q : A → Type 0) (xs : List A) → Each Q xs → Every Q xs
every_of Q [] h = tt
every_of Q (x ∷ xs) h = (h.0, every_of Q xs h.1)

length-bits : (n : ℕ) (x : Site) → length (replicate n x) ≡ n
length-bits zero x = refl
length-bits (suc n) x = ap suc (length-bits n x)

module _ (bounds : Bounds) (values : List ℕ) (stands : ℕ → Bool) (number : ℕ → ℕ) (prog again : Prog) (call call' : Calls) (m : Matches prog again call call' stands number) where
  abbrev width : ℕ
  width = bounds.int_bits

  abbrev Stands : ℕ → Type 0
  Stands f = IsTrue (stands f)

  abbrev SiteFold : Type 0
  SiteFold = Option Ty → Span → List Site

  abbrev StandFold : Type 0
  StandFold = Option Ty → Part Standing

  abbrev FillFold : Type 0
  FillFold = Option Ty → Span → Part PExpr

  abbrev OpenFold : Type 0
  OpenFold = Option Ty → Part Does

  abbrev sites : PExpr → List Site
  sites = expr_sites bounds

  abbrev stand : PExpr → Part Standing
  stand = expr_standing values

  abbrev filled : PExpr → Part PExpr
  filled = expr_part values number

  abbrev opened : PExpr → Part Does
  opened = open_expr prog bounds values call

  abbrev done : PExpr → Does
  done = does again width call'

  abbrev sites_f : PEForm → SiteFold
  sites_f = fold-PEForm SiteFold (List Site) (List Site) (eform_sites bounds) (λ e. e.form e.ty e.span) (λ x. x.value)

  abbrev stand_f : PEForm → StandFold
  stand_f = fold-PEForm StandFold (Part Standing) (Part Standing) (eform_standing values) (λ e. e.form e.ty) (λ x. x.value)

  abbrev filled_f : PEForm → FillFold
  filled_f = fold-PEForm FillFold (Part PExpr) (Part PField) (eform_part values number) (expr_step values number) (field_step values number)

  abbrev opened_f : PEForm → OpenFold
  opened_f = fold-PEForm OpenFold (Part Does) (Part (ℕ × Does)) (open_eform prog bounds values call) (λ x. x.form x.ty) (open_field prog bounds values call)

  abbrev sites_x : PField → List Site
  sites_x = fold-PField SiteFold (List Site) (List Site) (eform_sites bounds) (λ e. e.form e.ty e.span) (λ x. x.value)

  abbrev stand_x : PField → Part Standing
  stand_x = fold-PField StandFold (Part Standing) (Part Standing) (eform_standing values) (λ e. e.form e.ty) (λ x. x.value)

  abbrev filled_x : PField → Part PField
  filled_x = fold-PField FillFold (Part PExpr) (Part PField) (eform_part values number) (expr_step values number) (field_step values number)

  abbrev opened_x : PField → Part (ℕ × Does)
  opened_x = fold-PField OpenFold (Part Does) (Part (ℕ × Does)) (open_eform prog bounds values call) (λ x. x.form x.ty) (open_field prog bounds values call)

  abbrev done_x : PField → ℕ × Does
  done_x = field_does again width call'

  abbrev Go : List Site → Part Standing → ℕ → Type 0
  Go S T i = Ready values Stands S T i

  -- A part that is filled has as many sites as it had, and does what it did.
  pub record Same {X D : Type 0} (end : X → D) (S : List Site) (T : Part Standing) (f : Part X) (o : Part D) : Type 0 where
    pub counted : Counted S T f.count
    pub sized : o.count ≡ f.count
    pub does : (i : ℕ) → Go S T i → o.at i ≡ end (f.at i)

  -- Rows of parts

  module _ {E X D : Type 0} (end : X → D) (S : E → List Site) (T : E → Part Standing) (f : E → Part X) (o : E → Part D) where
    abbrev One : E → Type 0
    One e = Same end (S e) (T e) (f e) (o e)

    pub each_counted : (es : List E) → Every One es → Every (CountedPart values Stands S T f) es
    each_counted [] h = tt
    each_counted (e ∷ es) h = ((h.0).counted, each_counted es h.1)

    pub row_open : (es : List E) → Every One es → counts (map o es) ≡ counts (map f es)
    row_open [] h = refl
    row_open (e ∷ es) h = λ i. (h.0).sized i + row_open es h.1 i

    pub row_does : (es : List E) (i : ℕ) → Every One es → Go (joined (map S es)) (in_row (map T es)) i → in_turn (map o es) i ≡ map end (in_turn (map f es) i)
    row_does [] i h g = refl
    row_does (e ∷ es) i h g =
        let r = row_ready values Stands S T f e es i (h.0).counted g in
        let first = (h.0).does i r.0 in
        let moved : in_turn (map o es) (i + (o e).count) ≡ in_turn (map o es) (i + (f e).count) = ap (λ n. in_turn (map o es) (i + n)) (h.0).sized in
        let rest = moved ∙ row_does es (i + (f e).count) h.1 r.1 in
        λ j. first j ∷ rest j

    pick_does : (other : D) (none : X) (es : List E) (v i : ℕ) → Every One es → v < length es → Go (joined (map S es)) (in_row (only v (map T es))) i → pick other (map o es) v i ≡ end (pick none (map f es) v i)
    pick_does other none [] v i h less g = absurd (omega (arith, less))
    pick_does other none (e ∷ es) zero i h less g =
        (h.0).does i (both_ready values Stands (S e) (joined (map S es)) (T e) (in_row (first_of zero (map T es))) (f e).count i (h.0).counted g).0
    pick_does other none (e ∷ es) (suc v) i h less g =
        let c : Counted (S e) (absent (T e)) (f e).count = record { sites = ((h.0).counted).sites; standing = ((h.0).counted).standing } in
        let r = both_ready values Stands (S e) (joined (map S es)) (absent (T e)) (in_row (only v (map T es))) (f e).count i c g in
        ap (λ n. pick other (map o es) v (i + n)) (h.0).sized ∙ pick_does other none es v (i + (f e).count) h.1 (omega (arith, less)) r.1

  -- Forms

  abbrev At : PExpr → Type 0
  At e = Same done (sites e) (stand e) (filled e) (opened e)

  abbrev AtField : PField → Type 0
  AtField x = Same done_x (sites_x x) (stand_x x) (filled_x x) (opened_x x)

  abbrev Layer : Type 0
  Layer = P.PEForm-F PEForm PExpr PField

  abbrev Here : Layer → Span → Option Ty → Type 0
  Here x s t = Same done
      (eform_sites bounds (map-PEForm PEForm PExpr PField SiteFold (List Site) (List Site) sites_f sites sites_x x) t s)
      (eform_standing values (map-PEForm PEForm PExpr PField StandFold (Part Standing) (Part Standing) stand_f stand stand_x x) t)
      (eform_part values number (map-PEForm PEForm PExpr PField FillFold (Part PExpr) (Part PField) filled_f filled filled_x x) t s)
      (open_eform prog bounds values call (map-PEForm PEForm PExpr PField OpenFold (Part Does) (Part (ℕ × Does)) opened_f opened opened_x x) t)

  rolled : (x : Layer) (form : PEForm) → V.roll-PEForm x ≡ form → (s : Span) (t : Option Ty) → Here x s t → At (record { span = s; ty = t; form = form })
  rolled x form is s t h =
      let a = expr_layer SiteFold (List Site) (List Site) (eform_sites bounds) (λ e. e.form e.ty e.span) (λ x. x.value) x form is s t in
      let b = expr_layer StandFold (Part Standing) (Part Standing) (eform_standing values) (λ e. e.form e.ty) (λ x. x.value) x form is s t in
      let c = expr_layer FillFold (Part PExpr) (Part PField) (eform_part values number) (expr_step values number) (field_step values number) x form is s t in
      let d = expr_layer OpenFold (Part Does) (Part (ℕ × Does)) (open_eform prog bounds values call) (λ x. x.form x.ty) (open_field prog bounds values call) x form is s t in
      subst (λ (z : List Site × Part Standing × Part PExpr × Part Does). Same done z.0 z.1 z.2 z.3) (λ j. (sym a j, sym b j, sym c j, sym d j)) h

  -- a form without parts
  leaf : (x : Layer) (s : Span) (t : Option Ty) (e : Does) (p : PExpr) → e ≡ done p → Same done [] (own 0) (record { count = 0; at = λ i. p }) (record { count = 0; at = λ i. e })
  leaf x s t e p h = record { counted = none_counted; sized = refl; does = λ i g. h }

  bits_in_order : (n i : ℕ) (s span : Span) (st : State) → in_order span (map done (F.bits_at values number s n i)) st ≡ Goes (O.bits_at values width n i) st
  bits_in_order zero i s span st = refl
  bits_in_order (suc n) i s span st =
      ap (λ (d : Does). (d.value span >>= (λ v. in_order span (map done (F.bits_at values number s n (i + 1))) >>= (λ vs. pure (v ∷ vs)))) st) (does_number again width call' s (Some (ty.One elem.Bit)) (value values i))
      ∙ ap (λ (r : Step (List Value)). and_then r (λ vs. pure (number_at width elem.Bit (value values i) ∷ vs))) (bits_in_order n (i + 1) s span st)

  bits_counted : (n i : ℕ) → length (O.bits_at values width n i) ≡ n
  bits_counted zero i = refl
  bits_counted (suc n) i = ap suc (bits_counted n (i + 1))

  -- Holes

  number_hole : (w : Option ℕ) (s : Span) (t : Option Ty) (z : Site) → Same done (z ∷ []) (own 1) (record { count = 1; at = λ i. record { span = s; ty = t; form = eform.Number (value values i) } }) (record { count = 1; at = λ i. record { value = λ span. pure (literal width t (value values i)); target = λ span. fail span } })
  number_hole w s t z = record { counted = record { sites = refl; standing = refl }; sized = refl; does = λ i g. same_does _ _ (λ span. refl) (λ span. refl) ∙ sym (does_number again width call' s t (value values i)) }

  bits_hole : (n : ℕ) (s : Span) → Same done (replicate n (site 2 s)) (own n) (F.kept values number n (λ i. eform.Braces (F.bits_at values number s n i)) (Some (ty.Array elem.Bit n)) s) (record { count = n; at = λ i. record { value = λ span. pure (value.Array (O.bits_at values width n i)); target = λ span. fail span } })
  bits_hole n s = record {
    counted = record { sites = length-bits n (site 2 s); standing = refl };
    sized = refl;
    does = λ i g.
        same_does _ _
        (λ span j st. (ap (λ (v : Value). Goes v st) (sym (padded_bits n (O.bits_at values width n i) (bits_counted n i)))
        ∙ ap (λ (r : Step (List Value)). and_then r (λ vs. pure (padded_at (Some (ty.Array elem.Bit n)) (value.Array vs)))) (sym (bits_in_order n i s span st))) j)
        (λ span. refl)
        ∙ sym (does_braces again width call' s (Some (ty.Array elem.Bit n)) (F.bits_at values number s n i));
  }

  hole : (s : Span) (t : Option Ty) (w : Option ℕ) → Here (P.Hole w) s t
  hole s None w = number_hole w s None _
  hole s (Some (ty.One elem.Bit)) w = number_hole w s (Some (ty.One elem.Bit)) _
  hole s (Some (ty.One elem.Int)) w = number_hole w s (Some (ty.One elem.Int)) _
  hole s (Some (ty.One (elem.Reference d))) w = number_hole w s (Some (ty.One (elem.Reference d))) _
  hole s (Some (ty.Array elem.Bit n)) w = bits_hole n s
  hole s (Some (ty.Array elem.Int n)) w = number_hole w s (Some (ty.Array elem.Int n)) _
  hole s (Some (ty.Array (elem.Reference d) n)) w = number_hole w s (Some (ty.Array (elem.Reference d) n)) _
  hole s (Some (ty.Grid e n k)) w = number_hole w s (Some (ty.Grid e n k)) _

  -- Rows

  every_at : (es : List PExpr) → Each At es → Every At es
  every_at es h = every_of At es h

  row_sites : (es : List PExpr) → Every At es → Counted (joined (map sites es)) (in_row (map stand es)) (counts (map filled es))
  row_sites es h = row_counted values Stands sites stand filled es (each_counted done sites stand filled opened es h)

  row_same : (es : List PExpr) (i : ℕ) → Every At es → Go (joined (map sites es)) (in_row (map stand es)) i → in_turn (map opened es) i ≡ map done (in_turn (map filled es) i)
  row_same es i h g = row_does done sites stand filled opened es i h g

  -- Calls

  call_does : (f : FunId) (ds es : List Does) (span : Span) → Stands f.index → ds ≡ es → (does_form prog width call {X = Unit {0}} (P.Call f ds) None).value span ≡ (does_form again width call' {X = Unit {0}} (P.Call (renamed values number f) es) None).value span
  call_does f ds es span h q =
      let c : call span f.index ≡ call' span (number f.index) = λ i args st. m.calls span f.index args st h i in
      let p = m.params f.index h in
      λ i. in_order span (q i) >>= (λ vs. c i vs >>= (λ (called : Called). copy_back span (ref_args (p i) (q i)) called.refs >>= (λ u. pure (result_value called.result))))

  call_at : (s : Span) (t : Option Ty) (f : FunId) (es : List PExpr) → Each At es → Here (P.Call f es) s t
  call_at s t f es h =
      let hs = every_at es h in
      let c = row_sites es hs in
      record {
        counted = record { sites = c.sites; standing = c.standing };
        sized = row_open done sites stand filled opened es hs;
        does = λ i g.
            let q = row_same es i hs (g.0, g.1.1) in
            same_does _ _ (λ span. call_does f (in_turn (map opened es) i) (map done (in_turn (map filled es) i)) span g.1.0 q) (λ span. refl)
            ∙ sym (does_call again width call' s t (renamed values number f) (in_turn (map filled es) i));
      }

  -- Patterns

  pattern_at : (s : Span) (t : Option Ty) (es : List PExpr) → Each At es → Here (P.Pattern es) s t
  pattern_at s t es h =
      let hs = every_at es h in
      let c = row_sites es hs in
      record {
        counted = record { sites = ap suc c.sites; standing = ap suc (counts_made values Stands sites stand filled es (each_counted done sites stand filled opened es hs)) };
        sized = ap suc (row_open done sites stand filled opened es hs);
        does = λ i g.
            let less : value values i < length es = subst (λ n. value values i < n) (length-map es sites) g.0.0 in
            let e : suc i ≡ i + 1 = omega arith in
            ap (pick nothing_done (map opened es) (value values i)) e
            ∙ pick_does done sites stand filled opened nothing_done no_string es (value values i) (i + 1) hs less (g.0.1, g.1)
            ∙ sym (chosen_does again width call' t s (pick no_string (map filled es) (value values i) (i + 1)));
      }

  -- Forms of one part, of two and of three

  one_at : (x : Layer) (s : Span) (t : Option Ty) (e : PExpr) → At e → (f : PExpr → PExpr) (d : Does → Does)
      → ((a : Does) (p : PExpr) → a ≡ done p → d a ≡ done (f p))
      → Same done (sites e) (stand e) (record { count = (filled e).count; at = λ i. f ((filled e).at i) }) (record { count = (opened e).count; at = λ i. d ((opened e).at i) })
  one_at x s t e h f d k = record { counted = record { sites = (h.counted).sites; standing = (h.counted).standing }; sized = h.sized; does = λ i g. k ((opened e).at i) ((filled e).at i) (h.does i g) }

  two_at : (a b : PExpr) → At a → At b → (f : PExpr → PExpr → PExpr) (d : Does → Does → Does)
      → ((x y : Does) (p q : PExpr) → x ≡ done p → y ≡ done q → d x y ≡ done (f p q))
      → Same done (sites a ++ sites b) (beside (stand a) (stand b)) (record { count = (filled a).count + (filled b).count; at = λ i. f ((filled a).at i) ((filled b).at (i + (filled a).count)) }) (record { count = (opened a).count + (opened b).count; at = λ i. d ((opened a).at i) ((opened b).at (i + (opened a).count)) })
  two_at a b h k f d u = record {
    counted = both_counted (sites a) (sites b) (stand a) (stand b) (filled a).count (filled b).count h.counted k.counted;
    sized = λ i. h.sized i + k.sized i;
    does = λ i g.
        let r = both_ready values Stands (sites a) (sites b) (stand a) (stand b) (filled a).count i h.counted g in
        let second : (opened b).at (i + (opened a).count) ≡ done ((filled b).at (i + (filled a).count)) = ap (λ n. (opened b).at (i + n)) h.sized ∙ k.does (i + (filled a).count) r.1 in
        u ((opened a).at i) ((opened b).at (i + (opened a).count)) ((filled a).at i) ((filled b).at (i + (filled a).count)) (h.does i r.0) second;
  }

  cond_at : (s : Span) (t : Option Ty) (c a b : PExpr) → At c → At a → At b → Here (P.Cond c a b) s t
  cond_at s t c a b h k l = record {
    counted = both_counted (sites c) (sites a ++ sites b) (stand c) (beside (stand a) (stand b)) (filled c).count ((filled a).count + (filled b).count) h.counted (both_counted (sites a) (sites b) (stand a) (stand b) (filled a).count (filled b).count k.counted l.counted);
    sized = λ i. h.sized i + (k.sized i + l.sized i);
    does = λ i g.
        let r = both_ready values Stands (sites c) (sites a ++ sites b) (stand c) (beside (stand a) (stand b)) (filled c).count i h.counted g in
        let q = both_ready values Stands (sites a) (sites b) (stand a) (stand b) (filled a).count (i + (filled c).count) k.counted r.1 in
        let second : (opened a).at (i + (opened c).count) ≡ done ((filled a).at (i + (filled c).count)) = ap (λ n. (opened a).at (i + n)) h.sized ∙ k.does (i + (filled c).count) q.0 in
        let e : i + ((filled c).count + (filled a).count) ≡ i + (filled c).count + (filled a).count = omega arith in
        let third : (opened b).at (i + ((opened c).count + (opened a).count)) ≡ done ((filled b).at (i + (filled c).count + (filled a).count)) =
        (λ j. (opened b).at (i + (h.sized j + k.sized j))) ∙ ap (λ n. (opened b).at n) e ∙ l.does (i + (filled c).count + (filled a).count) q.1 in
        let first = h.does i r.0 in
        same_does _ _ (λ span j. (first j).value span >>= choose span ((second j).value span) ((third j).value span)) (λ span. refl)
        ∙ sym (does_cond again width call' s t ((filled c).at i) ((filled a).at (i + (filled c).count)) ((filled b).at (i + (filled c).count + (filled a).count)));
  }

  abbrev put : Span → Option Ty → PEForm → PExpr
  put s t f = record { span = s; ty = t; form = f }

  abbrev form_does : P.PEForm-F (Unit {0}) Does (ℕ × Does) → Option Ty → Does
  form_does x t = does_form prog width call x t

  const_at : (s : Span) (t : Option Ty) (k : ConstId) → form_does (P.Const k) t ≡ done (put s t (eform.Const k))
  const_at s t k =
      same_does _ _ (λ span j st. Goes (const_value (slice_get (m.consts j) k.index)) st) (λ span. refl)
      ∙ sym (does_const again width call' s t k)

  new_at : (s : Span) (t : Option Ty) (d : StructId) (xs : List PField) → Every AtField xs → Here (P.New d xs) s t
  new_at s t d xs hs =
      let c = row_counted values Stands sites_x stand_x filled_x xs (each_counted done_x sites_x stand_x filled_x opened_x xs hs) in
      record {
        counted = c;
        sized = row_open done_x sites_x stand_x filled_x opened_x xs hs;
        does = λ i g.
            let q = row_does done_x sites_x stand_x filled_x opened_x xs i hs g in
            same_does _ _ (λ span j. fields_in_order span (q j) >>= allot (m.structs j) d) (λ span. refl)
            ∙ sym (does_new again width call' s t d (in_turn (map filled_x xs) i));
      }

  braces_at : (s : Span) (t : Option Ty) (es : List PExpr) → Every At es → Here (P.Braces es) s t
  braces_at s t es hs = record {
    counted = row_sites es hs;
    sized = row_open done sites stand filled opened es hs;
    does = λ i g.
        let q = row_same es i hs g in
        same_does _ _ (λ span j. in_order span (q j) >>= (λ vs. pure (padded_at t (value.Array vs)))) (λ span. refl)
        ∙ sym (does_braces again width call' s t (in_turn (map filled es) i));
  }

  field_at : (k : ℕ) (e : PExpr) → At e → AtField (record { field = k; value = e })
  field_at k e h =
      let a = layer_field SiteFold (List Site) (List Site) (eform_sites bounds) (λ e. e.form e.ty e.span) (λ x. x.value) k e in
      let b = layer_field StandFold (Part Standing) (Part Standing) (eform_standing values) (λ e. e.form e.ty) (λ x. x.value) k e in
      let c = layer_field FillFold (Part PExpr) (Part PField) (eform_part values number) (expr_step values number) (field_step values number) k e in
      let d = layer_field OpenFold (Part Does) (Part (ℕ × Does)) (open_eform prog bounds values call) (λ x. x.form x.ty) (open_field prog bounds values call) k e in
      let here : Same done_x (sites e) (stand e) (record { count = (filled e).count; at = λ i. record { field = k; value = (filled e).at i } }) (record { count = (opened e).count; at = λ i. (k, (opened e).at i) }) =
      record { counted = record { sites = (h.counted).sites; standing = (h.counted).standing }; sized = h.sized; does = λ i g. ap (λ (x : Does). (k, x)) (h.does i g) ∙ sym (field_does_is again width call' k ((filled e).at i)) } in
      subst (λ (z : List Site × Part Standing × Part PField × Part (ℕ × Does)). Same done_x z.0 z.1 z.2 z.3) (λ j. (sym a j, sym b j, sym c j, sym d j)) here

  cases : ExprCases At AtField
  cases = record {
    field = field_at;
    number = λ s t n. rolled (P.Number n) (eform.Number n) (V.rolls-Number n) s t (leaf (P.Number n) s t (form_does (P.Number n) t) (put s t (eform.Number n)) (same_does _ _ (λ span. refl) (λ span. refl) ∙ sym (does_number again width call' s t n)));
    truth = λ s t. rolled P.True eform.True V.rolls-True s t (leaf P.True s t (form_does P.True t) (put s t eform.True) (same_does _ _ (λ span. refl) (λ span. refl) ∙ sym (does_true again width call' s t)));
    falsity = λ s t. rolled P.False eform.False V.rolls-False s t (leaf P.False s t (form_does P.False t) (put s t eform.False) (same_does _ _ (λ span. refl) (λ span. refl) ∙ sym (does_false again width call' s t)));
    null = λ s t. rolled P.Null eform.Null V.rolls-Null s t (leaf P.Null s t (form_does P.Null t) (put s t eform.Null) (same_does _ _ (λ span. refl) (λ span. refl) ∙ sym (does_null again width call' s t)));
    var = λ s t slot x. rolled (P.Var slot x) (eform.Var slot x) (V.rolls-Var slot x) s t (leaf (P.Var slot x) s t (form_does (P.Var slot x) t) (put s t (eform.Var slot x)) (same_does _ _ (λ span. refl) (λ span. refl) ∙ sym (does_var again width call' s t slot x)));
    const = λ s t k. rolled (P.Const k) (eform.Const k) (V.rolls-Const k) s t (leaf (P.Const k) s t (form_does (P.Const k) t) (put s t (eform.Const k)) (const_at s t k));
    hole = λ s t bits. rolled (P.Hole bits) (eform.Hole bits) (V.rolls-Hole bits) s t (hole s t bits);
    pattern = λ s t es h. rolled (P.Pattern es) (eform.Pattern es) (V.rolls-Pattern es) s t (pattern_at s t es h);
    paren = λ s t e h. rolled (P.Paren e) (eform.Paren e) (V.rolls-Paren e) s t (one_at (P.Paren e) s t e h (λ p. put s t (eform.Paren p)) (λ a. form_does (P.Paren a) t) (λ a p q. same_does _ _ (λ span j. (q j).value span) (λ span. refl) ∙ sym (does_paren again width call' s t p)));
    call = λ s t f es h. rolled (P.Call f es) (eform.Call f es) (V.rolls-Call f es) s t (call_at s t f es h);
    new = λ s t d fs h. rolled (P.New d fs) (eform.New d fs) (V.rolls-New d fs) s t (new_at s t d fs (every_of AtField fs h));
    braces = λ s t es h. rolled (P.Braces es) (eform.Braces es) (V.rolls-Braces es) s t (braces_at s t es (every_at es h));
    member = λ s t e d k h. rolled (P.Member e d k) (eform.Member e d k) (V.rolls-Member e d k) s t (one_at (P.Member e d k) s t e h (λ p. put s t (eform.Member p d k)) (λ a. form_does (P.Member a d k) t) (λ a p q. same_does _ _ (λ span j. (q j).value span >>= read_field span k) (λ span j. (q j).value span >>= (λ v. at_root (Field v k))) ∙ sym (does_member again width call' s t p d k)));
    index = λ s t e i h k. rolled (P.Index e i) (eform.Index e i) (V.rolls-Index e i) s t (two_at e i h k (λ p r. put s t (eform.Index p r)) (λ a b. form_does (P.Index a b) t) (λ a b p r u v. same_does _ _ (λ span j. (u j).value span >>= (λ w. (v j).value span >>= indexed span w)) (λ span j. (u j).target span >>= (λ l. (v j).value span >>= add_index span l)) ∙ sym (does_index again width call' s t p r)));
    slice = λ s t e i n h k. rolled (P.Slice e i n) (eform.Slice e i n) (V.rolls-Slice e i n) s t (two_at e i h k (λ p r. put s t (eform.Slice p r n)) (λ a b. form_does (P.Slice a b n) t) (λ a b p r u v. same_does _ _ (λ span j. (u j).value span >>= (λ w. (v j).value span >>= sliced span n w)) (λ span. refl) ∙ sym (does_slice again width call' s t p r n)));
    unary = λ s t o e h. rolled (P.Unary o e) (eform.Unary o e) (V.rolls-Unary o e) s t (one_at (P.Unary o e) s t e h (λ p. put s t (eform.Unary o p)) (λ a. form_does (P.Unary o a) t) (λ a p q. same_does _ _ (λ span j. (q j).value span >>= unary_operator width span o) (λ span. refl) ∙ sym (does_unary again width call' s t o p)));
    binary = λ s t o a b h k. rolled (P.Binary o a b) (eform.Binary o a b) (V.rolls-Binary o a b) s t (two_at a b h k (λ p r. put s t (eform.Binary o p r)) (λ x y. form_does (P.Binary o x y) t) (λ x y p r u v. same_does _ _ (λ span j. binary width span o ((u j).value span) ((v j).value span)) (λ span. refl) ∙ sym (does_binary again width call' s t o p r)));
    cond = λ s t c a b h k l. rolled (P.Cond c a b) (eform.Cond c a b) (V.rolls-Cond c a b) s t (cond_at s t c a b h k l);
    to_int = λ s t e h. rolled (P.ToInt e) (eform.ToInt e) (V.rolls-ToInt e) s t (one_at (P.ToInt e) s t e h (λ p. put s t (eform.ToInt p)) (λ a. form_does (P.ToInt a) t) (λ a p q. same_does _ _ (λ span j. (q j).value span >>= to_int span) (λ span. refl) ∙ sym (does_to_int again width call' s t p)));
    pad = λ s t e h. rolled (P.Pad e) (eform.Pad e) (V.rolls-Pad e) s t (one_at (P.Pad e) s t e h (λ p. put s t (eform.Pad p)) (λ a. form_does (P.Pad a) t) (λ a p q. same_does _ _ (λ span j. (q j).value span >>= (λ v. pure (padded_at t v))) (λ span. refl) ∙ sym (does_pad again width call' s t p)));
  }

  pub expr_same : (e : PExpr) → At e
  expr_same = expr_ind At AtField cases
