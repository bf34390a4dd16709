-- Arguments beside parameters, and the names of the fields that are set.
use Rattle.std.proofs.Common.{◌≡◌, ℕ, zero, suc, ◌+◌, ◌<◌, ◌≤◌, true, false, List, [], ◌∷◌, ◌++◌, length, drop, get_or, Option, Some, None, refl, sym, ap, subst, ◌∙◌, arith}
use Rattle.std.specs.Prelude.{map, slice_get, if◌then◌else◌}
use Rattle.sk_base.specs.declared.span.Span.{Span}
use Rattle.sk_tree.specs.declared.expr.Expr.{Expr}
use Rattle.sk_tree.specs.declared.expr.EForm.TheVariants as eform
use Rattle.sk_tree.specs.declared.expr.EForm.TheOpen as E
use Rattle.sk_tree.specs.declared.expr.EForm.TheFolds.{fold-roll-EForm, fold-roll-NewField}
use Rattle.sk_tree.specs.declared.expr.NewField.{NewField}
use Rattle.sk_prog.specs.declared.ty.Ty.{Ty}
use Rattle.sk_prog.specs.declared.ids.StructId.{StructId}
use Rattle.sk_prog.specs.declared.expr.PExpr.{PExpr}
use Rattle.sk_prog.specs.declared.expr.PField.{PField}
use Rattle.sk_prog.specs.declared.expr.PEForm.TheVariants as pform
use Rattle.sk_prog.specs.declared.prog.ParamDef.{ParamDef}
use Rattle.sk_prog.specs.declared.prog.StructDef.{StructDef}
use Rattle.sk_types_rules.specs.declared.scope.Variable.{Variable}
use Rattle.sk_types_rules.specs.Rules.{◌>>=◌, fit_of}
use Rattle.sk_types_rules.specs.Scope.{Context, meaning_of, all_distinct}
use Rattle.sk_types_rules.specs.Sorts.{struct_meant, reference_to}
use Rattle.sk_types_laws.specs.declared.fault.Typing.{Typing}
use Rattle.sk_types_laws.specs.declared.fault.Typing.TheVariants.{Fault, Memory}
use Rattle.sk_types_laws.specs.declared.fault.TypeFault.{TypeFault}
use Rattle.sk_types_laws.specs.Elaborate.{FormAt, Setting, typed, coerced, firm_at, argument_at, arguments_at, settings_at, record_form, record_at}
use Rattle.sk_types_laws.specs.Parts.{Part, FormPart, eform_part, expr_part, set_part, argument_part, form_part, part, arguments, settings}
use Rattle.sk_types_names.specs.Gives.{Fails}
use Rattle.sk_types_names.proofs.Places.{split_at}
use Rattle.sk_types_names.proofs.Follows.{get_drop, get_none, too_few, just_so, one_more}

-- the next argument
next_argument : (context : Context) (scope : List Variable) (ds : List ParamDef) (es : List Expr) (i : ℕ) (d : ParamDef) (e : Expr) → slice_get ds i ≡ Some d → i < length es → e ≡ get_or es i e → arguments_at (drop i ds) (arguments context scope (drop i es)) ≡ (argument_at d (argument_part (part context scope e)) >>= λ p. arguments_at (drop (i + 1) ds) (arguments context scope (drop (i + 1) es)) >>= λ ps. Some (p ∷ ps))
next_argument context scope ds es i d e g h x =
    ap (λ l. arguments_at l (arguments context scope (drop i es))) (get_drop ds i d g)
    ∙ ap (λ l. arguments_at (d ∷ drop (i + 1) ds) (arguments context scope l)) (split_at es i e h x)

pub argument_made : (context : Context) (scope : List Variable) (ds : List ParamDef) (es : List Expr) (i : ℕ) (made : List PExpr) (d : ParamDef) (e : Expr) (p : PExpr) → slice_get ds i ≡ Some d → i < length es → e ≡ get_or es i e → argument_at d (argument_part (part context scope e)) ≡ Some p → (arguments_at (drop i ds) (arguments context scope (drop i es)) >>= λ rest. Some (made ++ rest)) ≡ (arguments_at (drop (i + 1) ds) (arguments context scope (drop (i + 1) es)) >>= λ rest. Some ((made ++ p ∷ []) ++ rest))
argument_made context scope ds es i made d e p g h x is =
    ap (λ m. m >>= λ rest. Some (made ++ rest)) (next_argument context scope ds es i d e g h x ∙ ap (λ o. o >>= λ p. arguments_at (drop (i + 1) ds) (arguments context scope (drop (i + 1) es)) >>= λ ps. Some (p ∷ ps)) is)
    ∙ one_more (arguments_at (drop (i + 1) ds) (arguments context scope (drop (i + 1) es))) made p

pub argument_lost : (context : Context) (scope : List Variable) (ds : List ParamDef) (es : List Expr) (i : ℕ) (d : ParamDef) (e : Expr) → slice_get ds i ≡ Some d → i < length es → e ≡ get_or es i e → argument_at d (argument_part (part context scope e)) ≡ None → arguments_at (drop i ds) (arguments context scope (drop i es)) ≡ None
argument_lost context scope ds es i d e g h x is = next_argument context scope ds es i d e g h x ∙ ap (λ o. o >>= λ p. arguments_at (drop (i + 1) ds) (arguments context scope (drop (i + 1) es)) >>= λ ps. Some (p ∷ ps)) is

-- arguments past the last parameter

past_last : (context : Context) (scope : List Variable) (es : List Expr) (i : ℕ) → i < length es → arguments_at [] (arguments context scope (drop i es)) ≡ None
past_last context scope [] i h = absurd (omega (arith, h))
past_last context scope (e ∷ es) zero h = refl
past_last context scope (e ∷ es) (suc i) h = past_last context scope es i (omega (arith, h))

pub many_arguments : (context : Context) (scope : List Variable) (ds : List ParamDef) (es : List Expr) (i : ℕ) → slice_get ds i ≡ None → i < length es → arguments_at (drop i ds) (arguments context scope (drop i es)) ≡ None
many_arguments context scope ds es i g h = ap (λ l. arguments_at l (arguments context scope (drop i es))) (get_none ds i g) ∙ past_last context scope es i h

-- where no arguments are left

none_left : (es : List Expr) (i : ℕ) → length es ≤ i → drop i es ≡ []
none_left [] zero h = refl
none_left [] (suc i) h = refl
none_left (e ∷ es) zero h = absurd (omega (arith, h))
none_left (e ∷ es) (suc i) h = none_left es i (omega (arith, h))

pub few_arguments : (context : Context) (scope : List Variable) (ds : List ParamDef) (es : List Expr) (i : ℕ) → length es ≤ i → i < length ds → arguments_at (drop i ds) (arguments context scope (drop i es)) ≡ None
few_arguments context scope ds es i h k = ap (λ l. arguments_at (drop i ds) (arguments context scope l)) (none_left es i h) ∙ too_few ds i k

pub all_arguments : (context : Context) (scope : List Variable) (ds : List ParamDef) (es : List Expr) (i : ℕ) → length es ≤ i → length ds ≤ i → arguments_at (drop i ds) (arguments context scope (drop i es)) ≡ Some []
all_arguments context scope ds es i h k = ap (λ l. arguments_at (drop i ds) (arguments context scope l)) (none_left es i h) ∙ just_so ds i k

-- what is behind what is made

pub lost : {X : Type 0} (o m : Option (List X)) (xs : List X) → o ≡ (m >>= λ rest. Some (xs ++ rest)) → m ≡ None → o ≡ None
lost o m xs e h = e ∙ ap (λ m. m >>= λ rest. Some (xs ++ rest)) h

pub refused : {X : Type 0} (why : Typing) (f : TypeFault) (o : Option X) → why ≡ Fault f → o ≡ None → Fails why o
refused why f o e h = subst (λ w. Fails w o) (sym e) h

-- whatever the fault
pub fails_nothing : {X : Type 0} (why : Typing) (o : Option X) → o ≡ None → Fails why o
fails_nothing Memory o h = tt
fails_nothing (Fault f) o h = h

pub argument_fails : (context : Context) (scope : List Variable) (ds : List ParamDef) (es : List Expr) (i : ℕ) (d : ParamDef) (e : Expr) (made : List PExpr) (why : Typing) → slice_get ds i ≡ Some d → i < length es → e ≡ get_or es i e → (o : Option (List PExpr)) → o ≡ (arguments_at (drop i ds) (arguments context scope (drop i es)) >>= λ rest. Some (made ++ rest)) → Fails why (argument_at d (argument_part (part context scope e))) → Fails why o
argument_fails context scope ds es i d e made Memory g h x o is n = tt
argument_fails context scope ds es i d e made (Fault f) g h x o is n = lost o (arguments_at (drop i ds) (arguments context scope (drop i es))) made is (argument_lost context scope ds es i d e g h x n)

-- the names of the fields that are set
pub names_set : (context : Context) (scope : List Variable) (xs : List NewField) → map (λ (e : Setting). e.name) (settings context scope xs) ≡ map (λ (x : NewField). x.name) xs
names_set context scope [] = refl
names_set context scope (x ∷ xs) =
    let first = fold-roll-NewField FormPart Part Setting (eform_part context scope) expr_part set_part (record { name = x.name; value = x.value }) in
    (λ i. (first i).name ∷ names_set context scope xs i)

-- A record that is made, where its struct is there.

opened : (context : Context) (scope : List Variable) (x : List ℕ) (xs : List NewField) → (form_part context scope (eform.New x xs)).at ≡ record_at context.top (struct_meant (meaning_of context.top scope x)) (settings context scope xs)
opened context scope x xs =
    ap (λ f. (form_part context scope f).at) (sym (eform.rolls-New x xs))
    ∙ ap (λ (p : FormPart). p.at) (fold-roll-EForm FormPart Part Setting (eform_part context scope) expr_part set_part (E.New x xs))

reached : (context : Context) (scope : List Variable) (x : List ℕ) (xs : List NewField) (s : Span) (t : Ty) (r : StructId) (d : StructDef) → struct_meant (meaning_of context.top scope x) ≡ Some r → slice_get context.top.structs r.index ≡ Some d → (form_part context scope (eform.New x xs)).at s t ≡ firm_at (reference_to r) (record_form r d (settings context scope xs)) s t
reached context scope x xs s t r d m g =
    ap (λ (f : FormAt). f s t) (opened context scope x xs)
    ∙ ap (λ o. record_at context.top o (settings context scope xs) s t) m
    ∙ ap (λ o. o >>= λ (d : StructDef). firm_at (reference_to r) (record_form r d (settings context scope xs)) s t) g

pub new_refused : (context : Context) (scope : List Variable) (x : List ℕ) (xs : List NewField) (s : Span) (t : Ty) (r : StructId) (d : StructDef) → struct_meant (meaning_of context.top scope x) ≡ Some r → slice_get context.top.structs r.index ≡ Some d → all_distinct (map (λ (x : NewField). x.name) xs) ≡ false → (form_part context scope (eform.New x xs)).at s t ≡ None
new_refused context scope x xs s t r d m g h =
    reached context scope x xs s t r d m g
    ∙ ap (λ b. firm_at (reference_to r) (if b then (settings_at d (settings context scope xs) >>= λ ps. Some (pform.New r ps)) else None) s t) (ap all_distinct (names_set context scope xs) ∙ h)

pub new_made : (context : Context) (scope : List Variable) (x : List ℕ) (xs : List NewField) (s : Span) (t : Ty) (r : StructId) (d : StructDef) (ps : List PField) → struct_meant (meaning_of context.top scope x) ≡ Some r → slice_get context.top.structs r.index ≡ Some d → all_distinct (map (λ (x : NewField). x.name) xs) ≡ true → settings_at d (settings context scope xs) ≡ Some ps → (form_part context scope (eform.New x xs)).at s t ≡ coerced (fit_of (reference_to r) t) t (typed s (reference_to r) (pform.New r ps))
new_made context scope x xs s t r d ps m g h k =
    reached context scope x xs s t r d m g
    ∙ ap (λ b. firm_at (reference_to r) (if b then (settings_at d (settings context scope xs) >>= λ ps. Some (pform.New r ps)) else None) s t) (ap all_distinct (names_set context scope xs) ∙ h)
    ∙ ap (λ o. firm_at (reference_to r) (o >>= λ ps. Some (pform.New r ps)) s t) k
