-- Parameters beside parameters, and what structs and functions are to others.
use Rattle.std.proofs.Common.{◌≡◌, ℕ, zero, suc, ◌+◌, ◌<◌, ◌≤◌, List, [], ◌∷◌, length, drop, get_or, Bool, true, false, Option, Some, None, refl, sym, ap, ◌∙◌, arith}
use Rattle.std.specs.Prelude.{map, slice_get, ◌&&◌}
use Rattle.sk_tree.specs.declared.item.Field.{Field}
use Rattle.sk_tree.specs.declared.item.FunItem.{FunItem}
use Rattle.sk_prog.specs.declared.ty.Ty.{Ty}
use Rattle.sk_prog.specs.declared.prog.FunKind.{FunKind}
use Rattle.sk_prog.specs.declared.prog.FieldDef.{FieldDef}
use Rattle.sk_prog.specs.declared.prog.ParamDef.{ParamDef}
use Rattle.sk_types_rules.specs.Rules.{◌>>=◌, only_if, ty_eq}
use Rattle.sk_types_rules.specs.Scope.{Context, all_distinct}
use Rattle.sk_types_rules.specs.Types.{kind_of, may_be, same_bool, same_params}
use Rattle.sk_types_laws.specs.declared.fault.Typing.{Typing}
use Rattle.sk_types_laws.specs.declared.fault.Typing.TheVariants.{Fault}
use Rattle.sk_types_laws.specs.declared.fault.TypeFault.{TypeFault}
use Rattle.sk_types_laws.specs.Whole.{any_written, fields_of, params_of, struct_of, heading_of}
use Rattle.sk_types_names.specs.Gives.{Fails}
use Rattle.sk_types_names.proofs.Places.{split_at}
use Rattle.sk_types_names.proofs.Follows.{get_drop, get_none}

-- Parameters

nothing_left : (ds : List ParamDef) (n : ℕ) → length ds ≤ n → drop n ds ≡ []
nothing_left [] zero h = refl
nothing_left [] (suc n) h = refl
nothing_left (d ∷ ds) zero h = absurd (omega (arith, h))
nothing_left (d ∷ ds) (suc n) h = nothing_left ds n (omega (arith, h))

-- where parameters are left on one side, they are not the same
some_left : (ds : List ParamDef) (n : ℕ) → n < length ds → same_params [] (drop n ds) ≡ false
some_left [] n h = absurd (omega (arith, h))
some_left (d ∷ ds) zero h = refl
some_left (d ∷ ds) (suc n) h = some_left ds n (omega (arith, h))

pub left_over : (ds es : List ParamDef) (i : ℕ) → length ds ≤ i → i < length es → same_params (drop i ds) (drop i es) ≡ false
left_over ds es i h k = ap (λ l. same_params l (drop i es)) (nothing_left ds i h) ∙ some_left es i k

pub none_left : (ds : List ParamDef) (n : ℕ) → length ds ≤ n → same_params [] (drop n ds) ≡ true
none_left [] zero h = refl
none_left [] (suc n) h = refl
none_left (d ∷ ds) zero h = absurd (omega (arith, h))
none_left (d ∷ ds) (suc n) h = none_left ds n (omega (arith, h))

pub rows_end : (ds es : List ParamDef) (i : ℕ) → length ds ≤ i → length es ≤ i → same_params (drop i ds) (drop i es) ≡ true
rows_end ds es i h k = ap (λ l. same_params l (drop i es)) (nothing_left ds i h) ∙ none_left es i k

both : (a b c : Bool) → (a && (b && c)) ≡ ((a && b) && c)
both true b c = refl
both false b c = refl

next_params : (ds es : List ParamDef) (i : ℕ) (d e : ParamDef) → i < length ds → d ≡ get_or ds i d → slice_get es i ≡ Some e → same_params (drop i ds) (drop i es) ≡ ((ty_eq d.ty e.ty && same_bool d.by_ref e.by_ref) && same_params (drop (i + 1) ds) (drop (i + 1) es))
next_params ds es i d e below is at =
    ap (λ l. same_params l (drop i es)) (split_at ds i d below is)
    ∙ ap (λ l. same_params (d ∷ drop (i + 1) ds) l) (get_drop es i e at)
    ∙ both (ty_eq d.ty e.ty) (same_bool d.by_ref e.by_ref) (same_params (drop (i + 1) ds) (drop (i + 1) es))

pub params_differ : (ds es : List ParamDef) (i : ℕ) (d e : ParamDef) → i < length ds → d ≡ get_or ds i d → slice_get es i ≡ Some e → (ty_eq d.ty e.ty && same_bool d.by_ref e.by_ref) ≡ false → same_params (drop i ds) (drop i es) ≡ false
params_differ ds es i d e below is at h = next_params ds es i d e below is at ∙ ap (λ b. b && same_params (drop (i + 1) ds) (drop (i + 1) es)) h

pub params_go_on : (ds es : List ParamDef) (i : ℕ) (d e : ParamDef) → i < length ds → d ≡ get_or ds i d → slice_get es i ≡ Some e → (ty_eq d.ty e.ty && same_bool d.by_ref e.by_ref) ≡ true → same_params (drop i ds) (drop i es) ≡ same_params (drop (i + 1) ds) (drop (i + 1) es)
params_go_on ds es i d e below is at h = next_params ds es i d e below is at ∙ ap (λ b. b && same_params (drop (i + 1) ds) (drop (i + 1) es)) h

pub ruleset rows = (split_at, get_drop, get_none)

-- What is refused

pub refused : {A : Type 0} (why : Typing) (f : TypeFault) (o : Option A) → why ≡ Fault f → o ≡ None → Fails why o
refused why f o e h = rw e h

-- Structs

abbrev distinct_fields : List FieldDef → Bool
distinct_fields ds = all_distinct (map (λ (d : FieldDef). d.name) ds)

pub struct_refused : (context : Context) (x : List ℕ) (ys : List Field) (ds ds' : List FieldDef) → fields_of context ys ≡ Some ds → ds' ≡ ds → distinct_fields ds' ≡ false → struct_of context x ys ≡ None
struct_refused context x ys ds ds' h e t =
    ap (λ o. o >>= λ ds. only_if (distinct_fields ds) (record { name = x; fields = ds })) h
    ∙ ap (λ b. only_if b (record { name = x; fields = ds })) (ap distinct_fields (sym e) ∙ t)

pub struct_made : (context : Context) (x x' : List ℕ) (ys : List Field) (ds ds' : List FieldDef) → fields_of context ys ≡ Some ds → ds' ≡ ds → distinct_fields ds' ≡ true → Some x ≡ Some x' → struct_of context x ys ≡ Some (record { name = x'; fields = ds })
struct_made context x x' ys ds ds' h e t k =
    ap (λ o. o >>= λ ds. only_if (distinct_fields ds) (record { name = x; fields = ds })) h
    ∙ ap (λ b. only_if b (record { name = x; fields = ds })) (ap distinct_fields (sym e) ∙ t)
    ∙ ap (λ o. o >>= λ x. Some (record { name = x; fields = ds })) k

-- Functions

abbrev distinct_params : List ParamDef → Bool
distinct_params ds = all_distinct (map (λ (d : ParamDef). d.name) ds)

heading_from : (context : Context) (g : FunItem) (t : Option Ty) (ds : List ParamDef) → any_written context g.result ≡ Some t → params_of context g.params ≡ Some ds → heading_of context g ≡ only_if (may_be (kind_of g.kind) ds t && distinct_params ds) (record { name = g.name; kind = kind_of g.kind; result = t; params = ds })
heading_from context g t ds h m =
    ap (λ o. o >>= λ t. params_of context g.params >>= λ ds. only_if (may_be (kind_of g.kind) ds t && distinct_params ds) (record { name = g.name; kind = kind_of g.kind; result = t; params = ds })) h
    ∙ ap (λ o. o >>= λ ds. only_if (may_be (kind_of g.kind) ds t && distinct_params ds) (record { name = g.name; kind = kind_of g.kind; result = t; params = ds })) m

pub may_not_be : (context : Context) (g : FunItem) (t : Option Ty) (ds ds' : List ParamDef) (k : FunKind) → any_written context g.result ≡ Some t → params_of context g.params ≡ Some ds → k ≡ kind_of g.kind → ds' ≡ ds → may_be k ds' t ≡ false → heading_of context g ≡ None
may_not_be context g t ds ds' k h m l e b =
    heading_from context g t ds h m
    ∙ ap (λ b. only_if (b && distinct_params ds) (record { name = g.name; kind = kind_of g.kind; result = t; params = ds })) (ap (λ k. may_be k ds t) (sym l) ∙ ap (λ ds. may_be k ds t) (sym e) ∙ b)

and_no : (a b : Bool) → b ≡ false → (a && b) ≡ false
and_no true b h = h
and_no false b h = refl

pub not_distinct : (context : Context) (g : FunItem) (t : Option Ty) (ds ds' : List ParamDef) → any_written context g.result ≡ Some t → params_of context g.params ≡ Some ds → ds' ≡ ds → distinct_params ds' ≡ false → heading_of context g ≡ None
not_distinct context g t ds ds' h m e b =
    heading_from context g t ds h m
    ∙ ap (λ b. only_if b (record { name = g.name; kind = kind_of g.kind; result = t; params = ds })) (and_no (may_be (kind_of g.kind) ds t) (distinct_params ds) (ap distinct_params (sym e) ∙ b))

and_yes : (a b : Bool) → a ≡ true → b ≡ true → (a && b) ≡ true
and_yes a b h k = ap (λ a. a && b) h ∙ k

pub heading_made : (context : Context) (g : FunItem) (x : List ℕ) (k : FunKind) (t : Option Ty) (ds ds' ds'' : List ParamDef) → any_written context g.result ≡ Some t → params_of context g.params ≡ Some ds → k ≡ kind_of g.kind → ds' ≡ ds → may_be k ds' t ≡ true → ds'' ≡ ds → distinct_params ds'' ≡ true → Some g.name ≡ Some x → heading_of context g ≡ Some (record { name = x; kind = k; result = t; params = ds })
heading_made context g x k t ds ds' ds'' h m l e b e' d n =
    heading_from context g t ds h m
    ∙ ap (λ b. only_if b (record { name = g.name; kind = kind_of g.kind; result = t; params = ds })) (and_yes (may_be (kind_of g.kind) ds t) (distinct_params ds) (ap (λ k. may_be k ds t) (sym l) ∙ ap (λ ds. may_be k ds t) (sym e) ∙ b) (ap distinct_params (sym e') ∙ d))
    ∙ ap (λ o. o >>= λ x. Some (record { name = x; kind = kind_of g.kind; result = t; params = ds })) n
    ∙ ap (λ k. Some (record { name = x; kind = k; result = t; params = ds })) (sym l)
