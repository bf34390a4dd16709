-- What fields and tests of tags do on both sides.
use Rattle.std.proofs.Common.{◌≡◌, ℕ, zero, suc, pos, ℤ, List, [], ◌∷◌, slice_get, Option, Some, None, Bool, true, false, inl, inr, refl, sym, ap, subst, ◌∙◌, arith}
use Rattle.std.specs.Prelude.{◌||◌, ◌&&◌, ◌==◌, ◌<◌, IsTrue, slice_index_or, option_and_then}
use Rattle.std.specs.List.{list_any}
use Rattle.std.specs.Ordering.{int_eq}
use Rattle.std.proofs.lemmas.Bool.{false≢true, eq-eqb, eqb-true}
use Rattle.std.proofs.lemmas.Bool.Decides.{Decides-int_eq, nat_tests}
use Rattle.std.proofs.lemmas.Int.{ints}
use Rattle.std.proofs.lemmas.Option.{none-some}
use Rattle.sk_base.specs.declared.span.Span.{Span}
use Rattle.sk_base.specs.declared.bounds.Bounds.{Bounds}
use Rattle.sk_base.specs.Word.{wrapped, half}
use Rattle.sk_base.proofs.Words.{wrapped-word}
use Rattle.sk_tree.specs.declared.expr.Expr.{Expr}
use Rattle.sk_prog.specs.declared.ids.StructId.{StructId}
use Rattle.sk_prog.specs.declared.ty.Elem.{Elem}
use Rattle.sk_prog.specs.declared.ty.Elem.TheVariants as elem
use Rattle.sk_prog.specs.declared.ty.Ty.{Ty}
use Rattle.sk_prog.specs.declared.value.Value.{Value}
use Rattle.sk_prog.specs.declared.value.Value.TheVariants as value
use Rattle.sk_prog.specs.declared.value.Value.TheOpen as VV
use Rattle.sk_prog.specs.declared.value.Value.TheFolds.{fold-roll-Value}
use Rattle.sk_prog.specs.declared.expr.BinOp.{BinOp}
use Rattle.sk_prog.specs.declared.expr.BinOp.TheVariants as op
use Rattle.sk_prog.specs.declared.expr.PExpr.{PExpr}
use Rattle.sk_prog.specs.declared.expr.PEForm.TheOpen as P
use Rattle.sk_prog.specs.declared.expr.PEForm.TheVariants as eform
use Rattle.sk_prog.specs.declared.expr.PEForm.TheViews as V
use Rattle.sk_prog.specs.declared.prog.FieldDef.{FieldDef}
use Rattle.sk_prog.specs.declared.prog.StructDef.{StructDef}
use Rattle.sk_prog.specs.declared.prog.Prog.{Prog}
use Rattle.sk_types_rules.specs.declared.scope.Variable.{Variable}
use Rattle.sk_types_rules.specs.Rules.{int, bit, base_of, element_of, in_range}
use Rattle.sk_types_rules.specs.Scope.{Known}
use Rattle.sk_types_rules.specs.Sorts.{reference_to}
use Rattle.sk_types_rules.proofs.Layers.{rule}
use Rattle.sk_types_laws.proofs.Ats.{both_true}
use Rattle.sk_model.specs.Step as plain
use Rattle.sk_model.specs.Values.{equal, equal_step, truth}
use Rattle.sk_model.specs.Heap.{Location, Root, Field, blank}
use Rattle.sk_model.specs.Heap as heap
use Rattle.sk_model.specs.Operators.{operator}
use Rattle.sk_model.specs.Eval.{literal}
use Rattle.sk_model.specs.Eval as eval
use Rattle.sk_model.proofs.Induction.{Each}
use Rattle.sk_adt.specs.declared.algebraic.Algebraic.{Algebraic}
use Rattle.sk_adt_tags.specs.declared.role.Role.{Role}
use Rattle.sk_adt_tags.specs.declared.role.Role.TheVariants as role
use Rattle.sk_adt_tags.specs.declared.role.Test.{Test}
use Rattle.sk_adt_tags.specs.Tags.{Part, of_one, of_two, member_part, unless, is_tested, test_for, test_of, algebraic_of, type_named, role_in, of_variant, variant_at}
use Rattle.sk_adt_records.specs.Steps.{Record, Step, Comp, and_then, or_stray, lift}
use Rattle.sk_adt_records.specs.Heap.{has, role_of, is_variant, read_field, ask, at_root}
use Rattle.sk_adt_records.specs.Heap as by_variant
use Rattle.sk_adt_records.specs.Eval.{Calls, Does, tag_of, asking, binary, does_form}
use Rattle.sk_adt_record_laws.specs.Laws.{TagsAreIntegers}
use Rattle.sk_adt_record_laws.proofs.Places.{place_holds, holds_bit}
use Rattle.sk_adt_record_laws.proofs.Related.{kind_at, IsOf, Fits, Found, found, with_heap, Passed, field_at, Twin, pairs_at, Inv, Ends, ends_then, ends_at}
use Rattle.sk_adt_record_laws.proofs.Quiet.{quiet_operator}
use Rattle.sk_adt_record_laws.proofs.Stores.{HasField, read_ends, plain_read, Rooted}
use Rattle.sk_adt_record_laws.proofs.Fine.{base, Here, Runs, Aims, TestEnds, IsRead, Tagged, IsTag, IsTest, Fine, dull, context, parts, done, again, Meant, At, laid}
use Rattle.sk_adt_record_laws.proofs.Forms.{some_span, here_first, here_second, choose_ends, pure_ends, quiet_ends, at_base, then_value}

-- Roles

record IsTagRole (o : Option Algebraic) (k : ℕ) : Type 0 where
  kin : Algebraic
  is : o ≡ Some kin
  first : k ≡ 0

no_tag : (o : Option ℕ) → of_variant o ≡ role.Tag → ⊥
no_tag None e = cc
no_tag (Some i) e = cc

role_tag : (o : Option Algebraic) (k : ℕ) → role_in o k ≡ role.Tag → IsTagRole o k
role_tag None k e = cc
role_tag (Some a) zero e = record { kin = a; is = refl; first = refl }
role_tag (Some a) (suc k) e = absurd (no_tag (variant_at 0 a.variants k) e)

pub unless_keeps : (b : Bool) (s : Span) (ss : List Span) → unless b s ss ≡ [] → (b ≡ true) × (ss ≡ [])
unless_keeps true s ss e = (refl, e)
unless_keeps false s ss e = absurd (some_span s ss e)

abbrev IsVariant : List Record → ℕ → ℕ → Type 0
IsVariant h p i = (d : StructId) × (kind_at h p ≡ Some (d, Some i))

any_passed : (h : List Record) (slots : List Value) (x i p : ℕ) (us : List Test) → list_any (λ (u : Test). (u.slot == x) && (u.variant == i)) us ≡ true → Each (Passed h slots) us → slice_index_or slots x blank ≡ value.Place p → IsVariant h p i
any_passed h slots x i p [] e g is = absurd (false≢true e)
any_passed h slots x i p (u ∷ us) e g is = go ((u.slot == x) && (u.variant == i)) refl e (λ k. any_passed h slots x i p us k g.1 is)
  where
    go : (b : Bool) → ((u.slot == x) && (u.variant == i)) ≡ b → (b || list_any (λ (u : Test). (u.slot == x) && (u.variant == i)) us) ≡ true → (list_any (λ (u : Test). (u.slot == x) && (u.variant == i)) us ≡ true → IsVariant h p i) → IsVariant h p i
    go true s k rest =
        let both = both_true (u.slot == x) (u.variant == i) s in
        subst (IsVariant h p) (eqb-true u.variant i both.1) (g.0 p (ap (λ n. slice_index_or slots n blank) (eqb-true u.slot x both.0) ∙ is))
    go false s k rest = rest k

-- Numbers

equal_ints : (a b : ℤ) → equal (value.Int a) (value.Int b) ≡ int_eq a b
equal_ints a b = ap (λ v. equal v (value.Int b)) (sym (value.rolls-Int a)) ∙ ap (λ f. f (value.Int b)) (fold-roll-Value (Value → Bool) equal_step (VV.Int a))

int_equal : (j n : ℕ) → int_eq (pos j) (pos n) ≡ (j == n)
int_equal j n = go (int_eq (pos j) (pos n)) (j == n) refl refl
  where
    go : (a b : Bool) → int_eq (pos j) (pos n) ≡ a → (j == n) ≡ b → a ≡ b
    go true true e f = refl
    go false false e f = refl
    go true false e f = let same : pos j ≡ pos n = (Decides-int_eq (pos j) (pos n)).0 e in let one : j ≡ n = cc in absurd (false≢true (sym f ∙ eq-eqb j n one))
    go false true e f = absurd (false≢true (sym e ∙ (Decides-int_eq (pos j) (pos n)).1 (ap pos (eqb-true j n f))))

compared : (z : plain.State) (old number : Value) (j n : ℕ) → old ≡ value.Int (pos j) → number ≡ value.Int (pos n) → plain.Goes (truth (equal old number)) z ≡ plain.Goes (value.Bit (j == n)) z
compared z old number j n e f =
    let bits : equal old number ≡ (j == n) = (λ i. equal (e i) (f i)) ∙ equal_ints (pos j) (pos n) ∙ int_equal j n in
    ap (λ b. plain.Goes (truth b) z) bits

pub same_number : (bounds : Bounds) (n : ℕ) → IsTrue (in_range bounds n) → wrapped bounds.int_bits (pos n) ≡ pos n
same_number bounds n h =
    let less : n < half bounds.int_bits = grind (arith, nat_tests, h) in
    wrapped-word bounds.int_bits (pos n) (record { low = omega (arith, ints); high = omega (arith, ints) })

record TestParts (x i : Option ℕ) (u : Test) : Type 0 where
  slot : ℕ
  number : ℕ
  first : x ≡ Some slot
  second : i ≡ Some number
  same : record { slot = slot; variant = number } ≡ u

test_parts : (x i : Option ℕ) (u : Test) → test_for x i ≡ Some u → TestParts x i u
test_parts None i u e = cc
test_parts (Some x) None u e = cc
test_parts (Some x) (Some i) u e = let same : record { slot = x; variant = i } ≡ u = the (record { slot = x; variant = i }) u e in record { slot = x; number = i; first = refl; second = refl; same = same }
  where
    the : (a b : Test) → Some a ≡ Some b → a ≡ b
    the a b is = cc

module _ (types : List Algebraic) (prog : Prog) (bounds : Bounds) (tags_are : TagsAreIntegers types prog) (known : List Known) (call : eval.Calls) (later : Calls) where
  abbrev Now : PExpr → Type 0
  Now = At types prog bounds known call later

  abbrev width : ℕ
  width = bounds.int_bits

  -- what an expression does in a run, and with records by their variants
  abbrev does_plainly : PExpr → eval.Does
  does_plainly = done types prog bounds known call later

  abbrev does_by_variant : PExpr → Does
  does_by_variant = again types prog bounds known call later

  abbrev as_part : PExpr → Part
  as_part = parts types prog bounds known call later

  abbrev means : PExpr → List Variable → Expr → Type 0
  means = Meant types prog bounds known call later

  abbrev Yields : Elem → List Variable → List Test → List Record → plain.Step Value → Step Value → Type 0
  Yields e scope us h m n = Ends types prog (λ (v : Value). scope) us h (λ v k. Fits k e v) m n

  -- a variable of the type of an expression
  typed_slot : (scope : List Variable) (us : List Test) (s : plain.State) (h : List Record) (x : ℕ) (v : Variable) (d : StructId) → Inv types prog scope us s h → slice_get scope x ≡ Some v → v.ty ≡ reference_to d → Fits h (elem.Reference d) (slice_index_or s.slots x blank)
  typed_slot scope us s h x v d i there e = subst (λ t. Fits h (base_of t) (slice_index_or s.slots x blank)) e (i.fits x v there)

  -- Fields

  abbrev mean_member : PExpr → StructId → ℕ → Option Ty → List Variable → Expr → Type 0
  mean_member a d k t scope e = rule (context types prog bounds known call later) scope (P.Member a d k) t e

  abbrev plain_member : PExpr → StructId → ℕ → Option Ty → eval.Does
  plain_member a d k t = eval.does_form prog width call {X = Option Ty → eval.Does} (P.Member (does_plainly a) d k) t

  abbrev made_member : PExpr → StructId → ℕ → Option Ty → Role → Does
  made_member a d k t w = record (does_form types prog width later {X = Option Ty → Does} (P.Member (does_by_variant a) d k) t) { tag = tag_of w (does_by_variant a) }

  free_field : (h : List Record) (d : StructId) (k : ℕ) (v : Value) → role_of types prog d k ≡ role.Free → Fits h (elem.Reference d) v → HasField types prog h d k v
  free_field h d k v is fit p e = let f = place_holds (IsOf h d) p (subst (Fits h (elem.Reference d)) e fit) in (f.0, f.1, ap (has f.0) is)

  tested_field : (h : List Record) (slots : List Value) (d : StructId) (k x i : ℕ) (us : List Test) → role_of types prog d k ≡ role.Of i → is_tested (Some x) i us ≡ true → Each (Passed h slots) us → Fits h (elem.Reference d) (slice_index_or slots x blank) → HasField types prog h d k (slice_index_or slots x blank)
  tested_field h slots d k x i us is tested passed fit p e =
      let f = place_holds (IsOf h d) p (subst (Fits h (elem.Reference d)) e fit) in
      let y = any_passed h slots x i p us tested passed e in
      let kinds : Some (d, f.0) ≡ Some (y.0, Some i) = sym f.1 ∙ y.1 in
      let pair : (d, f.0) ≡ (y.0, Some i) = the (d, f.0) (y.0, Some i) kinds in
      let variant : f.0 ≡ Some i = ap (λ (z : StructId × Option ℕ). z.1) pair in
      (Some i, f.1 ∙ ap (λ v. Some (d, v)) variant, ap (has (Some i)) is ∙ eq-eqb i i refl)
    where
      the : (a b : StructId × Option ℕ) → Some a ≡ Some b → a ≡ b
      the a b is' = cc

  module _ (s : Span) (t : Option Ty) (a : PExpr) (d : StructId) (k : ℕ) (q : Now a) where
    abbrev M : List Variable → Expr → Type 0
    M = mean_member a d k t

    abbrev aimed : Value → Location
    aimed v = record { root = Field v k; indexes = [] }

    there : (scope : List Variable) (e : Expr) → M scope e → (f : FieldDef) × (field_at types prog d k ≡ Some f) × (base_of f.ty ≡ base t)
    there scope e m = (record { name = m.1; ty = m.8 }, ap (option_and_then (λ (z : StructDef). slice_get z.fields k)) m.7 ∙ m.9.there, sym (ap base m.10))

    -- a field of a struct that is not algebraic

    free_runs : role_of types prog d k ≡ role.Free → (scope : List Variable) (us : List Test) → Here (of_one (as_part a)) M scope us → Runs types prog bounds t (plain_member a d k t) (made_member a d k t role.Free) scope us
    free_runs is scope us w span z h i =
        let m = w.means in
        let f = there scope w.tree m in
        then_value types prog bounds (base a.ty) (base t) scope us span z h _ _ _ _ (q.runs scope us (record { tree = m.0; means = m.3; stands = w.stands; passes = w.passes; keeps = w.keeps }) span z h i)
        (λ v y j o g fit. at_base types prog bounds (base_of f.0.ty) (base t) scope us j _ _ f.2
        (read_ends types prog scope us span y j v d k f.0 o (free_field j d k v is (subst (λ e. Fits j e v) (ap base m.5) fit)) f.1))

    free_aims : role_of types prog d k ≡ role.Free → (scope : List Variable) (us : List Test) → Here (of_one (as_part a)) M scope us → Aims types prog bounds t (plain_member a d k t) (made_member a d k t role.Free) scope us
    free_aims is scope us w span z h i =
        let m = w.means in
        let f = there scope w.tree m in
        ends_then types prog (λ (v : Value). scope) (λ (l : Location). scope) us h (λ v j. Fits j (base a.ty) v) (λ l j. Rooted types prog scope us (base t) j l.root) _ _ _ _ (q.runs scope us (record { tree = m.0; means = m.3; stands = w.stands; passes = w.passes; keeps = w.keeps }) span z h i)
        (λ v y j o g fit. ends_at types prog (λ (l : Location). scope) us (λ l j. Rooted types prog scope us (base t) j l.root) (aimed v) y j o
        (d, f.0, f.1, f.2, free_field j d k v is (subst (λ e. Fits j e v) (ap base m.5) fit)))

    -- a field of a variant, of a variable that passed the test for it

    record Tested (scope : List Variable) (us : List Test) (z : plain.State) (h : List Record) : Type 0 where
      slot : ℕ
      reads : IsRead types prog bounds a.ty (does_plainly a) (does_by_variant a) (means a) slot
      has_it : HasField types prog h d k (slice_index_or z.slots slot blank)

    test_of_slot : (i : ℕ) → role_of types prog d k ≡ role.Of i → (scope : List Variable) (us : List Test) (e : Expr) → M scope e → (o : Option ℕ) → (as_part a).slot ≡ o → is_tested o i us ≡ true → (z : plain.State) (h : List Record) → Inv types prog scope us z h → Tested scope us z h
    test_of_slot i is scope us e m None o tested z h inv = absurd (false≢true tested)
    test_of_slot i is scope us e m (Some x) o tested z h inv =
        let r = q.reads x o in
        let y = r.typed scope m.0 m.3 in
        let types_same : Some y.0.ty ≡ Some (reference_to d) = sym y.2 ∙ m.5 in
        let type : y.0.ty ≡ reference_to d = cc in
        record { slot = x; reads = r; has_it = tested_field h z.slots d k x i us is tested inv.passed (typed_slot scope us z h x y.0 d inv y.1 type) }

    abbrev Kept : ℕ → List Variable → List Test → Type 0
    Kept i scope us = Here (member_part (role.Of i) s (as_part a)) M scope us

    tests_there : (i : ℕ) → role_of types prog d k ≡ role.Of i → (scope : List Variable) (us : List Test) → Kept i scope us → (z : plain.State) (h : List Record) → Inv types prog scope us z h → Tested scope us z h
    tests_there i is scope us w z h inv = test_of_slot i is scope us w.tree w.means (as_part a).slot refl (unless_keeps (is_tested (as_part a).slot i us) s ((as_part a).breaks us) w.keeps).0 z h inv

    own_runs : (i : ℕ) → role_of types prog d k ≡ role.Of i → (scope : List Variable) (us : List Test) → Kept i scope us → Runs types prog bounds t (plain_member a d k t) (made_member a d k t (role.Of i)) scope us
    own_runs i is scope us w span z h inv =
        let g = tests_there i is scope us w z h inv in
        let f = there scope w.tree w.means in
        let v : Value = slice_index_or z.slots g.slot blank in
        let end = at_base types prog bounds (base_of f.0.ty) (base t) scope us h _ _ f.2 (read_ends types prog scope us span z h v d k f.0 inv g.has_it f.1) in
        subst (λ (m : plain.Comp Value). Yields (base t) scope us h (plain.and_then (m z) (heap.read_field span k)) (and_then ((does_by_variant a).value span (with_heap z h)) (read_field span k))) (sym (g.reads.first span))
        (subst (λ (n : Comp Value). Yields (base t) scope us h (heap.read_field span k v z) (and_then (n (with_heap z h)) (read_field span k))) (sym (g.reads.second span)) end)

    own_aims : (i : ℕ) → role_of types prog d k ≡ role.Of i → (scope : List Variable) (us : List Test) → Kept i scope us → Aims types prog bounds t (plain_member a d k t) (made_member a d k t (role.Of i)) scope us
    own_aims i is scope us w span z h inv =
        let g = tests_there i is scope us w z h inv in
        let f = there scope w.tree w.means in
        let v : Value = slice_index_or z.slots g.slot blank in
        let R : Location → List Record → Type 0 = λ l j. Rooted types prog scope us (base t) j l.root in
        let end = ends_at types prog (λ (l : Location). scope) us R (aimed v) z h inv (d, f.0, f.1, f.2, g.has_it) in
        subst (λ (m : plain.Comp Value). Ends types prog (λ (l : Location). scope) us h R (plain.and_then (m z) (λ v. heap.at_root (Field v k))) (and_then ((does_by_variant a).value span (with_heap z h)) (λ v. at_root (Field v k)))) (sym (g.reads.first span))
        (subst (λ (n : Comp Value). Ends types prog (λ (l : Location). scope) us h R (plain.Goes (aimed v) z) (and_then (n (with_heap z h)) (λ v. at_root (Field v k)))) (sym (g.reads.second span)) end)

    -- the tag

    tag_asks : (x : ℕ) → role_of types prog d k ≡ role.Tag → (as_part a).slot ≡ Some x → IsTag types prog bounds t (member_part role.Tag s (as_part a)) (plain_member a d k t) M x
    tag_asks x is e =
        let r = q.reads x e in
        let g = role_tag (algebraic_of types prog.structs d) k is in
        record {
          first = λ span z. ap (λ (m : plain.Comp Value). plain.and_then (m z) (heap.read_field span k)) (r.first span) ∙ ap (λ n. heap.read_field span n (slice_index_or z.slots x blank) z) g.first;
          alone = λ us c. some_span s _ c;
          typed = λ scope z m.
              let y = r.typed scope m.0 m.3 in
              let types_same : Some y.0.ty ≡ Some (reference_to d) = sym y.2 ∙ m.5 in
              let type : y.0.ty ≡ reference_to d = cc in
              let named : type_named types m.6.name ≡ Some g.kin = sym (ap (option_and_then (λ (z : StructDef). type_named types z.name)) m.7) ∙ g.is in
              let first : slice_get m.6.fields 0 ≡ Some (record { name = m.1; ty = m.8 }) = ap (slice_get m.6.fields) (sym g.first) ∙ m.9.there in
              let tag = tags_are d.index m.6 g.kin (record { name = m.1; ty = m.8 }) m.7 named first in
              (record { it = y.0; there = y.1; of = d; type = type; kin = g.kin; is = g.is }, m.10 ∙ ap Some tag);
        }

    member_fine : (w : Role) → role_of types prog d k ≡ w → Fine types prog bounds t (member_part w s (as_part a)) (plain_member a d k t) (made_member a d k t w) M
    member_fine role.Free is = dull types prog bounds t _ _ _ M (refl, refl, refl, refl) (refl, refl, refl) (free_runs is) (λ scope us w free. free_aims is scope us w)
    member_fine (role.Of i) is = dull types prog bounds t _ _ _ M (refl, refl, refl, refl) (refl, refl, refl) (own_runs i is) (λ scope us w free. own_aims i is scope us w)
    member_fine role.Tag is = record {
      slot = refl;
      number = refl;
      tag = q.slot;
      reads = λ x e. absurd (none-some x e);
      says = λ i e. absurd (none-some i e);
      asks = λ x e. tag_asks x is e;
      tested = λ u e. absurd (none-some u e);
      runs = λ scope us w. absurd (some_span s _ w.keeps);
      aims = λ scope us w. absurd (some_span s _ w.keeps);
    }

    pub case_member : Now (record { span = s; ty = t; form = eform.Member a d k })
    case_member = laid types prog bounds known call later (P.Member a d k) (eform.Member a d k) (V.rolls-Member a d k) s t (member_fine (role_of types prog d k) refl)

  -- Two operands

  module _ (s : Span) (t : Option Ty) (a b : PExpr) (q : Now a) (r : Now b) where
    abbrev pair : BinOp → Part
    pair o = record (of_two (as_part a) (as_part b)) { test = test_of o (as_part a) (as_part b) }

    abbrev plain_pair : BinOp → eval.Does
    plain_pair o = eval.does_form prog width call {X = Option Ty → eval.Does} (P.Binary o (does_plainly a) (does_plainly b)) t

    abbrev made_pair : BinOp → Does
    made_pair o = does_form types prog width later {X = Option Ty → Does} (P.Binary o (does_by_variant a) (does_by_variant b)) t

    abbrev mean_pair : BinOp → List Variable → Expr → Type 0
    mean_pair o scope e = rule (context types prog bounds known call later) scope (P.Binary o a b) t e

    abbrev Pair : BinOp → List Variable → List Test → Type 0
    Pair o scope us = Here (pair o) (mean_pair o) scope us

    first_here : (o : BinOp) (scope : List Variable) (us : List Test) → Pair o scope us → Here (as_part a) (means a) scope us
    first_here o scope us w = here_first (as_part a) (as_part b) (λ scope e. Unit {0}) (means a) scope us w.means.1 w.means.5 (record { tree = w.tree; means = tt; stands = w.stands; passes = w.passes; keeps = w.keeps })

    second_here : (o : BinOp) (scope : List Variable) (us : List Test) → Pair o scope us → Here (as_part b) (means b) scope us
    second_here o scope us w = here_second (as_part a) (as_part b) (λ scope e. Unit {0}) (means b) scope us w.means.2 w.means.6 (record { tree = w.tree; means = tt; stands = w.stands; passes = w.passes; keeps = w.keeps })

    both_run : (o : BinOp) (scope : List Variable) (us : List Test) → Pair o scope us → (span : Span) (z : plain.State) (h : List Record) → Inv types prog scope us z h
        → Yields (base t) scope us h (plain.and_then ((does_plainly a).value span z) (λ v y. plain.and_then ((does_plainly b).value span y) (operator width span o v))) (and_then ((does_by_variant a).value span (with_heap z h)) (λ v y. and_then ((does_by_variant b).value span y) (λ x. lift (operator width span o v x))))
    both_run o scope us w span z h i =
        then_value types prog bounds (base a.ty) (base t) scope us span z h _ _ _ _ (q.runs scope us (first_here o scope us w) span z h i)
        (λ v y j k g f. then_value types prog bounds (base b.ty) (base t) scope us span y j _ _ _ _ (r.runs scope us (second_here o scope us w) span y j k)
        (λ x c l n g' f'. quiet_ends types prog bounds (base t) scope us (operator width span o v x) c l (λ P. quiet_operator P width span o v x) n))

    -- `&&` and `||`, at a bit

    abbrev Bit : Option Ty → Type 0
    Bit u = u ≡ Some bit

    logic_ends : (scope : List Variable) (us : List Test) (h : List Record) (m : plain.Step Value) (n : Step Value) (e : Option Ty) → Bit e → Yields (base e) scope us h m n → Bit t → Yields (base t) scope us h m n
    logic_ends scope us h m n e be y bt = at_base types prog bounds (base e) (base t) scope us h m n (ap base (be ∙ sym bt)) y

    and_runs : (scope : List Variable) (us : List Test) → Pair op.AndThen scope us → Runs types prog bounds t (plain_pair op.AndThen) (made_pair op.AndThen) scope us
    and_runs scope us w span z h i =
        let m = w.means.8 in
        then_value types prog bounds (base a.ty) (base t) scope us span z h _ _ _ _ (q.runs scope us (first_here op.AndThen scope us w) span z h i)
        (λ v y j k g f. choose_ends types prog bounds (λ (v : Value). scope) us j (λ v k. Fits k (base t) v) span v y j _ _ _ _
        (logic_ends scope us j _ _ b.ty m.right (r.runs scope us (second_here op.AndThen scope us w) span y j k) m.result)
        (pure_ends types prog bounds (base t) scope us (value.Bit false) y j (λ P. holds_bit P false) k))

    or_runs : (scope : List Variable) (us : List Test) → Pair op.OrElse scope us → Runs types prog bounds t (plain_pair op.OrElse) (made_pair op.OrElse) scope us
    or_runs scope us w span z h i =
        let m = w.means.8 in
        then_value types prog bounds (base a.ty) (base t) scope us span z h _ _ _ _ (q.runs scope us (first_here op.OrElse scope us w) span z h i)
        (λ v y j k g f. choose_ends types prog bounds (λ (v : Value). scope) us j (λ v k. Fits k (base t) v) span v y j _ _ _ _
        (pure_ends types prog bounds (base t) scope us (value.Bit true) y j (λ P. holds_bit P true) k)
        (logic_ends scope us j _ _ b.ty m.right (r.runs scope us (second_here op.OrElse scope us w) span y j k) m.result))

    -- `==`, which may ask for a variant

    equal_runs : (scope : List Variable) (us : List Test) → Pair op.Eq scope us → Runs types prog bounds t (plain_pair op.Eq) (made_pair op.Eq) scope us
    equal_runs scope us w span z h i = go (as_part a).tag refl
      where
        go : (o : Option ℕ) → (as_part a).tag ≡ o → Yields (base t) scope us h ((plain_pair op.Eq).value span z) (asking (does_by_variant a).tag (does_by_variant b).number span (binary width span op.Eq ((does_by_variant a).value span) ((does_by_variant b).value span)) (with_heap z h))
        go None e = subst (λ o. Yields (base t) scope us h ((plain_pair op.Eq).value span z) (asking o (does_by_variant b).number span (binary width span op.Eq ((does_by_variant a).value span) ((does_by_variant b).value span)) (with_heap z h))) (sym (q.tag ∙ e)) (both_run op.Eq scope us w span z h i)
        go (Some x) e = absurd ((q.asks x e).alone us (first_here op.Eq scope us w).keeps)

    module _ (x n : ℕ) (ea : (as_part a).tag ≡ Some x) (eb : (as_part b).number ≡ Some n) where
      abbrev asked : Test
      asked = record { slot = x; variant = n }

      tagged : (scope : List Variable) (e : Expr) → mean_pair op.Eq scope e → Tagged types prog bounds scope x × (a.ty ≡ Some int)
      tagged scope e m = (q.asks x ea).typed scope m.1 m.5

      -- the number that the tag is compared with
      number_is : (scope : List Variable) (e : Expr) → mean_pair op.Eq scope e → literal width b.ty n ≡ value.Int (pos n)
      number_is scope e m =
          let g = tagged scope e m in
          let type : b.ty ≡ Some int = m.8.right ∙ sym m.8.left ∙ g.1 in
          ap (λ u. literal width u n) type ∙ ap value.Int (same_number bounds n ((r.says n eb).small scope m.2 m.6))

      plainly : (span : Span) (z : plain.State) → (plain_pair op.Eq).value span z ≡ plain.and_then (heap.read_field span 0 (slice_index_or z.slots x blank) z) (λ v. plain.pure (truth (equal v (literal width b.ty n))))
      plainly span z =
          ap (λ m. plain.and_then m (λ v y. plain.and_then ((does_plainly b).value span y) (operator width span op.Eq v))) ((q.asks x ea).first span z)
          ∙ ap (λ (g : plain.Comp Value). plain.and_then (heap.read_field span 0 (slice_index_or z.slots x blank) z) (λ v y. plain.and_then (g y) (operator width span op.Eq v))) ((r.says n eb).first span)

      asks_it : (span : Span) (z : plain.State) (h : List Record) → (made_pair op.Eq).value span (with_heap z h) ≡ ask span n (slice_index_or z.slots x blank) (with_heap z h)
      asks_it span z h = λ j. asking ((q.tag ∙ ea) j) ((r.number ∙ eb) j) span (binary width span op.Eq ((does_by_variant a).value span) ((does_by_variant b).value span)) (with_heap z h)

      -- at a record of this struct and variant
      at_place : (span : Span) (z : plain.State) (h : List Record) (p j : ℕ) (d : StructId) (r : Record) (fs : List Value) → slice_get h p ≡ Some r → slice_get z.heap p ≡ Some fs → slice_get fs 0 ≡ Some (value.Int (pos j)) → r.variant ≡ Some j → kind_at h p ≡ Some (d, Some j) → slice_index_or z.slots x blank ≡ value.Place p → literal width b.ty n ≡ value.Int (pos n)
          → TestEnds asked span z h (plain.and_then (heap.read_field span 0 (value.Place p) z) (λ w. plain.pure (truth (equal w (literal width b.ty n))))) (ask span n (value.Place p) (with_heap z h))
      at_place span z h p j d r fs there twin tag variant kind is number =
          let first = compared z (slice_index_or (heap.record_at z p) 0 blank) (literal width b.ty n) j n (plain_read types prog z p 0 fs (value.Int (pos j)) twin tag) number in
          let asks = ap (λ o. or_stray (is_variant n (by_variant.variant_at o)) (with_heap z h)) there in
          let answers = ap (λ o. or_stray (is_variant n o) (with_heap z h)) variant in
          inl (
            j == n,
            first,
            asks ∙ answers,
            λ yes p' e'.
                let same : value.Place p ≡ value.Place p' = sym is ∙ e' in
                let one : p ≡ p' = cc in
                (d, ap (kind_at h) (sym one) ∙ kind ∙ ap (λ c. Some (d, Some c)) (eqb-true j n yes)),
          )

      -- at a record that is found there, of an algebraic struct
      at_found : (scope : List Variable) (us : List Test) (span : Span) (z : plain.State) (h : List Record) (p : ℕ) (d : StructId) (a : Algebraic) (v : Option ℕ) → Inv types prog scope us z h → algebraic_of types prog.structs d ≡ Some a → kind_at h p ≡ Some (d, v) → (f : Found h p d v) → Twin types prog h z.heap p f.it → slice_index_or z.slots x blank ≡ value.Place p → literal width b.ty n ≡ value.Int (pos n)
          → TestEnds asked span z h (plain.and_then (heap.read_field span 0 (value.Place p) z) (λ w. plain.pure (truth (equal w (literal width b.ty n))))) (ask span n (value.Place p) (with_heap z h))
      at_found scope us span z h p d a v i is kind f y at number =
          let tag = y.same.variant a (ap (algebraic_of types prog.structs) f.of ∙ is) in
          at_place span z h p tag.0 d f.it y.fields f.there y.there tag.2 tag.1 (kind ∙ ap (λ c. Some (d, c)) (sym f.is ∙ tag.1)) at number

      at_value : (scope : List Variable) (e : Expr) (us : List Test) → mean_pair op.Eq scope e → (span : Span) (z : plain.State) (h : List Record) → Inv types prog scope us z h → (v : Value) → slice_index_or z.slots x blank ≡ v
          → TestEnds asked span z h (plain.and_then (heap.read_field span 0 v z) (λ w. plain.pure (truth (equal w (literal width b.ty n))))) (ask span n v (with_heap z h))
      at_value scope e us m span z h i (value.Int y) is = inr (refl, refl)
      at_value scope e us m span z h i (value.Bit y) is = inr (refl, refl)
      at_value scope e us m span z h i value.Null is = inr (refl, refl)
      at_value scope e us m span z h i (value.Array' shape vs) is = inr (refl, refl)
      at_value scope e us m span z h i (value.Place p) is =
          let g = (tagged scope e m).0 in
          let fit : Fits h (elem.Reference g.of) (value.Place p) = subst (Fits h (elem.Reference g.of)) is (typed_slot scope us z h x g.it g.of i g.there g.type) in
          let k = place_holds (IsOf h g.of) p fit in
          let f = found h p g.of k.0 k.1 in
          at_found scope us span z h p g.of g.kin k.0 i g.is k.1 f (pairs_at types prog h z.heap h p f.it i.alike f.there) is (number_is scope e m)

      asked_test : IsTest types prog bounds (plain_pair op.Eq) (made_pair op.Eq) (mean_pair op.Eq) asked
      asked_test = record {
        stands = λ scope e m. let g = (tagged scope e m).0 in (g.it, g.there, ap element_of g.type);
        ends = λ scope e us m span z h i.
            subst (λ c. TestEnds asked span z h c ((made_pair op.Eq).value span (with_heap z h))) (sym (plainly span z))
            (subst (TestEnds asked span z h (plain.and_then (heap.read_field span 0 (slice_index_or z.slots x blank) z) (λ v. plain.pure (truth (equal v (literal width b.ty n)))))) (sym (asks_it span z h))
            (at_value scope e us m span z h i (slice_index_or z.slots x blank) refl));
      }

    equal_test : (u : Test) → test_for (as_part a).tag (as_part b).number ≡ Some u → IsTest types prog bounds (plain_pair op.Eq) (made_pair op.Eq) (mean_pair op.Eq) u
    equal_test u e = let g = test_parts (as_part a).tag (as_part b).number u e in subst (IsTest types prog bounds (plain_pair op.Eq) (made_pair op.Eq) (mean_pair op.Eq)) g.same (asked_test g.slot g.number g.first g.second)

    pair_fine : (o : BinOp) → Fine types prog bounds t (pair o) (plain_pair o) (made_pair o) (mean_pair o)
    pair_fine op.Eq = record {
      slot = refl;
      number = refl;
      tag = refl;
      reads = λ x e. absurd (none-some x e);
      says = λ i e. absurd (none-some i e);
      asks = λ x e. absurd (none-some x e);
      tested = equal_test;
      runs = equal_runs;
      aims = λ scope us w free span z h i. refl;
    }
    pair_fine op.AndThen = dull types prog bounds t _ _ _ _ (refl, refl, refl, refl) (refl, refl, refl) and_runs (λ scope us w free span z h i. refl)
    pair_fine op.OrElse = dull types prog bounds t _ _ _ _ (refl, refl, refl, refl) (refl, refl, refl) or_runs (λ scope us w free span z h i. refl)
    pair_fine o = dull types prog bounds t _ _ _ _ (refl, refl, refl, refl) (refl, refl, refl) (λ scope us w span z h i. both_run o scope us w span z h i) (λ scope us w free span z h i. refl)

    pub case_binary : (o : BinOp) → Now (record { span = s; ty = t; form = eform.Binary o a b })
    case_binary o = laid types prog bounds known call later (P.Binary o a b) (eform.Binary o a b) (V.rolls-Binary o a b) s t (pair_fine o)
