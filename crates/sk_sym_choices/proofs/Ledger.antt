-- What is marked and what is owed, one after another.
use Rattle.std.proofs.Common.{◌≡◌, ℕ, zero, suc, ◌+◌, ◌<◌, ◌≤◌, Bool, true, false, List, [], ◌∷◌, ◌++◌, length, take, get_or, refl, sym, ap, subst, ◌∙◌, append_assoc, arith}
use Rattle.std.specs.Prelude.{◌&&◌, ◌||◌, nat_lt, slice_set, if◌then◌else◌}
use Rattle.std.proofs.lemmas.List.{append-nil, take_more}
use Rattle.std.proofs.lemmas.List.Elements.{All-nil, All-push, All-set}
use Rattle.sk_dag.specs.declared.env.Env.{Env}
use Rattle.sk_dag.specs.declared.node.BoolId.{BoolId}
use Rattle.sk_dag.specs.Graph.{Graph, Grows, HasBool}
use Rattle.sk_dag.specs.Eval.{bool_value, Keeps}
use Rattle.sk_model.specs.Parts.{value}
use Rattle.sk_model.specs.Stands.{Payment as Amount}
use Rattle.sk_holes_standing.specs.Marks.{marked}
use Rattle.sk_holes_standing.specs.Functions.{stands_by}
use Rattle.sk_holes_standing.proofs.MarkLaws.{marked_append, set_past}
use Rattle.sk_sym_choices.specs.declared.guard.Called.{Called}
use Rattle.sk_sym_choices.specs.declared.guard.Owed.{Owed}
use Rattle.sk_sym_choices.specs.declared.payment.Payment.{Payment}
use Rattle.sk_sym_choices.specs.declared.payer.Payer.{Payer}
use Rattle.sk_sym_choices.specs.Guards.{meets_all, called_under, paid_under}
use Rattle.sk_sym_choices.specs.Orders.{values_of, AllThere, IsGiven}
use Rattle.sk_sym_choices.specs.Programs.{kept}
use Rattle.sk_sym_choices.specs.Payments.{amounts, AllOwed, values_for, IsLater, IsUnder, AreMarked, AreOwed, StandsBy}
use Rattle.sk_sym_choices.proofs.Says.{kept_none, kept_both, called_append, paid_append}
use Rattle.sk_sym_choices.proofs.Turns.{value_at, there_at, length_values}

pub later_keeps : {p : Payer} {d0 d1 g : Graph} {e : Env} → Keeps d0 d1 → IsLater p d1 g e → IsLater p d0 g e
later_keeps k l = record { grows = k.later _ l.grows; range = l.range }

-- ---- marks

values_set : (g : Graph) (e : Env) (nodes : List BoolId) (i : ℕ) (node : BoolId) → values_of g e (slice_set nodes i node) ≡ slice_set (values_of g e nodes) i (bool_value g e node)
values_set g e [] zero node = refl
values_set g e [] (suc i) node = refl
values_set g e (n ∷ nodes) zero node = refl
values_set g e (n ∷ nodes) (suc i) node = ap (λ bs. bool_value g e n ∷ bs) (values_set g e nodes i node)

or_true : (b : Bool) → (b || true) ≡ true
or_true true = refl
or_true false = refl

set_again : (xs : List Bool) (i : ℕ) → slice_set xs i (get_or xs i false || false) ≡ xs
set_again [] zero = refl
set_again [] (suc i) = refl
set_again (true ∷ xs) zero = refl
set_again (false ∷ xs) zero = refl
set_again (x ∷ xs) (suc i) = ap (λ ys. x ∷ ys) (set_again xs i)

-- an entry that is true from now on, if it is marked
set_or : (xs : List Bool) (i : ℕ) (w : Bool) → slice_set xs i (get_or xs i w || w) ≡ marked xs (kept w (i ∷ []))
set_or xs i true = ap (λ b. slice_set xs i b) (or_true (get_or xs i true))
set_or xs i false = set_again xs i

kept_if_met : (b m : Bool) (f : ℕ) → kept (b && m) (f ∷ []) ≡ kept b (if m then f ∷ [] else [])
kept_if_met true m f = refl
kept_if_met false m f = refl

past : (xs : List Bool) (f : ℕ) (b m : Bool) → length xs ≤ f → xs ≡ marked xs (kept b (if m then f ∷ [] else []))
past xs f true true h = sym (set_past xs f true h)
past xs f true false h = refl
past xs f false m h = refl

-- a function that is not in the table
pub call_past : {p : Payer} {d : Graph} {node : BoolId} (c : Called) {table : List BoolId} → AllThere d table → length table ≤ c.f → AreMarked p d node (c ∷ []) table table
call_past {p} {d} {node} c {table} there h = record {
  there = there;
  value = λ g e l. past (values_of g e table) c.f (bool_value g e node) (meets_all (values_for p e) c.tests) (let n = length_values g e table in omega (arith, h, n));
}

-- a function that is called where a node holds and its tests are met
pub call_marks : {p : Payer} {d0 d1 : Graph} {node when either before : BoolId} (c : Called) {table : List BoolId}
    → IsUnder p d0 node c.tests when → Keeps d0 d1 → AllThere d1 table → HasBool d1.nodes either → before ≡ get_or table c.f when
    → ((g : Graph) → Grows d1 g → (e : Env) → bool_value g e either ≡ (bool_value g e before || bool_value g e when))
    → AreMarked p d1 node (c ∷ []) table (slice_set table c.f either)
call_marks {p} {d0} {d1} {node} {when} {either} {before} c {table} under keeps there new is_before or = record {
  there = record { each = All-set (HasBool d1.nodes) table c.f either new there.each };
  value = λ g e l.
      let vs : List ℕ = values_for p e in
      let m : Bool = meets_all vs c.tests in
      let xs : List Bool = values_of g e table in
      let w : Bool = bool_value g e when in
      values_set g e table c.f either
      ∙ ap (λ b. slice_set xs c.f b) (or g l.grows e ∙ ap (λ n. bool_value g e n || w) is_before ∙ ap (λ b. b || w) (value_at g e table c.f when))
      ∙ set_or xs c.f w
      ∙ ap (λ b. marked xs (kept b (c.f ∷ []))) (under.value g e (later_keeps keeps l))
      ∙ ap (λ fs. marked xs fs) (kept_if_met (bool_value g e node) m c.f);
}

pub marked_none : {p : Payer} {d : Graph} {node : BoolId} {table : List BoolId} → AllThere d table → AreMarked p d node [] table table
marked_none {p} {d} {node} {table} there = record {
  there = there;
  value = λ g e l. ap (λ fs. marked (values_of g e table) fs) (kept_none (bool_value g e node));
}

pub marked_then : {p : Payer} {d0 d1 : Graph} {node : BoolId} {xs ys : List Called} {t0 t1 t2 : List BoolId}
    → AreMarked p d0 node xs t0 t1 → Keeps d0 d1 → AreMarked p d1 node ys t1 t2 → AreMarked p d1 node (xs ++ ys) t0 t2
marked_then {p} {d0} {d1} {node} {xs} {ys} {t0} {t1} {t2} a keeps b = record {
  there = b.there;
  value = λ g e l.
      let vs : List ℕ = values_for p e in
      let n : Bool = bool_value g e node in
      b.value g e l
      ∙ ap (λ bs. marked bs (kept n (called_under vs ys))) (a.value g e (later_keeps keeps l))
      ∙ sym (marked_append (values_of g e t0) (kept n (called_under vs xs)) (kept n (called_under vs ys)))
      ∙ ap (λ fs. marked (values_of g e t0) fs) (kept_both n (called_under vs xs) (called_under vs ys) ∙ ap (λ fs. kept n fs) (sym (called_append vs xs ys)));
}

pub marked_keeps : {p : Payer} {d0 d1 : Graph} {node : BoolId} {xs : List Called} {t0 t1 : List BoolId} → Keeps d0 d1 → AreMarked p d0 node xs t0 t1 → AreMarked p d1 node xs t0 t1
marked_keeps {p} {d0} {d1} {node} {xs} {t0} {t1} k a = record {
  there = record { each = λ i d l. k.sorts _ _ (a.there.each i d l) };
  value = λ g e l. a.value g e (later_keeps k l);
}

-- ---- payments

amounts_append : (g : Graph) (e : Env) (values : List ℕ) (ps qs : List Payment) → amounts g e values (ps ++ qs) ≡ amounts g e values ps ++ amounts g e values qs
amounts_append g e values [] qs = refl
amounts_append g e values (p ∷ ps) qs = by (bool_value g e p.when) (amounts_append g e values ps qs)
  where
    by : (b : Bool) → amounts g e values (ps ++ qs) ≡ amounts g e values ps ++ amounts g e values qs
        → (let one : Amount = record { span = p.span; amount = value values p.site } in (if b then one ∷ amounts g e values (ps ++ qs) else amounts g e values (ps ++ qs)) ≡ (if b then one ∷ amounts g e values ps else amounts g e values ps) ++ amounts g e values qs)
    by true h = ap (λ xs. record { span = p.span; amount = value values p.site } ∷ xs) h
    by false h = h

pub owed_keeps : {d0 d1 : Graph} {made : List Payment} → Keeps d0 d1 → AllOwed d0 made → AllOwed d1 made
owed_keeps k h = record { each = λ i d l. k.sorts _ _ (h.each i d l) }

pub owed_nothing : (d : Graph) → AllOwed d []
owed_nothing d = record { each = All-nil (λ (p : Payment). HasBool d.nodes p.when) }

paid_if_met : (b m : Bool) (x : Amount) → (if b && m then x ∷ [] else []) ≡ kept b (if m then x ∷ [] else [])
paid_if_met true m x = refl
paid_if_met false m x = refl

-- what is owed where a node holds and its tests are met
pub owe_pays : {p : Payer} {d : Graph} {node : BoolId} (o : Owed) (due : Payment) {made : List Payment}
    → IsUnder p d node o.tests due.when → due.span ≡ o.span → due.site ≡ o.site → AllOwed d made
    → AreOwed p d node (o ∷ []) made (made ++ due ∷ [])
owe_pays {p} {d} {node} o due {made} under span site there = record {
  there = record { each = All-push (λ (q : Payment). HasBool d.nodes q.when) made due there.each under.there };
  value = λ g e l.
      let vs : List ℕ = values_for p e in
      let x : Amount = record { span = o.span; amount = value vs o.site } in
      let same : record { span = due.span; amount = value vs due.site } ≡ x = (λ j. record { span = span j; amount = value vs (site j) }) in
      amounts_append g e vs made (due ∷ [])
      ∙ ap (λ ys. amounts g e vs made ++ ys) (
      ap (λ (y : Amount). if bool_value g e due.when then y ∷ [] else []) same
      ∙ ap (λ (b : Bool). if b then x ∷ [] else []) (under.value g e l)
      ∙ paid_if_met (bool_value g e node) (meets_all vs o.tests) x);
}

pub owed_none : {p : Payer} {d : Graph} {node : BoolId} {made : List Payment} → AllOwed d made → AreOwed p d node [] made made
owed_none {p} {d} {node} {made} there = record {
  there = there;
  value = λ g e l. sym (append-nil (amounts g e (values_for p e) made)) ∙ ap (λ xs. amounts g e (values_for p e) made ++ xs) (kept_none (bool_value g e node));
}

pub owed_then : {p : Payer} {d0 d1 : Graph} {node : BoolId} {xs ys : List Owed} {m0 m1 m2 : List Payment}
    → AreOwed p d0 node xs m0 m1 → Keeps d0 d1 → AreOwed p d1 node ys m1 m2 → AreOwed p d1 node (xs ++ ys) m0 m2
owed_then {p} {d0} {d1} {node} {xs} {ys} {m0} {m1} {m2} a keeps b = record {
  there = b.there;
  value = λ g e l.
      let vs : List ℕ = values_for p e in
      let n : Bool = bool_value g e node in
      b.value g e l
      ∙ ap (λ qs. qs ++ kept n (paid_under vs ys)) (a.value g e (later_keeps keeps l))
      ∙ append_assoc (amounts g e vs m0) (kept n (paid_under vs xs)) (kept n (paid_under vs ys))
      ∙ ap (λ qs. amounts g e vs m0 ++ qs) (kept_both n (paid_under vs xs) (paid_under vs ys) ∙ ap (λ qs. kept n qs) (sym (paid_append vs xs ys)));
}

one_more : {A : Type 0} (xs : List A) (k : ℕ) (x : A) → k < length xs → x ≡ get_or xs k x → take k xs ++ x ∷ [] ≡ take (k + 1) xs
one_more xs k x below item = ap (λ y. take k xs ++ y ∷ []) item ∙ sym (take_more xs k x below)

-- one more is called
pub marked_next : {p : Payer} {d0 d1 : Graph} {node : BoolId} {t0 t1 t2 : List BoolId} (calls : List Called) (k : ℕ) (c : Called)
    → k < length calls → c ≡ get_or calls k c → AreMarked p d0 node (take k calls) t0 t1 → Keeps d0 d1 → AreMarked p d1 node (c ∷ []) t1 t2 → AreMarked p d1 node (take (k + 1) calls) t0 t2
marked_next {p} {d0} {d1} {node} {t0} {t1} {t2} calls k c below item a keeps b = subst (λ (cs : List Called). AreMarked p d1 node cs t0 t2) (one_more calls k c below item) (marked_then a keeps b)

-- one more is owed
pub owed_next : {p : Payer} {d0 d1 : Graph} {node : BoolId} {m0 m1 m2 : List Payment} (owed : List Owed) (k : ℕ) (o : Owed)
    → k < length owed → o ≡ get_or owed k o → AreOwed p d0 node (take k owed) m0 m1 → Keeps d0 d1 → AreOwed p d1 node (o ∷ []) m1 m2 → AreOwed p d1 node (take (k + 1) owed) m0 m2
owed_next {p} {d0} {d1} {node} {m0} {m1} {m2} owed k o below item a keeps b = subst (λ (os : List Owed). AreOwed p d1 node os m0 m2) (one_more owed k o below item) (owed_then a keeps b)

-- ---- functions

stands_value : (g : Graph) (e : Env) (table : List BoolId) (n ordinary : ℕ) (never always : BoolId)
    → bool_value g e never ≡ false → bool_value g e always ≡ true
    → bool_value g e (if nat_lt n ordinary then always else get_or table n never) ≡ stands_by ordinary (values_of g e table) n
stands_value g e table n ordinary never always not_ever ever = by (nat_lt n ordinary)
  where
    by : (b : Bool) → bool_value g e (if b then always else get_or table n never) ≡ (b || get_or (values_of g e table) n false)
    by true = ever
    by false = value_at g e table n never ∙ ap (λ b. get_or (values_of g e table) n b) not_ever

pub standing_node : {p : Payer} {d : Graph} {table : List BoolId} (n : ℕ) (r : BoolId)
    → IsGiven d p.never false → IsGiven d p.always true → AllThere d table
    → r ≡ (if nat_lt n p.ordinary then p.always else get_or table n p.never) → StandsBy p d table n r
standing_node {p} {d} {table} n r not_ever ever there is = record {
  there = subst (λ (m : BoolId). HasBool d.nodes m) (sym is) (by (nat_lt n p.ordinary));
  value = λ g e l. ap (λ m. bool_value g e m) is ∙ stands_value g e table n p.ordinary p.never p.always (not_ever.value g l.grows e) (ever.value g l.grows e);
}
  where
    by : (b : Bool) → HasBool d.nodes (if b then p.always else get_or table n p.never)
    by true = ever.there
    by false = there_at table n p.never there not_ever.there
