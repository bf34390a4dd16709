-- A table of codes that is filled node by node.
use Rattle.std.proofs.Common.{◌≡◌, ℕ, zero, suc, ◌+◌, ◌<◌, ◌≤◌, Bool, true, false, List, [], ◌∷◌, Option, Some, None, length, slice_get, slice_set, All, Contains, refl, sym, ap, subst, ◌∙◌, arith, ◌⊎◌, inl, inr, ⊎_elim}
use Rattle.std.proofs.lemmas.Option.{none-some, same_Some}
use Rattle.std.proofs.lemmas.Bool.{cases_lt}
use Rattle.std.proofs.lemmas.List.{length-set}
use Rattle.std.proofs.lemmas.List.Elements.{All-set, All-weaker}
use Rattle.sk_clause.specs.Meaning.{Meets}
use Rattle.sk_clause.specs.Problem.{Problem}
use Rattle.sk_dag.specs.declared.env.Env.{Env}
use Rattle.sk_dag.specs.declared.node.Node.{Node}
use Rattle.sk_dag.specs.Graph.{Graph}
use Rattle.sk_dag.specs.Eval.{IsNode, value_of, value_at, graph_values}
use Rattle.sk_dag.specs.Reach.{children, IsMarked, IsClosed}
use Rattle.sk_dag.proofs.EvalLemmas.{Grows-refl}
use Rattle.sk_dag.proofs.ReachLemmas.{each_of, each_all, children_before}
use Rattle.sk_gates.specs.Extension.{Continues}
use Rattle.sk_gates.proofs.ExtensionLaws.{Meets-left, Meets-right}
use Rattle.sk_gates.proofs.SharingLaws.{Builds-none, Builds-then}
use Rattle.sk_gates.proofs.BitLaws.{AreOver-later}
use Rattle.sk_cnf.specs.declared.leaf.Leaf.{Leaf}
use Rattle.sk_cnf.specs.declared.code.Code.{Code}
use Rattle.sk_cnf.specs.declared.code.Code.TheVariants.{Truth, Word, Cost}
use Rattle.sk_cnf.specs.Codes.{code_value, table_values, CodeFits, SlotFits, TableFits, IsCode, ShowsValues}
use Rattle.sk_cnf.specs.Leaves.{Says}
use Rattle.sk_cnf.specs.Standing.{IsCoded, Covers, Shows}
use Rattle.sk_cnf.proofs.CodeLaws.{value_of_slot, value_of_children}

-- ---- tables in which one place is written

set_cases : {X : Type 0} (xs : List X) (i j : ℕ) (a b : X) → slice_get (slice_set xs i a) j ≡ Some b → ((i ≡ j) × (a ≡ b)) ⊎ (slice_get xs j ≡ Some b)
set_cases [] i j a b h = absurd (none-some b h)
set_cases (x ∷ xs) zero zero a b h = inl (refl, same_Some a b h)
set_cases (x ∷ xs) zero (suc j) a b h = inr h
set_cases (x ∷ xs) (suc i) zero a b h = inr h
set_cases (x ∷ xs) (suc i) (suc j) a b h = ⊎_elim (λ p. inl (ap suc p.0, p.1)) (λ p. inr p) (set_cases xs i j a b h)

coded_here : (codes : List (Option Code)) (i : ℕ) (code : Code) → i < length codes → IsCoded (slice_set codes i (Some code)) i
coded_here [] i code h = absurd (omega (arith, h))
coded_here (x ∷ xs) zero code h = (code, refl)
coded_here (x ∷ xs) (suc i) code h = coded_here xs i code (omega (arith, h))

coded_stays : (codes : List (Option Code)) (i j : ℕ) (code : Code) → IsCoded codes j → IsCoded (slice_set codes i (Some code)) j
coded_stays [] i j code h = h
coded_stays (x ∷ xs) zero zero code h = (code, refl)
coded_stays (x ∷ xs) zero (suc j) code h = h
coded_stays (x ∷ xs) (suc i) zero code h = h
coded_stays (x ∷ xs) (suc i) (suc j) code h = coded_stays xs i j code h

CodeFits-later : (w m n : ℕ) → m ≤ n → (code : Code) → CodeFits w m code → CodeFits w n code
CodeFits-later w m n h (Truth bit) k = omega arith
CodeFits-later w m n h (Word bits) k = (k.0, AreOver-later m n bits h k.1)
CodeFits-later w m n h (Cost bits) k = (k.0, AreOver-later m n bits h k.1)

SlotFits-later : (w m n : ℕ) → m ≤ n → (slot : Option Code) → SlotFits w m slot → SlotFits w n slot
SlotFits-later w m n h None k = tt
SlotFits-later w m n h (Some code) k = CodeFits-later w m n h code k

pub TableFits-later : (w m n : ℕ) (codes : List (Option Code)) → m ≤ n → TableFits w m codes → TableFits w n codes
TableFits-later w m n codes h k = All-weaker (SlotFits w m) (SlotFits w n) (SlotFits-later w m n h) codes k

-- ---- what a table shows

-- it shows it of more clauses
pub Shows-continues : {g : Graph} {leaves : List Leaf} {names : List ℕ} {to new : Problem} {codes : List (Option Code)} → Continues to new → Shows g leaves names to codes → Shows g leaves names new codes
Shows-continues {g} {leaves} {names} {to} {new} {codes} more h = record {
  short = h.short;
  fits = TableFits-later g.bits to.vars new.vars codes more.vars h.fits;
  values = λ v m. h.values v (Meets-left v to.clauses more.added (subst (Meets v) more.clauses m));
}

pub Shows-covers : {old to : Problem} {g : Graph} {leaves : List Leaf} {names : List ℕ} {marks : List Bool} {codes : List (Option Code)} {i : ℕ} → Covers old g leaves names marks to codes i → Shows g leaves names to codes
Shows-covers {old} {to} {g} {leaves} {names} {marks} {codes} {i} h = record {
  short = omega (arith, h.long);
  fits = h.fits;
  values = λ v m.
      let all = subst (Meets v) h.gate.clauses m in
      h.gate.says v (Meets-right v old.clauses h.gate.added all) (Meets-left v old.clauses h.gate.added all);
}

-- ---- the steps

pub Covers-start : (old : Problem) (g : Graph) (leaves : List Leaf) (names : List ℕ) (marks : List Bool) (codes : List (Option Code)) → length codes ≡ length g.nodes → TableFits g.bits old.vars codes
    → ((v : ℕ → Bool) → Meets v old.clauses → ShowsValues g leaves names codes v) → Covers old g leaves names marks old codes 0
Covers-start old g leaves names marks codes long fits shows = record {
  long = long;
  fits = fits;
  gate = Builds-none old (ShowsValues g leaves names codes) shows;
  full = λ j h mark. absurd (omega (arith, h));
}

pub Covers-skip : {old to : Problem} {g : Graph} {leaves : List Leaf} {names : List ℕ} {marks : List Bool} {codes : List (Option Code)} (i : ℕ) → (IsMarked marks i → IsCoded codes i) → Covers old g leaves names marks to codes i → Covers old g leaves names marks to codes (i + 1)
Covers-skip {marks = marks} {codes = codes} i here h = record {
  long = h.long;
  fits = h.fits;
  gate = h.gate;
  full = λ j l mark. ⊎_elim
      (λ (k : j < i). h.full j k mark)
      (λ (k : i ≤ j). let e : i ≡ j = omega arith in subst (IsCoded codes) e (here (subst (IsMarked marks) (sym e) mark)))
      (cases_lt j i);
}

module _ {old to new : Problem} {g : Graph} {leaves : List Leaf} {names : List ℕ} {marks : List Bool} {codes : List (Option Code)} (i : ℕ) (node : Node) (code : Code)
    (closed : IsClosed g.nodes marks) (is : IsNode g i node) (mark : IsMarked marks i)
    (h : Covers old g leaves names marks to codes i) (k : IsCode g.bits leaves names codes node to new code) where
  child_coded : (c : ℕ) → Contains (children node) c → IsCoded codes c
  child_coded c there =
      h.full c (each_of (λ x. x < i) (children node) c (children_before g.bits g.nodes i node is.before) there)
      (each_of (IsMarked marks) (children node) c (closed.marked i node is.found mark) there)

  shown : (v : ℕ → Bool) → ShowsValues g leaves names codes v
      → ((e : Env) → Says leaves (Rattle.std.proofs.Common.map v names) e → code_value g.bits v code ≡ value_of g.bits e (table_values g.bits v codes) node)
      → ShowsValues g leaves names (slice_set codes i (Some code)) v
  shown v before says = record { each = each }
    where
      value : (e : Env) → Says leaves (Rattle.std.proofs.Common.map v names) e → code_value g.bits v code ≡ value_at (graph_values g e) i
      value e said =
          says e said
          ∙ value_of_children g.bits e (table_values g.bits v codes) (graph_values g e) node
          (each_all (λ c. value_at (table_values g.bits v codes) c ≡ value_at (graph_values g e) c) (children node) (λ c there.
          let x = child_coded c there in
          value_of_slot g.bits v codes c x.0 x.1 ∙ before.each c x.0 x.1 e said))
          ∙ sym (is.value g (Grows-refl g) e)

      each : (j : ℕ) (c : Code) → slice_get (slice_set codes i (Some code)) j ≡ Some (Some c) → (e : Env) → Says leaves (Rattle.std.proofs.Common.map v names) e → code_value g.bits v c ≡ value_at (graph_values g e) j
      each j c there e said =
          ⊎_elim
          (λ (p : (i ≡ j) × (Some code ≡ Some c)). ap (code_value g.bits v) (sym (same_Some code c p.1)) ∙ value e said ∙ ap (λ x. value_at (graph_values g e) x) p.0)
          (λ p. before.each j c p e said)
          (set_cases codes i j (Some code) (Some c) there)

  pub Covers-step : i < length codes → Covers old g leaves names marks new (slice_set codes i (Some code)) (i + 1)
  Covers-step within = record {
    long = length-set codes i (Some code) ∙ h.long;
    fits = All-set (SlotFits g.bits new.vars) codes i (Some code) k.fits (TableFits-later g.bits to.vars new.vars codes k.gate.vars h.fits);
    gate = Builds-then _ _ _ h.gate k.gate shown;
    full = λ j l m. ⊎_elim
        (λ (b : j < i). coded_stays codes i j code (h.full j b m))
        (λ (b : i ≤ j). let e : i ≡ j = omega arith in subst (IsCoded (slice_set codes i (Some code))) e (coded_here codes i code within))
        (cases_lt j i);
  }
