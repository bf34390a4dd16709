-- A formula that grows stands for one root more.
use Rattle.std.proofs.Common.{◌≡◌, ℕ, ◌≤◌, Bool, List, [], ◌∷◌, ◌++◌, Option, length, map, refl, sym, ap, subst, ◌∙◌, arith, Result, Ok, Err}
use Rattle.std.specs.Result.{OnOk, OnErr}
use Rattle.std.proofs.lemmas.List.Elements.{All-nil, All-push, All-weaker}
use Rattle.std.proofs.lemmas.List.{append-nil, append_assoc, length-take}
use Rattle.std.proofs.lemmas.Option.{slice_get_within}
use Rattle.sk_clause.specs.Meaning.{Meets}
use Rattle.sk_clause.specs.Problem.{Problem, IsWithin, AreWithin}
use Rattle.sk_dag.specs.declared.env.Env.{Env}
use Rattle.sk_dag.specs.declared.node.BoolId.{BoolId}
use Rattle.sk_dag.specs.Graph.{Graph, Grows, HasBool}
use Rattle.sk_dag.specs.Eval.{as_bool, bool_at, bool_value}
use Rattle.sk_dag.specs.Reach.{MarksReached}
use Rattle.sk_dag.proofs.EvalLemmas.{HasSort-grows}
use Rattle.sk_dag.proofs.ReachLemmas.{root_marked}
use Rattle.sk_gates.specs.declared.bit.Bit.{Bit}
use Rattle.sk_gates.specs.Bits.{bit_true}
use Rattle.sk_gates.specs.Extension.{Continues}
use Rattle.sk_gates.specs.Sharing.{AreMade, Stands as StandsFor}
use Rattle.sk_cnf.specs.declared.leaf.Leaf.{Leaf}
use Rattle.sk_cnf.specs.declared.code.Code.{Code}
use Rattle.sk_cnf.specs.declared.growing.Growing.{Growing}
use Rattle.sk_cnf.specs.Codes.{table_values, SlotFits, TableFits, ShowsValues, IsLonger}
use Rattle.sk_cnf.specs.Formula.{IsEncoding, Means, Tight}
use Rattle.sk_cnf.specs.Leaves.{Says}
use Rattle.sk_cnf.specs.Standing.{Begins, Covers, Demands, Gains, IsNamed, Shows, Stands, IsCoded}
use Rattle.sk_gates.proofs.ExtensionLaws.{Continues-adds}
use Rattle.sk_cnf.proofs.CodeLaws.{value_of_slot}
use Rattle.sk_cnf.proofs.CoverLaws.{Covers-start}
use Rattle.sk_cnf.proofs.FormulaLaws.{Means-more, Means-grows, Means-continues, AreWithin-more, AreWithin-continues, Tight-more, met_old, met_added}
use Rattle.sk_cnf.proofs.GrowingLaws.{Means-named, ShowsValues-none, ShowsValues-grows}

pub grown_length : {a b : Graph} → Grows a b → length a.nodes ≤ length b.nodes
grown_length {a} {b} h = omega (arith, ap length h.nodes, length-take (length a.nodes) b.nodes)

-- the formula is the encoding, where its leaves are these
pub IsEncoding-from : (s : Growing) (leaves : List Leaf) (g : Graph) (roots : List BoolId) → s.leaves.keys ≡ leaves → Stands s g roots → Tight s.encoded → IsEncoding s.encoded leaves g roots
IsEncoding-from s leaves g roots e h tight = record { means = subst (λ l. Means s.encoded l g roots) e h.means; tight = tight }

-- ---- clauses behind others

pub Begins-refl : (a : Problem) → Begins a a
Begins-refl a = record { vars = omega arith; added = []; clauses = sym (append-nil a.clauses) }

pub Begins-continues : {a b : Problem} → Continues a b → Begins a b
Begins-continues h = record { vars = h.vars; added = h.added; clauses = h.clauses }

pub Begins-demanded : {a b c : Problem} {bit : Bit} → Continues a b → Demands b c bit → Begins a c
Begins-demanded {a} {b} {c} h d = record {
  vars = omega (arith, h.vars, d.vars);
  added = h.added ++ d.added;
  clauses = d.clauses ∙ ap (λ x. x ++ d.added) h.clauses ∙ append_assoc a.clauses h.added d.added;
}

pub Begins-refused : {a b c : Problem} → Continues a b → c ≡ b → Begins a c
Begins-refused {a} h e = subst (Begins a) (sym e) (Begins-continues h)

pub ruleset beginning = (Begins-refl, Begins-continues, Begins-refused)

-- ---- tables for a graph that has grown

-- The table of the nodes of a smaller graph, maybe with more empty places.
pub Shows-grows : {g dag : Graph} {leaves : List Leaf} {names : List ℕ} {to : Problem} {old codes : List (Option Code)} → Grows g dag → length codes ≤ length dag.nodes
    → ((w vars : ℕ) → TableFits w vars old → TableFits w vars codes) → IsLonger old codes → Shows g leaves names to old → Shows dag leaves names to codes
Shows-grows {g} {dag} {leaves} {names} {to} {old} {codes} grows short fits longer h = record {
  short = short;
  fits = subst (λ w. TableFits w to.vars codes) (sym grows.bits) (fits g.bits to.vars h.fits);
  values = λ v m. ShowsValues-grows leaves names old codes v grows h.short longer.old_codes (h.values v m);
}

pub Shows-same : {g dag : Graph} {leaves : List Leaf} {names : List ℕ} {to : Problem} {codes : List (Option Code)} → Grows g dag → Shows g leaves names to codes → Shows dag leaves names to codes
Shows-same grows h = Shows-grows grows (omega (arith, h.short, grown_length grows)) (λ w vars f. f) (record { old_codes = λ i code there. there }) h

-- the table with which the next nodes are encoded
pub Covers-begun : (s : Growing) (g dag : Graph) (roots : List BoolId) (marks : List Bool) (codes : List (Option Code)) → Stands s g roots → Grows g dag → length codes ≡ length dag.nodes
    → ((w vars : ℕ) → TableFits w vars s.codes → TableFits w vars codes) → IsLonger s.codes codes
    → Covers s.encoded.clauses dag s.leaves.keys s.encoded.names marks s.encoded.clauses codes 0
Covers-begun s g dag roots marks codes h grows long fits longer =
    let begun : Shows dag s.leaves.keys s.encoded.names s.encoded.clauses codes = Shows-grows grows (omega (arith, long)) fits longer h.codes in
    Covers-start s.encoded.clauses dag s.leaves.keys s.encoded.names marks codes long begun.fits begun.values

-- ---- after a refusal

-- what was added leaves the meaning as it was, and the table shows what it does
pub Stands-refused : (s s' : Growing) (g dag : Graph) (roots : List BoolId) → Stands s g roots → Grows g dag → s'.leaves ≡ s.leaves → s'.encoded.names ≡ s.encoded.names → Continues s.encoded.clauses s'.encoded.clauses
    → Shows dag s.leaves.keys s.encoded.names s'.encoded.clauses s'.codes → AreMade s'.encoded.clauses s'.made → Stands s' dag roots
Stands-refused s s' g dag roots h grows leaves names more shows made = record {
  means =
      subst (λ l. Means s'.encoded l.keys dag roots) (sym leaves)
      (Means-continues s.encoded s'.encoded s.leaves.keys dag roots (Means-grows grows h.there h.means) h.within names more);
  there = All-weaker (HasBool g.nodes) (HasBool dag.nodes) (λ r k. HasSort-grows grows k) roots h.there;
  within = AreWithin-continues s.encoded s'.encoded s.leaves.keys dag roots (Means-grows grows h.there h.means) h.within names more;
  codes = subst (λ l. Shows dag l.keys s'.encoded.names s'.encoded.clauses s'.codes) (sym leaves) (subst (λ l. Shows dag s.leaves.keys l s'.encoded.clauses s'.codes) (sym names) shows);
  made = made;
}

-- ---- with one root more

module _ (s s' : Growing) (g dag : Graph) (roots : List BoolId) (root : BoolId) (marks : List Bool) (mid : Problem) (bit : Bit)
    (h : Stands s g roots) (grows : Grows g dag) (leaves : s'.leaves ≡ s.leaves) (names : s'.encoded.names ≡ s.encoded.names)
    (there : HasBool dag.nodes root) (reached : MarksReached dag.nodes (root ∷ []) marks)
    (covers : Covers s.encoded.clauses dag s.leaves.keys s.encoded.names marks mid s'.codes (length dag.nodes))
    (demands : Demands mid s'.encoded.clauses bit)
    (is : (w : ℕ) (v : ℕ → Bool) → bit_true v bit ≡ bool_at (table_values w v s'.codes) root)
    (made : AreMade s'.encoded.clauses s'.made) where
  coded : IsCoded s'.codes root.index
  coded = covers.full root.index (slice_get_within dag.nodes root.index there.node there.found) (root_marked dag.nodes (root ∷ []) marks reached root (0, omega arith, refl))

  says : (v : ℕ → Bool) → Meets v s.encoded.clauses.clauses → (Meets v s.encoded.clauses.clauses → ShowsValues dag s.leaves.keys s.encoded.names s'.codes v) → (e : Env) → Says s.leaves.keys (map v s.encoded.names) e → bit_true v bit ≡ bool_value dag e root
  unfolding bool_value
  says v m shows e said =
      is dag.bits v
      ∙ ap as_bool (value_of_slot dag.bits v s'.codes root.index coded.0 coded.1 ∙ (shows m).each root.index coded.0 coded.1 e said)

  grown : Means s.encoded s.leaves.keys dag roots
  grown = Means-grows grows h.there h.means

  values : (v : ℕ → Bool) → Meets v s'.encoded.clauses.clauses → ShowsValues dag s.leaves.keys s.encoded.names s'.codes v
  values v m =
      covers.gate.says v
      (met_added s.encoded s'.encoded s.leaves.keys dag roots root mid _ bit grown h.within names covers.gate demands says v m)
      (met_old s.encoded s'.encoded s.leaves.keys dag roots root mid _ bit grown h.within names covers.gate demands says v m)

  shown : Shows dag s.leaves.keys s.encoded.names s'.encoded.clauses s'.codes
  shown = record {
    short = omega (arith, covers.long);
    fits = subst (λ n. TableFits dag.bits n s'.codes) (sym demands.vars) covers.fits;
    values = values;
  }

  pub Stands-more : Stands s' dag (roots ++ root ∷ [])
  Stands-more = record {
    means =
        subst (λ l. Means s'.encoded l.keys dag (roots ++ root ∷ [])) (sym leaves)
        (Means-more s.encoded s'.encoded s.leaves.keys dag roots root mid _ bit grown h.within names covers.gate demands says);
    there = All-push (HasBool dag.nodes) roots root (All-weaker (HasBool g.nodes) (HasBool dag.nodes) (λ r k. HasSort-grows grows k) roots h.there) there;
    within = AreWithin-more s.encoded s'.encoded s.leaves.keys dag roots root mid _ bit grown h.within names covers.gate demands says;
    codes = subst (λ l. Shows dag l.keys s'.encoded.names s'.encoded.clauses s'.codes) (sym leaves) (subst (λ l. Shows dag s.leaves.keys l s'.encoded.clauses s'.codes) (sym names) shown);
    made = made;
  }

  pub Tight-stays : Tight s.encoded → Tight s'.encoded
  Tight-stays = Tight-more s.encoded s'.encoded s.leaves.keys dag roots root mid _ bit grown h.within names covers.gate demands says

-- ---- the same of what a root gains

module _ (s s' : Growing) (g dag : Graph) (roots : List BoolId) (root : BoolId) (marks : List Bool)
    (h : Stands s g roots) (grows : Grows g dag) (leaves : s'.leaves ≡ s.leaves) (names : s'.encoded.names ≡ s.encoded.names)
    (there : HasBool dag.nodes root) (reached : MarksReached dag.nodes (root ∷ []) marks)
    (gains : Gains s.encoded.clauses s'.encoded.clauses dag s.leaves.keys s.encoded.names marks s'.codes root)
    (made : AreMade s'.encoded.clauses s'.made) where
  pub Stands-gained : Stands s' dag (roots ++ root ∷ [])
  Stands-gained = Stands-more s s' g dag roots root marks gains.mid gains.bit h grows leaves names there reached gains.covers gains.demands gains.value made

  pub Tight-gained : Tight s.encoded → Tight s'.encoded
  Tight-gained = Tight-stays s s' g dag roots root marks gains.mid gains.bit h grows leaves names there reached gains.covers gains.demands gains.value made

pub Begins-gained : {old new : Problem} {g : Graph} {leaves : List Leaf} {names : List ℕ} {marks : List Bool} {codes : List (Option Code)} {root : BoolId} → Gains old new g leaves names marks codes root → Begins old new
Begins-gained h = Begins-demanded (Continues-adds h.covers.gate) h.demands

-- what follows from two things that hold after a refusal
pub on_err_both : {T E P Q R : Type 0} (r : Result T E) → (P → Q → R) → OnErr r P → OnErr r Q → OnErr r R
on_err_both (Ok x) f p q = tt
on_err_both (Err e) f p q = f p q

-- whether it is refused or not, clauses stand behind the old ones
pub begins_either : {T E P : Type 0} {old new : Problem} (r : Result T E) → (P → Begins old new) → OnOk r P → OnErr r (Continues old new) → Begins old new
begins_either (Ok x) f h k = f h
begins_either (Err e) f h k = Begins-continues k

-- a formula that only has names
pub Stands-begun : (s : Growing) (leaves : List Leaf) (w : ℕ) → IsNamed s.encoded leaves → s.leaves.keys ≡ leaves → s.codes ≡ [] → s.made ≡ [] → Stands s (record { bits = w; nodes = [] }) []
Stands-begun s leaves w h keys none nothing = record {
  means = subst (λ l. Means s.encoded l (record { bits = w; nodes = [] }) []) (sym keys) (Means-named s.encoded leaves w h);
  there = All-nil (HasBool []);
  within = subst (AreWithin s.encoded.clauses.vars) (sym h.none) (All-nil (IsWithin s.encoded.clauses.vars));
  codes = record {
    short = omega (arith, ap length none);
    fits = subst (TableFits w s.encoded.clauses.vars) (sym none) (All-nil (SlotFits w s.encoded.clauses.vars));
    values = λ v m. ShowsValues-none (record { bits = w; nodes = [] }) s.leaves.keys s.encoded.names s.codes v none;
  };
  made = subst (AreMade s.encoded.clauses) (sym nothing) (All-nil (λ e. StandsFor s.encoded.clauses e.0 e.1));
}
