-- Formulas to which the demand of one more root is added.
use Rattle.std.proofs.Common.{◌≡◌, ℕ, ◌<◌, Bool, true, List, [], ◌∷◌, ◌++◌, length, map, slice_get, All, refl, sym, ap, subst, ◌∙◌, arith}
use Rattle.std.proofs.lemmas.List.Elements.{All-append, All-cons, All-push, All-weaker, All-head, All-tail, All-nil}
use Rattle.sk_clause.specs.Meaning.{Meets}
use Rattle.sk_clause.specs.Problem.{Problem, AreWithin, IsWithin}
use Rattle.sk_dag.specs.declared.env.Env.{Env}
use Rattle.sk_dag.specs.declared.node.BoolId.{BoolId}
use Rattle.sk_dag.specs.Graph.{Graph, Grows, HasBool}
use Rattle.sk_dag.specs.Eval.{bool_value}
use Rattle.sk_dag.proofs.EvalLemmas.{bool_value-grows}
use Rattle.sk_gates.specs.declared.bit.Bit.{Bit}
use Rattle.sk_gates.specs.Bits.{bit_true}
use Rattle.sk_gates.specs.Extension.{AgreeBelow, Adds, Continues}
use Rattle.sk_gates.proofs.ExtensionLaws.{Meets-append, Meets-left, Meets-right, Meets-same, AreWithin-later}
use Rattle.sk_cnf.specs.declared.leaf.Leaf.{Leaf}
use Rattle.sk_cnf.specs.declared.growing.Encoded.{Encoded}
use Rattle.sk_cnf.specs.Formula.{Extends, Tight, AreTrue, Means}
use Rattle.sk_cnf.specs.Leaves.{Says, leaf_env}
use Rattle.sk_cnf.specs.Standing.{Demands}
use Rattle.sk_cnf.proofs.LeafLaws.{Says-leaf_env}

-- values that agree on the first n variables agree on names among them
pub names-same : (n : ℕ) (u v : ℕ → Bool) (names : List ℕ) → AgreeBelow n u v → All (λ x. x < n) names → map u names ≡ map v names
names-same n u v [] h within = refl
names-same n u v (x ∷ xs) h within =
    let here = h.same x (All-head (λ y. y < n) x xs within) in
    let rest = names-same n u v xs h (All-tail (λ y. y < n) x xs within) in
    λ i. here i ∷ rest i

last-true : {X : Type 0} (P : X → Type 0) (xs : List X) (x : X) → All P (xs ++ x ∷ []) → All P xs × P x
last-true P [] x h = (All-nil P, All-head P x [] h)
last-true P (y ∷ ys) x h =
    let rest = last-true P ys x (All-tail P y (ys ++ x ∷ []) h) in
    (All-cons P y ys (All-head P y (ys ++ x ∷ []) h) rest.0, rest.1)

module _ (f f' : Encoded) (leaves : List Leaf) (g : Graph) (roots : List BoolId) (root : BoolId) (mid : Problem) (P : (ℕ → Bool) → Type 0) (bit : Bit)
    (h : Means f leaves g roots) (within : AreWithin f.clauses.vars f.clauses.clauses) (names : f'.names ≡ f.names)
    (gate : Adds f.clauses mid P) (demands : Demands mid f'.clauses bit)
    (says : (v : ℕ → Bool) → Meets v f.clauses.clauses → P v → (e : Env) → Says leaves (map v f.names) e → bit_true v bit ≡ bool_value g e root) where
  whole : f'.clauses.clauses ≡ (f.clauses.clauses ++ gate.added) ++ demands.added
  whole = demands.clauses ∙ ap (λ x. x ++ demands.added) gate.clauses

  met_front : (v : ℕ → Bool) → Meets v f'.clauses.clauses → Meets v (f.clauses.clauses ++ gate.added)
  met_front v m = Meets-left v (f.clauses.clauses ++ gate.added) demands.added (subst (Meets v) whole m)

  pub met_old : (v : ℕ → Bool) → Meets v f'.clauses.clauses → Meets v f.clauses.clauses
  met_old v m = Meets-left v f.clauses.clauses gate.added (met_front v m)

  pub met_added : (v : ℕ → Bool) → Meets v f'.clauses.clauses → Meets v gate.added
  met_added v m = Meets-right v f.clauses.clauses gate.added (met_front v m)

  met_demand : (v : ℕ → Bool) → Meets v f'.clauses.clauses → Meets v demands.added
  met_demand v m = Meets-right v (f.clauses.clauses ++ gate.added) demands.added (subst (Meets v) whole m)

  met_all : (v : ℕ → Bool) → Meets v f.clauses.clauses → Meets v gate.added → Meets v demands.added → Meets v f'.clauses.clauses
  met_all v m n k = subst (Meets v) (sym whole) (Meets-append v (f.clauses.clauses ++ gate.added) demands.added (Meets-append v f.clauses.clauses gate.added m n) k)

  root_is : (v : ℕ → Bool) → Meets v f.clauses.clauses → Meets v gate.added → (e : Env) → Says leaves (map v f.names) e → bit_true v bit ≡ bool_value g e root
  root_is v m n = says v m (gate.says v n)

  only : (bits : List Bool) (e : Env) → length bits ≡ length leaves → Says leaves bits e → Extends f' bits → AreTrue g (roots ++ root ∷ []) e
  only bits e long said x =
      let v = x.0 in
      let named : map v f.names ≡ bits = ap (map v) (sym names) ∙ x.1 in
      let before = (h.said bits e long said).0 (v, named, met_old v x.2) in
      let here = sym (root_is v (met_old v x.2) (met_added v x.2) e (subst (λ b. Says leaves b e) (sym named) said)) ∙ (demands.met v).0 (met_demand v x.2) in
      All-push (λ r. bool_value g e r ≡ true) roots root before here

  extends : (bits : List Bool) (e : Env) → length bits ≡ length leaves → Says leaves bits e → AreTrue g (roots ++ root ∷ []) e → Extends f' bits
  extends bits e long said all =
      let parts = last-true (λ r. bool_value g e r ≡ true) roots root all in
      let x = (h.said bits e long said).1 parts.0 in
      let w = gate.total x.0 in
      let v = w.0 in
      let named : map v f.names ≡ bits = sym (names-same f.clauses.vars x.0 v f.names w.1 h.encodes.within) ∙ x.1 in
      let old = Meets-same f.clauses.vars x.0 v f.clauses.clauses w.1 within x.2 in
      let here = root_is v old w.2 e (subst (λ b. Says leaves b e) (sym named) said) ∙ parts.1 in
      (v, ap (map v) names ∙ named, met_all v old w.2 ((demands.met v).1 here))

  said_more : (bits : List Bool) (e : Env) → length bits ≡ length leaves → Says leaves bits e → (Extends f' bits → AreTrue g (roots ++ root ∷ []) e) × (AreTrue g (roots ++ root ∷ []) e → Extends f' bits)
  said_more bits e long said = (only bits e long said, extends bits e long said)

  pub Tight-more : Tight f → Tight f'
  Tight-more tight u v same m n =
      let agree = tight u v (ap (map u) (sym names) ∙ same ∙ ap (map v) names) (met_old u m) (met_old v n) in
      subst (λ k. AgreeBelow k u v) (sym demands.vars) (gate.unique u v agree (met_added u m) (met_added v n))

  pub Means-more : Means f' leaves g (roots ++ root ∷ [])
  Means-more = record {
    encodes = record {
      named = ap length names ∙ h.encodes.named;
      within = subst (λ x. All (λ y. y < f'.clauses.vars) x) (sym names) (All-weaker (λ y. y < f.clauses.vars) (λ y. y < f'.clauses.vars) (λ y l. omega (arith, l, gate.vars, demands.vars)) f.names h.encodes.within);
      distinct = λ i j x p q. h.encodes.distinct i j x (ap (λ l. slice_get l i) (sym names) ∙ p) (ap (λ l. slice_get l j) (sym names) ∙ q);
      exact = λ bits long. said_more bits (leaf_env leaves bits) long (Says-leaf_env leaves bits);
    };
    said = said_more;
  }

  pub AreWithin-more : AreWithin f'.clauses.vars f'.clauses.clauses
  AreWithin-more =
      subst (AreWithin f'.clauses.vars) (sym whole)
      (All-append (IsWithin f'.clauses.vars) (f.clauses.clauses ++ gate.added) demands.added
      (All-append (IsWithin f'.clauses.vars) f.clauses.clauses gate.added
      (AreWithin-later f.clauses.vars f'.clauses.vars f.clauses.clauses (omega (arith, gate.vars, demands.vars)) within)
      (AreWithin-later mid.vars f'.clauses.vars gate.added (omega (arith, demands.vars)) gate.within))
      demands.within)

-- ---- a graph that grows

same_roots : {g g' : Graph} → Grows g g' → (roots : List BoolId) → All (HasBool g.nodes) roots → (e : Env) → (AreTrue g roots e → AreTrue g' roots e) × (AreTrue g' roots e → AreTrue g roots e)
same_roots {g} {g'} grows [] there e = (λ h. All-nil (λ r. bool_value g' e r ≡ true), λ h. All-nil (λ r. bool_value g e r ≡ true))
same_roots {g} {g'} grows (r ∷ rs) there e =
    let same : bool_value g' e r ≡ bool_value g e r = bool_value-grows grows (All-head (HasBool g.nodes) r rs there) e in
    let rest = same_roots grows rs (All-tail (HasBool g.nodes) r rs there) e in (
      λ h. All-cons (λ x. bool_value g' e x ≡ true) r rs (same ∙ All-head (λ x. bool_value g e x ≡ true) r rs h) (rest.0 (All-tail (λ x. bool_value g e x ≡ true) r rs h)),
      λ h. All-cons (λ x. bool_value g e x ≡ true) r rs (sym same ∙ All-head (λ x. bool_value g' e x ≡ true) r rs h) (rest.1 (All-tail (λ x. bool_value g' e x ≡ true) r rs h)),
    )

pub Means-grows : {f : Encoded} {leaves : List Leaf} {g g' : Graph} {roots : List BoolId} → Grows g g' → All (HasBool g.nodes) roots → Means f leaves g roots → Means f leaves g' roots
Means-grows {f} {leaves} {g} {g'} {roots} grows there h = record {
  encodes = record {
    named = h.encodes.named;
    within = h.encodes.within;
    distinct = h.encodes.distinct;
    exact = λ bits long.
        let s = same_roots grows roots there (leaf_env leaves bits) in
        let x = h.encodes.exact bits long in
        (λ e. s.0 (x.0 e), λ t. x.1 (s.1 t));
  };
  said = λ bits e long said.
      let s = same_roots grows roots there e in
      let x = h.said bits e long said in
      (λ k. s.0 (x.0 k), λ t. x.1 (s.1 t));
}

-- ---- formulas that hold more than they say

module _ (f f' : Encoded) (leaves : List Leaf) (g : Graph) (roots : List BoolId) (h : Means f leaves g roots) (within : AreWithin f.clauses.vars f.clauses.clauses) (names : f'.names ≡ f.names) (more : Continues f.clauses f'.clauses) where
  back : (bits : List Bool) → Extends f' bits → Extends f bits
  back bits e = (e.0, ap (map e.0) (sym names) ∙ e.1, Meets-left e.0 f.clauses.clauses more.added (subst (Meets e.0) more.clauses e.2))

  forth : (bits : List Bool) → Extends f bits → Extends f' bits
  forth bits e =
      let u = more.total e.0 in
      let old = Meets-same f.clauses.vars e.0 u.0 f.clauses.clauses u.1 within e.2 in (
        u.0,
        ap (map u.0) names ∙ sym (names-same f.clauses.vars e.0 u.0 f.names u.1 h.encodes.within) ∙ e.1,
        subst (Meets u.0) (sym more.clauses) (Meets-append u.0 f.clauses.clauses more.added old u.2),
      )

  -- what was added leaves the meaning of the names as it was
  pub Means-continues : Means f' leaves g roots
  Means-continues = record {
    encodes = record {
      named = ap length names ∙ h.encodes.named;
      within = subst (λ x. All (λ y. y < f'.clauses.vars) x) (sym names) (All-weaker (λ y. y < f.clauses.vars) (λ y. y < f'.clauses.vars) (λ y l. omega (arith, l, more.vars)) f.names h.encodes.within);
      distinct = λ i j x p q. h.encodes.distinct i j x (ap (λ l. slice_get l i) (sym names) ∙ p) (ap (λ l. slice_get l j) (sym names) ∙ q);
      exact = λ bits long. let x = h.encodes.exact bits long in (λ e. x.0 (back bits e), λ t. forth bits (x.1 t));
    };
    said = λ bits e long said. let x = h.said bits e long said in (λ k. x.0 (back bits k), λ t. forth bits (x.1 t));
  }

  pub AreWithin-continues : AreWithin f'.clauses.vars f'.clauses.clauses
  AreWithin-continues =
      subst (AreWithin f'.clauses.vars) (sym more.clauses)
      (All-append (IsWithin f'.clauses.vars) f.clauses.clauses more.added
      (AreWithin-later f.clauses.vars f'.clauses.vars f.clauses.clauses more.vars within)
      more.within)
