-- Formulas that grow.
use Rattle.std.proofs.Common.{◌≡◌, ℕ, zero, suc, ◌+◌, ◌<◌, ◌≤◌, Bool, true, false, not, ◌||◌, ◌&&◌, List, [], ◌∷◌, ◌++◌, Option, Some, None, length, map, slice_get, get_or, take, All, refl, sym, ap, subst, ◌∙◌, arith, ⊎_elim, inl, inr, true≢false, if◌then◌else◌}
use Rattle.std.specs.List.{range_with_len}
use Rattle.std.proofs.lemmas.List.{append-nil, length_push}
use Rattle.std.proofs.lemmas.List.FromFn.{length-range_with_len}
use Rattle.std.proofs.lemmas.List.Elements.{All-nil, All-cons, Contains-push_cases}
use Rattle.std.proofs.lemmas.Option.{none-some, same_Some, slice_get_within, slice_get-get_or}
use Rattle.sk_clause.specs.declared.lit.Lit.{Lit}
use Rattle.sk_clause.specs.Meaning.{Meets, lit_true, clause_true}
use Rattle.sk_clause.specs.Problem.{Problem, IsWithin}
use Rattle.sk_dag.specs.Graph.{Graph, Grows}
use Rattle.sk_dag.specs.Eval.{bool_value}
use Rattle.sk_dag.proofs.EvalLemmas.{value_at-grows}
use Rattle.sk_gates.specs.declared.bit.Bit.{Bit}
use Rattle.sk_gates.specs.declared.bit.Bit.TheVariants.{Constant, Literal}
use Rattle.sk_gates.specs.Bits.{bit_true}
use Rattle.sk_gates.proofs.ExtensionLaws.{Meets-nil}
use Rattle.sk_cnf.specs.declared.leaf.Leaf.{Leaf}
use Rattle.sk_cnf.specs.declared.code.Code.{Code}
use Rattle.sk_cnf.specs.declared.growing.Encoded.{Encoded}
use Rattle.sk_cnf.specs.Codes.{code_value, ShowsValues}
use Rattle.sk_cnf.specs.Formula.{Extends, Means, Tight}
use Rattle.sk_cnf.specs.Leaves.{leaf_env}
use Rattle.sk_cnf.specs.Standing.{Demands, IsNamed}

-- ---- names

range_push : (a n j : ℕ) → a + n ≡ j → range_with_len a (n + 1) ≡ range_with_len a n ++ j ∷ []
range_push a n j e = let more : n + 1 ≡ suc n = omega arith in ap (range_with_len a) more ∙ by a n j e
  where
    by : (b m k : ℕ) → b + m ≡ k → range_with_len b (suc m) ≡ range_with_len b m ++ k ∷ []
    by b zero k e = let same : b ≡ k = omega (arith, e) in ap (λ x. x ∷ []) same
    by b (suc m) k e = ap (λ l. b ∷ l) (by (b + 1) m k (omega (arith, e)))

pub IsNamed-none : (f : Encoded) → f.clauses.vars ≡ 0 → f.clauses.clauses ≡ [] → f.names ≡ [] → IsNamed f []
IsNamed-none f vars none names = record { names = names; vars = vars; none = none }

pub IsNamed-push : (f f' : Encoded) (leaves : List Leaf) (leaf : Leaf) (var : ℕ) → IsNamed f leaves → var ≡ f.clauses.vars → f'.clauses ≡ record f.clauses { vars = f.clauses.vars + 1 } → f'.names ≡ f.names ++ var ∷ [] → IsNamed f' (leaves ++ leaf ∷ [])
IsNamed-push f f' leaves leaf var h at clauses names = record {
  names =
      names ∙ (λ i. h.names i ++ (at ∙ h.vars) i ∷ []) ∙ sym (range_push 0 (length leaves) (length leaves) (omega arith))
      ∙ ap (range_with_len 0) (sym (length_push leaves leaf));
  vars = ap (λ (p : Problem). p.vars) clauses ∙ ap (λ n. n + 1) h.vars ∙ sym (length_push leaves leaf);
  none = ap (λ (p : Problem). p.clauses) clauses ∙ h.none;
}

all_range : (P : ℕ → Type 0) (a n : ℕ) → ((x : ℕ) → a ≤ x → x < a + n → P x) → All P (range_with_len a n)
all_range P a zero h = All-nil P
all_range P a (suc n) h =
    All-cons P a (range_with_len (a + 1) n) (h a (omega arith) (omega arith)) (all_range P (a + 1) n (λ x l m. h x (omega (arith, l)) (omega (arith, m))))

get_range : (a n i x : ℕ) → slice_get (range_with_len a n) i ≡ Some x → x ≡ a + i
get_range a zero i x h = absurd (none-some x h)
get_range a (suc n) zero x h = sym (same_Some a x h) ∙ omega arith
get_range a (suc n) (suc i) x h = get_range (a + 1) n i x h ∙ omega arith

agree_range : (u v : ℕ → Bool) (a n : ℕ) → map u (range_with_len a n) ≡ map v (range_with_len a n) → (i : ℕ) → a ≤ i → i < a + n → u i ≡ v i
agree_range u v a zero h i low high = absurd (omega (arith, low, high))
agree_range u v a (suc n) h i low high =
    ⊎_elim
    (λ (k : i < a + 1). let e : a ≡ i = omega (arith, k, low) in subst (λ x. u x ≡ v x) e (ap (λ l. get_or l 0 false) h))
    (λ (k : a + 1 ≤ i). agree_range u v (a + 1) n (ap (Rattle.std.proofs.Common.drop 1) h) i k (omega (arith, high)))
    (Rattle.std.proofs.lemmas.Bool.cases_lt i (a + 1))

pub read_range : (bits : List Bool) → map (λ i. get_or bits i false) (range_with_len 0 (length bits)) ≡ bits
read_range bits = by bits 0 (λ i. get_or bits i false) (λ i. let e : 0 + i ≡ i = omega arith in ap (λ k. get_or bits k false) e)
  where
    by : (xs : List Bool) (a : ℕ) (f : ℕ → Bool) → ((i : ℕ) → f (a + i) ≡ get_or xs i false) → map f (range_with_len a (length xs)) ≡ xs
    by [] a f h = refl
    by (x ∷ xs) a f h =
        let z : a + 0 ≡ a = omega arith in
        let here : f a ≡ x = ap f (sym z) ∙ h 0 in
        let rest : map f (range_with_len (a + 1) (length xs)) ≡ xs = by xs (a + 1) f (λ i. let e : (a + 1) + i ≡ a + suc i = omega arith in ap f e ∙ h (suc i)) in
        λ i. here i ∷ rest i

pub Means-named : (f : Encoded) (leaves : List Leaf) (w : ℕ) → IsNamed f leaves → Means f leaves (record { bits = w; nodes = [] }) []
Means-named f leaves w h = record {
  encodes = record {
    named = ap length h.names ∙ length-range_with_len 0 (length leaves);
    within = subst (All (λ x. x < f.clauses.vars)) (sym h.names) (all_range (λ x. x < f.clauses.vars) 0 (length leaves) (λ x l m. omega (arith, m, h.vars)));
    distinct = λ i j x p q.
        let a = get_range 0 (length leaves) i x (ap (λ l. slice_get l i) (sym h.names) ∙ p) in
        let b = get_range 0 (length leaves) j x (ap (λ l. slice_get l j) (sym h.names) ∙ q) in
        omega (arith, a, b);
    exact = λ bits long. (λ x. All-nil (λ r. bool_value (record { bits = w; nodes = [] }) (leaf_env leaves bits) r ≡ true), λ t. extends bits long);
  };
  said = λ bits e long said. (λ x. All-nil (λ r. bool_value (record { bits = w; nodes = [] }) e r ≡ true), λ t. extends bits long);
}
  where
    extends : (bits : List Bool) → length bits ≡ length leaves → Extends f bits
    extends bits long =
        let v : ℕ → Bool = λ i. get_or bits i false in
        (v, ap (map v) h.names ∙ ap (λ n. map v (range_with_len 0 n)) (sym long) ∙ read_range bits, subst (Meets v) (sym h.none) (Meets-nil v))

pub Tight-named : (f : Encoded) (leaves : List Leaf) → IsNamed f leaves → Tight f
Tight-named f leaves h u v same m n = record {
  same = λ i l. agree_range u v 0 (length leaves) (ap (map u) (sym h.names) ∙ same ∙ ap (map v) h.names) i (omega arith) (omega (arith, l, h.vars));
}

pub ShowsValues-none : (g : Graph) (leaves : List Leaf) (names : List ℕ) (codes : List (Option Code)) (v : ℕ → Bool) → codes ≡ [] → ShowsValues g leaves names codes v
ShowsValues-none g leaves names codes v e = record { each = λ i code there. absurd (none-some (Some code) (ap (λ l. slice_get l i) (sym e) ∙ there)) }

-- ---- demands

one_clause : (v : ℕ → Bool) (c : List Lit) → (Meets v (c ∷ []) → clause_true v c ≡ true) × (clause_true v c ≡ true → Meets v (c ∷ []))
one_clause v c = (λ m. m c (0, omega arith, refl), λ e d there. ⊎_elim (λ none. absurd (omega (arith, none.1))) (λ same. subst (λ x. clause_true v x ≡ true) same e) (Contains-push_cases [] c d there))

or_false : (b : Bool) → (b || false) ≡ b
or_false true = refl
or_false false = refl

pub Demands-nothing : (p : Problem) (bit : Bit) (known : Bool) → bit ≡ Constant known → known ≡ true → Demands p p bit
Demands-nothing p bit known e is = record {
  vars = refl;
  added = [];
  clauses = sym (append-nil p.clauses);
  within = All-nil (IsWithin p.vars);
  met = λ v. (λ m. ap (bit_true v) e ∙ is, λ t. Meets-nil v);
}

pub Demands-never : (old new : Problem) (bit : Bit) (known : Bool) (c : List Lit) → bit ≡ Constant known → known ≡ false → c ≡ [] → new ≡ record old { clauses = old.clauses ++ c ∷ [] } → Demands old new bit
Demands-never old new bit known c e is none made = record {
  vars = ap (λ (p : Problem). p.vars) made;
  added = c ∷ [];
  clauses = ap (λ (p : Problem). p.clauses) made;
  within = All-cons (IsWithin new.vars) c [] (subst (IsWithin new.vars) (sym none) (All-nil (λ l. l.var < new.vars))) (All-nil (IsWithin new.vars));
  met = λ v. (λ m. absurd (true≢false (sym ((one_clause v c).0 m) ∙ ap (clause_true v) none)), λ t. absurd (true≢false (sym t ∙ ap (bit_true v) e ∙ is)));
}

pub Demands-literal : (old new : Problem) (bit : Bit) (lit : Lit) (c : List Lit) → bit ≡ Literal lit → lit.var < old.vars → c ≡ lit ∷ [] → new ≡ record old { clauses = old.clauses ++ c ∷ [] } → Demands old new bit
Demands-literal old new bit lit c e h is made = record {
  vars = vars;
  added = c ∷ [];
  clauses = ap (λ (p : Problem). p.clauses) made;
  within = All-cons (IsWithin new.vars) c [] (subst (IsWithin new.vars) (sym is) (All-cons (λ l. l.var < new.vars) lit [] (omega (arith, h, vars)) (All-nil (λ l. l.var < new.vars)))) (All-nil (IsWithin new.vars));
  met = λ v. (
    λ m. ap (bit_true v) e ∙ sym (or_false (lit_true v lit)) ∙ sym (ap (clause_true v) is) ∙ (one_clause v c).0 m,
    λ t. (one_clause v c).1 (ap (clause_true v) is ∙ or_false (lit_true v lit) ∙ sym (ap (bit_true v) e) ∙ t),
  );
}
  where
    vars : new.vars ≡ old.vars
    vars = ap (λ (p : Problem). p.vars) made

-- ---- a graph that grows

pub ShowsValues-grows : {g g' : Graph} (leaves : List Leaf) (names : List ℕ) (old new : List (Option Code)) (v : ℕ → Bool) → Grows g g' → length old ≤ length g.nodes
    → ((i : ℕ) (code : Code) → slice_get new i ≡ Some (Some code) → slice_get old i ≡ Some (Some code))
    → ShowsValues g leaves names old v → ShowsValues g' leaves names new v
ShowsValues-grows {g} {g'} leaves names old new v grows short same h = record {
  each = λ i code there e said.
      let before = same i code there in
      let within : i < length g.nodes = omega (arith, short, slice_get_within old i (Some code) before) in
      let found = slice_get-get_or g.nodes i (Rattle.sk_dag.specs.declared.node.Node.TheVariants.Flag true) within in
      ap (λ w. code_value w v code) grows.bits ∙ h.each i code before e said ∙ sym (value_at-grows grows (record { node = get_or g.nodes i (Rattle.sk_dag.specs.declared.node.Node.TheVariants.Flag true); found = found; sort = refl }) e);
}
