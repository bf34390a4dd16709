-- Gates that are kept with their bits, as clauses grow.
use Rattle.std.proofs.Common.{◌≡◌, ℕ, ◌≤◌, Bool, List, [], ◌++◌, ap, take, drop, Option, Some, None, refl, sym, subst, arith, true, false, not, ◌∙◌, if◌then◌else◌}
use Rattle.std.specs.Map.{lookup}
use Rattle.std.specs.Option.{IfSome}
use Rattle.std.proofs.lemmas.List.{append-nil, take-append-drop}
use Rattle.std.proofs.lemmas.List.Elements.{All-weaker, All-take, All-nil}
use Rattle.sk_clause.specs.Meaning.{Meets}
use Rattle.sk_clause.specs.Problem.{Problem, IsWithin, AreWithin}
use Rattle.sk_gates.specs.declared.bit.Bit.{Bit}
use Rattle.sk_gates.specs.Bits.{bit_true, reach, differ}
use Rattle.sk_gates.specs.Extension.{Adds, Continues}
use Rattle.sk_gates.proofs.ExtensionLaws.{Continues-same, Continues-trans, Continues-refl, Continues-adds, Adds-none, Adds-weaker, Adds-then, Meets-append, Meets-left, Meets-right, Meets-nil}
use Rattle.sk_gates.specs.declared.key.Gate.{Gate}
use Rattle.sk_gates.specs.Sharing.{Stands, AreMade, Builds, gate_true}
use Rattle.sk_gates.specs.contracts.key.GatePartialEq.TheImpl as gate_eq
use Rattle.sk_gates.proofs.GateEq.{same_gate}
use Rattle.sk_gates.proofs.TableLaws.{looked_up, All-insert_entry}
use Rattle.indexmap.specs.IndexMap.{insert_entry}

pub ruleset sharing = (Continues-same, Continues-trans, Continues-refl, Continues-adds)

-- what stands still stands where there are more clauses
pub Stands-later : {a b : Problem} {gate : Gate} {bit : Bit} → Continues a b → Stands a gate bit → Stands b gate bit
Stands-later {a} k h = record {
  within = omega (arith, k.vars, h.within);
  value = λ v m. h.value v (Meets-left v a.clauses k.added (subst (Meets v) k.clauses m));
}

pub AreMade-later : {a b : Problem} (made : List (Gate × Bit)) → Continues a b → AreMade a made → AreMade b made
AreMade-later {a} {b} made k h = All-weaker (λ e. Stands a e.0 e.1) (λ e. Stands b e.0 e.1) (λ e s. Stands-later k s) made h

-- the bit of a new gate stands for it
pub Stands-made : {a b : Problem} (gate : Gate) (bit : Bit) → Adds a b (λ v. bit_true v bit ≡ gate_true v gate) → reach bit ≤ b.vars → Stands b gate bit
Stands-made {a} gate bit h within = record {
  within = within;
  value = λ v m. h.says v (Meets-right v a.clauses h.added (subst (Meets v) h.clauses m));
}

-- what is looked up stands
pub Stands-known : (problem : Problem) (made : List (Gate × Bit)) (gate : Gate) (answer : Option Bit) → AreMade problem made → answer ≡ lookup ((gate_eq.eq-value).it gate) made → IfSome answer (λ bit. Stands problem gate bit)
Stands-known problem made gate None all e = tt
Stands-known problem made gate (Some bit) all e =
    let f = looked_up (λ p. Stands problem p.0 p.1) ((gate_eq.eq-value).it gate) made bit all (sym e) in
    subst (λ g. Stands problem g bit) (sym (same_gate gate f.0 f.1)) f.2

-- and so does what is noted
pub AreMade-noted : (problem : Problem) (made : List (Gate × Bit)) (gate : Gate) (bit : Bit) → Stands problem gate bit → AreMade problem made → AreMade problem (insert_entry (gate_eq.eq-value).it made gate bit)
AreMade-noted problem made gate bit s all =
    All-insert_entry (λ p. Stands problem p.0 p.1) (gate_eq.eq-value).it gate bit s (λ g t. subst (λ h. Stands problem h bit) (same_gate gate g t) s) made all

-- ---- one addition after another, where the second may speak of clauses of the first, and both of older ones

pub Builds-none : (a : Problem) (P : (ℕ → Bool) → Type 0) → ((v : ℕ → Bool) → Meets v a.clauses → P v) → Builds a a P
Builds-none a P p = Adds-none a (λ v. Meets v a.clauses → P v) p

-- the same of what holds anyhow
pub Builds-same : (a : Problem) (P : (ℕ → Bool) → Type 0) → ((v : ℕ → Bool) → P v) → Builds a a P
Builds-same a P p = Builds-none a P (λ v m. p v)

pub Builds-adds : {a b : Problem} (P : (ℕ → Bool) → Type 0) → Adds a b P → Builds a b P
Builds-adds {a} P h = Adds-weaker P (λ v. Meets v a.clauses → P v) h (λ v p m. p)

pub Builds-weaker : {a b : Problem} (P Q : (ℕ → Bool) → Type 0) → Builds a b P → ((v : ℕ → Bool) → P v → Q v) → Builds a b Q
Builds-weaker {a} P Q h f = Adds-weaker (λ v. Meets v a.clauses → P v) (λ v. Meets v a.clauses → Q v) h (λ v p m. f v (p m))

-- an addition says of each assignment, too, that it meets what was added
with_added : {a b : Problem} {P : (ℕ → Bool) → Type 0} (h : Adds a b P) → Adds a b (λ v. P v × Meets v h.added)
with_added h = record {
  vars = h.vars;
  added = h.added;
  clauses = h.clauses;
  within = h.within;
  total = h.total;
  unique = h.unique;
  says = λ v m. (h.says v m, m);
}

pub Builds-then : {a b c : Problem} (P Q R : (ℕ → Bool) → Type 0) → Builds a b P → Builds b c Q → ((v : ℕ → Bool) → P v → Q v → R v) → Builds a c R
Builds-then {a} {b} {c} P Q R h k f =
    Adds-then (λ v. (Meets v a.clauses → P v) × Meets v h.added) (λ v. Meets v b.clauses → Q v) (λ v. Meets v a.clauses → R v) (with_added h) k
    (λ v p q m. f v (p.0 m) (q (subst (Meets v) (sym h.clauses) (Meets-append v a.clauses h.added m p.1))))

pub Builds-both : {a b c : Problem} (P Q : (ℕ → Bool) → Type 0) → Builds a b P → Builds b c Q → Builds a c (λ v. P v × Q v)
Builds-both P Q h k = Builds-then P Q (λ v. P v × Q v) h k (λ v p q. (p, q))

-- a gate that was made before
pub Builds-known : (a : Problem) (gate : Gate) (bit : Bit) → Stands a gate bit → Builds a a (λ v. bit_true v bit ≡ gate_true v gate)
Builds-known a gate bit s = Builds-none a (λ v. bit_true v bit ≡ gate_true v gate) s.value

-- ---- a gate of variables for one of literals

xor_signs : (n m a b : Bool) → differ (differ n m) (differ a b) ≡ differ (if n then not a else a) (if m then not b else b)
xor_signs true true true true = refl
xor_signs true true true false = refl
xor_signs true true false true = refl
xor_signs true true false false = refl
xor_signs true false true true = refl
xor_signs true false true false = refl
xor_signs true false false true = refl
xor_signs true false false false = refl
xor_signs false true true true = refl
xor_signs false true true false = refl
xor_signs false true false true = refl
xor_signs false true false false = refl
xor_signs false false true true = refl
xor_signs false false true false = refl
xor_signs false false false true = refl
xor_signs false false false false = refl

pub xor_of_signed : (answer flip gate of_gate n m a b : Bool) → answer ≡ differ flip gate → flip ≡ differ n m → gate ≡ of_gate → of_gate ≡ differ a b → answer ≡ differ (if n then not a else a) (if m then not b else b)
xor_of_signed answer flip gate of_gate n m a b e d h k = e ∙ rw (d, h, k) (xor_signs n m a b)

-- ---- gates that are made apart, and put behind other clauses

-- so many variables, and no clauses
abbrev pub empty : ℕ → Problem
empty vars = record { vars = vars; clauses = [] }

-- what was built where there were no clauses stands behind others
pub Adds-behind : {a m b : Problem} (P : (ℕ → Bool) → Type 0) → Builds (empty a.vars) m P → b.vars ≡ m.vars → b.clauses ≡ a.clauses ++ m.clauses → Adds a b P
Adds-behind {a} {m} {b} P h vars clauses = record {
  vars = omega (arith, h.vars, vars);
  added = h.added;
  clauses = clauses ∙ ap (λ x. a.clauses ++ x) h.clauses;
  within = subst (λ n. AreWithin n h.added) (sym vars) h.within;
  total = h.total;
  unique = λ u v below n k. record { same = λ i l. (h.unique u v below n k).same i (omega (arith, l, vars)) };
  says = λ v n. h.says v n (Meets-nil v);
}

-- and so does a part of it, with all its variables
pub Continues-behind : {a m b : Problem} (k : ℕ) → Continues (empty a.vars) m → b.vars ≡ m.vars → b.clauses ≡ a.clauses ++ take k m.clauses → Continues a b
Continues-behind {a} {m} {b} k h vars clauses = record {
  vars = omega (arith, h.vars, vars);
  added = take k m.clauses;
  clauses = clauses;
  within = subst (λ n. AreWithin n (take k m.clauses)) (sym vars) (All-take (IsWithin m.vars) k m.clauses (subst (AreWithin m.vars) (sym h.clauses) h.within));
  total = λ v. let u = h.total v in (u.0, u.1, Meets-left u.0 (take k m.clauses) (drop k m.clauses) (subst (Meets u.0) (sym h.clauses ∙ sym (take-append-drop k m.clauses)) u.2));
}

-- so many variables more, and no clauses
pub Continues-longer : {a b : Problem} (n : ℕ) → a.vars ≤ n → b ≡ record a { vars = n } → Continues a b
Continues-longer {a} {b} n h e = subst (Continues a) (sym e) (record {
  vars = h;
  added = [];
  clauses = sym (append-nil a.clauses);
  within = All-nil (IsWithin n);
  total = λ v. (v, record { same = λ i l. refl }, Meets-nil v);
})

-- the same, in the names that a call has for these clauses
pub Adds-put : {a e m n b : Problem} (P : (ℕ → Bool) → Type 0) → e ≡ empty a.vars → Builds e m P → n ≡ m → b.vars ≡ n.vars → b.clauses ≡ a.clauses ++ n.clauses → Adds a b P
Adds-put {a} {e} {m} {n} {b} P is h same vars clauses =
    Adds-behind P (subst (λ p. Builds p m P) is h) (vars ∙ ap (λ (q : Problem). q.vars) same) (clauses ∙ ap (λ (q : Problem). a.clauses ++ q.clauses) same)

pub Continues-put : {e m n : Problem} (vars : ℕ) (P : (ℕ → Bool) → Type 0) → e ≡ empty vars → Builds e m P → n ≡ m → Continues (empty vars) n
Continues-put {e} {m} {n} vars P is h same = subst (Continues (empty vars)) (sym same) (Continues-adds (subst (λ p. Builds p m P) is h))
