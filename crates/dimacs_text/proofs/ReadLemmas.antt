-- Headers and whole formulas.
use Rattle.std.proofs.Common.{◌≡◌, ◌≢◌, ℕ, zero, suc, ◌+◌, ◌<◌, ◌≤◌, ◌++◌, List, [], ◌∷◌, length, get_or, take, drop, map, refl, sym, ◌∙◌, ap, arith, subst}
use Rattle.std.specs.Prelude.{All, Some, None, codes}
use Rattle.std.specs.Borrow.{Bor}
use Rattle.std.specs.Str.Lines.{lines}
use Rattle.std.proofs.lemmas.List.{take-append-drop, length-append, length-map, take_at, get_or_at, drop_more, take_more, take_all}
use Rattle.std.proofs.lemmas.List.Elements.{All-head, All-tail, All-more, All-nil, All-get_or}
use Rattle.sk_clause.specs.declared.lit.Lit.{Lit}
use Rattle.sk_clause.specs.Problem.{Problem, IsWithin, AreWithin}
use Rattle.dimacs_text.specs.Formula.{Text, said, Counts, AreHeader, AreRows, AreFormula, IsFormula, IsLog}
use Rattle.dimacs_text.proofs.RowsLemmas.{rows_same, text_at, lt_texts}

counts_same : (w : Text) (n m : ℕ) → Counts w n → Counts w m → n ≡ m
counts_same w n m a b = a.value ∙ sym b.value

header_same : (ws : List Text) (v n w m : ℕ) → AreHeader ws v n → AreHeader ws w m → (v ≡ w) × (n ≡ m)
header_same ws v n w m a b = (counts_same (get_or ws 2 []) v w a.vars_are b.vars_are, counts_same (get_or ws 3 []) n m a.count_is b.count_is)

header_says : (ws : List Text) (v n : ℕ) → AreHeader ws v n → ws ≡ [] → ⊥
header_says ws v n h e = omega (arith, h.four, ap length e)

pub length_texts : (words : List (Bor Text)) → length (map (λ x. x.now) words) ≡ length words
length_texts words = length-map words (λ x. x.now)

-- the first line that says something is where the header is
first_said : (text : List Text) (i : ℕ) → i < length text → All (λ line. said line ≡ []) (take i text) → (said (get_or text i []) ≡ [] → ⊥)
    → (front : List Text) (head : Text) (rows : List Text) → text ≡ front ++ head ∷ rows → All (λ line. said line ≡ []) front → (said head ≡ [] → ⊥)
    → (head ≡ get_or text i []) × (rows ≡ drop (i + 1) text)
first_said [] i l silent says front head rows e quiet speaks = absurd (omega arith)
first_said (x ∷ xs) zero l silent says [] head rows e quiet speaks =
    let a : head ≡ x = cc in
    let b : rows ≡ xs = cc in
    let one : 0 + 1 ≡ 1 = omega arith in
    (a, b)
first_said (x ∷ xs) zero l silent says (f ∷ front) head rows e quiet speaks =
    let a : f ≡ x = cc in
    absurd (says (ap said (sym a) ∙ All-head (λ line. said line ≡ []) f front quiet))
first_said (x ∷ xs) (suc i) l silent says [] head rows e quiet speaks =
    let a : head ≡ x = cc in
    absurd (speaks (ap said a ∙ All-head (λ line. said line ≡ []) x (take i xs) silent))
first_said (x ∷ xs) (suc i) l silent says (f ∷ front) head rows e quiet speaks =
    let b : xs ≡ front ++ head ∷ rows = cc in
    let r = first_said xs i (omega arith) (All-tail (λ line. said line ≡ []) x (take i xs) silent) says front head rows b (All-tail (λ line. said line ≡ []) f front quiet) speaks in
    let n : suc i + 1 ≡ suc (i + 1) = omega arith in
    (r.0, r.1 ∙ ap (λ k. drop k (x ∷ xs)) (sym n))

-- where a header stands at i, a formula is one of its rows
formula_at : (text : List Text) (i : ℕ) (ws : List Text) → i < length text → All (λ line. said line ≡ []) (take i text) → said (get_or text i []) ≡ ws → (ws ≡ [] → ⊥)
    → (p : Problem) → AreFormula text p → AreHeader ws p.vars (length p.clauses) × AreRows (Some p.vars) (drop (i + 1) text) p.clauses
formula_at text i ws l silent at says p f =
    let r = first_said text i l silent (λ e. says (sym at ∙ e)) f.front f.head f.rows f.parts f.silent (header_says (said f.head) p.vars (length p.clauses) f.header) in
    (subst (λ x. AreHeader x p.vars (length p.clauses)) (ap said r.0 ∙ at) f.header, subst (λ x. AreRows (Some p.vars) x p.clauses) r.1 f.clauses)

-- the first words are no header
pub no_header : (text : List Text) (i : ℕ) (ws : List Text) → i < length text → All (λ line. said line ≡ []) (take i text) → said (get_or text i []) ≡ ws → (ws ≡ [] → ⊥)
    → ((v n : ℕ) → AreHeader ws v n → ⊥) → (p : Problem) → AreFormula text p → ⊥
no_header text i ws l silent at says deny p f = deny p.vars (length p.clauses) (formula_at text i ws l silent at says p f).0

-- no line says anything
pub no_words : (text : List Text) → All (λ line. said line ≡ []) text → (p : Problem) → AreFormula text p → ⊥
no_words text silent p f = header_says (said f.head) p.vars (length p.clauses) f.header
    (Rattle.std.proofs.lemmas.List.Elements.All-contains (λ line. said line ≡ []) text f.head silent (subst (λ t. Rattle.std.specs.Prelude.Contains t f.head) (sym f.parts) (Rattle.std.proofs.lemmas.List.Elements.Contains-append_right f.front (f.head ∷ f.rows) f.head (0, omega arith, refl))))

-- the same of lines as they are read
pub silent_step : (lines : List (Bor Text)) (i : ℕ) (d : Bor Text) → i < length lines → All (λ line. said line ≡ []) (take i (map (λ x. x.now) lines)) → said (get_or lines i d).now ≡ []
    → All (λ line. said line ≡ []) (take (i + 1) (map (λ x. x.now) lines))
silent_step lines i d l silent here =
    All-more (λ line. said line ≡ []) (map (λ x. x.now) lines) i [] (lt_texts lines i l) silent (subst (λ t. said t ≡ []) (text_at lines i d l) here)

pub other_line : (lines : List (Bor Text)) (i : ℕ) (d : Bor Text) → i < length lines → All (λ line. said line ≡ []) (take i (map (λ x. x.now) lines))
    → (said (get_or lines i d).now ≡ [] → ⊥) × ((v n : ℕ) → AreHeader (said (get_or lines i d).now) v n → ⊥)
    → (p : Problem) → AreFormula (map (λ x. x.now) lines) p → ⊥
other_line lines i d l silent deny p f =
    let xs : List Text = map (λ x. x.now) lines in
    let h = subst (λ t. (said t ≡ [] → ⊥) × ((v n : ℕ) → AreHeader (said t) v n → ⊥)) (text_at lines i d l) deny in
    no_header xs i (said (get_or xs i [])) (lt_texts lines i l) silent refl h.0 h.1 p f

pub all_silent : (lines : List (Bor Text)) (i : ℕ) → length lines ≤ i → All (λ line. said line ≡ []) (take i (map (λ x. x.now) lines)) → (p : Problem) → AreFormula (map (λ x. x.now) lines) p → ⊥
all_silent lines i l silent p f =
    let xs : List Text = map (λ x. x.now) lines in
    let n : length xs ≤ i = subst (λ k. k ≤ i) (sym (length-map lines (λ x. x.now))) l in
    no_words xs (subst (All (λ line. said line ≡ [])) (take_all i xs n) silent) p f

-- the rows are none, or not as many as the header says
pub no_rows : (text : List Text) (i v n : ℕ) → i < length text → All (λ line. said line ≡ []) (take i text) → AreHeader (said (get_or text i [])) v n
    → ((cs : List (List Lit)) → AreRows (Some v) (drop (i + 1) text) cs → length cs ≡ n → ⊥) → (p : Problem) → AreFormula text p → ⊥
no_rows text i v n l silent h deny p f =
    let r = formula_at text i (said (get_or text i [])) l silent refl (header_says (said (get_or text i [])) v n h) p f in
    let s = header_same (said (get_or text i [])) p.vars (length p.clauses) v n r.0 h in
    deny p.clauses (subst (λ k. AreRows (Some k) (drop (i + 1) text) p.clauses) s.0 r.1) s.1

pub no_count : (text : List Text) (i v n : ℕ) (cs : List (List Lit)) → i < length text → All (λ line. said line ≡ []) (take i text) → AreHeader (said (get_or text i [])) v n
    → AreRows (Some v) (drop (i + 1) text) cs → length cs ≢ n → (p : Problem) → AreFormula text p → ⊥
no_count text i v n cs l silent h rows deny p f =
    no_rows text i v n l silent h (λ ds r e. deny (ap length (rows_same (Some v) (drop (i + 1) text) cs ds rows r) ∙ e)) p f

pub formula_is : (text : List Text) (i v : ℕ) (cs : List (List Lit)) → i < length text → All (λ line. said line ≡ []) (take i text) → AreHeader (said (get_or text i [])) v (length cs)
    → AreRows (Some v) (drop (i + 1) text) cs → AreFormula text (record { vars = v; clauses = cs })
formula_is text i v cs l silent h rows = record {
  front = take i text;
  head = get_or text i [];
  rows = drop (i + 1) text;
  parts = sym (take-append-drop i text) ∙ ap (λ x. take i text ++ x) (drop_more text i [] l);
  silent = silent;
  header = h;
  clauses = rows;
}

-- a formula stands at the first line that says something
same_by : (text : List Text) (p q : Problem) → AreFormula text p → AreFormula text q → (p.vars ≡ q.vars) × (p.clauses ≡ q.clauses)
same_by text p q f g =
    let i : ℕ = length f.front in
    let l : i < length text = omega (arith, ap length f.parts, length-append f.front (f.head ∷ f.rows)) in
    let front : take i text ≡ f.front = ap (take i) f.parts ∙ take_at f.front (f.head ∷ f.rows) i refl in
    let head : get_or text i [] ≡ f.head = ap (λ t. get_or t i []) f.parts ∙ get_or_at f.front f.head f.rows [] i refl in
    let silent : All (λ line. said line ≡ []) (take i text) = subst (All (λ line. said line ≡ [])) (sym front) f.silent in
    let says = header_says (said f.head) p.vars (length p.clauses) f.header in
    let a = formula_at text i (said f.head) l silent (ap said head) says p f in
    let b = formula_at text i (said f.head) l silent (ap said head) says q g in
    let s = header_same (said f.head) p.vars (length p.clauses) q.vars (length q.clauses) a.0 b.0 in
    (s.0, rows_same (Some q.vars) (drop (i + 1) text) p.clauses q.clauses (subst (λ v. AreRows (Some v) (drop (i + 1) text) p.clauses) s.0 a.1) b.1)

abbrev problem_with : ℕ → List (List Lit) → Problem
problem_with v cs = record { vars = v; clauses = cs }

pub formulas_same : (text : List ℕ) (p q : Problem) → IsFormula text p → IsFormula text q → p ≡ q
formulas_same text p q f g =
    let s = same_by (lines text) p q f g in
    ap (λ v. problem_with v p.clauses) s.0 ∙ ap (λ cs. problem_with q.vars cs) s.1

pub logs_same : (text : List ℕ) (a b : List (List Lit)) → IsLog text a → IsLog text b → a ≡ b
logs_same text a b f g = rows_same None (lines text) a b f g

pub ruleset laws = (formulas_same, logs_same)

pub within_at : (n : ℕ) (cs : List (List Lit)) (i : ℕ) → i < length cs → AreWithin n cs → IsWithin n (get_or cs i [])
within_at n cs i l h = All-get_or (IsWithin n) cs i [] l h

pub ruleset problems = (within_at, take_more, take_all)

pub ruleset headers = (length_texts, text_at)

pub ruleset fronts = (no_header, no_words)

pub ruleset formulas = (formula_is, no_count, no_rows)
