-- Clauses that deny bits, one literal after another.
use Rattle.std.proofs.Common.{◌≡◌, ℕ, ◌+◌, ◌<◌, ◌≤◌, Bool, true, false, List, [], ◌∷◌, ◌++◌, map, length, get_or, drop, refl, sym, ap, subst, ◌∙◌, append_assoc, arith, length-append, Option}
use Rattle.std.specs.Prelude.{All, slice_index_or}
use Rattle.std.specs.List.{sum, range_with_len}
use Rattle.std.proofs.lemmas.List.{drop_more, drop_all, append-nil}
use Rattle.std.proofs.lemmas.List.Elements.{All-nil, All-cons, All-head, All-tail, All-append}
use Rattle.std.proofs.lemmas.List.FromFn.{length-map-range_with_len}
use Rattle.sk_clause.specs.declared.lit.Lit.{Lit}
use Rattle.sk_clause.specs.Problem.{IsWithin}
use Rattle.sk_cnf.specs.declared.growing.Encoded.{Encoded}
use Rattle.sk_cnf.specs.declared.leaf.Leaf.{Leaf}
use Rattle.sk_cnf.specs.declared.leaf.Leaf.TheVariants as leaf
use Rattle.sk_base.specs.declared.bounds.Bounds.{Bounds}
use Rattle.sk_model.specs.declared.expanded.Expanded.{Expanded}
use Rattle.sk_model.specs.declared.expanded.Input.{Input}
use Rattle.sk_model.specs.Parts.{value}
use Rattle.sk_oblig_queries.specs.declared.query.Query.TheVariants as query
use Rattle.sk_oblig_queries.specs.Queries.{leaves_of_query}
use Rattle.sk_oblig_queries.specs.Numbers.{leaves_from}
use Rattle.sk_oblig_queries.specs.Widths.{sites_widths}
use Rattle.sk_oblig_queries.proofs.Order.{sum_more}
use Rattle.sk_all_exclusions.specs.declared.listed.Listed.{Listed}
use Rattle.sk_all_exclusions.specs.Exclusions.{HasNames, IsListed, all_denied, bit_at, denial, denied, exclusion, site_leaves}

-- one more bit
pub denied_next : (marks : List Bool) (values names : List ℕ) (leaves : List Leaf) (j n : ℕ) (l : Leaf) (made longer whole : List Lit)
    → j < length names → length leaves ≡ length names
    → n ≡ get_or names j n → l ≡ get_or leaves j l
    → longer ≡ made ++ denied marks values n l
    → made ++ all_denied marks values (drop j names) (drop j leaves) ≡ whole
    → longer ++ all_denied marks values (drop (j + 1) names) (drop (j + 1) leaves) ≡ whole
denied_next marks values names leaves j n l made longer whole below many at_n at_l more h =
    let one : List Lit = denied marks values n l in
    let rest : List Lit = all_denied marks values (drop (j + 1) names) (drop (j + 1) leaves) in
    let ns : drop j names ≡ n ∷ drop (j + 1) names = drop_more names j n below ∙ ap (λ x. x ∷ drop (j + 1) names) (sym at_n) in
    let ls : drop j leaves ≡ l ∷ drop (j + 1) leaves = drop_more leaves j l (omega (arith, below, many)) ∙ ap (λ x. x ∷ drop (j + 1) leaves) (sym at_l) in
    let split : all_denied marks values (drop j names) (drop j leaves) ≡ one ++ rest = λ i. all_denied marks values (ns i) (ls i) in
    ap (λ c. c ++ rest) more
    ∙ append_assoc made one rest
    ∙ ap (λ c. made ++ c) (sym split)
    ∙ h

pub denied_all : (marks : List Bool) (values names : List ℕ) (leaves : List Leaf) (j : ℕ) (made whole : List Lit) → length names ≤ j → made ++ all_denied marks values (drop j names) (drop j leaves) ≡ whole → made ≡ whole
denied_all marks values names leaves j made whole end h =
    sym (append-nil made) ∙ ap (λ ns. made ++ all_denied marks values ns (drop j leaves)) (sym (drop_all j names end)) ∙ h

pub ruleset denies = (denied_next, denied_all)

denial_within : (vars : ℕ) (m : Bool) (n : ℕ) (b : Bool) → n < vars → IsWithin vars (denial m n b)
denial_within vars true n b h = All-cons (λ (l : Lit). l.var < vars) (record { var = n; neg = b }) [] h (All-nil (λ (l : Lit). l.var < vars))
denial_within vars false n b h = All-nil (λ (l : Lit). l.var < vars)

denied_within : (vars : ℕ) (marks : List Bool) (values : List ℕ) (n : ℕ) (l : Leaf) → n < vars → IsWithin vars (denied marks values n l)
denied_within vars marks values n (leaf.Hole site k) h = denial_within vars (slice_index_or marks site false) n (bit_at (value values site) k) h
denied_within vars marks values n (leaf.Input scalar k) h = All-nil (λ (l : Lit). l.var < vars)

pub all_within : (vars : ℕ) (marks : List Bool) (values names : List ℕ) (leaves : List Leaf) → All (λ x. x < vars) names → IsWithin vars (all_denied marks values names leaves)
all_within vars marks values [] leaves h = All-nil (λ (l : Lit). l.var < vars)
all_within vars marks values (n ∷ ns) [] h = All-nil (λ (l : Lit). l.var < vars)
all_within vars marks values (n ∷ ns) (l ∷ ls) h =
    All-append (λ (x : Lit). x.var < vars) (denied marks values n l) (all_denied marks values ns ls)
    (denied_within vars marks values n l (All-head (λ x. x < vars) n ns h))
    (all_within vars marks values ns ls (All-tail (λ x. x < vars) n ns h))

leaves_length : (n : ℕ) (ws : List ℕ) → length (leaves_from leaf.Hole n ws) ≡ sum ws
leaves_length n [] = refl
leaves_length n (w ∷ ws) =
    length-append (map (leaf.Hole n) (range_with_len 0 w)) (leaves_from leaf.Hole (n + 1) ws)
    ∙ ap (λ k. k + length (leaves_from leaf.Hole (n + 1) ws)) (length-map-range_with_len (leaf.Hole n) 0 w)
    ∙ ap (λ k. w + k) (leaves_length (n + 1) ws)
    ∙ sym (sum_more w ws)

-- there are as many leaves as names
pub many : (e : Expanded) (f : Encoded) (leaves : List Leaf) → HasNames f e → leaves ≡ site_leaves e → length leaves ≡ length f.names
many e f leaves has is = ap length is ∙ leaves_length 0 (sites_widths e.sites) ∙ sym has.named

-- the clause that is made is over the variables of the formula
pub within : (e : Expanded) (f : Encoded) (marks : List Bool) (values : List ℕ) (leaves : List Leaf) (clause : List Lit) → HasNames f e → clause ≡ all_denied marks values f.names leaves → IsWithin f.clauses.vars clause
within e f marks values leaves clause has is = subst (IsWithin f.clauses.vars) (sym is) (all_within f.clauses.vars marks values f.names leaves has.within)

-- and excludes the choice
pub is_exclusion : (e : Expanded) (names : List ℕ) (l : Listed) (leaves : List Leaf) (clause : List Lit) → IsListed e l → leaves ≡ site_leaves e → clause ≡ all_denied l.marks l.choice.values names leaves → clause ≡ exclusion e names l.choice
is_exclusion e names l leaves clause listed is made = made ∙ (λ j. all_denied (listed.marked j) l.choice.values names (is j))

-- the leaves of a query for a choice are those of the bits of all sites
pub wanted_leaves : (e : Expanded) (bounds : Bounds) (inputs : List Input) (limit : Option ℕ) → leaves_of_query e bounds (query.Wanted inputs limit) ≡ site_leaves e
wanted_leaves e bounds inputs limit = refl

pub ruleset excludes = (many, within, is_exclusion)

pub ruleset leaves = (wanted_leaves)
