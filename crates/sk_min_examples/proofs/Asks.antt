-- The examples of queries, computed.
use Rattle.std.proofs.Common.{arith, refl, sym, ap, subst, ◌∙◌, None, Some, inl, inr, ◌<◌, ◌≤◌, All}
use Rattle.std.proofs.lemmas.Bool.{false≢true}
use Rattle.std.proofs.lemmas.List.Elements.{All-nil, All-head}
use Rattle.std.proofs.lemmas.Option.{none-some}
use Rattle.std.specs.Prelude.{ℕ, zero, suc, List, [], ◌∷◌, map, length, slice_get, slice_index_or, ◌≡◌, ◌↔◌, ◌||◌, Bool, true, false, Contains}
use Rattle.sk_clause.specs.declared.lit.Lit.{Lit}
use Rattle.sk_clause.specs.Meaning.{Meets, clause_true}
use Rattle.sk_gates.specs.Extension.{AgreeBelow}
use Rattle.sk_gates.specs.Words.{number}
use Rattle.sk_model.specs.declared.expanded.Choice.{Choice}
use Rattle.sk_model.specs.declared.expanded.Input.{Input}
use Rattle.sk_model.specs.Fill.{fill}
use Rattle.sk_model.specs.Meets.{Breaks, cost_on}
use Rattle.sk_model.specs.RunningExamples.{int}
use Rattle.sk_prog.specs.declared.expr.PEForm.TheVariants as eform
use Rattle.sk_cnf.specs.declared.growing.Encoded.{Encoded}
use Rattle.sk_cnf.specs.Formula.{Extends, Tight}
use Rattle.sk_oblig_queries.specs.declared.query.Query.TheVariants as query
use Rattle.sk_oblig_queries.specs.Numbers.{bits_of_size}
use Rattle.sk_oblig_queries.specs.Said.{choice_said}
use Rattle.sk_oblig_queries.specs.Queries.{IsBad, IsWanted, bits_of_query, input_of_query, Holds, AsksFor}
use Rattle.sk_min_examples.specs.Programs.{bounds, only, choice, input, on, none, costly, free}
use Rattle.sk_min_examples.specs.Asked.{WidthExamples, LeafExamples, SaidExamples, BadExamples, WantedExamples, HoldExamples, ClauseExamples, formula, is_set, its_query}
use Rattle.sk_min_examples.proofs.Lists.{one_holds}
use Rattle.sk_min_examples.proofs.Runs.{on_0, on_1, below, no_second}
use Rattle.sk_min_examples.proofs.Costs.{F, cost, breaks_00, breaks_11, breaks_free, holds_01, holds_10, holds_20, holds_21, holds_free, holds_31, cost_00, cost_10, cost_20, cost_21, fits, wanted_0, wanted_both, unbroken_first, unbroken_second, within_second}

-- Bits

pub widths : WidthExamples
unfolding bits_of_size
widths = record { one_value = refl; two_values = refl; four_values = refl; five_values = refl; of_all = refl; in_all = refl; of_first = refl; of_second = refl; of_none = refl; of_sites = refl }

pub leaves : LeafExamples
unfolding bits_of_size
leaves = record { of_sites = refl; of_all = refl; of_second = refl }

pub said : SaidExamples
unfolding bits_of_size number
said = record { first = refl; second = refl; alone = refl; chosen = refl }

-- Inputs that speak against a choice

pub bad : BadExamples
bad = record {
  breaks = record { is_input = on_1 _; bad = inl breaks_11 };
  costs_more = record { is_input = on_1 _; bad = inr (omega (arith, cost_21)) };
  costs_as_much = λ b. elim b.bad [ inl x ↦ holds_21 x | inr over ↦ omega (arith, over, cost_21) ];
  unlimited = λ b. elim b.bad [ inl x ↦ holds_31 x | inr over ↦ over ];
  fails = record { is_input = on_1 _; bad = inl breaks_11 };
  no_input = λ b. (let less = below (int (eform.Hole None)) 2 b.is_input in omega (arith, less));
}

-- Choices that pass listed inputs

pub wanted : WantedExamples
wanted = record {
  within = wanted_both 2 3 (omega arith) holds_20 holds_21 (omega (arith, cost_20)) (omega (arith, cost_21));
  over = λ w. (let low = within_second 2 1 0 [] 2 w in omega (arith, low, cost_21));
  within_on_one = wanted_0 2 2 (omega arith) holds_20 (omega (arith, cost_20));
  fails_elsewhere = wanted_0 1 1 (omega arith) holds_10 (omega (arith, cost_10));
  fails = λ w. unbroken_first 0 0 _ _ w breaks_00;
  none_listed = record { range = fits 0 (omega arith); passes = record { unbroken = All-nil (λ i. Breaks (F 0) bounds i → ⊥); within = All-nil (λ i. cost_on (F 0) bounds i ≤ 0) } };
  no_value = λ w. omega (arith, w.range.fits.0);
  no_choice = λ w. w.range.fits;
}

-- What bits say

set_says : input_of_query costly bounds (query.Bad (only 1) None) 0 (true ∷ []) ≡ on 1
unfolding number
set_says = refl

unset_says : input_of_query costly bounds (query.Bad (only 1) None) 0 (false ∷ []) ≡ on 0
unfolding number
unset_says = refl

set_says_alone : input_of_query costly bounds (query.BadAt (only 1) 0 0) 0 (true ∷ []) ≡ on 1
unfolding number
set_says_alone = refl

says_two : choice_said costly.sites (false ∷ true ∷ []) ≡ only 2
unfolding bits_of_size number
says_two = refl

says_one : choice_said costly.sites (true ∷ false ∷ []) ≡ only 1
unfolding bits_of_size number
says_one = refl

good_at : (o : ℕ) → IsBad costly bounds (only 1) None (input_of_query costly bounds (query.Bad (only 1) None) o (false ∷ [])) → ⊥
good_at zero b =
    let here = subst (IsBad costly bounds (only 1) None) unset_says b in
    elim here.bad [ inl x ↦ holds_10 x | inr over ↦ over ]
good_at (suc o) b = no_second (int (eform.Hole None)) o _ b.is_input

no_obligation_holds : (bits : List Bool) → Holds costly bounds (query.BadAt (only 1) 1 0) bits → ⊥
no_obligation_holds bits b = no_second (int (eform.Hole None)) 0 _ b.is_input

pub holding : HoldExamples
holding = record {
  bad = (0, subst (IsBad costly bounds (only 1) None) (sym set_says) bad.breaks);
  good = λ h. good_at h.0 h.1;
  bad_at = subst (IsBad costly bounds (only 1) (Some 0)) (sym set_says_alone) (record { is_input = on_1 _; bad = inl breaks_11 });
  no_obligation = no_obligation_holds;
  wanted = subst (IsWanted costly bounds (on 0 ∷ on 1 ∷ []) (Some 3)) (sym says_two) wanted.within;
  unwanted = λ w. unbroken_second 1 1 0 _ _ (subst (IsWanted costly bounds (on 0 ∷ on 1 ∷ []) (Some 3)) says_one w) breaks_11;
}

-- Clauses

free_bits : bits_of_query free bounds its_query ≡ 1
unfolding bits_of_size
free_bits = refl

says_set : choice_said free.sites (true ∷ []) ≡ only 1
unfolding bits_of_size number
says_set = refl

says_unset : choice_said free.sites (false ∷ []) ≡ only 0
unfolding bits_of_size number
says_unset = refl

set_is_wanted : IsWanted free bounds (none ∷ []) None (choice_said free.sites (true ∷ []))
set_is_wanted = subst (IsWanted free bounds (none ∷ []) None) (sym says_set) (record { range = record { fits = (omega arith, tt) }; passes = record { unbroken = one_holds (λ i. Breaks (fill free (only 1)) bounds i → ⊥) none holds_free; within = tt } })

unset_is_not : IsWanted free bounds (none ∷ []) None (choice_said free.sites (false ∷ [])) → ⊥
unset_is_not w =
    let here = subst (IsWanted free bounds (none ∷ []) None) says_unset w in
    All-head (λ i. Breaks (fill free (only 0)) bounds i → ⊥) none [] here.passes.unbroken breaks_free

or_false : (b : Bool) → b || false ≡ true → b ≡ true
or_false true e = refl
or_false false e = e

-- the clause is met exactly where its variable is set
is_met : (v : ℕ → Bool) → Meets v (is_set ∷ []) → v 0 ≡ true
is_met v m = or_false (v 0) (m is_set (0, omega arith, refl))

met_where_set : (v : ℕ → Bool) → v 0 ≡ true → Meets v (is_set ∷ [])
met_where_set v e c (zero, less, is) = subst (λ d. clause_true v d ≡ true) is (ap (λ b. b || false) e)
met_where_set v e c (suc k, less, is) = absurd (omega (arith, less))

named_first : (v : ℕ → Bool) (b : Bool) → map v (0 ∷ []) ≡ b ∷ [] → v 0 ≡ b
named_first v b e = ap (λ bs. slice_index_or bs 0 (v 0)) e

exact_for : (vars : ℕ) (bits : List Bool) → length bits ≡ 1 → Extends (formula vars (is_set ∷ []) (0 ∷ [])) bits ↔ Holds free bounds its_query bits
exact_for vars [] e = absurd (omega (arith, e))
exact_for vars (true ∷ []) e = (λ x. set_is_wanted, λ w. ((λ n. true), refl, met_where_set (λ n. true) refl))
exact_for vars (false ∷ []) e = (λ x. absurd (false≢true (sym (named_first x.0 false x.1) ∙ is_met x.0 x.2)), λ w. absurd (unset_is_not w))
exact_for vars (b ∷ c ∷ bs) e = absurd (omega (arith, e))

one_name : (i j x : ℕ) → slice_get (0 ∷ []) i ≡ Some x → slice_get (0 ∷ []) j ≡ Some x → i ≡ j
one_name zero zero x a b = refl
one_name zero (suc j) x a b = absurd (none-some x b)
one_name (suc i) j x a b = absurd (none-some x a)

asks_for : (vars : ℕ) → 0 < vars → AsksFor (formula vars (is_set ∷ []) (0 ∷ [])) free bounds its_query
asks_for vars some = record {
  named = sym free_bits;
  within = one_holds (λ x. x < vars) 0 some;
  distinct = one_name;
  exact = λ bits long. exact_for vars bits (long ∙ free_bits);
}

first_agrees : (u v : ℕ → Bool) → map u (0 ∷ []) ≡ map v (0 ∷ []) → (i : ℕ) → i < 1 → u i ≡ v i
first_agrees u v e zero less = named_first u (v 0) e
first_agrees u v e (suc i) less = absurd (omega (arith, less))

-- the first variable alone
abbrev first_alone : ℕ → Bool
first_alone zero = true
first_alone (suc n) = false

nothing_met : (v : ℕ → Bool) → Meets v []
nothing_met v c (k, less, is) = absurd (omega (arith, less))

no_name_twice : (i j x : ℕ) → slice_get [] i ≡ Some x → slice_get [] j ≡ Some x → i ≡ j
no_name_twice i j x a b = absurd (none-some x a)

never_met : (v : ℕ → Bool) → Meets v ([] ∷ []) → ⊥
never_met v m = false≢true (m [] (0, omega arith, refl))

pub clauses : ClauseExamples
clauses = record {
  asks = asks_for 1 (omega arith);
  tight = λ u v e m n. record { same = first_agrees u v e };
  no_clause = λ a. unset_is_not ((a.exact (false ∷ []) (sym free_bits)).0 ((λ n. false), refl, nothing_met (λ n. false)));
  no_name = λ a. (let named : 0 ≡ 1 = a.named ∙ free_bits in omega (arith, named));
  no_variable = λ a. (let less : 0 < 0 = All-head (λ x. x < 0) 0 [] a.within in omega (arith, less));
  loose = asks_for 2 (omega arith);
  not_tight = λ t. (let apart = t (λ n. true) first_alone refl (met_where_set (λ n. true) refl) (met_where_set first_alone refl) in false≢true (sym (apart.same 1 (omega arith))));
  no_obligation = record {
    named = refl;
    within = All-nil (λ x. x < 0);
    distinct = no_name_twice;
    exact = λ bits long. (λ x. absurd (never_met x.0 x.2), λ h. absurd (no_obligation_holds bits h));
  };
}
