-- The string of a pattern that the value of a site names.
use Rattle.std.proofs.Common.{◌≡◌, ℕ, suc, ◌+◌, ◌-◌, List, [], ◌∷◌, map, Option, refl, sym, ap, subst, ◌∙◌, arith, inl, inr}
use Rattle.std.specs.Prelude.{nat_lt, not}
use Rattle.std.proofs.lemmas.Bool.{lt-ltb, le-ltb}
use Rattle.std.proofs.lemmas.Bool.Decides.{leb_tells}
use Rattle.sk_base.specs.declared.span.Span.{Span}
use Rattle.sk_dag.specs.declared.env.Env.{Env}
use Rattle.sk_dag.specs.declared.node.BoolId.{BoolId}
use Rattle.sk_dag.specs.declared.shape.Shape.{Shape}
use Rattle.sk_dag.specs.Graph.{Graph}
use Rattle.sk_dag.specs.Eval.{bool_value, Keeps}
use Rattle.sk_prog.specs.declared.ty.Ty.{Ty}
use Rattle.sk_prog.specs.declared.value.Value.{Value}
use Rattle.sk_prog.specs.declared.value.Value.TheVariants as value
use Rattle.sk_prog.specs.declared.expr.PExpr.{PExpr}
use Rattle.sk_prog.specs.declared.expr.PEForm.{PEForm}
use Rattle.sk_prog.specs.declared.expr.PEForm.TheVariants as eform
use Rattle.sk_prog.specs.declared.expr.PEForm.TheOpen as P
use Rattle.sk_model.specs.Parts.{Part, counts, pick, value as value_of}
use Rattle.sk_model.specs.Step.{State, Comp}
use Rattle.sk_model.specs.Eval.{Does, choose}
use Rattle.sk_model.specs.Open.{nothing_done, open_eform, open_field}
use Rattle.sk_model.proofs.Layers.{layer_pattern}
use Rattle.sk_sym_sites.specs.Counts.{expr_count, exprs_count}
use Rattle.sk_sym_sites.proofs.Trees.{counts_expr}
use Rattle.sk_sym_state.specs.declared.state.SymState.{SymState}
use Rattle.sk_sym_state.specs.Seen.{IsWorth}
use Rattle.sk_sym_state.specs.Shows.{Sees}
use Rattle.sk_sym_state.specs.Stands.{StateStands}
use Rattle.sk_sym_state.specs.Branching.{IsBit}
use Rattle.sk_sym_state.specs.Meaning.{IsLater, choice_at}
use Rattle.sk_sym_state.proofs.Carrying.{Moves-trans, later_keeps}
use Rattle.sk_sym_state.proofs.Ends.{moves_none, does_same}
use Rattle.sk_sym_walk.specs.declared.activation.Activation.{Activation}
use Rattle.sk_sym_walk.specs.Walk.{prog_of, values_at, calls_at, expr_part, eval_part}
use Rattle.sk_sym_walk.specs.Parts.{IsEvaluated, IsEvaluatedOn}
use Rattle.sk_sym_walk.specs.Patterns.{string_at, strings_part, string_part, pattern_part, AreExprs}
use Rattle.sk_sym_walk.proofs.Sequences.{SamePart, same_part}

module _ (a : Activation) (span : Span) (x : PExpr) where
  abbrev pub step : Env → P.PEForm-F (Option Ty → Part Does) (Part Does) (Part (ℕ × Does)) → Option Ty → Part Does
  step env = open_eform (prog_of a) a.bounds (values_at a env) (calls_at a env)

  abbrev pub field_step : Env → P.PField-F (Option Ty → Part Does) (Part Does) (Part (ℕ × Does)) → Part (ℕ × Does)
  field_step env = open_field (prog_of a) a.bounds (values_at a env) (calls_at a env)

  abbrev valued : Part Does → Part (Comp Value)
  valued p = record { count = p.count; at = λ i. (p.at i).value span }

  abbrev with_form : Env → PEForm → Part (Comp Value)
  with_form env f = eval_part a span (record { span = x.span; ty = x.ty; form = f }) env

  pub same_pattern : (ys : List PExpr) → x.form ≡ eform.Pattern ys → SamePart (pattern_part a span ys) (eval_part a span x)
  same_pattern ys is = same_part (λ env. ap (with_form env) is ∙ ap valued (layer_pattern (Option Ty → Part Does) (Part Does) (Part (ℕ × Does)) (step env) (λ e. e.form e.ty) (field_step env) x.span x.ty ys))

-- the site, and the strings behind it
pub pattern_evaluated : {a : Activation} {d0 d1 : Graph} {s0 s1 : SymState} {i j k : ℕ} {r : Shape} (span : Span) (xs : List PExpr) → j ≡ i + 1 → IsEvaluated a d0 d1 s0 s1 j k (strings_part a span i 0 xs) r → IsEvaluated a d0 d1 s0 s1 i k (pattern_part a span xs) r
pattern_evaluated {a} {i = i} {j = j} span xs next h =
    let behind : suc i ≡ j = omega (arith, next) in
    record {
      evaluates = record {
        does = does_same (λ e s.
            let whole : value_of (values_at a e) i ≡ value_of (values_at a e) i - 0 = omega arith in
            ap (λ n. string_at a span xs n (suc i) e s) whole ∙ ap (λ n. string_at a span xs (value_of (values_at a e) i - 0) n e s) behind) h.evaluates.does;
        there = h.evaluates.there;
      };
      place = record { place = λ e. omega (arith, next, h.place.place e) };
    }

-- of the strings from number k on it is the first one where the value is at most k
pub picked : {A : Type 0} (does : Does → Comp A) (span : Span) (p : Part Does) (ps : List (Part Does)) (amount k i : ℕ) (s : State) → does (pick nothing_done (p ∷ ps) (amount - k) i) s ≡ choose span (does (p.at i)) (does (pick nothing_done ps (amount - suc k) (i + p.count))) (value.Bit (not (nat_lt k amount))) s
picked does span p ps amount k i s = elim (leb_tells (suc k) amount) [
  | inl u ↦
      let more : amount - k ≡ suc (amount - suc k) = omega (arith, u.1) in
      ap (λ n. does (pick nothing_done (p ∷ ps) n i) s) more
      ∙ ap (λ b. choose span (does (p.at i)) (does (pick nothing_done ps (amount - suc k) (i + p.count))) (value.Bit (not b)) s) (sym (lt-ltb k amount (omega (arith, u.1))))
  | inr u ↦
      let none : amount - k ≡ 0 = omega (arith, u.1) in
      ap (λ n. does (pick nothing_done (p ∷ ps) n i) s) none
      ∙ ap (λ b. choose span (does (p.at i)) (does (pick nothing_done ps (amount - suc k) (i + p.count))) (value.Bit (not b)) s) (sym (le-ltb k amount (omega (arith, u.1))))
]

-- strings by a bit that says whether the value of a site is at most the number of the first
pub strings_evaluated : {a : Activation} {d0 d1 d2 : Graph} {s0 s1 : SymState} {i j : ℕ} {r : Shape} {list : List PExpr} {x : PExpr} {xs : List PExpr} (here : BoolId) (span : Span) (site k next : ℕ) → AreExprs list x xs → next ≡ k + 1 → StateStands d0 a.setting.expanded.now.prog s0 → Keeps d0 d1 → ((g : Graph) (e : Env) → IsLater a.setting d1 g e → bool_value g e here ≡ not (nat_lt k (value_of (choice_at a.setting e).values site))) → IsEvaluatedOn a d1 d2 s0 s1 i j (IsBit here) (string_part a span site next x xs) r → IsEvaluated a d0 d2 s0 s1 i j (strings_part a span site k list) r
strings_evaluated {a} {d0} {d1} {d2} {s0} {s1} {i} {j} {r} {list} {x} {xs} here span site k next front behind stands keeps known h =
    let after : next ≡ suc k = omega (arith, behind) in
    let on = subst (λ n. IsEvaluatedOn a d1 d2 s0 s1 i j (IsBit here) (string_part a span site n x xs) r) after h in
    subst (λ ys. IsEvaluated a d0 d2 s0 s1 i j (strings_part a span site k ys) r) (sym front.front) (record {
      evaluates = record {
        does = record {
          moves = Moves-trans (moves_none keeps stands) on.evaluates.does.moves;
          runs = λ g e at l shows. subst (λ t. Sees g e s1 (IsWorth g e s1.heap r) t) (sym (picked (λ d. d.value span) span (expr_part a x e) (map (λ y. expr_part a y e) xs) (value_of (values_at a e) site) k i at)) (on.evaluates.does.runs g e (value.Bit (not (nat_lt k (value_of (values_at a e) site)))) at l (ap (λ b. value.Bit b) (sym (known g e (later_keeps on.evaluates.does.moves.keeps l)))) shows);
        };
        there = on.evaluates.there;
      };
      place = record { place = λ e. omega (arith, on.place.place e) };
    })

-- ---- strings that are passed

counted : (a : Activation) (e : Env) (xs : List PExpr) → counts (map (λ x. expr_part a x e) xs) ≡ exprs_count xs
counted a e [] = refl
counted a e (x ∷ xs) =
    ap (λ n. n + counts (map (λ y. expr_part a y e) xs)) (counts_expr (prog_of a) a.bounds (values_at a e) (calls_at a e) x)
    ∙ ap (λ n. expr_count x + n) (counted a e xs)

pub strings_behind : {j : ℕ} (i : ℕ) (a : Activation) (span : Span) (site k : ℕ) (xs : List PExpr) → j ≡ i + exprs_count xs → (e : Env) → j ≡ i + (strings_part a span site k xs e).count
strings_behind i a span site k xs p e = p ∙ ap (λ n. i + n) (sym (counted a e xs))
