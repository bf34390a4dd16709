-- What is paid, payment by payment.
use Rattle.std.proofs.Common.{◌≡◌, ℕ, ◌+◌, ◌<◌, ◌≤◌, ◌^◌, ◌-◌, Bool, true, false, List, [], ◌∷◌, ◌++◌, map, length, take, get_or, pos, refl, sym, ap, subst, ◌∙◌, arith, if◌then◌else◌}
use Rattle.std.specs.Prelude.{min, Some}
use Rattle.std.specs.Option.{option_copied}
use Rattle.std.proofs.lemmas.List.{take_more}
use Rattle.sk_base.specs.declared.bounds.Bounds.{Bounds}
use Rattle.sk_base.specs.Word.{wrapped}
use Rattle.sk_dag.specs.declared.env.Env.{Env}
use Rattle.sk_dag.specs.declared.node.WordId.{WordId}
use Rattle.sk_dag.specs.Graph.{Graph, Grows}
use Rattle.sk_dag.specs.Eval.{bool_value, word_value, Keeps}
use Rattle.sk_prog.specs.declared.ty.Elem.TheVariants as elem
use Rattle.sk_prog.specs.declared.ty.Ty.TheVariants as ty
use Rattle.sk_prog.specs.declared.value.Value.TheVariants as value
use Rattle.sk_prog.specs.declared.expr.PEForm.TheVariants as eform
use Rattle.sk_prog.specs.declared.prog.Prog.{Prog}
use Rattle.sk_prog.specs.declared.prog.FunKind.{FunKind}
use Rattle.sk_prog.specs.declared.prog.FunKind.TheVariants as kind
use Rattle.sk_model.specs.Parts.{value as value_at}
use Rattle.sk_model.specs.Step.{State, Step, Goes, Fails, Skips, Comp, and_then, pure}
use Rattle.sk_model.specs.Eval.{Calls}
use Rattle.sk_model.specs.Exec.{Flow, Onward, Returns, unless_returned, one_by_one, pay, minimize, exec_stmt}
use Rattle.sk_model.specs.Stands.{Payment as Amount}
use Rattle.sk_model.specs.Fill.{minimize_of, before_body}
use Rattle.sk_model.proofs.Forms.{exec_minimize, does_number}
use Rattle.sk_sym_choices.specs.declared.payment.Payment.{Payment}
use Rattle.sk_sym_choices.specs.Payments.{amounts, ArePayments}
use Rattle.sk_sym_state.specs.declared.setting.Setting.{Setting}
use Rattle.sk_sym_state.specs.declared.state.SymState.{SymState}
use Rattle.sk_sym_state.specs.Stands.{StateStands}
use Rattle.sk_sym_state.specs.Shows.{Shows, SeesFlow}
use Rattle.sk_sym_state.specs.Meaning.{IsLater, Executes, ExecutesOn, choice_at}
use Rattle.sk_sym_state.proofs.Carrying.{failed_over, skipped_over, returned_over, later_keeps, Moves-trans}
use Rattle.sk_sym_state.proofs.Ends.{moves_none}
use Rattle.sk_arr.proofs.Makers.{Keeps-refl}
use Rattle.sk_dag.proofs.EvalLemmas.{Grows-refl}
use Rattle.sk_sym_walk.proofs.Costs.{cost_small}
use Rattle.sk_sym.specs.Paying.{pays, AreAmounts, program_pays, first_paid}

-- ---- statements one after another

one_only : (t : Step Flow) → and_then t (unless_returned (pure Onward)) ≡ t
one_only (Goes Onward s) = refl
one_only (Goes (Returns v) s) = refl
one_only (Fails span) = refl
one_only (Skips span) = refl

two_after : (t : Step Flow) (m n k : Comp Flow) → ((s : State) → k s ≡ and_then (m s) (unless_returned n)) → and_then t (unless_returned k) ≡ and_then (and_then t (unless_returned m)) (unless_returned n)
two_after (Goes Onward s) m n k is = is s
two_after (Goes (Returns v) s) m n k is = refl
two_after (Fails span) m n k is = refl
two_after (Skips span) m n k is = refl

pub all_append : (ms ns : List (Comp Flow)) (s : State) → one_by_one (ms ++ ns) s ≡ and_then (one_by_one ms s) (unless_returned (one_by_one ns))
all_append [] ns s = refl
all_append (m ∷ ms) ns s = two_after (m s) (one_by_one ms) (one_by_one ns) (one_by_one (ms ++ ns)) (all_append ms ns)

-- ---- what a written `minimize` does

module _ (prog : Prog) (bounds : Bounds) (call : Calls) where
  minimize_pays : (p : Amount) (s : State) → exec_stmt prog bounds call (minimize_of p) s ≡ pay p.span (value.Int (wrapped bounds.int_bits (pos p.amount))) s
  minimize_pays p s =
      exec_minimize prog bounds call p.span (record { span = p.span; ty = Some (ty.One elem.Int); form = eform.Number p.amount }) s
      ∙ ap (λ d. minimize p.span d s) (does_number prog bounds.int_bits call p.span (Some (ty.One elem.Int)) p.amount)

  pub minimizes_pay : (ps : List Amount) (s : State) → one_by_one (map (exec_stmt prog bounds call) (map minimize_of ps)) s ≡ pays bounds.int_bits ps s
  minimizes_pay [] s = refl
  minimizes_pay (p ∷ ps) s =
      ap (λ t. and_then t (unless_returned (one_by_one (map (exec_stmt prog bounds call) (map minimize_of ps))))) (minimize_pays p s)
      ∙ ap (λ m. and_then (pay p.span (value.Int (wrapped bounds.int_bits (pos p.amount))) s) (unless_returned m)) (λ i t. minimizes_pay ps t i)

  -- what stands before a body
  pub before_pays : (k : FunKind) (ps : List Amount) (s : State) → one_by_one (map (exec_stmt prog bounds call) (before_body k (map minimize_of ps))) s ≡ pays bounds.int_bits (first_paid k ps) s
  before_pays kind.Harness ps s = minimizes_pay ps s
  before_pays kind.Plain ps s = refl
  before_pays kind.Generator ps s = refl

-- ---- payments one after another

amounts_append : (g : Graph) (e : Env) (values : List ℕ) (ps qs : List Payment) → amounts g e values (ps ++ qs) ≡ amounts g e values ps ++ amounts g e values qs
amounts_append g e values [] qs = refl
amounts_append g e values (p ∷ ps) qs = by (bool_value g e p.when) (amounts_append g e values ps qs)
  where
    one : Amount
    one = record { span = p.span; amount = value_at values p.site }

    by : (b : Bool) → amounts g e values (ps ++ qs) ≡ amounts g e values ps ++ amounts g e values qs → (if b then one ∷ amounts g e values (ps ++ qs) else amounts g e values (ps ++ qs)) ≡ (if b then one ∷ amounts g e values ps else amounts g e values ps) ++ amounts g e values qs
    by true is = ap (λ l. one ∷ l) is
    by false is = is

pays_append : (width : ℕ) (before after : List Amount) (s : State) → pays width (before ++ after) s ≡ and_then (pays width before s) (unless_returned (pays width after))
pays_append width [] after s = refl
pays_append width (a ∷ before) after s = two_after (pay a.span (value.Int (wrapped width (pos a.amount))) s) (pays width before) (pays width after) (pays width (before ++ after)) (pays_append width before after)

pub pays_none : {x : Setting} {d : Graph} {s : SymState} (width : ℕ) → StateStands d x.expanded.now.prog s → ExecutesOn x d d s s (AreAmounts x []) (λ e. pays width)
pays_none {x} {d} {s} width h = record {
  moves = moves_none (Keeps-refl d) h;
  runs = λ g e a at l given shows. subst (λ paid. SeesFlow g e x.fun.now s (pays width paid at)) (sym given) shows;
}

module _ {x : Setting} {d0 d1 d2 : Graph} {s0 s1 s2 : SymState} (width : ℕ) (ps qs : List Payment) (first : ExecutesOn x d0 d1 s0 s1 (AreAmounts x ps) (λ e. pays width)) (second : ExecutesOn x d1 d2 s1 s2 (AreAmounts x qs) (λ e. pays width)) where
  behind : (g : Graph) (e : Env) → IsLater x d2 g e → (paid : List Amount) → AreAmounts x qs g e paid → (t : Step Flow) → SeesFlow g e x.fun.now s1 t → SeesFlow g e x.fun.now s2 (and_then t (unless_returned (pays width paid)))
  behind g e l paid given (Goes Onward at) h = second.runs g e paid at l given h
  behind g e l paid given (Goes (Returns v) at) h = let k = second.moves.stays g e l h.path in returned_over k.rest k.path h
  behind g e l paid given (Fails span) h = let k = second.moves.stays g e l h.path in failed_over k.rest k.path h
  behind g e l paid given (Skips span) h = let k = second.moves.stays g e l h.path in skipped_over k.rest k.path h

  both : (g : Graph) (e : Env) (before after : List Amount) (at : State) → IsLater x d2 g e → AreAmounts x ps g e before → AreAmounts x qs g e after → Shows g e s0 at → SeesFlow g e x.fun.now s2 (pays width (before ++ after) at)
  both g e before after at l one two shows = subst (SeesFlow g e x.fun.now s2) (sym (pays_append width before after at)) (behind g e l after two (pays width before at) (first.runs g e before at (later_keeps second.moves.keeps l) one shows))

  pub pays_then : ExecutesOn x d0 d2 s0 s2 (AreAmounts x (ps ++ qs)) (λ e. pays width)
  pays_then = record {
    moves = Moves-trans first.moves second.moves;
    runs = λ g e a at l given shows.
        let values = (choice_at x e).values in
        subst (λ paid. SeesFlow g e x.fun.now s2 (pays width paid at)) (sym (given ∙ amounts_append g e values ps qs))
        (both g e (amounts g e values ps) (amounts g e values qs) at l refl refl shows);
  }

-- ---- one payment

nothing_more : (c : ℕ) → c ≤ 2 ^ 64 - 1 → min (c + 0) (2 ^ 64 - 1) ≡ c
nothing_more c h = omega (arith, h)

abbrev one_at : Setting → Payment → Env → Amount
one_at x p e = record { span = p.span; amount = value_at (choice_at x e).values p.site }

module _ {x : Setting} {d0 d1 d2 : Graph} {s0 s1 : SymState} (p : Payment) (amount : WordId) (h : StateStands d0 x.expanded.now.prog s0) (k : Keeps d0 d1)
    (is : (g : Graph) → Grows d1 g → (e : Env) → word_value g e amount ≡ (if bool_value g e p.when then wrapped d0.bits (pos (value_at (choice_at x e).values p.site)) else pos 0))
    (f : ExecutesOn x d1 d2 s0 s1 (λ g e v. v ≡ value.Int (word_value g e amount)) (λ e. pay p.span)) where
  paid_at : (g : Graph) (e : Env) (at : State) → IsLater x d2 g e → Shows g e s0 at → (b : Bool) → bool_value g e p.when ≡ b → SeesFlow g e x.fun.now s1 (pays d0.bits (if b then one_at x p e ∷ [] else []) at)
  paid_at g e at l shows true holds =
      let word = is g (later_keeps f.moves.keeps l).grows e ∙ ap (λ b. if b then wrapped d0.bits (pos (value_at (choice_at x e).values p.site)) else pos 0) holds in
      subst (SeesFlow g e x.fun.now s1) (sym (one_only (pay p.span (value.Int (wrapped d0.bits (pos (value_at (choice_at x e).values p.site)))) at)))
      (subst (λ z. SeesFlow g e x.fun.now s1 (pay p.span (value.Int z) at)) word (f.runs g e (value.Int (word_value g e amount)) at l refl shows))
  paid_at g e at l shows false off =
      let word = is g (later_keeps f.moves.keeps l).grows e ∙ ap (λ b. if b then wrapped d0.bits (pos (value_at (choice_at x e).values p.site)) else pos 0) off in
      let small : at.cost ≤ 2 ^ 64 - 1 = subst (λ c. c ≤ 2 ^ 64 - 1) shows.cost (cost_small g e s0.cost) in
      let same : pay p.span (value.Int (pos 0)) at ≡ Goes Onward at = ap (λ c. Goes Onward (record at { cost = c })) (nothing_more at.cost small) in
      subst (SeesFlow g e x.fun.now s1) same (subst (λ z. SeesFlow g e x.fun.now s1 (pay p.span (value.Int z) at)) word (f.runs g e (value.Int (word_value g e amount)) at l refl shows))

  pub pays_one : ExecutesOn x d0 d2 s0 s1 (AreAmounts x (p ∷ [])) (λ e. pays d0.bits)
  pays_one = record {
    moves = Moves-trans (moves_none k h) f.moves;
    runs = λ g e a at l given shows. subst (λ paid. SeesFlow g e x.fun.now s1 (pays d0.bits paid at)) (sym given) (paid_at g e at l shows (bool_value g e p.when) refl);
  }

-- the payments up to one more
pub pays_more : {x : Setting} {d0 d1 d2 : Graph} {s0 s1 s2 : SymState} (width : ℕ) (list : List Payment) (i : ℕ) (other : Payment) → i < length list → ExecutesOn x d0 d1 s0 s1 (AreAmounts x (take i list)) (λ e. pays width) → ExecutesOn x d1 d2 s1 s2 (AreAmounts x (get_or list i other ∷ [])) (λ e. pays width)
    → ExecutesOn x d0 d2 s0 s2 (AreAmounts x (take (i + 1) list)) (λ e. pays width)
pays_more {x} {d0} {d2 = d2} {s0} {s2 = s2} width list i other l first second =
    subst (λ ps. ExecutesOn x d0 d2 s0 s2 (AreAmounts x ps) (λ e. pays width)) (sym (take_more list i other l)) (pays_then width (take i list) (get_or list i other ∷ []) first second)

-- the payments of a program
pub pays_program : {x : Setting} {d0 d1 d2 : Graph} {s0 s1 : SymState} {owed : List Payment} (width : ℕ) → StateStands d0 x.expanded.now.prog s0 → Keeps d0 d1 → ArePayments d1 x.expanded.now (option_copied x.choice) owed → ExecutesOn x d1 d2 s0 s1 (AreAmounts x owed) (λ e. pays width)
    → Executes x d0 d2 s0 s1 (λ e. pays width (program_pays x e))
pays_program {x} width h k are on = record {
  moves = Moves-trans (moves_none k h) on.moves;
  runs = λ g e at l shows. on.runs g e (program_pays x e) at l (sym (are.value g (later_keeps on.moves.keeps l).grows e l.range)) shows;
}

-- in a graph to which this one grows words are as wide
pub as_wide : {a b : Graph} → Keeps a b → b.bits ≡ a.bits
as_wide {a} {b} k = (k.later b (Grows-refl b)).bits
