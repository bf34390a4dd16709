-- A run under a choice in range is a run of the filling.
use Rattle.std.proofs.Common.{◌≡◌, ◌<◌, ℕ, zero, suc, ◌+◌, Bool, true, false, List, [], ◌∷◌, map, length, Some, refl, ap, ◌∙◌, arith}
use Rattle.std.specs.Prelude.{slice_get}
use Rattle.sk_base.specs.declared.bounds.Bounds.{Bounds}
use Rattle.sk_prog.specs.declared.ids.FunId.{FunId}
use Rattle.sk_prog.specs.declared.value.Value.{Value}
use Rattle.sk_prog.specs.declared.stmt.PStmt.{PStmt}
use Rattle.sk_prog.specs.declared.prog.Fun.{Fun}
use Rattle.sk_prog.specs.declared.prog.Prog.{Prog}
use Rattle.sk_model.specs.declared.expanded.Choice.{Choice}
use Rattle.sk_model.specs.declared.expanded.Expanded.{Expanded}
use Rattle.sk_model.specs.Stands.{standing, all_paid}
use Rattle.sk_model.specs.Fill.{minimize_of, stmts_count, fill_funs, fill}
use Rattle.sk_model.specs.Expand.{expand}
use Rattle.sk_model.specs.Run.{run}
use Rattle.sk_model.specs.Open.{run_open}
use Rattle.sk_holes_laws.proofs.Ranks.{ordinary_stand}
use Rattle.sk_expand_laws.proofs.Whole.{expansions_are}
use Rattle.sk_holes_choice_laws.proofs.Keeping.{marks_of, is_standing, new_number, keep_funs, kept_filling}
use Rattle.sk_holes_choice_laws.specs.Running.{IsChosen, filled_function, RunsUnderChoices, OrdinaryRunsUnderChoices}
use Rattle.sk_holes_choice_laws.proofs.Funs.{runs_are_kept}
use Rattle.sk_holes_choice_laws.proofs.Twins.{TwinAt, Twins, twins_run}
use Rattle.sk_holes_choice_laws.proofs.Ready.{are_ready}

twin_at : (values : List ℕ) (number : ℕ → ℕ) (paid : List PStmt) (bs : List Bool) (fs : List Fun) (i n : ℕ) → TwinAt (slice_get (keep_funs values number paid bs fs i) n) (slice_get (fill_funs values number paid bs fs i) n)
twin_at values number paid [] fs i n = tt
twin_at values number paid (true ∷ bs) [] i n = tt
twin_at values number paid (false ∷ bs) [] i n = tt
twin_at values number paid (true ∷ bs) (f ∷ fs) i zero = record { params = refl; result = refl; body = refl }
twin_at values number paid (true ∷ bs) (f ∷ fs) i (suc n) = twin_at values number paid bs fs (i + stmts_count values number f.body) n
twin_at values number paid (false ∷ bs) (f ∷ fs) i n = twin_at values number paid bs fs (i + stmts_count values number f.body) n

twins : (e : Expanded) (a : Choice) → Twins (kept_filling e a) (fill e a)
unfolding fill
twins e a = record { structs = refl; consts = refl; funs = λ n. twin_at a.values (new_number e a.values) (map minimize_of (all_paid (standing e a.values))) (marks_of e a.values) e.prog.funs 0 n }

kept_runs : (bounds : Bounds) (prog : Prog) (choice : Choice) (f : FunId) (args : List Value) → IsChosen bounds prog choice → is_standing (expand prog bounds) choice.values f.index ≡ true
    → run_open (expand prog bounds) choice f args bounds ≡ run (fill (expand prog bounds) choice) (filled_function (expand prog bounds) choice f) args bounds
kept_runs bounds prog choice f args h stands =
    let e : Expanded = expand prog bounds in
    runs_are_kept bounds e choice (are_ready bounds e choice (expansions_are bounds prog h.typed h.fits h.small) h.range) f args stands
    ∙ twins_run (kept_filling e choice) (fill e choice) (twins e choice) (filled_function e choice f) args bounds

pub runs_under_choices : RunsUnderChoices
runs_under_choices bounds prog choice f args h stands = kept_runs bounds prog choice f args h stands.stands

pub some_at : (fs : List Fun) (n : ℕ) → n < length fs → (f : Fun) × (slice_get fs n ≡ Some f)
some_at [] n h = absurd (omega (arith, h))
some_at (f ∷ fs) zero h = (f, refl)
some_at (f ∷ fs) (suc n) h = some_at fs n (omega (arith, h))

pub ordinary_runs : OrdinaryRunsUnderChoices
ordinary_runs bounds prog choice f args h less there =
    let e : Expanded = expand prog bounds in
    let g = some_at e.prog.funs f.index there in
    let o = ordinary_stand choice.values e.ordinary e.prog.funs [] 0 0 f.index g.0 g.1 (omega (arith, less)) in
    kept_runs bounds prog choice f args h o.0 ∙ ap (λ n. run (fill e choice) (record { index = n }) args bounds) o.1
