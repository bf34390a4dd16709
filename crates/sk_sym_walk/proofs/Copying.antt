-- Final values of `ref` parameters go back to the arguments.
use Rattle.std.proofs.Common.{◌≡◌, ℕ, ◌+◌, List, [], ◌∷◌, map, Bool, true, false, refl, sym, ap, subst, ◌∙◌}
use Rattle.std.specs.Prelude.{⊤, if◌then◌else◌}
use Rattle.std.proofs.lemmas.List.Elements.{All-head, All-tail}
use Rattle.sk_base.specs.declared.span.Span.{Span}
use Rattle.sk_dag.specs.declared.env.Env.{Env}
use Rattle.sk_dag.specs.declared.shape.Shape.{Shape}
use Rattle.sk_dag.specs.Graph.{Graph}
use Rattle.sk_dag.specs.EvalShape.{shape_value}
use Rattle.sk_arr.specs.Shapes.{Stands, AllStand}
use Rattle.sk_arr.specs.Answers.{shapes_value}
use Rattle.sk_arr.proofs.Makers.{Keeps-refl}
use Rattle.sk_prog.specs.declared.value.Value.{Value}
use Rattle.sk_prog.specs.declared.expr.PExpr.{PExpr}
use Rattle.sk_prog.specs.declared.prog.ParamDef.{ParamDef}
use Rattle.sk_model.specs.Parts.{in_turn}
use Rattle.sk_model.specs.Step.{State, Step, Goes, Fails, Skips, Comp, and_then, ◌>>=◌, pure}
use Rattle.sk_model.specs.Heap.{store}
use Rattle.sk_model.specs.Eval.{Does, ref_args, copy_back}
use Rattle.sk_heap_laws.specs.Values.{holds_in, value_in, values_in, IsLive}
use Rattle.sk_sym_sites.specs.Counts.{expr_count}
use Rattle.sk_sym_state.specs.declared.state.SymState.{SymState}
use Rattle.sk_sym_state.specs.Seen.{AreWorth}
use Rattle.sk_sym_state.specs.Stands.{StateStands}
use Rattle.sk_sym_state.specs.Shows.{Sees}
use Rattle.sk_sym_state.specs.Meaning.{IsLater}
use Rattle.sk_sym_state.proofs.Worth.{AreWorth-grown}
use Rattle.sk_sym_state.proofs.Carrying.{later_keeps, failed_over, skipped_over, Moves-trans, shown_grows}
use Rattle.sk_sym_state.proofs.Ends.{moves_none}
use Rattle.sk_sym_walk.specs.declared.activation.Activation.{Activation}
use Rattle.sk_sym_walk.specs.Walk.{expr_part}
use Rattle.sk_sym_walk.specs.Targets.{target_part}
use Rattle.sk_sym_walk.specs.Calls.{copied_at, copied_first, AreCopiedBack, IsCopiedBack, AreParams, AreShapes}
use Rattle.sk_sym_walk.specs.Patterns.{AreExprs}
use Rattle.sk_sym_walk.proofs.Places.{expr_behind}

-- ---- lists of shapes

pub first_stands : {d : Graph} {list more : List Shape} {first : Shape} → AreShapes list first more → AllStand d list → Stands d first
first_stands {d} {list} {more} {first} is h = All-head (Stands d) first more (subst (AllStand d) is.front h).each

pub more_stand : {d : Graph} {list more : List Shape} {first : Shape} → AreShapes list first more → AllStand d list → AllStand d more
more_stand {d} {list} {more} {first} is h = record { each = All-tail (Stands d) first more (subst (AllStand d) is.front h).each }

-- ---- nothing goes back

same_back : {a : Activation} {d0 d1 : Graph} {s0 s1 : SymState} {list : List Shape} {m n : Env → List Value → Comp (Unit {0})} → ((e : Env) (vs : List Value) (at : State) → n e vs at ≡ m e vs at) → AreCopiedBack a d0 d1 s0 s1 list m → AreCopiedBack a d0 d1 s0 s1 list n
same_back {s1 = s1} same h = record {
  does = record {
    moves = h.does.moves;
    runs = λ g e vs at l w shows. subst (Sees g e s1 (λ (u : Unit {0}). ⊤)) (sym (same e vs at)) (h.does.runs g e vs at l w shows);
  };
}

nothing_back : {a : Activation} {d : Graph} {s : SymState} {list : List Shape} → StateStands d a.setting.expanded.now.prog s → AreCopiedBack a d d s s list (λ e vs. pure tt)
nothing_back {d = d} h = record { does = record { moves = moves_none (Keeps-refl d) h; runs = λ g e vs at l w shows. record { shows = shows; is = tt } } }

no_args : (ps : List ParamDef) → ref_args ps [] ≡ []
no_args [] = refl
no_args (p ∷ ps) = refl

no_values : (span : Span) (args : List Does) (at : State) → copy_back span args [] at ≡ Goes tt at
no_values span [] at = refl
no_values span (x ∷ args) at = refl

pub back_no_params : {a : Activation} {d : Graph} {s : SymState} {list : List Shape} {ps : List ParamDef} (span : Span) (xs : List PExpr) (i : ℕ) → StateStands d a.setting.expanded.now.prog s → ps ≡ [] → AreCopiedBack a d d s s list (copied_at a span ps xs i)
back_no_params {a} span xs i h none = same_back (λ e vs at. ap (λ ps. copied_at a span ps xs i e vs at) none) (nothing_back h)

pub back_no_args : {a : Activation} {d : Graph} {s : SymState} {list : List Shape} {xs : List PExpr} (span : Span) (ps : List ParamDef) (i : ℕ) → StateStands d a.setting.expanded.now.prog s → xs ≡ [] → AreCopiedBack a d d s s list (copied_at a span ps xs i)
back_no_args {a} span ps i h none = same_back (λ e vs at. ap (λ xs. copied_at a span ps xs i e vs at) none ∙ ap (λ args. copy_back span args vs at) (no_args ps)) (nothing_back h)

pub back_no_values : {a : Activation} {d : Graph} {s : SymState} {list : List Shape} (span : Span) (by_ref : Bool) (x : PExpr) (ps : List ParamDef) (xs : List PExpr) (i : ℕ) → StateStands d a.setting.expanded.now.prog s → list ≡ [] → AreCopiedBack a d d s s list (copied_first a span by_ref x ps xs i)
back_no_values {a} {d} {s} {list} span by_ref x ps xs i h none = record {
  does = record {
    moves = moves_none (Keeps-refl d) h;
    runs = λ g e vs at l w shows.
        let no : vs ≡ [] = sym w.value ∙ ap (values_in g e s.heap) none in
        subst (Sees g e s (λ (u : Unit {0}). ⊤)) (sym (ap (λ vs. copied_first a span by_ref x ps xs i e vs at) no ∙ no_values span (if by_ref then (expr_part a x e).at i ∷ ref_args ps (in_turn (map (λ x. expr_part a x e) xs) (i + (expr_part a x e).count)) else ref_args ps (in_turn (map (λ x. expr_part a x e) xs) (i + (expr_part a x e).count))) at)) (record { shows = shows; is = tt });
  };
}

-- ---- one argument, and those behind it

pub back_arg : {a : Activation} {d0 d1 : Graph} {s0 s1 : SymState} {list : List Shape} {ps ps' : List ParamDef} {by_ref : Bool} {xs xs' : List PExpr} {x : PExpr} (span : Span) (i : ℕ) → AreParams ps by_ref ps' → AreExprs xs x xs' → AreCopiedBack a d0 d1 s0 s1 list (copied_first a span by_ref x ps' xs' i) → AreCopiedBack a d0 d1 s0 s1 list (copied_at a span ps xs i)
back_arg {a} {ps = ps} {ps' = ps'} {by_ref = by_ref} {xs = xs} {xs' = xs'} {x = x} span i params args h = same_back (λ e vs at.
    ap (λ ps. copied_at a span ps xs i e vs at) params.front
    ∙ ap (λ xs. copied_at a span (params.first ∷ ps') xs i e vs at) args.front
    ∙ ap (λ b. copied_first a span b x ps' xs' i e vs at) params.is) h

-- an argument that is passed
pub back_passed : {a : Activation} {d0 d1 : Graph} {s0 s1 : SymState} {list : List Shape} {by_ref : Bool} {j : ℕ} (span : Span) (x : PExpr) (ps : List ParamDef) (xs : List PExpr) (i : ℕ) → by_ref ≡ false → j ≡ i + expr_count x → AreCopiedBack a d0 d1 s0 s1 list (copied_at a span ps xs j) → AreCopiedBack a d0 d1 s0 s1 list (copied_first a span by_ref x ps xs i)
back_passed {a} {by_ref = by_ref} {j = j} span x ps xs i is behind h = same_back (λ e vs at.
    ap (λ b. copied_first a span b x ps xs i e vs at) is
    ∙ ap (λ n. copied_at a span ps xs n e vs at) (sym (expr_behind i a span x behind e))) h

-- a value goes back
pub one_back : {a : Activation} {d0 d1 d2 : Graph} {s0 s1 s2 : SymState} {list more : List Shape} {r : Shape} {by_ref : Bool} {i j : ℕ} (span : Span) (x : PExpr) (ps : List ParamDef) (xs : List PExpr) → by_ref ≡ true → AreShapes list r more → IsCopiedBack a d0 d1 s0 s1 i j span x r → AreCopiedBack a d1 d2 s1 s2 more (copied_at a span ps xs j) → AreCopiedBack a d0 d2 s0 s2 list (copied_first a span by_ref x ps xs i)
one_back {a} {d0} {d1} {d2} {s0} {s1} {s2} {list} {more} {r} {by_ref} {i} {j} span x ps xs is front one rest = record {
  does = record {
    moves = Moves-trans one.does.moves rest.does.moves;
    runs = λ g e vs at l w shows.
        let w = subst (λ list. AreWorth g e s0.heap list vs) front.front w in
        subst (λ b. Sees g e s2 (λ (u : Unit {0}). ⊤) (copied_first a span b x ps xs i e vs at)) (sym is)
        (subst (λ vs. Sees g e s2 (λ (u : Unit {0}). ⊤) (copied_first a span true x ps xs i e vs at)) w.value
        (subst (λ n. Sees g e s2 (λ (u : Unit {0}). ⊤) (and_then ((target_part a span x e).at i at) (λ location. store span location (value_in g e s0.heap r) >>= (λ u. copied_at a span ps xs n e (values_in g e s0.heap more))))) (one.place.place e)
        (by g e l (value_in g e s0.heap r) (values_in g e s0.heap more) (AreWorth-grown (shown_grows one.does.moves (later_keeps rest.does.moves.keeps l) shows) (record { value = refl; live = record { each = All-tail (IsLive (holds_in g e s0.heap)) (shape_value g e r) (shapes_value g e more) w.live.each } }))
        ((target_part a span x e).at i at)
        (one.does.runs g e (value_in g e s0.heap r) at (later_keeps rest.does.moves.keeps l) (record { value = refl; live = All-head (IsLive (holds_in g e s0.heap)) (shape_value g e r) (shapes_value g e more) w.live.each }) shows))));
  };
}
  where
    behind : (g : Graph) (e : Env) → IsLater a.setting d2 g e → (vs : List Value) → AreWorth g e s1.heap more vs → (t : Step (Unit {0})) → Sees g e s1 (λ (u : Unit {0}). ⊤) t → Sees g e s2 (λ (u : Unit {0}). ⊤) (and_then t (λ u. copied_at a span ps xs j e vs))
    behind g e l vs w (Goes u at) h = rest.does.runs g e vs at l w h.shows
    behind g e l vs w (Fails t) h = let k = rest.does.moves.stays g e l h.path in failed_over k.rest k.path h
    behind g e l vs w (Skips t) h = let k = rest.does.moves.stays g e l h.path in skipped_over k.rest k.path h

    by : (g : Graph) (e : Env) → IsLater a.setting d2 g e → (v : Value) (vs : List Value) → AreWorth g e s1.heap more vs → (t : Step _) → Sees g e s1 (λ (u : Unit {0}). ⊤) (and_then t (λ location. store span location v)) → Sees g e s2 (λ (u : Unit {0}). ⊤) (and_then t (λ location. store span location v >>= (λ u. copied_at a span ps xs j e vs)))
    by g e l v vs w (Goes location at) h = behind g e l vs w (store span location v at) h
    by g e l v vs w (Fails t) h = let k = rest.does.moves.stays g e l h.path in failed_over k.rest k.path h
    by g e l v vs w (Skips t) h = let k = rest.does.moves.stays g e l h.path in skipped_over k.rest k.path h
