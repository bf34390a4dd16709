-- Records that are made with given fields.
use Rattle.std.proofs.Common.{◌≡◌, ℕ, List, [], ◌∷◌, ◌++◌, length, refl, sym, ap, subst, ◌∙◌}
use Rattle.std.specs.Prelude.{⊤, slice_get, slice_set, slice_index_or}
use Rattle.std.proofs.lemmas.List.Elements.{All-nil, All-head, All-tail}
use Rattle.sk_base.specs.declared.span.Span.{Span}
use Rattle.sk_dag.specs.declared.env.Env.{Env}
use Rattle.sk_dag.specs.declared.shape.Shape.{Shape}
use Rattle.sk_dag.specs.Graph.{Graph}
use Rattle.sk_dag.specs.Eval.{Keeps}
use Rattle.sk_arr.specs.Shapes.{Stands}
use Rattle.sk_arr.proofs.Makers.{Keeps-refl}
use Rattle.sk_arr.proofs.Standing.{Stands-keeps}
use Rattle.sk_arr.proofs.Values.{all_push}
use Rattle.sk_heap.specs.declared.slot.Slot.{Slot}
use Rattle.sk_prog.specs.declared.ids.StructId.{StructId}
use Rattle.sk_prog.specs.declared.value.Value.{Value}
use Rattle.sk_prog.specs.declared.value.Value.TheVariants as value
use Rattle.sk_prog.specs.declared.prog.Prog.{Prog}
use Rattle.sk_model.specs.Step.{State, Step, Goes, Fails, Skips, Comp, and_then, ◌>>=◌, pure}
use Rattle.sk_model.specs.Heap as model
use Rattle.sk_model.specs.Eval.{Does as Meaning, fields_in_order}
use Rattle.sk_heap_laws.specs.Heaps.{HeapGrows}
use Rattle.sk_heap_laws.proofs.Fields.{set_last, index_last}
use Rattle.sk_sym_state.specs.declared.setting.Setting.{Setting}
use Rattle.sk_sym_state.specs.declared.state.SymState.{SymState}
use Rattle.sk_sym_state.specs.Seen.{IsWorth}
use Rattle.sk_sym_state.specs.Stands.{StateStands}
use Rattle.sk_sym_state.specs.Shows.{Shows, Sees}
use Rattle.sk_sym_state.specs.Meaning.{IsLater, DoesOn, Evaluates}
use Rattle.sk_sym_state.proofs.Worth.{IsWorth-grown}
use Rattle.sk_sym_state.proofs.Carrying.{later_keeps, failed_over, skipped_over, Moves-trans, shown_grows}
use Rattle.sk_sym_state.proofs.Ends.{moves_none}
use Rattle.sk_sym_steps.specs.Steps.{EvaluatesOn}
use Rattle.sk_sym_leaves.proofs.Parts.{two_made}
use Rattle.sk_sym_stores.specs.declared.location.Root.TheVariants.{Field}
use Rattle.sk_sym_stores.specs.declared.creation.Init.{Init}
use Rattle.sk_sym_stores.specs.Records.{InitIs, InitsAre, InitsStand, EvaluateFields, AreSet, set_all, IsFirstInit}
use Rattle.sk_sym_stores.specs.Stores.{Stores}
use Rattle.sk_sym_stores.proofs.Fields.{stored_whole}

-- ---- lists of fields

pub inits_grown : (g : Graph) (e : Env) {a b : List Slot} → HeapGrows g e a b → (list : List Init) (set : List (ℕ × Value)) → InitsAre g e a list set → InitsAre g e b list set
inits_grown g e grown [] [] h = h
inits_grown g e grown [] (f ∷ fs) h = absurd h
inits_grown g e grown (i ∷ is) [] h = absurd h
inits_grown g e grown (i ∷ is) (f ∷ fs) h = ((h.0.0, IsWorth-grown grown h.0.1), inits_grown g e grown is fs h.1)

pub inits_push : (g : Graph) (e : Env) (heap : List Slot) (list : List Init) (set : List (ℕ × Value)) (i : Init) (f : ℕ × Value) → InitsAre g e heap list set → InitIs g e heap i f → InitsAre g e heap (list ++ i ∷ []) (set ++ f ∷ [])
inits_push g e heap [] [] i f h one = (one, tt)
inits_push g e heap [] (k ∷ ks) i f h one = absurd h
inits_push g e heap (j ∷ js) [] i f h one = absurd h
inits_push g e heap (j ∷ js) (k ∷ ks) i f h one = (h.0, inits_push g e heap js ks i f h.1 one)

pub InitsStand-keeps : {a b : Graph} {list : List Init} → Keeps a b → InitsStand a list → InitsStand b list
InitsStand-keeps k h = record { each = λ i d l. Stands-keeps k (h.each i d l) }

pub first_stands : {d : Graph} {list more : List Init} {field : ℕ} {r : Shape} → IsFirstInit list field r more → InitsStand d list → Stands d r
first_stands {d} {list} {more} {field} {r} is h = All-head (λ i. Stands d i.value) (record { field = field; value = r }) more (subst (InitsStand d) is.front h).each

pub more_stand : {d : Graph} {list more : List Init} {field : ℕ} {r : Shape} → IsFirstInit list field r more → InitsStand d list → InitsStand d more
more_stand {d} {list} {more} {field} {r} is h = record { each = All-tail (λ i. Stands d i.value) (record { field = field; value = r }) more (subst (InitsStand d) is.front h).each }

-- none, and one more
pub no_fields : {x : Setting} {d : Graph} {s : SymState} → StateStands d x.expanded.now.prog s → EvaluateFields x d d s s [] (λ e. pure [])
no_fields {x} {d} {s} h = record {
  does = record { moves = moves_none (Keeps-refl d) h; runs = λ g e at l shows. record { shows = shows; is = tt } };
  there = record { each = All-nil (λ (i : Init). Stands d i.value) };
}

pub more_fields : {x : Setting} {d0 d1 d2 : Graph} {s0 s1 s2 : SymState} {list : List Init} {r : Shape} {m : Env → Comp (List (ℕ × Value))} {n : Env → Comp Value} (field : ℕ) → EvaluateFields x d0 d1 s0 s1 list m → Evaluates x d1 d2 s1 s2 r n → EvaluateFields x d0 d2 s0 s2 (list ++ record { field = field; value = r } ∷ []) (λ e. m e >>= (λ fs. n e >>= (λ v. pure (fs ++ (field, v) ∷ []))))
more_fields {d2 = d2} {s2 = s2} {list = list} {r = r} field all one = record {
  does = two_made (λ fs v. fs ++ (field, v) ∷ []) (λ g e fs grown are. inits_grown g e grown list fs are) (λ g e fs v are is. inits_push g e s2.heap list fs (record { field = field; value = r }) (field, v) are (refl, is)) all.does one.does;
  there = record { each = all_push (λ (i : Init). Stands d2 i.value) list (record { field = field; value = r }) (InitsStand-keeps one.does.moves.keeps all.there).each one.there };
}

-- the last of them is done behind all others
pub fields_in_order_push : (span : Span) (others : List (ℕ × Meaning)) (last : ℕ × Meaning) (s : State) → fields_in_order span (others ++ last ∷ []) s ≡ and_then (fields_in_order span others s) (λ fs. last.1.value span >>= (λ v. pure (fs ++ (last.0, v) ∷ [])))
fields_in_order_push span [] last s = refl
fields_in_order_push span (first ∷ others) last s =
    (λ i. and_then (first.1.value span s) (λ v t. and_then (fields_in_order_push span others last t i) (λ fs. pure ((first.0, v) ∷ fs))))
    ∙ by (first.1.value span s)
  where
    at_last : (v : Value) (fs : List (ℕ × Value)) (t : Step Value) → and_then (and_then t (λ w. pure (fs ++ (last.0, w) ∷ []))) (λ gs. pure ((first.0, v) ∷ gs)) ≡ and_then t (λ w. pure ((first.0, v) ∷ (fs ++ (last.0, w) ∷ [])))
    at_last v fs (Goes w s) = refl
    at_last v fs (Fails span) = refl
    at_last v fs (Skips span) = refl

    inside : (v : Value) (t : Step (List (ℕ × Value))) → and_then (and_then t (λ fs. last.1.value span >>= (λ w. pure (fs ++ (last.0, w) ∷ [])))) (λ gs. pure ((first.0, v) ∷ gs)) ≡ and_then (and_then t (λ fs. pure ((first.0, v) ∷ fs))) (λ fs. last.1.value span >>= (λ w. pure (fs ++ (last.0, w) ∷ [])))
    inside v (Goes fs s) = at_last v fs (last.1.value span s)
    inside v (Fails span) = refl
    inside v (Skips span) = refl

    by : (t : Step Value) → and_then t (λ v u. and_then (and_then (fields_in_order span others u) (λ fs. last.1.value span >>= (λ w. pure (fs ++ (last.0, w) ∷ [])))) (λ fs. pure ((first.0, v) ∷ fs))) ≡ and_then (and_then t (λ v. fields_in_order span others >>= (λ fs. pure ((first.0, v) ∷ fs)))) (λ fs. last.1.value span >>= (λ w. pure (fs ++ (last.0, w) ∷ [])))
    by (Goes v u) = inside v (fields_in_order span others u)
    by (Fails span) = refl
    by (Skips span) = refl

-- ---- fields are set

pub sets_none : {x : Setting} {d : Graph} {s : SymState} {reference : Shape} {list : List Init} (span : Span) → StateStands d x.expanded.now.prog s → list ≡ [] → DoesOn x d d s s (AreSet s.heap reference list) (λ g e (u : Unit {0}). ⊤) (λ e p. set_all span p.0 p.1)
sets_none {x} {d} {s} {reference} {list} span h is = record {
  moves = moves_none (Keeps-refl d) h;
  runs = λ g e p at l given shows. subst (Sees g e s (λ (u : Unit {0}). ⊤)) (sym (by g e p.0 p.1 at (subst (λ list. InitsAre g e s.heap list p.1) is given.1))) (record { shows = shows; is = tt });
}
  where
    by : (g : Graph) (e : Env) (v : Value) (set : List (ℕ × Value)) (at : State) → InitsAre g e s.heap [] set → set_all span v set at ≡ Goes tt at
    by g e v [] at h = refl
    by g e v (f ∷ fs) at h = absurd h

pub sets_more : {x : Setting} {d0 d1 d2 : Graph} {s0 s1 s2 : SymState} {reference r : Shape} {kind : StructId} {field : ℕ} {list more : List Init} (span : Span) → IsFirstInit list field r more
    → Stores x d0 d1 s0 s1 span (record { root = Field reference kind field; indexes = [] }) r
    → DoesOn x d1 d2 s1 s2 (AreSet s1.heap reference more) (λ g e (u : Unit {0}). ⊤) (λ e p. set_all span p.0 p.1)
    → DoesOn x d0 d2 s0 s2 (AreSet s0.heap reference list) (λ g e (u : Unit {0}). ⊤) (λ e p. set_all span p.0 p.1)
sets_more {x} {d0} {d1} {d2} {s0} {s1} {s2} {reference} {r} {kind} {field} {list} {more} span first one rest = record {
  moves = Moves-trans one.does.moves rest.moves;
  runs = λ g e p at l given shows. by g e l p.0 p.1 at given.0 (subst (λ list. InitsAre g e s0.heap list p.1) first.front given.1) shows;
}
  where
    behind : (g : Graph) (e : Env) → IsLater x d2 g e → (v : Value) (set : List (ℕ × Value)) → IsWorth g e s1.heap reference v → InitsAre g e s1.heap more set → (t : Step (Unit {0})) → Sees g e s1 (λ u. ⊤) t → Sees g e s2 (λ (u : Unit {0}). ⊤) (and_then t (λ u. set_all span v set))
    behind g e l v set w are (Goes u at) h = rest.runs g e (v, set) at l (w, are) h.shows
    behind g e l v set w are (Fails t) h = let k = rest.moves.stays g e l h.path in failed_over k.rest k.path h
    behind g e l v set w are (Skips t) h = let k = rest.moves.stays g e l h.path in skipped_over k.rest k.path h

    by : (g : Graph) (e : Env) → IsLater x d2 g e → (v : Value) (set : List (ℕ × Value)) (at : State) → IsWorth g e s0.heap reference v → InitsAre g e s0.heap (record { field = field; value = r } ∷ more) set → Shows g e s0 at → Sees g e s2 (λ (u : Unit {0}). ⊤) (set_all span v set at)
    by g e l v [] at w are shows = absurd are
    by g e l v (f ∷ fs) at w are shows =
        let grown = shown_grows one.does.moves (later_keeps rest.moves.keeps l) shows in
        let sees = one.does.runs g e (record { root = model.Field v field; indexes = [] }, f.1) at (later_keeps rest.moves.keeps l) (record { root = (w, refl); indexes = refl }, are.0.1) shows in
        let same = stored_whole span v f.1 field at ∙ ap (λ k. model.write_field span k f.1 v at) (sym are.0.0) in
        behind g e l v fs (IsWorth-grown grown w) (inits_grown g e grown more fs are.1) (model.write_field span f.0 f.1 v at) (subst (Sees g e s1 (λ (u : Unit {0}). ⊤)) same sees)

-- ---- new records

-- the last record of a heap gets the fields
last_set : (span : Span) (heap : List (List Value)) (fields : List Value) (set : List (ℕ × Value)) (at : State) → at.heap ≡ heap ++ fields ∷ [] → set_all span (value.Place (length heap)) set at ≡ Goes tt (record at { heap = heap ++ model.with_fields fields set ∷ [] })
last_set span heap fields [] at is = ap (λ l. Goes tt (record at { heap = l })) is
last_set span heap fields (f ∷ fs) at is =
    let n = length heap in
    let same : slice_set at.heap n (slice_set (slice_index_or at.heap n []) f.0 f.1) ≡ heap ++ slice_set fields f.0 f.1 ∷ [] =
    ap (λ l. slice_set l n (slice_set (slice_index_or l n []) f.0 f.1)) is
    ∙ ap (λ r. slice_set (heap ++ fields ∷ []) n (slice_set r f.0 f.1)) (index_last heap fields [])
    ∙ set_last heap fields (slice_set fields f.0 f.1) in
    ap (λ l. set_all span (value.Place n) fs (record at { heap = l })) same
    ∙ last_set span heap (slice_set fields f.0 f.1) fs (record at { heap = heap ++ slice_set fields f.0 f.1 ∷ [] }) refl

-- a record with fields is one without, whose fields are set then
made_then_set : (span : Span) (prog : Prog) (s : StructId) (set : List (ℕ × Value)) (at : State) → model.allocate prog s set at ≡ and_then (model.allocate prog s [] at) (λ v. set_all span v set >>= (λ u. pure v))
made_then_set span prog s set at =
    let zeros = model.zeros_of (slice_get prog.structs s.index) in
    sym (ap (λ t. and_then t (λ u. pure (value.Place (length at.heap)))) (last_set span at.heap zeros set (record at { heap = at.heap ++ zeros ∷ [] }) refl))

pub makes : {x : Setting} {d0 d1 d2 : Graph} {s0 s1 s2 : SymState} {reference : Shape} (s : StructId) (list : List Init) (span : Span) → Evaluates x d0 d1 s0 s1 reference (λ e. model.allocate x.expanded.now.prog s []) → DoesOn x d1 d2 s1 s2 (AreSet s1.heap reference list) (λ g e (u : Unit {0}). ⊤) (λ e p. set_all span p.0 p.1) → EvaluatesOn x d0 d2 s0 s2 (λ g e. InitsAre g e s0.heap list) reference (λ e. model.allocate x.expanded.now.prog s)
makes {x} {d0} {d1} {d2} {s0} {s1} {s2} {reference} s list span made sets = record {
  does = record {
    moves = Moves-trans made.does.moves sets.moves;
    runs = λ g e set at l given shows. subst (Sees g e s2 (IsWorth g e s2.heap reference)) (sym (made_then_set span x.expanded.now.prog s set at))
        (by g e l set (inits_grown g e (shown_grows made.does.moves (later_keeps sets.moves.keeps l) shows) list set given) (model.allocate x.expanded.now.prog s [] at) (made.does.runs g e at (later_keeps sets.moves.keeps l) shows));
  };
  there = Stands-keeps sets.moves.keeps made.there;
}
  where
    kept : (g : Graph) (e : Env) (v : Value) → HeapGrows g e s1.heap s2.heap → IsWorth g e s1.heap reference v → (t : Step (Unit {0})) → Sees g e s2 (λ u. ⊤) t → Sees g e s2 (IsWorth g e s2.heap reference) (and_then t (λ u. pure v))
    kept g e v grown w (Goes u at) h = record { shows = h.shows; is = IsWorth-grown grown w }
    kept g e v grown w (Fails t) h = h
    kept g e v grown w (Skips t) h = h

    by : (g : Graph) (e : Env) → IsLater x d2 g e → (set : List (ℕ × Value)) → InitsAre g e s1.heap list set → (t : Step Value) → Sees g e s1 (IsWorth g e s1.heap reference) t → Sees g e s2 (IsWorth g e s2.heap reference) (and_then t (λ v. set_all span v set >>= (λ u. pure v)))
    by g e l set are (Goes v at) h = kept g e v (shown_grows sets.moves l h.shows) h.is (set_all span v set at) (sets.runs g e (v, set) at l (h.is, are) h.shows)
    by g e l set are (Fails t) h = let k = sets.moves.stays g e l h.path in failed_over k.rest k.path h
    by g e l set are (Skips t) h = let k = sets.moves.stays g e l h.path in skipped_over k.rest k.path h
