-- What the targets of assignments name.
use Rattle.std.proofs.Common.{◌≡◌, ℕ, List, [], ◌∷◌, ◌++◌, refl, sym, ap, subst, ◌∙◌}
use Rattle.std.proofs.lemmas.List.Elements.{All-nil}
use Rattle.sk_base.specs.declared.span.Span.{Span}
use Rattle.sk_dag.specs.declared.env.Env.{Env}
use Rattle.sk_dag.specs.declared.node.WordId.{WordId}
use Rattle.sk_dag.specs.declared.shape.Shape.{Shape}
use Rattle.sk_dag.specs.declared.shape.Shape.TheVariants as shape
use Rattle.sk_dag.specs.Graph.{Graph, HasWord}
use Rattle.sk_dag.specs.Eval.{word_value, Keeps}
use Rattle.sk_dag.specs.EvalShape.{shape_value}
use Rattle.sk_arr.proofs.Makers.{Keeps-refl}
use Rattle.sk_arr.proofs.Standing.{Stands-keeps, int_there}
use Rattle.sk_arr.proofs.Values.{map_push, all_push, value_int}
use Rattle.sk_heap.specs.declared.slot.Slot.{Slot}
use Rattle.sk_prog.specs.declared.ids.StructId.{StructId}
use Rattle.sk_prog.specs.declared.value.Value.{Value}
use Rattle.sk_prog.specs.declared.value.Value.TheVariants as value
use Rattle.sk_model.specs.Step.{Step, Goes, Fails, Skips, Comp, and_then, ◌>>=◌, pure}
use Rattle.sk_model.specs.Heap as model
use Rattle.sk_model.specs.Eval.{add_index}
use Rattle.sk_heap_laws.specs.Heaps.{HeapGrows}
use Rattle.sk_heap_laws.specs.Values.{place_of, holds_in, value_of}
use Rattle.sk_heap_laws.proofs.Parts.{of_int}
use Rattle.sk_sym_state.specs.declared.setting.Setting.{Setting}
use Rattle.sk_sym_state.specs.declared.state.SymState.{SymState}
use Rattle.sk_sym_state.specs.Seen.{IsWorth}
use Rattle.sk_sym_state.specs.Stands.{StateStands}
use Rattle.sk_sym_state.specs.Shows.{Sees}
use Rattle.sk_sym_state.specs.Meaning.{Evaluates, Does}
use Rattle.sk_sym_state.proofs.Worth.{IsWorth-grown}
use Rattle.sk_sym_state.proofs.Following.{does_beside}
use Rattle.sk_sym_state.proofs.Ends.{moves_none}
use Rattle.sk_sym_leaves.proofs.Parts.{does_made}
use Rattle.sk_sym_stores.specs.declared.location.Location.{Location}
use Rattle.sk_sym_stores.specs.declared.location.Root.{Root}
use Rattle.sk_sym_stores.specs.declared.location.Root.TheVariants.{Variable, Field}
use Rattle.sk_sym_stores.specs.Locations.{RootIs, LocationIs, AreWords, RootStands, LocationStands, Locates, IsIndexed}
use Rattle.sk_sym_stores.proofs.Replacing.{words_keep}

-- ---- in a graph and a heap that have grown

root_keeps : {a b : Graph} → Keeps a b → (root : Root) → RootStands a root → RootStands b root
root_keeps k (Variable slot) h = h
root_keeps k (Field reference kind field) h = Stands-keeps k h

pub LocationStands-keeps : {a b : Graph} {l : Location} → Keeps a b → LocationStands a l → LocationStands b l
LocationStands-keeps {l = l} k h = record { root = root_keeps k l.root h.root; indexes = words_keep k h.indexes }

root_grown : (g : Graph) (e : Env) {a b : List Slot} → HeapGrows g e a b → (root : Root) (at : model.Root) → RootIs g e a root at → RootIs g e b root at
root_grown g e grown (Variable slot) (model.Variable n) h = h
root_grown g e grown (Variable slot) (model.Field v k) h = absurd h
root_grown g e grown (Field reference kind field) (model.Variable n) h = absurd h
root_grown g e grown (Field reference kind field) (model.Field v k) h = (IsWorth-grown grown h.0, h.1)

pub LocationIs-grown : {g : Graph} {e : Env} {a b : List Slot} {l : Location} {at : model.Location} → HeapGrows g e a b → LocationIs g e a l at → LocationIs g e b l at
LocationIs-grown {g} {e} {l = l} {at = at} grown h = record { root = root_grown g e grown l.root at.root h.root; indexes = h.indexes }

no_words : (d : Graph) → AreWords d []
no_words d = record { each = All-nil (HasWord d.nodes) }

-- ---- a variable, a field, and an element

pub variable_locates : {x : Setting} {d : Graph} {s : SymState} {l : Location} {slot : ℕ} → StateStands d x.expanded.now.prog s → l ≡ record { root = Variable slot; indexes = [] } → Locates x d d s s l (λ e. model.at_root (model.Variable slot))
variable_locates {x} {d} {s} {l} {slot} h is = subst (λ l. Locates x d d s s l (λ e. model.at_root (model.Variable slot))) (sym is) (record {
  does = record { moves = moves_none (Keeps-refl d) h; runs = λ g e at later shows. record { shows = shows; is = record { root = refl; indexes = refl } } };
  there = record { root = tt; indexes = no_words d };
})

pub field_locates : {x : Setting} {d0 d1 : Graph} {s0 s1 : SymState} {l : Location} {reference : Shape} {kind : StructId} {field : ℕ} {m : Env → Comp Value} → Evaluates x d0 d1 s0 s1 reference m → l ≡ record { root = Field reference kind field; indexes = [] } → Locates x d0 d1 s0 s1 l (λ e. m e >>= (λ v. model.at_root (model.Field v field)))
field_locates {x} {d0} {d1} {s0} {s1} {l} {reference} {kind} {field} {m} of is = subst (λ l. Locates x d0 d1 s0 s1 l (λ e. m e >>= (λ v. model.at_root (model.Field v field)))) (sym is) (record {
  does = does_made (λ v. record { root = model.Field v field; indexes = [] }) (λ g e v w. record { root = (w, refl); indexes = refl }) of.does;
  there = record { root = of.there; indexes = no_words d1 };
})

int_worth : {g : Graph} {e : Env} {heap : List Slot} {index : Shape} {word : WordId} {v : Value} → index ≡ shape.Int word → IsWorth g e heap index v → v ≡ value.Int (word_value g e word)
int_worth {g} {e} {heap} {index} {word} is w =
    let place = place_of (holds_in g e heap) in
    sym w.value ∙ ap (value_of place) (ap (shape_value g e) is ∙ value_int g e word) ∙ of_int place (word_value g e word)

pub index_locates : {x : Setting} {d0 d1 d2 : Graph} {s0 s1 s2 : SymState} {l made : Location} {index : Shape} {m : Env → Comp model.Location} {n : Env → Comp Value} (span : Span) → Locates x d0 d1 s0 s1 l m → Evaluates x d1 d2 s1 s2 index n → IsIndexed l made index → Locates x d0 d2 s0 s2 made (λ e. m e >>= (λ location. n e >>= add_index span location))
index_locates {x} {d0} {d1} {d2} {s0} {s1} {s2} {l} {made} {index} {m} {n} span whole one is = subst (λ made. Locates x d0 d2 s0 s2 made (λ e. m e >>= (λ location. n e >>= add_index span location))) (sym is.now) (record {
  does = record { moves = both.moves; runs = λ g e at later shows. by g e (m e at) (both.runs g e at later shows) };
  there = record {
    root = (LocationStands-keeps one.does.moves.keeps whole.there).root;
    indexes = record { each = all_push (HasWord d2.nodes) l.indexes is.word (words_keep one.does.moves.keeps whole.there.indexes).each (int_there one.there is.is) };
  };
})
  where
    longer : Location
    longer = record { root = l.root; indexes = l.indexes ++ is.word ∷ [] }

    both : Does x d0 d2 s0 s2 (λ g e (p : model.Location × Value). LocationIs g e s2.heap l p.0 × IsWorth g e s2.heap index p.1) (λ e. m e >>= (λ location. n e >>= (λ v. pure (location, v))))
    both = does_beside whole.does one.does (λ g e location later grown h. LocationIs-grown grown h)

    added : (g : Graph) (e : Env) (location : model.Location) (t : Step Value) → Sees g e s2 (λ (p : model.Location × Value). LocationIs g e s2.heap l p.0 × IsWorth g e s2.heap index p.1) (and_then t (λ v. pure (location, v))) → Sees g e s2 (LocationIs g e s2.heap longer) (and_then t (add_index span location))
    added g e location (Goes v at) h = subst (λ w. Sees g e s2 (LocationIs g e s2.heap longer) (add_index span location w at)) (sym (int_worth is.is h.is.1)) (record {
      shows = h.shows;
      is = record { root = h.is.0.root; indexes = ap (λ zs. zs ++ word_value g e is.word ∷ []) h.is.0.indexes ∙ sym (map_push (word_value g e) l.indexes is.word) };
    })
    added g e location (Fails t) h = h
    added g e location (Skips t) h = h

    by : (g : Graph) (e : Env) (t : Step model.Location) → Sees g e s2 (λ (p : model.Location × Value). LocationIs g e s2.heap l p.0 × IsWorth g e s2.heap index p.1) (and_then t (λ location. n e >>= (λ v. pure (location, v)))) → Sees g e s2 (LocationIs g e s2.heap longer) (and_then t (λ location. n e >>= add_index span location))
    by g e (Goes location at) h = added g e location (n e at) h
    by g e (Fails t) h = h
    by g e (Skips t) h = h
