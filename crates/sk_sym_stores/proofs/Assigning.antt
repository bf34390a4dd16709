-- A target, and a value that is stored there.
use Rattle.std.specs.Prelude.{⊤}
use Rattle.sk_base.specs.declared.span.Span.{Span}
use Rattle.sk_dag.specs.declared.env.Env.{Env}
use Rattle.sk_dag.specs.declared.shape.Shape.{Shape}
use Rattle.sk_dag.specs.Graph.{Graph}
use Rattle.sk_prog.specs.declared.value.Value.{Value}
use Rattle.sk_model.specs.Step.{Step, Goes, Fails, Skips, Comp, and_then, ◌>>=◌}
use Rattle.sk_model.specs.Heap as model
use Rattle.sk_sym_state.specs.declared.setting.Setting.{Setting}
use Rattle.sk_sym_state.specs.declared.state.SymState.{SymState}
use Rattle.sk_sym_state.specs.Seen.{IsWorth}
use Rattle.sk_sym_state.specs.Shows.{Sees}
use Rattle.sk_sym_state.specs.Meaning.{IsLater, DoesOn}
use Rattle.sk_sym_state.proofs.Worth.{IsWorth-grown}
use Rattle.sk_sym_state.proofs.Carrying.{later_keeps, shown_grows, failed_over, skipped_over, Moves-trans}
use Rattle.sk_sym_stores.specs.declared.location.Location.{Location}
use Rattle.sk_sym_stores.specs.Locations.{LocationIs, Locates}
use Rattle.sk_sym_stores.specs.Stores.{Stores}

-- a target, and a value that is given is stored there
pub given_stored : {x : Setting} {d0 d1 d2 : Graph} {s0 s1 s2 : SymState} {l : Location} {r : Shape} {m : Env → Comp model.Location} (span : Span) → Locates x d0 d1 s0 s1 l m → Stores x d1 d2 s1 s2 span l r → DoesOn x d0 d2 s0 s2 (λ g e. IsWorth g e s0.heap r) (λ g e (u : Unit {0}). ⊤) (λ e v. m e >>= (λ location. model.store span location v))
given_stored {x} {d0} {d1} {d2} {s0} {s1} {s2} {l} {r} {m} span place stores = record {
  moves = Moves-trans place.does.moves stores.does.moves;
  runs = λ g e v at later w shows. by g e later v (IsWorth-grown (shown_grows place.does.moves (later_keeps stores.does.moves.keeps later) shows) w) (m e at) (place.does.runs g e at (later_keeps stores.does.moves.keeps later) shows);
}
  where
    by : (g : Graph) (e : Env) → IsLater x d2 g e → (v : Value) → IsWorth g e s1.heap r v → (t : Step model.Location) → Sees g e s1 (LocationIs g e s1.heap l) t → Sees g e s2 (λ (u : Unit {0}). ⊤) (and_then t (λ location. model.store span location v))
    by g e later v w (Goes location at) h = stores.does.runs g e (location, v) at later (h.is, w) h.shows
    by g e later v w (Fails t) h = let k = stores.does.moves.stays g e later h.path in failed_over k.rest k.path h
    by g e later v w (Skips t) h = let k = stores.does.moves.stays g e later h.path in skipped_over k.rest k.path h
