-- The ordinary functions, walked one after another.
use Rattle.std.proofs.Common.{◌≡◌, ℕ, ◌+◌, ◌<◌, List, [], ◌∷◌, ◌++◌, length, length-append, append_assoc, sym, ap, subst, ◌∙◌, arith, drop, get_or, true, false}
use Rattle.std.proofs.lemmas.List.{drop_more}
use Rattle.sk_base.specs.declared.bounds.Bounds.{Bounds}
use Rattle.sk_prog.specs.declared.prog.Fun.{Fun}
use Rattle.sk_prog.specs.declared.stmt.PStmt.{PStmt}
use Rattle.sk_model.specs.Nodes.{stmts_nodes, funs_nodes}
use Rattle.sk_model.specs.Expand.{Made, as_walk, is_generator, walked, walk_stmts, walk_funs, first_calls}
use Rattle.sk_expand.specs.declared.stop.Stop.{Stop}
use Rattle.sk_expand.specs.declared.stop.Stop.TheVariants.{TooLarge, NoMemory}
use Rattle.sk_expand.specs.Made.{State, Goes, Stops, After}
use Rattle.sk_expand.specs.Nodes.{fun_nodes}
use Rattle.sk_expand.specs.Walking.{calls_under}
use Rattle.sk_expand.proofs.NodeLaws.{funs_append}
use Rattle.sk_expand.proofs.Whole.{first_calls_are}

next_function : (fs : List Fun) (i : ℕ) (f : Fun) → i < length fs → f ≡ get_or fs i f → drop i fs ≡ f ∷ drop (i + 1) fs
next_function fs i f below item = drop_more fs i f below ∙ ap (λ g. g ∷ drop (i + 1) fs) (sym item)

module _ (bounds : Bounds) (funs : List Fun) where
  -- a function becomes what its body does
  pub function_goes : (active : List ℕ) (f : Fun) (body : List PStmt) (g : Fun) (s t : State) (j : ℕ) → active ≡ [] → Goes stmts_nodes body s t (walk_stmts bounds (calls_under bounds funs active) f.body j) → g ≡ walked bounds funs f body → Goes fun_nodes g s t (as_walk (walked bounds funs f) (walk_stmts bounds (first_calls bounds funs) f.body) j)
  function_goes active f body g s t j none goes is =
      let m = walk_stmts bounds (first_calls bounds funs) f.body j in
      let go : Goes stmts_nodes body s t m = subst (λ calls. Goes stmts_nodes body s t (walk_stmts bounds calls f.body j)) (first_calls_are bounds funs active none) goes in
      record {
        made = is ∙ ap (walked bounds funs f) go.made;
        copies = go.copies;
        room = omega (arith, go.room);
      }

  pub body_stops : (active : List ℕ) (f : Fun) (s : State) (stop : Stop) (j : ℕ) → active ≡ [] → Stops stmts_nodes stop s (walk_stmts bounds (calls_under bounds funs active) f.body j) → Stops fun_nodes stop s (as_walk (walked bounds funs f) (walk_stmts bounds (first_calls bounds funs) f.body) j)
  body_stops active f s TooLarge j none less =
      let m = walk_stmts bounds (first_calls bounds funs) f.body j in
      let l : s.room < stmts_nodes m.made + funs_nodes m.copies = subst (λ calls. s.room < stmts_nodes (walk_stmts bounds calls f.body j).made + funs_nodes (walk_stmts bounds calls f.body j).copies) (first_calls_are bounds funs active none) less in
      omega (arith, l)
  body_stops active f s NoMemory j none less = tt

  -- one function more
  function_after : (f : Fun) (rest so_far : List Fun) (g : Fun) (s t u : State) (all : Made (List Fun)) → is_generator f.kind ≡ false → After funs_nodes so_far s t all (walk_funs bounds funs (f ∷ rest) (length t.copies)) → Goes fun_nodes g t u (as_walk (walked bounds funs f) (walk_stmts bounds (first_calls bounds funs) f.body) (length t.copies)) → After funs_nodes (so_far ++ g ∷ []) s u all (walk_funs bounds funs rest (length u.copies))
  function_after f rest so_far g s t u all is before goes =
      let m = walk_stmts bounds (first_calls bounds funs) f.body (length t.copies) in
      let r = walk_funs bounds funs rest (length t.copies + length m.copies) in
      let b = rw is at before in
      let at : length u.copies ≡ length t.copies + length m.copies = ap length goes.copies ∙ length-append t.copies m.copies in
      let e = ap (walk_funs bounds funs rest) at in
      record {
        made = rw (e, goes.made) (b.made ∙ sym (append_assoc so_far (walked bounds funs f m.made ∷ []) r.made));
        copies = rw (e, goes.copies) (b.copies ∙ sym (append_assoc t.copies m.copies r.copies));
        room = rw e (omega (arith, b.room, goes.room, funs_append m.copies r.copies));
      }

  function_stops : (f : Fun) (rest so_far : List Fun) (s t : State) (all : Made (List Fun)) (stop : Stop) → is_generator f.kind ≡ false → After funs_nodes so_far s t all (walk_funs bounds funs (f ∷ rest) (length t.copies)) → Stops fun_nodes stop t (as_walk (walked bounds funs f) (walk_stmts bounds (first_calls bounds funs) f.body) (length t.copies)) → Stops funs_nodes stop s all
  function_stops f rest so_far s t all TooLarge is before less =
      let m = walk_stmts bounds (first_calls bounds funs) f.body (length t.copies) in
      let r = walk_funs bounds funs rest (length t.copies + length m.copies) in
      let b = rw is at before in
      omega (arith, b.room, less, funs_append m.copies r.copies)
  function_stops f rest so_far s t all NoMemory is before less = tt

  module _ (i : ℕ) (f : Fun) (so_far : List Fun) (s t : State) (all : Made (List Fun)) (below : i < length funs) (item : f ≡ get_or funs i f) (before : After funs_nodes so_far s t all (walk_funs bounds funs (drop i funs) (length t.copies))) where
    here : After funs_nodes so_far s t all (walk_funs bounds funs (f ∷ drop (i + 1) funs) (length t.copies))
    here = subst (λ fs. After funs_nodes so_far s t all (walk_funs bounds funs fs (length t.copies))) (next_function funs i f below item) before

    -- a generator is left out
    pub skipped_at : is_generator f.kind ≡ true → After funs_nodes so_far s t all (walk_funs bounds funs (drop (i + 1) funs) (length t.copies))
    skipped_at is = rw is at here

    pub function_at : (g : Fun) (u : State) → is_generator f.kind ≡ false → Goes fun_nodes g t u (as_walk (walked bounds funs f) (walk_stmts bounds (first_calls bounds funs) f.body) (length t.copies)) → After funs_nodes (so_far ++ g ∷ []) s u all (walk_funs bounds funs (drop (i + 1) funs) (length u.copies))
    function_at g u is goes = function_after f (drop (i + 1) funs) so_far g s t u all is here goes

    pub function_stops_at : (stop : Stop) → is_generator f.kind ≡ false → Stops fun_nodes stop t (as_walk (walked bounds funs f) (walk_stmts bounds (first_calls bounds funs) f.body) (length t.copies)) → Stops funs_nodes stop s all
    function_stops_at stop is less = function_stops f (drop (i + 1) funs) so_far s t all stop is here less
