-- The whole of an expansion.
use Rattle.std.proofs.Common.{◌≡◌, ℕ, ◌<◌, List, [], ◌++◌, length, ap, ◌∙◌, arith}
use Rattle.sk_base.specs.declared.bounds.Bounds.{Bounds}
use Rattle.sk_prog.specs.declared.prog.Fun.{Fun}
use Rattle.sk_prog.specs.declared.prog.Prog.{Prog}
use Rattle.sk_model.specs.Limits.{most_nodes}
use Rattle.sk_model.specs.Nodes.{nodes, consts_nodes, funs_nodes}
use Rattle.sk_model.specs.Expand.{first_calls, walk_funs, expand_prog}
use Rattle.sk_expand.specs.declared.stop.Stop.TheVariants.{TooLarge}
use Rattle.sk_expand.specs.Made.{State, Goes, Stops, Took}
use Rattle.sk_expand.specs.Walking.{calls_under}
use Rattle.sk_expand.specs.Whole.{Are}
use Rattle.sk_expand.proofs.NodeLaws.{funs_append}
use Rattle.sk_expand.proofs.Calls.{first_under}

-- before any copy is walked
pub first_calls_are : (bounds : Bounds) (funs : List Fun) (active : List ℕ) → active ≡ [] → calls_under bounds funs active ≡ first_calls bounds funs
first_calls_are bounds funs active e = rw e (first_under bounds funs)

pub ruleset first = (first_calls_are)

-- before anything is made
abbrev start : State
start = record { copies = []; room = most_nodes }

module _ (p : Prog) (bounds : Bounds) (s : State) (took : Took (consts_nodes p.consts) start s) where
  none : length s.copies ≡ 0
  none = ap length took.copies

  pub funs_are : (t : State) (fs all : List Fun) → Goes funs_nodes fs s t (walk_funs bounds p.funs p.funs (length s.copies)) → all ≡ fs ++ t.copies → Are all p bounds
  funs_are t fs all goes e =
      let g = rw none at goes in
      let m = walk_funs bounds p.funs p.funs 0 in
      let c : t.copies ≡ m.copies = g.copies ∙ ap (λ cs. cs ++ m.copies) took.copies in
      let f : all ≡ m.made ++ m.copies = e ∙ ap (λ xs. xs ++ t.copies) g.made ∙ ap (λ cs. m.made ++ cs) c in
      record {
        funs = f;
        few = rw f (omega (arith, took.room, g.room, funs_append m.made m.copies));
      }

  pub funs_stop : Stops funs_nodes TooLarge s (walk_funs bounds p.funs p.funs (length s.copies)) → most_nodes < nodes (expand_prog p bounds)
  funs_stop less =
      let l = rw none at less in
      let m = walk_funs bounds p.funs p.funs 0 in
      omega (arith, took.room, l, funs_append m.made m.copies)

pub ruleset wholes = (funs_are, funs_stop)
