-- What a program pays, as nodes: which functions are called, and which payments are owed, in each environment.
use Rattle.std.specs.Prelude.{◌≡◌, ℕ, ◌<◌, ◌&&◌, List, [], ◌∷◌, ◌++◌, All, Bool, length, map, get_or, Option, if◌then◌else◌}
use Rattle.std.specs.Option.{option_copied}
use Rattle.sk_dag.specs.declared.env.Env.{Env}
use Rattle.sk_dag.specs.declared.node.BoolId.{BoolId}
use Rattle.sk_dag.specs.Graph.{Graph, Grows, HasBool}
use Rattle.sk_dag.specs.Eval.{bool_value}
use Rattle.sk_prog.specs.declared.prog.Fun.{Fun}
use Rattle.sk_model.specs.declared.expanded.Choice.{Choice}
use Rattle.sk_model.specs.declared.expanded.Expanded.{Expanded}
use Rattle.sk_model.specs.declared.expanded.Site.{Site}
use Rattle.sk_model.specs.Parts.{value}
use Rattle.sk_model.specs.Stands.{standing, all_paid}
use Rattle.sk_model.specs.Stands.{Payment as Amount}
use Rattle.sk_model.specs.Fill.{InRange}
use Rattle.sk_sym_folds.specs.Chosen.{chosen_values}
use Rattle.sk_holes_standing.specs.Marks.{marked}
use Rattle.sk_holes_standing.specs.Functions.{stands_by}
use Rattle.sk_sym_choices.specs.declared.guard.Test.{Test}
use Rattle.sk_sym_choices.specs.declared.guard.Called.{Called}
use Rattle.sk_sym_choices.specs.declared.guard.Owed.{Owed}
use Rattle.sk_sym_choices.specs.declared.payment.Payment.{Payment}
use Rattle.sk_sym_choices.specs.declared.payer.Payer.{Payer}
use Rattle.sk_sym_choices.specs.Guards.{meets_all, called_under, paid_under}
use Rattle.sk_sym_choices.specs.Orders.{values_of, AllThere, AreDigits, turns}
use Rattle.sk_sym_choices.specs.Programs.{kept, guards_of, paid_from}
use Rattle.sk_sym_choices.specs.Sizes.{AreInRange}

-- the values of the sites, a list that fits a choice in range
abbrev pub choice_in : Option Choice → Env → Choice
choice_in given e = record { values = chosen_values given e }

-- of payments those whose node holds, each with the value of its site
abbrev pub amounts : Graph → Env → List ℕ → List Payment → List Amount
amounts g e values [] = []
amounts g e values (p ∷ ps) = if bool_value g e p.when then record { span = p.span; amount = value values p.site } ∷ amounts g e values ps else amounts g e values ps

-- the nodes of the payments are in the graph
pub record AllOwed (graph : Graph) (payments : List Payment) : Type 0 where
  pub each : All (λ (p : Payment). HasBool graph.nodes p.when) payments

-- In each later graph, under each choice in range, the payments whose node holds, in order, each with the value of its
-- site, are what the minrepeats of the program pay.
pub record ArePayments (graph : Graph) (e : Expanded) (given : Option Choice) (payments : List Payment) : Type 0 where
  pub there : AllOwed graph payments
  pub value : (g : Graph) → Grows graph g → (env : Env) → InRange e (choice_in given env) → amounts g env (chosen_values given env) payments ≡ all_paid (standing e (chosen_values given env))

-- for each turn of a reorder a node that holds exactly where it is that of the statement with number k, under each
-- choice in range
pub record IsColumn (graph : Graph) (e : Expanded) (given : Option Choice) (first count k : ℕ) (nodes : List BoolId) : Type 0 where
  pub there : AllThere graph nodes
  pub long : length nodes ≡ count
  pub value : (g : Graph) → Grows graph g → (env : Env) → InRange e (choice_in given env) → values_of g env nodes ≡ turns (chosen_values given env) first count k

-- and such nodes for each of so many statements
pub record AreColumns (graph : Graph) (e : Expanded) (given : Option Choice) (first count many : ℕ) (columns : List (List BoolId)) : Type 0 where
  pub long : length columns ≡ many
  pub each : (k : ℕ) (other : List BoolId) → k < many → IsColumn graph e given first count k (get_or columns k other)

-- values that are below the sizes of these sites are digits of a reorder
pub record GiveDigits (sites : List Site) (first count : ℕ) : Type 0 where
  pub each : (values : List ℕ) → AreInRange sites values → AreDigits values first count

-- ---- Step by step

-- the values of the sites
abbrev pub values_for : Payer → Env → List ℕ
values_for p e = chosen_values (option_copied p.chosen) e

-- a graph to which this one grows, and an environment in which each value is below the size of its site
pub record IsLater (p : Payer) (d g : Graph) (e : Env) : Type 0 where
  pub grows : Grows d g
  pub range : AreInRange p.sites.now (values_for p e)

-- a node that holds exactly where another one does and all tests are met
pub record IsUnder (p : Payer) (d : Graph) (node : BoolId) (tests : List Test) (r : BoolId) : Type 0 where
  pub there : HasBool d.nodes r
  pub value : (g : Graph) (e : Env) → IsLater p d g e → bool_value g e r ≡ (bool_value g e node && meets_all (values_for p e) tests)

-- where a node holds, the functions that are called are marked too
pub record AreMarked (p : Payer) (d : Graph) (node : BoolId) (calls : List Called) (old new : List BoolId) : Type 0 where
  pub there : AllThere d new
  pub value : (g : Graph) (e : Env) → IsLater p d g e → values_of g e new ≡ marked (values_of g e old) (kept (bool_value g e node) (called_under (values_for p e) calls))

-- where a node holds, what is owed is paid too
pub record AreOwed (p : Payer) (d : Graph) (node : BoolId) (owed : List Owed) (old new : List Payment) : Type 0 where
  pub there : AllOwed d new
  pub value : (g : Graph) (e : Env) → IsLater p d g e → amounts g e (values_for p e) new ≡ amounts g e (values_for p e) old ++ kept (bool_value g e node) (paid_under (values_for p e) owed)

-- a node that holds exactly where the function with a number stands, of which the table says which are called
pub record StandsBy (p : Payer) (d : Graph) (table : List BoolId) (n : ℕ) (r : BoolId) : Type 0 where
  pub there : HasBool d.nodes r
  pub value : (g : Graph) (e : Env) → IsLater p d g e → bool_value g e r ≡ stands_by p.ordinary (values_of g e table) n

-- what the function with a number calls is marked, and what it pays is noted, where it stands
pub record IsTurned (p : Payer) (d : Graph) (n i : ℕ) (f : Fun) (old new : List BoolId) (before after : List Payment) : Type 0 where
  pub there : AllThere d new
  pub owed : AllOwed d after
  pub marks : (g : Graph) (e : Env) → IsLater p d g e → values_of g e new ≡ marked (values_of g e old) (kept (stands_by p.ordinary (values_of g e old) n) (called_under (values_for p e) ((guards_of f).at i []).called))
  pub pays : (g : Graph) (e : Env) → IsLater p d g e → amounts g e (values_for p e) after ≡ amounts g e (values_for p e) before ++ kept (stands_by p.ordinary (values_of g e old) n) (paid_under (values_for p e) ((guards_of f).at i []).owed)

-- how many sites a function has
abbrev pub count_of : Fun → ℕ
count_of f = (guards_of f).count

-- what the functions pay that stand
pub record PaysAll (p : Payer) (d : Graph) (funs : List Fun) (made : List Payment) : Type 0 where
  pub there : AllOwed d made
  pub value : (g : Graph) (e : Env) → IsLater p d g e → amounts g e (values_for p e) made ≡ paid_from (values_for p e) p.ordinary [] 0 0 funs
