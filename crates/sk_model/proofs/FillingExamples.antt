-- The examples of expansion, sites, filling and sizes, computed.
use Rattle.std.proofs.Common.{◌≡◌, ℕ, suc, ◌+◌, List, [], ◌∷◌, ◌++◌, take, drop, Some, refl, ap, ◌∙◌, arith}
use Rattle.std.specs.Prelude.{codes, slice_get, nat_lt, count_by, ◌==◌, true, false, if◌then◌else◌}
use Rattle.std.proofs.lemmas.Grind.{common_steps}
use Rattle.std.specs.Fmt.{decimal, digits}
use Rattle.sk_base.specs.declared.span.Span.{Span}
use Rattle.sk_base.specs.declared.bounds.Bounds.{Bounds}
use Rattle.sk_prog.specs.declared.expr.BinOp.TheVariants as op
use Rattle.sk_prog.specs.declared.expr.PEForm.TheVariants as eform
use Rattle.sk_prog.specs.declared.stmt.PStmt.{PStmt}
use Rattle.sk_prog.specs.declared.prog.FunKind.TheVariants as kind
use Rattle.sk_prog.specs.declared.prog.Fun.{Fun}
use Rattle.sk_model.specs.Expand.{calls_walk, call_of, one_less, pure, copy_name, Made, go_on, as_walk, as_made, behind, walked, all_funs, walk_fun, walk_funs, walk_stmts, first_calls, stub}
use Rattle.sk_model.specs.Fill.{fill}
use Rattle.sk_model.specs.Steps.{call_work, body_work, Measure}
use Rattle.sk_model.specs.FillingExamples.{CopiesAndNumbers, PastTheBound, CopiesOfRepeats, SitesOfReorder, FillsReorder, FillsPattern, FillsBits, FillsRepeats, StandsInRepeats, DropsCopies, StepsOfLoops, NodesOfLoops, NewsOfLoop, StepsOfCalls, at_bytes, int, endless, twice, small, nested, int_of, here, fun, call, returns, hole}
use Rattle.sk_model.proofs.Layers.{all_layers}

is_one : decimal 1 ≡ codes "1"
unfolding digits
is_one = refl

is_two : decimal 2 ≡ codes "2"
unfolding digits
is_two = refl

is_three : decimal 3 ≡ codes "3"
unfolding digits
is_three = refl

is_four : decimal 4 ≡ codes "4"
unfolding digits
is_four = refl

-- one call more

module _ (bounds : Bounds) (funs : List Fun) where
  one_call : (n : ℕ) (left : List ℕ) (span : Span) (f k : ℕ) → calls_walk bounds funs (suc n) left span f k ≡ call_of bounds funs (calls_walk bounds funs n (one_less left f)) left span f (slice_get funs f) k
  unfolding calls_walk
  one_call n left span f k = refl

  ordinary_call : (left : List ℕ) (span : Span) (f k : ℕ) → calls_walk bounds funs 0 left span f k ≡ call_of bounds funs (λ inner_span g. pure g) left span f (slice_get funs f) k
  unfolding calls_walk
  ordinary_call left span f k = refl

  walk_next : (f : Fun) (fs : List Fun) (k : ℕ) {m : Made (List PStmt)} → walk_stmts bounds (first_calls bounds funs) f.body k ≡ m → walk_fun bounds funs f (walk_funs bounds funs fs) k ≡ go_on m (λ body. as_walk (λ more. walked bounds funs f body ∷ more) (walk_funs bounds funs fs)) k
  walk_next f fs k e = ap (λ n. go_on n (λ body. as_walk (λ more. walked bounds funs f body ∷ more) (walk_funs bounds funs fs)) k) e

h_copied : (k : ℕ) → calls_walk small nested.funs 7 (2 ∷ 2 ∷ 1 ∷ 2 ∷ []) here 0 k ≡ record { made = 2 + k; copies = fun kind.Plain (copy_name (codes "h") (k + 1)) (returns hole ∷ []) ∷ [] }
h_copied k = one_call small nested.funs 6 (2 ∷ 2 ∷ 1 ∷ 2 ∷ []) here 0 k ∙ grind (arith, common_steps, all_layers)

g_copied : (k : ℕ) → calls_walk small nested.funs 8 (2 ∷ 2 ∷ 2 ∷ 2 ∷ []) here 2 k ≡ record { made = 2 + k; copies = fun kind.Plain (copy_name (codes "g") (k + 1)) (returns (call (2 + (k + 1)) []) ∷ []) ∷ fun kind.Plain (copy_name (codes "h") (k + 1 + 1)) (returns hole ∷ []) ∷ [] }
g_copied k = one_call small nested.funs 7 (2 ∷ 2 ∷ 2 ∷ 2 ∷ []) here 2 k ∙ grind (arith, common_steps, all_layers, h_copied (k + 1))

f_called : (k : ℕ) → calls_walk small nested.funs 8 (2 ∷ 2 ∷ 2 ∷ 2 ∷ []) here 1 k ≡ record { made = 0; copies = [] }
f_called k = one_call small nested.funs 7 (2 ∷ 2 ∷ 2 ∷ 2 ∷ []) here 1 k

abbrev four : List Fun
four =
    fun kind.Plain (codes "g__1") (returns (call 3 []) ∷ [])
    ∷ fun kind.Plain (codes "h__2") (returns hole ∷ [])
    ∷ fun kind.Plain (codes "g__3") (returns (call 5 []) ∷ [])
    ∷ fun kind.Plain (codes "h__4") (returns hole ∷ [])
    ∷ []

abbrev summed : ℕ → ℕ → List PStmt
summed f g = returns (int_of (eform.Binary op.Add (call f []) (call g []))) ∷ []

g_first : calls_walk small nested.funs 8 (2 ∷ 2 ∷ 2 ∷ 2 ∷ []) here 2 0 ≡ record { made = 2; copies = take 2 four }
g_first = g_copied 0 ∙ rw (is_one, is_two) refl

g_second : calls_walk small nested.funs 8 (2 ∷ 2 ∷ 2 ∷ 2 ∷ []) here 2 2 ≡ record { made = 4; copies = drop 2 four }
g_second = g_copied 2 ∙ rw (is_three, is_four) refl

f_walked : walk_stmts small (first_calls small nested.funs) (summed 2 2) 0 ≡ record { made = summed 2 4; copies = four }
f_walked = grind (arith, common_steps, all_layers, g_first, g_second)

main_walked : walk_stmts small (first_calls small nested.funs) (returns (call 1 []) ∷ []) 4 ≡ record { made = returns (call 0 []) ∷ []; copies = [] }
main_walked = grind (arith, common_steps, all_layers, f_called 4)

abbrev f_fun : Fun
f_fun = fun kind.Plain (codes "f") (summed 2 2)

abbrev g_fun : Fun
g_fun = fun kind.Generator (codes "g") (returns (call 0 []) ∷ [])

abbrev main : Fun
main = fun kind.Harness (codes "main") (returns (call 1 []) ∷ [])

main_all : walk_funs small nested.funs (main ∷ []) 4 ≡ record { made = walked small nested.funs main (returns (call 0 []) ∷ []) ∷ []; copies = [] }
main_all = walk_next small nested.funs main [] 4 main_walked

all_walked : walk_funs small nested.funs nested.funs 0 ≡ record { made = walked small nested.funs f_fun (summed 2 4) ∷ walked small nested.funs main (returns (call 0 []) ∷ []) ∷ []; copies = four }
all_walked = walk_next small nested.funs f_fun (g_fun ∷ main ∷ []) 0 f_walked ∙ ap (λ n. behind (record { made = summed 2 4; copies = four }) (as_made (λ fs. walked small nested.funs f_fun (summed 2 4) ∷ fs) n)) main_all

pub copies_and_numbers : CopiesAndNumbers
copies_and_numbers = ap (λ m. record nested { funs = all_funs m }) all_walked ∙ simp all_layers

-- a copy past the bound

abbrev again : Span
again = at_bytes 24 27

abbrev again_call : ℕ → List PStmt
again_call f = returns (record { span = again; ty = Some int; form = eform.Call (record { index = f }) [] }) ∷ []

abbrev third : List Fun
third = fun kind.Plain (codes "g__3") (stub again) ∷ []

third_copied : calls_walk small endless.funs 2 (0 ∷ 2 ∷ []) again 0 2 ≡ record { made = 3; copies = third }
third_copied = one_call small endless.funs 1 (0 ∷ 2 ∷ []) again 0 2 ∙ rw is_three (simp all_layers)

abbrev second : List Fun
second = fun kind.Plain (codes "g__2") (again_call 3) ∷ third

second_copied : calls_walk small endless.funs 3 (1 ∷ 2 ∷ []) again 0 1 ≡ record { made = 2; copies = second }
second_copied = one_call small endless.funs 2 (1 ∷ 2 ∷ []) again 0 1 ∙ grind (arith, common_steps, all_layers, third_copied, is_two)

abbrev first : List Fun
first = fun kind.Plain (codes "g__1") (again_call 2) ∷ second

first_copied : calls_walk small endless.funs 4 (2 ∷ 2 ∷ []) here 0 0 ≡ record { made = 1; copies = first }
first_copied = one_call small endless.funs 3 (2 ∷ 2 ∷ []) here 0 0 ∙ grind (arith, common_steps, all_layers, second_copied, is_one)

endless_walked : walk_stmts small (first_calls small endless.funs) (returns (call 0 []) ∷ []) 0 ≡ record { made = returns (call 1 []) ∷ []; copies = first }
endless_walked = grind (arith, common_steps, all_layers, first_copied)

endless_all : walk_funs small endless.funs endless.funs 0 ≡ record { made = walked small endless.funs (fun kind.Harness (codes "main") (returns (call 0 []) ∷ [])) (returns (call 1 []) ∷ []) ∷ []; copies = first }
endless_all = walk_next small endless.funs (fun kind.Harness (codes "main") (returns (call 0 []) ∷ [])) [] 0 endless_walked

pub past_the_bound : PastTheBound
past_the_bound = ap (λ m. record endless { funs = all_funs m }) endless_all ∙ simp all_layers

pub copies_of_repeats : CopiesOfRepeats
copies_of_repeats = grind (arith, common_steps, all_layers)

pub sites_of_reorder : SitesOfReorder
sites_of_reorder = simp all_layers

pub fills_reorder : FillsReorder
unfolding fill
fills_reorder = simp all_layers

pub fills_pattern : FillsPattern
unfolding fill
fills_pattern = grind (arith, common_steps, all_layers)

pub fills_bits : FillsBits
unfolding fill
fills_bits = simp all_layers

pub fills_repeats : FillsRepeats
unfolding fill
fills_repeats = grind (arith, common_steps, all_layers)

pub stands_in_repeats : StandsInRepeats
stands_in_repeats = grind (arith, common_steps, all_layers)

pub drops_copies : DropsCopies
unfolding fill
drops_copies = grind (arith, common_steps, all_layers)

pub steps_of_loops : StepsOfLoops
unfolding call_work
steps_of_loops = simp all_layers

pub nodes_of_loops : NodesOfLoops
nodes_of_loops = simp all_layers

pub news_of_loop : NewsOfLoop
unfolding call_work
news_of_loop = simp all_layers

-- calls of a function that calls itself

module _ (measure : Measure) (bounds : Bounds) (funs : List Fun) where
  one_run : (n : ℕ) (active : List ℕ) (f : ℕ) → nat_lt (count_by (λ g. g == f) active) bounds.inline_amnt ≡ true → call_work measure bounds funs (suc n) active f ≡ body_work measure bounds.unroll (call_work measure bounds funs n (active ++ f ∷ [])) (slice_get funs f)
  unfolding call_work
  one_run n active f e = ap (λ b. if b then body_work measure bounds.unroll (call_work measure bounds funs n (active ++ f ∷ [])) (slice_get funs f) else 0) e

  no_run : (n : ℕ) (active : List ℕ) (f : ℕ) → nat_lt (count_by (λ g. g == f) active) bounds.inline_amnt ≡ false → call_work measure bounds funs (suc n) active f ≡ 0
  unfolding call_work
  no_run n active f e = ap (λ b. if b then body_work measure bounds.unroll (call_work measure bounds funs n (active ++ f ∷ [])) (slice_get funs f) else 0) e

abbrev steps_measure : Measure
steps_measure = record { node = 1; fresh = 0 }

third_steps : call_work steps_measure small twice.prog.funs 126 (0 ∷ 0 ∷ []) 0 ≡ 0
third_steps = no_run steps_measure small twice.prog.funs 125 (0 ∷ 0 ∷ []) 0 refl

second_steps : call_work steps_measure small twice.prog.funs 127 (0 ∷ []) 0 ≡ 5
second_steps = one_run steps_measure small twice.prog.funs 126 (0 ∷ []) 0 refl ∙ grind (arith, common_steps, all_layers, third_steps)

first_steps : call_work steps_measure small twice.prog.funs 128 [] 0 ≡ 15
first_steps = one_run steps_measure small twice.prog.funs 127 [] 0 refl ∙ grind (arith, common_steps, all_layers, second_steps)

pub steps_of_calls : StepsOfCalls
steps_of_calls = rw first_steps refl
